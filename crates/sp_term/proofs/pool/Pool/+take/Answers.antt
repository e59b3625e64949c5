use Rattle.sp_term.proofs.PartLemmas.{itself_appended, then_appended}
use Rattle.sp_term.proofs.pool.Pool.+take.Goals as goal

pub take-returns-clause-parts : goal.take-returns-clause-parts
take-returns-clause-parts t c =
    itself_appended _ _ _ _ _ _ _ c.kind.ensures c.take_parts.ensures.parts c.add.ensures.grows c.in_ok-shape.ensures.tree c.add.ensures.added c.add.ensures.err

pub take_five-returns-in_err-cy-clause-parts : goal.take_five-returns-in_err-cy-clause-parts
take_five-returns-in_err-cy-clause-parts t c =
    then_appended _ _ _ _ _ _ (then_appended _ _ _ _ _ _ c.take_three.ensures.parts c.take.ensures.parts c.take.ensures.grows) c.take-2.ensures.parts c.take-2.ensures.grows

pub take_five-returns-clause-parts : goal.take_five-returns-clause-parts
take_five-returns-clause-parts t c =
    then_appended _ _ _ _ _ _ (then_appended _ _ _ _ _ _ c.take_three.ensures.parts c.take.ensures.parts c.take.ensures.grows) c.take-2.ensures.parts c.take-2.ensures.grows
