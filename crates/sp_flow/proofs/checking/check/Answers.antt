use Rattle.std.proofs.Common.{refl}
use Rattle.sp_base.proofs.RefusedLemmas.{complete}
use Rattle.sp_flow.specs.Flow.{IsFlowing, IsRefusedAt}
use Rattle.sp_flow.specs.declared.checking.Flowing.{Flowing}
use Rattle.sp_flow.proofs.AnswerLemmas.{one_refusal}
use Rattle.sp_flow.proofs.checking.check.Goals as goal

pub returns-clause-complete : goal.returns-clause-complete
returns-clause-complete c =
    let p = c.args.unit.now in
    complete (λ (a : Flowing). IsFlowing p) (IsRefusedAt p) (λ a b x y. refl) (one_refusal p) (λ a line k flows refused. flows line k refused.broken)
    c.answer-told.result c.answer-told.ensures
