use Rattle.sp_flow.specs.Flow.{cells_read}
use Rattle.sp_flow.specs.code.Least.{HasEither}
use Rattle.sp_flow.proofs.OwnLemmas.{few_read, least_of_two}
use Rattle.sp_flow.proofs.own.lowest_read.Goals as goal

pub returns : goal.returns
returns c =
    least_of_two (cells_read c.args.instr.now) (λ n. HasEither c.args.areas.now c.args.one.now c.args.other.now n → ⊥) (few_read c.args.instr.now)
    c.cell_read-low.result c.cell_read-high.result c.lower_maybe-first.result c.lower_maybe-both.result c.cell_read-low.ensures c.cell_read-high.ensures
    c.lower_maybe-first.ensures c.lower_maybe-both.ensures
