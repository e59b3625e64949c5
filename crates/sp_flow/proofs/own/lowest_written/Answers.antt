use Rattle.sp_flow.specs.Flow.{cells_written}
use Rattle.sp_flow.specs.code.Least.{HasEither}
use Rattle.sp_flow.proofs.OwnLemmas.{few_written, least_of_two}
use Rattle.sp_flow.proofs.own.lowest_written.Goals as goal

pub returns : goal.returns
returns c =
    least_of_two (cells_written c.args.instr.now) (λ n. HasEither c.args.areas.now c.args.own.now c.args.own.now n → ⊥) (few_written c.args.instr.now)
    c.cell_written-low.result c.cell_written-high.result c.lower_maybe-first.result c.lower_maybe-both.result c.cell_written-low.ensures
    c.cell_written-high.ensures c.lower_maybe-first.ensures c.lower_maybe-both.ensures
