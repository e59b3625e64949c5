use Rattle.std.specs.Prelude.{codes}
use Rattle.sp_gen.specs.Generated.{line, routine_lines}
use Rattle.sp_gen.proofs.OntoLemmas.{next_lines, all_lines}
use Rattle.sp_gen.proofs.generating.source.Goals as goal

pub loop-k-preserved : goal.loop-k-preserved
loop-k-preserved c =
    next_lines (line (codes ";# stack 2300H, 23FFH")) c.loop-k.text.items c.push_routine.new.text.items routine_lines c.loop-k.k c.loop-k.invariant c.in_ok-push_routine.ensures

pub returns : goal.returns
returns c = all_lines (line (codes ";# stack 2300H, 23FFH")) c.loop-k.text.items routine_lines c.loop-k.k c.args.count c.loop-k.invariant c.loop-k-test.false c.loop-k.auto.k-end
