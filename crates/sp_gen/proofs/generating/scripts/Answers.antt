use Rattle.std.specs.Prelude.{[]}
use Rattle.sp_gen.specs.Generated.{script_lines}
use Rattle.sp_gen.proofs.OntoLemmas.{next_lines, all_lines}
use Rattle.sp_gen.proofs.generating.scripts.Goals as goal

pub loop-k-preserved : goal.loop-k-preserved
loop-k-preserved c = next_lines [] c.loop-k.text.items c.push_script.new.text.items script_lines c.loop-k.k c.loop-k.invariant c.in_ok-push_script.ensures

pub returns : goal.returns
returns c = all_lines [] c.loop-k.text.items script_lines c.loop-k.k c.args.count c.loop-k.invariant c.loop-k-test.false c.loop-k.auto.k-end
