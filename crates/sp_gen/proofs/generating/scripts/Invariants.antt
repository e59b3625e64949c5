use Rattle.std.specs.Prelude.{◌≡◌, []}
use Rattle.sp_gen.specs.Generated.{first_lines, script_lines}
use Rattle.sp_gen.specs.code.Onto.{onto}
use Rattle.sp_gen.proofs.generating.scripts.Given as goal

abbrev pub invariant-loop-k : goal.invariant-loop-k
invariant-loop-k l = l.text.items ≡ onto [] (first_lines script_lines l.k)
