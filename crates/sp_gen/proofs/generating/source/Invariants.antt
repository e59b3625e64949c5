use Rattle.std.specs.Prelude.{◌≡◌, [], ◌∷◌, codes}
use Rattle.sp_gen.specs.Generated.{first_lines, routine_lines}
use Rattle.sp_gen.specs.code.Onto.{onto}
use Rattle.sp_gen.proofs.generating.source.Given as goal

abbrev pub invariant-loop-k : goal.invariant-loop-k
invariant-loop-k l = l.text.items ≡ onto [] (codes ";# stack 2300H, 23FFH" ∷ first_lines routine_lines l.k)
