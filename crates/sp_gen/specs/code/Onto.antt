-- Lines after a text.
use Rattle.std.specs.Prelude.{ℕ, List, [], ◌∷◌, ◌++◌}
use Rattle.sp_gen.specs.Generated.{line}

abbrev pub onto : List ℕ → List (List ℕ) → List ℕ
onto old [] = old
onto old (text ∷ lines) = onto (old ++ line text) lines
