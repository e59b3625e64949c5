-- The names of the quantifiers round a part of a note, as the code keeps them.
use Rattle.std.specs.Prelude.{◌≡◌, ℕ, ◌+◌, List, [], ◌∷◌, length, ⊤}
use Rattle.sp_trans.specs.declared.names.Names.{Names}
use Rattle.sp_trans.specs.declared.names.Names.TheVariants as names

abbrev pub names_of : Names → List (List ℕ)
names_of names.Empty = []
names_of (names.Inner' name number at outer) = name.now ∷ names_of outer

-- each name is kept with its number
abbrev pub AreNumbered : Names → Type 0
AreNumbered names.Empty = ⊤
AreNumbered (names.Inner' name number at outer) = (number ≡ length (names_of outer) + 1) × AreNumbered outer
