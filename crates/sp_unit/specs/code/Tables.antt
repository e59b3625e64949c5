-- The tables of names that the code has.
use Rattle.std.specs.Prelude.{ℕ, List, [], ◌∷◌, nat_eq}
use Rattle.std.specs.Cmp.Lexicographic.{pointwise}
use Rattle.std.specs.Map.{lookup}
use Rattle.sp_prog.specs.declared.area.Area.{Area}
use Rattle.sp_unit.specs.declared.resolve.Bound.{Bound}
use Rattle.sp_unit.specs.declared.resolve.Bound.TheVariants as round
use Rattle.sp_unit.specs.declared.resolve.Two.{Two}
use Rattle.sp_logic.specs.View.{quantity_of}
use Rattle.sp_model.specs.Note.{Quantity}
use Rattle.sp_unit.specs.Resolution.{Meanings}

-- what the tables say of names
abbrev pub meanings_in : List (List ℕ × Area) → List (List ℕ × ℕ) → Meanings
meanings_in areas names = record {
  areas = λ name. lookup (pointwise nat_eq name) areas;
  names = λ name. lookup (pointwise nat_eq name) names;
}

-- the bound names of the code
abbrev pub bound_of : Bound → List (List ℕ)
bound_of round.Nothing = []
bound_of (round.Inner' name at outer) = name.now ∷ bound_of outer

-- two numbers of the code
abbrev pub two_of : Two → Quantity × Quantity
two_of two = (quantity_of two.left, quantity_of two.right)
