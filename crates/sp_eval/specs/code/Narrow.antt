-- Bounds as the code keeps them.
use Rattle.std.specs.Prelude.{◌≡◌, ℕ, ◌^◌, ◌<◌, ◌≤◌, [], ◌∷◌, Option, MatchOption}
use Rattle.sp_logic.specs.declared.note.Quantity.{Quantity}
use Rattle.sp_logic.specs.View.{quantity_of}
use Rattle.sp_eval.specs.Wide as wide
use Rattle.sp_eval.specs.declared.narrow.NameBounds.{NameBounds}
use Rattle.sp_eval.specs.declared.narrow.NameBounds.TheVariants as names

abbrev pub bounds_of : NameBounds → wide.NameBounds
bounds_of names.Empty = []
bounds_of (names.Inner' name bound at outer) = (name.now, bound) ∷ bounds_of outer

-- the bound, or none from 2 to the power 101 on
abbrev pub IsBound : Option ℕ → ℕ → Type 0
IsBound result bound = MatchOption result (2 ^ 101 ≤ bound) (λ n. (n ≡ bound) × (n < 2 ^ 101))

-- the bound of a quantity all of whose parts have bounds below 2 to the power 101, or none
abbrev pub HasBound : NameBounds → Quantity → Option ℕ → Type 0
HasBound names q result =
    MatchOption result (¬ wide.IsBelow (2 ^ 101) (bounds_of names) (quantity_of q))
    (λ n. (n ≡ wide.quantity_bound (bounds_of names) (quantity_of q)) × wide.IsBelow (2 ^ 101) (bounds_of names) (quantity_of q))
