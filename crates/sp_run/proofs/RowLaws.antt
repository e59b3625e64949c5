-- The rows of a parser of command lines, as uses of options change them.
use Rattle.std.proofs.Common.{◌≡◌, ◌∙◌, sym, ap, refl, Bool, true, false, true≢false, ℕ, List, [], ◌∷◌, ◌++◌, Some, None}
use Rattle.std.specs.Option.{unwrap_or}
use Rattle.std.specs.Str.{bytes_eq}
use Rattle.std.proofs.lemmas.Slice.Eq.{bytes_eq-Decides}
use Rattle.clap.specs.Walk.{Row, all_of, with_values, without}
use Rattle.clap.specs.declared.builder.value_parser.Reading.{Reading}
use Rattle.clap.specs.declared.parser.matches.ValueSource.{ValueSource}

abbrev new_row : List ℕ → Reading → ValueSource → List (List ℕ) → Row
new_row id how s values = record { id = id; values = values; count = None; source = Some s; reading = how }

bytes_eq-refl : (id : List ℕ) → bytes_eq id id ≡ true
bytes_eq-refl id = (bytes_eq-Decides id id).1 refl

-- the values of an id after a use that adds some
pub all_of-more : (id : List ℕ) (how : Reading) (s : ValueSource) (values : List (List ℕ)) (rows : List Row)
    → all_of id (with_values id how s values rows) ≡ Some (unwrap_or (all_of id rows) [] ++ values)
all_of-more id how s values [] = rw (bytes_eq-refl id) refl
all_of-more id how s values (r ∷ rows) = go (bytes_eq r.id id) refl (all_of-more id how s values rows)
  where
    go : (b : Bool) → bytes_eq r.id id ≡ b → all_of id (with_values id how s values rows) ≡ Some (unwrap_or (all_of id rows) [] ++ values)
        → all_of id (with_values id how s values (r ∷ rows)) ≡ Some (unwrap_or (all_of id (r ∷ rows)) [] ++ values)
    go true is rest = rw (is, is) refl
    go false is rest = rw (is, is) rest

-- the values of another id stay
pub all_of-other : (id other : List ℕ) (how : Reading) (s : ValueSource) (values : List (List ℕ)) (rows : List Row)
    → bytes_eq id other ≡ false → all_of other (with_values id how s values rows) ≡ all_of other rows
all_of-other id other how s values [] apart = rw apart refl
all_of-other id other how s values (r ∷ rows) apart = go (bytes_eq r.id id) refl (bytes_eq r.id other) refl (all_of-other id other how s values rows apart)
  where
    go : (b : Bool) → bytes_eq r.id id ≡ b → (d : Bool) → bytes_eq r.id other ≡ d → all_of other (with_values id how s values rows) ≡ all_of other rows
        → all_of other (with_values id how s values (r ∷ rows)) ≡ all_of other (r ∷ rows)
    go true is true same rest =
        let here : r.id ≡ id = (bytes_eq-Decides r.id id).0 is in
        absurd (true≢false (sym same ∙ ap (λ x. bytes_eq x other) here ∙ apart))
    go true is false same rest = rw (is, same) refl
    go false is true same rest = rw (is, same) refl
    go false is false same rest = rw (is, same) rest

-- no row goes where there is none
pub without-none : (id : List ℕ) (rows : List Row) → all_of id rows ≡ None → without id rows ≡ rows
without-none id [] none = refl
without-none id (r ∷ rows) none = go (bytes_eq r.id id) refl (without-none id rows)
  where
    go : (b : Bool) → bytes_eq r.id id ≡ b → (all_of id rows ≡ None → without id rows ≡ rows) → without id (r ∷ rows) ≡ r ∷ rows
    go true is rest = let some : Some r.values ≡ None = rw is at none in cc
    go false is rest = rw is (ap (λ more. r ∷ more) (rest (rw is at none)))
