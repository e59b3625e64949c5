-- The places and rows of statements are one.
use Rattle.std.proofs.Common.{◌≡◌, ℕ, ◌%◌, Bool, true, false, List, Option, map, sym, ap, subst, ◌∙◌}
use Rattle.std.specs.Prelude.{slice_index}
use Rattle.sp_stmt.specs.declared.operand.Operand.{Operand}
use Rattle.sp_stmt.specs.declared.statement.Statement.{Statement}
use Rattle.sp_asm.specs.Assembly.{Place, uses_names_above, HasPlaceValue, IsPlaced, ArePlaced, names_above, names_at, Row, places_of, HasRowValues, IsRow}
use Rattle.sp_asm.proofs.SplitLaws.{AllSplits, IsOne, splits_are_one}
use Rattle.sp_asm.proofs.ValueLaws.{values_are_one}

-- ---- Places

one_place_value : (uses : Bool) (names : List ℕ → Option ℕ) (here : ℕ) (operands : List Operand) (a b : ℕ) → HasPlaceValue uses names here operands a → HasPlaceValue uses names here operands b → a ≡ b
one_place_value true names here operands a b h k = h.2 ∙ ap (λ values. slice_index values 0) (values_are_one names here operands h.0 k.0 h.1 k.1) ∙ sym k.2
one_place_value false names here operands a b h k = h ∙ sym k

place : Statement → ℕ → ℕ → Place
place statement address value = record { statement = statement; address = address; value = value }

-- places of one statement at one address, with its value, are one
pub same_place : (names : List ℕ → Option ℕ) (p q : Place) → p.statement ≡ q.statement → p.address ≡ q.address
    → HasPlaceValue (uses_names_above p.statement.code) names (p.address % 65536) p.statement.operands p.value
    → HasPlaceValue (uses_names_above q.statement.code) names (q.address % 65536) q.statement.operands q.value → p ≡ q
unfolding place
same_place names p q s a h k =
    let moved = subst (λ (t : Statement). HasPlaceValue (uses_names_above t.code) names (p.address % 65536) t.operands p.value) s h in
    let there = subst (λ address. HasPlaceValue (uses_names_above q.statement.code) names (address % 65536) q.statement.operands p.value) a moved in
    let v = one_place_value (uses_names_above q.statement.code) names (q.address % 65536) q.statement.operands p.value q.value there k in
    ap (λ statement. place statement p.address p.value) s ∙ ap (λ address. place q.statement address p.value) a ∙ ap (λ value. place q.statement q.address value) v

abbrev pub statement_at : Place → Statement
statement_at p = p.statement

pub one_place : IsOne statement_at IsPlaced
one_place above p q s h k = same_place (names_above above) p q s (h.address ∙ sym k.address) h.value k.value

pub places_are_one : (one other : List Place) → ArePlaced one → ArePlaced other → map statement_at one ≡ map statement_at other → one ≡ other
places_are_one one other h k e = splits_are_one statement_at IsPlaced one_place one other h k e

-- ---- Rows

one_row_values : (uses : Bool) (names : List ℕ → Option ℕ) (here : ℕ) (operands : List Operand) (one other : List ℕ) → HasRowValues uses names here operands one → HasRowValues uses names here operands other → one ≡ other
one_row_values true names here operands one other h k = h ∙ sym k
one_row_values false names here operands one other h k = values_are_one names here operands one other h.0 k.0

row : Place → List ℕ → Row
row place values = record { place = place; values = values }

abbrev pub place_of : Row → Place
place_of r = r.place

-- what the equations of a row say of it and the rows above
abbrev pub Keeps : List Place → List Row → Row → Type 0
Keeps all above r = IsRow all (places_of above) r

pub one_row : (all : List Place) → IsOne place_of (Keeps all)
unfolding row
one_row all above p q e h k =
    let moved = subst (λ (at : Place). HasRowValues (uses_names_above at.statement.code) (names_at all (places_of above)) (at.address % 65536) at.statement.operands p.values) e h in
    ap (λ at. row at p.values) e
    ∙ ap (λ values. row q.place values)
    (one_row_values (uses_names_above q.place.statement.code) (names_at all (places_of above)) (q.place.address % 65536) q.place.statement.operands p.values q.values moved k)

pub rows_are_one : (all : List Place) (one other : List Row) → AllSplits (Keeps all) one → AllSplits (Keeps all) other → places_of one ≡ places_of other → one ≡ other
rows_are_one all one other h k e = splits_are_one place_of (Keeps all) (one_row all) one other h k e
