-- Areas of lines, and what the tables of the code say of them.
use Rattle.std.proofs.Common.{◌≡◌, ℕ, zero, suc, ◌+◌, ◌<◌, ◌≤◌, arith, Bool, true, false, cond, List, [], ◌∷◌, ◌++◌, find, length, take, get_or, Option, Some, bytes_eq, refl, sym, ap, ◌∙◌}
use Rattle.std.specs.List.{filter_map, cons_option}
use Rattle.std.proofs.lemmas.List.{take_more, map-append}
use Rattle.std.proofs.lemmas.List.Elements.{filter_map-append}
use Rattle.sp_note.specs.declared.part.NoteLine as declared
use Rattle.sp_note.specs.Parts.{NoteLine, Expression, line_of, lines_of, part_of}
use Rattle.sp_prog.specs.declared.area.Area.{Area}
use Rattle.sp_unit.specs.declared.scope.Scope.{Scope}
use Rattle.sp_unit.specs.code.Tables.{meanings_in}
use Rattle.sp_unit.specs.Sources.{number_of}
use Rattle.sp_unit.specs.code.Scopes.{source_of, IsScope}
use Rattle.sp_unit.specs.Faults.{area_by, areas_by, meanings, or_else}

module _ {A : Type 0} (p : A → Bool) where
  by_first : (t : Bool) (x : A) (rest : Option A) (ys : Option A) → or_else (cond t (Some x) rest) ys ≡ cond t (Some x) (or_else rest ys)
  by_first true x rest ys = refl
  by_first false x rest ys = refl

  pub find_append : (xs ys : List A) → find p (xs ++ ys) ≡ or_else (find p xs) (find p ys)
  find_append [] ys = refl
  find_append (x ∷ xs) ys = ap (cond (p x) (Some x)) (find_append xs ys) ∙ sym (by_first (p x) x (find p xs) (find p ys))

-- the first area of a name among lines with one line more
pub one_line_more : (value : Expression → Option ℕ) (name : List ℕ) (notes : List declared.NoteLine) (i : ℕ) (d : declared.NoteLine) (o : Option Area) → i < length notes
    → o ≡ area_by value (part_of (get_or notes i d).part)
    → find (λ (a : Area). bytes_eq a.name name) (areas_by value (lines_of (take (i + 1) notes)))
    ≡ or_else (find (λ (a : Area). bytes_eq a.name name) (areas_by value (lines_of (take i notes)))) (find (λ (a : Area). bytes_eq a.name name) (cons_option o []))
one_line_more value name notes i d o lt is =
    let test = λ (a : Area). bytes_eq a.name name in
    let area = λ (n : NoteLine). area_by value n.part in
    let front = lines_of (take i notes) in
    let n = line_of (get_or notes i d) in
    ap (λ l. find test (filter_map area (lines_of l))) (take_more notes i d lt)
    ∙ ap (λ l. find test (filter_map area l)) (map-append line_of (take i notes) (get_or notes i d ∷ []))
    ∙ ap (find test) (filter_map-append area front (n ∷ []))
    ∙ find_append test (filter_map area front) (filter_map area (n ∷ []))
    ∙ ap (λ x. or_else (find test (filter_map area front)) (find test (cons_option x []))) (sym is)

pub take_whole : {A : Type 0} (xs : List A) (i : ℕ) → length xs ≤ i → take i xs ≡ xs
take_whole [] zero le = refl
take_whole [] (suc i) le = refl
take_whole (x ∷ xs) zero le = absurd (omega (arith, le))
take_whole (x ∷ xs) (suc i) le = ap (λ l. x ∷ l) (take_whole xs i (omega (arith, le)))

-- ---- Names

pub same_meanings : (scope : Scope) → IsScope scope → meanings_in scope.areas.entries scope.names.now.entries ≡ meanings (source_of scope)
same_meanings scope h i = record { areas = λ name. sym (h.areas name) i; names = number_of scope.names.now.entries }
