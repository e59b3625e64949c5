-- Areas that lines declare, among those above.
use Rattle.std.proofs.Common.{◌≡◌, ℕ, Bool, true, false, cond, ◌||◌, List, [], ◌∷◌, ◌++◌, Option, Some, None, bytes_eq, is_some, unwrap_or, refl, sym, ap, ◌∙◌}
use Rattle.std.specs.Option.{option_map}
use Rattle.std.specs.List.{filter_map, list_any, cons_option}
use Rattle.std.proofs.lemmas.List.Elements.{filter_map-append}
use Rattle.std.proofs.lemmas.List.Folds.{list_any-append}
use Rattle.sp_note.specs.Parts.{Part, Byte, Word, Bytes}
use Rattle.sp_prog.specs.declared.area.Area.{Area}
use Rattle.sp_unit.specs.Lines.{Entry, Statement, Annotation}
use Rattle.sp_unit.specs.Faults.{Source, area_by, area_in, area_clashes, clashes, is_declared}
use Rattle.sp_unit.specs.code.Aboves.{is_second, repeats_in}

pub second_is : (s : Source) (above : List Entry) (part : Part) (a : Area) → area_by s.value part ≡ Some a → is_second s above part ≡ is_declared s above a.name
second_is s above part a e = ap (λ o. unwrap_or (option_map (λ (x : Area). is_declared s above x.name) o) false) e

pub clash_is : (s : Source) (above : List Entry) (part : Part) (a : Area) → area_by s.value part ≡ Some a → clashes s above part ≡ area_clashes s above a
clash_is s above (Byte name addr) a e = ap (λ o. unwrap_or (option_map (area_clashes s above) o) false) e
clash_is s above (Word name addr) a e = ap (λ o. unwrap_or (option_map (area_clashes s above) o) false) e
clash_is s above (Bytes name addr len) a e = ap (λ o. unwrap_or (option_map (area_clashes s above) o) false) e
clash_is s above _ a e = absurd cc

pub repeats_is : (s : Source) (above : List Entry) (e : Entry) (a : Area) → area_in s e ≡ Some a → repeats_in s above e ≡ is_declared s above a.name
repeats_is s above (Statement item) a e = absurd cc
repeats_is s above (Annotation note) a e = second_is s above note.part a e

-- with one line more
pub declared_more : (s : Source) (above : List Entry) (e : Entry) (o : Option Area) (name : List ℕ) → o ≡ area_in s e
    → is_declared s (above ++ e ∷ []) name ≡ (is_declared s above name || list_any (λ (a : Area). bytes_eq a.name name) (cons_option o []))
declared_more s above e o name is =
    let test = λ (a : Area). bytes_eq a.name name in
    ap (list_any test) (filter_map-append (area_in s) above (e ∷ []))
    ∙ list_any-append test (filter_map (area_in s) above) (filter_map (area_in s) (e ∷ []))
    ∙ ap (λ x. is_declared s above name || list_any test (cons_option x [])) (sym is)

or_none : (t : Bool) → t ≡ (t || false)
or_none true = refl
or_none false = refl

pub declared_same : (s : Source) (above : List Entry) (e : Entry) (name : List ℕ) → None ≡ area_in s e → is_declared s above name ≡ is_declared s (above ++ e ∷ []) name
declared_same s above e name is = or_none (is_declared s above name) ∙ sym (declared_more s above e None name is)

with_one : {A : Type 0} (t : Bool) (x : A) (o : Option A) → is_some (cond t (Some x) o) ≡ (is_some o || (t || false))
with_one true x None = refl
with_one true x (Some y) = refl
with_one false x None = refl
with_one false x (Some y) = refl

-- the table with one name more
pub declared_new : {A : Type 0} (s : Source) (above : List Entry) (e : Entry) (a : Area) (name : List ℕ) (x : A) (old : Option A) → Some a ≡ area_in s e
    → is_some old ≡ is_declared s above name → is_some (cond (bytes_eq a.name name) (Some x) old) ≡ is_declared s (above ++ e ∷ []) name
declared_new s above e a name x old is h =
    with_one (bytes_eq a.name name) x old ∙ ap (λ t. t || (bytes_eq a.name name || false)) h ∙ sym (declared_more s above e (Some a) name is)
