-- What a reading that meets its annotations says of its source.
use Rattle.std.proofs.Common.{◌≡◌, ℕ, ◌≤◌, Bool, true, false, ◌||◌, List, [], ◌∷◌, length, reverse, refl, sym, ap, subst, ◌∙◌, Some, None, arith, inl, inr}
use Rattle.std.specs.Prelude.{Option, Contains}
use Rattle.std.specs.List.{list_all, list_any}
use Rattle.std.proofs.lemmas.List.{length-map}
use Rattle.std.proofs.lemmas.Bool.Decides.{nat_tests}
use Rattle.sp_base.specs.declared.location.Reg.{Reg}
use Rattle.sp_base.specs.Image.{ImageMap}
use Rattle.sp_first.specs.declared.transfer.Transfer.{Transfer}
use Rattle.sp_first.specs.declared.transfer.Transfer.TheVariants.{Mvi, Mov}
use Rattle.sp_first.specs.Form.{Form, HasForm}
use Rattle.sp_first.specs.Program.{Reading, transfer_of, reading_of, image_of, unit_of, same_reg, last_value, SetsListed, Meets}
use Rattle.sp_first.specs.Reading.{read_source, sets_listed, has_value, meets}
use Rattle.sp_first.specs.Right.{IsTheImage, IsNotBuilt, IsOpen, IsAccepted}
use Rattle.sp_first.proofs.Steps.{both, and_true, all_true, all_from_true, same_some}
use Rattle.sp_first.proofs.FormLaws.{same_reg_true, same_reg_is, contains_cons, contains_head, contains_tail, read_form, form_read}
use Rattle.sp_first.proofs.RunLaws.{all_runs_are_good}

or_true : (a b : Bool) → b ≡ true → (a || b) ≡ true
or_true true b h = refl
or_true false b h = h

clash : (r : Reading) → Some r ≡ None → ⊥
clash r e = cc

falsehood : true ≡ false → ⊥
falsehood e = cc

any_same : (to : Reg) (rs : List Reg) → list_any (same_reg to) rs ≡ true → Contains rs to
any_same to [] h = cc
any_same to (r ∷ rs) h = elim (same_reg to r) as (λ b. same_reg to r ≡ b → (b || list_any (same_reg to) rs) ≡ true → Contains (r ∷ rs) to) [
  | true ↦ λ t _. contains_head r to rs (sym (same_reg_true to r t))
  | false ↦ λ t g. contains_tail r to rs (any_same to rs g)
] refl h

same_any : (to : Reg) (rs : List Reg) → Contains rs to → list_any (same_reg to) rs ≡ true
same_any to [] h = absurd (omega (arith, h.1))
same_any to (r ∷ rs) h = elim (contains_cons r to rs h) [
  | inl e ↦ ap (λ b. b || list_any (same_reg to) rs) (same_reg_is to r (sym e))
  | inr g ↦ or_true (same_reg to r) _ (same_any to rs g)
]

listed_true : (rs : List Reg) (i : Transfer) → SetsListed rs i → sets_listed rs i ≡ true
listed_true rs (Mvi to byte) h = same_any to rs h
listed_true rs (Mov to from) h = same_any to rs h

listed_from : (rs : List Reg) (i : Transfer) → sets_listed rs i ≡ true → SetsListed rs i
listed_from rs (Mvi to byte) h = any_same to rs h
listed_from rs (Mov to from) h = any_same to rs h

value_true : (o : Option ℕ) (v : ℕ) → o ≡ Some v → has_value o v ≡ true
value_true None v h = cc
value_true (Some w) v h = let e : w ≡ v = same_some w v h in grind (arith, nat_tests)

value_from : (o : Option ℕ) (v : ℕ) → has_value o v ≡ true → o ≡ Some v
value_from None v h = cc
value_from (Some w) v h = let e : w ≡ v = grind (arith, nat_tests) in ap Some e

pub meets_true : (r : Reading) → Meets r → meets r ≡ true
meets_true r h = and_true _ _ (value_true (last_value (reverse r.program) r.post) r.value h.post) (all_true (SetsListed r.changes) (sets_listed r.changes) (listed_true r.changes) r.program h.listed)

pub meets_from : (r : Reading) → meets r ≡ true → Meets r
meets_from r h =
    let parts = both (has_value (last_value (reverse r.program) r.post) r.value) (list_all (sets_listed r.changes) r.program) h in
    record { post = value_from (last_value (reverse r.program) r.post) r.value parts.0; listed = all_from_true (SetsListed r.changes) (sets_listed r.changes) (listed_from r.changes) r.program parts.1 }

pub program_few : (source : List ℕ) (r : Reading) → read_source source ≡ Some r → length r.program ≤ 16
program_few source r e =
    let f = form_read source r e in
    let few : length f.form.moves ≤ 16 = f.has.few in
    omega (arith, ap (λ (q : Reading). length q.program) f.same, length-map f.form.moves transfer_of, few)

pub right : (source : List ℕ) (r : Reading) (image : ImageMap) → read_source source ≡ Some r → meets r ≡ true → image ≡ image_of r → IsTheImage source image
right source r image e met is =
    let f = form_read source r e in
    record {
      right = record {
        unit = unit_of r;
        of_source = (f.form, f.has, ap unit_of (sym f.same));
        assembly = is;
        good = all_runs_are_good r (program_few source r e) (meets_from r met);
      };
      only = λ other g.
          let form = g.of_source.0 in
          let same : reading_of g.of_source.0 ≡ r = same_some (reading_of g.of_source.0) r (sym (read_form source g.of_source.0 g.of_source.1) ∙ e) in
          g.assembly ∙ ap (λ u. u.image) g.of_source.2 ∙ ap image_of same ∙ sym is;
    }

pub accepted : (source scripts : List ℕ) (r : Reading) → read_source source ≡ Some r → meets r ≡ true → scripts ≡ [] → IsAccepted source scripts
accepted source scripts r e met none =
    let f = form_read source r e in
    record { form = f.form; of_source = f.has; no_scripts = none; met = subst Meets (sym f.same) (meets_from r met) }

pub not_built : (source scripts : List ℕ) → read_source source ≡ None → IsNotBuilt source scripts
not_built source scripts none f has empty = absurd (clash (reading_of f) (sym (read_form source f has) ∙ none))

pub open_condition : (source scripts name : List ℕ) (r : Reading) → read_source source ≡ Some r → meets r ≡ false → scripts ≡ [] → name ≡ r.name → IsOpen source scripts name
open_condition source scripts name r e unmet none named =
    let f = form_read source r e in
    record {
      form = f.form;
      of_source = f.has;
      no_scripts = none;
      named = named ∙ sym (ap (λ (q : Reading). q.name) f.same);
      unmet = λ h. falsehood (sym (meets_true r (subst Meets f.same h)) ∙ unmet);
    }

-- two forms of a source say the same
pub one_reading : (source : List ℕ) (f g : Form) → HasForm source f → HasForm source g → reading_of f ≡ reading_of g
one_reading source f g h k = same_some (reading_of f) (reading_of g) (sym (read_form source f h) ∙ read_form source g k)
