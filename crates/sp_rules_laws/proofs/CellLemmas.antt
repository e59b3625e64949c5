-- Bytes of the image, and memories outside the areas in which they may have changed.
use Rattle.std.proofs.Common.{ℕ, ◌≡◌, refl, sym, ◌∙◌, ap, subst, ℤ, pos, negsuc, ◌<ℤ◌, Bool, true, false, true≢false, List, [], ◌∷◌, Option, Some, None, inl, inr, ◌⊎◌, arith}
use Rattle.std.specs.Prelude.{◌||◌, int_lt, if◌then◌else◌}
use Rattle.std.specs.Ordering.{int_eq}
use Rattle.std.specs.Cmp.{signed_Decides}
use Rattle.std.specs.List.{AllByRecursion}
use Rattle.std.proofs.lemmas.Int.{ints}
use Rattle.sp_base.specs.Image.{ImageMap}
use Rattle.sp_term.specs.declared.var.Var.{Var}
use Rattle.sp_term.specs.declared.var.Var.TheVariants as var
use Rattle.sp_term.specs.Tree.{Tree, Variable}
use Rattle.sp_term.specs.Free.{var_eq}
use Rattle.sp_term.specs.Sorts.{Sort, Memory, HasSort, sort_of}
use Rattle.sp_term.specs.Value.{Env, value, variable_value, int_of, map_of, IsTrueIn}
use Rattle.sp_term.specs.Admissible.{Region, Change, IsAdmissible, MeetsChange, HasImage}
use Rattle.sp_term.proofs.ReplaceLemmas.{var_one}
use Rattle.sp_steps.specs.Steps.{New, Rom, Frame}
use Rattle.sp_steps.specs.Rows.{change_for, change_of_memory, has_change, byte_at, loaded_byte, loaded, away, away_from, outside, unchanged}
use Rattle.sp_rules_laws.specs.Truth.{KeepsTruth}
use Rattle.sp_rules_laws.proofs.BoolLemmas.{same_some, none_some, if_some, and_left, and_right, or_cases, implies_from, every, all_of}
use Rattle.sp_rules_laws.proofs.StateLemmas.{Gives, locally, adding}

true_equal : (x y : ℤ) → x ≡ y → int_eq x y ≡ true
true_equal x y h = (signed_Decides x y).1 h

lt_to : (a b : ℤ) → int_lt a b ≡ true → a <ℤ b
lt_to a b h = grind (arith, ints)

-- the value of a memory variable
variable_map : (e : Env) (v : Var) (z : ℤ) → Memory ≡ sort_of v → map_of e (Variable v) z ≡ e.map v z
variable_map e v z h = ap (λ (s : Sort). (variable_value s e v).map z) (sym h)

-- the change of a variable is met
change_by : (image : ImageMap) (e : Env) (v : Var) (c : Change) (cs : List Change) (d : Change) (b : Bool) → var_eq v c.variable ≡ b → (if b then Some c else change_for v cs) ≡ Some d → MeetsChange image e c → (change_for v cs ≡ Some d → MeetsChange image e d × (d.variable ≡ v)) → MeetsChange image e d × (d.variable ≡ v)
change_by image e v c cs d true is h met later = subst (λ x. MeetsChange image e x × (x.variable ≡ v)) (same_some c d h) (met, sym (var_one v c.variable is))
change_by image e v c cs d false is h met later = later h

change_met : (image : ImageMap) (e : Env) (v : Var) (cs : List Change) (d : Change) → change_for v cs ≡ Some d → AllByRecursion (MeetsChange image e) cs → MeetsChange image e d × (d.variable ≡ v)
change_met image e v [] d h met = none_some d h
change_met image e v (c ∷ cs) d h met = change_by image e v c cs d (var_eq v c.variable) refl h met.0 (λ k. change_met image e v cs d k met.1)

-- ---- rom
has_image : (image : ImageMap) (stack : Region) (cs : List Change) (e : Env) (v : Var) (o : Option Change) → change_for v cs ≡ o → IsAdmissible image stack cs e → var_eq v var.MemEntry || has_change o ≡ true → HasImage image (e.map v)
has_image image stack cs e v o is admissible h =
    or_cases (var_eq v var.MemEntry) (has_change o) h
    (λ k. subst (λ (x : Var). HasImage image (e.map x)) (sym (var_one v var.MemEntry k)) admissible.loaded)
    (λ k. by o is k)
  where
    by : (o : Option Change) → change_for v cs ≡ o → has_change o ≡ true → HasImage image (e.map v)
    by (Some c) is k = let m = change_met image e v cs c is (every (MeetsChange image e) cs admissible.met) in subst (λ (x : Var). HasImage image (e.map x)) m.1 m.0.loaded
    by None is k = absurd (true≢false (sym k))

rom_byte : (image : ImageMap) (e : Env) (v : Var) (c : ℤ) (goal : Tree) (made : List New) (o : Option ℕ) → byte_at image c ≡ o → loaded_byte (Variable v) c o goal ≡ Some made → Memory ≡ sort_of v → HasImage image (e.map v) → AllByRecursion (Gives e) made → IsTrueIn e goal
rom_byte image e v (pos a) goal made (Some byte) is h sort has all = adding e _ goal made h (true_equal _ _ (variable_map e v (pos a) sort ∙ has a byte is), tt) all
rom_byte image e v (negsuc a) goal made (Some byte) is h sort has all = none_some byte is
rom_byte image e v c goal made None is h sort has all = none_some made h

rom_by : (image : ImageMap) (stack : Region) (cs : List Change) (e : Env) (m : Tree) (c : ℤ) (goal : Tree) (made : List New) → loaded cs m c image goal ≡ Some made → HasSort m Memory → IsAdmissible image stack cs e → AllByRecursion (Gives e) made → IsTrueIn e goal
rom_by image stack cs e (Variable v) c goal made h sort admissible all =
    let k = if_some (var_eq v var.MemEntry || has_change (change_for v cs)) _ made h in
    rom_byte image e v c goal made (byte_at image c) refl k.1 sort.0 (has_image image stack cs e v (change_for v cs) refl admissible k.0) all
rom_by image stack cs e m c goal made h sort admissible all = none_some made h

pub rom_keeps : (m : Tree) (c : ℤ) (bytes : ImageMap) → KeepsTruth (Rom m c bytes)
rom_keeps m c bytes = locally (Rom m c bytes) (λ image stack cs g made e proper right admissible row is all.
    rom_by image stack cs e m c g.goal made (ap (λ (i : ImageMap). loaded cs m c i g.goal) (sym right.1) ∙ row) right.0.0 admissible all)

-- ---- frame
away_true : (e : Env) (t : Tree) (area : ℕ × ℕ) → IsTrueIn e (away t area) → (int_of e t <ℤ pos area.0) ⊎ (pos area.1 <ℤ int_of e t)
away_true e t area h =
    or_cases (int_lt (int_of e t) (pos area.0)) (int_lt (pos area.1) (int_of e t)) h (λ k. inl (lt_to _ _ k)) (λ k. inr (lt_to _ _ k))

away_all : (e : Env) (t : Tree) (area : ℕ × ℕ) (areas : List (ℕ × ℕ)) → IsTrueIn e (away_from t area areas) → AllByRecursion (λ area. (int_of e t <ℤ pos area.0) ⊎ (pos area.1 <ℤ int_of e t)) (area ∷ areas)
away_all e t area [] h = (away_true e t area h, tt)
away_all e t area (next ∷ areas) h = (away_true e t area (and_left (value e (away t area)).truth (value e (away_from t next areas)).truth h), away_all e t next areas (and_right (value e (away t area)).truth (value e (away_from t next areas)).truth h))

outside_all : (e : Env) (t : Tree) (areas : List (ℕ × ℕ)) → IsTrueIn e (outside t areas) → AllByRecursion (λ area. (int_of e t <ℤ pos area.0) ⊎ (pos area.1 <ℤ int_of e t)) areas
outside_all e t [] h = tt
outside_all e t (area ∷ areas) h = away_all e t area areas h

frame_one : (image : ImageMap) (e : Env) (v : Var) (c : Change) (t goal : Tree) (made : List New) → unchanged (Variable v) (Some c) t goal ≡ Some made → Memory ≡ sort_of v → MeetsChange image e c → c.variable ≡ v → AllByRecursion (Gives e) made → IsTrueIn e goal
frame_one image e v c t goal made h sort met is all =
    adding e _ goal made h (
      implies_from (value e (outside t c.areas)).truth _ (λ k.
          true_equal _ _ (variable_map e v (int_of e t) sort ∙ ap (λ (x : Var). e.map x (int_of e t)) (sym is)
          ∙ met.same (int_of e t) (all_of (λ area. (int_of e t <ℤ pos area.0) ⊎ (pos area.1 <ℤ int_of e t)) c.areas (outside_all e t c.areas k)))),
      tt,
    ) all

frame_of : (image : ImageMap) (stack : Region) (cs : List Change) (e : Env) (v : Var) (t goal : Tree) (made : List New) (o : Option Change) → change_for v cs ≡ o → unchanged (Variable v) o t goal ≡ Some made → Memory ≡ sort_of v → IsAdmissible image stack cs e → AllByRecursion (Gives e) made → IsTrueIn e goal
frame_of image stack cs e v t goal made (Some c) is h sort admissible all =
    let m = change_met image e v cs c is (every (MeetsChange image e) cs admissible.met) in
    frame_one image e v c t goal made h sort m.0 m.1 all
frame_of image stack cs e v t goal made None is h sort admissible all = none_some made h

frame_by : (image : ImageMap) (stack : Region) (cs : List Change) (e : Env) (m t goal : Tree) (made : List New) → unchanged m (change_of_memory m cs) t goal ≡ Some made → HasSort m Memory → IsAdmissible image stack cs e → AllByRecursion (Gives e) made → IsTrueIn e goal
frame_by image stack cs e (Variable v) t goal made h sort admissible all = frame_of image stack cs e v t goal made (change_for v cs) refl h sort.0 admissible all
frame_by image stack cs e m t goal made h sort admissible all = none_some made h

pub frame_keeps : (m t : Tree) → KeepsTruth (Frame m t)
frame_keeps m t = locally (Frame m t) (λ image stack cs g made e proper right admissible row is all. frame_by image stack cs e m t g.goal made row right.0.0 admissible all)
