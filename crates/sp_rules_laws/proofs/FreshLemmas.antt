-- Environments that differ in one `k_j`, and terms in the place of a bound variable.
use Rattle.std.proofs.Common.{ℕ, zero, suc, ◌-◌, ◌≤◌, ◌≡◌, refl, sym, ◌∙◌, ap, subst, ℤ, Bool, true, false, true≢false, List, [], ◌∷◌, Some, None, slice_get}
use Rattle.std.specs.Prelude.{◌==◌, ◌||◌, if◌then◌else◌}
use Rattle.std.specs.List.{AllByRecursion}
use Rattle.std.proofs.lemmas.Bool.{eq-eqb}
use Rattle.sp_base.specs.Image.{ImageMap}
use Rattle.sp_term.specs.declared.var.Var.{Var}
use Rattle.sp_term.specs.declared.var.Var.TheVariants as var
use Rattle.sp_term.specs.Tree.{Tree, Literal, Variable, Add}
use Rattle.sp_term.specs.Free.{var_eq, is_free, IsClosed}
use Rattle.sp_term.specs.Sorts.{Int, HasSort}
use Rattle.sp_term.specs.Value.{Env, value, whole, int_of, bind, assigned, IsTrueIn}
use Rattle.sp_term.specs.Admissible.{Region, Change, IsAdmissible, MeetsChange, IsUpTo, greatest}
use Rattle.sp_term.proofs.FreeLemmas.{Agrees, value_agrees}
use Rattle.sp_term.proofs.ReplaceLemmas.{var_one, value-replaced}
use Rattle.sp_steps.specs.Subgoals.{hypothesis, some_has}
use Rattle.sp_steps.specs.Rows.{at_term}
use Rattle.sp_steps.specs.Soundness.{IsProperChange}
use Rattle.sp_rules_laws.proofs.BoolLemmas.{same_some, none_some, every, all_of}

-- the environment with another number for `k_j`
abbrev pub with_any : ℕ → ℤ → Env → Env
with_any j z e = record { int = λ v. if var_eq v (var.Any j) then z else e.int v; map = e.map }

pub left_false : (a b : Bool) → a || b ≡ false → a ≡ false
left_false true b h = h
left_false false b h = refl

pub right_false : (a b : Bool) → a || b ≡ false → b ≡ false
right_false true b h = absurd (true≢false h)
right_false false b h = h

-- ---- agreement
other : (j : ℕ) (z : ℤ) (e : Env) (v : Var) → var_eq v (var.Any j) ≡ false → Agrees (with_any j z e) e v
other j z e (var.Entry x) h = refl
other j z e (var.Now x) h = refl
other j z e (var.After x i) h = refl
other j z e var.MemEntry h = refl
other j z e var.Mem h = refl
other j z e (var.MemAfter i) h = refl
other j z e (var.In i) h = refl
other j z e (var.SlotHigh i) h = refl
other j z e (var.SlotLow i) h = refl
other j z e (var.Bound i) h = refl
other j z e (var.Any i) h = ap (λ (b : Bool). whole (if b then z else e.int (var.Any i))) h

not_it : (j : ℕ) (t : Tree) → is_free (var.Any j) t ≡ false → (v : Var) → is_free v t ≡ true → (b : Bool) → var_eq v (var.Any j) ≡ b → b ≡ false
not_it j t h v free true e = absurd (true≢false (sym free ∙ ap (λ (w : Var). is_free w t) (var_one v (var.Any j) e) ∙ h))
not_it j t h v free false e = refl

-- a term without `k_j` doesn't depend on it
pub value_same : (j : ℕ) (z : ℤ) (e : Env) (t : Tree) → is_free (var.Any j) t ≡ false → value (with_any j z e) t ≡ value e t
value_same j z e t h = value_agrees t (with_any j z e) e (λ v free. other j z e v (not_it j t h v free (var_eq v (var.Any j)) refl))

bound_other : (j i : ℕ) (z w : ℤ) (e : Env) (v : Var) → var_eq v (var.Any j) ≡ false → Agrees (bind i w (with_any j z e)) (bind i w e) v
bound_other j i z w e (var.Entry x) h = refl
bound_other j i z w e (var.Now x) h = refl
bound_other j i z w e (var.After x k) h = refl
bound_other j i z w e var.MemEntry h = refl
bound_other j i z w e var.Mem h = refl
bound_other j i z w e (var.MemAfter k) h = refl
bound_other j i z w e (var.In k) h = refl
bound_other j i z w e (var.SlotHigh k) h = refl
bound_other j i z w e (var.SlotLow k) h = refl
bound_other j i z w e (var.Bound k) h = refl
bound_other j i z w e (var.Any k) h = ap (λ (b : Bool). whole (if b then z else e.int (var.Any k))) h

pub bound_same : (j i : ℕ) (z w : ℤ) (e : Env) (t : Tree) → is_free (var.Any j) t ≡ false → value (bind i w (with_any j z e)) t ≡ value (bind i w e) t
bound_same j i z w e t h = value_agrees t (bind i w (with_any j z e)) (bind i w e) (λ v free. bound_other j i z w e v (not_it j t h v free (var_eq v (var.Any j)) refl))

-- ---- a term in the place of a bound variable
assigned_bound : (i : ℕ) (t : Tree) (e : Env) (v : Var) → Agrees (assigned (var.Bound i) (value e t) e) (bind i (int_of e t) e) v
assigned_bound i t e (var.Entry x) = refl
assigned_bound i t e (var.Now x) = refl
assigned_bound i t e (var.After x k) = refl
assigned_bound i t e var.MemEntry = refl
assigned_bound i t e var.Mem = refl
assigned_bound i t e (var.MemAfter k) = refl
assigned_bound i t e (var.In k) = refl
assigned_bound i t e (var.SlotHigh k) = refl
assigned_bound i t e (var.SlotLow k) = refl
assigned_bound i t e (var.Any k) = refl
assigned_bound i t e (var.Bound k) = refl

pub at_value : (e : Env) (i : ℕ) (t p : Tree) → HasSort t Int → IsClosed t → value e (at_term i t p) ≡ value (bind i (int_of e t) e) p
at_value e i t p sort closed = value-replaced p (var.Bound i) t sort closed e ∙ value_agrees p (assigned (var.Bound i) (value e t) e) (bind i (int_of e t) e) (λ v free. assigned_bound i t e v)

pub any_value : (j : ℕ) (z : ℤ) (e : Env) → int_of (with_any j z e) (Variable (var.Any j)) ≡ z
any_value j z e = ap (λ (b : Bool). if b then z else e.int (var.Any j)) (self j)
  where
    self : (j : ℕ) → var_eq (var.Any j) (var.Any j) ≡ true
    self j = eq-eqb j j refl

pub any_sort : (j : ℕ) → 1 ≤ j → HasSort (Variable (var.Any j)) Int
any_sort j h = (refl, h)

pub any_closed : (j : ℕ) → IsClosed (Variable (var.Any j))
any_closed j k = refl

pub next_sort : (j : ℕ) (n : ℤ) → 1 ≤ j → HasSort (Add (Variable (var.Any j)) (Literal n)) Int
next_sort j n h = (refl, (refl, h), refl)

pub next_closed : (j : ℕ) (n : ℤ) → IsClosed (Add (Variable (var.Any j)) (Literal n))
next_closed j n k = refl

-- the formula of a quantifier at a term, where `k_j` has another number, is the formula at that number
pub at_other : (e : Env) (j i : ℕ) (z w : ℤ) (t p : Tree) → HasSort t Int → IsClosed t → int_of (with_any j z e) t ≡ w → is_free (var.Any j) p ≡ false → value (with_any j z e) (at_term i t p) ≡ value (bind i w e) p
at_other e j i z w t p sort closed is new =
    at_value (with_any j z e) i t p sort closed ∙ ap (λ n. value (bind i n (with_any j z e)) p) is ∙ bound_same j i z w e p new

-- ---- admissible environments
in_range : (j : ℕ) (z : ℤ) (e : Env) → ((v : Var) (n : ℕ) → greatest v ≡ Some n → IsUpTo n (e.int v)) → (v : Var) (n : ℕ) → greatest v ≡ Some n → IsUpTo n ((with_any j z e).int v)
in_range j z e h (var.Entry x) n k = h (var.Entry x) n k
in_range j z e h (var.Now x) n k = h (var.Now x) n k
in_range j z e h (var.After x i) n k = h (var.After x i) n k
in_range j z e h var.MemEntry n k = none_some n k
in_range j z e h var.Mem n k = none_some n k
in_range j z e h (var.MemAfter i) n k = none_some n k
in_range j z e h (var.In i) n k = h (var.In i) n k
in_range j z e h (var.SlotHigh i) n k = h (var.SlotHigh i) n k
in_range j z e h (var.SlotLow i) n k = h (var.SlotLow i) n k
in_range j z e h (var.Any i) n k = none_some n k
in_range j z e h (var.Bound i) n k = none_some n k

meets : (image : ImageMap) (j : ℕ) (z : ℤ) (e : Env) (cs : List Change) → AllByRecursion IsProperChange cs → AllByRecursion (MeetsChange image e) cs → AllByRecursion (MeetsChange image (with_any j z e)) cs
meets image j z e [] p h = tt
meets image j z e (c ∷ cs) p h = (
  record { loaded = h.0.loaded; same = λ w out. h.0.same w out ∙ sym (ap (λ v. v.map w) (value_same j z e c.earlier (p.0.fixed j))) },
  meets image j z e cs p.1 h.1,
)

pub still_admissible : (image : ImageMap) (stack : Region) (cs : List Change) (j : ℕ) (z : ℤ) (e : Env) → AllByRecursion IsProperChange cs → IsAdmissible image stack cs e → IsAdmissible image stack cs (with_any j z e)
still_admissible image stack cs j z e p h = record {
  range = in_range j z e h.range;
  memory = h.memory;
  loaded = h.loaded;
  met = all_of (MeetsChange image (with_any j z e)) cs (meets image j z e cs p (every (MeetsChange image e) cs h.met));
}

-- ---- hypotheses without `k_j`
pub hypotheses_same : (j : ℕ) (z : ℤ) (e : Env) (hs : List Tree) → some_has j hs ≡ false → AllByRecursion (IsTrueIn e) hs → AllByRecursion (IsTrueIn (with_any j z e)) hs
hypotheses_same j z e [] h is = tt
hypotheses_same j z e (p ∷ hs) h is = (ap (λ v. v.truth) (value_same j z e p (left_false _ _ h)) ∙ is.0, hypotheses_same j z e hs (right_false (is_free (var.Any j) p) _ h) is.1)

free_get : (j : ℕ) (hs : List Tree) (i : ℕ) (p : Tree) → slice_get hs i ≡ Some p → some_has j hs ≡ false → is_free (var.Any j) p ≡ false
free_get j [] i p h new = cc
free_get j (q ∷ hs) zero p h new = subst (λ t. is_free (var.Any j) t ≡ false) (same_some q p h) (left_false _ _ new)
free_get j (q ∷ hs) (suc i) p h new = free_get j hs i p h (right_false (is_free (var.Any j) q) _ new)

free_by : (j : ℕ) (hs : List Tree) (k : ℕ) (p : Tree) (b : Bool) → (if b then None else slice_get hs (k - 1)) ≡ Some p → some_has j hs ≡ false → is_free (var.Any j) p ≡ false
free_by j hs k p true h new = none_some p h
free_by j hs k p false h new = free_get j hs (k - 1) p h new

pub free_at : (j : ℕ) (hs : List Tree) (k : ℕ) (p : Tree) → hypothesis hs k ≡ Some p → some_has j hs ≡ false → is_free (var.Any j) p ≡ false
free_at j hs k p h new = free_by j hs k p (k == 0) h new
