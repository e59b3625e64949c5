-- Numbers of variables `k_j`: what a set has after some were added, and the first that isn't there.
use Rattle.std.proofs.Common.{◌≡◌, ℕ, zero, suc, ◌+◌, ◌≤◌, ◌<◌, refl, sym, ap, subst, ◌∙◌, arith, Bool, true, false, ◌||◌, ◌==◌, ◌⊎◌, inl, inr, List, [], ◌∷◌, length, take, get_or, Result, Ok, Err, IfOk, OnOk}
use Rattle.std.specs.Borrow.{Bor}
use Rattle.std.specs.Prelude.{cond}
use Rattle.std.specs.Ordering.{nat_cmp, eq_by_cmp}
use Rattle.std.specs.Cmp.{nat_cmp_total, unsigned_tied, nat_eq_equiv}
use Rattle.std.specs.FinSet as set
use Rattle.std.specs.BTreeSet as sorted
use Rattle.std.specs.BTreeSet.{BTreeSet}
use Rattle.sp_term.specs.declared.var.Var.{Var}
use Rattle.sp_term.specs.declared.var.Var.TheVariants as var
use Rattle.sp_term.specs.Tree.{Tree}
use Rattle.sp_term.specs.Free.{var_eq}
use Rattle.sp_term.specs.Conditions.{trees}
use Rattle.sp_steps.specs.Subgoals.{subgoal, some_has, occurs, IsFresh}
use Rattle.sp_rules.specs.code.Fresh.{Numbers, has, either, Gains, IsFirstAbsent}

or_left : (a b c : Bool) → ((a || b) || c) ≡ (a || (b || c))
or_left true b c = refl
or_left false b c = refl

or_false : (a : Bool) → a ≡ (a || false)
or_false true = refl
or_false false = refl

or_turn : (a b : Bool) → (a || b) ≡ (b || a)
or_turn true true = refl
or_turn true false = refl
or_turn false true = refl
or_turn false false = refl

cond_or : (a b : Bool) → cond a true b ≡ (a || b)
cond_or true b = refl
cond_or false b = refl

-- nothing was added
pub gains_nothing : (old : Numbers) → Gains old (λ _. false) old
gains_nothing old = record { each = λ j. or_false (set.contains old j) }

-- some were added, and then others
pub gains_then : (a b c : Numbers) (p q : ℕ → Bool) → Gains a p b → Gains b q c → Gains a (either p q) c
gains_then a b c p q h k = record { each = λ j. k.each j ∙ ap (λ x. x || q j) (h.each j) ∙ or_left (set.contains a j) (p j) (q j) }

-- ---- one number

tied : (i j : ℕ) → eq_by_cmp nat_cmp i j ≡ (i == j)
tied i j = unsigned_tied i j

tied_turn : (i j : ℕ) → eq_by_cmp nat_cmp j i ≡ eq_by_cmp nat_cmp i j
tied_turn i j = unsigned_tied j i ∙ nat_eq_equiv.symm j i ∙ sym (unsigned_tied i j)

pub gains_one : {A E : Type 0} (old new : Numbers) (j : ℕ) (v : Var) (r : Result A E) → v ≡ var.Any j → OnOk r (new ≡ set.insert old j) → IfOk r (λ _. Gains old (λ i. var_eq (var.Any i) v) new)
gains_one old new j v (Ok _) e h = record {
  each = λ i. ap (λ s. set.contains s i) h ∙ set.contains-insert nat_cmp_total old j i ∙ or_turn (eq_by_cmp nat_cmp i j) (set.contains old i)
      ∙ ap (λ b. set.contains old i || b) (tied i j) ∙ ap (λ w. set.contains old i || var_eq (var.Any i) w) (sym e);
}
gains_one old new j v (Err _) e h = tt

-- a set's answers, and a number put in
pub seen_has : (s : BTreeSet ℕ) (used : Numbers) (j : ℕ) (b : Bool) → set.from_list s.keys ≡ used → b ≡ sorted.contains nat_cmp s j → b ≡ set.contains used j
seen_has s used j b e h = h ∙ sym (set.contains-from_list nat_cmp_total s.keys j) ∙ ap (λ u. set.contains u j) e

pub seen_insert : (s t : BTreeSet ℕ) (used : Numbers) (j : ℕ) → set.from_list s.keys ≡ used → ((q : ℕ) → sorted.contains nat_cmp t q ≡ cond (eq_by_cmp nat_cmp j q) true (sorted.contains nat_cmp s q)) → set.from_list t.keys ≡ set.insert used j
seen_insert s t used j e h = set.same_set nat_cmp_total set.nat_cmp-IsAntisymmetric (set.from_list t.keys) (set.insert used j) (λ q.
    set.contains-from_list nat_cmp_total t.keys q ∙ h q ∙ cond_or (eq_by_cmp nat_cmp j q) (sorted.contains nat_cmp s q)
    ∙ (λ i. tied_turn q j i || (sym (set.contains-from_list nat_cmp_total s.keys q) ∙ ap (λ u. set.contains u q) e) i)
    ∙ sym (set.contains-insert nat_cmp_total used j q))

-- ---- a list of terms

some_more : (j : ℕ) (ts : List (Bor Tree)) (i : ℕ) (d : Bor Tree) → i < length ts → some_has j (trees (take (i + 1) ts)) ≡ (some_has j (trees (take i ts)) || has (get_or ts i d).now j)
some_more j [] i d l = absurd (omega (arith, l))
some_more j (t ∷ ts) zero d l = sym (or_false (has t.now j))
some_more j (t ∷ ts) (suc i) d l =
    ap (λ n. some_has j (trees (take n (t ∷ ts)))) (next i)
    ∙ ap (λ b. has t.now j || b) (some_more j ts i d (omega (arith, l))) ∙ sym (or_left (has t.now j) (some_has j (trees (take i ts))) (has (get_or ts i d).now j))
  where
    next : (i : ℕ) → suc i + 1 ≡ suc (i + 1)
    next i = omega arith

pub gains_more : (a b c : Numbers) (ts : List (Bor Tree)) (i : ℕ) (t : Bor Tree) → i < length ts → t ≡ get_or ts i t → Gains a (λ j. some_has j (trees (take i ts))) b → Gains b (has t.now) c → Gains a (λ j. some_has j (trees (take (i + 1) ts))) c
gains_more a b c ts i t l e h k = record {
  each = λ j. k.each j ∙ ap (λ x. x || has t.now j) (h.each j) ∙ or_left (set.contains a j) (some_has j (trees (take i ts))) (has t.now j)
      ∙ ap (λ (u : Bor Tree). set.contains a j || (some_has j (trees (take i ts)) || has u.now j)) e
      ∙ ap (λ x. set.contains a j || x) (sym (some_more j ts i t l));
}

-- ---- the first number that isn't there

low_or_is : (i n : ℕ) → i < n + 1 → (i < n) ⊎ (i ≡ n)
low_or_is i n l = grind arith

pub more_there : (used : Numbers) (j n : ℕ) → ((i : ℕ) → 1 ≤ i → i < j → set.contains used i ≡ true) → set.contains used j ≡ true → n ≡ j + 1 → (i : ℕ) → 1 ≤ i → i < n → set.contains used i ≡ true
more_there used j n h k e i p l = elim (low_or_is i j (omega (arith, l, e))) [
  | inl m ↦ h i p m
  | inr s ↦ subst (λ x. set.contains used x ≡ true) (sym s) k
]

first_fresh : (hs : List Tree) (goal : Tree) (a b c : Numbers) (j : ℕ) → a ≡ set.empty → Gains a (λ i. some_has i hs) b → Gains b (has goal) c → IsFirstAbsent c j → IsFresh (subgoal hs goal) j
first_fresh hs goal a b c j e h k f = record {
  positive = f.positive;
  new = sym (is j) ∙ f.absent;
  least = λ i p l. sym (is i) ∙ f.least i p l;
}
  where
    is : (i : ℕ) → set.contains c i ≡ occurs i (subgoal hs goal)
    is i =
        k.each i ∙ ap (λ x. x || has goal i) (h.each i)
        ∙ ap (λ x. (x || some_has i hs) || has goal i) (ap (λ s. set.contains s i) e ∙ set.contains-empty nat_cmp i)

pub first_fresh_if : {E : Type 0} (hs : List Tree) (goal : Tree) (a b c : Numbers) (r : Result ℕ E) → a ≡ set.empty → Gains a (λ i. some_has i hs) b → Gains b (has goal) c → IfOk r (λ j. IsFirstAbsent c j) → IfOk r (λ j. IsFresh (subgoal hs goal) j)
first_fresh_if hs goal a b c (Ok j) e h k f = first_fresh hs goal a b c j e h k f
first_fresh_if hs goal a b c (Err _) e h k f = tt
