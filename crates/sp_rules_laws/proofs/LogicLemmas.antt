-- The rules of logic keep truth.
use Rattle.std.proofs.Common.{ℕ, ◌≡◌, refl, sym, subst, ℤ, true, false, not, true≢false, List, [], Option, Some, None, arith}
use Rattle.std.specs.Prelude.{◌||◌, int_le, int_lt}
use Rattle.std.specs.Ordering.{int_eq}
use Rattle.std.specs.List.{AllByRecursion}
use Rattle.std.proofs.lemmas.Int.{ints}
use Rattle.sp_term.specs.Tree.{Tree, Truth, Equal, Not, And, Or, Implies, Iff}
use Rattle.sp_term.specs.Value.{Env, value, int_of, IsTrueIn}
use Rattle.sp_simp.specs.Same.{tree_eq, tree_one}
use Rattle.sp_steps.specs.declared.side.Side.{Side}
use Rattle.sp_steps.specs.declared.side.Side.TheVariants as side
use Rattle.sp_steps.specs.Subgoals.{hypothesis}
use Rattle.sp_steps.specs.Steps.{New, Close, Split, Intro, OneSide, Unpack, UseBoth, CasesOf, CasesOn, Cut}
use Rattle.sp_steps.specs.Rows.{closed_by, split_goal, introduced, one_of, on_side, unpacked, unpacked_one, unpacked_not, used, used_one, cases_of, cases_of_one}
use Rattle.sp_rules_laws.specs.Truth.{KeepsTruth}
use Rattle.sp_rules_laws.proofs.BoolLemmas.{same_some, none_some, if_some, and_from, and_left, and_right, or_left, or_right, or_cases, implies_from, implies_to, not_from, not_to, iff_from, iff_left, iff_right, either}
use Rattle.sp_rules_laws.proofs.StateLemmas.{Gives, locally, hypothesis_true, adding}

abbrev AllTrue : Env → List Tree → Type 0
AllTrue e hs = AllByRecursion (IsTrueIn e) hs

-- what is made, in the place of what it is equal to
abbrev Made : Env → List New → Type 0
Made e made = AllByRecursion (Gives e) made

made_is : (e : Env) (a made : List New) → Some a ≡ Some made → Made e made → Made e a
made_is e a made h all = subst (Made e) (sym (same_some a made h)) all

-- ---- close
close_one : (e : Env) (p goal : Tree) (made : List New) → closed_by (Some p) goal ≡ Some made → IsTrueIn e p → IsTrueIn e goal
close_one e p goal made h is =
    or_cases (tree_eq p goal) (tree_eq p (Truth false)) (if_some (tree_eq p goal || tree_eq p (Truth false)) (Some []) made h).0
    (λ k. subst (IsTrueIn e) (tree_one p goal k) is)
    (λ k. let f : false ≡ true = subst (IsTrueIn e) (tree_one p (Truth false) k) is in absurd (true≢false (sym f)))

close_by : (e : Env) (hs : List Tree) (k : ℕ) (goal : Tree) (made : List New) (h : Option Tree) → hypothesis hs k ≡ h → closed_by h goal ≡ Some made → AllTrue e hs → IsTrueIn e goal
close_by e hs k goal made (Some p) is h given = close_one e p goal made h (hypothesis_true e hs k p is given)
close_by e hs k goal made None is h given = none_some made h

pub close_keeps : (k : ℕ) → KeepsTruth (Close k)
close_keeps k = locally (Close k) (λ image stack cs g made e proper right admissible row is all. close_by e g.hypotheses k g.goal made (hypothesis g.hypotheses k) refl row is)

-- ---- split
at_both : (x y : ℤ) → int_le x y ≡ true → int_le y x ≡ true → int_eq x y ≡ true
at_both x y h k = grind (arith, ints)

split_by : (e : Env) (goal : Tree) (made : List New) → split_goal goal ≡ Some made → Made e made → IsTrueIn e goal
split_by e (And p q) made h all = let a = made_is e _ made h all in and_from (value e p).truth (value e q).truth (a.0 tt) (a.1.0 tt)
split_by e (Iff p q) made h all = let a = made_is e _ made h all in iff_from (value e p).truth (value e q).truth (a.0 tt) (a.1.0 tt)
split_by e (Equal x y) made h all = let a = made_is e _ made h all in at_both (int_of e x) (int_of e y) (a.0 tt) (a.1.0 tt)
split_by e goal made h all = none_some made h

pub split_keeps : KeepsTruth Split
split_keeps = locally Split (λ image stack cs g made e proper right admissible row is all. split_by e g.goal made row all)

-- ---- intro
intro_by : (e : Env) (goal : Tree) (made : List New) → introduced goal ≡ Some made → Made e made → IsTrueIn e goal
intro_by e (Implies p q) made h all = let a = made_is e _ made h all in implies_from (value e p).truth (value e q).truth (λ k. a.0 (k, tt))
intro_by e (Not p) made h all = let a = made_is e _ made h all in not_from (value e p).truth (λ k. a.0 (k, tt))
intro_by e goal made h all = none_some made h

pub intro_keeps : KeepsTruth Intro
intro_keeps = locally Intro (λ image stack cs g made e proper right admissible row is all. intro_by e g.goal made row all)

-- ---- side
side_or : (e : Env) (s : Side) (p q : Tree) → IsTrueIn e (one_of s p q) → IsTrueIn e (Or p q)
side_or e side.Left p q h = or_left (value e p).truth (value e q).truth h
side_or e side.Right p q h = or_right (value e p).truth (value e q).truth h

side_by : (e : Env) (s : Side) (goal : Tree) (made : List New) → on_side s goal ≡ Some made → Made e made → IsTrueIn e goal
side_by e s (Or p q) made h all = let a = made_is e _ made h all in side_or e s p q (a.0 tt)
side_by e s goal made h all = none_some made h

pub side_keeps : (s : Side) → KeepsTruth (OneSide s)
side_keeps s = locally (OneSide s) (λ image stack cs g made e proper right admissible row is all. side_by e s g.goal made row all)

-- ---- unpack
apart : (x y : ℤ) → not (int_eq x y) ≡ true → int_lt x y || int_lt y x ≡ true
apart x y h = grind (arith, ints)

unpack_not : (e : Env) (p goal : Tree) (made : List New) → unpacked_not p goal ≡ Some made → IsTrueIn e (Not p) → Made e made → IsTrueIn e goal
unpack_not e (Equal x y) goal made h is all = adding e _ goal made h (apart (int_of e x) (int_of e y) is, tt) all
unpack_not e p goal made h is all = none_some made h

unpack_one : (e : Env) (p goal : Tree) (made : List New) → unpacked_one p goal ≡ Some made → IsTrueIn e p → Made e made → IsTrueIn e goal
unpack_one e (And p q) goal made h is all = adding e _ goal made h (and_left (value e p).truth (value e q).truth is, (and_right (value e p).truth (value e q).truth is, tt)) all
unpack_one e (Iff p q) goal made h is all = adding e _ goal made h (iff_left (value e p).truth (value e q).truth is, (iff_right (value e p).truth (value e q).truth is, tt)) all
unpack_one e (Not p) goal made h is all = unpack_not e p goal made h is all
unpack_one e p goal made h is all = none_some made h

unpack_by : (e : Env) (hs : List Tree) (k : ℕ) (goal : Tree) (made : List New) (h : Option Tree) → hypothesis hs k ≡ h → unpacked h goal ≡ Some made → AllTrue e hs → Made e made → IsTrueIn e goal
unpack_by e hs k goal made (Some p) is h given all = unpack_one e p goal made h (hypothesis_true e hs k p is given) all
unpack_by e hs k goal made None is h given all = none_some made h

pub unpack_keeps : (k : ℕ) → KeepsTruth (Unpack k)
unpack_keeps k = locally (Unpack k) (λ image stack cs g made e proper right admissible row is all. unpack_by e g.hypotheses k g.goal made (hypothesis g.hypotheses k) refl row is all)

-- ---- use
use_one : (e : Env) (p r goal : Tree) (made : List New) → used_one p r goal ≡ Some made → IsTrueIn e p → IsTrueIn e r → Made e made → IsTrueIn e goal
use_one e (Implies p q) r goal made h is here all =
    let k = if_some (tree_eq p r) _ made h in
    adding e _ goal made k.1 (implies_to (value e p).truth (value e q).truth is (subst (IsTrueIn e) (sym (tree_one p r k.0)) here), tt) all
use_one e (Not p) r goal made h is here all =
    let k = if_some (tree_eq p r) _ made h in
    adding e _ goal made k.1 (not_to (value e p).truth is (subst (IsTrueIn e) (sym (tree_one p r k.0)) here), tt) all
use_one e p r goal made h is here all = none_some made h

use_by : (e : Env) (hs : List Tree) (k j : ℕ) (goal : Tree) (made : List New) (a b : Option Tree) → hypothesis hs k ≡ a → hypothesis hs j ≡ b → used a b goal ≡ Some made → AllTrue e hs → Made e made → IsTrueIn e goal
use_by e hs k j goal made (Some p) (Some r) f g h given all = use_one e p r goal made h (hypothesis_true e hs k p f given) (hypothesis_true e hs j r g given) all
use_by e hs k j goal made (Some p) None f g h given all = none_some made h
use_by e hs k j goal made None b f g h given all = none_some made h

pub use_keeps : (k j : ℕ) → KeepsTruth (UseBoth k j)
use_keeps k j = locally (UseBoth k j) (λ image stack cs g made e proper right admissible row is all. use_by e g.hypotheses k j g.goal made (hypothesis g.hypotheses k) (hypothesis g.hypotheses j) refl refl row is all)

-- ---- cases
cases_one : (e : Env) (p goal : Tree) (made : List New) → cases_of_one p goal ≡ Some made → IsTrueIn e p → Made e made → IsTrueIn e goal
cases_one e (Or p q) goal made h is all = let a = made_is e _ made h all in or_cases (value e p).truth (value e q).truth is (λ k. a.0 (k, tt)) (λ k. a.1.0 (k, tt))
cases_one e p goal made h is all = none_some made h

cases_by : (e : Env) (hs : List Tree) (k : ℕ) (goal : Tree) (made : List New) (h : Option Tree) → hypothesis hs k ≡ h → cases_of h goal ≡ Some made → AllTrue e hs → Made e made → IsTrueIn e goal
cases_by e hs k goal made (Some p) is h given all = cases_one e p goal made h (hypothesis_true e hs k p is given) all
cases_by e hs k goal made None is h given all = none_some made h

pub cases_of_keeps : (k : ℕ) → KeepsTruth (CasesOf k)
cases_of_keeps k = locally (CasesOf k) (λ image stack cs g made e proper right admissible row is all. cases_by e g.hypotheses k g.goal made (hypothesis g.hypotheses k) refl row is all)

pub cases_on_keeps : (p : Tree) → KeepsTruth (CasesOn p)
cases_on_keeps p = locally (CasesOn p) (λ image stack cs g made e proper right admissible row is all.
    let a = made_is e _ made row all in either (value e p).truth (λ k. a.0 (k, tt)) (λ k. a.1.0 (k, tt)))

-- ---- cut
pub cut_keeps : (p : Tree) → KeepsTruth (Cut p)
cut_keeps p = locally (Cut p) (λ image stack cs g made e proper right admissible row is all.
    let a = made_is e _ made row all in a.1.0 (a.0 tt, tt))
