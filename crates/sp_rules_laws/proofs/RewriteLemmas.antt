-- Rewriting by an equation that is true keeps values, and so truth.
use Rattle.std.proofs.Common.{ℕ, ◌≡◌, ◌≢◌, refl, sym, ◌∙◌, ap, subst, ℤ, Bool, true, false, not, true≢false, List, Option, Some, None}
use Rattle.std.specs.Prelude.{◌+ℤ◌, ◌-ℤ◌, ◌*ℤ◌, ◌&&◌, ◌||◌, int_lt, int_le, if◌then◌else◌}
use Rattle.std.specs.Ordering.{int_eq}
use Rattle.std.specs.Cmp.{signed_Decides}
use Rattle.std.specs.List.{AllByRecursion}
use Rattle.sp_base.specs.Integers.{quotient, remainder, byte_and, byte_or, byte_xor, parity, sum_between, all_between, some_between}
use Rattle.sp_term.specs.declared.var.Var.{Var}
use Rattle.sp_term.specs.declared.var.Var.TheVariants as var
use Rattle.sp_term.specs.Tree.{Tree, Literal, Truth, Variable, Add, Subtract, Multiply, Divide, Remainder, ByteAnd, ByteOr, ByteXor, Parity, Bit, Psw, If, Element, Update, Total, Equal, Less, LessOrEqual, Not, And, Or, Implies, Iff, ForAll, ForSome}
use Rattle.sp_term.specs.Free.{is_free, IsClosed}
use Rattle.sp_term.specs.Sorts.{Int, Formula, HasSort}
use Rattle.sp_term.specs.Value.{Env, value, whole, cells, fact, updated, bit, psw, bind, int_of, IsTrueIn}
use Rattle.sp_term.proofs.FreeLemmas.{value_agrees}
use Rattle.sp_term.proofs.MemoryLemmas.{other_value}
use Rattle.sp_simp.specs.Same.{tree_eq, tree_one}
use Rattle.sp_simp.proofs.ValueLemmas.{value_only}
use Rattle.sp_steps.specs.Subgoals.{hypothesis}
use Rattle.sp_steps.specs.Steps.{New, Rewrite}
use Rattle.sp_steps.specs.Rewriting.{stands_in_tree, rewritten}
use Rattle.sp_steps.specs.Rows.{sides_of, sides_of_some, rewritten_goal, rewritten_one}
use Rattle.sp_steps.specs.Soundness.{IsClosedTerm}
use Rattle.sp_rules_laws.specs.Truth.{KeepsTruth}
use Rattle.sp_rules_laws.proofs.BoolLemmas.{same_some, none_some, if_some}
use Rattle.sp_rules_laws.proofs.StateLemmas.{Gives, locally, hypothesis_true, adding}
use Rattle.sp_rules_laws.proofs.FreshLemmas.{left_false, right_false}
use Rattle.sp_rules_laws.proofs.NumberLemmas.{hypothesis_proper, proper_at}

-- a closed term doesn't depend on bound variables
not_bound : (k : ℕ) (t : Tree) → IsClosed t → (v : Var) → is_free v t ≡ true → v ≢ var.Bound k
not_bound k t closed v free e = true≢false (sym free ∙ ap (λ (w : Var). is_free w t) e ∙ closed k)

closed_value : (k : ℕ) (z : ℤ) (e : Env) (t : Tree) → IsClosed t → value (bind k z e) t ≡ value e t
closed_value k z e t closed = value_agrees t (bind k z e) e (λ v free. other_value k z e v (not_bound k t closed v free))

bound_same : (a b : Tree) → IsClosed a → IsClosed b → (k : ℕ) (z : ℤ) (e : Env) → value e a ≡ value e b → value (bind k z e) a ≡ value (bind k z e) b
bound_same a b ca cb k z e s = closed_value k z e a ca ∙ s ∙ sym (closed_value k z e b cb)

put_by : (a b t u : Tree) (e : Env) → value e a ≡ value e b → value e u ≡ value e t → (c : Bool) → tree_eq a t ≡ c → value e (if c then b else u) ≡ value e t
put_by a b t u e s h true is = sym s ∙ ap (value e) (tree_one a t is)
put_by a b t u e s h false is = h

put_or_kept : (a b t u : Tree) (e : Env) → value e a ≡ value e b → value e u ≡ value e t → value e (if tree_eq a t then b else u) ≡ value e t
put_or_kept a b t u e s h = put_by a b t u e s h (tree_eq a t) refl

-- where the two terms have one value, rewriting keeps the value
pub rewritten_value : (a b : Tree) → IsClosed a → IsClosed b → (t : Tree) (e : Env) → value e a ≡ value e b → value e (rewritten a b t) ≡ value e t
rewritten_value a b ca cb (Literal n) e s = put_or_kept a b (Literal n) (Literal n) e s refl
rewritten_value a b ca cb (Truth q) e s = put_or_kept a b (Truth q) (Truth q) e s refl
rewritten_value a b ca cb (Variable v) e s = put_or_kept a b (Variable v) (Variable v) e s refl
rewritten_value a b ca cb (Add x y) e s = put_or_kept a b (Add x y) (Add (rewritten a b x) (rewritten a b y)) e s (λ i. whole ((rewritten_value a b ca cb x e s i).int +ℤ (rewritten_value a b ca cb y e s i).int))
rewritten_value a b ca cb (Subtract x y) e s = put_or_kept a b (Subtract x y) (Subtract (rewritten a b x) (rewritten a b y)) e s (λ i. whole ((rewritten_value a b ca cb x e s i).int -ℤ (rewritten_value a b ca cb y e s i).int))
rewritten_value a b ca cb (Multiply x y) e s = put_or_kept a b (Multiply x y) (Multiply (rewritten a b x) (rewritten a b y)) e s (λ i. whole ((rewritten_value a b ca cb x e s i).int *ℤ (rewritten_value a b ca cb y e s i).int))
rewritten_value a b ca cb (Divide x y) e s = put_or_kept a b (Divide x y) (Divide (rewritten a b x) (rewritten a b y)) e s (λ i. whole (quotient (rewritten_value a b ca cb x e s i).int (rewritten_value a b ca cb y e s i).int))
rewritten_value a b ca cb (Remainder x y) e s = put_or_kept a b (Remainder x y) (Remainder (rewritten a b x) (rewritten a b y)) e s (λ i. whole (remainder (rewritten_value a b ca cb x e s i).int (rewritten_value a b ca cb y e s i).int))
rewritten_value a b ca cb (ByteAnd x y) e s = put_or_kept a b (ByteAnd x y) (ByteAnd (rewritten a b x) (rewritten a b y)) e s (λ i. whole (byte_and (rewritten_value a b ca cb x e s i).int (rewritten_value a b ca cb y e s i).int))
rewritten_value a b ca cb (ByteOr x y) e s = put_or_kept a b (ByteOr x y) (ByteOr (rewritten a b x) (rewritten a b y)) e s (λ i. whole (byte_or (rewritten_value a b ca cb x e s i).int (rewritten_value a b ca cb y e s i).int))
rewritten_value a b ca cb (ByteXor x y) e s = put_or_kept a b (ByteXor x y) (ByteXor (rewritten a b x) (rewritten a b y)) e s (λ i. whole (byte_xor (rewritten_value a b ca cb x e s i).int (rewritten_value a b ca cb y e s i).int))
rewritten_value a b ca cb (Parity x) e s = put_or_kept a b (Parity x) (Parity (rewritten a b x)) e s (λ i. whole (parity (rewritten_value a b ca cb x e s i).int))
rewritten_value a b ca cb (Bit k x) e s = put_or_kept a b (Bit k x) (Bit k (rewritten a b x)) e s (λ i. whole (bit k (rewritten_value a b ca cb x e s i).int))
rewritten_value a b ca cb (Psw x y z u v) e s = put_or_kept a b (Psw x y z u v) (Psw (rewritten a b x) (rewritten a b y) (rewritten a b z) (rewritten a b u) (rewritten a b v)) e s (λ i. whole (psw (rewritten_value a b ca cb x e s i).int (rewritten_value a b ca cb y e s i).int (rewritten_value a b ca cb z e s i).int (rewritten_value a b ca cb u e s i).int (rewritten_value a b ca cb v e s i).int))
rewritten_value a b ca cb (If p x y) e s = put_or_kept a b (If p x y) (If (rewritten a b p) (rewritten a b x) (rewritten a b y)) e s (λ i. whole (if (rewritten_value a b ca cb p e s i).truth then (rewritten_value a b ca cb x e s i).int else (rewritten_value a b ca cb y e s i).int))
rewritten_value a b ca cb (Element m x) e s = put_or_kept a b (Element m x) (Element (rewritten a b m) (rewritten a b x)) e s (λ i. whole ((rewritten_value a b ca cb m e s i).map (rewritten_value a b ca cb x e s i).int))
rewritten_value a b ca cb (Update m x y) e s = put_or_kept a b (Update m x y) (Update (rewritten a b m) (rewritten a b x) (rewritten a b y)) e s (λ i. cells (updated (rewritten_value a b ca cb m e s i).map (rewritten_value a b ca cb x e s i).int (rewritten_value a b ca cb y e s i).int))
rewritten_value a b ca cb (Total m x y) e s = put_or_kept a b (Total m x y) (Total (rewritten a b m) (rewritten a b x) (rewritten a b y)) e s (λ i. whole (sum_between (rewritten_value a b ca cb m e s i).map (rewritten_value a b ca cb x e s i).int (rewritten_value a b ca cb y e s i).int))
rewritten_value a b ca cb (Equal x y) e s = put_or_kept a b (Equal x y) (Equal (rewritten a b x) (rewritten a b y)) e s (λ i. fact (int_eq (rewritten_value a b ca cb x e s i).int (rewritten_value a b ca cb y e s i).int))
rewritten_value a b ca cb (Less x y) e s = put_or_kept a b (Less x y) (Less (rewritten a b x) (rewritten a b y)) e s (λ i. fact (int_lt (rewritten_value a b ca cb x e s i).int (rewritten_value a b ca cb y e s i).int))
rewritten_value a b ca cb (LessOrEqual x y) e s = put_or_kept a b (LessOrEqual x y) (LessOrEqual (rewritten a b x) (rewritten a b y)) e s (λ i. fact (int_le (rewritten_value a b ca cb x e s i).int (rewritten_value a b ca cb y e s i).int))
rewritten_value a b ca cb (Not p) e s = put_or_kept a b (Not p) (Not (rewritten a b p)) e s (λ i. fact (not (rewritten_value a b ca cb p e s i).truth))
rewritten_value a b ca cb (And p q) e s = put_or_kept a b (And p q) (And (rewritten a b p) (rewritten a b q)) e s (λ i. fact ((rewritten_value a b ca cb p e s i).truth && (rewritten_value a b ca cb q e s i).truth))
rewritten_value a b ca cb (Or p q) e s = put_or_kept a b (Or p q) (Or (rewritten a b p) (rewritten a b q)) e s (λ i. fact ((rewritten_value a b ca cb p e s i).truth || (rewritten_value a b ca cb q e s i).truth))
rewritten_value a b ca cb (Implies p q) e s = put_or_kept a b (Implies p q) (Implies (rewritten a b p) (rewritten a b q)) e s (λ i. fact (not (rewritten_value a b ca cb p e s i).truth || (rewritten_value a b ca cb q e s i).truth))
rewritten_value a b ca cb (Iff p q) e s = put_or_kept a b (Iff p q) (Iff (rewritten a b p) (rewritten a b q)) e s (λ i. fact (if (rewritten_value a b ca cb p e s i).truth then (rewritten_value a b ca cb q e s i).truth else not (rewritten_value a b ca cb q e s i).truth))
rewritten_value a b ca cb (ForAll k x y p) e s = put_or_kept a b (ForAll k x y p) (ForAll k (rewritten a b x) (rewritten a b y) (rewritten a b p)) e s (λ i. fact (all_between (λ n. (rewritten_value a b ca cb p (bind k n e) (bound_same a b ca cb k n e s) i).truth) (rewritten_value a b ca cb x e s i).int (rewritten_value a b ca cb y e s i).int))
rewritten_value a b ca cb (ForSome k x y p) e s = put_or_kept a b (ForSome k x y p) (ForSome k (rewritten a b x) (rewritten a b y) (rewritten a b p)) e s (λ i. fact (some_between (λ n. (rewritten_value a b ca cb p (bind k n e) (bound_same a b ca cb k n e s) i).truth) (rewritten_value a b ca cb x e s i).int (rewritten_value a b ca cb y e s i).int))

-- ---- the two sides of an equation
equal_true : (x y : ℤ) → int_eq x y ≡ true → x ≡ y
equal_true x y h = (signed_Decides x y).0 h

one_value : (e : Env) (x y : Tree) → HasSort x Int → HasSort y Int → int_eq (int_of e x) (int_of e y) ≡ true → value e x ≡ value e y
one_value e x y f g h = value_only x Int f e ∙ ap whole (equal_true (int_of e x) (int_of e y) h) ∙ sym (value_only y Int g e)

record AreSides (e : Env) (s : Tree × Tree) : Type 0 where
  pub first : IsClosed s.0
  pub second : IsClosed s.1
  pub same : value e s.0 ≡ value e s.1

sides : (e : Env) (back : Bool) (h : Tree) (s : Tree × Tree) → sides_of back h ≡ Some s → IsClosedTerm Formula h → IsTrueIn e h → AreSides e s
sides e false (Equal x y) s g right is =
    subst (AreSides e) (same_some (x, y) s g) (record { first = λ k. left_false _ _ (right.1 k); second = λ k. right_false (is_free (var.Bound k) x) _ (right.1 k); same = one_value e x y right.0.1 right.0.2 is })
sides e true (Equal x y) s g right is =
    subst (AreSides e) (same_some (y, x) s g) (record { first = λ k. right_false (is_free (var.Bound k) x) _ (right.1 k); second = λ k. left_false _ _ (right.1 k); same = sym (one_value e x y right.0.1 right.0.2 is) })
sides e false h s g right is = none_some s g
sides e true h s g right is = none_some s g

-- ---- the goal
goal_by : (e : Env) (back : Bool) (p goal : Tree) (made : List New) (o : Option (Tree × Tree)) → sides_of back p ≡ o → rewritten_goal o goal ≡ Some made → IsClosedTerm Formula p → IsTrueIn e p → AllByRecursion (Gives e) made → IsTrueIn e goal
goal_by e back p goal made (Some s) g h right is all =
    let a = sides e back p s g right is in
    let k = if_some (stands_in_tree s.0 goal) _ made h in
    sym (ap (λ v. v.truth) (rewritten_value s.0 s.1 a.first a.second goal e a.same)) ∙ (subst (AllByRecursion (Gives e)) (sym (same_some _ made k.1)) all).0 tt
goal_by e back p goal made None g h right is all = none_some made h

goal_of : (e : Env) (hs : List Tree) (k : ℕ) (back : Bool) (goal : Tree) (made : List New) (h : Option Tree) → hypothesis hs k ≡ h → rewritten_goal (sides_of_some back h) goal ≡ Some made → AllByRecursion (IsClosedTerm Formula) hs → AllByRecursion (IsTrueIn e) hs → AllByRecursion (Gives e) made → IsTrueIn e goal
goal_of e hs k back goal made (Some p) named h proper is all = goal_by e back p goal made (sides_of back p) refl h (proper_at hs k p named proper) (hypothesis_true e hs k p named is) all
goal_of e hs k back goal made None named h proper is all = none_some made h

-- ---- a hypothesis
one_by : (e : Env) (back : Bool) (p r goal : Tree) (made : List New) (o : Option (Tree × Tree)) → sides_of back p ≡ o → rewritten_one o (Some r) goal ≡ Some made → IsClosedTerm Formula p → IsTrueIn e p → IsTrueIn e r → AllByRecursion (Gives e) made → IsTrueIn e goal
one_by e back p r goal made (Some s) g h right is there all =
    let a = sides e back p s g right is in
    let k = if_some (stands_in_tree s.0 r) _ made h in
    adding e _ goal made k.1 (ap (λ v. v.truth) (rewritten_value s.0 s.1 a.first a.second r e a.same) ∙ there, tt) all
one_by e back p r goal made None g h right is there all = none_some made h

one_of : (e : Env) (hs : List Tree) (k j : ℕ) (back : Bool) (goal : Tree) (made : List New) (h r : Option Tree) → hypothesis hs k ≡ h → hypothesis hs j ≡ r → rewritten_one (sides_of_some back h) r goal ≡ Some made → AllByRecursion (IsClosedTerm Formula) hs → AllByRecursion (IsTrueIn e) hs → AllByRecursion (Gives e) made → IsTrueIn e goal
one_of e hs k j back goal made (Some p) (Some r) named there h proper is all =
    one_by e back p r goal made (sides_of back p) refl h (proper_at hs k p named proper) (hypothesis_true e hs k p named is) (hypothesis_true e hs j r there is) all
one_of e hs k j back goal made (Some p) None named there h proper is all = none_some made (no_other (sides_of back p) goal h)
  where
    no_other : (o : Option (Tree × Tree)) (goal : Tree) → rewritten_one o None goal ≡ Some made → None ≡ Some made
    no_other (Some s) goal h = h
    no_other None goal h = h
one_of e hs k j back goal made None (Some r) named there h proper is all = none_some made h
one_of e hs k j back goal made None None named there h proper is all = none_some made h

pub rewrite_keeps : (k : ℕ) (j : Option ℕ) (back : Bool) → KeepsTruth (Rewrite k j back)
rewrite_keeps k None back = locally (Rewrite k None back) (λ image stack cs g made e proper right admissible row is all.
    goal_of e g.hypotheses k back g.goal made (hypothesis g.hypotheses k) refl row (hypothesis_proper g proper) is all)
rewrite_keeps k (Some j) back = locally (Rewrite k (Some j) back) (λ image stack cs g made e proper right admissible row is all.
    one_of e g.hypotheses k j back g.goal made (hypothesis g.hypotheses k) (hypothesis g.hypotheses j) refl refl row (hypothesis_proper g proper) is all)
