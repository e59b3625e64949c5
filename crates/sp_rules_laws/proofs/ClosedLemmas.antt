-- Closed terms of a sort, and what stays closed.
use Rattle.std.proofs.Common.{ℕ, ◌≤◌, ◌≡◌, refl, sym, ◌∙◌, ap, subst, ℤ, Bool, true, false, not, true≢false, inl, inr}
use Rattle.std.specs.Prelude.{◌&&◌, ◌||◌, if◌then◌else◌}
use Rattle.sp_term.specs.declared.var.Var.TheVariants as var
use Rattle.sp_term.specs.Tree.{Tree, Literal, Truth, Variable, Add, Subtract, Multiply, Divide, Remainder, ByteAnd, ByteOr, ByteXor, Parity, Bit, Psw, If, Element, Update, Total, Equal, Less, LessOrEqual, Not, And, Or, Implies, Iff, ForAll, ForSome}
use Rattle.sp_term.specs.Free.{var_eq, is_free, IsClosed}
use Rattle.sp_term.specs.Sorts.{Sort, Int, Formula, Memory, HasSort}
use Rattle.sp_term.proofs.SortLemmas.{one_sort, replaced_sort, free-replaced}
use Rattle.sp_simp.specs.Same.{tree_eq, tree_one}
use Rattle.sp_steps.specs.Rewriting.{rewritten}
use Rattle.sp_steps.specs.Rows.{at_term}
use Rattle.sp_steps.specs.Soundness.{IsClosedTerm}
use Rattle.sp_rules_laws.proofs.FreshLemmas.{left_false, right_false}

pub both_false : (a b : Bool) → a ≡ false → b ≡ false → a || b ≡ false
both_false true b h k = h
both_false false b h k = k

-- a closed term of a sort; a record, so that the term is read from it
pub record Closed (s : Sort) (t : Tree) : Type 0 where
  pub is : IsClosedTerm s t

pub closed : {s : Sort} {t : Tree} → IsClosedTerm s t → Closed s t
closed h = record { is = h }

-- ---- terms that are made
pub literal : (n : ℤ) → Closed Int (Literal n)
literal n = closed (refl, λ k. refl)

pub truth : (b : Bool) → Closed Formula (Truth b)
truth b = closed (refl, λ k. refl)

pub any : (j : ℕ) → 1 ≤ j → Closed Int (Variable (var.Any j))
any j h = closed ((refl, h), λ k. refl)

pub negation : {p : Tree} → Closed Formula p → Closed Formula (Not p)
negation h = closed ((refl, h.is.0), h.is.1)

pub bit : (k : ℕ) {x : Tree} → k ≤ 7 → Closed Int x → Closed Int (Bit k x)
bit k l h = closed ((refl, l, h.is.0), h.is.1)

pub parity : {x : Tree} → Closed Int x → Closed Int (Parity x)
parity h = closed ((refl, h.is.0), h.is.1)

pub add : {x y : Tree} → Closed Int x → Closed Int y → Closed Int (Add x y)
add {x = x} {y = y} h g = closed ((refl, h.is.0, g.is.0), λ k. both_false (is_free (var.Bound k) x) (is_free (var.Bound k) y) (h.is.1 k) (g.is.1 k))

pub subtract : {x y : Tree} → Closed Int x → Closed Int y → Closed Int (Subtract x y)
subtract {x = x} {y = y} h g = closed ((refl, h.is.0, g.is.0), λ k. both_false (is_free (var.Bound k) x) (is_free (var.Bound k) y) (h.is.1 k) (g.is.1 k))

pub multiply : {x y : Tree} → Closed Int x → Closed Int y → Closed Int (Multiply x y)
multiply {x = x} {y = y} h g = closed ((refl, h.is.0, g.is.0), λ k. both_false (is_free (var.Bound k) x) (is_free (var.Bound k) y) (h.is.1 k) (g.is.1 k))

pub divide : {x y : Tree} → Closed Int x → Closed Int y → Closed Int (Divide x y)
divide {x = x} {y = y} h g = closed ((refl, h.is.0, g.is.0), λ k. both_false (is_free (var.Bound k) x) (is_free (var.Bound k) y) (h.is.1 k) (g.is.1 k))

pub rest : {x y : Tree} → Closed Int x → Closed Int y → Closed Int (Remainder x y)
rest {x = x} {y = y} h g = closed ((refl, h.is.0, g.is.0), λ k. both_false (is_free (var.Bound k) x) (is_free (var.Bound k) y) (h.is.1 k) (g.is.1 k))

pub element : {x y : Tree} → Closed Memory x → Closed Int y → Closed Int (Element x y)
element {x = x} {y = y} h g = closed ((refl, h.is.0, g.is.0), λ k. both_false (is_free (var.Bound k) x) (is_free (var.Bound k) y) (h.is.1 k) (g.is.1 k))

pub equal : {x y : Tree} → Closed Int x → Closed Int y → Closed Formula (Equal x y)
equal {x = x} {y = y} h g = closed ((refl, h.is.0, g.is.0), λ k. both_false (is_free (var.Bound k) x) (is_free (var.Bound k) y) (h.is.1 k) (g.is.1 k))

pub less : {x y : Tree} → Closed Int x → Closed Int y → Closed Formula (Less x y)
less {x = x} {y = y} h g = closed ((refl, h.is.0, g.is.0), λ k. both_false (is_free (var.Bound k) x) (is_free (var.Bound k) y) (h.is.1 k) (g.is.1 k))

pub at_most : {x y : Tree} → Closed Int x → Closed Int y → Closed Formula (LessOrEqual x y)
at_most {x = x} {y = y} h g = closed ((refl, h.is.0, g.is.0), λ k. both_false (is_free (var.Bound k) x) (is_free (var.Bound k) y) (h.is.1 k) (g.is.1 k))

pub both : {x y : Tree} → Closed Formula x → Closed Formula y → Closed Formula (And x y)
both {x = x} {y = y} h g = closed ((refl, h.is.0, g.is.0), λ k. both_false (is_free (var.Bound k) x) (is_free (var.Bound k) y) (h.is.1 k) (g.is.1 k))

pub one_or : {x y : Tree} → Closed Formula x → Closed Formula y → Closed Formula (Or x y)
one_or {x = x} {y = y} h g = closed ((refl, h.is.0, g.is.0), λ k. both_false (is_free (var.Bound k) x) (is_free (var.Bound k) y) (h.is.1 k) (g.is.1 k))

pub implies : {x y : Tree} → Closed Formula x → Closed Formula y → Closed Formula (Implies x y)
implies {x = x} {y = y} h g = closed ((refl, h.is.0, g.is.0), λ k. both_false (is_free (var.Bound k) x) (is_free (var.Bound k) y) (h.is.1 k) (g.is.1 k))

pub total : {m x y : Tree} → Closed Memory m → Closed Int x → Closed Int y → Closed Int (Total m x y)
total {m = m} {x = x} {y = y} h g f = closed ((refl, h.is.0, g.is.0, f.is.0), λ k. both_false (is_free (var.Bound k) m || is_free (var.Bound k) x) (is_free (var.Bound k) y) (both_false (is_free (var.Bound k) m) (is_free (var.Bound k) x) (h.is.1 k) (g.is.1 k)) (f.is.1 k))

-- ---- parts
pub and_parts : (x y : Tree) → Closed Formula (And x y) → Closed Formula x × Closed Formula y
and_parts x y h = (closed (h.is.0.1, λ k. left_false _ _ (h.is.1 k)), closed (h.is.0.2, λ k. right_false (is_free (var.Bound k) x) _ (h.is.1 k)))

pub or_parts : (x y : Tree) → Closed Formula (Or x y) → Closed Formula x × Closed Formula y
or_parts x y h = (closed (h.is.0.1, λ k. left_false _ _ (h.is.1 k)), closed (h.is.0.2, λ k. right_false (is_free (var.Bound k) x) _ (h.is.1 k)))

pub implies_parts : (x y : Tree) → Closed Formula (Implies x y) → Closed Formula x × Closed Formula y
implies_parts x y h = (closed (h.is.0.1, λ k. left_false _ _ (h.is.1 k)), closed (h.is.0.2, λ k. right_false (is_free (var.Bound k) x) _ (h.is.1 k)))

pub iff_parts : (x y : Tree) → Closed Formula (Iff x y) → Closed Formula x × Closed Formula y
iff_parts x y h = (closed (h.is.0.1, λ k. left_false _ _ (h.is.1 k)), closed (h.is.0.2, λ k. right_false (is_free (var.Bound k) x) _ (h.is.1 k)))

pub equal_parts : (x y : Tree) → Closed Formula (Equal x y) → Closed Int x × Closed Int y
equal_parts x y h = (closed (h.is.0.1, λ k. left_false _ _ (h.is.1 k)), closed (h.is.0.2, λ k. right_false (is_free (var.Bound k) x) _ (h.is.1 k)))

pub element_parts : (x y : Tree) → Closed Int (Element x y) → Closed Memory x × Closed Int y
element_parts x y h = (closed (h.is.0.1, λ k. left_false _ _ (h.is.1 k)), closed (h.is.0.2, λ k. right_false (is_free (var.Bound k) x) _ (h.is.1 k)))

pub byteand_parts : (x y : Tree) → Closed Int (ByteAnd x y) → Closed Int x × Closed Int y
byteand_parts x y h = (closed (h.is.0.1, λ k. left_false _ _ (h.is.1 k)), closed (h.is.0.2, λ k. right_false (is_free (var.Bound k) x) _ (h.is.1 k)))

pub byteor_parts : (x y : Tree) → Closed Int (ByteOr x y) → Closed Int x × Closed Int y
byteor_parts x y h = (closed (h.is.0.1, λ k. left_false _ _ (h.is.1 k)), closed (h.is.0.2, λ k. right_false (is_free (var.Bound k) x) _ (h.is.1 k)))

pub bytexor_parts : (x y : Tree) → Closed Int (ByteXor x y) → Closed Int x × Closed Int y
bytexor_parts x y h = (closed (h.is.0.1, λ k. left_false _ _ (h.is.1 k)), closed (h.is.0.2, λ k. right_false (is_free (var.Bound k) x) _ (h.is.1 k)))

pub total_parts : (m x y : Tree) → Closed Int (Total m x y) → Closed Memory m × Closed Int x × Closed Int y
total_parts m x y h = (closed (h.is.0.1, λ k. left_false _ _ (left_false _ _ (h.is.1 k))), closed (h.is.0.2, λ k. right_false (is_free (var.Bound k) m) _ (left_false _ _ (h.is.1 k))), closed (h.is.0.3, λ k. right_false (is_free (var.Bound k) m || is_free (var.Bound k) x) _ (h.is.1 k)))

pub update_parts : (m x y : Tree) → Closed Memory (Update m x y) → Closed Memory m × Closed Int x × Closed Int y
update_parts m x y h = (closed (h.is.0.1, λ k. left_false _ _ (left_false _ _ (h.is.1 k))), closed (h.is.0.2, λ k. right_false (is_free (var.Bound k) m) _ (left_false _ _ (h.is.1 k))), closed (h.is.0.3, λ k. right_false (is_free (var.Bound k) m || is_free (var.Bound k) x) _ (h.is.1 k)))

pub if_parts : (m x y : Tree) → Closed Int (If m x y) → Closed Formula m × Closed Int x × Closed Int y
if_parts m x y h = (closed (h.is.0.1, λ k. left_false _ _ (left_false _ _ (h.is.1 k))), closed (h.is.0.2, λ k. right_false (is_free (var.Bound k) m) _ (left_false _ _ (h.is.1 k))), closed (h.is.0.3, λ k. right_false (is_free (var.Bound k) m || is_free (var.Bound k) x) _ (h.is.1 k)))

pub not_part : (p : Tree) → Closed Formula (Not p) → Closed Formula p
not_part p h = closed (h.is.0.1, h.is.1)

-- ---- quantifiers
and_true : (a b : Bool) → a ≡ true → b ≡ true → a && b ≡ true
and_true true b h k = k
and_true false b h k = h

never : (b : Bool) → b ≡ true → b ≡ false → false ≡ true
never b h k = sym k ∙ h

-- the formula of a quantifier with a closed term in the place of its variable
at_free : (i k : ℕ) (t p : Tree) → IsClosed t → not (var_eq (var.Bound k) (var.Bound i)) && is_free (var.Bound k) p ≡ false → (b : Bool) → is_free (var.Bound k) (at_term i t p) ≡ b → b ≡ false
at_free i k t p closed bound true h =
    elim (free-replaced p (var.Bound k) (var.Bound i) t h) [
      | inl r ↦ absurd (true≢false (sym (never _ (and_true (not (var_eq (var.Bound k) (var.Bound i))) (is_free (var.Bound k) p) (ap not r.1) r.0) bound)))
      | inr r ↦ absurd (true≢false (sym (never _ r (closed k))))
    ]
at_free i k t p closed bound false h = refl

pub at_closed : (i : ℕ) (t p : Tree) → IsClosedTerm Int t → HasSort p Formula → ((k : ℕ) → not (var_eq (var.Bound k) (var.Bound i)) && is_free (var.Bound k) p ≡ false) → IsClosedTerm Formula (at_term i t p)
at_closed i t p term sort bound = (replaced_sort p (var.Bound i) t Formula term.0 sort, λ k. at_free i k t p term.1 (bound k) (is_free (var.Bound k) (at_term i t p)) refl)

-- the two ends, and the formula at each closed term
pub all_parts : (i : ℕ) (x y p : Tree) → Closed Formula (ForAll i x y p) → Closed Int x × Closed Int y × ((t : Tree) → Closed Int t → Closed Formula (at_term i t p))
all_parts i x y p h = (
  closed (h.is.0.2, λ k. left_false _ _ (left_false _ _ (h.is.1 k))),
  closed (h.is.0.3, λ k. right_false (is_free (var.Bound k) x) _ (left_false _ _ (h.is.1 k))),
  λ t term. closed (at_closed i t p term.is h.is.0.4 (λ k. right_false (is_free (var.Bound k) x || is_free (var.Bound k) y) _ (h.is.1 k))),
)

pub some_parts : (i : ℕ) (x y p : Tree) → Closed Formula (ForSome i x y p) → Closed Int x × Closed Int y × ((t : Tree) → Closed Int t → Closed Formula (at_term i t p))
some_parts i x y p h = (
  closed (h.is.0.2, λ k. left_false _ _ (left_false _ _ (h.is.1 k))),
  closed (h.is.0.3, λ k. right_false (is_free (var.Bound k) x) _ (left_false _ _ (h.is.1 k))),
  λ t term. closed (at_closed i t p term.is h.is.0.4 (λ k. right_false (is_free (var.Bound k) x || is_free (var.Bound k) y) _ (h.is.1 k))),
)

-- ---- rewriting
put_sort : (a b t u : Tree) (s : Sort) → HasSort a Int → HasSort b Int → HasSort t s → HasSort u s → (c : Bool) → tree_eq a t ≡ c → HasSort (if c then b else u) s
put_sort a b t u s fa fb h g true is = subst (HasSort b) (one_sort a Int s fa (subst (λ r. HasSort r s) (sym (tree_one a t is)) h)) fb
put_sort a b t u s fa fb h g false is = g

put : (a b t u : Tree) (s : Sort) → HasSort a Int → HasSort b Int → HasSort t s → HasSort u s → HasSort (if tree_eq a t then b else u) s
put a b t u s fa fb h g = put_sort a b t u s fa fb h g (tree_eq a t) refl

rewritten_sort : (a b : Tree) → HasSort a Int → HasSort b Int → (t : Tree) (s : Sort) → HasSort t s → HasSort (rewritten a b t) s
rewritten_sort a b fa fb (Literal n) s h = put a b (Literal n) (Literal n) s fa fb h h
rewritten_sort a b fa fb (Truth t) s h = put a b (Truth t) (Truth t) s fa fb h h
rewritten_sort a b fa fb (Variable w) s h = put a b (Variable w) (Variable w) s fa fb h h
rewritten_sort a b fa fb (Add x y) s h = put a b (Add x y) (Add (rewritten a b x) (rewritten a b y)) s fa fb h (h.0, rewritten_sort a b fa fb x Int h.1, rewritten_sort a b fa fb y Int h.2)
rewritten_sort a b fa fb (Subtract x y) s h = put a b (Subtract x y) (Subtract (rewritten a b x) (rewritten a b y)) s fa fb h (h.0, rewritten_sort a b fa fb x Int h.1, rewritten_sort a b fa fb y Int h.2)
rewritten_sort a b fa fb (Multiply x y) s h = put a b (Multiply x y) (Multiply (rewritten a b x) (rewritten a b y)) s fa fb h (h.0, rewritten_sort a b fa fb x Int h.1, rewritten_sort a b fa fb y Int h.2)
rewritten_sort a b fa fb (Divide x y) s h = put a b (Divide x y) (Divide (rewritten a b x) (rewritten a b y)) s fa fb h (h.0, rewritten_sort a b fa fb x Int h.1, rewritten_sort a b fa fb y Int h.2)
rewritten_sort a b fa fb (Remainder x y) s h = put a b (Remainder x y) (Remainder (rewritten a b x) (rewritten a b y)) s fa fb h (h.0, rewritten_sort a b fa fb x Int h.1, rewritten_sort a b fa fb y Int h.2)
rewritten_sort a b fa fb (ByteAnd x y) s h = put a b (ByteAnd x y) (ByteAnd (rewritten a b x) (rewritten a b y)) s fa fb h (h.0, rewritten_sort a b fa fb x Int h.1, rewritten_sort a b fa fb y Int h.2)
rewritten_sort a b fa fb (ByteOr x y) s h = put a b (ByteOr x y) (ByteOr (rewritten a b x) (rewritten a b y)) s fa fb h (h.0, rewritten_sort a b fa fb x Int h.1, rewritten_sort a b fa fb y Int h.2)
rewritten_sort a b fa fb (ByteXor x y) s h = put a b (ByteXor x y) (ByteXor (rewritten a b x) (rewritten a b y)) s fa fb h (h.0, rewritten_sort a b fa fb x Int h.1, rewritten_sort a b fa fb y Int h.2)
rewritten_sort a b fa fb (Equal x y) s h = put a b (Equal x y) (Equal (rewritten a b x) (rewritten a b y)) s fa fb h (h.0, rewritten_sort a b fa fb x Int h.1, rewritten_sort a b fa fb y Int h.2)
rewritten_sort a b fa fb (Less x y) s h = put a b (Less x y) (Less (rewritten a b x) (rewritten a b y)) s fa fb h (h.0, rewritten_sort a b fa fb x Int h.1, rewritten_sort a b fa fb y Int h.2)
rewritten_sort a b fa fb (LessOrEqual x y) s h = put a b (LessOrEqual x y) (LessOrEqual (rewritten a b x) (rewritten a b y)) s fa fb h (h.0, rewritten_sort a b fa fb x Int h.1, rewritten_sort a b fa fb y Int h.2)
rewritten_sort a b fa fb (Parity x) s h = put a b (Parity x) (Parity (rewritten a b x)) s fa fb h (h.0, rewritten_sort a b fa fb x Int h.1)
rewritten_sort a b fa fb (Bit k x) s h = put a b (Bit k x) (Bit k (rewritten a b x)) s fa fb h (h.0, h.1, rewritten_sort a b fa fb x Int h.2)
rewritten_sort a b fa fb (Psw x y z u v) s h = put a b (Psw x y z u v) (Psw (rewritten a b x) (rewritten a b y) (rewritten a b z) (rewritten a b u) (rewritten a b v)) s fa fb h (h.0, rewritten_sort a b fa fb x Int h.1, rewritten_sort a b fa fb y Int h.2, rewritten_sort a b fa fb z Int h.3, rewritten_sort a b fa fb u Int h.4, rewritten_sort a b fa fb v Int h.5)
rewritten_sort a b fa fb (If p x y) s h = put a b (If p x y) (If (rewritten a b p) (rewritten a b x) (rewritten a b y)) s fa fb h (h.0, rewritten_sort a b fa fb p Formula h.1, rewritten_sort a b fa fb x Int h.2, rewritten_sort a b fa fb y Int h.3)
rewritten_sort a b fa fb (Element m x) s h = put a b (Element m x) (Element (rewritten a b m) (rewritten a b x)) s fa fb h (h.0, rewritten_sort a b fa fb m Memory h.1, rewritten_sort a b fa fb x Int h.2)
rewritten_sort a b fa fb (Update m x y) s h = put a b (Update m x y) (Update (rewritten a b m) (rewritten a b x) (rewritten a b y)) s fa fb h (h.0, rewritten_sort a b fa fb m Memory h.1, rewritten_sort a b fa fb x Int h.2, rewritten_sort a b fa fb y Int h.3)
rewritten_sort a b fa fb (Total m x y) s h = put a b (Total m x y) (Total (rewritten a b m) (rewritten a b x) (rewritten a b y)) s fa fb h (h.0, rewritten_sort a b fa fb m Memory h.1, rewritten_sort a b fa fb x Int h.2, rewritten_sort a b fa fb y Int h.3)
rewritten_sort a b fa fb (Not p) s h = put a b (Not p) (Not (rewritten a b p)) s fa fb h (h.0, rewritten_sort a b fa fb p Formula h.1)
rewritten_sort a b fa fb (And p q) s h = put a b (And p q) (And (rewritten a b p) (rewritten a b q)) s fa fb h (h.0, rewritten_sort a b fa fb p Formula h.1, rewritten_sort a b fa fb q Formula h.2)
rewritten_sort a b fa fb (Or p q) s h = put a b (Or p q) (Or (rewritten a b p) (rewritten a b q)) s fa fb h (h.0, rewritten_sort a b fa fb p Formula h.1, rewritten_sort a b fa fb q Formula h.2)
rewritten_sort a b fa fb (Implies p q) s h = put a b (Implies p q) (Implies (rewritten a b p) (rewritten a b q)) s fa fb h (h.0, rewritten_sort a b fa fb p Formula h.1, rewritten_sort a b fa fb q Formula h.2)
rewritten_sort a b fa fb (Iff p q) s h = put a b (Iff p q) (Iff (rewritten a b p) (rewritten a b q)) s fa fb h (h.0, rewritten_sort a b fa fb p Formula h.1, rewritten_sort a b fa fb q Formula h.2)
rewritten_sort a b fa fb (ForAll k x y p) s h = put a b (ForAll k x y p) (ForAll k (rewritten a b x) (rewritten a b y) (rewritten a b p)) s fa fb h (h.0, h.1, rewritten_sort a b fa fb x Int h.2, rewritten_sort a b fa fb y Int h.3, rewritten_sort a b fa fb p Formula h.4)
rewritten_sort a b fa fb (ForSome k x y p) s h = put a b (ForSome k x y p) (ForSome k (rewritten a b x) (rewritten a b y) (rewritten a b p)) s fa fb h (h.0, h.1, rewritten_sort a b fa fb x Int h.2, rewritten_sort a b fa fb y Int h.3, rewritten_sort a b fa fb p Formula h.4)

kept_free : (a b t u : Tree) (k : ℕ) → IsClosed b → is_free (var.Bound k) u ≡ false → (c : Bool) → tree_eq a t ≡ c → is_free (var.Bound k) (if c then b else u) ≡ false
kept_free a b t u k closed h true is = closed k
kept_free a b t u k closed h false is = h

kept : (a b t u : Tree) (k : ℕ) → IsClosed b → is_free (var.Bound k) u ≡ false → is_free (var.Bound k) (if tree_eq a t then b else u) ≡ false
kept a b t u k closed h = kept_free a b t u k closed h (tree_eq a t) refl

two : (a b c d : Bool) → (a ≡ false → c ≡ false) → (b ≡ false → d ≡ false) → a || b ≡ false → c || d ≡ false
two a b c d f g h = both_false c d (f (left_false a b h)) (g (right_false a b h))

guarded : (c a b : Bool) → (a ≡ false → b ≡ false) → not c && a ≡ false → not c && b ≡ false
guarded true a b f h = refl
guarded false a b f h = f h

rewritten_free : (a b : Tree) → IsClosed b → (k : ℕ) (t : Tree) → is_free (var.Bound k) t ≡ false → is_free (var.Bound k) (rewritten a b t) ≡ false
rewritten_free a b cb k (Literal n) h = kept a b (Literal n) (Literal n) k cb h
rewritten_free a b cb k (Truth t) h = kept a b (Truth t) (Truth t) k cb h
rewritten_free a b cb k (Variable w) h = kept a b (Variable w) (Variable w) k cb h
rewritten_free a b cb k (Add x y) h = kept a b (Add x y) (Add (rewritten a b x) (rewritten a b y)) k cb ((two (is_free (var.Bound k) x) (is_free (var.Bound k) y) (is_free (var.Bound k) (rewritten a b x)) (is_free (var.Bound k) (rewritten a b y)) (rewritten_free a b cb k x) (rewritten_free a b cb k y)) h)
rewritten_free a b cb k (Subtract x y) h = kept a b (Subtract x y) (Subtract (rewritten a b x) (rewritten a b y)) k cb ((two (is_free (var.Bound k) x) (is_free (var.Bound k) y) (is_free (var.Bound k) (rewritten a b x)) (is_free (var.Bound k) (rewritten a b y)) (rewritten_free a b cb k x) (rewritten_free a b cb k y)) h)
rewritten_free a b cb k (Multiply x y) h = kept a b (Multiply x y) (Multiply (rewritten a b x) (rewritten a b y)) k cb ((two (is_free (var.Bound k) x) (is_free (var.Bound k) y) (is_free (var.Bound k) (rewritten a b x)) (is_free (var.Bound k) (rewritten a b y)) (rewritten_free a b cb k x) (rewritten_free a b cb k y)) h)
rewritten_free a b cb k (Divide x y) h = kept a b (Divide x y) (Divide (rewritten a b x) (rewritten a b y)) k cb ((two (is_free (var.Bound k) x) (is_free (var.Bound k) y) (is_free (var.Bound k) (rewritten a b x)) (is_free (var.Bound k) (rewritten a b y)) (rewritten_free a b cb k x) (rewritten_free a b cb k y)) h)
rewritten_free a b cb k (Remainder x y) h = kept a b (Remainder x y) (Remainder (rewritten a b x) (rewritten a b y)) k cb ((two (is_free (var.Bound k) x) (is_free (var.Bound k) y) (is_free (var.Bound k) (rewritten a b x)) (is_free (var.Bound k) (rewritten a b y)) (rewritten_free a b cb k x) (rewritten_free a b cb k y)) h)
rewritten_free a b cb k (ByteAnd x y) h = kept a b (ByteAnd x y) (ByteAnd (rewritten a b x) (rewritten a b y)) k cb ((two (is_free (var.Bound k) x) (is_free (var.Bound k) y) (is_free (var.Bound k) (rewritten a b x)) (is_free (var.Bound k) (rewritten a b y)) (rewritten_free a b cb k x) (rewritten_free a b cb k y)) h)
rewritten_free a b cb k (ByteOr x y) h = kept a b (ByteOr x y) (ByteOr (rewritten a b x) (rewritten a b y)) k cb ((two (is_free (var.Bound k) x) (is_free (var.Bound k) y) (is_free (var.Bound k) (rewritten a b x)) (is_free (var.Bound k) (rewritten a b y)) (rewritten_free a b cb k x) (rewritten_free a b cb k y)) h)
rewritten_free a b cb k (ByteXor x y) h = kept a b (ByteXor x y) (ByteXor (rewritten a b x) (rewritten a b y)) k cb ((two (is_free (var.Bound k) x) (is_free (var.Bound k) y) (is_free (var.Bound k) (rewritten a b x)) (is_free (var.Bound k) (rewritten a b y)) (rewritten_free a b cb k x) (rewritten_free a b cb k y)) h)
rewritten_free a b cb k (Parity x) h = kept a b (Parity x) (Parity (rewritten a b x)) k cb ((rewritten_free a b cb k x) h)
rewritten_free a b cb k (Bit n x) h = kept a b (Bit n x) (Bit n (rewritten a b x)) k cb ((rewritten_free a b cb k x) h)
rewritten_free a b cb k (Psw x y z u v) h = kept a b (Psw x y z u v) (Psw (rewritten a b x) (rewritten a b y) (rewritten a b z) (rewritten a b u) (rewritten a b v)) k cb ((two ((((is_free (var.Bound k) x) || is_free (var.Bound k) y) || is_free (var.Bound k) z) || is_free (var.Bound k) u) (is_free (var.Bound k) v) ((((is_free (var.Bound k) (rewritten a b x)) || is_free (var.Bound k) (rewritten a b y)) || is_free (var.Bound k) (rewritten a b z)) || is_free (var.Bound k) (rewritten a b u)) (is_free (var.Bound k) (rewritten a b v)) (two (((is_free (var.Bound k) x) || is_free (var.Bound k) y) || is_free (var.Bound k) z) (is_free (var.Bound k) u) (((is_free (var.Bound k) (rewritten a b x)) || is_free (var.Bound k) (rewritten a b y)) || is_free (var.Bound k) (rewritten a b z)) (is_free (var.Bound k) (rewritten a b u)) (two ((is_free (var.Bound k) x) || is_free (var.Bound k) y) (is_free (var.Bound k) z) ((is_free (var.Bound k) (rewritten a b x)) || is_free (var.Bound k) (rewritten a b y)) (is_free (var.Bound k) (rewritten a b z)) (two (is_free (var.Bound k) x) (is_free (var.Bound k) y) (is_free (var.Bound k) (rewritten a b x)) (is_free (var.Bound k) (rewritten a b y)) (rewritten_free a b cb k x) (rewritten_free a b cb k y)) (rewritten_free a b cb k z)) (rewritten_free a b cb k u)) (rewritten_free a b cb k v)) h)
rewritten_free a b cb k (If p x y) h = kept a b (If p x y) (If (rewritten a b p) (rewritten a b x) (rewritten a b y)) k cb ((two ((is_free (var.Bound k) p) || is_free (var.Bound k) x) (is_free (var.Bound k) y) ((is_free (var.Bound k) (rewritten a b p)) || is_free (var.Bound k) (rewritten a b x)) (is_free (var.Bound k) (rewritten a b y)) (two (is_free (var.Bound k) p) (is_free (var.Bound k) x) (is_free (var.Bound k) (rewritten a b p)) (is_free (var.Bound k) (rewritten a b x)) (rewritten_free a b cb k p) (rewritten_free a b cb k x)) (rewritten_free a b cb k y)) h)
rewritten_free a b cb k (Element m x) h = kept a b (Element m x) (Element (rewritten a b m) (rewritten a b x)) k cb ((two (is_free (var.Bound k) m) (is_free (var.Bound k) x) (is_free (var.Bound k) (rewritten a b m)) (is_free (var.Bound k) (rewritten a b x)) (rewritten_free a b cb k m) (rewritten_free a b cb k x)) h)
rewritten_free a b cb k (Update m x y) h = kept a b (Update m x y) (Update (rewritten a b m) (rewritten a b x) (rewritten a b y)) k cb ((two ((is_free (var.Bound k) m) || is_free (var.Bound k) x) (is_free (var.Bound k) y) ((is_free (var.Bound k) (rewritten a b m)) || is_free (var.Bound k) (rewritten a b x)) (is_free (var.Bound k) (rewritten a b y)) (two (is_free (var.Bound k) m) (is_free (var.Bound k) x) (is_free (var.Bound k) (rewritten a b m)) (is_free (var.Bound k) (rewritten a b x)) (rewritten_free a b cb k m) (rewritten_free a b cb k x)) (rewritten_free a b cb k y)) h)
rewritten_free a b cb k (Total m x y) h = kept a b (Total m x y) (Total (rewritten a b m) (rewritten a b x) (rewritten a b y)) k cb ((two ((is_free (var.Bound k) m) || is_free (var.Bound k) x) (is_free (var.Bound k) y) ((is_free (var.Bound k) (rewritten a b m)) || is_free (var.Bound k) (rewritten a b x)) (is_free (var.Bound k) (rewritten a b y)) (two (is_free (var.Bound k) m) (is_free (var.Bound k) x) (is_free (var.Bound k) (rewritten a b m)) (is_free (var.Bound k) (rewritten a b x)) (rewritten_free a b cb k m) (rewritten_free a b cb k x)) (rewritten_free a b cb k y)) h)
rewritten_free a b cb k (Equal x y) h = kept a b (Equal x y) (Equal (rewritten a b x) (rewritten a b y)) k cb ((two (is_free (var.Bound k) x) (is_free (var.Bound k) y) (is_free (var.Bound k) (rewritten a b x)) (is_free (var.Bound k) (rewritten a b y)) (rewritten_free a b cb k x) (rewritten_free a b cb k y)) h)
rewritten_free a b cb k (Less x y) h = kept a b (Less x y) (Less (rewritten a b x) (rewritten a b y)) k cb ((two (is_free (var.Bound k) x) (is_free (var.Bound k) y) (is_free (var.Bound k) (rewritten a b x)) (is_free (var.Bound k) (rewritten a b y)) (rewritten_free a b cb k x) (rewritten_free a b cb k y)) h)
rewritten_free a b cb k (LessOrEqual x y) h = kept a b (LessOrEqual x y) (LessOrEqual (rewritten a b x) (rewritten a b y)) k cb ((two (is_free (var.Bound k) x) (is_free (var.Bound k) y) (is_free (var.Bound k) (rewritten a b x)) (is_free (var.Bound k) (rewritten a b y)) (rewritten_free a b cb k x) (rewritten_free a b cb k y)) h)
rewritten_free a b cb k (Not p) h = kept a b (Not p) (Not (rewritten a b p)) k cb ((rewritten_free a b cb k p) h)
rewritten_free a b cb k (And p q) h = kept a b (And p q) (And (rewritten a b p) (rewritten a b q)) k cb ((two (is_free (var.Bound k) p) (is_free (var.Bound k) q) (is_free (var.Bound k) (rewritten a b p)) (is_free (var.Bound k) (rewritten a b q)) (rewritten_free a b cb k p) (rewritten_free a b cb k q)) h)
rewritten_free a b cb k (Or p q) h = kept a b (Or p q) (Or (rewritten a b p) (rewritten a b q)) k cb ((two (is_free (var.Bound k) p) (is_free (var.Bound k) q) (is_free (var.Bound k) (rewritten a b p)) (is_free (var.Bound k) (rewritten a b q)) (rewritten_free a b cb k p) (rewritten_free a b cb k q)) h)
rewritten_free a b cb k (Implies p q) h = kept a b (Implies p q) (Implies (rewritten a b p) (rewritten a b q)) k cb ((two (is_free (var.Bound k) p) (is_free (var.Bound k) q) (is_free (var.Bound k) (rewritten a b p)) (is_free (var.Bound k) (rewritten a b q)) (rewritten_free a b cb k p) (rewritten_free a b cb k q)) h)
rewritten_free a b cb k (Iff p q) h = kept a b (Iff p q) (Iff (rewritten a b p) (rewritten a b q)) k cb ((two (is_free (var.Bound k) p) (is_free (var.Bound k) q) (is_free (var.Bound k) (rewritten a b p)) (is_free (var.Bound k) (rewritten a b q)) (rewritten_free a b cb k p) (rewritten_free a b cb k q)) h)
rewritten_free a b cb k (ForAll n x y p) h = kept a b (ForAll n x y p) (ForAll n (rewritten a b x) (rewritten a b y) (rewritten a b p)) k cb (two ((is_free (var.Bound k) x) || is_free (var.Bound k) y) (not (var_eq (var.Bound k) (var.Bound n)) && is_free (var.Bound k) p) ((is_free (var.Bound k) (rewritten a b x)) || is_free (var.Bound k) (rewritten a b y)) (not (var_eq (var.Bound k) (var.Bound n)) && is_free (var.Bound k) (rewritten a b p)) (two (is_free (var.Bound k) x) (is_free (var.Bound k) y) (is_free (var.Bound k) (rewritten a b x)) (is_free (var.Bound k) (rewritten a b y)) (rewritten_free a b cb k x) (rewritten_free a b cb k y)) (guarded (var_eq (var.Bound k) (var.Bound n)) (is_free (var.Bound k) p) (is_free (var.Bound k) (rewritten a b p)) (rewritten_free a b cb k p)) h)
rewritten_free a b cb k (ForSome n x y p) h = kept a b (ForSome n x y p) (ForSome n (rewritten a b x) (rewritten a b y) (rewritten a b p)) k cb (two ((is_free (var.Bound k) x) || is_free (var.Bound k) y) (not (var_eq (var.Bound k) (var.Bound n)) && is_free (var.Bound k) p) ((is_free (var.Bound k) (rewritten a b x)) || is_free (var.Bound k) (rewritten a b y)) (not (var_eq (var.Bound k) (var.Bound n)) && is_free (var.Bound k) (rewritten a b p)) (two (is_free (var.Bound k) x) (is_free (var.Bound k) y) (is_free (var.Bound k) (rewritten a b x)) (is_free (var.Bound k) (rewritten a b y)) (rewritten_free a b cb k x) (rewritten_free a b cb k y)) (guarded (var_eq (var.Bound k) (var.Bound n)) (is_free (var.Bound k) p) (is_free (var.Bound k) (rewritten a b p)) (rewritten_free a b cb k p)) h)

pub rewritten_closed : (a b t : Tree) (s : Sort) → Closed Int a → Closed Int b → Closed s t → Closed s (rewritten a b t)
rewritten_closed a b t s ha hb h = closed (rewritten_sort a b ha.is.0 hb.is.0 t s h.is.0, λ k. rewritten_free a b hb.is.1 k t (h.is.1 k))
