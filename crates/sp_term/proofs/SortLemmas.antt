-- One sort of a tree, and what keeps sorts and closed trees.
use Rattle.std.proofs.Common.{◌≡◌, ◌≢◌, ℕ, ◌⊎◌, inl, inr, refl, sym, ◌∙◌, ap, subst, Bool, true, false, ◌&&◌, ◌||◌, not}
use Rattle.std.specs.Prelude.{if◌then◌else◌}
use Rattle.std.proofs.lemmas.Bool.{true≢false, or_cases, or_left, or_right, and_parts, and_from}
use Rattle.sp_term.specs.declared.var.Var.{Var}
use Rattle.sp_term.specs.declared.var.Var.TheVariants as var
use Rattle.sp_term.specs.Tree.{Tree, Literal, Truth, Variable, Add, Subtract, Multiply, Divide, Remainder, ByteAnd, ByteOr, ByteXor, Parity, Bit, Psw, If, Element, Update, Total, Equal, Less, LessOrEqual, Not, And, Or, Implies, Iff, ForAll, ForSome}
use Rattle.sp_term.specs.Free.{var_eq, is_free, replaced}
use Rattle.sp_term.specs.Sorts.{Sort, Int, Formula, Memory, sort_of, HasSort}
use Rattle.sp_term.proofs.FreeLemmas.{var_self}
use Rattle.sp_term.proofs.ReplaceLemmas.{var_one}

pub one_sort : (t : Tree) (a b : Sort) → HasSort t a → HasSort t b → a ≡ b
one_sort (Literal n) r o h g = h ∙ sym g
one_sort (Truth b) r o h g = h ∙ sym g
one_sort (Variable w) r o h g = h.0 ∙ sym g.0
one_sort (Add x y) r o h g = h.0 ∙ sym g.0
one_sort (Subtract x y) r o h g = h.0 ∙ sym g.0
one_sort (Multiply x y) r o h g = h.0 ∙ sym g.0
one_sort (Divide x y) r o h g = h.0 ∙ sym g.0
one_sort (Remainder x y) r o h g = h.0 ∙ sym g.0
one_sort (ByteAnd x y) r o h g = h.0 ∙ sym g.0
one_sort (ByteOr x y) r o h g = h.0 ∙ sym g.0
one_sort (ByteXor x y) r o h g = h.0 ∙ sym g.0
one_sort (Parity x) r o h g = h.0 ∙ sym g.0
one_sort (Bit k x) r o h g = h.0 ∙ sym g.0
one_sort (Psw s z ac p cy) r o h g = h.0 ∙ sym g.0
one_sort (If p x y) r o h g = h.0 ∙ sym g.0
one_sort (Element m x) r o h g = h.0 ∙ sym g.0
one_sort (Update m x y) r o h g = h.0 ∙ sym g.0
one_sort (Total m x y) r o h g = h.0 ∙ sym g.0
one_sort (Equal x y) r o h g = h.0 ∙ sym g.0
one_sort (Less x y) r o h g = h.0 ∙ sym g.0
one_sort (LessOrEqual x y) r o h g = h.0 ∙ sym g.0
one_sort (Not p) r o h g = h.0 ∙ sym g.0
one_sort (And p q) r o h g = h.0 ∙ sym g.0
one_sort (Or p q) r o h g = h.0 ∙ sym g.0
one_sort (Implies p q) r o h g = h.0 ∙ sym g.0
one_sort (Iff p q) r o h g = h.0 ∙ sym g.0
one_sort (ForAll k x y p) r o h g = h.0 ∙ sym g.0
one_sort (ForSome k x y p) r o h g = h.0 ∙ sym g.0

-- a variable with a term of its sort in its place
var_sort : (w v : Var) (by : Tree) (s : Sort) → HasSort by (sort_of v) → HasSort (Variable w) s → (b : Bool) → var_eq w v ≡ b → HasSort (if b then by else Variable w) s
var_sort w v by s sort h true is = subst (λ r. HasSort by r) (sym (h.0 ∙ ap sort_of (var_one w v is))) sort
var_sort w v by s sort h false is = h

-- the formula of a quantifier, with or without the term
bound_sort : (p q : Tree) (b : Bool) → HasSort p Formula → HasSort q Formula → HasSort (if b then p else q) Formula
bound_sort p q true h k = h
bound_sort p q false h k = k

-- a term of the variable's sort in its place keeps the sort
pub replaced_sort : (t : Tree) (v : Var) (by : Tree) (s : Sort) → HasSort by (sort_of v) → HasSort t s → HasSort (replaced v by t) s
replaced_sort (Literal n) v by r sort h = h
replaced_sort (Truth b) v by r sort h = h
replaced_sort (Variable w) v by r sort h = var_sort w v by r sort h (var_eq w v) refl
replaced_sort (Add x y) v by r sort h = (h.0, replaced_sort x v by Int sort h.1, replaced_sort y v by Int sort h.2)
replaced_sort (Subtract x y) v by r sort h = (h.0, replaced_sort x v by Int sort h.1, replaced_sort y v by Int sort h.2)
replaced_sort (Multiply x y) v by r sort h = (h.0, replaced_sort x v by Int sort h.1, replaced_sort y v by Int sort h.2)
replaced_sort (Divide x y) v by r sort h = (h.0, replaced_sort x v by Int sort h.1, replaced_sort y v by Int sort h.2)
replaced_sort (Remainder x y) v by r sort h = (h.0, replaced_sort x v by Int sort h.1, replaced_sort y v by Int sort h.2)
replaced_sort (ByteAnd x y) v by r sort h = (h.0, replaced_sort x v by Int sort h.1, replaced_sort y v by Int sort h.2)
replaced_sort (ByteOr x y) v by r sort h = (h.0, replaced_sort x v by Int sort h.1, replaced_sort y v by Int sort h.2)
replaced_sort (ByteXor x y) v by r sort h = (h.0, replaced_sort x v by Int sort h.1, replaced_sort y v by Int sort h.2)
replaced_sort (Parity x) v by r sort h = (h.0, replaced_sort x v by Int sort h.1)
replaced_sort (Bit k x) v by r sort h = (h.0, h.1, replaced_sort x v by Int sort h.2)
replaced_sort (Psw f z ac p cy) v by r sort h = (h.0, replaced_sort f v by Int sort h.1, replaced_sort z v by Int sort h.2, replaced_sort ac v by Int sort h.3, replaced_sort p v by Int sort h.4, replaced_sort cy v by Int sort h.5)
replaced_sort (If p x y) v by r sort h = (h.0, replaced_sort p v by Formula sort h.1, replaced_sort x v by Int sort h.2, replaced_sort y v by Int sort h.3)
replaced_sort (Element m x) v by r sort h = (h.0, replaced_sort m v by Memory sort h.1, replaced_sort x v by Int sort h.2)
replaced_sort (Update m x y) v by r sort h = (h.0, replaced_sort m v by Memory sort h.1, replaced_sort x v by Int sort h.2, replaced_sort y v by Int sort h.3)
replaced_sort (Total m x y) v by r sort h = (h.0, replaced_sort m v by Memory sort h.1, replaced_sort x v by Int sort h.2, replaced_sort y v by Int sort h.3)
replaced_sort (Equal x y) v by r sort h = (h.0, replaced_sort x v by Int sort h.1, replaced_sort y v by Int sort h.2)
replaced_sort (Less x y) v by r sort h = (h.0, replaced_sort x v by Int sort h.1, replaced_sort y v by Int sort h.2)
replaced_sort (LessOrEqual x y) v by r sort h = (h.0, replaced_sort x v by Int sort h.1, replaced_sort y v by Int sort h.2)
replaced_sort (Not p) v by r sort h = (h.0, replaced_sort p v by Formula sort h.1)
replaced_sort (And p q) v by r sort h = (h.0, replaced_sort p v by Formula sort h.1, replaced_sort q v by Formula sort h.2)
replaced_sort (Or p q) v by r sort h = (h.0, replaced_sort p v by Formula sort h.1, replaced_sort q v by Formula sort h.2)
replaced_sort (Implies p q) v by r sort h = (h.0, replaced_sort p v by Formula sort h.1, replaced_sort q v by Formula sort h.2)
replaced_sort (Iff p q) v by r sort h = (h.0, replaced_sort p v by Formula sort h.1, replaced_sort q v by Formula sort h.2)
replaced_sort (ForAll k x y p) v by r sort h = (h.0, h.1, replaced_sort x v by Int sort h.2, replaced_sort y v by Int sort h.3, bound_sort p (replaced v by p) (var_eq v (var.Bound k)) h.4 (replaced_sort p v by Formula sort h.4))
replaced_sort (ForSome k x y p) v by r sort h = (h.0, h.1, replaced_sort x v by Int sort h.2, replaced_sort y v by Int sort h.3, bound_sort p (replaced v by p) (var_eq v (var.Bound k)) h.4 (replaced_sort p v by Formula sort h.4))

-- what is free in one of two parts, where it comes from the tree or from the term put in
either : {P : Type 0} {Q : Type 0} (a b c d : Bool) → (a ≡ true → ((c ≡ true) × P) ⊎ Q) → (b ≡ true → ((d ≡ true) × P) ⊎ Q) → (a || b) ≡ true → (((c || d) ≡ true) × P) ⊎ Q
either a b c d f g h = elim (or_cases a b h) [
  | inl x ↦ elim (f x) [ inl r ↦ inl (or_left c d r.0, r.1) | inr r ↦ inr r ]
  | inr x ↦ elim (g x) [ inl r ↦ inl (or_right c d r.0, r.1) | inr r ↦ inr r ]
]

-- a variable that is free where a term was put for another one is free in the term, or was free before and is another one
abbrev pub StaysFree : Var → Var → Tree → Tree → Type 0
StaysFree w v by t = ((is_free w t ≡ true) × (var_eq w v ≡ false)) ⊎ (is_free w by ≡ true)

var_free : (w v u : Var) (by : Tree) (b c : Bool) → var_eq u v ≡ b → var_eq w v ≡ c → is_free w (if b then by else Variable u) ≡ true → StaysFree w v by (Variable u)
var_free w v u by true c is at h = inr h
var_free w v u by false false is at h = inl (h, at)
var_free w v u by false true is at h = absurd (let e : w ≡ v = var_one w v at in let f : w ≡ u = var_one w u h in let g : var_eq v v ≡ false = subst (λ r. var_eq r v ≡ false) (sym f ∙ e) is in let s : var_eq v v ≡ true = var_self v in cc)

bound_free : (w v : Var) (k : ℕ) (by p q : Tree) (b : Bool) → var_eq v (var.Bound k) ≡ b → (is_free w q ≡ true → StaysFree w v by p)
    → (not (var_eq w (var.Bound k)) && is_free w (if b then p else q)) ≡ true
    → (((not (var_eq w (var.Bound k)) && is_free w p) ≡ true) × (var_eq w v ≡ false)) ⊎ (is_free w by ≡ true)
bound_free w v k by p q true is f h = inl (h, subst (λ u. var_eq w u ≡ false) (sym (var_one v (var.Bound k) is)) (not_true (var_eq w (var.Bound k)) (and_parts _ _ h).0))
  where
    not_true : (b : Bool) → not b ≡ true → b ≡ false
    not_true true h = sym h
    not_true false h = refl
bound_free w v k by p q false is f h = elim (f (and_parts (not (var_eq w (var.Bound k))) _ h).1) [
  | inl r ↦ inl (and_from _ _ (and_parts (not (var_eq w (var.Bound k))) _ h).0 r.0, r.1)
  | inr r ↦ inr r
]

pub free-replaced : (t : Tree) (w v : Var) (by : Tree) → is_free w (replaced v by t) ≡ true → StaysFree w v by t
free-replaced (Literal n) w v by h = absurd (cc)
free-replaced (Truth b) w v by h = absurd (cc)
free-replaced (Variable u) w v by h = var_free w v u by (var_eq u v) (var_eq w v) refl refl h
free-replaced (Add x y) w v by h = either (is_free w (replaced v by x)) (is_free w (replaced v by y)) (is_free w x) (is_free w y) (free-replaced x w v by) (free-replaced y w v by) h
free-replaced (Subtract x y) w v by h = either (is_free w (replaced v by x)) (is_free w (replaced v by y)) (is_free w x) (is_free w y) (free-replaced x w v by) (free-replaced y w v by) h
free-replaced (Multiply x y) w v by h = either (is_free w (replaced v by x)) (is_free w (replaced v by y)) (is_free w x) (is_free w y) (free-replaced x w v by) (free-replaced y w v by) h
free-replaced (Divide x y) w v by h = either (is_free w (replaced v by x)) (is_free w (replaced v by y)) (is_free w x) (is_free w y) (free-replaced x w v by) (free-replaced y w v by) h
free-replaced (Remainder x y) w v by h = either (is_free w (replaced v by x)) (is_free w (replaced v by y)) (is_free w x) (is_free w y) (free-replaced x w v by) (free-replaced y w v by) h
free-replaced (ByteAnd x y) w v by h = either (is_free w (replaced v by x)) (is_free w (replaced v by y)) (is_free w x) (is_free w y) (free-replaced x w v by) (free-replaced y w v by) h
free-replaced (ByteOr x y) w v by h = either (is_free w (replaced v by x)) (is_free w (replaced v by y)) (is_free w x) (is_free w y) (free-replaced x w v by) (free-replaced y w v by) h
free-replaced (ByteXor x y) w v by h = either (is_free w (replaced v by x)) (is_free w (replaced v by y)) (is_free w x) (is_free w y) (free-replaced x w v by) (free-replaced y w v by) h
free-replaced (Parity x) w v by h = free-replaced x w v by h
free-replaced (Bit k x) w v by h = free-replaced x w v by h
free-replaced (Psw s z ac p cy) w v by h = either ((((is_free w (replaced v by s)) || (is_free w (replaced v by z))) || (is_free w (replaced v by ac))) || (is_free w (replaced v by p))) (is_free w (replaced v by cy)) ((((is_free w s) || (is_free w z)) || (is_free w ac)) || (is_free w p)) (is_free w cy) (either (((is_free w (replaced v by s)) || (is_free w (replaced v by z))) || (is_free w (replaced v by ac))) (is_free w (replaced v by p)) (((is_free w s) || (is_free w z)) || (is_free w ac)) (is_free w p) (either ((is_free w (replaced v by s)) || (is_free w (replaced v by z))) (is_free w (replaced v by ac)) ((is_free w s) || (is_free w z)) (is_free w ac) (either (is_free w (replaced v by s)) (is_free w (replaced v by z)) (is_free w s) (is_free w z) (free-replaced s w v by) (free-replaced z w v by)) (free-replaced ac w v by)) (free-replaced p w v by)) (free-replaced cy w v by) h
free-replaced (If p x y) w v by h = either ((is_free w (replaced v by p)) || (is_free w (replaced v by x))) (is_free w (replaced v by y)) ((is_free w p) || (is_free w x)) (is_free w y) (either (is_free w (replaced v by p)) (is_free w (replaced v by x)) (is_free w p) (is_free w x) (free-replaced p w v by) (free-replaced x w v by)) (free-replaced y w v by) h
free-replaced (Element m x) w v by h = either (is_free w (replaced v by m)) (is_free w (replaced v by x)) (is_free w m) (is_free w x) (free-replaced m w v by) (free-replaced x w v by) h
free-replaced (Update m x y) w v by h = either ((is_free w (replaced v by m)) || (is_free w (replaced v by x))) (is_free w (replaced v by y)) ((is_free w m) || (is_free w x)) (is_free w y) (either (is_free w (replaced v by m)) (is_free w (replaced v by x)) (is_free w m) (is_free w x) (free-replaced m w v by) (free-replaced x w v by)) (free-replaced y w v by) h
free-replaced (Total m x y) w v by h = either ((is_free w (replaced v by m)) || (is_free w (replaced v by x))) (is_free w (replaced v by y)) ((is_free w m) || (is_free w x)) (is_free w y) (either (is_free w (replaced v by m)) (is_free w (replaced v by x)) (is_free w m) (is_free w x) (free-replaced m w v by) (free-replaced x w v by)) (free-replaced y w v by) h
free-replaced (Equal x y) w v by h = either (is_free w (replaced v by x)) (is_free w (replaced v by y)) (is_free w x) (is_free w y) (free-replaced x w v by) (free-replaced y w v by) h
free-replaced (Less x y) w v by h = either (is_free w (replaced v by x)) (is_free w (replaced v by y)) (is_free w x) (is_free w y) (free-replaced x w v by) (free-replaced y w v by) h
free-replaced (LessOrEqual x y) w v by h = either (is_free w (replaced v by x)) (is_free w (replaced v by y)) (is_free w x) (is_free w y) (free-replaced x w v by) (free-replaced y w v by) h
free-replaced (Not p) w v by h = free-replaced p w v by h
free-replaced (And p q) w v by h = either (is_free w (replaced v by p)) (is_free w (replaced v by q)) (is_free w p) (is_free w q) (free-replaced p w v by) (free-replaced q w v by) h
free-replaced (Or p q) w v by h = either (is_free w (replaced v by p)) (is_free w (replaced v by q)) (is_free w p) (is_free w q) (free-replaced p w v by) (free-replaced q w v by) h
free-replaced (Implies p q) w v by h = either (is_free w (replaced v by p)) (is_free w (replaced v by q)) (is_free w p) (is_free w q) (free-replaced p w v by) (free-replaced q w v by) h
free-replaced (Iff p q) w v by h = either (is_free w (replaced v by p)) (is_free w (replaced v by q)) (is_free w p) (is_free w q) (free-replaced p w v by) (free-replaced q w v by) h
free-replaced (ForAll k x y p) w v by h = either ((is_free w (replaced v by x)) || (is_free w (replaced v by y))) (not (var_eq w (var.Bound k)) && is_free w (if var_eq v (var.Bound k) then p else replaced v by p)) ((is_free w x) || (is_free w y)) (not (var_eq w (var.Bound k)) && is_free w p) (either (is_free w (replaced v by x)) (is_free w (replaced v by y)) (is_free w x) (is_free w y) (free-replaced x w v by) (free-replaced y w v by)) (bound_free w v k by p (replaced v by p) (var_eq v (var.Bound k)) refl (free-replaced p w v by)) h
free-replaced (ForSome k x y p) w v by h = either ((is_free w (replaced v by x)) || (is_free w (replaced v by y))) (not (var_eq w (var.Bound k)) && is_free w (if var_eq v (var.Bound k) then p else replaced v by p)) ((is_free w x) || (is_free w y)) (not (var_eq w (var.Bound k)) && is_free w p) (either (is_free w (replaced v by x)) (is_free w (replaced v by y)) (is_free w x) (is_free w y) (free-replaced x w v by) (free-replaced y w v by)) (bound_free w v k by p (replaced v by p) (var_eq v (var.Bound k)) refl (free-replaced p w v by)) h

pub free_kept : (t by : Tree) (v w : Var) → is_free w (replaced v by t) ≡ true → ((is_free w t ≡ true) × (w ≢ v)) ⊎ (is_free w by ≡ true)
free_kept t by v w h = elim (free-replaced t w v by h) [
  | inl r ↦ inl (r.0, λ is. true≢false (sym (subst (λ u. var_eq w u ≡ true) is (var_self w)) ∙ r.1))
  | inr r ↦ inr r
]
