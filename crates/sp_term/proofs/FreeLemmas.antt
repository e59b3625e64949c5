-- A term's value depends on the values of its free variables alone.
use Rattle.std.proofs.Common.{◌≡◌, ℕ, refl, ap, Bool, true, false, ◌&&◌, ◌||◌, not, ℤ}
use Rattle.std.specs.Prelude.{◌+ℤ◌, ◌-ℤ◌, ◌*ℤ◌, int_lt, int_le, if◌then◌else◌}
use Rattle.std.specs.Ordering.{int_eq}
use Rattle.std.proofs.lemmas.Bool.{or_left, or_right, and_from, eq-eqb}
use Rattle.sp_base.specs.Locs.{place}
use Rattle.sp_base.specs.Integers.{quotient, remainder, byte_and, byte_or, byte_xor, parity, sum_between, all_between, some_between}
use Rattle.sp_term.specs.declared.var.Var.{Var}
use Rattle.sp_term.specs.declared.var.Var.TheVariants as var
use Rattle.sp_term.specs.Tree.{Tree, Literal, Truth, Variable, Add, Subtract, Multiply, Divide, Remainder, ByteAnd, ByteOr, ByteXor, Parity, Bit, Psw, If, Element, Update, Total, Equal, Less, LessOrEqual, Not, And, Or, Implies, Iff, ForAll, ForSome}
use Rattle.sp_term.specs.Free.{var_eq, is_free}
use Rattle.sp_term.specs.Value.{Env, whole, cells, fact, updated, bit, psw, bind, value}

-- a variable has one value in both environments
abbrev pub Agrees : Env → Env → Var → Type 0
Agrees e f v = value e (Variable v) ≡ value f (Variable v)

-- another number for a bound variable keeps agreement elsewhere
bound_agrees : (k : ℕ) (n : ℤ) (e f : Env) (v : Var) → (var_eq v (var.Bound k) ≡ false → Agrees e f v) → Agrees (bind k n e) (bind k n f) v
bound_agrees k n e f (var.Entry x) h = h refl
bound_agrees k n e f (var.Now x) h = h refl
bound_agrees k n e f (var.After x j) h = h refl
bound_agrees k n e f var.MemEntry h = h refl
bound_agrees k n e f var.Mem h = h refl
bound_agrees k n e f (var.MemAfter j) h = h refl
bound_agrees k n e f (var.In j) h = h refl
bound_agrees k n e f (var.SlotHigh j) h = h refl
bound_agrees k n e f (var.SlotLow j) h = h refl
bound_agrees k n e f (var.Any j) h = h refl
bound_agrees k n e f (var.Bound j) h = by (var_eq (var.Bound j) (var.Bound k)) refl
  where
    by : (b : Bool) → var_eq (var.Bound j) (var.Bound k) ≡ b → whole (if var_eq (var.Bound j) (var.Bound k) then n else e.int (var.Bound j)) ≡ whole (if var_eq (var.Bound j) (var.Bound k) then n else f.int (var.Bound j))
    by true is = rw is refl
    by false is = rw is (h is)

-- a variable is itself
pub var_self : (v : Var) → var_eq v v ≡ true
var_self (var.Entry x) = eq-eqb (place x) (place x) refl
var_self (var.Now x) = eq-eqb (place x) (place x) refl
var_self (var.After x j) = and_from _ _ (eq-eqb (place x) (place x) refl) (eq-eqb j j refl)
var_self var.MemEntry = refl
var_self var.Mem = refl
var_self (var.MemAfter j) = eq-eqb j j refl
var_self (var.In j) = eq-eqb j j refl
var_self (var.SlotHigh j) = eq-eqb j j refl
var_self (var.SlotLow j) = eq-eqb j j refl
var_self (var.Any j) = eq-eqb j j refl
var_self (var.Bound j) = eq-eqb j j refl

-- free in the formula of a quantifier, and another variable than its own
inside : (v : Var) (k : ℕ) (b : Bool) → b ≡ true → var_eq v (var.Bound k) ≡ false → (not (var_eq v (var.Bound k)) && b) ≡ true
inside v k b is other = and_from (not (var_eq v (var.Bound k))) b (ap not other) is

pub value_agrees : (t : Tree) (e f : Env) → ((v : Var) → is_free v t ≡ true → Agrees e f v) → value e t ≡ value f t
value_agrees (Literal n) e f h = refl
value_agrees (Truth b) e f h = refl
value_agrees (Variable w) e f h = h w (var_self w)
value_agrees (Add x y) e f h = λ i. whole ((value_agrees x e f (λ v free. h v (or_left _ _ free)) i).int +ℤ (value_agrees y e f (λ v free. h v (or_right (is_free v x) _ free)) i).int)
value_agrees (Subtract x y) e f h = λ i. whole ((value_agrees x e f (λ v free. h v (or_left _ _ free)) i).int -ℤ (value_agrees y e f (λ v free. h v (or_right (is_free v x) _ free)) i).int)
value_agrees (Multiply x y) e f h = λ i. whole ((value_agrees x e f (λ v free. h v (or_left _ _ free)) i).int *ℤ (value_agrees y e f (λ v free. h v (or_right (is_free v x) _ free)) i).int)
value_agrees (Divide x y) e f h = λ i. whole (quotient (value_agrees x e f (λ v free. h v (or_left _ _ free)) i).int (value_agrees y e f (λ v free. h v (or_right (is_free v x) _ free)) i).int)
value_agrees (Remainder x y) e f h = λ i. whole (remainder (value_agrees x e f (λ v free. h v (or_left _ _ free)) i).int (value_agrees y e f (λ v free. h v (or_right (is_free v x) _ free)) i).int)
value_agrees (ByteAnd x y) e f h = λ i. whole (byte_and (value_agrees x e f (λ v free. h v (or_left _ _ free)) i).int (value_agrees y e f (λ v free. h v (or_right (is_free v x) _ free)) i).int)
value_agrees (ByteOr x y) e f h = λ i. whole (byte_or (value_agrees x e f (λ v free. h v (or_left _ _ free)) i).int (value_agrees y e f (λ v free. h v (or_right (is_free v x) _ free)) i).int)
value_agrees (ByteXor x y) e f h = λ i. whole (byte_xor (value_agrees x e f (λ v free. h v (or_left _ _ free)) i).int (value_agrees y e f (λ v free. h v (or_right (is_free v x) _ free)) i).int)
value_agrees (Parity x) e f h = λ i. whole (parity (value_agrees x e f (λ v free. h v (free)) i).int)
value_agrees (Bit k x) e f h = λ i. whole (bit k (value_agrees x e f (λ v free. h v (free)) i).int)
value_agrees (Psw s z ac p cy) e f h = λ i. whole (psw (value_agrees s e f (λ v free. h v (or_left _ _ (or_left _ _ (or_left _ _ (or_left _ _ free))))) i).int (value_agrees z e f (λ v free. h v (or_left _ _ (or_left _ _ (or_left _ _ (or_right (is_free v s) _ free))))) i).int (value_agrees ac e f (λ v free. h v (or_left _ _ (or_left _ _ (or_right (is_free v s || is_free v z) _ free)))) i).int (value_agrees p e f (λ v free. h v (or_left _ _ (or_right (is_free v s || is_free v z || is_free v ac) _ free))) i).int (value_agrees cy e f (λ v free. h v (or_right (is_free v s || is_free v z || is_free v ac || is_free v p) _ free)) i).int)
value_agrees (If p x y) e f h = λ i. whole (if (value_agrees p e f (λ v free. h v (or_left _ _ (or_left _ _ free))) i).truth then (value_agrees x e f (λ v free. h v (or_left _ _ (or_right (is_free v p) _ free))) i).int else (value_agrees y e f (λ v free. h v (or_right (is_free v p || is_free v x) _ free)) i).int)
value_agrees (Element m x) e f h = λ i. whole ((value_agrees m e f (λ v free. h v (or_left _ _ free)) i).map (value_agrees x e f (λ v free. h v (or_right (is_free v m) _ free)) i).int)
value_agrees (Update m x y) e f h = λ i. cells (updated (value_agrees m e f (λ v free. h v (or_left _ _ (or_left _ _ free))) i).map (value_agrees x e f (λ v free. h v (or_left _ _ (or_right (is_free v m) _ free))) i).int (value_agrees y e f (λ v free. h v (or_right (is_free v m || is_free v x) _ free)) i).int)
value_agrees (Total m x y) e f h = λ i. whole (sum_between (value_agrees m e f (λ v free. h v (or_left _ _ (or_left _ _ free))) i).map (value_agrees x e f (λ v free. h v (or_left _ _ (or_right (is_free v m) _ free))) i).int (value_agrees y e f (λ v free. h v (or_right (is_free v m || is_free v x) _ free)) i).int)
value_agrees (Equal x y) e f h = λ i. fact (int_eq (value_agrees x e f (λ v free. h v (or_left _ _ free)) i).int (value_agrees y e f (λ v free. h v (or_right (is_free v x) _ free)) i).int)
value_agrees (Less x y) e f h = λ i. fact (int_lt (value_agrees x e f (λ v free. h v (or_left _ _ free)) i).int (value_agrees y e f (λ v free. h v (or_right (is_free v x) _ free)) i).int)
value_agrees (LessOrEqual x y) e f h = λ i. fact (int_le (value_agrees x e f (λ v free. h v (or_left _ _ free)) i).int (value_agrees y e f (λ v free. h v (or_right (is_free v x) _ free)) i).int)
value_agrees (Not p) e f h = λ i. fact (not (value_agrees p e f (λ v free. h v (free)) i).truth)
value_agrees (And p q) e f h = λ i. fact ((value_agrees p e f (λ v free. h v (or_left _ _ free)) i).truth && (value_agrees q e f (λ v free. h v (or_right (is_free v p) _ free)) i).truth)
value_agrees (Or p q) e f h = λ i. fact ((value_agrees p e f (λ v free. h v (or_left _ _ free)) i).truth || (value_agrees q e f (λ v free. h v (or_right (is_free v p) _ free)) i).truth)
value_agrees (Implies p q) e f h = λ i. fact (not (value_agrees p e f (λ v free. h v (or_left _ _ free)) i).truth || (value_agrees q e f (λ v free. h v (or_right (is_free v p) _ free)) i).truth)
value_agrees (Iff p q) e f h = λ i. fact (if (value_agrees p e f (λ v free. h v (or_left _ _ free)) i).truth then (value_agrees q e f (λ v free. h v (or_right (is_free v p) _ free)) i).truth else not (value_agrees q e f (λ v free. h v (or_right (is_free v p) _ free)) i).truth)
value_agrees (ForAll k x y p) e f h = λ i. fact (all_between (λ n. (value_agrees p (bind k n e) (bind k n f) (λ v free. bound_agrees k n e f v (λ other. h v (or_right (is_free v x || is_free v y) _ (inside v k (is_free v p) free other)))) i).truth) (value_agrees x e f (λ v free. h v (or_left _ _ (or_left _ _ free))) i).int (value_agrees y e f (λ v free. h v (or_left _ _ (or_right (is_free v x) _ free))) i).int)
value_agrees (ForSome k x y p) e f h = λ i. fact (some_between (λ n. (value_agrees p (bind k n e) (bind k n f) (λ v free. bound_agrees k n e f v (λ other. h v (or_right (is_free v x || is_free v y) _ (inside v k (is_free v p) free other)))) i).truth) (value_agrees x e f (λ v free. h v (or_left _ _ (or_left _ _ free))) i).int (value_agrees y e f (λ v free. h v (or_left _ _ (or_right (is_free v x) _ free))) i).int)
