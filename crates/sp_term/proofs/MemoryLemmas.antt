-- What updates, sums and quantifiers are worth.
use Rattle.std.proofs.Common.{◌≡◌, ◌≢◌, ℕ, refl, ap, Bool, true, false, ◌&&◌, ◌||◌, not, ℤ}
use Rattle.std.specs.Prelude.{◌≤ℤ◌, ◌↔◌, IsTrue, if◌then◌else◌}
use Rattle.std.specs.Ordering.{int_eq}
use Rattle.std.proofs.lemmas.Bool.Decides.{Decides-int_eq}
use Rattle.sp_base.proofs.IntegerLemmas.{sum_between_one, all_between_is, some_between_is}
use Rattle.sp_term.specs.declared.var.Var.{Var}
use Rattle.sp_term.specs.declared.var.Var.TheVariants as var
use Rattle.sp_term.specs.Tree.{Tree, Literal, Variable, Element, Update, Total, Equal, ForAll, ForSome}
use Rattle.sp_term.specs.Free.{var_eq, is_free, IsClosed}
use Rattle.sp_term.specs.Value.{Env, value, whole, bind, int_of, map_of, IsTrueIn}
use Rattle.sp_term.proofs.FreeLemmas.{Agrees, var_self}
use Rattle.sp_term.proofs.ReplaceLemmas.{var_one}

int_self : (z : ℤ) → int_eq z z ≡ true
int_self z = (Decides-int_eq z z).1 refl

int_other : (z x : ℤ) → z ≢ x → int_eq z x ≡ false
int_other z x ne = by (int_eq z x) refl
  where
    by : (b : Bool) → int_eq z x ≡ b → b ≡ false
    by false h = refl
    by true h = absurd (ne ((Decides-int_eq z x).0 h))

pub there : (e : Env) (m x y : Tree) → int_of e (Element (Update m x y) x) ≡ int_of e y
there e m x y = ap (λ (b : Bool). if b then int_of e y else map_of e m (int_of e x)) (int_self (int_of e x))

pub elsewhere : (e : Env) (m x y z : Tree) → int_of e z ≢ int_of e x → int_of e (Element (Update m x y) z) ≡ int_of e (Element m z)
elsewhere e m x y z ne = ap (λ (b : Bool). if b then int_of e y else map_of e m (int_of e z)) (int_other (int_of e z) (int_of e x) ne)

pub one_cell : (e : Env) (m x : Tree) → int_of e (Total m x x) ≡ int_of e (Element m x)
one_cell e m x = sum_between_one (map_of e m) (int_of e x)

same_test : (j k : ℕ) (b : Bool) → (not b && b) ≡ false
same_test j k true = refl
same_test j k false = refl

-- the formula of a quantifier has its variable, which no tree around has
pub closed_formula : (k : ℕ) (n : ℤ) → IsClosed (ForAll k (Literal n) (Literal n) (Equal (Variable (var.Bound k)) (Literal n)))
closed_formula k n j = by (var_eq (var.Bound j) (var.Bound k))
  where
    by : (b : Bool) → (false || false || not b && (b || false)) ≡ false
    by true = refl
    by false = refl

pub end_is_free : (k : ℕ) (n : ℤ) → IsTrue (is_free (var.Bound k) (ForAll k (Literal n) (Variable (var.Bound k)) (Equal (Variable (var.Bound k)) (Variable (var.Bound k)))))
end_is_free k n = ap (λ (b : Bool). false || b || not b && (b || b)) (var_self (var.Bound k))

pub bound_value : (k : ℕ) (z : ℤ) (e : Env) → value (bind k z e) (Variable (var.Bound k)) ≡ whole z
bound_value k z e = ap (λ (b : Bool). whole (if b then z else e.int (var.Bound k))) (var_self (var.Bound k))

var_other : (v w : Var) → v ≢ w → var_eq v w ≡ false
var_other v w ne = by (var_eq v w) refl
  where
    by : (b : Bool) → var_eq v w ≡ b → b ≡ false
    by false h = refl
    by true h = absurd (ne (var_one v w h))

pub other_value : (k : ℕ) (z : ℤ) (e : Env) (v : Var) → v ≢ var.Bound k → value (bind k z e) (Variable v) ≡ value e (Variable v)
other_value k z e v ne = unbound v (var_other v (var.Bound k) ne)
  where
    unbound : (v : Var) → var_eq v (var.Bound k) ≡ false → Agrees (bind k z e) e v
    unbound (var.Entry x) h = refl
    unbound (var.Now x) h = refl
    unbound (var.After x j) h = refl
    unbound var.MemEntry h = refl
    unbound var.Mem h = refl
    unbound (var.MemAfter j) h = refl
    unbound (var.In j) h = refl
    unbound (var.SlotHigh j) h = refl
    unbound (var.SlotLow j) h = refl
    unbound (var.Any j) h = refl
    unbound (var.Bound j) h = ap (λ (b : Bool). whole (if b then z else e.int (var.Bound j))) h

pub every : (e : Env) (k : ℕ) (x y p : Tree) → IsTrueIn e (ForAll k x y p) ↔ ((z : ℤ) → int_of e x ≤ℤ z → z ≤ℤ int_of e y → IsTrueIn (bind k z e) p)
every e k x y p = all_between_is (λ z. (value (bind k z e) p).truth) (int_of e x) (int_of e y)

pub one : (e : Env) (k : ℕ) (x y p : Tree) → IsTrueIn e (ForSome k x y p) ↔ ((z : ℤ) × (int_of e x ≤ℤ z) × (z ≤ℤ int_of e y) × IsTrueIn (bind k z e) p)
one e k x y p = some_between_is (λ z. (value (bind k z e) p).truth) (int_of e x) (int_of e y)
