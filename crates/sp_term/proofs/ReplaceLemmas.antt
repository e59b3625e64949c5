-- What the value, the sort and the free variables of a tree are with another tree in the place of a variable.
use Rattle.std.proofs.Common.{◌≡◌, ℕ, refl, sym, ◌∙◌, ap, subst, ◌==◌, Bool, true, false, ◌&&◌, ◌||◌, not, ℤ}
use Rattle.std.specs.Prelude.{◌+ℤ◌, ◌-ℤ◌, ◌*ℤ◌, int_lt, int_le, if◌then◌else◌}
use Rattle.std.specs.Ordering.{int_eq}
use Rattle.std.proofs.lemmas.Bool.{and_parts, eqb-true}
use Rattle.sp_base.specs.Locs.{place}
use Rattle.sp_base.specs.Integers.{quotient, remainder, byte_and, byte_or, byte_xor, parity, sum_between, all_between, some_between}
use Rattle.sp_base.proofs.LocsLaws.{same_place}
use Rattle.sp_term.specs.declared.var.Var.{Var}
use Rattle.sp_term.specs.declared.var.Var.TheVariants as var
use Rattle.sp_term.specs.Tree.{Tree, Literal, Truth, Variable, Add, Subtract, Multiply, Divide, Remainder, ByteAnd, ByteOr, ByteXor, Parity, Bit, Psw, If, Element, Update, Total, Equal, Less, LessOrEqual, Not, And, Or, Implies, Iff, ForAll, ForSome}
use Rattle.sp_term.specs.Free.{var_eq, is_free, IsClosed, replaced}
use Rattle.sp_term.specs.Sorts.{Sort, Int, Formula, Memory, sort_of, HasSort}
use Rattle.sp_term.specs.Value.{Env, Value, whole, cells, fact, variable_value, updated, bit, psw, bind, value, assigned}
use Rattle.sp_term.proofs.FreeLemmas.{Agrees, value_agrees, var_self}

pub var_one : (v w : Var) → var_eq v w ≡ true → v ≡ w
var_one (var.Entry x) (var.Entry y) h = ap var.Entry (same_place x y (eqb-true (place x) (place y) h))
var_one (var.Now x) (var.Now y) h = ap var.Now (same_place x y (eqb-true (place x) (place y) h))
var_one (var.After x i) (var.After y j) h =
    let both = and_parts (place x == place y) (i == j) h in
    let a : x ≡ y = same_place x y (eqb-true (place x) (place y) both.0) in
    let b : i ≡ j = eqb-true i j both.1 in cc
var_one var.MemEntry var.MemEntry h = refl
var_one var.Mem var.Mem h = refl
var_one (var.MemAfter i) (var.MemAfter j) h = ap var.MemAfter (eqb-true i j h)
var_one (var.In i) (var.In j) h = ap var.In (eqb-true i j h)
var_one (var.SlotHigh i) (var.SlotHigh j) h = ap var.SlotHigh (eqb-true i j h)
var_one (var.SlotLow i) (var.SlotLow j) h = ap var.SlotLow (eqb-true i j h)
var_one (var.Any i) (var.Any j) h = ap var.Any (eqb-true i j h)
var_one (var.Bound i) (var.Bound j) h = ap var.Bound (eqb-true i j h)
var_one _ _ h = absurd (cc)

-- the part of a value that a term of a sort has
abbrev only : Sort → Value → Value
only Int x = whole x.int
only Formula x = fact x.truth
only Memory x = cells x.map

only_variable : (s : Sort) (e : Env) (v : Var) → variable_value s e v ≡ only s (variable_value s e v)
only_variable Int e v = refl
only_variable Formula e v = refl
only_variable Memory e v = refl

-- a term of a sort has no value of another one
value_only : (t : Tree) (s : Sort) → HasSort t s → (e : Env) → value e t ≡ only s (value e t)
value_only (Literal n) s h e = subst (λ r. value e (Literal n) ≡ only r (value e (Literal n))) (sym h) refl
value_only (Truth b) s h e = subst (λ r. value e (Truth b) ≡ only r (value e (Truth b))) (sym h) refl
value_only (Variable v) s h e = subst (λ r. variable_value (sort_of v) e v ≡ only r (variable_value (sort_of v) e v)) (sym h.0) (only_variable (sort_of v) e v)
value_only (Add x y) s h e = subst (λ r. value e (Add x y) ≡ only r (value e (Add x y))) (sym h.0) refl
value_only (Subtract x y) s h e = subst (λ r. value e (Subtract x y) ≡ only r (value e (Subtract x y))) (sym h.0) refl
value_only (Multiply x y) s h e = subst (λ r. value e (Multiply x y) ≡ only r (value e (Multiply x y))) (sym h.0) refl
value_only (Divide x y) s h e = subst (λ r. value e (Divide x y) ≡ only r (value e (Divide x y))) (sym h.0) refl
value_only (Remainder x y) s h e = subst (λ r. value e (Remainder x y) ≡ only r (value e (Remainder x y))) (sym h.0) refl
value_only (ByteAnd x y) s h e = subst (λ r. value e (ByteAnd x y) ≡ only r (value e (ByteAnd x y))) (sym h.0) refl
value_only (ByteOr x y) s h e = subst (λ r. value e (ByteOr x y) ≡ only r (value e (ByteOr x y))) (sym h.0) refl
value_only (ByteXor x y) s h e = subst (λ r. value e (ByteXor x y) ≡ only r (value e (ByteXor x y))) (sym h.0) refl
value_only (Parity x) s h e = subst (λ r. value e (Parity x) ≡ only r (value e (Parity x))) (sym h.0) refl
value_only (Bit k x) s h e = subst (λ r. value e (Bit k x) ≡ only r (value e (Bit k x))) (sym h.0) refl
value_only (Psw f z ac p cy) s h e = subst (λ r. value e (Psw f z ac p cy) ≡ only r (value e (Psw f z ac p cy))) (sym h.0) refl
value_only (If p x y) s h e = subst (λ r. value e (If p x y) ≡ only r (value e (If p x y))) (sym h.0) refl
value_only (Element m x) s h e = subst (λ r. value e (Element m x) ≡ only r (value e (Element m x))) (sym h.0) refl
value_only (Update m x y) s h e = subst (λ r. value e (Update m x y) ≡ only r (value e (Update m x y))) (sym h.0) refl
value_only (Total m x y) s h e = subst (λ r. value e (Total m x y) ≡ only r (value e (Total m x y))) (sym h.0) refl
value_only (Equal x y) s h e = subst (λ r. value e (Equal x y) ≡ only r (value e (Equal x y))) (sym h.0) refl
value_only (Less x y) s h e = subst (λ r. value e (Less x y) ≡ only r (value e (Less x y))) (sym h.0) refl
value_only (LessOrEqual x y) s h e = subst (λ r. value e (LessOrEqual x y) ≡ only r (value e (LessOrEqual x y))) (sym h.0) refl
value_only (Not p) s h e = subst (λ r. value e (Not p) ≡ only r (value e (Not p))) (sym h.0) refl
value_only (And p q) s h e = subst (λ r. value e (And p q) ≡ only r (value e (And p q))) (sym h.0) refl
value_only (Or p q) s h e = subst (λ r. value e (Or p q) ≡ only r (value e (Or p q))) (sym h.0) refl
value_only (Implies p q) s h e = subst (λ r. value e (Implies p q) ≡ only r (value e (Implies p q))) (sym h.0) refl
value_only (Iff p q) s h e = subst (λ r. value e (Iff p q) ≡ only r (value e (Iff p q))) (sym h.0) refl
value_only (ForAll k x y p) s h e = subst (λ r. value e (ForAll k x y p) ≡ only r (value e (ForAll k x y p))) (sym h.0) refl
value_only (ForSome k x y p) s h e = subst (λ r. value e (ForSome k x y p) ≡ only r (value e (ForSome k x y p))) (sym h.0) refl

-- a variable that was assigned has the value
assigned_itself : (v : Var) (x : Value) (e : Env) → variable_value (sort_of v) (assigned v x e) v ≡ only (sort_of v) x
assigned_itself (var.Entry y) x e = ap (λ (b : Bool). whole (if b then x.int else e.int (var.Entry y))) (var_self (var.Entry y))
assigned_itself (var.Now y) x e = ap (λ (b : Bool). whole (if b then x.int else e.int (var.Now y))) (var_self (var.Now y))
assigned_itself (var.After y j) x e = ap (λ (b : Bool). whole (if b then x.int else e.int (var.After y j))) (var_self (var.After y j))
assigned_itself var.MemEntry x e = ap (λ (b : Bool). cells (if b then x.map else e.map var.MemEntry)) (var_self var.MemEntry)
assigned_itself var.Mem x e = ap (λ (b : Bool). cells (if b then x.map else e.map var.Mem)) (var_self var.Mem)
assigned_itself (var.MemAfter j) x e = ap (λ (b : Bool). cells (if b then x.map else e.map (var.MemAfter j))) (var_self (var.MemAfter j))
assigned_itself (var.In j) x e = ap (λ (b : Bool). whole (if b then x.int else e.int (var.In j))) (var_self (var.In j))
assigned_itself (var.SlotHigh j) x e = ap (λ (b : Bool). whole (if b then x.int else e.int (var.SlotHigh j))) (var_self (var.SlotHigh j))
assigned_itself (var.SlotLow j) x e = ap (λ (b : Bool). whole (if b then x.int else e.int (var.SlotLow j))) (var_self (var.SlotLow j))
assigned_itself (var.Any j) x e = ap (λ (b : Bool). whole (if b then x.int else e.int (var.Any j))) (var_self (var.Any j))
assigned_itself (var.Bound j) x e = ap (λ (b : Bool). whole (if b then x.int else e.int (var.Bound j))) (var_self (var.Bound j))

-- no other variable is changed
assigned_other : (v : Var) (x : Value) (e : Env) (w : Var) → var_eq w v ≡ false → Agrees (assigned v x e) e w
assigned_other v x e (var.Entry y) h = ap (λ (b : Bool). whole (if b then x.int else e.int (var.Entry y))) h
assigned_other v x e (var.Now y) h = ap (λ (b : Bool). whole (if b then x.int else e.int (var.Now y))) h
assigned_other v x e (var.After y j) h = ap (λ (b : Bool). whole (if b then x.int else e.int (var.After y j))) h
assigned_other v x e var.MemEntry h = ap (λ (b : Bool). cells (if b then x.map else e.map var.MemEntry)) h
assigned_other v x e var.Mem h = ap (λ (b : Bool). cells (if b then x.map else e.map var.Mem)) h
assigned_other v x e (var.MemAfter j) h = ap (λ (b : Bool). cells (if b then x.map else e.map (var.MemAfter j))) h
assigned_other v x e (var.In j) h = ap (λ (b : Bool). whole (if b then x.int else e.int (var.In j))) h
assigned_other v x e (var.SlotHigh j) h = ap (λ (b : Bool). whole (if b then x.int else e.int (var.SlotHigh j))) h
assigned_other v x e (var.SlotLow j) h = ap (λ (b : Bool). whole (if b then x.int else e.int (var.SlotLow j))) h
assigned_other v x e (var.Any j) h = ap (λ (b : Bool). whole (if b then x.int else e.int (var.Any j))) h
assigned_other v x e (var.Bound j) h = ap (λ (b : Bool). whole (if b then x.int else e.int (var.Bound j))) h

pair_eq : (e f : Env) → e.int ≡ f.int → e.map ≡ f.map → e ≡ f
pair_eq e f p q = λ i. record { int = p i; map = q i }

-- a variable that a quantifier does not bind may be assigned inside or outside of it
either_order : (v : Var) (x : Value) (k : ℕ) (n : ℤ) (e : Env) → var_eq v (var.Bound k) ≡ false → assigned v x (bind k n e) ≡ bind k n (assigned v x e)
either_order v x k n e other = pair_eq _ _ (λ i w. by w i) refl
  where
    both : (w : Var) (a b : Bool) → var_eq w v ≡ a → var_eq w (var.Bound k) ≡ b → (if a then x.int else if b then n else e.int w) ≡ (if b then n else if a then x.int else e.int w)
    both w true true p q = absurd (let r : var_eq v (var.Bound k) ≡ true = subst (λ u. var_eq u (var.Bound k) ≡ true) (var_one w v p) q in cc)
    both w true false p q = refl
    both w false true p q = refl
    both w false false p q = refl

    by : (w : Var) → (if var_eq w v then x.int else if var_eq w (var.Bound k) then n else e.int w) ≡ (if var_eq w (var.Bound k) then n else if var_eq w v then x.int else e.int w)
    by w = both w (var_eq w v) (var_eq w (var.Bound k)) refl refl

-- a quantifier's own variable has the quantifier's number, whatever it was before
bound_again : (k : ℕ) (x : Value) (n : ℤ) (e : Env) (w : Var) → Agrees (bind k n e) (bind k n (assigned (var.Bound k) x e)) w
bound_again k x n e (var.Entry y) = refl
bound_again k x n e (var.Now y) = refl
bound_again k x n e (var.After y j) = refl
bound_again k x n e var.MemEntry = refl
bound_again k x n e var.Mem = refl
bound_again k x n e (var.MemAfter j) = refl
bound_again k x n e (var.In j) = refl
bound_again k x n e (var.SlotHigh j) = refl
bound_again k x n e (var.SlotLow j) = refl
bound_again k x n e (var.Any j) = refl
bound_again k x n e (var.Bound j) = by (var_eq (var.Bound j) (var.Bound k))
  where
    by : (b : Bool) → whole (if b then n else e.int (var.Bound j)) ≡ whole (if b then n else if b then x.int else e.int (var.Bound j))
    by true = refl
    by false = refl

-- no closed tree reads a bound variable
closed_bound : (by : Tree) → IsClosed by → (k : ℕ) (n : ℤ) (e : Env) → value (bind k n e) by ≡ value e by
closed_bound by closed k n e = value_agrees by (bind k n e) e (λ v free. agree v free (var_eq v (var.Bound k)) refl)
  where
    agree : (v : Var) → is_free v by ≡ true → (b : Bool) → var_eq v (var.Bound k) ≡ b → Agrees (bind k n e) e v
    agree v free true is = absurd (let r : is_free (var.Bound k) by ≡ true = subst (λ u. is_free u by ≡ true) (var_one v (var.Bound k) is) free in let s : is_free (var.Bound k) by ≡ false = closed k in cc)
    agree v free false is = other v is
      where
        other : (v : Var) → var_eq v (var.Bound k) ≡ false → Agrees (bind k n e) e v
        other (var.Entry y) is = refl
        other (var.Now y) is = refl
        other (var.After y j) is = refl
        other var.MemEntry is = refl
        other var.Mem is = refl
        other (var.MemAfter j) is = refl
        other (var.In j) is = refl
        other (var.SlotHigh j) is = refl
        other (var.SlotLow j) is = refl
        other (var.Any j) is = refl
        other (var.Bound j) is = ap (λ (b : Bool). whole (if b then n else e.int (var.Bound j))) is

-- the formula of a quantifier, where the law stands of the formula itself
under_quantifier : (v : Var) (by : Tree) → IsClosed by → (e : Env) (k : ℕ) (p : Tree)
    → ((f : Env) → value f (replaced v by p) ≡ value (assigned v (value f by) f) p) → (n : ℤ)
    → value (bind k n e) (if var_eq v (var.Bound k) then p else replaced v by p) ≡ value (bind k n (assigned v (value e by) e)) p
under_quantifier v by closed e k p law n = pick (var_eq v (var.Bound k)) refl
  where
    pick : (b : Bool) → var_eq v (var.Bound k) ≡ b → value (bind k n e) (if var_eq v (var.Bound k) then p else replaced v by p) ≡ value (bind k n (assigned v (value e by) e)) p
    pick true is = rw is (subst (λ u. value (bind k n e) p ≡ value (bind k n (assigned u (value e by) e)) p) (sym (var_one v (var.Bound k) is))
        (value_agrees p (bind k n e) (bind k n (assigned (var.Bound k) (value e by) e)) (λ w free. bound_again k (value e by) n e w)))
    pick false is = rw is (law (bind k n e)
        ∙ ap (λ (x : Value). value (assigned v x (bind k n e)) p) (closed_bound by closed k n e)
        ∙ ap (λ (f : Env). value f p) (either_order v (value e by) k n e is))

-- with a closed term of its sort in the place of a variable, a tree has the value that it has where the variable has the
-- term's value
pub value-replaced : (t : Tree) (v : Var) (by : Tree) → HasSort by (sort_of v) → IsClosed by → (e : Env) → value e (replaced v by t) ≡ value (assigned v (value e by) e) t
value-replaced (Literal n) v by sort closed e = refl
value-replaced (Truth b) v by sort closed e = refl
value-replaced (Variable w) v by sort closed e = here (var_eq w v) refl
  where
    here : (b : Bool) → var_eq w v ≡ b → value e (if var_eq w v then by else Variable w) ≡ value (assigned v (value e by) e) (Variable w)
    here true is = rw is (
        value_only by (sort_of v) sort e ∙ sym (assigned_itself v (value e by) e)
        ∙ ap (λ (u : Var). value (assigned v (value e by) e) (Variable u)) (sym (var_one w v is)))
    here false is = rw is (sym (assigned_other v (value e by) e w is))
value-replaced (Add x y) v by sort closed e = λ i. whole ((value-replaced x v by sort closed e i).int +ℤ (value-replaced y v by sort closed e i).int)
value-replaced (Subtract x y) v by sort closed e = λ i. whole ((value-replaced x v by sort closed e i).int -ℤ (value-replaced y v by sort closed e i).int)
value-replaced (Multiply x y) v by sort closed e = λ i. whole ((value-replaced x v by sort closed e i).int *ℤ (value-replaced y v by sort closed e i).int)
value-replaced (Divide x y) v by sort closed e = λ i. whole (quotient (value-replaced x v by sort closed e i).int (value-replaced y v by sort closed e i).int)
value-replaced (Remainder x y) v by sort closed e = λ i. whole (remainder (value-replaced x v by sort closed e i).int (value-replaced y v by sort closed e i).int)
value-replaced (ByteAnd x y) v by sort closed e = λ i. whole (byte_and (value-replaced x v by sort closed e i).int (value-replaced y v by sort closed e i).int)
value-replaced (ByteOr x y) v by sort closed e = λ i. whole (byte_or (value-replaced x v by sort closed e i).int (value-replaced y v by sort closed e i).int)
value-replaced (ByteXor x y) v by sort closed e = λ i. whole (byte_xor (value-replaced x v by sort closed e i).int (value-replaced y v by sort closed e i).int)
value-replaced (Parity x) v by sort closed e = λ i. whole (parity (value-replaced x v by sort closed e i).int)
value-replaced (Bit k x) v by sort closed e = λ i. whole (bit k (value-replaced x v by sort closed e i).int)
value-replaced (Psw s z ac p cy) v by sort closed e = λ i. whole (psw (value-replaced s v by sort closed e i).int (value-replaced z v by sort closed e i).int (value-replaced ac v by sort closed e i).int (value-replaced p v by sort closed e i).int (value-replaced cy v by sort closed e i).int)
value-replaced (If p x y) v by sort closed e = λ i. whole (if (value-replaced p v by sort closed e i).truth then (value-replaced x v by sort closed e i).int else (value-replaced y v by sort closed e i).int)
value-replaced (Element m x) v by sort closed e = λ i. whole ((value-replaced m v by sort closed e i).map (value-replaced x v by sort closed e i).int)
value-replaced (Update m x y) v by sort closed e = λ i. cells (updated (value-replaced m v by sort closed e i).map (value-replaced x v by sort closed e i).int (value-replaced y v by sort closed e i).int)
value-replaced (Total m x y) v by sort closed e = λ i. whole (sum_between (value-replaced m v by sort closed e i).map (value-replaced x v by sort closed e i).int (value-replaced y v by sort closed e i).int)
value-replaced (Equal x y) v by sort closed e = λ i. fact (int_eq (value-replaced x v by sort closed e i).int (value-replaced y v by sort closed e i).int)
value-replaced (Less x y) v by sort closed e = λ i. fact (int_lt (value-replaced x v by sort closed e i).int (value-replaced y v by sort closed e i).int)
value-replaced (LessOrEqual x y) v by sort closed e = λ i. fact (int_le (value-replaced x v by sort closed e i).int (value-replaced y v by sort closed e i).int)
value-replaced (Not p) v by sort closed e = λ i. fact (not (value-replaced p v by sort closed e i).truth)
value-replaced (And p q) v by sort closed e = λ i. fact ((value-replaced p v by sort closed e i).truth && (value-replaced q v by sort closed e i).truth)
value-replaced (Or p q) v by sort closed e = λ i. fact ((value-replaced p v by sort closed e i).truth || (value-replaced q v by sort closed e i).truth)
value-replaced (Implies p q) v by sort closed e = λ i. fact (not (value-replaced p v by sort closed e i).truth || (value-replaced q v by sort closed e i).truth)
value-replaced (Iff p q) v by sort closed e = λ i. fact (if (value-replaced p v by sort closed e i).truth then (value-replaced q v by sort closed e i).truth else not (value-replaced q v by sort closed e i).truth)
value-replaced (ForAll k x y p) v by sort closed e = λ i. fact (all_between (λ n. (under_quantifier v by closed e k p (λ f. value-replaced p v by sort closed f) n i).truth) (value-replaced x v by sort closed e i).int (value-replaced y v by sort closed e i).int)
value-replaced (ForSome k x y p) v by sort closed e = λ i. fact (some_between (λ n. (under_quantifier v by closed e k p (λ f. value-replaced p v by sort closed f) n i).truth) (value-replaced x v by sort closed e i).int (value-replaced y v by sort closed e i).int)
