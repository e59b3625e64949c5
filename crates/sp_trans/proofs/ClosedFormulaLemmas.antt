-- The formula of a closed note is a closed term.
use Rattle.std.proofs.Common.{◌≡◌, ◌≢◌, ℕ, zero, suc, ◌+◌, ◌<◌, ◌≤◌, ◌⊎◌, inl, inr, Bool, true, false, cond, not, List, [], ◌∷◌, length, refl, sym, ap, subst, arith}
use Rattle.std.specs.Prelude.{◌&&◌, ◌==◌, Contains, bytes_eq}
use Rattle.std.specs.List.{AllByRecursion}
use Rattle.std.proofs.lemmas.Bool.Decides.{nat_tests}
use Rattle.std.proofs.lemmas.List.Elements.{recursion_from_All}
use Rattle.sp_base.specs.declared.pair.Pair.TheVariants as pair
use Rattle.sp_model.specs.Note as note
use Rattle.sp_model.specs.Note.{Moment, RegisterPair, Operator, Quantity, Comparison, Connective, Quantifier, Note, HasBoundNames, BindsNames}
use Rattle.sp_term.specs.declared.var.Var.TheVariants as var
use Rattle.sp_term.specs.Tree.{Tree}
use Rattle.sp_term.specs.Free.{var_eq, is_free}
use Rattle.sp_term.specs.Sorts.{Sort, Int, Formula, HasSort}
use Rattle.sp_trans.specs.Symbolic.{Word, Symbolic}
use Rattle.sp_trans.specs.Formulas.{state_at, register_pair_term, stack_term, name_number, operation, quantity_term, comparison_formula, connective_formula, quantifier_formula, formula_in}
use Rattle.sp_trans.specs.ClosedTerms.{IsClosedTerm, IsClosedWord, IsSymbolic}
use Rattle.sp_trans.specs.Theorems.{FormulasAreClosed}
use Rattle.sp_trans.proofs.ClosedLemmas.{neither, pair_int, word, literal}
use Rattle.sp_trans.proofs.NoteLemmas.{in_rest, not_in_none}

-- a number that is none from 1 through n
abbrev IsNone : ℕ → ℕ → Type 0
IsNone n k = (k ≡ 0) ⊎ (n < k)

-- a term of a sort in which no bound variables but those with the numbers 1 to n are free
record IsBelow (n : ℕ) (s : Sort) (t : Tree) : Type 0 where
  pub sort : HasSort t s
  pub above : (k : ℕ) → IsNone n k → is_free (var.Bound k) t ≡ false

from_closed : (n : ℕ) {s : Sort} {t : Tree} → IsClosedTerm s t → IsBelow n s t
from_closed n h = record { sort = h.sort; above = λ k over. h.closed k }

-- ---- bound names

some_number : (names : List (List ℕ)) (name : List ℕ) → Contains names name → (1 ≤ name_number names name) × (name_number names name ≤ length names)
some_number [] name h = absurd (not_in_none name h)
some_number (bound ∷ outer) name h = by (bytes_eq bound name) refl (λ is. some_number outer name (in_rest bound name outer is h))
  where
    by : (t : Bool) → bytes_eq bound name ≡ t → (bytes_eq bound name ≡ false → (1 ≤ name_number outer name) × (name_number outer name ≤ length outer))
        → (1 ≤ name_number (bound ∷ outer) name) × (name_number (bound ∷ outer) name ≤ length (bound ∷ outer))
    by true is rest =
        let number : name_number (bound ∷ outer) name ≡ length outer + 1 = ap (λ t. cond t (length outer + 1) (name_number outer name)) is in
        (omega (arith, number), omega (arith, number))
    by false is rest =
        let number : name_number (bound ∷ outer) name ≡ name_number outer name = ap (λ t. cond t (length outer + 1) (name_number outer name)) is in
        let r = rest is in
        (omega (arith, number, r.0), omega (arith, number, r.1))

-- ---- quantities

at_moment : (m : Moment) {g0 g : Symbolic} → IsSymbolic g0 → IsSymbolic g → IsSymbolic (state_at m g0 g)
at_moment note.Now h k = k
at_moment note.AtEntry h k = h

pair_closed : (p : RegisterPair) {g : Symbolic} → IsSymbolic g → IsClosedTerm Int (register_pair_term p g)
pair_closed note.BC k = pair_int pair.B k
pair_closed note.DE k = pair_int pair.D k
pair_closed note.HL k = pair_int pair.H k

by_test : (b : Bool) {x y : Tree} → IsClosedTerm Int x → IsClosedTerm Int y → IsClosedTerm Int (cond b x y)
by_test true h k = h
by_test false h k = k

stack_closed : (k : ℕ) (words : List Word) → AllByRecursion IsClosedWord words → IsClosedTerm Int (stack_term k words)
stack_closed k [] h = literal 0
stack_closed k (w ∷ words) h = by_test _ (word h.0.high h.0.low) (stack_closed k words h.1)

operation_below : (o : Operator) (n : ℕ) {x y : Tree} → IsBelow n Int x → IsBelow n Int y → IsBelow n Int (operation o x y)
operation_below note.Add n h k = record { sort = (refl, h.sort, k.sort); above = λ j over. neither _ _ (h.above j over) (k.above j over) }
operation_below note.Subtract n h k = record { sort = (refl, h.sort, k.sort); above = λ j over. neither _ _ (h.above j over) (k.above j over) }
operation_below note.Multiply n h k = record { sort = (refl, h.sort, k.sort); above = λ j over. neither _ _ (h.above j over) (k.above j over) }
operation_below note.Divide n h k = record { sort = (refl, h.sort, k.sort); above = λ j over. neither _ _ (h.above j over) (k.above j over) }
operation_below note.Modulo n h k = record { sort = (refl, h.sort, k.sort); above = λ j over. neither _ _ (h.above j over) (k.above j over) }
operation_below note.BitAnd n h k = record { sort = (refl, h.sort, k.sort); above = λ j over. neither _ _ (h.above j over) (k.above j over) }
operation_below note.BitOr n h k = record { sort = (refl, h.sort, k.sort); above = λ j over. neither _ _ (h.above j over) (k.above j over) }
operation_below note.BitXor n h k = record { sort = (refl, h.sort, k.sort); above = λ j over. neither _ _ (h.above j over) (k.above j over) }

other_number : (j m n : ℕ) → 1 ≤ m → m ≤ n → IsNone n j → (j == m) ≡ false
other_number j m n low high (inl zero_is) = grind (arith, nat_tests)
other_number j m n low high (inr over) = grind (arith, nat_tests)

quantity_below : (g0 g : Symbolic) → IsSymbolic g0 → IsSymbolic g → (names : List (List ℕ)) (x : Quantity) → HasBoundNames names x → IsBelow (length names) Int (quantity_term g0 g names x)
quantity_below g0 g h k names (note.Literal n) bound = from_closed _ (literal n)
quantity_below g0 g h k names (note.Location m x) bound = from_closed _ ((at_moment m h k).locations x)
quantity_below g0 g h k names (note.Pair m p) bound = from_closed _ (pair_closed p (at_moment m h k))
quantity_below g0 g h k names (note.Cell m x) bound =
    let memory = (at_moment m h k).memory in
    let t = quantity_below g0 g h k names x bound in
    record { sort = (refl, memory.sort, t.sort); above = λ j over. neither _ _ (memory.closed j) (t.above j over) }
quantity_below g0 g h k names (note.StackWord n) bound = from_closed _ (stack_closed n g.slots (recursion_from_All IsClosedWord g.slots k.slots))
quantity_below g0 g h k names (note.Total m x y) bound =
    let memory = (at_moment m h k).memory in
    let t = quantity_below g0 g h k names x bound.0 in
    let u = quantity_below g0 g h k names y bound.1 in
    record { sort = (refl, memory.sort, t.sort, u.sort); above = λ j over. neither _ _ (neither _ _ (memory.closed j) (t.above j over)) (u.above j over) }
quantity_below g0 g h k names (note.Negative x) bound =
    let t = quantity_below g0 g h k names x bound in
    record { sort = (refl, refl, t.sort); above = λ j over. t.above j over }
quantity_below g0 g h k names (note.Parity x) bound =
    let t = quantity_below g0 g h k names x bound in
    record { sort = (refl, t.sort); above = t.above }
quantity_below g0 g h k names (note.Operate o x y) bound = operation_below o _ (quantity_below g0 g h k names x bound.0) (quantity_below g0 g h k names y bound.1)
quantity_below g0 g h k names (note.Bound name) bound =
    let number = some_number names name bound in
    record { sort = (refl, number.0); above = λ j over. other_number j (name_number names name) (length names) number.0 number.1 over }

-- ---- formulas

comparison_below : (c : Comparison) (n : ℕ) {x y : Tree} → IsBelow n Int x → IsBelow n Int y → IsBelow n Formula (comparison_formula c x y)
comparison_below note.Equal n h k = record { sort = (refl, h.sort, k.sort); above = λ j over. neither _ _ (h.above j over) (k.above j over) }
comparison_below note.Unequal n h k = record { sort = (refl, (refl, h.sort, k.sort)); above = λ j over. neither _ _ (h.above j over) (k.above j over) }
comparison_below note.Less n h k = record { sort = (refl, h.sort, k.sort); above = λ j over. neither _ _ (h.above j over) (k.above j over) }
comparison_below note.LessOrEqual n h k = record { sort = (refl, h.sort, k.sort); above = λ j over. neither _ _ (h.above j over) (k.above j over) }
comparison_below note.Greater n h k = record { sort = (refl, k.sort, h.sort); above = λ j over. neither _ _ (k.above j over) (h.above j over) }
comparison_below note.GreaterOrEqual n h k = record { sort = (refl, k.sort, h.sort); above = λ j over. neither _ _ (k.above j over) (h.above j over) }

connective_below : (c : Connective) (n : ℕ) {p q : Tree} → IsBelow n Formula p → IsBelow n Formula q → IsBelow n Formula (connective_formula c p q)
connective_below note.And n h k = record { sort = (refl, h.sort, k.sort); above = λ j over. neither _ _ (h.above j over) (k.above j over) }
connective_below note.Or n h k = record { sort = (refl, h.sort, k.sort); above = λ j over. neither _ _ (h.above j over) (k.above j over) }
connective_below note.Implies n h k = record { sort = (refl, h.sort, k.sort); above = λ j over. neither _ _ (h.above j over) (k.above j over) }
connective_below note.Iff n h k = record { sort = (refl, h.sort, k.sort); above = λ j over. neither _ _ (h.above j over) (k.above j over) }

bound_or_free : (a b : Bool) → (not a ≡ true → b ≡ false) → (not a && b) ≡ false
bound_or_free true b h = refl
bound_or_free false b h = h refl

further : (n j : ℕ) → IsNone n j → (j == n + 1) ≡ false → IsNone (n + 1) j
further n j (inl zero_is) other = inl zero_is
further n j (inr over) other = inr (let apart : j ≢ n + 1 = grind (arith, nat_tests) in omega arith)

not_true : (b : Bool) → not b ≡ true → b ≡ false
not_true true h = sym h
not_true false h = refl

-- in the formula of a quantifier the next number is bound, and each other one isn't free
inside : (n j : ℕ) (p : Tree) → IsNone n j → ((k : ℕ) → IsNone (n + 1) k → is_free (var.Bound k) p ≡ false) → (not (var_eq (var.Bound j) (var.Bound (n + 1))) && is_free (var.Bound j) p) ≡ false
inside n j p over h = bound_or_free (j == n + 1) (is_free (var.Bound j) p) (λ other. h j (further n j over (not_true (j == n + 1) other)))

quantifier_below : (q : Quantifier) (n : ℕ) {x y p : Tree} → IsBelow n Int x → IsBelow n Int y → IsBelow (n + 1) Formula p → IsBelow n Formula (quantifier_formula q (n + 1) x y p)
quantifier_below note.ForAll n {p = p} h k l = record { sort = (refl, omega arith, h.sort, k.sort, l.sort); above = λ j over. neither _ _ (neither _ _ (h.above j over) (k.above j over)) (inside n j p over l.above) }
quantifier_below note.ForSome n {p = p} h k l = record { sort = (refl, omega arith, h.sort, k.sort, l.sort); above = λ j over. neither _ _ (neither _ _ (h.above j over) (k.above j over)) (inside n j p over l.above) }

formula_below : (g0 g : Symbolic) → IsSymbolic g0 → IsSymbolic g → (names : List (List ℕ)) (p : Note) → BindsNames names p → IsBelow (length names) Formula (formula_in g0 g names p)
formula_below g0 g h k names (note.Constant truth) bound = record { sort = refl; above = λ j over. refl }
formula_below g0 g h k names (note.Compare c x y) bound = comparison_below c _ (quantity_below g0 g h k names x bound.0) (quantity_below g0 g h k names y bound.1)
formula_below g0 g h k names (note.Not p) bound = let t = formula_below g0 g h k names p bound in record { sort = (refl, t.sort); above = t.above }
formula_below g0 g h k names (note.Connect c p q) bound = connective_below c _ (formula_below g0 g h k names p bound.0) (formula_below g0 g h k names q bound.1)
formula_below g0 g h k names (note.Quantify q name x y p) bound =
    let more : length (name ∷ names) ≡ length names + 1 = omega arith in
    quantifier_below q (length names) (quantity_below g0 g h k names x bound.0) (quantity_below g0 g h k names y bound.1)
    (subst (λ n. IsBelow n Formula (formula_in g0 g (name ∷ names) p)) more (formula_below g0 g h k (name ∷ names) p bound.2))

every_number : (k : ℕ) → IsNone 0 k
every_number zero = inl refl
every_number (suc k) = inr (omega arith)

pub formulas_are_closed : FormulasAreClosed
formulas_are_closed p g0 g bound h k =
    let t = formula_below g0 g h k [] p bound in
    record { sort = t.sort; closed = λ j. t.above j (every_number j) }
