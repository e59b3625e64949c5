-- Notes as formulas over two symbolic states, that at the routine's entry and the present one (this project's own).
use Rattle.std.specs.Prelude.{ℕ, ◌+◌, ◌==◌, ◌≤◌, List, [], ◌∷◌, length, bytes_eq, if◌then◌else◌, ⊤}
use Rattle.sp_base.specs.declared.pair.Pair.TheVariants as pair
use Rattle.sp_model.specs.Note as note
use Rattle.sp_model.specs.Note.{Moment, RegisterPair, Operator, Quantity, Comparison, Connective, Quantifier, Note}
use Rattle.sp_term.specs.declared.var.Var.TheVariants as var
use Rattle.sp_term.specs.Tree.{Tree, Truth, Variable, Add, Subtract, Multiply, Divide, Remainder, ByteAnd, ByteOr, ByteXor, Parity, Element, Total, Equal, Less, LessOrEqual, Not, And, Or, Implies, Iff, ForAll, ForSome}
use Rattle.sp_trans.specs.Symbolic.{Word, Symbolic, term_at, number, joined, pair_term}

abbrev pub state_at : Moment → Symbolic → Symbolic → Symbolic
state_at note.Now entry now = now
state_at note.AtEntry entry now = entry

abbrev pub register_pair_term : RegisterPair → Symbolic → Tree
register_pair_term note.BC g = pair_term pair.B g
register_pair_term note.DE g = pair_term pair.D g
register_pair_term note.HL g = pair_term pair.H g

-- the k-th word from the base, among words with the newest first (0 where there is none)
abbrev pub stack_term : ℕ → List Word → Tree
stack_term k [] = number 0
stack_term k (w ∷ words) = if k == length words + 1 then joined w.high w.low else stack_term k words

-- bound names, the innermost first, are numbered from 1 by the quantifiers round them, the outermost first
abbrev pub name_number : List (List ℕ) → List ℕ → ℕ
name_number [] name = 0
name_number (bound ∷ outer) name = if bytes_eq bound name then length outer + 1 else name_number outer name

abbrev pub operation : Operator → Tree → Tree → Tree
operation note.Add x y = Add x y
operation note.Subtract x y = Subtract x y
operation note.Multiply x y = Multiply x y
operation note.Divide x y = Divide x y
operation note.Modulo x y = Remainder x y
operation note.BitAnd x y = ByteAnd x y
operation note.BitOr x y = ByteOr x y
operation note.BitXor x y = ByteXor x y

-- the term of a quantity inside quantifiers of these names
abbrev pub quantity_term : Symbolic → Symbolic → List (List ℕ) → Quantity → Tree
quantity_term entry now names (note.Literal n) = number n
quantity_term entry now names (note.Location m x) = term_at x (state_at m entry now)
quantity_term entry now names (note.Pair m p) = register_pair_term p (state_at m entry now)
quantity_term entry now names (note.Cell m x) = Element (state_at m entry now).memory (quantity_term entry now names x)
quantity_term entry now names (note.StackWord k) = stack_term k now.slots
quantity_term entry now names (note.Total m x y) =
    Total (state_at m entry now).memory (quantity_term entry now names x) (quantity_term entry now names y)
quantity_term entry now names (note.Negative x) = Subtract (number 0) (quantity_term entry now names x)
quantity_term entry now names (note.Parity x) = Parity (quantity_term entry now names x)
quantity_term entry now names (note.Operate o x y) =
    operation o (quantity_term entry now names x) (quantity_term entry now names y)
quantity_term entry now names (note.Bound name) = Variable (var.Bound (name_number names name))

abbrev pub comparison_formula : Comparison → Tree → Tree → Tree
comparison_formula note.Equal x y = Equal x y
comparison_formula note.Unequal x y = Not (Equal x y)
comparison_formula note.Less x y = Less x y
comparison_formula note.LessOrEqual x y = LessOrEqual x y
comparison_formula note.Greater x y = Less y x
comparison_formula note.GreaterOrEqual x y = LessOrEqual y x

abbrev pub connective_formula : Connective → Tree → Tree → Tree
connective_formula note.And p q = And p q
connective_formula note.Or p q = Or p q
connective_formula note.Implies p q = Implies p q
connective_formula note.Iff p q = Iff p q

abbrev pub quantifier_formula : Quantifier → ℕ → Tree → Tree → Tree → Tree
quantifier_formula note.ForAll k x y p = ForAll k x y p
quantifier_formula note.ForSome k x y p = ForSome k x y p

-- the formula of a note inside quantifiers of these names
abbrev pub formula_in : Symbolic → Symbolic → List (List ℕ) → Note → Tree
formula_in entry now names (note.Constant truth) = Truth truth
formula_in entry now names (note.Compare c x y) =
    comparison_formula c (quantity_term entry now names x) (quantity_term entry now names y)
formula_in entry now names (note.Not p) = Not (formula_in entry now names p)
formula_in entry now names (note.Connect c p q) = connective_formula c (formula_in entry now names p) (formula_in entry now names q)
formula_in entry now names (note.Quantify q name x y p) =
    quantifier_formula q (length names + 1) (quantity_term entry now names x) (quantity_term entry now names y)
    (formula_in entry now (name ∷ names) p)

-- the formula of a whole note
abbrev pub formula_of : Symbolic → Symbolic → Note → Tree
formula_of entry now p = formula_in entry now [] p

-- the number of each STKk in a quantity is at least 1 and at most this
abbrev pub QuantityFits : ℕ → Quantity → Type 0
QuantityFits n (note.Cell m x) = QuantityFits n x
QuantityFits n (note.StackWord k) = (1 ≤ k) × (k ≤ n)
QuantityFits n (note.Total m x y) = QuantityFits n x × QuantityFits n y
QuantityFits n (note.Negative x) = QuantityFits n x
QuantityFits n (note.Parity x) = QuantityFits n x
QuantityFits n (note.Operate o x y) = QuantityFits n x × QuantityFits n y
QuantityFits n x = ⊤

-- so is that of each STKk in a note
abbrev pub NoteFits : ℕ → Note → Type 0
NoteFits n (note.Constant truth) = ⊤
NoteFits n (note.Compare c x y) = QuantityFits n x × QuantityFits n y
NoteFits n (note.Not p) = NoteFits n p
NoteFits n (note.Connect c p q) = NoteFits n p × NoteFits n q
NoteFits n (note.Quantify q name x y p) = QuantityFits n x × QuantityFits n y × NoteFits n p
