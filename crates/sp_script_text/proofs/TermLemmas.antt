-- Texts that stand for terms of one sort, and for numbers.
use Rattle.std.proofs.Common.{◌≡◌, ℕ, ℤ, Bool, true, false, cond, not, List, [], ◌∷◌, Option, Some, None, refl, sym, ap, subst, ◌∙◌}
use Rattle.std.specs.Prelude.{◌&&◌, ◌==◌}
use Rattle.std.proofs.lemmas.Bool.{eqb-true}
use Rattle.sp_term.specs.declared.var.Var.{Var}
use Rattle.sp_term.specs.declared.var.Var.TheVariants as var
use Rattle.sp_term.specs.Tree.{Tree, Literal, Truth, Variable, Add, Subtract, Multiply, Divide, Remainder, ByteAnd, ByteOr, ByteXor, Parity, Bit, Psw, If, Element, Update, Total, Equal, Less, LessOrEqual, Not, And, Or, Implies, Iff, ForAll, ForSome}
use Rattle.sp_term.specs.Sorts.{Sort, Int, Formula, Memory, sort_of, HasSort, IsTerm}
use Rattle.sp_fdl.specs.Text.{StandsFor}
use Rattle.sp_fdl.specs.code.Tokens.{◌>>=◌}
use Rattle.sp_fdl.specs.code.Numbers.{name_number}
use Rattle.sp_fdl.specs.code.Reading.{read_of}
use Rattle.sp_fdl.proofs.TextLemmas.{bind_some, some_is, if_some}
use Rattle.sp_fdl.proofs.ValueLemmas.{name_is, name_again}
use Rattle.sp_fdl.proofs.StandsLemmas.{read_stands, stands_read}
use Rattle.sp_script_text.specs.StepTexts.{Hypothesis, Number, Term}
use Rattle.sp_script_text.specs.code.Arguments.{is_memory_name, is_memory, is_formula, is_int, literal_at, only, formula_of, int_of, memory_of, number_of, hypothesis_of}
use Rattle.sp_script_text.proofs.SolidLemmas.{number_stands}

-- ---- what the reader of terms answers

pub read_some : (text : List ℕ) (t : Tree) → StandsFor text t → read_of text ≡ Some t
read_some text t h = stands_read text t h

pub read_none : (text : List ℕ) → ((t : Tree) → StandsFor text t → ⊥) → read_of text ≡ None
read_none text h = by (read_of text) refl
  where
    by : (o : Option Tree) → read_of text ≡ o → o ≡ None
    by None e = refl
    by (Some t) e = absurd (h t (read_stands text t e))

-- ---- the sort of a term

root : Tree → Sort
root (Literal n) = Int
root (Truth b) = Formula
root (Variable v) = sort_of v
root (Add x y) = Int
root (Subtract x y) = Int
root (Multiply x y) = Int
root (Divide x y) = Int
root (Remainder x y) = Int
root (ByteAnd x y) = Int
root (ByteOr x y) = Int
root (ByteXor x y) = Int
root (Parity x) = Int
root (Bit k x) = Int
root (Psw s z ac p cy) = Int
root (If p x y) = Int
root (Element m x) = Int
root (Update m x y) = Memory
root (Total m x y) = Int
root (Equal x y) = Formula
root (Less x y) = Formula
root (LessOrEqual x y) = Formula
root (Not p) = Formula
root (And p q) = Formula
root (Or p q) = Formula
root (Implies p q) = Formula
root (Iff p q) = Formula
root (ForAll k x y p) = Formula
root (ForSome k x y p) = Formula

is_root : (t : Tree) (s : Sort) → HasSort t s → s ≡ root t
unfolding root
is_root (Literal n) s h = h
is_root (Truth b) s h = h
is_root (Variable v) s h = h.0
is_root (Add x y) s h = h.0
is_root (Subtract x y) s h = h.0
is_root (Multiply x y) s h = h.0
is_root (Divide x y) s h = h.0
is_root (Remainder x y) s h = h.0
is_root (ByteAnd x y) s h = h.0
is_root (ByteOr x y) s h = h.0
is_root (ByteXor x y) s h = h.0
is_root (Parity x) s h = h.0
is_root (Bit k x) s h = h.0
is_root (Psw f z ac p cy) s h = h.0
is_root (If p x y) s h = h.0
is_root (Element m x) s h = h.0
is_root (Update m x y) s h = h.0
is_root (Total m x y) s h = h.0
is_root (Equal x y) s h = h.0
is_root (Less x y) s h = h.0
is_root (LessOrEqual x y) s h = h.0
is_root (Not p) s h = h.0
is_root (And p q) s h = h.0
is_root (Or p q) s h = h.0
is_root (Implies p q) s h = h.0
is_root (Iff p q) s h = h.0
is_root (ForAll k x y p) s h = h.0
is_root (ForSome k x y p) s h = h.0

-- whether a sort is that of formulas, and of memories
formula_sort : Sort → Bool
formula_sort Int = false
formula_sort Formula = true
formula_sort Memory = false

memory_sort : Sort → Bool
memory_sort Int = false
memory_sort Formula = false
memory_sort Memory = true

memory_name : (v : Var) → (is_memory_name v ≡ memory_sort (sort_of v)) × (formula_sort (sort_of v) ≡ false)
unfolding memory_sort formula_sort
memory_name var.MemEntry = (refl, refl)
memory_name var.Mem = (refl, refl)
memory_name (var.MemAfter j) = (refl, refl)
memory_name (var.Entry x) = (refl, refl)
memory_name (var.Now x) = (refl, refl)
memory_name (var.After x j) = (refl, refl)
memory_name (var.In j) = (refl, refl)
memory_name (var.SlotHigh j) = (refl, refl)
memory_name (var.SlotLow j) = (refl, refl)
memory_name (var.Any j) = (refl, refl)
memory_name (var.Bound j) = (refl, refl)

by_root : (t : Tree) → (is_formula t ≡ formula_sort (root t)) × (is_memory t ≡ memory_sort (root t))
unfolding root formula_sort memory_sort
by_root (Literal n) = (refl, refl)
by_root (Truth b) = (refl, refl)
by_root (Variable v) = let m = memory_name v in (sym m.1, m.0)
by_root (Add x y) = (refl, refl)
by_root (Subtract x y) = (refl, refl)
by_root (Multiply x y) = (refl, refl)
by_root (Divide x y) = (refl, refl)
by_root (Remainder x y) = (refl, refl)
by_root (ByteAnd x y) = (refl, refl)
by_root (ByteOr x y) = (refl, refl)
by_root (ByteXor x y) = (refl, refl)
by_root (Parity x) = (refl, refl)
by_root (Bit k x) = (refl, refl)
by_root (Psw s z ac p cy) = (refl, refl)
by_root (If p x y) = (refl, refl)
by_root (Element m x) = (refl, refl)
by_root (Update m x y) = (refl, refl)
by_root (Total m x y) = (refl, refl)
by_root (Equal x y) = (refl, refl)
by_root (Less x y) = (refl, refl)
by_root (LessOrEqual x y) = (refl, refl)
by_root (Not p) = (refl, refl)
by_root (And p q) = (refl, refl)
by_root (Or p q) = (refl, refl)
by_root (Implies p q) = (refl, refl)
by_root (Iff p q) = (refl, refl)
by_root (ForAll k x y p) = (refl, refl)
by_root (ForSome k x y p) = (refl, refl)

formula_no_false : formula_sort Formula ≡ false → ⊥
unfolding formula_sort
formula_no_false e = absurd cc

-- no variable is a formula
pub no_formula_name : (v : Var) → Formula ≡ sort_of v → ⊥
no_formula_name v e = formula_no_false (ap formula_sort e ∙ (memory_name v).1)

int_sort : Sort → Bool
int_sort s = not (formula_sort s) && not (memory_sort s)

formula_is : (s : Sort) → formula_sort s ≡ true → s ≡ Formula
unfolding formula_sort
formula_is Int e = absurd cc
formula_is Formula e = refl
formula_is Memory e = absurd cc

memory_is : (s : Sort) → memory_sort s ≡ true → s ≡ Memory
unfolding memory_sort
memory_is Int e = absurd cc
memory_is Formula e = absurd cc
memory_is Memory e = refl

int_is : (s : Sort) → int_sort s ≡ true → s ≡ Int
unfolding int_sort formula_sort memory_sort
int_is Int e = refl
int_is Formula e = absurd cc
int_is Memory e = absurd cc

int_root : (t : Tree) → is_int t ≡ int_sort (root t)
unfolding int_sort
int_root t = let r = by_root t in λ i. not (r.0 i) && not (r.1 i)

-- a test on roots that stands for a sort
record Tells (test : Tree → Bool) (s : Sort) : Type 0 where
  is : (t : Tree) → test t ≡ true → root t ≡ s
  again : (t : Tree) → root t ≡ s → test t ≡ true

tells_formula : Tells is_formula Formula
unfolding formula_sort
tells_formula = record {
  is = λ t e. formula_is (root t) (sym (by_root t).0 ∙ e);
  again = λ t e. (by_root t).0 ∙ ap formula_sort e;
}

tells_memory : Tells is_memory Memory
unfolding memory_sort
tells_memory = record {
  is = λ t e. memory_is (root t) (sym (by_root t).1 ∙ e);
  again = λ t e. (by_root t).1 ∙ ap memory_sort e;
}

tells_int : Tells is_int Int
unfolding int_sort formula_sort memory_sort
tells_int = record {
  is = λ t e. int_is (root t) (sym (int_root t) ∙ e);
  again = λ t e. int_root t ∙ ap int_sort e;
}

has_root : (t : Tree) (s : Sort) → IsTerm t → root t ≡ s → HasSort t s
has_root t s h e = subst (HasSort t) (is_root t h.0 h.1 ∙ e) h.1

term_is : (test : Tree → Bool) (s : Sort) → Tells test s → (text : List ℕ) (t : Tree) → (read_of text >>= only test) ≡ Some t → Term s t text
term_is test s tells text t e =
    let b = bind_some (read_of text) (only test) t e in
    let g = if_some (test b.0) b.0 t b.2 in
    let h : StandsFor text b.0 = read_stands text b.0 b.1 in
    subst (λ u. Term s u text) g.1 (h, has_root b.0 s h.readable.term (tells.is b.0 g.0))

term_again : (test : Tree → Bool) (s : Sort) → Tells test s → (text : List ℕ) (t : Tree) → Term s t text → (read_of text >>= only test) ≡ Some t
term_again test s tells text t h =
    ap (λ o. o >>= only test) (stands_read text t h.0)
    ∙ rw (tells.again t (sym (is_root t s h.1))) refl

pub formula_of_is : (text : List ℕ) (t : Tree) → formula_of text ≡ Some t → Term Formula t text
unfolding formula_of
formula_of_is = term_is is_formula Formula tells_formula

pub formula_of_again : (text : List ℕ) (t : Tree) → Term Formula t text → formula_of text ≡ Some t
unfolding formula_of
formula_of_again = term_again is_formula Formula tells_formula

pub int_of_is : (text : List ℕ) (t : Tree) → int_of text ≡ Some t → Term Int t text
unfolding int_of
int_of_is = term_is is_int Int tells_int

pub int_of_again : (text : List ℕ) (t : Tree) → Term Int t text → int_of text ≡ Some t
unfolding int_of
int_of_again = term_again is_int Int tells_int

pub memory_of_is : (text : List ℕ) (t : Tree) → memory_of text ≡ Some t → Term Memory t text
unfolding memory_of
memory_of_is = term_is is_memory Memory tells_memory

pub memory_of_again : (text : List ℕ) (t : Tree) → Term Memory t text → memory_of text ≡ Some t
unfolding memory_of
memory_of_again = term_again is_memory Memory tells_memory

-- ---- numbers

literal_is : (t : Tree) (n : ℤ) → literal_at t ≡ Some n → t ≡ Literal n
literal_is (Literal m) n e = ap Literal (some_is m n e)
literal_is (Truth b) n e = absurd cc
literal_is (Variable v) n e = absurd cc
literal_is (Add x y) n e = absurd cc
literal_is (Subtract x y) n e = absurd cc
literal_is (Multiply x y) n e = absurd cc
literal_is (Divide x y) n e = absurd cc
literal_is (Remainder x y) n e = absurd cc
literal_is (ByteAnd x y) n e = absurd cc
literal_is (ByteOr x y) n e = absurd cc
literal_is (ByteXor x y) n e = absurd cc
literal_is (Parity x) n e = absurd cc
literal_is (Bit k x) n e = absurd cc
literal_is (Psw s z ac p cy) n e = absurd cc
literal_is (If p x y) n e = absurd cc
literal_is (Element m x) n e = absurd cc
literal_is (Update m x y) n e = absurd cc
literal_is (Total m x y) n e = absurd cc
literal_is (Equal x y) n e = absurd cc
literal_is (Less x y) n e = absurd cc
literal_is (LessOrEqual x y) n e = absurd cc
literal_is (Not p) n e = absurd cc
literal_is (And p q) n e = absurd cc
literal_is (Or p q) n e = absurd cc
literal_is (Implies p q) n e = absurd cc
literal_is (Iff p q) n e = absurd cc
literal_is (ForAll k x y p) n e = absurd cc
literal_is (ForSome k x y p) n e = absurd cc

pub number_of_is : (text : List ℕ) (n : ℤ) → number_of text ≡ Some n → Number n text
unfolding number_of
number_of_is text n e =
    let b = bind_some (read_of text) literal_at n e in
    let h : StandsFor text (Literal n) = subst (StandsFor text) (literal_is b.0 n b.2) (read_stands text b.0 b.1) in
    (h.spells, h.readable.numbers)

pub number_of_again : (text : List ℕ) (n : ℤ) → Number n text → number_of text ≡ Some n
unfolding number_of
number_of_again text n h = ap (λ o. o >>= literal_at) (stands_read text (Literal n) (number_stands n text h))

-- ---- hypotheses

pub hypothesis_of_is : (text : List ℕ) (k : ℕ) → hypothesis_of text ≡ Some k → Hypothesis k text
unfolding hypothesis_of
hypothesis_of_is [] k e = absurd cc
hypothesis_of_is (letter ∷ digits) k e =
    let g = by (letter == 104) refl e in
    let h = name_is digits k g.1 in
    ((λ i. eqb-true letter 104 g.0 i ∷ h.is i), h.low, h.high)
  where
    by : (b : Bool) → letter == 104 ≡ b → cond b (name_number digits) None ≡ Some k → ((letter == 104) ≡ true) × (name_number digits ≡ Some k)
    by true h u = (h, u)
    by false h u = absurd cc

pub hypothesis_of_again : (text : List ℕ) (k : ℕ) → Hypothesis k text → hypothesis_of text ≡ Some k
unfolding hypothesis_of
hypothesis_of_again text k h = ap hypothesis_of h.0 ∙ name_again k h.1 h.2
