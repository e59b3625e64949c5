-- What may stand at a place is read there, whatever follows it.
use Rattle.std.proofs.Common.{◌≡◌, ℕ, zero, suc, ◌<◌, ◌≤◌, Bool, true, false, cond, List, [], ◌∷◌, ◌++◌, length, Option, Some, None, refl, sym, ap, subst, ◌∙◌, arith, length-append, true≢false, ℤ, inl, inr}
use Rattle.std.specs.Prelude.{◌==◌, codes, decimal}
use Rattle.std.specs.List.{list_all}
use Rattle.std.specs.Char.{is_ascii_digit, is_ascii_alphabetic}
use Rattle.std.specs.Str.Parse.{IsNumeral}
use Rattle.std.proofs.lemmas.Bool.{eqb-true, eq-eqb, and_parts, false_from_ne_true, cond-false}
use Rattle.sp_term.specs.declared.var.Var.{Var}
use Rattle.sp_term.specs.declared.var.Var.TheVariants as var
use Rattle.sp_term.specs.Tree.{Tree, Literal, Truth, Variable, Add, Subtract, Multiply, Divide, Remainder, ByteAnd, ByteOr, ByteXor, Parity, Bit, Psw, If, Element, Update, Total, Equal, Less, LessOrEqual, Not, And, Or, Implies, Iff, ForAll, ForSome}
use Rattle.sp_fdl.specs.declared.sort.Sort.{Sort}
use Rattle.sp_fdl.specs.declared.sort.Sort.TheVariants as sort
use Rattle.sp_fdl.specs.declared.operator.Operator.{Operator}
use Rattle.sp_fdl.specs.declared.operator.Operator.TheVariants as operator
use Rattle.sp_fdl.specs.declared.word.Word.{Word}
use Rattle.sp_fdl.specs.declared.word.Word.TheVariants as word
use Rattle.sp_fdl.specs.declared.word.Pairing.{Pairing}
use Rattle.sp_fdl.specs.declared.word.Pairing.TheVariants as pairs
use Rattle.sp_fdl.specs.Printed.{variable_text}
use Rattle.sp_fdl.specs.Text.{is_blank, is_run, begins_run, IsApart, Form, Token, Then, Between, More, Last, Cell, IsLiteral, Spells}
use Rattle.sp_fdl.specs.code.Tokens.{◌>>=◌, after_blanks, run_of, after_run, after_mark, after_dots, after_first}
use Rattle.sp_fdl.specs.code.Numbers.{literal, negative_literal}
use Rattle.sp_fdl.specs.code.Names.{is_word, word_of, variable_of, marked_variable, location_variable, location_named, bound_number, bit_number}
use Rattle.sp_fdl.specs.code.Operators.{part_sort, whole_sort, operated, operator_at, after_operator}
use Rattle.sp_fdl.specs.code.Reading.{Read, read_as, Reader, part, part_after, closed, cell_after, negation, second, joined, grouped, pair, parity, bit, flags, choice, element, update, total, bound, quantifier, pairing, quantifying, number_part, in_scope, variable_part, plain, worded, named, form, read_at}
use Rattle.sp_fdl.proofs.TextLemmas.{chosen, stops, run_again, after_run_again, run_apart, blanks_again, mark_again, IsFilled, filled_token, filled_then}
use Rattle.sp_fdl.proofs.ValueLemmas.{literal_again, negative_again, digits_run, digit_first}
use Rattle.sp_fdl.proofs.NameLemmas.{word_is, word_text, word_again, word_run, word_filled, variable_again, variable_run, variable_first, variable_no_word, digit_no_word, bound_number_again, bound_run, bit_number_again, bit_run, bit_filled}
use Rattle.sp_fdl.proofs.OperatorLemmas.{operator_text}
use Rattle.sp_fdl.proofs.OperatorAgainLemmas.{blanks_follow, operator_again, operator_solid, operator_filled}
use Rattle.sp_fdl.proofs.FitLemmas.{Fits, int_sort, formula_sort, memory_sort, parts_operated, parts_pairing, parts_not, parts_parity, parts_flags, parts_if, parts_element, parts_update, parts_total, parts_bit, parts_quantifying, some_depth}
use Rattle.sp_fdl.proofs.StepReadLemmas.{opens, IsReader, same_sort_self, Next, split, front_apart, opens_solid, part_step, mark_step, part_after_step, cell_step, closed_again}
use Rattle.sp_fdl.proofs.FormIsLemmas.{form_is, named_filled, negative_filled}

-- ---- runs

run_no_mark : (byte mark : ℕ) → is_run mark ≡ false → is_run byte ≡ true → (byte == mark) ≡ false
run_no_mark byte mark plain run = false_from_ne_true (byte == mark) (λ e. true≢false (sym run ∙ ap is_run (eqb-true byte mark e) ∙ plain))

run_solid : (byte : ℕ) → is_run byte ≡ true → is_blank byte ≡ false
run_solid byte h = grind arith

runs_solid : (run rest : List ℕ) → 0 < length run → list_all is_run run ≡ true → stops is_blank (run ++ rest) ≡ true
runs_solid [] rest some all = absurd (omega arith)
runs_solid (byte ∷ run) rest some all = let p = and_parts (is_run byte) (list_all is_run run) all in rw (run_solid byte p.0) refl

form_run : (r : Reader) (scope run rest : List ℕ) → 0 < length run → list_all is_run run ≡ true → begins_run rest ≡ false → form r scope (run ++ rest) ≡ named r scope run rest
unfolding form
form_run r scope [] rest some all stop = absurd (omega arith)
form_run r scope (byte ∷ run) rest some all stop =
    let p = and_parts (is_run byte) (list_all is_run run) all in
    let no_paren : (byte == 40) ≡ false = run_no_mark byte 40 refl p.0 in
    let no_minus : (byte == 45) ≡ false = run_no_mark byte 45 refl p.0 in
    rw (no_paren, no_minus) (λ i. named r scope (run_again (byte ∷ run) rest all stop i) (after_run_again (byte ∷ run) rest all stop i))

run_step : (run : List ℕ) (Y : Form) → 0 < length run → list_all is_run run ≡ true → IsFilled Y → (blanks text rest : List ℕ) → list_all is_blank blanks ≡ true → Then (Token run) Y text
    → Next Y rest (λ tail. (run_of (after_blanks (blanks ++ (text ++ rest))) ≡ run) × (after_run (after_blanks (blanks ++ (text ++ rest))) ≡ tail))
run_step run Y some all filled blanks text rest blank g =
    let tail : List ℕ = g.blanks ++ (g.back ++ rest) in
    let stop : begins_run tail ≡ false = run_apart run tail some all (subst (λ w. IsApart w tail) g.in_front (front_apart (Token run) Y text rest filled g)) in
    let whole : text ++ rest ≡ run ++ tail = split (Token run) Y text rest g ∙ ap (λ w. w ++ tail) g.in_front in
    let solid : after_blanks (blanks ++ (text ++ rest)) ≡ run ++ tail = ap (λ w. after_blanks (blanks ++ w)) whole ∙ blanks_again blanks (run ++ tail) blank (runs_solid run tail some all) in
    record {
      blanks = g.blanks;
      text = g.back;
      blank = g.blank;
      is = g.in_back;
      gives = (ap run_of solid ∙ run_again run tail all stop, ap after_run solid ∙ after_run_again run tail all stop);
    }

word_step : (r : Reader) (scope : List ℕ) (w : Word) (Y : Form) → IsFilled Y → (text rest : List ℕ) → Then (Token (word_text w)) Y text → Next Y rest (λ tail. form r scope (text ++ rest) ≡ worded r scope (Some w) (word_text w) tail)
unfolding named
word_step r scope w Y filled text rest g =
    let tail : List ℕ = g.blanks ++ (g.back ++ rest) in
    let stop : begins_run tail ≡ false = run_apart (word_text w) tail (word_filled w) (word_run w) (subst (λ u. IsApart u tail) g.in_front (front_apart (Token (word_text w)) Y text rest filled g)) in
    let whole : text ++ rest ≡ word_text w ++ tail = split (Token (word_text w)) Y text rest g ∙ ap (λ u. u ++ tail) g.in_front in
    record {
      blanks = g.blanks;
      text = g.back;
      blank = g.blank;
      is = g.in_back;
      gives = ap (form r scope) whole ∙ form_run r scope (word_text w) tail (word_filled w) (word_run w) stop ∙ ap (λ o. worded r scope o (word_text w) tail) (word_again w);
    }

filled_comma : (Y : Form) → IsFilled (Then (Token (codes ",")) Y)
filled_comma Y = filled_then (Token (codes ",")) Y (filled_token 44 [])

filled_last : IsFilled (Token (codes ")"))
filled_last = filled_token 41 []

filled_open : (Y : Form) → IsFilled (Then (Token (codes "(")) Y)
filled_open Y = filled_then (Token (codes "(")) Y (filled_token 40 [])

-- ---- functions

pair_again : (r : Reader) (n : ℕ) → IsReader r n → (scope : List ℕ) (which : Pairing) (x y : Tree) (blanks text rest : List ℕ) → list_all is_blank blanks ≡ true → Fits n scope sort.Int x → Fits n scope sort.Int y
    → Then (Token (codes "(")) (More (Spells x) (Last (Spells y))) text → pair r scope which (blanks ++ (text ++ rest)) ≡ Some (read_as (pairing which x y) sort.Int rest)
unfolding pair
pair_again r n h scope which x y blanks text rest blank fx fy g =
    let a = part_after_step r n h scope 40 sort.Int x _ refl (filled_comma (Last (Spells y))) blanks text rest blank fx g in
    let b = part_after_step r n h scope 44 sort.Int y _ refl filled_last a.blanks a.text rest a.blank fy a.is in
    ap (λ o. o >>= λ u. part_after r scope 44 sort.Int u.rest >>= λ v. closed (pairing which u.tree v.tree) sort.Int v.rest) a.gives
    ∙ ap (λ o. o >>= λ v. closed (pairing which x v.tree) sort.Int v.rest) b.gives
    ∙ closed_again (pairing which x y) sort.Int b.blanks b.text rest b.blank b.is

parity_again : (r : Reader) (n : ℕ) → IsReader r n → (scope : List ℕ) (x : Tree) (blanks text rest : List ℕ) → list_all is_blank blanks ≡ true → Fits n scope sort.Int x
    → Then (Token (codes "(")) (Last (Spells x)) text → parity r scope (blanks ++ (text ++ rest)) ≡ Some (read_as (Parity x) sort.Int rest)
unfolding parity
parity_again r n h scope x blanks text rest blank fx g =
    let a = part_after_step r n h scope 40 sort.Int x _ refl filled_last blanks text rest blank fx g in
    ap (λ o. o >>= λ u. closed (Parity u.tree) sort.Int u.rest) a.gives ∙ closed_again (Parity x) sort.Int a.blanks a.text rest a.blank a.is

flags_again : (r : Reader) (n : ℕ) → IsReader r n → (scope : List ℕ) (s z a p c : Tree) (blanks text rest : List ℕ) → list_all is_blank blanks ≡ true
    → Fits n scope sort.Int s → Fits n scope sort.Int z → Fits n scope sort.Int a → Fits n scope sort.Int p → Fits n scope sort.Int c
    → Then (Token (codes "(")) (More (Spells s) (More (Spells z) (More (Spells a) (More (Spells p) (Last (Spells c)))))) text → flags r scope (blanks ++ (text ++ rest)) ≡ Some (read_as (Psw s z a p c) sort.Int rest)
unfolding flags
flags_again r n h scope s z a p c blanks text rest blank fs fz fa fp fc g =
    let one = part_after_step r n h scope 40 sort.Int s _ refl (filled_comma (More (Spells z) (More (Spells a) (More (Spells p) (Last (Spells c)))))) blanks text rest blank fs g in
    let two = part_after_step r n h scope 44 sort.Int z _ refl (filled_comma (More (Spells a) (More (Spells p) (Last (Spells c))))) one.blanks one.text rest one.blank fz one.is in
    let three = part_after_step r n h scope 44 sort.Int a _ refl (filled_comma (More (Spells p) (Last (Spells c)))) two.blanks two.text rest two.blank fa two.is in
    let four = part_after_step r n h scope 44 sort.Int p _ refl (filled_comma (Last (Spells c))) three.blanks three.text rest three.blank fp three.is in
    let five = part_after_step r n h scope 44 sort.Int c _ refl filled_last four.blanks four.text rest four.blank fc four.is in
    ap (λ o. o >>= λ u. part_after r scope 44 sort.Int u.rest >>= λ v. part_after r scope 44 sort.Int v.rest >>= λ w. part_after r scope 44 sort.Int w.rest >>= λ k. part_after r scope 44 sort.Int k.rest >>= λ m. closed (Psw u.tree v.tree w.tree k.tree m.tree) sort.Int m.rest) one.gives
    ∙ ap (λ o. o >>= λ v. part_after r scope 44 sort.Int v.rest >>= λ w. part_after r scope 44 sort.Int w.rest >>= λ k. part_after r scope 44 sort.Int k.rest >>= λ m. closed (Psw s v.tree w.tree k.tree m.tree) sort.Int m.rest) two.gives
    ∙ ap (λ o. o >>= λ w. part_after r scope 44 sort.Int w.rest >>= λ k. part_after r scope 44 sort.Int k.rest >>= λ m. closed (Psw s z w.tree k.tree m.tree) sort.Int m.rest) three.gives
    ∙ ap (λ o. o >>= λ k. part_after r scope 44 sort.Int k.rest >>= λ m. closed (Psw s z a k.tree m.tree) sort.Int m.rest) four.gives
    ∙ ap (λ o. o >>= λ m. closed (Psw s z a p m.tree) sort.Int m.rest) five.gives
    ∙ closed_again (Psw s z a p c) sort.Int five.blanks five.text rest five.blank five.is

choice_again : (r : Reader) (n : ℕ) → IsReader r n → (scope : List ℕ) (p x y : Tree) (blanks text rest : List ℕ) → list_all is_blank blanks ≡ true → Fits n scope sort.Formula p → Fits n scope sort.Int x → Fits n scope sort.Int y
    → Then (Token (codes "(")) (More (Spells p) (More (Spells x) (Last (Spells y)))) text → choice r scope (blanks ++ (text ++ rest)) ≡ Some (read_as (If p x y) sort.Int rest)
unfolding choice
choice_again r n h scope p x y blanks text rest blank fp fx fy g =
    let one = part_after_step r n h scope 40 sort.Formula p _ refl (filled_comma (More (Spells x) (Last (Spells y)))) blanks text rest blank fp g in
    let two = part_after_step r n h scope 44 sort.Int x _ refl (filled_comma (Last (Spells y))) one.blanks one.text rest one.blank fx one.is in
    let three = part_after_step r n h scope 44 sort.Int y _ refl filled_last two.blanks two.text rest two.blank fy two.is in
    ap (λ o. o >>= λ u. part_after r scope 44 sort.Int u.rest >>= λ v. part_after r scope 44 sort.Int v.rest >>= λ w. closed (If u.tree v.tree w.tree) sort.Int w.rest) one.gives
    ∙ ap (λ o. o >>= λ v. part_after r scope 44 sort.Int v.rest >>= λ w. closed (If p v.tree w.tree) sort.Int w.rest) two.gives
    ∙ ap (λ o. o >>= λ w. closed (If p x w.tree) sort.Int w.rest) three.gives
    ∙ closed_again (If p x y) sort.Int three.blanks three.text rest three.blank three.is

element_again : (r : Reader) (n : ℕ) → IsReader r n → (scope : List ℕ) (m x : Tree) (blanks text rest : List ℕ) → list_all is_blank blanks ≡ true → Fits n scope sort.Memory m → Fits n scope sort.Int x
    → Then (Token (codes "(")) (More (Spells m) (Cell (Spells x) (Token (codes ")")))) text → element r scope (blanks ++ (text ++ rest)) ≡ Some (read_as (Element m x) sort.Int rest)
unfolding element
element_again r n h scope m x blanks text rest blank fm fx g =
    let one = part_after_step r n h scope 40 sort.Memory m _ refl (filled_comma (Cell (Spells x) (Token (codes ")")))) blanks text rest blank fm g in
    let two = cell_step r n h scope x (Token (codes ")")) one.blanks one.text rest one.blank fx one.is in
    ap (λ o. o >>= λ u. cell_after r scope u.rest >>= λ v. closed (Element u.tree v.tree) sort.Int v.rest) one.gives
    ∙ ap (λ o. o >>= λ v. closed (Element m v.tree) sort.Int v.rest) two.gives
    ∙ closed_again (Element m x) sort.Int two.blanks two.text rest two.blank two.is

update_again : (r : Reader) (n : ℕ) → IsReader r n → (scope : List ℕ) (m x y : Tree) (blanks text rest : List ℕ) → list_all is_blank blanks ≡ true → Fits n scope sort.Memory m → Fits n scope sort.Int x → Fits n scope sort.Int y
    → Then (Token (codes "(")) (More (Spells m) (Cell (Spells x) (Then (Token (codes ",")) (Last (Spells y))))) text → update r scope (blanks ++ (text ++ rest)) ≡ Some (read_as (Update m x y) sort.Memory rest)
unfolding update
update_again r n h scope m x y blanks text rest blank fm fx fy g =
    let one = part_after_step r n h scope 40 sort.Memory m _ refl (filled_comma (Cell (Spells x) (Then (Token (codes ",")) (Last (Spells y))))) blanks text rest blank fm g in
    let two = cell_step r n h scope x (Then (Token (codes ",")) (Last (Spells y))) one.blanks one.text rest one.blank fx one.is in
    let three = part_after_step r n h scope 44 sort.Int y _ refl filled_last two.blanks two.text rest two.blank fy two.is in
    ap (λ o. o >>= λ u. cell_after r scope u.rest >>= λ v. part_after r scope 44 sort.Int v.rest >>= λ w. closed (Update u.tree v.tree w.tree) sort.Memory w.rest) one.gives
    ∙ ap (λ o. o >>= λ v. part_after r scope 44 sort.Int v.rest >>= λ w. closed (Update m v.tree w.tree) sort.Memory w.rest) two.gives
    ∙ ap (λ o. o >>= λ w. closed (Update m x w.tree) sort.Memory w.rest) three.gives
    ∙ closed_again (Update m x y) sort.Memory three.blanks three.text rest three.blank three.is

total_again : (r : Reader) (n : ℕ) → IsReader r n → (scope : List ℕ) (m x y : Tree) (blanks text rest : List ℕ) → list_all is_blank blanks ≡ true → Fits n scope sort.Memory m → Fits n scope sort.Int x → Fits n scope sort.Int y
    → Then (Token (codes "(")) (More (Spells m) (Cell (Spells x) (Then (Token (codes ",")) (Cell (Spells y) (Token (codes ")")))))) text → total r scope (blanks ++ (text ++ rest)) ≡ Some (read_as (Total m x y) sort.Int rest)
unfolding total
total_again r n h scope m x y blanks text rest blank fm fx fy g =
    let one = part_after_step r n h scope 40 sort.Memory m _ refl (filled_comma (Cell (Spells x) (Then (Token (codes ",")) (Cell (Spells y) (Token (codes ")")))))) blanks text rest blank fm g in
    let two = cell_step r n h scope x (Then (Token (codes ",")) (Cell (Spells y) (Token (codes ")")))) one.blanks one.text rest one.blank fx one.is in
    let three = cell_step r n h scope y (Token (codes ")")) two.blanks two.text rest two.blank fy two.is in
    ap (λ o. o >>= λ u. cell_after r scope u.rest >>= λ v. cell_after r scope v.rest >>= λ w. closed (Total u.tree v.tree w.tree) sort.Int w.rest) one.gives
    ∙ ap (λ o. o >>= λ v. cell_after r scope v.rest >>= λ w. closed (Total m v.tree w.tree) sort.Int w.rest) two.gives
    ∙ ap (λ o. o >>= λ w. closed (Total m x w.tree) sort.Int w.rest) three.gives
    ∙ closed_again (Total m x y) sort.Int three.blanks three.text rest three.blank three.is

bit_again : (r : Reader) (n : ℕ) → IsReader r n → (scope : List ℕ) (k : ℕ) (x : Tree) (blanks text rest : List ℕ) → list_all is_blank blanks ≡ true → k ≤ 7 → Fits n scope sort.Int x
    → Then (Token (codes "(")) (More (Token (decimal k)) (Last (Spells x))) text → bit r scope (blanks ++ (text ++ rest)) ≡ Some (read_as (Bit k x) sort.Int rest)
unfolding bit
bit_again r n h scope k x blanks text rest blank low fx g =
    let one = mark_step 40 refl (More (Token (decimal k)) (Last (Spells x))) blanks text rest blank g in
    let two = run_step (decimal k) (Then (Token (codes ",")) (Last (Spells x))) (bit_filled k low) (bit_run k low) (filled_comma (Last (Spells x))) one.blanks one.text rest one.blank one.is in
    let three = part_after_step r n h scope 44 sort.Int x _ refl filled_last two.blanks two.text rest two.blank fx two.is in
    ap (λ o. o >>= λ inside. bit_number (run_of (after_blanks inside)) >>= λ j. part_after r scope 44 sort.Int (after_run (after_blanks inside)) >>= λ u. closed (Bit j u.tree) sort.Int u.rest) one.gives
    ∙ (λ i. bit_number (two.gives.0 i) >>= λ j. part_after r scope 44 sort.Int (two.gives.1 i) >>= λ u. closed (Bit j u.tree) sort.Int u.rest)
    ∙ ap (λ o. o >>= λ j. part_after r scope 44 sort.Int (two.blanks ++ (two.text ++ rest)) >>= λ u. closed (Bit j u.tree) sort.Int u.rest) (bit_number_again k low)
    ∙ ap (λ o. o >>= λ u. closed (Bit k u.tree) sort.Int u.rest) three.gives
    ∙ closed_again (Bit k x) sort.Int three.blanks three.text rest three.blank three.is

-- ---- quantifiers

dots_step : (Y : Form) (blanks text rest : List ℕ) → list_all is_blank blanks ≡ true → Then (Token (codes "..")) Y text → Next Y rest (λ tail. after_dots (blanks ++ (text ++ rest)) ≡ Some tail)
unfolding after_dots
dots_step Y blanks text rest blank g = record {
  blanks = g.blanks;
  text = g.back;
  blank = g.blank;
  is = g.in_back;
  gives = ap (λ w. after_mark 46 (blanks ++ w) >>= after_first 46) (split (Token (codes "..")) Y text rest g ∙ ap (λ w. w ++ (g.blanks ++ (g.back ++ rest))) g.in_front)
      ∙ ap (λ o. o >>= after_first 46) (mark_again 46 blanks (46 ∷ (g.blanks ++ (g.back ++ rest))) refl blank);
}

filled_dots : (Y : Form) → IsFilled (Then (Token (codes "..")) Y)
filled_dots Y = filled_then (Token (codes "..")) Y (filled_token 46 (codes "."))

filled_colon : (Y : Form) → IsFilled (Then (Token (codes ":")) Y)
filled_colon Y = filled_then (Token (codes ":")) Y (filled_token 58 [])

bound_again : (r : Reader) (n : ℕ) → IsReader r n → (scope : List ℕ) (all : Bool) (k : ℕ) (x y p : Tree) (blanks text rest : List ℕ) → list_all is_blank blanks ≡ true
    → Fits n scope sort.Int x → Fits n scope sort.Int y → Fits n (k ∷ scope) sort.Formula p → Then (Token (codes ":")) (Then (Spells x) (Then (Token (codes "..")) (More (Spells y) (Last (Spells p))))) text
    → bound r scope all k (blanks ++ (text ++ rest)) ≡ Some (read_as (quantifying all k x y p) sort.Formula rest)
unfolding bound
bound_again r n h scope all k x y p blanks text rest blank fx fy fp g =
    let one = part_after_step r n h scope 58 sort.Int x _ refl (filled_dots (More (Spells y) (Last (Spells p)))) blanks text rest blank fx g in
    let two = dots_step (More (Spells y) (Last (Spells p))) one.blanks one.text rest one.blank one.is in
    let three = part_step r n h scope sort.Int y (Then (Token (codes ",")) (Last (Spells p))) (filled_comma (Last (Spells p))) two.blanks two.text rest two.blank fy two.is in
    let four = part_after_step r n h (k ∷ scope) 44 sort.Formula p _ refl filled_last three.blanks three.text rest three.blank fp three.is in
    ap (λ o. o >>= λ u. after_dots u.rest >>= λ t. part r scope sort.Int t >>= λ v. part_after r (k ∷ scope) 44 sort.Formula v.rest >>= λ w. closed (quantifying all k u.tree v.tree w.tree) sort.Formula w.rest) one.gives
    ∙ ap (λ o. o >>= λ t. part r scope sort.Int t >>= λ v. part_after r (k ∷ scope) 44 sort.Formula v.rest >>= λ w. closed (quantifying all k x v.tree w.tree) sort.Formula w.rest) two.gives
    ∙ ap (λ o. o >>= λ v. part_after r (k ∷ scope) 44 sort.Formula v.rest >>= λ w. closed (quantifying all k x v.tree w.tree) sort.Formula w.rest) three.gives
    ∙ ap (λ o. o >>= λ w. closed (quantifying all k x y w.tree) sort.Formula w.rest) four.gives
    ∙ closed_again (quantifying all k x y p) sort.Formula four.blanks four.text rest four.blank four.is

quantifier_again : (r : Reader) (n : ℕ) → IsReader r n → (scope : List ℕ) (all : Bool) (k : ℕ) (x y p : Tree) (blanks text rest : List ℕ) → list_all is_blank blanks ≡ true → 1 ≤ k → k ≤ 4294967295
    → Fits n scope sort.Int x → Fits n scope sort.Int y → Fits n (k ∷ scope) sort.Formula p
    → Then (Token (codes "(")) (Then (Token (codes "i" ++ decimal k)) (Then (Token (codes ":")) (Then (Spells x) (Then (Token (codes "..")) (More (Spells y) (Last (Spells p))))))) text
    → quantifier r scope all (blanks ++ (text ++ rest)) ≡ Some (read_as (quantifying all k x y p) sort.Formula rest)
unfolding quantifier
quantifier_again r n h scope all k x y p blanks text rest blank low high fx fy fp g =
    let rest_form : Form = Then (Token (codes ":")) (Then (Spells x) (Then (Token (codes "..")) (More (Spells y) (Last (Spells p))))) in
    let one = mark_step 40 refl (Then (Token (codes "i" ++ decimal k)) rest_form) blanks text rest blank g in
    let two = run_step (codes "i" ++ decimal k) rest_form (omega arith) (bound_run k high) (filled_colon (Then (Spells x) (Then (Token (codes "..")) (More (Spells y) (Last (Spells p)))))) one.blanks one.text rest one.blank one.is in
    ap (λ o. o >>= λ inside. bound_number (run_of (after_blanks inside)) >>= λ j. bound r scope all j (after_run (after_blanks inside))) one.gives
    ∙ (λ i. bound_number (two.gives.0 i) >>= λ j. bound r scope all j (two.gives.1 i))
    ∙ ap (λ o. o >>= λ j. bound r scope all j (two.blanks ++ (two.text ++ rest))) (bound_number_again k low high)
    ∙ bound_again r n h scope all k x y p two.blanks two.text rest two.blank fx fy fp two.is

-- ---- parentheses

form_paren : (r : Reader) (scope text : List ℕ) → form r scope (40 ∷ text) ≡ grouped r scope (after_blanks text)
unfolding form
form_paren r scope text = refl

-- an operator after blanks, with a part after it
operator_step : (r : Reader) (n : ℕ) → IsReader r n → (scope : List ℕ) (o : Operator) (y : Tree) (blanks text rest : List ℕ) → list_all is_blank blanks ≡ true → Fits n scope (part_sort o) y
    → Then (Token (operator_text o)) (Last (Spells y)) text → Next (Last (Spells y)) rest (λ tail. after_operator (blanks ++ (text ++ rest)) ≡ Some (record { operator = o; rest = tail }))
operator_step r n h scope o y blanks text rest blank fy g =
    let tail : List ℕ = g.blanks ++ (g.back ++ rest) in
    let q = g.in_back in
    let whole : text ++ rest ≡ operator_text o ++ tail = split (Token (operator_text o)) (Last (Spells y)) text rest g ∙ ap (λ w. w ++ tail) g.in_front in
    let solid : after_blanks (blanks ++ (text ++ rest)) ≡ operator_text o ++ tail = ap (λ w. after_blanks (blanks ++ w)) whole ∙ blanks_again blanks (operator_text o ++ tail) blank (operator_solid o tail) in
    let inner : List ℕ = q.blanks ++ (q.back ++ rest) in
    let next : g.back ++ rest ≡ q.front ++ inner = split (Spells y) (Token (codes ")")) g.back rest q in
    let e = h.again scope (part_sort o) y q.front inner fy q.in_front (front_apart (Spells y) (Token (codes ")")) g.back rest filled_last q) in
    let start : opens (g.back ++ rest) ≡ true = ap opens next ∙ h.opening scope (q.front ++ inner) (read_as y (part_sort o) inner) e in
    let some : IsFilled (Last (Spells y)) = λ w i. omega (arith, ap length i.whole, ap length i.in_back, length-append i.front (i.blanks ++ i.back), length-append i.blanks i.back) in
    let apart : IsApart (operator_text o) tail = subst (λ w. IsApart w tail) g.in_front (front_apart (Token (operator_text o)) (Last (Spells y)) text rest some g) in
    record {
      blanks = g.blanks;
      text = g.back;
      blank = g.blank;
      is = g.in_back;
      gives = ap operator_at solid ∙ operator_again o tail apart (blanks_follow g.blanks (g.back ++ rest) g.blank start);
    }

second_again : (r : Reader) (n : ℕ) → IsReader r n → (scope : List ℕ) (o : Operator) (x y : Tree) (mid blanks text rest : List ℕ) → list_all is_blank blanks ≡ true → Fits n scope (part_sort o) y → Last (Spells y) text
    → second r scope (read_as x (part_sort o) mid) (record { operator = o; rest = blanks ++ (text ++ rest) }) ≡ Some (read_as (operated o x y) (whole_sort o) rest)
unfolding second
second_again r n h scope o x y mid blanks text rest blank fy g =
    let one = part_step r n h scope (part_sort o) y (Token (codes ")")) filled_last blanks text rest blank fy g in
    rw (same_sort_self (part_sort o)) (ap (λ u. u >>= λ v. closed (operated o x v.tree) (whole_sort o) v.rest) one.gives ∙ closed_again (operated o x y) (whole_sort o) one.blanks one.text rest one.blank one.is)

grouped_as : (r : Reader) (n : ℕ) → IsReader r n → (scope text : List ℕ) (found : Read) → r scope text ≡ Some found → grouped r scope text ≡ joined r scope text
unfolding grouped
grouped_as r n h scope text found e =
    cond-false (is_word (run_of text) (codes "not")) (negation r scope (after_run text)) (joined r scope text)
    (false_from_ne_true (is_word (run_of text) (codes "not")) (λ is. let none = h.refuses scope text (word_is (run_of text) (codes "not") is) in absurd cc))

between_again : (r : Reader) (n : ℕ) → IsReader r n → (scope : List ℕ) (o : Operator) (x y : Tree) (text rest : List ℕ) → Fits n scope (part_sort o) x → Fits n scope (part_sort o) y → Between (operator_text o) (Spells x) (Spells y) text
    → form r scope (text ++ rest) ≡ Some (read_as (operated o x y) (whole_sort o) rest)
unfolding joined
between_again r n h scope o x y text rest fx fy g =
    let Z : Form = Then (Token (operator_text o)) (Last (Spells y)) in
    let q = g.in_back in
    let tail : List ℕ = q.blanks ++ (q.back ++ rest) in
    let some : IsFilled Z = filled_then (Token (operator_text o)) (Last (Spells y)) (λ w i. subst (λ u. 0 < length u) (sym i) (operator_filled o)) in
    let whole : text ++ rest ≡ 40 ∷ (g.blanks ++ (q.front ++ tail)) =
    split (Token (codes "(")) (Then (Spells x) Z) text rest g ∙ ap (λ w. w ++ (g.blanks ++ (g.back ++ rest))) g.in_front ∙ ap (λ w. 40 ∷ (g.blanks ++ w)) (split (Spells x) Z g.back rest q) in
    let e = h.again scope (part_sort o) x q.front tail fx q.in_front (front_apart (Spells x) Z g.back rest some q) in
    let solid = opens_solid (q.front ++ tail) (h.opening scope (q.front ++ tail) (read_as x (part_sort o) tail) e) in
    let sign = operator_step r n h scope o y q.blanks q.back rest q.blank fy q.in_back in
    ap (form r scope) whole ∙ form_paren r scope (g.blanks ++ (q.front ++ tail)) ∙ ap (grouped r scope) (blanks_again g.blanks (q.front ++ tail) g.blank solid)
    ∙ grouped_as r n h scope (q.front ++ tail) (read_as x (part_sort o) tail) e
    ∙ ap (λ u. u >>= λ v. after_operator v.rest >>= λ w. second r scope v w) e
    ∙ ap (λ u. u >>= λ w. second r scope (read_as x (part_sort o) tail) w) sign.gives
    ∙ second_again r n h scope o x y tail sign.blanks sign.text rest sign.blank fy sign.is

not_again : (r : Reader) (n : ℕ) → IsReader r n → (scope : List ℕ) (p : Tree) (text rest : List ℕ) → Fits n scope sort.Formula p → Then (Token (codes "(")) (Then (Token (codes "not")) (Last (Spells p))) text
    → form r scope (text ++ rest) ≡ Some (read_as (Not p) sort.Formula rest)
unfolding grouped negation
not_again r n h scope p text rest fp g =
    let some : IsFilled (Last (Spells p)) = λ w i. omega (arith, ap length i.whole, ap length i.in_back, length-append i.front (i.blanks ++ i.back), length-append i.blanks i.back) in
    let whole : text ++ rest ≡ 40 ∷ (g.blanks ++ (g.back ++ rest)) = split (Token (codes "(")) (Then (Token (codes "not")) (Last (Spells p))) text rest g ∙ ap (λ w. w ++ (g.blanks ++ (g.back ++ rest))) g.in_front in
    let one = run_step (codes "not") (Last (Spells p)) (omega arith) refl some g.blanks g.back rest g.blank g.in_back in
    let two = part_step r n h scope sort.Formula p (Token (codes ")")) filled_last one.blanks one.text rest one.blank fp one.is in
    let inside : List ℕ = after_blanks (g.blanks ++ (g.back ++ rest)) in
    ap (form r scope) whole ∙ form_paren r scope (g.blanks ++ (g.back ++ rest))
    ∙ (λ i. cond (is_word (one.gives.0 i) (codes "not")) (part r scope sort.Formula (one.gives.1 i) >>= λ u. closed (Not u.tree) sort.Formula u.rest) (joined r scope inside))
    ∙ ap (λ u. u >>= λ v. closed (Not v.tree) sort.Formula v.rest) two.gives
    ∙ closed_again (Not p) sort.Formula two.blanks two.text rest two.blank two.is

-- ---- literals and variables

digits_again : (r : Reader) (scope text rest : List ℕ) (z : ℤ) → IsNumeral 10 text → literal text ≡ Some z → begins_run rest ≡ false → form r scope (text ++ rest) ≡ Some (read_as (Literal z) sort.Int rest)
unfolding named plain
digits_again r scope [] rest z numeral e stop = absurd (omega arith)
digits_again r scope (first ∷ digits) rest z numeral e stop =
    form_run r scope (first ∷ digits) rest (omega arith) (digits_run (first ∷ digits) numeral.1) stop
    ∙ ap (λ o. worded r scope o (first ∷ digits) rest) (digit_no_word first digits (digit_first first digits numeral.1))
    ∙ rw (digit_first first digits numeral.1) (ap (λ o. number_part o rest) e)

minus_again : (r : Reader) (scope digits rest : List ℕ) (z : ℤ) → IsNumeral 10 digits → negative_literal digits ≡ Some z → begins_run rest ≡ false → form r scope ((45 ∷ digits) ++ rest) ≡ Some (read_as (Literal z) sort.Int rest)
unfolding form
minus_again r scope digits rest z numeral e stop =
    let all = digits_run digits numeral.1 in
    (λ i. number_part (negative_literal (run_again digits rest all stop i)) (after_run_again digits rest all stop i)) ∙ ap (λ o. number_part o rest) e

scope_again : (n : ℕ) (scope : List ℕ) (s : Sort) (v : Var) (rest : List ℕ) → Fits (suc n) scope s (Variable v) → in_scope scope v rest ≡ Some (read_as (Variable v) s rest)
scope_again n scope s (var.Bound j) rest f =
    let is = int_sort s f.sort.0 in
    rw (f.within j (eq-eqb j j refl)) (ap (λ q. Some (read_as (Variable (var.Bound j)) q rest)) (sym is))
scope_again n scope s (var.Entry x) rest f = ap (λ q. Some (read_as (Variable (var.Entry x)) q rest)) (sym (int_sort s f.sort.0))
scope_again n scope s (var.Now x) rest f = ap (λ q. Some (read_as (Variable (var.Now x)) q rest)) (sym (int_sort s f.sort.0))
scope_again n scope s (var.After x j) rest f = ap (λ q. Some (read_as (Variable (var.After x j)) q rest)) (sym (int_sort s f.sort.0))
scope_again n scope s (var.In j) rest f = ap (λ q. Some (read_as (Variable (var.In j)) q rest)) (sym (int_sort s f.sort.0))
scope_again n scope s (var.SlotHigh j) rest f = ap (λ q. Some (read_as (Variable (var.SlotHigh j)) q rest)) (sym (int_sort s f.sort.0))
scope_again n scope s (var.SlotLow j) rest f = ap (λ q. Some (read_as (Variable (var.SlotLow j)) q rest)) (sym (int_sort s f.sort.0))
scope_again n scope s (var.Any j) rest f = ap (λ q. Some (read_as (Variable (var.Any j)) q rest)) (sym (int_sort s f.sort.0))
scope_again n scope s var.MemEntry rest f = ap (λ q. Some (read_as (Variable var.MemEntry) q rest)) (sym (memory_sort s f.sort.0))
scope_again n scope s var.Mem rest f = ap (λ q. Some (read_as (Variable var.Mem) q rest)) (sym (memory_sort s f.sort.0))
scope_again n scope s (var.MemAfter j) rest f = ap (λ q. Some (read_as (Variable (var.MemAfter j)) q rest)) (sym (memory_sort s f.sort.0))

letter_no_digit : (byte : ℕ) → is_ascii_alphabetic byte ≡ true → is_ascii_digit byte ≡ false
letter_no_digit byte h = grind arith

variable_form_again : (r : Reader) (n : ℕ) (scope : List ℕ) (s : Sort) (v : Var) (rest : List ℕ) → Fits (suc n) scope s (Variable v) → IsApart (variable_text v) rest → form r scope (variable_text v ++ rest) ≡ Some (read_as (Variable v) s rest)
unfolding named plain variable_part
variable_form_again r n scope s v rest f apart =
    let b = variable_first v in
    let all = variable_run v f.numbers in
    let some : 0 < length (variable_text v) = omega (arith, ap length b.whole) in
    let stop = run_apart (variable_text v) rest some all apart in
    form_run r scope (variable_text v) rest some all stop
    ∙ ap (λ o. worded r scope o (variable_text v) rest) (variable_no_word v f.sort.1 f.numbers)
    ∙ ap (λ w. plain scope w rest) b.whole
    ∙ rw (letter_no_digit b.first b.letter) refl
    ∙ ap (λ w. variable_of w >>= λ u. in_scope scope u rest) (sym b.whole)
    ∙ ap (λ o. o >>= λ u. in_scope scope u rest) (variable_again v f.sort.1 f.numbers)
    ∙ scope_again n scope s v rest f

literal_form_again : (r : Reader) (n : ℕ) (scope : List ℕ) (s : Sort) (z : ℤ) (front rest : List ℕ) → Fits (suc n) scope s (Literal z) → IsLiteral z front → IsApart front rest → form r scope (front ++ rest) ≡ Some (read_as (Literal z) s rest)
literal_form_again r n scope s z front rest f (inl h) apart =
    let stop = run_apart front rest h.0.0 (digits_run front h.0.1) apart in
    digits_again r scope front rest z h.0 (literal_again front z h.0 h.1 f.numbers) stop ∙ ap (λ q. Some (read_as (Literal z) q rest)) (sym (int_sort s f.sort))
literal_form_again r n scope s z front rest f (inr h) apart =
    let digits : List ℕ = h.0 in
    let stop = run_apart digits rest h.2.0 (digits_run digits h.2.1) (minus_apart digits h.2.0 (subst (λ w. IsApart w rest) h.1 apart)) in
    ap (λ w. form r scope (w ++ rest)) h.1 ∙ minus_again r scope digits rest z h.2 (negative_again digits z h.2 h.3 f.numbers) stop ∙ ap (λ q. Some (read_as (Literal z) q rest)) (sym (int_sort s f.sort))
  where
    minus_apart : (ds : List ℕ) → 0 < length ds → IsApart (45 ∷ ds) rest → IsApart ds rest
    minus_apart [] some a = absurd (omega arith)
    minus_apart (d ∷ ds) some a = a

-- ---- each form

truth_again : (r : Reader) (scope : List ℕ) (w : Word) (rest : List ℕ) → IsApart (word_text w) rest → form r scope (word_text w ++ rest) ≡ worded r scope (Some w) (word_text w) rest
unfolding named
truth_again r scope w rest apart =
    form_run r scope (word_text w) rest (word_filled w) (word_run w) (run_apart (word_text w) rest (word_filled w) (word_run w) apart) ∙ ap (λ o. worded r scope o (word_text w) rest) (word_again w)

sorted : (t : Tree) (s q : Sort) (rest : List ℕ) → s ≡ q → Some (read_as t q rest) ≡ Some (read_as t s rest)
sorted t s q rest e = ap (λ u. Some (read_as t u rest)) (sym e)

pub form_again : (r : Reader) (n : ℕ) → IsReader r n → (scope : List ℕ) (s : Sort) (t : Tree) (front rest : List ℕ) → Fits (suc n) scope s t → Spells t front → IsApart front rest → form r scope (front ++ rest) ≡ Some (read_as t s rest)
form_again r n h scope s (Literal z) front rest f g apart = literal_form_again r n scope s z front rest f g apart
form_again r n h scope s (Truth true) front rest f g apart =
    ap (λ w. form r scope (w ++ rest)) g ∙ truth_again r scope word.True rest (subst (λ w. IsApart w rest) g apart) ∙ sorted (Truth true) s sort.Formula rest (formula_sort s f.sort)
form_again r n h scope s (Truth false) front rest f g apart =
    ap (λ w. form r scope (w ++ rest)) g ∙ truth_again r scope word.False rest (subst (λ w. IsApart w rest) g apart) ∙ sorted (Truth false) s sort.Formula rest (formula_sort s f.sort)
form_again r n h scope s (Variable v) front rest f g apart = ap (λ w. form r scope (w ++ rest)) g ∙ variable_form_again r n scope s v rest f (subst (λ w. IsApart w rest) g apart)
form_again r n h scope s (Add x y) front rest f g apart = let p = parts_operated n scope s operator.Add x y f in between_again r n h scope operator.Add x y front rest p.left p.right g ∙ sorted (Add x y) s (whole_sort operator.Add) rest p.of_sort
form_again r n h scope s (Subtract x y) front rest f g apart = let p = parts_operated n scope s operator.Subtract x y f in between_again r n h scope operator.Subtract x y front rest p.left p.right g ∙ sorted (Subtract x y) s (whole_sort operator.Subtract) rest p.of_sort
form_again r n h scope s (Multiply x y) front rest f g apart = let p = parts_operated n scope s operator.Multiply x y f in between_again r n h scope operator.Multiply x y front rest p.left p.right g ∙ sorted (Multiply x y) s (whole_sort operator.Multiply) rest p.of_sort
form_again r n h scope s (Divide x y) front rest f g apart = let p = parts_operated n scope s operator.Divide x y f in between_again r n h scope operator.Divide x y front rest p.left p.right g ∙ sorted (Divide x y) s (whole_sort operator.Divide) rest p.of_sort
form_again r n h scope s (Remainder x y) front rest f g apart = let p = parts_operated n scope s operator.Remainder x y f in between_again r n h scope operator.Remainder x y front rest p.left p.right g ∙ sorted (Remainder x y) s (whole_sort operator.Remainder) rest p.of_sort
form_again r n h scope s (Equal x y) front rest f g apart = let p = parts_operated n scope s operator.Equal x y f in between_again r n h scope operator.Equal x y front rest p.left p.right g ∙ sorted (Equal x y) s (whole_sort operator.Equal) rest p.of_sort
form_again r n h scope s (Less x y) front rest f g apart = let p = parts_operated n scope s operator.Less x y f in between_again r n h scope operator.Less x y front rest p.left p.right g ∙ sorted (Less x y) s (whole_sort operator.Less) rest p.of_sort
form_again r n h scope s (LessOrEqual x y) front rest f g apart = let p = parts_operated n scope s operator.LessOrEqual x y f in between_again r n h scope operator.LessOrEqual x y front rest p.left p.right g ∙ sorted (LessOrEqual x y) s (whole_sort operator.LessOrEqual) rest p.of_sort
form_again r n h scope s (And x y) front rest f g apart = let p = parts_operated n scope s operator.And x y f in between_again r n h scope operator.And x y front rest p.left p.right g ∙ sorted (And x y) s (whole_sort operator.And) rest p.of_sort
form_again r n h scope s (Or x y) front rest f g apart = let p = parts_operated n scope s operator.Or x y f in between_again r n h scope operator.Or x y front rest p.left p.right g ∙ sorted (Or x y) s (whole_sort operator.Or) rest p.of_sort
form_again r n h scope s (Implies x y) front rest f g apart = let p = parts_operated n scope s operator.Implies x y f in between_again r n h scope operator.Implies x y front rest p.left p.right g ∙ sorted (Implies x y) s (whole_sort operator.Implies) rest p.of_sort
form_again r n h scope s (Iff x y) front rest f g apart = let p = parts_operated n scope s operator.Iff x y f in between_again r n h scope operator.Iff x y front rest p.left p.right g ∙ sorted (Iff x y) s (whole_sort operator.Iff) rest p.of_sort
form_again r n h scope s (ByteAnd x y) front rest f g apart = let p = parts_pairing n scope s pairs.And x y f in let w = word_step r scope word.And _ (filled_open (More (Spells x) (Last (Spells y)))) front rest g in w.gives ∙ pair_again r n h scope pairs.And x y w.blanks w.text rest w.blank p.left p.right w.is ∙ sorted (ByteAnd x y) s sort.Int rest p.of_sort
form_again r n h scope s (ByteOr x y) front rest f g apart = let p = parts_pairing n scope s pairs.Or x y f in let w = word_step r scope word.Or _ (filled_open (More (Spells x) (Last (Spells y)))) front rest g in w.gives ∙ pair_again r n h scope pairs.Or x y w.blanks w.text rest w.blank p.left p.right w.is ∙ sorted (ByteOr x y) s sort.Int rest p.of_sort
form_again r n h scope s (ByteXor x y) front rest f g apart = let p = parts_pairing n scope s pairs.Xor x y f in let w = word_step r scope word.Xor _ (filled_open (More (Spells x) (Last (Spells y)))) front rest g in w.gives ∙ pair_again r n h scope pairs.Xor x y w.blanks w.text rest w.blank p.left p.right w.is ∙ sorted (ByteXor x y) s sort.Int rest p.of_sort
form_again r n h scope s (Parity x) front rest f g apart = let q = parts_parity n scope s x f in let w = word_step r scope word.Parity _ (filled_open (Last (Spells x))) front rest g in w.gives ∙ parity_again r n h scope x w.blanks w.text rest w.blank q.at_x w.is ∙ sorted (Parity x) s sort.Int rest q.of_sort
form_again r n h scope s (Bit k x) front rest f g apart = let q = parts_bit n scope s k x f in let w = word_step r scope word.Bit _ (filled_open (More (Token (decimal k)) (Last (Spells x)))) front rest g in w.gives ∙ bit_again r n h scope k x w.blanks w.text rest w.blank q.low q.at_x w.is ∙ sorted (Bit k x) s sort.Int rest q.of_sort
form_again r n h scope s (Psw a z c p y) front rest f g apart = let q = parts_flags n scope s a z c p y f in let w = word_step r scope word.Flags _ (filled_open (More (Spells a) (More (Spells z) (More (Spells c) (More (Spells p) (Last (Spells y))))))) front rest g in w.gives ∙ flags_again r n h scope a z c p y w.blanks w.text rest w.blank q.at_s q.at_z q.at_ac q.at_p q.at_cy w.is ∙ sorted (Psw a z c p y) s sort.Int rest q.of_sort
form_again r n h scope s (If p x y) front rest f g apart = let q = parts_if n scope s p x y f in let w = word_step r scope word.If _ (filled_open (More (Spells p) (More (Spells x) (Last (Spells y))))) front rest g in w.gives ∙ choice_again r n h scope p x y w.blanks w.text rest w.blank q.at_p q.at_x q.at_y w.is ∙ sorted (If p x y) s sort.Int rest q.of_sort
form_again r n h scope s (Element m x) front rest f g apart = let q = parts_element n scope s m x f in let w = word_step r scope word.Element _ (filled_open (More (Spells m) (Cell (Spells x) (Token (codes ")"))))) front rest g in w.gives ∙ element_again r n h scope m x w.blanks w.text rest w.blank q.at_m q.at_x w.is ∙ sorted (Element m x) s sort.Int rest q.of_sort
form_again r n h scope s (Update m x y) front rest f g apart = let q = parts_update n scope s m x y f in let w = word_step r scope word.Update _ (filled_open (More (Spells m) (Cell (Spells x) (Then (Token (codes ",")) (Last (Spells y)))))) front rest g in w.gives ∙ update_again r n h scope m x y w.blanks w.text rest w.blank q.at_m q.at_x q.at_y w.is ∙ sorted (Update m x y) s sort.Memory rest q.of_sort
form_again r n h scope s (Total m x y) front rest f g apart = let q = parts_total n scope s m x y f in let w = word_step r scope word.Total _ (filled_open (More (Spells m) (Cell (Spells x) (Then (Token (codes ",")) (Cell (Spells y) (Token (codes ")"))))))) front rest g in w.gives ∙ total_again r n h scope m x y w.blanks w.text rest w.blank q.at_m q.at_x q.at_y w.is ∙ sorted (Total m x y) s sort.Int rest q.of_sort
form_again r n h scope s (Not p) front rest f g apart = let q = parts_not n scope s p f in not_again r n h scope p front rest q.at_p g ∙ sorted (Not p) s sort.Formula rest q.of_sort
form_again r n h scope s (ForAll k x y p) front rest f g apart = let q = parts_quantifying n scope s true k x y p f in let w = word_step r scope word.ForAll _ (filled_open (Then (Token (codes "i" ++ decimal k)) (Then (Token (codes ":")) (Then (Spells x) (Then (Token (codes "..")) (More (Spells y) (Last (Spells p)))))))) front rest g in w.gives ∙ quantifier_again r n h scope true k x y p w.blanks w.text rest w.blank q.low q.high q.at_x q.at_y q.at_p w.is ∙ sorted (ForAll k x y p) s sort.Formula rest q.of_sort
form_again r n h scope s (ForSome k x y p) front rest f g apart = let q = parts_quantifying n scope s false k x y p f in let w = word_step r scope word.ForSome _ (filled_open (Then (Token (codes "i" ++ decimal k)) (Then (Token (codes ":")) (Then (Spells x) (Then (Token (codes "..")) (More (Spells y) (Last (Spells p)))))))) front rest g in w.gives ∙ quantifier_again r n h scope false k x y p w.blanks w.text rest w.blank q.low q.high q.at_x q.at_y q.at_p w.is ∙ sorted (ForSome k x y p) s sort.Formula rest q.of_sort

-- ---- how a text begins that is read

run_first : (byte : ℕ) (rest : List ℕ) → 0 < length (run_of (byte ∷ rest)) → is_run byte ≡ true
run_first byte rest h = by (is_run byte) refl h
  where
    by : (b : Bool) → is_run byte ≡ b → 0 < length (cond b (byte ∷ run_of rest) []) → b ≡ true
    by true e u = refl
    by false e u = absurd (omega arith)

run_begins : (text : List ℕ) → 0 < length (run_of text) → begins_run text ≡ true
run_begins [] h = absurd (omega arith)
run_begins (byte ∷ rest) h = run_first byte rest h

number_some : (o : Option ℤ) (rest : List ℕ) (found : Read) → number_part o rest ≡ Some found → (z : ℤ) × (o ≡ Some z)
number_some None rest found e = absurd cc
number_some (Some z) rest found e = (z, refl)

form_opens : (r : Reader) (scope text : List ℕ) (found : Read) → form r scope text ≡ Some found → opens text ≡ true
unfolding form
form_opens r scope [] found e = absurd cc
form_opens r scope (first ∷ text) found e =
    chosen (opens (first ∷ text) ≡ true) (first == 40) (grouped r scope (after_blanks text)) _ (Some found) e (λ is e1. rw is refl)
    (λ no_paren e1. chosen (opens (first ∷ text) ≡ true) (first == 45) (number_part (negative_literal (run_of text)) (after_run text)) (named r scope (run_of (first ∷ text)) (after_run (first ∷ text))) (Some found) e1
    (λ is e2. let z = number_some (negative_literal (run_of text)) (after_run text) found e2 in rw (no_paren, is, run_begins text (negative_filled (run_of text) z.0 z.1)) refl)
    (λ is e2. rw (no_paren, is, run_first first text (named_filled r scope (run_of (first ∷ text)) (after_run (first ∷ text)) found e2)) refl))

-- `not` begins no term
no_term : (r : Reader) (scope rest : List ℕ) → named r scope (110 ∷ 111 ∷ 116 ∷ []) rest ≡ None
unfolding named word_of plain variable_part variable_of marked_variable location_variable location_named
no_term r scope rest = refl

form_refuses : (r : Reader) (scope text : List ℕ) → run_of text ≡ 110 ∷ 111 ∷ 116 ∷ [] → form r scope text ≡ None
unfolding form
form_refuses r scope [] e = absurd cc
form_refuses r scope (first ∷ text) e =
    let run : is_run first ≡ true = run_first first text (omega (arith, ap length e)) in
    let no_paren : (first == 40) ≡ false = run_no_mark first 40 refl run in
    let no_minus : (first == 45) ≡ false = run_no_mark first 45 refl run in
    rw (no_paren, no_minus) (ap (λ w. named r scope w (after_run (first ∷ text))) e ∙ no_term r scope (after_run (first ∷ text)))

-- ---- the reader of each depth

pub reads : (n : ℕ) → IsReader (read_at n) n
unfolding read_at
reads zero = record {
  is = λ scope text found e. absurd cc;
  again = λ scope s t front rest f g apart. let d = f.shallow in let m = some_depth t in absurd (omega arith);
  opening = λ scope text found e. absurd cc;
  refuses = λ scope text e. refl;
}
reads (suc n) =
    let h = reads n in
    record {
      is = λ scope text found e. form_is (read_at n) n h scope text found e;
      again = λ scope s t front rest f g apart. form_again (read_at n) n h scope s t front rest f g apart;
      opening = λ scope text found e. form_opens (read_at n) scope text found e;
      refuses = λ scope text e. form_refuses (read_at n) scope text e;
    }
