-- What the reader takes from the front of a text is spelled there, and may stand there.
use Rattle.std.proofs.Common.{◌≡◌, ℕ, suc, ◌<◌, Bool, true, false, List, [], ◌∷◌, ◌++◌, length, Option, Some, None, refl, sym, ap, subst, ◌∙◌, arith, ℤ}
use Rattle.std.specs.Prelude.{◌==◌, codes, decimal, FitsSigned}
use Rattle.std.specs.Int.{w64}
use Rattle.std.specs.List.{list_any}
use Rattle.std.specs.Char.{is_ascii_digit}
use Rattle.std.proofs.lemmas.Bool.{eqb-true}
use Rattle.sp_term.specs.declared.var.Var.{Var}
use Rattle.sp_term.specs.declared.var.Var.TheVariants as var
use Rattle.sp_term.specs.Tree.{Tree, Literal, Truth, Variable, Parity, Bit, Psw, If, Element, Update, Total, Not}
use Rattle.sp_term.specs.Sorts.{sort_of, IsNumbered}
use Rattle.sp_fdl.specs.declared.sort.Sort.TheVariants as sort
use Rattle.sp_fdl.specs.declared.operator.Operator.{Operator}
use Rattle.sp_fdl.specs.declared.operator.Operator.TheVariants as operator
use Rattle.sp_fdl.specs.declared.word.Word.{Word}
use Rattle.sp_fdl.specs.declared.word.Word.TheVariants as word
use Rattle.sp_fdl.specs.declared.word.Pairing.{Pairing}
use Rattle.sp_fdl.specs.declared.word.Pairing.TheVariants as pairs
use Rattle.sp_fdl.specs.Printed.{variable_text}
use Rattle.sp_fdl.specs.Text.{is_run, Form, Token, Between, Call, More, Last, Quantified, IsLiteral, Spells, HasNameNumber}
use Rattle.sp_fdl.specs.code.Tokens.{after_blanks, run_of, after_run, after_mark, after_dots, after_first}
use Rattle.sp_fdl.specs.code.Numbers.{literal, negative_literal}
use Rattle.sp_fdl.specs.code.Names.{is_word, word_of, variable_of, variable_sort, bound_number, bit_number}
use Rattle.sp_fdl.specs.code.Operators.{Signed, part_sort, whole_sort, operated, after_operator}
use Rattle.sp_fdl.specs.code.Reading.{Read, read_as, Reader, of_sort, negation, second, joined, grouped, pair, parity, bit, flags, choice, element, update, total, bound, quantifier, pairing, quantifying, number_part, in_scope, variable_part, plain, worded, named, form}
use Rattle.sp_fdl.proofs.TextLemmas.{bind_some, some_is, if_some, chosen, Takes, takes_then, mark_takes, after_mark_takes, run_takes, parts_of, after_run_apart}
use Rattle.sp_fdl.proofs.ValueLemmas.{literal_is, negative_is}
use Rattle.sp_fdl.proofs.NameLemmas.{word_is, word_text, word_of_is, word_filled, variable_is, bound_number_is, bit_number_is, bit_filled}
use Rattle.sp_fdl.proofs.OperatorLemmas.{operator_text, operator_takes}
use Rattle.sp_fdl.proofs.FitLemmas.{meaning, Within, Fits, fits_operated, fits_pairing, fits_not, fits_parity, fits_flags, fits_if, fits_element, fits_update, fits_total, fits_bit, fits_quantifying}
use Rattle.sp_fdl.proofs.StepReadLemmas.{Reads, IsReader, of_sort_is, then_part, then_part_after, then_cell, closed_is}

-- ---- functions

abbrev pairing_text : Pairing → List ℕ
pairing_text pairs.And = codes "band"
pairing_text pairs.Or = codes "bor"
pairing_text pairs.Xor = codes "bxor"

spells_pairing : (which : Pairing) (x y : Tree) (text rest : List ℕ) → Takes (Call (pairing_text which) (More (Spells x) (Last (Spells y)))) text rest → Takes (Spells (pairing which x y)) text rest
spells_pairing pairs.And x y text rest h = h
spells_pairing pairs.Or x y text rest h = h
spells_pairing pairs.Xor x y text rest h = h

pair_is : (r : Reader) (n : ℕ) → IsReader r n → (scope : List ℕ) (which : Pairing) (front text : List ℕ) (found : Read) → Takes (Token (pairing_text which)) front text → pair r scope which text ≡ Some found → Reads (suc n) scope front found
unfolding pair
pair_is r n h scope which front text found name e =
    let P : Type 0 = Reads (suc n) scope front found in
    then_part_after r n h P scope 40 sort.Int text _ found refl e (λ x px e1. then_part_after r n h P scope 44 sort.Int x.rest _ found refl e1 (λ y py e2.
    closed_is (pairing which x.tree y.tree) sort.Int y.rest found (Reads (suc n) scope front) e2 (λ rest last.
    record { takes = spells_pairing which x.tree y.tree front rest (takes_then _ _ front text rest name (px.follows _ rest (py.follows _ rest last))); fits = fits_pairing n scope which x.tree y.tree px.fits py.fits })))

parity_is : (r : Reader) (n : ℕ) → IsReader r n → (scope front text : List ℕ) (found : Read) → Takes (Token (codes "par")) front text → parity r scope text ≡ Some found → Reads (suc n) scope front found
unfolding parity
parity_is r n h scope front text found name e =
    let P : Type 0 = Reads (suc n) scope front found in
    then_part_after r n h P scope 40 sort.Int text _ found refl e (λ x px e1.
    closed_is (Parity x.tree) sort.Int x.rest found (Reads (suc n) scope front) e1 (λ rest last.
    record { takes = takes_then _ _ front text rest name (px.follows _ rest last); fits = fits_parity n scope x.tree px.fits }))

flags_is : (r : Reader) (n : ℕ) → IsReader r n → (scope front text : List ℕ) (found : Read) → Takes (Token (codes "psw")) front text → flags r scope text ≡ Some found → Reads (suc n) scope front found
unfolding flags
flags_is r n h scope front text found name e =
    let P : Type 0 = Reads (suc n) scope front found in
    then_part_after r n h P scope 40 sort.Int text _ found refl e (λ s ps e1. then_part_after r n h P scope 44 sort.Int s.rest _ found refl e1 (λ z pz e2.
    then_part_after r n h P scope 44 sort.Int z.rest _ found refl e2 (λ a pa e3. then_part_after r n h P scope 44 sort.Int a.rest _ found refl e3 (λ p pp e4.
    then_part_after r n h P scope 44 sort.Int p.rest _ found refl e4 (λ c pc e5.
    closed_is (Psw s.tree z.tree a.tree p.tree c.tree) sort.Int c.rest found (Reads (suc n) scope front) e5 (λ rest last.
    record {
      takes = takes_then _ _ front text rest name (ps.follows _ rest (pz.follows _ rest (pa.follows _ rest (pp.follows _ rest (pc.follows _ rest last)))));
      fits = fits_flags n scope s.tree z.tree a.tree p.tree c.tree ps.fits pz.fits pa.fits pp.fits pc.fits;
    }))))))

choice_is : (r : Reader) (n : ℕ) → IsReader r n → (scope front text : List ℕ) (found : Read) → Takes (Token (codes "if")) front text → choice r scope text ≡ Some found → Reads (suc n) scope front found
unfolding choice
choice_is r n h scope front text found name e =
    let P : Type 0 = Reads (suc n) scope front found in
    then_part_after r n h P scope 40 sort.Formula text _ found refl e (λ p pp e1. then_part_after r n h P scope 44 sort.Int p.rest _ found refl e1 (λ x px e2.
    then_part_after r n h P scope 44 sort.Int x.rest _ found refl e2 (λ y py e3.
    closed_is (If p.tree x.tree y.tree) sort.Int y.rest found (Reads (suc n) scope front) e3 (λ rest last.
    record { takes = takes_then _ _ front text rest name (pp.follows _ rest (px.follows _ rest (py.follows _ rest last))); fits = fits_if n scope p.tree x.tree y.tree pp.fits px.fits py.fits }))))

element_is : (r : Reader) (n : ℕ) → IsReader r n → (scope front text : List ℕ) (found : Read) → Takes (Token (codes "element")) front text → element r scope text ≡ Some found → Reads (suc n) scope front found
unfolding element
element_is r n h scope front text found name e =
    let P : Type 0 = Reads (suc n) scope front found in
    then_part_after r n h P scope 40 sort.Memory text _ found refl e (λ m pm e1. then_cell r n h P scope m.rest _ found e1 (λ x px e2.
    closed_is (Element m.tree x.tree) sort.Int x.rest found (Reads (suc n) scope front) e2 (λ rest last.
    record { takes = takes_then _ _ front text rest name (pm.follows _ rest (px.follows _ rest last)); fits = fits_element n scope m.tree x.tree pm.fits px.fits })))

update_is : (r : Reader) (n : ℕ) → IsReader r n → (scope front text : List ℕ) (found : Read) → Takes (Token (codes "update")) front text → update r scope text ≡ Some found → Reads (suc n) scope front found
unfolding update
update_is r n h scope front text found name e =
    let P : Type 0 = Reads (suc n) scope front found in
    then_part_after r n h P scope 40 sort.Memory text _ found refl e (λ m pm e1. then_cell r n h P scope m.rest _ found e1 (λ x px e2.
    then_part_after r n h P scope 44 sort.Int x.rest _ found refl e2 (λ y py e3.
    closed_is (Update m.tree x.tree y.tree) sort.Memory y.rest found (Reads (suc n) scope front) e3 (λ rest last.
    record { takes = takes_then _ _ front text rest name (pm.follows _ rest (px.follows _ rest (py.follows _ rest last))); fits = fits_update n scope m.tree x.tree y.tree pm.fits px.fits py.fits }))))

total_is : (r : Reader) (n : ℕ) → IsReader r n → (scope front text : List ℕ) (found : Read) → Takes (Token (codes "total")) front text → total r scope text ≡ Some found → Reads (suc n) scope front found
unfolding total
total_is r n h scope front text found name e =
    let P : Type 0 = Reads (suc n) scope front found in
    then_part_after r n h P scope 40 sort.Memory text _ found refl e (λ m pm e1. then_cell r n h P scope m.rest _ found e1 (λ x px e2. then_cell r n h P scope x.rest _ found e2 (λ y py e3.
    closed_is (Total m.tree x.tree y.tree) sort.Int y.rest found (Reads (suc n) scope front) e3 (λ rest last.
    record { takes = takes_then _ _ front text rest name (pm.follows _ rest (px.follows _ rest (py.follows _ rest last))); fits = fits_total n scope m.tree x.tree y.tree pm.fits px.fits py.fits }))))

bit_is : (r : Reader) (n : ℕ) → IsReader r n → (scope front text : List ℕ) (found : Read) → Takes (Token (codes "bit")) front text → bit r scope text ≡ Some found → Reads (suc n) scope front found
unfolding bit
bit_is r n h scope front text found name e =
    let P : Type 0 = Reads (suc n) scope front found in
    let b = bind_some (after_mark 40 text) _ found e in
    let inside : List ℕ = after_blanks b.0 in
    let c = bind_some (bit_number (run_of inside)) _ found b.2 in
    let k = bit_number_is (run_of inside) c.0 c.1 in
    let number = run_takes inside (decimal c.0) k.is (bit_filled c.0 k.high) in
    then_part_after r n h P scope 44 sort.Int (after_run inside) _ found refl c.2 (λ x px e1.
    closed_is (Bit c.0 x.tree) sort.Int x.rest found (Reads (suc n) scope front) e1 (λ rest last.
    record {
      takes = takes_then _ _ front text rest name (takes_then _ _ (after_blanks text) b.0 rest (after_mark_takes 40 text b.0 refl b.1) (takes_then _ _ inside (after_run inside) rest number (px.follows _ rest last)));
      fits = fits_bit n scope c.0 x.tree k.high px.fits;
    }))

-- ---- quantifiers

abbrev quantifier_text : Bool → List ℕ
quantifier_text true = codes "for_all"
quantifier_text false = codes "for_some"

spells_quantifying : (all : Bool) (k : ℕ) (x y p : Tree) (text rest : List ℕ) → Takes (Quantified (quantifier_text all) k (Spells x) (Spells y) (Spells p)) text rest → Takes (Spells (quantifying all k x y p)) text rest
spells_quantifying true k x y p text rest h = h
spells_quantifying false k x y p text rest h = h

dots_take : (text rest : List ℕ) → after_dots text ≡ Some rest → Takes (Token (codes "..")) (after_blanks text) rest
unfolding after_dots
dots_take text rest e =
    let b = bind_some (after_mark 46 text) (after_first 46) rest e in
    let m = after_mark_takes 46 text b.0 refl b.1 in
    let d = mark_takes 46 b.0 rest refl b.2 in
    record {
      front = codes "..";
      whole = m.whole ∙ ap (λ w. w ++ b.0) m.is ∙ ap (λ w. 46 ∷ w) (d.whole ∙ ap (λ w. w ++ rest) d.is);
      is = refl;
      apart = λ ends. absurd cc;
      filled = omega arith;
    }

quantifier_is : (r : Reader) (n : ℕ) → IsReader r n → (scope : List ℕ) (all : Bool) (front text : List ℕ) (found : Read) → Takes (Token (quantifier_text all)) front text → quantifier r scope all text ≡ Some found → Reads (suc n) scope front found
unfolding quantifier bound
quantifier_is r n h scope all front text found name e =
    let P : Type 0 = Reads (suc n) scope front found in
    let b = bind_some (after_mark 40 text) _ found e in
    let inside : List ℕ = after_blanks b.0 in
    let c = bind_some (bound_number (run_of inside)) _ found b.2 in
    let k = bound_number_is (run_of inside) c.0 c.1 in
    let number = run_takes inside (codes "i" ++ decimal c.0) k.0 (omega arith) in
    then_part_after r n h P scope 58 sort.Int (after_run inside) _ found refl c.2 (λ x px e1.
    let d = bind_some (after_dots x.rest) _ found e1 in
    then_part r n h P scope sort.Int d.0 _ found d.2 (λ y py e2. then_part_after r n h P (c.0 ∷ scope) 44 sort.Formula y.rest _ found refl e2 (λ p pp e3.
    closed_is (quantifying all c.0 x.tree y.tree p.tree) sort.Formula p.rest found (Reads (suc n) scope front) e3 (λ rest last.
    record {
      takes = spells_quantifying all c.0 x.tree y.tree p.tree front rest (takes_then _ _ front text rest name (takes_then _ _ (after_blanks text) b.0 rest (after_mark_takes 40 text b.0 refl b.1)
          (takes_then _ _ inside (after_run inside) rest number (px.follows _ rest (takes_then _ _ (after_blanks x.rest) d.0 rest (dots_take x.rest d.0 d.1) (takes_then _ _ (after_blanks d.0) y.rest rest py.takes (pp.follows _ rest last)))))));
      fits = fits_quantifying n scope all c.0 x.tree y.tree p.tree k.1 k.2 px.fits py.fits pp.fits;
    }))))

-- ---- parentheses

spells_operated : (o : Operator) (x y : Tree) (text rest : List ℕ) → Takes (Between (operator_text o) (Spells x) (Spells y)) text rest → Takes (Spells (operated o x y)) text rest
spells_operated operator.Add x y text rest h = h
spells_operated operator.Subtract x y text rest h = h
spells_operated operator.Multiply x y text rest h = h
spells_operated operator.Divide x y text rest h = h
spells_operated operator.Remainder x y text rest h = h
spells_operated operator.Equal x y text rest h = h
spells_operated operator.Less x y text rest h = h
spells_operated operator.LessOrEqual x y text rest h = h
spells_operated operator.And x y text rest h = h
spells_operated operator.Or x y text rest h = h
spells_operated operator.Implies x y text rest h = h
spells_operated operator.Iff x y text rest h = h

-- the front text begins with the parenthesis, and the text stands after it and blanks
joined_is : (r : Reader) (n : ℕ) → IsReader r n → (scope front text : List ℕ) (found : Read) → Takes (Token (codes "(")) front text → joined r scope (after_blanks text) ≡ Some found → Reads (suc n) scope front found
unfolding joined second
joined_is r n h scope front text found paren e =
    let P : Type 0 = Reads (suc n) scope front found in
    let b = bind_some (r scope (after_blanks text)) _ found e in
    let x : Read = b.0 in
    let c = bind_some (after_operator x.rest) _ found b.2 in
    let o : Signed = c.0 in
    let d = bind_some (of_sort (part_sort o.operator) x) _ found c.2 in
    let left : Read = d.0 in
    let px = of_sort_is n scope (part_sort o.operator) (after_blanks text) x left (h.is scope (after_blanks text) x b.1) d.1 in
    let g = if_some _ x left d.1 in
    let sign : Takes (Token (operator_text o.operator)) (after_blanks left.rest) o.rest = subst (λ (q : Read). Takes (Token (operator_text o.operator)) (after_blanks q.rest) o.rest) g.1 (operator_takes (after_blanks x.rest) o c.1) in
    then_part r n h P scope (part_sort o.operator) o.rest _ found d.2 (λ y py e1.
    closed_is (operated o.operator left.tree y.tree) (whole_sort o.operator) y.rest found (Reads (suc n) scope front) e1 (λ rest last.
    record {
      takes = spells_operated o.operator left.tree y.tree front rest (takes_then _ _ front text rest paren (takes_then _ _ (after_blanks text) left.rest rest px.takes
          (takes_then _ _ (after_blanks left.rest) o.rest rest sign (takes_then _ _ (after_blanks o.rest) y.rest rest py.takes last))));
      fits = fits_operated n scope o.operator left.tree y.tree px.fits py.fits;
    }))

negation_is : (r : Reader) (n : ℕ) → IsReader r n → (scope front text : List ℕ) (found : Read) → Takes (Token (codes "(")) front text → run_of (after_blanks text) ≡ codes "not" → negation r scope (after_run (after_blanks text)) ≡ Some found → Reads (suc n) scope front found
unfolding negation
negation_is r n h scope front text found paren is e =
    let P : Type 0 = Reads (suc n) scope front found in
    let inside : List ℕ = after_blanks text in
    let not_takes = run_takes inside (codes "not") is (omega arith) in
    then_part r n h P scope sort.Formula (after_run inside) _ found e (λ p pp e1.
    closed_is (Not p.tree) sort.Formula p.rest found (Reads (suc n) scope front) e1 (λ rest last.
    record {
      takes = takes_then _ _ front text rest paren (takes_then _ _ inside (after_run inside) rest not_takes (takes_then _ _ (after_blanks (after_run inside)) p.rest rest pp.takes last));
      fits = fits_not n scope p.tree pp.fits;
    }))

grouped_is : (r : Reader) (n : ℕ) → IsReader r n → (scope front text : List ℕ) (found : Read) → Takes (Token (codes "(")) front text → grouped r scope (after_blanks text) ≡ Some found → Reads (suc n) scope front found
unfolding grouped
grouped_is r n h scope front text found paren e =
    chosen (Reads (suc n) scope front found) (is_word (run_of (after_blanks text)) (codes "not")) (negation r scope (after_run (after_blanks text))) (joined r scope (after_blanks text)) (Some found) e
    (λ is e1. negation_is r n h scope front text found paren (word_is (run_of (after_blanks text)) (codes "not") is) e1)
    (λ is e1. joined_is r n h scope front text found paren e1)

-- ---- literals and variables

takes_as : (X : Form) (token text rest : List ℕ) → Takes (Token token) text rest → X token → Takes X text rest
takes_as X token text rest h is = record { front = h.front; whole = h.whole; is = subst X (sym h.is) is; apart = h.apart; filled = h.filled }

fits_literal : (n : ℕ) (scope : List ℕ) (z : ℤ) → FitsSigned w64 z → Fits (suc n) scope sort.Int (Literal z)
fits_literal n scope z h = record { sort = refl; numbers = h; within = λ k e. absurd cc; shallow = omega arith }

number_part_is : (n : ℕ) (scope : List ℕ) (o : Option ℤ) (text rest : List ℕ) (found : Read) → ((z : ℤ) → o ≡ Some z → Takes (IsLiteral z) text rest × FitsSigned w64 z) → number_part o rest ≡ Some found → Reads (suc n) scope text found
number_part_is n scope None text rest found h e = absurd cc
number_part_is n scope (Some z) text rest found h e =
    let t = h z refl in
    subst (Reads (suc n) scope text) (some_is (read_as (Literal z) sort.Int rest) found e) (record { takes = t.0; fits = fits_literal n scope z t.1 })

pub variable_has_sort : (v : Var) → meaning (variable_sort v) ≡ sort_of v
variable_has_sort (var.Entry x) = refl
variable_has_sort (var.Now x) = refl
variable_has_sort (var.After x j) = refl
variable_has_sort var.MemEntry = refl
variable_has_sort var.Mem = refl
variable_has_sort (var.MemAfter j) = refl
variable_has_sort (var.In j) = refl
variable_has_sort (var.SlotHigh j) = refl
variable_has_sort (var.SlotLow j) = refl
variable_has_sort (var.Any j) = refl
variable_has_sort (var.Bound j) = refl

fits_variable : (n : ℕ) (scope : List ℕ) (v : Var) → IsNumbered v → HasNameNumber v → Within scope (Variable v) → Fits (suc n) scope (variable_sort v) (Variable v)
fits_variable n scope v low high within = record { sort = (variable_has_sort v, low); numbers = high; within = within; shallow = omega arith }

in_scope_is : (n : ℕ) (scope : List ℕ) (v : Var) (text rest : List ℕ) (found : Read) → IsNumbered v → HasNameNumber v → Takes (Token (variable_text v)) text rest → in_scope scope v rest ≡ Some found → Reads (suc n) scope text found
in_scope_is n scope (var.Bound j) text rest found low high t e =
    let g = if_some (list_any (λ i. i == j) scope) (read_as (Variable (var.Bound j)) sort.Int rest) found e in
    subst (Reads (suc n) scope text) g.1
    (record { takes = t; fits = fits_variable n scope (var.Bound j) low high (λ k h. subst (λ i. list_any (λ m. m == i) scope ≡ true) (sym (eqb-true k j h)) g.0) })
in_scope_is n scope (var.Entry x) text rest found low high t e = subst (Reads (suc n) scope text) (some_is (read_as (Variable (var.Entry x)) (variable_sort (var.Entry x)) rest) found e) (record { takes = t; fits = fits_variable n scope (var.Entry x) low high (λ k h. absurd cc) })
in_scope_is n scope (var.Now x) text rest found low high t e = subst (Reads (suc n) scope text) (some_is (read_as (Variable (var.Now x)) (variable_sort (var.Now x)) rest) found e) (record { takes = t; fits = fits_variable n scope (var.Now x) low high (λ k h. absurd cc) })
in_scope_is n scope (var.After x j) text rest found low high t e = subst (Reads (suc n) scope text) (some_is (read_as (Variable (var.After x j)) (variable_sort (var.After x j)) rest) found e) (record { takes = t; fits = fits_variable n scope (var.After x j) low high (λ k h. absurd cc) })
in_scope_is n scope var.MemEntry text rest found low high t e = subst (Reads (suc n) scope text) (some_is (read_as (Variable var.MemEntry) (variable_sort var.MemEntry) rest) found e) (record { takes = t; fits = fits_variable n scope var.MemEntry low high (λ k h. absurd cc) })
in_scope_is n scope var.Mem text rest found low high t e = subst (Reads (suc n) scope text) (some_is (read_as (Variable var.Mem) (variable_sort var.Mem) rest) found e) (record { takes = t; fits = fits_variable n scope var.Mem low high (λ k h. absurd cc) })
in_scope_is n scope (var.MemAfter j) text rest found low high t e = subst (Reads (suc n) scope text) (some_is (read_as (Variable (var.MemAfter j)) (variable_sort (var.MemAfter j)) rest) found e) (record { takes = t; fits = fits_variable n scope (var.MemAfter j) low high (λ k h. absurd cc) })
in_scope_is n scope (var.In j) text rest found low high t e = subst (Reads (suc n) scope text) (some_is (read_as (Variable (var.In j)) (variable_sort (var.In j)) rest) found e) (record { takes = t; fits = fits_variable n scope (var.In j) low high (λ k h. absurd cc) })
in_scope_is n scope (var.SlotHigh j) text rest found low high t e = subst (Reads (suc n) scope text) (some_is (read_as (Variable (var.SlotHigh j)) (variable_sort (var.SlotHigh j)) rest) found e) (record { takes = t; fits = fits_variable n scope (var.SlotHigh j) low high (λ k h. absurd cc) })
in_scope_is n scope (var.SlotLow j) text rest found low high t e = subst (Reads (suc n) scope text) (some_is (read_as (Variable (var.SlotLow j)) (variable_sort (var.SlotLow j)) rest) found e) (record { takes = t; fits = fits_variable n scope (var.SlotLow j) low high (λ k h. absurd cc) })
in_scope_is n scope (var.Any j) text rest found low high t e = subst (Reads (suc n) scope text) (some_is (read_as (Variable (var.Any j)) (variable_sort (var.Any j)) rest) found e) (record { takes = t; fits = fits_variable n scope (var.Any j) low high (λ k h. absurd cc) })

variable_part_is : (n : ℕ) (scope run text rest : List ℕ) (found : Read) → Takes (Token run) text rest → variable_part scope run rest ≡ Some found → Reads (suc n) scope text found
unfolding variable_part
variable_part_is n scope run text rest found t e =
    let b = bind_some (variable_of run) (λ v. in_scope scope v rest) found e in
    let v = variable_is run b.0 b.1 in
    in_scope_is n scope b.0 text rest found v.numbered v.small (takes_as (Token (variable_text b.0)) run text rest t v.is) b.2

plain_is : (n : ℕ) (scope run text rest : List ℕ) (found : Read) → Takes (Token run) text rest → plain scope run rest ≡ Some found → Reads (suc n) scope text found
unfolding plain
plain_is n scope [] text rest found t e = absurd cc
plain_is n scope (first ∷ run) text rest found t e =
    chosen (Reads (suc n) scope text found) (is_ascii_digit first) (number_part (literal (first ∷ run)) rest) (variable_part scope (first ∷ run) rest) (Some found) e
    (λ h e1. number_part_is n scope (literal (first ∷ run)) text rest found (λ z is. let l = literal_is (first ∷ run) z is in (takes_as (IsLiteral z) (first ∷ run) text rest t l.is, l.fits)) e1)
    (λ h e1. variable_part_is n scope (first ∷ run) text rest found t e1)

pub negative_filled : (run : List ℕ) (z : ℤ) → negative_literal run ≡ Some z → 0 < length run
unfolding negative_literal
negative_filled [] z e = absurd cc
negative_filled (first ∷ run) z e = omega arith

negative_takes : (text : List ℕ) (z : ℤ) → negative_literal (run_of text) ≡ Some z → Takes (IsLiteral z) (45 ∷ text) (after_run text) × FitsSigned w64 z
negative_takes text z e =
    let l = negative_is (run_of text) z e in
    let some = negative_filled (run_of text) z e in (
      record {
        front = 45 ∷ run_of text;
        whole = ap (λ w. 45 ∷ w) (parts_of is_run text);
        is = l.is;
        apart = λ ends. after_run_apart text;
        filled = omega arith;
      },
      l.fits,
    )

-- ---- a term by its first byte

by_word : (r : Reader) (n : ℕ) → IsReader r n → (scope front : List ℕ) (o : Option Word) (found : Read) → word_of (run_of front) ≡ o → 0 < length (run_of front) → worded r scope o (run_of front) (after_run front) ≡ Some found → Reads (suc n) scope front found
by_word r n h scope front None found is some e = plain_is n scope (run_of front) front (after_run front) found (run_takes front (run_of front) refl some) e
by_word r n h scope front (Some word.True) found is some e = subst (Reads (suc n) scope front) (some_is (read_as (Truth true) sort.Formula (after_run front)) found e) (record { takes = (run_takes front (word_text word.True) (word_of_is (run_of front) word.True is) (word_filled word.True)); fits = record { sort = refl; numbers = tt; within = λ k u. absurd cc; shallow = omega arith } })
by_word r n h scope front (Some word.False) found is some e = subst (Reads (suc n) scope front) (some_is (read_as (Truth false) sort.Formula (after_run front)) found e) (record { takes = (run_takes front (word_text word.False) (word_of_is (run_of front) word.False is) (word_filled word.False)); fits = record { sort = refl; numbers = tt; within = λ k u. absurd cc; shallow = omega arith } })
by_word r n h scope front (Some word.And) found is some e = pair_is r n h scope pairs.And front (after_run front) found (run_takes front (word_text word.And) (word_of_is (run_of front) word.And is) (word_filled word.And)) e
by_word r n h scope front (Some word.Or) found is some e = pair_is r n h scope pairs.Or front (after_run front) found (run_takes front (word_text word.Or) (word_of_is (run_of front) word.Or is) (word_filled word.Or)) e
by_word r n h scope front (Some word.Xor) found is some e = pair_is r n h scope pairs.Xor front (after_run front) found (run_takes front (word_text word.Xor) (word_of_is (run_of front) word.Xor is) (word_filled word.Xor)) e
by_word r n h scope front (Some word.Parity) found is some e = parity_is r n h scope front (after_run front) found (run_takes front (word_text word.Parity) (word_of_is (run_of front) word.Parity is) (word_filled word.Parity)) e
by_word r n h scope front (Some word.Bit) found is some e = bit_is r n h scope front (after_run front) found (run_takes front (word_text word.Bit) (word_of_is (run_of front) word.Bit is) (word_filled word.Bit)) e
by_word r n h scope front (Some word.Flags) found is some e = flags_is r n h scope front (after_run front) found (run_takes front (word_text word.Flags) (word_of_is (run_of front) word.Flags is) (word_filled word.Flags)) e
by_word r n h scope front (Some word.If) found is some e = choice_is r n h scope front (after_run front) found (run_takes front (word_text word.If) (word_of_is (run_of front) word.If is) (word_filled word.If)) e
by_word r n h scope front (Some word.Element) found is some e = element_is r n h scope front (after_run front) found (run_takes front (word_text word.Element) (word_of_is (run_of front) word.Element is) (word_filled word.Element)) e
by_word r n h scope front (Some word.Update) found is some e = update_is r n h scope front (after_run front) found (run_takes front (word_text word.Update) (word_of_is (run_of front) word.Update is) (word_filled word.Update)) e
by_word r n h scope front (Some word.Total) found is some e = total_is r n h scope front (after_run front) found (run_takes front (word_text word.Total) (word_of_is (run_of front) word.Total is) (word_filled word.Total)) e
by_word r n h scope front (Some word.ForAll) found is some e = quantifier_is r n h scope true front (after_run front) found (run_takes front (word_text word.ForAll) (word_of_is (run_of front) word.ForAll is) (word_filled word.ForAll)) e
by_word r n h scope front (Some word.ForSome) found is some e = quantifier_is r n h scope false front (after_run front) found (run_takes front (word_text word.ForSome) (word_of_is (run_of front) word.ForSome is) (word_filled word.ForSome)) e

named_is : (r : Reader) (n : ℕ) → IsReader r n → (scope front : List ℕ) (found : Read) → 0 < length (run_of front) → named r scope (run_of front) (after_run front) ≡ Some found → Reads (suc n) scope front found
unfolding named
named_is r n h scope front found some e = by_word r n h scope front (word_of (run_of front)) found refl some e

-- a run that is read isn't empty
pub named_filled : (r : Reader) (scope run rest : List ℕ) (found : Read) → named r scope run rest ≡ Some found → 0 < length run
unfolding named word_of plain
named_filled r scope [] rest found e = absurd cc
named_filled r scope (first ∷ run) rest found e = omega arith

paren_takes : (first : ℕ) (text : List ℕ) → (first == 40) ≡ true → Takes (Token (codes "(")) (first ∷ text) text
paren_takes first text e = record { front = codes "("; whole = ap (λ c. c ∷ text) (eqb-true first 40 e); is = refl; apart = λ ends. absurd cc; filled = omega arith }

pub form_is : (r : Reader) (n : ℕ) → IsReader r n → (scope text : List ℕ) (found : Read) → form r scope text ≡ Some found → Reads (suc n) scope text found
unfolding form
form_is r n h scope [] found e = absurd cc
form_is r n h scope (first ∷ text) found e =
    let P : Type 0 = Reads (suc n) scope (first ∷ text) found in
    chosen P (first == 40) (grouped r scope (after_blanks text)) _ (Some found) e (λ is e1. grouped_is r n h scope (first ∷ text) text found (paren_takes first text is) e1)
    (λ other e1. chosen P (first == 45) (number_part (negative_literal (run_of text)) (after_run text)) (named r scope (run_of (first ∷ text)) (after_run (first ∷ text))) (Some found) e1
    (λ is e2. subst (λ c. Reads (suc n) scope (c ∷ text) found) (sym (eqb-true first 45 is)) (number_part_is n scope (negative_literal (run_of text)) (45 ∷ text) (after_run text) found (negative_takes text) e2))
    (λ is e2. named_is r n h scope (first ∷ text) found (named_filled r scope (run_of (first ∷ text)) (after_run (first ∷ text)) found e2) e2))
