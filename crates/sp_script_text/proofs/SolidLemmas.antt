-- Texts of terms and of arguments have no blanks at their ends.
use Rattle.std.proofs.Common.{◌≡◌, ℕ, ℤ, ◌<◌, Bool, true, false, List, [], ◌∷◌, ◌++◌, length, Some, refl, sym, ap, subst, ◌∙◌, arith, length-append, inl, inr}
use Rattle.std.specs.Prelude.{reverse, codes, decimal}
use Rattle.std.specs.List.{list_all}
use Rattle.std.specs.Str.Parse.{IsNumeral}
use Rattle.std.proofs.lemmas.Bool.{and_parts, and_from}
use Rattle.std.proofs.lemmas.List.{reverse-append, length-reverse}
use Rattle.sp_term.specs.Tree.{Tree, Literal, Truth, Variable, Add, Subtract, Multiply, Divide, Remainder, ByteAnd, ByteOr, ByteXor, Parity, Bit, Psw, If, Element, Update, Total, Equal, Less, LessOrEqual, Not, And, Or, Implies, Iff, ForAll, ForSome}
use Rattle.sp_term.specs.Sorts.{Int}
use Rattle.sp_fdl.specs.Printed.{variable_text}
use Rattle.sp_fdl.specs.Text.{is_blank, is_run, Form, Token, Then, Between, Call, Last, Cell, Quantified, IsLiteral, Spells, HasNumbers, StandsFor}
use Rattle.sp_fdl.specs.code.Reading.{read_at, whole, read_of}
use Rattle.sp_fdl.proofs.TextLemmas.{stops, bind_some}
use Rattle.sp_fdl.proofs.ValueLemmas.{digits_run, decimal_digits}
use Rattle.sp_fdl.proofs.NameLemmas.{variable_run, BeginsLetter, variable_first}
use Rattle.sp_fdl.proofs.FormAgainLemmas.{reads}
use Rattle.sp_fdl.proofs.StepReadLemmas.{opens_solid}
use Rattle.sp_fdl.proofs.StandsLemmas.{stands_read}
use Rattle.sp_script_text.specs.StepTexts.{Spaced, Hypothesis, Number}
use Rattle.sp_script_text.specs.code.Words.{is_solid}
use Rattle.sp_script_text.proofs.WordLemmas.{Solid, stops_more, turned, solid_stops}

-- ---- the last byte isn't a blank

abbrev pub ends_solid : List ℕ → Bool
ends_solid [] = false
ends_solid (byte ∷ []) = is_solid byte
ends_solid (byte ∷ next ∷ bytes) = ends_solid (next ∷ bytes)

pub ends_append : (front back : List ℕ) → ends_solid back ≡ true → ends_solid (front ++ back) ≡ true
ends_append [] back h = h
ends_append (first ∷ []) [] h = absurd cc
ends_append (first ∷ []) (byte ∷ back) h = h
ends_append (first ∷ next ∷ front) back h = ends_append (next ∷ front) back h

pub run_solid : (byte : ℕ) → is_run byte ≡ true → is_solid byte ≡ true
run_solid byte h = grind arith

pub ends_run : (run : List ℕ) → 0 < length run → list_all is_run run ≡ true → ends_solid run ≡ true
ends_run [] some all = absurd (omega arith)
ends_run (byte ∷ []) some all = run_solid byte (and_parts (is_run byte) true all).0
ends_run (byte ∷ next ∷ run) some all = ends_run (next ∷ run) (omega arith) (and_parts (is_run byte) (list_all is_run (next ∷ run)) all).1

pub all_solid : (run : List ℕ) → list_all is_run run ≡ true → list_all is_solid run ≡ true
all_solid [] all = refl
all_solid (byte ∷ run) all =
    let p = and_parts (is_run byte) (list_all is_run run) all in
    and_from (is_solid byte) (list_all is_solid run) (run_solid byte p.0) (all_solid run p.1)

pub ends_filled : (text : List ℕ) → ends_solid text ≡ true → 0 < length text
ends_filled [] h = absurd cc
ends_filled (byte ∷ text) h = omega arith

pub ends_back : (text : List ℕ) → ends_solid text ≡ true → stops is_blank (reverse text) ≡ true
ends_back [] h = absurd cc
ends_back (byte ∷ []) h = solid_stops byte [] h
ends_back (byte ∷ next ∷ text) h =
    subst (λ w. stops is_blank w ≡ true) (sym (reverse-append (byte ∷ []) (next ∷ text)))
    (stops_more is_blank (reverse (next ∷ text)) (byte ∷ []) (omega (arith, length-reverse (next ∷ text))) (ends_back (next ∷ text) h))

-- ---- forms whose texts end so

abbrev pub Ends : Form → Type 0
Ends X = (text : List ℕ) → X text → ends_solid text ≡ true

ends_then : (X Y : Form) → Ends Y → Ends (Then X Y)
ends_then X Y ends text h = ap ends_solid h.whole ∙ ends_append h.front (h.blanks ++ h.back) (ends_append h.blanks h.back (ends h.back h.in_back))

ends_close : Ends (Token (codes ")"))
ends_close text e = ap ends_solid e

ends_last : (X : Form) → Ends (Last X)
ends_last X = ends_then X (Token (codes ")")) ends_close

ends_between : (operator : List ℕ) (X Y : Form) → Ends (Between operator X Y)
ends_between operator X Y = ends_then _ _ (ends_then _ _ (ends_then _ _ (ends_last Y)))

ends_call : (name : List ℕ) (R : Form) → Ends R → Ends (Call name R)
ends_call name R ends = ends_then _ _ (ends_then _ _ ends)

ends_cell : (X R : Form) → Ends R → Ends (Cell X R)
ends_cell X R ends = ends_then _ _ (ends_then _ _ (ends_then _ _ ends))

ends_quantified : (name : List ℕ) (k : ℕ) (X Y P : Form) → Ends (Quantified name k X Y P)
ends_quantified name k X Y P = ends_call name _ (ends_then _ _ (ends_then _ _ (ends_then _ _ (ends_then _ _ (ends_then _ _ (ends_then _ _ (ends_last P)))))))

numeral_ends : (digits : List ℕ) → IsNumeral 10 digits → ends_solid digits ≡ true
numeral_ends digits h = ends_run digits h.0 (digits_run digits h.1)

ends_literal : (n : ℤ) → Ends (IsLiteral n)
ends_literal n text (inl h) = numeral_ends text h.0
ends_literal n text (inr h) = ap ends_solid h.1 ∙ ends_append (45 ∷ []) h.0 (numeral_ends h.0 h.2)

filled_variable : (run : List ℕ) → BeginsLetter run → 0 < length run
filled_variable run h = subst (λ w. 0 < length w) (sym h.whole) (omega arith)

ends_term : (t : Tree) → HasNumbers t → Ends (Spells t)
ends_term (Literal n) h = ends_literal n
ends_term (Truth true) h = λ text e. ap ends_solid e
ends_term (Truth false) h = λ text e. ap ends_solid e
ends_term (Variable v) h = λ text e. ap ends_solid e ∙ ends_run (variable_text v) (filled_variable (variable_text v) (variable_first v)) (variable_run v h)
ends_term (Add x y) h = ends_between _ _ _
ends_term (Subtract x y) h = ends_between _ _ _
ends_term (Multiply x y) h = ends_between _ _ _
ends_term (Divide x y) h = ends_between _ _ _
ends_term (Remainder x y) h = ends_between _ _ _
ends_term (ByteAnd x y) h = ends_call _ _ (ends_then _ _ (ends_then _ _ (ends_last _)))
ends_term (ByteOr x y) h = ends_call _ _ (ends_then _ _ (ends_then _ _ (ends_last _)))
ends_term (ByteXor x y) h = ends_call _ _ (ends_then _ _ (ends_then _ _ (ends_last _)))
ends_term (Parity x) h = ends_call _ _ (ends_last _)
ends_term (Bit k x) h = ends_call _ _ (ends_then _ _ (ends_then _ _ (ends_last _)))
ends_term (Psw s z ac p cy) h = ends_call _ _ (ends_then _ _ (ends_then _ _ (ends_then _ _ (ends_then _ _ (ends_then _ _ (ends_then _ _ (ends_then _ _ (ends_then _ _ (ends_last _)))))))))
ends_term (If p x y) h = ends_call _ _ (ends_then _ _ (ends_then _ _ (ends_then _ _ (ends_then _ _ (ends_last _)))))
ends_term (Element m x) h = ends_call _ _ (ends_then _ _ (ends_then _ _ (ends_cell _ _ ends_close)))
ends_term (Update m x y) h = ends_call _ _ (ends_then _ _ (ends_then _ _ (ends_cell _ _ (ends_then _ _ (ends_last _)))))
ends_term (Total m x y) h = ends_call _ _ (ends_then _ _ (ends_then _ _ (ends_cell _ _ (ends_then _ _ (ends_cell _ _ ends_close)))))
ends_term (Equal x y) h = ends_between _ _ _
ends_term (Less x y) h = ends_between _ _ _
ends_term (LessOrEqual x y) h = ends_between _ _ _
ends_term (Not p) h = ends_then _ _ (ends_then _ _ (ends_last _))
ends_term (And p q) h = ends_between _ _ _
ends_term (Or p q) h = ends_between _ _ _
ends_term (Implies p q) h = ends_between _ _ _
ends_term (Iff p q) h = ends_between _ _ _
ends_term (ForAll k x y p) h = ends_quantified _ _ _ _ _
ends_term (ForSome k x y p) h = ends_quantified _ _ _ _ _

-- ---- solid texts

abbrev pub IsSolid : Form → Type 0
IsSolid X = (text : List ℕ) → X text → Solid text

pub solid_by : (text : List ℕ) → stops is_blank text ≡ true → ends_solid text ≡ true → Solid text
solid_by text begins ends = record { begins = begins; ends = ends_back text ends; filled = ends_filled text ends }

begins_read : (text : List ℕ) (t : Tree) → read_of text ≡ Some t → stops is_blank text ≡ true
unfolding read_of
begins_read text t e =
    let b = bind_some (read_at 2000 [] text) (λ found. whole found.tree found.rest) t e in
    opens_solid text ((reads 2000).opening [] text b.0 b.1)

pub solid_text : (text : List ℕ) (t : Tree) → StandsFor text t → Solid text
solid_text text t h = solid_by text (begins_read text t (stands_read text t h)) (ends_term t h.readable.numbers text h.spells)

run_begins : (run : List ℕ) → list_all is_run run ≡ true → stops is_blank run ≡ true
run_begins [] all = refl
run_begins (byte ∷ run) all = solid_stops byte run (run_solid byte (and_parts (is_run byte) (list_all is_run run) all).0)

pub solid_run : (run : List ℕ) → 0 < length run → list_all is_run run ≡ true → Solid run
solid_run run some all = solid_by run (run_begins run all) (ends_run run some all)

pub hypothesis_run : (k : ℕ) (text : List ℕ) → Hypothesis k text → (list_all is_run text ≡ true) × (0 < length text)
hypothesis_run k text h =
    let all : list_all is_run (104 ∷ decimal k) ≡ true = digits_run (decimal k) (decimal_digits k h.2) in
    (subst (λ w. list_all is_run w ≡ true) (sym h.0) all, subst (λ w. 0 < length w) (sym h.0) (omega arith))

pub solid_hypothesis : (k : ℕ) → IsSolid (Hypothesis k)
solid_hypothesis k text h = let r = hypothesis_run k text h in solid_run text r.1 r.0

pub number_stands : (n : ℤ) (text : List ℕ) → Number n text → StandsFor text (Literal n)
number_stands n text h = record {
  readable = record { term = (Int, refl); numbers = h.1; closed = search arith; shallow = omega arith };
  spells = h.0;
}

pub solid_number : (n : ℤ) → IsSolid (Number n)
solid_number n text h = solid_text text (Literal n) (number_stands n text h)

digits_solid : (digits : List ℕ) → IsNumeral 10 digits → list_all is_solid digits ≡ true
digits_solid digits h = all_solid digits (digits_run digits h.1)

pub number_word : (n : ℤ) (text : List ℕ) → Number n text → list_all is_solid text ≡ true
number_word n text h = by h.0
  where
    by : IsLiteral n text → list_all is_solid text ≡ true
    by (inl g) = digits_solid text g.0
    by (inr g) = ap (list_all is_solid) g.1 ∙ digits_solid g.0 g.2

-- a text of two forms with blanks between them
pub solid_spaced : (X Y : Form) → IsSolid X → IsSolid Y → IsSolid (Spaced X Y)
solid_spaced X Y one next text h =
    let f = one h.front h.in_front in
    let b = next h.back h.in_back in
    subst Solid (sym h.whole) (record {
      begins = stops_more is_blank h.front (h.blanks ++ h.back) f.filled f.begins;
      ends = subst (λ w. stops is_blank w ≡ true) (sym (turned h.front h.blanks h.back)) (stops_more is_blank (reverse h.back) _ (omega (arith, length-reverse h.back, b.filled)) b.ends);
      filled = omega (arith, length-append h.front (h.blanks ++ h.back), f.filled);
    })
