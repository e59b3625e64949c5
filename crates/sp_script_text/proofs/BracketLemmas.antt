-- The parentheses of a term close one another, so the end of a memory is found by counting them.
use Rattle.std.proofs.Common.{◌≡◌, ℕ, ℤ, ◌+◌, ◌-◌, ◌≤◌, Bool, true, false, cond, List, [], ◌∷◌, ◌++◌, Some, refl, ap, ◌∙◌, arith, append_assoc, inl, inr}
use Rattle.std.specs.Prelude.{codes, decimal, nat_le, ◌==◌}
use Rattle.std.specs.List.{list_all}
use Rattle.std.specs.Str.Parse.{IsNumeral}
use Rattle.std.proofs.lemmas.Bool.{and_parts}
use Rattle.sp_term.specs.Tree.{Tree, Literal, Truth, Variable, Add, Subtract, Multiply, Divide, Remainder, ByteAnd, ByteOr, ByteXor, Parity, Bit, Psw, If, Element, Update, Total, Equal, Less, LessOrEqual, Not, And, Or, Implies, Iff, ForAll, ForSome}
use Rattle.sp_term.specs.Sorts.{Sort, Int, Formula, Memory, HasSort}
use Rattle.sp_fdl.specs.Printed.{variable_text}
use Rattle.sp_fdl.specs.Text.{is_blank, is_run, Form, Token, Then, Between, Call, More, Last, Cell, Quantified, IsLiteral, Spells, HasNumbers}
use Rattle.sp_fdl.proofs.ValueLemmas.{digits_run, decimal_digits}
use Rattle.sp_fdl.proofs.NameLemmas.{variable_run}
use Rattle.sp_script_text.specs.code.Arguments.{past_close}

-- ---- bytes that are no parentheses

abbrev is_plain : ℕ → Bool
is_plain byte = cond (byte == 40) false (cond (byte == 41) false true)

plain_one : (byte : ℕ) → is_plain byte ≡ true → (level : ℕ) (rest : List ℕ) → past_close level (byte ∷ rest) ≡ past_close level rest
plain_one byte h level rest = by (byte == 40) refl (byte == 41) refl h
  where
    by : (a : Bool) → byte == 40 ≡ a → (b : Bool) → byte == 41 ≡ b → cond a false (cond b false true) ≡ true → past_close level (byte ∷ rest) ≡ past_close level rest
    by true p b q e = absurd cc
    by false p true q e = absurd cc
    by false p false q e = rw (p, q) refl

plain_all : (bytes : List ℕ) → list_all is_plain bytes ≡ true → (level : ℕ) (rest : List ℕ) → past_close level (bytes ++ rest) ≡ past_close level rest
plain_all [] h level rest = refl
plain_all (byte ∷ bytes) h level rest =
    let p = and_parts (is_plain byte) (list_all is_plain bytes) h in
    plain_one byte p.0 level (bytes ++ rest) ∙ plain_all bytes p.1 level rest

run_plain : (byte : ℕ) → is_run byte ≡ true → is_plain byte ≡ true
run_plain byte h = grind arith

blank_plain : (byte : ℕ) → is_blank byte ≡ true → is_plain byte ≡ true
blank_plain byte h = grind arith

all_plain : (test : ℕ → Bool) → ((byte : ℕ) → test byte ≡ true → is_plain byte ≡ true) → (bytes : List ℕ) → list_all test bytes ≡ true → (level : ℕ) (rest : List ℕ) → past_close level (bytes ++ rest) ≡ past_close level rest
all_plain test plain [] h level rest = refl
all_plain test plain (byte ∷ bytes) h level rest =
    let p = and_parts (test byte) (list_all test bytes) h in
    plain_one byte (plain byte p.0) level (bytes ++ rest) ∙ all_plain test plain bytes p.1 level rest

pub blanks_skipped : (blanks : List ℕ) → list_all is_blank blanks ≡ true → (level : ℕ) (rest : List ℕ) → past_close level (blanks ++ rest) ≡ past_close level rest
blanks_skipped = all_plain is_blank blank_plain

-- ---- forms whose parentheses close one another, and forms with one more that closes

abbrev Balanced : Form → Type 0
Balanced X = (text : List ℕ) → X text → (level : ℕ) → 1 ≤ level → (rest : List ℕ) → past_close level (text ++ rest) ≡ past_close level rest

abbrev Closes : Form → Type 0
Closes X = (text : List ℕ) → X text → (level : ℕ) → 1 ≤ level → (rest : List ℕ) → past_close (level + 1) (text ++ rest) ≡ past_close level rest

balanced_token : (token : List ℕ) → list_all is_plain token ≡ true → Balanced (Token token)
balanced_token token h text e level some rest = ap (λ w. past_close level (w ++ rest)) e ∙ plain_all token h level rest

balanced_run : (token : List ℕ) → list_all is_run token ≡ true → Balanced (Token token)
balanced_run token h text e level some rest = ap (λ w. past_close level (w ++ rest)) e ∙ all_plain is_run run_plain token h level rest

moved : (a b c rest : List ℕ) → (a ++ (b ++ c)) ++ rest ≡ a ++ (b ++ (c ++ rest))
moved a b c rest = simp append_assoc

-- what follows the front of a form
module _ (X Y : Form) (text : List ℕ) (h : Then X Y text) (rest : List ℕ) where
  parts : (level : ℕ) → past_close level (text ++ rest) ≡ past_close level (h.front ++ (h.blanks ++ (h.back ++ rest)))
  parts level = ap (λ w. past_close level (w ++ rest)) h.whole ∙ ap (past_close level) (moved h.front h.blanks h.back rest)

  skipped : (level : ℕ) → past_close level (h.blanks ++ (h.back ++ rest)) ≡ past_close level (h.back ++ rest)
  skipped level = all_plain is_blank blank_plain h.blanks h.blank level (h.back ++ rest)

balanced_then : (X Y : Form) → Balanced X → Balanced Y → Balanced (Then X Y)
balanced_then X Y one next text h level some rest =
    parts X Y text h rest level ∙ one h.front h.in_front level some (h.blanks ++ (h.back ++ rest)) ∙ skipped X Y text h rest level ∙ next h.back h.in_back level some rest

above_one : (level : ℕ) → 1 ≤ level → 1 ≤ level + 1
above_one level h = omega arith

closes_then : (X Y : Form) → Balanced X → Closes Y → Closes (Then X Y)
closes_then X Y one next text h level some rest =
    parts X Y text h rest (level + 1) ∙ one h.front h.in_front (level + 1) (above_one level some) (h.blanks ++ (h.back ++ rest))
    ∙ skipped X Y text h rest (level + 1) ∙ next h.back h.in_back level some rest

open_one : (level : ℕ) (rest : List ℕ) → past_close level (40 ∷ rest) ≡ past_close (level + 1) rest
open_one level rest = refl

close_one : (level : ℕ) → 1 ≤ level → (rest : List ℕ) → past_close (level + 1) (41 ∷ rest) ≡ past_close level rest
close_one level some rest =
    let more : nat_le (level + 1) 1 ≡ false = grind arith in
    let less : level + 1 - 1 ≡ level = omega arith in
    rw (more, less) refl

closes_close : Closes (Token (codes ")"))
closes_close text e level some rest = ap (λ w. past_close (level + 1) (w ++ rest)) e ∙ close_one level some rest

opened : (Y : Form) → Closes Y → Balanced (Then (Token (codes "(")) Y)
opened Y closes text h level some rest =
    parts (Token (codes "(")) Y text h rest level
    ∙ ap (λ w. past_close level (w ++ (h.blanks ++ (h.back ++ rest)))) h.in_front
    ∙ skipped (Token (codes "(")) Y text h rest (level + 1)
    ∙ closes h.back h.in_back level some rest

closes_last : (X : Form) → Balanced X → Closes (Last X)
closes_last X b = closes_then X (Token (codes ")")) b closes_close

closes_more : (X R : Form) → Balanced X → Closes R → Closes (More X R)
closes_more X R b c = closes_then X _ b (closes_then _ R (balanced_token (codes ",") refl) c)

closes_cell : (X R : Form) → Balanced X → Closes R → Closes (Cell X R)
closes_cell X R b c =
    closes_then _ _ (balanced_token (codes "[") refl) (closes_then X _ b (closes_then _ R (balanced_token (codes "]") refl) c))

closes_comma : (R : Form) → Closes R → Closes (Then (Token (codes ",")) R)
closes_comma R c = closes_then _ R (balanced_token (codes ",") refl) c

between : (operator : List ℕ) (X Y : Form) → list_all is_plain operator ≡ true → Balanced X → Balanced Y → Balanced (Between operator X Y)
between operator X Y h one next = opened _ (closes_then X _ one (closes_then _ _ (balanced_token operator h) (closes_last Y next)))

call : (name : List ℕ) (R : Form) → list_all is_plain name ≡ true → Closes R → Balanced (Call name R)
call name R h c = balanced_then (Token name) _ (balanced_token name h) (opened R c)

quantified : (name : List ℕ) (k : ℕ) (X Y P : Form) → list_all is_plain name ≡ true → k ≤ 4294967295 → Balanced X → Balanced Y → Balanced P → Balanced (Quantified name k X Y P)
quantified name k X Y P h small x y p =
    call name _ h (closes_then _ _ (balanced_run (codes "i" ++ decimal k) (digits_run (decimal k) (decimal_digits k small)))
    (closes_then _ _ (balanced_token (codes ":") refl) (closes_then X _ x (closes_then _ _ (balanced_token (codes "..") refl) (closes_more Y _ y (closes_last P p))))))

digits : (text : List ℕ) → IsNumeral 10 text → list_all is_run text ≡ true
digits text h = digits_run text h.1

literals : (n : ℤ) → Balanced (IsLiteral n)
literals n text (inl h) level some rest = all_plain is_run run_plain text (digits text h.0) level rest
literals n text (inr h) level some rest =
    ap (λ w. past_close level (w ++ rest)) h.1 ∙ all_plain is_run run_plain h.0 (digits h.0 h.2) level rest

low_number : (k : ℕ) → k ≤ 7 → k ≤ 4294967295
low_number k h = omega arith

-- the parentheses of a term close one another
pub balanced : (t : Tree) (s : Sort) → HasSort t s → HasNumbers t → Balanced (Spells t)
balanced (Literal n) s h g = literals n
balanced (Truth true) s h g = balanced_token (codes "true") refl
balanced (Truth false) s h g = balanced_token (codes "false") refl
balanced (Variable v) s h g = balanced_run (variable_text v) (variable_run v g)
balanced (Add x y) s h g = between (codes "+") _ _ refl (balanced x Int h.1 g.0) (balanced y Int h.2 g.1)
balanced (Subtract x y) s h g = between (codes "-") _ _ refl (balanced x Int h.1 g.0) (balanced y Int h.2 g.1)
balanced (Multiply x y) s h g = between (codes "*") _ _ refl (balanced x Int h.1 g.0) (balanced y Int h.2 g.1)
balanced (Divide x y) s h g = between (codes "div") _ _ refl (balanced x Int h.1 g.0) (balanced y Int h.2 g.1)
balanced (Remainder x y) s h g = between (codes "mod") _ _ refl (balanced x Int h.1 g.0) (balanced y Int h.2 g.1)
balanced (ByteAnd x y) s h g = call (codes "band") _ refl (closes_more _ _ (balanced x Int h.1 g.0) (closes_last _ (balanced y Int h.2 g.1)))
balanced (ByteOr x y) s h g = call (codes "bor") _ refl (closes_more _ _ (balanced x Int h.1 g.0) (closes_last _ (balanced y Int h.2 g.1)))
balanced (ByteXor x y) s h g = call (codes "bxor") _ refl (closes_more _ _ (balanced x Int h.1 g.0) (closes_last _ (balanced y Int h.2 g.1)))
balanced (Parity x) s h g = call (codes "par") _ refl (closes_last _ (balanced x Int h.1 g))
balanced (Bit k x) s h g =
    call (codes "bit") _ refl (closes_more _ _ (balanced_run (decimal k) (digits_run (decimal k) (decimal_digits k (low_number k h.1)))) (closes_last _ (balanced x Int h.2 g)))
balanced (Psw f z ac p cy) s h g =
    call (codes "psw") _ refl (closes_more _ _ (balanced f Int h.1 g.0) (closes_more _ _ (balanced z Int h.2 g.1)
    (closes_more _ _ (balanced ac Int h.3 g.2) (closes_more _ _ (balanced p Int h.4 g.3) (closes_last _ (balanced cy Int h.5 g.4))))))
balanced (If p x y) s h g =
    call (codes "if") _ refl (closes_more _ _ (balanced p Formula h.1 g.0) (closes_more _ _ (balanced x Int h.2 g.1) (closes_last _ (balanced y Int h.3 g.2))))
balanced (Element m x) s h g =
    call (codes "element") _ refl (closes_more _ _ (balanced m Memory h.1 g.0) (closes_cell _ _ (balanced x Int h.2 g.1) closes_close))
balanced (Update m x y) s h g = call (codes "update") _ refl (closes_more _ _ (balanced m Memory h.1 g.0) (closes_cell _ _ (balanced x Int h.2 g.1) (closes_comma _ (closes_last _ (balanced y Int h.3 g.2)))))
balanced (Total m x y) s h g =
    call (codes "total") _ refl (closes_more _ _ (balanced m Memory h.1 g.0) (closes_cell _ _ (balanced x Int h.2 g.1) (closes_comma _ (closes_cell _ _ (balanced y Int h.3 g.2) closes_close))))
balanced (Equal x y) s h g = between (codes "=") _ _ refl (balanced x Int h.1 g.0) (balanced y Int h.2 g.1)
balanced (Less x y) s h g = between (codes "<") _ _ refl (balanced x Int h.1 g.0) (balanced y Int h.2 g.1)
balanced (LessOrEqual x y) s h g = between (codes "<=") _ _ refl (balanced x Int h.1 g.0) (balanced y Int h.2 g.1)
balanced (Not p) s h g = opened _ (closes_then _ _ (balanced_token (codes "not") refl) (closes_last _ (balanced p Formula h.1 g)))
balanced (And p q) s h g = between (codes "and") _ _ refl (balanced p Formula h.1 g.0) (balanced q Formula h.2 g.1)
balanced (Or p q) s h g = between (codes "or") _ _ refl (balanced p Formula h.1 g.0) (balanced q Formula h.2 g.1)
balanced (Implies p q) s h g = between (codes "->") _ _ refl (balanced p Formula h.1 g.0) (balanced q Formula h.2 g.1)
balanced (Iff p q) s h g = between (codes "<->") _ _ refl (balanced p Formula h.1 g.0) (balanced q Formula h.2 g.1)
balanced (ForAll k x y p) s h g = quantified (codes "for_all") k _ _ _ refl g.0 (balanced x Int h.2 g.1) (balanced y Int h.3 g.2) (balanced p Formula h.4 g.3)
balanced (ForSome k x y p) s h g = quantified (codes "for_some") k _ _ _ refl g.0 (balanced x Int h.2 g.1) (balanced y Int h.3 g.2) (balanced p Formula h.4 g.3)

-- ---- the end of `update`

-- what closes the first parenthesis
closes_first : (R : Form) → ((text : List ℕ) → R text → (rest : List ℕ) → past_close 1 (text ++ rest) ≡ Some rest) → (text : List ℕ) → Then (Token (codes "(")) R text
    → (rest : List ℕ) → past_close 0 (text ++ rest) ≡ Some rest
closes_first R inner text h rest =
    parts (Token (codes "(")) R text h rest 0
    ∙ ap (λ w. past_close 0 (w ++ (h.blanks ++ (h.back ++ rest)))) h.in_front
    ∙ skipped (Token (codes "(")) R text h rest 1
    ∙ inner h.back h.in_back rest

abbrev ClosesLast : Form → Type 0
ClosesLast R = (text : List ℕ) → R text → (rest : List ℕ) → past_close 1 (text ++ rest) ≡ Some rest

one_low : 1 ≤ 1
one_low = omega arith

last_close : ClosesLast (Token (codes ")"))
last_close text e rest = ap (λ w. past_close 1 (w ++ rest)) e

last_then : (X R : Form) → Balanced X → ClosesLast R → ClosesLast (Then X R)
last_then X R one next text h rest =
    parts X R text h rest 1 ∙ one h.front h.in_front 1 one_low (h.blanks ++ (h.back ++ rest)) ∙ skipped X R text h rest 1 ∙ next h.back h.in_back rest

-- the arguments of `update`, and their parentheses
abbrev pub Updated : Tree → Tree → Tree → Form
Updated m x y = Then (Token (codes "(")) (More (Spells m) (Cell (Spells x) (Then (Token (codes ",")) (Last (Spells y)))))

pub update_closes : (m x y : Tree) (s : Sort) → HasSort (Update m x y) s → HasNumbers (Update m x y) → (text : List ℕ) → Updated m x y text → (rest : List ℕ) → past_close 0 (text ++ rest) ≡ Some rest
update_closes m x y s h g text u rest =
    closes_first _ (last_then _ _ (balanced m Memory h.1 g.0) (last_then _ _ (balanced_token (codes ",") refl)
    (last_then _ _ (balanced_token (codes "[") refl) (last_then _ _ (balanced x Int h.2 g.1) (last_then _ _ (balanced_token (codes "]") refl)
    (last_then _ _ (balanced_token (codes ",") refl) (last_then _ _ (balanced y Int h.3 g.2) last_close))))))) text u rest
