-- Where a memory ends that another term follows.
use Rattle.std.proofs.Common.{◌≡◌, ℕ, ◌+◌, ◌-◌, ◌<◌, Bool, true, false, cond, List, [], ◌∷◌, ◌++◌, length, take, Option, Some, refl, sym, ap, subst, ◌∙◌, arith, length-append, append_assoc}
use Rattle.std.specs.Prelude.{codes, nat_le, ◌==◌}
use Rattle.std.specs.List.{list_all}
use Rattle.std.proofs.lemmas.Bool.{and_parts}
use Rattle.std.proofs.lemmas.List.{take_at}
use Rattle.sp_term.specs.declared.var.Var.{Var}
use Rattle.sp_term.specs.Tree.{Tree, Literal, Truth, Variable, Add, Subtract, Multiply, Divide, Remainder, ByteAnd, ByteOr, ByteXor, Parity, Bit, Psw, If, Element, Update, Total, Equal, Less, LessOrEqual, Not, And, Or, Implies, Iff, ForAll, ForSome}
use Rattle.sp_term.specs.Sorts.{Sort, Int, Memory, HasSort, IsNumbered}
use Rattle.sp_fdl.specs.Printed.{variable_text}
use Rattle.sp_fdl.specs.Text.{is_blank, is_run, begins_run, ends_run, Token, Spells, HasNumbers, HasNameNumber}
use Rattle.sp_fdl.specs.code.Tokens.{◌>>=◌, run_of, after_run}
use Rattle.sp_fdl.specs.code.Names as names
use Rattle.sp_fdl.specs.declared.word.Word.TheVariants as word
use Rattle.sp_fdl.proofs.TextLemmas.{bind_some, some_is, stops, run_again, after_run_again, parts_of, IsFilled, filled_token, filled_then}
use Rattle.sp_fdl.proofs.StepReadLemmas.{split, front_apart}
use Rattle.sp_fdl.proofs.NameLemmas.{word_is, word_again, variable_run, variable_no_word}
use Rattle.sp_script_text.specs.StepTexts.{Spaced, Term}
use Rattle.sp_script_text.specs.code.Words.{after_space, is_word}
use Rattle.sp_script_text.specs.code.Arguments.{memory_of, last_int, past_close, after_memory, memory_and_int}
use Rattle.sp_script_text.proofs.WordLemmas.{stops_more}
use Rattle.sp_script_text.proofs.SolidLemmas.{solid_text}
use Rattle.sp_script_text.proofs.TermLemmas.{memory_of_is, memory_of_again}
use Rattle.sp_script_text.proofs.SpaceLemmas.{space_is, space_again, After}
use Rattle.sp_script_text.proofs.BracketLemmas.{Updated, update_closes, blanks_skipped}
use Rattle.sp_script_text.proofs.ArgumentLemmas.{last_int_is, last_int_again}

-- ---- what follows a memory is the rest of its text

past_rest : (level : ℕ) (text rest : List ℕ) → past_close level text ≡ Some rest → (front : List ℕ) × (text ≡ front ++ rest)
past_rest level [] rest e = absurd cc
past_rest level (byte ∷ bytes) rest e =
    by (byte == 40) (byte == 41) (nat_le level 1) (past_rest (level + 1) bytes rest) (past_rest (level - 1) bytes rest) (past_rest level bytes rest) e
  where
    more : (front : List ℕ) × (bytes ≡ front ++ rest) → (front : List ℕ) × (byte ∷ bytes ≡ front ++ rest)
    more h = (byte ∷ h.0, ap (λ w. byte ∷ w) h.1)

    by : (a b c : Bool) → (past_close (level + 1) bytes ≡ Some rest → (front : List ℕ) × (bytes ≡ front ++ rest))
        → (past_close (level - 1) bytes ≡ Some rest → (front : List ℕ) × (bytes ≡ front ++ rest))
        → (past_close level bytes ≡ Some rest → (front : List ℕ) × (bytes ≡ front ++ rest))
        → cond a (past_close (level + 1) bytes) (cond b (cond c (Some bytes) (past_close (level - 1) bytes)) (past_close level bytes)) ≡ Some rest
        → (front : List ℕ) × (byte ∷ bytes ≡ front ++ rest)
    by true b c up down same u = more (up u)
    by false true true up down same u = (byte ∷ [], ap (λ w. byte ∷ w) (some_is bytes rest u))
    by false true false up down same u = more (down u)
    by false false c up down same u = more (same u)

after_rest : (text rest : List ℕ) → after_memory text ≡ Some rest → (front : List ℕ) × (text ≡ front ++ rest)
unfolding after_memory
after_rest text rest e = by (is_word (run_of text) (codes "update")) e
  where
    by : (b : Bool) → cond b (past_close 0 (after_run text)) (Some (after_run text)) ≡ Some rest → (front : List ℕ) × (text ≡ front ++ rest)
    by true u =
        let h = past_rest 0 (after_run text) rest u in
        (run_of text ++ h.0, parts_of is_run text ∙ ap (λ w. run_of text ++ w) h.1 ∙ sym (append_assoc (run_of text) h.0 rest))
    by false u = (run_of text, parts_of is_run text ∙ ap (λ w. run_of text ++ w) (some_is (after_run text) rest u))

-- ---- a memory before blanks

abbrev update_word : List ℕ
update_word = codes "update"

not_update : (v : Var) → IsNumbered v → HasNameNumber v → is_word (variable_text v) (codes "update") ≡ false
not_update v low high = by (is_word (variable_text v) (codes "update")) refl
  where
    by : (b : Bool) → is_word (variable_text v) (codes "update") ≡ b → b ≡ false
    by true e =
        let same : variable_text v ≡ codes "update" = word_is (variable_text v) (codes "update") e in
        let clash = sym (variable_no_word v low high) ∙ ap names.word_of same ∙ word_again word.Update in
        absurd cc
    by false e = refl

blank_apart : (blanks rest : List ℕ) → 0 < length blanks → list_all is_blank blanks ≡ true → begins_run (blanks ++ rest) ≡ false
blank_apart [] rest some blank = absurd (omega arith)
blank_apart (byte ∷ blanks) rest some blank = run_free byte (and_parts (is_blank byte) (list_all is_blank blanks) blank).0
  where
    run_free : (b : ℕ) → is_blank b ≡ true → is_run b ≡ false
    run_free b h = grind arith

after_variable : (v : Var) → IsNumbered v → HasNameNumber v → (text rest : List ℕ) → text ≡ variable_text v → begins_run rest ≡ false → after_memory (text ++ rest) ≡ Some rest
unfolding after_memory
after_variable v low high text rest e stop =
    let all : list_all is_run (variable_text v) ≡ true = variable_run v high in
    let run : run_of (text ++ rest) ≡ variable_text v = ap (λ w. run_of (w ++ rest)) e ∙ run_again (variable_text v) rest all stop in
    let after : after_run (text ++ rest) ≡ rest = ap (λ w. after_run (w ++ rest)) e ∙ after_run_again (variable_text v) rest all stop in
    let test : is_word (run_of (text ++ rest)) (codes "update") ≡ false = ap (λ w. is_word w (codes "update")) run ∙ not_update v low high in
    rw test (ap Some after)

after_update : (m x y : Tree) (s : Sort) → HasSort (Update m x y) s → HasNumbers (Update m x y) → (text rest : List ℕ) → Spells (Update m x y) text → after_memory (text ++ rest) ≡ Some rest
unfolding after_memory
after_update m x y s h g text rest u =
    let tail : List ℕ = u.blanks ++ (u.back ++ rest) in
    let filled : IsFilled (Updated m x y) = filled_then (Token (codes "(")) _ (filled_token 40 []) in
    let whole : text ++ rest ≡ update_word ++ tail = split (Token update_word) (Updated m x y) text rest u ∙ ap (λ w. w ++ tail) u.in_front in
    let stop : begins_run tail ≡ false = front_apart (Token update_word) (Updated m x y) text rest filled u (ap ends_run u.in_front) in
    let run : run_of (text ++ rest) ≡ update_word = ap run_of whole ∙ run_again update_word tail refl stop in
    let after : after_run (text ++ rest) ≡ tail = ap after_run whole ∙ after_run_again update_word tail refl stop in
    let test : is_word (run_of (text ++ rest)) (codes "update") ≡ true = ap (λ w. is_word w (codes "update")) run in
    rw test (ap (past_close 0) after ∙ blanks_skipped u.blanks u.blank 0 (u.back ++ rest) ∙ update_closes m x y s h g u.back u.in_back rest)

-- a memory is a variable or an update
memory_end : (t : Tree) → HasSort t Memory → HasNumbers t → (text rest : List ℕ) → Spells t text → begins_run rest ≡ false → after_memory (text ++ rest) ≡ Some rest
memory_end (Literal n) h g text rest u stop = absurd cc
memory_end (Truth b) h g text rest u stop = absurd cc
memory_end (Variable v) h g text rest u stop = after_variable v h.1 g text rest u stop
memory_end (Add x y) h g text rest u stop = absurd cc
memory_end (Subtract x y) h g text rest u stop = absurd cc
memory_end (Multiply x y) h g text rest u stop = absurd cc
memory_end (Divide x y) h g text rest u stop = absurd cc
memory_end (Remainder x y) h g text rest u stop = absurd cc
memory_end (ByteAnd x y) h g text rest u stop = absurd cc
memory_end (ByteOr x y) h g text rest u stop = absurd cc
memory_end (ByteXor x y) h g text rest u stop = absurd cc
memory_end (Parity x) h g text rest u stop = absurd cc
memory_end (Bit k x) h g text rest u stop = absurd cc
memory_end (Psw s z ac p cy) h g text rest u stop = absurd cc
memory_end (If p x y) h g text rest u stop = absurd cc
memory_end (Element m x) h g text rest u stop = absurd cc
memory_end (Update m x y) h g text rest u stop = after_update m x y Memory h g text rest u
memory_end (Total m x y) h g text rest u stop = absurd cc
memory_end (Equal x y) h g text rest u stop = absurd cc
memory_end (Less x y) h g text rest u stop = absurd cc
memory_end (LessOrEqual x y) h g text rest u stop = absurd cc
memory_end (Not p) h g text rest u stop = absurd cc
memory_end (And p q) h g text rest u stop = absurd cc
memory_end (Or p q) h g text rest u stop = absurd cc
memory_end (Implies p q) h g text rest u stop = absurd cc
memory_end (Iff p q) h g text rest u stop = absurd cc
memory_end (ForAll k x y p) h g text rest u stop = absurd cc
memory_end (ForSome k x y p) h g text rest u stop = absurd cc

-- ---- a memory and a term

before_rest : (front rest : List ℕ) → take (length (front ++ rest) - length rest) (front ++ rest) ≡ front
before_rest front rest = take_at front rest (length (front ++ rest) - length rest) (omega (arith, length-append front rest))

-- the parts of a text, after what is found where the memory ends
abbrev after_front : List ℕ → List ℕ → Option (Tree × Tree)
after_front both rest = memory_of (take (length both - length rest) both) >>= λ m. last_int rest >>= λ x. Some (m, x)

abbrev parts_at : List ℕ → Option (Tree × Tree)
parts_at both = after_memory both >>= after_front both

pub memory_and_int_is : (text : List ℕ) (p : Tree × Tree) → memory_and_int text ≡ Some p → After (Spaced (Term Memory p.0) (Term Int p.1)) text
unfolding memory_and_int
memory_and_int_is text p e =
    let b = bind_some (after_space text) _ p e in
    let c = bind_some (after_memory b.0) _ p b.2 in
    let d = bind_some (memory_of (take (length b.0 - length c.0) b.0)) _ p c.2 in
    let f = bind_some (last_int c.0) _ p d.2 in
    let g = space_is text b.0 b.1 in
    let r = after_rest b.0 c.0 c.1 in
    let front : take (length b.0 - length c.0) b.0 ≡ r.0 = ap (λ w. take (length w - length c.0) w) r.1 ∙ before_rest r.0 c.0 in
    let x = last_int_is c.0 f.0 f.1 in
    subst (λ q. After (Spaced (Term Memory q.0) (Term Int q.1)) text) (some_is (d.0, f.0) p f.2) (record {
      blanks = g.blanks;
      back = b.0;
      whole = g.whole;
      blank = g.blank;
      some = g.some;
      is = record {
        front = r.0;
        blanks = x.blanks;
        back = x.back;
        whole = r.1 ∙ ap (λ w. r.0 ++ w) x.whole;
        blank = x.blank;
        some = x.some;
        in_front = memory_of_is r.0 d.0 (ap memory_of (sym front) ∙ d.1);
        in_back = x.is;
      };
    })

pub memory_and_int_again : (text : List ℕ) (m x : Tree) → After (Spaced (Term Memory m) (Term Int x)) text → memory_and_int text ≡ Some (m, x)
unfolding memory_and_int
memory_and_int_again text m x h =
    let g = h.is in
    let rest : List ℕ = g.blanks ++ g.back in
    let solid = solid_text g.front m g.in_front.0 in
    let begins : stops is_blank h.back ≡ true = subst (λ w. stops is_blank w ≡ true) (sym g.whole) (stops_more is_blank g.front rest solid.filled solid.begins) in
    let ends : after_memory h.back ≡ Some rest = ap after_memory g.whole ∙ memory_end m g.in_front.1 g.in_front.0.readable.numbers g.front rest g.in_front.0.spells (blank_apart g.blanks g.back g.some g.blank) in
    let front : take (length h.back - length rest) h.back ≡ g.front = ap (λ w. take (length w - length rest) w) g.whole ∙ before_rest g.front rest in
    let back : last_int rest ≡ Some x = last_int_again rest x (record { blanks = g.blanks; back = g.back; whole = refl; blank = g.blank; some = g.some; is = g.in_back }) in
    ap memory_and_int h.whole
    ∙ ap (λ o. o >>= parts_at) (space_again h.blanks h.back h.blank h.some begins)
    ∙ ap (λ o. o >>= after_front h.back) ends
    ∙ ap (λ w. memory_of w >>= λ m. last_int rest >>= λ x. Some (m, x)) front
    ∙ ap (λ o. o >>= λ m. last_int rest >>= λ x. Some (m, x)) (memory_of_again g.front m g.in_front)
    ∙ ap (λ o. o >>= λ x. Some (m, x)) back
