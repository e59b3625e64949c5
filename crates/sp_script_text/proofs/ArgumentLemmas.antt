-- The arguments of steps are read as they are written.
use Rattle.std.proofs.Common.{◌≡◌, ℕ, ℤ, ◌<◌, Bool, true, false, cond, not, List, [], ◌∷◌, ◌++◌, length, Option, Some, sym, ap, subst, ◌∙◌, arith, append_assoc}
use Rattle.std.specs.Prelude.{reverse}
use Rattle.std.proofs.lemmas.List.{append-nil, reverse-reverse, length-reverse}
use Rattle.sp_term.specs.Tree.{Tree}
use Rattle.sp_term.specs.Sorts.{Sort, Int, Formula, Memory}
use Rattle.sp_fdl.specs.Text.{is_blank, Form}
use Rattle.sp_fdl.specs.code.Tokens.{◌>>=◌, dropped}
use Rattle.sp_fdl.proofs.TextLemmas.{bind_some, some_is, stops, dropped_stop}
use Rattle.sp_script_text.specs.StepTexts.{Spaced, Hypothesis, Number, Term}
use Rattle.sp_script_text.specs.code.Words.{is_solid, after_space, trim_end, last_word, before_last_word}
use Rattle.sp_script_text.specs.code.Arguments.{formula_of, int_of, memory_of, number_of, hypothesis_of, last_formula, last_int, last_hypothesis, next_hypothesis, next_number, int_and_number, memory_and_number, two_hypotheses, hypothesis_and_int, number_and_int}
use Rattle.sp_script_text.proofs.WordLemmas.{Solid, stops_more, trim_again, trim_is, last_word_again, before_last_again, last_parts}
use Rattle.sp_script_text.proofs.SolidLemmas.{solid_text, solid_hypothesis, solid_number, hypothesis_run, all_solid, number_word}
use Rattle.sp_script_text.proofs.TermLemmas.{formula_of_is, formula_of_again, int_of_is, int_of_again, memory_of_is, memory_of_again, number_of_is, number_of_again, hypothesis_of_is, hypothesis_of_again}
use Rattle.sp_script_text.proofs.SpaceLemmas.{space_is, space_again, After, ReadsWhole, last_is, last_again, ReadsWord, Next, next_is, next_again, with_next, next_parts}

-- ---- the readers

pub formulas : ReadsWhole formula_of (Term Formula)
formulas = record { is = formula_of_is; again = formula_of_again; begins = λ text t h. (solid_text text t h.0).begins }

pub ints : ReadsWhole int_of (Term Int)
ints = record { is = int_of_is; again = int_of_again; begins = λ text t h. (solid_text text t h.0).begins }

pub hypotheses : ReadsWhole hypothesis_of Hypothesis
hypotheses = record { is = hypothesis_of_is; again = hypothesis_of_again; begins = λ text k h. (solid_hypothesis k text h).begins }

pub hypothesis_words : ReadsWord hypothesis_of Hypothesis
hypothesis_words = record {
  is = hypothesis_of_is;
  again = hypothesis_of_again;
  word = λ text k h. all_solid text (hypothesis_run k text h).0;
  filled = λ text k h. (hypothesis_run k text h).1;
}

pub number_words : ReadsWord number_of Number
number_words = record {
  is = number_of_is;
  again = number_of_again;
  word = λ text n h. number_word n text h;
  filled = λ text n h. (solid_number n text h).filled;
}

-- ---- one argument

pub last_formula_is : (text : List ℕ) (t : Tree) → last_formula text ≡ Some t → After (Term Formula t) text
unfolding last_formula
last_formula_is = last_is formula_of (Term Formula) formulas

pub last_formula_again : (text : List ℕ) (t : Tree) → After (Term Formula t) text → last_formula text ≡ Some t
unfolding last_formula
last_formula_again = last_again formula_of (Term Formula) formulas

pub last_int_is : (text : List ℕ) (t : Tree) → last_int text ≡ Some t → After (Term Int t) text
unfolding last_int
last_int_is = last_is int_of (Term Int) ints

pub last_int_again : (text : List ℕ) (t : Tree) → After (Term Int t) text → last_int text ≡ Some t
unfolding last_int
last_int_again = last_again int_of (Term Int) ints

pub last_hypothesis_is : (text : List ℕ) (k : ℕ) → last_hypothesis text ≡ Some k → After (Hypothesis k) text
unfolding last_hypothesis
last_hypothesis_is = last_is hypothesis_of Hypothesis hypotheses

pub last_hypothesis_again : (text : List ℕ) (k : ℕ) → After (Hypothesis k) text → last_hypothesis text ≡ Some k
unfolding last_hypothesis
last_hypothesis_again = last_again hypothesis_of Hypothesis hypotheses

pub next_hypothesis_is : (text : List ℕ) (p : ℕ × List ℕ) → next_hypothesis text ≡ Some p → Next (Hypothesis p.0) text p.1
unfolding next_hypothesis
next_hypothesis_is = next_is hypothesis_of Hypothesis hypothesis_words

pub next_hypothesis_again : (text : List ℕ) (k : ℕ) (rest : List ℕ) → Next (Hypothesis k) text rest → next_hypothesis text ≡ Some (k, rest)
unfolding next_hypothesis
next_hypothesis_again = next_again hypothesis_of Hypothesis hypothesis_words

pub next_number_is : (text : List ℕ) (p : ℤ × List ℕ) → next_number text ≡ Some p → Next (Number p.0) text p.1
unfolding next_number
next_number_is = next_is number_of Number number_words

pub next_number_again : (text : List ℕ) (n : ℤ) (rest : List ℕ) → Next (Number n) text rest → next_number text ≡ Some (n, rest)
unfolding next_number
next_number_again = next_again number_of Number number_words

-- ---- a word and another argument

abbrev both_of : {A B : Type 0} → (List ℕ → Option (A × List ℕ)) → (List ℕ → Option B) → List ℕ → Option (A × B)
both_of f g text = f text >>= λ first. g first.1 >>= λ b. Some (first.0, b)

both_is : {A B : Type 0} (f : List ℕ → Option (A × List ℕ)) (g : List ℕ → Option B) (X : A → Form) (Y : B → Form)
    → ((text : List ℕ) (p : A × List ℕ) → f text ≡ Some p → Next (X p.0) text p.1)
    → ((text : List ℕ) (b : B) → g text ≡ Some b → After (Y b) text)
    → (text : List ℕ) (p : A × B) → both_of f g text ≡ Some p → After (Spaced (X p.0) (Y p.1)) text
both_is f g X Y one next text p e =
    let b = bind_some (f text) (λ first. g first.1 >>= λ b. Some (first.0, b)) p e in
    let c = bind_some (g b.0.1) (λ x. Some (b.0.0, x)) p b.2 in
    subst (λ q. After (Spaced (X q.0) (Y q.1)) text) (some_is (b.0.0, c.0) p c.2)
    (with_next (X b.0.0) (Y c.0) text b.0.1 (one text b.0 b.1) (next b.0.1 c.0 c.1))

both_again : {A B : Type 0} (f : List ℕ → Option (A × List ℕ)) (g : List ℕ → Option B) (X : A → Form) (Y : B → Form)
    → ((text : List ℕ) (a : A) (rest : List ℕ) → Next (X a) text rest → f text ≡ Some (a, rest))
    → ((text : List ℕ) (b : B) → After (Y b) text → g text ≡ Some b)
    → (text : List ℕ) (a : A) (b : B) → After (Spaced (X a) (Y b)) text → both_of f g text ≡ Some (a, b)
both_again f g X Y one next text a b h =
    let p = next_parts (X a) (Y b) text h in
    ap (λ o. o >>= λ first. g first.1 >>= λ c. Some (first.0, c)) (one text a p.rest p.next)
    ∙ ap (λ o. o >>= λ c. Some (a, c)) (next p.rest b p.after)

pub two_hypotheses_is : (text : List ℕ) (p : ℕ × ℕ) → two_hypotheses text ≡ Some p → After (Spaced (Hypothesis p.0) (Hypothesis p.1)) text
unfolding two_hypotheses
two_hypotheses_is = both_is next_hypothesis last_hypothesis Hypothesis Hypothesis next_hypothesis_is last_hypothesis_is

pub two_hypotheses_again : (text : List ℕ) (k j : ℕ) → After (Spaced (Hypothesis k) (Hypothesis j)) text → two_hypotheses text ≡ Some (k, j)
unfolding two_hypotheses
two_hypotheses_again = both_again next_hypothesis last_hypothesis Hypothesis Hypothesis next_hypothesis_again last_hypothesis_again

pub hypothesis_and_int_is : (text : List ℕ) (p : ℕ × Tree) → hypothesis_and_int text ≡ Some p → After (Spaced (Hypothesis p.0) (Term Int p.1)) text
unfolding hypothesis_and_int
hypothesis_and_int_is = both_is next_hypothesis last_int Hypothesis (Term Int) next_hypothesis_is last_int_is

pub hypothesis_and_int_again : (text : List ℕ) (k : ℕ) (x : Tree) → After (Spaced (Hypothesis k) (Term Int x)) text → hypothesis_and_int text ≡ Some (k, x)
unfolding hypothesis_and_int
hypothesis_and_int_again = both_again next_hypothesis last_int Hypothesis (Term Int) next_hypothesis_again last_int_again

pub number_and_int_is : (text : List ℕ) (p : ℤ × Tree) → number_and_int text ≡ Some p → After (Spaced (Number p.0) (Term Int p.1)) text
unfolding number_and_int
number_and_int_is = both_is next_number last_int Number (Term Int) next_number_is last_int_is

pub number_and_int_again : (text : List ℕ) (n : ℤ) (x : Tree) → After (Spaced (Number n) (Term Int x)) text → number_and_int text ≡ Some (n, x)
unfolding number_and_int
number_and_int_again = both_again next_number last_int Number (Term Int) next_number_again last_int_again

-- ---- a term and a number

-- a text that ends in no blank has a word at its end
no_blanks : (byte : ℕ) (bytes : List ℕ) → stops is_solid (byte ∷ bytes) ≡ true → stops is_blank (byte ∷ bytes) ≡ true → ⊥
no_blanks byte bytes solid blank = by (is_blank byte) solid blank
  where
    by : (b : Bool) → cond (not b) false true ≡ true → cond b false true ≡ true → ⊥
    by true p q = absurd cc
    by false p q = absurd cc

no_ends : (text : List ℕ) → 0 < length text → stops is_solid text ≡ true → stops is_blank text ≡ true → ⊥
no_ends [] some solid blank = absurd (omega arith)
no_ends (byte ∷ bytes) some solid blank = no_blanks byte bytes solid blank

before_ends : (text : List ℕ) → stops is_solid (reverse (before_last_word text)) ≡ true
unfolding before_last_word
before_ends text = ap (stops is_solid) (reverse-reverse (dropped is_solid (reverse text))) ∙ dropped_stop is_solid (reverse text)

some_between : (front inner after : List ℕ) → front ≡ inner ++ after → Solid inner → stops is_solid (reverse front) ≡ true → 0 < length after
some_between front inner [] e solid ends =
    let same : front ≡ inner = e ∙ append-nil inner in
    absurd (no_ends (reverse front) (omega (arith, length-reverse front, ap length same, solid.filled)) ends (ap (λ w. stops is_blank (reverse w)) same ∙ solid.ends))
some_between front inner (byte ∷ after) e solid ends = omega arith

abbrev term_and_number : (List ℕ → Option Tree) → List ℕ → Option (Tree × ℤ)
term_and_number f text = after_space text >>= λ rest. f (trim_end (before_last_word rest)) >>= λ x. number_of (last_word rest) >>= λ n. Some (x, n)

term_and_number_is : (f : List ℕ → Option Tree) (s : Sort) → ((text : List ℕ) (t : Tree) → f text ≡ Some t → Term s t text)
    → (text : List ℕ) (p : Tree × ℤ) → term_and_number f text ≡ Some p → After (Spaced (Term s p.0) (Number p.1)) text
term_and_number_is f s is text p e =
    let b = bind_some (after_space text) _ p e in
    let c = bind_some (f (trim_end (before_last_word b.0))) _ p b.2 in
    let d = bind_some (number_of (last_word b.0)) _ p c.2 in
    let g = space_is text b.0 b.1 in
    let t = trim_is (before_last_word b.0) in
    let x = is (trim_end (before_last_word b.0)) c.0 c.1 in
    let solid = solid_text (trim_end (before_last_word b.0)) c.0 x.0 in
    subst (λ q. After (Spaced (Term s q.0) (Number q.1)) text) (some_is (c.0, d.0) p d.2) (record {
      blanks = g.blanks;
      back = b.0;
      whole = g.whole;
      blank = g.blank;
      some = g.some;
      is = record {
        front = trim_end (before_last_word b.0);
        blanks = t.after;
        back = last_word b.0;
        whole = last_parts b.0 ∙ ap (λ w. w ++ last_word b.0) t.whole ∙ append_assoc (trim_end (before_last_word b.0)) t.after (last_word b.0);
        blank = t.blank;
        some = some_between (before_last_word b.0) (trim_end (before_last_word b.0)) t.after t.whole solid (before_ends b.0);
        in_front = x;
        in_back = number_of_is (last_word b.0) d.0 d.1;
      };
    })

term_and_number_again : (f : List ℕ → Option Tree) (s : Sort) → ((text : List ℕ) (t : Tree) → Term s t text → f text ≡ Some t)
    → (text : List ℕ) (x : Tree) (n : ℤ) → After (Spaced (Term s x) (Number n)) text → term_and_number f text ≡ Some (x, n)
term_and_number_again f s again text x n h =
    let g = h.is in
    let solid = solid_text g.front x g.in_front.0 in
    let word = number_word n g.back g.in_back in
    let begins : stops is_blank h.back ≡ true = subst (λ w. stops is_blank w ≡ true) (sym g.whole) (stops_more is_blank g.front (g.blanks ++ g.back) solid.filled solid.begins) in
    let front : trim_end (before_last_word h.back) ≡ g.front = ap (λ w. trim_end (before_last_word w)) g.whole ∙ ap trim_end (before_last_again g.front g.blanks g.back word g.blank g.some) ∙ trim_again g.front g.blanks solid g.blank in
    let back : last_word h.back ≡ g.back = ap last_word g.whole ∙ last_word_again g.front g.blanks g.back word g.blank g.some in
    ap (term_and_number f) h.whole
    ∙ ap (λ o. o >>= λ rest. f (trim_end (before_last_word rest)) >>= λ y. number_of (last_word rest) >>= λ m. Some (y, m)) (space_again h.blanks h.back h.blank h.some begins)
    ∙ ap (λ w. f w >>= λ y. number_of (last_word h.back) >>= λ m. Some (y, m)) front
    ∙ ap (λ o. o >>= λ y. number_of (last_word h.back) >>= λ m. Some (y, m)) (again g.front x g.in_front)
    ∙ ap (λ w. number_of w >>= λ m. Some (x, m)) back
    ∙ ap (λ o. o >>= λ m. Some (x, m)) (number_of_again g.back n g.in_back)

pub int_and_number_is : (text : List ℕ) (p : Tree × ℤ) → int_and_number text ≡ Some p → After (Spaced (Term Int p.0) (Number p.1)) text
unfolding int_and_number
int_and_number_is = term_and_number_is int_of Int int_of_is

pub int_and_number_again : (text : List ℕ) (x : Tree) (n : ℤ) → After (Spaced (Term Int x) (Number n)) text → int_and_number text ≡ Some (x, n)
unfolding int_and_number
int_and_number_again = term_and_number_again int_of Int int_of_again

pub memory_and_number_is : (text : List ℕ) (p : Tree × ℤ) → memory_and_number text ≡ Some p → After (Spaced (Term Memory p.0) (Number p.1)) text
unfolding memory_and_number
memory_and_number_is = term_and_number_is memory_of Memory memory_of_is

pub memory_and_number_again : (text : List ℕ) (x : Tree) (n : ℤ) → After (Spaced (Term Memory x) (Number n)) text → memory_and_number text ≡ Some (x, n)
unfolding memory_and_number
memory_and_number_again = term_and_number_again memory_of Memory memory_of_again
