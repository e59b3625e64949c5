-- The k-th word from the base, among words that are kept from the base down.
use Rattle.std.proofs.Common.{◌≡◌, ℕ, zero, suc, ◌+◌, ◌<◌, false, cond, List, [], ◌∷◌, ◌++◌, map, length, refl, sym, ap, ◌∙◌, arith, get_or}
use Rattle.std.specs.Prelude.{reverse, ◌==◌}
use Rattle.std.specs.Borrow.{Bor}
use Rattle.std.proofs.lemmas.List.{reverse-append}
use Rattle.std.proofs.lemmas.Bool.Decides.{nat_tests}
use Rattle.sp_term.specs.Tree.{Tree}
use Rattle.sp_trans.specs.Symbolic.{Word, joined, number}
use Rattle.sp_trans.specs.Formulas.{stack_term}
use Rattle.sp_trans.specs.View.{word_of}

length_more : (words : List Word) (b : Word) → length (words ++ (b ∷ [])) ≡ length words + 1
length_more [] b = refl
length_more (a ∷ words) b = let more = length_more words b in omega (arith, more)

-- the word at the base is the first
first_word : (words : List Word) (b : Word) → stack_term 1 (words ++ (b ∷ [])) ≡ joined b.high b.low
first_word [] b = refl
first_word (a ∷ words) b =
    let more = length_more words b in
    let other : (1 == length (words ++ (b ∷ [])) + 1) ≡ false = grind (arith, nat_tests, more) in
    ap (λ t. cond t (joined a.high a.low) (stack_term 1 (words ++ (b ∷ [])))) other ∙ first_word words b

-- each other one is one later than without it
later_word : (k : ℕ) (words : List Word) (b : Word) → stack_term (suc (suc k)) (words ++ (b ∷ [])) ≡ stack_term (suc k) words
later_word k [] b = let other : (suc (suc k) == 1) ≡ false = grind (arith, nat_tests) in ap (λ t. cond t (joined b.high b.low) (number 0)) other
later_word k (a ∷ words) b =
    let more = length_more words b in
    let same : (suc (suc k) == length (words ++ (b ∷ [])) + 1) ≡ (suc k == length words + 1) = grind (arith, nat_tests, more) in
    ap (λ t. cond t (joined a.high a.low) (stack_term (suc (suc k)) (words ++ (b ∷ [])))) same
    ∙ ap (λ t. cond (suc k == length words + 1) (joined a.high a.low) t) (later_word k words b)

pub stack_term_is : (k : ℕ) (ws : List (Bor Tree × Bor Tree)) (p q : Bor Tree × Bor Tree) → k < length ws
    → joined (get_or ws k p).0.now (get_or ws k q).1.now ≡ stack_term (suc k) (reverse (map word_of ws))
stack_term_is k [] p q less = absurd (omega arith)
stack_term_is zero (w ∷ ws) p q less =
    sym (ap (stack_term 1) (reverse-append (word_of w ∷ []) (map word_of ws)) ∙ first_word (reverse (map word_of ws)) (word_of w))
stack_term_is (suc k) (w ∷ ws) p q less =
    stack_term_is k ws p q (omega arith)
    ∙ sym (ap (stack_term (suc (suc k))) (reverse-append (word_of w ∷ []) (map word_of ws)) ∙ later_word k (reverse (map word_of ws)) (word_of w))
