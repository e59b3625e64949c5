-- Lines after a text, and the text of lines.
use Rattle.std.proofs.Common.{◌≡◌, ◌≤◌, ◌+◌, ℕ, suc, List, [], ◌∷◌, ◌++◌, refl, sym, ap, ◌∙◌, append-nil, append_assoc, arith}
use Rattle.sp_gen.specs.Generated.{line, text_of, first_lines}
use Rattle.sp_gen.specs.code.Onto.{onto}

onto-append : (old : List ℕ) (xs ys : List (List ℕ)) → onto old (xs ++ ys) ≡ onto (onto old xs) ys
onto-append old [] ys = refl
onto-append old (x ∷ xs) ys = onto-append (old ++ line x) xs ys

onto_is : (old : List ℕ) (lines : List (List ℕ)) → onto old lines ≡ old ++ text_of lines
onto_is old [] = sym (append-nil old)
onto_is old (x ∷ xs) = onto_is (old ++ line x) xs ∙ append_assoc old (line x) (text_of xs)

one_more : (k : ℕ) → suc k ≡ k + 1
one_more k = omega arith

-- the lines of one number more
pub next_lines : (front text new : List ℕ) (lines : ℕ → List (List ℕ)) (k : ℕ) → text ≡ onto front (first_lines lines k) → new ≡ onto text (lines k) → new ≡ onto front (first_lines lines (k + 1))
next_lines front text new lines k e h =
    h ∙ ap (λ t. onto t (lines k)) e ∙ sym (onto-append front (first_lines lines k) (lines k)) ∙ ap (λ n. onto front (first_lines lines n)) (one_more k)

-- the lines of all numbers
pub all_lines : (front text : List ℕ) (lines : ℕ → List (List ℕ)) (k count : ℕ) → text ≡ onto front (first_lines lines k) → count ≤ k → k ≤ count → text ≡ front ++ text_of (first_lines lines count)
all_lines front text lines k count e least most =
    let same : k ≡ count = omega arith in
    e ∙ onto_is front (first_lines lines k) ∙ ap (λ n. front ++ text_of (first_lines lines n)) same
