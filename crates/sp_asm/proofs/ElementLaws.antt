-- The element of a list at an index.
use Rattle.std.proofs.Common.{◌≡◌, ℕ, zero, suc, ◌+◌, ◌<◌, List, [], ◌∷◌, ◌++◌, map, refl, sym, ap, ◌∙◌, length, get_or, take, drop, drop-cons, add-one, arith}
use Rattle.std.proofs.lemmas.List.{take-append-drop, take_more}

-- the element at an index, and what two maps of the list have there
pub element : {A B C : Type 0} (f : A → B) (g : A → C) (xs : List A) (i : ℕ) → i < length xs
    → (x : A) × ((d : A) → get_or xs i d ≡ x) × ((d : B) → get_or (map f xs) i d ≡ f x) × ((d : C) → get_or (map g xs) i d ≡ g x)
element f g [] i lt = absurd (omega arith)
element f g (x ∷ xs) zero lt = (x, λ d. refl, λ d. refl, λ d. refl)
element f g (x ∷ xs) (suc i) lt = element f g xs i (omega arith)

-- a list up to the element at an index, that one, and those below it
pub cut_at : {A : Type 0} (xs : List A) (i : ℕ) (x : A) → i < length xs → x ≡ get_or xs i x → xs ≡ take i xs ++ x ∷ drop (i + 1) xs
cut_at {A} xs i x lt is = sym (take-append-drop i xs) ∙ ap (λ (l : List A). take i xs ++ l) (drop-cons xs i x lt ∙ (λ j. sym is j ∷ drop (sym (add-one i) j) xs))

-- a list up to the element at an index and that one
pub one_further : {A : Type 0} (xs : List A) (i : ℕ) (x : A) → i < length xs → x ≡ get_or xs i x → take (i + 1) xs ≡ take i xs ++ x ∷ []
one_further xs i x lt is = take_more xs i x lt ∙ (λ j. take i xs ++ sym is j ∷ [])
