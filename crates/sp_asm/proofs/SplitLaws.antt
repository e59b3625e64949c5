-- What holds of each element of a list with the elements above it.
use Rattle.std.proofs.Common.{◌≡◌, ◌⊎◌, inl, inr, List, [], ◌∷◌, ◌++◌, map, refl, sym, ap, subst, ◌∙◌, append_assoc}
use Rattle.std.proofs.lemmas.List.{append-nil}

-- each element of a list keeps this with those above it
abbrev pub AllSplits : {A : Type 0} → (List A → A → Type 0) → List A → Type 0
AllSplits {A} P xs = (above below : List A) (p : A) → xs ≡ above ++ p ∷ below → P above p

module _ {A : Type 0} where
  none_within : (above below : List A) (p : A) → [] ≡ above ++ p ∷ below → ⊥
  none_within [] below p e = cc
  none_within (a ∷ above) below p e = cc

  pub head_is : (x y : A) (xs ys : List A) → x ∷ xs ≡ y ∷ ys → x ≡ y
  head_is x y xs ys e = cc

  pub tail_is : (x y : A) (xs ys : List A) → x ∷ xs ≡ y ∷ ys → xs ≡ ys
  tail_is x y xs ys e = cc

  pub splits_empty : (P : List A → A → Type 0) → AllSplits P []
  splits_empty P above below p e = absurd (none_within above below p e)

  -- an element of a list with one more is the last one, or stands above it
  pub split_last : (xs above below : List A) (p q : A) → xs ++ p ∷ [] ≡ above ++ q ∷ below → ((xs ≡ above) × (p ≡ q)) ⊎ ((rest : List A) × (xs ≡ above ++ q ∷ rest))
  split_last [] [] below p q e = inl (refl, head_is p q [] below e)
  split_last [] (a ∷ above) below p q e = absurd (none_within above below q (tail_is p a [] (above ++ q ∷ below) e))
  split_last (x ∷ xs) [] below p q e = inr (xs, ap (λ first. first ∷ xs) (head_is x q (xs ++ p ∷ []) below e))
  split_last (x ∷ xs) (a ∷ above) below p q e =
      elim (split_last xs above below p q (tail_is x a (xs ++ p ∷ []) (above ++ q ∷ below) e)) [
        | inl last ↦ inl (ap (λ l. x ∷ l) last.0 ∙ ap (λ first. first ∷ above) (head_is x a (xs ++ p ∷ []) (above ++ q ∷ below) e), last.1)
        | inr found ↦ inr (found.0, ap (λ l. x ∷ l) found.1 ∙ ap (λ first. first ∷ (above ++ q ∷ found.0)) (head_is x a (xs ++ p ∷ []) (above ++ q ∷ below) e))
      ]

  -- one more at the end
  pub splits_more : (P : List A → A → Type 0) (xs : List A) (p : A) → P xs p → AllSplits P xs → AllSplits P (xs ++ p ∷ [])
  splits_more P xs p last each above below q e =
      elim (split_last xs above below p q e) [
        | inl here ↦ subst (λ r. P above r) here.1 (subst (λ l. P l p) here.0 last)
        | inr found ↦ each above found.0 q found.1
      ]

  -- the part above
  pub splits_above : (P : List A → A → Type 0) (xs rest : List A) → AllSplits P (xs ++ rest) → AllSplits P xs
  splits_above P xs rest each above below p e = each above (below ++ rest) p (ap (λ l. l ++ rest) e ∙ append_assoc above (p ∷ below) rest)

  -- the first element, and the others below it
  pub splits_head : (P : List A → A → Type 0) (x : A) (xs : List A) → AllSplits P (x ∷ xs) → P [] x
  splits_head P x xs each = each [] xs x refl

  pub splits_tail : (P : List A → A → Type 0) (x : A) (xs : List A) → AllSplits P (x ∷ xs) → AllSplits (λ above p. P (x ∷ above) p) xs
  splits_tail P x xs each above below p e = each (x ∷ above) below p (ap (λ l. x ∷ l) e)

  -- an element that stands below those that keep this
  pub split_at : (P : List A → A → Type 0) (above below : List A) (p : A) → AllSplits P (above ++ p ∷ below) → P above p
  split_at P above below p each = each above below p refl

-- two elements that keep this, with the same above them and the same image, are one
abbrev pub IsOne : {A B : Type 0} → (A → B) → (List A → A → Type 0) → Type 0
IsOne {A} {B} f P = (above : List A) (p q : A) → f p ≡ f q → P above p → P above q → p ≡ q

module _ {A B : Type 0} where
  one_below : (f : A → B) (P : List A → A → Type 0) (x : A) → IsOne f P → IsOne f (λ above p. P (x ∷ above) p)
  one_below f P x one above p q e h k = one (x ∷ above) p q e h k

  -- of two such lists, one for a front of the other's images is a front
  pub front_of : (f : A → B) (P : List A → A → Type 0) → IsOne f P → (xs ys : List A) (more : List B) → AllSplits P xs → AllSplits P ys → map f ys ≡ map f xs ++ more
      → (rest : List A) × (ys ≡ xs ++ rest) × (map f rest ≡ more)
  front_of f P one [] ys more hx hy e = (ys, refl, e)
  front_of f P one (x ∷ xs) [] more hx hy e = absurd cc
  front_of f P one (x ∷ xs) (y ∷ ys) more hx hy e =
      let first = one [] y x (head_is (f y) (f x) (map f ys) (map f xs ++ more) e) (splits_head P y ys hy) (splits_head P x xs hx) in
      let below = subst (λ z. AllSplits (λ above p. P (z ∷ above) p) ys) first (splits_tail P y ys hy) in
      let found = front_of f (λ above p. P (x ∷ above) p) (one_below f P x one) xs ys more (splits_tail P x xs hx) below (tail_is (f y) (f x) (map f ys) (map f xs ++ more) e) in
      (found.0, ap (λ z. z ∷ ys) first ∙ ap (λ l. x ∷ l) found.1, found.2)

  none_left : (f : A → B) (rest : List A) → map f rest ≡ [] → rest ≡ []
  none_left f [] e = refl
  none_left f (x ∷ rest) e = absurd cc

  -- two such lists with the same images are one
  pub splits_are_one : (f : A → B) (P : List A → A → Type 0) → IsOne f P → (xs ys : List A) → AllSplits P xs → AllSplits P ys → map f xs ≡ map f ys → xs ≡ ys
  splits_are_one f P one xs ys hx hy e =
      let found = front_of f P one xs ys [] hx hy (sym e ∙ sym (append-nil (map f xs))) in
      sym (found.1 ∙ ap (λ l. xs ++ l) (none_left f found.0 found.2) ∙ append-nil xs)

  first_left : (f : A → B) (rest : List A) (b : B) (below : List B) → map f rest ≡ b ∷ below → (p : A) × (others : List A) × (rest ≡ p ∷ others) × (f p ≡ b)
  first_left f [] b below e = absurd cc
  first_left f (x ∷ rest) b below e = (x, rest, refl, head_is (f x) b (map f rest) below e)

  -- a list whose images go further has one element more, with that image
  pub further : (f : A → B) (P : List A → A → Type 0) → IsOne f P → (xs ys : List A) (b : B) (below : List B) → AllSplits P xs → AllSplits P ys
      → map f ys ≡ map f xs ++ b ∷ below → (p : A) × (rest : List A) × (ys ≡ xs ++ p ∷ rest) × (f p ≡ b)
  further f P one xs ys b below hx hy e =
      let found = front_of f P one xs ys (b ∷ below) hx hy e in
      let left = first_left f found.0 b below found.2 in
      (left.0, left.1, found.1 ∙ ap (λ l. xs ++ l) left.2, left.3)

  -- such an element keeps this with those above
  pub kept_further : (f : A → B) (P : List A → A → Type 0) → IsOne f P → (xs ys : List A) (b : B) (below : List B) → AllSplits P xs → AllSplits P ys
      → map f ys ≡ map f xs ++ b ∷ below → (p : A) × P xs p × (f p ≡ b)
  kept_further f P one xs ys b below hx hy e =
      let found = further f P one xs ys b below hx hy e in
      (found.0, hy xs found.1 found.0 found.2, found.3)

  -- where the images of two lists, with one more each, are fronts of the same, one of them has an element more, or both end there
  pub fronts : (f : A → B) (P : List A → A → Type 0) → IsOne f P → (xs ys : List A) (b c : B) (below beneath : List B) → AllSplits P xs → AllSplits P ys
      → map f xs ++ b ∷ below ≡ map f ys ++ c ∷ beneath
      → ((xs ≡ ys) × (b ≡ c)) ⊎ (((p : A) × (rest : List A) × (ys ≡ xs ++ p ∷ rest) × (f p ≡ b)) ⊎ ((p : A) × (rest : List A) × (xs ≡ ys ++ p ∷ rest) × (f p ≡ c)))
  fronts f P one [] [] b c below beneath hx hy e = inl (refl, head_is b c below beneath e)
  fronts f P one [] (y ∷ ys) b c below beneath hx hy e = inr (inl (y, ys, refl, sym (head_is b (f y) below (map f ys ++ c ∷ beneath) e)))
  fronts f P one (x ∷ xs) [] b c below beneath hx hy e = inr (inr (x, xs, refl, head_is (f x) c (map f xs ++ b ∷ below) beneath e))
  fronts f P one (x ∷ xs) (y ∷ ys) b c below beneath hx hy e =
      let first = one [] y x (sym (head_is (f x) (f y) (map f xs ++ b ∷ below) (map f ys ++ c ∷ beneath) e)) (splits_head P y ys hy) (splits_head P x xs hx) in
      let under = subst (λ z. AllSplits (λ above p. P (z ∷ above) p) ys) first (splits_tail P y ys hy) in
      elim (fronts f (λ above p. P (x ∷ above) p) (one_below f P x one) xs ys b c below beneath (splits_tail P x xs hx) under
      (tail_is (f x) (f y) (map f xs ++ b ∷ below) (map f ys ++ c ∷ beneath) e)) [
        | inl same ↦ inl (ap (λ l. x ∷ l) same.0 ∙ ap (λ z. z ∷ ys) (sym first), same.1)
        | inr (inl longer) ↦ inr (inl (longer.0, longer.1, ap (λ z. z ∷ ys) first ∙ ap (λ l. x ∷ l) longer.2, longer.3))
        | inr (inr shorter) ↦ inr (inr (shorter.0, shorter.1, ap (λ l. x ∷ l) shorter.2 ∙ ap (λ z. z ∷ (ys ++ shorter.0 ∷ shorter.1)) (sym first), shorter.3))
      ]
