-- Lists: pairs of their elements, their elements beside those of others, and what holds at each split.
use Rattle.std.proofs.Common.{◌≡◌, ◌≢◌, inl, inr, ℕ, zero, suc, ◌+◌, ◌<◌, ◌≤◌, Bool, true, false, cond, ◌||◌, List, [], ◌∷◌, ◌++◌, length, map, get_or, Option, Some, None, refl, sym, ap, subst, ◌∙◌, arith, append-nil, append_assoc}
use Rattle.std.specs.Prelude.{AllPairs, IsPermutation, filter, flat_map, slice_get}
use Rattle.std.specs.List.{AllByRecursion, AllZip, IsDistinct, list_any, filter_map, cons_option, swap}
use Rattle.std.specs.List.Sorted.{IsStrictlyIncreasing}
use Rattle.std.proofs.lemmas.Bool.{cases_lt, cases_eq}
use Rattle.std.proofs.lemmas.List.{length_push}
use Rattle.std.proofs.lemmas.List.Edits.{length-swap, swapped_from_swap as swap_places}
use Rattle.std.proofs.lemmas.List.Elements.{All-from_recursion, recursion_from_All, filter-append, filter_map-append}
use Rattle.std.proofs.lemmas.List.Kept.{AllPairs-cons, AllPairs-from_increasing}
use Rattle.std.proofs.lemmas.List.Sorted.{All-permutation, IsPermutation-keeps}

-- ---- Each element

module _ {X : Type 0} where
  abbrev pub Each : (X → Type 0) → List X → Type 0
  Each P xs = AllByRecursion P xs

  pub each_weaker : (P Q : X → Type 0) → ((x : X) → P x → Q x) → (xs : List X) → Each P xs → Each Q xs
  each_weaker P Q f [] h = tt
  each_weaker P Q f (x ∷ xs) h = (f x h.0, each_weaker P Q f xs h.1)

  pub each_append : (P : X → Type 0) (xs ys : List X) → Each P xs → Each P ys → Each P (xs ++ ys)
  each_append P [] ys h k = k
  each_append P (x ∷ xs) ys h k = (h.0, each_append P xs ys h.1 k)

  pub each_front : (P : X → Type 0) (xs ys : List X) → Each P (xs ++ ys) → Each P xs
  each_front P [] ys h = tt
  each_front P (x ∷ xs) ys h = (h.0, each_front P xs ys h.1)

  pub each_back : (P : X → Type 0) (xs ys : List X) → Each P (xs ++ ys) → Each P ys
  each_back P [] ys h = h
  each_back P (x ∷ xs) ys h = each_back P xs ys h.1

  -- at each split
  pub each_splits : (P : X → Type 0) (xs : List X) → ((front back : List X) (x : X) → xs ≡ front ++ x ∷ back → P x) → Each P xs
  each_splits P [] h = tt
  each_splits P (x ∷ xs) h = (h [] xs x refl, each_splits P xs (λ front back y e. h (x ∷ front) back y (ap (λ l. x ∷ l) e)))

  pub each_at : (P : X → Type 0) (front back : List X) (x : X) → Each P (front ++ x ∷ back) → P x
  each_at P [] back x h = h.0
  each_at P (y ∷ front) back x h = each_at P front back x h.1

  pub each_permuted : (P : X → Type 0) (xs ys : List X) → IsPermutation xs ys → Each P xs → Each P ys
  each_permuted P xs ys s h = recursion_from_All P ys (All-permutation P xs ys s (All-from_recursion P xs h))

  pub each_filtered : (P : X → Type 0) (test : X → Bool) (xs : List X) → Each P xs → Each P (filter test xs)
  each_filtered P test [] h = tt
  each_filtered P test (x ∷ xs) h = by (test x) (each_filtered P test xs h.1)
    where
      by : (b : Bool) → Each P (filter test xs) → Each P (cond b (x ∷ filter test xs) (filter test xs))
      by true rest = (h.0, rest)
      by false rest = rest

pub each_mapped : {X Y : Type 0} (P : Y → Type 0) (f : X → Y) (xs : List X) → Each (λ x. P (f x)) xs → Each P (map f xs)
each_mapped P f [] h = tt
each_mapped P f (x ∷ xs) h = (h.0, each_mapped P f xs h.1)

pub each_of_mapped : {X Y : Type 0} (P : Y → Type 0) (f : X → Y) (xs : List X) → Each P (map f xs) → Each (λ x. P (f x)) xs
each_of_mapped P f [] h = tt
each_of_mapped P f (x ∷ xs) h = (h.0, each_of_mapped P f xs h.1)

-- ---- Each two elements

module _ {X : Type 0} where
  -- R holds of each element and each later one
  abbrev pub Pairwise : (X → X → Type 0) → List X → Type 0
  Pairwise R [] = Unit {0}
  Pairwise R (x ∷ xs) = Each (R x) xs × Pairwise R xs

  pub all_pairs : (R : X → X → Type 0) (xs : List X) → Pairwise R xs → AllPairs R xs
  all_pairs R [] h = λ i j d lt within. absurd (omega arith)
  all_pairs R (x ∷ xs) h = AllPairs-cons R x xs (All-from_recursion (R x) xs h.0) (all_pairs R xs h.1)

  pub pairwise_all : (R : X → X → Type 0) (xs : List X) → AllPairs R xs → Pairwise R xs
  pairwise_all R [] h = tt
  pairwise_all R (x ∷ xs) h = (
    recursion_from_All (R x) xs (λ k d within. h zero (suc k) d (omega arith) (omega arith)),
    pairwise_all R xs (λ i j d lt within. h (suc i) (suc j) d (omega arith) (omega arith)),
  )

  pub pairwise_weaker : (R S : X → X → Type 0) → ((x y : X) → R x y → S x y) → (xs : List X) → Pairwise R xs → Pairwise S xs
  pairwise_weaker R S f [] h = tt
  pairwise_weaker R S f (x ∷ xs) h = (each_weaker (R x) (S x) (f x) xs h.0, pairwise_weaker R S f xs h.1)

  -- R holds of each element of one list and each of another
  abbrev pub Across : (X → X → Type 0) → List X → List X → Type 0
  Across R xs ys = Each (λ x. Each (R x) ys) xs

  pub pairwise_append : (R : X → X → Type 0) (xs ys : List X) → Pairwise R xs → Pairwise R ys → Across R xs ys → Pairwise R (xs ++ ys)
  pairwise_append R [] ys h k c = k
  pairwise_append R (x ∷ xs) ys h k c = (each_append (R x) xs ys h.0 c.0, pairwise_append R xs ys h.1 k c.1)

  pub pairwise_front : (R : X → X → Type 0) (xs ys : List X) → Pairwise R (xs ++ ys) → Pairwise R xs
  pairwise_front R [] ys h = tt
  pairwise_front R (x ∷ xs) ys h = (each_front (R x) xs ys h.0, pairwise_front R xs ys h.1)

  pub pairwise_back : (R : X → X → Type 0) (xs ys : List X) → Pairwise R (xs ++ ys) → Pairwise R ys
  pairwise_back R [] ys h = h
  pairwise_back R (x ∷ xs) ys h = pairwise_back R xs ys h.1

  pub pairwise_across : (R : X → X → Type 0) (xs ys : List X) → Pairwise R (xs ++ ys) → Across R xs ys
  pairwise_across R [] ys h = tt
  pairwise_across R (x ∷ xs) ys h = (each_back (R x) xs ys h.0, pairwise_across R xs ys h.1)

  across_none : (R : X → X → Type 0) (xs : List X) → Across R xs []
  across_none R [] = tt
  across_none R (x ∷ xs) = (tt, across_none R xs)

  across_front : (R : X → X → Type 0) (xs ys zs : List X) → Across R xs (ys ++ zs) → Across R xs ys
  across_front R xs ys zs h = each_weaker (λ x. Each (R x) (ys ++ zs)) (λ x. Each (R x) ys) (λ x. each_front (R x) ys zs) xs h

  across_back : (R : X → X → Type 0) (xs ys zs : List X) → Across R xs (ys ++ zs) → Across R xs zs
  across_back R xs ys zs h = each_weaker (λ x. Each (R x) (ys ++ zs)) (λ x. Each (R x) zs) (λ x. each_back (R x) ys zs) xs h

  across_append : (R : X → X → Type 0) (xs ys zs : List X) → Across R xs ys → Across R xs zs → Across R xs (ys ++ zs)
  across_append R [] ys zs h k = tt
  across_append R (x ∷ xs) ys zs h k = (each_append (R x) ys zs h.0 k.0, across_append R xs ys zs h.1 k.1)

  pub across_flip : (R : X → X → Type 0) → ((x y : X) → R x y → R y x) → (xs ys : List X) → Across R xs ys → Across R ys xs
  across_flip R flip xs [] h = tt
  across_flip R flip xs (y ∷ ys) h = (
    each_weaker (λ x. Each (R x) (y ∷ ys)) (λ x. R y x) (λ x k. flip x y k.0) xs h,
    across_flip R flip xs ys (each_weaker (λ x. Each (R x) (y ∷ ys)) (λ x. Each (R x) ys) (λ x k. k.1) xs h),
  )

  -- at each two splits
  pub pairwise_splits : (R : X → X → Type 0) (xs : List X) → ((front between back : List X) (x y : X) → xs ≡ front ++ x ∷ (between ++ y ∷ back) → R x y) → Pairwise R xs
  pairwise_splits R [] h = tt
  pairwise_splits R (x ∷ xs) h = (
    each_splits (R x) xs (λ between back y e. h [] between back x y (ap (λ l. x ∷ l) e)),
    pairwise_splits R xs (λ front between back y z e. h (x ∷ front) between back y z (ap (λ l. x ∷ l) e)),
  )

  pub pairwise_filtered : (R : X → X → Type 0) (test : X → Bool) (xs : List X) → Pairwise R xs → Pairwise R (filter test xs)
  pairwise_filtered R test [] h = tt
  pairwise_filtered R test (x ∷ xs) h = by (test x) (pairwise_filtered R test xs h.1)
    where
      by : (b : Bool) → Pairwise R (filter test xs) → Pairwise R (cond b (x ∷ filter test xs) (filter test xs))
      by true rest = (each_filtered (R x) test xs h.0, rest)
      by false rest = rest

  each_pushed : (P : X → Type 0) (xs : List X) (x : X) → Each P xs → P x → Each P (xs ++ x ∷ [])
  each_pushed P xs x h k = each_append P xs (x ∷ []) h (k, tt)

  -- with one more element at the end
  pub pairwise_pushed : (R : X → X → Type 0) (xs : List X) (y : X) → Pairwise R xs → Each (λ x. R x y) xs → Pairwise R (xs ++ y ∷ [])
  pairwise_pushed R [] y h k = (tt, tt)
  pairwise_pushed R (x ∷ xs) y h k = (each_pushed (R x) xs y h.0 k.0, pairwise_pushed R xs y h.1 k.1)

  -- ---- In another order

  abbrev Apart : (X → X → Type 0) → List X → Type 0
  Apart R xs = (i j : ℕ) (d : X) → i ≢ j → i < length xs → j < length xs → R (get_or xs i d) (get_or xs j d)

  module _ (R : X → X → Type 0) (flip : (x y : X) → R x y → R y x) where
    apart_from : (xs : List X) → AllPairs R xs → Apart R xs
    apart_from xs h i j d differ within also =
        elim (cases_lt i j) [
          | inl lt ↦ h i j d lt also
          | inr le ↦ flip (get_or xs j d) (get_or xs i d) (h j i d (omega (arith, differ, le)) within)
        ]

    swapped : (l : List X) (a b : ℕ) → a < length l → b < length l → Apart R l → Apart R (swap l a b)
    swapped l a b la lb h i j d differ within also =
        let long = length-swap l a b in
        let li : i < length l = omega (arith, long) in
        let lj : j < length l = omega (arith, long) in
        let s = swap_places l (swap l a b) a b d la lb refl in
        let Goal = λ (x y : X). R x y in
        let at = λ (k : ℕ). get_or (swap l a b) k d in
        elim (cases_eq i a) [
          | inl ia ↦
              elim (cases_eq j b) [
                | inl jb ↦
                    let first : get_or l b d ≡ at i = sym (ap at ia ∙ s.0) in
                    let second : get_or l a d ≡ at j = sym (ap at jb ∙ s.1) in
                    subst (λ x. R x (at j)) first (subst (λ y. R (get_or l b d) y) second (h b a d (λ e. differ (ia ∙ sym e ∙ sym jb)) lb la))
                | inr jb ↦
                    let first : get_or l b d ≡ at i = sym (ap at ia ∙ s.0) in
                    let second : get_or l j d ≡ at j = sym (s.2 j (λ e. differ (ia ∙ sym e)) jb) in
                    subst (λ x. R x (at j)) first (subst (λ y. R (get_or l b d) y) second (h b j d (λ e. jb (sym e)) lb lj))
              ]
          | inr ia ↦
              elim (cases_eq i b) [
                | inl ib ↦
                    let first : get_or l a d ≡ at i = sym (ap at ib ∙ s.1) in
                    elim (cases_eq j a) [
                      | inl ja ↦
                          let second : get_or l b d ≡ at j = sym (ap at ja ∙ s.0) in
                          subst (λ x. R x (at j)) first (subst (λ y. R (get_or l a d) y) second (h a b d (λ e. ia (ib ∙ sym e)) la lb))
                      | inr ja ↦
                          let second : get_or l j d ≡ at j = sym (s.2 j ja (λ e. differ (ib ∙ sym e))) in
                          subst (λ x. R x (at j)) first (subst (λ y. R (get_or l a d) y) second (h a j d (λ e. ja (sym e)) la lj))
                    ]
                | inr ib ↦
                    let first : get_or l i d ≡ at i = sym (s.2 i ia ib) in
                    elim (cases_eq j a) [
                      | inl ja ↦
                          let second : get_or l b d ≡ at j = sym (ap at ja ∙ s.0) in
                          subst (λ x. R x (at j)) first (subst (λ y. R (get_or l i d) y) second (h i b d ib li lb))
                      | inr ja ↦
                          elim (cases_eq j b) [
                            | inl jb ↦
                                let second : get_or l a d ≡ at j = sym (ap at jb ∙ s.1) in
                                subst (λ x. R x (at j)) first (subst (λ y. R (get_or l i d) y) second (h i a d ia li la))
                            | inr jb ↦
                                let second : get_or l j d ≡ at j = sym (s.2 j ja jb) in
                                subst (λ x. R x (at j)) first (subst (λ y. R (get_or l i d) y) second (h i j d differ li lj))
                          ]
                    ]
              ]
        ]

    pub pairwise_permuted : (xs ys : List X) → IsPermutation xs ys → Pairwise R xs → Pairwise R ys
    pairwise_permuted xs ys s h =
        let apart : Apart R ys = IsPermutation-keeps xs (Apart R) (apart_from xs (all_pairs R xs h)) (λ l i j p q k. swapped l i j p q k) ys s in
        pairwise_all R ys (λ i j d lt within. apart i j d (λ e. omega (arith, e)) (omega arith) within)

pub pairwise_mapped : {X Y : Type 0} (R : Y → Y → Type 0) (f : X → Y) (xs : List X) → Pairwise (λ x y. R (f x) (f y)) xs → Pairwise R (map f xs)
pairwise_mapped R f [] h = tt
pairwise_mapped R f (x ∷ xs) h = (each_mapped (R (f x)) f xs h.0, pairwise_mapped R f xs h.1)

pub pairwise_of_mapped : {X Y : Type 0} (R : Y → Y → Type 0) (f : X → Y) (xs : List X) → Pairwise R (map f xs) → Pairwise (λ x y. R (f x) (f y)) xs
pairwise_of_mapped R f [] h = tt
pairwise_of_mapped R f (x ∷ xs) h = (each_of_mapped (R (f x)) f xs h.0, pairwise_of_mapped R f xs h.1)

-- no two are equal
pub distinct_from : {X K : Type 0} (e : K → K → Bool) (f : X → K) (xs : List X) → Pairwise (λ x y. e (f x) (f y) ≡ false) xs → IsDistinct e (map f xs)
unfolding IsDistinct
distinct_from e f [] h = tt
distinct_from e f (x ∷ xs) h = (each_mapped (λ k. e (f x) k ≡ false) f xs h.0, distinct_from e f xs h.1)

pub rising_pairs : {X : Type 0} (f : X → ℕ) (xs : List X) → IsStrictlyIncreasing (map f xs) → Pairwise (λ x y. f x < f y) xs
rising_pairs f xs h = pairwise_of_mapped (λ a b. a < b) f xs (pairwise_all (λ a b. a < b) (map f xs) (AllPairs-from_increasing (map f xs) h))

pub rising_from_pairs : {X : Type 0} (f : X → ℕ) (xs : List X) → Pairwise (λ x y. f x < f y) xs → IsStrictlyIncreasing (map f xs)
rising_from_pairs f xs h k within = all_pairs (λ a b. a < b) (map f xs) (pairwise_mapped (λ a b. a < b) f xs h) k (k + 1) 0 (omega arith) within

-- ---- Parts of a list

module _ {X Y : Type 0} (f : X → List Y) where
  pub each_flat : (P : Y → Type 0) (xs : List X) → Each (λ x. Each P (f x)) xs → Each P (flat_map f xs)
  each_flat P [] h = tt
  each_flat P (x ∷ xs) h = each_append P (f x) (flat_map f xs) h.0 (each_flat P xs h.1)

  module _ (R : Y → Y → Type 0) where
    -- all pairs of each part, and of each two parts
    pub record AreApart (xs : List X) : Type 0 where
      pub inner : Each (λ x. Pairwise R (f x)) xs
      pub outer : Pairwise (λ x y. Across R (f x) (f y)) xs

    across_parts : (ys : List Y) (xs : List X) → Each (λ x. Across R ys (f x)) xs → Across R ys (flat_map f xs)
    across_parts ys [] h = across_none R ys
    across_parts ys (x ∷ xs) h = across_append R ys (f x) (flat_map f xs) h.0 (across_parts ys xs h.1)

    parts_across : (ys : List Y) (xs : List X) → Across R ys (flat_map f xs) → Each (λ x. Across R ys (f x)) xs
    parts_across ys [] h = tt
    parts_across ys (x ∷ xs) h = (across_front R ys (f x) (flat_map f xs) h, parts_across ys xs (across_back R ys (f x) (flat_map f xs) h))

    pub parts_apart : (xs : List X) → Pairwise R (flat_map f xs) → AreApart xs
    parts_apart [] h = record { inner = tt; outer = tt }
    parts_apart (x ∷ xs) h =
        let rest = parts_apart xs (pairwise_back R (f x) (flat_map f xs) h) in
        record {
          inner = (pairwise_front R (f x) (flat_map f xs) h, rest.inner);
          outer = (parts_across (f x) xs (pairwise_across R (f x) (flat_map f xs) h), rest.outer);
        }

    pub apart_parts : (xs : List X) → AreApart xs → Pairwise R (flat_map f xs)
    apart_parts [] h = tt
    apart_parts (x ∷ xs) h =
        pairwise_append R (f x) (flat_map f xs) h.inner.0 (apart_parts xs (record { inner = h.inner.1; outer = h.outer.1 })) (across_parts (f x) xs h.outer.0)

    -- whichever order the parts have
    pub pairwise_reordered : ((a b : Y) → R a b → R b a) → (xs ys : List X) → IsPermutation xs ys → Pairwise R (flat_map f xs) → Pairwise R (flat_map f ys)
    pairwise_reordered flip xs ys s h =
        let parts = parts_apart xs h in
        let turned : (x y : X) → Across R (f x) (f y) → Across R (f y) (f x) = λ x y. across_flip R flip (f x) (f y) in
        apart_parts ys (record {
          inner = each_permuted (λ x. Pairwise R (f x)) xs ys s parts.inner;
          outer = pairwise_permuted (λ x y. Across R (f x) (f y)) turned xs ys s parts.outer;
        })

-- ---- Two lists side by side

module _ {X Y : Type 0} (Q : X → Y → Type 0) where
  pub zip_each : (P : X → Type 0) (S : Y → Type 0) → ((x : X) (y : Y) → Q x y → P x → S y) → (xs : List X) (ys : List Y) → AllZip Q xs ys → Each P xs → Each S ys
  zip_each P S f [] [] z h = tt
  zip_each P S f [] (y ∷ ys) z h = absurd z
  zip_each P S f (x ∷ xs) [] z h = absurd z
  zip_each P S f (x ∷ xs) (y ∷ ys) z h = (f x y z.0 h.0, zip_each P S f xs ys z.1 h.1)

  pub zip_pairs : (R : X → X → Type 0) (S : Y → Y → Type 0) → ((x z : X) (y w : Y) → Q x y → Q z w → R x z → S y w) → (xs : List X) (ys : List Y) → AllZip Q xs ys → Pairwise R xs → Pairwise S ys
  zip_pairs R S f [] [] z h = tt
  zip_pairs R S f [] (y ∷ ys) z h = absurd z
  zip_pairs R S f (x ∷ xs) [] z h = absurd z
  zip_pairs R S f (x ∷ xs) (y ∷ ys) z h = (across xs ys z.1 h.0, zip_pairs R S f xs ys z.1 h.1)
    where
      across : (us : List X) (ws : List Y) → AllZip Q us ws → Each (R x) us → Each (S y) ws
      across [] [] k g = tt
      across [] (w ∷ ws) k g = absurd k
      across (u ∷ us) [] k g = absurd k
      across (u ∷ us) (w ∷ ws) k g = (f x u y w z.0 k.0 g.0, across us ws k.1 g.1)

  pub zip_length : (xs : List X) (ys : List Y) → AllZip Q xs ys → length xs ≡ length ys
  zip_length [] [] z = refl
  zip_length [] (y ∷ ys) z = absurd z
  zip_length (x ∷ xs) [] z = absurd z
  zip_length (x ∷ xs) (y ∷ ys) z = ap suc (zip_length xs ys z.1)

  pub zip_append : (xs us : List X) (ys ws : List Y) → AllZip Q xs ys → AllZip Q us ws → AllZip Q (xs ++ us) (ys ++ ws)
  zip_append [] us [] ws z k = k
  zip_append [] us (y ∷ ys) ws z k = absurd z
  zip_append (x ∷ xs) us [] ws z k = absurd z
  zip_append (x ∷ xs) us (y ∷ ys) ws z k = (z.0, zip_append xs us ys ws z.1 k)

pub zip_flat : {X Y A B : Type 0} (Q : A → B → Type 0) (f : X → List A) (g : Y → List B) (xs : List X) (ys : List Y) → AllZip (λ x y. AllZip Q (f x) (g y)) xs ys → AllZip Q (flat_map f xs) (flat_map g ys)
zip_flat Q f g [] [] z = tt
zip_flat Q f g [] (y ∷ ys) z = absurd z
zip_flat Q f g (x ∷ xs) [] z = absurd z
zip_flat Q f g (x ∷ xs) (y ∷ ys) z = zip_append Q (f x) (flat_map f xs) (g y) (flat_map g ys) z.0 (zip_flat Q f g xs ys z.1)

pub zip_weaker : {X Y : Type 0} (Q S : X → Y → Type 0) → ((x : X) (y : Y) → Q x y → S x y) → (xs : List X) (ys : List Y) → AllZip Q xs ys → AllZip S xs ys
zip_weaker Q S f [] [] z = tt
zip_weaker Q S f [] (y ∷ ys) z = absurd z
zip_weaker Q S f (x ∷ xs) [] z = absurd z
zip_weaker Q S f (x ∷ xs) (y ∷ ys) z = (f x y z.0, zip_weaker Q S f xs ys z.1)

-- ---- What holds at each split

module _ {X : Type 0} where
  pushed : (front back : List X) (x : X) → (front ++ x ∷ []) ++ back ≡ front ++ x ∷ back
  pushed front back x = append_assoc front (x ∷ []) back

  module _ (test : X → Bool) (most : ℕ) where
    count_from : (all front back : List X) → all ≡ front ++ back → ((above below : List X) (x : X) → all ≡ above ++ x ∷ below → test x ≡ true → length (filter test above) < most)
        → length (filter test front) ≤ most → length (filter test (front ++ back)) ≤ most
    count_from all front [] whole h le = subst (λ l. length (filter test l) ≤ most) (sym (append-nil front)) le
    count_from all front (x ∷ back) whole h le =
        subst (λ l. length (filter test l) ≤ most) (pushed front back x)
        (count_from all (front ++ x ∷ []) back (whole ∙ sym (pushed front back x)) h (by (test x) refl))
      where
        by : (b : Bool) → test x ≡ b → length (filter test (front ++ x ∷ [])) ≤ most
        by true e =
            let lt = h front back x whole e in
            let is : length (filter test (front ++ x ∷ [])) ≡ length (filter test front ++ x ∷ []) = ap length (filter-append test front (x ∷ []) ∙ ap (λ t. filter test front ++ cond t (x ∷ []) []) e) in
            let long : length (filter test front ++ x ∷ []) ≡ length (filter test front) + 1 = length_push (filter test front) x in
            omega (arith, lt, is, long)
        by false e =
            subst (λ l. length l ≤ most) (sym (filter-append test front (x ∷ []) ∙ ap (λ t. filter test front ++ cond t (x ∷ []) []) e ∙ append-nil (filter test front))) le

    -- where each that passes has fewer above it, no more pass
    pub few : (all : List X) → ((above below : List X) (x : X) → all ≡ above ++ x ∷ below → test x ≡ true → length (filter test above) < most) → length (filter test all) ≤ most
    few all h = count_from all [] all refl h (omega arith)

  module _ {Y : Type 0} (f : X → Option Y) (same : Y → Y → Bool) where
    none_any : (ys : List Y) (y : Y) → list_any (λ z. same z y) ys ≡ false → Each (λ z. same z y ≡ false) ys
    none_any [] y h = tt
    none_any (z ∷ ys) y h = by (same z y) refl h (none_any ys y)
      where
        by : (b : Bool) → same z y ≡ b → (b || list_any (λ w. same w y) ys) ≡ false → (list_any (λ w. same w y) ys ≡ false → Each (λ w. same w y ≡ false) ys)
            → (same z y ≡ false) × Each (λ w. same w y ≡ false) ys
        by true e k rest = absurd cc
        by false e k rest = (e, rest k)

    AreNew : List X → Type 0
    AreNew all = (above below : List X) (x : X) (y : Y) → all ≡ above ++ x ∷ below → f x ≡ Some y → list_any (λ z. same z y) (filter_map f above) ≡ false

    new_from : (all front back : List X) → all ≡ front ++ back → AreNew all → Pairwise (λ y z. same y z ≡ false) (filter_map f front) → Pairwise (λ y z. same y z ≡ false) (filter_map f (front ++ back))
    unfolding AreNew
    new_from all front [] whole h k = subst (λ l. Pairwise (λ y z. same y z ≡ false) (filter_map f l)) (sym (append-nil front)) k
    new_from all front (x ∷ back) whole h k =
        subst (λ l. Pairwise (λ y z. same y z ≡ false) (filter_map f l)) (pushed front back x)
        (new_from all (front ++ x ∷ []) back (whole ∙ sym (pushed front back x)) h
        (subst (Pairwise (λ y z. same y z ≡ false)) (sym (filter_map-append f front (x ∷ []))) (by (f x) refl)))
      where
        by : (o : Option Y) → f x ≡ o → Pairwise (λ y z. same y z ≡ false) (filter_map f front ++ cons_option o [])
        by None e = subst (Pairwise (λ y z. same y z ≡ false)) (sym (append-nil (filter_map f front))) k
        by (Some y) e = pairwise_pushed (λ a b. same a b ≡ false) (filter_map f front) y k (none_any (filter_map f front) y (h front back x y whole e))

    -- where none above is the same, no two are
    pub all_new : (all : List X) → ((above below : List X) (x : X) (y : Y) → all ≡ above ++ x ∷ below → f x ≡ Some y → list_any (λ z. same z y) (filter_map f above) ≡ false)
        → Pairwise (λ y z. same y z ≡ false) (filter_map f all)
    unfolding AreNew
    all_new all h = new_from all [] all refl h tt

    pub each_given : (P : Y → Type 0) (all : List X) → ((above below : List X) (x : X) (y : Y) → all ≡ above ++ x ∷ below → f x ≡ Some y → P y) → Each P (filter_map f all)
    each_given P [] h = tt
    each_given P (x ∷ all) h = by (f x) refl (each_given P all (λ above below z y e is. h (x ∷ above) below z y (ap (λ l. x ∷ l) e) is))
      where
        by : (o : Option Y) → f x ≡ o → Each P (filter_map f all) → Each P (cons_option o (filter_map f all))
        by None e rest = rest
        by (Some y) e rest = (h [] all x y refl e, rest)

-- ---- What a function gives

module _ {X Y : Type 0} (f : X → Option Y) where
  pub each_of : (P : X → Type 0) (Q : Y → Type 0) → ((x : X) (y : Y) → f x ≡ Some y → P x → Q y) → (xs : List X) → Each P xs → Each Q (filter_map f xs)
  each_of P Q g [] h = tt
  each_of P Q g (x ∷ xs) h = by (f x) refl (each_of P Q g xs h.1)
    where
      by : (o : Option Y) → f x ≡ o → Each Q (filter_map f xs) → Each Q (cons_option o (filter_map f xs))
      by None e rest = rest
      by (Some y) e rest = (g x y e h.0, rest)

  pub pairs_of : (R : X → X → Type 0) (S : Y → Y → Type 0) → ((x z : X) (y w : Y) → f x ≡ Some y → f z ≡ Some w → R x z → S y w) → (xs : List X) → Pairwise R xs → Pairwise S (filter_map f xs)
  pairs_of R S g [] h = tt
  pairs_of R S g (x ∷ xs) h = by (f x) refl (pairs_of R S g xs h.1)
    where
      by : (o : Option Y) → f x ≡ o → Pairwise S (filter_map f xs) → Pairwise S (cons_option o (filter_map f xs))
      by None e rest = rest
      by (Some y) e rest = (each_of (R x) (S y) (λ z w is r. g x z y w e is r) xs h.0, rest)

-- no two are equal
pub distinct_pairs : {K : Type 0} (e : K → K → Bool) (ks : List K) → Pairwise (λ x y. e x y ≡ false) ks → IsDistinct e ks
unfolding IsDistinct
distinct_pairs e [] h = tt
distinct_pairs e (k ∷ ks) h = (h.0, distinct_pairs e ks h.1)

pub pairs_of_distinct : {K : Type 0} (e : K → K → Bool) (ks : List K) → IsDistinct e ks → Pairwise (λ x y. e x y ≡ false) ks
unfolding IsDistinct
pairs_of_distinct e [] h = tt
pairs_of_distinct e (k ∷ ks) h = (h.0, pairs_of_distinct e ks h.1)

-- ---- Two facts at once

module _ {X : Type 0} where
  pub each_and : (P Q : X → Type 0) (xs : List X) → Each P xs → Each Q xs → Each (λ x. P x × Q x) xs
  each_and P Q [] h k = tt
  each_and P Q (x ∷ xs) h k = ((h.0, k.0), each_and P Q xs h.1 k.1)

  pub each_get : (P : X → Type 0) (xs : List X) (i : ℕ) (x : X) → Each P xs → slice_get xs i ≡ Some x → P x
  each_get P [] i x h e = absurd cc
  each_get P (y ∷ xs) zero x h e = let is : y ≡ x = cc in subst P is h.0
  each_get P (y ∷ xs) (suc i) x h e = each_get P xs i x h.1 e

  pub get_within : (xs : List X) (i : ℕ) (x : X) → slice_get xs i ≡ Some x → i < length xs
  get_within [] i x e = absurd cc
  get_within (y ∷ xs) zero x e = omega arith
  get_within (y ∷ xs) (suc i) x e = let below = get_within xs i x e in omega (arith, below)

  -- what holds of each, and of each two
  pub pairwise_each : (P : X → Type 0) (R S : X → X → Type 0) → ((x y : X) → P x → P y → R x y → S x y) → (xs : List X) → Each P xs → Pairwise R xs → Pairwise S xs
  pairwise_each P R S f [] h k = tt
  pairwise_each P R S f (x ∷ xs) h k = (
    each_weaker (λ y. P y × R x y) (S x) (λ y g. f x y h.0 g.0 g.1) xs (each_and P (R x) xs h.1 k.0),
    pairwise_each P R S f xs h.1 k.1,
  )
