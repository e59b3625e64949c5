-- Two lists whose elements are alike, place by place.
use Rattle.std.proofs.Common.{◌≡◌, ℕ, ◌+◌, Bool, List, [], ◌∷◌, length, map, Option, Some, None, refl, sym, ap, ◌∙◌, cond, not, suc, nat_lt}
use Rattle.std.specs.Prelude.{slice_get, Contains}
use Rattle.std.specs.List.{position, position_or_len}
use Rattle.std.specs.Option.{option_map}
use Rattle.std.proofs.lemmas.Option.{slice_get-map, slice_get_read, slice_get_within, get_or_from_slice_get}

some_of : {A B : Type 0} (f : A → B) (o : Option A) (y : B) → option_map f o ≡ Some y → (x : A) × (o ≡ Some x) × (f x ≡ y)
some_of f None y e = absurd cc
some_of f (Some x) y e = let is : f x ≡ y = cc in (x, refl, is)

module _ {A B : Type 0} (f : A → B) where
  pub head_like : (x y : A) (xs ys : List A) → map f (x ∷ xs) ≡ map f (y ∷ ys) → f x ≡ f y
  head_like x y xs ys e = let h : f x ∷ map f xs ≡ f y ∷ map f ys = e in cc

  pub tail_like : (x y : A) (xs ys : List A) → map f (x ∷ xs) ≡ map f (y ∷ ys) → map f xs ≡ map f ys
  tail_like x y xs ys e = let h : f x ∷ map f xs ≡ f y ∷ map f ys = e in cc

  pub none_like : {C : Type 0} (y : A) (ys : List A) → map f [] ≡ map f (y ∷ ys) → C
  none_like y ys e = let h : [] ≡ f y ∷ map f ys = e in absurd cc

  pub none_left : {C : Type 0} (y : A) (ys : List A) → map f (y ∷ ys) ≡ map f [] → C
  none_left y ys e = none_like y ys (sym e)

  -- what stands at a place of one has its like there in the other
  pub found : (xs ys : List A) → map f xs ≡ map f ys → (i : ℕ) (x : A) → slice_get xs i ≡ Some x → (y : A) × (slice_get ys i ≡ Some y) × (f y ≡ f x)
  found xs ys e i x at =
      some_of f (slice_get ys i) (f x)
      (sym (slice_get-map f ys i) ∙ ap (λ zs. slice_get zs i) (sym e) ∙ slice_get-map f xs i ∙ ap (option_map f) at)

  pub missing : (xs ys : List A) → map f xs ≡ map f ys → (i : ℕ) → slice_get xs i ≡ None → slice_get ys i ≡ None
  missing xs ys e i at =
      none_of (slice_get ys i) (sym (slice_get-map f ys i) ∙ ap (λ zs. slice_get zs i) (sym e) ∙ slice_get-map f xs i ∙ ap (option_map f) at)
    where
      none_of : (o : Option A) → option_map f o ≡ None → o ≡ None
      none_of None e = refl
      none_of (Some x) e = absurd cc

  pub same_length : (xs ys : List A) → map f xs ≡ map f ys → length xs ≡ length ys
  same_length [] [] e = refl
  same_length [] (y ∷ ys) e = none_like y ys e
  same_length (x ∷ xs) [] e = none_left x xs e
  same_length (x ∷ xs) (y ∷ ys) e = ap suc (same_length xs ys (tail_like x y xs ys e))

  -- a function that is the same of elements that are alike
  pub maps_like : {C : Type 0} (g : A → C) → ((x y : A) → f x ≡ f y → g x ≡ g y) → (xs ys : List A) → map f xs ≡ map f ys → map g xs ≡ map g ys
  maps_like g same [] [] e = refl
  maps_like g same [] (y ∷ ys) e = none_like y ys e
  maps_like g same (x ∷ xs) [] e = none_left x xs e
  maps_like g same (x ∷ xs) (y ∷ ys) e =
      let first = same x y (head_like x y xs ys e) in
      let rest = maps_like g same xs ys (tail_like x y xs ys e) in
      λ i. first i ∷ rest i

  places_like : (test : A → Bool) → ((x y : A) → f x ≡ f y → test x ≡ test y) → (xs ys : List A) → map f xs ≡ map f ys
      → position_or_len test xs ≡ position_or_len test ys
  places_like test same [] [] e = refl
  places_like test same [] (y ∷ ys) e = none_like y ys e
  places_like test same (x ∷ xs) [] e = none_left x xs e
  places_like test same (x ∷ xs) (y ∷ ys) e =
      let first = same x y (head_like x y xs ys e) in
      let rest = places_like test same xs ys (tail_like x y xs ys e) in
      λ i. cond (not (first i)) (1 + rest i) 0

  -- the first place at which a test passes
  pub positions_like : (test : A → Bool) → ((x y : A) → f x ≡ f y → test x ≡ test y) → (xs ys : List A) → map f xs ≡ map f ys
      → position test xs ≡ position test ys
  positions_like test same xs ys e =
      let places = places_like test same xs ys e in
      let sizes = same_length xs ys e in
      λ i. cond (nat_lt (places i) (sizes i)) (Some (places i)) None

  pub contained_like : (xs ys : List A) → map f xs ≡ map f ys → (x : A) → Contains xs x → (y : A) × Contains ys y × (f y ≡ f x)
  contained_like xs ys e x (k, within, is) =
      let y = found xs ys e k x (slice_get_read xs (length xs) k x refl within (sym is)) in
      (y.0, (k, slice_get_within ys k y.0 y.1, get_or_from_slice_get ys k y.0 y.0 y.1), y.2)
