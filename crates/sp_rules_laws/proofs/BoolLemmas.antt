-- Truth values, and lists of which each element has a property.
use Rattle.std.proofs.Common.{zero, suc, ◌≡◌, refl, sym, Bool, true, false, not, true≢false, List, [], ◌∷◌, ◌++◌, map, Option, Some, None, arith}
use Rattle.std.specs.Prelude.{◌&&◌, ◌||◌, if◌then◌else◌, All}
use Rattle.std.specs.List.{AllByRecursion}

pub same_some : {A : Type 0} (x y : A) → Some x ≡ Some y → x ≡ y
same_some x y h = cc

pub none_some : {A : Type 0} {P : Type 0} (x : A) → None ≡ Some x → P
none_some x h = absurd (cc)

-- what an `if` gives, where it gives something
pub if_some : {A : Type 0} (b : Bool) (x : Option A) (y : A) → (if b then x else None) ≡ Some y → (b ≡ true) × (x ≡ Some y)
if_some true x y h = (refl, h)
if_some false x y h = none_some y h

pub and_from : (a b : Bool) → a ≡ true → b ≡ true → a && b ≡ true
and_from true b h k = k
and_from false b h k = h

pub and_left : (a b : Bool) → a && b ≡ true → a ≡ true
and_left true b h = refl
and_left false b h = h

pub and_right : (a b : Bool) → a && b ≡ true → b ≡ true
and_right true b h = h
and_right false b h = absurd (true≢false (sym h))

pub or_left : (a b : Bool) → a ≡ true → a || b ≡ true
or_left true b h = refl
or_left false b h = absurd (true≢false (sym h))

pub or_right : (a b : Bool) → b ≡ true → a || b ≡ true
or_right true b h = refl
or_right false b h = h

pub or_cases : {P : Type 0} (a b : Bool) → a || b ≡ true → (a ≡ true → P) → (b ≡ true → P) → P
or_cases true b h f g = f refl
or_cases false b h f g = g h

pub implies_from : (a b : Bool) → (a ≡ true → b ≡ true) → not a || b ≡ true
implies_from true b h = h refl
implies_from false b h = refl

pub implies_to : (a b : Bool) → not a || b ≡ true → a ≡ true → b ≡ true
implies_to true b h k = h
implies_to false b h k = absurd (true≢false (sym k))

pub not_from : (a : Bool) → (a ≡ true → false ≡ true) → not a ≡ true
not_from true h = h refl
not_from false h = refl

pub not_to : (a : Bool) → not a ≡ true → a ≡ true → false ≡ true
not_to true h k = h
not_to false h k = k

pub iff_from : (a b : Bool) → not a || b ≡ true → not b || a ≡ true → (if a then b else not b) ≡ true
iff_from true b h k = h
iff_from false true h k = k
iff_from false false h k = refl

pub iff_left : (a b : Bool) → (if a then b else not b) ≡ true → not a || b ≡ true
iff_left true b h = h
iff_left false b h = refl

pub iff_right : (a b : Bool) → (if a then b else not b) ≡ true → not b || a ≡ true
iff_right true true h = refl
iff_right true false h = refl
iff_right false true h = h
iff_right false false h = refl

pub either : {P : Type 0} (a : Bool) → (a ≡ true → P) → (not a ≡ true → P) → P
either true f g = f refl
either false f g = g refl

-- ---- lists
pub every : {A : Type 0} (P : A → Type 0) (xs : List A) → All P xs → AllByRecursion P xs
every P [] h = tt
every P (x ∷ xs) h = (h 0 x (omega arith), every P xs (λ k d l. h (suc k) d (omega (arith, l))))

pub all_of : {A : Type 0} (P : A → Type 0) (xs : List A) → AllByRecursion P xs → All P xs
all_of P [] h k d l = absurd (omega (arith, l))
all_of P (x ∷ xs) h zero d l = h.0
all_of P (x ∷ xs) h (suc k) d l = all_of P xs h.1 k d (omega (arith, l))

pub append : {A : Type 0} (P : A → Type 0) (xs ys : List A) → AllByRecursion P xs → AllByRecursion P ys → AllByRecursion P (xs ++ ys)
append P [] ys h k = k
append P (x ∷ xs) ys h k = (h.0, append P xs ys h.1 k)

pub front : {A : Type 0} (P : A → Type 0) (xs ys : List A) → AllByRecursion P (xs ++ ys) → AllByRecursion P xs
front P [] ys h = tt
front P (x ∷ xs) ys h = (h.0, front P xs ys h.1)

pub back : {A : Type 0} (P : A → Type 0) (xs ys : List A) → AllByRecursion P (xs ++ ys) → AllByRecursion P ys
back P [] ys h = h
back P (x ∷ xs) ys h = back P xs ys h.1

pub mapped : {A B : Type 0} (P : B → Type 0) (f : A → B) (xs : List A) → AllByRecursion P (map f xs) → AllByRecursion (λ x. P (f x)) xs
mapped P f [] h = tt
mapped P f (x ∷ xs) h = (h.0, mapped P f xs h.1)

pub changed : {A : Type 0} (P Q : A → Type 0) → ((x : A) → P x → Q x) → (xs : List A) → AllByRecursion P xs → AllByRecursion Q xs
changed P Q f [] h = tt
changed P Q f (x ∷ xs) h = (f x h.0, changed P Q f xs h.1)
