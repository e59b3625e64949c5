-- Tests on lists of bytes, and steps of readings that may fail.
use Rattle.std.proofs.Common.{◌≡◌, ◌≢◌, ℕ, ◌≤◌, Bool, true, false, cond, not, ◌&&◌, ◌||◌, List, [], ◌∷◌, refl, sym, ap, ◌∙◌, Some, None, arith}
use Rattle.std.specs.Prelude.{Option, option_and_then, nat_le, bytes_eq}
use Rattle.std.specs.Option.{option_map}
use Rattle.std.specs.List.{list_all, list_any, AllByRecursion}
use Rattle.std.proofs.lemmas.Slice.Eq.{bytes_eq-Decides}
use Rattle.std.proofs.lemmas.Bool.Decides.{nat_tests}
use Rattle.std.proofs.lemmas.Option.{cond_some}
use Rattle.sp_first.specs.Reading.{Line, word, at_end, literal}

pub bytes_eq-refl : (xs : List ℕ) → bytes_eq xs xs ≡ true
bytes_eq-refl xs = (bytes_eq-Decides xs xs).1 refl

pub same_bytes : (xs ys : List ℕ) → bytes_eq xs ys ≡ true → xs ≡ ys
same_bytes xs ys h = (bytes_eq-Decides xs ys).0 h

pub both : (a b : Bool) → (a && b) ≡ true → (a ≡ true) × (b ≡ true)
both true b h = (refl, h)
both false b h = cc

pub and_true : (a b : Bool) → a ≡ true → b ≡ true → (a && b) ≡ true
and_true a b h g = rw (h, g) refl

pub both3 : (a b c : Bool) → (a && b && c) ≡ true → (a ≡ true) × (b ≡ true) × (c ≡ true)
both3 a b c h = let last = both (a && b) c h in let first = both a b last.0 in (first.0, first.1, last.1)

pub and3_true : (a b c : Bool) → a ≡ true → b ≡ true → c ≡ true → (a && b && c) ≡ true
and3_true a b c h g f = and_true (a && b) c (and_true a b h g) f

pub both4 : (a b c d : Bool) → (a && b && c && d) ≡ true → (a ≡ true) × (b ≡ true) × (c ≡ true) × (d ≡ true)
both4 a b c d h = let last = both (a && b && c) d h in let first = both3 a b c last.0 in (first.0, first.1, first.2, last.1)

pub and4_true : (a b c d : Bool) → a ≡ true → b ≡ true → c ≡ true → d ≡ true → (a && b && c && d) ≡ true
and4_true a b c d h g f e = and_true (a && b && c) d (and3_true a b c h g f) e

pub le_true : (a b : ℕ) → a ≤ b → nat_le a b ≡ true
le_true a b h = grind (arith, nat_tests)

pub le_from_true : (a b : ℕ) → nat_le a b ≡ true → a ≤ b
le_from_true a b h = grind (arith, nat_tests)

pub all_true : {X : Type 0} (P : X → Type 0) (p : X → Bool) → ((x : X) → P x → p x ≡ true) → (xs : List X) → AllByRecursion P xs → list_all p xs ≡ true
all_true P p same [] h = refl
all_true P p same (x ∷ xs) h = and_true (p x) (list_all p xs) (same x h.0) (all_true P p same xs h.1)

pub all_from_true : {X : Type 0} (P : X → Type 0) (p : X → Bool) → ((x : X) → p x ≡ true → P x) → (xs : List X) → list_all p xs ≡ true → AllByRecursion P xs
all_from_true P p same [] h = tt
all_from_true P p same (x ∷ xs) h = let parts = both (p x) (list_all p xs) h in (same x parts.0, all_from_true P p same xs parts.1)

-- no word of the list is this one
pub none_equal : (name : List ℕ) (ws : List (List ℕ)) → AllByRecursion (λ w. name ≢ w) ws → not (list_any (bytes_eq name) ws) ≡ true
none_equal name [] h = refl
none_equal name (w ∷ ws) h =
    elim (bytes_eq name w) as (λ b. bytes_eq name w ≡ b → not (b || list_any (bytes_eq name) ws) ≡ true) [
      | true ↦ λ e. absurd (h.0 (same_bytes name w e))
      | false ↦ λ e. none_equal name ws h.1
    ] refl

pub none_equal_from : (name : List ℕ) (ws : List (List ℕ)) → not (list_any (bytes_eq name) ws) ≡ true → AllByRecursion (λ w. name ≢ w) ws
none_equal_from name [] h = tt
none_equal_from name (w ∷ ws) h =
    elim (bytes_eq name w) as (λ b. bytes_eq name w ≡ b → not (b || list_any (bytes_eq name) ws) ≡ true → AllByRecursion (λ v. name ≢ v) (w ∷ ws)) [
      | true ↦ λ e n. cc
      | false ↦ λ e n. (λ same. let clash : true ≡ false = sym (bytes_eq-refl name) ∙ ap (bytes_eq name) same ∙ e in cc, none_equal_from name ws n)
    ] refl h

-- a step that gave something
pub step_some : {A B : Type 0} (f : A → Option B) (o : Option A) (y : B) → option_and_then f o ≡ Some y → (x : A) × (o ≡ Some x) × (f x ≡ Some y)
step_some f None y h = cc
step_some f (Some x) y h = (x, refl, h)

pub mapped_some : {A B : Type 0} (f : A → B) (o : Option A) (y : B) → option_map f o ≡ Some y → (x : A) × (o ≡ Some x) × (f x ≡ y)
mapped_some f None y h = cc
mapped_some f (Some x) y h = (x, refl, (cond_some true (f x) y h).1)

pub chosen_some : {A : Type 0} (b : Bool) (o : Option A) (y : A) → cond b o None ≡ Some y → (b ≡ true) × (o ≡ Some y)
chosen_some true o y h = (refl, h)
chosen_some false o y h = cc

pub same_some : {A : Type 0} (x y : A) → Some x ≡ Some y → x ≡ y
same_some x y h = (cond_some true x y h).1

pub literal_is : (text : List ℕ) (ws : Line) → literal text (text ∷ ws) ≡ Some ws
unfolding literal
literal_is text ws = ap (λ b. cond b (Some ws) None) (bytes_eq-refl text)

pub literal_some : (text : List ℕ) (ws rest : Line) → literal text ws ≡ Some rest → ws ≡ text ∷ rest
unfolding literal
literal_some text [] rest h = cc
literal_some text (w ∷ ws) rest h =
    let parts = cond_some (bytes_eq w text) ws rest h in
    ap (λ v. v ∷ ws) (same_bytes w text parts.0) ∙ ap (λ r. text ∷ r) parts.1

pub at_end_nil : (ws : Line) → at_end ws ≡ true → ws ≡ []
at_end_nil [] h = refl
at_end_nil (w ∷ ws) h = cc

pub word_some : (ws : Line) (p : List ℕ × Line) → word ws ≡ Some p → ws ≡ p.0 ∷ p.1
word_some [] p h = cc
word_some (w ∷ ws) p h = let same = same_some (w, ws) p h in ap (λ (q : List ℕ × Line). q.0 ∷ q.1) same
