-- Bytes of an image between two addresses.
use Rattle.std.proofs.Common.{◌≡◌, inl, inr, ℕ, ◌<◌, ◌≤◌, nat_le, Bool, true, false, ◌&&◌, ◌||◌, List, [], ◌∷◌, Some, None, is_some, refl, sym, ap, ◌∙◌, arith, rules}
use Rattle.std.specs.List.{list_any}
use Rattle.std.specs.Ordering.{nat_cmp, eq_by_cmp}
use Rattle.std.specs.FinMap as maps
use Rattle.std.proofs.lemmas.Bool.{cases_lt}
use Rattle.sp_base.specs.Image.{ImageMap, NextByte, NoByteFrom}
use Rattle.sp_unit.specs.Faults.{meets}

tied : (a b : ℕ) → eq_by_cmp nat_cmp a b ≡ true → a ≡ b
tied a b h = search rules

ties : (a : ℕ) → eq_by_cmp nat_cmp a a ≡ true
ties a = search rules

-- a key that passes, and none that does
pub any_key : (p : ℕ → Bool) (ks : List ℕ) (q : ℕ) → list_any (eq_by_cmp nat_cmp q) ks ≡ true → p q ≡ true → list_any p ks ≡ true
any_key p [] q h passes = absurd cc
any_key p (k ∷ ks) q h passes = by (eq_by_cmp nat_cmp q k) (p k) refl refl h (any_key p ks q)
  where
    by : (t u : Bool) → eq_by_cmp nat_cmp q k ≡ t → p k ≡ u → (t || list_any (eq_by_cmp nat_cmp q) ks) ≡ true
        → (list_any (eq_by_cmp nat_cmp q) ks ≡ true → p q ≡ true → list_any p ks ≡ true) → (u || list_any p ks) ≡ true
    by t true e f g more = refl
    by true false e f g more = let wrong : true ≡ false = sym passes ∙ ap p (tied q k e) ∙ f in absurd cc
    by false false e f g more = more g passes

no_key : (p : ℕ → Bool) (ks : List ℕ) → ((q : ℕ) → list_any (eq_by_cmp nat_cmp q) ks ≡ true → p q ≡ false) → list_any p ks ≡ false
no_key p [] h = refl
no_key p (k ∷ ks) h =
    ap (λ t. t || list_any p ks) (h k (ap (λ t. t || list_any (eq_by_cmp nat_cmp k) ks) (ties k)))
    ∙ no_key p ks (λ q there. h q (either (eq_by_cmp nat_cmp q k) there))
  where
    either : (t : Bool) {u : Bool} → u ≡ true → (t || u) ≡ true
    either true e = refl
    either false e = e

module _ (image : ImageMap) where
  among : (q : ℕ) → maps.contains_key image q ≡ list_any (eq_by_cmp nat_cmp q) (maps.keys image)
  among q = maps.contains_key-keys image q

  pub present : (q byte : ℕ) → maps.get image q ≡ Some byte → list_any (eq_by_cmp nat_cmp q) (maps.keys image) ≡ true
  present q byte is = sym (among q) ∙ ap is_some is

  absent : (q : ℕ) → maps.get image q ≡ None → list_any (eq_by_cmp nat_cmp q) (maps.keys image) ≡ true → ⊥
  absent q none there = let wrong : true ≡ false = sym there ∙ sym (among q) ∙ ap is_some none in cc

  le_false : (a b : ℕ) → b < a → nat_le a b ≡ false
  le_false a b lt = search rules

  pub le_true : (a b : ℕ) → a ≤ b → nat_le a b ≡ true
  le_true a b le = search rules

  and_false : (t : Bool) → (t && false) ≡ false
  and_false true = refl
  and_false false = refl

  -- an address that isn't between the two
  outside : (first last q : ℕ) → (first ≤ q → q ≤ last → ⊥) → (nat_le first q && nat_le q last) ≡ false
  outside first last q apart =
      elim (cases_lt q first) [
        | inl lt ↦ ap (λ t. t && nat_le q last) (le_false first q lt)
        | inr low ↦
            elim (cases_lt last q) [
              | inl lt ↦ ap (λ t. nat_le first q && t) (le_false q last lt) ∙ and_false (nat_le first q)
              | inr high ↦ absurd (apart low high)
            ]
      ]

  abbrev within : ℕ → ℕ → ℕ → Bool
  within first last a = nat_le first a && nat_le a last

  pub meets_none : (first last : ℕ) → NoByteFrom image first → false ≡ meets image first last
  meets_none first last h =
      sym (no_key (within first last) (maps.keys image) (λ q there. outside first last q (λ low high. absent q (h q low) there)))

  pub meets_some : (first last : ℕ) (byte : ℕ × ℕ) → NextByte image first byte → nat_le byte.0 last ≡ meets image first last
  meets_some first last byte h =
      elim (cases_lt last byte.0) [
        | inl lt ↦
            le_false byte.0 last lt
            ∙ sym (no_key (within first last) (maps.keys image)
            (λ q there. outside first last q (λ low high. absent q (h.least q low (omega (arith, lt, high))) there)))
        | inr le ↦
            le_true byte.0 last le
            ∙ sym (any_key (within first last) (maps.keys image) byte.0 (present byte.0 byte.1 h.there)
            (ap (λ t. t && nat_le byte.0 last) (le_true first byte.0 h.from_there) ∙ le_true byte.0 last le))
      ]
