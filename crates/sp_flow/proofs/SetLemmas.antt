-- Bits of two sets.
use Rattle.std.proofs.Common.{◌≡◌, ◌≤◌, ◌<◌, ◌^◌, ◌-◌, ℕ, min, max, ◌⊎◌, inl, inr, arith, ◌↔◌}
use Rattle.std.specs.Int.{bit_at}
use Rattle.std.specs.Int.Bits.{bit_or, bit_and}
use Rattle.std.specs.Int.{bit_not}
use Rattle.std.proofs.Common.{w16}
use Rattle.std.proofs.lemmas.Bool.{cases_order}
use Rattle.std.proofs.lemmas.Nat.Bits.{bit_at_or, bit_at_and, bit_at_not, bit_at_above, bit_at-lt}
use Rattle.sp_flow.specs.Unset.{Has}

max_one : (a b : ℕ) → a < 2 → b < 2 → (max a b ≡ 1) ↔ ((a ≡ 1) ⊎ (b ≡ 1))
max_one a b l m = grind arith

pub has_both : (a b x : ℕ) → Has x (bit_or a b) ↔ (Has x a ⊎ Has x b)
has_both a b x = rw bit_at_or (max_one (bit_at a x) (bit_at b x) (bit_at-lt a x) (bit_at-lt b x))

min_one : (a b : ℕ) → a < 2 → b < 2 → (min a (1 - b) ≡ 1) ↔ ((a ≡ 1) × (b ≡ 1 → ⊥))
min_one a b l m = ((λ e. (omega arith, λ f. omega arith)), λ p. grind (arith, p.0, p.1))

pub has_without_below : (a b x : ℕ) → b < 2 ^ 16 → x < 16 → Has x (bit_and a (bit_not w16 b)) ↔ (Has x a × (Has x b → ⊥))
has_without_below a b x m h = rw (bit_at_and, bit_at_not w16 b x m h) (min_one (bit_at a x) (bit_at b x) (bit_at-lt a x) (bit_at-lt b x))

pub has_without_above : (a b c x : ℕ) → a < 2 ^ 16 → 16 ≤ x → Has x (bit_and a c) ↔ (Has x a × (Has x b → ⊥))
has_without_above a b c x l h =
    let none : bit_at a x ≡ 0 = bit_at_above a 16 x l h in
    ((λ e. let f : min (bit_at a x) (bit_at c x) ≡ 1 = rw bit_at_and at e in absurd (omega arith)), λ p. let one : bit_at a x ≡ 1 = p.0 in absurd (omega arith))

pub has_without : (a b x : ℕ) → a < 2 ^ 16 → b < 2 ^ 16 → Has x (bit_and a (bit_not w16 b)) ↔ (Has x a × (Has x b → ⊥))
has_without a b x l m =
    elim (cases_order x 16) as (λ o. Has x (bit_and a (bit_not w16 b)) ↔ (Has x a × (Has x b → ⊥))) [
      | inl e ↦ has_without_above a b (bit_not w16 b) x l (omega arith)
      | inr o ↦ elim o [ inl h ↦ has_without_below a b x m h | inr h ↦ has_without_above a b (bit_not w16 b) x l (omega arith) ]
    ]
