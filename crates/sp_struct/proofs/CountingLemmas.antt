-- Counting the numbers that pass a test.
use Rattle.std.proofs.Common.{◌≡◌, ◌<◌, ◌≤◌, ◌+◌, ℕ, zero, suc, inl, inr, arith, Bool, true, false, cond, refl}
use Rattle.std.proofs.lemmas.Bool.{cases_order}

-- how many of the first numbers pass a test
unfoldable pub count : (ℕ → Bool) → ℕ → ℕ
count f zero = 0
count f (suc n) = count f n + cond (f n) 1 0

one_bit : (a b : Bool) → (a ≡ true → b ≡ true) → cond a 1 0 ≤ cond b 1 0
one_bit false false h = omega arith
one_bit false true h = omega arith
one_bit true true h = omega arith
one_bit true false h = absurd (let e = h refl in cc e)

module _ (f g : ℕ → Bool) (within : (i : ℕ) → f i ≡ true → g i ≡ true) where
  grows : (n : ℕ) → count f n ≤ count g n
  unfolding count
  grows zero = omega arith
  grows (suc n) = let before = grows n in let here = one_bit (f n) (g n) (within n) in omega (arith, before, here)

  pub more : (n k : ℕ) → k < n → g k ≡ true → f k ≡ false → count f n < count g n
  unfolding count
  more zero k l e h = absurd (omega arith)
  more (suc n) k l e h = elim (cases_order k n) as (λ o. count f (suc n) < count g (suc n)) [
    | inl same ↦
        let before = grows n in
        let yes : g n ≡ true = rw same at e in
        let no : f n ≡ false = rw same at h in rw (yes, no) (omega (arith, before))
    | inr o ↦ elim o as (λ o. count f (suc n) < count g (suc n)) [
      | inl low ↦ let before = more n k low e h in let here = one_bit (f n) (g n) (within n) in omega (arith, before, here)
      | inr high ↦ absurd (omega (arith, l, high))
    ]
  ]
