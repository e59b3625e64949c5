-- Routines at different addresses, in order of their addresses.
use Rattle.std.proofs.Common.{◌≢◌, ℕ, ◌<◌, ◌≤◌, arith, List, map, get_or, sym}
use Rattle.std.specs.Prelude.{AllPairs, IsPermutation}
use Rattle.std.specs.List.Sorted.{IsNonDecreasingBy, IsStrictlyIncreasing}
use Rattle.sp_unit.proofs.UnitListLemmas.{all_pairs, pairwise_all, pairwise_permuted, rising_from_pairs}

module _ {X : Type 0} (n : X → ℕ) where
  -- two lists with the same elements, the second in order
  pub rising_by : (xs ys : List X) → AllPairs (λ x y. n x ≢ n y) xs → IsPermutation xs ys → IsNonDecreasingBy n ys → IsStrictlyIncreasing (map n ys)
  rising_by xs ys apart same order =
      let R = λ (x y : X). n x ≢ n y in
      let far : AllPairs R ys = all_pairs R ys (pairwise_permuted R (λ x y h e. h (sym e)) xs ys same (pairwise_all R xs apart)) in
      rising_from_pairs n ys (pairwise_all (λ x y. n x < n y) ys (λ i j d lt within.
      let le : n (get_or ys i d) ≤ n (get_or ys j d) = order i j d (omega arith) within in
      let other : n (get_or ys i d) ≢ n (get_or ys j d) = far i j d lt within in
      omega (arith, le, other)))
