-- Distinct places of a graph are at most as many as its instructions.
use Rattle.std.proofs.Common.{◌≡◌, ◌<◌, ◌≤◌, ℕ, inl, inr, true, false, List, length, get_or, sym, ◌∙◌, arith}
use Rattle.std.specs.Prelude.{nat_eq}
use Rattle.std.specs.List.{list_any}
use Rattle.std.proofs.lemmas.Bool.Decides.{eqb_tells}
use Rattle.std.proofs.lemmas.Bool.{eqb-true}
use Rattle.std.proofs.lemmas.List.{get_or_default}
use Rattle.std.proofs.lemmas.List.Folds.{Any-from_list_any}
use Rattle.std.proofs.lemmas.Map.Keys.{IsDistinct-from_apart}
use Rattle.std.proofs.lemmas.Map.Steps.{length-le_from_distinct_below}

pub distinct_are_few :
    (xs : List ℕ) (n : ℕ) →
    ((i j : ℕ) → i < j → j < length xs → get_or xs i 0 ≡ get_or xs j 0 → ⊥) →
    ((k : ℕ) → k < length xs → get_or xs k 0 < n) → length xs ≤ n
distinct_are_few xs n once within =
    length-le_from_distinct_below xs n (IsDistinct-from_apart nat_eq xs apart) in_range
  where
    apart : (i j d : ℕ) → i < j → j < length xs → nat_eq (get_or xs i d) (get_or xs j d) ≡ false
    apart i j d ij l =
        let first = get_or_default xs i d 0 (omega arith) in
        let second = get_or_default xs j d 0 l in
        elim (eqb_tells (get_or xs i d) (get_or xs j d)) as (λ o. nat_eq (get_or xs i d) (get_or xs j d) ≡ false)
        [ inl p ↦ absurd (once i j ij l (sym first ∙ p.1 ∙ second)) | inr p ↦ p.0 ]

    in_range : (q : ℕ) → list_any (nat_eq q) xs ≡ true → q < n
    in_range q e =
        let found = Any-from_list_any (nat_eq q) xs e in
        let l = within found.0 found.2 in
        let at = get_or_default xs found.0 0 found.1 found.2 in
        let same : q ≡ found.1 = eqb-true q found.1 found.4 in
        let read = found.3 in
        omega (arith, l, at, same, read)
