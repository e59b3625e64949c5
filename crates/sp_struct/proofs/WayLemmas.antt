-- Rows that are joined, one by one.
use Rattle.std.proofs.Common.{◌≡◌, ◌<◌, ◌≤◌, ◌+◌, ℕ, zero, suc, ◌⊎◌, inl, inr, arith, Bool, true, List, [], length, get_or, set, get_or-set_same, get_or-set_other, refl, ap, ◌∙◌}
use Rattle.std.specs.Prelude.{◌||◌, ◌&&◌}
use Rattle.std.proofs.lemmas.Bool.{cases_eq, or_left, or_right, or_cases, and_from, and_parts}
use Rattle.std.proofs.lemmas.List.{length-set}
use Rattle.sp_struct.specs.code.Bits.{has}
use Rattle.sp_struct.specs.code.Ways.{leads, way_through, AreRows, PassedBefore, ClosedBefore}

module _ (old : List (List ℕ)) (place : ℕ) where
  pub passed_none : PassedBefore old old place 0
  passed_none = record { size = refl; sizes = λ i. refl; passed = λ i j l. absurd (omega arith); kept = λ i l. refl }

  module _ (at : ℕ) (new : List (List ℕ)) (row : List ℕ) (l : at < length old) (p : PassedBefore old new place at) where
    pub passed_more :
        length row ≡ length (get_or new at []) →
        ((j : ℕ) → has row j ≡ (has (get_or new at []) j || (has (get_or new at []) place && has (get_or old place []) j))) →
        PassedBefore old (set new at row) place (at + 1)
    passed_more same h =
        let n = p.size in
        let within : at < length new = omega (arith, l, n) in
        record {
          size = length-set new at row ∙ p.size;
          sizes = λ i. elim (cases_eq i at) as (λ o. length (get_or (set new at row) i []) ≡ length (get_or old i [])) [
            | inl is ↦ rw is (ap length (get_or-set_same new at row [] within) ∙ same ∙ p.sizes at)
            | inr ne ↦ ap length (get_or-set_other new at i row [] ne) ∙ p.sizes i
          ];
          passed = λ i j less. elim (cases_eq i at) as (λ o. leads (set new at row) i j ≡ (leads old i j || (leads old i place && leads old place j))) [
            | inl is ↦
                rw is (ap (λ r. has r j) (get_or-set_same new at row [] within)
                ∙ h j
                ∙ ap (λ r. has r j || (has r place && has (get_or old place []) j)) (p.kept at (omega arith)))
            | inr ne ↦ ap (λ r. has r j) (get_or-set_other new at i row [] ne) ∙ p.passed i j (omega (arith, less, ne))
          ];
          kept = λ i above. get_or-set_other new at i row [] (λ e. omega (arith, e, above)) ∙ p.kept i (omega (arith, above));
        }

module _ (old : List (List ℕ)) where
  pub closed_none : ClosedBefore old old 0
  closed_none = record { size = refl; rows = λ words r. r; ways = λ i j l. refl }

  pub closed_more :
      (place : ℕ) (new next : List (List ℕ)) → place < length old → ClosedBefore old new place → length next ≡ length new →
      ((words : ℕ) → AreRows words new → AreRows words next) →
      ((i j : ℕ) → i < length new → leads next i j ≡ (leads new i j || (leads new i place && leads new place j))) →
      ClosedBefore old next (place + 1)
  closed_more place new next l c size rows ways =
      let n = c.size in
      record {
        size = size ∙ c.size;
        rows = λ words r. rows words (c.rows words r);
        ways = λ i j less.
            let is : place + 1 ≡ suc place = omega arith in
            rw is (ways i j (omega (arith, less, n))
            ∙ (λ k. c.ways i j less k || (c.ways i place less k && c.ways place j l k)));
      }

-- ---- Ways

module _ (steps : ℕ → ℕ → Bool) where
  -- steps alone are ways
  pub way_of_step : (k i j : ℕ) → steps i j ≡ true → way_through steps k i j ≡ true
  way_of_step zero i j e = e
  way_of_step (suc k) i j e = or_left (way_through steps k i j) (way_through steps k i k && way_through steps k k j) (way_of_step k i j e)

  abbrev Way : ℕ → ℕ → ℕ → Type 0
  Way k i j = way_through steps k i j ≡ true

  kept : (k i j : ℕ) → Way k i j → Way (suc k) i j
  kept k i j w = or_left (way_through steps k i j) (way_through steps k i k && way_through steps k k j) w

  by_last : (k i j : ℕ) → Way k i k → Way k k j → Way (suc k) i j
  by_last k i j w v = or_right (way_through steps k i j) (way_through steps k i k && way_through steps k k j) (and_from (way_through steps k i k) (way_through steps k k j) w v)

  parts : (k i j : ℕ) → Way (suc k) i j → Way k i j ⊎ (Way k i k × Way k k j)
  parts k i j w = elim (or_cases (way_through steps k i j) (way_through steps k i k && way_through steps k k j) w) as (λ o. Way k i j ⊎ (Way k i k × Way k k j))
      [ inl a ↦ inl a | inr b ↦ inr (and_parts (way_through steps k i k) (way_through steps k k j) b) ]

  to_last : (k i : ℕ) → Way (suc k) i k → Way k i k
  to_last k i w = elim (parts k i k w) as (λ o. Way k i k) [ inl a ↦ a | inr b ↦ b.0 ]

  from_last : (k j : ℕ) → Way (suc k) k j → Way k k j
  from_last k j w = elim (parts k k j w) as (λ o. Way k k j) [ inl a ↦ a | inr b ↦ b.1 ]

  -- two ways that meet at one of the first places are a way
  pub joined_ways : (k i m j : ℕ) → m < k → Way k i m → Way k m j → Way k i j
  joined_ways zero i m j l w v = absurd (omega arith)
  joined_ways (suc k) i m j l w v = elim (cases_eq m k) as (λ o. Way (suc k) i j) [
    | inl is ↦ by_last k i j (to_last k i (rw is at w)) (from_last k j (rw is at v))
    | inr ne ↦
        let low : m < k = omega (arith, ne, l) in
        elim (parts k i m w) as (λ o. Way (suc k) i j) [
          | inl a ↦ elim (parts k m j v) as (λ o. Way (suc k) i j) [
            | inl b ↦ kept k i j (joined_ways k i m j low a b)
            | inr b ↦ by_last k i j (joined_ways k i m k low a b.0) b.1
          ]
          | inr a ↦ elim (parts k m j v) as (λ o. Way (suc k) i j) [
            | inl b ↦ by_last k i j a.0 (joined_ways k k m j low a.1 b)
            | inr b ↦ by_last k i j a.0 b.1
          ]
        ]
  ]

  -- ways are so where steps are and two that meet are
  pub ways_are :
      (P : ℕ → ℕ → Type 0) → ((i j : ℕ) → steps i j ≡ true → P i j) → ((i m j : ℕ) → P i m → P m j → P i j) →
      (k i j : ℕ) → Way k i j → P i j
  ways_are P step join zero i j w = step i j w
  ways_are P step join (suc k) i j w = elim (parts k i j w) as (λ o. P i j) [
    | inl a ↦ ways_are P step join k i j a
    | inr b ↦ join i k j (ways_are P step join k i k b.0) (ways_are P step join k k j b.1)
  ]

-- steps that are the same give the same ways
pub same_ways :
    (f g : ℕ → ℕ → Bool) (n : ℕ) → ((i j : ℕ) → i < n → f i j ≡ g i j) → (k i j : ℕ) → k ≤ n → i < n → way_through f k i j ≡ way_through g k i j
same_ways f g n same zero i j l m = same i j m
same_ways f g n same (suc k) i j l m =
    λ t. same_ways f g n same k i j (omega arith) m t
    || (same_ways f g n same k i k (omega arith) m t && same_ways f g n same k k j (omega arith) (omega arith) t)
