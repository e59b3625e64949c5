-- The least of numbers that are so for one of the things of a list.
use Rattle.std.proofs.Common.{◌≡◌, ◌<◌, ◌≤◌, ◌+◌, ℕ, ◌⊎◌, inl, inr, arith, sym, ap, refl, subst, ◌∙◌, List, Option, None, Some, length, slice_get}
use Rattle.std.proofs.lemmas.Bool.{cases_order}
use Rattle.std.proofs.lemmas.List.{get_or_default}
use Rattle.std.specs.Prelude.{slice_index}
use Rattle.sp_prog.specs.declared.area.Area.{Area}
use Rattle.sp_prog.specs.Rules.{IsInArea}
use Rattle.sp_flow.specs.code.Least.{CellAt, HasCell, HasEither, IsLeast, IsLowestFree, UpTo}
use Rattle.sp_flow.proofs.PortLemmas.{least_more, least_same}

module _ (S : ℕ → Type 0) (P : ℕ → ℕ → Type 0) (at : ℕ) (best more : Option ℕ) where
  pub up_to_more :
      IsLeast (λ n. S n ⊎ UpTo P at n) best → IsLeast (λ n. (best ≡ Some n) ⊎ P at n) more → IsLeast (λ n. S n ⊎ UpTo P (at + 1) n) more
  up_to_more old new =
      least_same (λ n. (S n ⊎ UpTo P at n) ⊎ P at n) (λ n. S n ⊎ UpTo P (at + 1) n) more to from
      (least_more (λ n. S n ⊎ UpTo P at n) (λ n. P at n) best more old new)
    where
      to : (n : ℕ) → (S n ⊎ UpTo P at n) ⊎ P at n → S n ⊎ UpTo P (at + 1) n
      to n (inl (inl s)) = inl s
      to n (inl (inr (j, m, h))) = inr (j, omega (arith, m), h)
      to n (inr h) = inr (at, omega arith, h)

      from : (n : ℕ) → S n ⊎ UpTo P (at + 1) n → (S n ⊎ UpTo P at n) ⊎ P at n
      from n (inl s) = inl (inl s)
      from n (inr (j, m, h)) = elim (cases_order j at) as (λ o. (S n ⊎ UpTo P at n) ⊎ P at n) [
        | inl same ↦ inr (subst (λ (k : ℕ). P k n) same h)
        | inr o ↦ elim o as (λ q. (S n ⊎ UpTo P at n) ⊎ P at n)
            [ inl low ↦ inl (inr (j, low, h)) | inr high ↦ absurd (omega (arith, m, high)) ]
      ]

-- the lowest cell of one area, beside those so far
module _ (areas : List Area) (one other : List ℕ) (best : Option ℕ) where
  pub area_none :
      (area : Area) → IsLowestFree areas one other area.addr (area.addr + area.len) None →
      IsLeast (λ n. (best ≡ Some n) ⊎ (IsInArea area n × (HasEither areas one other n → ⊥))) best
  area_none area all = record {
    found = λ n e. inl e;
    least = λ n q. elim q as (λ o. (b : ℕ) × (best ≡ Some b) × (b ≤ n))
        [ inl e ↦ (n, e, omega arith) | inr a ↦ absurd (a.1 (all n a.0.0 a.0.1)) ];
  }

  pub no_area : IsLeast (λ n. (best ≡ Some n) ⊎ (CellAt None n × (HasEither areas one other n → ⊥))) best
  no_area = record {
    found = λ n e. inl e;
    least = λ n q. elim q as (λ o. (b : ℕ) × (best ≡ Some b) × (b ≤ n)) [ inl e ↦ (n, e, omega arith) | inr a ↦ absurd a.0 ];
  }

  pub area_some :
      (area : Area) (cell : ℕ) (more : Option ℕ) → IsLowestFree areas one other area.addr (area.addr + area.len) (Some cell) →
      IsLeast (λ n. (best ≡ Some n) ⊎ (n ≡ cell)) more →
      IsLeast (λ n. (best ≡ Some n) ⊎ (IsInArea area n × (HasEither areas one other n → ⊥))) more
  area_some area cell more free is = record {
    found = λ n e. elim (is.found n e) as (λ o. (best ≡ Some n) ⊎ (IsInArea area n × (HasEither areas one other n → ⊥)))
        [ inl b ↦ inl b | inr same ↦ inr (subst (λ (m : ℕ). IsInArea area m × (HasEither areas one other m → ⊥)) (sym same) ((free.0, free.1), free.2)) ];
    least = λ n q. elim q as (λ o. (b : ℕ) × (more ≡ Some b) × (b ≤ n)) [
      | inl e ↦ is.least n (inl e)
      | inr a ↦
          let b = is.least cell (inr refl) in
          elim (cases_order n cell) as (λ o. (b : ℕ) × (more ≡ Some b) × (b ≤ n)) [
            | inl same ↦ (b.0, b.1, (let l = b.2 in omega (arith, l, same)))
            | inr o ↦ elim o as (λ r. (b : ℕ) × (more ≡ Some b) × (b ≤ n)) [
              | inl low ↦ absurd (a.1 (free.3 n a.0.0 low))
              | inr high ↦ (b.0, b.1, (let l = b.2 in omega (arith, l, high)))
            ]
          ]
    ];
  }

-- a cell of the area that a place of a list names, and in no area of two lists
abbrev pub FreeAt : List Area → List ℕ → List ℕ → List ℕ → ℕ → ℕ → Type 0
FreeAt areas one other listed j n = CellAt (slice_get areas (slice_index listed j)) n × (HasEither areas one other n → ⊥)

-- the cells of the areas of a list, all of which are seen
module _ (so_far : Option ℕ) (areas : List Area) (one other listed : List ℕ) (at : ℕ) (best : Option ℕ) where
  option_cell : (o : Option Area) (n : ℕ) → CellAt o n → (area : Area) × (o ≡ Some area) × IsInArea area n
  option_cell None n c = absurd c
  option_cell (Some area) n c = (area, refl, c)

  pub listed_all :
      at ≡ length listed → IsLeast (λ n. (so_far ≡ Some n) ⊎ UpTo (FreeAt areas one other listed) at n) best →
      IsLeast (λ n. (so_far ≡ Some n) ⊎ (HasCell areas listed n × (HasEither areas one other n → ⊥))) best
  listed_all l is =
      least_same (λ n. (so_far ≡ Some n) ⊎ UpTo (FreeAt areas one other listed) at n) (λ n. (so_far ≡ Some n) ⊎ (HasCell areas listed n × (HasEither areas one other n → ⊥))) best to from is
    where
      to : (n : ℕ) → (so_far ≡ Some n) ⊎ UpTo (FreeAt areas one other listed) at n → (so_far ≡ Some n) ⊎ (HasCell areas listed n × (HasEither areas one other n → ⊥))
      to n (inl e) = inl e
      to n (inr (j, m, (c, f))) =
          let low : j < length listed = omega (arith, m, l) in
          let a = option_cell (slice_get areas (slice_index listed j)) n c in
          inr ((slice_index listed j, a.0, (j, low, sym (get_or_default listed j 0 (slice_index listed j) low)), a.1, a.2), f)

      from : (n : ℕ) → (so_far ≡ Some n) ⊎ (HasCell areas listed n × (HasEither areas one other n → ⊥)) → (so_far ≡ Some n) ⊎ UpTo (FreeAt areas one other listed) at n
      from n (inl e) = inl e
      from n (inr ((place, area, (j, low, e), get, within), f)) =
          let same : slice_index listed j ≡ place = get_or_default listed j 0 place low ∙ e in
          let there : slice_get areas (slice_index listed j) ≡ Some area = ap (slice_get areas) same ∙ get in
          inr (j, omega (arith, low, l), (subst (λ (o : Option Area). CellAt o n) (sym there) within, f))
