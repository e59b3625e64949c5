-- The least of numbers, one by one.
use Rattle.std.proofs.Common.{◌≡◌, ◌<◌, ◌≤◌, ◌+◌, ℕ, ◌⊎◌, inl, inr, arith, sym, ◌∙◌, List, Option, Some, length}
use Rattle.std.proofs.lemmas.Bool.{cases_order}
use Rattle.std.proofs.lemmas.List.{get_or_default}
use Rattle.std.specs.Prelude.{Contains, slice_index}
use Rattle.sp_flow.specs.code.Least.{IsLeast}

-- more numbers beside those so far
pub least_more :
    (Q N : ℕ → Type 0) (best more : Option ℕ) → IsLeast Q best → IsLeast (λ n. (best ≡ Some n) ⊎ N n) more → IsLeast (λ n. Q n ⊎ N n) more
least_more Q N best more old new = record {
  found = λ n e. elim (new.found n e) as (λ o. Q n ⊎ N n) [ inl b ↦ inl (old.found n b) | inr m ↦ inr m ];
  least = λ n q. elim q as (λ o. (b : ℕ) × (more ≡ Some b) × (b ≤ n)) [
    | inl o ↦
        let b = old.least n o in
        let c = new.least b.0 (inl b.1) in
        (c.0, c.1, (let l = b.2 in let m = c.2 in omega (arith, l, m)))
    | inr m ↦ new.least n (inr m)
  ];
}

-- the same numbers, said otherwise
pub least_same : (Q R : ℕ → Type 0) (best : Option ℕ) → ((n : ℕ) → Q n → R n) → ((n : ℕ) → R n → Q n) → IsLeast Q best → IsLeast R best
least_same Q R best to from is = record { found = λ n e. to n (is.found n e); least = λ n r. is.least n (from n r) }

-- one of the first ports of a list, and not of another list
abbrev pub Among : List ℕ → List ℕ → ℕ → ℕ → Type 0
Among ports own count n = ((j : ℕ) × (j < count) × (slice_index ports j ≡ n)) × (Contains own n → ⊥)

module _ (so_far : Option ℕ) (ports own : List ℕ) (at : ℕ) (best : Option ℕ) where
  pub ports_more :
      (more : Option ℕ) → at < length ports → IsLeast (λ n. (so_far ≡ Some n) ⊎ Among ports own at n) best →
      IsLeast (λ n. (best ≡ Some n) ⊎ ((n ≡ slice_index ports at) × (Contains own n → ⊥))) more →
      IsLeast (λ n. (so_far ≡ Some n) ⊎ Among ports own (at + 1) n) more
  ports_more more l old new =
      least_same (λ n. ((so_far ≡ Some n) ⊎ Among ports own at n) ⊎ ((n ≡ slice_index ports at) × (Contains own n → ⊥)))
      (λ n. (so_far ≡ Some n) ⊎ Among ports own (at + 1) n) more to from
      (least_more (λ n. (so_far ≡ Some n) ⊎ Among ports own at n) (λ n. (n ≡ slice_index ports at) × (Contains own n → ⊥)) best more old new)
    where
      to : (n : ℕ) → ((so_far ≡ Some n) ⊎ Among ports own at n) ⊎ ((n ≡ slice_index ports at) × (Contains own n → ⊥)) → (so_far ≡ Some n) ⊎ Among ports own (at + 1) n
      to n (inl (inl e)) = inl e
      to n (inl (inr ((j, m, e), f))) = inr ((j, omega (arith, m), e), f)
      to n (inr (e, f)) = inr ((at, omega arith, sym e), f)

      from : (n : ℕ) → (so_far ≡ Some n) ⊎ Among ports own (at + 1) n → ((so_far ≡ Some n) ⊎ Among ports own at n) ⊎ ((n ≡ slice_index ports at) × (Contains own n → ⊥))
      from n (inl e) = inl (inl e)
      from n (inr ((j, m, e), f)) = elim (cases_order j at) as (λ o. ((so_far ≡ Some n) ⊎ Among ports own at n) ⊎ ((n ≡ slice_index ports at) × (Contains own n → ⊥))) [
        | inl same ↦ inr (sym (rw same at e), f)
        | inr o ↦ elim o as (λ q. ((so_far ≡ Some n) ⊎ Among ports own at n) ⊎ ((n ≡ slice_index ports at) × (Contains own n → ⊥)))
            [ inl low ↦ inl (inr ((j, low, e), f)) | inr high ↦ absurd (omega (arith, m, high)) ]
      ]

  pub ports_all :
      at ≡ length ports → IsLeast (λ n. (so_far ≡ Some n) ⊎ Among ports own at n) best →
      IsLeast (λ n. (so_far ≡ Some n) ⊎ (Contains ports n × (Contains own n → ⊥))) best
  ports_all l is = record {
    found = λ n e. elim (is.found n e) as (λ o. (so_far ≡ Some n) ⊎ (Contains ports n × (Contains own n → ⊥)))
        [ inl s ↦ inl s | inr a ↦ inr (contained n a.0, a.1) ];
    least = λ n q. is.least n (elim q as (λ o. (so_far ≡ Some n) ⊎ Among ports own at n) [
      | inl s ↦ inl s
      | inr a ↦ inr ((a.0.0, (let m = a.0.1 in omega (arith, l, m)), get_or_default ports a.0.0 0 n a.0.1 ∙ a.0.2), a.1)
    ]);
  }
    where
      contained : (n : ℕ) → (j : ℕ) × (j < at) × (slice_index ports j ≡ n) → Contains ports n
      contained n (j, m, e) = let low : j < length ports = omega (arith, m, l) in (j, low, sym (get_or_default ports j 0 n low) ∙ e)
