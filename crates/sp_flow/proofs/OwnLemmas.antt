-- The cells and the port that an instruction names.
use Rattle.std.proofs.Common.{◌≡◌, ◌<◌, ◌≤◌, ℕ, zero, suc, ◌⊎◌, inl, inr, arith, sym, ap, ◌∙◌, List, [], ◌∷◌, Option, None, Some, length, get_or, slice_get}
use Rattle.std.specs.Prelude.{Contains}
use Rattle.std.proofs.lemmas.Option.{slice_get_within, get_or_from_slice_get}
use Rattle.sp_flow.specs.Flow.{cells_read, cells_written, ports_in, ports_out}
use Rattle.sp_flow.specs.code.Least.{IsLeast}
use Rattle.sp_flow.proofs.PortLemmas.{least_more, least_same}
use Rattle.sp_isa.specs.declared.instr.Instr.{Instr}
use Rattle.sp_isa.specs.declared.instr.Instr.TheVariants.{Lda, Lhld, Sta, Shld, In, Out}

pub few_read : (i : Instr) → length (cells_read i) ≤ 2
few_read (Lda a) = omega arith
few_read (Lhld a) = omega arith
few_read _ = omega arith

pub few_written : (i : Instr) → length (cells_written i) ≤ 2
few_written (Sta a) = omega arith
few_written (Shld a) = omega arith
few_written _ = omega arith

pub few_in : (i : Instr) → length (ports_in i) ≤ 1
few_in (In a) = omega arith
few_in _ = omega arith

pub few_out : (i : Instr) → length (ports_out i) ≤ 1
few_out (Out a) = omega arith
few_out _ = omega arith

of_two : (xs : List ℕ) (n k : ℕ) → length xs ≤ 2 → k < length xs → get_or xs k n ≡ n → (slice_get xs 0 ≡ Some n) ⊎ (slice_get xs 1 ≡ Some n)
of_two [] n k few l e = absurd (omega (arith, l))
of_two (x ∷ xs) n zero few l e = inl (ap (λ y. Some y) e)
of_two (x ∷ []) n (suc k) few l e = absurd (omega (arith, l))
of_two (x ∷ y ∷ xs) n (suc zero) few l e = inr (ap (λ z. Some z) e)
of_two (x ∷ y ∷ []) n (suc (suc k)) few l e = absurd (omega (arith, l))
of_two (x ∷ y ∷ z ∷ xs) n (suc (suc k)) few l e = absurd (omega (arith, few))

there : (xs : List ℕ) (n k : ℕ) → slice_get xs k ≡ Some n → Contains xs n
there xs n k e = (k, slice_get_within xs k n e, get_or_from_slice_get xs k n n e)

-- the least of the two numbers of a list
module _ (xs : List ℕ) (F : ℕ → Type 0) (few : length xs ≤ 2) where
  pub least_of_two :
      (low high first both : Option ℕ) → low ≡ slice_get xs 0 → high ≡ slice_get xs 1 →
      IsLeast (λ n. (None ≡ Some n) ⊎ ((low ≡ Some n) × F n)) first → IsLeast (λ n. (first ≡ Some n) ⊎ ((high ≡ Some n) × F n)) both →
      IsLeast (λ n. Contains xs n × F n) both
  least_of_two low high first both l h one two =
      least_same (λ n. ((None ≡ Some n) ⊎ ((low ≡ Some n) × F n)) ⊎ ((high ≡ Some n) × F n)) (λ n. Contains xs n × F n) both to from
      (least_more (λ n. (None ≡ Some n) ⊎ ((low ≡ Some n) × F n)) (λ n. (high ≡ Some n) × F n) first both one two)
    where
      to : (n : ℕ) → ((None ≡ Some n) ⊎ ((low ≡ Some n) × F n)) ⊎ ((high ≡ Some n) × F n) → Contains xs n × F n
      to n (inl (inl e)) = absurd cc
      to n (inl (inr (e, f))) = (there xs n 0 (sym l ∙ e), f)
      to n (inr (e, f)) = (there xs n 1 (sym h ∙ e), f)

      from : (n : ℕ) → Contains xs n × F n → ((None ≡ Some n) ⊎ ((low ≡ Some n) × F n)) ⊎ ((high ≡ Some n) × F n)
      from n (c, f) = elim (of_two xs n c.0 few c.1 c.2) as (λ o. ((None ≡ Some n) ⊎ ((low ≡ Some n) × F n)) ⊎ ((high ≡ Some n) × F n))
          [ inl e ↦ inl (inr (l ∙ e, f)) | inr e ↦ inr (h ∙ e, f) ]

-- the number of a list of one
module _ (xs : List ℕ) (F : ℕ → Type 0) (few : length xs ≤ 1) where
  pub least_of_one : (o left : Option ℕ) → o ≡ slice_get xs 0 → IsLeast (λ n. (o ≡ Some n) × F n) left → IsLeast (λ n. Contains xs n × F n) left
  least_of_one o left e is =
      least_same (λ n. (o ≡ Some n) × F n) (λ n. Contains xs n × F n) left
      (λ n p. (there xs n 0 (sym e ∙ p.0), p.1)) (λ n p. (e ∙ only n p.0, p.1)) is
    where
      none_second : (ys : List ℕ) (n : ℕ) → length ys ≤ 1 → slice_get ys 1 ≡ Some n → ⊥
      none_second ys n f s = let w = slice_get_within ys 1 n s in omega (arith, f, w)

      only : (n : ℕ) → Contains xs n → slice_get xs 0 ≡ Some n
      only n c = elim (of_two xs n c.0 (omega (arith, few)) c.1 c.2) as (λ q. slice_get xs 0 ≡ Some n)
          [ inl s ↦ s | inr s ↦ absurd (none_second xs n few s) ]
