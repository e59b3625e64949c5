-- Answers that are complete: what is right is given, and what has a cause is refused for it.
use Rattle.std.proofs.Common.{◌≡◌, ◌⊎◌, ℕ, Result, Ok, Err, refl, ap, inl, inr}
use Rattle.sp_base.specs.Refused.{Answers, IsUnlessMemory, IsComplete}
use Rattle.sp_base.specs.declared.refused.Refused.{Refused}
use Rattle.sp_base.specs.declared.refused.Refused.TheVariants as refused

-- where one answer at most is right, one cause at most stands, and not both
module _ {A K : Type 0} (Right : A → Type 0) (Cause : ℕ → K → Type 0)
    (one : (a b : A) → Right a → Right b → a ≡ b)
    (one_cause : (line there : ℕ) (kind other : K) → Cause line kind → Cause there other → (line ≡ there) × (kind ≡ other))
    (apart : (a : A) (line : ℕ) (kind : K) → Right a → Cause line kind → ⊥) where
  whole_by : (result : Result A (Refused K)) → Answers Right Cause result → (a : A) → Right a → IsUnlessMemory result (Ok a)
  whole_by (Ok b) h a right = inl (ap (λ x. Ok x) (one b a h right))
  whole_by (Err (refused.At line kind)) h a right = absurd (apart a line.0 kind right h)
  whole_by (Err refused.Memory) h a right = inr refl

  exact_by : (result : Result A (Refused K)) → Answers Right Cause result → (line : ℕ) (kind : K) → Cause line kind → IsUnlessMemory result (Err (refused.At (record { 0 = line }) kind))
  exact_by (Ok b) h line kind cause = absurd (apart b line kind h cause)
  exact_by (Err (refused.At at other)) h line kind cause =
      let same = one_cause at.0 line other kind h cause in
      inl (λ i. Err (refused.At (record { 0 = same.0 i }) (same.1 i)))
  exact_by (Err refused.Memory) h line kind cause = inr refl

  pub complete : (result : Result A (Refused K)) → Answers Right Cause result → IsComplete Right Cause result
  complete result h = record { whole = whole_by result h; exact = exact_by result h }
