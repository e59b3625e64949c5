-- An entry, its preconditions left out, by what the code looks at.
use Rattle.std.proofs.Common.{◌≡◌, ◌≢◌, ℕ, ◌+◌, inl, inr, sym, ap, ◌∙◌, arith, Some}
use Rattle.std.specs.FinMap as maps
use Rattle.std.proofs.lemmas.Bool.{cases_eq, cases_lt}
use Rattle.sp_base.specs.Image.{ImageMap, NextByte, NoByteFrom}
use Rattle.sp_base.proofs.FindLaws.{some_is_not_none}
use Rattle.sp_isa.specs.Core.{Core, cell}
use Rattle.sp_trial.specs.code.Entering.{IsLoadedBelow, IsLoaded}

number_is : (x y : ℕ) → Some x ≡ Some y → x ≡ y
number_is x y e = cc

module _ (image : ImageMap) (core : Core) where
  pub none_below : IsLoadedBelow 0 image core
  none_below a byte lt got = absurd (omega arith)

  pub loaded_more : (from : ℕ) (next : ℕ × ℕ) → NextByte image from next → cell next.0 core ≡ next.1 → IsLoadedBelow from image core → IsLoadedBelow (next.0 + 1) image core
  loaded_more from next h there below a byte lt got =
      elim (cases_eq a next.0) [
        | inl same ↦ ap (λ k. cell k core) same ∙ there ∙ number_is next.1 byte (sym h.there ∙ ap (maps.get image) (sym same) ∙ got)
        | inr ne ↦ elim (cases_lt a from) [
          | inl before ↦ below a byte before got
          | inr from_there ↦ absurd (some_is_not_none byte _ got (h.least a from_there (omega arith)))
        ]
      ]

  pub not_loaded : (from : ℕ) (next : ℕ × ℕ) → NextByte image from next → cell next.0 core ≢ next.1 → ¬ IsLoaded image core
  not_loaded from next h other whole = other (whole next.0 next.1 h.there)

  pub whole_loaded : (from : ℕ) → NoByteFrom image from → IsLoadedBelow from image core → IsLoaded image core
  whole_loaded from none below a byte got =
      elim (cases_lt a from) [
        | inl before ↦ below a byte before got
        | inr after ↦ absurd (some_is_not_none byte _ got (none a after))
      ]
