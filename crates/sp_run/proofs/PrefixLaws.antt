-- Texts that begin with a prefix.
use Rattle.std.proofs.Common.{◌≡◌, ◌≢◌, ◌∙◌, sym, ap, ap₂, refl, nat_eq, eqb-true, eq-eqb, Bool, true, false, ℕ, List, [], ◌∷◌, ◌++◌, Option, Some, None}
use Rattle.std.specs.Option.{option_map, unwrap_or, MatchOption}
use Rattle.std.specs.Borrow.{Bor}
use Rattle.sp_run.specs.Words.{after_prefix}

-- what follows a prefix joins it to the text
pub after_prefix_is : (prefix text value : List ℕ) → after_prefix prefix text ≡ Some value → text ≡ prefix ++ value
after_prefix_is [] text value is = ap (λ o. unwrap_or o text) is
after_prefix_is (c ∷ prefix) [] value is = let none : None ≡ Some value = is in cc
after_prefix_is (c ∷ prefix) (x ∷ text) value is = go (nat_eq x c) refl (after_prefix_is prefix text value)
  where
    go : (b : Bool) → nat_eq x c ≡ b → (after_prefix prefix text ≡ Some value → text ≡ prefix ++ value) → x ∷ text ≡ c ∷ (prefix ++ value)
    go true same rest = ap₂ (λ (y : ℕ) (more : List ℕ). y ∷ more) (eqb-true x c same) (rest (rw same at is))
    go false apart rest = let none : None ≡ Some value = rw apart at is in cc

prefix_taken : (prefix value : List ℕ) → after_prefix prefix (prefix ++ value) ≡ Some value
prefix_taken [] value = refl
prefix_taken (c ∷ prefix) value = rw (eq-eqb c c refl) (prefix_taken prefix value)

-- an answer that is right in both cases is what follows the prefix
pub after_prefix_told : (prefix text : List ℕ) (r : Option (Bor (List ℕ))) → MatchOption r ((rest : List ℕ) → text ≢ prefix ++ rest) (λ x. text ≡ prefix ++ x.now)
    → option_map (λ s. s.now) r ≡ after_prefix prefix text
after_prefix_told prefix text (Some x) h = sym (ap (after_prefix prefix) h ∙ prefix_taken prefix x.now)
after_prefix_told prefix text None h = go (after_prefix prefix text) refl
  where
    go : (o : Option (List ℕ)) → after_prefix prefix text ≡ o → None ≡ after_prefix prefix text
    go None e = sym e
    go (Some value) e = absurd (h value (after_prefix_is prefix text value e))
