-- Operands have one list of values, or one that has none.
use Rattle.std.proofs.Common.{◌≡◌, ◌⊎◌, inl, inr, ℕ, zero, suc, ◌<◌, Bool, true, false, cond, List, [], ◌∷◌, length, get_or, Option, Some, None, refl, sym, ap, subst, ◌∙◌, arith}
use Rattle.std.specs.Prelude.{Contains, is_some}
use Rattle.sp_expr.specs.declared.setting.Setting.TheVariants.{Statement}
use Rattle.sp_expr.specs.declared.word.Word.{Word}
use Rattle.sp_expr.specs.declared.word.Word.TheVariants as words
use Rattle.sp_expr.specs.Undefined.{first_undefined}
use Rattle.sp_expr.proofs.ValueLaws.{value_is}
use Rattle.sp_stmt.specs.declared.operand.Operand.{Operand}
use Rattle.sp_stmt.specs.declared.operand.Operand.TheVariants as operand
use Rattle.sp_asm.specs.Values.{operand_words, HasValue, HasNoValue, IsValue, IsWithoutValue, AreValues, OneIsWithoutValue}
use Rattle.sp_asm.specs.Refusals.{IsMissing}

module _ {A : Type 0} where
  contains_at : (x y : A) (xs : List A) (k : ℕ) → k < length (x ∷ xs) → get_or (x ∷ xs) k y ≡ y → (x ≡ y) ⊎ Contains xs y
  contains_at x y xs zero lt e = inl e
  contains_at x y xs (suc k) lt e = inr (k, omega arith, e)

  contains_first : (x y : A) (xs : List A) → Contains (x ∷ xs) y → (x ≡ y) ⊎ Contains xs y
  contains_first x y xs h = contains_at x y xs h.0 h.1 h.2

  contains_none : (y : A) → Contains [] y → ⊥
  contains_none y h = let lt : h.0 < 0 = h.1 in omega arith

-- ---- Expressions

abbrev name_word : List ℕ → Word
name_word name = words.Name name

same_name : (one other : List ℕ) → name_word one ≡ name_word other → one ≡ other
same_name one other e = cc

defined_by : (b : Bool) (rest : Option (List ℕ)) (name : List ℕ) → cond b rest (Some name) ≡ None → (b ≡ true) × (rest ≡ None)
defined_by true rest name h = (refl, h)
defined_by false rest name h = absurd cc

-- where no name is undefined, each that is used has a value
used_is_defined : (names : List ℕ → Option ℕ) (ws : List Word) (name : List ℕ) → first_undefined names ws ≡ None → Contains ws (name_word name) → is_some (names name) ≡ true
unfolding first_undefined
used_is_defined names [] name h used = absurd (contains_none (name_word name) used)
used_is_defined names (words.Name found ∷ ws) name h used =
    let defined = defined_by (is_some (names found)) (first_undefined names ws) found h in
    elim (contains_first (name_word found) (name_word name) ws used) [
      | inl first ↦ ap (λ n. is_some (names n)) (sym (same_name found name first)) ∙ defined.0
      | inr below ↦ used_is_defined names ws name defined.1 below
    ]
used_is_defined names (words.Open ∷ ws) name h used =
    elim (contains_first words.Open (name_word name) ws used) [ inl first ↦ absurd cc | inr below ↦ used_is_defined names ws name h below ]
used_is_defined names (words.Close ∷ ws) name h used =
    elim (contains_first words.Close (name_word name) ws used) [ inl first ↦ absurd cc | inr below ↦ used_is_defined names ws name h below ]
used_is_defined names (words.Not ∷ ws) name h used =
    elim (contains_first words.Not (name_word name) ws used) [ inl first ↦ absurd cc | inr below ↦ used_is_defined names ws name h below ]
used_is_defined names (words.Here ∷ ws) name h used =
    elim (contains_first words.Here (name_word name) ws used) [ inl first ↦ absurd cc | inr below ↦ used_is_defined names ws name h below ]
used_is_defined names (words.Operator operator ∷ ws) name h used =
    elim (contains_first (words.Operator operator) (name_word name) ws used) [ inl first ↦ absurd cc | inr below ↦ used_is_defined names ws name h below ]
used_is_defined names (words.Number n ∷ ws) name h used =
    elim (contains_first (words.Number n) (name_word name) ws used) [ inl first ↦ absurd cc | inr below ↦ used_is_defined names ws name h below ]

abbrev some : ℕ → Option ℕ
some value = Some value

same_some : (a b : ℕ) → some a ≡ some b → a ≡ b
same_some a b e = cc

none_is_some : (a : ℕ) → some a ≡ None → ⊥
none_is_some a e = cc

no_value_is_some : (value : Option ℕ) → is_some value ≡ true → value ≡ None → ⊥
no_value_is_some None h e = cc
no_value_is_some (Some a) h e = none_is_some a e

module _ (names : List ℕ → Option ℕ) (here : ℕ) where
  -- however a tree is made
  pub one_value : (ws : List Word) (a b : ℕ) → HasValue names here ws a → HasValue names here ws b → a ≡ b
  one_value ws a b h k = same_some a b (sym h.value_is ∙ sym (value_is Statement names here ws h.tree h.spells) ∙ value_is Statement names here ws k.tree k.spells ∙ k.value_is)

  pub value_or_none : (ws : List Word) (value : ℕ) → HasValue names here ws value → HasNoValue names here ws → ⊥
  value_or_none ws value h (inl undefined) = let e = sym h.defined ∙ undefined.1 in cc
  value_or_none ws value h (inr zero_divisor) =
      let k = zero_divisor.1 in
      none_is_some value (sym h.value_is ∙ sym (value_is Statement names here ws h.tree h.spells) ∙ value_is Statement names here ws k.0 k.1 ∙ k.2)

  pub value_or_missing : (ws : List Word) (value : ℕ) (name : List ℕ) → HasValue names here ws value → Contains ws (words.Name name) → names name ≡ None → ⊥
  value_or_missing ws value name h used missing = no_value_is_some (names name) (used_is_defined names ws name h.defined used) missing

  -- ---- Operands

  one_operand : (o : Operand) (a b : ℕ) → IsValue names here o a → IsValue names here o b → a ≡ b
  one_operand (operand.Text characters) a b h k = h ∙ sym k
  one_operand (operand.Byte ws) a b h k = one_value ws a b h k
  one_operand (operand.Word ws) a b h k = one_value ws a b h k
  one_operand (operand.Restart ws) a b h k = one_value ws a b h k

  operand_or_none : (o : Operand) (value : ℕ) → IsValue names here o value → IsWithoutValue names here o → ⊥
  operand_or_none (operand.Text characters) value h none = none
  operand_or_none (operand.Byte ws) value h none = value_or_none ws value h none
  operand_or_none (operand.Word ws) value h none = value_or_none ws value h none
  operand_or_none (operand.Restart ws) value h none = value_or_none ws value h none

  operand_or_missing : (o : Operand) (value : ℕ) (name : List ℕ) → IsValue names here o value → Contains (operand_words o) (words.Name name) → names name ≡ None → ⊥
  operand_or_missing (operand.Text characters) value name h used missing = contains_none (name_word name) used
  operand_or_missing (operand.Byte ws) value name h used missing = value_or_missing ws value name h used missing
  operand_or_missing (operand.Word ws) value name h used missing = value_or_missing ws value name h used missing
  operand_or_missing (operand.Restart ws) value name h used missing = value_or_missing ws value name h used missing

  pub values_are_one : (operands : List Operand) (one other : List ℕ) → AreValues names here operands one → AreValues names here operands other → one ≡ other
  values_are_one [] [] [] h k = refl
  values_are_one [] [] (b ∷ other) h k = absurd k
  values_are_one [] (a ∷ one) other h k = absurd h
  values_are_one (o ∷ operands) [] other h k = absurd h
  values_are_one (o ∷ operands) (a ∷ one) [] h k = absurd k
  values_are_one (o ∷ operands) (a ∷ one) (b ∷ other) h k =
      ap (λ v. v ∷ one) (one_operand o a b h.0 k.0) ∙ ap (λ l. b ∷ l) (values_are_one operands one other h.1 k.1)

  value_among : (operands : List Operand) (values : List ℕ) (o : Operand) → AreValues names here operands values → Contains operands o → (value : ℕ) × IsValue names here o value
  value_among [] values o h among = absurd (contains_none o among)
  value_among (first ∷ operands) [] o h among = absurd h
  value_among (first ∷ operands) (value ∷ values) o h among =
      elim (contains_first first o operands among) [
        | inl here_is ↦ (value, subst (λ q. IsValue names here q value) here_is h.0)
        | inr below ↦ value_among operands values o h.1 below
      ]

  pub none_missing : (operands : List Operand) (values : List ℕ) (name : List ℕ) → AreValues names here operands values → IsMissing names operands name → ⊥
  none_missing operands values name h missing =
      let found = value_among operands values missing.operand h missing.among in
      operand_or_missing missing.operand found.0 name found.1 missing.used missing.missing

  pub none_without : (operands : List Operand) (values : List ℕ) → AreValues names here operands values → OneIsWithoutValue names here operands → ⊥
  none_without operands values h without =
      let found = value_among operands values without.0 h without.1 in
      operand_or_none without.0 found.0 found.1 without.2
