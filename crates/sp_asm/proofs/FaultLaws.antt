-- Why operands have no values.
use Rattle.std.proofs.Common.{◌≡◌, ℕ, Bool, true, false, ◌&&◌, List, Option, Some, None, refl, sym, ap, ◌∙◌, true≢false, subst}
use Rattle.std.specs.Prelude.{not, Contains, if◌then◌else◌}
use Rattle.std.specs.Option.{is_some}
use Rattle.std.specs.List.{list_any}
use Rattle.std.proofs.lemmas.List.Folds.{Any-from_list_any, list_any_at}
use Rattle.sp_expr.specs.declared.word.Word.{Word}
use Rattle.sp_expr.specs.declared.word.Word.TheVariants as words
use Rattle.sp_stmt.specs.declared.operand.Operand.{Operand}
use Rattle.sp_stmt.specs.declared.statement.Statement.{Statement}
use Rattle.sp_asm.specs.declared.refusal.AsmKind.{AsmKind}
use Rattle.sp_asm.specs.declared.refusal.AsmKind.TheVariants.{Syntax, TooDeep, Duplicate, Later, Undefined, ZeroDivisor, Range, PastEnd, Overlap}
use Rattle.sp_asm.specs.Values.{operand_words, OneIsWithoutValue}
use Rattle.sp_asm.specs.code.Passes.{is_later, is_undefined, has_later, has_undefined, fault_of, Declares}
use Rattle.sp_asm.specs.Refusals.{IsMissing, UsesLater, UsesUndefined, DividesByZero}

-- what a fault of operands says
abbrev pub Faults : List Statement → (List ℕ → Option ℕ) → ℕ → List Operand → AsmKind → Type 0
Faults all names here operands Later = UsesLater all names operands
Faults all names here operands Undefined = UsesUndefined all names operands
Faults all names here operands ZeroDivisor = DividesByZero names here operands
Faults all names here operands Syntax = ⊥
Faults all names here operands TooDeep = ⊥
Faults all names here operands Duplicate = ⊥
Faults all names here operands Range = ⊥
Faults all names here operands PastEnd = ⊥
Faults all names here operands Overlap = ⊥

-- ---- Tests of lists

found_at : {X : Type 0} (p : X → Bool) (xs : List X) → list_any p xs ≡ true → (x : X) × Contains xs x × (p x ≡ true)
found_at p xs h = let a = Any-from_list_any p xs h in (a.1, (a.0, a.2, a.3), a.4)

finds : {X : Type 0} (p : X → Bool) (xs : List X) (x : X) → Contains xs x → p x ≡ true → list_any p xs ≡ true
finds p xs x among h = list_any_at p xs among.0 x among.1 (ap p among.2 ∙ h)

-- ---- Words

both : (a b : Bool) → (a && b) ≡ true → (a ≡ true) × (b ≡ true)
both true b h = (refl, h)
both false b h = absurd cc

is_none : (o : Option ℕ) → not (is_some o) ≡ true → o ≡ None
is_none None h = refl
is_none (Some v) h = absurd cc

later_name : (names declared : List ℕ → Option ℕ) (w : Word) → is_later names declared w ≡ true
    → (name : List ℕ) × (w ≡ words.Name name) × (names name ≡ None) × (is_some (declared name) ≡ true)
later_name names declared (words.Name name) h =
    let p = both (not (is_some (names name))) (is_some (declared name)) h in
    (name, refl, is_none (names name) p.0, p.1)
later_name names declared (words.Number n) h = absurd cc
later_name names declared words.Here h = absurd cc
later_name names declared (words.Operator operator) h = absurd cc
later_name names declared words.Not h = absurd cc
later_name names declared words.Open h = absurd cc
later_name names declared words.Close h = absurd cc

undefined_name : (names : List ℕ → Option ℕ) (w : Word) → is_undefined names w ≡ true → (name : List ℕ) × (w ≡ words.Name name) × (names name ≡ None)
undefined_name names (words.Name name) h = (name, refl, is_none (names name) h)
undefined_name names (words.Number n) h = absurd cc
undefined_name names words.Here h = absurd cc
undefined_name names (words.Operator operator) h = absurd cc
undefined_name names words.Not h = absurd cc
undefined_name names words.Open h = absurd cc
undefined_name names words.Close h = absurd cc

-- ---- Operands

module _ (names : List ℕ → Option ℕ) (operands : List Operand) where
  -- a test that finds a name without a value
  missing : (o : Operand) (w : Word) (name : List ℕ) → Contains operands o → Contains (operand_words o) w → w ≡ words.Name name → names name ≡ None → IsMissing names operands name
  missing o w name among used is none = record { operand = o; among = among; used = subst (Contains (operand_words o)) is used; missing = none }

  -- a word that passes a test is found among the operands
  finds_word : (test : Word → Bool) (o : Operand) (w : Word) → Contains operands o → Contains (operand_words o) w → test w ≡ true → list_any (λ x. list_any test (operand_words x)) operands ≡ true
  finds_word test o w among used h = finds (λ x. list_any test (operand_words x)) operands o among (finds test (operand_words o) w used h)

  module _ (declared : List ℕ → Option ℕ) (all : List Statement) (declares : Declares declared all) where
    later_found : has_later names declared operands ≡ true → UsesLater all names operands
    later_found h =
        let at = found_at (λ x. list_any (is_later names declared) (operand_words x)) operands h in
        let word = found_at (is_later names declared) (operand_words at.0) at.2 in
        let p = later_name names declared word.0 word.2 in
        (p.0, missing at.0 word.0 p.0 at.1 word.1 p.1 p.2, sym (declares p.0) ∙ p.3)

    none_later : has_later names declared operands ≡ false → ¬ UsesLater all names operands
    none_later h (name, m, defined) =
        let at : is_later names declared (words.Name name) ≡ true =
        ap (λ o. not (is_some o) && is_some (declared name)) m.missing ∙ declares name ∙ defined in
        true≢false (sym (finds_word (is_later names declared) m.operand (words.Name name) m.among m.used at) ∙ h)

  undefined_found : has_undefined names operands ≡ true → (name : List ℕ) × IsMissing names operands name
  undefined_found h =
      let at = found_at (λ x. list_any (is_undefined names) (operand_words x)) operands h in
      let word = found_at (is_undefined names) (operand_words at.0) at.2 in
      let p = undefined_name names word.0 word.2 in
      (p.0, missing at.0 word.0 p.0 at.1 word.1 p.1 p.2)

  none_missing : has_undefined names operands ≡ false → (name : List ℕ) → ¬ IsMissing names operands name
  none_missing h name m =
      let at : is_undefined names (words.Name name) ≡ true = ap (λ o. not (is_some o)) m.missing in
      true≢false (sym (finds_word (is_undefined names) m.operand (words.Name name) m.among m.used at) ∙ h)

-- operands, one of which has no value, have the fault that is found, and so no other
pub fault_is : (all : List Statement) (names declared : List ℕ → Option ℕ) (here : ℕ) (operands : List Operand)
    → Declares declared all → OneIsWithoutValue names here operands → Faults all names here operands (fault_of names declared operands)
fault_is all names declared here operands declares without =
    elim (has_later names declared operands) as (λ b. has_later names declared operands ≡ b
    → Faults all names here operands (if b then Later else (if has_undefined names operands then Undefined else ZeroDivisor))) [
      | true ↦ λ e. later_found names operands declared all declares e
      | false ↦ λ e. elim (has_undefined names operands) as (λ b. has_undefined names operands ≡ b → Faults all names here operands (if b then Undefined else ZeroDivisor)) [
        | true ↦ λ f.
            let m = undefined_found names operands f in
            record { none_later = none_later names operands declared all declares e; name = m.0; missing = m.1 }
        | false ↦ λ f. record { none_missing = none_missing names operands f; without = without }
      ] refl
    ] refl
