-- An operator is read again, whatever part follows it.
use Rattle.std.proofs.Common.{◌≡◌, ℕ, ◌<◌, Bool, true, false, List, [], ◌∷◌, ◌++◌, length, Option, Some, refl, sym, ap, ◌∙◌, arith, true≢false}
use Rattle.std.specs.Prelude.{◌&&◌, ◌||◌, ◌==◌, codes, not}
use Rattle.std.specs.List.{list_all}
use Rattle.std.proofs.lemmas.Bool.{and_parts, false_from_ne_true, eqb-true}
use Rattle.sp_fdl.specs.declared.operator.Operator.{Operator}
use Rattle.sp_fdl.specs.declared.operator.Operator.TheVariants as operator
use Rattle.sp_fdl.specs.Text.{is_blank, is_run, begins_run, IsApart}
use Rattle.sp_fdl.specs.code.Tokens.{◌>>=◌}
use Rattle.sp_fdl.specs.code.Operators.{Signed, signed, from_minus, from_arrow, from_less, sign_operator, word_operator, from_run, operator_at}
use Rattle.sp_fdl.proofs.TextLemmas.{stops, run_again, after_run_again}
use Rattle.sp_fdl.proofs.OperatorLemmas.{operator_text}
use Rattle.sp_fdl.proofs.StepReadLemmas.{opens}

-- what may follow a sign without making it longer
abbrev begins_arrow : List ℕ → Bool
begins_arrow [] = false
begins_arrow (byte ∷ bytes) = byte == 62

abbrev pub follows : List ℕ → Bool
follows [] = true
follows (byte ∷ bytes) = not (byte == 61 || (byte == 62 || byte == 45 && begins_arrow bytes))

opens_first : (byte : ℕ) (run arrow : Bool) → (byte == 40 || (byte == 45 && run || is_run byte)) ≡ true → (run ≡ true → arrow ≡ false) → not (byte == 61 || (byte == 62 || byte == 45 && arrow)) ≡ true
opens_first byte true true h other = absurd (true≢false (other refl))
opens_first byte true false h other = grind arith
opens_first byte false arrow h other = grind arith

run_no_arrow : (bytes : List ℕ) → begins_run bytes ≡ true → begins_arrow bytes ≡ false
run_no_arrow [] e = refl
run_no_arrow (byte ∷ bytes) e = false_from_ne_true (byte == 62) (λ h. true≢false (sym e ∙ ap is_run (eqb-true byte 62 h)))

opens_follows : (text : List ℕ) → opens text ≡ true → follows text ≡ true
opens_follows [] e = absurd cc
opens_follows (byte ∷ bytes) e = opens_first byte (begins_run bytes) (begins_arrow bytes) e (run_no_arrow bytes)

blank_follows : (byte : ℕ) (bytes : List ℕ) → is_blank byte ≡ true → follows (byte ∷ bytes) ≡ true
blank_follows byte bytes h = other byte (begins_arrow bytes) h
  where
    other : (c : ℕ) (b : Bool) → (c == 32 || c == 9) ≡ true → not (c == 61 || (c == 62 || c == 45 && b)) ≡ true
    other c b h = grind arith

pub blanks_follow : (blanks text : List ℕ) → list_all is_blank blanks ≡ true → opens text ≡ true → follows (blanks ++ text) ≡ true
blanks_follow [] text blank e = opens_follows text e
blanks_follow (byte ∷ blanks) text blank e = blank_follows byte (blanks ++ text) (and_parts (is_blank byte) (list_all is_blank blanks) blank).0

abbrev found : Operator → List ℕ → Option Signed
found o rest = Some (record { operator = o; rest = rest })

minus_again : (rest : List ℕ) → follows rest ≡ true → from_minus rest ≡ found operator.Subtract rest
minus_again [] h = refl
minus_again (byte ∷ rest) h = by (byte == 62) refl (begins_arrow rest) h
  where
    by : (b : Bool) → (byte == 62) ≡ b → (a : Bool) → not (byte == 61 || (byte == 62 || byte == 45 && a)) ≡ true → from_minus (byte ∷ rest) ≡ found operator.Subtract (byte ∷ rest)
    by true e a u = absurd (other byte a (eqb-true byte 62 e) u)
      where
        other : (c : ℕ) (d : Bool) → c ≡ 62 → not (c == 61 || (c == 62 || c == 45 && d)) ≡ true → ⊥
        other c d e u = grind arith
    by false e a u = rw e refl

arrow_again : (byte : ℕ) (rest : List ℕ) → begins_arrow rest ≡ false → from_arrow byte rest ≡ found operator.Less (byte ∷ rest)
arrow_again byte [] h = refl
arrow_again byte (last ∷ rest) h = rw h refl

less_again : (rest : List ℕ) → follows rest ≡ true → from_less rest ≡ found operator.Less rest
less_again [] h = refl
less_again (byte ∷ rest) h = by (byte == 45) refl (byte == 61) refl
  where
    arrow : (c : ℕ) (a : Bool) → (c == 45) ≡ true → not (c == 61 || (c == 62 || c == 45 && a)) ≡ true → a ≡ false
    arrow c true e u = grind arith
    arrow c false e u = refl

    equal : (c : ℕ) (a : Bool) → (c == 61) ≡ true → not (c == 61 || (c == 62 || c == 45 && a)) ≡ true → ⊥
    equal c a e u = grind arith

    by : (b : Bool) → (byte == 45) ≡ b → (d : Bool) → (byte == 61) ≡ d → from_less (byte ∷ rest) ≡ found operator.Less (byte ∷ rest)
    by true e d f = rw e (arrow_again byte rest (arrow byte (begins_arrow rest) e h))
    by false e true f = absurd (equal byte (begins_arrow rest) f h)
    by false e false f = rw (e, f) refl

sign_at : (byte : ℕ) (sign rest : List ℕ) (o : Operator) → is_run byte ≡ false → sign_operator (byte ∷ (sign ++ rest)) ≡ found o rest → operator_at (byte ∷ (sign ++ rest)) ≡ found o rest
unfolding operator_at
sign_at byte sign rest o plain e = rw plain e

word_at : (first : ℕ) (run rest : List ℕ) (o : Operator) → list_all is_run (first ∷ run) ≡ true → begins_run rest ≡ false → word_operator (first ∷ run) ≡ Some o → operator_at ((first ∷ run) ++ rest) ≡ found o rest
unfolding operator_at
word_at first run rest o all stop e =
    (λ i. from_run (run_again (first ∷ run) rest all stop i) (after_run_again (first ∷ run) rest all stop i) ((first ∷ run) ++ rest))
    ∙ ap (λ w. w >>= λ p. signed p rest) e

pub operator_again : (o : Operator) (rest : List ℕ) → IsApart (operator_text o) rest → follows rest ≡ true → operator_at (operator_text o ++ rest) ≡ found o rest
unfolding sign_operator word_operator
operator_again operator.Add rest apart h = sign_at 43 [] rest operator.Add refl refl
operator_again operator.Subtract rest apart h = sign_at 45 [] rest operator.Subtract refl (minus_again rest h)
operator_again operator.Multiply rest apart h = sign_at 42 [] rest operator.Multiply refl refl
operator_again operator.Divide rest apart h = word_at 100 (codes "iv") rest operator.Divide refl (apart refl) refl
operator_again operator.Remainder rest apart h = word_at 109 (codes "od") rest operator.Remainder refl (apart refl) refl
operator_again operator.Equal rest apart h = sign_at 61 [] rest operator.Equal refl refl
operator_again operator.Less rest apart h = sign_at 60 [] rest operator.Less refl (less_again rest h)
operator_again operator.LessOrEqual rest apart h = sign_at 60 (codes "=") rest operator.LessOrEqual refl refl
operator_again operator.And rest apart h = word_at 97 (codes "nd") rest operator.And refl (apart refl) refl
operator_again operator.Or rest apart h = word_at 111 (codes "r") rest operator.Or refl (apart refl) refl
operator_again operator.Implies rest apart h = sign_at 45 (codes ">") rest operator.Implies refl refl
operator_again operator.Iff rest apart h = sign_at 60 (codes "->") rest operator.Iff refl refl

pub operator_solid : (o : Operator) (rest : List ℕ) → stops is_blank (operator_text o ++ rest) ≡ true
operator_solid operator.Add rest = refl
operator_solid operator.Subtract rest = refl
operator_solid operator.Multiply rest = refl
operator_solid operator.Divide rest = refl
operator_solid operator.Remainder rest = refl
operator_solid operator.Equal rest = refl
operator_solid operator.Less rest = refl
operator_solid operator.LessOrEqual rest = refl
operator_solid operator.And rest = refl
operator_solid operator.Or rest = refl
operator_solid operator.Implies rest = refl
operator_solid operator.Iff rest = refl

pub operator_filled : (o : Operator) → 0 < length (operator_text o)
operator_filled operator.Add = omega arith
operator_filled operator.Subtract = omega arith
operator_filled operator.Multiply = omega arith
operator_filled operator.Divide = omega arith
operator_filled operator.Remainder = omega arith
operator_filled operator.Equal = omega arith
operator_filled operator.Less = omega arith
operator_filled operator.LessOrEqual = omega arith
operator_filled operator.And = omega arith
operator_filled operator.Or = omega arith
operator_filled operator.Implies = omega arith
operator_filled operator.Iff = omega arith
