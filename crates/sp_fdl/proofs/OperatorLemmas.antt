-- Operators that are read, and the tokens that they are written with.
use Rattle.std.proofs.Common.{◌≡◌, ℕ, ◌<◌, true, false, cond, List, [], ◌∷◌, ◌++◌, length, Option, Some, None, refl, sym, ap, subst, ◌∙◌, arith, true≢false}
use Rattle.std.specs.Prelude.{◌==◌, codes}
use Rattle.std.proofs.lemmas.Bool.{eqb-true}
use Rattle.sp_fdl.specs.declared.operator.Operator.{Operator}
use Rattle.sp_fdl.specs.declared.operator.Operator.TheVariants as operator
use Rattle.sp_fdl.specs.Text.{is_run, ends_run, Token}
use Rattle.sp_fdl.specs.code.Tokens.{run_of, after_run}
use Rattle.sp_fdl.specs.code.Names.{is_word}
use Rattle.sp_fdl.specs.code.Operators.{Signed, signed, from_minus, from_arrow, from_less, sign_operator, word_operator, from_run, operator_at}
use Rattle.sp_fdl.proofs.TextLemmas.{bind_some, some_is, chosen, Takes, run_takes}
use Rattle.sp_fdl.proofs.NameLemmas.{word_is}

abbrev pub operator_text : Operator → List ℕ
operator_text operator.Add = codes "+"
operator_text operator.Subtract = codes "-"
operator_text operator.Multiply = codes "*"
operator_text operator.Divide = codes "div"
operator_text operator.Remainder = codes "mod"
operator_text operator.Equal = codes "="
operator_text operator.Less = codes "<"
operator_text operator.LessOrEqual = codes "<="
operator_text operator.And = codes "and"
operator_text operator.Or = codes "or"
operator_text operator.Implies = codes "->"
operator_text operator.Iff = codes "<->"

-- ---- what is read is written so

abbrev IsSign : List ℕ → Signed → Type 0
IsSign text found = (text ≡ operator_text found.operator ++ found.rest) × (ends_run (operator_text found.operator) ≡ false) × (0 < length (operator_text found.operator))

one_sign : (text rest : List ℕ) (o : Operator) (found : Signed) → signed o rest ≡ Some found → text ≡ operator_text o ++ rest → ends_run (operator_text o) ≡ false → 0 < length (operator_text o) → IsSign text found
one_sign text rest o found e whole plain some =
    let s : Signed = record { operator = o; rest = rest } in
    let same : s ≡ found = some_is s found e in
    subst (IsSign text) same (whole, plain, some)

minus_is : (text : List ℕ) (found : Signed) → from_minus text ≡ Some found → IsSign (45 ∷ text) found
minus_is [] found e = one_sign (45 ∷ []) [] operator.Subtract found e refl refl (omega arith)
minus_is (next ∷ rest) found e =
    chosen (IsSign (45 ∷ next ∷ rest) found) (next == 62) (signed operator.Implies rest) (signed operator.Subtract (next ∷ rest)) (Some found) e
    (λ h is. one_sign (45 ∷ next ∷ rest) rest operator.Implies found is (ap (λ c. 45 ∷ c ∷ rest) (eqb-true next 62 h)) refl (omega arith))
    (λ h is. one_sign (45 ∷ next ∷ rest) (next ∷ rest) operator.Subtract found is refl refl (omega arith))

arrow_is : (next : ℕ) (text : List ℕ) (found : Signed) → next ≡ 45 → from_arrow next text ≡ Some found → IsSign (60 ∷ next ∷ text) found
arrow_is next [] found minus e = one_sign (60 ∷ next ∷ []) (next ∷ []) operator.Less found e refl refl (omega arith)
arrow_is next (last ∷ rest) found minus e =
    chosen (IsSign (60 ∷ next ∷ last ∷ rest) found) (last == 62) (signed operator.Iff rest) (signed operator.Less (next ∷ last ∷ rest)) (Some found) e
    (λ h is. one_sign (60 ∷ next ∷ last ∷ rest) rest operator.Iff found is (λ i. 60 ∷ minus i ∷ eqb-true last 62 h i ∷ rest) refl (omega arith))
    (λ h is. one_sign (60 ∷ next ∷ last ∷ rest) (next ∷ last ∷ rest) operator.Less found is refl refl (omega arith))

less_is : (text : List ℕ) (found : Signed) → from_less text ≡ Some found → IsSign (60 ∷ text) found
less_is [] found e = one_sign (60 ∷ []) [] operator.Less found e refl refl (omega arith)
less_is (next ∷ rest) found e =
    chosen (IsSign (60 ∷ next ∷ rest) found) (next == 45) (from_arrow next rest) _ (Some found) e (λ h is. arrow_is next rest found (eqb-true next 45 h) is)
    (λ h is. chosen (IsSign (60 ∷ next ∷ rest) found) (next == 61) (signed operator.LessOrEqual rest) (signed operator.Less (next ∷ rest)) (Some found) is
    (λ g same. one_sign (60 ∷ next ∷ rest) rest operator.LessOrEqual found same (ap (λ c. 60 ∷ c ∷ rest) (eqb-true next 61 g)) refl (omega arith))
    (λ g same. one_sign (60 ∷ next ∷ rest) (next ∷ rest) operator.Less found same refl refl (omega arith)))

single_is : (byte first : ℕ) (rest : List ℕ) (o : Operator) (found : Signed) → operator_text o ≡ byte ∷ [] → is_run byte ≡ false → signed o rest ≡ Some found → (first == byte) ≡ true → IsSign (first ∷ rest) found
single_is byte first rest o found known plain e h =
    one_sign (first ∷ rest) rest o found e (ap (λ c. c ∷ rest) (eqb-true first byte h) ∙ ap (λ w. w ++ rest) (sym known)) (ap ends_run known ∙ plain) (subst (λ w. 0 < length w) (sym known) (omega arith))

sign_is : (text : List ℕ) (found : Signed) → sign_operator text ≡ Some found → IsSign text found
unfolding sign_operator
sign_is [] found e = absurd cc
sign_is (first ∷ rest) found e =
    let P : Type 0 = IsSign (first ∷ rest) found in
    chosen P (first == 60) (from_less rest) _ (Some found) e (λ h is. subst (λ c. IsSign (c ∷ rest) found) (sym (eqb-true first 60 h)) (less_is rest found is))
    (λ h1 e1. chosen P (first == 45) (from_minus rest) _ (Some found) e1 (λ h is. subst (λ c. IsSign (c ∷ rest) found) (sym (eqb-true first 45 h)) (minus_is rest found is))
    (λ h2 e2. chosen P (first == 43) (signed operator.Add rest) _ (Some found) e2 (λ h is. single_is 43 first rest operator.Add found refl refl is h)
    (λ h3 e3. chosen P (first == 42) (signed operator.Multiply rest) _ (Some found) e3 (λ h is. single_is 42 first rest operator.Multiply found refl refl is h)
    (λ h4 e4. chosen P (first == 61) (signed operator.Equal rest) None (Some found) e4 (λ h is. single_is 61 first rest operator.Equal found refl refl is h) (λ h5 e5. absurd cc)))))

word_next : (run name : List ℕ) (a : Operator) (rest : Option Operator) (o : Operator) → operator_text a ≡ name → (rest ≡ Some o → run ≡ operator_text o) → cond (is_word run name) (Some a) rest ≡ Some o → run ≡ operator_text o
word_next run name a rest o same next e =
    chosen (run ≡ operator_text o) (is_word run name) (Some a) rest (Some o) e (λ h is. word_is run name h ∙ sym same ∙ ap operator_text (some_is a o is)) (λ h is. next is)

word_operator_is : (run : List ℕ) (o : Operator) → word_operator run ≡ Some o → run ≡ operator_text o
unfolding word_operator
word_operator_is run o e =
    word_next run (codes "div") operator.Divide _ o refl (word_next run (codes "mod") operator.Remainder _ o refl
    (word_next run (codes "and") operator.And _ o refl (word_next run (codes "or") operator.Or None o refl (λ n. absurd cc)))) e

pub operator_takes : (text : List ℕ) (found : Signed) → operator_at text ≡ Some found → Takes (Token (operator_text found.operator)) text found.rest
unfolding operator_at
operator_takes text found e = by (run_of text) refl e
  where
    by : (run : List ℕ) → run_of text ≡ run → from_run run (after_run text) text ≡ Some found → Takes (Token (operator_text found.operator)) text found.rest
    by [] is e =
        let s = sign_is text found e in
        record { front = operator_text found.operator; whole = s.0; is = refl; apart = λ ends. absurd (true≢false (sym ends ∙ s.1)); filled = s.2 }
    by (first ∷ run) is e =
        let b = bind_some (word_operator (first ∷ run)) (λ o. signed o (after_run text)) found e in
        let s : Signed = record { operator = b.0; rest = after_run text } in
        let same : s ≡ found = some_is s found b.2 in
        let run_is : run_of text ≡ operator_text b.0 = is ∙ word_operator_is (first ∷ run) b.0 b.1 in
        subst (λ (f : Signed). Takes (Token (operator_text f.operator)) text f.rest) same
        (run_takes text (operator_text b.0) run_is (subst (λ w. 0 < length w) (word_operator_is (first ∷ run) b.0 b.1) (omega arith)))
