-- Numbers that are read from digits, and the digits of numbers.
use Rattle.std.proofs.Common.{◌≡◌, ℕ, zero, suc, ◌+◌, ◌*◌, ◌^◌, ◌<◌, ◌≤◌, Bool, true, false, cond, ltb, List, [], ◌∷◌, length, get_or, Option, Some, None, refl, sym, ap, subst, ◌∙◌, arith, ℤ, pos, inl, inr}
use Rattle.std.specs.Prelude.{◌==◌, neg_ℤ, decimal, FitsSigned}
use Rattle.std.specs.Int.{w64}
use Rattle.std.specs.List.{list_all}
use Rattle.std.specs.Char.{is_ascii_digit, digit_value}
use Rattle.std.specs.Str.Parse.{AllDigits, IsNumeral, digits_value, digits_value_after}
use Rattle.std.proofs.lemmas.Bool.{ltb-true, lt-ltb, eqb-false, ne_eqb, and_from}
use Rattle.std.proofs.lemmas.Fmt.{decimal_is_IsNumeral, decimal_nonempty, first_decimal, decimal-digits_value, decimal_digit}
use Rattle.std.proofs.lemmas.Str.Parse.{IsNumeralModel}
use Rattle.std.proofs.lemmas.Int.{ints}
use Rattle.sp_fdl.specs.Text.{is_run, IsLiteral}
use Rattle.sp_fdl.specs.code.Tokens.{◌>>=◌}
use Rattle.sp_fdl.specs.code.Numbers.{digit_of, value_from, at_most, name_number, literal, negative_literal}
use Rattle.sp_fdl.proofs.TextLemmas.{bind_some, some_is}

-- ---- digits

digit_low : (byte : ℕ) → digit_of byte < 10 → (digit_value byte < 10) × (digit_value byte ≡ digit_of byte)
digit_low byte h = grind arith

low_digit : (byte : ℕ) → digit_value byte < 10 → (is_ascii_digit byte ≡ true) × (digit_of byte ≡ digit_value byte)
low_digit byte h = grind arith

pub value_of_digits : (value : ℕ) (digits : List ℕ) → AllDigits 10 digits → value_from value digits ≡ Some (digits_value_after 10 value digits)
value_of_digits value [] all = refl
value_of_digits value (digit ∷ digits) all =
    let d = low_digit digit all.0 in
    let test : ltb (digit_of digit) 10 ≡ true = lt-ltb (digit_of digit) 10 (omega arith) in
    rw (test, d.1) (value_of_digits (value * 10 + digit_value digit) digits all.1)

pub digits_of_value : (value n : ℕ) (digits : List ℕ) → value_from value digits ≡ Some n → AllDigits 10 digits × (n ≡ digits_value_after 10 value digits)
digits_of_value value n [] e = (tt, sym (some_is value n e))
digits_of_value value n (digit ∷ digits) e =
    let g = by (ltb (digit_of digit) 10) refl e in
    let d = digit_low digit (ltb-true (digit_of digit) 10 g.0) in
    let h = digits_of_value (value * 10 + digit_of digit) n digits g.1 in
    ((d.0, h.0), h.1 ∙ ap (λ v. digits_value_after 10 (value * 10 + v) digits) (sym d.1))
  where
    by : (b : Bool) → ltb (digit_of digit) 10 ≡ b → cond b (value_from (value * 10 + digit_of digit) digits) None ≡ Some n
        → (ltb (digit_of digit) 10 ≡ true) × (value_from (value * 10 + digit_of digit) digits ≡ Some n)
    by true h u = (h, u)
    by false h u = absurd cc

pub digits_run : (digits : List ℕ) → AllDigits 10 digits → list_all is_run digits ≡ true
digits_run [] all = refl
digits_run (digit ∷ digits) all =
    let d = low_digit digit all.0 in
    and_from (is_run digit) (list_all is_run digits) (grind arith) (digits_run digits all.1)

pub digit_first : (digit : ℕ) (digits : List ℕ) → AllDigits 10 (digit ∷ digits) → is_ascii_digit digit ≡ true
digit_first digit digits all = (low_digit digit all.0).0

-- ---- values within a limit

at_most_some : (limit : ℕ) (o : Option ℕ) (n : ℕ) → at_most limit o ≡ Some n → (o ≡ Some n) × (n ≤ limit)
at_most_some limit None n e = absurd cc
at_most_some limit (Some value) n e = grind arith

at_most_again : (limit n : ℕ) → n ≤ limit → at_most limit (Some n) ≡ Some n
at_most_again limit n h = grind arith

-- ---- literals

whole_literal : (limit : ℕ) (make : ℕ → ℤ) (digits : List ℕ) (n : ℤ) → (at_most limit (value_from 0 digits) >>= λ v. Some (make v)) ≡ Some n
    → AllDigits 10 digits × (n ≡ make (digits_value 10 digits)) × (digits_value 10 digits ≤ limit)
whole_literal limit make digits n e =
    let b = bind_some (at_most limit (value_from 0 digits)) (λ v. Some (make v)) n e in
    let m = at_most_some limit (value_from 0 digits) b.0 b.1 in
    let d = digits_of_value 0 b.0 digits m.0 in
    (d.0, sym (some_is (make b.0) n b.2) ∙ ap make d.1, omega (arith, d.1, m.1))

again_literal : (limit : ℕ) (make : ℕ → ℤ) (digits : List ℕ) → AllDigits 10 digits → digits_value 10 digits ≤ limit
    → (at_most limit (value_from 0 digits) >>= λ v. Some (make v)) ≡ Some (make (digits_value 10 digits))
again_literal limit make digits all h =
    ap (λ o. at_most limit o >>= λ v. Some (make v)) (value_of_digits 0 digits all)
    ∙ ap (λ o. o >>= λ v. Some (make v)) (at_most_again limit (digits_value 10 digits) h)

pub record ReadsLiteral (text : List ℕ) (n : ℤ) : Type 0 where
  pub is : IsLiteral n text
  pub fits : FitsSigned w64 n

fits_pos : (n : ℕ) → n ≤ 9223372036854775807 → FitsSigned w64 (pos n)
fits_pos n h = grind (arith, ints)

fits_neg : (n : ℕ) → n ≤ 9223372036854775808 → FitsSigned w64 (neg_ℤ (pos n))
fits_neg n h = grind (arith, ints)

low_pos : (n : ℕ) → FitsSigned w64 (pos n) → n ≤ 9223372036854775807
low_pos n h = grind (arith, ints)

low_neg : (n : ℕ) → FitsSigned w64 (neg_ℤ (pos n)) → n ≤ 9223372036854775808
low_neg n h = grind (arith, ints)

pub literal_is : (text : List ℕ) (n : ℤ) → literal text ≡ Some n → ReadsLiteral text n
unfolding literal
literal_is [] n e = absurd cc
literal_is (first ∷ digits) n e =
    let w = whole_literal 9223372036854775807 pos (first ∷ digits) n e in
    record { is = inl ((omega arith, w.0), w.1); fits = subst (FitsSigned w64) (sym w.1) (fits_pos (digits_value 10 (first ∷ digits)) w.2) }

pub negative_is : (text : List ℕ) (n : ℤ) → negative_literal text ≡ Some n → ReadsLiteral (45 ∷ text) n
unfolding negative_literal
negative_is [] n e = absurd cc
negative_is (first ∷ digits) n e =
    let w = whole_literal 9223372036854775808 (λ v. neg_ℤ (pos v)) (first ∷ digits) n e in
    record { is = inr (first ∷ digits, refl, (omega arith, w.0), w.1); fits = subst (FitsSigned w64) (sym w.1) (fits_neg (digits_value 10 (first ∷ digits)) w.2) }

pub literal_again : (text : List ℕ) (n : ℤ) → IsNumeral 10 text → n ≡ pos (digits_value 10 text) → FitsSigned w64 n → literal text ≡ Some n
unfolding literal
literal_again [] n numeral e fits = absurd (omega arith)
literal_again (first ∷ digits) n numeral e fits =
    again_literal 9223372036854775807 pos (first ∷ digits) numeral.1 (low_pos (digits_value 10 (first ∷ digits)) (subst (FitsSigned w64) e fits)) ∙ ap Some (sym e)

pub negative_again : (text : List ℕ) (n : ℤ) → IsNumeral 10 text → n ≡ neg_ℤ (pos (digits_value 10 text)) → FitsSigned w64 n → negative_literal text ≡ Some n
unfolding negative_literal
negative_again [] n numeral e fits = absurd (omega arith)
negative_again (first ∷ digits) n numeral e fits =
    again_literal 9223372036854775808 (λ v. neg_ℤ (pos v)) (first ∷ digits) numeral.1 (low_neg (digits_value 10 (first ∷ digits)) (subst (FitsSigned w64) e fits)) ∙ ap Some (sym e)

-- ---- numbers of names

own : IsNumeralModel (AllDigits 10) (digits_value 10)
own = record { to = λ ds h. h; from = λ ds h. h; same = λ ds h. refl }

pub record ReadsName (digits : List ℕ) (j : ℕ) : Type 0 where
  pub is : digits ≡ decimal j
  pub low : 1 ≤ j
  pub high : j ≤ 4294967295

pub name_is : (digits : List ℕ) (j : ℕ) → name_number digits ≡ Some j → ReadsName digits j
unfolding name_number
name_is [] j e = absurd cc
name_is (first ∷ digits) j e =
    let g = by (first == 48) refl e in
    let m = at_most_some 4294967295 (value_from 0 (first ∷ digits)) j g.1 in
    let d = digits_of_value 0 j (first ∷ digits) m.0 in
    let small : digits_value 10 (first ∷ digits) < 2 ^ 64 = omega (arith, d.1, m.1) in
    let same : decimal (digits_value 10 (first ∷ digits)) ≡ first ∷ digits = decimal-digits_value own (first ∷ digits) d.0 (omega arith) (λ h. absurd (eqb-false first 48 g.0 h)) small in
    let is : first ∷ digits ≡ decimal j = sym same ∙ ap decimal (sym d.1) in
    record { is = is; low = some j (eqb-false first 48 g.0) is; high = m.1 }
  where
    by : (b : Bool) → first == 48 ≡ b → cond b None (at_most 4294967295 (value_from 0 (first ∷ digits))) ≡ Some j
        → ((first == 48) ≡ false) × (at_most 4294967295 (value_from 0 (first ∷ digits)) ≡ Some j)
    by true h u = absurd cc
    by false h u = (h, u)

    some : (k : ℕ) → (first ≡ 48 → ⊥) → first ∷ digits ≡ decimal k → 1 ≤ k
    some zero other h = absurd (other (ap (λ w. get_or w 0 0) (h ∙ decimal_digit 0 (omega arith))))
    some (suc k) other h = omega arith

pub decimal_digits : (j : ℕ) → j ≤ 4294967295 → AllDigits 10 (decimal j)
decimal_digits j h = (decimal_is_IsNumeral j (omega arith)).0.1

pub decimal_filled : (j : ℕ) → j ≤ 4294967295 → 0 < length (decimal j)
decimal_filled j h = decimal_nonempty j (omega arith)

name_by : (digits : List ℕ) (j : ℕ) → IsNumeral 10 digits × (digits_value 10 digits ≡ j) → j ≤ 4294967295 → 48 < get_or digits 0 0 → name_number digits ≡ Some j
unfolding name_number
name_by [] j is high above = absurd (omega (arith, is.0.0))
name_by (first ∷ digits) j is high above =
    let test : (first == 48) ≡ false = ne_eqb first 48 (λ e. absurd (omega arith)) in
    rw test (ap (at_most 4294967295) (value_of_digits 0 (first ∷ digits) is.0.1 ∙ ap Some is.1) ∙ at_most_again 4294967295 j high)

pub name_again : (j : ℕ) → 1 ≤ j → j ≤ 4294967295 → name_number (decimal j) ≡ Some j
name_again j low high = name_by (decimal j) j (decimal_is_IsNumeral j (omega arith)) high (first_decimal j (omega arith) (omega arith))
