-- The words STKk are those of the numbers from 1 to 32,767.
use Rattle.std.proofs.Common.{◌≡◌, ℕ, ◌+◌, ◌-◌, ◌*◌, ◌/◌, ◌%◌, ◌<◌, ◌≤◌, Bool, true, false, cond, eqb, leb, ltb, List, [], ◌∷◌, ◌++◌, length, get_or, take, drop, Option, Some, None, refl, sym, ap, ◌∙◌, arith, append_assoc, append-nil, ◌≢◌, length-append, eqb-true, eq-eqb, take-append-drop, inl, inr}
use Rattle.std.specs.Prelude.{nat_eq, ◌&&◌, ◌↔◌, codes, decimal}
use Rattle.std.specs.Char.{is_ascii_digit}
use Rattle.std.specs.Option.{option_and_then}
use Rattle.std.specs.Cmp.Lexicographic.{pointwise, same_text}
use Rattle.std.proofs.lemmas.Bool.{cases_Bool}
use Rattle.std.proofs.lemmas.List.{at_drop_more, at_drop_all}
use Rattle.std.proofs.lemmas.Bool.Decides.{nat_tests}
use Rattle.std.proofs.lemmas.Fmt.{decimal_step, decimal_digit, decimal_by_steps}
use Rattle.sp_words.specs.code.Slots.{with_digit, number_after, slot_number, slot_named}

-- a digit that is taken
pub record Takes (number digit next : ℕ) : Type 0 where
  pub low : 48 ≤ digit
  pub high : digit ≤ 57
  pub value : next ≡ number * 10 + (digit - 48)
  pub small : next ≤ 32767

tested : (a b : Bool) (x next : ℕ) → (if_both : cond (a && b) (Some x) None ≡ Some next) → (a ≡ true) × (b ≡ true) × (next ≡ x)
tested true true x next e = (refl, refl, cc)
tested true false x next e = absurd cc
tested false b x next e = absurd cc

takes : (number digit next : ℕ) → with_digit number digit ≡ Some next → Takes number digit next
takes number digit next e =
    let parts = tested (is_ascii_digit digit) (leb (number * 10 + (digit - 48)) 32767) (number * 10 + (digit - 48)) next e in
    let a = parts.0 in
    let b = parts.1 in
    let v = parts.2 in
    record { low = grind (arith, nat_tests); high = grind (arith, nat_tests); value = v; small = grind (arith, nat_tests) }

both : (a b : Bool) (x : ℕ) → a ≡ true → b ≡ true → cond (a && b) (Some x) None ≡ Some x
both true true x p q = refl
both true false x p q = absurd cc
both false b x p q = absurd cc

taken : (number digit : ℕ) → digit < 10 → number * 10 + digit ≤ 32767 → with_digit number (48 + digit) ≡ Some (number * 10 + digit)
taken number digit lt le =
    let same : 48 + digit - 48 ≡ digit = omega arith in
    let a : is_ascii_digit (48 + digit) ≡ true = grind (arith, nat_tests) in
    let b : leb (number * 10 + (48 + digit - 48)) 32767 ≡ true = grind (arith, nat_tests) in
    both (is_ascii_digit (48 + digit)) (leb (number * 10 + (48 + digit - 48)) 32767) (number * 10 + (48 + digit - 48)) a b ∙ ap (λ d. Some (number * 10 + d)) same

-- decimal digits end in the last one
decimal_more : (number digit : ℕ) → 0 < number → digit < 10 → number * 10 + digit ≤ 32767 → decimal (number * 10 + digit) ≡ decimal number ++ (48 + digit) ∷ []
decimal_more number digit some lt le =
    let tens : (number * 10 + digit) / 10 ≡ number = omega arith in
    let ones : (number * 10 + digit) % 10 ≡ digit = omega arith in
    decimal_step (number * 10 + digit) (omega arith) (omega arith) ∙ ap (λ n. decimal n ++ (48 + (number * 10 + digit) % 10) ∷ []) tens ∙ ap (λ d. decimal number ++ (48 + d) ∷ []) ones

bound : (o : Option ℕ) (digits : List ℕ) (k : ℕ) → option_and_then (λ next. number_after next digits) o ≡ Some k → (next : ℕ) × (o ≡ Some next) × (number_after next digits ≡ Some k)
bound None digits k e = absurd cc
bound (Some next) digits k e = (next, refl, e)

-- digits that are read after a number are its further digits
reads : (number : ℕ) (digits : List ℕ) (k : ℕ) → 0 < number → number ≤ 32767 → number_after number digits ≡ Some k → (0 < k) × (k ≤ 32767) × (decimal number ++ digits ≡ decimal k)
unfolding number_after
reads number [] k some small e = let same : number ≡ k = cc in (omega arith, omega arith, append-nil (decimal number) ∙ ap decimal same)
reads number (digit ∷ digits) k some small e =
    let parts = bound (with_digit number digit) digits k e in
    let next = parts.0 in
    let t = takes number digit next parts.1 in
    let low : 48 ≤ digit = t.low in
    let high : digit ≤ 57 = t.high in
    let value : next ≡ number * 10 + (digit - 48) = t.value in
    let fits : next ≤ 32767 = t.small in
    let rest = reads next digits k (omega arith) fits parts.2 in
    let glyph : 48 + (digit - 48) ≡ digit = omega arith in
    let more : decimal next ≡ decimal number ++ digit ∷ [] = ap decimal value ∙ decimal_more number (digit - 48) some (omega arith) (omega arith) ∙ ap (λ d. decimal number ++ d ∷ []) glyph in
    (rest.0, rest.1, sym (append_assoc (decimal number) (digit ∷ []) digits) ∙ ap (λ ds. ds ++ digits) (sym more) ∙ rest.2)

number_append : (number : ℕ) (digits : List ℕ) (digit : ℕ) → number_after number (digits ++ digit ∷ []) ≡ option_and_then (λ next. with_digit next digit) (number_after number digits)
unfolding number_after
number_append number [] digit = ends (with_digit number digit)
  where
    ends : (o : Option ℕ) → option_and_then (λ next. Some next) o ≡ o
    ends None = refl
    ends (Some next) = refl
number_append number (first ∷ digits) digit = goes (λ next. number_append next digits digit) (with_digit number first)
  where
    goes : ((next : ℕ) → number_after next (digits ++ digit ∷ []) ≡ option_and_then (λ next. with_digit next digit) (number_after next digits))
        → (o : Option ℕ) → option_and_then (λ next. number_after next (digits ++ digit ∷ [])) o ≡ option_and_then (λ next. with_digit next digit) (option_and_then (λ next. number_after next digits) o)
    goes each None = refl
    goes each (Some next) = each next

-- the digits of a number are read as it, and the first of them isn't 0
abbrev Reads : ℕ → List ℕ → Type 0
Reads n digits = n ≤ 32767 → (number_after 0 digits ≡ Some n) × (0 < n → get_or digits 0 48 ≢ 48) × (0 < length digits)

reads_one : (n : ℕ) → n < 10 → Reads n ((48 + n) ∷ [])
unfolding number_after
reads_one n lt le = (ap (option_and_then (λ next. Some next)) (taken 0 n lt (omega arith)) ∙ ap (λ v. Some v) (omega arith), λ some e. omega arith, omega arith)

front : (digits : List ℕ) (digit : ℕ) → 0 < length digits → get_or (digits ++ digit ∷ []) 0 48 ≡ get_or digits 0 48
front [] digit some = absurd (omega arith)
front (first ∷ digits) digit some = refl

reads_more : (n : ℕ) (digits : List ℕ) → 10 ≤ n → Reads (n / 10) digits → Reads n (digits ++ (48 + n % 10) ∷ [])
reads_more n digits ten h le =
    let before = h (omega arith) in
    let whole : n / 10 * 10 + n % 10 ≡ n = omega arith in (
      number_append 0 digits (48 + n % 10) ∙ ap (option_and_then (λ next. with_digit next (48 + n % 10))) before.0
          ∙ taken (n / 10) (n % 10) (omega arith) (omega arith) ∙ ap (λ v. Some v) whole,
      λ some e. before.1 (omega arith) (sym (front digits (48 + n % 10) before.2) ∙ e),
      omega (arith, length-append digits ((48 + n % 10) ∷ [])),
    )

pub decimal_read : (n : ℕ) → 0 < n → n ≤ 32767 → slot_number (decimal n) ≡ Some n
decimal_read n some le =
    let h = decimal_by_steps Reads reads_one reads_more n (omega arith) le in first (decimal n) h.0 (h.1 some) h.2
  where
    first : (digits : List ℕ) → number_after 0 digits ≡ Some n → get_or digits 0 48 ≢ 48 → 0 < length digits → slot_number digits ≡ Some n
    first [] e nonzero some = absurd (omega arith)
    first (digit ∷ digits) e nonzero some = elim (cases_Bool (eqb digit 48)) [
      | inl nought ↦ absurd (nonzero (eqb-true digit 48 nought))
      | inr other ↦ ap (λ b. cond b None (number_after 0 (digit ∷ digits))) other ∙ e
    ]

abbrev none_of : Option ℕ
none_of = None

pub number_read : (digits : List ℕ) (k : ℕ) → slot_number digits ≡ Some k → (1 ≤ k) × (k ≤ 32767) × (digits ≡ decimal k)
unfolding number_after
number_read [] k e = absurd cc
number_read (digit ∷ digits) k e = elim (cases_Bool (eqb digit 48)) [
  | inl nought ↦ (let none : none_of ≡ Some k = sym (ap (λ b. cond b None (number_after 0 (digit ∷ digits))) nought) ∙ e in absurd cc)
  | inr other ↦
      let read : number_after 0 (digit ∷ digits) ≡ Some k = sym (ap (λ b. cond b None (number_after 0 (digit ∷ digits))) other) ∙ e in
      let parts = bound (with_digit 0 digit) digits k read in
      let next = parts.0 in
      let t = takes 0 digit next parts.1 in
      let low : 48 ≤ digit = t.low in
      let high : digit ≤ 57 = t.high in
      let value : next ≡ 0 * 10 + (digit - 48) = t.value in
      let nonzero : digit ≢ 48 = λ same. (let yes = eq-eqb digit 48 same in cc) in
      let rest = reads next digits k (omega arith) t.small parts.2 in
      let glyph : decimal next ≡ digit ∷ [] = decimal_digit next (omega arith) ∙ ap (λ d. d ∷ []) (omega arith) in
      (rest.0, rest.1, ap (λ ds. ds ++ digits) (sym glyph) ∙ rest.2)
]

stk : (word : List ℕ) → pointwise nat_eq (take 3 word) (codes "STK") ≡ true → word ≡ codes "STK" ++ drop 3 word
stk word e = sym (take-append-drop 3 word) ∙ ap (λ front. front ++ drop 3 word) (same_text (take 3 word) (codes "STK") (sym e))

chosen : (short same : Bool) (o : Option ℕ) (k : ℕ) → cond short None (cond same o None) ≡ Some k → (same ≡ true) × (o ≡ Some k)
chosen true same o k e = absurd cc
chosen false true o k e = (refl, e)
chosen false false o k e = absurd cc

pub slot_exact : (word : List ℕ) (k : ℕ) → (slot_named word ≡ Some k) ↔ ((1 ≤ k) × (k ≤ 32767) × (word ≡ codes "STK" ++ decimal k))
slot_exact word k = (
  λ e. (let parts = chosen (ltb (length word) 3) (pointwise nat_eq (take 3 word) (codes "STK")) (slot_number (drop 3 word)) k e in
      let read = number_read (drop 3 word) k parts.1 in
      (read.0, read.1, stk word parts.0 ∙ ap (λ ds. codes "STK" ++ ds) read.2)),
  λ h. (let long : ltb (length (codes "STK" ++ decimal k)) 3 ≡ false = grind (arith, nat_tests, length-append (codes "STK") (decimal k)) in
      ap slot_named h.2 ∙ ap (λ b. cond b None (slot_number (decimal k))) long ∙ decimal_read k (omega (arith, h.0)) h.1),
)

-- digit by digit

pub number_after-more : (digits : List ℕ) (i number next : ℕ) → i < length digits → with_digit number (get_or digits i 0) ≡ Some next
    → number_after next (drop (i + 1) digits) ≡ number_after number (drop i digits)
unfolding number_after
number_after-more digits i number next lt e =
    sym (at_drop_more (number_after number) digits i 0 lt ∙ ap (option_and_then (λ next. number_after next (drop (i + 1) digits))) e)

pub number_after-not : (digits : List ℕ) (i number : ℕ) → i < length digits → with_digit number (get_or digits i 0) ≡ None → number_after number (drop i digits) ≡ None
unfolding number_after
number_after-not digits i number lt e = at_drop_more (number_after number) digits i 0 lt ∙ ap (option_and_then (λ next. number_after next (drop (i + 1) digits))) e

pub number_after-all : (digits : List ℕ) (i number : ℕ) → length digits ≤ i → number_after number (drop i digits) ≡ Some number
unfolding number_after
number_after-all digits i number le = at_drop_all (number_after number) digits i le
