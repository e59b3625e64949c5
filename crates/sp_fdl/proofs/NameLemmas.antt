-- Words and names of variables that are read from runs, and the runs that they are written with.
use Rattle.std.proofs.Common.{◌≡◌, ℕ, zero, suc, ◌+◌, ◌-◌, ◌<◌, ◌≤◌, Bool, true, false, cond, List, [], ◌∷◌, ◌++◌, length, take, Option, Some, None, refl, sym, ap, subst, ◌∙◌, arith, length-append, true≢false, inl, inr}
use Rattle.std.specs.Prelude.{◌⊎◌, ◌==◌, codes, decimal, slice_index}
use Rattle.std.specs.Cmp.Lexicographic.{same_text}
use Rattle.std.specs.List.{list_all}
use Rattle.std.specs.Char.{is_ascii_digit, is_ascii_alphabetic}
use Rattle.std.specs.Str.Parse.{AllDigits}
use Rattle.std.proofs.lemmas.Bool.{eqb-true, and_parts, and_from}
use Rattle.std.proofs.lemmas.Fmt.{decimal_digit}
use Rattle.std.proofs.lemmas.List.{append-nil, take_all, take_more, take_at}
use Rattle.std.proofs.Math.Seq.{get_or-append_seam}
use Rattle.sp_base.specs.declared.location.Loc.{Loc}
use Rattle.sp_base.specs.declared.location.Loc.TheVariants as loc
use Rattle.sp_term.specs.declared.var.Var.{Var}
use Rattle.sp_term.specs.declared.var.Var.TheVariants as var
use Rattle.sp_term.specs.Sorts.{IsNumbered}
use Rattle.sp_fdl.specs.declared.word.Word.{Word}
use Rattle.sp_fdl.specs.declared.word.Word.TheVariants as word
use Rattle.sp_fdl.specs.Printed.{location_name, variable_text}
use Rattle.sp_fdl.specs.Text.{is_run, HasNameNumber}
use Rattle.sp_fdl.specs.code.Tokens.{◌>>=◌}
use Rattle.sp_fdl.specs.code.Numbers.{name_number}
use Rattle.sp_fdl.specs.code.Names.{is_word, word_of, location_named, after_underline, at_moment, location_variable, memory_variable, slot_half, front_of, last_of, slot_variable, marked_variable, letters_of, after_letters, variable_of, bound_number, bit_number}
use Rattle.sp_fdl.proofs.TextLemmas.{bind_some, some_is, chosen, stops, taken_again, dropped_again, dropped_stops, parts_of}
use Rattle.sp_fdl.proofs.ValueLemmas.{ReadsName, name_is, name_again, decimal_digits, decimal_filled, digits_run, digit_first}

pub word_is : (run name : List ℕ) → is_word run name ≡ true → run ≡ name
word_is run name e = same_text run name (sym e)

-- ---- words

abbrev pub word_text : Word → List ℕ
word_text word.True = codes "true"
word_text word.False = codes "false"
word_text word.And = codes "band"
word_text word.Or = codes "bor"
word_text word.Xor = codes "bxor"
word_text word.Parity = codes "par"
word_text word.Bit = codes "bit"
word_text word.Flags = codes "psw"
word_text word.If = codes "if"
word_text word.Element = codes "element"
word_text word.Update = codes "update"
word_text word.Total = codes "total"
word_text word.ForAll = codes "for_all"
word_text word.ForSome = codes "for_some"

-- one step of a chain of tests
named_next : {A : Type 0} (run name : List ℕ) (a : A) (rest : Option A) (w : A) (text : A → List ℕ) → text a ≡ name → (rest ≡ Some w → run ≡ text w) → cond (is_word run name) (Some a) rest ≡ Some w → run ≡ text w
named_next run name a rest w text same next e =
    chosen (run ≡ text w) (is_word run name) (Some a) rest (Some w) e (λ h is. word_is run name h ∙ sym same ∙ ap text (some_is a w is)) (λ h is. next is)

pub word_of_is : (run : List ℕ) (w : Word) → word_of run ≡ Some w → run ≡ word_text w
unfolding word_of
word_of_is run w e =
    named_next run (codes "true") word.True _ w word_text refl
    (named_next run (codes "false") word.False _ w word_text refl
    (named_next run (codes "band") word.And _ w word_text refl
    (named_next run (codes "bor") word.Or _ w word_text refl
    (named_next run (codes "bxor") word.Xor _ w word_text refl
    (named_next run (codes "par") word.Parity _ w word_text refl
    (named_next run (codes "bit") word.Bit _ w word_text refl
    (named_next run (codes "psw") word.Flags _ w word_text refl
    (named_next run (codes "if") word.If _ w word_text refl
    (named_next run (codes "element") word.Element _ w word_text refl
    (named_next run (codes "update") word.Update _ w word_text refl
    (named_next run (codes "total") word.Total _ w word_text refl
    (named_next run (codes "for_all") word.ForAll _ w word_text refl
    (named_next run (codes "for_some") word.ForSome None w word_text refl (λ n. absurd cc)))))))))))))) e

-- ---- registers and flags

location_is : (name : List ℕ) (x : Loc) → location_named name ≡ Some x → name ≡ location_name x
unfolding location_named
location_is name x e =
    named_next name (codes "a") loc.A _ x location_name refl
    (named_next name (codes "b") loc.B _ x location_name refl
    (named_next name (codes "c") loc.C _ x location_name refl
    (named_next name (codes "d") loc.D _ x location_name refl
    (named_next name (codes "e") loc.E _ x location_name refl
    (named_next name (codes "h") loc.H _ x location_name refl
    (named_next name (codes "l") loc.L _ x location_name refl
    (named_next name (codes "s") loc.S _ x location_name refl
    (named_next name (codes "z") loc.Z _ x location_name refl
    (named_next name (codes "ac") loc.Ac _ x location_name refl
    (named_next name (codes "p") loc.P _ x location_name refl
    (named_next name (codes "cy") loc.Cy None x location_name refl (λ n. absurd cc)))))))))))) e

location_again : (x : Loc) → location_named (location_name x) ≡ Some x
unfolding location_named
location_again loc.A = refl
location_again loc.B = refl
location_again loc.C = refl
location_again loc.D = refl
location_again loc.E = refl
location_again loc.H = refl
location_again loc.L = refl
location_again loc.S = refl
location_again loc.Z = refl
location_again loc.Ac = refl
location_again loc.P = refl
location_again loc.Cy = refl

location_letters : (x : Loc) → list_all is_ascii_alphabetic (location_name x) ≡ true
location_letters loc.A = refl
location_letters loc.B = refl
location_letters loc.C = refl
location_letters loc.D = refl
location_letters loc.E = refl
location_letters loc.H = refl
location_letters loc.L = refl
location_letters loc.S = refl
location_letters loc.Z = refl
location_letters loc.Ac = refl
location_letters loc.P = refl
location_letters loc.Cy = refl

marked_location : (x : Loc) (mark : List ℕ) → marked_variable (location_name x) mark ≡ location_variable (location_name x) mark
unfolding marked_variable
marked_location loc.A mark = refl
marked_location loc.B mark = refl
marked_location loc.C mark = refl
marked_location loc.D mark = refl
marked_location loc.E mark = refl
marked_location loc.H mark = refl
marked_location loc.L mark = refl
marked_location loc.S mark = refl
marked_location loc.Z mark = refl
marked_location loc.Ac mark = refl
marked_location loc.P mark = refl
marked_location loc.Cy mark = refl

-- ---- variables

pub record ReadsVariable (run : List ℕ) (v : Var) : Type 0 where
  pub is : run ≡ variable_text v
  pub numbered : IsNumbered v
  pub small : HasNameNumber v

after_underline_is : (mark : List ℕ) (j : ℕ) → after_underline mark ≡ Some j → (digits : List ℕ) × (mark ≡ 95 ∷ digits) × ReadsName digits j
unfolding after_underline
after_underline_is [] j e = absurd cc
after_underline_is (first ∷ digits) j e =
    chosen ((ds : List ℕ) × (first ∷ digits ≡ 95 ∷ ds) × ReadsName ds j) (first == 95) (name_number digits) None (Some j) e
    (λ h is. (digits, ap (λ b. b ∷ digits) (eqb-true first 95 h), name_is digits j is)) (λ h is. absurd cc)

-- what a name with a mark after it stands for
moment_is : (name : List ℕ) (now entry : Var) (after : ℕ → Var) (mark : List ℕ) (v : Var) → ReadsVariable name now → ReadsVariable (name ++ codes "~") entry
    → ((j : ℕ) → 1 ≤ j → j ≤ 4294967295 → ReadsVariable (name ++ (95 ∷ decimal j)) (after j)) → at_moment now entry after mark ≡ Some v → ReadsVariable (name ++ mark) v
moment_is name now entry after [] v one two more e = subst (λ w. ReadsVariable w v) (sym (append-nil name)) (subst (ReadsVariable name) (some_is now v e) one)
moment_is name now entry after (first ∷ mark) v one two more e =
    chosen (ReadsVariable (name ++ (first ∷ mark)) v) (is_word (first ∷ mark) (codes "~")) (Some entry) (after_underline (first ∷ mark) >>= λ j. Some (after j)) (Some v) e
    (λ h is. subst (λ w. ReadsVariable (name ++ w) v) (sym (word_is (first ∷ mark) (codes "~") h)) (subst (ReadsVariable (name ++ codes "~")) (some_is entry v is) two))
    (λ h is.
    let b = bind_some (after_underline (first ∷ mark)) (λ j. Some (after j)) v is in
    let u = after_underline_is (first ∷ mark) b.0 b.1 in
    let r : ReadsName u.0 b.0 = u.2 in
    subst (λ w. ReadsVariable (name ++ w) v) (sym (u.1 ∙ ap (λ w. 95 ∷ w) r.is))
    (subst (ReadsVariable (name ++ (95 ∷ decimal b.0))) (some_is (after b.0) v b.2) (more b.0 r.low r.high)))

location_variable_is : (name mark : List ℕ) (v : Var) → location_variable name mark ≡ Some v → ReadsVariable (name ++ mark) v
unfolding location_variable
location_variable_is name mark v e =
    let b = bind_some (location_named name) (λ x. at_moment (var.Now x) (var.Entry x) (var.After x) mark) v e in
    let x : Loc = b.0 in
    let m = moment_is (location_name x) (var.Now x) (var.Entry x) (var.After x) mark v (record { is = refl; numbered = tt; small = tt }) (record { is = refl; numbered = tt; small = tt })
    (λ j low high. record { is = refl; numbered = low; small = high }) b.2 in
    subst (λ w. ReadsVariable (w ++ mark) v) (sym (location_is name x b.1)) m

memory_variable_is : (mark : List ℕ) (v : Var) → memory_variable mark ≡ Some v → ReadsVariable (codes "mem" ++ mark) v
unfolding memory_variable
memory_variable_is mark v e =
    moment_is (codes "mem") var.Mem var.MemEntry var.MemAfter mark v (record { is = refl; numbered = tt; small = tt }) (record { is = refl; numbered = tt; small = tt })
    (λ j low high. record { is = refl; numbered = low; small = high }) e

ends_is : (text : List ℕ) → 0 < length text → text ≡ front_of text ++ (last_of text ∷ [])
ends_is text some =
    let e : length text - 1 + 1 ≡ length text = omega arith in
    sym (take_all (length text) text (omega arith)) ∙ ap (λ n. take n text) (sym e) ∙ take_more text (length text - 1) 0 (omega arith)

slot_half_is : (letter j : ℕ) (v : Var) → slot_half letter j ≡ Some v → ((letter ≡ 104) × (v ≡ var.SlotHigh j)) ⊎ ((letter ≡ 108) × (v ≡ var.SlotLow j))
slot_half_is letter j v e =
    let P : Type 0 = ((letter ≡ 104) × (v ≡ var.SlotHigh j)) ⊎ ((letter ≡ 108) × (v ≡ var.SlotLow j)) in
    chosen P (letter == 104) (Some (var.SlotHigh j)) _ (Some v) e (λ h is. inl (eqb-true letter 104 h, sym (some_is (var.SlotHigh j) v is)))
    (λ h is. chosen P (letter == 108) (Some (var.SlotLow j)) None (Some v) is (λ g same. inr (eqb-true letter 108 g, sym (some_is (var.SlotLow j) v same))) (λ g same. absurd cc))

slot_filled : (mark : List ℕ) (v : Var) → slot_variable mark ≡ Some v → 0 < length mark
unfolding slot_variable name_number
slot_filled [] v e = absurd cc
slot_filled (first ∷ mark) v e = omega arith

slot_variable_is : (mark : List ℕ) (v : Var) → slot_variable mark ≡ Some v → ReadsVariable (codes "stk" ++ mark) v
unfolding slot_variable
slot_variable_is mark v e =
    let some = slot_filled mark v e in
    let b = bind_some (name_number (front_of mark)) (λ j. slot_half (last_of mark) j) v e in
    let r = name_is (front_of mark) b.0 b.1 in
    let whole : mark ≡ decimal b.0 ++ (last_of mark ∷ []) = ends_is mark some ∙ ap (λ w. w ++ (last_of mark ∷ [])) r.is in
    let text : codes "stk" ++ mark ≡ codes "stk" ++ (decimal b.0 ++ (last_of mark ∷ [])) = ap (λ w. codes "stk" ++ w) whole in
    elim (slot_half_is (last_of mark) b.0 v b.2) [
      | inl h ↦ subst (ReadsVariable (codes "stk" ++ mark)) (sym h.1) (record { is = text ∙ ap (λ c. codes "stk" ++ (decimal b.0 ++ (c ∷ []))) h.0; numbered = r.low; small = r.high })
      | inr h ↦ subst (ReadsVariable (codes "stk" ++ mark)) (sym h.1) (record { is = text ∙ ap (λ c. codes "stk" ++ (decimal b.0 ++ (c ∷ []))) h.0; numbered = r.low; small = r.high })
    ]

-- a name with an underline and a number after it
underlined_is : (name : List ℕ) (make : ℕ → Var) (mark : List ℕ) (v : Var) → ((j : ℕ) → 1 ≤ j → j ≤ 4294967295 → ReadsVariable (name ++ (95 ∷ decimal j)) (make j))
    → (after_underline mark >>= λ j. Some (make j)) ≡ Some v → ReadsVariable (name ++ mark) v
underlined_is name make mark v reads e =
    let b = bind_some (after_underline mark) (λ j. Some (make j)) v e in
    let u = after_underline_is mark b.0 b.1 in
    let r : ReadsName u.0 b.0 = u.2 in
    subst (λ w. ReadsVariable (name ++ w) v) (sym (u.1 ∙ ap (λ w. 95 ∷ w) r.is))
    (subst (ReadsVariable (name ++ (95 ∷ decimal b.0))) (some_is (make b.0) v b.2) (reads b.0 r.low r.high))

bound_variable_is : (mark : List ℕ) (v : Var) → (name_number mark >>= λ j. Some (var.Bound j)) ≡ Some v → ReadsVariable (codes "i" ++ mark) v
bound_variable_is mark v e =
    let b = bind_some (name_number mark) (λ j. Some (var.Bound j)) v e in
    let r = name_is mark b.0 b.1 in
    subst (ReadsVariable (codes "i" ++ mark)) (some_is (var.Bound b.0) v b.2) (record { is = ap (λ w. codes "i" ++ w) r.is; numbered = r.low; small = r.high })

marked_next : (name known mark : List ℕ) (one rest : Option Var) (v : Var) → (one ≡ Some v → ReadsVariable (known ++ mark) v) → (rest ≡ Some v → ReadsVariable (name ++ mark) v)
    → cond (is_word name known) one rest ≡ Some v → ReadsVariable (name ++ mark) v
marked_next name known mark one rest v left right e =
    chosen (ReadsVariable (name ++ mark) v) (is_word name known) one rest (Some v) e (λ h is. subst (λ w. ReadsVariable (w ++ mark) v) (sym (word_is name known h)) (left is)) (λ h is. right is)

marked_variable_is : (name mark : List ℕ) (v : Var) → marked_variable name mark ≡ Some v → ReadsVariable (name ++ mark) v
unfolding marked_variable
marked_variable_is name mark v e =
    marked_next name (codes "mem") mark _ _ v (memory_variable_is mark v)
    (marked_next name (codes "stk") mark _ _ v (slot_variable_is mark v)
    (marked_next name (codes "in") mark _ _ v (underlined_is (codes "in") var.In mark v (λ j low high. record { is = refl; numbered = low; small = high }))
    (marked_next name (codes "k") mark _ _ v (underlined_is (codes "k") var.Any mark v (λ j low high. record { is = refl; numbered = low; small = high }))
    (marked_next name (codes "i") mark _ _ v (bound_variable_is mark v)
    (location_variable_is name mark v))))) e

pub variable_is : (run : List ℕ) (v : Var) → variable_of run ≡ Some v → ReadsVariable run v
unfolding variable_of
variable_is run v e =
    subst (λ w. ReadsVariable w v) (sym (parts_of is_ascii_alphabetic run)) (marked_variable_is (letters_of run) (after_letters run) v e)

-- ---- variables are read again

mark_again : (j : ℕ) → 1 ≤ j → j ≤ 4294967295 → after_underline (95 ∷ decimal j) ≡ Some j
unfolding after_underline
mark_again j low high = name_again j low high

named_again : (name mark : List ℕ) → list_all is_ascii_alphabetic name ≡ true → stops is_ascii_alphabetic mark ≡ true → variable_of (name ++ mark) ≡ marked_variable name mark
unfolding variable_of
named_again name mark all stop =
    let one : letters_of (name ++ mark) ≡ name = taken_again is_ascii_alphabetic name mark all stop in
    let next : after_letters (name ++ mark) ≡ mark = dropped_again is_ascii_alphabetic name mark all ∙ dropped_stops is_ascii_alphabetic mark stop in
    (λ i. marked_variable (one i) (next i))

location_variable_again : (x : Loc) (mark : List ℕ) (v : Var) → stops is_ascii_alphabetic mark ≡ true → at_moment (var.Now x) (var.Entry x) (var.After x) mark ≡ Some v → variable_of (location_name x ++ mark) ≡ Some v
unfolding location_variable
location_variable_again x mark v stop e =
    named_again (location_name x) mark (location_letters x) stop ∙ marked_location x mark
    ∙ ap (λ o. o >>= λ y. at_moment (var.Now y) (var.Entry y) (var.After y) mark) (location_again x) ∙ e

digits_stop : (digits rest : List ℕ) → 0 < length digits → AllDigits 10 digits → stops is_ascii_alphabetic (digits ++ rest) ≡ true
digits_stop [] rest some all = absurd (omega arith)
digits_stop (digit ∷ digits) rest some all = let d = digit_first digit digits all in other digit d
  where
    other : (c : ℕ) → is_ascii_digit c ≡ true → cond (is_ascii_alphabetic c) false true ≡ true
    other c h = grind arith

number_stop : (j : ℕ) (rest : List ℕ) → j ≤ 4294967295 → stops is_ascii_alphabetic (decimal j ++ rest) ≡ true
number_stop j rest high = digits_stop (decimal j) rest (decimal_filled j high) (decimal_digits j high)

slot_again : (j letter : ℕ) (v : Var) → 1 ≤ j → j ≤ 4294967295 → slot_half letter j ≡ Some v → slot_variable (decimal j ++ (letter ∷ [])) ≡ Some v
unfolding slot_variable
slot_again j letter v low high e =
    let long : length (decimal j ++ (letter ∷ [])) - 1 ≡ length (decimal j) = omega (arith, length-append (decimal j) (letter ∷ [])) in
    let front : front_of (decimal j ++ (letter ∷ [])) ≡ decimal j = ap (λ n. take n (decimal j ++ (letter ∷ []))) long ∙ take_at (decimal j) (letter ∷ []) (length (decimal j)) refl in
    let last : last_of (decimal j ++ (letter ∷ [])) ≡ letter = ap (slice_index (decimal j ++ (letter ∷ []))) long ∙ get_or-append_seam (decimal j) letter [] 0 in
    (λ i. name_number (front i) >>= λ k. slot_half (last i) k) ∙ ap (λ o. o >>= λ k. slot_half letter k) (name_again j low high) ∙ e

memory_again : (mark : List ℕ) (v : Var) → stops is_ascii_alphabetic mark ≡ true → at_moment var.Mem var.MemEntry var.MemAfter mark ≡ Some v → variable_of (codes "mem" ++ mark) ≡ Some v
unfolding marked_variable memory_variable
memory_again mark v stop e = named_again (codes "mem") mark refl stop ∙ e

slots_again : (mark : List ℕ) (v : Var) → stops is_ascii_alphabetic mark ≡ true → slot_variable mark ≡ Some v → variable_of (codes "stk" ++ mark) ≡ Some v
unfolding marked_variable
slots_again mark v stop e = named_again (codes "stk") mark refl stop ∙ e

inputs_again : (mark : List ℕ) (j : ℕ) → stops is_ascii_alphabetic mark ≡ true → after_underline mark ≡ Some j → variable_of (codes "in" ++ mark) ≡ Some (var.In j)
unfolding marked_variable
inputs_again mark j stop e = named_again (codes "in") mark refl stop ∙ ap (λ o. o >>= λ k. Some (var.In k)) e

fixed_again : (mark : List ℕ) (j : ℕ) → stops is_ascii_alphabetic mark ≡ true → after_underline mark ≡ Some j → variable_of (codes "k" ++ mark) ≡ Some (var.Any j)
unfolding marked_variable
fixed_again mark j stop e = named_again (codes "k") mark refl stop ∙ ap (λ o. o >>= λ k. Some (var.Any k)) e

bounds_again : (mark : List ℕ) (j : ℕ) → stops is_ascii_alphabetic mark ≡ true → name_number mark ≡ Some j → variable_of (codes "i" ++ mark) ≡ Some (var.Bound j)
unfolding marked_variable
bounds_again mark j stop e = named_again (codes "i") mark refl stop ∙ ap (λ o. o >>= λ k. Some (var.Bound k)) e

pub variable_again : (v : Var) → IsNumbered v → HasNameNumber v → variable_of (variable_text v) ≡ Some v
variable_again (var.Entry x) low high = location_variable_again x (codes "~") (var.Entry x) refl refl
variable_again (var.Now x) low high = ap variable_of (sym (append-nil (location_name x))) ∙ location_variable_again x [] (var.Now x) refl refl
variable_again (var.After x j) low high = location_variable_again x (95 ∷ decimal j) (var.After x j) refl (ap (λ o. o >>= λ k. Some (var.After x k)) (mark_again j low high))
variable_again var.MemEntry low high = memory_again (codes "~") var.MemEntry refl refl
variable_again var.Mem low high = memory_again [] var.Mem refl refl
variable_again (var.MemAfter j) low high = memory_again (95 ∷ decimal j) (var.MemAfter j) refl (ap (λ o. o >>= λ k. Some (var.MemAfter k)) (mark_again j low high))
variable_again (var.In j) low high = inputs_again (95 ∷ decimal j) j refl (mark_again j low high)
variable_again (var.SlotHigh j) low high = slots_again (decimal j ++ (104 ∷ [])) (var.SlotHigh j) (number_stop j (104 ∷ []) high) (slot_again j 104 (var.SlotHigh j) low high refl)
variable_again (var.SlotLow j) low high = slots_again (decimal j ++ (108 ∷ [])) (var.SlotLow j) (number_stop j (108 ∷ []) high) (slot_again j 108 (var.SlotLow j) low high refl)
variable_again (var.Any j) low high = fixed_again (95 ∷ decimal j) j refl (mark_again j low high)
variable_again (var.Bound j) low high =
    bounds_again (decimal j) j (subst (λ w. stops is_ascii_alphabetic w ≡ true) (append-nil (decimal j)) (number_stop j [] high)) (name_again j low high)

-- ---- what the text of a variable is made of

all_append : (test : ℕ → Bool) (front back : List ℕ) → list_all test front ≡ true → list_all test back ≡ true → list_all test (front ++ back) ≡ true
all_append test [] back one next = next
all_append test (byte ∷ front) back one next =
    let p = and_parts (test byte) (list_all test front) one in
    and_from (test byte) (list_all test (front ++ back)) p.0 (all_append test front back p.1 next)

letter_run : (text : List ℕ) → list_all is_ascii_alphabetic text ≡ true → list_all is_run text ≡ true
letter_run [] h = refl
letter_run (byte ∷ text) h =
    let p = and_parts (is_ascii_alphabetic byte) (list_all is_ascii_alphabetic text) h in
    and_from (is_run byte) (list_all is_run text) (other byte p.0) (letter_run text p.1)
  where
    other : (c : ℕ) → is_ascii_alphabetic c ≡ true → is_run c ≡ true
    other c h = grind arith

number_run : (j : ℕ) → j ≤ 4294967295 → list_all is_run (decimal j) ≡ true
number_run j high = digits_run (decimal j) (decimal_digits j high)

pub variable_run : (v : Var) → HasNameNumber v → list_all is_run (variable_text v) ≡ true
variable_run (var.Entry x) high = all_append is_run (location_name x) (codes "~") (letter_run (location_name x) (location_letters x)) refl
variable_run (var.Now x) high = letter_run (location_name x) (location_letters x)
variable_run (var.After x j) high = all_append is_run (location_name x) (95 ∷ decimal j) (letter_run (location_name x) (location_letters x)) (number_run j high)
variable_run var.MemEntry high = refl
variable_run var.Mem high = refl
variable_run (var.MemAfter j) high = number_run j high
variable_run (var.In j) high = number_run j high
variable_run (var.SlotHigh j) high = all_append is_run (decimal j) (codes "h") (number_run j high) refl
variable_run (var.SlotLow j) high = all_append is_run (decimal j) (codes "l") (number_run j high) refl
variable_run (var.Any j) high = number_run j high
variable_run (var.Bound j) high = number_run j high

-- the first byte of a run is a letter
pub record BeginsLetter (run : List ℕ) : Type 0 where
  pub first : ℕ
  pub rest : List ℕ
  pub whole : run ≡ first ∷ rest
  pub letter : is_ascii_alphabetic first ≡ true

letter_first : (name rest : List ℕ) → 0 < length name → list_all is_ascii_alphabetic name ≡ true → BeginsLetter (name ++ rest)
letter_first [] rest some all = absurd (omega arith)
letter_first (byte ∷ name) rest some all = record { first = byte; rest = name ++ rest; whole = refl; letter = (and_parts (is_ascii_alphabetic byte) (list_all is_ascii_alphabetic name) all).0 }

location_filled : (x : Loc) → 0 < length (location_name x)
location_filled loc.A = omega arith
location_filled loc.B = omega arith
location_filled loc.C = omega arith
location_filled loc.D = omega arith
location_filled loc.E = omega arith
location_filled loc.H = omega arith
location_filled loc.L = omega arith
location_filled loc.S = omega arith
location_filled loc.Z = omega arith
location_filled loc.Ac = omega arith
location_filled loc.P = omega arith
location_filled loc.Cy = omega arith

location_first : (x : Loc) (rest : List ℕ) → BeginsLetter (location_name x ++ rest)
location_first x rest = letter_first (location_name x) rest (location_filled x) (location_letters x)

pub variable_first : (v : Var) → BeginsLetter (variable_text v)
variable_first (var.Entry x) = location_first x (codes "~")
variable_first (var.Now x) = subst BeginsLetter (append-nil (location_name x)) (location_first x [])
variable_first (var.After x j) = location_first x (95 ∷ decimal j)
variable_first var.MemEntry = letter_first (codes "mem") (codes "~") (omega arith) refl
variable_first var.Mem = letter_first (codes "mem") [] (omega arith) refl
variable_first (var.MemAfter j) = letter_first (codes "mem") (95 ∷ decimal j) (omega arith) refl
variable_first (var.In j) = letter_first (codes "in") (95 ∷ decimal j) (omega arith) refl
variable_first (var.SlotHigh j) = letter_first (codes "stk") (decimal j ++ codes "h") (omega arith) refl
variable_first (var.SlotLow j) = letter_first (codes "stk") (decimal j ++ codes "l") (omega arith) refl
variable_first (var.Any j) = letter_first (codes "k") (95 ∷ decimal j) (omega arith) refl
variable_first (var.Bound j) = letter_first (codes "i") (decimal j) (omega arith) refl

-- words are no variables, and begin with no digit
words_vary : (w : Word) → variable_of (word_text w) ≡ None
unfolding variable_of marked_variable location_variable location_named
words_vary word.True = refl
words_vary word.False = refl
words_vary word.And = refl
words_vary word.Or = refl
words_vary word.Xor = refl
words_vary word.Parity = refl
words_vary word.Bit = refl
words_vary word.Flags = refl
words_vary word.If = refl
words_vary word.Element = refl
words_vary word.Update = refl
words_vary word.Total = refl
words_vary word.ForAll = refl
words_vary word.ForSome = refl

abbrev begins_digit : List ℕ → Bool
begins_digit [] = false
begins_digit (byte ∷ rest) = is_ascii_digit byte

words_first : (w : Word) → begins_digit (word_text w) ≡ false
words_first word.True = refl
words_first word.False = refl
words_first word.And = refl
words_first word.Or = refl
words_first word.Xor = refl
words_first word.Parity = refl
words_first word.Bit = refl
words_first word.Flags = refl
words_first word.If = refl
words_first word.Element = refl
words_first word.Update = refl
words_first word.Total = refl
words_first word.ForAll = refl
words_first word.ForSome = refl

no_word : (run : List ℕ) (o : Option Word) → word_of run ≡ o → ((w : Word) → run ≡ word_text w → ⊥) → word_of run ≡ None
no_word run None e other = e
no_word run (Some w) e other = absurd (other w (word_of_is run w e))

pub variable_no_word : (v : Var) → IsNumbered v → HasNameNumber v → word_of (variable_text v) ≡ None
variable_no_word v low high =
    no_word (variable_text v) (word_of (variable_text v)) refl (λ w e. let p = sym (variable_again v low high) ∙ ap variable_of e ∙ words_vary w in absurd cc)

pub digit_no_word : (first : ℕ) (digits : List ℕ) → is_ascii_digit first ≡ true → word_of (first ∷ digits) ≡ None
digit_no_word first digits h =
    no_word (first ∷ digits) (word_of (first ∷ digits)) refl (λ w e. true≢false (sym h ∙ ap begins_digit e ∙ words_first w))

pub word_again : (w : Word) → word_of (word_text w) ≡ Some w
unfolding word_of
word_again word.True = refl
word_again word.False = refl
word_again word.And = refl
word_again word.Or = refl
word_again word.Xor = refl
word_again word.Parity = refl
word_again word.Bit = refl
word_again word.Flags = refl
word_again word.If = refl
word_again word.Element = refl
word_again word.Update = refl
word_again word.Total = refl
word_again word.ForAll = refl
word_again word.ForSome = refl

pub word_run : (w : Word) → list_all is_run (word_text w) ≡ true
word_run word.True = refl
word_run word.False = refl
word_run word.And = refl
word_run word.Or = refl
word_run word.Xor = refl
word_run word.Parity = refl
word_run word.Bit = refl
word_run word.Flags = refl
word_run word.If = refl
word_run word.Element = refl
word_run word.Update = refl
word_run word.Total = refl
word_run word.ForAll = refl
word_run word.ForSome = refl

pub word_filled : (w : Word) → 0 < length (word_text w)
word_filled word.True = omega arith
word_filled word.False = omega arith
word_filled word.And = omega arith
word_filled word.Or = omega arith
word_filled word.Xor = omega arith
word_filled word.Parity = omega arith
word_filled word.Bit = omega arith
word_filled word.Flags = omega arith
word_filled word.If = omega arith
word_filled word.Element = omega arith
word_filled word.Update = omega arith
word_filled word.Total = omega arith
word_filled word.ForAll = omega arith
word_filled word.ForSome = omega arith

-- ---- numbers of bound variables and of bits

pub bound_number_is : (run : List ℕ) (k : ℕ) → bound_number run ≡ Some k → (run ≡ codes "i" ++ decimal k) × (1 ≤ k) × (k ≤ 4294967295)
unfolding bound_number
bound_number_is [] k e = absurd cc
bound_number_is (letter ∷ digits) k e =
    chosen ((letter ∷ digits ≡ codes "i" ++ decimal k) × (1 ≤ k) × (k ≤ 4294967295)) (letter == 105) (name_number digits) None (Some k) e
    (λ h is. let r = name_is digits k is in (ap (λ c. c ∷ digits) (eqb-true letter 105 h) ∙ ap (λ w. 105 ∷ w) r.is, r.low, r.high)) (λ h is. absurd cc)

pub bound_number_again : (k : ℕ) → 1 ≤ k → k ≤ 4294967295 → bound_number (codes "i" ++ decimal k) ≡ Some k
unfolding bound_number
bound_number_again k low high = name_again k low high

pub bound_run : (k : ℕ) → k ≤ 4294967295 → list_all is_run (codes "i" ++ decimal k) ≡ true
bound_run k high = number_run k high

pub record ReadsBit (run : List ℕ) (k : ℕ) : Type 0 where
  pub is : run ≡ decimal k
  pub high : k ≤ 7

bit_is : (digit k n byte : ℕ) (rest : Option ℕ) → n ≤ 7 → byte ≡ 48 + n → (rest ≡ Some k → ReadsBit (digit ∷ []) k) → cond (digit == byte) (Some n) rest ≡ Some k → ReadsBit (digit ∷ []) k
bit_is digit k n byte rest small known next e =
    chosen (ReadsBit (digit ∷ []) k) (digit == byte) (Some n) rest (Some k) e
    (λ h is.
    let same : n ≡ k = some_is n k is in
    record { is = ap (λ c. c ∷ []) (eqb-true digit byte h ∙ known) ∙ sym (decimal_digit n (omega arith)) ∙ ap decimal same; high = omega arith })
    (λ h is. next is)

pub bit_number_is : (run : List ℕ) (k : ℕ) → bit_number run ≡ Some k → ReadsBit run k
unfolding bit_number
bit_number_is [] k e = absurd cc
bit_number_is (digit ∷ next ∷ rest) k e = absurd cc
bit_number_is (digit ∷ []) k e =
    bit_is digit k 0 48 _ (omega arith) refl (bit_is digit k 1 49 _ (omega arith) refl (bit_is digit k 2 50 _ (omega arith) refl (bit_is digit k 3 51 _ (omega arith) refl
    (bit_is digit k 4 52 _ (omega arith) refl (bit_is digit k 5 53 _ (omega arith) refl (bit_is digit k 6 54 _ (omega arith) refl (bit_is digit k 7 55 None (omega arith) refl (λ n. absurd cc)))))))) e

bit_text : (k : ℕ) → k ≤ 7 → bit_number ((48 + k) ∷ []) ≡ Some k
unfolding bit_number
bit_text zero h = refl
bit_text (suc zero) h = refl
bit_text (suc (suc zero)) h = refl
bit_text (suc (suc (suc zero))) h = refl
bit_text (suc (suc (suc (suc zero)))) h = refl
bit_text (suc (suc (suc (suc (suc zero))))) h = refl
bit_text (suc (suc (suc (suc (suc (suc zero)))))) h = refl
bit_text (suc (suc (suc (suc (suc (suc (suc zero))))))) h = refl
bit_text (suc (suc (suc (suc (suc (suc (suc (suc k)))))))) h = absurd (omega arith)

pub bit_number_again : (k : ℕ) → k ≤ 7 → bit_number (decimal k) ≡ Some k
bit_number_again k h = ap bit_number (decimal_digit k (omega arith)) ∙ bit_text k h

pub bit_run : (k : ℕ) → k ≤ 7 → list_all is_run (decimal k) ≡ true
bit_run k h = number_run k (omega arith)

pub bit_filled : (k : ℕ) → k ≤ 7 → 0 < length (decimal k)
bit_filled k h = decimal_filled k (omega arith)
