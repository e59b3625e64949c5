-- What a line holds is what it is: a data record, an end record, or neither.
use Rattle.std.proofs.Common.{◌≡◌, ◌⊎◌, ℕ, suc, ◌+◌, ◌-◌, ◌*◌, ◌/◌, ◌%◌, ◌<◌, ◌≤◌, Bool, true, false, cond, eqb, leb, ltb, ◌&&◌, List, [], ◌∷◌, ◌++◌, length, take, sum, refl, sym, ap, subst, ◌∙◌, inl, inr, Option, Some, None, Result, Ok, Err, arith}
use Rattle.std.specs.Prelude.{unwrap_or, option_map, option_and_then}
use Rattle.std.specs.List.{AllByRecursion}
use Rattle.std.proofs.Math.Seq.{take-append_seam}
use Rattle.std.proofs.lemmas.List.{length_push, nil_from_length}
use Rattle.std.proofs.lemmas.Bool.{cases_Bool, lt-ltb, le-ltb, le-leb, leb-true, eq-eqb, eqb-true, eqb-false, and_parts, cond-true, cond-false}
use Rattle.sp_base.specs.declared.line.Line.{Line}
use Rattle.sp_base.specs.Cells.{Data}
use Rattle.sp_base.specs.declared.refused.Refused.TheVariants as refused
use Rattle.sp_hex.specs.declared.refusal.HexKind.TheVariants as hex
use Rattle.sp_hex.specs.Refusals.{HexRefusal}
use Rattle.sp_hex.specs.Hex.{digit, fields, data_type, end_type, digit_value, byte_of, bytes_of, line_bytes, HasForm, HasSum, IsDataLine, IsEndLine}
use Rattle.sp_hex.specs.code.Reading.{Content, data_record, end_record, ◌>>=◌, content_with, content_of, with_sum, or_bad_record, held_at, record_at}

-- ---- Small things

pub chosen : {A : Type 0} (b : Bool) (x y z : A) → cond b x y ≡ z → ((b ≡ true) × (x ≡ z)) ⊎ ((b ≡ false) × (y ≡ z))
chosen true x y z h = inl (refl, h)
chosen false x y z h = inr (refl, h)

pub some_is : {A : Type 0} (x y : A) → ◌≡◌ {A = Option A} (Some x) (Some y) → x ≡ y
some_is x y e = ap (λ o. unwrap_or o x) e

pub not_none : {A : Type 0} (x : A) (o : Option A) → o ≡ Some x → o ≡ None → ⊥
not_none x o some none = cc

-- ---- Bytes below 256

abbrev pub AreBytes : List ℕ → Type 0
AreBytes = AllByRecursion (λ b. b < 256)

digit_below : (c v : ℕ) → digit_value c ≡ Some v → v < 16
digit_below c v h = elim (chosen (leb 48 c && leb c 57) (Some (c - 48)) _ (Some v) h) [
  | inl p ↦ let q = and_parts (leb 48 c) (leb c 57) p.0 in omega (arith, some_is _ _ p.1, leb-true _ _ q.0, leb-true _ _ q.1)
  | inr r ↦ elim (chosen (leb 65 c && leb c 70) (Some (c - 55)) _ (Some v) r.1) [
    | inl p ↦ let q = and_parts (leb 65 c) (leb c 70) p.0 in omega (arith, some_is _ _ p.1, leb-true _ _ q.0, leb-true _ _ q.1)
    | inr s ↦ elim (chosen (leb 97 c && leb c 102) (Some (c - 87)) None (Some v) s.1) [
      | inl p ↦ let q = and_parts (leb 97 c) (leb c 102) p.0 in omega (arith, some_is _ _ p.1, leb-true _ _ q.0, leb-true _ _ q.1)
      | inr t ↦ absurd (not_none v None t.1 refl)
    ]
  ]
]

add_back : (k c v : ℕ) → k ≤ c → c - k ≡ v → k + v ≡ c
add_back k c v low e = omega (arith, e)

add_back_lower : (c v : ℕ) → 97 ≤ c → c - 87 ≡ v → 55 + v + 32 ≡ c
add_back_lower c v low e = omega (arith, e)

upper_of : (c v : ℕ) → 48 ≤ c → c ≤ 57 → c - 48 ≡ v → (v < 16) × ((c ≡ digit v) ⊎ ((10 ≤ v) × (c ≡ digit v + 32)))
upper_of c v low high e =
    let less : v < 10 = omega (arith, e) in
    (omega (arith, less), inl (sym (cond-true (ltb v 10) (48 + v) (55 + v) (lt-ltb v 10 less) ∙ add_back 48 c v low e)))

-- the values of digits, and no others
pub digit_only : (c v : ℕ) → digit_value c ≡ Some v → (v < 16) × ((c ≡ digit v) ⊎ ((10 ≤ v) × (c ≡ digit v + 32)))
digit_only c v h = elim (chosen (leb 48 c && leb c 57) (Some (c - 48)) _ (Some v) h) [
  | inl p ↦ let q = and_parts (leb 48 c) (leb c 57) p.0 in upper_of c v (leb-true _ _ q.0) (leb-true _ _ q.1) (some_is _ _ p.1)
  | inr r ↦ elim (chosen (leb 65 c && leb c 70) (Some (c - 55)) _ (Some v) r.1) [
    | inl p ↦
        let q = and_parts (leb 65 c) (leb c 70) p.0 in
        let e = some_is _ _ p.1 in
        let more : 10 ≤ v = omega (arith, e, leb-true _ _ q.0) in
        (omega (arith, e, leb-true _ _ q.1), inl (sym (cond-false (ltb v 10) (48 + v) (55 + v) (le-ltb v 10 more) ∙ add_back 55 c v (omega (arith, leb-true _ _ q.0)) e)))
    | inr s ↦ elim (chosen (leb 97 c && leb c 102) (Some (c - 87)) None (Some v) s.1) [
      | inl p ↦
          let q = and_parts (leb 97 c) (leb c 102) p.0 in
          let e = some_is _ _ p.1 in
          let more : 10 ≤ v = omega (arith, e, leb-true _ _ q.0) in (
            omega (arith, e, leb-true _ _ q.1),
            inr (more, sym (ap (λ n. n + 32) (cond-false (ltb v 10) (48 + v) (55 + v) (le-ltb v 10 more)) ∙ add_back_lower c v (leb-true _ _ q.0) e)),
          )
      | inr t ↦ absurd (not_none v None t.1 refl)
    ]
  ]
]

-- the value of a step that was there
pub then_some : {A B : Type 0} (o : Option A) (f : A → Option B) (y : B) → option_and_then f o ≡ Some y → (x : A) × (o ≡ Some x) × (f x ≡ Some y)
then_some None f y h = absurd (not_none y None h refl)
then_some (Some x) f y h = (x, refl, h)

pub map_some : {A B : Type 0} (o : Option A) (f : A → B) (y : B) → option_map f o ≡ Some y → (x : A) × (o ≡ Some x) × (f x ≡ y)
map_some None f y h = absurd (not_none y None h refl)
map_some (Some x) f y h = (x, refl, some_is _ _ h)

byte_below : (high low byte : ℕ) → byte_of high low ≡ Some byte → byte < 256
byte_below high low byte h =
    let p = then_some (digit_value high) (λ x. option_map (λ l. 16 * x + l) (digit_value low)) byte h in
    let q = map_some (digit_value low) (λ l. 16 * p.0 + l) byte p.2 in
    omega (arith, digit_below high p.0 p.1, digit_below low q.0 q.1, q.2)

pub bytes_below : (digits bytes : List ℕ) → bytes_of digits ≡ Some bytes → AreBytes bytes
unfolding bytes_of
bytes_below [] bytes h = subst AreBytes (some_is _ _ h) tt
bytes_below (high ∷ []) bytes h = absurd (not_none bytes None h refl)
bytes_below (high ∷ low ∷ digits) bytes h =
    let p = then_some (byte_of high low) (λ byte. option_map (λ (bs : List ℕ). byte ∷ bs) (bytes_of digits)) bytes h in
    let q = map_some (bytes_of digits) (λ bs. p.0 ∷ bs) bytes p.2 in
    subst AreBytes q.2 (byte_below high low p.0 p.1, bytes_below digits q.0 q.1)

line_below : (line bytes : List ℕ) → line_bytes line ≡ Some bytes → AreBytes bytes
line_below [] bytes h = absurd (not_none bytes None h refl)
line_below (c ∷ digits) bytes h = elim (chosen (eqb c 58) (bytes_of digits) None (Some bytes) h) [
  | inl p ↦ bytes_below digits bytes p.1
  | inr p ↦ absurd (not_none bytes None p.1 refl)
]

-- ---- The form of a record's bytes

-- what stands before the last of some bytes
split_last : (b : ℕ) (rest : List ℕ) → (c : ℕ) × (b ∷ rest ≡ take (length rest) (b ∷ rest) ++ c ∷ [])
split_last b [] = (b, refl)
split_last b (c ∷ rest) =
    let p = split_last c rest in
    (p.0, ap (λ (x : List ℕ). b ∷ x) p.1)

before_last : (bytes : List ℕ) (c len high low kind : ℕ) → content_of (len ∷ high ∷ low ∷ kind ∷ (bytes ++ c ∷ [])) ≡ content_with len (256 * high + low) kind bytes
unfolding content_of
before_last [] c len high low kind = refl
before_last (b ∷ bytes) c len high low kind =
    let size : length (bytes ++ c ∷ []) ≡ suc (length bytes) = omega (arith, length_push bytes c) in
    let front : take (length (bytes ++ c ∷ [])) (b ∷ (bytes ++ c ∷ [])) ≡ b ∷ bytes =
    ap (λ n. take n (b ∷ (bytes ++ c ∷ []))) size ∙ take-append_seam (b ∷ bytes) (c ∷ []) in
    ap (content_with len (256 * high + low) kind) front

whole_address : (a : ℕ) → 256 * (a / 256) + a % 256 ≡ a
whole_address a = omega arith

pub data_content : (a c : ℕ) (bytes : List ℕ) → a + length bytes ≤ 65536 → content_of (fields data_type a bytes ++ c ∷ []) ≡ Some (data_record (record { address = a; bytes = bytes }))
data_content a c bytes within =
    before_last bytes c (length bytes) (a / 256) (a % 256) 0
    ∙ ap (λ x. content_with (length bytes) x 0 bytes) (whole_address a)
    ∙ rw (eq-eqb (length bytes) (length bytes) refl, le-leb (a + length bytes) 65536 within) refl

pub end_content : (a c : ℕ) → content_of (fields end_type a [] ++ c ∷ []) ≡ Some end_record
unfolding content_of
end_content a c = refl

-- what bytes are that hold something
abbrev Holds : List ℕ → Content → Type 0
Holds bytes (data_record d) = (c : ℕ) × (bytes ≡ fields data_type d.address d.bytes ++ c ∷ []) × (d.address + length d.bytes ≤ 65536)
Holds bytes end_record = (a c : ℕ) × (bytes ≡ fields end_type a [] ++ c ∷ [])

halves : (high low : ℕ) → low < 256 → ((256 * high + low) / 256 ≡ high) × ((256 * high + low) % 256 ≡ low)
halves high low lt = (omega arith, omega arith)

content_holds : (len high low kind c : ℕ) (bytes : List ℕ) (held : Content) → low < 256 → content_with len (256 * high + low) kind bytes ≡ Some held → Holds (len ∷ high ∷ low ∷ kind ∷ (bytes ++ c ∷ [])) held
content_holds len high low kind c bytes held lt h =
    let a = 256 * high + low in
    let split = halves high low lt in
    elim (chosen (eqb len (length bytes)) _ None (Some held) h) [
      | inr p ↦ absurd (not_none held None p.1 refl)
      | inl p ↦
          let size : len ≡ length bytes = eqb-true len (length bytes) p.0 in
          elim (chosen (eqb kind 0 && leb (a + length bytes) 65536) (Some (data_record (record { address = a; bytes = bytes }))) _ (Some held) p.1) [
            | inl q ↦
                let tests = and_parts (eqb kind 0) (leb (a + length bytes) 65536) q.0 in
                let k : kind ≡ 0 = eqb-true kind 0 tests.0 in
                let it : Holds (len ∷ high ∷ low ∷ kind ∷ (bytes ++ c ∷ [])) (data_record (record { address = a; bytes = bytes })) =
                (c, λ i. size i ∷ sym split.0 i ∷ sym split.1 i ∷ k i ∷ (bytes ++ c ∷ []), leb-true _ _ tests.1) in
                subst (Holds (len ∷ high ∷ low ∷ kind ∷ (bytes ++ c ∷ []))) (some_is _ _ q.1) it
            | inr q ↦ elim (chosen (eqb kind 1 && eqb (length bytes) 0) (Some end_record) None (Some held) q.1) [
              | inl r ↦
                  let tests = and_parts (eqb kind 1) (eqb (length bytes) 0) r.0 in
                  let k : kind ≡ 1 = eqb-true kind 1 tests.0 in
                  let none : bytes ≡ [] = nil_from_length bytes (eqb-true _ _ tests.1) in
                  let it : Holds (len ∷ high ∷ low ∷ kind ∷ (bytes ++ c ∷ [])) end_record =
                  (a, c, λ i. (size ∙ ap length none) i ∷ sym split.0 i ∷ sym split.1 i ∷ k i ∷ (none i ++ c ∷ [])) in
                  subst (Holds (len ∷ high ∷ low ∷ kind ∷ (bytes ++ c ∷ []))) (some_is _ _ r.1) it
              | inr r ↦ absurd (not_none held None r.1 refl)
            ]
          ]
    ]

pub content_is : (bytes : List ℕ) (held : Content) → AreBytes bytes → content_of bytes ≡ Some held → Holds bytes held
unfolding content_of
content_is (len ∷ high ∷ low ∷ kind ∷ b ∷ rest) held below h =
    let last = split_last b rest in
    subst (λ (x : List ℕ). Holds (len ∷ high ∷ low ∷ kind ∷ x) held) (sym last.1) (content_holds len high low kind last.0 (take (length rest) (b ∷ rest)) held below.1.1.0 h)
content_is [] held below h = absurd (not_none held None h refl)
content_is (len ∷ []) held below h = absurd (not_none held None h refl)
content_is (len ∷ high ∷ []) held below h = absurd (not_none held None h refl)
content_is (len ∷ high ∷ low ∷ []) held below h = absurd (not_none held None h refl)
content_is (len ∷ high ∷ low ∷ kind ∷ []) held below h = absurd (not_none held None h refl)

-- ---- Lines

-- what reading a line answers, in terms of the line
abbrev pub Tells : ℕ → List ℕ → Result Content HexRefusal → Type 0
Tells number line (Ok (data_record d)) = IsDataLine line d
Tells number line (Ok end_record) = IsEndLine line
Tells number line (Err (refused.At at hex.BadRecord)) = (at ≡ record { 0 = number }) × ¬ (HasForm line)
Tells number line (Err (refused.At at hex.BadSum)) = (at ≡ record { 0 = number }) × HasForm line × ¬ (HasSum line)
Tells number line (Err (refused.At at hex.Overlap)) = ⊥
Tells number line (Err (refused.At at hex.NoEnd)) = ⊥
Tells number line (Err (refused.At at hex.AfterEnd)) = ⊥
Tells number line (Err refused.Memory) = ⊥

-- a line in a record's form spells bytes that hold something
HasContent : List ℕ → Type 0
HasContent line = (bytes : List ℕ) × (held : Content) × (line_bytes line ≡ Some bytes) × (content_of bytes ≡ Some held)

form_content : (line : List ℕ) → HasForm line → HasContent line
unfolding HasContent
form_content line (inl (d, f)) = (fields data_type d.address d.bytes ++ f.checksum ∷ [], data_record d, f.spelled, data_content d.address f.checksum d.bytes f.within)
form_content line (inr f) = (fields end_type f.address [] ++ f.checksum ∷ [], end_record, f.spelled, end_content f.address f.checksum)

no_bytes : (line : List ℕ) → line_bytes line ≡ None → ¬ (HasForm line)
unfolding HasContent
no_bytes line none form = let h = form_content line form in not_none h.0 (line_bytes line) h.2 none

no_content : (line bytes : List ℕ) → line_bytes line ≡ Some bytes → content_of bytes ≡ None → ¬ (HasForm line)
unfolding HasContent
no_content line bytes is none form =
    let h = form_content line form in
    let same : h.0 ≡ bytes = some_is _ _ (sym h.2 ∙ is) in
    not_none h.1 (content_of bytes) (ap content_of (sym same) ∙ h.3) none

-- the form of what is held
form_of : (line bytes : List ℕ) (held : Content) → line_bytes line ≡ Some bytes → Holds bytes held → HasForm line
form_of line bytes (data_record d) is (c, e, within) = inl (d, record { checksum = c; spelled = is ∙ ap (λ (x : List ℕ). Some x) e; within = within })
form_of line bytes end_record is (a, c, e) = inr (record { address = a; checksum = c; spelled = is ∙ ap (λ (x : List ℕ). Some x) e })

right_line : (number : ℕ) (line bytes : List ℕ) (held : Content) → line_bytes line ≡ Some bytes → Holds bytes held → sum bytes % 256 ≡ 0 → Tells number line (Ok held)
right_line number line bytes (data_record d) is (c, e, within) balanced = (record { checksum = c; spelled = is ∙ ap (λ (x : List ℕ). Some x) e; within = within }, (bytes, is, balanced))
right_line number line bytes end_record is (a, c, e) balanced = (record { address = a; checksum = c; spelled = is ∙ ap (λ (x : List ℕ). Some x) e }, (bytes, is, balanced))

no_sum : (line bytes : List ℕ) → line_bytes line ≡ Some bytes → eqb (sum bytes % 256) 0 ≡ false → ¬ (HasSum line)
no_sum line bytes is off (others, spelled, balanced) =
    let same : others ≡ bytes = some_is _ _ (sym spelled ∙ is) in
    eqb-false (sum bytes % 256) 0 off (ap (λ (x : List ℕ). sum x % 256) (sym same) ∙ balanced)

tells_held : (number : ℕ) (line bytes : List ℕ) (o : Option Content) → line_bytes line ≡ Some bytes → content_of bytes ≡ o → Tells number line (or_bad_record number o >>= λ held. with_sum number bytes held)
tells_held number line bytes None is none = (refl, no_content line bytes is none)
tells_held number line bytes (Some held) is some =
    let holds = content_is bytes held (line_below line bytes is) some in
    elim (cases_Bool (eqb (sum bytes % 256) 0)) [
      | inl balanced ↦ subst (Tells number line) (sym (cond-true (eqb (sum bytes % 256) 0) (Ok held) (Err (refused.At (record { 0 = number }) hex.BadSum)) balanced)) (right_line number line bytes held is holds (eqb-true _ _ balanced))
      | inr off ↦ subst (Tells number line) (sym (cond-false (eqb (sum bytes % 256) 0) (Ok held) (Err (refused.At (record { 0 = number }) hex.BadSum)) off)) (refl, form_of line bytes held is holds, no_sum line bytes is off)
    ]

tells_bytes : (number : ℕ) (line : List ℕ) (o : Option (List ℕ)) → line_bytes line ≡ o
    → Tells number line (or_bad_record number o >>= held_at number)
unfolding held_at
tells_bytes number line None none = (refl, no_bytes line none)
tells_bytes number line (Some bytes) is = tells_held number line bytes (content_of bytes) is refl

pub record_tells : (number : ℕ) (line : List ℕ) → Tells number line (record_at number line)
unfolding record_at
record_tells number line = tells_bytes number line (line_bytes line) refl

record_when : (number : ℕ) (line bytes : List ℕ) (held : Content) → line_bytes line ≡ Some bytes → content_of bytes ≡ Some held → sum bytes % 256 ≡ 0 → record_at number line ≡ Ok held
unfolding record_at held_at
record_when number line bytes held is some balanced = rw (is, some, eq-eqb (sum bytes % 256) 0 balanced) refl

zero_sum : (line bytes : List ℕ) → HasSum line → line_bytes line ≡ Some bytes → sum bytes % 256 ≡ 0
zero_sum line bytes (others, spelled, balanced) is = ap (λ (x : List ℕ). sum x % 256) (some_is _ _ (sym is ∙ spelled)) ∙ balanced

pub data_again : (number : ℕ) (line : List ℕ) (d : Data) → IsDataLine line d → record_at number line ≡ Ok (data_record d)
data_again number line d (f, s) =
    record_when number line _ (data_record d) f.spelled (data_content d.address f.checksum d.bytes f.within) (zero_sum line _ s f.spelled)

pub end_again : (number : ℕ) (line : List ℕ) → IsEndLine line → record_at number line ≡ Ok end_record
end_again number line (f, s) = record_when number line _ end_record f.spelled (end_content f.address f.checksum) (zero_sum line _ s f.spelled)

pub bad_record_again : (number : ℕ) (line : List ℕ) (r : Result Content HexRefusal) → Tells number line r → ¬ (HasForm line) → r ≡ Err (refused.At (record { 0 = number }) hex.BadRecord)
bad_record_again number line (Ok (data_record d)) (f, s) bad = absurd (bad (inl (d, f)))
bad_record_again number line (Ok end_record) (f, s) bad = absurd (bad (inr f))
bad_record_again number line (Err (refused.At at hex.BadRecord)) (is, not) bad = ap (λ (x : Line). Err (refused.At x hex.BadRecord)) is
bad_record_again number line (Err (refused.At at hex.BadSum)) (is, form, not) bad = absurd (bad form)
bad_record_again number line (Err (refused.At at hex.Overlap)) told bad = absurd told
bad_record_again number line (Err (refused.At at hex.NoEnd)) told bad = absurd told
bad_record_again number line (Err (refused.At at hex.AfterEnd)) told bad = absurd told
bad_record_again number line (Err refused.Memory) told bad = absurd told

pub bad_sum_again : (number : ℕ) (line : List ℕ) (r : Result Content HexRefusal) → Tells number line r → HasForm line → ¬ (HasSum line) → r ≡ Err (refused.At (record { 0 = number }) hex.BadSum)
bad_sum_again number line (Ok (data_record d)) (f, s) form bad = absurd (bad s)
bad_sum_again number line (Ok end_record) (f, s) form bad = absurd (bad s)
bad_sum_again number line (Err (refused.At at hex.BadRecord)) (is, not) form bad = absurd (not form)
bad_sum_again number line (Err (refused.At at hex.BadSum)) (is, has, not) form bad = ap (λ (x : Line). Err (refused.At x hex.BadSum)) is
bad_sum_again number line (Err (refused.At at hex.Overlap)) told form bad = absurd told
bad_sum_again number line (Err (refused.At at hex.NoEnd)) told form bad = absurd told
bad_sum_again number line (Err (refused.At at hex.AfterEnd)) told form bad = absurd told
bad_sum_again number line (Err refused.Memory) told form bad = absurd told

-- a data record stands in memory
pub record_within : (number : ℕ) (line : List ℕ) (d : Data) → record_at number line ≡ Ok (data_record d) → d.address + length d.bytes ≤ 65536
record_within number line d is = (subst (Tells number line) is (record_tells number line)).0.within
