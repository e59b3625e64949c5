-- Reading a text answers what the text is: the image that it stands for, or the refusal that has its cause.
use Rattle.std.proofs.Common.{◌≡◌, ◌≢◌, ◌⊎◌, ℕ, suc, ◌+◌, eqb, List, [], ◌∷◌, ◌++◌, length, refl, sym, ap, subst, ◌∙◌, inl, inr, Option, Some, None, Result, Ok, Err, All, arith, append_assoc}
use Rattle.std.specs.List.{AllZip, AllByRecursion, IsDistinct}
use Rattle.std.specs.FinMap as maps
use Rattle.sp_base.specs.Lines.{lines}
use Rattle.std.proofs.lemmas.Bool.{cases_Bool, eqb-true, eqb-false, eq-eqb, ne_eqb, cond-true, cond-false}
use Rattle.std.proofs.lemmas.List.{append-nil, nil_from_length, length_push}
use Rattle.std.proofs.lemmas.List.Concat.{flat_map-append}
use Rattle.std.proofs.lemmas.List.Elements.{All-from_recursion, All-head, All-tail}
use Rattle.sp_base.specs.Image.{ImageMap}
use Rattle.sp_base.specs.declared.line.Line.{Line}
use Rattle.sp_base.specs.Refused.{Answers, IsComplete, IsUnlessMemory, at_line}
use Rattle.sp_base.specs.declared.refused.Refused.TheVariants as refused
use Rattle.sp_hex.specs.declared.refusal.HexKind.{HexKind}
use Rattle.sp_hex.specs.declared.refusal.HexKind.TheVariants as hex
use Rattle.sp_hex.specs.Refusals.{HexRefusal}
use Rattle.sp_hex.specs.Hex.{IsDataLine, IsEndLine, NoneTwice, StandsFor}
use Rattle.sp_hex.specs.Refusals.{Reaches, NoEndAt, IsCause}
use Rattle.sp_hex.specs.code.Reading.{Content, data_record, end_record, ◌>>=◌, Gives, or_overlap, after_record, record_at, empty_from, reading}
use Rattle.sp_base.proofs.CellLaws.{Apart, map_of, some_map, apart_front, placed_apart, placed_some, cells_more}
use Rattle.sp_hex.proofs.RecordLaws.{Tells, record_tells, data_again, end_again, bad_record_again, bad_sum_again}
use Rattle.sp_base.proofs.FindLaws.{Cells}
use Rattle.sp_base.specs.Cells.{Data, cells_at, cells_of, placed}

abbrev Texts : Type 0
Texts = List (List ℕ)

zip_push : {A B : Type 0} (R : A → B → Type 0) (xs : List A) (ys : List B) (x : A) (y : B) → AllZip R xs ys → R x y → AllZip R (xs ++ x ∷ []) (ys ++ y ∷ [])
zip_push R [] [] x y h r = (r, tt)
zip_push R [] (b ∷ ys) x y h r = absurd h
zip_push R (a ∷ xs) [] x y h r = absurd h
zip_push R (a ∷ xs) (b ∷ ys) x y h r = (h.0, zip_push R xs ys x y h.1 r)

-- ---- Lines behind an end record

-- what looking at lines answers, in terms of the lines
abbrev Looked : ℕ → Texts → Result (Unit {0}) HexRefusal → Type 0
Looked number more (Ok done) = AllByRecursion (λ line. line ≡ []) more
Looked number more (Err (refused.At at hex.AfterEnd)) = (between : Texts) × (line : List ℕ) × (after : Texts) × (more ≡ between ++ line ∷ after) × (at ≡ record { 0 = number + length between }) × AllByRecursion (λ l. l ≡ []) between × (line ≢ [])
Looked number more (Err (refused.At at hex.BadRecord)) = ⊥
Looked number more (Err (refused.At at hex.BadSum)) = ⊥
Looked number more (Err (refused.At at hex.Overlap)) = ⊥
Looked number more (Err (refused.At at hex.NoEnd)) = ⊥
Looked number more (Err refused.Memory) = ⊥

line_number : (n m : ℕ) → n ≡ m → ◌≡◌ {A = Line} (record { 0 = n }) (record { 0 = m })
line_number n m e = ap (λ (k : ℕ). let line : Line = record { 0 = k } in line) e

looked_more : (number : ℕ) (line : List ℕ) (more : Texts) (r : Result (Unit {0}) HexRefusal) → line ≡ [] → Looked (number + 1) more r → Looked number (line ∷ more) r
looked_more number line more (Ok done) none h = (none, h)
looked_more number line more (Err (refused.At at hex.AfterEnd)) none (between, l, after, e, place, empty, some) =
    (line ∷ between, l, after, ap (λ (x : Texts). line ∷ x) e, place ∙ line_number _ _ (omega arith), (none, empty), some)
looked_more number line more (Err (refused.At at hex.BadRecord)) none h = absurd h
looked_more number line more (Err (refused.At at hex.BadSum)) none h = absurd h
looked_more number line more (Err (refused.At at hex.Overlap)) none h = absurd h
looked_more number line more (Err (refused.At at hex.NoEnd)) none h = absurd h
looked_more number line more (Err refused.Memory) none h = absurd h

looked : (number : ℕ) (more : Texts) → Looked number more (empty_from number more)
unfolding empty_from
looked number [] = tt
looked number (line ∷ more) =
    elim (cases_Bool (eqb (length line) 0)) [
      | inl none ↦ subst (Looked number (line ∷ more)) (sym (cond-true (eqb (length line) 0) (empty_from (number + 1) more) (Err (refused.At (record { 0 = number }) hex.AfterEnd)) none))
          (looked_more number line more (empty_from (number + 1) more) (nil_from_length line (eqb-true _ _ none)) (looked (number + 1) more))
      | inr some ↦ subst (Looked number (line ∷ more)) (sym (cond-false (eqb (length line) 0) (empty_from (number + 1) more) (Err (refused.At (record { 0 = number }) hex.AfterEnd)) some))
          ([], line, more, refl, line_number _ _ (omega arith), tt, λ e. eqb-false (length line) 0 some (ap length e))
    ]

pub empty_again : (number : ℕ) (more : Texts) → All (λ line. line ≡ []) more → empty_from number more ≡ Ok tt
unfolding empty_from
empty_again number [] h = refl
empty_again number (line ∷ more) h =
    cond-true (eqb (length line) 0) (empty_from (number + 1) more) (Err (refused.At (record { 0 = number }) hex.AfterEnd)) (eq-eqb _ _ (ap length (All-head (λ l. l ≡ []) line more h)))
    ∙ empty_again (number + 1) more (All-tail (λ l. l ≡ []) line more h)

some_length : (line : List ℕ) → line ≢ [] → length line ≡ 0 → ⊥
some_length line some e = some (nil_from_length line e)

pub after_again : (number : ℕ) (between : Texts) (line : List ℕ) (after : Texts) → All (λ l. l ≡ []) between → line ≢ [] → empty_from number (between ++ line ∷ after) ≡ Err (refused.At (record { 0 = number + length between }) hex.AfterEnd)
unfolding empty_from
after_again number [] line after h some =
    cond-false (eqb (length line) 0) (empty_from (number + 1) after) (Err (refused.At (record { 0 = number }) hex.AfterEnd)) (ne_eqb _ _ (some_length line some))
    ∙ ap (λ (x : Line). Err (refused.At x hex.AfterEnd)) (line_number _ _ (omega arith))
after_again number (l ∷ between) line after h some =
    cond-true (eqb (length l) 0) (empty_from (number + 1) (between ++ line ∷ after)) (Err (refused.At (record { 0 = number }) hex.AfterEnd)) (eq-eqb _ _ (ap length (All-head (λ x. x ≡ []) l between h)))
    ∙ after_again (number + 1) between line after (All-tail (λ x. x ≡ []) l between h) some
    ∙ ap (λ (x : Line). Err (refused.At x hex.AfterEnd)) (line_number _ _ (omega arith))

-- ---- What reading answers has its cause

abbrev pub IsAnswer : List ℕ → Result ImageMap HexRefusal → Type 0
IsAnswer text (Ok image) = StandsFor text image
IsAnswer text (Err (refused.At line kind)) = IsCause text line.0 kind
IsAnswer text (Err refused.Memory) = ⊥

-- data records that were read, and the lines behind them
record Front (text : List ℕ) (number : ℕ) (records : List Data) (rest : Texts) : Type 0 where
  before : Texts
  whole : lines text ≡ before ++ rest
  place : number ≡ length before + 1
  each : AllZip IsDataLine before records
  apart : NoneTwice records

front_reaches : (text : List ℕ) (number : ℕ) (records : List Data) (line : List ℕ) (more : Texts) → Front text number records (line ∷ more) → Reaches text number line records
front_reaches text number records line more f = record { before = f.before; after = more; whole = f.whole; place = f.place; each = f.each; apart = f.apart }

front_more : (text : List ℕ) (number : ℕ) (records : List Data) (line : List ℕ) (more : Texts) (d : Data) → Front text number records (line ∷ more) → IsDataLine line d → NoneTwice (records ++ d ∷ []) → Front text (number + 1) (records ++ d ∷ []) more
front_more text number records line more d f right apart = record {
  before = f.before ++ line ∷ [];
  whole = f.whole ∙ sym (append_assoc f.before (line ∷ []) more);
  place = omega (arith, f.place, length_push f.before line);
  each = zip_push IsDataLine f.before records line d f.each right;
  apart = apart;
}

no_end : (text : List ℕ) (number : ℕ) (records : List Data) → Front text number records [] → NoEndAt text 0
no_end text number records f = record { records = records; each = subst (λ (x : Texts). AllZip IsDataLine x records) (sym (f.whole ∙ append-nil f.before)) f.each; apart = f.apart; place = refl }

later : (number before between : ℕ) → number ≡ before + 1 → number + 1 + between ≡ before + 1 + (between + 1)
later number before between e = omega arith

is_ended : (text : List ℕ) (number : ℕ) (records : List Data) (line : List ℕ) (more : Texts) → Front text number records (line ∷ more) → IsEndLine line → (r : Result (Unit {0}) HexRefusal) → Looked (number + 1) more r
    → IsAnswer text (r >>= λ _. Ok (map_of (cells_of records)))
is_ended text number records line more f right (Ok done) h = record {
  before = f.before;
  last = line;
  after = more;
  records = records;
  whole = f.whole;
  each = f.each;
  ended = right;
  empty = All-from_recursion (λ l. l ≡ []) more h;
  apart = f.apart;
  exact = refl;
}
is_ended text number records line more f right (Err (refused.At at hex.AfterEnd)) (between, l, after, e, place, empty, some) = record {
  last = line;
  records = records;
  before = f.before;
  between = between;
  line = l;
  after = after;
  whole = f.whole ∙ ap (λ (x : Texts). f.before ++ line ∷ x) e;
  place = ap (λ (x : Line). x.0) place ∙ later number (length f.before) (length between) f.place;
  each = f.each;
  apart = f.apart;
  ended = right;
  empty = All-from_recursion (λ l. l ≡ []) between empty;
  broken = some;
}
is_ended text number records line more f right (Err (refused.At at hex.BadRecord)) h = absurd h
is_ended text number records line more f right (Err (refused.At at hex.BadSum)) h = absurd h
is_ended text number records line more f right (Err (refused.At at hex.Overlap)) h = absurd h
is_ended text number records line more f right (Err (refused.At at hex.NoEnd)) h = absurd h
is_ended text number records line more f right (Err refused.Memory) h = absurd h

overlaps : (records : List Data) (d : Data) → placed d.address d.bytes (map_of (cells_of records)) ≡ None → ¬ (NoneTwice (records ++ d ∷ []))
overlaps records d none apart =
    some_map _ (sym (placed_apart (cells_of records) d.address d.bytes (subst Apart (cells_more records d) apart)) ∙ none)

-- what comes of a data record, if what comes of the lines behind it is right
placed_answer : (text : List ℕ) (number : ℕ) (records : List Data) (line : List ℕ) (more : Texts) (d : Data) → Front text number records (line ∷ more) → IsDataLine line d
    → ((records' : List Data) → Front text (number + 1) records' more → IsAnswer text (reading (number + 1) (map_of (cells_of records')) more))
    → (o : Option ImageMap) → placed d.address d.bytes (map_of (cells_of records)) ≡ o → IsAnswer text (or_overlap number o >>= λ i. reading (number + 1) i more)
placed_answer text number records line more d f right go_on None is = record {
  line = line;
  records = records;
  last = d;
  reached = front_reaches text number records line more f;
  right = right;
  broken = overlaps records d is;
}
placed_answer text number records line more d f right go_on (Some image) is =
    let p = placed_some (cells_of records) d.address d.bytes image f.apart is in
    let apart : NoneTwice (records ++ d ∷ []) = subst Apart (sym (cells_more records d)) p.0 in
    let new : image ≡ map_of (cells_of (records ++ d ∷ [])) = p.1 ∙ ap map_of (sym (cells_more records d)) in
    subst (λ i. IsAnswer text (reading (number + 1) i more)) (sym new) (go_on (records ++ d ∷ []) (front_more text number records line more d f right apart))

-- what comes of a line, in terms of what it holds
line_answer : (text : List ℕ) (number : ℕ) (records : List Data) (line : List ℕ) (more : Texts) → Front text number records (line ∷ more)
    → ((records' : List Data) → Front text (number + 1) records' more → IsAnswer text (reading (number + 1) (map_of (cells_of records')) more))
    → (r : Result Content HexRefusal) → Tells number line r
    → IsAnswer text (r >>= after_record number (map_of (cells_of records)) (λ i. reading (number + 1) i more) (empty_from (number + 1) more))
line_answer text number records line more f go_on (Ok (data_record d)) told = placed_answer text number records line more d f told go_on (placed d.address d.bytes (map_of (cells_of records))) refl
line_answer text number records line more f go_on (Ok end_record) told = is_ended text number records line more f told (empty_from (number + 1) more) (looked (number + 1) more)
line_answer text number records line more f go_on (Err (refused.At at hex.BadRecord)) (is, bad) = record {
  line = line;
  records = records;
  broken = bad;
  reached = subst (λ (x : Line). Reaches text x.0 line records) (sym is) (front_reaches text number records line more f);
}
line_answer text number records line more f go_on (Err (refused.At at hex.BadSum)) (is, form, bad) = record {
  line = line;
  records = records;
  form = form;
  broken = bad;
  reached = subst (λ (x : Line). Reaches text x.0 line records) (sym is) (front_reaches text number records line more f);
}
line_answer text number records line more f go_on (Err (refused.At at hex.Overlap)) told = absurd told
line_answer text number records line more f go_on (Err (refused.At at hex.NoEnd)) told = absurd told
line_answer text number records line more f go_on (Err (refused.At at hex.AfterEnd)) told = absurd told
line_answer text number records line more f go_on (Err refused.Memory) told = absurd told

from_front : (text : List ℕ) (rest : Texts) (number : ℕ) (records : List Data) → Front text number records rest → IsAnswer text (reading number (map_of (cells_of records)) rest)
unfolding reading
from_front text [] number records f = no_end text number records f
from_front text (line ∷ more) number records f =
    line_answer text number records line more f (λ records' f'. from_front text more (number + 1) records' f') (record_at number line) (record_tells number line)

pub reading_answers : (text : List ℕ) → IsAnswer text (reading 1 maps.empty (lines text))
unfolding IsDistinct
reading_answers text = from_front text (lines text) 1 [] (record { before = []; whole = refl; place = refl; each = tt; apart = tt })

-- ---- What has its cause is answered

number_same : (n : ℕ) → n ≡ n + 0
number_same n = omega arith

number_more : (n k : ℕ) → n + 1 + k ≡ n + suc k
number_more n k = omega arith

number_is : (k n : ℕ) → n ≡ k + 1 → 1 + k ≡ n
number_is k n e = omega arith

later_number : (k m : ℕ) → k + 1 + (m + 1) ≡ k + 1 + 1 + m
later_number k m = omega arith

skip : (before : Texts) (done records : List Data) (rest : Texts) (number : ℕ) → AllZip IsDataLine before records → NoneTwice (done ++ records)
    → reading number (map_of (cells_of done)) (before ++ rest) ≡ reading (number + length before) (map_of (cells_of (done ++ records))) rest
unfolding reading
skip [] done [] rest number each apart = λ i. reading (number_same number i) (map_of (cells_of (sym (append-nil done) i))) rest
skip [] done (d ∷ records) rest number each apart = absurd each
skip (line ∷ before) done [] rest number each apart = absurd each
skip (line ∷ before) done (d ∷ records) rest number each apart =
    let joined : (done ++ d ∷ []) ++ records ≡ done ++ d ∷ records = append_assoc done (d ∷ []) records in
    let whole : NoneTwice ((done ++ d ∷ []) ++ records) = subst NoneTwice (sym joined) apart in
    let front : NoneTwice (done ++ d ∷ []) = apart_front (cells_of (done ++ d ∷ [])) (cells_of records) (subst Apart (flat_map-append (λ (e : Data). cells_at e.address e.bytes) (done ++ d ∷ []) records) whole) in
    let new : placed d.address d.bytes (map_of (cells_of done)) ≡ Some (map_of (cells_of (done ++ d ∷ []))) =
    placed_apart (cells_of done) d.address d.bytes (subst Apart (cells_more done d) front) ∙ ap (λ (x : Cells). Some (map_of x)) (sym (cells_more done d)) in
    ap (λ r. r >>= after_record number (map_of (cells_of done)) (λ i. reading (number + 1) i (before ++ rest)) (empty_from (number + 1) (before ++ rest))) (data_again number line d each.0)
    ∙ ap (λ o. or_overlap number o >>= λ i. reading (number + 1) i (before ++ rest)) new
    ∙ skip before (done ++ d ∷ []) records rest (number + 1) each.1 whole
    ∙ λ i. reading (number_more number (length before) i) (map_of (cells_of (joined i))) rest

-- what reading comes to behind data records
reading_at : (text : List ℕ) (number : ℕ) (records : List Data) (rest : Texts) → Front text number records rest → reading 1 maps.empty (lines text) ≡ reading number (map_of (cells_of records)) rest
reading_at text number records rest f =
    ap (reading 1 maps.empty) f.whole ∙ skip f.before [] records rest 1 f.each f.apart ∙ ap (λ n. reading n (map_of (cells_of records)) rest) (number_is (length f.before) number f.place)

-- the same, where the line there answers this
reading_line : (text : List ℕ) (number : ℕ) (records : List Data) (line : List ℕ) (more : Texts) (r : Result Content HexRefusal) → Front text number records (line ∷ more) → record_at number line ≡ r
    → reading 1 maps.empty (lines text) ≡ (r >>= after_record number (map_of (cells_of records)) (λ i. reading (number + 1) i more) (empty_from (number + 1) more))
unfolding reading
reading_line text number records line more r f is =
    reading_at text number records (line ∷ more) f ∙ ap (λ x. x >>= after_record number (map_of (cells_of records)) (λ i. reading (number + 1) i more) (empty_from (number + 1) more)) is

reached_front : (text : List ℕ) (number : ℕ) (line : List ℕ) (records : List Data) (h : Reaches text number line records) → Front text number records (line ∷ h.after)
reached_front text number line records h = record { before = h.before; whole = h.whole; place = h.place; each = h.each; apart = h.apart }

pub image_again : (text : List ℕ) (image : ImageMap) → StandsFor text image → reading 1 maps.empty (lines text) ≡ Ok image
image_again text image h =
    let f : Front text (length h.before + 1) h.records (h.last ∷ h.after) = record { before = h.before; whole = h.whole; place = refl; each = h.each; apart = h.apart } in
    reading_line text (length h.before + 1) h.records h.last h.after (Ok end_record) f (end_again (length h.before + 1) h.last h.ended)
    ∙ ap (λ r. r >>= λ _. Ok (map_of (cells_of h.records))) (empty_again (length h.before + 1 + 1) h.after h.empty)
    ∙ ap (λ i. Ok i) (sym h.exact)

-- where an address would be given twice, nothing is placed
not_placed : (records : List Data) (d : Data) (o : Option ImageMap) → NoneTwice records → placed d.address d.bytes (map_of (cells_of records)) ≡ o → ¬ (NoneTwice (records ++ d ∷ [])) → o ≡ None
not_placed records d None apart is twice = refl
not_placed records d (Some image) apart is twice =
    absurd (twice (subst Apart (sym (cells_more records d)) (placed_some (cells_of records) d.address d.bytes image apart is).0))

pub cause_again : (text : List ℕ) (number : ℕ) (kind : HexKind) → IsCause text number kind → reading 1 maps.empty (lines text) ≡ Err (at_line number kind)
unfolding reading
cause_again text number hex.BadRecord h =
    reading_line text number h.records h.line h.reached.after _ (reached_front text number h.line h.records h.reached) (bad_record_again number h.line _ (record_tells number h.line) h.broken)
cause_again text number hex.BadSum h =
    reading_line text number h.records h.line h.reached.after _ (reached_front text number h.line h.records h.reached) (bad_sum_again number h.line _ (record_tells number h.line) h.form h.broken)
cause_again text number hex.Overlap h =
    reading_line text number h.records h.line h.reached.after _ (reached_front text number h.line h.records h.reached) (data_again number h.line h.last h.right)
    ∙ ap (λ o. or_overlap number o >>= λ i. reading (number + 1) i h.reached.after) (not_placed h.records h.last (placed h.last.address h.last.bytes (map_of (cells_of h.records))) h.reached.apart refl h.broken)
cause_again text number hex.NoEnd h =
    reading_at text (length (lines text) + 1) h.records [] (record { before = lines text; whole = sym (append-nil (lines text)); place = refl; each = h.each; apart = h.apart })
    ∙ ap (λ (x : Line). Err (refused.At x hex.NoEnd)) (line_number _ _ (sym h.place))
cause_again text number hex.AfterEnd h =
    let n = length h.before + 1 in
    let f : Front text n h.records (h.last ∷ (h.between ++ h.line ∷ h.after)) = record { before = h.before; whole = h.whole; place = refl; each = h.each; apart = h.apart } in
    reading_line text n h.records h.last (h.between ++ h.line ∷ h.after) (Ok end_record) f (end_again n h.last h.ended)
    ∙ ap (λ r. r >>= λ _. Ok (map_of (cells_of h.records))) (after_again (n + 1) h.between h.line h.after h.empty h.broken)
    ∙ ap (λ (x : Line). Err (refused.At x hex.AfterEnd)) (line_number _ _ (sym (h.place ∙ later_number (length h.before) (length h.between))))

-- ---- What a reader returns

answer_means : (text : List ℕ) (r : Result ImageMap HexRefusal) → IsAnswer text r → Answers (StandsFor text) (IsCause text) r
answer_means text (Ok image) h = h
answer_means text (Err (refused.At line kind)) h = h
answer_means text (Err refused.Memory) h = tt

pub given_answer : (text : List ℕ) (r : Result ImageMap HexRefusal) → Gives (λ i. i) r (reading 1 maps.empty (lines text)) → Answers (StandsFor text) (IsCause text) r
given_answer text (Ok image) h = answer_means text (Ok image) (subst (IsAnswer text) h (reading_answers text))
given_answer text (Err (refused.At line kind)) h = answer_means text (Err (refused.At line kind)) (subst (IsAnswer text) h (reading_answers text))
given_answer text (Err refused.Memory) h = tt

gives_all : (r total other : Result ImageMap HexRefusal) → Gives (λ i. i) r total → total ≡ other → IsUnlessMemory r other
gives_all (Ok image) total other h is = inl (sym h ∙ is)
gives_all (Err (refused.At line kind)) total other h is = inl (sym h ∙ is)
gives_all (Err refused.Memory) total other h is = inr refl

pub given_whole : (text : List ℕ) (r : Result ImageMap HexRefusal) → Gives (λ i. i) r (reading 1 maps.empty (lines text)) → IsComplete (StandsFor text) (IsCause text) r
given_whole text r h = record {
  whole = λ image stands. gives_all r _ (Ok image) h (image_again text image stands);
  exact = λ number kind cause. gives_all r _ (Err (at_line number kind)) h (cause_again text number kind cause);
}

-- ---- One answer

answer_ok : (a b : ImageMap) → ◌≡◌ {A = Result ImageMap HexRefusal} (Ok a) (Ok b) → a ≡ b
answer_ok a b e = cc

answer_at : (a b : Line) (k j : HexKind) → ◌≡◌ {A = Result ImageMap HexRefusal} (Err (refused.At a k)) (Err (refused.At b j)) → (a ≡ b) × (k ≡ j)
answer_at a b k j e = (cc, cc)

not_both : (a : ImageMap) (b : HexRefusal) → ◌≡◌ {A = Result ImageMap HexRefusal} (Ok a) (Err b) → ⊥
not_both a b e = cc

pub one_image : (t : List ℕ) (a b : ImageMap) → StandsFor t a → StandsFor t b → a ≡ b
one_image t a b h k = answer_ok a b (sym (image_again t a h) ∙ image_again t b k)

pub one_refusal : (t : List ℕ) (n m : ℕ) (k j : HexKind) → IsCause t n k → IsCause t m j → (n ≡ m) × (k ≡ j)
one_refusal t n m k j h i =
    let same = answer_at (record { 0 = n }) (record { 0 = m }) k j (sym (cause_again t n k h) ∙ cause_again t m j i) in
    (ap (λ (x : Line). x.0) same.0, same.1)

pub never_both : (t : List ℕ) (image : ImageMap) (number : ℕ) (kind : HexKind) → StandsFor t image → ¬ (IsCause t number kind)
never_both t image number kind h k = not_both image (at_line number kind) (sym (image_again t image h) ∙ cause_again t number kind k)

one_of : (t : List ℕ) (r : Result ImageMap HexRefusal) → IsAnswer t r → ((image : ImageMap) × StandsFor t image) ⊎ ((number : ℕ) × (kind : HexKind) × IsCause t number kind)
one_of t (Ok image) h = inl (image, h)
one_of t (Err (refused.At line kind)) h = inr (line.0, kind, h)
one_of t (Err refused.Memory) h = absurd h

pub always_one : (t : List ℕ) → ((image : ImageMap) × StandsFor t image) ⊎ ((number : ℕ) × (kind : HexKind) × IsCause t number kind)
always_one t = one_of t (reading 1 maps.empty (lines t)) (reading_answers t)

-- ---- What reading shows of a text

pub stands_by : (t : List ℕ) (image : ImageMap) → reading 1 maps.empty (lines t) ≡ Ok image → StandsFor t image
stands_by t image e = subst (IsAnswer t) e (reading_answers t)

pub cause_by : (t : List ℕ) (number : ℕ) (kind : HexKind) → reading 1 maps.empty (lines t) ≡ Err (at_line number kind) → IsCause t number kind
cause_by t number kind e = subst (IsAnswer t) e (reading_answers t)

line_holds : (line : List ℕ) (held : Content) → record_at 1 line ≡ Ok held → Tells 1 line (Ok held)
line_holds line held e = subst (Tells 1 line) e (record_tells 1 line)

-- a text of one data record
pub one_stands : (t line last : List ℕ) (after : Texts) (d : Data) → lines t ≡ line ∷ last ∷ after → record_at 1 line ≡ Ok (data_record d) → record_at 1 last ≡ Ok end_record
    → AllByRecursion (λ l. l ≡ []) after → NoneTwice (d ∷ []) → StandsFor t (map_of (cells_of (d ∷ [])))
one_stands t line last after d whole held ends empty apart = record {
  before = line ∷ [];
  last = last;
  after = after;
  records = d ∷ [];
  whole = whole;
  each = (line_holds line (data_record d) held, tt);
  ended = line_holds last end_record ends;
  empty = All-from_recursion (λ l. l ≡ []) after empty;
  apart = apart;
  exact = refl;
}

-- a text that gives one record twice
pub twice_wrong : (t line : List ℕ) (after : Texts) (d : Data) → lines t ≡ line ∷ line ∷ after → record_at 1 line ≡ Ok (data_record d) → NoneTwice (d ∷ []) → ¬ (NoneTwice (d ∷ d ∷ []))
    → IsCause t 2 hex.Overlap
twice_wrong t line after d whole held apart twice = record {
  line = line;
  records = d ∷ [];
  last = d;
  reached = record { before = line ∷ []; after = after; whole = whole; place = refl; each = (line_holds line (data_record d) held, tt); apart = apart };
  right = line_holds line (data_record d) held;
  broken = twice;
}

-- a text of one data record and no end record
pub open_wrong : (t line : List ℕ) (d : Data) → lines t ≡ line ∷ [] → record_at 1 line ≡ Ok (data_record d) → NoneTwice (d ∷ []) → IsCause t 0 hex.NoEnd
open_wrong t line d whole held apart = record {
  records = d ∷ [];
  each = subst (λ (ls : Texts). AllZip IsDataLine ls (d ∷ [])) (sym whole) (line_holds line (data_record d) held, tt);
  apart = apart;
  place = refl;
}
