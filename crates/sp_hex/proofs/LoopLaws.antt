-- Reading one line after another, as a loop does.
use Rattle.std.proofs.Common.{◌≡◌, ℕ, ◌+◌, Bool, true, false, cond, eqb, List, ◌∷◌, map, length, drop, sym, ap, ◌∙◌, Some, None, Result, Ok, Err}
use Rattle.std.proofs.lemmas.List.{nil_from_length}
use Rattle.sp_base.specs.Lines.{Row, rows_of, line_of, size_of, lines}
use Rattle.sp_base.specs.Image.{ImageMap}
use Rattle.sp_base.specs.Cells.{Data, placed}
use Rattle.sp_base.specs.declared.refused.Refused.TheVariants as refused
use Rattle.sp_hex.specs.declared.refusal.HexKind.TheVariants as hex
use Rattle.sp_hex.specs.Hex.{line_bytes}
use Rattle.sp_hex.specs.Refusals.{HexRefusal}
use Rattle.sp_hex.specs.code.Reading.{Content, data_record, end_record, ◌>>=◌, Fails, or_bad_record, held_at, record_at, Spells, empty_from, or_overlap, after_record, reading}

-- the first line of a text, and the lines of what stands after its row
pub split_lines : (text line after : List ℕ) (first : Row) (size : ℕ) → rows_of text ≡ first ∷ rows_of (drop (size_of first) text) → line ≡ line_of first → size ≡ size_of first
    → after ≡ drop size text → lines text ≡ line ∷ lines after
split_lines text line after first size rows line_is size_is after_is =
    ap (map line_of) rows ∙ ap (λ (x : List ℕ). x ∷ lines (drop (size_of first) text)) (sym line_is)
    ∙ ap (λ n. line ∷ lines (drop n text)) (sym size_is) ∙ ap (λ (x : List ℕ). line ∷ lines x) (sym after_is)

-- ---- Empty lines

module _ (number : ℕ) (text line : List ℕ) (more : List (List ℕ)) (total : Result (Unit {0}) HexRefusal) (split : lines text ≡ line ∷ more) (so_far : empty_from number (lines text) ≡ total) where
  step_empty : empty_from number (line ∷ more) ≡ total
  step_empty = ap (empty_from number) (sym split) ∙ so_far

  pub empty_on : eqb (length line) 0 ≡ true → empty_from (number + 1) more ≡ total
  unfolding empty_from
  empty_on none = ap (λ b. cond b (empty_from (number + 1) more) (Err (refused.At (record { 0 = number }) hex.AfterEnd))) (sym none) ∙ step_empty

  pub empty_stop : eqb (length line) 0 ≡ false → total ≡ Err (refused.At (record { 0 = number }) hex.AfterEnd)
  unfolding empty_from
  empty_stop some = sym step_empty ∙ ap (λ b. cond b (empty_from (number + 1) more) (Err (refused.At (record { 0 = number }) hex.AfterEnd))) some

pub empty_end : (number : ℕ) (text : List ℕ) (total : Result (Unit {0}) HexRefusal) → length text ≡ 0 → empty_from number (lines text) ≡ total → total ≡ Ok tt
unfolding empty_from rows_of
empty_end number text total none so_far = sym so_far ∙ ap (λ (x : List ℕ). empty_from number (lines x)) (nil_from_length text none)

-- ---- Records

bind_fails : {A B : Type 0} (e : HexRefusal) (read : Result A HexRefusal) (f : A → Result B HexRefusal) (total : Result B HexRefusal) → Fails e read → (read >>= f) ≡ total → Fails e total
bind_fails refused.Memory read f total h so_far = tt
bind_fails (refused.At line kind) read f total h so_far = sym so_far ∙ ap (λ r. r >>= f) h

module _ (number : ℕ) (image : ImageMap) (text line : List ℕ) (more : List (List ℕ)) (total : Result ImageMap HexRefusal) (split : lines text ≡ line ∷ more) (so_far : reading number image (lines text) ≡ total) where
  step : (record_at number line >>= after_record number image (λ i. reading (number + 1) i more) (empty_from (number + 1) more)) ≡ total
  unfolding reading
  step = ap (reading number image) (sym split) ∙ so_far

  step_held : (held : Content) → record_at number line ≡ Ok held → after_record number image (λ i. reading (number + 1) i more) (empty_from (number + 1) more) held ≡ total
  step_held held is = ap (λ r. r >>= after_record number image (λ i. reading (number + 1) i more) (empty_from (number + 1) more)) (sym is) ∙ step

  pub record_fails : (e : HexRefusal) → Fails e (record_at number line) → Fails e total
  record_fails e h = bind_fails e (record_at number line) (after_record number image (λ i. reading (number + 1) i more) (empty_from (number + 1) more)) total h step

  pub bytes_fail : line_bytes line ≡ None → total ≡ Err (refused.At (record { 0 = number }) hex.BadRecord)
  unfolding record_at
  bytes_fail none = sym step ∙ ap (λ o. or_bad_record number o >>= held_at number >>= after_record number image (λ i. reading (number + 1) i more) (empty_from (number + 1) more)) none

  pub data_overlaps : (d : Data) → record_at number line ≡ Ok (data_record d) → placed d.address d.bytes image ≡ None → total ≡ Err (refused.At (record { 0 = number }) hex.Overlap)
  data_overlaps d is none = sym (step_held (data_record d) is) ∙ ap (λ o. or_overlap number o >>= λ i. reading (number + 1) i more) none

  pub data_on : (d : Data) (new : ImageMap) → record_at number line ≡ Ok (data_record d) → placed d.address d.bytes image ≡ Some new → reading (number + 1) new more ≡ total
  data_on d new is some = ap (λ o. or_overlap number o >>= λ i. reading (number + 1) i more) (sym some) ∙ step_held (data_record d) is

  pub end_fails : (e : HexRefusal) → record_at number line ≡ Ok end_record → Fails e (empty_from (number + 1) more) → Fails e total
  end_fails e is h = bind_fails e (empty_from (number + 1) more) (λ _. Ok image) total h (step_held end_record is)

  pub end_done : record_at number line ≡ Ok end_record → empty_from (number + 1) more ≡ Ok tt → total ≡ Ok image
  end_done is done = sym (step_held end_record is) ∙ ap (λ r. r >>= λ _. Ok image) done

-- where a line spells bytes, it holds what they hold
pub held_in : (number : ℕ) (line bytes seen : List ℕ) (whole : Bool) → whole ≡ true → Spells whole bytes (line_bytes line) → seen ≡ bytes → record_at number line ≡ held_at number seen
unfolding record_at
held_in number line bytes seen true e is same = ap (λ o. or_bad_record number o >>= held_at number) is ∙ ap (held_at number) (sym same)
held_in number line bytes seen false e is same = absurd cc

pub nothing_left : (number : ℕ) (image : ImageMap) (text : List ℕ) (total : Result ImageMap HexRefusal) → length text ≡ 0 → reading number image (lines text) ≡ total → total ≡ Err (refused.At (record { 0 = 0 }) hex.NoEnd)
unfolding reading rows_of
nothing_left number image text total none so_far = sym so_far ∙ ap (λ (x : List ℕ). reading number image (lines x)) (nil_from_length text none)
