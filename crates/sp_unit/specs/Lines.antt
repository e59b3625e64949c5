-- The lines of a source in their order, and where each stands (this project's own).
use Rattle.std.specs.Prelude.{◌≡◌, ℕ, nat_lt, Bool, true, false, ◌||◌, if◌then◌else◌, List, [], ◌∷◌, ◌++◌, map, fold, Option, Some, None}
use Rattle.std.specs.List.{list_any}
use Rattle.sp_asm.specs.declared.listing.Item.{Item}
use Rattle.sp_asm.specs.declared.listing.ItemKind.{ItemKind}
use Rattle.sp_asm.specs.declared.listing.ItemKind.TheVariants as kind
use Rattle.sp_note.specs.Parts.{Part, NoteLine, Routine, Start, Assert, End}

-- a statement with its address, or an annotation line
pub data Entry : Type 0 where
  Statement : Item → Entry
  Annotation : NoteLine → Entry

abbrev pub line_of : Entry → ℕ
line_of (Statement item) = item.line.0
line_of (Annotation note) = note.line

abbrev pub item_in : Entry → Option Item
item_in (Statement item) = Some item
item_in (Annotation note) = None

abbrev pub note_in : Entry → Option NoteLine
note_in (Statement item) = None
note_in (Annotation note) = Some note

-- a statement before the annotation lines below its own line, and before what comes of the later statements
abbrev pub placed : Item → (List NoteLine → List Entry) → List NoteLine → List Entry
placed item later [] = Statement item ∷ later []
placed item later (note ∷ notes) =
    if nat_lt item.line.0 note.line then Statement item ∷ later (note ∷ notes) else Annotation note ∷ placed item later notes

-- the lines of a source by rising line: its statements and its annotation lines
abbrev pub merged : List Item → List NoteLine → List Entry
merged [] notes = map Annotation notes
merged (item ∷ items) notes = placed item (merged items) notes

-- ---- Kinds of lines

abbrev pub is_instr : ItemKind → Bool
is_instr (kind.Instr i) = true
is_instr _ = false

-- an instruction
abbrev pub is_instruction : Entry → Bool
is_instruction (Statement item) = is_instr item.kind
is_instruction (Annotation note) = false

-- an annotation line of some parts
abbrev pub is_note : (Part → Bool) → Entry → Bool
is_note test (Statement item) = false
is_note test (Annotation note) = test note.part

abbrev pub is_end_part : Part → Bool
is_end_part End = true
is_end_part _ = false

abbrev pub is_routine_part : Part → Bool
is_routine_part (Routine name) = true
is_routine_part _ = false

abbrev pub is_start_part : Part → Bool
is_start_part Start = true
is_start_part _ = false

abbrev pub is_assert_part : Part → Bool
is_assert_part (Assert note) = true
is_assert_part _ = false

abbrev pub is_end : Entry → Bool
is_end = is_note is_end_part

abbrev pub is_routine : Entry → Bool
is_routine = is_note is_routine_part

abbrev pub is_start : Entry → Bool
is_start = is_note is_start_part

-- a header ends at the first statement or assertion, and where the routine ends or another begins
abbrev pub ends_header : Entry → Bool
ends_header (Statement item) = true
ends_header (Annotation note) = is_assert_part note.part || (is_end_part note.part || is_routine_part note.part)

-- ---- Places

-- the first of these lines, before the first of some kind
abbrev pub before : {A : Type 0} → (A → Bool) → List A → List A
before test [] = []
before test (x ∷ xs) = if test x then [] else x ∷ before test xs

-- the lines of the header that begins above these lines
abbrev pub header : List Entry → List Entry
header below = before ends_header below

-- the lines of the routine that begins above these lines, up to its `end`
abbrev pub inside : List Entry → List Entry
inside below = before is_end below

-- where a line stands: in no routine; in a header, after these lines of it; or after the header of these lines, and after
-- these others
pub data Place : Type 0 where
  Outside : Place
  InHeader : List Entry → Place
  InBody : List Entry → List Entry → Place

-- where the line after one stands
abbrev pub grown : Place → Entry → Place
grown Outside e = Outside
grown (InHeader lines) e = if ends_header e then InBody lines (e ∷ []) else InHeader (lines ++ e ∷ [])
grown (InBody lines more) e = InBody lines (more ++ e ∷ [])

abbrev pub next_place : Place → Entry → Place
next_place place e = if is_routine e then InHeader [] else (if is_end e then Outside else grown place e)

-- where the line after all these stands
abbrev pub place_after : List Entry → Place
place_after above = fold next_place Outside above

-- where a line after a routine's `routine` line stands: in its header while no line between ends that, after it then, and
-- outside once its `end` is above
pub record PlacesAreFound : Type 0 where
  pub header : (front lines : List Entry) (r : Entry) → is_routine r ≡ true → list_any ends_header lines ≡ false → place_after (front ++ r ∷ lines) ≡ InHeader lines
  pub body : (front lines more : List Entry) (r e : Entry) → is_routine r ≡ true → list_any ends_header lines ≡ false → ends_header e ≡ true
      → list_any (λ x. is_routine x || is_end x) (e ∷ more) ≡ false → place_after (front ++ r ∷ (lines ++ e ∷ more)) ≡ InBody lines (e ∷ more)
  pub outside : (front more : List Entry) (e : Entry) → is_end e ≡ true → list_any is_routine more ≡ false → place_after (front ++ e ∷ more) ≡ Outside
  pub before : (lines : List Entry) → list_any is_routine lines ≡ false → place_after lines ≡ Outside
