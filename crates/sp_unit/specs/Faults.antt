-- How a line breaks the rules of units, and which is the first (this project's own).
use Rattle.std.specs.Prelude.{◌≡◌, ◌⊎◌, ℕ, ◌+◌, ◌-◌, nat_lt, nat_le, nat_eq, bytes_eq, Bool, true, false, ◌&&◌, ◌||◌, not, if◌then◌else◌, List, [], ◌∷◌, ◌++◌, length, filter, fold, Result, Ok, Err, Option, Some, None, IsSome, is_some, is_none, unwrap_or, find}
use Rattle.std.specs.List.{filter_map, list_any, list_all}
use Rattle.std.specs.Option.{option_map, option_and_then}
use Rattle.std.specs.FinMap as maps
use Rattle.sp_base.specs.Image.{ImageMap}
use Rattle.sp_expr.specs.declared.refusal.ExprRefusal.{ExprRefusal}
use Rattle.sp_expr.specs.Parsing.{outcome}
use Rattle.sp_expr.specs.Trees.{Spells, Tree, value_of}
use Rattle.sp_expr.specs.Undefined.{first_undefined}
use Rattle.sp_asm.specs.declared.listing.ItemKind.{ItemKind}
use Rattle.sp_asm.specs.declared.listing.ItemKind.TheVariants as item
use Rattle.sp_note.specs.declared.part.Listed.{Listed}
use Rattle.sp_note.specs.declared.part.Listed.TheVariants as listed
use Rattle.sp_note.specs.Parts.{Part, NoteLine, Expression, Stack, Byte, Word, Bytes, Routine, Start, Pre, Post, Reads, Changes, Ins, Outs, Depth, Assert, End}
use Rattle.sp_prog.specs.declared.area.Area.{Area}
use Rattle.sp_prog.specs.declared.area.AreaKind.{AreaKind}
use Rattle.sp_prog.specs.declared.area.AreaKind.TheVariants as kind
use Rattle.sp_unit.specs.declared.refusal.UnitKind.{UnitKind}
use Rattle.sp_unit.specs.declared.refusal.UnitKind.TheVariants.{NoStack, Stray, Unknown, Clash, OutsideRoutine, NotHere, TooMany}
use Rattle.sp_unit.specs.Lines.{Entry, Statement, Annotation, line_of, is_instr, is_routine_part, is_assert_part, is_start_part, is_instruction, is_note, is_end, is_start, header, inside, Place, Outside, InHeader, InBody, place_after}
use Rattle.sp_unit.specs.Resolution.{Meanings, both, condition}
use Rattle.sp_unit.specs.Words.{has_word}

-- ---- What a source says

-- its image, the numbers of its names, what its expressions stand for, and its annotation lines
pub record Source : Type 0 where
  pub image : ImageMap
  pub names : List ℕ → Option ℕ
  pub value : Expression → Option ℕ
  pub notes : List NoteLine

abbrev pub number_in : Result ℕ ExprRefusal → Option ℕ
number_in (Ok n) = Some n
number_in (Err refusal) = None

-- an expression stands for the value of its tree; none where a name has no value or a divisor is zero
abbrev pub AreValues : (List ℕ → Option ℕ) → (Expression → Option ℕ) → Type 0
AreValues names value = (e : Expression) (t : Tree) → Spells e t → value e ≡ number_in (outcome (first_undefined names e) (value_of names 0 t))

abbrev pub area : List ℕ → AreaKind → ℕ → ℕ → Area
area name kind addr len = record { name = name; kind = kind; addr = addr; len = len }

-- the area that a line declares, with 0 for what has no value
abbrev pub area_by : (Expression → Option ℕ) → Part → Option Area
area_by value (Byte name addr) = Some (area name kind.Byte (unwrap_or (value addr) 0) 1)
area_by value (Word name addr) = Some (area name kind.Word (unwrap_or (value addr) 0) 2)
area_by value (Bytes name addr len) = Some (area name kind.Bytes (unwrap_or (value addr) 0) (unwrap_or (value len) 0))
area_by value _ = None

-- the first of two that there is
abbrev pub or_else : {A : Type 0} → Option A → Option A → Option A
or_else (Some x) other = Some x
or_else None other = other

-- the first that there is of elements
abbrev pub first_of : {A B : Type 0} → (A → Option B) → List A → Option B
first_of f [] = None
first_of f (x ∷ xs) = or_else (f x) (first_of f xs)

-- the areas that lines declare
abbrev pub areas_by : (Expression → Option ℕ) → List NoteLine → List Area
areas_by value notes = filter_map (λ n. area_by value n.part) notes

-- the first area of a name
abbrev pub area_of : Source → List ℕ → Option Area
area_of s name = find (λ (a : Area). bytes_eq a.name name) (areas_by s.value s.notes)

-- what names mean
abbrev pub meanings : Source → Meanings
meanings s = record { areas = area_of s; names = s.names }

-- the stack region of a line
abbrev pub stack_by : Part → Option (Expression × Expression)
stack_by (Stack first last) = Some (first, last)
stack_by _ = None

-- that of the first `stack` line
abbrev pub stack_line : Source → Option (Expression × Expression)
stack_line s = first_of (λ (n : NoteLine). stack_by n.part) s.notes

-- a region, where both of its ends have numbers
abbrev pub region : Option ℕ → Option ℕ → Option (ℕ × ℕ)
region = both (λ first last. (first, last))

abbrev pub stack_of : Source → Option (ℕ × ℕ)
stack_of s = option_and_then (λ line. region (s.value line.0) (s.value line.1)) (stack_line s)

-- the image has a byte at one of these addresses, from one through another
abbrev pub meets : ImageMap → ℕ → ℕ → Bool
meets image first last = list_any (λ a. nat_le first a && nat_le a last) (maps.keys image)

-- ---- Stray: a line that doesn't belong where it stands

-- a line of a header outside a header, or a second one of a kind that may stand once
abbrev pub is_stray_in : (Part → Bool) → Place → Bool
is_stray_in again (InHeader lines) = list_any (is_note again) lines
is_stray_in again Outside = true
is_stray_in again (InBody lines more) = true

-- a line of a header that may stand twice, outside a header
abbrev pub is_stray_line : Place → Bool
is_stray_line (InHeader lines) = false
is_stray_line Outside = true
is_stray_line (InBody lines more) = true

-- an assertion outside a routine, or without an instruction of its routine below
abbrev pub is_stray_assert : Place → List Entry → Bool
is_stray_assert Outside below = true
is_stray_assert (InHeader lines) below = not (list_any is_instruction (inside below))
is_stray_assert (InBody lines more) below = not (list_any is_instruction (inside below))

-- a routine in a routine, or without an `end` below
abbrev pub is_stray_routine : Place → List Entry → Bool
is_stray_routine Outside below = not (list_any is_end below)
is_stray_routine (InHeader lines) below = true
is_stray_routine (InBody lines more) below = true

abbrev pub is_outside : Place → Bool
is_outside Outside = true
is_outside (InHeader lines) = false
is_outside (InBody lines more) = false

abbrev pub is_stack_part : Part → Bool
is_stack_part part = is_some (stack_by part)

abbrev pub is_depth_part : Part → Bool
is_depth_part (Depth n) = true
is_depth_part _ = false

-- a `stack` line stands above
abbrev pub has_stack : List Entry → Bool
has_stack above = list_any (is_note is_stack_part) above

abbrev pub is_stray : List Entry → Place → Part → List Entry → Bool
is_stray above place (Stack first last) below = has_stack above
is_stray above place (Byte name addr) below = false
is_stray above place (Word name addr) below = false
is_stray above place (Bytes name addr len) below = false
is_stray above place (Routine name) below = is_stray_routine place below
is_stray above place Start below = is_stray_in is_start_part place
is_stray above place (Depth n) below = is_stray_in is_depth_part place
is_stray above place (Assert note) below = is_stray_assert place below
is_stray above place End below = is_outside place
is_stray above place _ below = is_stray_line place

-- ---- Unknown: a name without meaning, or an expression without value

abbrev pub has_value : Source → Expression → Bool
has_value s e = is_some (s.value e)

-- an item of a list is an area, where it is none of registers and flags
abbrev pub is_listed : Source → Listed → Bool
is_listed s (listed.Locs locs) = true
is_listed s (listed.Area name) = is_some (area_of s name)

-- the address of an instruction
abbrev pub address_at : Entry → Option ℕ
address_at (Statement i) = if is_instr i.kind then Some i.addr else None
address_at (Annotation n) = None

abbrev pub is_label_named : List ℕ → Option (List ℕ) → Bool
is_label_named name None = false
is_label_named name (Some label) = bytes_eq label name

-- this name is a label at an address
abbrev pub is_label : List ℕ → ℕ → Entry → Bool
is_label name addr (Statement i) = nat_eq i.addr addr && is_label_named name i.label
is_label name addr (Annotation n) = false

-- a routine's name is a label among its lines, at its first instruction
abbrev pub is_entered : List ℕ → List Entry → Bool
is_entered name lines = unwrap_or (option_map (λ addr. list_any (is_label name addr) lines) (first_of address_at lines)) false

abbrev pub is_unknown : Source → Part → List Entry → Bool
is_unknown s (Stack first last) below = not (has_value s first && has_value s last)
is_unknown s (Byte name addr) below = not (has_value s addr)
is_unknown s (Word name addr) below = not (has_value s addr)
is_unknown s (Bytes name addr len) below = not (has_value s addr && has_value s len)
is_unknown s (Routine name) below = not (is_entered name (inside below))
is_unknown s Start below = false
is_unknown s (Pre note) below = is_none (condition (meanings s) [] note)
is_unknown s (Post note) below = is_none (condition (meanings s) [] note)
is_unknown s (Reads items) below = not (list_all (is_listed s) items)
is_unknown s (Changes items) below = not (list_all (is_listed s) items)
is_unknown s (Ins ports) below = not (list_all (has_value s) ports)
is_unknown s (Outs ports) below = not (list_all (has_value s) ports)
is_unknown s (Depth n) below = not (has_value s n)
is_unknown s (Assert note) below = is_none (condition (meanings s) [] note)
is_unknown s End below = false

-- ---- Clash: numbers out of their ranges, and regions that meet

abbrev pub stack_clashes : ImageMap → ℕ → ℕ → Bool
stack_clashes image first last = nat_lt last first || (nat_lt 65534 last || meets image first last)

-- an area has a cell in the stack region
abbrev pub meets_stack : Area → Option (ℕ × ℕ) → Bool
meets_stack a None = false
meets_stack a (Some region) = nat_le region.0 region.1 && (nat_le a.addr region.1 && nat_lt region.0 (a.addr + a.len))

-- the area that a line declares
abbrev pub area_in : Source → Entry → Option Area
area_in s (Statement i) = None
area_in s (Annotation n) = area_by s.value n.part

-- a line above declares the name
abbrev pub is_declared : Source → List Entry → List ℕ → Bool
is_declared s above name = list_any (λ (a : Area). bytes_eq a.name name) (filter_map (area_in s) above)

abbrev pub area_clashes : Source → List Entry → Area → Bool
area_clashes s above a = is_declared s above a.name || (nat_eq a.len 0 || (nat_lt 65536 (a.addr + a.len) || meets_stack a (stack_of s)))

-- a port over 255
abbrev pub is_over : Source → Expression → Bool
is_over s e = nat_lt 255 (unwrap_or (s.value e) 0)

-- an area has a cell where the image has a byte
abbrev pub meets_image : ImageMap → Area → Bool
meets_image image a = nat_lt 0 a.len && meets image a.addr (a.addr + a.len - 1)

abbrev pub changes_image : Source → Listed → Bool
changes_image s (listed.Locs locs) = false
changes_image s (listed.Area name) = unwrap_or (option_map (meets_image s.image) (area_of s name)) false

abbrev pub clashes : Source → List Entry → Part → Bool
clashes s above (Stack first last) = stack_clashes s.image (unwrap_or (s.value first) 0) (unwrap_or (s.value last) 0)
clashes s above (Changes items) = list_any (changes_image s) items
clashes s above (Ins ports) = list_any (is_over s) ports
clashes s above (Outs ports) = list_any (is_over s) ports
clashes s above part = unwrap_or (option_map (area_clashes s above) (area_by s.value part)) false

-- ---- OutsideRoutine and NotHere

-- DB, DW, DS and ORG
abbrev pub is_data : ItemKind → Bool
is_data item.Bytes = true
is_data item.Space = true
is_data item.Org = true
is_data _ = false

-- a line of the header in which a line stands says that it is a start routine, above or below
abbrev pub in_start : Place → List Entry → Bool
in_start (InHeader lines) below = list_any is_start lines || list_any is_start (header below)
in_start (InBody lines more) below = list_any is_start lines
in_start Outside below = false

-- no instruction of the routine stands above
abbrev pub is_first : Place → Bool
is_first (InBody lines more) = not (list_any is_instruction more)
is_first (InHeader lines) = true
is_first Outside = true

-- an assertion at the first instruction of a start routine
abbrev pub is_first_in_start : Place → Bool
is_first_in_start (InHeader lines) = list_any is_start lines
is_first_in_start (InBody lines more) = list_any is_start lines && not (list_any is_instruction more)
is_first_in_start Outside = false

abbrev pub is_not_here : Place → Part → List Entry → Bool
is_not_here place (Pre note) below = has_word note
is_not_here place (Post note) below = in_start place below || has_word note
is_not_here place (Assert note) below = is_first_in_start place
is_not_here place _ below = false

-- ---- TooMany

abbrev pub is_pre_part : Part → Bool
is_pre_part (Pre note) = true
is_pre_part _ = false

abbrev pub is_post_part : Part → Bool
is_post_part (Post note) = true
is_post_part _ = false

abbrev pub is_area_part : Part → Bool
is_area_part (Byte name addr) = true
is_area_part (Word name addr) = true
is_area_part (Bytes name addr len) = true
is_area_part _ = false

-- how many of these lines are annotations of some parts
abbrev pub count : (Part → Bool) → List Entry → ℕ
count test lines = length (filter (is_note test) lines)

abbrev pub count_in_header : (Part → Bool) → Place → ℕ
count_in_header test (InHeader lines) = count test lines
count_in_header test (InBody lines more) = 0
count_in_header test Outside = 0

-- those after the last instruction of these lines
abbrev pub after_instruction : List Entry → List Entry
after_instruction lines = fold (λ kept e. if is_instruction e then [] else kept ++ e ∷ []) [] lines

-- how many assertions at the next instruction stand above
abbrev pub count_asserts : Place → ℕ
count_asserts (InBody lines more) = count is_assert_part (after_instruction more)
count_asserts (InHeader lines) = 0
count_asserts Outside = 0

abbrev pub is_too_many : List Entry → Place → Part → Bool
is_too_many above place (Routine name) = nat_le 1024 (count is_routine_part above)
is_too_many above place (Pre note) = nat_le 64 (count_in_header is_pre_part place)
is_too_many above place (Post note) = nat_le 64 (count_in_header is_post_part place)
is_too_many above place (Assert note) = nat_le 64 (count_asserts place)
is_too_many above place part = is_area_part part && nat_le 1024 (count is_area_part above)

-- ---- The first fault

-- how a statement breaks a rule: an instruction outside a routine, data or space inside one
abbrev pub statement_fault : Bool → ItemKind → Option UnitKind
statement_fault outside k =
    if is_instr k && outside then Some OutsideRoutine else (if is_data k && not outside then Some NotHere else None)

-- how an annotation line does: of several ways the first
abbrev pub note_fault : Source → List Entry → Place → Part → List Entry → Option UnitKind
note_fault s above place part below =
    if is_stray above place part below then Some Stray
    else (if is_unknown s part below then Some Unknown
    else (if clashes s above part then Some Clash
    else (if is_not_here place part below then Some NotHere
    else (if is_too_many above place part then Some TooMany else None))))

-- how a line does, with the lines above it and below
abbrev pub fault : Source → List Entry → Entry → List Entry → Option UnitKind
fault s above (Statement i) below = statement_fault (is_outside (place_after above)) i.kind
fault s above (Annotation n) below = note_fault s above (place_after above) n.part below

-- no line of these breaks a rule
abbrev pub AreRight : Source → List Entry → Type 0
AreRight s entries = (above below : List Entry) (e : Entry) → entries ≡ above ++ e ∷ below → fault s above e below ≡ None

-- the lowest line that breaks a rule is this one, and it does so in this way
pub record IsFirstFault (s : Source) (entries : List Entry) (line : ℕ) (kind : UnitKind) : Type 0 where
  pub above : List Entry
  pub broken : Entry
  pub below : List Entry
  pub whole : entries ≡ above ++ broken ∷ below
  pub at : line_of broken ≡ line
  pub breaks : fault s above broken below ≡ Some kind
  pub first : (front back : List Entry) (e : Entry) → above ≡ front ++ e ∷ back → fault s front e (back ++ broken ∷ below) ≡ None

-- a source with these lines keeps the rules
pub record KeepsRules (s : Source) (entries : List Entry) : Type 0 where
  pub has_stack : IsSome (stack_line s)
  pub right : AreRight s entries

-- why a source with these lines has no unit: without a `stack` line line 0, else the lowest line that breaks a rule
abbrev pub IsCause : Source → List Entry → ℕ → UnitKind → Type 0
IsCause s entries line kind =
    ((line ≡ 0) × (kind ≡ NoStack) × (stack_line s ≡ None)) ⊎ (IsSome (stack_line s) × IsFirstFault s entries line kind)

-- a source has one cause at most, and none where it has a `stack` line and all lines are right
pub record SourcesHaveOneCause : Type 0 where
  pub one : (s : Source) (entries : List Entry) (line there : ℕ) (kind other : UnitKind) → IsCause s entries line kind → IsCause s entries there other → (line ≡ there) × (kind ≡ other)
  pub apart : (s : Source) (entries : List Entry) (line : ℕ) (kind : UnitKind) → KeepsRules s entries → ¬ IsCause s entries line kind
