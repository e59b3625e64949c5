-- The unit of a source (this project's own).
use Rattle.std.specs.Prelude.{◌≡◌, ℕ, if◌then◌else◌, List, [], ◌∷◌, ◌++◌, map, flat_map, fold, slice_get, Option, Some, None, unwrap_or, IsPermutation}
use Rattle.std.specs.List.{filter_map, list_any, AllZip}
use Rattle.std.specs.List.Sorted.{IsStrictlyIncreasing}
use Rattle.std.specs.Option.{option_map, option_and_then}
use Rattle.sp_base.specs.declared.locs.Locs.{Locs}
use Rattle.sp_base.specs.Locs as locations
use Rattle.sp_isa.specs.declared.instr.Instr.{Instr}
use Rattle.sp_asm.specs.Meanings.{each_once}
use Rattle.sp_asm.specs.declared.listing.Item.{Item}
use Rattle.sp_asm.specs.declared.listing.ItemKind.{ItemKind}
use Rattle.sp_asm.specs.declared.listing.ItemKind.TheVariants as kind
use Rattle.sp_logic.specs.View.{note_of}
use Rattle.sp_note.specs.declared.part.Listed.{Listed}
use Rattle.sp_note.specs.declared.part.Listed.TheVariants as listed
use Rattle.sp_note.specs.Parts as parts
use Rattle.sp_note.specs.Parts.{Part, NoteLine, Expression}
use Rattle.sp_note.specs.RawNotes.{RawNote}
use Rattle.sp_prog.specs.declared.area.Area.{Area}
use Rattle.sp_prog.specs.declared.routine.Lists.{Lists}
use Rattle.sp_prog.specs.declared.routine.Noted.{Noted}
use Rattle.sp_prog.specs.declared.routine.Routine.{Routine}
use Rattle.sp_prog.specs.declared.routine.Stmt.{Stmt}
use Rattle.sp_prog.specs.Program.{Program}
use Rattle.sp_prog.specs.Rules.{address_of}
use Rattle.sp_unit.specs.Lines.{Entry, Statement, Annotation, note_in, is_start, is_instruction, header, inside}
use Rattle.sp_unit.specs.Faults.{Source, KeepsRules, areas_by, meanings, stack_of}
use Rattle.sp_unit.specs.Resolution.{condition}

-- ---- Annotations

-- an annotation as its line has it, with the number of the line
pub record Raw : Type 0 where
  pub line : ℕ
  pub note : RawNote

-- it stands for this annotation of a unit
pub record IsNoted (s : Source) (raw : Raw) (n : Noted) : Type 0 where
  pub line : n.line.0 ≡ raw.line
  pub note : condition (meanings s) [] raw.note ≡ Some (note_of n.note)

abbrev pub pre_in : Part → Option RawNote
pre_in (parts.Pre note) = Some note
pre_in _ = None

abbrev pub post_in : Part → Option RawNote
post_in (parts.Post note) = Some note
post_in _ = None

abbrev pub assert_in : Part → Option RawNote
assert_in (parts.Assert note) = Some note
assert_in _ = None

-- the annotations of a kind among lines
abbrev pub raws : (Part → Option RawNote) → List Entry → List Raw
raws said lines = filter_map (λ (n : NoteLine). option_map (λ note. record { line = n.line; note = note }) (said n.part)) (filter_map note_in lines)

-- ---- Lists

abbrev pub reads_in : Part → List Listed
reads_in (parts.Reads items) = items
reads_in _ = []

abbrev pub changes_in : Part → List Listed
changes_in (parts.Changes items) = items
changes_in _ = []

abbrev pub ins_in : Part → List Expression
ins_in (parts.Ins ports) = ports
ins_in _ = []

abbrev pub outs_in : Part → List Expression
outs_in (parts.Outs ports) = ports
outs_in _ = []

-- what the lists of a kind name among lines, in order
abbrev pub named_in : {A : Type 0} → (Part → List A) → List Entry → List A
named_in named lines = flat_map (λ (n : NoteLine). named n.part) (filter_map note_in lines)

abbrev pub with_locs : Locs → Listed → Locs
with_locs locs (listed.Locs more) = locations.both locs more
with_locs locs (listed.Area name) = locs

abbrev pub area_name : Listed → Option (List ℕ)
area_name (listed.Locs locs) = None
area_name (listed.Area name) = Some name

-- the area of this name stands at this place among the areas
abbrev pub StandsAt : List Area → List ℕ → ℕ → Type 0
StandsAt areas name place = option_map (λ (a : Area). a.name) (slice_get areas place) ≡ Some name

-- all registers and flags that these items name, and each area once, in the order of first mention
pub record AreLists (areas : List Area) (items : List Listed) (lists : Lists) : Type 0 where
  pub locs : lists.locs ≡ fold with_locs locations.none items
  pub places : AllZip (StandsAt areas) (each_once (filter_map area_name items)) lists.areas

abbrev pub depth_in : Part → Option Expression
depth_in (parts.Depth n) = Some n
depth_in _ = None

-- the depth that lines give, 0 where none does
abbrev pub depth_of : Source → List Entry → ℕ
depth_of s lines = unwrap_or (option_and_then s.value (slice_get (filter_map (λ (n : NoteLine). depth_in n.part) (filter_map note_in lines)) 0)) 0

-- ---- Instructions

-- an instruction of a statement, with the assertions that stand between it and the instruction above
pub record Coded : Type 0 where
  pub item : Item
  pub instr : Instr
  pub asserts : List Raw

abbrev pub instr_in : Item → ItemKind → List Raw → List Coded
instr_in item (kind.Instr i) asserts = record { item = item; instr = i; asserts = asserts } ∷ []
instr_in item _ asserts = []

abbrev pub coded_at : List Raw → Entry → List Coded
coded_at asserts (Statement item) = instr_in item item.kind asserts
coded_at asserts (Annotation note) = []

-- the instructions of these lines, where these assertions stand above
abbrev pub coded : List Raw → List Entry → List Coded
coded asserts [] = []
coded asserts (e ∷ lines) = coded_at asserts e ++ coded (if is_instruction e then [] else asserts ++ raws assert_in (e ∷ [])) lines

pub record IsCoded (s : Source) (c : Coded) (stmt : Stmt) : Type 0 where
  pub line : stmt.line ≡ c.item.line
  pub address : stmt.addr ≡ c.item.addr
  pub instr : stmt.instr ≡ c.instr
  pub asserts : AllZip (IsNoted s) c.asserts stmt.asserts

-- ---- Routines

-- a `routine` line, with the lines below it
pub record Begun : Type 0 where
  pub name : List ℕ
  pub line : ℕ
  pub below : List Entry

abbrev pub begun_by : ℕ → Part → List Entry → List Begun
begun_by line (parts.Routine name) below = record { name = name; line = line; below = below } ∷ []
begun_by line _ below = []

abbrev pub begun_at : Entry → List Entry → List Begun
begun_at (Statement item) below = []
begun_at (Annotation n) below = begun_by n.line n.part below

-- the `routine` lines among these
abbrev pub begun : List Entry → List Begun
begun [] = []
begun (e ∷ below) = begun_at e below ++ begun below

-- the routine of a `routine` line: what its header says, and the instructions before its `end`
pub record IsRoutineOf (s : Source) (areas : List Area) (b : Begun) (r : Routine) : Type 0 where
  pub name : r.name ≡ b.name
  pub line : r.line.0 ≡ b.line
  pub start : r.start ≡ list_any is_start (header b.below)
  pub pre : AllZip (IsNoted s) (raws pre_in (header b.below)) r.pre
  pub post : AllZip (IsNoted s) (raws post_in (header b.below)) r.post
  pub reads : AreLists areas (named_in reads_in (header b.below)) r.reads
  pub changes : AreLists areas (named_in changes_in (header b.below)) r.changes
  pub ins : r.ins ≡ filter_map s.value (named_in ins_in (header b.below))
  pub outs : r.outs ≡ filter_map s.value (named_in outs_in (header b.below))
  pub depth : r.depth ≡ depth_of s (header b.below)
  pub code : AllZip (IsCoded s) (coded [] (inside b.below)) r.code

-- the unit of a source with these lines: there is a `stack` line, each line keeps the rules, and the unit has the source's
-- image, the region of that line, the areas of the lines in their order, and the routines of the lines by rising address
pub record IsUnitOf (s : Source) (entries : List Entry) (p : Program) : Type 0 where
  pub rules : KeepsRules s entries
  pub image : p.image ≡ s.image
  pub stack : stack_of s ≡ Some (p.first, p.last)
  pub areas : p.areas ≡ areas_by s.value s.notes
  pub found : List Routine
  pub each : AllZip (IsRoutineOf s p.areas) (begun entries) found
  pub routines : IsPermutation found p.routines
  pub rising : IsStrictlyIncreasing (map address_of p.routines)
