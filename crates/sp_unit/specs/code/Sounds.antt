-- What the code knows of lines that keep the rules.
use Rattle.std.specs.Prelude.{◌≡◌, ℕ, ◌<◌, true, false, List, [], Option, Some, IsSome}
use Rattle.std.specs.List.{list_any, list_all, AllByRecursion}
use Rattle.sp_note.specs.declared.part.Listed.{Listed}
use Rattle.sp_note.specs.Parts.{Part, Expression}
use Rattle.sp_note.specs.RawNotes.{RawNote}
use Rattle.sp_unit.specs.declared.noted.Point.{Point}
use Rattle.sp_unit.specs.declared.noted.Point.TheVariants as point
use Rattle.sp_unit.specs.declared.lists.Access.{Access}
use Rattle.sp_unit.specs.declared.lists.Access.TheVariants as access
use Rattle.sp_unit.specs.declared.ports.Direction.{Direction}
use Rattle.sp_unit.specs.declared.ports.Direction.TheVariants as direction
use Rattle.sp_unit.specs.Faults.{Source, is_listed, is_over, meanings}
use Rattle.sp_unit.specs.Lines.{Entry, Statement, Annotation, is_instr}
use Rattle.sp_unit.specs.Resolution.{condition}
use Rattle.sp_unit.specs.SourceUnits.{Raw, pre_in, post_in, assert_in, reads_in, changes_in, ins_in, outs_in}

-- what a part says to hold at a point
abbrev pub said_at : Point → Part → Option RawNote
said_at point.Entry = pre_in
said_at point.Return = post_in
said_at point.Next = assert_in

-- an annotation as its line has it
abbrev pub raw : ℕ → RawNote → Raw
raw line note = record { line = line; note = note }

-- what a part says to be read or changed
abbrev pub listed_by : Access → Part → List Listed
listed_by access.Reads = reads_in
listed_by access.Changes = changes_in

-- the ports that a part names
abbrev pub ports_by : Direction → Part → List Expression
ports_by direction.Ins = ins_in
ports_by direction.Outs = outs_in

-- the names of a part's annotation and lists have meanings, and its ports are bytes
pub record IsSoundPart (s : Source) (part : Part) : Type 0 where
  pub notes : (at : Point) (note : RawNote) → said_at at part ≡ Some note → IsSome (condition (meanings s) [] note)
  pub items : (by : Access) → list_all (is_listed s) (listed_by by part) ≡ true
  pub ports : (to : Direction) → list_any (is_over s) (ports_by to part) ≡ false

-- an instruction stands at an address
abbrev pub IsSound : Source → Entry → Type 0
IsSound s (Statement item) = is_instr item.kind ≡ true → item.addr < 65536
IsSound s (Annotation n) = IsSoundPart s n.part

abbrev pub AreSound : Source → List Entry → Type 0
AreSound s entries = AllByRecursion (IsSound s) entries
