-- The texts that commands print (this project's own).
use Rattle.std.specs.Prelude.{ℕ, List, [], ◌∷◌, ◌++◌, codes, decimal}
use Rattle.std.specs.Fmt.{signed_decimal}
use Rattle.sp_words.specs.Annotations.{location_name}
use Rattle.sp_lex.specs.declared.refusal.TextKind.{TextKind}
use Rattle.sp_lex.specs.declared.refusal.TextKind.TheVariants as text
use Rattle.sp_asm.specs.declared.refusal.AsmKind.{AsmKind}
use Rattle.sp_asm.specs.declared.refusal.AsmKind.TheVariants as asm
use Rattle.sp_note.specs.declared.refusal.NoteKind.{NoteKind}
use Rattle.sp_note.specs.declared.refusal.NoteKind.TheVariants as note
use Rattle.sp_unit.specs.declared.refusal.UnitKind.{UnitKind}
use Rattle.sp_unit.specs.declared.refusal.UnitKind.TheVariants as unit
use Rattle.sp_struct.specs.declared.refusal.StructKind.{StructKind}
use Rattle.sp_struct.specs.declared.refusal.StructKind.TheVariants as structure
use Rattle.sp_flow.specs.declared.refusal.FlowKind.{FlowKind}
use Rattle.sp_flow.specs.declared.refusal.FlowKind.TheVariants as flow
use Rattle.sp_flow.specs.declared.refusal.Spot.{Spot}
use Rattle.sp_flow.specs.declared.refusal.Spot.TheVariants as spot
use Rattle.sp_run.specs.Texts.{four_digits}
use Rattle.sp_hex.specs.Hex.{two_digits}
use Rattle.sp_hex.specs.declared.refusal.HexKind.{HexKind}
use Rattle.sp_hex.specs.declared.refusal.HexKind.TheVariants as hex
use Rattle.sp_cli.specs.declared.refusal.Input.{Input}
use Rattle.sp_cli.specs.declared.refusal.Input.TheVariants.{Source, Scripts, Image}
use Rattle.sp_cli.specs.declared.refusal.Refusal.{Refusal}
use Rattle.sp_cli.specs.declared.refusal.Refusal.TheVariants as refusal

-- a line, with its line feed
abbrev pub line : List ℕ → List ℕ
line text = text ++ 10 ∷ []

abbrev pub usage_text : List ℕ
usage_text = line (codes "usage: space8080 verify SRC SCRIPTS IMG | asm SRC IMG | check SRC | conds SRC | run IMG | trial SRC NAME | gen N")

abbrev pub input_name : Input → List ℕ
input_name Source = codes "source"
input_name Scripts = codes "scripts"
input_name Image = codes "image"

abbrev pub text_kind : TextKind → List ℕ
text_kind text.LongLine = codes "LongLine"
text_kind text.BadByte = codes "BadByte"
text_kind text.OpenQuote = codes "OpenQuote"
text_kind text.BadNumber = codes "BadNumber"

abbrev pub asm_kind : AsmKind → List ℕ
asm_kind asm.Syntax = codes "Syntax"
asm_kind asm.TooDeep = codes "TooDeep"
asm_kind asm.Duplicate = codes "Duplicate"
asm_kind asm.Later = codes "Later"
asm_kind asm.Undefined = codes "Undefined"
asm_kind asm.ZeroDivisor = codes "ZeroDivisor"
asm_kind asm.Range = codes "Range"
asm_kind asm.PastEnd = codes "PastEnd"
asm_kind asm.Overlap = codes "Overlap"

abbrev pub note_kind : NoteKind → List ℕ
note_kind note.Syntax = codes "Syntax"
note_kind note.TooDeep = codes "TooDeep"
note_kind note.Sort = codes "Sort"
note_kind note.Wide = codes "Wide"

abbrev pub unit_kind : UnitKind → List ℕ
unit_kind unit.NoStack = codes "NoStack"
unit_kind unit.Stray = codes "Stray"
unit_kind unit.Unknown = codes "Unknown"
unit_kind unit.Clash = codes "Clash"
unit_kind unit.OutsideRoutine = codes "OutsideRoutine"
unit_kind unit.NotHere = codes "NotHere"
unit_kind unit.TooMany = codes "TooMany"

abbrev pub struct_kind : StructKind → List ℕ
struct_kind structure.JumpOut = codes "JumpOut"
struct_kind structure.FallsOff = codes "FallsOff"
struct_kind structure.CallOut = codes "CallOut"
struct_kind structure.Recursion = codes "Recursion"
struct_kind structure.Computed = codes "Computed"
struct_kind structure.StackPointer = codes "StackPointer"
struct_kind structure.Unreached = codes "Unreached"
struct_kind (structure.Depth after other) = codes "Depth " ++ signed_decimal after ++ codes " " ++ signed_decimal other
struct_kind structure.PopsReturn = codes "PopsReturn"
struct_kind structure.OverDepth = codes "OverDepth"
struct_kind structure.NoSlot = codes "NoSlot"
struct_kind structure.UncutLoop = codes "UncutLoop"
struct_kind structure.ReturnInStart = codes "ReturnInStart"
struct_kind structure.CodeWritten = codes "CodeWritten"

-- a location by its name, a cell by its address
abbrev pub spot_text : Spot → List ℕ
spot_text (spot.Loc x) = location_name x
spot_text (spot.Cell cell) = four_digits cell

abbrev pub flow_kind : FlowKind → List ℕ
flow_kind (flow.Uses s) = codes "Uses " ++ spot_text s
flow_kind (flow.Writes cell) = codes "Writes " ++ four_digits cell
flow_kind (flow.Port port) = codes "Port " ++ two_digits port
flow_kind (flow.CallsReads s) = codes "CallsReads " ++ spot_text s

-- the kind of a refusal of the text of an image, after its line where it has one
abbrev pub image_kind : ℕ → HexKind → List ℕ
image_kind at hex.BadRecord = decimal at ++ codes " BadRecord"
image_kind at hex.BadSum = decimal at ++ codes " BadSum"
image_kind at hex.Overlap = decimal at ++ codes " Overlap"
image_kind at hex.AfterEnd = decimal at ++ codes " AfterEnd"
image_kind at hex.NoEnd = codes "NoEnd"

abbrev pub refusal_text : Refusal → List ℕ
refusal_text (refusal.Missing input) = line (codes "refused Missing " ++ input_name input)
refusal_text (refusal.TooLarge input) = line (codes "refused TooLarge " ++ input_name input)
refusal_text refusal.NotBuilt = line (codes "refused NotBuilt")
refusal_text (refusal.Open name number) = line (codes "refused Open " ++ name ++ codes "." ++ decimal number)
refusal_text (refusal.Text at kind) = line (codes "refused Text " ++ decimal at.0 ++ codes " " ++ text_kind kind)
refusal_text (refusal.Asm at kind) = line (codes "refused Asm " ++ decimal at.0 ++ codes " " ++ asm_kind kind)
refusal_text (refusal.Note at kind) = line (codes "refused Note " ++ decimal at.0 ++ codes " " ++ note_kind kind)
refusal_text (refusal.Unit at kind) = line (codes "refused Unit " ++ decimal at.0 ++ codes " " ++ unit_kind kind)
refusal_text (refusal.Struct at kind) = line (codes "refused Struct " ++ decimal at.0 ++ codes " " ++ struct_kind kind)
refusal_text (refusal.Flow at kind) = line (codes "refused Flow " ++ decimal at.0 ++ codes " " ++ flow_kind kind)
refusal_text (refusal.Image at kind) = line (codes "refused Image " ++ image_kind at.0 kind)

-- how many routines and conditions there are, and how many of these were true by simplification or by a script
abbrev pub accepted_text : ℕ → ℕ → ℕ → ℕ → List ℕ
accepted_text routines conditions simplified scripted =
    line (codes "accepted" ++ codes " routines=" ++ decimal routines ++ codes " conditions=" ++ decimal conditions ++ codes " simplified=" ++ decimal simplified ++ codes " scripted=" ++ decimal scripted)

-- how many bytes an image has, and how many names its source
abbrev pub assembled_text : ℕ → ℕ → List ℕ
assembled_text bytes names = line (codes "assembled" ++ codes " bytes=" ++ decimal bytes ++ codes " names=" ++ decimal names)

-- how many routines a unit has, and how many instructions these have
abbrev pub sound_text : ℕ → ℕ → List ℕ
sound_text routines instructions =
    line (codes "sound" ++ codes " routines=" ++ decimal routines ++ codes " instructions=" ++ decimal instructions)

-- an evaluation was given up, where it passed its greatest number of nodes
abbrev pub too_long_text : ℕ → List ℕ
too_long_text count = line (codes "too long " ++ decimal count)
