-- What annotation lines say (this project's own).
use Rattle.std.specs.Prelude.{ℕ, List, map}
use Rattle.sp_expr.specs.declared.word.Word as expr
use Rattle.sp_note.specs.declared.part.Listed.{Listed}
use Rattle.sp_note.specs.declared.part.Part as declared
use Rattle.sp_note.specs.declared.part.Part.TheVariants as part
use Rattle.sp_note.specs.declared.part.NoteLine as declared_line
use Rattle.sp_note.specs.RawNotes.{RawNote, raw_of}

-- the words of an expression of the assembler
abbrev pub Expression : Type 0
Expression = List expr.Word

pub data Part : Type 0 where
  -- stack FIRST, LAST
  Stack : Expression → Expression → Part
  -- byte NAME, ADDR
  Byte : List ℕ → Expression → Part
  -- word NAME, ADDR
  Word : List ℕ → Expression → Part
  -- bytes NAME, ADDR, LEN
  Bytes : List ℕ → Expression → Expression → Part
  -- routine NAME
  Routine : List ℕ → Part
  -- start
  Start : Part
  -- pre P
  Pre : RawNote → Part
  -- post P
  Post : RawNote → Part
  -- reads LIST
  Reads : List Listed → Part
  -- changes LIST
  Changes : List Listed → Part
  -- ins PORTS
  Ins : List Expression → Part
  -- outs PORTS
  Outs : List Expression → Part
  -- depth N
  Depth : Expression → Part
  -- assert P
  Assert : RawNote → Part
  -- end
  End : Part

-- an annotation line, by its number
pub record NoteLine : Type 0 where
  pub line : ℕ
  pub part : Part

-- what a part of the code stands for
abbrev pub part_of : declared.Part → Part
part_of (part.Stack first last) = Stack first last
part_of (part.Byte name addr) = Byte name addr
part_of (part.Word name addr) = Word name addr
part_of (part.Bytes name addr len) = Bytes name addr len
part_of (part.Routine name) = Routine name
part_of part.Start = Start
part_of (part.Pre note) = Pre (raw_of note)
part_of (part.Post note) = Post (raw_of note)
part_of (part.Reads items) = Reads items
part_of (part.Changes items) = Changes items
part_of (part.Ins ports) = Ins ports
part_of (part.Outs ports) = Outs ports
part_of (part.Depth n) = Depth n
part_of (part.Assert note) = Assert (raw_of note)
part_of part.End = End

-- what a line of the code stands for, and lines of it
abbrev pub line_of : declared_line.NoteLine → NoteLine
line_of l = record { line = l.line.0; part = part_of l.part }

abbrev pub lines_of : List declared_line.NoteLine → List NoteLine
lines_of ls = map line_of ls
