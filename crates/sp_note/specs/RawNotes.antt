-- Annotations as their lines have them, with names in place of addresses (this project's own).
use Rattle.std.specs.Prelude.{ℕ, Bool, List}
use Rattle.sp_base.specs.declared.location.Loc.{Loc}
use Rattle.sp_model.specs.Note.{Moment, RegisterPair, Operator, Comparison, Connective, Quantifier}
use Rattle.sp_logic.specs.declared.raw_note.RawNote as declared
use Rattle.sp_logic.specs.declared.raw_note.RawNote.TheVariants as raw
use Rattle.sp_logic.specs.View.{moment_of, pair_of, operator_of, comparison_of, connective_of, quantifier_of}

-- numbers and truth values stand in one tree, whether or not each is in its place
pub data RawNote : Type 0 where
  -- 40
  Literal : ℕ → RawNote
  -- true, false
  Constant : Bool → RawNote
  -- A, CY~
  Location : Moment → Loc → RawNote
  -- HL, BC~
  Pair : Moment → RegisterPair → RawNote
  -- mem[x], mem~[x]
  Cell : Moment → RawNote → RawNote
  -- STKk
  StackWord : ℕ → RawNote
  -- total(x, y), total~(x, y)
  Total : Moment → RawNote → RawNote → RawNote
  -- a bound name, a name of an area or of the assembler, as CNT or CNT~
  Named : Moment → List ℕ → RawNote
  -- BUF[x], BUF~[x]
  Element : Moment → List ℕ → RawNote → RawNote
  -- addr(NAME)
  Address : List ℕ → RawNote
  -- len(NAME)
  Length : List ℕ → RawNote
  -- -x
  Negative : RawNote → RawNote
  -- par(x)
  Parity : RawNote → RawNote
  -- x + y, band(x, y)
  Operate : Operator → RawNote → RawNote → RawNote
  -- x <= y
  Compare : Comparison → RawNote → RawNote → RawNote
  -- not p
  Not : RawNote → RawNote
  -- p -> q
  Connect : Connective → RawNote → RawNote → RawNote
  -- for all I in x..y: p
  Quantify : Quantifier → List ℕ → RawNote → RawNote → RawNote → RawNote

-- the annotation that a tree of the code stands for
abbrev pub raw_of : declared.RawNote → RawNote
raw_of (raw.Literal n) = Literal n
raw_of (raw.Constant truth) = Constant truth
raw_of (raw.Location m x) = Location (moment_of m) x
raw_of (raw.Pair m p) = Pair (moment_of m) (pair_of p)
raw_of (raw.Cell' m at x) = Cell (moment_of m) (raw_of x)
raw_of (raw.StackWord k) = StackWord k
raw_of (raw.Total' m at x by y) = Total (moment_of m) (raw_of x) (raw_of y)
raw_of (raw.Named m name) = Named (moment_of m) name
raw_of (raw.Element' m name at x) = Element (moment_of m) name (raw_of x)
raw_of (raw.Address name) = Address name
raw_of (raw.Length name) = Length name
raw_of (raw.Negative' at x) = Negative (raw_of x)
raw_of (raw.Parity' at x) = Parity (raw_of x)
raw_of (raw.Operate' o at x by y) = Operate (operator_of o) (raw_of x) (raw_of y)
raw_of (raw.Compare' c at x by y) = Compare (comparison_of c) (raw_of x) (raw_of y)
raw_of (raw.Not' at x) = Not (raw_of x)
raw_of (raw.Connect' c at x by y) = Connect (connective_of c) (raw_of x) (raw_of y)
raw_of (raw.Quantify' q name at x by y to z) = Quantify (quantifier_of q) name (raw_of x) (raw_of y) (raw_of z)
