-- Which rule on structure counts first (this project's own).
use Rattle.std.specs.Prelude.{◌≡◌, ◌⊎◌, ◌<◌, ◌≤◌, ◌↔◌, ℕ}
use Rattle.sp_graph.specs.Structure.{JumpsOut, FallsOff, CallsOut, Recurs, Computes, MovesPointer, IsUnreached, DiffersInDepth, PopsReturn, PassesDepth, HasNoSlot, IsUncut, ReturnsInStart, WritesCode, IsStructured}
use Rattle.sp_prog.specs.Program.{Program}
use Rattle.sp_struct.specs.declared.refusal.StructKind.{StructKind}
use Rattle.sp_struct.specs.declared.refusal.StructKind.TheVariants as kind

-- a rule is broken on a line
abbrev pub BreaksRule : Program → StructKind → ℕ → Type 0
BreaksRule p kind.JumpOut line = JumpsOut p line
BreaksRule p kind.FallsOff line = FallsOff p line
BreaksRule p kind.CallOut line = CallsOut p line
BreaksRule p kind.Recursion line = Recurs p line
BreaksRule p kind.Computed line = Computes p line
BreaksRule p kind.StackPointer line = MovesPointer p line
BreaksRule p kind.Unreached line = IsUnreached p line
BreaksRule p (kind.Depth a b) line = DiffersInDepth p line a b
BreaksRule p kind.PopsReturn line = PopsReturn p line
BreaksRule p kind.OverDepth line = PassesDepth p line
BreaksRule p kind.NoSlot line = HasNoSlot p line
BreaksRule p kind.UncutLoop line = IsUncut p line
BreaksRule p kind.ReturnInStart line = ReturnsInStart p line
BreaksRule p kind.CodeWritten line = WritesCode p line

-- the order of kinds
abbrev pub rank : StructKind → ℕ
rank kind.JumpOut = 0
rank kind.FallsOff = 1
rank kind.CallOut = 2
rank kind.Recursion = 3
rank kind.Computed = 4
rank kind.StackPointer = 5
rank kind.Unreached = 6
rank (kind.Depth a b) = 7
rank kind.PopsReturn = 8
rank kind.OverDepth = 9
rank kind.NoSlot = 10
rank kind.UncutLoop = 11
rank kind.ReturnInStart = 12
rank kind.CodeWritten = 13

-- the first kind that is broken anywhere, and its lowest line
pub record IsRefusedAt (p : Program) (line : ℕ) (k : StructKind) : Type 0 where
  pub broken : BreaksRule p k line
  pub first : (other : StructKind) (there : ℕ) → BreaksRule p other there → (rank k < rank other) ⊎ ((rank k ≡ rank other) × (line ≤ there))

-- a unit is right where no kind is broken, and else has one line and one kind
pub record HasOneRefusal (p : Program) : Type 0 where
  pub structured : IsStructured p ↔ ((k : StructKind) (line : ℕ) → BreaksRule p k line → ⊥)
  pub one : (line there : ℕ) (k other : StructKind) → IsRefusedAt p line k → IsRefusedAt p there other → (line ≡ there) × (rank k ≡ rank other)
