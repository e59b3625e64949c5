-- The rules that look at one instruction, by name.
use Rattle.std.specs.Prelude.{◌≡◌, ◌≤◌, ℕ, ℤ, Option, Some}
use Rattle.sp_base.specs.declared.line.Line.{Line}
use Rattle.sp_graph.specs.Structure.{JumpsOut, FallsOff, CallsOut, Computes, MovesPointer, IsUnreached, PopsReturn, TakesTooMuch, ReturnsInStart, WritesCode, DiffersInDepth}
use Rattle.sp_prog.specs.Program.{Program}
use Rattle.sp_struct.specs.declared.differences.Difference.{Difference}
use Rattle.sp_struct.specs.declared.rules.Rule.{Rule}
use Rattle.sp_struct.specs.declared.rules.Rule.TheVariants as rule

-- a rule is broken on a line
abbrev pub IsBroken : Program → Rule → ℕ → Type 0
IsBroken p rule.JumpOut = JumpsOut p
IsBroken p rule.FallsOff = FallsOff p
IsBroken p rule.CallOut = CallsOut p
IsBroken p rule.Computed = Computes p
IsBroken p rule.StackPointer = MovesPointer p
IsBroken p rule.Unreached = IsUnreached p
IsBroken p rule.PopsReturn = PopsReturn p
IsBroken p rule.OverDepth = TakesTooMuch p
IsBroken p rule.ReturnInStart = ReturnsInStart p
IsBroken p rule.CodeWritten = WritesCode p

-- the lowest of these lines, none where there is none
pub record IsLowestLine (Q : ℕ → Type 0) (best : Option Line) : Type 0 where
  pub found : (line : Line) → best ≡ Some line → Q line.0
  pub least : (line : ℕ) → Q line → (b : Line) × (best ≡ Some b) × (b.0 ≤ line)

-- the lowest line on which depths differ, with two that do; none where there is none
pub record IsLowestDifference (p : Program) (best : Option Difference) : Type 0 where
  pub found : (d : Difference) → best ≡ Some d → DiffersInDepth p d.line.0 d.after d.other
  pub least : (line : ℕ) (a b : ℤ) → DiffersInDepth p line a b → (d : Difference) × (best ≡ Some d) × (d.line.0 ≤ line)
