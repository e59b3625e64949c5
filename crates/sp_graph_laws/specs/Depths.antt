-- Depths that differ, and twins in which they don't (this project's own). Each routine is two instructions and RET.
use Rattle.std.specs.Prelude.{ℕ, ℤ, pos, false, [], ◌∷◌}
use Rattle.std.specs.FinMap as maps
use Rattle.sp_isa.specs.declared.instr.Cond.TheVariants as when
use Rattle.sp_isa.specs.declared.instr.Instr.{Instr}
use Rattle.sp_isa.specs.declared.instr.Instr.TheVariants.{Jcc, Ret, Push, Pop, Cmc}
use Rattle.sp_isa.specs.declared.instr.StackPair.TheVariants as stack
use Rattle.sp_prog.specs.declared.routine.Routine.{Routine}
use Rattle.sp_prog.specs.declared.routine.Stmt.{Stmt}
use Rattle.sp_prog.specs.Program.{Program, program}
use Rattle.sp_struct.specs.Examples.{cells, routine, second, stmt}
use Rattle.sp_struct.specs.Refusals.{BreaksRule}
use Rattle.sp_struct.specs.declared.refusal.StructKind.TheVariants as kind

-- RET on line 8, at address 2
abbrev pub last : Stmt
last = record { line = record { 0 = 8 }; addr = 2; instr = Ret; asserts = [] }

abbrev pub routine_of_three : Instr → Instr → Routine
routine_of_three i j = record (routine false 2 i []) { code = stmt i [] ∷ second j ∷ last ∷ [] }

abbrev pub three : Instr → Instr → Program
three i j = program (maps.from_sorted cells) 0x2300 0x23FF [] (routine_of_three i j ∷ [])

-- no depths differ
abbrev pub IsEven : Program → Type 0
IsEven p = (line : ℕ) (a b : ℤ) → BreaksRule p (kind.Depth a b) line → ⊥

-- PUSH and POP are even, and PUSH with no POP is seen at RET; CMC on one of two ways is even, and PUSH there is seen at PUSH,
-- since the shorter way counts for RET
pub record DepthsByExample : Type 0 where
  pub balanced : IsEven (three (Push stack.B) (Pop stack.B))
  pub pushed : BreaksRule (three (Push stack.B) Cmc) (kind.Depth (pos 2) (pos 0)) 8
  pub passed : IsEven (three (Jcc when.Z 2) Cmc)
  pub pushed_on_one_way : BreaksRule (three (Jcc when.Z 2) (Push stack.B)) (kind.Depth (pos 2) (pos 0)) 7
