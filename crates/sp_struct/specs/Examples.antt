-- Units of one or two instructions that break a rule on structure, and twins that differ in one thing and keep it (this project's own).
use Rattle.std.specs.Prelude.{ℕ, pos, Bool, false, true, List, [], ◌∷◌, codes}
use Rattle.std.specs.FinMap as maps
use Rattle.sp_base.specs.declared.pair.Pair.TheVariants as pair
use Rattle.sp_base.specs.Locs.{none}
use Rattle.sp_isa.specs.declared.instr.Instr.{Instr}
use Rattle.sp_isa.specs.declared.instr.Instr.TheVariants.{Jmp, Call, Ret, Pchl, Xchg, Sphl, Lxi, Push, Pop, Sta, Cmc}
use Rattle.sp_isa.specs.declared.instr.StackPair.TheVariants as stack
use Rattle.sp_logic.specs.declared.note.Note.TheVariants.{Constant, Compare}
use Rattle.sp_logic.specs.declared.note.Comparison.TheVariants as comparison
use Rattle.sp_logic.specs.declared.note.Quantity.TheVariants.{StackWord, Literal}
use Rattle.sp_prog.specs.declared.routine.Lists.{Lists}
use Rattle.sp_prog.specs.declared.routine.Noted.{Noted}
use Rattle.sp_prog.specs.declared.routine.Routine.{Routine}
use Rattle.sp_prog.specs.declared.routine.Stmt.{Stmt}
use Rattle.sp_prog.specs.Program.{Program, program}
use Rattle.sp_struct.specs.Refusals.{BreaksRule}
use Rattle.sp_struct.specs.declared.refusal.StructKind.{StructKind}
use Rattle.sp_struct.specs.declared.refusal.StructKind.TheVariants as kind

abbrev pub lists : Lists
lists = record { locs = none; areas = [] }

-- an instruction on line 6, at address 0, with these assertions
abbrev pub stmt : Instr → List Noted → Stmt
stmt i asserts = record { line = record { 0 = 6 }; addr = 0; instr = i; asserts = asserts }

-- `STK1 = 5` on line 5
abbrev pub word : Noted
word = record { line = record { 0 = 5 }; note = Compare comparison.Equal (StackWord 1) (Literal 5) }

-- `true` on line 5
abbrev pub noted : List Noted
noted = record { line = record { 0 = 5 }; note = Constant true } ∷ []

abbrev pub routine : Bool → ℕ → Instr → List Noted → Routine
routine start depth i asserts = record {
  name = codes "R";
  line = record { 0 = 2 };
  start = start;
  pre = [];
  post = [];
  reads = lists;
  changes = lists;
  ins = [];
  outs = [];
  depth = depth;
  code = stmt i asserts ∷ [];
}

abbrev pub cells : List (ℕ × ℕ)
cells = (0, 0) ∷ []

-- a start routine or another one, of one instruction; the image has a byte at 0, and the stack ends at 23FFH
abbrev pub unit : Bool → ℕ → Instr → List Noted → Program
unit start depth i asserts = program (maps.from_sorted cells) 0x2300 0x23FF [] (routine start depth i asserts ∷ [])

-- a routine without `start` and without room on the stack
abbrev pub one : Instr → Program
one i = unit false 0 i []

-- a second instruction, on line 7 at address 1
abbrev pub second : Instr → Stmt
second i = record { line = record { 0 = 7 }; addr = 1; instr = i; asserts = [] }

abbrev pub routine_of_two : Instr → Instr → Routine
routine_of_two i j = record (routine false 2 i []) { code = stmt i [] ∷ second j ∷ [] }

abbrev pub two : Instr → Instr → Program
two i j = program (maps.from_sorted cells) 0x2300 0x23FF [] (routine_of_two i j ∷ [])

-- the instruction breaks a rule
abbrev pub IsOut : Program → StructKind → Type 0
IsOut p kind = BreaksRule p kind 6

abbrev pub IsKept : Program → StructKind → Type 0
IsKept p kind = (line : ℕ) → BreaksRule p kind line → ⊥

pub record RulesByExample : Type 0 where
  pub jump : IsOut (one (Jmp 5)) kind.JumpOut
  pub jump_inside : IsKept (one (Jmp 0)) kind.JumpOut
  pub end : IsOut (one Cmc) kind.FallsOff
  pub end_by_return : IsKept (one Ret) kind.FallsOff
  pub call : IsOut (one (Call 5)) kind.CallOut
  pub call_of_start : IsOut (unit true 0 (Call 0) []) kind.CallOut
  pub call_of_routine : IsKept (one (Call 0)) kind.CallOut
  pub recursion : IsOut (one (Call 0)) kind.Recursion
  pub no_recursion : IsKept (one (Call 5)) kind.Recursion
  pub computed : IsOut (one Pchl) kind.Computed
  pub not_computed : IsKept (one Xchg) kind.Computed
  pub moved : IsOut (one Sphl) kind.StackPointer
  pub not_moved : IsKept (one Xchg) kind.StackPointer
  pub loaded : IsOut (one (Lxi pair.Sp 0x2400)) kind.StackPointer
  pub loaded_at_start : IsKept (unit true 0 (Lxi pair.Sp 0x2400) []) kind.StackPointer
  pub loaded_otherwise : IsOut (unit true 0 (Lxi pair.Sp 0x23FF) []) kind.StackPointer
  pub popped : IsOut (one (Pop stack.B)) kind.PopsReturn
  pub not_popped : IsKept (one (Push stack.B)) kind.PopsReturn
  pub pushed : IsOut (one (Push stack.B)) kind.OverDepth
  pub not_pushed : IsKept (unit false 2 (Push stack.B) []) kind.OverDepth
  pub unreached : BreaksRule (two Ret Cmc) kind.Unreached 7
  pub reached : IsKept (two Cmc Ret) kind.Unreached
  pub deep : BreaksRule (two (Push stack.B) Ret) (kind.Depth (pos 2) (pos 0)) 7
  pub no_slot : BreaksRule (unit false 0 Ret (word ∷ [])) kind.NoSlot 5
  pub no_word : IsKept (unit false 0 Ret noted) kind.NoSlot
  pub looped : IsOut (one (Jmp 0)) kind.UncutLoop
  pub cut : IsKept (unit false 0 (Jmp 0) noted) kind.UncutLoop
  pub returned : IsOut (unit true 0 Ret []) kind.ReturnInStart
  pub returned_elsewhere : IsKept (one Ret) kind.ReturnInStart
  pub stored : IsOut (one (Sta 0)) kind.CodeWritten
  pub stored_elsewhere : IsKept (one (Sta 1)) kind.CodeWritten
