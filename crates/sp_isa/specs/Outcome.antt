-- Where an instruction leads, and which cells it writes (8080 manual, "Program counter", "Stack pointer" and the
-- descriptions of the instructions). It follows from the effects; a law says so of every instruction.
use Rattle.std.specs.Prelude.{◌≡◌, ℕ, ◌+◌, ◌*◌, ◌/◌, ◌%◌, Bool, true, List, [], ◌∷◌, length, slice_set, if◌then◌else◌}
use Rattle.sp_base.specs.declared.pair.Pair.TheVariants as pair
use Rattle.sp_isa.specs.declared.instr.Arg.{Arg}
use Rattle.sp_isa.specs.declared.instr.Arg.TheVariants as arg
use Rattle.sp_isa.specs.declared.instr.StackPair.{StackPair}
use Rattle.sp_isa.specs.declared.instr.StackPair.TheVariants as stack
use Rattle.sp_isa.specs.declared.instr.Instr.{Instr}
use Rattle.sp_isa.specs.declared.instr.Instr.TheVariants.{Mov, Mvi, Inr, Dcr, Lxi, Inx, Dcx, Stax, Shld, Sta, Push, Pop, Jmp, Jcc, Call, Ccc, Ret, Rcc, Rst, Pchl, Sphl, Xthl, Hlt}
use Rattle.sp_isa.specs.Code.{code}
use Rattle.sp_isa.specs.Core.{Core, cell, word}
use Rattle.sp_isa.specs.Operands.{pair_of, arg_of}
use Rattle.sp_isa.specs.Stack.{flag_byte, holds, address_after}
use Rattle.sp_isa.specs.Effect.{effect}

-- the address after an instruction
abbrev pub next_address : Instr → Core → ℕ
next_address i core = address_after (length (code i)) core

-- the program counter after an instruction
abbrev pub pc_after : Instr → Core → ℕ
pc_after (Jmp w) core = w % 65536
pc_after (Jcc when w) core = if holds when core then w % 65536 else next_address (Jcc when w) core
pc_after (Call w) core = w % 65536
pc_after (Ccc when w) core = if holds when core then w % 65536 else next_address (Ccc when w) core
pc_after Ret core = word core.sp core % 65536
pc_after (Rcc when) core = if holds when core then word core.sp core % 65536 else next_address (Rcc when) core
pc_after (Rst n) core = 8 * n % 65536
pc_after Pchl core = pair_of pair.H core % 65536
pc_after Hlt core = core.pc
pc_after i core = next_address i core

-- the stack pointer with a word more, and with a word less on the stack
abbrev pub sp_pushed : Core → ℕ
sp_pushed core = (core.sp + 65534) % 65536

abbrev pub sp_popped : Core → ℕ
sp_popped core = (core.sp + 2) % 65536

-- the stack pointer after an instruction
abbrev pub sp_after : Instr → Core → ℕ
sp_after (Push p) core = sp_pushed core
sp_after (Pop p) core = sp_popped core
sp_after (Call w) core = sp_pushed core
sp_after (Ccc when w) core = if holds when core then sp_pushed core else core.sp
sp_after Ret core = sp_popped core
sp_after (Rcc when) core = if holds when core then sp_popped core else core.sp
sp_after (Rst n) core = sp_pushed core
sp_after Sphl core = pair_of pair.H core % 65536
sp_after (Lxi pair.Sp w) core = w % 65536
sp_after (Inx pair.Sp) core = (core.sp + 1) % 65536
sp_after (Dcx pair.Sp) core = (core.sp + 65535) % 65536
sp_after i core = core.sp

-- HLT alone halts
abbrev pub halted_after : Instr → Core → Bool
halted_after Hlt core = true
halted_after i core = core.halted

-- cells with bytes written at addresses, one after the other
abbrev pub written : List (ℕ × ℕ) → List ℕ → List ℕ
written [] cells = cells
written (w ∷ writes) cells = written writes (slice_set cells (w.0 % 65536) w.1)

-- a high and a low byte that go onto the stack
abbrev pub pushes : ℕ → ℕ → Core → List (ℕ × ℕ)
pushes high low core = (core.sp + 65535, high) ∷ (core.sp + 65534, low) ∷ []

-- an address that goes onto the stack
abbrev pub pushes_address : ℕ → Core → List (ℕ × ℕ)
pushes_address w core = pushes (w / 256) (w % 256) core

-- a byte that goes to an operand: a register is no cell
abbrev pub to_arg : Arg → ℕ → Core → List (ℕ × ℕ)
to_arg (arg.Reg r) byte core = []
to_arg arg.M byte core = (pair_of pair.H core, byte) ∷ []

-- the two bytes of a PUSH
abbrev pub pushes_pair : StackPair → Core → List (ℕ × ℕ)
pushes_pair stack.B core = pushes core.b core.c core
pushes_pair stack.D core = pushes core.d core.e core
pushes_pair stack.H core = pushes core.h core.l core
pushes_pair stack.Psw core = pushes core.a (flag_byte core) core

-- the bytes that an instruction writes to memory, with their addresses
abbrev pub stores : Instr → Core → List (ℕ × ℕ)
stores (Mov to from) core = to_arg to (arg_of from core) core
stores (Mvi to n) core = to_arg to n core
stores (Inr y) core = to_arg y ((arg_of y core + 1) % 256) core
stores (Dcr y) core = to_arg y ((arg_of y core + 255) % 256) core
stores (Stax p) core = (pair_of p core, core.a) ∷ []
stores (Sta w) core = (w, core.a) ∷ []
stores (Shld w) core = (w, core.l) ∷ (w + 1, core.h) ∷ []
stores (Push p) core = pushes_pair p core
stores (Call w) core = pushes_address (next_address (Call w) core) core
stores (Ccc when w) core = if holds when core then pushes_address (next_address (Ccc when w) core) core else []
stores (Rst n) core = pushes_address (next_address (Rst n) core) core
stores Xthl core = (core.sp, core.l) ∷ (core.sp + 1, core.h) ∷ []
stores i core = []

-- where an instruction leads from one core to another
pub record Leads (i : Instr) (old new : Core) : Type 0 where
  pub pc : new.pc ≡ pc_after i old
  pub sp : new.sp ≡ sp_after i old
  pub halted : new.halted ≡ halted_after i old
  pub cells : new.cells ≡ written (stores i old) old.cells

-- every instruction leads there
abbrev pub InstructionsLead : Type 0
InstructionsLead = (input : ℕ) (i : Instr) (core : Core) → Leads i core (effect input i core)

-- an address that is none of these
abbrev pub IsApart : ℕ → List (ℕ × ℕ) → Type 0
IsApart a [] = Unit
IsApart a (w ∷ writes) = (a % 65536 ≡ w.0 % 65536 → ⊥) × IsApart a writes

-- a cell to which an instruction doesn't write stays as it is
abbrev pub OtherCellsStay : Type 0
OtherCellsStay =
    (input : ℕ) (i : Instr) (core : Core) (a : ℕ) → IsApart a (stores i core) → cell a (effect input i core) ≡ cell a core
