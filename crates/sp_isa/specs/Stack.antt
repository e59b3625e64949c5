-- The stack, and where a program goes on (8080 manual, "Stack", and the groups of these instructions).
use Rattle.std.specs.Prelude.{ℕ, ◌+◌, ◌*◌, ◌/◌, ◌%◌, Bool, ◌==◌}
use Rattle.sp_base.specs.declared.location.Reg.TheVariants as reg
use Rattle.sp_base.specs.declared.location.Loc.TheVariants as loc
use Rattle.sp_base.specs.declared.pair.Pair.TheVariants as pair
use Rattle.sp_isa.specs.declared.instr.StackPair.{StackPair}
use Rattle.sp_isa.specs.declared.instr.StackPair.TheVariants as stack
use Rattle.sp_isa.specs.declared.instr.Cond.{Cond}
use Rattle.sp_isa.specs.declared.instr.Cond.TheVariants as when
use Rattle.sp_isa.specs.Core.{Core, cell, word, with_reg, with_flag, with_cell, with_sp, with_pc}
use Rattle.sp_isa.specs.Operands.{with_pair}

-- a high byte goes to SP - 1 and a low one to SP - 2, and SP goes down by 2
unfoldable pub push : ℕ → ℕ → Core → Core
push high low core = with_sp (core.sp + 65534) (with_cell (core.sp + 65534) low (with_cell (core.sp + 65535) high core))

-- the flags as a byte: S Z 0 AC 0 P 1 CY
abbrev pub flag_byte : Core → ℕ
flag_byte core = 128 * core.s + 64 * core.z + 16 * core.ac + 4 * core.p + 2 + core.cy

-- the flags that a byte has
unfoldable pub with_flag_byte : ℕ → Core → Core
with_flag_byte y core =
    with_flag loc.S (y / 128 % 2) (with_flag loc.Z (y / 64 % 2) (with_flag loc.Ac (y / 16 % 2) (with_flag loc.P (y / 4 % 2) (with_flag loc.Cy (y % 2) core))))

-- PUSH: a pair goes onto the stack, of PSW A above the flags
unfoldable pub push_pair : StackPair → Core → Core
push_pair stack.B core = push core.b core.c core
push_pair stack.D core = push core.d core.e core
push_pair stack.H core = push core.h core.l core
push_pair stack.Psw core = push core.a (flag_byte core) core

-- a pair takes the word at the stack pointer
unfoldable pub top_to : StackPair → Core → Core
top_to stack.B core = with_pair pair.B (word core.sp core) core
top_to stack.D core = with_pair pair.D (word core.sp core) core
top_to stack.H core = with_pair pair.H (word core.sp core) core
top_to stack.Psw core = with_reg reg.A (cell (core.sp + 1) core) (with_flag_byte (cell core.sp core) core)

-- POP: a pair takes the word on the stack, and SP goes up by 2
unfoldable pub pop_pair : StackPair → Core → Core
pop_pair p core = with_sp (core.sp + 2) (top_to p core)

-- whether a condition holds
abbrev pub holds : Cond → Core → Bool
holds when.Nz core = core.z == 0
holds when.Z core = core.z == 1
holds when.Nc core = core.cy == 0
holds when.C core = core.cy == 1
holds when.Po core = core.p == 0
holds when.Pe core = core.p == 1
holds when.P core = core.s == 0
holds when.M core = core.s == 1

-- the address after an instruction of this length
abbrev pub address_after : ℕ → Core → ℕ
address_after length core = (core.pc + length) % 65536

-- a call of an address by an instruction of this length: the address after it goes onto the stack
unfoldable pub call : ℕ → ℕ → Core → Core
call length w core = with_pc w (push (address_after length core / 256) (address_after length core % 256) core)

-- a return: PC takes the word on the stack, and SP goes up by 2
unfoldable pub ret : Core → Core
ret core = with_sp (core.sp + 2) (with_pc (word core.sp core) core)

-- XTHL: L and H change places with the two cells at the stack pointer
unfoldable pub exchange_top : Core → Core
exchange_top core =
    with_reg reg.H (cell (core.sp + 1) core) (with_reg reg.L (cell core.sp core)
    (with_cell (core.sp + 1) core.h (with_cell core.sp core.l core)))

-- XCHG: HL and DE change places
unfoldable pub exchange_pairs : Core → Core
exchange_pairs core = with_reg reg.H core.d (with_reg reg.L core.e (with_reg reg.D core.h (with_reg reg.E core.l core)))
