-- The core of the 8080: registers, flags, stack pointer, program counter, memory, and whether it is halted.
use Rattle.std.specs.Prelude.{◌≡◌, ℕ, ◌+◌, ◌*◌, ◌%◌, ◌<◌, Bool, false, List, All, length, slice_index, slice_set, ⊤}
use Rattle.sp_base.specs.declared.location.Reg.{Reg}
use Rattle.sp_base.specs.declared.location.Reg.TheVariants as reg
use Rattle.sp_base.specs.declared.location.Loc.{Loc}
use Rattle.sp_base.specs.declared.location.Loc.TheVariants as loc

-- 8080 manual, "Working registers", "Condition flags", "Memory", "Program counter", "Stack pointer"
pub record Core : Type 0 where
  pub b : ℕ
  pub c : ℕ
  pub d : ℕ
  pub e : ℕ
  pub h : ℕ
  pub l : ℕ
  pub a : ℕ
  pub s : ℕ
  pub z : ℕ
  pub ac : ℕ
  pub p : ℕ
  pub cy : ℕ
  pub sp : ℕ
  pub pc : ℕ
  pub halted : Bool
  -- a byte for each address from 0 to 65,535
  pub cells : List ℕ

-- what a register or a flag has
abbrev pub at : Loc → Core → ℕ
at loc.A core = core.a
at loc.B core = core.b
at loc.C core = core.c
at loc.D core = core.d
at loc.E core = core.e
at loc.H core = core.h
at loc.L core = core.l
at loc.S core = core.s
at loc.Z core = core.z
at loc.Ac core = core.ac
at loc.P core = core.p
at loc.Cy core = core.cy

-- what a register has
abbrev pub reg_of : Reg → Core → ℕ
reg_of reg.B core = core.b
reg_of reg.C core = core.c
reg_of reg.D core = core.d
reg_of reg.E core = core.e
reg_of reg.H core = core.h
reg_of reg.L core = core.l
reg_of reg.A core = core.a

-- the byte at an address, taken modulo 65,536
abbrev pub cell : ℕ → Core → ℕ
cell address core = slice_index core.cells (address % 65536)

-- the word at an address, its low byte first
abbrev pub word : ℕ → Core → ℕ
word address core = cell address core + 256 * cell (address + 1) core

-- the greatest value of a flag is 1, and of a register 255
abbrev pub limit : Loc → ℕ
limit loc.S = 2
limit loc.Z = 2
limit loc.Ac = 2
limit loc.P = 2
limit loc.Cy = 2
limit loc.A = 256
limit loc.B = 256
limit loc.C = 256
limit loc.D = 256
limit loc.E = 256
limit loc.H = 256
limit loc.L = 256

-- each part is in its range
pub record IsCore (core : Core) : Type 0 where
  pub locations : (x : Loc) → at x core < limit x
  pub sp : core.sp < 65536
  pub pc : core.pc < 65536
  pub memory : length core.cells ≡ 65536
  pub bytes : All (λ byte. byte < 256) core.cells

-- all is 0, and it isn't halted
pub record IsBlank (core : Core) : Type 0 where
  pub locations : (x : Loc) → at x core ≡ 0
  pub sp : core.sp ≡ 0
  pub pc : core.pc ≡ 0
  pub running : core.halted ≡ false
  pub memory : length core.cells ≡ 65536
  pub bytes : All (λ byte. byte ≡ 0) core.cells

-- the core with another value in a register
unfoldable pub with_reg : Reg → ℕ → Core → Core
with_reg reg.B v core = record core { b = v }
with_reg reg.C v core = record core { c = v }
with_reg reg.D v core = record core { d = v }
with_reg reg.E v core = record core { e = v }
with_reg reg.H v core = record core { h = v }
with_reg reg.L v core = record core { l = v }
with_reg reg.A v core = record core { a = v }

-- the core with another stack pointer, taken modulo 65,536
unfoldable pub with_sp : ℕ → Core → Core
with_sp v core = record core { sp = v % 65536 }

-- the core with another program counter, taken modulo 65,536
unfoldable pub with_pc : ℕ → Core → Core
with_pc v core = record core { pc = v % 65536 }

-- the core with another byte at an address, taken modulo 65,536
unfoldable pub with_cell : ℕ → ℕ → Core → Core
with_cell address v core = record core { cells = slice_set core.cells (address % 65536) v }

-- these locations are flags
abbrev pub IsFlag : Loc → Type 0
IsFlag loc.S = ⊤
IsFlag loc.Z = ⊤
IsFlag loc.Ac = ⊤
IsFlag loc.P = ⊤
IsFlag loc.Cy = ⊤
IsFlag _ = ⊥

-- the core with another value in a flag
unfoldable pub with_flag : Loc → ℕ → Core → Core
with_flag loc.S v core = record core { s = v }
with_flag loc.Z v core = record core { z = v }
with_flag loc.Ac v core = record core { ac = v }
with_flag loc.P v core = record core { p = v }
with_flag loc.Cy v core = record core { cy = v }
with_flag _ v core = core

-- the core with its state of rest changed
unfoldable pub with_halted : Bool → Core → Core
with_halted v core = record core { halted = v }

-- the program counter goes on by the instruction's length
unfoldable pub advance : ℕ → Core → Core
unfolding with_pc
advance n core = with_pc (core.pc + n) core
