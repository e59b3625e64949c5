-- What the operands of instructions name (8080 manual, "Register pairs" and "Memory addressing").
use Rattle.std.specs.Prelude.{ℕ, ◌+◌, ◌*◌, ◌/◌, ◌%◌}
use Rattle.sp_base.specs.declared.location.Reg.TheVariants as reg
use Rattle.sp_base.specs.declared.pair.Pair.{Pair}
use Rattle.sp_base.specs.declared.pair.Pair.TheVariants as pair
use Rattle.sp_isa.specs.declared.instr.Arg.{Arg}
use Rattle.sp_isa.specs.declared.instr.Arg.TheVariants as arg
use Rattle.sp_isa.specs.Core.{Core, reg_of, cell, with_reg, with_cell, with_sp}

-- the word in a register pair, its high byte in the first register
abbrev pub pair_of : Pair → Core → ℕ
pair_of pair.B core = 256 * core.b + core.c
pair_of pair.D core = 256 * core.d + core.e
pair_of pair.H core = 256 * core.h + core.l
pair_of pair.Sp core = core.sp

-- the core with another word in a register pair
unfoldable pub with_pair : Pair → ℕ → Core → Core
with_pair pair.B w core = with_reg reg.B (w / 256 % 256) (with_reg reg.C (w % 256) core)
with_pair pair.D w core = with_reg reg.D (w / 256 % 256) (with_reg reg.E (w % 256) core)
with_pair pair.H w core = with_reg reg.H (w / 256 % 256) (with_reg reg.L (w % 256) core)
with_pair pair.Sp w core = with_sp w core

-- the byte of an operand: M is the cell at HL
abbrev pub arg_of : Arg → Core → ℕ
arg_of (arg.Reg r) core = reg_of r core
arg_of arg.M core = cell (pair_of pair.H core) core

-- the core with another byte in an operand
unfoldable pub with_arg : Arg → ℕ → Core → Core
with_arg (arg.Reg r) v core = with_reg r v core
with_arg arg.M v core = with_cell (pair_of pair.H core) v core
