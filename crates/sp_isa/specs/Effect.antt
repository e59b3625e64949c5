-- What each instruction does to the core (8080 manual, the descriptions of the instructions).
use Rattle.std.specs.Prelude.{ℕ, ◌+◌, ◌-◌, ◌*◌, ◌/◌, ◌%◌, Bool, true, false, Option, Some, None, if◌then◌else◌}
use Rattle.sp_base.specs.declared.location.Reg.TheVariants as reg
use Rattle.sp_base.specs.declared.location.Loc.TheVariants as loc
use Rattle.sp_base.specs.declared.pair.Pair.TheVariants as pair
use Rattle.sp_isa.specs.declared.instr.Instr.{Instr}
use Rattle.sp_isa.specs.declared.instr.Instr.TheVariants.{Mov, Mvi, Inr, Dcr, Alu, AluImmediate, Lxi, Dad, Inx, Dcx, Stax, Ldax, Shld, Lhld, Sta, Lda, Rlc, Rrc, Ral, Rar, Daa, Cma, Stc, Cmc, Push, Pop, Jmp, Jcc, Call, Ccc, Ret, Rcc, Rst, Pchl, Sphl, Xthl, Xchg, In, Out, Nop, Ei, Di, Hlt}
use Rattle.sp_isa.specs.Core.{Core, cell, with_reg, with_flag, with_cell, with_sp, with_pc, with_halted, advance}
use Rattle.sp_isa.specs.Operands.{pair_of, with_pair, arg_of, with_arg}
use Rattle.sp_isa.specs.Arithmetic.{alu, increase, decrease, add_pair, adjust, rotate}
use Rattle.sp_isa.specs.Stack.{push_pair, pop_pair, holds, call, ret, exchange_top, exchange_pairs}

-- the core after an instruction, `input` being the byte that an IN takes
unfoldable pub effect : ℕ → Instr → Core → Core
effect input (Mov to from) core = advance 1 (with_arg to (arg_of from core) core)
effect input (Mvi to n) core = advance 2 (with_arg to n core)
effect input (Inr y) core = advance 1 (increase y core)
effect input (Dcr y) core = advance 1 (decrease y core)
effect input (Alu o y) core = advance 1 (alu o (arg_of y core) core)
effect input (AluImmediate o n) core = advance 2 (alu o n core)
effect input (Lxi p w) core = advance 3 (with_pair p w core)
effect input (Dad p) core = advance 1 (add_pair p core)
effect input (Inx p) core = advance 1 (with_pair p (pair_of p core + 1) core)
effect input (Dcx p) core = advance 1 (with_pair p (pair_of p core + 65535) core)
effect input (Stax p) core = advance 1 (with_cell (pair_of p core) core.a core)
effect input (Ldax p) core = advance 1 (with_reg reg.A (cell (pair_of p core) core) core)
effect input (Shld w) core = advance 3 (with_cell (w + 1) core.h (with_cell w core.l core))
effect input (Lhld w) core = advance 3 (with_reg reg.H (cell (w + 1) core) (with_reg reg.L (cell w core) core))
effect input (Sta w) core = advance 3 (with_cell w core.a core)
effect input (Lda w) core = advance 3 (with_reg reg.A (cell w core) core)
effect input Rlc core = advance 1 (rotate (2 * core.a % 256 + core.a / 128) (core.a / 128) core)
effect input Rrc core = advance 1 (rotate (core.a / 2 + 128 * (core.a % 2)) (core.a % 2) core)
effect input Ral core = advance 1 (rotate (2 * core.a % 256 + core.cy) (core.a / 128) core)
effect input Rar core = advance 1 (rotate (core.a / 2 + 128 * core.cy) (core.a % 2) core)
effect input Daa core = advance 1 (adjust core)
effect input Cma core = advance 1 (with_reg reg.A (255 - core.a) core)
effect input Stc core = advance 1 (with_flag loc.Cy 1 core)
effect input Cmc core = advance 1 (with_flag loc.Cy (1 - core.cy) core)
effect input (Push p) core = advance 1 (push_pair p core)
effect input (Pop p) core = advance 1 (pop_pair p core)
effect input (Jmp w) core = with_pc w core
effect input (Jcc when w) core = if holds when core then with_pc w core else advance 3 core
effect input (Call w) core = call 3 w core
effect input (Ccc when w) core = if holds when core then call 3 w core else advance 3 core
effect input Ret core = ret core
effect input (Rcc when) core = if holds when core then ret core else advance 1 core
effect input (Rst n) core = call 1 (8 * n) core
effect input Pchl core = with_pc (pair_of pair.H core) core
effect input Sphl core = advance 1 (with_sp (pair_of pair.H core) core)
effect input Xthl core = advance 1 (exchange_top core)
effect input Xchg core = advance 1 (exchange_pairs core)
effect input (In _) core = advance 2 (with_reg reg.A input core)
effect input (Out _) core = advance 2 core
effect input Nop core = advance 1 core
effect input Ei core = advance 1 core
effect input Di core = advance 1 core
effect input Hlt core = with_halted true core

-- the port from which an instruction takes a byte, if it takes one
abbrev pub takes_input : Instr → Option ℕ
takes_input (In port) = Some port
takes_input _ = None

-- the port and the byte that an instruction gives out, if it gives one
abbrev pub gives_output : Instr → Core → Option (ℕ × ℕ)
gives_output (Out port) core = Some (port, core.a)
gives_output _ core = None

-- whether an instruction returns
abbrev pub returns : Instr → Core → Bool
returns Ret core = true
returns (Rcc when) core = holds when core
returns _ core = false
