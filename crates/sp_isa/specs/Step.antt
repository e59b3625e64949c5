-- One step of the processor (8080 manual, "Computer program representation in memory").
use Rattle.std.specs.Prelude.{ℕ, ◌+◌, ◌<◌, All, Option, Some, None, if◌then◌else◌}
use Rattle.sp_isa.specs.declared.instr.Instr.{Instr}
use Rattle.sp_isa.specs.Decode.{decode}
use Rattle.sp_isa.specs.Code.{operand}
use Rattle.sp_isa.specs.Core.{Core, IsCore, cell}
use Rattle.sp_isa.specs.Effect.{effect}

-- the instruction that begins at an address, and its length, if there is one
abbrev pub instr_at : ℕ → Core → Option (Instr × ℕ)
instr_at address core = decode (cell address core) (cell (address + 1) core) (cell (address + 2) core)

-- the core after the instruction at its program counter; where there is none it is stuck, and stays
abbrev pub after : ℕ → Option (Instr × ℕ) → Core → Core
after input (Some p) core = effect input p.0 core
after input None core = core

-- one step, `input` being the byte that an IN would take: a halted core stays
unfoldable pub step : ℕ → Core → Core
step input core = if core.halted then core else after input (instr_at core.pc core) core

-- an instruction whose operand bytes are bytes keeps each part of the core in its range
abbrev pub EffectsKeepCores : Type 0
EffectsKeepCores =
    (input : ℕ) (i : Instr) (core : Core) → input < 256 → All (λ byte. byte < 256) (operand i) → IsCore core → IsCore (effect input i core)

-- so does a step
abbrev pub StepsKeepCores : Type 0
StepsKeepCores = (input : ℕ) (core : Core) → input < 256 → IsCore core → IsCore (step input core)
