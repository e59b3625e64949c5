-- Return steps by the core.
use Rattle.std.specs.Prelude.{◌≡◌, ℕ, Bool, false, IsTrue, Option, Some, None}
use Rattle.sp_isa.specs.declared.instr.Instr.{Instr}
use Rattle.sp_isa.specs.Core.{Core}
use Rattle.sp_isa.specs.Effect.{returns}
use Rattle.sp_model.specs.State.{next_instr}

-- whether what decodes returns
abbrev pub decoded_returns : Option (Instr × ℕ) → Core → Bool
decoded_returns None core = false
decoded_returns (Some i) core = returns i.0 core

-- whether the instruction at the program counter returns
abbrev pub executes_return : Core → Bool
executes_return core = decoded_returns (next_instr core) core

-- the next step returns with SP there
pub record ReturnsTo (base : ℕ) (core : Core) : Type 0 where
  pub running : core.halted ≡ false
  pub at_base : core.sp ≡ base
  pub returns : IsTrue (executes_return core)
