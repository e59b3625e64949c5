-- The instructions that change the symbolic state by translation.
use Rattle.std.specs.Prelude.{Bool, true, false}
use Rattle.sp_isa.specs.declared.instr.Instr.{Instr}
use Rattle.sp_isa.specs.declared.instr.Instr.TheVariants.{Call, Ccc, Ret, Rcc, Rst, Pchl, Sphl}

-- not a call, a return, PCHL or SPHL
abbrev pub is_moved : Instr → Bool
is_moved (Call w) = false
is_moved (Ccc when w) = false
is_moved Ret = false
is_moved (Rcc when) = false
is_moved (Rst n) = false
is_moved Pchl = false
is_moved Sphl = false
is_moved i = true
