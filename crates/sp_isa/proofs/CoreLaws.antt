-- The older name of CoreLemmas.
pub use Rattle.sp_isa.proofs.CoreLemmas.{low_reg, low_cell, low_arg, flag_byte_low, only_byte, effects_keep_cores, operand_low, steps_keep_cores, instr_at_bytes}
