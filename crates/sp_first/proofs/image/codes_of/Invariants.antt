use Rattle.std.proofs.Common.{◌≡◌, take}
use Rattle.std.specs.Prelude.{flat_map, map}
use Rattle.sp_first.specs.Program.{instr_of}
use Rattle.sp_isa.specs.Code.{code}
use Rattle.sp_first.proofs.image.codes_of.Given as goal

abbrev pub invariant-loop-transfer : goal.invariant-loop-transfer
invariant-loop-transfer l = l.bytes.items ≡ flat_map code (map instr_of (take l.transfer-index l.transfers))
