use Rattle.std.proofs.Common.{◌≡◌, ◌∷◌, ◌++◌, length}
use Rattle.std.specs.Option.{option_map}
use Rattle.sp_first.specs.Words.{words}
use Rattle.sp_first.specs.Reading.{more_registers}
use Rattle.sp_first.proofs.source.registers.Given as goal

abbrev pub invariant-loop-rest : goal.invariant-loop-rest
invariant-loop-rest l = option_map (λ regs. l.regs.items ++ regs) (more_registers (words l.rest)) ≡ option_map (λ regs. l.fn.first ∷ regs) (more_registers (words l.line))

abbrev pub decreases-loop-rest : goal.decreases-loop-rest
decreases-loop-rest l = length (words l.rest)
