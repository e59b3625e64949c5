use Rattle.std.proofs.Common.{◌≡◌, ◌∷◌, ◌++◌, length, map}
use Rattle.std.specs.Option.{option_map}
use Rattle.sp_first.specs.Words.{lines, words}
use Rattle.sp_first.specs.Reading as read
use Rattle.sp_first.proofs.source.program_lines.Given as goal

abbrev pub invariant-loop-line : goal.invariant-loop-line
invariant-loop-line l =
    option_map (λ p. (l.program.items ++ p.0, p.1)) (read.program_lines (words l.line ∷ map words (lines l.rest))) ≡ read.program_lines (words l.first ∷ map words (lines l.below))

abbrev pub decreases-loop-line : goal.decreases-loop-line
decreases-loop-line l = length (lines l.rest)
