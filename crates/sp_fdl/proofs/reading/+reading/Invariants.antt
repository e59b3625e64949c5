use Rattle.std.proofs.Common.{◌+◌, ◌*◌}
use Rattle.sp_fdl.proofs.reading.+reading.Given as goal

-- the depth, and how far a function stands above the one that spends it
abbrev pub decreases-term : goal.decreases-term
decreases-term l = 8 * l.place.depth + 0

abbrev pub decreases-part : goal.decreases-part
decreases-part l = 8 * l.place.depth + 1

abbrev pub decreases-part_after : goal.decreases-part_after
decreases-part_after l = 8 * l.place.depth + 2

abbrev pub decreases-cell : goal.decreases-cell
decreases-cell l = 8 * l.place.depth + 3

abbrev pub decreases-cell_after : goal.decreases-cell_after
decreases-cell_after l = 8 * l.place.depth + 4

abbrev pub decreases-negation : goal.decreases-negation
decreases-negation l = 8 * l.place.depth + 2

abbrev pub decreases-second : goal.decreases-second
decreases-second l = 8 * l.place.depth + 2

abbrev pub decreases-joined : goal.decreases-joined
decreases-joined l = 8 * l.place.depth + 3

abbrev pub decreases-grouped : goal.decreases-grouped
decreases-grouped l = 8 * l.place.depth + 4

abbrev pub decreases-pair : goal.decreases-pair
decreases-pair l = 8 * l.place.depth + 3

abbrev pub decreases-parity : goal.decreases-parity
decreases-parity l = 8 * l.place.depth + 3

abbrev pub decreases-bit : goal.decreases-bit
decreases-bit l = 8 * l.place.depth + 3

abbrev pub decreases-flags : goal.decreases-flags
decreases-flags l = 8 * l.place.depth + 3

abbrev pub decreases-choice : goal.decreases-choice
decreases-choice l = 8 * l.place.depth + 3

abbrev pub decreases-element : goal.decreases-element
decreases-element l = 8 * l.place.depth + 5

abbrev pub decreases-update : goal.decreases-update
decreases-update l = 8 * l.place.depth + 5

abbrev pub decreases-total : goal.decreases-total
decreases-total l = 8 * l.place.depth + 5

abbrev pub decreases-bound : goal.decreases-bound
decreases-bound l = 8 * l.place.depth + 3

abbrev pub decreases-quantifier : goal.decreases-quantifier
decreases-quantifier l = 8 * l.place.depth + 4

abbrev pub decreases-named : goal.decreases-named
decreases-named l = 8 * l.place.depth + 6

abbrev pub decreases-form : goal.decreases-form
decreases-form l = 8 * l.place.depth + 7
