use Rattle.sp_struct.specs.code.Bits.{JoinedBefore}
use Rattle.sp_struct.proofs.sets.BitSet.join.Given as goal

abbrev pub invariant-words : goal.invariant-words
invariant-words l = JoinedBefore l.fn.self l.other l.place l.self-inside.words.items
