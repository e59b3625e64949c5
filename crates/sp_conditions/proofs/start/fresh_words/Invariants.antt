use Rattle.std.proofs.Common.{◌≡◌, map}
use Rattle.std.specs.Prelude.{reverse}
use Rattle.sp_trans.specs.View.{word_of}
use Rattle.sp_cond.specs.Start.{fresh_words}
use Rattle.sp_conditions.proofs.start.fresh_words.Given as goal

abbrev pub invariant-words : goal.invariant-words
invariant-words l = reverse (map word_of l.words.items) ≡ fresh_words l.k
