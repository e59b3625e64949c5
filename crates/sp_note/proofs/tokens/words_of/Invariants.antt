use Rattle.std.proofs.Common.{◌≡◌, drop}
use Rattle.sp_note.specs.Words.{words_of}
use Rattle.sp_note.proofs.WordLemmas.{after}
use Rattle.sp_note.proofs.tokens.words_of.Given as goal

abbrev pub invariant-loop-token : goal.invariant-loop-token
invariant-loop-token l = after l.words.items (words_of l.source (drop l.token-index l.tokens)) ≡ words_of l.source l.tokens
