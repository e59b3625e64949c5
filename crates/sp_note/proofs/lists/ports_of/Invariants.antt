use Rattle.std.proofs.Common.{◌≡◌, length}
use Rattle.sp_lex.specs.Readers.{AreIn, items_of}
use Rattle.sp_note.specs.code.Found.{held}
use Rattle.sp_note.specs.code.Lines.{ports_read}
use Rattle.sp_note.proofs.ItemLemmas.{in_front}
use Rattle.sp_note.proofs.lists.ports_of.Given as goal

abbrev pub invariant-loop-found : goal.invariant-loop-found
invariant-loop-found l =
    (in_front (held l.found) (ports_read l.source (items_of l.source l.rest)) ≡ ports_read l.source (items_of l.source l.tokens)) × AreIn l.source l.rest

abbrev pub decreases-loop-found : goal.decreases-loop-found
decreases-loop-found l = length l.rest
