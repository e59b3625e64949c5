use Rattle.std.proofs.Common.{◌≡◌, length}
use Rattle.sp_lex.specs.Readers.{AreIn, items_of}
use Rattle.sp_note.specs.code.Lines.{list_read}
use Rattle.sp_note.proofs.ItemLemmas.{after_items}
use Rattle.sp_note.proofs.lists.list_of.Given as goal

abbrev pub invariant-loop-read : goal.invariant-loop-read
invariant-loop-read l =
    (after_items l.items.items (list_read l.source (items_of l.source l.rest)) ≡ list_read l.source (items_of l.source l.tokens)) × AreIn l.source l.rest

abbrev pub decreases-loop-read : goal.decreases-loop-read
decreases-loop-read l = length l.rest
