-- Words of the stack in annotations as their lines have them.
use Rattle.std.specs.Prelude.{Bool, true, false, ◌||◌}
use Rattle.sp_note.specs.RawNotes.{RawNote, Cell, StackWord, Total, Element, Negative, Parity, Operate, Compare, Not, Connect, Quantify}

-- whether STKk stands in an annotation
abbrev pub has_word : RawNote → Bool
has_word (StackWord k) = true
has_word (Cell m x) = has_word x
has_word (Element m name x) = has_word x
has_word (Total m x y) = has_word x || has_word y
has_word (Negative x) = has_word x
has_word (Parity x) = has_word x
has_word (Operate o x y) = has_word x || has_word y
has_word (Compare c x y) = has_word x || has_word y
has_word (Not p) = has_word p
has_word (Connect c p q) = has_word p || has_word q
has_word (Quantify q name x y p) = has_word x || (has_word y || has_word p)
has_word _ = false
