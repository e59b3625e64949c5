-- What the code's header says, in words.
use Rattle.std.specs.Prelude.{map}
use Rattle.sp_first.specs.declared.lines.Header.{Header}
use Rattle.sp_first.specs.Words.{lines, words}
use Rattle.sp_first.specs.Reading as read

abbrev pub header_words : Header → read.Header
header_words h = record { name = h.name; post = h.post; value = h.value; changes = words h.changes.now; below = map words (lines h.below.now) }
