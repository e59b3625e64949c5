-- Whether each part of an annotation has the sort that its place asks (this project's own).
use Rattle.std.specs.Prelude.{Bool, true, false, ◌&&◌, if◌then◌else◌, Option, Some, None}
use Rattle.sp_note.specs.declared.operand.Sort.{Sort}
use Rattle.sp_note.specs.declared.operand.Sort.TheVariants.{Number, Truth}
use Rattle.sp_note.specs.RawNotes.{RawNote, Literal, Constant, Location, Pair, Cell, StackWord, Total, Named, Element, Address, Length, Negative, Parity, Operate, Compare, Not, Connect, Quantify}

abbrev pub is_number : Option Sort → Bool
is_number (Some Number) = true
is_number (Some Truth) = false
is_number None = false

abbrev pub is_truth : Option Sort → Bool
is_truth (Some Number) = false
is_truth (Some Truth) = true
is_truth None = false

-- the sort of what has right parts
abbrev pub given : Bool → Sort → Option Sort
given right sort = if right then Some sort else None

-- the sort of an annotation; none where a truth value stands in a number's place somewhere in it, or the reverse
abbrev pub sort_of : RawNote → Option Sort
sort_of (Literal n) = Some Number
sort_of (Constant truth) = Some Truth
sort_of (Location m x) = Some Number
sort_of (Pair m p) = Some Number
sort_of (Cell m x) = given (is_number (sort_of x)) Number
sort_of (StackWord k) = Some Number
sort_of (Total m x y) = given (is_number (sort_of x) && is_number (sort_of y)) Number
sort_of (Named m name) = Some Number
sort_of (Element m name x) = given (is_number (sort_of x)) Number
sort_of (Address name) = Some Number
sort_of (Length name) = Some Number
sort_of (Negative x) = given (is_number (sort_of x)) Number
sort_of (Parity x) = given (is_number (sort_of x)) Number
sort_of (Operate o x y) = given (is_number (sort_of x) && is_number (sort_of y)) Number
sort_of (Compare c x y) = given (is_number (sort_of x) && is_number (sort_of y)) Truth
sort_of (Not p) = given (is_truth (sort_of p)) Truth
sort_of (Connect c p q) = given (is_truth (sort_of p) && is_truth (sort_of q)) Truth
sort_of (Quantify q name x y p) = given ((is_number (sort_of x) && is_number (sort_of y)) && is_truth (sort_of p)) Truth
