-- How large a quantity can become, by its form alone (this project's own).
use Rattle.std.specs.Prelude.{ℕ, ◌+◌, ◌-◌, ◌*◌, ◌^◌, ◌<◌, max, List, [], ◌∷◌, bytes_eq, if◌then◌else◌, ⊤}
use Rattle.sp_isa.specs.Core.{limit}
use Rattle.sp_model.specs.Note.{Operator, Add, Subtract, Multiply, Divide, Modulo, BitAnd, BitOr, BitXor, Quantity, Literal, Location, Pair, Cell, StackWord, Total, Negative, Parity, Operate, Bound, Note, Constant, Compare, Not, Connect, Quantify}

-- the bound names with the bounds of their numbers, the innermost first
abbrev pub NameBounds : Type 0
NameBounds = List (List ℕ × ℕ)

abbrev pub bound_of_name : NameBounds → List ℕ → ℕ
bound_of_name [] name = 0
bound_of_name ((bound, n) ∷ outer) name = if bytes_eq bound name then n else bound_of_name outer name

abbrev pub operator_bound : Operator → ℕ → ℕ → ℕ
operator_bound Add x y = x + y
operator_bound Subtract x y = x + y
operator_bound Multiply x y = x * y
operator_bound Divide x y = x
operator_bound Modulo x y = y
operator_bound BitAnd x y = 255
operator_bound BitOr x y = 255
operator_bound BitXor x y = 255

-- the size of a quantity is at most this: 255 for a register or a cell, 1 for a flag, 65,535 for a pair or a word of the
-- stack, 65,536 cells of 255 for a sum of cells
abbrev pub quantity_bound : NameBounds → Quantity → ℕ
quantity_bound b (Literal n) = n
quantity_bound b (Location m x) = limit x - 1
quantity_bound b (Pair m p) = 65535
quantity_bound b (Cell m x) = 255
quantity_bound b (StackWord k) = 65535
quantity_bound b (Total m x y) = 16711680
quantity_bound b (Negative x) = quantity_bound b x
quantity_bound b (Parity x) = 1
quantity_bound b (Operate o x y) = operator_bound o (quantity_bound b x) (quantity_bound b y)
quantity_bound b (Bound name) = bound_of_name b name

-- a quantity and each part of it has a bound below the limit
abbrev pub IsBelow : ℕ → NameBounds → Quantity → Type 0
IsBelow top b (Literal n) = n < top
IsBelow top b (Location m x) = limit x - 1 < top
IsBelow top b (Pair m p) = 65535 < top
IsBelow top b (Cell m x) = (255 < top) × IsBelow top b x
IsBelow top b (StackWord k) = 65535 < top
IsBelow top b (Total m x y) = (16711680 < top) × IsBelow top b x × IsBelow top b y
IsBelow top b (Negative x) = IsBelow top b x
IsBelow top b (Parity x) = (1 < top) × IsBelow top b x
IsBelow top b (Operate o x y) =
    (operator_bound o (quantity_bound b x) (quantity_bound b y) < top) × IsBelow top b x × IsBelow top b y
IsBelow top b (Bound name) = bound_of_name b name < top

-- each part of a note has a bound below the limit; a bound name has the greater bound of its quantifier's ends
abbrev pub NoteIsBelow : ℕ → NameBounds → Note → Type 0
NoteIsBelow top b (Constant truth) = ⊤
NoteIsBelow top b (Compare c x y) = IsBelow top b x × IsBelow top b y
NoteIsBelow top b (Not p) = NoteIsBelow top b p
NoteIsBelow top b (Connect c p q) = NoteIsBelow top b p × NoteIsBelow top b q
NoteIsBelow top b (Quantify q name x y p) =
    IsBelow top b x × IsBelow top b y
    × NoteIsBelow top ((name, max (quantity_bound b x) (quantity_bound b y)) ∷ b) p

-- no part of the note has a bound of 2 to the power 101 or more
abbrev pub IsNarrow : Note → Type 0
IsNarrow note = NoteIsBelow (2 ^ 101) [] note
