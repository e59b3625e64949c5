-- How large the number of an annotation can become, by its form alone (this project's own).
use Rattle.std.specs.Prelude.{ℕ, ◌+◌, ◌-◌, ◌*◌, ◌^◌, max, nat_lt, bytes_eq, if◌then◌else◌, List, [], ◌∷◌, Option, Some, None, unwrap_or}
use Rattle.sp_base.specs.declared.location.Loc.{Loc}
use Rattle.sp_isa.specs.Core.{limit}
use Rattle.sp_model.specs.Note.{Moment, Now, AtEntry, Operator, Add, Subtract, Multiply, Divide, Modulo, BitAnd, BitOr, BitXor}
use Rattle.sp_note.specs.RawNotes.{RawNote, Literal, Constant, Location, Pair, Cell, StackWord, Total, Named, Element, Address, Length, Negative, Parity, Operate, Compare, Not, Connect, Quantify}

-- the bound names with the bounds of their numbers, the innermost first
abbrev pub Bounds : Type 0
Bounds = List (List ℕ × ℕ)

-- the bound of a name alone: that of its innermost quantifier, or that of a word of two bytes
abbrev pub bound_of_name : Bounds → List ℕ → ℕ
bound_of_name [] name = 65535
bound_of_name ((bound, n) ∷ outer) name = if bytes_eq bound name then n else bound_of_name outer name

-- a name with ~ is never bound
abbrev pub named_bound : Bounds → Moment → List ℕ → ℕ
named_bound b Now name = bound_of_name b name
named_bound b AtEntry name = 65535

-- a bound that the numbers of annotations may have: one below 2 to the power 100
abbrev pub below : ℕ → Option ℕ
below n = if nat_lt n (2 ^ 100) then Some n else None

-- a bound where all parts have theirs
abbrev pub kept : Option ℕ → ℕ → Option ℕ
kept (Some part) n = Some n
kept None n = None

abbrev pub either : Option ℕ → Option ℕ → ℕ → Option ℕ
either (Some x) y n = kept y n
either None y n = None

abbrev pub operator_bound : Operator → ℕ → ℕ → ℕ
operator_bound Add x y = x + y
operator_bound Subtract x y = x + y
operator_bound Multiply x y = x * y
operator_bound Divide x y = x
operator_bound Modulo x y = y
operator_bound BitAnd x y = 255
operator_bound BitOr x y = 255
operator_bound BitXor x y = 255

abbrev pub operated : Operator → Option ℕ → Option ℕ → Option ℕ
operated o (Some x) (Some y) = below (operator_bound o x y)
operated o (Some x) None = None
operated o None y = None

-- the bound of a quantifier's name: the greater one of its ends
abbrev pub greater : Option ℕ → Option ℕ → ℕ
greater x y = max (unwrap_or x 0) (unwrap_or y 0)

-- a register has a byte, a flag a bit
abbrev pub location_bound : Loc → ℕ
location_bound x = limit x - 1

-- the size of the number is at most this, and 0 for a truth value; none where the bound of some part reaches 2 to the power 100
abbrev pub bound_of : Bounds → RawNote → Option ℕ
bound_of b (Literal n) = below n
bound_of b (Constant truth) = Some 0
bound_of b (Location m x) = Some (location_bound x)
bound_of b (Pair m p) = Some 65535
bound_of b (Cell m x) = kept (bound_of b x) 255
bound_of b (StackWord k) = Some 65535
bound_of b (Total m x y) = either (bound_of b x) (bound_of b y) 16711680
bound_of b (Named m name) = Some (named_bound b m name)
bound_of b (Element m name x) = kept (bound_of b x) 255
bound_of b (Address name) = Some 65535
bound_of b (Length name) = Some 65535
bound_of b (Negative x) = bound_of b x
bound_of b (Parity x) = kept (bound_of b x) 1
bound_of b (Operate o x y) = operated o (bound_of b x) (bound_of b y)
bound_of b (Compare c x y) = either (bound_of b x) (bound_of b y) 0
bound_of b (Not p) = kept (bound_of b p) 0
bound_of b (Connect c p q) = either (bound_of b p) (bound_of b q) 0
bound_of b (Quantify q name x y p) =
    either (bound_of b x) (either (bound_of b y) (bound_of ((name, greater (bound_of b x) (bound_of b y)) ∷ b) p) 0) 0
