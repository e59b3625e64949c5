-- Annotations with numbers in place of names (this project's own).
use Rattle.std.specs.Prelude.{ℕ, ◌+◌, Bool, List, ◌∷◌, Option, Some, None, bytes_eq, if◌then◌else◌}
use Rattle.std.specs.List.{list_any}
use Rattle.std.specs.Option.{option_map, option_and_then}
use Rattle.sp_model.specs.Note as model
use Rattle.sp_model.specs.Note.{Moment, Now, AtEntry, Quantity, Note, Operator}
use Rattle.sp_note.specs.RawNotes.{RawNote, Literal, Constant, Location, Pair, Cell, StackWord, Total, Named, Element, Address, Length, Negative, Parity, Operate, Compare, Not, Connect, Quantify}
use Rattle.sp_prog.specs.declared.area.Area.{Area}
use Rattle.sp_prog.specs.declared.area.AreaKind.{AreaKind}
use Rattle.sp_prog.specs.declared.area.AreaKind.TheVariants as kind

-- what the names of a source mean: areas, and numbers of the assembler
pub record Meanings : Type 0 where
  pub areas : List ℕ → Option Area
  pub names : List ℕ → Option ℕ

-- the bound names round a part, the innermost first
abbrev pub Bound : Type 0
Bound = List (List ℕ)

abbrev pub is_bound : Bound → List ℕ → Bool
is_bound bound name = list_any (λ inner. bytes_eq inner name) bound

-- the area that a name means: a bound name hides it
abbrev pub area_named : Meanings → Bound → List ℕ → Option Area
area_named m bound name = if is_bound bound name then None else m.areas name

-- the cell at an address
abbrev pub cell : Moment → ℕ → Quantity
cell moment a = model.Cell moment (model.Literal a)

-- what the name of an area stands for alone: the cell of a byte, the low cell of a word plus 256 times the next, and nothing
-- for bytes
abbrev pub content : Moment → AreaKind → ℕ → Option Quantity
content moment kind.Byte a = Some (cell moment a)
content moment kind.Word a = Some (model.Operate model.Add (cell moment a) (model.Operate model.Multiply (model.Literal 256) (cell moment (a + 1))))
content moment kind.Bytes a = None

-- a cell of bytes by its number
abbrev pub element : Moment → AreaKind → ℕ → Quantity → Option Quantity
element moment kind.Bytes a n = Some (model.Cell moment (model.Operate model.Add (model.Literal a) n))
element moment kind.Byte a n = None
element moment kind.Word a n = None

-- what a name of the assembler or a bound name stands for: it has no value at entry
abbrev pub at_moment : Moment → Quantity → Option Quantity
at_moment Now x = Some x
at_moment AtEntry x = None

-- an area, or else a name of the assembler
abbrev pub free_name : Meanings → Moment → List ℕ → Option Area → Option Quantity
free_name m moment name (Some area) = content moment area.kind area.addr
free_name m moment name None = option_and_then (λ n. at_moment moment (model.Literal n)) (m.names name)

-- what a name alone stands for: a bound name, then an area, then a name of the assembler
abbrev pub named : Meanings → Bound → Moment → List ℕ → Option Quantity
named m bound moment name = if is_bound bound name then at_moment moment (model.Bound name) else free_name m moment name (m.areas name)

-- two parts where both have meanings
abbrev pub both : {A B C : Type 0} → (A → B → C) → Option A → Option B → Option C
both f (Some x) (Some y) = Some (f x y)
both f (Some x) None = None
both f None y = None

-- two numbers
abbrev pub pair : Option Quantity → Option Quantity → Option (Quantity × Quantity)
pair = both (λ x y. (x, y))

-- a quantifier with its ends and its note
abbrev pub quantified : model.Quantifier → List ℕ → Quantity × Quantity → Note → Note
quantified q name ends note = model.Quantify q name ends.0 ends.1 note

-- a number with its names resolved; none where a name has no meaning, or for what is no number
abbrev pub number : Meanings → Bound → RawNote → Option Quantity
number m bound (Literal n) = Some (model.Literal n)
number m bound (Location moment x) = Some (model.Location moment x)
number m bound (Pair moment p) = Some (model.Pair moment p)
number m bound (StackWord k) = Some (model.StackWord k)
number m bound (Named moment name) = named m bound moment name
number m bound (Address name) = option_map (λ (area : Area). model.Literal area.addr) (area_named m bound name)
number m bound (Length name) = option_map (λ (area : Area). model.Literal area.len) (area_named m bound name)
number m bound (Cell moment x) = option_map (model.Cell moment) (number m bound x)
number m bound (Element moment name x) =
    option_and_then (λ (area : Area). option_and_then (element moment area.kind area.addr) (number m bound x)) (area_named m bound name)
number m bound (Negative x) = option_map model.Negative (number m bound x)
number m bound (Parity x) = option_map model.Parity (number m bound x)
number m bound (Total moment x y) = both (model.Total moment) (number m bound x) (number m bound y)
number m bound (Operate o x y) = both (model.Operate o) (number m bound x) (number m bound y)
number m bound (Constant truth) = None
number m bound (Compare c x y) = None
number m bound (Not p) = None
number m bound (Connect c p q) = None
number m bound (Quantify q name x y p) = None

-- an annotation with its names resolved; a quantifier binds its name in its note, and not in its ends
abbrev pub condition : Meanings → Bound → RawNote → Option Note
condition m bound (Constant truth) = Some (model.Constant truth)
condition m bound (Compare c x y) = both (model.Compare c) (number m bound x) (number m bound y)
condition m bound (Not p) = option_map model.Not (condition m bound p)
condition m bound (Connect c p q) = both (model.Connect c) (condition m bound p) (condition m bound q)
condition m bound (Quantify q name x y p) =
    both (quantified q name) (pair (number m bound x) (number m bound y)) (condition m (name ∷ bound) p)
condition m bound _ = None
