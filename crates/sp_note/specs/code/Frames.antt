-- What waits for an operand while a condition is read.
use Rattle.std.specs.Prelude.{ℕ, ◌+◌, Bool, true, false, bytes_eq, nat_le, if◌then◌else◌, List, [], ◌∷◌, ◌++◌, Option, Some, None}
use Rattle.sp_logic.specs.declared.note.Moment.{Moment}
use Rattle.sp_logic.specs.declared.note.Quantifier.{Quantifier}
use Rattle.sp_logic.specs.View.{moment_of, quantifier_of}
use Rattle.sp_note.specs.declared.frame.Frame as declared
use Rattle.sp_note.specs.declared.frame.Frame.TheVariants as frame
use Rattle.sp_note.specs.declared.word.Bits.{Bits}
use Rattle.sp_note.specs.declared.word.Infix.{Infix}
use Rattle.sp_note.specs.Bounds.{Bounds, greater}
use Rattle.sp_note.specs.Grammar.{rank_of, right_rank, nesting_of}
use Rattle.sp_note.specs.code.Operands.{Known, known_of, joined, inverted, negative, quantified, cell, element, parity, total, two_bits}

-- a part that is begun; the operand after it is its next part
pub data Frame : Type 0 where
  Join : Infix → Known → Frame
  Not : Frame
  Negative : Frame
  Paren : Frame
  Cell : Moment → Frame
  Element : Moment → List ℕ → Frame
  Parity : Frame
  FirstBits : Bits → Frame
  SecondBits : Bits → Known → Frame
  FirstCell : Moment → Frame
  LastCell : Moment → Known → Frame
  LowEnd : Quantifier → List ℕ → Frame
  HighEnd : Quantifier → List ℕ → Known → Frame
  Body : Quantifier → List ℕ → Known → Known → Frame

abbrev pub frame_of : declared.Frame → Frame
frame_of (frame.Infix i x) = Join i (known_of x)
frame_of frame.Not = Not
frame_of frame.Negative = Negative
frame_of frame.Paren = Paren
frame_of (frame.Cell m) = Cell m
frame_of (frame.Element m name) = Element m name
frame_of frame.Parity = Parity
frame_of (frame.FirstBits b) = FirstBits b
frame_of (frame.SecondBits b x) = SecondBits b (known_of x)
frame_of (frame.FirstCell m) = FirstCell m
frame_of (frame.LastCell m x) = LastCell m (known_of x)
frame_of (frame.LowEnd q name) = LowEnd q name
frame_of (frame.HighEnd q name x) = HighEnd q name (known_of x)
frame_of (frame.Body q name x y) = Body q name (known_of x) (known_of y)

-- the rank of what the next operand completes: 10 where only the end of all that is open round it does, 11 where a symbol of
-- its own does
abbrev pub tightness : Frame → ℕ
tightness (Join i x) = rank_of i
tightness Not = 5
tightness Negative = 1
tightness (Body q name x y) = 10
tightness _ = 11

-- the loosest rank of what may follow
abbrev pub room_in : Frame → ℕ
room_in (Join i x) = right_rank i
room_in Not = 5
room_in Negative = 1
room_in (FirstCell m) = 3
room_in (LastCell m x) = 3
room_in (LowEnd q name) = 3
room_in (HighEnd q name x) = 3
room_in _ = 9

abbrev pub room : List Frame → ℕ
room [] = 9
room (f ∷ stack) = room_in f

-- how many it counts as nested round what follows
abbrev pub weight : Frame → ℕ
weight (Join i x) = nesting_of i
weight _ = 1

-- how many are nested
unfoldable pub open_in : List Frame → ℕ
open_in [] = 0
open_in (f ∷ stack) = open_in stack + weight f

-- the bound that it gives this name, if it binds it
abbrev pub binding : Frame → List ℕ → Option ℕ
binding (Body q bound x y) name = if bytes_eq bound name then Some (greater x.bound y.bound) else None
binding _ name = None

-- the names that are bound, with their bounds
unfoldable pub bounds_in : List Frame → Bounds
bounds_in [] = []
bounds_in (Body q name x y ∷ stack) = (name, greater x.bound y.bound) ∷ bounds_in stack
bounds_in (f ∷ stack) = bounds_in stack

-- the part that it is, with its last operand
abbrev pub completed : Frame → Known → Known
completed (Join i left) x = joined i left x
completed Not x = inverted x
completed Negative x = negative x
completed (Body q name first last) x = quantified (quantifier_of q) name first last x
completed _ x = x

-- what a closing symbol makes of the part that is begun and its last operand
abbrev pub parenthesized : Frame → Known → Option Known
parenthesized Paren x = Some x
parenthesized Parity x = Some (parity x)
parenthesized (SecondBits b y) x = Some (two_bits b y x)
parenthesized (LastCell m y) x = Some (total (moment_of m) y x)
parenthesized _ x = None

abbrev pub bracketed : Frame → Known → Option Known
bracketed (Cell m) x = Some (cell (moment_of m) x)
bracketed (Element m name) x = Some (element (moment_of m) name x)
bracketed _ x = None

abbrev pub after_comma : Frame → Known → Option Frame
after_comma (FirstBits b) x = Some (SecondBits b x)
after_comma (FirstCell m) x = Some (LastCell m x)
after_comma _ x = None

abbrev pub after_range : Frame → Known → Option Frame
after_range (LowEnd q name) x = Some (HighEnd q name x)
after_range _ x = None

abbrev pub after_colon : Frame → Known → Option Frame
after_colon (HighEnd q name low) x = Some (Body q name low x)
after_colon _ x = None

-- whether the next operand completes what is on top at this rank
abbrev pub yields : ℕ → List Frame → Bool
yields rank [] = false
yields rank (f ∷ stack) = nat_le (tightness f) rank

-- what is left, and the operand, where an operand completes all that binds as tightly as this rank
unfoldable pub reduced : ℕ → List Frame → Known → List Frame × Known
reduced k [] x = ([], x)
reduced k (f ∷ stack) x = if nat_le (tightness f) k then reduced k stack (completed f x) else (f ∷ stack, x)

-- the frames of the code, the last one first
unfoldable pub stack_onto : List Frame → List declared.Frame → List Frame
stack_onto stack [] = stack
stack_onto stack (f ∷ frames) = stack_onto (frame_of f ∷ stack) frames

abbrev pub stack_of : List declared.Frame → List Frame
stack_of frames = stack_onto [] frames
