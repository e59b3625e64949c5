-- What a word adds to a part of which more has to come.
use Rattle.std.specs.Prelude.{ℕ, List, Option, Some, None}
use Rattle.std.specs.Option.{option_map}
use Rattle.sp_logic.specs.declared.note.Moment.{Moment}
use Rattle.sp_logic.specs.declared.note.Moment.TheVariants.{Now, AtEntry}
use Rattle.sp_logic.specs.declared.note.Quantifier.{Quantifier}
use Rattle.sp_logic.specs.View.{moment_of, pair_of}
use Rattle.sp_note.specs.declared.head.Head.{Head}
use Rattle.sp_note.specs.declared.head.Head.TheVariants as head
use Rattle.sp_note.specs.declared.head.Marked.{Marked}
use Rattle.sp_note.specs.declared.head.Tail.{Tail}
use Rattle.sp_note.specs.declared.head.Tail.TheVariants as tail
use Rattle.sp_note.specs.declared.head.Turn as declared
use Rattle.sp_note.specs.declared.head.Turn.TheVariants as turn
use Rattle.sp_note.specs.declared.head.Place as declared_place
use Rattle.sp_note.specs.declared.head.Place.TheVariants as place
use Rattle.sp_note.specs.declared.word.Measure.{Measure}
use Rattle.sp_note.specs.declared.word.Word.{Word}
use Rattle.sp_note.specs.declared.word.Word.TheVariants as words
use Rattle.sp_note.specs.code.Frames.{Frame, Cell, Element, FirstCell, Parity, FirstBits, LowEnd, frame_of}
use Rattle.sp_note.specs.code.Operands.{Known, known_of, location, pair, named}

pub data Turn : Type 0 where
  Heads : Head → Turn
  Opens : Frame → Turn
  Measures : Measure → List ℕ → Turn

abbrev pub turn_of : declared.Turn → Turn
turn_of (turn.Head h) = Heads h
turn_of (turn.Frame f) = Opens (frame_of f)
turn_of (turn.Measured x name) = Measures x name

pub data Place : Type 0 where
  Start : Place
  After : Known → Tail → Place
  Within : Head → Place

abbrev pub place_of : declared_place.Place → Place
place_of place.Start = Start
place_of (place.After x t) = After (known_of x) t
place_of (place.Head h) = Within h

abbrev pub after_moment : Moment → Option Moment
after_moment Now = Some AtEntry
after_moment AtEntry = None

abbrev pub when_open : Word → Turn → Option Turn
when_open words.Open t = Some t
when_open _ t = None

abbrev pub when_close : Word → Turn → Option Turn
when_close words.Close t = Some t
when_close _ t = None

abbrev pub when_in : Word → Turn → Option Turn
when_in words.In t = Some t
when_in _ t = None

abbrev pub name_in : Word → Option (List ℕ)
name_in (words.Name name) = Some name
name_in _ = None

abbrev pub quantifier_in : Word → Option Quantifier
quantifier_in (words.Quantifier q) = Some q
quantifier_in _ = None

abbrev pub cell_turn : Moment → Word → Option Turn
cell_turn m words.AtEntry = option_map (λ n. Heads (head.Mem n)) (after_moment m)
cell_turn m words.OpenBracket = Some (Opens (Cell m))
cell_turn m _ = None

abbrev pub total_turn : Moment → Word → Option Turn
total_turn m words.AtEntry = option_map (λ n. Heads (head.Total n)) (after_moment m)
total_turn m words.Open = Some (Opens (FirstCell m))
total_turn m _ = None

unfoldable pub turned : Head → Word → Option Turn
turned (head.Mem m) w = cell_turn m w
turned (head.Total m) w = total_turn m w
turned head.Par w = when_open w (Opens Parity)
turned (head.Bits b) w = when_open w (Opens (FirstBits b))
turned (head.Measure x) w = when_open w (Heads (head.Open x))
turned (head.Open x) w = option_map (λ name. Heads (head.Measured x name)) (name_in w)
turned (head.Measured x name) w = when_close w (Measures x name)
turned head.For w = option_map (λ q. Heads (head.Quantifier q)) (quantifier_in w)
turned (head.Quantifier q) w = option_map (λ name. Heads (head.Binding q name)) (name_in w)
turned (head.Binding q name) w = when_in w (Opens (LowEnd q name))

abbrev pub marks : Marked → Known × Tail
marks m = (known_of m.operand, m.tail)

-- an operand with ~ after it
abbrev pub marked : Tail → Option (Known × Tail)
marked tail.None = None
marked (tail.Location x) = Some (location (moment_of AtEntry) x, tail.None)
marked (tail.Pair p) = Some (pair (moment_of AtEntry) (pair_of p), tail.None)
marked (tail.Name name) = Some (named (moment_of AtEntry) name 65535, tail.Entry name)
marked (tail.Entry name) = None

-- a name with [ after it
abbrev pub element_after : Tail → Option Frame
element_after tail.None = None
element_after (tail.Location x) = None
element_after (tail.Pair p) = None
element_after (tail.Name name) = Some (Element Now name)
element_after (tail.Entry name) = Some (Element AtEntry name)
