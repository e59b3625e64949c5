-- Reading a condition word by word.
use Rattle.std.specs.Prelude.{◌≡◌, ℕ, ◌+◌, true, false, max, nat_lt, if◌then◌else◌, List, [], ◌∷◌, Option, Some, None, Result, Ok, Err, MatchOption, ⊤}
use Rattle.std.specs.Option.{option_map, option_and_then}
use Rattle.sp_logic.specs.declared.note.Moment.TheVariants.{Now, AtEntry}
use Rattle.sp_logic.specs.View.{moment_of, pair_of}
use Rattle.sp_note.specs.declared.frame.Frame as declared_frame
use Rattle.sp_note.specs.declared.head.Head.{Head}
use Rattle.sp_note.specs.declared.head.Head.TheVariants as head
use Rattle.sp_note.specs.declared.head.Tail.{Tail}
use Rattle.sp_note.specs.declared.head.Tail.TheVariants as tail
use Rattle.sp_note.specs.declared.operand.Operand.{Operand}
use Rattle.sp_note.specs.declared.parser.Condition.{Condition}
use Rattle.sp_note.specs.declared.parser.Inner.{Inner}
use Rattle.sp_note.specs.declared.parser.Parser as declared
use Rattle.sp_note.specs.declared.refusal.LineRefusal.{LineRefusal}
use Rattle.sp_note.specs.declared.refusal.LineRefusal.TheVariants as line
use Rattle.sp_note.specs.declared.refusal.NoteKind.TheVariants as kind
use Rattle.sp_note.specs.declared.word.Infix.{Infix}
use Rattle.sp_note.specs.declared.word.Infix.TheVariants as op
use Rattle.sp_note.specs.declared.word.Word.{Word}
use Rattle.sp_note.specs.declared.word.Word.TheVariants as words
use Rattle.sp_note.specs.Bounds.{bound_of_name}
use Rattle.sp_note.specs.Grammar.{rank_of, left_rank}
use Rattle.sp_note.specs.code.Frames.{Frame, Join, Not, Negative, Paren, Cell, Element, Parity, FirstBits, SecondBits, FirstCell, LastCell, LowEnd, HighEnd, Body, frame_of, room, yields, open_in, bounds_in, completed, reduced, parenthesized, bracketed, after_comma, after_range, after_colon, stack_of}
use Rattle.sp_note.specs.code.Heads.{Turn, Heads, Opens, Measures, Place, Start, After, Within, place_of, turned, marked, element_after}
use Rattle.sp_note.specs.code.Operands.{Known, known_of, number, constant, location, pair, stack_word, named, measured, cell, element, parity, total, two_bits}

-- what waits for an operand, the innermost first; what was read last; and how many constructs were nested at most
pub record State : Type 0 where
  pub stack : List Frame
  pub place : Place
  pub most : ℕ

abbrev pub state : List Frame → Place → ℕ → State
state stack place most = record { stack = stack; place = place; most = most }

abbrev pub state_of : declared.Parser → State
state_of p = state (stack_of p.frames.items) (place_of p.place) p.most

abbrev pub start : State
start = state [] Start 0

abbrev pub placed : State → Place → State
placed s place = state s.stack place s.most

abbrev pub pushed : State → Frame → State
pushed s f = state (f ∷ s.stack) Start (max s.most (open_in (f ∷ s.stack)))

-- ---- where an operand is to come

abbrev pub inverting : State → Option State
inverting s = if nat_lt (room s.stack) 5 then None else Some (pushed s Not)

abbrev pub quantifying : State → Option State
quantifying s = if nat_lt (room s.stack) 5 then None else Some (placed s (Within head.For))

abbrev pub signing : State → Infix → Option State
signing s op.Subtract = Some (pushed s Negative)
signing s _ = None

unfoldable pub start_step : State → Word → Option State
start_step s (words.Number n) = Some (placed s (After (number n) tail.None))
start_step s (words.Constant truth) = Some (placed s (After (constant truth) tail.None))
start_step s (words.Location x) = Some (placed s (After (location (moment_of Now) x) (tail.Location x)))
start_step s (words.Pair p) = Some (placed s (After (pair (moment_of Now) (pair_of p)) (tail.Pair p)))
start_step s (words.StackWord k) = Some (placed s (After (stack_word k) tail.None))
start_step s (words.Name name) =
    Some (placed s (After (named (moment_of Now) name (bound_of_name (bounds_in s.stack) name)) (tail.Name name)))
start_step s (words.Infix i) = signing s i
start_step s words.Not = inverting s
start_step s words.Mem = Some (placed s (Within (head.Mem Now)))
start_step s words.Total = Some (placed s (Within (head.Total Now)))
start_step s words.Par = Some (placed s (Within head.Par))
start_step s (words.Bits b) = Some (placed s (Within (head.Bits b)))
start_step s (words.Measure x) = Some (placed s (Within (head.Measure x)))
start_step s words.For = quantifying s
start_step s words.Open = Some (pushed s Paren)
start_step s _ = None

-- ---- where some words of one have come

abbrev pub measured_in : State → Known → State
measured_in s x = state s.stack (After x tail.None) (max s.most (open_in s.stack + 1))

abbrev pub taken : State → Turn → State
taken s (Heads h) = placed s (Within h)
taken s (Opens f) = pushed s f
taken s (Measures x name) = measured_in s (measured x name)

-- ---- where one has come

abbrev pub joined_by : State → Infix → List Frame × Known → Option State
joined_by s i r = if nat_lt (room r.0) (rank_of i) then None else Some (pushed (state r.0 Start s.most) (Join i r.1))

abbrev pub joining : State → Infix → Known → Option State
joining s i x = joined_by s i (reduced (left_rank i) s.stack x)

abbrev pub marking : State → Tail → Option State
marking s t = option_map (λ y. placed s (After y.0 y.1)) (marked t)

abbrev pub indexing : State → Tail → Option State
indexing s t = option_map (pushed s) (element_after t)

abbrev pub closed_by : (Frame → Known → Option Known) → ℕ → List Frame → Known → Option State
closed_by how most [] x = None
closed_by how most (f ∷ stack) x = option_map (λ y. state stack (After y tail.None) most) (how f x)

abbrev pub divided_by : (Frame → Known → Option Frame) → ℕ → List Frame → Known → Option State
divided_by how most [] x = None
divided_by how most (f ∷ stack) x = option_map (λ g. pushed (state stack Start most) g) (how f x)

abbrev pub closing : (Frame → Known → Option Known) → State → Known → Option State
closing how s x = let r = reduced 10 s.stack x in closed_by how s.most r.0 r.1

abbrev pub dividing : (Frame → Known → Option Frame) → State → Known → Option State
dividing how s x = let r = reduced 10 s.stack x in divided_by how s.most r.0 r.1

unfoldable pub after_step : State → Known → Tail → Word → Option State
after_step s x t words.AtEntry = marking s t
after_step s x t words.OpenBracket = indexing s t
after_step s x t (words.Infix i) = joining s i x
after_step s x t words.Close = closing parenthesized s x
after_step s x t words.CloseBracket = closing bracketed s x
after_step s x t words.Comma = dividing after_comma s x
after_step s x t words.Range = dividing after_range s x
after_step s x t words.Colon = dividing after_colon s x
after_step s x t _ = None

-- ---- a word, and all words

abbrev pub heading : State → Head → Word → Option State
heading s h w = option_map (taken s) (turned h w)

abbrev pub step_at : State → Place → Word → Option State
step_at s Start w = start_step s w
step_at s (After x t) w = after_step s x t w
step_at s (Within h) w = heading s h w

abbrev pub step : State → Word → Option State
step s w = step_at s s.place w

unfoldable pub run : State → List Word → Option State
run s [] = Some s
run s (w ∷ ws) = option_and_then (λ t. run t ws) (step s w)

abbrev pub whole_of : ℕ → List Frame × Known → Option (Known × ℕ)
whole_of most ([], x) = Some (x, most)
whole_of most (f ∷ stack, x) = None

-- the condition, where all that is begun is complete, and how deep it nests
abbrev pub ended_at : State → Place → Option (Known × ℕ)
ended_at s Start = None
ended_at s (After x t) = whole_of s.most (reduced 10 s.stack x)
ended_at s (Within h) = None

abbrev pub ended : State → Option (Known × ℕ)
ended s = ended_at s s.place

unfoldable pub parsed : List Word → Option (Known × ℕ)
parsed ws = option_and_then ended (run start ws)

-- ---- what waits is taken from the top

pub record IsPopped (old new : State) (f : declared_frame.Frame) : Type 0 where
  pub top : old.stack ≡ frame_of f ∷ new.stack
  pub place : new.place ≡ old.place
  pub most : new.most ≡ old.most

-- the part on top, where an operand completes it at this rank
abbrev pub PopsWithin : ℕ → State → State → Option declared_frame.Frame → Type 0
PopsWithin rank old new result =
    MatchOption result ((new ≡ old) × (yields rank old.stack ≡ false)) (λ f. IsPopped old new f × (yields rank old.stack ≡ true))

-- what is left after all parts that bind as tightly as a rank are complete
abbrev pub ReducesTo : ℕ → State → Known → State → Result Operand LineRefusal → Type 0
ReducesTo rank old x new (Ok y) =
    (reduced rank old.stack x ≡ (new.stack, known_of y)) × (new.place ≡ old.place) × (new.most ≡ old.most)
ReducesTo rank old x new (Err (line.Kind kind)) = ⊥
ReducesTo rank old x new (Err line.Memory) = ⊤

-- the part that a symbol closes, what stands round it, and its operand
abbrev pub ClosesTo : State → Known → Result Inner LineRefusal → Type 0
ClosesTo s x (Ok inner) =
    (reduced 10 s.stack x ≡ (frame_of inner.frame ∷ (state_of inner.parser).stack, known_of inner.operand)) × (inner.parser.most ≡ s.most)
ClosesTo s x (Err (line.Kind kind.Syntax)) = (y : Known) × (reduced 10 s.stack x ≡ ([], y))
ClosesTo s x (Err (line.Kind kind.TooDeep)) = ⊥
ClosesTo s x (Err (line.Kind kind.Sort)) = ⊥
ClosesTo s x (Err (line.Kind kind.Wide)) = ⊥
ClosesTo s x (Err line.Memory) = ⊤

abbrev pub seen : Condition → Known × ℕ
seen c = (known_of c.operand, c.depth)
