-- A condition is read as it is written: the words of a tree take the reader to its meaning.
use Rattle.std.proofs.Common.{◌≡◌, ℕ, ◌+◌, ◌<◌, ◌≤◌, max, Bool, true, false, cond, List, [], ◌∷◌, ◌++◌, Option, Some, None, refl, sym, ap, subst, inl, inr, ◌∙◌, append_assoc, arith}
use Rattle.std.proofs.lemmas.Bool.Decides.{nat_tests}
use Rattle.std.specs.Prelude.{◌⊎◌, nat_le, nat_lt}
use Rattle.std.specs.Option.{option_map, option_and_then}
use Rattle.std.proofs.lemmas.List.{append-nil}
use Rattle.sp_logic.specs.declared.note.Moment.{Moment}
use Rattle.sp_logic.specs.declared.note.Quantifier.{Quantifier}
use Rattle.sp_logic.specs.declared.note.Moment.TheVariants.{Now, AtEntry}
use Rattle.sp_logic.specs.View.{moment_of, pair_of, quantifier_of}
use Rattle.sp_note.specs.declared.head.Tail.{Tail}
use Rattle.sp_note.specs.declared.head.Tail.TheVariants as tail
use Rattle.sp_note.specs.declared.head.Head.TheVariants as head
use Rattle.sp_note.specs.declared.word.Bits.TheVariants as bits
use Rattle.sp_note.specs.declared.word.Infix.{Infix}
use Rattle.sp_note.specs.declared.word.Infix.TheVariants as op
use Rattle.sp_note.specs.declared.word.Bits.{Bits}
use Rattle.sp_note.specs.declared.word.Measure.{Measure}
use Rattle.sp_note.specs.declared.word.Measure.TheVariants as measure
use Rattle.sp_note.specs.declared.word.Word.{Word}
use Rattle.sp_note.specs.declared.word.Word.TheVariants as words
use Rattle.sp_note.specs.Bounds.{Bounds, bound_of_name}
use Rattle.sp_note.specs.Grammar as grammar
use Rattle.sp_note.specs.Grammar.{Tree, rank_of, left_rank, right_rank, rank_of_tree, ends_open, IsCondition, mark, spelling, depth_of, nesting_of}
use Rattle.sp_note.specs.Meaning.{joining, bits_of, meaning_of}
use Rattle.sp_note.specs.RawNotes as raw
use Rattle.sp_note.specs.RawNotes.{RawNote}
use Rattle.sp_note.specs.Sorts.{sort_of}
use Rattle.sp_note.specs.code.Frames as frames
use Rattle.sp_note.specs.code.Frames.{Frame, Join, tightness, room, room_in, weight, open_in, bounds_in, completed, reduced, parenthesized, bracketed, after_comma, after_range, after_colon}
use Rattle.sp_note.specs.code.Heads.{Place, Start, After, Within, turned}
use Rattle.sp_note.specs.code.Operands.{Known, known, joined, with_known, number, constant, location, pair, stack_word, named, measured, cell, element, parity, total, two_bits, negative, inverted, quantified}
use Rattle.sp_note.specs.code.Parser as parser
use Rattle.sp_note.specs.code.Parser.{State, state, start_step, after_step, step, run, closed_by, divided_by}
use Rattle.sp_note.proofs.StackLemmas.{open_on}

-- ---- a word

pub run-step : (s next : State) (w : Word) (ws : List Word) → step s w ≡ Some next → run s (w ∷ ws) ≡ run next ws
unfolding run
run-step s next w ws e = ap (option_and_then (λ t. run t ws)) e

-- ---- ranks

pub infix_rank : (i : Infix) → (rank_of i ≤ 9) × (left_rank i ≤ 9) × (2 ≤ rank_of i)
infix_rank op.Iff = (omega arith, omega arith, omega arith)
infix_rank op.Implies = (omega arith, omega arith, omega arith)
infix_rank op.Or = (omega arith, omega arith, omega arith)
infix_rank op.And = (omega arith, omega arith, omega arith)
infix_rank (op.Compare c) = (omega arith, omega arith, omega arith)
infix_rank op.Add = (omega arith, omega arith, omega arith)
infix_rank op.Subtract = (omega arith, omega arith, omega arith)
infix_rank op.Multiply = (omega arith, omega arith, omega arith)
infix_rank op.Divide = (omega arith, omega arith, omega arith)
infix_rank op.Modulo = (omega arith, omega arith, omega arith)

-- the right part of an operator is as tight as a left part can be
pub right_within : (i : Infix) → right_rank i ≤ rank_of i
right_within op.Iff = omega arith
right_within op.Implies = omega arith
right_within op.Or = omega arith
right_within op.And = omega arith
right_within (op.Compare c) = omega arith
right_within op.Add = omega arith
right_within op.Subtract = omega arith
right_within op.Multiply = omega arith
right_within op.Divide = omega arith
right_within op.Modulo = omega arith

pub tree_rank : (t : Tree) → rank_of_tree t ≤ 9
tree_rank (grammar.Joined i x y) = (infix_rank i).0
tree_rank (grammar.Quantified q name x y p) = omega arith
tree_rank (grammar.Not p) = omega arith
tree_rank (grammar.Negative x) = omega arith
tree_rank (grammar.Number n) = omega arith
tree_rank (grammar.Constant truth) = omega arith
tree_rank (grammar.Location m x) = omega arith
tree_rank (grammar.Pair m p) = omega arith
tree_rank (grammar.StackWord k) = omega arith
tree_rank (grammar.Named m name) = omega arith
tree_rank (grammar.Measured x name) = omega arith
tree_rank (grammar.Cell m x) = omega arith
tree_rank (grammar.Element m name x) = omega arith
tree_rank (grammar.Total m x y) = omega arith
tree_rank (grammar.Parity x) = omega arith
tree_rank (grammar.TwoBits b x y) = omega arith
tree_rank (grammar.Paren x) = omega arith

-- ---- completing parts

pub reduced-on : (k : ℕ) (f : Frame) (stack : List Frame) (x : Known) → tightness f ≤ k → reduced k (f ∷ stack) x ≡ reduced k stack (completed f x)
unfolding reduced
reduced-on k f stack x le =
    let yes : nat_le (tightness f) k ≡ true = grind (arith, nat_tests) in
    ap (λ b. cond b (reduced k stack (completed f x)) (f ∷ stack, x)) yes

pub reduced-at : (k : ℕ) (f : Frame) (stack : List Frame) (x : Known) → k < tightness f → reduced k (f ∷ stack) x ≡ (f ∷ stack, x)
unfolding reduced
reduced-at k f stack x lt =
    let no : nat_le (tightness f) k ≡ false = grind (arith, nat_tests) in
    ap (λ b. cond b (reduced k stack (completed f x)) (f ∷ stack, x)) no

pub reduced-nil : (k : ℕ) (x : Known) → reduced k [] x ≡ ([], x)
unfolding reduced
reduced-nil k x = refl

-- an operator that a part has room for doesn't complete it
pub left_within : (i : Infix) → left_rank i ≤ rank_of i
left_within op.Iff = omega arith
left_within op.Implies = omega arith
left_within op.Or = omega arith
left_within op.And = omega arith
left_within (op.Compare c) = omega arith
left_within op.Add = omega arith
left_within op.Subtract = omega arith
left_within op.Multiply = omega arith
left_within op.Divide = omega arith
left_within op.Modulo = omega arith

pub left_of_eight : (i : Infix) → rank_of i ≤ 8 → left_rank i ≤ 7
left_of_eight op.Iff h = omega arith
left_of_eight op.Implies h = omega arith
left_of_eight op.Or h = omega arith
left_of_eight op.And h = omega arith
left_of_eight (op.Compare c) h = omega arith
left_of_eight op.Add h = omega arith
left_of_eight op.Subtract h = omega arith
left_of_eight op.Multiply h = omega arith
left_of_eight op.Divide h = omega arith
left_of_eight op.Modulo h = omega arith

pub left_of_five : (i : Infix) → rank_of i ≤ 5 → left_rank i ≤ 3
left_of_five op.Iff h = omega arith
left_of_five op.Implies h = omega arith
left_of_five op.Or h = omega arith
left_of_five op.And h = omega arith
left_of_five (op.Compare c) h = omega arith
left_of_five op.Add h = omega arith
left_of_five op.Subtract h = omega arith
left_of_five op.Multiply h = omega arith
left_of_five op.Divide h = omega arith
left_of_five op.Modulo h = omega arith

right_of : (j : Infix) → (right_rank j < rank_of j) ⊎ ((right_rank j ≤ 8) × (8 ≤ rank_of j))
right_of op.Iff = inl (omega arith)
right_of op.Implies = inr (omega arith, omega arith)
right_of op.Or = inl (omega arith)
right_of op.And = inl (omega arith)
right_of (op.Compare c) = inl (omega arith)
right_of op.Add = inl (omega arith)
right_of op.Subtract = inl (omega arith)
right_of op.Multiply = inl (omega arith)
right_of op.Divide = inl (omega arith)
right_of op.Modulo = inl (omega arith)

join_blocks : (i j : Infix) → rank_of i ≤ right_rank j → left_rank i < rank_of j
join_blocks i j h =
    elim (right_of j) [
      | inl less ↦ (let w = left_within i in omega (arith, w, less))
      | inr eight ↦ (let low = eight.0 in let high = eight.1 in let w = left_of_eight i (omega (arith, low)) in omega (arith, w, high))
    ]

pub room_blocks : (i : Infix) (f : Frame) → rank_of i ≤ room_in f → left_rank i < tightness f
room_blocks i (Join j x) h = join_blocks i j h
room_blocks i frames.Not h = let w = left_of_five i h in omega (arith, w)
room_blocks i frames.Negative h = let w = (infix_rank i).2 in absurd (omega (arith, w))
room_blocks i (frames.Body q name x y) h = let w = (infix_rank i).1 in omega (arith, w)
room_blocks i frames.Paren h = let w = (infix_rank i).1 in omega (arith, w)
room_blocks i (frames.Cell m) h = let w = (infix_rank i).1 in omega (arith, w)
room_blocks i (frames.Element m name) h = let w = (infix_rank i).1 in omega (arith, w)
room_blocks i frames.Parity h = let w = (infix_rank i).1 in omega (arith, w)
room_blocks i (frames.FirstBits b) h = let w = (infix_rank i).1 in omega (arith, w)
room_blocks i (frames.SecondBits b x) h = let w = (infix_rank i).1 in omega (arith, w)
room_blocks i (frames.FirstCell m) h = let w = (infix_rank i).1 in omega (arith, w)
room_blocks i (frames.LastCell m x) h = let w = (infix_rank i).1 in omega (arith, w)
room_blocks i (frames.LowEnd q name) h = let w = (infix_rank i).1 in omega (arith, w)
room_blocks i (frames.HighEnd q name x) h = let w = (infix_rank i).1 in omega (arith, w)

-- so it leaves what waits
pub reduced-room : (i : Infix) (stack : List Frame) (x : Known) → rank_of i ≤ room stack → reduced (left_rank i) stack x ≡ (stack, x)
reduced-room i [] x h = reduced-nil (left_rank i) x
reduced-room i (f ∷ stack) x h = reduced-at (left_rank i) f stack x (room_blocks i f h)

pub open_join : (i : Infix) (x : Known) (stack : List Frame) → open_in (Join i x ∷ stack) ≡ open_in stack + nesting_of i
open_join i x stack = open_on (Join i x) stack

pub open_in-nested : (f : Frame) (stack : List Frame) → weight f ≡ 1 → open_in (f ∷ stack) ≡ open_in stack + 1
open_in-nested f stack e = open_on f stack ∙ ap (λ w. open_in stack + w) e

pub joined_known : (i : Infix) (b : Bounds) (x y : RawNote) → joined i (known b x) (known b y) ≡ known b (joining i x y)
joined_known op.Iff b x y = refl
joined_known op.Implies b x y = refl
joined_known op.Or b x y = refl
joined_known op.And b x y = refl
joined_known (op.Compare c) b x y = refl
joined_known op.Add b x y = refl
joined_known op.Subtract b x y = refl
joined_known op.Multiply b x y = refl
joined_known op.Divide b x y = refl
joined_known op.Modulo b x y = refl

-- ---- what reading a condition comes to

-- the operand that is read last, and what waits before it, are completed to the meaning of the tree
pub record Taken (t : Tree) (stack : List Frame) (high : ℕ) (next : State) : Type 0 where
  pub operand : Known
  pub tail : Tail
  pub place : next.place ≡ After operand tail
  pub reduces : (k : ℕ) → rank_of_tree t ≤ k → (ends_open t ≡ true → 10 ≤ k)
      → reduced k next.stack operand ≡ reduced k stack (known (bounds_in stack) (meaning_of t))
  pub most : next.most ≡ max high (open_in stack + depth_of t)

abbrev pub Takes : Tree → List Frame → ℕ → Type 0
Takes t stack high =
    (next : State) × Taken t stack high next × ((ws : List Word) → run (state stack Start high) (spelling t ++ ws) ≡ run next ws)

taken_at : (t : Tree) (stack : List Frame) (high : ℕ) (x : Known) (tail : Tail) (m : ℕ) → x ≡ known (bounds_in stack) (meaning_of t)
    → m ≡ max high (open_in stack + depth_of t) → Taken t stack high (state stack (After x tail) m)
taken_at t stack high x tail m e f = record {
  operand = x;
  tail = tail;
  place = refl;
  reduces = λ k le o. ap (reduced k stack) e;
  most = f;
}

-- a word after an operand
after : (s next : State) (x : Known) (t : Tail) (w : Word) → s.place ≡ After x t → after_step s x t w ≡ Some next → step s w ≡ Some next
after s next x t w place e = ap (λ p. parser.step_at s p w) place ∙ e

-- a tree, a word and what stands after it
then_run : (t : Tree) (w : Word) (rest : List Word) (s mid next : State) → ((ws : List Word) → run s (spelling t ++ ws) ≡ run mid ws) → step mid w ≡ Some next
    → (ws : List Word) → run s ((spelling t ++ w ∷ rest) ++ ws) ≡ run next (rest ++ ws)
then_run t w rest s mid next h e ws = ap (run s) (append_assoc (spelling t) (w ∷ rest) ws) ∙ h (w ∷ (rest ++ ws)) ∙ run-step mid next w (rest ++ ws) e

closes : (how : Frame → Known → Option Known) (s : State) (x y z : Known) (f : Frame) (stack : List Frame) → reduced 10 s.stack x ≡ (f ∷ stack, y) → how f y ≡ Some z
    → parser.closing how s x ≡ Some (state stack (After z tail.None) s.most)
closes how s x y z f stack e h =
    ap (λ (r : List Frame × Known). closed_by how s.most r.0 r.1) e ∙ ap (option_map (λ v. state stack (After v tail.None) s.most)) h

divides : (how : Frame → Known → Option Frame) (s : State) (x y : Known) (f g : Frame) (stack : List Frame) → reduced 10 s.stack x ≡ (f ∷ stack, y) → how f y ≡ Some g
    → parser.dividing how s x ≡ Some (parser.pushed (state stack Start s.most) g)
divides how s x y f g stack e h =
    ap (λ (r : List Frame × Known). divided_by how s.most r.0 r.1) e ∙ ap (option_map (λ v. parser.pushed (state stack Start s.most) v)) h

-- the operand of what is open inside is complete at its closing symbol
inside : (t : Tree) (f : Frame) (stack : List Frame) (high : ℕ) (next : State) (taken : Taken t (f ∷ stack) high next) → tightness f ≡ 11
    → reduced 10 next.stack taken.operand ≡ (f ∷ stack, known (bounds_in (f ∷ stack)) (meaning_of t))
inside t f stack high next taken e =
    let r = tree_rank t in
    taken.reduces 10 (omega (arith, r)) (λ o. omega arith) ∙ reduced-at 10 f stack (known (bounds_in (f ∷ stack)) (meaning_of t)) (omega (arith, e))

-- ---- beginnings of several words

module _ (stack : List Frame) (high : ℕ) where
  abbrev begin : State
  begin = state stack Start high

  open_cell : (m : Moment) (inner ws : List Word)
      → run begin ((words.Mem ∷ (mark m ++ words.OpenBracket ∷ inner)) ++ ws) ≡ run (parser.pushed begin (frames.Cell m)) (inner ++ ws)
  unfolding run start_step turned
  open_cell Now inner ws = refl
  open_cell AtEntry inner ws = refl

  open_element : (m : Moment) (name : List ℕ) (inner ws : List Word)
      → run begin ((words.Name name ∷ (mark m ++ words.OpenBracket ∷ inner)) ++ ws) ≡ run (parser.pushed begin (frames.Element m name)) (inner ++ ws)
  unfolding run start_step after_step
  open_element Now name inner ws = refl
  open_element AtEntry name inner ws = refl

  open_total : (m : Moment) (inner ws : List Word)
      → run begin ((words.Total ∷ (mark m ++ words.Open ∷ inner)) ++ ws) ≡ run (parser.pushed begin (frames.FirstCell m)) (inner ++ ws)
  unfolding run start_step turned
  open_total Now inner ws = refl
  open_total AtEntry inner ws = refl

  open_measured : (x : Measure) (name : List ℕ) (ws : List Word)
      → run begin ((words.Measure x ∷ words.Open ∷ words.Name name ∷ words.Close ∷ []) ++ ws) ≡ run (parser.measured_in begin (measured x name)) ws
  unfolding run start_step turned
  open_measured x name ws = refl

  open_parity : (inner ws : List Word) → run begin ((words.Par ∷ words.Open ∷ inner) ++ ws) ≡ run (parser.pushed begin frames.Parity) (inner ++ ws)
  unfolding run start_step turned
  open_parity inner ws = refl

  open_bits : (b : Bits) (inner ws : List Word) → run begin ((words.Bits b ∷ words.Open ∷ inner) ++ ws) ≡ run (parser.pushed begin (frames.FirstBits b)) (inner ++ ws)
  unfolding run start_step turned
  open_bits b inner ws = refl

  open_paren : (inner ws : List Word) → run begin ((words.Open ∷ inner) ++ ws) ≡ run (parser.pushed begin frames.Paren) (inner ++ ws)
  unfolding run start_step
  open_paren inner ws = refl

  open_sign : (inner ws : List Word) → run begin ((words.Infix op.Subtract ∷ inner) ++ ws) ≡ run (parser.pushed begin frames.Negative) (inner ++ ws)
  unfolding run start_step
  open_sign inner ws = refl

  has_room : 5 ≤ room stack → nat_lt (room stack) 5 ≡ false
  has_room h = grind (arith, nat_tests)

  open_not : (inner ws : List Word) → 5 ≤ room stack → run begin ((words.Not ∷ inner) ++ ws) ≡ run (parser.pushed begin frames.Not) (inner ++ ws)
  unfolding run start_step
  open_not inner ws h = ap (λ b. option_and_then (λ t. run t (inner ++ ws)) (cond b None (Some (parser.pushed begin frames.Not)))) (has_room h)

  open_quantifier : (q : Quantifier) (name : List ℕ) (inner ws : List Word) → 5 ≤ room stack
      → run begin ((words.For ∷ words.Quantifier q ∷ words.Name name ∷ words.In ∷ inner) ++ ws) ≡ run (parser.pushed begin (frames.LowEnd q name)) (inner ++ ws)
  unfolding run start_step turned
  open_quantifier q name inner ws h =
      ap (λ b. option_and_then (λ t. run t (words.Quantifier q ∷ words.Name name ∷ words.In ∷ (inner ++ ws))) (cond b None (Some (parser.placed begin (Within head.For))))) (has_room h)

-- ---- operands in their symbols

measured_known : (x : Measure) (name : List ℕ) (b : Bounds) → measured x name ≡ known b (meaning_of (grammar.Measured x name))
measured_known measure.Address name b = refl
measured_known measure.Length name b = refl

bits_known : (o : Bits) (b : Bounds) (x y : RawNote) → two_bits o (known b x) (known b y) ≡ known b (raw.Operate (bits_of o) x y)
bits_known bits.And b x y = refl
bits_known bits.Or b x y = refl
bits_known bits.Xor b x y = refl

-- the names that are bound are the same in what binds none
bounds_on : (f : Frame) (stack : List Frame) → tightness f ≡ 11 → bounds_in (f ∷ stack) ≡ bounds_in stack
unfolding bounds_in
bounds_on (Join i x) stack e = refl
bounds_on frames.Not stack e = refl
bounds_on frames.Negative stack e = refl
bounds_on (frames.Body q name x y) stack e = absurd (omega (arith, e))
bounds_on frames.Paren stack e = refl
bounds_on (frames.Cell m) stack e = refl
bounds_on (frames.Element m name) stack e = refl
bounds_on frames.Parity stack e = refl
bounds_on (frames.FirstBits b) stack e = refl
bounds_on (frames.SecondBits b x) stack e = refl
bounds_on (frames.FirstCell m) stack e = refl
bounds_on (frames.LastCell m x) stack e = refl
bounds_on (frames.LowEnd q name) stack e = refl
bounds_on (frames.HighEnd q name x) stack e = refl

weight_open : (f : Frame) → tightness f ≡ 11 → weight f ≡ 1
weight_open (Join i x) e = let w = (infix_rank i).0 in absurd (omega (arith, w, e))
weight_open frames.Not e = absurd (omega (arith, e))
weight_open frames.Negative e = absurd (omega (arith, e))
weight_open (frames.Body q name x y) e = refl
weight_open frames.Paren e = refl
weight_open (frames.Cell m) e = refl
weight_open (frames.Element m name) e = refl
weight_open frames.Parity e = refl
weight_open (frames.FirstBits b) e = refl
weight_open (frames.SecondBits b x) e = refl
weight_open (frames.FirstCell m) e = refl
weight_open (frames.LastCell m x) e = refl
weight_open (frames.LowEnd q name) e = refl
weight_open (frames.HighEnd q name x) e = refl

-- a part that is open takes its operand
abbrev Inside : Tree → Frame → List Frame → ℕ → Type 0
Inside t f stack high = Takes t (f ∷ stack) (max high (open_in (f ∷ stack)))

-- the operand of a part that is open inside, as it is known outside
ended_inside : (t : Tree) (f : Frame) (stack : List Frame) (high : ℕ) (next : State) (taken : Taken t (f ∷ stack) high next) → tightness f ≡ 11
    → reduced 10 next.stack taken.operand ≡ (f ∷ stack, known (bounds_in stack) (meaning_of t))
ended_inside t f stack high next taken e =
    inside t f stack high next taken e ∙ ap (λ b. (f ∷ stack, known b (meaning_of t))) (bounds_on f stack e)

-- a part with one operand between symbols of its own
module _ (t whole : Tree) (f : Frame) (how : Frame → Known → Option Known) (w : Word) (z : Known) (stack : List Frame) (high : ℕ) where
  enclosed : tightness f ≡ 11
      → ((s : State) (x : Known) (l : Tail) → after_step s x l w ≡ parser.closing how s x)
      → how f (known (bounds_in stack) (meaning_of t)) ≡ Some z → z ≡ known (bounds_in stack) (meaning_of whole) → depth_of whole ≡ depth_of t + 1
      → ((ws : List Word) → run (state stack Start high) (spelling whole ++ ws) ≡ run (parser.pushed (state stack Start high) f) ((spelling t ++ w ∷ []) ++ ws))
      → Inside t f stack high → Takes whole stack high
  enclosed e step_is makes is deep opens (mid, taken, runs) =
      let next = state stack (After z tail.None) mid.most in
      let closed : after_step mid taken.operand taken.tail w ≡ Some next =
      step_is mid taken.operand taken.tail ∙ closes how mid taken.operand (known (bounds_in stack) (meaning_of t)) z f stack (ended_inside t f stack (max high (open_in (f ∷ stack))) mid taken e) makes in
      let nested = open_in-nested f stack (weight_open f e) in
      let most = taken.most in (
        next,
        taken_at whole stack high z tail.None mid.most is (omega (arith, most, nested, deep)),
        λ ws. opens ws ∙ then_run t w [] (parser.pushed (state stack Start high) f) mid next runs (after mid next taken.operand taken.tail w taken.place closed) ws,
      )

-- a part with two operands between symbols of its own
module _ (x y whole : Tree) (f : Frame) (g : Known → Frame) (makes : Known → Known → Known) (stack : List Frame) (high : ℕ) where
  abbrev first : Known
  first = known (bounds_in stack) (meaning_of x)

  abbrev second : Known
  second = known (bounds_in stack) (meaning_of y)

  two_enclosed : tightness f ≡ 11 → ((k : Known) → tightness (g k) ≡ 11)
      → ((k : Known) → after_comma f k ≡ Some (g k)) → ((k l : Known) → parenthesized (g k) l ≡ Some (makes k l))
      → makes first second ≡ known (bounds_in stack) (meaning_of whole) → depth_of whole ≡ max (depth_of x) (depth_of y) + 1
      → ((ws : List Word) → run (state stack Start high) (spelling whole ++ ws) ≡ run (parser.pushed (state stack Start high) f) ((spelling x ++ words.Comma ∷ (spelling y ++ words.Close ∷ [])) ++ ws))
      → Inside x f stack high → ((higher : ℕ) → open_in (g first ∷ stack) ≤ higher → Takes y (g first ∷ stack) higher) → Takes whole stack high
  unfolding after_step
  two_enclosed e eg commas closed is deep opens (mid, taken, runs) then_y =
      let divided = parser.pushed (state stack Start mid.most) (g first) in
      let comma : after_step mid taken.operand taken.tail words.Comma ≡ Some divided =
      divides after_comma mid taken.operand first f (g first) stack (ended_inside x f stack (max high (open_in (f ∷ stack))) mid taken e) (commas first) in
      let last = then_y (max mid.most (open_in (g first ∷ stack))) (omega arith) in
      let end = last.0 in
      let read = last.1 in
      let z = makes first second in
      let next = state stack (After z tail.None) end.most in
      let close : after_step end read.operand read.tail words.Close ≡ Some next =
      closes parenthesized end read.operand second z (g first) stack (ended_inside y (g first) stack (max mid.most (open_in (g first ∷ stack))) end read (eg first)) (closed first second) in
      let nested = open_in-nested f stack (weight_open f e) in
      let nested_too = open_in-nested (g first) stack (weight_open (g first) (eg first)) in
      let most = taken.most in
      let most_too = read.most in (
        next,
        taken_at whole stack high z tail.None end.most is (omega (arith, most, most_too, nested, nested_too, deep)),
        λ ws. opens ws
            ∙ then_run x words.Comma (spelling y ++ words.Close ∷ []) (parser.pushed (state stack Start high) f) mid divided runs (after mid divided taken.operand taken.tail words.Comma taken.place comma) ws
            ∙ then_run y words.Close [] divided end next last.2 (after end next read.operand read.tail words.Close read.place close) ws,
      )

-- ---- operators and what reaches to the right

joins : (i : Infix) (s : State) (x y : Known) (stack : List Frame) → reduced (left_rank i) s.stack x ≡ (stack, y) → rank_of i ≤ room stack
    → parser.joining s i x ≡ Some (parser.pushed (state stack Start s.most) (Join i y))
joins i s x y stack e h =
    let no : nat_lt (room stack) (rank_of i) ≡ false = grind (arith, nat_tests) in
    ap (λ (r : List Frame × Known). parser.joined_by s i r) e ∙ ap (λ b. cond b None (Some (parser.pushed (state stack Start s.most) (Join i y)))) no

-- a part that its last operand completes
module _ (t whole : Tree) (f : Frame) (stack : List Frame) (high : ℕ) where
  completes : (next : State) (taken : Taken t (f ∷ stack) (max high (open_in (f ∷ stack))) next) → rank_of_tree whole ≡ tightness f → rank_of_tree t ≤ tightness f → ends_open whole ≡ ends_open t
      → bounds_in (f ∷ stack) ≡ bounds_in stack → completed f (known (bounds_in stack) (meaning_of t)) ≡ known (bounds_in stack) (meaning_of whole)
      → max (max high (open_in (f ∷ stack))) (open_in (f ∷ stack) + depth_of t) ≡ max high (open_in stack + depth_of whole) → Taken whole stack high next
  completes next taken rank within ends bound is deep = record {
    operand = taken.operand;
    tail = taken.tail;
    place = taken.place;
    reduces = λ k le o.
        taken.reduces k (omega (arith, rank)) (λ ends_. o (ends ∙ ends_))
        ∙ reduced-on k f stack (known (bounds_in (f ∷ stack)) (meaning_of t)) (omega (arith, rank))
        ∙ ap (λ b. reduced k stack (completed f (known b (meaning_of t)))) bound
        ∙ ap (reduced k stack) is;
    most = taken.most ∙ deep;
  }

module _ (i : Infix) (x y : Tree) (stack : List Frame) (high : ℕ) where
  abbrev left : Known
  left = known (bounds_in stack) (meaning_of x)

  joined_at : rank_of_tree x ≤ left_rank i → rank_of_tree y ≤ right_rank i → ends_open x ≡ false → open_in stack ≤ high → rank_of i ≤ room stack
      → Takes x stack high → ((higher : ℕ) → open_in (Join i left ∷ stack) ≤ higher → Takes y (Join i left ∷ stack) higher) → Takes (grammar.Joined i x y) stack high
  unfolding after_step spelling bounds_in
  joined_at xr yr shut within fits (mid, taken, runs) then_y =
      let pushed = parser.pushed (state stack Start mid.most) (Join i left) in
      let operator : after_step mid taken.operand taken.tail (words.Infix i) ≡ Some pushed =
      joins i mid taken.operand left stack (taken.reduces (left_rank i) xr (λ o. absurd (let e = o in cc)) ∙ reduced-room i stack left fits) fits in
      let last = then_y (max mid.most (open_in (Join i left ∷ stack))) (omega arith) in
      let read = last.1 in
      let most = taken.most in
      let most_too = read.most in
      let nested = open_join i left stack in
      let wide = right_within i in (
        last.0,
        record {
          operand = read.operand;
          tail = read.tail;
          place = read.place;
          reduces = λ k le o.
              read.reduces k (omega (arith, wide)) o
              ∙ reduced-on k (Join i left) stack (known (bounds_in stack) (meaning_of y)) le
              ∙ ap (reduced k stack) (joined_known i (bounds_in stack) (meaning_of x) (meaning_of y));
          most = omega (arith, most, most_too, nested);
        },
        λ ws. then_run x (words.Infix i) (spelling y) (state stack Start high) mid pushed runs (after mid pushed taken.operand taken.tail (words.Infix i) taken.place operator) ws ∙ last.2 ws,
      )

module _ (q : Quantifier) (name : List ℕ) (x y p : Tree) (stack : List Frame) (high : ℕ) where
  abbrev low : Known
  low = known (bounds_in stack) (meaning_of x)

  abbrev last_end : Known
  last_end = known (bounds_in stack) (meaning_of y)

  abbrev body : Frame
  body = frames.Body q name low last_end

  quantified_at : 5 ≤ room stack → Inside x (frames.LowEnd q name) stack high → ((higher : ℕ) → open_in (frames.HighEnd q name low ∷ stack) ≤ higher → Takes y (frames.HighEnd q name low ∷ stack) higher)
      → ((higher : ℕ) → open_in (body ∷ stack) ≤ higher → Takes p (body ∷ stack) higher) → Takes (grammar.Quantified q name x y p) stack high
  unfolding after_step spelling bounds_in
  quantified_at fits (one, taken, runs) then_y then_p =
      let low_frame = frames.LowEnd q name in
      let high_frame = frames.HighEnd q name low in
      let second = parser.pushed (state stack Start one.most) high_frame in
      let range : after_step one taken.operand taken.tail words.Range ≡ Some second =
      divides after_range one taken.operand low low_frame high_frame stack (ended_inside x low_frame stack (max high (open_in (low_frame ∷ stack))) one taken refl) refl in
      let two = then_y (max one.most (open_in (high_frame ∷ stack))) (omega arith) in
      let read = two.1 in
      let third = parser.pushed (state stack Start two.0.most) body in
      let colon : after_step two.0 read.operand read.tail words.Colon ≡ Some third =
      divides after_colon two.0 read.operand last_end high_frame body stack (ended_inside y high_frame stack (max one.most (open_in (high_frame ∷ stack))) two.0 read refl) refl in
      let three = then_p (max two.0.most (open_in (body ∷ stack))) (omega arith) in
      let end = three.1 in
      let m1 = taken.most in
      let m2 = read.most in
      let m3 = end.most in
      let n1 = open_in-nested low_frame stack refl in
      let n2 = open_in-nested high_frame stack refl in
      let n3 = open_in-nested body stack refl in
      let inner = (spelling x ++ words.Range ∷ (spelling y ++ words.Colon ∷ spelling p)) in
      let rank = tree_rank p in (
        three.0,
        record {
          operand = end.operand;
          tail = end.tail;
          place = end.place;
          reduces = λ k le o.
              let ten = o refl in
              end.reduces k (omega (arith, rank, ten)) (λ ends_. ten) ∙ reduced-on k body stack (known (bounds_in (body ∷ stack)) (meaning_of p)) ten;
          most = omega (arith, m1, m2, m3, n1, n2, n3);
        },
        λ ws. open_quantifier stack high q name inner ws fits
            ∙ then_run x words.Range (spelling y ++ words.Colon ∷ spelling p) (parser.pushed (state stack Start high) low_frame) one second runs (after one second taken.operand taken.tail words.Range taken.place range) ws
            ∙ then_run y words.Colon (spelling p) second two.0 third two.2 (after two.0 third read.operand read.tail words.Colon read.place colon) ws
            ∙ three.2 ws,
      )

not_bounds : (stack : List Frame) → bounds_in (frames.Not ∷ stack) ≡ bounds_in stack
unfolding bounds_in
not_bounds stack = refl

sign_bounds : (stack : List Frame) → bounds_in (frames.Negative ∷ stack) ≡ bounds_in stack
unfolding bounds_in
sign_bounds stack = refl

-- ---- each condition

pub takes : (t : Tree) → IsCondition t → (stack : List Frame) (high : ℕ) → open_in stack ≤ high → rank_of_tree t ≤ room stack → Takes t stack high
unfolding run start_step after_step turned spelling
takes (grammar.Number n) c stack high o r = (state stack (After (number n) tail.None) high, taken_at (grammar.Number n) stack high (number n) tail.None high refl (omega (arith, o)), λ ws. refl)
takes (grammar.Constant truth) c stack high o r =
    (state stack (After (constant truth) tail.None) high, taken_at (grammar.Constant truth) stack high (constant truth) tail.None high refl (omega (arith, o)), λ ws. refl)
takes (grammar.Location Now x) c stack high o r =
    (state stack (After (location (moment_of Now) x) (tail.Location x)) high, taken_at (grammar.Location Now x) stack high (location (moment_of Now) x) (tail.Location x) high refl (omega (arith, o)), λ ws. refl)
takes (grammar.Location AtEntry x) c stack high o r =
    (state stack (After (location (moment_of AtEntry) x) tail.None) high, taken_at (grammar.Location AtEntry x) stack high (location (moment_of AtEntry) x) tail.None high refl (omega (arith, o)), λ ws. refl)
takes (grammar.Pair Now p) c stack high o r =
    (state stack (After (pair (moment_of Now) (pair_of p)) (tail.Pair p)) high, taken_at (grammar.Pair Now p) stack high (pair (moment_of Now) (pair_of p)) (tail.Pair p) high refl (omega (arith, o)), λ ws. refl)
takes (grammar.Pair AtEntry p) c stack high o r =
    (state stack (After (pair (moment_of AtEntry) (pair_of p)) tail.None) high, taken_at (grammar.Pair AtEntry p) stack high (pair (moment_of AtEntry) (pair_of p)) tail.None high refl (omega (arith, o)), λ ws. refl)
takes (grammar.StackWord k) c stack high o r =
    (state stack (After (stack_word k) tail.None) high, taken_at (grammar.StackWord k) stack high (stack_word k) tail.None high refl (omega (arith, o)), λ ws. refl)
takes (grammar.Named Now name) c stack high o r =
    let x = named (moment_of Now) name (bound_of_name (bounds_in stack) name) in
    (state stack (After x (tail.Name name)) high, taken_at (grammar.Named Now name) stack high x (tail.Name name) high refl (omega (arith, o)), λ ws. refl)
takes (grammar.Named AtEntry name) c stack high o r =
    let x = named (moment_of AtEntry) name 65535 in
    (state stack (After x (tail.Entry name)) high, taken_at (grammar.Named AtEntry name) stack high x (tail.Entry name) high refl (omega (arith, o)), λ ws. refl)
takes (grammar.Measured x name) c stack high o r = (
  parser.measured_in (state stack Start high) (measured x name),
  taken_at (grammar.Measured x name) stack high (measured x name) tail.None (max high (open_in stack + 1)) (measured_known x name (bounds_in stack)) refl,
  λ ws. open_measured stack high x name ws,
)
takes (grammar.Cell m x) c stack high o r =
    enclosed x (grammar.Cell m x) (frames.Cell m) bracketed words.CloseBracket (cell (moment_of m) (known (bounds_in stack) (meaning_of x))) stack high refl (λ s k l. refl) refl refl refl
    (λ ws. open_cell stack high m (spelling x ++ words.CloseBracket ∷ []) ws) (takes x c (frames.Cell m ∷ stack) (max high (open_in (frames.Cell m ∷ stack))) (omega arith) (tree_rank x))
takes (grammar.Element m name x) c stack high o r =
    enclosed x (grammar.Element m name x) (frames.Element m name) bracketed words.CloseBracket (element (moment_of m) name (known (bounds_in stack) (meaning_of x))) stack high refl (λ s k l. refl) refl refl refl
    (λ ws. open_element stack high m name (spelling x ++ words.CloseBracket ∷ []) ws) (takes x c (frames.Element m name ∷ stack) (max high (open_in (frames.Element m name ∷ stack))) (omega arith) (tree_rank x))
takes (grammar.Parity x) c stack high o r =
    enclosed x (grammar.Parity x) frames.Parity parenthesized words.Close (parity (known (bounds_in stack) (meaning_of x))) stack high refl (λ s k l. refl) refl refl refl
    (λ ws. open_parity stack high (spelling x ++ words.Close ∷ []) ws) (takes x c (frames.Parity ∷ stack) (max high (open_in (frames.Parity ∷ stack))) (omega arith) (tree_rank x))
takes (grammar.Paren x) c stack high o r =
    enclosed x (grammar.Paren x) frames.Paren parenthesized words.Close (known (bounds_in stack) (meaning_of x)) stack high refl (λ s k l. refl) refl refl refl
    (λ ws. open_paren stack high (spelling x ++ words.Close ∷ []) ws) (takes x c (frames.Paren ∷ stack) (max high (open_in (frames.Paren ∷ stack))) (omega arith) (tree_rank x))
takes (grammar.Total m x y) c stack high o r =
    two_enclosed x y (grammar.Total m x y) (frames.FirstCell m) (λ k. frames.LastCell m k) (λ k l. total (moment_of m) k l) stack high refl (λ k. refl) (λ k. refl) (λ k l. refl) refl refl
    (λ ws. open_total stack high m (spelling x ++ words.Comma ∷ (spelling y ++ words.Close ∷ [])) ws)
    (takes x c.2 (frames.FirstCell m ∷ stack) (max high (open_in (frames.FirstCell m ∷ stack))) (omega arith) c.0)
    (λ higher within. takes y c.3 (frames.LastCell m (known (bounds_in stack) (meaning_of x)) ∷ stack) higher within c.1)
takes (grammar.TwoBits b x y) c stack high o r =
    two_enclosed x y (grammar.TwoBits b x y) (frames.FirstBits b) (λ k. frames.SecondBits b k) (λ k l. two_bits b k l) stack high refl (λ k. refl) (λ k. refl) (λ k l. refl)
    (bits_known b (bounds_in stack) (meaning_of x) (meaning_of y)) refl
    (λ ws. open_bits stack high b (spelling x ++ words.Comma ∷ (spelling y ++ words.Close ∷ [])) ws)
    (takes x c.0 (frames.FirstBits b ∷ stack) (max high (open_in (frames.FirstBits b ∷ stack))) (omega arith) (tree_rank x))
    (λ higher within. takes y c.1 (frames.SecondBits b (known (bounds_in stack) (meaning_of x)) ∷ stack) higher within (tree_rank y))
takes (grammar.Joined i x y) c stack high o r =
    let w = left_within i in
    joined_at i x y stack high c.0 c.1 c.2 o r (takes x c.3 stack high o (omega (arith, w, c.0)))
    (λ higher within. takes y c.4 (Join i (known (bounds_in stack) (meaning_of x)) ∷ stack) higher within c.1)
takes (grammar.Not p) c stack high o r =
    let f = frames.Not in
    let nested = open_in-nested f stack refl in
    let read = takes p c.1 (f ∷ stack) (max high (open_in (f ∷ stack))) (omega arith) c.0 in (
      read.0,
      completes p (grammar.Not p) f stack high read.0 read.1 refl c.0 refl (not_bounds stack) refl (omega (arith, nested)),
      λ ws. open_not stack high (spelling p) ws r ∙ read.2 ws,
    )
takes (grammar.Negative x) c stack high o r =
    let f = frames.Negative in
    let nested = open_in-nested f stack refl in
    let read = takes x c.1 (f ∷ stack) (max high (open_in (f ∷ stack))) (omega arith) c.0 in (
      read.0,
      completes x (grammar.Negative x) f stack high read.0 read.1 refl c.0 refl (sign_bounds stack) refl (omega (arith, nested)),
      λ ws. open_sign stack high (spelling x) ws ∙ read.2 ws,
    )
takes (grammar.Quantified q name x y p) c stack high o r =
    let low = known (bounds_in stack) (meaning_of x) in
    quantified_at q name x y p stack high r (takes x c.2 (frames.LowEnd q name ∷ stack) (max high (open_in (frames.LowEnd q name ∷ stack))) (omega arith) c.0)
    (λ higher within. takes y c.3 (frames.HighEnd q name low ∷ stack) higher within c.1)
    (λ higher within. takes p c.4 (frames.Body q name low (known (bounds_in stack) (meaning_of y)) ∷ stack) higher within (tree_rank p))
