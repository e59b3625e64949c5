-- How the reader's calls move its state.
use Rattle.std.proofs.Common.{◌≡◌, ℕ, ◌+◌, ◌-◌, ◌<◌, ◌≤◌, max, Bool, true, false, cond, List, [], ◌∷◌, ◌++◌, length, get_or, drop, Option, Some, None, Result, Ok, Err, refl, sym, ap, ◌∙◌, arith}
use Rattle.std.specs.Prelude.{nat_le}
use Rattle.std.proofs.lemmas.Bool.Decides.{nat_tests}
use Rattle.std.specs.Option.{option_map, option_and_then}
use Rattle.std.proofs.lemmas.List.{at_drop_more, at_drop_all}
use Rattle.sp_note.specs.declared.refusal.LineRefusal.{LineRefusal}
use Rattle.sp_note.specs.declared.refusal.LineRefusal.TheVariants as line
use Rattle.sp_note.specs.declared.refusal.NoteKind.TheVariants.{Syntax, TooDeep, Sort, Wide}
use Rattle.sp_note.specs.declared.word.Word.{Word}
use Rattle.sp_note.specs.code.Answers.{AnswersSome}
use Rattle.sp_note.specs.code.Frames.{Frame, tightness, yields, open_in, completed, reduced}
use Rattle.sp_note.specs.declared.head.Tail.{Tail}
use Rattle.sp_note.specs.declared.head.Tail.TheVariants as tail
use Rattle.sp_note.specs.code.Heads.{Place, Start, After}
use Rattle.sp_note.specs.code.Operands.{Known}
use Rattle.sp_note.specs.code.Parser.{State, state, step, step_at, run, start, pushed, ended, ended_at, whole_of, parsed, closed_by, divided_by, closing, dividing}

pub pushed_state : (s : State) (f : Frame) (stack : List Frame) (m : ℕ) → stack ≡ f ∷ s.stack → m ≡ max s.most (open_in stack) → Some (pushed s f) ≡ Some (state stack Start m)
pushed_state s f stack m e h = ap (λ st. Some (state st Start (max s.most (open_in st)))) (sym e) ∙ ap (λ k. Some (state stack Start k)) (sym h)

-- what is on top is completed where it yields, and else everything stays
pub reduced-yields : (k : ℕ) (stack : List Frame) (f : Frame) (rest : List Frame) (x : Known) → stack ≡ f ∷ rest → yields k stack ≡ true → reduced k stack x ≡ reduced k rest (completed f x)
unfolding reduced
reduced-yields k stack f rest x e h =
    ap (λ st. reduced k st x) e ∙ ap (λ b. cond b (reduced k rest (completed f x)) (f ∷ rest, x)) (ap (yields k) (sym e) ∙ h)

pub reduced-stays : (k : ℕ) (stack : List Frame) (x : Known) → yields k stack ≡ false → reduced k stack x ≡ (stack, x)
unfolding reduced
reduced-stays k [] x h = refl
reduced-stays k (f ∷ stack) x h = ap (λ b. cond b (reduced k stack (completed f x)) (f ∷ stack, x)) h

-- nothing binds so loosely that a symbol can't close it
pub none_past : (f : Frame) (stack : List Frame) → tightness f ≤ 11 → ¬ (yields 11 (f ∷ stack) ≡ false)
none_past f stack le e = let yes : nat_le (tightness f) 11 ≡ true = grind (arith, nat_tests) in absurd cc

-- ---- words

pub run-more : (s next : State) (ws : List Word) (i : ℕ) (w : Word) → i < length ws → w ≡ get_or ws i w → step s w ≡ Some next → run s (drop i ws) ≡ run next (drop (i + 1) ws)
unfolding run
run-more s next ws i w lt is e =
    at_drop_more (run s) ws i w lt ∙ ap (λ v. option_and_then (λ t. run t (drop (i + 1) ws)) (step s v)) (sym is) ∙ ap (option_and_then (λ t. run t (drop (i + 1) ws))) e

run-none : (s : State) (ws : List Word) (i : ℕ) (w : Word) → i < length ws → w ≡ get_or ws i w → step s w ≡ None → run s (drop i ws) ≡ None
unfolding run
run-none s ws i w lt is e =
    at_drop_more (run s) ws i w lt ∙ ap (λ v. option_and_then (λ t. run t (drop (i + 1) ws)) (step s v)) (sym is) ∙ ap (option_and_then (λ t. run t (drop (i + 1) ws))) e

-- a word that is refused refuses them all
pub run-refused : {X Y : Type 0} (view : X → State) (other : Y → Known × ℕ) (e : LineRefusal) (s : State) (ws : List Word) (i : ℕ) (w : Word) → i < length ws → w ≡ get_or ws i w
    → run s (drop i ws) ≡ run start ws → AnswersSome view (Err e) (step s w) → AnswersSome other (Err e) (option_and_then ended (run start ws))
run-refused view other (line.Kind Syntax) s ws i w lt is so_far h = ap (option_and_then ended) (sym so_far ∙ run-none s ws i w lt is h)
run-refused view other (line.Kind TooDeep) s ws i w lt is so_far h = absurd h
run-refused view other (line.Kind Sort) s ws i w lt is so_far h = absurd h
run-refused view other (line.Kind Wide) s ws i w lt is so_far h = absurd h
run-refused view other line.Memory s ws i w lt is so_far h = tt

pub run-all : (s : State) (ws : List Word) (i : ℕ) → length ws ≤ i → run s (drop i ws) ≡ Some s
unfolding run
run-all s ws i le = at_drop_all (run s) ws i le

pub some_known : (x y : Known) → Some x ≡ Some y → x ≡ y
some_known x y e = cc

-- ---- the end

pub whole_ends : (s : State) (x y : Known) (t : Tail) (stack : List Frame) → s.place ≡ After x t → reduced 10 s.stack x ≡ (stack, y) → stack ≡ [] → ended s ≡ Some (y, s.most)
whole_ends s x y t stack at e none =
    ap (ended_at s) at ∙ ap (whole_of s.most) (e ∙ ap (λ st. (st, y)) none)

pub part_ends : (s : State) (x y : Known) (t : Tail) (f : Frame) (rest stack : List Frame) → s.place ≡ After x t → reduced 10 s.stack x ≡ (stack, y) → stack ≡ f ∷ rest → ended s ≡ None
part_ends s x y t f rest stack at e some =
    ap (ended_at s) at ∙ ap (whole_of s.most) (e ∙ ap (λ st. (st, y)) some)

pub place_step : (s : State) (place : Place) (w : Word) (r : Option State) → s.place ≡ place → r ≡ step_at s place w → r ≡ step s w
place_step s place w r at e = e ∙ ap (λ p. step_at s p w) (sym at)

-- ---- a symbol that closes nothing

pub closing_refused : {X Y : Type 0} (view : X → Known) (other : Y → State) (how : Frame → Known → Option Known) (e : LineRefusal) (s : State) (x : Known) (f : Frame) (stack : List Frame) (y : Known)
    → reduced 10 s.stack x ≡ (f ∷ stack, y) → AnswersSome view (Err e) (how f y) → AnswersSome other (Err e) (closing how s x)
closing_refused view other how (line.Kind Syntax) s x f stack y is h =
    ap (λ (r : List Frame × Known). closed_by how s.most r.0 r.1) is ∙ ap (option_map (λ z. state stack (After z tail.None) s.most)) h
closing_refused view other how (line.Kind TooDeep) s x f stack y is h = absurd h
closing_refused view other how (line.Kind Sort) s x f stack y is h = absurd h
closing_refused view other how (line.Kind Wide) s x f stack y is h = absurd h
closing_refused view other how line.Memory s x f stack y is h = tt

pub dividing_refused : {X Y : Type 0} (view : X → Frame) (other : Y → State) (how : Frame → Known → Option Frame) (e : LineRefusal) (s : State) (x : Known) (f : Frame) (stack : List Frame) (y : Known)
    → reduced 10 s.stack x ≡ (f ∷ stack, y) → AnswersSome view (Err e) (how f y) → AnswersSome other (Err e) (dividing how s x)
dividing_refused view other how (line.Kind Syntax) s x f stack y is h =
    ap (λ (r : List Frame × Known). divided_by how s.most r.0 r.1) is ∙ ap (option_map (λ g. pushed (state stack Start s.most) g)) h
dividing_refused view other how (line.Kind TooDeep) s x f stack y is h = absurd h
dividing_refused view other how (line.Kind Sort) s x f stack y is h = absurd h
dividing_refused view other how (line.Kind Wide) s x f stack y is h = absurd h
dividing_refused view other how line.Memory s x f stack y is h = tt
