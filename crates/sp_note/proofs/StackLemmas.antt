-- The frames of the code as a stack, the last one first.
use Rattle.std.proofs.Common.{◌≡◌, ℕ, ◌+◌, ◌-◌, ◌<◌, ◌≤◌, max, List, Option, Some, None, ◌∙◌, [], ◌∷◌, ◌++◌, length, get_or, take, drop, Bool, true, false, cond, refl, sym, ap, arith}
use Rattle.std.specs.Prelude.{◌==◌, Vec, vec_len, unwrap_or, bytes_eq, slice_get}
use Rattle.std.specs.declared.alloc.Global.{Global}
use Rattle.std.proofs.lemmas.Bool.{eqb-true, eqb-false}
use Rattle.std.proofs.lemmas.List.{take_all, take_more}
use Rattle.std.proofs.lemmas.Option.{slice_get_within, slice_get-get_or}
use Rattle.sp_note.specs.declared.frame.Frame as declared
use Rattle.sp_note.specs.Bounds.{bound_of_name, greater}
use Rattle.sp_note.specs.declared.word.Infix.TheVariants as op
use Rattle.sp_note.specs.code.Frames.{Frame, Join, Not, Negative, Paren, Cell, Element, Parity, FirstBits, SecondBits, FirstCell, LastCell, LowEnd, HighEnd, Body, frame_of, weight, open_in, binding, bounds_in, stack_onto, stack_of}

pub stack_onto-last : (stack : List Frame) (fs : List declared.Frame) (f : declared.Frame)
    → stack_onto stack (fs ++ f ∷ []) ≡ frame_of f ∷ stack_onto stack fs
unfolding stack_onto
stack_onto-last stack [] f = refl
stack_onto-last stack (g ∷ fs) f = stack_onto-last (frame_of g ∷ stack) fs f

pub stack_of-last : (fs : List declared.Frame) (f : declared.Frame) → stack_of (fs ++ f ∷ []) ≡ frame_of f ∷ stack_of fs
stack_of-last fs f = stack_onto-last [] fs f

pub stack_of_nil : stack_of [] ≡ []
unfolding stack_onto
stack_of_nil = refl

pub weight_small : (f : Frame) → weight f ≤ 1
weight_small (Join op.Implies x) = omega arith
weight_small (Join op.Iff x) = omega arith
weight_small (Join op.Or x) = omega arith
weight_small (Join op.And x) = omega arith
weight_small (Join (op.Compare c) x) = omega arith
weight_small (Join op.Add x) = omega arith
weight_small (Join op.Subtract x) = omega arith
weight_small (Join op.Multiply x) = omega arith
weight_small (Join op.Divide x) = omega arith
weight_small (Join op.Modulo x) = omega arith
weight_small _ = omega arith

pub open_on : (f : Frame) (stack : List Frame) → open_in (f ∷ stack) ≡ open_in stack + weight f
unfolding open_in
open_on f stack = refl

open_onto : (stack : List Frame) (fs : List declared.Frame) → open_in (stack_onto stack fs) ≤ open_in stack + length fs
unfolding stack_onto
open_onto stack [] = omega arith
open_onto stack (f ∷ fs) =
    let on = open_on (frame_of f) stack in
    let small = weight_small (frame_of f) in
    let rest = open_onto (frame_of f ∷ stack) fs in
    omega (arith, on, small, rest)

pub open_nothing : open_in [] ≡ 0
unfolding open_in
open_nothing = refl

pub open_within : (fs : List declared.Frame) → open_in (stack_of fs) ≤ length fs
open_within fs = let h = open_onto [] fs in omega (arith, h, open_nothing)

if_bound : (b : Bool) (n outer : ℕ) → cond b n outer ≡ unwrap_or (cond b (Some n) None) outer
if_bound true n outer = refl
if_bound false n outer = refl

-- a name has the bound of the part on top, if that binds it
pub bound_on : (f : Frame) (stack : List Frame) (name : List ℕ) → bound_of_name (bounds_in (f ∷ stack)) name ≡ unwrap_or (binding f name) (bound_of_name (bounds_in stack) name)
unfolding bounds_in
bound_on (Body q bound x y) stack name = if_bound (bytes_eq bound name) (greater x.bound y.bound) (bound_of_name (bounds_in stack) name)
bound_on (Join i x) stack name = refl
bound_on Not stack name = refl
bound_on Negative stack name = refl
bound_on Paren stack name = refl
bound_on (Cell m) stack name = refl
bound_on (Element m n) stack name = refl
bound_on Parity stack name = refl
bound_on (FirstBits b) stack name = refl
bound_on (SecondBits b x) stack name = refl
bound_on (FirstCell m) stack name = refl
bound_on (LastCell m x) stack name = refl
bound_on (LowEnd q n) stack name = refl
bound_on (HighEnd q n x) stack name = refl

pub bounds_nothing : (name : List ℕ) → 65535 ≡ bound_of_name (bounds_in (stack_of [])) name
unfolding bounds_in stack_onto
bounds_nothing name = refl

-- ---- the last frame

last_split : (fs : List declared.Frame) (f : declared.Frame) → slice_get fs (length fs - 1) ≡ Some f → fs ≡ take (length fs - 1) fs ++ f ∷ []
last_split fs f e =
    let within = slice_get_within fs (length fs - 1) f e in
    let read = slice_get-get_or fs (length fs - 1) f within in
    let same : get_or fs (length fs - 1) f ≡ f = cc in
    let whole : length fs - 1 + 1 ≡ length fs = omega (arith, within) in
    sym (take_all (length fs) fs (omega arith)) ∙ ap (λ n. take n fs) (sym whole) ∙ take_more fs (length fs - 1) f within
    ∙ ap (λ g. take (length fs - 1) fs ++ g ∷ []) same

pub top_seen : (fs : List declared.Frame) (f : declared.Frame) → slice_get fs (length fs - 1) ≡ Some f → stack_of fs ≡ frame_of f ∷ stack_of (take (length fs - 1) fs)
top_seen fs f e = ap stack_of (last_split fs f e) ∙ stack_of-last (take (length fs - 1) fs) f

pub none_seen : (fs : List declared.Frame) → slice_get fs (length fs - 1) ≡ None → stack_of fs ≡ []
none_seen [] e = stack_of_nil
none_seen (g ∷ fs) e =
    let within : length (g ∷ fs) - 1 < length (g ∷ fs) = omega arith in
    let read = slice_get-get_or (g ∷ fs) (length (g ∷ fs) - 1) g within in
    absurd cc

-- after the last one is taken
pub popped : (fs rest : List declared.Frame) (f : declared.Frame) → fs ≡ rest ++ f ∷ [] → stack_of fs ≡ frame_of f ∷ stack_of rest
popped fs rest f e = ap stack_of e ∙ stack_of-last rest f

-- a frame more
pub bound_more : (fs : List declared.Frame) (i : ℕ) (f : declared.Frame) (name : List ℕ) (bound : ℕ) → i < length fs → f ≡ get_or fs i f → bound ≡ bound_of_name (bounds_in (stack_of (take i fs))) name
    → unwrap_or (binding (frame_of f) name) bound ≡ bound_of_name (bounds_in (stack_of (take (i + 1) fs))) name
bound_more fs i f name bound lt is so_far =
    ap (λ n. unwrap_or (binding (frame_of f) name) n) so_far ∙ sym (bound_on (frame_of f) (stack_of (take i fs)) name)
    ∙ ap (λ st. bound_of_name (bounds_in st) name) (sym (stack_of-last (take i fs) f) ∙ ap (λ g. stack_of (take i fs ++ g ∷ [])) is ∙ ap stack_of (sym (take_more fs i f lt)))

-- ---- whether there is one

no_frames : (fs : List declared.Frame) (n : ℕ) → n ≡ length fs → (n == 0) ≡ true → stack_of fs ≡ []
no_frames [] n e h = stack_of_nil
no_frames (f ∷ fs) n e h = let zero_len : n ≡ 0 = eqb-true n 0 h in absurd (omega (arith, e, zero_len))

pub empty_stack : (v : Vec declared.Frame Global) → (vec_len v == 0) ≡ true → stack_of v.items ≡ []
empty_stack v h = no_frames v.items (vec_len v) v.ok.0 h

onto_some : (acc : List Frame) (fs : List declared.Frame) (f : Frame) (rest : List Frame) → acc ≡ f ∷ rest → (g : Frame) × (more : List Frame) × (stack_onto acc fs ≡ g ∷ more)
unfolding stack_onto
onto_some acc [] f rest e = (f, rest, e)
onto_some acc (g ∷ fs) f rest e = onto_some (frame_of g ∷ acc) fs (frame_of g) acc refl

some_frames : (fs : List declared.Frame) (n : ℕ) → n ≡ length fs → (n == 0) ≡ false → (g : Frame) × (more : List Frame) × (stack_of fs ≡ g ∷ more)
unfolding stack_onto
some_frames [] n e h = absurd (eqb-false n 0 h e)
some_frames (f ∷ fs) n e h = onto_some (frame_of f ∷ []) fs (frame_of f) [] refl

pub full_stack : (v : Vec declared.Frame Global) → (vec_len v == 0) ≡ false → (g : Frame) × (more : List Frame) × (stack_of v.items ≡ g ∷ more)
full_stack v h = some_frames v.items (vec_len v) v.ok.0 h
