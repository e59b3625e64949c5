-- A note whose bounds are small has small numbers in all its parts.
use Rattle.std.proofs.Common.{ℕ, ◌<◌, max, arith, [], ◌∷◌}
use Rattle.std.specs.Prelude.{◌^◌}
use Rattle.sp_isa.specs.Core.{Core, IsCore}
use Rattle.sp_model.specs.Note.{Frame, Bindings, value, Quantity, Literal, Location, Pair, Cell, StackWord, Total, Negative, Parity, Operate, Bound, Note, Constant, Compare, Not, Connect, Quantify}
use Rattle.sp_eval.specs.Wide.{NameBounds, quantity_bound, IsBelow, NoteIsBelow, IsNarrow}
use Rattle.sp_eval.specs.code.Small.{IsSmall, HasSmallParts, NoteHasSmallParts}
use Rattle.sp_eval.proofs.BoundLemmas.{IsWithin, within_none, within_next, value_is_bounded, between_abs}

-- the bound of a quantity is below what its parts' bounds are below
pub below_whole : (top : ℕ) (bounds : NameBounds) (q : Quantity) → IsBelow top bounds q → quantity_bound bounds q < top
below_whole top bounds (Literal n) h = h
below_whole top bounds (Location m x) h = h
below_whole top bounds (Pair m p) h = h
below_whole top bounds (Cell m x) h = h.0
below_whole top bounds (StackWord k) h = h
below_whole top bounds (Total m x y) h = h.0
below_whole top bounds (Negative x) h = below_whole top bounds x h
below_whole top bounds (Parity x) h = h.0
below_whole top bounds (Operate o x y) h = h.0
below_whole top bounds (Bound name) h = h

small : (f : Frame) (bounds : NameBounds) (b : Bindings) (q : Quantity) (entry now : Core) → IsCore entry → IsCore now → IsWithin bounds b → IsBelow (2 ^ 101) bounds q → IsSmall (value f b q entry now)
small f bounds b q entry now h k w below = record { size = let v = value_is_bounded f bounds b q entry now h k w in let l = below_whole (2 ^ 101) bounds q below in omega (arith, v, l) }

parts_are_small : (f : Frame) (bounds : NameBounds) (b : Bindings) (q : Quantity) (entry now : Core) → IsCore entry → IsCore now → IsWithin bounds b → IsBelow (2 ^ 101) bounds q → HasSmallParts f b q entry now
parts_are_small f bounds b (Literal n) entry now h k w below = small f bounds b (Literal n) entry now h k w below
parts_are_small f bounds b (Location m x) entry now h k w below = small f bounds b (Location m x) entry now h k w below
parts_are_small f bounds b (Pair m p) entry now h k w below = small f bounds b (Pair m p) entry now h k w below
parts_are_small f bounds b (Cell m x) entry now h k w below = (small f bounds b (Cell m x) entry now h k w below, parts_are_small f bounds b x entry now h k w below.1)
parts_are_small f bounds b (StackWord i) entry now h k w below = small f bounds b (StackWord i) entry now h k w below
parts_are_small f bounds b (Total m x y) entry now h k w below = (small f bounds b (Total m x y) entry now h k w below, parts_are_small f bounds b x entry now h k w below.1, parts_are_small f bounds b y entry now h k w below.2)
parts_are_small f bounds b (Negative x) entry now h k w below = (small f bounds b (Negative x) entry now h k w below, parts_are_small f bounds b x entry now h k w below)
parts_are_small f bounds b (Parity x) entry now h k w below = (small f bounds b (Parity x) entry now h k w below, parts_are_small f bounds b x entry now h k w below.1)
parts_are_small f bounds b (Operate o x y) entry now h k w below = (small f bounds b (Operate o x y) entry now h k w below, parts_are_small f bounds b x entry now h k w below.1, parts_are_small f bounds b y entry now h k w below.2)
parts_are_small f bounds b (Bound name) entry now h k w below = small f bounds b (Bound name) entry now h k w below

note_is_small : (f : Frame) (bounds : NameBounds) (b : Bindings) (p : Note) (entry now : Core) → IsCore entry → IsCore now → IsWithin bounds b → NoteIsBelow (2 ^ 101) bounds p → NoteHasSmallParts f b p entry now
note_is_small f bounds b (Constant truth) entry now h k w below = below
note_is_small f bounds b (Compare c x y) entry now h k w below = (parts_are_small f bounds b x entry now h k w below.0, parts_are_small f bounds b y entry now h k w below.1)
note_is_small f bounds b (Not p) entry now h k w below = note_is_small f bounds b p entry now h k w below
note_is_small f bounds b (Connect c p q) entry now h k w below = (note_is_small f bounds b p entry now h k w below.0, note_is_small f bounds b q entry now h k w below.1)
note_is_small f bounds b (Quantify q name x y p) entry now h k w below = (
  parts_are_small f bounds b x entry now h k w below.0,
  parts_are_small f bounds b y entry now h k w below.1,
  (λ n from to. note_is_small f ((name, max (quantity_bound bounds x) (quantity_bound bounds y)) ∷ bounds) ((name, n) ∷ b) p entry now h k
      (within_next bounds b name n (max (quantity_bound bounds x) (quantity_bound bounds y)) w
      (between_abs (value f b x entry now) n (value f b y entry now) (quantity_bound bounds x) (quantity_bound bounds y) (value_is_bounded f bounds b x entry now h k w) (value_is_bounded f bounds b y entry now h k w) from to)) below.2),
)

pub narrow_notes_are_small : (f : Frame) (p : Note) (entry now : Core) → IsCore entry → IsCore now → IsNarrow p → NoteHasSmallParts f [] p entry now
narrow_notes_are_small f p entry now h k narrow = note_is_small f [] [] p entry now h k within_none narrow
