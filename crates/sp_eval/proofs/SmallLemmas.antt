-- Parts whose numbers are small, and counts of nodes that are positive.
use Rattle.std.proofs.Common.{◌≡◌, ℕ, ◌+◌, ◌<◌, sym, subst, arith, ℤ, pos, negsuc, List, ◌∷◌, ap, ◌∙◌, Some, None}
use Rattle.std.specs.Prelude.{Option}
use Rattle.std.specs.Int.{w128}
use mir.Val.{SFits, to_z, of_z}
use Rattle.std.proofs.lemmas.Int.{to_z-of_z}
use Rattle.sp_logic.specs.declared.note.Quantity as code
use Rattle.sp_logic.specs.declared.note.Note as code_note
use Rattle.sp_logic.specs.View as view
use Rattle.sp_eval.specs.declared.setting.Setting.{Setting}
use Rattle.sp_eval.specs.declared.scope.Scope.{Scope}
use Rattle.sp_eval.specs.code.Scope.{bindings_of}
use Rattle.sp_eval.specs.code.Setting.{IsSmallQuantity, quantity_value, IsPaid}
use Rattle.sp_eval.specs.code.Truth.{quantifies}
use Rattle.sp_eval.specs.code.Setting as setting
use Rattle.sp_isa.specs.Core.{Core}
use Rattle.sp_model.specs.Note.{Frame, Bindings, value, Quantity, Literal, Location, Pair, Cell, StackWord, Total, Negative, Parity, Operate, Bound, Note, Constant, Compare, Not, Connect, Quantify, Quantifier}
use Rattle.sp_eval.specs.Nodes.{quantity_nodes, note_nodes, count_through}
use Rattle.sp_eval.specs.code.Small.{IsSmall, HasSmallParts}

-- the number of a quantity with small parts is small
pub small_whole : (f : Frame) (b : Bindings) (q : Quantity) (entry now : Core) → HasSmallParts f b q entry now → IsSmall (value f b q entry now)
small_whole f b (Literal n) entry now h = h
small_whole f b (Location m x) entry now h = h
small_whole f b (Pair m p) entry now h = h
small_whole f b (Cell m x) entry now h = h.0
small_whole f b (StackWord k) entry now h = h
small_whole f b (Total m x y) entry now h = h.0
small_whole f b (Negative x) entry now h = h.0
small_whole f b (Parity x) entry now h = h.0
small_whole f b (Operate o x y) entry now h = h.0
small_whole f b (Bound name) entry now h = h

-- a quantity has a node
pub quantity_counts : (f : Frame) (b : Bindings) (q : Quantity) (entry now : Core) → 0 < quantity_nodes f b q entry now
quantity_counts f b (Literal n) entry now = omega arith
quantity_counts f b (Location m x) entry now = omega arith
quantity_counts f b (Pair m p) entry now = omega arith
quantity_counts f b (Cell m x) entry now = omega arith
quantity_counts f b (StackWord k) entry now = omega arith
quantity_counts f b (Total m x y) entry now = omega arith
quantity_counts f b (Negative x) entry now = omega arith
quantity_counts f b (Parity x) entry now = omega arith
quantity_counts f b (Operate o x y) entry now = omega arith
quantity_counts f b (Bound name) entry now = omega arith

-- a note has a node
pub note_counts : (f : Frame) (b : Bindings) (p : Note) (entry now : Core) → 0 < note_nodes f b p entry now
note_counts f b (Constant truth) entry now = omega arith
note_counts f b (Compare c x y) entry now = omega arith
note_counts f b (Not p) entry now = omega arith
note_counts f b (Connect c p q) entry now = omega arith
note_counts f b (Quantify q name x y p) entry now = omega arith

fits : (z : ℤ) → IsSmall z → SFits w128 z
fits (pos n) h = record { sfits = omega (arith, h.size) }
fits (negsuc n) h = record { sfits = omega (arith, h.size) }

-- the number of a quantity with small parts, as the code keeps it
pub small_number : (at : Setting) (scope : Scope) (q : code.Quantity) (z : ℤ) → IsSmallQuantity at scope q → z ≡ quantity_value at scope q → IsSmall (to_z w128 (of_z w128 z))
small_number at scope q z h e =
    let small : IsSmall z = subst IsSmall (sym e) (small_whole (view.frame_of at.frame) (bindings_of scope) (view.quantity_of q) at.entry.now at.present.now h) in
    subst IsSmall (sym (to_z-of_z w128 z (fits z small))) small

pub truth_counts : (at : Setting) (scope : Scope) (p : code_note.Note) → 0 < setting.note_nodes at scope p
truth_counts at scope p = note_counts (view.frame_of at.frame) (bindings_of scope) (view.note_of p) at.entry.now at.present.now

pub number_counts : (at : Setting) (scope : Scope) (q : code.Quantity) → 0 < setting.quantity_nodes at scope q
number_counts at scope q = quantity_counts (view.frame_of at.frame) (bindings_of scope) (view.quantity_of q) at.entry.now at.present.now

pub index_counts : (at : Setting) (scope : Scope) (name : List ℕ) (p : code_note.Note) (n : ℤ) → 0 < setting.nodes_of_index at scope name p n
index_counts at scope name p n = note_counts (view.frame_of at.frame) ((name, n) ∷ bindings_of scope) (view.note_of p) at.entry.now at.present.now

-- the same number, as the code keeps it
pub kept_number : (at : Setting) (scope : Scope) (q : code.Quantity) (z : ℤ) → IsSmallQuantity at scope q → z ≡ quantity_value at scope q → to_z w128 (of_z w128 z) ≡ quantity_value at scope q
kept_number at scope q z h e =
    let small : IsSmall z = subst IsSmall (sym e) (small_whole (view.frame_of at.frame) (bindings_of scope) (view.quantity_of q) at.entry.now at.present.now h) in
    to_z-of_z w128 z (fits z small) ∙ e

-- the nodes and the truth over the same indices
pub same_count : (at : Setting) (scope : Scope) (name : List ℕ) (p r : code_note.Note) (l m h k : ℤ) → p ≡ r → l ≡ m → h ≡ k → count_through (setting.nodes_of_index at scope name p) l h ≡ count_through (setting.nodes_of_index at scope name r) m k
same_count at scope name p r l m h k e f g =
    ap (λ u. count_through (setting.nodes_of_index at scope name u) l h) e
    ∙ ap (λ u. count_through (setting.nodes_of_index at scope name r) u h) f
    ∙ ap (λ u. count_through (setting.nodes_of_index at scope name r) m u) g

pub same_test : (at : Setting) (scope : Scope) (name : List ℕ) (q : Quantifier) (p r : code_note.Note) (l m h k : ℤ) → p ≡ r → l ≡ m → h ≡ k → quantifies q (setting.truth_of_index at scope name p) l h ≡ quantifies q (setting.truth_of_index at scope name r) m k
same_test at scope name q p r l m h k e f g =
    ap (λ u. quantifies q (setting.truth_of_index at scope name u) l h) e
    ∙ ap (λ u. quantifies q (setting.truth_of_index at scope name r) u h) f
    ∙ ap (λ u. quantifies q (setting.truth_of_index at scope name r) m u) g

-- what was taken before belongs to the whole
pub paid_more : {A : Type 0} (answer : Option A) (before left after nodes extra whole : ℕ) (v w : A) → left + extra ≡ before → whole ≡ extra + nodes → v ≡ w → IsPaid answer left after nodes v → IsPaid answer before after whole w
paid_more None before left after nodes extra whole v w e f g h = omega (arith, e, f, h)
paid_more (Some a) before left after nodes extra whole v w e f g h = let k = h.1 in (h.0 ∙ g, omega (arith, e, f, k))
