-- How many nodes of a note are evaluated: both sides of each operator, both ends and every index of a quantifier, and each
-- address of a sum of cells (this project's own).
use Rattle.std.specs.Prelude.{ℕ, zero, suc, ◌+◌, ℤ, pos, ◌+ℤ◌, ◌∷◌}
use Rattle.sp_base.specs.Integers.{count_between}
use Rattle.sp_isa.specs.Core.{Core}
use Rattle.sp_model.specs.Note.{Frame, Bindings, value, Quantity, Literal, Location, Pair, Cell, StackWord, Total, Negative, Parity, Operate, Bound, Note, Constant, Compare, Not, Connect, Quantify}

-- a count for each of so many numbers from z on, taken together
unfoldable pub count_from : (ℤ → ℕ) → ℤ → ℕ → ℕ
count_from count z zero = 0
count_from count z (suc n) = count z + count_from count (z +ℤ pos 1) n

-- a count for each whole number from one through another, taken together
abbrev pub count_through : (ℤ → ℕ) → ℤ → ℤ → ℕ
count_through count low high = count_from count low (count_between low high)

-- the nodes of a quantity; a sum counts 1, and 1 for each address
abbrev pub quantity_nodes : Frame → Bindings → Quantity → Core → Core → ℕ
quantity_nodes f b (Literal n) entry now = 1
quantity_nodes f b (Location m x) entry now = 1
quantity_nodes f b (Pair m p) entry now = 1
quantity_nodes f b (Cell m x) entry now = 1 + quantity_nodes f b x entry now
quantity_nodes f b (StackWord k) entry now = 1
quantity_nodes f b (Total m x y) entry now =
    1 + quantity_nodes f b x entry now + quantity_nodes f b y entry now
    + count_between (value f b x entry now) (value f b y entry now)
quantity_nodes f b (Negative x) entry now = 1 + quantity_nodes f b x entry now
quantity_nodes f b (Parity x) entry now = 1 + quantity_nodes f b x entry now
quantity_nodes f b (Operate o x y) entry now = 1 + quantity_nodes f b x entry now + quantity_nodes f b y entry now
quantity_nodes f b (Bound name) entry now = 1

-- the nodes of a note; an index by itself counts nothing
abbrev pub note_nodes : Frame → Bindings → Note → Core → Core → ℕ
note_nodes f b (Constant truth) entry now = 1
note_nodes f b (Compare c x y) entry now = 1 + quantity_nodes f b x entry now + quantity_nodes f b y entry now
note_nodes f b (Not p) entry now = 1 + note_nodes f b p entry now
note_nodes f b (Connect c p q) entry now = 1 + note_nodes f b p entry now + note_nodes f b q entry now
note_nodes f b (Quantify q name x y p) entry now =
    1 + quantity_nodes f b x entry now + quantity_nodes f b y entry now
    + count_through (λ n. note_nodes f ((name, n) ∷ b) p entry now) (value f b x entry now) (value f b y entry now)
