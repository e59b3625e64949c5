-- Nodes and bounds by example, and what bounds are for.
use Rattle.std.specs.Prelude.{◌≡◌, ℕ, ◌-◌, ◌^◌, ◌≤◌, unsigned_abs, [], codes, true, false}
use Rattle.sp_base.specs.declared.location.Loc.TheVariants as loc
use Rattle.sp_isa.specs.Core.{Core, IsCore}
use Rattle.sp_model.specs.Note.{Now, HL, Add, Subtract, Multiply, Divide, Modulo, Equal, GreaterOrEqual, And, Or, Implies, ForAll, ForSome, Frame, value, Quantity, Literal, Location, Pair, Cell, StackWord, Total, Negative, Parity, Operate, Bound, Note, Constant, Compare, Not, Connect, Quantify}
use Rattle.sp_eval.specs.Nodes.{quantity_nodes, note_nodes}
use Rattle.sp_eval.specs.Wide.{quantity_bound, IsNarrow}

-- so many nodes, whatever the frame and the machines
abbrev pub HasNodes : Note → ℕ → Type 0
HasNodes p n = (f : Frame) (entry now : Core) → note_nodes f [] p entry now ≡ n

abbrev pub QuantityHasNodes : Quantity → ℕ → Type 0
QuantityHasNodes x n = (f : Frame) (entry now : Core) → quantity_nodes f [] x entry now ≡ n

abbrev pub I : Quantity
I = Bound (codes "I")

pub record CountsNodes : Type 0 where
  pub comparison : HasNodes (Compare Equal (Location Now loc.A) (Pair Now HL)) 3
  pub negation : HasNodes (Not (Constant true)) 2
  pub both_sides : HasNodes (Connect And (Constant false) (Not (Constant true))) 4
  pub both_of_or : HasNodes (Connect Or (Constant true) (Not (Constant true))) 4
  pub both_of_implies : HasNodes (Connect Implies (Constant false) (Not (Constant true))) 4
  pub indices : HasNodes (Quantify ForAll (codes "I") (Literal 0) (Literal 3) (Compare GreaterOrEqual I (Literal 0))) 15
  pub false_at_once : HasNodes (Quantify ForAll (codes "I") (Literal 0) (Literal 3) (Constant false)) 7
  pub true_at_once : HasNodes (Quantify ForSome (codes "I") (Literal 0) (Literal 3) (Constant true)) 7
  pub no_index : HasNodes (Quantify ForAll (codes "I") (Literal 3) (Literal 2) (Constant true)) 3
  pub cells : QuantityHasNodes (Total Now (Literal 2) (Literal 5)) 7
  pub no_cell : QuantityHasNodes (Total Now (Literal 5) (Literal 2)) 3
  pub no_addresses : QuantityHasNodes (Total Now (Negative (Literal 1)) (Literal 0)) 6
  pub parts : QuantityHasNodes (Operate Add (Cell Now (StackWord 1)) (Parity (Literal 0))) 5

-- a note with this quantity in it
abbrev pub with_part : Quantity → Note
with_part x = Compare Equal (Literal 0) x

pub record BoundsParts : Type 0 where
  pub literal : IsNarrow (with_part (Literal (2 ^ 101 - 1)))
  pub wide_literal : ¬ IsNarrow (with_part (Literal (2 ^ 101)))
  pub sum : ¬ IsNarrow (with_part (Operate Add (Literal (2 ^ 100)) (Literal (2 ^ 100))))
  pub difference : ¬ IsNarrow (with_part (Operate Subtract (Literal (2 ^ 100)) (Literal (2 ^ 100))))
  pub product : IsNarrow (with_part (Operate Multiply (Literal (2 ^ 50)) (Literal (2 ^ 50))))
  pub wide_product : ¬ IsNarrow (with_part (Operate Multiply (Literal (2 ^ 51)) (Literal (2 ^ 50))))
  pub quotient : ¬ IsNarrow (with_part (Operate Multiply (Operate Divide (Literal (2 ^ 100)) (Literal 3)) (Literal 2)))
  pub rest : IsNarrow (with_part (Operate Multiply (Operate Modulo (Literal (2 ^ 100)) (Literal 3)) (Literal 2)))
  pub inside : ¬ IsNarrow (with_part (Cell Now (Literal (2 ^ 101))))
  pub index : ¬ IsNarrow (Quantify ForAll (codes "I") (Literal 0) (Literal (2 ^ 100)) (with_part (Operate Add I I)))
  pub low_index : ¬ IsNarrow (Quantify ForAll (codes "I") (Negative (Literal (2 ^ 100))) (Literal 0) (with_part (Operate Add I I)))
  pub narrow_index : IsNarrow (Quantify ForAll (codes "I") (Literal 0) (Literal (2 ^ 99)) (with_part (Operate Add I I)))

-- the size of each number is at most its bound
abbrev pub BoundsAreRight : Type 0
BoundsAreRight =
    (f : Frame) (x : Quantity) (entry now : Core) → IsCore entry → IsCore now
    → unsigned_abs (value f [] x entry now) ≤ quantity_bound [] x
