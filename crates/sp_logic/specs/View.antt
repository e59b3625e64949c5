-- The annotation that a tree of the code stands for.
use Rattle.sp_logic.specs.declared.frame.Frame.{Frame}
use Rattle.sp_logic.specs.declared.note.Moment.{Moment}
use Rattle.sp_logic.specs.declared.note.Moment.TheVariants as moment
use Rattle.sp_logic.specs.declared.note.RegisterPair.{RegisterPair}
use Rattle.sp_logic.specs.declared.note.RegisterPair.TheVariants as pair
use Rattle.sp_logic.specs.declared.note.Operator.{Operator}
use Rattle.sp_logic.specs.declared.note.Operator.TheVariants as operator
use Rattle.sp_logic.specs.declared.note.Comparison.{Comparison}
use Rattle.sp_logic.specs.declared.note.Comparison.TheVariants as comparison
use Rattle.sp_logic.specs.declared.note.Connective.{Connective}
use Rattle.sp_logic.specs.declared.note.Connective.TheVariants as connective
use Rattle.sp_logic.specs.declared.note.Quantifier.{Quantifier}
use Rattle.sp_logic.specs.declared.note.Quantifier.TheVariants as quantifier
use Rattle.sp_logic.specs.declared.note.Quantity.{Quantity}
use Rattle.sp_logic.specs.declared.note.Quantity.TheVariants as quantity
use Rattle.sp_logic.specs.declared.note.Note.{Note}
use Rattle.sp_logic.specs.declared.note.Note.TheVariants as note
use Rattle.sp_model.specs.Note as model

abbrev pub moment_of : Moment → model.Moment
moment_of moment.Now = model.Now
moment_of moment.AtEntry = model.AtEntry

abbrev pub pair_of : RegisterPair → model.RegisterPair
pair_of pair.Bc = model.BC
pair_of pair.De = model.DE
pair_of pair.Hl = model.HL

abbrev pub operator_of : Operator → model.Operator
operator_of operator.Add = model.Add
operator_of operator.Subtract = model.Subtract
operator_of operator.Multiply = model.Multiply
operator_of operator.Divide = model.Divide
operator_of operator.Modulo = model.Modulo
operator_of operator.BitAnd = model.BitAnd
operator_of operator.BitOr = model.BitOr
operator_of operator.BitXor = model.BitXor

abbrev pub comparison_of : Comparison → model.Comparison
comparison_of comparison.Equal = model.Equal
comparison_of comparison.Unequal = model.Unequal
comparison_of comparison.Less = model.Less
comparison_of comparison.LessOrEqual = model.LessOrEqual
comparison_of comparison.Greater = model.Greater
comparison_of comparison.GreaterOrEqual = model.GreaterOrEqual

abbrev pub connective_of : Connective → model.Connective
connective_of connective.And = model.And
connective_of connective.Or = model.Or
connective_of connective.Implies = model.Implies
connective_of connective.Iff = model.Iff

abbrev pub quantifier_of : Quantifier → model.Quantifier
quantifier_of quantifier.ForAll = model.ForAll
quantifier_of quantifier.ForSome = model.ForSome

abbrev pub quantity_of : Quantity → model.Quantity
quantity_of (quantity.Literal n) = model.Literal n
quantity_of (quantity.Location m x) = model.Location (moment_of m) x
quantity_of (quantity.Pair m p) = model.Pair (moment_of m) (pair_of p)
quantity_of (quantity.Cell' m at x) = model.Cell (moment_of m) (quantity_of x)
quantity_of (quantity.StackWord k) = model.StackWord k
quantity_of (quantity.Total' m at x by y) = model.Total (moment_of m) (quantity_of x) (quantity_of y)
quantity_of (quantity.Negative' at x) = model.Negative (quantity_of x)
quantity_of (quantity.Parity' at x) = model.Parity (quantity_of x)
quantity_of (quantity.Operate' o at x by y) = model.Operate (operator_of o) (quantity_of x) (quantity_of y)
quantity_of (quantity.Bound name) = model.Bound name

abbrev pub note_of : Note → model.Note
note_of (note.Constant truth) = model.Constant truth
note_of (note.Compare c x y) = model.Compare (comparison_of c) (quantity_of x) (quantity_of y)
note_of (note.Not' at p) = model.Not (note_of p)
note_of (note.Connect' c at p by q) = model.Connect (connective_of c) (note_of p) (note_of q)
note_of (note.Quantify' q name x y at p) =
    model.Quantify (quantifier_of q) name (quantity_of x) (quantity_of y) (note_of p)

abbrev pub frame_of : Frame → model.Frame
frame_of f = record { first = f.first; last = f.last; base = f.base }
