-- Conditions, their nesting, sorts and bounds, by example.
use Rattle.std.specs.Prelude.{◌≡◌, ℕ, [], Some, None, true, codes}
use Rattle.sp_base.specs.declared.location.Loc.TheVariants as loc
use Rattle.sp_model.specs.Note as model
use Rattle.sp_logic.specs.declared.note.Comparison.TheVariants.{Equal}
use Rattle.sp_logic.specs.declared.note.Moment.TheVariants.{Now}
use Rattle.sp_logic.specs.declared.note.Quantifier.TheVariants.{ForAll}
use Rattle.sp_note.specs.declared.operand.Sort.TheVariants as sort
use Rattle.sp_note.specs.declared.word.Infix.TheVariants as op
use Rattle.sp_note.specs.declared.word.Measure.TheVariants as measure
use Rattle.sp_note.specs.Bounds.{bound_of}
use Rattle.sp_note.specs.Grammar.{Tree, Number, Constant, Location, Named, Measured, Cell, Total, Paren, Joined, Not, Quantified, IsCondition, depth_of}
use Rattle.sp_note.specs.RawNotes as raw
use Rattle.sp_note.specs.Sorts.{sort_of}

abbrev pub holds : Tree
holds = Constant true

abbrev pub a : Tree
a = Location Now loc.A

-- a quantifier over 0 to 1
abbrev pub for_all : Tree → Tree
for_all p = Quantified ForAll (codes "I") (Number 0) (Number 1) p

pub record GrammarByExample : Type 0 where
  pub implies_right : IsCondition (Joined op.Implies holds (Joined op.Implies holds holds))
  pub implies_left : ¬ IsCondition (Joined op.Implies (Joined op.Implies holds holds) holds)
  pub and_left : IsCondition (Joined op.And (Joined op.And holds holds) holds)
  pub and_right : ¬ IsCondition (Joined op.And holds (Joined op.And holds holds))
  pub and_in_or : IsCondition (Joined op.Or (Joined op.And holds holds) holds)
  pub or_in_and : ¬ IsCondition (Joined op.And (Joined op.Or holds holds) holds)
  pub two_comparisons : ¬ IsCondition (Joined (op.Compare Equal) (Joined (op.Compare Equal) a a) a)
  pub not_comparison : IsCondition (Not (Joined (op.Compare Equal) a (Number 5)))
  pub comparison_of_not : ¬ IsCondition (Joined (op.Compare Equal) (Not a) (Number 5))
  pub far_right : IsCondition (Joined op.And holds (for_all (Joined op.Or holds holds)))
  pub not_far : ¬ IsCondition (Joined op.Or (for_all holds) holds)
  pub not_far_in_parentheses : IsCondition (Joined op.Or (Paren (for_all holds)) holds)
  pub total_of_comparison : ¬ IsCondition (Total Now (Joined (op.Compare Equal) a a) a)
  pub cell_of_comparison : IsCondition (Cell Now (Joined (op.Compare Equal) a a))

pub record NestingByExample : Type 0 where
  pub right_sides : depth_of (Joined op.Implies holds (Joined op.Implies holds (Paren holds))) ≡ 3
  pub left_side : depth_of (Joined op.Implies (Paren holds) holds) ≡ 1
  pub sum : depth_of (Joined op.Add (Paren a) (Paren a)) ≡ 1
  pub measure : depth_of (Paren (Measured measure.Length (codes "BUF"))) ≡ 2
  pub ends : depth_of (Quantified ForAll (codes "I") (Paren a) a holds) ≡ 2

pub record SortsByExample : Type 0 where
  pub number : sort_of (raw.Operate model.Add (raw.Literal 1) (raw.Named model.Now (codes "X"))) ≡ Some sort.Number
  pub sum_of_truth : sort_of (raw.Operate model.Add (raw.Literal 1) (raw.Constant true)) ≡ None
  pub comparison : sort_of (raw.Compare model.Equal (raw.Literal 1) (raw.Literal 1)) ≡ Some sort.Truth
  pub truths_compared : sort_of (raw.Compare model.Equal (raw.Constant true) (raw.Constant true)) ≡ None
  pub inverted_number : sort_of (raw.Not (raw.Literal 1)) ≡ None
  pub cell_of_truth : sort_of (raw.Cell model.Now (raw.Constant true)) ≡ None

-- 2 to the power 50
abbrev pub large : raw.RawNote
large = raw.Literal 1125899906842624

abbrev pub i : raw.RawNote
i = raw.Named model.Now (codes "I")

abbrev pub over : raw.RawNote → raw.RawNote
over p = raw.Quantify model.ForAll (codes "I") (raw.Literal 0) large p

abbrev pub squared : raw.RawNote → raw.RawNote
squared x = raw.Compare model.Equal (raw.Operate model.Multiply x x) (raw.Literal 0)

pub record BoundsByExample : Type 0 where
  pub product : bound_of [] (raw.Operate model.Multiply large (raw.Literal 1125899906842623)) ≡ Some 1267650600228228275596796362752
  pub too_large : bound_of [] (raw.Operate model.Multiply large large) ≡ None
  pub of_a_part : bound_of [] (raw.Operate model.Modulo (raw.Operate model.Multiply large large) (raw.Literal 2)) ≡ None
  pub in_brackets : bound_of [] (raw.Cell model.Now (raw.Operate model.Multiply large large)) ≡ None
  pub flag : bound_of [] (raw.Location model.Now loc.Cy) ≡ Some 1
  pub register : bound_of [] (raw.Location model.Now loc.A) ≡ Some 255
  pub bound_name : bound_of [] (over (squared i)) ≡ None
  pub free_name : bound_of [] (raw.Connect model.And (over (raw.Constant true)) (squared i)) ≡ Some 0
