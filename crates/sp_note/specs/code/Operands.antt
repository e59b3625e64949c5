-- Parts of a condition with their sorts and bounds, which the code keeps beside each part.
use Rattle.std.specs.Prelude.{ℕ, Bool, ◌&&◌, List, Option, Some}
use Rattle.sp_base.specs.declared.location.Loc.{Loc}
use Rattle.sp_model.specs.Note as model
use Rattle.sp_note.specs.declared.operand.Operand.{Operand}
use Rattle.sp_note.specs.declared.operand.Sort.{Sort}
use Rattle.sp_note.specs.declared.operand.Sort.TheVariants.{Number, Truth}
use Rattle.sp_logic.specs.View.{comparison_of}
use Rattle.sp_note.specs.declared.word.Bits.{Bits}
use Rattle.sp_note.specs.declared.word.Bits.TheVariants as bits
use Rattle.sp_note.specs.declared.word.Infix.{Infix}
use Rattle.sp_note.specs.declared.word.Infix.TheVariants as op
use Rattle.sp_note.specs.declared.word.Measure.{Measure}
use Rattle.sp_note.specs.declared.word.Measure.TheVariants as measure
use Rattle.sp_note.specs.RawNotes as raw
use Rattle.sp_note.specs.RawNotes.{RawNote, raw_of}
use Rattle.sp_note.specs.Bounds.{Bounds, below, kept, either, operated, location_bound, bound_of}
use Rattle.sp_note.specs.Sorts.{is_number, is_truth, given, sort_of}

-- an annotation with its sort and its bound
pub record Known : Type 0 where
  pub tree : RawNote
  pub sort : Option Sort
  pub bound : Option ℕ

abbrev pub with_known : RawNote → Option Sort → Option ℕ → Known
with_known tree sort bound = record { tree = tree; sort = sort; bound = bound }

-- what is known of an annotation, where names are bound so
abbrev pub known : Bounds → RawNote → Known
known b x = with_known x (sort_of x) (bound_of b x)

abbrev pub known_of : Operand → Known
known_of x = with_known (raw_of x.tree) x.sort x.bound

abbrev pub numbers : Known → Known → Bool
numbers x y = is_number x.sort && is_number y.sort

abbrev pub truths : Known → Known → Bool
truths x y = is_truth x.sort && is_truth y.sort

-- ---- the parts of each form

abbrev pub number : ℕ → Known
number n = with_known (raw.Literal n) (Some Number) (below n)

abbrev pub constant : Bool → Known
constant truth = with_known (raw.Constant truth) (Some Truth) (Some 0)

abbrev pub location : model.Moment → Loc → Known
location m x = with_known (raw.Location m x) (Some Number) (Some (location_bound x))

abbrev pub pair : model.Moment → model.RegisterPair → Known
pair m p = with_known (raw.Pair m p) (Some Number) (Some 65535)

abbrev pub stack_word : ℕ → Known
stack_word k = with_known (raw.StackWord k) (Some Number) (Some 65535)

abbrev pub named : model.Moment → List ℕ → ℕ → Known
named m name n = with_known (raw.Named m name) (Some Number) (Some n)

abbrev pub measuring : Measure → List ℕ → RawNote
measuring measure.Address name = raw.Address name
measuring measure.Length name = raw.Length name

abbrev pub measured : Measure → List ℕ → Known
measured x name = with_known (measuring x name) (Some Number) (Some 65535)

abbrev pub cell : model.Moment → Known → Known
cell m x = with_known (raw.Cell m x.tree) (given (is_number x.sort) Number) (kept x.bound 255)

abbrev pub element : model.Moment → List ℕ → Known → Known
element m name x = with_known (raw.Element m name x.tree) (given (is_number x.sort) Number) (kept x.bound 255)

abbrev pub total : model.Moment → Known → Known → Known
total m x y = with_known (raw.Total m x.tree y.tree) (given (numbers x y) Number) (either x.bound y.bound 16711680)

abbrev pub parity : Known → Known
parity x = with_known (raw.Parity x.tree) (given (is_number x.sort) Number) (kept x.bound 1)

abbrev pub negative : Known → Known
negative x = with_known (raw.Negative x.tree) (given (is_number x.sort) Number) x.bound

abbrev pub inverted : Known → Known
inverted p = with_known (raw.Not p.tree) (given (is_truth p.sort) Truth) (kept p.bound 0)

abbrev pub operate : model.Operator → Known → Known → Known
operate o x y = with_known (raw.Operate o x.tree y.tree) (given (numbers x y) Number) (operated o x.bound y.bound)

abbrev pub compare : model.Comparison → Known → Known → Known
compare c x y = with_known (raw.Compare c x.tree y.tree) (given (numbers x y) Truth) (either x.bound y.bound 0)

abbrev pub connect : model.Connective → Known → Known → Known
connect c x y = with_known (raw.Connect c x.tree y.tree) (given (truths x y) Truth) (either x.bound y.bound 0)

abbrev pub quantified : model.Quantifier → List ℕ → Known → Known → Known → Known
quantified q name x y p =
    with_known (raw.Quantify q name x.tree y.tree p.tree) (given (numbers x y && is_truth p.sort) Truth)
    (either x.bound (either y.bound p.bound 0) 0)

abbrev pub two_bits : Bits → Known → Known → Known
two_bits bits.And x y = operate model.BitAnd x y
two_bits bits.Or x y = operate model.BitOr x y
two_bits bits.Xor x y = operate model.BitXor x y

abbrev pub joined : Infix → Known → Known → Known
joined op.Iff x y = connect model.Iff x y
joined op.Implies x y = connect model.Implies x y
joined op.Or x y = connect model.Or x y
joined op.And x y = connect model.And x y
joined (op.Compare c) x y = compare (comparison_of c) x y
joined op.Add x y = operate model.Add x y
joined op.Subtract x y = operate model.Subtract x y
joined op.Multiply x y = operate model.Multiply x y
joined op.Divide x y = operate model.Divide x y
joined op.Modulo x y = operate model.Modulo x y
