-- Translation by example, and premises that can be met.
use Rattle.std.specs.Prelude.{◌≡◌, ℕ, List, ◌+◌, ◌<◌, ◌≤◌, codes, [], ◌∷◌}
use Rattle.sp_base.specs.declared.location.Reg.TheVariants as reg
use Rattle.sp_base.specs.declared.location.Loc.TheVariants as loc
use Rattle.sp_isa.specs.declared.instr.Arg.TheVariants as arg
use Rattle.sp_isa.specs.declared.instr.StackPair.TheVariants as stack
use Rattle.sp_isa.specs.declared.instr.Instr.TheVariants as instr
use Rattle.sp_isa.specs.Core.{Core}
use Rattle.sp_model.specs.Note as note
use Rattle.sp_model.specs.Note.{Frame, Quantity, Note}
use Rattle.sp_term.specs.declared.var.Var.TheVariants as var
use Rattle.sp_term.specs.Tree.{Tree, Variable, Add, Multiply, Divide, Remainder, Equal, And, ForAll, ForSome}
use Rattle.sp_term.specs.Value.{Env}
use Rattle.sp_trans.specs.Symbolic.{Word, Symbolic, number, joined}
use Rattle.sp_trans.specs.Translation.{applied}
use Rattle.sp_trans.specs.Formulas.{stack_term, formula_of}
use Rattle.sp_trans.specs.Meaning.{IsValueOf, Asks}

abbrev pub A : Tree
A = Variable (var.Now loc.A)

abbrev pub B : Tree
B = Variable (var.Now loc.B)

-- the word of two bytes as their sum
abbrev pub sum_of : Tree → Tree → Tree
sum_of x y = Add (Multiply (number 256) x) y

-- the quotient and the remainder of one term are its parts; of two terms, or by another number, they are none
pub record JoinsParts : Type 0 where
  pub parts : joined (Divide A (number 256)) (Remainder A (number 256)) ≡ A
  pub two_terms : joined (Divide A (number 256)) (Remainder B (number 256)) ≡ sum_of (Divide A (number 256)) (Remainder B (number 256))
  pub other_quotient : joined (Divide A (number 255)) (Remainder A (number 256)) ≡ sum_of (Divide A (number 255)) (Remainder A (number 256))
  pub other_remainder : joined (Divide A (number 256)) (Remainder A (number 255)) ≡ sum_of (Divide A (number 256)) (Remainder A (number 255))
  pub exchanged : joined (Remainder A (number 256)) (Divide A (number 256)) ≡ sum_of (Remainder A (number 256)) (Divide A (number 256))

-- INR takes a term one higher, modulo 256, and leaves CY's term
pub record Increases (g : Symbolic) (j : ℕ) : Type 0 where
  pub register : (applied (instr.Inr (arg.Reg reg.B)) j g).b ≡ Remainder (Add g.b (number 1)) (number 256)
  pub carry : (applied (instr.Inr (arg.Reg reg.B)) j g).cy ≡ g.cy

-- the first word is the one at the base, the last in the list
pub record CountsWords (w v : Word) : Type 0 where
  pub first : stack_term 1 (v ∷ w ∷ []) ≡ joined w.high w.low
  pub second : stack_term 2 (v ∷ w ∷ []) ≡ joined v.high v.low

abbrev pub I : Quantity
I = note.Bound (codes "I")

abbrev pub J : Quantity
J = note.Bound (codes "J")

abbrev pub bound : ℕ → Tree
bound k = Variable (var.Bound k)

-- a quantifier over the numbers from one through another
abbrev pub for_all : List ℕ → Quantity → Quantity → Note → Note
for_all name x y p = note.Quantify note.ForAll name x y p

abbrev pub for_some : List ℕ → Quantity → Quantity → Note → Note
for_some name x y p = note.Quantify note.ForSome name x y p

abbrev pub equal : Quantity → Quantity → Note
equal x y = note.Compare note.Equal x y

abbrev pub two : Quantity
two = note.Literal 2

abbrev pub three : Quantity
three = note.Literal 3

-- names are numbered from the outermost quantifier on; a name is that of its innermost one, whose ends are outside it
pub record NumbersNames (g0 g : Symbolic) : Type 0 where
  pub nested : formula_of g0 g (for_all (codes "I") two three (for_some (codes "J") I three (equal I J)))
      ≡ ForAll 1 (number 2) (number 3) (ForSome 2 (bound 1) (number 3) (Equal (bound 1) (bound 2)))
  pub hidden : formula_of g0 g (for_all (codes "I") two three (for_some (codes "I") I I (equal I I)))
      ≡ ForAll 1 (number 2) (number 3) (ForSome 2 (bound 1) (bound 1) (Equal (bound 2) (bound 2)))
  pub beside : formula_of g0 g (note.Connect note.And (for_all (codes "I") two three (equal I I)) (for_some (codes "J") two three (equal J J)))
      ≡ And (ForAll 1 (number 2) (number 3) (Equal (bound 1) (bound 1))) (ForSome 1 (number 2) (number 3) (Equal (bound 1) (bound 1)))

pub record TranslatesByExample : Type 0 where
  pub joins : JoinsParts
  pub increases : (g : Symbolic) (j : ℕ) → Increases g j
  pub words : (w v : Word) → CountsWords w v
  pub names : (g0 g : Symbolic) → NumbersNames g0 g

-- the symbolic state of variables: those of a walk's start, and no words on the stack
abbrev pub start : Symbolic
start = record {
  a = Variable (var.Now loc.A);
  b = Variable (var.Now loc.B);
  c = Variable (var.Now loc.C);
  d = Variable (var.Now loc.D);
  e = Variable (var.Now loc.E);
  h = Variable (var.Now loc.H);
  l = Variable (var.Now loc.L);
  s = Variable (var.Now loc.S);
  z = Variable (var.Now loc.Z);
  ac = Variable (var.Now loc.Ac);
  p = Variable (var.Now loc.P);
  cy = Variable (var.Now loc.Cy);
  memory = Variable var.Mem;
  slots = [];
}

-- each core is the value of that state in some environment, and of what is asked of a PUSH there is only room for its word
pub record PremisesAreMet : Type 0 where
  pub value : (f : Frame) (core : Core) → (e : Env) × IsValueOf f e start core
  pub push : (f : Frame) (core : Core) → f.last < 65535 → core.sp ≡ f.base → f.first + 2 ≤ f.base → f.base ≤ f.last + 1
      → Asks f (instr.Push stack.B) start core
