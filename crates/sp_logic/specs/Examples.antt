-- Texts of notes, and notes that are well formed, by example.
use Rattle.std.specs.Prelude.{◌≡◌, ◌++◌, codes, decimal, true, false}
use Rattle.sp_base.specs.declared.location.Loc.TheVariants as loc
use Rattle.sp_model.specs.Note.{Now, AtEntry, BC, DE, HL, Add, Subtract, Multiply, Divide, Modulo, BitAnd, BitOr, BitXor, Equal, Unequal, Less, LessOrEqual, Greater, GreaterOrEqual, And, Or, Implies, Iff, ForAll, ForSome, Quantity, Literal, Location, Pair, Cell, StackWord, Total, Negative, Parity, Operate, Bound, Constant, Compare, Not, Connect, Quantify}
use Rattle.sp_logic.specs.Text.{quantity_text, note_text}
use Rattle.sp_logic.specs.WellFormed.{IsWellFormed}

abbrev pub A : Quantity
A = Location Now loc.A

abbrev pub I : Quantity
I = Bound (codes "I")

pub record PrintsNotes : Type 0 where
  pub comparison : note_text (Compare Equal A (Literal 5)) ≡ codes "(A = " ++ decimal 5 ++ codes ")"
  pub entry : note_text (Compare Unequal (Location AtEntry loc.Cy) (Pair AtEntry HL)) ≡ codes "(CY~ <> HL~)"
  pub cells : note_text (Compare Less (Cell Now A) (Cell AtEntry (Negative A))) ≡ codes "(mem[A] < mem~[(-A)])"
  pub sums : note_text (Compare LessOrEqual (Total Now A A) (Total AtEntry A (Pair Now DE))) ≡ codes "(total(A, A) <= total~(A, DE))"
  pub words : note_text (Compare Greater (Pair Now BC) (StackWord 12)) ≡ codes "(BC > STK" ++ decimal 12 ++ codes ")"
  pub bits : note_text (Compare GreaterOrEqual (Operate BitAnd A (Operate BitOr A (Operate BitXor A A))) (Parity A)) ≡ codes "(band(A, bor(A, bxor(A, A))) >= par(A))"
  pub operators : quantity_text (Operate Divide (Operate Multiply (Operate Subtract (Operate Add A A) A) A) (Operate Modulo A A)) ≡ codes "((((A + A) - A) * A) div (A mod A))"
  pub connectives : note_text (Connect Implies (Connect And (Constant true) (Constant false)) (Connect Or (Constant true) (Connect Iff (Constant false) (Not (Constant true))))) ≡ codes "((true and false) -> (true or (false <-> (not true))))"
  pub quantifiers : note_text (Quantify ForAll (codes "I") A (Pair Now HL) (Quantify ForSome (codes "J") I A (Compare Equal I (Bound (codes "J"))))) ≡ codes "(for all I in A..HL: (for some J in I..A: (I = J)))"

pub record FormsNotes : Type 0 where
  pub largest : IsWellFormed (Compare Equal (Literal 9223372036854775807) (StackWord 1))
  pub too_large : ¬ IsWellFormed (Compare Equal (Literal 9223372036854775808) (StackWord 1))
  pub last_word : IsWellFormed (Compare Equal (Negative (Literal 0)) (StackWord 32767))
  pub no_word : ¬ IsWellFormed (Compare Equal (Negative (Literal 0)) (StackWord 0))
  pub past_word : ¬ IsWellFormed (Compare Equal (Negative (Literal 0)) (StackWord 32768))
  pub open_name : ¬ IsWellFormed (Compare Equal I (Literal 1))
  pub register : ¬ IsWellFormed (Quantify ForAll (codes "A") (Literal 0) (Literal 1) (Constant true))
  pub digit : ¬ IsWellFormed (Quantify ForAll (codes "1I") (Literal 0) (Literal 1) (Constant true))
