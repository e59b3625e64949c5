-- The simple form of a tree: each part is replaced by its simple form, and then the first rule that matches is used, again
-- and again (this project's own).
use Rattle.std.specs.Prelude.{ℕ, ℤ, Bool, ◌≡◌, Some, None}
use Rattle.sp_term.specs.declared.var.Var.{Var}
use Rattle.sp_term.specs.Tree.{Tree, Literal, Truth, Variable, Add, Subtract, Multiply, Divide, Remainder, ByteAnd, ByteOr, ByteXor, Parity, Bit, Psw, If, Element, Update, Total, Equal, Less, LessOrEqual, Not, And, Or, Implies, Iff, ForAll, ForSome}
use Rattle.sp_simp.specs.Rules.{Is, Made, MadePlus, MadeModulo, rule}

-- What the rules lead to from a node whose parts are simple. Each node that a rule writes is passed through the rules, the
-- innermost first.
pub data Leads : Tree → Tree → Type 0 where
  stays : (t : Tree) → rule t ≡ None → Leads t t
  is : (t r : Tree) → rule t ≡ Some (Is r) → Leads t r
  made : (t x r : Tree) → rule t ≡ Some (Made x) → Leads x r → Leads t r
  made_plus : (t x y r : Tree) (c : ℤ) → rule t ≡ Some (MadePlus x c) → Leads x y → Leads (Add y (Literal c)) r → Leads t r
  made_modulo : (t x y r : Tree) (c : ℤ) → rule t ≡ Some (MadeModulo x c) → Leads x y → Leads (Remainder y (Literal c)) r → Leads t r

-- the parts of a node are replaced by their simple forms
pub data IsSimpleForm : Tree → Tree → Type 0 where
  of_literal : (n : ℤ) → IsSimpleForm (Literal n) (Literal n)
  of_truth : (b : Bool) → IsSimpleForm (Truth b) (Truth b)
  of_variable : (v : Var) → IsSimpleForm (Variable v) (Variable v)
  of_add : (x y a b r : Tree) → IsSimpleForm x a → IsSimpleForm y b → Leads (Add a b) r → IsSimpleForm (Add x y) r
  of_subtract : (x y a b r : Tree) → IsSimpleForm x a → IsSimpleForm y b → Leads (Subtract a b) r → IsSimpleForm (Subtract x y) r
  of_multiply : (x y a b r : Tree) → IsSimpleForm x a → IsSimpleForm y b → Leads (Multiply a b) r → IsSimpleForm (Multiply x y) r
  of_divide : (x y a b r : Tree) → IsSimpleForm x a → IsSimpleForm y b → Leads (Divide a b) r → IsSimpleForm (Divide x y) r
  of_remainder : (x y a b r : Tree) → IsSimpleForm x a → IsSimpleForm y b → Leads (Remainder a b) r → IsSimpleForm (Remainder x y) r
  of_byte_and : (x y a b r : Tree) → IsSimpleForm x a → IsSimpleForm y b → Leads (ByteAnd a b) r → IsSimpleForm (ByteAnd x y) r
  of_byte_or : (x y a b r : Tree) → IsSimpleForm x a → IsSimpleForm y b → Leads (ByteOr a b) r → IsSimpleForm (ByteOr x y) r
  of_byte_xor : (x y a b r : Tree) → IsSimpleForm x a → IsSimpleForm y b → Leads (ByteXor a b) r → IsSimpleForm (ByteXor x y) r
  of_parity : (x a r : Tree) → IsSimpleForm x a → Leads (Parity a) r → IsSimpleForm (Parity x) r
  of_bit : (k : ℕ) (x a r : Tree) → IsSimpleForm x a → Leads (Bit k a) r → IsSimpleForm (Bit k x) r
  of_psw : (x y z u v a b c d e r : Tree) → IsSimpleForm x a → IsSimpleForm y b → IsSimpleForm z c → IsSimpleForm u d → IsSimpleForm v e → Leads (Psw a b c d e) r → IsSimpleForm (Psw x y z u v) r
  of_if : (x y z a b c r : Tree) → IsSimpleForm x a → IsSimpleForm y b → IsSimpleForm z c → Leads (If a b c) r → IsSimpleForm (If x y z) r
  of_element : (x y a b r : Tree) → IsSimpleForm x a → IsSimpleForm y b → Leads (Element a b) r → IsSimpleForm (Element x y) r
  of_update : (x y z a b c r : Tree) → IsSimpleForm x a → IsSimpleForm y b → IsSimpleForm z c → Leads (Update a b c) r → IsSimpleForm (Update x y z) r
  of_total : (x y z a b c r : Tree) → IsSimpleForm x a → IsSimpleForm y b → IsSimpleForm z c → Leads (Total a b c) r → IsSimpleForm (Total x y z) r
  of_equal : (x y a b r : Tree) → IsSimpleForm x a → IsSimpleForm y b → Leads (Equal a b) r → IsSimpleForm (Equal x y) r
  of_less : (x y a b r : Tree) → IsSimpleForm x a → IsSimpleForm y b → Leads (Less a b) r → IsSimpleForm (Less x y) r
  of_less_or_equal : (x y a b r : Tree) → IsSimpleForm x a → IsSimpleForm y b → Leads (LessOrEqual a b) r → IsSimpleForm (LessOrEqual x y) r
  of_not : (x a r : Tree) → IsSimpleForm x a → Leads (Not a) r → IsSimpleForm (Not x) r
  of_and : (x y a b r : Tree) → IsSimpleForm x a → IsSimpleForm y b → Leads (And a b) r → IsSimpleForm (And x y) r
  of_or : (x y a b r : Tree) → IsSimpleForm x a → IsSimpleForm y b → Leads (Or a b) r → IsSimpleForm (Or x y) r
  of_implies : (x y a b r : Tree) → IsSimpleForm x a → IsSimpleForm y b → Leads (Implies a b) r → IsSimpleForm (Implies x y) r
  of_iff : (x y a b r : Tree) → IsSimpleForm x a → IsSimpleForm y b → Leads (Iff a b) r → IsSimpleForm (Iff x y) r
  of_for_all : (k : ℕ) (x y z a b c r : Tree) → IsSimpleForm x a → IsSimpleForm y b → IsSimpleForm z c → Leads (ForAll k a b c) r → IsSimpleForm (ForAll k x y z) r
  of_for_some : (k : ℕ) (x y z a b c r : Tree) → IsSimpleForm x a → IsSimpleForm y b → IsSimpleForm z c → Leads (ForSome k a b c) r → IsSimpleForm (ForSome k x y z) r
