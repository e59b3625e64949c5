-- Which trees are terms: each part is of the sort that its place asks (this project's own).
use Rattle.std.specs.Prelude.{◌≡◌, ◌≤◌, ⊤}
use Rattle.sp_term.specs.declared.var.Var.{Var}
use Rattle.sp_term.specs.declared.var.Var.TheVariants as var
use Rattle.sp_term.specs.Tree.{Tree, Literal, Truth, Variable, Add, Subtract, Multiply, Divide, Remainder, ByteAnd, ByteOr, ByteXor, Parity, Bit, Psw, If, Element, Update, Total, Equal, Less, LessOrEqual, Not, And, Or, Implies, Iff, ForAll, ForSome}

-- whole numbers, formulas, and memories
pub data Sort : Type 0 where
  Int : Sort
  Formula : Sort
  Memory : Sort

abbrev pub sort_of : Var → Sort
sort_of var.MemEntry = Memory
sort_of var.Mem = Memory
sort_of (var.MemAfter j) = Memory
sort_of (var.Entry x) = Int
sort_of (var.Now x) = Int
sort_of (var.After x j) = Int
sort_of (var.In j) = Int
sort_of (var.SlotHigh j) = Int
sort_of (var.SlotLow j) = Int
sort_of (var.Any j) = Int
sort_of (var.Bound j) = Int

-- the numbers of variables go from 1
abbrev pub IsNumbered : Var → Type 0
IsNumbered (var.Entry x) = ⊤
IsNumbered (var.Now x) = ⊤
IsNumbered (var.After x j) = 1 ≤ j
IsNumbered var.MemEntry = ⊤
IsNumbered var.Mem = ⊤
IsNumbered (var.MemAfter j) = 1 ≤ j
IsNumbered (var.In j) = 1 ≤ j
IsNumbered (var.SlotHigh j) = 1 ≤ j
IsNumbered (var.SlotLow j) = 1 ≤ j
IsNumbered (var.Any j) = 1 ≤ j
IsNumbered (var.Bound j) = 1 ≤ j

-- a tree is a term of this sort
abbrev pub HasSort : Tree → Sort → Type 0
HasSort (Literal n) s = s ≡ Int
HasSort (Truth b) s = s ≡ Formula
HasSort (Variable v) s = (s ≡ sort_of v) × IsNumbered v
HasSort (Add x y) s = (s ≡ Int) × HasSort x Int × HasSort y Int
HasSort (Subtract x y) s = (s ≡ Int) × HasSort x Int × HasSort y Int
HasSort (Multiply x y) s = (s ≡ Int) × HasSort x Int × HasSort y Int
HasSort (Divide x y) s = (s ≡ Int) × HasSort x Int × HasSort y Int
HasSort (Remainder x y) s = (s ≡ Int) × HasSort x Int × HasSort y Int
HasSort (ByteAnd x y) s = (s ≡ Int) × HasSort x Int × HasSort y Int
HasSort (ByteOr x y) s = (s ≡ Int) × HasSort x Int × HasSort y Int
HasSort (ByteXor x y) s = (s ≡ Int) × HasSort x Int × HasSort y Int
HasSort (Parity x) s = (s ≡ Int) × HasSort x Int
HasSort (Bit k x) s = (s ≡ Int) × (k ≤ 7) × HasSort x Int
HasSort (Psw f z ac p cy) s = (s ≡ Int) × HasSort f Int × HasSort z Int × HasSort ac Int × HasSort p Int × HasSort cy Int
HasSort (If p x y) s = (s ≡ Int) × HasSort p Formula × HasSort x Int × HasSort y Int
HasSort (Element m x) s = (s ≡ Int) × HasSort m Memory × HasSort x Int
HasSort (Update m x y) s = (s ≡ Memory) × HasSort m Memory × HasSort x Int × HasSort y Int
HasSort (Total m x y) s = (s ≡ Int) × HasSort m Memory × HasSort x Int × HasSort y Int
HasSort (Equal x y) s = (s ≡ Formula) × HasSort x Int × HasSort y Int
HasSort (Less x y) s = (s ≡ Formula) × HasSort x Int × HasSort y Int
HasSort (LessOrEqual x y) s = (s ≡ Formula) × HasSort x Int × HasSort y Int
HasSort (Not p) s = (s ≡ Formula) × HasSort p Formula
HasSort (And p q) s = (s ≡ Formula) × HasSort p Formula × HasSort q Formula
HasSort (Or p q) s = (s ≡ Formula) × HasSort p Formula × HasSort q Formula
HasSort (Implies p q) s = (s ≡ Formula) × HasSort p Formula × HasSort q Formula
HasSort (Iff p q) s = (s ≡ Formula) × HasSort p Formula × HasSort q Formula
HasSort (ForAll k x y p) s = (s ≡ Formula) × (1 ≤ k) × HasSort x Int × HasSort y Int × HasSort p Formula
HasSort (ForSome k x y p) s = (s ≡ Formula) × (1 ≤ k) × HasSort x Int × HasSort y Int × HasSort p Formula

-- a tree is a term of some sort
abbrev pub IsTerm : Tree → Type 0
IsTerm t = (s : Sort) × HasSort t s
