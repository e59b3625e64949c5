-- Trees as trees of numbers, one to one: what the library asks of a type that contracts see a struct as.
use Rattle.std.specs.Prelude.{ℕ, zero, suc, ◌≡◌, Bool, true, false, refl, ℤ, pos, negsuc, List, [], ◌∷◌}
use Rattle.std.specs.Coded.{Coded}
use Rattle.std.proofs.Common.{ap, sym, ◌∙◌}
use base.Stored.{Gv, gnil, gnum, gcons, num}
use Rattle.sp_base.specs.declared.location.Loc.{Loc}
use Rattle.sp_base.specs.declared.location.Loc.TheVariants as loc
use Rattle.sp_base.specs.Locs.{place}
use Rattle.sp_term.specs.declared.var.Var.{Var}
use Rattle.sp_term.specs.declared.var.Var.TheVariants as var
use Rattle.sp_term.specs.Tree.{Tree, Literal, Truth, Variable, Add, Subtract, Multiply, Divide, Remainder, ByteAnd, ByteOr, ByteXor, Parity, Bit, Psw, If, Element, Update, Total, Equal, Less, LessOrEqual, Not, And, Or, Implies, Iff, ForAll, ForSome}

abbrev head : Gv → Gv
head gnil = gnil
head (gnum n) = gnil
head (gcons a b) = a

abbrev tail : Gv → Gv
tail gnil = gnil
tail (gnum n) = gnil
tail (gcons a b) = b

abbrev loc_from : ℕ → Loc
loc_from zero = loc.A
loc_from (suc zero) = loc.B
loc_from (suc (suc zero)) = loc.C
loc_from (suc (suc (suc zero))) = loc.D
loc_from (suc (suc (suc (suc zero)))) = loc.E
loc_from (suc (suc (suc (suc (suc zero))))) = loc.H
loc_from (suc (suc (suc (suc (suc (suc zero)))))) = loc.L
loc_from (suc (suc (suc (suc (suc (suc (suc zero))))))) = loc.S
loc_from (suc (suc (suc (suc (suc (suc (suc (suc zero)))))))) = loc.Z
loc_from (suc (suc (suc (suc (suc (suc (suc (suc (suc zero))))))))) = loc.Ac
loc_from (suc (suc (suc (suc (suc (suc (suc (suc (suc (suc zero)))))))))) = loc.P
loc_from (suc (suc (suc (suc (suc (suc (suc (suc (suc (suc (suc _))))))))))) = loc.Cy

loc_back : (x : Loc) → loc_from (place x) ≡ x
loc_back loc.A = refl
loc_back loc.B = refl
loc_back loc.C = refl
loc_back loc.D = refl
loc_back loc.E = refl
loc_back loc.H = refl
loc_back loc.L = refl
loc_back loc.S = refl
loc_back loc.Z = refl
loc_back loc.Ac = refl
loc_back loc.P = refl
loc_back loc.Cy = refl

abbrev var_code : Var → Gv
var_code (var.Entry x) = gcons (gnum 0) (gcons (gnum (place x)) gnil)
var_code (var.Now x) = gcons (gnum 1) (gcons (gnum (place x)) gnil)
var_code (var.After x j) = gcons (gnum 2) (gcons (gnum (place x)) (gnum j))
var_code var.MemEntry = gcons (gnum 3) (gcons gnil gnil)
var_code var.Mem = gcons (gnum 4) (gcons gnil gnil)
var_code (var.MemAfter j) = gcons (gnum 5) (gcons gnil (gnum j))
var_code (var.In j) = gcons (gnum 6) (gcons gnil (gnum j))
var_code (var.SlotHigh j) = gcons (gnum 7) (gcons gnil (gnum j))
var_code (var.SlotLow j) = gcons (gnum 8) (gcons gnil (gnum j))
var_code (var.Any j) = gcons (gnum 9) (gcons gnil (gnum j))
var_code (var.Bound j) = gcons (gnum 10) (gcons gnil (gnum j))

abbrev var_of : ℕ → Loc → ℕ → Var
var_of zero x j = var.Entry x
var_of (suc zero) x j = var.Now x
var_of (suc (suc zero)) x j = var.After x j
var_of (suc (suc (suc zero))) x j = var.MemEntry
var_of (suc (suc (suc (suc zero)))) x j = var.Mem
var_of (suc (suc (suc (suc (suc zero))))) x j = var.MemAfter j
var_of (suc (suc (suc (suc (suc (suc zero)))))) x j = var.In j
var_of (suc (suc (suc (suc (suc (suc (suc zero))))))) x j = var.SlotHigh j
var_of (suc (suc (suc (suc (suc (suc (suc (suc zero)))))))) x j = var.SlotLow j
var_of (suc (suc (suc (suc (suc (suc (suc (suc (suc zero))))))))) x j = var.Any j
var_of (suc (suc (suc (suc (suc (suc (suc (suc (suc (suc _)))))))))) x j = var.Bound j

abbrev var_from : Gv → Var
var_from g = var_of (num (head g)) (loc_from (num (head (tail g)))) (num (tail (tail g)))

var_back : (v : Var) → var_from (var_code v) ≡ v
var_back (var.Entry x) = λ i. var.Entry (loc_back x i)
var_back (var.Now x) = λ i. var.Now (loc_back x i)
var_back (var.After x j) = λ i. var.After (loc_back x i) j
var_back var.MemEntry = refl
var_back var.Mem = refl
var_back (var.MemAfter j) = refl
var_back (var.In j) = refl
var_back (var.SlotHigh j) = refl
var_back (var.SlotLow j) = refl
var_back (var.Any j) = refl
var_back (var.Bound j) = refl

abbrev int_code : ℤ → Gv
int_code (pos n) = gcons (gnum 0) (gnum n)
int_code (negsuc n) = gcons (gnum 1) (gnum n)

abbrev signed : ℕ → ℕ → ℤ
signed zero n = pos n
signed (suc k) n = negsuc n

abbrev int_from : Gv → ℤ
int_from g = signed (num (head g)) (num (tail g))

int_back : (z : ℤ) → int_from (int_code z) ≡ z
int_back (pos n) = refl
int_back (negsuc n) = refl

abbrev truth_code : Bool → Gv
truth_code true = gnum 1
truth_code false = gnum 0

abbrev truth_of : ℕ → Bool
truth_of zero = false
truth_of (suc n) = true

truth_back : (b : Bool) → truth_of (num (truth_code b)) ≡ b
truth_back true = refl
truth_back false = refl

abbrev pub code : Tree → Gv
code (Literal n) = gcons (gnum 0) (gcons (int_code n) gnil)
code (Truth b) = gcons (gnum 1) (gcons (truth_code b) gnil)
code (Variable w) = gcons (gnum 2) (gcons (var_code w) gnil)
code (Add x y) = gcons (gnum 3) (gcons gnil (gcons (code x) (gcons (code y) gnil)))
code (Subtract x y) = gcons (gnum 4) (gcons gnil (gcons (code x) (gcons (code y) gnil)))
code (Multiply x y) = gcons (gnum 5) (gcons gnil (gcons (code x) (gcons (code y) gnil)))
code (Divide x y) = gcons (gnum 6) (gcons gnil (gcons (code x) (gcons (code y) gnil)))
code (Remainder x y) = gcons (gnum 7) (gcons gnil (gcons (code x) (gcons (code y) gnil)))
code (ByteAnd x y) = gcons (gnum 8) (gcons gnil (gcons (code x) (gcons (code y) gnil)))
code (ByteOr x y) = gcons (gnum 9) (gcons gnil (gcons (code x) (gcons (code y) gnil)))
code (ByteXor x y) = gcons (gnum 10) (gcons gnil (gcons (code x) (gcons (code y) gnil)))
code (Parity x) = gcons (gnum 11) (gcons gnil (gcons (code x) gnil))
code (Bit k x) = gcons (gnum 12) (gcons (gnum k) (gcons (code x) gnil))
code (Psw s z ac p cy) = gcons (gnum 13) (gcons gnil (gcons (code s) (gcons (code z) (gcons (code ac) (gcons (code p) (gcons (code cy) gnil))))))
code (If p x y) = gcons (gnum 14) (gcons gnil (gcons (code p) (gcons (code x) (gcons (code y) gnil))))
code (Element m x) = gcons (gnum 15) (gcons gnil (gcons (code m) (gcons (code x) gnil)))
code (Update m x y) = gcons (gnum 16) (gcons gnil (gcons (code m) (gcons (code x) (gcons (code y) gnil))))
code (Total m x y) = gcons (gnum 17) (gcons gnil (gcons (code m) (gcons (code x) (gcons (code y) gnil))))
code (Equal x y) = gcons (gnum 18) (gcons gnil (gcons (code x) (gcons (code y) gnil)))
code (Less x y) = gcons (gnum 19) (gcons gnil (gcons (code x) (gcons (code y) gnil)))
code (LessOrEqual x y) = gcons (gnum 20) (gcons gnil (gcons (code x) (gcons (code y) gnil)))
code (Not p) = gcons (gnum 21) (gcons gnil (gcons (code p) gnil))
code (And p q) = gcons (gnum 22) (gcons gnil (gcons (code p) (gcons (code q) gnil)))
code (Or p q) = gcons (gnum 23) (gcons gnil (gcons (code p) (gcons (code q) gnil)))
code (Implies p q) = gcons (gnum 24) (gcons gnil (gcons (code p) (gcons (code q) gnil)))
code (Iff p q) = gcons (gnum 25) (gcons gnil (gcons (code p) (gcons (code q) gnil)))
code (ForAll k x y p) = gcons (gnum 26) (gcons (gnum k) (gcons (code x) (gcons (code y) (gcons (code p) gnil))))
code (ForSome k x y p) = gcons (gnum 27) (gcons (gnum k) (gcons (code x) (gcons (code y) (gcons (code p) gnil))))

abbrev rest : List Tree → List Tree
rest [] = []
rest (t ∷ ts) = ts

-- the part with this number among those that were read
abbrev part : ℕ → List Tree → Tree
part k [] = Truth false
part zero (t ∷ ts) = t
part (suc k) (t ∷ ts) = part k ts

-- a node from its number, what it holds and its parts
abbrev build : ℕ → Gv → List Tree → Tree
build zero d ts = Literal (int_from d)
build (suc zero) d ts = Truth (truth_of (num d))
build (suc (suc zero)) d ts = Variable (var_from d)
build (suc (suc (suc zero))) d ts = Add (part 0 ts) (part 1 ts)
build (suc (suc (suc (suc zero)))) d ts = Subtract (part 0 ts) (part 1 ts)
build (suc (suc (suc (suc (suc zero))))) d ts = Multiply (part 0 ts) (part 1 ts)
build (suc (suc (suc (suc (suc (suc zero)))))) d ts = Divide (part 0 ts) (part 1 ts)
build (suc (suc (suc (suc (suc (suc (suc zero))))))) d ts = Remainder (part 0 ts) (part 1 ts)
build (suc (suc (suc (suc (suc (suc (suc (suc zero)))))))) d ts = ByteAnd (part 0 ts) (part 1 ts)
build (suc (suc (suc (suc (suc (suc (suc (suc (suc zero))))))))) d ts = ByteOr (part 0 ts) (part 1 ts)
build (suc (suc (suc (suc (suc (suc (suc (suc (suc (suc zero)))))))))) d ts = ByteXor (part 0 ts) (part 1 ts)
build (suc (suc (suc (suc (suc (suc (suc (suc (suc (suc (suc zero))))))))))) d ts = Parity (part 0 ts)
build (suc (suc (suc (suc (suc (suc (suc (suc (suc (suc (suc (suc zero)))))))))))) d ts = Bit (num d) (part 0 ts)
build (suc (suc (suc (suc (suc (suc (suc (suc (suc (suc (suc (suc (suc zero))))))))))))) d ts = Psw (part 0 ts) (part 1 ts) (part 2 ts) (part 3 ts) (part 4 ts)
build (suc (suc (suc (suc (suc (suc (suc (suc (suc (suc (suc (suc (suc (suc zero)))))))))))))) d ts = If (part 0 ts) (part 1 ts) (part 2 ts)
build (suc (suc (suc (suc (suc (suc (suc (suc (suc (suc (suc (suc (suc (suc (suc zero))))))))))))))) d ts = Element (part 0 ts) (part 1 ts)
build (suc (suc (suc (suc (suc (suc (suc (suc (suc (suc (suc (suc (suc (suc (suc (suc zero)))))))))))))))) d ts = Update (part 0 ts) (part 1 ts) (part 2 ts)
build (suc (suc (suc (suc (suc (suc (suc (suc (suc (suc (suc (suc (suc (suc (suc (suc (suc zero))))))))))))))))) d ts = Total (part 0 ts) (part 1 ts) (part 2 ts)
build (suc (suc (suc (suc (suc (suc (suc (suc (suc (suc (suc (suc (suc (suc (suc (suc (suc (suc zero)))))))))))))))))) d ts = Equal (part 0 ts) (part 1 ts)
build (suc (suc (suc (suc (suc (suc (suc (suc (suc (suc (suc (suc (suc (suc (suc (suc (suc (suc (suc zero))))))))))))))))))) d ts = Less (part 0 ts) (part 1 ts)
build (suc (suc (suc (suc (suc (suc (suc (suc (suc (suc (suc (suc (suc (suc (suc (suc (suc (suc (suc (suc zero)))))))))))))))))))) d ts = LessOrEqual (part 0 ts) (part 1 ts)
build (suc (suc (suc (suc (suc (suc (suc (suc (suc (suc (suc (suc (suc (suc (suc (suc (suc (suc (suc (suc (suc zero))))))))))))))))))))) d ts = Not (part 0 ts)
build (suc (suc (suc (suc (suc (suc (suc (suc (suc (suc (suc (suc (suc (suc (suc (suc (suc (suc (suc (suc (suc (suc zero)))))))))))))))))))))) d ts = And (part 0 ts) (part 1 ts)
build (suc (suc (suc (suc (suc (suc (suc (suc (suc (suc (suc (suc (suc (suc (suc (suc (suc (suc (suc (suc (suc (suc (suc zero))))))))))))))))))))))) d ts = Or (part 0 ts) (part 1 ts)
build (suc (suc (suc (suc (suc (suc (suc (suc (suc (suc (suc (suc (suc (suc (suc (suc (suc (suc (suc (suc (suc (suc (suc (suc zero)))))))))))))))))))))))) d ts = Implies (part 0 ts) (part 1 ts)
build (suc (suc (suc (suc (suc (suc (suc (suc (suc (suc (suc (suc (suc (suc (suc (suc (suc (suc (suc (suc (suc (suc (suc (suc (suc zero))))))))))))))))))))))))) d ts = Iff (part 0 ts) (part 1 ts)
build (suc (suc (suc (suc (suc (suc (suc (suc (suc (suc (suc (suc (suc (suc (suc (suc (suc (suc (suc (suc (suc (suc (suc (suc (suc (suc zero)))))))))))))))))))))))))) d ts = ForAll (num d) (part 0 ts) (part 1 ts) (part 2 ts)
build (suc (suc (suc (suc (suc (suc (suc (suc (suc (suc (suc (suc (suc (suc (suc (suc (suc (suc (suc (suc (suc (suc (suc (suc (suc (suc (suc _))))))))))))))))))))))))))) d ts = ForSome (num d) (part 0 ts) (part 1 ts) (part 2 ts)

-- what was read: a tree, and the trees along a list
record Read : Type 0 where
  pub tree : Tree
  pub along : List Tree

abbrev read : Gv → Read
read gnil = record { tree = Truth false; along = [] }
read (gnum n) = record { tree = Truth false; along = [] }
read (gcons a b) = record { tree = build (num a) (head b) (rest (read b).along); along = (read a).tree ∷ (read b).along }

abbrev decoded : Gv → Tree
decoded g = (read g).tree

pub decoded-code : (t : Tree) → decoded (code t) ≡ t
decoded-code (Literal n) = λ i. Literal (int_back n i)
decoded-code (Truth b) = λ i. Truth (truth_back b i)
decoded-code (Variable w) = λ i. Variable (var_back w i)
decoded-code (Add x y) = λ i. Add (decoded-code x i) (decoded-code y i)
decoded-code (Subtract x y) = λ i. Subtract (decoded-code x i) (decoded-code y i)
decoded-code (Multiply x y) = λ i. Multiply (decoded-code x i) (decoded-code y i)
decoded-code (Divide x y) = λ i. Divide (decoded-code x i) (decoded-code y i)
decoded-code (Remainder x y) = λ i. Remainder (decoded-code x i) (decoded-code y i)
decoded-code (ByteAnd x y) = λ i. ByteAnd (decoded-code x i) (decoded-code y i)
decoded-code (ByteOr x y) = λ i. ByteOr (decoded-code x i) (decoded-code y i)
decoded-code (ByteXor x y) = λ i. ByteXor (decoded-code x i) (decoded-code y i)
decoded-code (Parity x) = λ i. Parity (decoded-code x i)
decoded-code (Bit k x) = λ i. Bit k (decoded-code x i)
decoded-code (Psw s z ac p cy) = λ i. Psw (decoded-code s i) (decoded-code z i) (decoded-code ac i) (decoded-code p i) (decoded-code cy i)
decoded-code (If p x y) = λ i. If (decoded-code p i) (decoded-code x i) (decoded-code y i)
decoded-code (Element m x) = λ i. Element (decoded-code m i) (decoded-code x i)
decoded-code (Update m x y) = λ i. Update (decoded-code m i) (decoded-code x i) (decoded-code y i)
decoded-code (Total m x y) = λ i. Total (decoded-code m i) (decoded-code x i) (decoded-code y i)
decoded-code (Equal x y) = λ i. Equal (decoded-code x i) (decoded-code y i)
decoded-code (Less x y) = λ i. Less (decoded-code x i) (decoded-code y i)
decoded-code (LessOrEqual x y) = λ i. LessOrEqual (decoded-code x i) (decoded-code y i)
decoded-code (Not p) = λ i. Not (decoded-code p i)
decoded-code (And p q) = λ i. And (decoded-code p i) (decoded-code q i)
decoded-code (Or p q) = λ i. Or (decoded-code p i) (decoded-code q i)
decoded-code (Implies p q) = λ i. Implies (decoded-code p i) (decoded-code q i)
decoded-code (Iff p q) = λ i. Iff (decoded-code p i) (decoded-code q i)
decoded-code (ForAll k x y p) = λ i. ForAll k (decoded-code x i) (decoded-code y i) (decoded-code p i)
decoded-code (ForSome k x y p) = λ i. ForSome k (decoded-code x i) (decoded-code y i) (decoded-code p i)

abbrev pub tree_code : Coded Tree
tree_code = record { code = code; inj = λ x y p. sym (decoded-code x) ∙ ap decoded p ∙ decoded-code y }
