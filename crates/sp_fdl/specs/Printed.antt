-- The printed form of terms, formulas and memories, one spelling each, with exactly these blanks (this project's own).
use Rattle.std.specs.Prelude.{ℕ, List, ◌++◌, codes, decimal, if◌then◌else◌}
use Rattle.std.specs.Fmt.{signed_decimal}
use Rattle.sp_base.specs.declared.location.Loc.{Loc}
use Rattle.sp_base.specs.declared.location.Loc.TheVariants as loc
use Rattle.sp_term.specs.declared.var.Var.{Var}
use Rattle.sp_term.specs.declared.var.Var.TheVariants as var
use Rattle.sp_term.specs.Tree.{Tree, Literal, Truth, Variable, Add, Subtract, Multiply, Divide, Remainder, ByteAnd, ByteOr, ByteXor, Parity, Bit, Psw, If, Element, Update, Total, Equal, Less, LessOrEqual, Not, And, Or, Implies, Iff, ForAll, ForSome}

abbrev pub location_name : Loc → List ℕ
location_name loc.A = codes "a"
location_name loc.B = codes "b"
location_name loc.C = codes "c"
location_name loc.D = codes "d"
location_name loc.E = codes "e"
location_name loc.H = codes "h"
location_name loc.L = codes "l"
location_name loc.S = codes "s"
location_name loc.Z = codes "z"
location_name loc.Ac = codes "ac"
location_name loc.P = codes "p"
location_name loc.Cy = codes "cy"

abbrev pub variable_text : Var → List ℕ
variable_text (var.Entry x) = location_name x ++ codes "~"
variable_text (var.Now x) = location_name x
variable_text (var.After x j) = location_name x ++ (codes "_" ++ decimal j)
variable_text var.MemEntry = codes "mem~"
variable_text var.Mem = codes "mem"
variable_text (var.MemAfter j) = codes "mem_" ++ decimal j
variable_text (var.In j) = codes "in_" ++ decimal j
variable_text (var.SlotHigh j) = codes "stk" ++ (decimal j ++ codes "h")
variable_text (var.SlotLow j) = codes "stk" ++ (decimal j ++ codes "l")
variable_text (var.Any j) = codes "k_" ++ decimal j
variable_text (var.Bound j) = codes "i" ++ decimal j

abbrev pub text_of : Tree → List ℕ
text_of (Literal n) = signed_decimal n
text_of (Truth b) = if b then codes "true" else codes "false"
text_of (Variable v) = variable_text v
text_of (Add x y) = codes "(" ++ text_of x ++ codes " + " ++ text_of y ++ codes ")"
text_of (Subtract x y) = codes "(" ++ text_of x ++ codes " - " ++ text_of y ++ codes ")"
text_of (Multiply x y) = codes "(" ++ text_of x ++ codes " * " ++ text_of y ++ codes ")"
text_of (Divide x y) = codes "(" ++ text_of x ++ codes " div " ++ text_of y ++ codes ")"
text_of (Remainder x y) = codes "(" ++ text_of x ++ codes " mod " ++ text_of y ++ codes ")"
text_of (ByteAnd x y) = codes "band(" ++ text_of x ++ codes "," ++ text_of y ++ codes ")"
text_of (ByteOr x y) = codes "bor(" ++ text_of x ++ codes "," ++ text_of y ++ codes ")"
text_of (ByteXor x y) = codes "bxor(" ++ text_of x ++ codes "," ++ text_of y ++ codes ")"
text_of (Parity x) = codes "par(" ++ text_of x ++ codes ")"
text_of (Bit k x) = codes "bit(" ++ decimal k ++ codes "," ++ text_of x ++ codes ")"
text_of (Psw s z ac p cy) = codes "psw(" ++ text_of s ++ codes "," ++ text_of z ++ codes "," ++ text_of ac ++ codes "," ++ text_of p
    ++ codes "," ++ text_of cy ++ codes ")"
text_of (If p x y) = codes "if(" ++ text_of p ++ codes "," ++ text_of x ++ codes "," ++ text_of y ++ codes ")"
text_of (Element m x) = codes "element(" ++ text_of m ++ codes ",[" ++ text_of x ++ codes "])"
text_of (Update m x y) = codes "update(" ++ text_of m ++ codes ",[" ++ text_of x ++ codes "]," ++ text_of y ++ codes ")"
text_of (Total m x y) = codes "total(" ++ text_of m ++ codes ",[" ++ text_of x ++ codes "],[" ++ text_of y ++ codes "])"
text_of (Equal x y) = codes "(" ++ text_of x ++ codes " = " ++ text_of y ++ codes ")"
text_of (Less x y) = codes "(" ++ text_of x ++ codes " < " ++ text_of y ++ codes ")"
text_of (LessOrEqual x y) = codes "(" ++ text_of x ++ codes " <= " ++ text_of y ++ codes ")"
text_of (Not p) = codes "(not " ++ text_of p ++ codes ")"
text_of (And p q) = codes "(" ++ text_of p ++ codes " and " ++ text_of q ++ codes ")"
text_of (Or p q) = codes "(" ++ text_of p ++ codes " or " ++ text_of q ++ codes ")"
text_of (Implies p q) = codes "(" ++ text_of p ++ codes " -> " ++ text_of q ++ codes ")"
text_of (Iff p q) = codes "(" ++ text_of p ++ codes " <-> " ++ text_of q ++ codes ")"
text_of (ForAll k x y p) = codes "for_all(i" ++ decimal k ++ codes ": " ++ text_of x ++ codes ".." ++ text_of y ++ codes ", " ++ text_of p ++ codes ")"
text_of (ForSome k x y p) = codes "for_some(i" ++ decimal k ++ codes ": " ++ text_of x ++ codes ".." ++ text_of y ++ codes ", " ++ text_of p ++ codes ")"
