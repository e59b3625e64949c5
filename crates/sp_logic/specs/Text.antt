-- The printed form of annotations: each operator with its parts in one pair of parentheses, single blanks round words and
-- signs, functions and brackets as they are written, a blank after each comma (this project's own).
use Rattle.std.specs.Prelude.{ℕ, List, ◌++◌, codes, decimal, if◌then◌else◌}
use Rattle.sp_base.specs.declared.location.Loc.{Loc}
use Rattle.sp_base.specs.declared.location.Loc.TheVariants as loc
use Rattle.sp_model.specs.Note.{Moment, Now, AtEntry, RegisterPair, BC, DE, HL, Operator, Add, Subtract, Multiply, Divide, Modulo, BitAnd, BitOr, BitXor, Comparison, Equal, Unequal, Less, LessOrEqual, Greater, GreaterOrEqual, Connective, And, Or, Implies, Iff, Quantifier, ForAll, ForSome, Quantity, Literal, Location, Pair, Cell, StackWord, Total, Negative, Parity, Operate, Bound, Note, Constant, Compare, Not, Connect, Quantify}

abbrev pub moment_mark : Moment → List ℕ
moment_mark Now = codes ""
moment_mark AtEntry = codes "~"

abbrev pub location_name : Loc → List ℕ
location_name loc.A = codes "A"
location_name loc.B = codes "B"
location_name loc.C = codes "C"
location_name loc.D = codes "D"
location_name loc.E = codes "E"
location_name loc.H = codes "H"
location_name loc.L = codes "L"
location_name loc.S = codes "S"
location_name loc.Z = codes "Z"
location_name loc.Ac = codes "AC"
location_name loc.P = codes "P"
location_name loc.Cy = codes "CY"

abbrev pub pair_name : RegisterPair → List ℕ
pair_name BC = codes "BC"
pair_name DE = codes "DE"
pair_name HL = codes "HL"

-- what stands before the first part, and between the parts
abbrev pub opening : Operator → List ℕ
opening Add = codes "("
opening Subtract = codes "("
opening Multiply = codes "("
opening Divide = codes "("
opening Modulo = codes "("
opening BitAnd = codes "band("
opening BitOr = codes "bor("
opening BitXor = codes "bxor("

abbrev pub middle : Operator → List ℕ
middle Add = codes " + "
middle Subtract = codes " - "
middle Multiply = codes " * "
middle Divide = codes " div "
middle Modulo = codes " mod "
middle BitAnd = codes ", "
middle BitOr = codes ", "
middle BitXor = codes ", "

abbrev pub comparison_sign : Comparison → List ℕ
comparison_sign Equal = codes " = "
comparison_sign Unequal = codes " <> "
comparison_sign Less = codes " < "
comparison_sign LessOrEqual = codes " <= "
comparison_sign Greater = codes " > "
comparison_sign GreaterOrEqual = codes " >= "

abbrev pub connective_word : Connective → List ℕ
connective_word And = codes " and "
connective_word Or = codes " or "
connective_word Implies = codes " -> "
connective_word Iff = codes " <-> "

abbrev pub quantifier_words : Quantifier → List ℕ
quantifier_words ForAll = codes "for all "
quantifier_words ForSome = codes "for some "

abbrev pub quantity_text : Quantity → List ℕ
quantity_text (Literal n) = decimal n
quantity_text (Location m x) = location_name x ++ moment_mark m
quantity_text (Pair m p) = pair_name p ++ moment_mark m
quantity_text (Cell m x) = codes "mem" ++ moment_mark m ++ codes "[" ++ quantity_text x ++ codes "]"
quantity_text (StackWord k) = codes "STK" ++ decimal k
quantity_text (Total m x y) =
    codes "total" ++ moment_mark m ++ codes "(" ++ quantity_text x ++ codes ", " ++ quantity_text y ++ codes ")"
quantity_text (Negative x) = codes "(-" ++ quantity_text x ++ codes ")"
quantity_text (Parity x) = codes "par(" ++ quantity_text x ++ codes ")"
quantity_text (Operate o x y) = opening o ++ quantity_text x ++ middle o ++ quantity_text y ++ codes ")"
quantity_text (Bound name) = name

abbrev pub note_text : Note → List ℕ
note_text (Constant truth) = if truth then codes "true" else codes "false"
note_text (Compare c x y) = codes "(" ++ quantity_text x ++ comparison_sign c ++ quantity_text y ++ codes ")"
note_text (Not p) = codes "(not " ++ note_text p ++ codes ")"
note_text (Connect c p q) = codes "(" ++ note_text p ++ connective_word c ++ note_text q ++ codes ")"
note_text (Quantify q name x y p) =
    codes "(" ++ quantifier_words q ++ name ++ codes " in " ++ quantity_text x ++ codes ".." ++ quantity_text y ++ codes ": "
    ++ note_text p ++ codes ")"
