-- The text of a run (this project's own).
use Rattle.std.specs.Prelude.{ℕ, ◌/◌, ◌%◌, ◌+◌, nat_lt, if◌then◌else◌, List, [], ◌∷◌, ◌++◌, codes, decimal}
use Rattle.std.specs.List.{flat_map}
use Rattle.sp_hex.specs.Hex.{two_digits}
use Rattle.sp_isa.specs.Core.{Core, cell}
use Rattle.sp_model.specs.State.{State}

-- a word in four hexadecimal digits
abbrev pub four_digits : ℕ → List ℕ
four_digits word = two_digits (word / 256) ++ two_digits (word % 256)

-- the line of a byte that was put out at a port
abbrev pub output_line : ℕ × ℕ → List ℕ
output_line output = codes "out " ++ two_digits output.0 ++ codes " " ++ two_digits output.1 ++ 10 ∷ []

abbrev pub output_lines : List (ℕ × ℕ) → List ℕ
output_lines outputs = flat_map output_line outputs

abbrev pub registers_text : Core → List ℕ
registers_text core =
    codes "A=" ++ two_digits core.a ++ codes " B=" ++ two_digits core.b ++ codes " C=" ++ two_digits core.c ++ codes " D=" ++ two_digits core.d
    ++ codes " E=" ++ two_digits core.e ++ codes " H=" ++ two_digits core.h ++ codes " L=" ++ two_digits core.l

-- a flag as a digit
abbrev pub flag_digit : ℕ → List ℕ
flag_digit flag = (48 + flag) ∷ []

abbrev pub flags_text : Core → List ℕ
flags_text core =
    codes " S=" ++ flag_digit core.s ++ codes " Z=" ++ flag_digit core.z ++ codes " AC=" ++ flag_digit core.ac ++ codes " P=" ++ flag_digit core.p
    ++ codes " CY=" ++ flag_digit core.cy

-- how a run ended: halted; or stuck at a byte that begins no instruction, where steps were left; or else it was running
abbrev pub ending_text : (limit steps : ℕ) → Core → List ℕ
ending_text limit steps core =
    if core.halted then codes "halted" else
    (if nat_lt steps limit then codes "stuck " ++ two_digits (cell core.pc core) else codes "running")

-- the line of the last state
abbrev pub state_line : (limit steps : ℕ) → Core → List ℕ
state_line limit steps core =
    registers_text core ++ flags_text core ++ codes " SP=" ++ four_digits core.sp ++ codes " PC=" ++ four_digits core.pc
    ++ codes " steps=" ++ decimal steps ++ codes " " ++ ending_text limit steps core ++ 10 ∷ []

-- the text of a run that ended with this state after so many steps: a line for each output, and the line of the state
abbrev pub run_text : (limit steps : ℕ) → State → List ℕ
run_text limit steps s = output_lines s.outputs ++ state_line limit steps s.core
