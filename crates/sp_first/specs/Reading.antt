-- Reading a source of the first form, from its words.
use Rattle.std.specs.Prelude.{ℕ, Bool, true, false, ◌&&◌, not, List, [], ◌∷◌, ◌++◌, length, map, reverse, codes, Option, Some, None, is_some, option_and_then, option_map, nat_le, bytes_eq, if◌then◌else◌, ◌==◌}
use Rattle.std.specs.List.{list_all, list_any}
use Rattle.sp_base.specs.declared.location.Reg.{Reg}
use Rattle.sp_base.specs.declared.location.Reg.TheVariants as reg
use Rattle.sp_first.specs.declared.transfer.Transfer.{Transfer}
use Rattle.sp_first.specs.declared.transfer.Transfer.TheVariants.{Mvi, Mov}
use Rattle.sp_first.specs.Words.{lines, words}
use Rattle.sp_first.specs.Form.{number_of, reserved}
use Rattle.sp_first.specs.Program.{Reading, last_value, same_reg}

infixl 10 ◌>>=◌
abbrev pub ◌>>=◌ : {A B : Type 0} → Option A → (A → Option B) → Option B
o >>= f = option_and_then f o

-- what is left of a line
abbrev pub Line : Type 0
Line = List (List ℕ)

abbrev pub word : Line → Option (List ℕ × Line)
word [] = None
word (w ∷ ws) = Some (w, ws)

unfoldable pub literal : List ℕ → Line → Option Line
literal text ws = do
  w ← word ws
  if bytes_eq w.0 text then Some w.1 else None

-- nothing is left
abbrev pub at_end : Line → Bool
at_end [] = true
at_end (w ∷ ws) = false

abbrev pub lettered : ℕ → Option Reg
lettered b =
    if b == 66 then Some reg.B else (if b == 67 then Some reg.C else (if b == 68 then Some reg.D else (if b == 69 then Some reg.E else
    (if b == 72 then Some reg.H else (if b == 76 then Some reg.L else (if b == 65 then Some reg.A else None))))))

abbrev pub reg_named : List ℕ → Option Reg
reg_named [] = None
reg_named (b ∷ []) = lettered b
reg_named (b ∷ c ∷ bs) = None

unfoldable pub register : Line → Option (Reg × Line)
register ws = do
  w ← word ws
  r ← reg_named w.0
  Some (r, w.1)

abbrev pub is_digit : ℕ → Bool
is_digit byte = nat_le 48 byte && nat_le byte 57

abbrev pub is_number : List ℕ → Bool
is_number digits = nat_le 1 (length digits) && nat_le (length digits) 3 && list_all is_digit digits

unfoldable pub number : Line → Option (ℕ × Line)
number ws = do
  w ← word ws
  if is_number w.0 then Some (number_of w.0, w.1) else None

unfoldable pub stack_line : Line → Option Line
stack_line ws = do
  a ← literal (codes ";#") ws
  b ← literal (codes "stack") a
  c ← literal (codes "2300H") b
  d ← literal (codes ",") c
  e ← literal (codes "23FFH") d
  if at_end e then Some e else None

abbrev pub is_upper : ℕ → Bool
is_upper byte = nat_le 65 byte && nat_le byte 90

abbrev pub is_routine_name : List ℕ → Bool
is_routine_name name = nat_le 4 (length name) && nat_le (length name) 31 && list_all is_upper name && not (list_any (bytes_eq name) reserved)

unfoldable pub routine_line : Line → Option (List ℕ)
routine_line ws = do
  a ← literal (codes ";#") ws
  b ← literal (codes "routine") a
  w ← word b
  if is_routine_name w.0 && at_end w.1 then Some w.0 else None

unfoldable pub post_line : Line → Option (Reg × ℕ)
post_line ws = do
  a ← literal (codes ";#") ws
  b ← literal (codes "post") a
  r ← register b
  c ← literal (codes "=") r.1
  n ← number c
  if at_end n.1 then Some (r.0, n.0) else None

-- `,` and a register, as often as there are words
abbrev pub more_registers : Line → Option (List Reg)
more_registers [] = Some []
more_registers (w ∷ []) = None
more_registers (w ∷ v ∷ ws) = if bytes_eq w (codes ",") then (reg_named v >>= λ r. more_registers ws >>= λ rs. Some (r ∷ rs)) else None

unfoldable pub next_register : Line → Option (Reg × Line)
next_register ws = do
  a ← literal (codes ",") ws
  register a

-- the first register, and the words behind it
unfoldable pub first_change : Line → Option (Reg × Line)
first_change ws = do
  a ← literal (codes ";#") ws
  b ← literal (codes "changes") a
  register b

unfoldable pub changes_line : Line → Option (List Reg)
changes_line ws = do
  r ← first_change ws
  option_map (λ rs. r.0 ∷ rs) (more_registers r.1)

unfoldable pub mvi_operands : Line → Option Transfer
mvi_operands ws = do
  to ← register ws
  a ← literal (codes ",") to.1
  n ← number a
  if nat_le n.0 255 && at_end n.1 then Some (Mvi to.0 n.0) else None

unfoldable pub mov_operands : Line → Option Transfer
mov_operands ws = do
  to ← register ws
  a ← literal (codes ",") to.1
  from ← register a
  if at_end from.1 then Some (Mov to.0 from.0) else None

unfoldable pub move_line : Line → Option Transfer
move_line ws = do
  w ← word ws
  if bytes_eq w.0 (codes "MVI") then mvi_operands w.1 else (if bytes_eq w.0 (codes "MOV") then mov_operands w.1 else None)

abbrev pub is_words : List (List ℕ) → Line → Bool
is_words [] ws = at_end ws
is_words (text ∷ texts) [] = false
is_words (text ∷ texts) (w ∷ ws) = bytes_eq w text && is_words texts ws

abbrev pub is_ret_line : Line → Bool
is_ret_line ws = is_words (codes "RET" ∷ []) ws

-- the instructions down to RET, and the lines below it
abbrev pub program_lines : List Line → Option (List Transfer × List Line)
program_lines [] = None
program_lines (line ∷ rest) = if is_ret_line line then Some ([], rest) else (move_line line >>= λ i. program_lines rest >>= λ p. Some (i ∷ p.0, p.1))

-- the one line that is left ends the routine
abbrev pub is_last_line : List Line → Bool
is_last_line [] = false
is_last_line (line ∷ []) = is_words (codes ";#" ∷ codes "end" ∷ []) line
is_last_line (line ∷ next ∷ rest) = false

-- each MOV copies a register that is set among the instructions above it, of which the last stands first
abbrev pub copies_set : List Transfer → List Transfer → Bool
copies_set above [] = true
copies_set above (Mvi to byte ∷ is) = copies_set (Mvi to byte ∷ above) is
copies_set above (Mov to from ∷ is) = is_some (last_value above from) && copies_set (Mov to from ∷ above) is

abbrev pub first_line : List Line → Option (Line × List Line)
first_line [] = None
first_line (line ∷ rest) = Some (line, rest)

-- what the first three lines say, the words of the fourth, and the lines below it
pub record Header : Type 0 where
  pub name : List ℕ
  pub post : Reg
  pub value : ℕ
  pub changes : Line
  pub below : List Line

unfoldable pub header_of : List Line → Option Header
header_of all = do
  l ← first_line all
  a ← stack_line l.0
  m ← first_line l.1
  name ← routine_line m.0
  n ← first_line m.1
  post ← post_line n.0
  o ← first_line n.1
  Some (record { name = name; post = post.0; value = post.1; changes = o.0; below = o.1 })

-- the program, whose first line begins with the label, and the last line
unfoldable pub program_of : List ℕ → List Line → Option (List Transfer)
program_of name all = do
  l ← first_line all
  line ← literal (name ++ codes ":") l.0
  p ← program_lines (line ∷ l.1)
  if is_last_line p.1 && nat_le (length p.0) 16 && copies_set [] p.0 then Some p.0 else None

unfoldable pub reading_of_words : List Line → Option Reading
reading_of_words all = do
  h ← header_of all
  changes ← changes_line h.changes
  program ← program_of h.name h.below
  Some (record { name = h.name; post = h.post; value = h.value; changes = changes; program = program })

abbrev pub is_short : List ℕ → Bool
is_short line = nat_le (length line) 4096

unfoldable pub read_source : List ℕ → Option Reading
read_source source = if list_all is_short (lines source) then reading_of_words (map words (lines source)) else None

abbrev pub sets_listed : List Reg → Transfer → Bool
sets_listed listed (Mvi to byte) = list_any (same_reg to) listed
sets_listed listed (Mov to from) = list_any (same_reg to) listed

abbrev pub has_value : Option ℕ → ℕ → Bool
has_value None value = false
has_value (Some v) value = v == value

-- whether the routine meets its annotations
abbrev pub meets : Reading → Bool
meets r = has_value (last_value (reverse r.program) r.post) r.value && list_all (sets_listed r.changes) r.program
