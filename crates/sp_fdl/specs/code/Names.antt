-- How the reader takes words and names of variables from runs.
use Rattle.std.specs.Prelude.{ℕ, ◌-◌, Bool, ◌==◌, nat_eq, if◌then◌else◌, List, [], ◌∷◌, codes, length, take, slice_index, Option, Some, None}
use Rattle.std.specs.Cmp.Lexicographic.{pointwise}
use Rattle.std.specs.Char.{is_ascii_alphabetic}
use Rattle.sp_base.specs.declared.location.Loc.{Loc}
use Rattle.sp_base.specs.declared.location.Loc.TheVariants as loc
use Rattle.sp_term.specs.declared.var.Var.{Var}
use Rattle.sp_term.specs.declared.var.Var.TheVariants as var
use Rattle.sp_fdl.specs.declared.sort.Sort.{Sort}
use Rattle.sp_fdl.specs.declared.sort.Sort.TheVariants as sort
use Rattle.sp_fdl.specs.declared.word.Word.{Word}
use Rattle.sp_fdl.specs.declared.word.Word.TheVariants as word
use Rattle.sp_fdl.specs.code.Tokens.{◌>>=◌, taken, dropped}
use Rattle.sp_fdl.specs.code.Numbers.{name_number}

abbrev pub is_word : List ℕ → List ℕ → Bool
is_word run name = pointwise nat_eq run name

unfoldable pub word_of : List ℕ → Option Word
word_of run =
    if is_word run (codes "true") then Some word.True
    else (if is_word run (codes "false") then Some word.False
    else (if is_word run (codes "band") then Some word.And
    else (if is_word run (codes "bor") then Some word.Or
    else (if is_word run (codes "bxor") then Some word.Xor
    else (if is_word run (codes "par") then Some word.Parity
    else (if is_word run (codes "bit") then Some word.Bit
    else (if is_word run (codes "psw") then Some word.Flags
    else (if is_word run (codes "if") then Some word.If
    else (if is_word run (codes "element") then Some word.Element
    else (if is_word run (codes "update") then Some word.Update
    else (if is_word run (codes "total") then Some word.Total
    else (if is_word run (codes "for_all") then Some word.ForAll
    else (if is_word run (codes "for_some") then Some word.ForSome
    else None)))))))))))))

unfoldable pub location_named : List ℕ → Option Loc
location_named name =
    if is_word name (codes "a") then Some loc.A
    else (if is_word name (codes "b") then Some loc.B
    else (if is_word name (codes "c") then Some loc.C
    else (if is_word name (codes "d") then Some loc.D
    else (if is_word name (codes "e") then Some loc.E
    else (if is_word name (codes "h") then Some loc.H
    else (if is_word name (codes "l") then Some loc.L
    else (if is_word name (codes "s") then Some loc.S
    else (if is_word name (codes "z") then Some loc.Z
    else (if is_word name (codes "ac") then Some loc.Ac
    else (if is_word name (codes "p") then Some loc.P
    else (if is_word name (codes "cy") then Some loc.Cy
    else None)))))))))))

-- the number after an underline
unfoldable pub after_underline : List ℕ → Option ℕ
after_underline [] = None
after_underline (mark ∷ digits) = if mark == 95 then name_number digits else None

-- what a name with this mark after it stands for: now, at the entry, or after a call
abbrev pub at_moment : Var → Var → (ℕ → Var) → List ℕ → Option Var
at_moment now entry after [] = Some now
at_moment now entry after (mark ∷ digits) =
    if is_word (mark ∷ digits) (codes "~") then Some entry else after_underline (mark ∷ digits) >>= λ j. Some (after j)

unfoldable pub location_variable : List ℕ → List ℕ → Option Var
location_variable name mark = location_named name >>= λ x. at_moment (var.Now x) (var.Entry x) (var.After x) mark

unfoldable pub memory_variable : List ℕ → Option Var
memory_variable mark = at_moment var.Mem var.MemEntry var.MemAfter mark

-- the half that a letter names
abbrev pub slot_half : ℕ → ℕ → Option Var
slot_half letter j = if letter == 104 then Some (var.SlotHigh j) else (if letter == 108 then Some (var.SlotLow j) else None)

-- what stands before the last byte, and this byte
abbrev pub front_of : List ℕ → List ℕ
front_of text = take (length text - 1) text

abbrev pub last_of : List ℕ → ℕ
last_of text = slice_index text (length text - 1)

unfoldable pub slot_variable : List ℕ → Option Var
slot_variable mark = name_number (front_of mark) >>= λ j. slot_half (last_of mark) j

-- the variable that a name of letters with this mark after it is
unfoldable pub marked_variable : List ℕ → List ℕ → Option Var
marked_variable name mark =
    if is_word name (codes "mem") then memory_variable mark
    else (if is_word name (codes "stk") then slot_variable mark
    else (if is_word name (codes "in") then (after_underline mark >>= λ j. Some (var.In j))
    else (if is_word name (codes "k") then (after_underline mark >>= λ j. Some (var.Any j))
    else (if is_word name (codes "i") then (name_number mark >>= λ j. Some (var.Bound j))
    else location_variable name mark))))

abbrev pub letters_of : List ℕ → List ℕ
letters_of run = taken is_ascii_alphabetic run

abbrev pub after_letters : List ℕ → List ℕ
after_letters run = dropped is_ascii_alphabetic run

unfoldable pub variable_of : List ℕ → Option Var
variable_of run = marked_variable (letters_of run) (after_letters run)

-- the number of a bound variable
unfoldable pub bound_number : List ℕ → Option ℕ
bound_number [] = None
bound_number (letter ∷ digits) = if letter == 105 then name_number digits else None

-- the number of a bit
abbrev pub bit_digit : ℕ → List ℕ → Option ℕ
bit_digit digit [] = if digit == 48 then Some 0 else (if digit == 49 then Some 1 else (if digit == 50 then Some 2 else (if digit == 51 then Some 3
    else (if digit == 52 then Some 4 else (if digit == 53 then Some 5 else (if digit == 54 then Some 6 else (if digit == 55 then Some 7 else None)))))))
bit_digit digit (next ∷ rest) = None

unfoldable pub bit_number : List ℕ → Option ℕ
bit_number [] = None
bit_number (digit ∷ rest) = bit_digit digit rest

abbrev pub variable_sort : Var → Sort
variable_sort var.MemEntry = sort.Memory
variable_sort var.Mem = sort.Memory
variable_sort (var.MemAfter j) = sort.Memory
variable_sort (var.Entry x) = sort.Int
variable_sort (var.Now x) = sort.Int
variable_sort (var.After x j) = sort.Int
variable_sort (var.In j) = sort.Int
variable_sort (var.SlotHigh j) = sort.Int
variable_sort (var.SlotLow j) = sort.Int
variable_sort (var.Any j) = sort.Int
variable_sort (var.Bound j) = sort.Int
