-- The sources that `gen` makes, with the scripts for their conditions (this project's own).
use Rattle.std.specs.Prelude.{ℕ, zero, suc, ◌-◌, ◌%◌, ◌==◌, if◌then◌else◌, List, [], ◌∷◌, ◌++◌, codes, decimal}

-- a line feed ends a line
unfoldable pub line : List ℕ → List ℕ
line text = text ++ 10 ∷ []

-- lines as a text
abbrev pub text_of : List (List ℕ) → List ℕ
text_of [] = []
text_of (text ∷ lines) = line text ++ text_of lines

-- the name of the routine with a number
abbrev pub name : ℕ → List ℕ
name k = codes "G" ++ decimal k

-- ---- The four forms of routines

-- it loads A with a number
abbrev pub loads : ℕ → ℕ → List (List ℕ)
loads k value =
    (codes ";# routine " ++ name k)
    ∷ (codes ";# post A = " ++ decimal value)
    ∷ codes ";# changes A"
    ∷ (name k ++ codes ": MVI A," ++ decimal value)
    ∷ codes "RET"
    ∷ codes ";# end"
    ∷ []

-- it counts B down to 0
abbrev pub counts : ℕ → List (List ℕ)
counts k =
    (codes ";# routine " ++ name k)
    ∷ codes ";# post B = 0"
    ∷ codes ";# reads B"
    ∷ codes ";# changes B, FLAGS"
    ∷ codes ";# assert B >= 0"
    ∷ (name k ++ codes ": DCR B")
    ∷ (codes "JNZ " ++ name k)
    ∷ codes "RET"
    ∷ codes ";# end"
    ∷ []

-- it calls another one, which loads A with a number
abbrev pub calls : ℕ → ℕ → ℕ → List (List ℕ)
calls k callee value =
    (codes ";# routine " ++ name k)
    ∷ (codes ";# post A = " ++ decimal value)
    ∷ codes ";# changes A"
    ∷ codes ";# depth 2"
    ∷ (name k ++ codes ": CALL " ++ name callee)
    ∷ codes "RET"
    ∷ codes ";# end"
    ∷ []

-- it copies B, which is at most C
abbrev pub copies : ℕ → List (List ℕ)
copies k =
    (codes ";# routine " ++ name k)
    ∷ codes ";# pre B <= C"
    ∷ codes ";# post A < C + 1"
    ∷ codes ";# reads B, C"
    ∷ codes ";# changes A"
    ∷ (name k ++ codes ": MOV A,B")
    ∷ codes "RET"
    ∷ codes ";# end"
    ∷ []

-- the forms take turns
abbrev pub lines_by : ℕ → ℕ → List (List ℕ)
lines_by form k =
    if form == 0 then loads k (k % 256)
    else if form == 1 then counts k
    else if form == 2 then calls k (k - 2) ((k - 2) % 256)
    else copies k

abbrev pub routine_lines : ℕ → List (List ℕ)
routine_lines k = lines_by (k % 4) k

-- ---- Scripts

-- the condition of a routine that copies is shown by one step
abbrev pub copy_script : ℕ → List (List ℕ)
copy_script k = (codes "script " ++ name k ++ codes ".1") ∷ codes "linear 1 1 h1" ∷ codes "end" ∷ []

-- no other routine needs a script
abbrev pub script_lines : ℕ → List (List ℕ)
script_lines k = if k % 4 == 3 then copy_script k else []

-- ---- Texts

-- those of the first routines, one after another
abbrev pub first_lines : (ℕ → List (List ℕ)) → ℕ → List (List ℕ)
first_lines lines zero = []
first_lines lines (suc k) = first_lines lines k ++ lines k

-- the source of so many routines
abbrev pub source_text : ℕ → List ℕ
source_text count = text_of (codes ";# stack 2300H, 23FFH" ∷ first_lines routine_lines count)

-- the scripts of so many routines
abbrev pub scripts_text : ℕ → List ℕ
scripts_text count = text_of (first_lines script_lines count)
