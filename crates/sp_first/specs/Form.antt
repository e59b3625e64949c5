-- Sources of the first form: one routine that loads and copies registers and returns.
use Rattle.std.specs.Prelude.{◌≡◌, ◌≢◌, ℕ, ◌+◌, ◌-◌, ◌*◌, ◌≤◌, ⊤, List, [], ◌∷◌, ◌++◌, map, fold, length, Contains, codes}
use Rattle.std.specs.List.{AllByRecursion}
use Rattle.sp_base.specs.declared.location.Reg.{Reg}
use Rattle.sp_base.specs.declared.location.Reg.TheVariants as reg
use Rattle.sp_first.specs.Words.{lines, words}

-- a line before RET: MVI with its register and its number as written, or MOV with its two registers
pub data Move : Type 0 where
  Load : Reg → List ℕ → Move
  Copy : Reg → Reg → Move

-- what a source of the first form says
pub record Form : Type 0 where
  pub name : List ℕ
  pub post : Reg
  pub digits : List ℕ
  pub changes : List Reg
  pub moves : List Move

abbrev pub reg_name : Reg → List ℕ
reg_name reg.B = codes "B"
reg_name reg.C = codes "C"
reg_name reg.D = codes "D"
reg_name reg.E = codes "E"
reg_name reg.H = codes "H"
reg_name reg.L = codes "L"
reg_name reg.A = codes "A"

-- the registers' names with commas between
abbrev pub comma_list : List Reg → List (List ℕ)
comma_list [] = []
comma_list (r ∷ []) = reg_name r ∷ []
comma_list (r ∷ q ∷ rs) = reg_name r ∷ codes "," ∷ comma_list (q ∷ rs)

abbrev pub move_words : Move → List (List ℕ)
move_words (Load to digits) = codes "MVI" ∷ reg_name to ∷ codes "," ∷ digits ∷ []
move_words (Copy to from) = codes "MOV" ∷ reg_name to ∷ codes "," ∷ reg_name from ∷ []

-- the first line begins with the label
abbrev pub labelled : List ℕ → List (List (List ℕ)) → List (List (List ℕ))
labelled name [] = []
labelled name (line ∷ rest) = ((name ++ codes ":") ∷ line) ∷ rest

-- the words of each line
abbrev pub form_words : Form → List (List (List ℕ))
form_words f =
    (codes ";#" ∷ codes "stack" ∷ codes "2300H" ∷ codes "," ∷ codes "23FFH" ∷ [])
    ∷ (codes ";#" ∷ codes "routine" ∷ f.name ∷ [])
    ∷ (codes ";#" ∷ codes "post" ∷ reg_name f.post ∷ codes "=" ∷ f.digits ∷ [])
    ∷ (codes ";#" ∷ codes "changes" ∷ comma_list f.changes)
    ∷ labelled f.name (map move_words f.moves ++ (codes "RET" ∷ []) ∷ (codes ";#" ∷ codes "end" ∷ []) ∷ [])

-- names of four letters that mean something in the whole language
abbrev pub reserved : List (List ℕ)
reserved =
    codes "CALL" ∷ codes "PUSH" ∷ codes "LDAX" ∷ codes "STAX" ∷ codes "SHLD" ∷ codes "LHLD" ∷ codes "XTHL" ∷ codes "SPHL" ∷ codes "PCHL" ∷ codes "XCHG"
    ∷ codes "TRUE" ∷ codes "FALSE" ∷ codes "ADDR" ∷ codes "BAND" ∷ codes "BXOR" ∷ codes "SOME" ∷ []

-- 4 to 31 upper-case letters that aren't reserved
pub record IsRoutineName (name : List ℕ) : Type 0 where
  pub long : 4 ≤ length name
  pub short : length name ≤ 31
  pub letters : AllByRecursion (λ byte. (65 ≤ byte) × (byte ≤ 90)) name
  pub free : AllByRecursion (λ word. name ≢ word) reserved

-- one to three decimal digits
pub record IsNumber (digits : List ℕ) : Type 0 where
  pub some : 1 ≤ length digits
  pub few : length digits ≤ 3
  pub decimal : AllByRecursion (λ byte. (48 ≤ byte) × (byte ≤ 57)) digits

-- the number that decimal digits stand for
abbrev pub number_of : List ℕ → ℕ
number_of digits = fold (λ n byte. 10 * n + (byte - 48)) 0 digits

-- the number of an MVI is a byte
abbrev pub IsMove : Move → Type 0
IsMove (Load to digits) = IsNumber digits × (number_of digits ≤ 255)
IsMove (Copy to from) = ⊤

-- the register that a line sets
abbrev pub target : Move → Reg
target (Load to digits) = to
target (Copy to from) = to

-- each MOV copies a register that was set before, or by a line above it
abbrev pub CopiesSet : List Reg → List Move → Type 0
CopiesSet set [] = ⊤
CopiesSet set (Load to digits ∷ moves) = CopiesSet (to ∷ set) moves
CopiesSet set (Copy to from ∷ moves) = Contains set from × CopiesSet (to ∷ set) moves

-- a source of the first form, and what it says
pub record HasForm (source : List ℕ) (f : Form) : Type 0 where
  pub words : map words (lines source) ≡ form_words f
  pub short : AllByRecursion (λ line. length line ≤ 4096) (lines source)
  pub name : IsRoutineName f.name
  pub post : IsNumber f.digits
  pub changes : 1 ≤ length f.changes
  pub few : length f.moves ≤ 16
  pub moves : AllByRecursion IsMove f.moves
  pub copies : CopiesSet [] f.moves
