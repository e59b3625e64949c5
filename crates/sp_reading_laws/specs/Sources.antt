-- Small sources with what they give, or the line and the kind for which they are refused.
use Rattle.std.specs.Prelude.{◌≡◌, ℕ, List, [], ◌∷◌, ◌++◌, map, codes, replicate}
use Rattle.std.specs.List.{flat_map}
use Rattle.sp_base.specs.Cells.{cells_of}
use Rattle.sp_asm.specs.declared.refusal.AsmKind.TheVariants.{TooDeep, Later, Undefined, ZeroDivisor}
use Rattle.sp_asm.specs.Assembly.{Row, row_data, names_of}
use Rattle.sp_asm.specs.Source.{HasAssembly, IsRefused}

-- a source of these lines
abbrev pub source_of : List (List ℕ) → List ℕ
source_of = flat_map (λ line. line ++ 10 ∷ [])

-- the source has an assembly with these bytes, each with its address, and these names
pub record Gives (source : List ℕ) (bytes : List (ℕ × ℕ)) (names : List (List ℕ × ℕ)) : Type 0 where
  pub rows : List Row
  pub assembly : HasAssembly source rows
  pub bytes_are : cells_of (map row_data rows) ≡ bytes
  pub names_are : names_of rows ≡ names

-- a name with its value
abbrev pub x_is : ℕ → List (List ℕ × ℕ)
x_is n = (codes "X", n) ∷ []

-- by the divisor 0 a value of EQU refuses in the first round, and an item in the second; a name without a value comes first
pub record DividesByZero : Type 0 where
  pub equ : Gives (source_of (codes "X EQU 1/1" ∷ [])) [] (x_is 1)
  pub equ_by_zero : IsRefused (source_of (codes "X EQU 1/0" ∷ [])) 1 ZeroDivisor
  pub item : Gives (source_of (codes "DB 1/1" ∷ [])) ((0, 1) ∷ []) []
  pub item_by_zero : IsRefused (source_of (codes "DB 1/0" ∷ [])) 1 ZeroDivisor
  pub name_first : IsRefused (source_of (codes "DB 1/0+X" ∷ [])) 1 Undefined
  pub rounds : IsRefused (source_of (codes "DB 1/0" ∷ codes "X EQU 1/0" ∷ [])) 2 ZeroDivisor

-- a name of SET has the value of the last SET above, which may use the one before it; it has none above its first SET, where
-- a name of EQU has its value in an item, and none in EQU
pub record SetsAgain : Type 0 where
  pub last_above : Gives (source_of (codes "X SET 1" ∷ codes "DB X" ∷ codes "X SET 2" ∷ codes "DB X" ∷ [])) ((0, 1) ∷ (1, 2) ∷ []) (x_is 2)
  pub of_itself : Gives (source_of (codes "X SET 1" ∷ codes "X SET X+1" ∷ codes "DB X" ∷ [])) ((0, 2) ∷ []) (x_is 2)
  pub above_first : IsRefused (source_of (codes "DB X" ∷ codes "X SET 1" ∷ [])) 1 Later
  pub above_equ : Gives (source_of (codes "DB X" ∷ codes "X EQU 1" ∷ [])) ((0, 1) ∷ []) (x_is 1)
  pub equ_above_equ : IsRefused (source_of (codes "Y EQU X" ∷ codes "X EQU 1" ∷ [])) 1 Later

-- what stands below END isn't read; its expression has a value, which is nowhere
pub record EndsThere : Type 0 where
  pub with_end : Gives (source_of (codes "DB 1" ∷ codes "END" ∷ codes "DB 2" ∷ [])) ((0, 1) ∷ []) []
  pub without : Gives (source_of (codes "DB 1" ∷ codes "DB 2" ∷ [])) ((0, 1) ∷ (1, 2) ∷ []) []
  pub expression : Gives (source_of (codes "X EQU 5" ∷ codes "END X" ∷ [])) [] (x_is 5)
  pub undefined : IsRefused (source_of (codes "END X" ∷ codes "X EQU 5" ∷ [])) 1 Undefined
  pub quotient : Gives (source_of (codes "END 1/1" ∷ [])) [] []
  pub by_zero : IsRefused (source_of (codes "END 1/0" ∷ [])) 1 ZeroDivisor

-- DB and 1 in so many parentheses, and after so many NOT
abbrev pub parenthesized : ℕ → List ℕ
parenthesized n = source_of ((codes "DB " ++ replicate n 40 ++ codes "1" ++ replicate n 41) ∷ [])

abbrev pub negated : ℕ → List ℕ
negated n = source_of ((codes "DB " ++ flat_map (λ not. not) (replicate n (codes "NOT ")) ++ codes "1") ∷ [])

-- 64 are nested at most
pub record NestsTo64 : Type 0 where
  pub parentheses : Gives (parenthesized 64) ((0, 1) ∷ []) []
  pub too_many : IsRefused (parenthesized 65) 1 TooDeep
  pub nots : Gives (negated 64) ((0, 1) ∷ []) []
  pub too_many_nots : IsRefused (negated 65) 1 TooDeep
