-- The words of the conditions in annotations (this project's own).
use Rattle.std.specs.Prelude.{◌≡◌, ℕ, ◌≤◌, List, ◌++◌, codes, ⊤}
use Rattle.std.specs.Fmt.{decimal}
use Rattle.sp_base.specs.declared.location.Loc.{Loc}
use Rattle.sp_base.specs.declared.location.Loc.TheVariants as loc
use Rattle.sp_words.specs.declared.annotation.AnnotationWord.{AnnotationWord}
use Rattle.sp_words.specs.declared.annotation.AnnotationWord.TheVariants as word

-- registers, and flags by their names in the 8080 manual
abbrev pub location_name : Loc → List ℕ
location_name loc.A = codes "A"
location_name loc.B = codes "B"
location_name loc.C = codes "C"
location_name loc.D = codes "D"
location_name loc.E = codes "E"
location_name loc.H = codes "H"
location_name loc.L = codes "L"
location_name loc.S = codes "S"
location_name loc.Z = codes "Z"
location_name loc.Ac = codes "AC"
location_name loc.P = codes "P"
location_name loc.Cy = codes "CY"

abbrev pub annotation_name : AnnotationWord → List ℕ
annotation_name word.Addr = codes "ADDR"
annotation_name word.All = codes "ALL"
annotation_name word.And = codes "AND"
annotation_name word.Band = codes "BAND"
annotation_name word.Bor = codes "BOR"
annotation_name word.Bxor = codes "BXOR"
annotation_name word.Div = codes "DIV"
annotation_name word.False = codes "FALSE"
annotation_name word.For = codes "FOR"
annotation_name word.In = codes "IN"
annotation_name word.Len = codes "LEN"
annotation_name word.Mem = codes "MEM"
annotation_name word.Mod = codes "MOD"
annotation_name word.Not = codes "NOT"
annotation_name word.Or = codes "OR"
annotation_name word.Par = codes "PAR"
annotation_name word.Some = codes "SOME"
annotation_name word.Total = codes "TOTAL"
annotation_name word.True = codes "TRUE"
annotation_name (word.Loc l) = location_name l
annotation_name word.Bc = codes "BC"
annotation_name word.De = codes "DE"
annotation_name word.Hl = codes "HL"
annotation_name (word.Slot k) = codes "STK" ++ decimal k

-- STKk has a k from 1 to 32,767
abbrev pub IsWritten : AnnotationWord → Type 0
IsWritten (word.Slot k) = (1 ≤ k) × (k ≤ 32767)
IsWritten _ = ⊤

pub record IsAnnotationWord (name : List ℕ) : Type 0 where
  pub word : AnnotationWord
  pub written : IsWritten word
  pub named : name ≡ annotation_name word
