-- Why a text stands for no image: the lowest line that breaks it, in the first way in which that line does.
use Rattle.std.specs.Prelude.{◌≡◌, ◌≢◌, ℕ, ◌+◌, List, [], ◌∷◌, ◌++◌, length, All}
use Rattle.std.specs.List.{AllZip}
use Rattle.sp_base.specs.Lines.{lines}
use Rattle.sp_base.specs.Cells.{Data}
use Rattle.sp_base.specs.declared.refused.Refused.{Refused}
use Rattle.sp_hex.specs.declared.refusal.HexKind.{HexKind}
use Rattle.sp_hex.specs.declared.refusal.HexKind.TheVariants as hex
use Rattle.sp_hex.specs.Hex.{HasForm, HasSum, IsDataLine, IsEndLine, NoneTwice}

-- a line that breaks a rule with how it does, or want of memory
abbrev pub HexRefusal : Type 0
HexRefusal = Refused HexKind

-- the text has the line at this number, counted from 1; the lines before it are data records, and give no address twice
pub record Reaches (text : List ℕ) (number : ℕ) (line : List ℕ) (records : List Data) : Type 0 where
  pub before : List (List ℕ)
  pub after : List (List ℕ)
  pub whole : lines text ≡ before ++ line ∷ after
  pub place : number ≡ length before + 1
  pub each : AllZip IsDataLine before records
  pub apart : NoneTwice records

-- the line hasn't the form of a record
pub record BadRecordAt (text : List ℕ) (number : ℕ) : Type 0 where
  pub line : List ℕ
  pub records : List Data
  pub reached : Reaches text number line records
  pub broken : ¬ HasForm line

-- the line has the form of a record, and not the sum
pub record BadSumAt (text : List ℕ) (number : ℕ) : Type 0 where
  pub line : List ℕ
  pub records : List Data
  pub reached : Reaches text number line records
  pub form : HasForm line
  pub broken : ¬ HasSum line

-- the line is a data record, and with it an address is given twice
pub record OverlapAt (text : List ℕ) (number : ℕ) : Type 0 where
  pub line : List ℕ
  pub records : List Data
  pub last : Data
  pub reached : Reaches text number line records
  pub right : IsDataLine line last
  pub broken : ¬ NoneTwice (records ++ last ∷ [])

-- the line isn't empty, and stands behind an end record, with nothing but empty lines between them
pub record AfterEndAt (text : List ℕ) (number : ℕ) : Type 0 where
  pub last : List ℕ
  pub records : List Data
  pub before : List (List ℕ)
  pub between : List (List ℕ)
  pub line : List ℕ
  pub after : List (List ℕ)
  pub whole : lines text ≡ before ++ last ∷ (between ++ line ∷ after)
  pub place : number ≡ length before + 1 + (length between + 1)
  pub each : AllZip IsDataLine before records
  pub apart : NoneTwice records
  pub ended : IsEndLine last
  pub empty : All (λ l. l ≡ []) between
  pub broken : line ≢ []

-- all lines are data records, and give no address twice; the number is 0, for the whole text
pub record NoEndAt (text : List ℕ) (number : ℕ) : Type 0 where
  pub records : List Data
  pub each : AllZip IsDataLine (lines text) records
  pub apart : NoneTwice records
  pub place : number ≡ 0

-- the text is wrong at the line with this number, in this way
abbrev pub IsCause : List ℕ → ℕ → HexKind → Type 0
IsCause text number hex.BadRecord = BadRecordAt text number
IsCause text number hex.BadSum = BadSumAt text number
IsCause text number hex.Overlap = OverlapAt text number
IsCause text number hex.AfterEnd = AfterEndAt text number
IsCause text number hex.NoEnd = NoEndAt text number
