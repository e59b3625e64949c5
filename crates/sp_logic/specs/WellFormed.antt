-- What calls may ask of a note, and a reader of notes gives (this project's own).
use Rattle.std.specs.Prelude.{ℕ, ◌^◌, ◌<◌, ◌≤◌, ◌⊎◌, List, All, length, slice_index, ⊤}
use Rattle.sp_model.specs.Note.{Quantity, Literal, Location, Pair, Cell, StackWord, Total, Negative, Parity, Operate, Bound, Note, Constant, Compare, Not, Connect, Quantify, IsClosed}
use Rattle.sp_words.specs.Annotations.{IsAnnotationWord}
use Rattle.sp_words.specs.Reserved.{IsReserved}

-- a letter in upper case, @ or ?
abbrev pub IsNameStart : ℕ → Type 0
IsNameStart byte = ((65 ≤ byte) × (byte ≤ 90)) ⊎ ((63 ≤ byte) × (byte ≤ 64))

-- one of these, or a digit
abbrev pub IsNameByte : ℕ → Type 0
IsNameByte byte = IsNameStart byte ⊎ ((48 ≤ byte) × (byte ≤ 57))

-- a name of 1 to 31 bytes that is no word of the assembler or of annotations
pub record IsBoundName (name : List ℕ) : Type 0 where
  pub some : 0 < length name
  pub short : length name ≤ 31
  pub start : IsNameStart (slice_index name 0)
  pub bytes : All IsNameByte name
  pub free : ¬ IsReserved name
  pub new : ¬ IsAnnotationWord name

-- numbers are below 2 to the power 63, and the k of each STKk is from 1 to 32,767
abbrev pub IsInLimits : Quantity → Type 0
IsInLimits (Literal n) = n < 2 ^ 63
IsInLimits (Location m x) = ⊤
IsInLimits (Pair m p) = ⊤
IsInLimits (Cell m x) = IsInLimits x
IsInLimits (StackWord k) = (1 ≤ k) × (k ≤ 32767)
IsInLimits (Total m x y) = IsInLimits x × IsInLimits y
IsInLimits (Negative x) = IsInLimits x
IsInLimits (Parity x) = IsInLimits x
IsInLimits (Operate o x y) = IsInLimits x × IsInLimits y
IsInLimits (Bound name) = ⊤

-- so are those of a note, and what its quantifiers bind are names
abbrev pub NoteIsInLimits : Note → Type 0
NoteIsInLimits (Constant truth) = ⊤
NoteIsInLimits (Compare c x y) = IsInLimits x × IsInLimits y
NoteIsInLimits (Not p) = NoteIsInLimits p
NoteIsInLimits (Connect c p q) = NoteIsInLimits p × NoteIsInLimits q
NoteIsInLimits (Quantify q name x y p) = IsBoundName name × IsInLimits x × IsInLimits y × NoteIsInLimits p

pub record IsWellFormed (note : Note) : Type 0 where
  pub closed : IsClosed note
  pub limits : NoteIsInLimits note
