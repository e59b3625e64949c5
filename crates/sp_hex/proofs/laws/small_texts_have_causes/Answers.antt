use Rattle.std.proofs.Common.{refl, true≢false, [], ◌∷◌, ◌++◌}
use Rattle.std.specs.Prelude.{codes}
use Rattle.sp_hex.specs.declared.refusal.HexKind.TheVariants as hex
use Rattle.std.specs.List.{IsDistinct}
use Rattle.sp_base.specs.Cells.{Data, placed}
use Rattle.sp_base.specs.Lines.{rows_of}
use Rattle.sp_hex.specs.Hex.{bytes_of}
use Rattle.sp_hex.specs.code.Reading.{content_of, held_at, record_at, empty_from, reading}
use Rattle.sp_hex.proofs.TextLaws.{cause_by, twice_wrong, open_wrong}
use Rattle.sp_hex.proofs.laws.small_texts_have_causes.Goals as goal

abbrev byte : Data
byte = record { address = 258; bytes = 62 ∷ [] }

pub returns-clause-colon : goal.returns-clause-colon
unfolding reading record_at held_at content_of bytes_of empty_from rows_of placed
returns-clause-colon c = cause_by (codes "00000001FF") 1 hex.BadRecord refl

pub returns-clause-short : goal.returns-clause-short
unfolding reading record_at held_at content_of bytes_of empty_from rows_of placed
returns-clause-short c = cause_by (codes ":010102003EB") 1 hex.BadRecord refl

pub returns-clause-kind : goal.returns-clause-kind
unfolding reading record_at held_at content_of bytes_of empty_from rows_of placed
returns-clause-kind c = cause_by (codes ":010102023EBC") 1 hex.BadRecord refl

pub returns-clause-past : goal.returns-clause-past
unfolding reading record_at held_at content_of bytes_of empty_from rows_of placed
returns-clause-past c = cause_by (codes ":02FFFF000102FD") 1 hex.BadRecord refl

pub returns-clause-sum : goal.returns-clause-sum
unfolding reading record_at held_at content_of bytes_of empty_from rows_of placed
returns-clause-sum c = cause_by (codes ":010102003EBF" ++ 10 ∷ codes ":00000001FF") 1 hex.BadSum refl

pub returns-clause-twice : goal.returns-clause-twice
unfolding record_at held_at content_of bytes_of rows_of IsDistinct
returns-clause-twice c =
    twice_wrong (codes ":010102003EBE" ++ 10 ∷ codes ":010102003EBE" ++ 10 ∷ codes ":00000001FF") (codes ":010102003EBE") (codes ":00000001FF" ∷ []) byte refl refl (tt, tt) (λ h. true≢false h.0.0)

pub returns-clause-after : goal.returns-clause-after
unfolding reading record_at held_at content_of bytes_of empty_from rows_of placed
returns-clause-after c = cause_by (codes ":00000001FF" ++ 10 ∷ 10 ∷ codes " ") 3 hex.AfterEnd refl

pub returns-clause-open : goal.returns-clause-open
unfolding record_at held_at content_of bytes_of rows_of IsDistinct
returns-clause-open c = open_wrong (codes ":010102003EBE" ++ 10 ∷ []) (codes ":010102003EBE") byte refl refl (tt, tt)
