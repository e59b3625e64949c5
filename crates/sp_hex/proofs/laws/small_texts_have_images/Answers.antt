use Rattle.std.proofs.Common.{refl, [], ◌∷◌, ◌++◌}
use Rattle.std.specs.Prelude.{codes}
use Rattle.std.specs.FinMap as maps
use Rattle.std.specs.List.{IsDistinct}
use Rattle.sp_base.specs.Cells.{Data, placed}
use Rattle.sp_base.specs.Lines.{rows_of}
use Rattle.sp_hex.specs.Hex.{bytes_of}
use Rattle.sp_hex.specs.code.Reading.{content_of, held_at, record_at, empty_from, reading}
use Rattle.sp_hex.proofs.TextLaws.{stands_by, one_stands}
use Rattle.sp_hex.proofs.laws.small_texts_have_images.Goals as goal

pub returns-clause-none : goal.returns-clause-none
unfolding reading record_at held_at content_of bytes_of empty_from rows_of placed
returns-clause-none c = stands_by (codes ":00000001FF") maps.empty refl

abbrev byte : Data
byte = record { address = 258; bytes = 62 ∷ [] }

pub returns-clause-one : goal.returns-clause-one
unfolding record_at held_at content_of bytes_of rows_of IsDistinct
returns-clause-one c = one_stands (codes ":010102003EBE" ++ 10 ∷ codes ":00000001FF" ++ 10 ∷ []) (codes ":010102003EBE") (codes ":00000001FF") [] byte refl refl refl tt (tt, tt)

pub returns-clause-lower : goal.returns-clause-lower
unfolding record_at held_at content_of bytes_of rows_of IsDistinct
returns-clause-lower c = one_stands (codes ":010102003ebe" ++ 10 ∷ codes ":00000001ff") (codes ":010102003ebe") (codes ":00000001ff") [] byte refl refl refl tt (tt, tt)

pub returns-clause-returns : goal.returns-clause-returns
unfolding record_at held_at content_of bytes_of rows_of IsDistinct
returns-clause-returns c = one_stands (codes ":010102003EBE" ++ 13 ∷ 10 ∷ codes ":00000001FF" ++ 13 ∷ 10 ∷ []) (codes ":010102003EBE") (codes ":00000001FF") [] byte refl refl refl tt (tt, tt)

pub returns-clause-blank : goal.returns-clause-blank
unfolding record_at held_at content_of bytes_of rows_of IsDistinct
returns-clause-blank c = one_stands (codes ":010102003EBE" ++ 10 ∷ codes ":00000001FF" ++ 10 ∷ 10 ∷ []) (codes ":010102003EBE") (codes ":00000001FF") ([] ∷ []) byte refl refl refl (refl, tt) (tt, tt)
