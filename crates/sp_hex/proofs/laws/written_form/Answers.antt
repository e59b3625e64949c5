use Rattle.std.specs.FinMap as maps
use Rattle.sp_hex.proofs.RowLaws.{written_made, written_only}
use Rattle.sp_hex.proofs.laws.written_form.Goals as goal

pub returns-clause-made : goal.returns-clause-made
returns-clause-made c = λ image. written_made (maps.entries image)

pub returns-clause-only : goal.returns-clause-only
returns-clause-only c = written_only
