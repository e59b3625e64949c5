use Rattle.std.proofs.Common.{refl}
use Rattle.sp_stmt.specs.code.Reading.{statements_from}
use Rattle.sp_stmt.proofs.SourceLemmas.{some_by, one_source, one_unread, read_or_unread}
use Rattle.sp_stmt.proofs.laws.a_source_has_one_answer.Goals as goal

pub returns : goal.returns
returns c = record {
  some = λ source lines. some_by source lines (statements_from source 1 lines) refl;
  one = one_source;
  one_fault = one_unread;
  apart = read_or_unread;
}
