use Rattle.sp_lex.proofs.SourceLemmas.{lines_or_fault, one_reading, one_fault, lines_exclude_fault}
use Rattle.sp_lex.proofs.laws.a_source_has_one_reading.Goals as goal

pub returns-clause-reading : goal.returns-clause-reading
returns-clause-reading c = lines_or_fault

pub returns-clause-lines : goal.returns-clause-lines
returns-clause-lines c = one_reading

pub returns-clause-fault : goal.returns-clause-fault
returns-clause-fault c = one_fault

pub returns-clause-apart : goal.returns-clause-apart
returns-clause-apart c = lines_exclude_fault
