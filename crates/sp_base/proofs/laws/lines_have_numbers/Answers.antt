use Rattle.sp_base.proofs.LineLemmas.{line_at_number, first_number, no_line_0}
use Rattle.sp_base.proofs.laws.lines_have_numbers.Goals as goal

pub returns-clause-place : goal.returns-clause-place
returns-clause-place c = line_at_number

pub returns-clause-first : goal.returns-clause-first
returns-clause-first c = first_number

pub returns-clause-least : goal.returns-clause-least
returns-clause-least c = no_line_0
