use Rattle.std.proofs.Common.{refl}
use Rattle.sp_base.specs.Lines.{rows_of}
use Rattle.sp_base.proofs.LineLemmas.{rows_made, rows_only, lines_are_text_lines}
use Rattle.sp_base.proofs.laws.texts_have_rows.Goals as goal

pub returns-clause-made : goal.returns-clause-made
returns-clause-made c = rows_made

pub returns-clause-only : goal.returns-clause-only
returns-clause-only c = rows_only

pub returns-clause-usual : goal.returns-clause-usual
returns-clause-usual c = lines_are_text_lines

pub returns-clause-ends : goal.returns-clause-ends
unfolding rows_of
returns-clause-ends c = refl

pub returns-clause-bare : goal.returns-clause-bare
unfolding rows_of
returns-clause-bare c = refl

pub returns-clause-unended : goal.returns-clause-unended
unfolding rows_of
returns-clause-unended c = refl

pub returns-clause-blank : goal.returns-clause-blank
unfolding rows_of
returns-clause-blank c = refl
