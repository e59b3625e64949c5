use Rattle.sp_hex.proofs.WrittenLaws.{text_stands, text_unended, text_short, text_cut}
use Rattle.sp_hex.proofs.laws.written_text.Goals as goal

pub returns-clause-whole : goal.returns-clause-whole
returns-clause-whole c = text_stands

pub returns-clause-unended : goal.returns-clause-unended
returns-clause-unended c = text_unended

pub returns-clause-short : goal.returns-clause-short
returns-clause-short c = text_short

pub returns-clause-cut : goal.returns-clause-cut
returns-clause-cut c = text_cut
