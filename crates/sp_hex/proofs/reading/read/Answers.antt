use Rattle.sp_hex.proofs.TextLaws.{given_answer, given_whole}
use Rattle.sp_hex.proofs.reading.read.Goals as goal

pub returns-clause-says : goal.returns-clause-says
returns-clause-says c = given_answer c.args.text.now c.read_lines.result c.read_lines.ensures

pub returns-clause-complete : goal.returns-clause-complete
returns-clause-complete c = given_whole c.args.text.now c.read_lines.result c.read_lines.ensures
