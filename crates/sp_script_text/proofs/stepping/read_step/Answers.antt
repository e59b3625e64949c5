use Rattle.sp_script_text.proofs.StepLemmas.{refused_line}
use Rattle.sp_script_text.proofs.stepping.read_step.Goals as goal

pub returns-clause-syntax : goal.returns-clause-syntax
returns-clause-syntax c = refused_line c.line_step.result c.args.line.now c.line_step.ensures
