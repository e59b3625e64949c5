use Rattle.std.proofs.Common.{sym, ap, subst, ◌∙◌}
use Rattle.sp_note.specs.code.Answers.{AnswersSome}
use Rattle.sp_note.specs.code.Heads.{place_of}
use Rattle.sp_note.specs.code.Parser.{state_of, step_at, after_step}
use Rattle.sp_note.proofs.parser.Parser.step.Goals as goal

pub returns-in-After : goal.returns-in-After
unfolding after_step
returns-in-After c =
    subst (λ p. AnswersSome state_of c.after_step.result (step_at (state_of c.args.self) p c.args.word)) (sym (ap place_of c.in-After.is)) c.after_step.ensures
