use Rattle.std.proofs.Common.{◌≡◌, ◌+◌, drop, Option, Some, None, refl, sym, ap, subst, ◌∙◌}
use Rattle.std.specs.Option.{option_and_then}
use Rattle.std.proofs.lemmas.Result.{err_from_is_err_and}
use Rattle.sp_note.specs.declared.word.Word.TheVariants as words
use Rattle.sp_note.specs.code.Answers.{AnswersSome}
use Rattle.sp_note.specs.code.Parser.{State, state_of, seen, ended, run, start, parsed}
use Rattle.sp_note.proofs.ParserLemmas.{run-more, run-all, run-refused}
use Rattle.sp_note.proofs.parser.Condition.parse.Goals as goal

pub returns-in_err-parser : goal.returns-in_err-parser
unfolding parsed
returns-in_err-parser c =
    let p = err_from_is_err_and c.from_residual.result c.from_residual.ensures.1 in
    rw (p.1, p.2) (run-refused state_of seen c.in_err-parser.field-0.0 (state_of c.loop-word.parser) c.args.words.now c.loop-word.word-index c.word-item.result c.loop-word-test.true c.word-item.is c.loop-word.invariant c.in_err-parser.ensures)

pub loop-word-preserved : goal.loop-word-preserved
loop-word-preserved c =
    sym (run-more (state_of c.loop-word.parser) (state_of c.in_ok-parser.parser) c.args.words.now c.loop-word.word-index c.word-item.result c.loop-word-test.true c.word-item.is c.in_ok-parser.ensures) ∙ c.loop-word.invariant

pub returns : goal.returns
unfolding parsed
returns c =
    let all = sym c.loop-word.invariant ∙ run-all (state_of c.loop-word.parser) c.args.words.now c.loop-word.word-index c.loop-word-test.false in
    subst (λ r. AnswersSome seen c.finish.result (option_and_then ended r)) (sym all) c.finish.ensures
