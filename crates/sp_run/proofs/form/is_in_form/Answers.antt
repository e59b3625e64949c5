use Rattle.std.proofs.Common.{◌≡◌, ◌∙◌, sym, ap, [], drop, arith, drop_of_length-le, rules}
use Rattle.sp_run.specs.Words.{words_of}
use Rattle.sp_run.specs.Form.{admits}
use Rattle.sp_run.proofs.FormLaws.{admits-end, admits-form}
use Rattle.sp_run.proofs.form.is_in_form.Goals as goal

pub loop-word-init : goal.loop-word-init
loop-word-init c = admits-form (words_of c.args.words.now)

pub returns : goal.returns
returns c =
    let none : admits c.loop-word.reader [] ≡ admits c.loop-word.reader (words_of (drop c.loop-word.word-index c.args.words.now)) =
    sym (ap (λ ws. admits c.loop-word.reader (words_of ws)) (drop_of_length-le c.args.words.now (omega arith))) in
    admits-end c.loop-word.reader c.is_none.result (search rules) ∙ none ∙ c.loop-word.invariant
