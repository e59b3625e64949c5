use Rattle.std.proofs.Common.{◌≡◌, ◌∙◌, sym, None, Some, rules}
use Rattle.sp_run.specs.Words.{alone, joined}
use Rattle.sp_run.proofs.FormLaws.{admits-due, admits-alone, admits-joined, admits-none, value_taken, value_refused}
use Rattle.sp_run.proofs.form.Reader.take.Goals as goal

pub returns-in-Some-clause-taken : goal.returns-in-Some-clause-taken
returns-in-Some-clause-taken c = λ is words.
    value_taken c.args.self.now c.take_value.new.self c.in-Some.name c.args.word.now words c.take_value.ensures.due (c.take_value.ensures.taken is)
    ∙ sym (admits-due c.args.self.now c.in-Some.name c.args.word.now words c.in-Some.is)

pub returns-in-Some-clause-refused : goal.returns-in-Some-clause-refused
returns-in-Some-clause-refused c = λ is words.
    admits-due c.args.self.now c.in-Some.name c.args.word.now words c.in-Some.is
    ∙ value_refused c.args.self.now c.in-Some.name c.args.word.now words (c.take_value.ensures.refused is)

pub returns-in-Some-alone-clause-taken : goal.returns-in-Some-alone-clause-taken
returns-in-Some-alone-clause-taken c = λ is words.
    let due : c.args.self.now.due ≡ None = search rules in
    admits-alone c.args.self.now c.in-Some-alone.name c.args.word.now words due (search rules)

pub returns-in-Some-joined-clause-taken : goal.returns-in-Some-joined-clause-taken
returns-in-Some-joined-clause-taken c = λ is words.
    let due : c.args.self.now.due ≡ None = search rules in
    let not_alone : alone c.args.word.now ≡ None = search rules in
    let value : joined c.args.word.now ≡ Some (c.in-Some-joined.name, c.in-Some-joined.value.now) = search rules in
    value_taken c.args.self.now c.take_value-in-Some-joined.new.self c.in-Some-joined.name c.in-Some-joined.value.now words
    c.take_value-in-Some-joined.ensures.due (c.take_value-in-Some-joined.ensures.taken is)
    ∙ sym (admits-joined c.args.self.now c.in-Some-joined.name c.in-Some-joined.value.now c.args.word.now words due not_alone value)

pub returns-in-Some-joined-clause-refused : goal.returns-in-Some-joined-clause-refused
returns-in-Some-joined-clause-refused c = λ is words.
    let due : c.args.self.now.due ≡ None = search rules in
    let not_alone : alone c.args.word.now ≡ None = search rules in
    let value : joined c.args.word.now ≡ Some (c.in-Some-joined.name, c.in-Some-joined.value.now) = search rules in
    admits-joined c.args.self.now c.in-Some-joined.name c.in-Some-joined.value.now c.args.word.now words due not_alone value
    ∙ value_refused c.args.self.now c.in-Some-joined.name c.in-Some-joined.value.now words (c.take_value-in-Some-joined.ensures.refused is)

pub returns-in-None-clause-refused : goal.returns-in-None-clause-refused
returns-in-None-clause-refused c = λ is words. admits-none c.args.self.now c.args.word.now words (search rules) (search rules) (search rules)
