use Rattle.std.proofs.Common.{◌≡◌, ℕ, List, Result, Ok, Err, length, sym, ap, ◌∙◌, arith, rules}
use Rattle.sp_base.specs.declared.refused.Refused.{Refused}
use Rattle.sp_base.specs.Refused.{Answers}
use Rattle.sp_lex.specs.declared.refusal.TextKind.{TextKind}
use Rattle.sp_lex.specs.declared.token.SourceLine.{SourceLine}
use Rattle.sp_lex.specs.Reading.{AreLines, IsFaultAt}
use Rattle.sp_lex.specs.code.Lines.{Fault}
use Rattle.sp_lex.proofs.ReadingLemmas.{joined-more, joined-last, joined-refused, joined-all}
use Rattle.sp_lex.proofs.SourceLemmas.{answers, answers_complete, handed_on}
use Rattle.sp_lex.proofs.reading.lines.Goals as goal

abbrev read : List SourceLine → Result (List SourceLine) Fault
read lines = Ok lines

-- an answer that is right is complete
abbrev Says : List ℕ → Result (List SourceLine) (Refused TextKind) → Type 0
Says source result = Answers (AreLines source) (IsFaultAt source) result

pub returns-in_err-read : goal.returns-in_err-read
returns-in_err-read c =
    let says : Says c.args.source.now c.from_residual-in_err-read.result =
    handed_on c.args.source.now c.from_residual-in_err-read.result c.in_err-read.field-0.0 c.from_residual-in_err-read.ensures.1
    (answers c.args.source.now (Err c.in_err-read.field-0.0)
    (joined-refused c.loop-rest.lines.items (record { 0 = c.loop-rest.number }) c.loop-rest.at c.loop-rest.rest.now c.line-line.result.now _ c.in_err-read.field-0.0 _ c.first_row-row.ensures.rows c.line-line.ensures c.in_err-read.ensures c.loop-rest.invariant.0)) in
    record { says = says; complete = answers_complete c.args.source.now c.from_residual-in_err-read.result says }

pub returns-then-is_end_line : goal.returns-then-is_end_line
returns-then-is_end_line c =
    let says : Says c.args.source.now (Ok c.from_vec.result) =
    answers c.args.source.now (Ok c.from_vec.result)
    (sym c.loop-rest.invariant.0
    ∙ joined-last c.loop-rest.lines.items c.loop-rest.number c.loop-rest.at c.loop-rest.rest.now c.line-line.result.now _ c.in_ok-read.read c.first_row-row.ensures.rows c.line-line.ensures c.in_ok-read.ensures (sym c.is_end_line.ensures ∙ c.if-is_end_line.true)
    ∙ ap read (sym c.in_ok-push.ensures.items ∙ sym c.from_vec.ensures)) in
    record { says = says; complete = answers_complete c.args.source.now (Ok c.from_vec.result) says }

pub loop-rest-preserved : goal.loop-rest-preserved
loop-rest-preserved c =
    let more = joined-more c.loop-rest.lines.items c.loop-rest.number c.loop-rest.at c.size-size.result c.loop-rest.rest.now c.line-line.result.now _ _ c.in_ok-read.read c.first_row-row.ensures.rows c.line-line.ensures c.size-size.ensures
    c.split_at.ensures.back c.in_ok-read.ensures (sym c.is_end_line.ensures ∙ c.if-is_end_line.false) in
    (rw c.in_ok-push.ensures.items (more ∙ c.loop-rest.invariant.0), omega arith, omega (arith, c.first_row-row.ensures.some))

pub returns : goal.returns
returns c =
    let none : length c.loop-rest.rest.now ≡ 0 = search rules in
    let says : Says c.args.source.now (Ok c.from_vec-2.result) =
    answers c.args.source.now (Ok c.from_vec-2.result)
    (sym c.loop-rest.invariant.0 ∙ joined-all c.loop-rest.lines.items c.loop-rest.number c.loop-rest.at c.loop-rest.rest.now none ∙ ap read (sym c.from_vec-2.ensures)) in
    record { says = says; complete = answers_complete c.args.source.now (Ok c.from_vec-2.result) says }
