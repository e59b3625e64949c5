use Rattle.std.proofs.Common.{◌≡◌, ◌+◌, List, Result, Ok, Err, sym, ap, length, ◌∙◌, arith}
use Rattle.sp_base.specs.declared.refused.Refused.{Refused}
use Rattle.sp_stmt.specs.declared.refusal.StatementKind.{StatementKind}
use Rattle.sp_stmt.specs.declared.statement.Statement.{Statement}
use Rattle.sp_stmt.specs.code.Answers.{AnswersStatements}
use Rattle.sp_stmt.specs.code.Reading.{statements_of}
use Rattle.sp_lex.proofs.SourceLemmas.{length-lines}
use Rattle.sp_stmt.proofs.LineLaws.{line_in, in_order-skip, in_order-more, in_order-refused, in_order-all}
use Rattle.sp_stmt.proofs.SourceLemmas.{right_by, complete_by}
use Rattle.sp_stmt.proofs.StatementLaws.{statements_are}
use Rattle.sp_stmt.proofs.reading.statements.Goals as goal

pub loop-i-preserved-then-not-is_statement : goal.loop-i-preserved-then-not-is_statement
loop-i-preserved-then-not-is_statement c =
    in_order-skip c.args.source.now c.as_slice-lines.result.now (c.loop-i.i + 1) c.loop-i.i c.index-lines-i.result c.loop-i.statements.items c.loop-i-test.true c.index-lines-i.is (sym c.is_statement.ensures ∙ c.if-not-is_statement.true)
    ∙ c.loop-i.invariant

pub overflow_cast-number : goal.overflow_cast-number
overflow_cast-number c = omega (arith, length-lines c.args.source.now c.args.lines.now c.requires.lines, ap length c.as_slice-lines.ensures)

pub statement_of-requires : goal.statement_of-requires
statement_of-requires c =
    line_in c.args.source.now c.args.lines.now c.as_slice-lines.result.now c.loop-i.i c.index-lines-i.result c.as_slice.result.now c.requires.lines c.as_slice-lines.ensures c.loop-i-test.true c.index-lines-i.is c.as_slice.ensures

pub returns-in-Err : goal.returns-in-Err
returns-in-Err c =
    let result : Result (List Statement) (Refused StatementKind) = Err c.refusal_at.result in
    let right : AnswersStatements result (statements_of c.args.source.now c.args.lines.now) =
    rw c.refusal_at.ensures (in_order-refused c.args.source.now c.as_slice-lines.result.now (record { 0 = c.loop-i.i + 1 }) c.loop-i.i c.index-lines-i.result c.as_slice.result.now c.loop-i.statements.items c.in-Err.refusal _ c.loop-i-test.true
    c.index-lines-i.is (sym c.is_statement.ensures ∙ c.if-not-is_statement.false) c.as_slice.ensures c.in-Err.ensures (c.loop-i.invariant ∙ ap (statements_of c.args.source.now) c.as_slice-lines.ensures)) in
    record {
      right = right_by c.args.source.now c.args.lines.now result right;
      complete = complete_by c.args.source.now c.args.lines.now result right;
      each = tt;
    }

pub loop-i-preserved : goal.loop-i-preserved
loop-i-preserved c =
    in_order-more c.args.source.now c.as_slice-lines.result.now (c.loop-i.i + 1) c.loop-i.i c.index-lines-i.result c.as_slice.result.now c.loop-i.statements.items c.push.new.self.items c.in-Ok.statement c.loop-i-test.true c.index-lines-i.is
    (sym c.is_statement.ensures ∙ c.if-not-is_statement.false) c.as_slice.ensures c.in-Ok.ensures c.in_ok-push-in-Ok.ensures.items
    ∙ c.loop-i.invariant

pub returns : goal.returns
returns c =
    let read : statements_of c.args.source.now c.args.lines.now ≡ Ok c.from_vec.result =
    sym (ap (statements_of c.args.source.now) c.as_slice-lines.ensures) ∙ sym c.loop-i.invariant
    ∙ in_order-all c.args.source.now c.as_slice-lines.result.now (c.loop-i.i + 1) c.loop-i.i c.loop-i.statements.items c.loop-i-test.false ∙ ap (λ ss. Ok ss) (sym c.from_vec.ensures) in
    record {
      right = right_by c.args.source.now c.args.lines.now (Ok c.from_vec.result) read;
      complete = complete_by c.args.source.now c.args.lines.now (Ok c.from_vec.result) read;
      each = statements_are c.args.source.now c.args.lines.now c.from_vec.result read;
    }
