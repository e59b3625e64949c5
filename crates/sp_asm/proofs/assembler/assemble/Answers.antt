use Rattle.std.proofs.Common.{List, Err, subst, sym, ◌∙◌}
use Rattle.std.proofs.lemmas.Result.{err_from_is_err_and}
use Rattle.sp_base.specs.Refused.{Answers}
use Rattle.sp_stmt.specs.declared.statement.Statement.{Statement}
use Rattle.sp_asm.specs.Listing.{IsListing, IsAnswered}
use Rattle.sp_asm.specs.Refusals.{IsCause, FirstRound, SecondRound}
use Rattle.sp_asm.specs.code.Passes.{ArePlaces, ListsAssembly}
use Rattle.sp_asm.proofs.AnswerLaws.{answered}
use Rattle.sp_asm.proofs.RoundLaws.{unread_is_cause, first_is_cause, second_is_answer}
use Rattle.sp_asm.proofs.assembler.assemble.Goals as goal

pub returns-in-Err : goal.returns-in-Err
returns-in-Err c =
    let right = unread_is_cause c.args.source.now c.args.lines.now c.in-Err.refusal c.with_kind.result c.with_kind.ensures c.in-Err.ensures.right in
    record { right = right; complete = answered c.args.source.now c.args.lines.now (Err c.with_kind.result) right }

pub returns-in_err-places : goal.returns-in_err-places
returns-in_err-places c =
    let p = err_from_is_err_and c.from_residual.result c.from_residual.ensures.1 in
    let r = c.in_err-places.field-0.0 in
    let known = subst (λ (ss : List Statement). Answers (ArePlaces ss) (FirstRound ss) (Err r)) c.as_slice.ensures c.in_err-places.ensures in
    let right = first_is_cause c.args.source.now c.args.lines.now c.in-Ok.statements c.in-Ok.ensures.right r known in
    rw (p.1, p.2) (record { right = right; complete = answered c.args.source.now c.args.lines.now (Err r) right })

pub returns : goal.returns
returns c =
    let known = subst (λ (ss : List Statement). Answers (ListsAssembly ss) (SecondRound ss) c.listing_of.result) c.as_slice-2.ensures c.listing_of.ensures in
    let right = second_is_answer c.args.source.now c.args.lines.now c.in-Ok.statements c.in-Ok.ensures.right c.listing_of.result known in
    record { right = right; complete = answered c.args.source.now c.args.lines.now c.listing_of.result right }
