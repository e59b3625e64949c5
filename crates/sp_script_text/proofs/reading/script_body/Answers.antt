use Rattle.std.proofs.Common.{◌+◌, sym, ◌∙◌, rules}
use Rattle.sp_script_text.specs.code.Bodies.{IsWritten, IsBody}
use Rattle.sp_script_text.proofs.BodyLemmas.{split, part_idle, part_step, body_ends, body_open, body_refused}
use Rattle.sp_script_text.proofs.reading.script_body.Goals as goal

pub returns-then-is_end : goal.returns-then-is_end
returns-then-is_end c =
    body_ends c.args.title c.args.number c.args.text.now c.loop-rest.steps.items c.loop-rest.next c.loop-rest.rest.now c.line-line.result.now c.split_at.result.1 c.from_vec.result c.loop-rest.invariant
    (split c.loop-rest.rest.now c.line-line.result.now c.split_at.result.1.now _ _ c.first_row-row.ensures.rows c.first_row-row.ensures.some c.first_row-row.ensures.within c.line-line.ensures c.size-size.ensures c.split_at.ensures.back)
    (sym c.is_end.ensures ∙ c.if-is_end.true) c.from_vec.ensures

pub returns-in-Err : goal.returns-in-Err
returns-in-Err c =
    body_refused (IsWritten c.loop-rest.next c.line-line.result.now) (IsBody c.args.title c.args.number c.args.text.now) c.in-Err.refusal c.args.number c.args.text.now c.loop-rest.steps.items c.loop-rest.next c.loop-rest.rest.now c.line-line.result.now c.split_at.result.1.now c.loop-rest.invariant
    (split c.loop-rest.rest.now c.line-line.result.now c.split_at.result.1.now _ _ c.first_row-row.ensures.rows c.first_row-row.ensures.some c.first_row-row.ensures.within c.line-line.ensures c.size-size.ensures c.split_at.ensures.back)
    (sym c.is_end.ensures ∙ c.if-is_end.false) (sym c.is_idle.ensures ∙ c.if-is_idle.false) c.in-Err.ensures

pub loop-rest-preserved-then-is_idle : goal.loop-rest-preserved-then-is_idle
loop-rest-preserved-then-is_idle c =
    part_idle (c.args.number + 1) c.args.text.now c.loop-rest.steps.items c.loop-rest.next c.loop-rest.rest.now c.line-line.result.now c.split_at.result.1.now c.loop-rest.invariant
    (split c.loop-rest.rest.now c.line-line.result.now c.split_at.result.1.now _ _ c.first_row-row.ensures.rows c.first_row-row.ensures.some c.first_row-row.ensures.within c.line-line.ensures c.size-size.ensures c.split_at.ensures.back)
    (sym c.is_idle.ensures ∙ c.if-is_idle.true)

pub loop-rest-preserved : goal.loop-rest-preserved
loop-rest-preserved c =
    part_step (c.args.number + 1) c.args.text.now c.loop-rest.steps.items c.loop-rest.next c.loop-rest.rest.now c.line-line.result.now c.split_at.result.1.now c.in-Ok.step c.push.new.self.items c.loop-rest.invariant
    (split c.loop-rest.rest.now c.line-line.result.now c.split_at.result.1.now _ _ c.first_row-row.ensures.rows c.first_row-row.ensures.some c.first_row-row.ensures.within c.line-line.ensures c.size-size.ensures c.split_at.ensures.back)
    c.in-Ok.ensures c.in_ok-push-in-Ok.ensures.items

pub returns : goal.returns
returns c = body_open c.args.number c.args.text.now c.loop-rest.steps.items c.loop-rest.next c.loop-rest.rest.now c.loop-rest.invariant (search rules)
