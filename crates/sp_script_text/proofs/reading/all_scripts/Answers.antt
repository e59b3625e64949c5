use Rattle.std.proofs.Common.{sym, ◌∙◌, rules, Vec, Global}
use Rattle.sp_base.specs.Lines.{lines}
use Rattle.sp_script_text.specs.declared.script.Script.{Script}
use Rattle.sp_script_text.specs.Files.{AreScripts}
use Rattle.sp_script_text.specs.code.Bodies.{IsBody}
use Rattle.sp_script_text.proofs.BodyLemmas.{split, done_idle, done_script, done_all, done_breaks, all_refused}
use Rattle.sp_script_text.proofs.reading.all_scripts.Goals as goal

pub loop-rest-preserved-then-is_idle : goal.loop-rest-preserved-then-is_idle
loop-rest-preserved-then-is_idle c =
    done_idle c.args.text.now c.loop-rest.scripts.items c.loop-rest.number c.loop-rest.rest.now c.line-line.result.now c.split_at.result.1.now c.loop-rest.invariant
    (split c.loop-rest.rest.now c.line-line.result.now c.split_at.result.1.now _ _ c.first_row-row.ensures.rows c.first_row-row.ensures.some c.first_row-row.ensures.within c.line-line.ensures c.size-size.ensures c.split_at.ensures.back)
    (sym c.is_idle.ensures ∙ c.if-is_idle.true)

pub returns-in_default : goal.returns-in_default
returns-in_default c =
    done_breaks c.args.text.now c.loop-rest.scripts.items c.loop-rest.number c.loop-rest.rest.now c.line-line.result.now c.split_at.result.1.now c.loop-rest.invariant
    (split c.loop-rest.rest.now c.line-line.result.now c.split_at.result.1.now _ _ c.first_row-row.ensures.rows c.first_row-row.ensures.some c.first_row-row.ensures.within c.line-line.ensures c.size-size.ensures c.split_at.ensures.back)
    (sym c.is_idle.ensures ∙ c.if-is_idle.false) (sym c.in_default.ensures)

pub loop-rest-preserved : goal.loop-rest-preserved
loop-rest-preserved c =
    done_script c.args.text.now c.loop-rest.scripts.items c.loop-rest.number c.loop-rest.rest.now c.line-line.result.now c.split_at.result.1.now c.in-Some.title (c.in-Ok.script, c.in-Ok.next, c.in-Ok.after) c.push.new.self.items c.loop-rest.invariant
    (split c.loop-rest.rest.now c.line-line.result.now c.split_at.result.1.now _ _ c.first_row-row.ensures.rows c.first_row-row.ensures.some c.first_row-row.ensures.within c.line-line.ensures c.size-size.ensures c.split_at.ensures.back)
    (sym c.in-Some.ensures) c.in-Ok.ensures c.in_ok-push-in-Ok.ensures.items

pub returns-in-Err : goal.returns-in-Err
returns-in-Err c =
    all_refused (IsBody c.in-Some.title c.loop-rest.number c.split_at.result.1.now) (λ (ss : Vec Script Global). AreScripts 1 (lines c.args.text.now) ss.items) c.in-Err.refusal c.args.text.now c.loop-rest.scripts.items c.loop-rest.number c.loop-rest.rest.now c.line-line.result.now c.split_at.result.1.now c.in-Some.title c.loop-rest.invariant
    (split c.loop-rest.rest.now c.line-line.result.now c.split_at.result.1.now _ _ c.first_row-row.ensures.rows c.first_row-row.ensures.some c.first_row-row.ensures.within c.line-line.ensures c.size-size.ensures c.split_at.ensures.back)
    (sym c.in-Some.ensures) c.in-Err.ensures

pub returns : goal.returns
returns c = done_all c.args.text.now c.loop-rest.scripts.items c.loop-rest.number c.loop-rest.rest.now c.loop-rest.invariant (search rules)
