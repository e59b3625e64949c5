use Rattle.std.proofs.Common.{Ok, Err, rules}
use Rattle.sp_base.specs.Refused.{Answers}
use Rattle.sp_flow.specs.Flow as flow
use Rattle.sp_flow.specs.Flow.{IsFlowing}
use Rattle.sp_flow.specs.declared.checking.Flowing.{Flowing}
use Rattle.sp_graph.specs.SoundUnits.{IsSoundOf}
use Rattle.sp_struct.specs.Refusals as structure
use Rattle.sp_check.specs.Refusals.{IsChecked, IsRefused}
use Rattle.sp_check.specs.declared.refusal.CheckKind.TheVariants as kind
use Rattle.sp_check.proofs.AnswerLemmas.{check_answered}
use Rattle.sp_check.proofs.JoinLemmas.{carried}
use Rattle.sp_check.proofs.checking.check.Goals as goal

pub returns-in_err-unit-clause-complete : goal.returns-in_err-unit-clause-complete
returns-in_err-unit-clause-complete c =
    let right : Answers (IsChecked c.args.source.now) (IsRefused c.args.source.now) c.from_residual.result = search rules in
    check_answered c.args.source.now c.from_residual.result right

pub returns-in-Err : goal.returns-in-Err
returns-in-Err c =
    let source = c.args.source.now in
    let unit = c.in_ok-unit.unit in
    let right = carried (IsSoundOf unit) (IsChecked source) (λ k. kind.Struct k) (structure.IsRefusedAt unit) (IsRefused source)
    (λ line k refused. record { program = unit; unit = c.in_ok-unit.ensures.right; refused = refused })
    c.in-Err.refusal c.with_kind.result c.with_kind.ensures c.in-Err.ensures.right in
    record { right = right; complete = check_answered source (Err c.with_kind.result) right }

pub returns-in-Ok-check-clause-complete : goal.returns-in-Ok-check-clause-complete
returns-in-Ok-check-clause-complete c =
    check_answered c.args.source.now (Ok (record { unit = c.in_ok-unit.unit; sound = c.in-Ok.sound })) (record {
      right = record { unit = c.in_ok-unit.ensures.right; structured = c.in-Ok.ensures.right.structured; flows = c.in-Ok-check.ensures.answers };
      depths = c.in-Ok.ensures.right;
    })

pub returns-in-Err-check : goal.returns-in-Err-check
returns-in-Err-check c =
    let source = c.args.source.now in
    let unit = c.in_ok-unit.unit in
    let right = carried (λ (a : Flowing). IsFlowing unit) (IsChecked source) (λ k. kind.Flow k) (flow.IsRefusedAt unit) (IsRefused source)
    (λ line k refused. record {
      program = unit;
      unit = c.in_ok-unit.ensures.right;
      structured = c.in-Ok.ensures.right.structured;
      refused = refused;
    }) c.in-Err-check.refusal c.with_kind-in-Err-check.result c.with_kind-in-Err-check.ensures c.in-Err-check.ensures.answers in
    record { right = right; complete = check_answered source (Err c.with_kind-in-Err-check.result) right }
