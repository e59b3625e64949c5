use Rattle.std.proofs.Common.{sym, ap, ◌∙◌}
use Rattle.sp_expr.specs.declared.setting.Setting.TheVariants.{Statement}
use Rattle.sp_expr.specs.Parsing.{outcome}
use Rattle.sp_expr.specs.Undefined.{first_undefined}
use Rattle.sp_expr.proofs.ValueLaws.{value_is}
use Rattle.sp_unit.specs.Faults.{number_in}
use Rattle.sp_unit.specs.Sources.{number_of}
use Rattle.sp_unit.proofs.tables.value_of.Goals as goal

pub returns-in-Ok : goal.returns-in-Ok
returns-in-Ok c =
    let t = c.in-Ok.ensures.expression in
    let names = number_of c.args.names.now.entries in
    ap number_in (c.in-Ok.ensures.value t.0 t.1)
    ∙ ap (λ v. number_in (outcome (first_undefined names c.args.e.now) v)) (sym (value_is Statement names 0 c.args.e.now t.0 t.1))

pub returns-in-Err : goal.returns-in-Err
returns-in-Err c =
    let t = c.in-Err.ensures.expression in
    let names = number_of c.args.names.now.entries in
    ap number_in (c.in-Err.ensures.value t.0 t.1)
    ∙ ap (λ v. number_in (outcome (first_undefined names c.args.e.now) v)) (sym (value_is Statement names 0 c.args.e.now t.0 t.1))
