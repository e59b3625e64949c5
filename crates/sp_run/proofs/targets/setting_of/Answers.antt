use Rattle.std.proofs.Common.{◌≡◌, ◌∙◌, ◌+◌, sym, ap, take, drop, None, Some, rules, arith}
use Rattle.std.proofs.lemmas.Grind.{common_steps}
use Rattle.std.specs.Prelude.{option_and_then, position, ◌==◌}
use Rattle.sp_run.specs.Settings.{target_of, setting_with}
use Rattle.sp_run.proofs.SettingLaws.{no_equals, set_at}
use Rattle.sp_run.proofs.targets.setting_of.Goals as goal

pub returns-in_err-end : goal.returns-in_err-end
returns-in_err-end c =
    let none : c.from_residual.result ≡ None = search rules in
    let never : position (λ byte. byte == 61) c.args.text.now ≡ None = search rules in
    none ∙ sym (no_equals c.args.text.now never)

pub returns-in_err-target : goal.returns-in_err-target
returns-in_err-target c =
    let none : c.from_residual-in_err-target.result ≡ None = search rules in
    let at_end : position (λ byte. byte == 61) c.args.text.now ≡ Some c.in_ok-end.end = search rules in
    let target : target_of (take c.in_ok-end.end c.args.text.now) ≡ None = grind (arith, common_steps) in
    none ∙ sym (set_at c.args.text.now c.in_ok-end.end at_end ∙ ap (λ o. option_and_then (λ t. setting_with t (drop (c.in_ok-end.end + 1) c.args.text.now)) o) target)

pub returns : goal.returns
returns c =
    let at_end : position (λ byte. byte == 61) c.args.text.now ≡ Some c.in_ok-end.end = search rules in
    let target : target_of (take c.in_ok-end.end c.args.text.now) ≡ Some c.in_ok-target.target = grind (arith, common_steps) in
    let value : c.setting.result ≡ setting_with c.in_ok-target.target (drop (c.in_ok-end.end + 1) c.args.text.now) = grind (arith, common_steps) in
    value ∙ sym (set_at c.args.text.now c.in_ok-end.end at_end ∙ ap (λ o. option_and_then (λ t. setting_with t (drop (c.in_ok-end.end + 1) c.args.text.now)) o) target)
