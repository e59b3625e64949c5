use Rattle.std.proofs.Common.{rules, ◌≡◌, ◌∙◌, ap, ap₂, [], true}
use Rattle.std.specs.Option.{unwrap_or}
use Rattle.clap.specs.Matches.{found_of}
use Rattle.clap.specs.Walk.{all_of, rows_of, rule_of}
use Rattle.clap.specs.Simple.{app_of, app_of_fields, is_simple, matches_of, on_top, with_rule}
use Rattle.sp_run.specs.declared.names.OptionName.TheVariants.{Pc, Steps, Set}
use Rattle.sp_run.specs.Words.{words_of}
use Rattle.sp_run.specs.Matches.{id_of}
use Rattle.sp_run.proofs.WalkLaws.{given_rule, bare_app, app, found_is}
use Rattle.sp_run.proofs.parsing.parse.Goals as goal

pub returns-in-Ok : goal.returns-in-Ok
returns-in-Ok c =
    let pc_is : rule_of c.action-pc.result ≡ given_rule Pc = search rules in
    let steps_is : rule_of c.action-steps.result ≡ given_rule Steps = search rules in
    let set_is : rule_of c.action-set.result ≡ given_rule Set = search rules in
    let bare_is : app_of c.disable_version_flag.result ≡ bare_app = ap app_of_fields c.disable_version_flag.ensures
    ∙ ap (on_top (λ s. record s { disable_version_flag = true })) (ap app_of_fields c.disable_help_flag.ensures
    ∙ ap (on_top (λ s. record s { disable_help_flag = true })) (ap app_of_fields c.no_binary_name.ensures
    ∙ ap (on_top (λ s. record s { no_binary_name = true })) c.new-4.ensures.app)) in
    let app_is : app_of c.in_ok-command.command ≡ app = c.in_ok-command.ensures.shape (search rules)
    ∙ ap₂ with_rule (c.in_ok-arg-2.ensures.shape (search rules)
    ∙ ap₂ with_rule (c.in_ok-arg.ensures.shape (search rules) ∙ ap₂ with_rule bare_is pc_is) steps_is) set_is in
    let rows : rows_of (found_of c.in-Ok.matches) ≡ matches_of app (words_of c.args.words.now) =
    (c.in-Ok.ensures.matches (ap is_simple app_is)).0 ∙ ap (λ a. matches_of a (words_of c.args.words.now)) app_is in
    λ given is fit name. ap (λ r. unwrap_or (all_of (id_of name) r) []) rows ∙ found_is (words_of c.args.words.now) given is fit name
