use Rattle.std.proofs.Common.{◌≡◌, [], ◌∷◌, ◌++◌, ap, ◌∙◌, rules}
use Rattle.std.specs.Prelude.{codes, decimal}
use Rattle.sp_cli.proofs.texts.accepted_line.Goals as goal

pub returns : goal.returns
returns c =
    let begun : c.in_ok-line.line.items ≡ codes "accepted" = search rules in
    let widened : c.from.result ≡ c.args.routines = search rules in
    c.in_ok-push.ensures.items ∙ ap (λ l. l ++ 10 ∷ []) (
    c.in_ok-push_count-4.ensures ∙ ap (λ l. l ++ codes " scripted=" ++ decimal c.args.scripted) (
    c.in_ok-push_count-3.ensures ∙ ap (λ l. l ++ codes " simplified=" ++ decimal c.args.simplified) (
    c.in_ok-push_count-2.ensures ∙ ap (λ l. l ++ codes " conditions=" ++ decimal c.args.conditions) (
    c.in_ok-push_count.ensures ∙ ap (λ l. l ++ codes " routines=" ++ decimal c.from.result) begun ∙ ap (λ n. codes "accepted" ++ codes " routines=" ++ decimal n) widened))))
