use Rattle.std.proofs.Common.{◌≡◌, ◌-◌, ◌≤◌, List, [], ◌∷◌, length, get_or, take, drop, ap, ◌∙◌, arith, rules, tests}
use Rattle.std.specs.Prelude.{String, codes, string_bytes}
use Rattle.std.specs.declared.alloc.Global.{Global}
use Rattle.std.proofs.lemmas.Grind.{common_steps}
use Rattle.sp_cli.specs.Command.{words_of}
use Rattle.sp_cli.proofs.command.run_of.Goals as goal

-- a list of two words and others
two_and : (ws : List (String Global)) (a b : String Global) → 2 ≤ length ws → a ≡ get_or ws 0 a → b ≡ get_or ws 1 b → ws ≡ a ∷ b ∷ take (length ws - 2) (drop 2 ws)
two_and [] a b h ea eb = absurd (omega arith)
two_and (w ∷ []) a b h ea eb = absurd (omega arith)
two_and (w ∷ x ∷ ws) a b h ea eb = grind (arith, common_steps)

pub returns-then-is_in_form : goal.returns-then-is_in_form
returns-then-is_in_form c =
    let all = two_and c.args.words.now c.command-item.result c.image-item.result c.in-len2-up.len_at_least c.command-item.is c.image-item.is in
    let command : c.as_str.result.now ≡ codes "run" = search (rules, tests) in
    let first : string_bytes c.command-item.result ≡ codes "run" = cc in
    (ap words_of all ∙ cc, search rules, search rules)
