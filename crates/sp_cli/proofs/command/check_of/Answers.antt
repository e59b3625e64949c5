use Rattle.std.proofs.Common.{◌≡◌, ◌<◌, ◌≤◌, List, [], ◌∷◌, length, get_or, ap, ◌∙◌, arith, rules, tests}
use Rattle.std.specs.Prelude.{String, codes, string_bytes}
use Rattle.std.specs.declared.alloc.Global.{Global}
use Rattle.sp_cli.specs.Command.{words_of}
use Rattle.sp_cli.proofs.command.check_of.Goals as goal

-- a list of two words
two : (ws : List (String Global)) (a b : String Global) → 2 ≤ length ws → length ws < 3 → a ≡ get_or ws 0 a → b ≡ get_or ws 1 b → ws ≡ a ∷ b ∷ []
two [] a b h g ea eb = absurd (omega arith)
two (w ∷ []) a b h g ea eb = absurd (omega arith)
two (w ∷ x ∷ []) a b h g ea eb = cc
two (w ∷ x ∷ y ∷ ws) a b h g ea eb = absurd (omega arith)

pub returns-then-is_file_name : goal.returns-then-is_file_name
returns-then-is_file_name c =
    let all = two c.args.words.now c.command-item.result c.source-item.result c.in-len2.len_at_least c.in-len2.len_below c.command-item.is c.source-item.is in
    let command : c.as_str.result.now ≡ codes "check" = search (rules, tests) in
    let first : string_bytes c.command-item.result ≡ codes "check" = cc in
    (ap words_of all ∙ cc, search rules)
