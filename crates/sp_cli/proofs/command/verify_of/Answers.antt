use Rattle.std.proofs.Common.{◌≡◌, ◌<◌, ◌≤◌, List, [], ◌∷◌, length, get_or, ap, ◌∙◌, arith, rules, tests}
use Rattle.std.specs.Prelude.{String, codes, string_bytes}
use Rattle.std.specs.declared.alloc.Global.{Global}
use Rattle.sp_cli.specs.Command.{words_of}
use Rattle.sp_cli.proofs.command.verify_of.Goals as goal

-- a list of four words
four : (ws : List (String Global)) (a b c d : String Global) → 4 ≤ length ws → length ws < 5 → a ≡ get_or ws 0 a → b ≡ get_or ws 1 b → c ≡ get_or ws 2 c → d ≡ get_or ws 3 d → ws ≡ a ∷ b ∷ c ∷ d ∷ []
four [] a b c d h g ea eb ec ed = absurd (omega arith)
four (w ∷ []) a b c d h g ea eb ec ed = absurd (omega arith)
four (w ∷ x ∷ []) a b c d h g ea eb ec ed = absurd (omega arith)
four (w ∷ x ∷ y ∷ []) a b c d h g ea eb ec ed = absurd (omega arith)
four (w ∷ x ∷ y ∷ z ∷ []) a b c d h g ea eb ec ed = cc
four (w ∷ x ∷ y ∷ z ∷ v ∷ ws) a b c d h g ea eb ec ed = absurd (omega arith)

pub returns-then-is_file_name-3 : goal.returns-then-is_file_name-3
returns-then-is_file_name-3 c =
    let all = four c.args.words.now c.command-item.result c.source-item.result c.scripts-item.result c.image-item.result c.in-len4.len_at_least c.in-len4.len_below c.command-item.is c.source-item.is c.scripts-item.is c.image-item.is in
    let command : c.as_str.result.now ≡ codes "verify" = search (rules, tests) in
    let first : string_bytes c.command-item.result ≡ codes "verify" = cc in
    (ap words_of all ∙ cc, search rules, search rules, search rules)
