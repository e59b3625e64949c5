use Rattle.std.proofs.Common.{◌≡◌, ◌<◌, ◌≤◌, List, [], ◌∷◌, length, get_or, ap, ◌∙◌, arith, rules, tests}
use Rattle.std.specs.Prelude.{String, codes, string_bytes}
use Rattle.std.specs.declared.alloc.Global.{Global}
use Rattle.sp_cli.specs.Command.{words_of}
use Rattle.sp_cli.proofs.command.asm_of.Goals as goal

-- a list of three words
three : (ws : List (String Global)) (a b c : String Global) → 3 ≤ length ws → length ws < 4 → a ≡ get_or ws 0 a → b ≡ get_or ws 1 b → c ≡ get_or ws 2 c → ws ≡ a ∷ b ∷ c ∷ []
three [] a b c h g ea eb ec = absurd (omega arith)
three (w ∷ []) a b c h g ea eb ec = absurd (omega arith)
three (w ∷ x ∷ []) a b c h g ea eb ec = absurd (omega arith)
three (w ∷ x ∷ y ∷ []) a b c h g ea eb ec = cc
three (w ∷ x ∷ y ∷ z ∷ ws) a b c h g ea eb ec = absurd (omega arith)

pub returns-then-is_file_name-2 : goal.returns-then-is_file_name-2
returns-then-is_file_name-2 c =
    let all = three c.args.words.now c.command-item.result c.source-item.result c.image-item.result c.in-len3.len_at_least c.in-len3.len_below c.command-item.is c.source-item.is c.image-item.is in
    let command : c.as_str.result.now ≡ codes "asm" = search (rules, tests) in
    let first : string_bytes c.command-item.result ≡ codes "asm" = cc in
    (ap words_of all ∙ cc, search rules, search rules)
