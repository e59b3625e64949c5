-- Option words, and the options that they name with the texts of their values (this project's own).
use Rattle.std.specs.Prelude.{ℕ, ◌==◌, if◌then◌else◌, List, [], ◌∷◌, map, Option, Some, None, is_some, option_map, option_and_then, string_bytes, String, codes}
use Rattle.std.specs.Str.{bytes_eq}
use Rattle.std.specs.declared.alloc.Global.{Global}
use Rattle.sp_run.specs.declared.names.OptionName.{OptionName}
use Rattle.sp_run.specs.declared.names.OptionName.TheVariants.{Pc, Steps, Set}

-- the bytes of words
abbrev pub words_of : List (String Global) → List (List ℕ)
words_of words = map string_bytes words

-- what follows a prefix, if the text begins with it
abbrev pub after_prefix : List ℕ → List ℕ → Option (List ℕ)
after_prefix [] text = Some text
after_prefix (c ∷ prefix) [] = None
after_prefix (c ∷ prefix) (x ∷ text) = if x == c then after_prefix prefix text else None

-- the option that a word names, its value being the next word
abbrev pub alone : List ℕ → Option OptionName
alone word =
    if bytes_eq word (codes "--pc") then Some Pc else
    (if bytes_eq word (codes "--steps") then Some Steps else
    (if bytes_eq word (codes "--set") then Some Set else None))

-- an option with its value, or the other where there is none
abbrev pub with_value : OptionName → Option (List ℕ) → Option (OptionName × List ℕ) → Option (OptionName × List ℕ)
with_value name (Some value) other = Some (name, value)
with_value name None other = other

-- the option that a word names, with its value behind `=`; `--set` isn't written so
abbrev pub joined : List ℕ → Option (OptionName × List ℕ)
joined word = with_value Pc (after_prefix (codes "--pc=") word) (with_value Steps (after_prefix (codes "--steps=") word) None)

-- the options that words name in turn, each with the text of its value, if the words are such; `due` is the option
-- whose value the first word is
unfoldable pub given_from : (due : Option OptionName) → List (List ℕ) → Option (List (OptionName × List ℕ))
given_from None [] = Some []
given_from (Some name) [] = None
given_from (Some name) (value ∷ words) = option_map (λ given. (name, value) ∷ given) (given_from None words)
given_from None (word ∷ words) =
    if is_some (alone word) then given_from (alone word) words
    else option_and_then (λ first. option_map (λ given. first ∷ given) (given_from None words)) (joined word)
