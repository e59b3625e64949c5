-- What the parser of command lines finds in option words.
use Rattle.std.specs.Prelude.{◌≡◌, ℕ, true, false, List, [], Some, None, unwrap_or, codes}
use Rattle.clap.specs.Words.{all_of, rows_of, found_of}
use Rattle.clap.specs.declared.parser.matches.ArgMatches.{ArgMatches}
use Rattle.sp_run.specs.declared.names.OptionName.{OptionName}
use Rattle.sp_run.specs.declared.names.OptionName.TheVariants.{Pc, Steps, Set}
use Rattle.sp_run.specs.Words.{given_from}
use Rattle.sp_run.specs.Options.{texts_of}
use Rattle.sp_run.specs.Form.{fits}

-- how the parser calls an option
abbrev pub id_of : OptionName → List ℕ
id_of Pc = codes "pc"
id_of Steps = codes "steps"
id_of Set = codes "set"

-- the texts that were found for an option
abbrev pub found_texts : OptionName → ArgMatches → List (List ℕ)
found_texts name m = unwrap_or (all_of (id_of name) (rows_of (found_of m))) []

-- where the words give options their values in the form, the texts of each option's values were found
abbrev pub HasGiven : List (List ℕ) → ArgMatches → Type 0
HasGiven words m =
    (given : List (OptionName × List ℕ)) → given_from None words ≡ Some given → fits false false given ≡ true
    → (name : OptionName) → found_texts name m ≡ texts_of name given
