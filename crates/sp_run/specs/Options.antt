-- What the option words of `run` say (this project's own).
use Rattle.std.specs.Prelude.{ℕ, Bool, true, false, List, [], ◌∷◌, map, filter, Option, Some, None, option_map, option_and_then}
use Rattle.sp_run.specs.declared.names.OptionName.{OptionName}
use Rattle.sp_run.specs.declared.names.OptionName.TheVariants.{Pc, Steps, Set}
use Rattle.sp_run.specs.declared.settings.Setting.{Setting}
use Rattle.sp_run.specs.declared.settings.Options.{Options}
use Rattle.sp_run.specs.Words.{given_from}
use Rattle.sp_run.specs.Values.{word_of, count_of}
use Rattle.sp_run.specs.Settings.{setting_of}

abbrev pub is_same : OptionName → OptionName → Bool
is_same Pc Pc = true
is_same Steps Steps = true
is_same Set Set = true
is_same _ _ = false

-- the texts of the values of an option, in order
abbrev pub texts_of : OptionName → List (OptionName × List ℕ) → List (List ℕ)
texts_of name given = map (λ g. g.1) (filter (λ g. is_same name g.0) given)

-- the value of an option that may stand once, and what it is where the option doesn't stand
abbrev pub at_most_once : {X : Type 0} → (List ℕ → Option X) → X → List (List ℕ) → Option X
at_most_once read missing [] = Some missing
at_most_once read missing (text ∷ []) = read text
at_most_once read missing _ = None

-- the settings of texts, if each stands for one
abbrev pub settings_of : List (List ℕ) → Option (List Setting)
settings_of [] = Some []
settings_of (text ∷ texts) = option_and_then (λ setting. option_map (λ settings. setting ∷ settings) (settings_of texts)) (setting_of text)

-- the options of what is given: the program counter, if it is; at most 10,000 steps where it isn't said; and the settings
abbrev pub options_from : List (OptionName × List ℕ) → Option Options
options_from given =
    option_and_then (λ pc.
    option_and_then (λ steps.
    option_map (λ settings. record { pc = pc; steps = steps; settings = settings })
    (settings_of (texts_of Set given)))
    (at_most_once count_of 10000 (texts_of Steps given)))
    (at_most_once (λ text. option_map Some (word_of text)) None (texts_of Pc given))

-- the options that the words behind the image's name stand for, if they are in the form
unfoldable pub options_of : List (List ℕ) → Option Options
options_of words = option_and_then options_from (given_from None words)
