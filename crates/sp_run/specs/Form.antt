-- Option words as they are read one by one.
use Rattle.std.specs.Prelude.{ℕ, Bool, true, false, not, ◌&&◌, List, [], ◌∷◌, Option, Some, None, is_some}
use Rattle.sp_run.specs.declared.names.OptionName.{OptionName}
use Rattle.sp_run.specs.declared.names.OptionName.TheVariants.{Pc, Steps, Set}
use Rattle.sp_run.specs.declared.form.Reader.{Reader}
use Rattle.sp_run.specs.Words.{given_from}
use Rattle.sp_run.specs.Values.{word_of, count_of}
use Rattle.sp_run.specs.Settings.{setting_of}

-- whether each text is a value of its option, and neither `--pc` nor `--steps` stands a second time
abbrev pub fits : (has_pc has_steps : Bool) → List (OptionName × List ℕ) → Bool
fits has_pc has_steps [] = true
fits has_pc has_steps ((Pc, text) ∷ given) = not has_pc && is_some (word_of text) && fits true has_steps given
fits has_pc has_steps ((Steps, text) ∷ given) = not has_steps && is_some (count_of text) && fits has_pc true given
fits has_pc has_steps ((Set, text) ∷ given) = is_some (setting_of text) && fits has_pc has_steps given

abbrev pub fits_if_any : (has_pc has_steps : Bool) → Option (List (OptionName × List ℕ)) → Bool
fits_if_any has_pc has_steps None = false
fits_if_any has_pc has_steps (Some given) = fits has_pc has_steps given

-- whether words may follow those that were read
abbrev pub admits : Reader → List (List ℕ) → Bool
admits reader words = fits_if_any reader.has_pc reader.has_steps (given_from reader.due words)
