use Rattle.std.proofs.Common.{◌≡◌, ◌∙◌, codes, rules}
use Rattle.std.specs.Prelude.{option_and_then, unwrap_or, filter_map}
use Rattle.clap.specs.Matches.{found_of, first_value}
use Rattle.sp_run.specs.declared.names.OptionName.TheVariants.{Set}
use Rattle.sp_run.specs.Values.{word_of, count_of}
use Rattle.sp_run.specs.Settings.{setting_of}
use Rattle.sp_run.specs.Matches.{found_texts}
use Rattle.sp_run.specs.Words.{words_of}
use Rattle.sp_run.proofs.ReadLaws.{read_is, settings_found}
use Rattle.sp_run.proofs.parsing.read_options.Goals as goal

pub returns : goal.returns
returns c =
    let m = c.in_ok-matches.matches in
    let pc : c.and_then-pc.result ≡ option_and_then word_of (first_value (found_of m) (codes "pc")) = search rules in
    let steps : c.unwrap_or.result ≡ unwrap_or (option_and_then count_of (first_value (found_of m) (codes "steps"))) 10000 = search rules in
    let settings : c.from_vec.result ≡ filter_map setting_of (found_texts Set m) =
    c.from_vec.ensures ∙ c.in_ok-settings.ensures ∙ settings_found m c.get_strs.result _ c.unwrap_or-texts.result c.unwrap_or-texts.ensures (search rules) c.get_strs.ensures in
    read_is (words_of c.args.words.now) m _ c.requires c.in_ok-matches.ensures pc steps settings
