use Rattle.std.proofs.Common.{◌∙◌}
use Rattle.sp_run.proofs.SettingLaws.{found_named}
use Rattle.sp_run.proofs.targets.find_named.Goals as goal

pub returns : goal.returns
returns c = c.find_entry.ensures ∙ found_named c.args.text.now c.args.targets.now
