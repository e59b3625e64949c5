use Rattle.std.proofs.Common.{sym, ◌∙◌}
use Rattle.sp_unit.specs.code.Entries.{entry_of}
use Rattle.sp_unit.specs.code.Scopes.{source_of}
use Rattle.sp_unit.proofs.SeenLemmas.{repeats_is}
use Rattle.sp_unit.proofs.seen.repeats.Goals as goal

pub returns-in-Some : goal.returns-in-Some
returns-in-Some c all h =
    c.contains_key.ensures ∙ h c.in-Some.area.name ∙ sym (repeats_is (source_of c.args.scope.now) all (entry_of c.args.e.now) c.in-Some.area (sym c.in-Some.ensures))
