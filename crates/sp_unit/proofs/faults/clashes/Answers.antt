use Rattle.std.proofs.Common.{sym, ◌∙◌}
use Rattle.sp_note.specs.Parts as parts
use Rattle.sp_unit.specs.code.Scopes.{source_of}
use Rattle.sp_unit.proofs.SeenLemmas.{second_is, clash_is}
use Rattle.sp_unit.proofs.faults.clashes.Goals as goal

pub returns-in-Some : goal.returns-in-Some
returns-in-Some c above h =
    let s = source_of c.args.scope.now in
    let part = parts.part_of c.args.part.now in
    let is = sym c.in-Some.ensures in
    c.area_clashes.ensures above (h ∙ second_is s above part c.in-Some.area is) ∙ sym (clash_is s above part c.in-Some.area is)
