use Rattle.std.proofs.Common.{subst, sym, length}
use Rattle.sp_cond.specs.Calls.{target_place}
use Rattle.sp_conditions.specs.code.Notes.{NotesFit}
use Rattle.sp_conditions.proofs.PlaceLemmas.{pre_fits}
use Rattle.sp_conditions.proofs.conclusions.add_call.Goals as goal

pub add_formulas-requires-clause-words : goal.add_formulas-requires-clause-words
add_formulas-requires-clause-words c =
    let p = c.args.u.now.unit.now in
    subst (NotesFit (length c.args.g.slots.now)) (sym c.as_slice.ensures)
    (pre_fits p (target_place p.routines c.args.i.now) c.callee_of.result c.in-Some.callee c.rules.ensures c.callee_of.ensures c.in-Some.is
    (length c.args.g.slots.now))
