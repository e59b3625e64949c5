use Rattle.std.proofs.Common.{arith, sym, ◌∙◌, []}
use Rattle.sp_logic.specs.View.{frame_of, note_of}
use Rattle.sp_eval.proofs.NarrowLemmas.{narrow_notes_are_small}
use Rattle.sp_eval.proofs.TruthLemmas.{truth_decides}
use Rattle.sp_eval.proofs.evaluation.holds.Goals as goal

pub truth_at-requires-clause-small : goal.truth_at-requires-clause-small
truth_at-requires-clause-small c = narrow_notes_are_small (frame_of c.args.frame) (note_of c.args.note.now) c.args.entry.now c.args.now.now c.pc.ensures.core c.pc-2.ensures.core c.requires.narrow

pub returns-in-Some : goal.returns-in-Some
returns-in-Some c =
    let seen = c.in-Some.ensures {u = tt} in
    let decides = truth_decides (frame_of c.args.frame) [] (note_of c.args.note.now) c.args.entry.now c.args.now.now in
    let paid = seen.1 in
    record {
      value = ((λ h. decides.0 (sym seen.0 ∙ h)), (λ h. seen.0 ∙ decides.1 h));
      nodes = omega (arith, paid);
      within = omega (arith, paid);
    }
