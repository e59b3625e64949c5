use Rattle.std.proofs.Common.{◌≡◌, ◌++◌, ◌∙◌, ap, map, subst, sym, length}
use Rattle.sp_term.specs.Conditions.{trees}
use Rattle.sp_trans.specs.View.{symbolic_of}
use Rattle.sp_cond.specs.Conclusions.{unchanged, unlisted}
use Rattle.sp_cond.specs.Execution.{formulas_of}
use Rattle.sp_cond.specs.Start.{entry_state}
use Rattle.sp_conditions.specs.code.Notes.{NotesFit}
use Rattle.sp_conditions.proofs.ListLemmas.{append_twice}
use Rattle.sp_conditions.proofs.NoteLemmas.{all_fit}
use Rattle.sp_conditions.proofs.conclusions.add_return.Goals as goal

pub add_formulas-requires-clause-words : goal.add_formulas-requires-clause-words
add_formulas-requires-clause-words c =
    subst (NotesFit (length c.args.g.slots.now)) (sym c.as_slice.ensures)
    (all_fit (length c.args.g.slots.now) c.args.u.now.routine.now.post c.requires.ready.routine.post_words)

pub returns : goal.returns
returns c =
    let r = c.args.u.now.routine.now in
    let g = symbolic_of c.args.g in
    let old = trees c.args.out.now.items in
    let rest = map (unchanged g) (unlisted r) in
    let posts : formulas_of (symbolic_of c.in_ok-entry.entry) g c.as_slice.result.now ≡ formulas_of entry_state g r.post =
    λ k. formulas_of (c.in_ok-entry.ensures.state k) g (c.as_slice.ensures k) in
    c.in_ok-add_unchanged.ensures
    ∙ ap (λ ts. ts ++ rest) (c.in_ok-add_formulas.ensures ∙ ap (λ ps. old ++ ps) posts)
    ∙ append_twice old (formulas_of entry_state g r.post) rest
