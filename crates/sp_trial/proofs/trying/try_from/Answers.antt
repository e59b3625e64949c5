use Rattle.std.proofs.Common.{◌≡◌, ◌<◌, ◌∙◌, ℕ, ap, subst, List, get_or, arith}
use Rattle.sp_prog.specs.Program.{Program}
use Rattle.sp_prog.specs.declared.routine.Routine.{Routine}
use Rattle.sp_trial.specs.Setup.{setup}
use Rattle.sp_trial.specs.Trials.{Answers, GivesOne}
use Rattle.sp_trial.proofs.RunLemmas.{all_bytes, chosen_is, may_enter}
use Rattle.sp_trial.proofs.trying.try_from.Goals as goal

pub begin-requires-clause-may : goal.begin-requires-clause-may
begin-requires-clause-may c =
    let low : (i : ℕ) → get_or c.args.inputs.now i 0 < 256 = λ i. omega (arith, c.type_inv.inputs i) in
    may_enter c.args.unit.now c.index-as_slice-routine.result c.args.start.now c.args.inputs.now c.args.budget c.may_enter.ensures.core (all_bytes c.args.inputs.now low)
    (c.may_enter.ensures.begins.0 c.if-not-may_enter.false)

pub returns : goal.returns
returns c = λ r among.
    let p = c.args.unit.now in
    let chosen = c.index-as_slice-routine.result in
    let routines : c.as_slice.result.now ≡ p.routines = c.as_slice.ensures ∙ ap (λ (q : Program). q.routines) c.unit.view_is in
    let is : chosen ≡ get_or p.routines c.args.routine chosen = subst (λ (rs : List Routine). chosen ≡ get_or rs c.args.routine chosen) routines c.index-as_slice-routine.is in
    subst (λ (x : Routine). GivesOne c.args.budget (Answers (setup p x c.args.start.now c.args.inputs.now c.args.budget) c.args.n) c.begin.result)
    (chosen_is p.routines c.args.routine chosen r c.requires.routine is among) c.begin.ensures
