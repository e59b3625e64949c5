use Rattle.std.proofs.Common.{◌≡◌, ◌⊎◌, ◌∙◌, None, Option, Some, ap, length, refl, slice_get, subst, sym}
use Rattle.std.proofs.lemmas.Option.{slice_get_read}
use Rattle.sp_flow.specs.code.Counts.{CalledAt, callee_by, own_lists}
use Rattle.sp_flow.specs.code.Faults.{IsFirst}
use Rattle.sp_flow.proofs.StatementLemmas.{callee_within, nothing_more}
use Rattle.sp_graph.specs.Control.{control_of}
use Rattle.sp_graph.specs.Routines.{callee_at}
use Rattle.sp_prog.specs.declared.routine.Routine.{Routine}
use Rattle.sp_flow.proofs.statements.count_called.Goals as goal

pub bounds-routines-place : goal.bounds-routines-place
bounds-routines-place c =
    callee_within c.args.routines.now (control_of c.args.stmt.now.instr) c.in-Some.place (sym c.callee_of.ensures ∙ c.in-Some.is)

pub returns-in-Some : goal.returns-in-Some
returns-in-Some c =
    let o = c.args.own.now in
    let calls : callee_by c.args.routines.now (control_of c.args.stmt.now.instr) ≡ Some c.in-Some.place = sym c.callee_of.ensures ∙ c.in-Some.is in
    let low = callee_within c.args.routines.now (control_of c.args.stmt.now.instr) c.in-Some.place calls in
    let routine = c.index-routines-place.result in
    let there : slice_get c.args.routines.now c.in-Some.place ≡ Some routine =
    slice_get_read c.args.routines.now (length c.args.routines.now) c.in-Some.place routine refl low c.index-routines-place.is in
    let at : callee_at c.args.routines.now (callee_by c.args.routines.now (control_of c.args.stmt.now.instr)) ≡ Some routine =
    ap (callee_at c.args.routines.now) calls ∙ there in
    subst
    (λ (q : Option Routine). IsFirst (λ f. (c.args.best ≡ Some f) ⊎ ((f.line ≡ c.args.stmt.now.line)
    × CalledAt c.args.areas.now (own_lists o.locs o.reads.now o.changes.now o.ins.now o.outs.now) q c.args.unset f.kind)) c.count_callee.result)
    (sym at) c.count_callee.ensures

pub returns-in-None : goal.returns-in-None
returns-in-None c =
    let o = c.args.own.now in
    let calls : callee_by c.args.routines.now (control_of c.args.stmt.now.instr) ≡ None = sym c.callee_of.ensures ∙ c.in-None.is in
    let at : callee_at c.args.routines.now (callee_by c.args.routines.now (control_of c.args.stmt.now.instr)) ≡ None =
    ap (callee_at c.args.routines.now) calls in
    subst
    (λ (q : Option Routine). IsFirst (λ f. (c.args.best ≡ Some f) ⊎ ((f.line ≡ c.args.stmt.now.line)
    × CalledAt c.args.areas.now (own_lists o.locs o.reads.now o.changes.now o.ins.now o.outs.now) q c.args.unset f.kind)) c.args.best)
    (sym at) (nothing_more c.args.best c.args.stmt.now.line)
