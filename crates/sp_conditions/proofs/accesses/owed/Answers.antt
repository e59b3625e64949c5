use Rattle.std.proofs.Common.{◌≡◌, ◌∙◌, map}
use Rattle.std.proofs.Common.{ap₂}
use Rattle.sp_prog.specs.View.{listed_areas}
use Rattle.sp_cond.specs.Conclusions.{permitted}
use Rattle.sp_cond.specs.Execution.{span}
use Rattle.sp_conditions.specs.code.Spans.{among}
use Rattle.sp_conditions.proofs.ListLemmas.{among_areas}
use Rattle.sp_conditions.proofs.accesses.owed.Goals as goal

pub returns : goal.returns
returns c =
    let places : c.deref.result.now ≡ permitted c.args.u.now.routine.now c.args.i.now = c.deref.ensures.value ∙ c.in_ok-places.ensures in
    let areas = c.areas_of.ensures.same in
    c.in_ok-formula.ensures
    ∙ ap₂ among c.in_ok-t.ensures (c.in_ok-spans.ensures ∙ (λ k. map span (listed_areas (areas k) (places k))))
    ∙ among_areas _ _
