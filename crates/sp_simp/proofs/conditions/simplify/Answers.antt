use Rattle.std.proofs.Common.{◌≡◌, ◌++◌, [], refl, sym, ◌∙◌, ap, subst, length}
use Rattle.sp_term.specs.Conditions.{trees, condition_of}
use Rattle.sp_simp.specs.Simplified.{all_conjuncts, goals_left}
use Rattle.sp_simp.specs.code.Marks.{kept_with, left, trees_at, AreWithin, AreSimpleAt}
use Rattle.sp_simp.proofs.MarkLemmas.{forms_grown, forms_within, forms_of, simplified_from}
use Rattle.sp_simp.proofs.conditions.simplify.Goals as goal

pub keep_all-requires-clause-places : goal.keep_all-requires-clause-places
keep_all-requires-clause-places c =
    let pool = c.simple_places-2.new.pool in
    let hyps = trees c.args.c.hyps.now in
    let forms : AreSimpleAt hyps pool c.in_ok-hyps.hyps.items = forms_grown hyps _ pool c.in_ok-hyps.hyps.items c.in_ok-goals.ensures.grows c.in_ok-hyps.ensures.forms in
    subst (AreWithin (length pool)) (sym c.deref.ensures.value) (forms_within hyps pool c.in_ok-hyps.hyps.items forms)

pub keep_goals-requires-clause-places : goal.keep_goals-requires-clause-places
keep_goals-requires-clause-places c =
    let pool = c.simple_places-2.new.pool in
    subst (AreWithin (length pool)) (sym c.deref-2.ensures.value) (forms_within (trees c.args.c.goals.now) pool c.in_ok-goals.goals.items c.in_ok-goals.ensures.forms)

pub returns : goal.returns
returns c =
    let pool = c.simple_places-2.new.pool in
    let hyps = trees c.args.c.hyps.now in
    let goals = trees c.args.c.goals.now in
    let hs = trees_at pool c.in_ok-hyps.hyps.items in
    let gs = trees_at pool c.in_ok-goals.goals.items in
    let first = left c.keep_all.new.self in
    let both = left c.keep_goals.new.self in
    let forms : AreSimpleAt hyps pool c.in_ok-hyps.hyps.items = forms_grown hyps _ pool c.in_ok-hyps.hyps.items c.in_ok-goals.ensures.grows c.in_ok-hyps.ensures.forms in
    let f : first ≡ kept_with [] (all_conjuncts hs) =
    c.in_ok-keep_all.ensures.left ∙ (λ i. kept_with (c.in_ok-kept.ensures.none i) (all_conjuncts (trees_at pool (c.deref.ensures.value i)))) in
    let b : both ≡ first ++ goals_left first (all_conjuncts gs) =
    c.in_ok-keep_goals.ensures ∙ ap (λ l. first ++ goals_left first (all_conjuncts (trees_at pool l))) c.deref-2.ensures.value in
    simplified_from (condition_of c.args.c) (condition_of (record { hyps = c.into_parts.result.0; goals = c.into_parts.result.1; frames = c.args.c.frames }))
    hs gs first both c.len-count.result
    (forms_of hyps pool c.in_ok-hyps.hyps.items forms) (forms_of goals pool c.in_ok-goals.goals.items c.in_ok-goals.ensures.forms)
    f b c.len-count.ensures c.into_parts.ensures.first c.into_parts.ensures.rest refl
