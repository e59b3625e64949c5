use Rattle.std.proofs.Common.{◌≡◌, true, ℕ, List, None, sym, ap, subst, ◌∙◌}
use Rattle.std.specs.Prelude.{nat_eq}
use Rattle.std.specs.Cmp.Lexicographic.{pointwise}
use Rattle.indexmap.specs.IndexMap.{get}
use Rattle.sp_expr.specs.declared.setting.Setting.TheVariants.{Statement}
use Rattle.sp_expr.specs.Parsing.{IsWithin, outcome}
use Rattle.sp_expr.specs.code.Evaluation.{finished, run, start, fits}
use Rattle.sp_expr.specs.Undefined.{first_undefined}
use Rattle.sp_expr.specs.Trees.{value_of}
use Rattle.sp_expr.proofs.KeptLemmas.{kept_within, kept_fits}
use Rattle.sp_expr.proofs.ValueLaws.{value_is}
use Rattle.sp_expr.proofs.expr.value.Goals as goal

pub returns-in-Some-evaluate-clause-value : goal.returns-in-Some-evaluate-clause-value
returns-in-Some-evaluate-clause-value c t h =
    let f = λ (name : List ℕ). get (pointwise nat_eq) c.args.names.now name in
    let one = c.deref.ensures.value ∙ c.e.view_is in
    let two = c.deref-2.ensures.value ∙ c.e.view_is in
    let none = ap (first_undefined f) (sym one) ∙ sym c.in_default.ensures in
    let some = sym (value_is Statement f c.args.here c.args.e.now t h) ∙ ap (λ ws. finished (run f c.args.here start ws)) (sym two) ∙ sym c.in-Some-evaluate.ensures in
    sym (ap (λ name. outcome name (value_of f c.args.here t)) none ∙ ap (outcome None) some)

pub returns-in-None-clause-value : goal.returns-in-None-clause-value
returns-in-None-clause-value c t h =
    let f = λ (name : List ℕ). get (pointwise nat_eq) c.args.names.now name in
    let one = c.deref.ensures.value ∙ c.e.view_is in
    let two = c.deref-2.ensures.value ∙ c.e.view_is in
    let none = ap (first_undefined f) (sym one) ∙ sym c.in_default.ensures in
    let some = sym (value_is Statement f c.args.here c.args.e.now t h) ∙ ap (λ ws. finished (run f c.args.here start ws)) (sym two) ∙ sym c.in-None.ensures in
    sym (ap (λ name. outcome name (value_of f c.args.here t)) none ∙ ap (outcome None) some)

pub evaluate-requires : goal.evaluate-requires
evaluate-requires c = subst (λ ws. fits 0 ws ≡ true) (sym c.deref-2.ensures.value) (kept_fits c.e.inside.words.items c.e.invariant)

pub returns-in-Some-clause-expression : goal.returns-in-Some-clause-expression
returns-in-Some-clause-expression c = subst (IsWithin Statement) c.e.view_is (kept_within c.e.inside.words.items c.e.invariant)

pub returns-in-Some-evaluate-clause-expression : goal.returns-in-Some-evaluate-clause-expression
returns-in-Some-evaluate-clause-expression c = subst (IsWithin Statement) c.e.view_is (kept_within c.e.inside.words.items c.e.invariant)

pub returns-in-None-clause-expression : goal.returns-in-None-clause-expression
returns-in-None-clause-expression c = subst (IsWithin Statement) c.e.view_is (kept_within c.e.inside.words.items c.e.invariant)
