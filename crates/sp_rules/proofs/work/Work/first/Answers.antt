use Rattle.std.proofs.Common.{◌≡◌, sym, ◌-◌, ◌++◌, ◌∷◌, [], ap, ◌∙◌, take}
use Rattle.sp_rules.specs.code.Work.{hypotheses_of}
use Rattle.sp_rules.proofs.WorkLemmas.{none_stacked, first_works, first_stacks}
use Rattle.sp_rules.proofs.work.Work.first.Goals as goal

pub returns-in_default-clause-entered : goal.returns-in_default-clause-entered
returns-in_default-clause-entered c =
    let items = c.args.self.now.waiting.items in
    let none : items ≡ [] = c.in_default.ensures.items ∙ ap (λ l. l ++ []) (c.in_default.ensures.rest ∙ ap (λ n. take (n - 1) items) c.in_default.ensures.cases.0) in
    none_stacked (hypotheses_of c.args.self.now) items none

pub returns-clause-work : goal.returns-clause-work
returns-clause-work c =
    first_works (hypotheses_of c.args.self.now) (hypotheses_of c.load.new.self) c.args.self.now.waiting.items c.load.new.self.waiting.items c.in-Some.first c.requires
    (c.in-Some.ensures.items ∙ ap (λ w. w.items ++ c.in-Some.first ∷ []) (sym c.load.ensures.waiting)) c.in_ok-load.ensures.hypotheses

pub returns-clause-entered : goal.returns-clause-entered
returns-clause-entered c =
    first_stacks (hypotheses_of c.args.self.now) (hypotheses_of c.load.new.self) c.args.self.now.waiting.items c.load.new.self.waiting.items c.in-Some.first c.requires
    (c.in-Some.ensures.items ∙ ap (λ w. w.items ++ c.in-Some.first ∷ []) (sym c.load.ensures.waiting)) c.in_ok-load.ensures.hypotheses
