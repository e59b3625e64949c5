use Rattle.std.proofs.Common.{◌≡◌, sym, subst, w64}
use Rattle.std.proofs.lemmas.Int.{to_z-of_z}
use Rattle.sp_steps.specs.Steps.{Rom}
use Rattle.sp_steps.specs.Rows.{loaded}
use Rattle.sp_rules.specs.code.Work.{changes_of}
use Rattle.sp_rules.specs.code.Outcome.{Becomes, carried}
use Rattle.sp_rules.proofs.ApplyLemmas.{applies_at}
use Rattle.sp_rules.proofs.memories.rom.Goals as goal

pub returns : goal.returns
returns c =
    let work = c.in_ok-work.work in
    let aim = c.in_ok-work.goal.now in
    let same : c.args.goals.changes ≡ changes_of work = c.in_ok-work.ensures.entered.1 in
    let becomes : Becomes c.rom_at.result (carried (loaded (changes_of work) c.args.m.now c.args.c c.args.image.now aim) work) =
    subst (λ z. Becomes c.rom_at.result (carried (loaded (changes_of work) c.args.m.now z c.args.image.now aim) work)) (to_z-of_z w64 c.args.c c.ranges.c) c.rom_at.ensures
    in
    applies_at (Rom c.args.m.now c.args.c c.args.image.now) c.args.goals work aim (loaded c.args.goals.changes c.args.m.now c.args.c c.args.image.now aim) c.rom_at.result
    (record { subgoals = c.in_ok-work.ensures.entered.0; changes = c.in_ok-work.ensures.entered.1 }) (record { holds = λ made e. e; only = λ made e. e })
    (subst (λ cs. Becomes c.rom_at.result (carried (loaded cs c.args.m.now c.args.c c.args.image.now aim) work)) (sym same) becomes)
