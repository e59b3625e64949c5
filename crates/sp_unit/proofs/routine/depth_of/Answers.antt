use Rattle.std.proofs.Common.{◌≡◌, ◌+◌, suc, arith, List, take, drop, sym, ap, ◌∙◌}
use Rattle.std.specs.Prelude.{unwrap_or}
use Rattle.std.specs.Option.{option_and_then}
use Rattle.sp_unit.specs.Lines.{Entry}
use Rattle.sp_unit.specs.code.Entries.{entry_of, entries_of}
use Rattle.sp_unit.specs.code.Scopes.{source_of}
use Rattle.sp_unit.proofs.CheckLemmas.{take_next, whole_next}
use Rattle.sp_unit.proofs.SoundLemmas.{depths, first_depth, no_depth}
use Rattle.sp_unit.proofs.routine.depth_of.Goals as goal

pub returns-in-Some : goal.returns-in-Some
returns-in-Some c =
    let s = source_of c.args.scope.now in
    let lines = c.args.lines.now in
    let i = c.loop-e.e-index in
    let next : i + 1 ≡ suc i = omega arith in
    let e = c.e-item.result in
    c.value_or_zero.ensures
    ∙ sym (ap (λ o. unwrap_or (option_and_then s.value o) 0) (first_depth (entries_of lines) (entries_of (take i lines)) (entries_of (drop (i + 1) lines)) (entry_of e) c.in-Some.depth.now
    (whole_next entry_of lines i (i + 1) e next c.loop-e-test.true c.e-item.is) c.loop-e.invariant c.in-Some.ensures))

pub loop-e-preserved : goal.loop-e-preserved
loop-e-preserved c =
    let lines = c.args.lines.now in
    let i = c.loop-e.e-index in
    let next : i + 1 ≡ suc i = omega arith in
    let e = c.e-item.result in
    ap (λ (l : List Entry). depths l) (take_next entry_of lines i (i + 1) e next c.loop-e-test.true c.e-item.is)
    ∙ no_depth (entries_of (take i lines)) (entry_of e) c.loop-e.invariant c.in_default.ensures
