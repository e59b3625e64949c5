use Rattle.std.proofs.Common.{◌≡◌, ◌+◌, suc, arith, List, ◌∷◌, sym, ap, subst, ◌∙◌, drop}
use Rattle.sp_unit.specs.Faults.{areas_by}
use Rattle.sp_unit.specs.Lines.{Entry}
use Rattle.sp_unit.specs.code.Entries.{entry_of, entries_of}
use Rattle.sp_unit.specs.code.Scopes.{source_of}
use Rattle.sp_unit.specs.code.Sounds.{IsSound, AreSound}
use Rattle.sp_unit.proofs.CheckLemmas.{drop_next}
use Rattle.sp_unit.proofs.CodedLemmas.{AreFound, found_none, found_more, found_all}
use Rattle.sp_unit.proofs.SoundLemmas.{each_below, none_below}
use Rattle.sp_unit.proofs.routines.routines.Goals as goal

pub routine_at-requires : goal.routine_at-requires
routine_at-requires c =
    let s = source_of c.args.scope.now in
    let i = c.loop-i.i in
    let next : i + 1 ≡ suc i = omega arith in
    record {
      scope = c.requires.scope;
      places = c.requires.places;
      sound = subst (λ l. AreSound s (entries_of l)) (sym c.lines_below.ensures) (each_below entry_of (IsSound s) c.args.lines.now i (i + 1) next c.loop-i-test.true c.requires.sound);
    }

pub loop-i-init : goal.loop-i-init
loop-i-init c = found_none (source_of c.args.scope.now) (areas_by (source_of c.args.scope.now).value (source_of c.args.scope.now).notes) (entries_of c.args.lines.now) c.new-found.result.items c.new-found.ensures.items

pub loop-i-preserved : goal.loop-i-preserved
loop-i-preserved c =
    let s = source_of c.args.scope.now in
    let areas = areas_by s.value s.notes in
    let lines = c.args.lines.now in
    let i = c.loop-i.i in
    let e = c.index-lines-i.result in
    let next : i + 1 ≡ suc i = omega arith in
    let below = c.lines_below.result.now in
    let here : entries_of (drop i lines) ≡ entry_of e ∷ entries_of below =
    drop_next entry_of lines i (i + 1) e next c.loop-i-test.true c.index-lines-i.is ∙ ap (λ l. entry_of e ∷ entries_of l) (sym c.lines_below.ensures) in
    subst (λ l. AreFound s areas (entries_of lines) (entries_of l) c.in_ok-found.found.items) c.lines_below.ensures
    (found_more s areas (entries_of lines) (entries_of below) (entry_of e) c.loop-i.found.items c.in_ok-found.found.items c.in_ok-routine_at.field-0
    (subst (λ (l : List Entry). AreFound s areas (entries_of lines) l c.loop-i.found.items) here c.loop-i.invariant) c.in_ok-routine_at.ensures c.in_ok-found.ensures)

pub returns : goal.returns
returns c =
    let s = source_of c.args.scope.now in
    let areas = areas_by s.value s.notes in
    found_all s areas (entries_of c.args.lines.now) c.loop-i.found.items
    (subst (λ (l : List Entry). AreFound s areas (entries_of c.args.lines.now) l c.loop-i.found.items) (none_below entry_of c.args.lines.now c.loop-i.i c.loop-i-test.false) c.loop-i.invariant)
