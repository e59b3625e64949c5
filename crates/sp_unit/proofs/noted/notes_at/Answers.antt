use Rattle.std.proofs.Common.{◌+◌, suc, ◌≡◌, arith, List, sym, subst, take}
use Rattle.std.specs.List.{AllZip}
use Rattle.sp_unit.specs.Lines.{Entry}
use Rattle.sp_unit.specs.SourceUnits.{IsNoted, raws}
use Rattle.sp_unit.specs.code.Entries.{entry_of, entries_of}
use Rattle.sp_unit.specs.code.Scopes.{source_of}
use Rattle.sp_unit.specs.code.Sounds.{IsSound, said_at}
use Rattle.sp_unit.proofs.CheckLemmas.{take_next, take_all}
use Rattle.sp_unit.proofs.SoundLemmas.{each_read, noted_more}
use Rattle.sp_unit.proofs.noted.notes_at.Goals as goal

pub noted_at-requires : goal.noted_at-requires
noted_at-requires c = record {
  scope = c.requires.scope;
  sound = each_read entry_of (IsSound (source_of c.args.scope.now)) c.args.lines.now c.loop-e.e-index c.e-item.result c.loop-e-test.true c.e-item.is c.requires.sound;
}

pub loop-e-preserved : goal.loop-e-preserved
loop-e-preserved c =
    let s = source_of c.args.scope.now in
    let i = c.loop-e.e-index in
    let next : i + 1 ≡ suc i = omega arith in
    subst (λ (l : List Entry). AllZip (IsNoted s) (raws (said_at c.args.point) l) c.in_ok-notes.notes.items) (sym (take_next entry_of c.args.lines.now i (i + 1) c.e-item.result next c.loop-e-test.true c.e-item.is))
    (noted_more s (said_at c.args.point) (entries_of (take i c.args.lines.now)) (entry_of c.e-item.result) c.loop-e.notes.items c.in_ok-notes.notes.items c.in_ok-noted_at.field-0
    c.loop-e.invariant c.in_ok-noted_at.ensures c.in_ok-notes.ensures)

pub returns : goal.returns
returns c =
    subst (λ (l : List Entry). AllZip (IsNoted (source_of c.args.scope.now)) (raws (said_at c.args.point) l) c.loop-e.notes.items) (take_all entry_of c.args.lines.now c.loop-e.e-index c.loop-e-test.false)
    c.loop-e.invariant
