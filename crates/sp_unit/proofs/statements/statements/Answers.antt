use Rattle.std.proofs.Common.{rules, ◌≡◌, ◌+◌, suc, arith, List, [], sym, subst, take}
use Rattle.std.specs.List.{AllZip}
use Rattle.sp_unit.specs.Lines.{Entry}
use Rattle.sp_unit.specs.SourceUnits.{IsCoded, coded}
use Rattle.sp_unit.specs.code.Building.{AreCoded}
use Rattle.sp_unit.specs.code.Entries.{entry_of, entries_of}
use Rattle.sp_unit.specs.code.Scopes.{source_of}
use Rattle.sp_unit.specs.code.Sounds.{IsSound}
use Rattle.sp_unit.proofs.CheckLemmas.{take_next, take_all}
use Rattle.sp_unit.proofs.SoundLemmas.{each_read}
use Rattle.sp_unit.proofs.CodedLemmas.{coded_none}
use Rattle.sp_unit.proofs.statements.statements.Goals as goal

pub loop-e-init : goal.loop-e-init
loop-e-init c = coded_none (source_of c.args.scope.now) _ (search rules) (search rules)

pub with_line-requires : goal.with_line-requires
with_line-requires c = record {
  scope = c.requires.scope;
  sound = each_read entry_of (IsSound (source_of c.args.scope.now)) c.args.lines.now c.loop-e.e-index c.e-item.result c.loop-e-test.true c.e-item.is c.requires.sound;
}

pub loop-e-preserved : goal.loop-e-preserved
loop-e-preserved c =
    let s = source_of c.args.scope.now in
    let i = c.loop-e.e-index in
    let next : i + 1 ≡ suc i = omega arith in
    subst (λ (l : List Entry). AreCoded s l c.in_ok-coding.coding) (sym (take_next entry_of c.args.lines.now i (i + 1) c.e-item.result next c.loop-e-test.true c.e-item.is))
    (c.in_ok-coding.ensures (entries_of (take i c.args.lines.now)) c.loop-e.invariant)

pub returns : goal.returns
returns c =
    subst (λ (l : List Entry). AllZip (IsCoded (source_of c.args.scope.now)) (coded [] l) c.loop-e.coding.code.items) (take_all entry_of c.args.lines.now c.loop-e.e-index c.loop-e-test.false)
    c.loop-e.invariant.code
