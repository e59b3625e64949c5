use Rattle.std.proofs.Common.{◌≡◌, ◌+◌, suc, arith, ◌++◌, ◌∷◌, [], List, sym, ap, ◌∙◌, take}
use Rattle.std.specs.List.{filter_map, list_any}
use Rattle.std.proofs.lemmas.List.Elements.{filter_map-append}
use Rattle.sp_unit.specs.Faults.{is_over}
use Rattle.sp_unit.specs.Lines.{Entry}
use Rattle.sp_unit.specs.SourceUnits.{named_in}
use Rattle.sp_unit.specs.code.Entries.{entry_of, entries_of}
use Rattle.sp_unit.specs.code.Scopes.{source_of}
use Rattle.sp_unit.specs.code.Sounds.{IsSound, ports_by}
use Rattle.sp_unit.proofs.CheckLemmas.{take_next, take_all}
use Rattle.sp_unit.proofs.SoundLemmas.{each_read, named_append, ports_sound}
use Rattle.sp_unit.proofs.ports.ports.Goals as goal

pub with_ports-requires : goal.with_ports-requires
with_ports-requires c =
    let s = source_of c.args.scope.now in
    ap (list_any (is_over s)) c.ports_at.ensures
    ∙ ports_sound s c.args.direction (entry_of c.e-item.result)
    (each_read entry_of (IsSound s) c.args.lines.now c.loop-e.e-index c.e-item.result c.loop-e-test.true c.e-item.is c.requires)

pub loop-e-preserved : goal.loop-e-preserved
loop-e-preserved c =
    let value = (source_of c.args.scope.now).value in
    let named = ports_by c.args.direction in
    let lines = c.args.lines.now in
    let i = c.loop-e.e-index in
    let next : i + 1 ≡ suc i = omega arith in
    let more : named_in named (entries_of (take (i + 1) lines)) ≡ named_in named (entries_of (take i lines)) ++ named_in named (entry_of c.e-item.result ∷ []) =
    ap (λ (l : List Entry). named_in named l) (take_next entry_of lines i (i + 1) c.e-item.result next c.loop-e-test.true c.e-item.is)
    ∙ named_append named (entries_of (take i lines)) (entry_of c.e-item.result ∷ []) in
    c.in_ok-all.ensures
    ∙ ap (λ l. l ++ filter_map value c.ports_at.result.now) c.loop-e.invariant
    ∙ ap (λ l. filter_map value (named_in named (entries_of (take i lines))) ++ filter_map value l) c.ports_at.ensures
    ∙ sym (filter_map-append value (named_in named (entries_of (take i lines))) (named_in named (entry_of c.e-item.result ∷ [])))
    ∙ ap (filter_map value) (sym more)

pub returns : goal.returns
returns c =
    let value = (source_of c.args.scope.now).value in
    c.loop-e.invariant ∙ ap (λ (l : List Entry). filter_map value (named_in (ports_by c.args.direction) l)) (take_all entry_of c.args.lines.now c.loop-e.e-index c.loop-e-test.false)
