use Rattle.std.proofs.Common.{◌++◌, ap, ◌∙◌}
use Rattle.std.specs.Prelude.{option_to_list}
use Rattle.sp_unit.specs.code.Scopes.{source_of}
use Rattle.sp_unit.proofs.SoundLemmas.{kept_more}
use Rattle.sp_unit.proofs.ports.with_ports.Goals as goal

pub loop-e-preserved : goal.loop-e-preserved
loop-e-preserved c =
    c.in_ok-all.ensures
    ∙ ap (λ l. l ++ option_to_list c.port.result) c.loop-e.invariant
    ∙ kept_more (source_of c.args.scope.now).value c.args.ports.items c.args.list.now c.loop-e.e-index c.e-item.result c.port.result c.loop-e-test.true
    (c.port.ensures ∙ ap (source_of c.args.scope.now).value c.e-item.is)
