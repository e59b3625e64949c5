use Rattle.std.proofs.Common.{ap, sym, ◌∙◌}
use Rattle.sp_asm.specs.Names.{value_in}
use Rattle.sp_asm.proofs.DeclaredLaws.{declares_name, declares_none}
use Rattle.sp_asm.proofs.names.declared_names.Goals as goal
use Rattle.sp_asm.proofs.names.declared_names.Goals.{in-Some+in_ok-insert, in_default}

pub loop-s-preserved : goal.loop-s-preserved
loop-s-preserved c = elim c.match-name_of.branch [
  | in-Some+in_ok-insert w ↦
      declares_name c.args.statements.now c.loop-s.s-index c.s-item.result (value_in c.loop-s.names.entries) (value_in c.match-name_of.names.entries) c.loop-s-test.true c.s-item.is c.loop-s.invariant w.in-Some.name (sym w.in-Some.ensures)
      (λ q. ap (λ names. value_in names.entries q) w.names-is ∙ w.in_ok-insert.ensures.updates.0 q)
  | in_default w ↦
      declares_none c.args.statements.now c.loop-s.s-index c.s-item.result (value_in c.loop-s.names.entries) (value_in c.match-name_of.names.entries) c.loop-s-test.true c.s-item.is c.loop-s.invariant (sym w.in_default.ensures)
      (λ q. ap (λ names. value_in names.entries q) w.names-is)
]
