use Rattle.std.specs.Prelude.{◌≡◌}
use Rattle.sp_struct.specs.code.Turned.{turned}
use Rattle.sp_struct.proofs.turned.turned.Given as goal

abbrev pub invariant-places : goal.invariant-places
invariant-places l = l.nodes.items ≡ turned l.graph l.highest l.at
