use Rattle.std.specs.Prelude.{◌≡◌, [], slice_index_or}
use Rattle.sp_struct.specs.code.Ways.{PassedBefore}
use Rattle.sp_struct.proofs.closing.pass.Given as goal

abbrev pub invariant-rows : goal.invariant-rows
invariant-rows l = PassedBefore l.fn.rows.items l.rows.items l.place l.at × (l.through ≡ slice_index_or l.fn.rows.items l.place [])
