use Rattle.std.proofs.Common.{◌≤◌, drop, length}
use Rattle.sp_trial.specs.code.Tables.{IsTable}
use Rattle.sp_trial.proofs.table.table_of.Given as goal

abbrev pub invariant-loop-place : goal.invariant-loop-place
invariant-loop-place l = (l.place ≤ length l.code) × IsTable l.code (drop l.place l.code) l.table.items

abbrev pub decreases-loop-place : goal.decreases-loop-place
decreases-loop-place l = l.place
