-- The numbers with which the process ends.
use Rattle.std.specs.Prelude.{ℕ}
use Rattle.sp_cli.specs.declared.status.Status.{Status}
use Rattle.sp_cli.specs.declared.status.Status.TheVariants as status

abbrev pub exit_number : Status → ℕ
exit_number status.Done = 0
exit_number status.Refused = 1
exit_number status.Usage = 2
exit_number status.ReadFault = 3
exit_number status.WriteFault = 4
exit_number status.SinkFault = 5
exit_number status.Memory = 6
exit_number status.TooLong = 7
