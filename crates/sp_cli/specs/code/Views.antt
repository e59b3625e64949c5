-- The code's commands as those of the definitions.
use Rattle.sp_cli.specs.Command as cmd
use Rattle.sp_cli.specs.Command.{words_of}
use Rattle.sp_cli.specs.declared.command.Verify.{Verify}
use Rattle.sp_cli.specs.declared.command.Asm.{Asm}
use Rattle.sp_cli.specs.declared.command.Run.{Run}
use Rattle.sp_cli.specs.declared.command.Check.{Check}
use Rattle.sp_cli.specs.declared.command.Command.{Command}
use Rattle.sp_cli.specs.declared.command.Command.TheVariants as command

abbrev pub verify_of : Verify → cmd.Command
verify_of v = cmd.Verify v.source.now v.scripts.now v.image.now

abbrev pub asm_of : Asm → cmd.Command
asm_of a = cmd.Asm a.source.now a.image.now

abbrev pub run_of : Run → cmd.Command
run_of r = cmd.Run r.image.now (words_of r.options.now)

abbrev pub check_of : Check → cmd.Command
check_of c = cmd.Check c.source.now

abbrev pub command_of : Command → cmd.Command
command_of (command.Verify v) = verify_of v
command_of (command.Asm a) = asm_of a
command_of (command.Run r) = run_of r
command_of (command.Check c) = check_of c
