use Rattle.std.proofs.Common.{refl}
use Rattle.sp_asm.proofs.ExampleLemmas.{example_assembly}
use Rattle.sp_asm.proofs.laws.assemblies_by_example.Goals as goal

pub returns : goal.returns
returns c = record { assembly = example_assembly; bytes = refl; names = refl }
