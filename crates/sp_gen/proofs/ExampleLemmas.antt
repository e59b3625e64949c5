-- The first routines, computed.
use Rattle.std.proofs.Common.{refl}
use Rattle.std.specs.Fmt.{digits}
use Rattle.sp_gen.specs.Generated.{line}
use Rattle.sp_gen.specs.Examples.{SourcesByExample}

pub by_example : SourcesByExample
unfolding line digits
by_example = record { none = refl; source = refl; scripts = refl; loads = refl; calls = refl }
