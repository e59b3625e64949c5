use Rattle.std.proofs.Common.{ap, map, length, length-append, arith, ◌∷◌, []}
use Rattle.std.specs.Prelude.{flat_map}
use Rattle.std.proofs.lemmas.Grind.{flat_map-append}
use Rattle.sp_isa.specs.declared.instr.Instr.TheVariants.{Ret}
use Rattle.sp_isa.specs.Code.{code}
use Rattle.sp_first.specs.Program.{instr_of}
use Rattle.sp_first.proofs.ImageLaws.{codes_short}
use Rattle.sp_first.proofs.image.image_of.Goals as goal

pub placed-requires : goal.placed-requires
placed-requires c =
    let split = flat_map-append code (map instr_of c.args.transfers.now) (Ret ∷ []) in
    omega (arith, ap length c.deref.ensures.value, ap length c.in_ok-bytes.ensures, ap length split, length-append (flat_map code (map instr_of c.args.transfers.now)) (code Ret), codes_short c.args.transfers.now, c.requires)
