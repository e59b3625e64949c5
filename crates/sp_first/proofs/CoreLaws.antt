-- What a changed part of the core leaves as it was.
use Rattle.std.proofs.Common.{◌≡◌, ℕ, refl, cond, ◌⊎◌, inl, inr}
use Rattle.sp_base.specs.declared.location.Reg.{Reg}
use Rattle.sp_base.specs.declared.location.Reg.TheVariants as reg
use Rattle.sp_base.specs.declared.location.Loc.{Loc}
use Rattle.sp_base.specs.declared.location.Loc.TheVariants as loc
use Rattle.sp_base.specs.Location.{loc_of}
use Rattle.sp_isa.specs.Core.{Core, at, reg_of, with_reg}
use Rattle.sp_first.specs.Program.{same_reg}

pub at-with_reg : (r : Reg) (v : ℕ) (x : Loc) (core : Core) → (x ≡ loc_of r) ⊎ (at x (with_reg r v core) ≡ at x core)
unfolding with_reg
at-with_reg reg.B v loc.B core = inl refl
at-with_reg reg.B v x core = inr refl
at-with_reg reg.C v loc.C core = inl refl
at-with_reg reg.C v x core = inr refl
at-with_reg reg.D v loc.D core = inl refl
at-with_reg reg.D v x core = inr refl
at-with_reg reg.E v loc.E core = inl refl
at-with_reg reg.E v x core = inr refl
at-with_reg reg.H v loc.H core = inl refl
at-with_reg reg.H v x core = inr refl
at-with_reg reg.L v loc.L core = inl refl
at-with_reg reg.L v x core = inr refl
at-with_reg reg.A v loc.A core = inl refl
at-with_reg reg.A v x core = inr refl

pub reg_of-with_reg : (r q : Reg) (v : ℕ) (core : Core) → reg_of q (with_reg r v core) ≡ cond (same_reg r q) v (reg_of q core)
unfolding with_reg
reg_of-with_reg reg.B reg.B v core = refl
reg_of-with_reg reg.B q v core = refl
reg_of-with_reg reg.C reg.B v core = refl
reg_of-with_reg reg.C q v core = refl
reg_of-with_reg reg.D reg.B v core = refl
reg_of-with_reg reg.D q v core = refl
reg_of-with_reg reg.E reg.B v core = refl
reg_of-with_reg reg.E q v core = refl
reg_of-with_reg reg.H reg.B v core = refl
reg_of-with_reg reg.H q v core = refl
reg_of-with_reg reg.L reg.B v core = refl
reg_of-with_reg reg.L q v core = refl
reg_of-with_reg reg.A reg.B v core = refl
reg_of-with_reg reg.A q v core = refl
