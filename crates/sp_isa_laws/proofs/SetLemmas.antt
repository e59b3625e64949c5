-- Sets of registers and flags.
use Rattle.std.proofs.Common.{◌≡◌, ◌⊎◌, Bool, true, false, ◌||◌, refl, sym, ◌∙◌, inl, inr}
use Rattle.sp_base.specs.declared.location.Reg.{Reg}
use Rattle.sp_base.specs.declared.location.Reg.TheVariants as reg
use Rattle.sp_base.specs.Location.{loc_of}
use Rattle.sp_base.specs.Locs.{has}
use Rattle.sp_base.proofs.LocsLaws.{has_none, has_only, has_both}
use Rattle.sp_isa.specs.Core.{Core, at, reg_of}
use Rattle.sp_isa_laws.specs.Sets.{AreSets}

either : (a b : Bool) → (a || b) ≡ true → (a ≡ true) ⊎ (b ≡ true)
either true b h = inl refl
either false b h = inr h

one_of : (a b : Bool) → (a ≡ true) ⊎ (b ≡ true) → (a || b) ≡ true
one_of true b h = refl
one_of false b (inl h) = absurd cc
one_of false b (inr h) = h

same_register : (r : Reg) (core : Core) → at (loc_of r) core ≡ reg_of r core
same_register reg.A core = refl
same_register reg.B core = refl
same_register reg.C core = refl
same_register reg.D core = refl
same_register reg.E core = refl
same_register reg.H core = refl
same_register reg.L core = refl

pub are_sets : AreSets
are_sets = record {
  empty = has_none;
  single = λ x y. has_only x y;
  union = λ a b x. (λ h. either (has x a) (has x b) (sym (has_both a b x) ∙ h), λ h. has_both a b x ∙ one_of (has x a) (has x b) h);
  registers = same_register;
}
