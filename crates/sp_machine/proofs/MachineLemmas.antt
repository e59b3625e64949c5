-- A machine's core is in its ranges.
use Rattle.std.proofs.Common.{◌≡◌, ◌<◌, ℕ, false, List, All, subst, sym, replicate, refl}
use Rattle.std.proofs.lemmas.List.Elements.{All-replicate}
use Rattle.sp_base.specs.declared.location.Loc.{Loc}
use Rattle.sp_base.specs.declared.location.Loc.TheVariants as loc
use Rattle.sp_isa.specs.Core.{Core, at, limit, IsCore}
use Rattle.sp_isa.specs.Step.{step}
use Rattle.sp_isa.proofs.CoreLemmas.{steps_keep_cores}
use Rattle.sp_machine.specs.declared.machine.Machine.TheInside.{Inside}
use Rattle.sp_machine.specs.code.Machine.{core_of, IsMachine}

locations : (m : Inside) → IsMachine m → (x : Loc) → at x (core_of m) < limit x
locations m i loc.A = i.a
locations m i loc.B = i.b
locations m i loc.C = i.c
locations m i loc.D = i.d
locations m i loc.E = i.e
locations m i loc.H = i.h
locations m i loc.L = i.l
locations m i loc.S = i.s
locations m i loc.Z = i.z
locations m i loc.Ac = i.ac
locations m i loc.P = i.p
locations m i loc.Cy = i.cy

pub is_core : (m : Inside) (core : Core) → core_of m ≡ core → IsMachine m → IsCore core
is_core m core e i = subst IsCore e record { locations = locations m i; sp = i.sp; pc = i.pc; memory = i.memory; bytes = i.bytes }

-- a list of one value many times
pub all_same : (P : ℕ → Type 0) (n x : ℕ) (cells : List ℕ) → cells ≡ replicate n x → P x → All P cells
all_same P n x cells e h = subst (All P) (sym e) (All-replicate P n x h)

-- the core in which all is 0
abbrev pub zeros : List ℕ → Core
zeros cells = record { b = 0; c = 0; d = 0; e = 0; h = 0; l = 0; a = 0; s = 0; z = 0; ac = 0; p = 0; cy = 0; sp = 0; pc = 0; halted = false; cells = cells }

pub at-zeros : (cells : List ℕ) (x : Loc) → at x (zeros cells) ≡ 0
at-zeros cells loc.A = refl
at-zeros cells loc.B = refl
at-zeros cells loc.C = refl
at-zeros cells loc.D = refl
at-zeros cells loc.E = refl
at-zeros cells loc.H = refl
at-zeros cells loc.L = refl
at-zeros cells loc.S = refl
at-zeros cells loc.Z = refl
at-zeros cells loc.Ac = refl
at-zeros cells loc.P = refl
at-zeros cells loc.Cy = refl

pub still_core : (input : ℕ) (old new : Core) → new ≡ step input old → input < 256 → IsCore old → IsCore new
still_core input old new e low h = subst IsCore (sym e) (steps_keep_cores input old low h)
