-- What a changed part of the core leaves as it was.
use Rattle.std.proofs.Common.{◌≡◌, ◌∙◌, sym, ap, refl, ℕ, ◌%◌, Bool, cond, arith, get_or-set_same, get_or-set_other}
use Rattle.sp_base.specs.declared.location.Reg.{Reg}
use Rattle.sp_base.specs.declared.location.Reg.TheVariants as reg
use Rattle.sp_base.specs.declared.location.Loc.{Loc}
use Rattle.sp_base.specs.declared.location.Loc.TheVariants as loc
use Rattle.sp_base.specs.Location.{loc_of}
use Rattle.sp_base.specs.Locs.{has, only}
use Rattle.sp_isa.specs.Core.{Core, IsCore, IsFlag, at, reg_of, cell, with_reg, with_flag, with_cell, with_sp, with_pc, with_halted, advance}
use Rattle.sp_isa.proofs.Cases.{each_reg, each_loc}

-- what a location has after a change of a part
pub at-with_reg : (r : Reg) (v : ℕ) (core : Core) (x : Loc) → at x (with_reg r v core) ≡ cond (has x (only (loc_of r))) v (at x core)
unfolding with_reg has only
at-with_reg r v core x = each_reg (λ r. (x : Loc) → at x (with_reg r v core) ≡ cond (has x (only (loc_of r))) v (at x core))
    (each_loc (λ x. at x (with_reg reg.B v core) ≡ cond (has x (only loc.B)) v (at x core)) refl refl refl refl refl refl refl refl refl refl refl refl)
    (each_loc (λ x. at x (with_reg reg.C v core) ≡ cond (has x (only loc.C)) v (at x core)) refl refl refl refl refl refl refl refl refl refl refl refl)
    (each_loc (λ x. at x (with_reg reg.D v core) ≡ cond (has x (only loc.D)) v (at x core)) refl refl refl refl refl refl refl refl refl refl refl refl)
    (each_loc (λ x. at x (with_reg reg.E v core) ≡ cond (has x (only loc.E)) v (at x core)) refl refl refl refl refl refl refl refl refl refl refl refl)
    (each_loc (λ x. at x (with_reg reg.H v core) ≡ cond (has x (only loc.H)) v (at x core)) refl refl refl refl refl refl refl refl refl refl refl refl)
    (each_loc (λ x. at x (with_reg reg.L v core) ≡ cond (has x (only loc.L)) v (at x core)) refl refl refl refl refl refl refl refl refl refl refl refl)
    (each_loc (λ x. at x (with_reg reg.A v core) ≡ cond (has x (only loc.A)) v (at x core)) refl refl refl refl refl refl refl refl refl refl refl refl)
    r x

pub at-with_flag_s : (v : ℕ) (core : Core) (x : Loc) → at x (with_flag loc.S v core) ≡ cond (has x (only loc.S)) v (at x core)
unfolding with_flag has only
at-with_flag_s v core = each_loc (λ x. at x (with_flag loc.S v core) ≡ cond (has x (only loc.S)) v (at x core)) refl refl refl refl refl refl refl refl refl refl refl refl

pub at-with_flag_z : (v : ℕ) (core : Core) (x : Loc) → at x (with_flag loc.Z v core) ≡ cond (has x (only loc.Z)) v (at x core)
unfolding with_flag has only
at-with_flag_z v core = each_loc (λ x. at x (with_flag loc.Z v core) ≡ cond (has x (only loc.Z)) v (at x core)) refl refl refl refl refl refl refl refl refl refl refl refl

pub at-with_flag_ac : (v : ℕ) (core : Core) (x : Loc) → at x (with_flag loc.Ac v core) ≡ cond (has x (only loc.Ac)) v (at x core)
unfolding with_flag has only
at-with_flag_ac v core = each_loc (λ x. at x (with_flag loc.Ac v core) ≡ cond (has x (only loc.Ac)) v (at x core)) refl refl refl refl refl refl refl refl refl refl refl refl

pub at-with_flag_p : (v : ℕ) (core : Core) (x : Loc) → at x (with_flag loc.P v core) ≡ cond (has x (only loc.P)) v (at x core)
unfolding with_flag has only
at-with_flag_p v core = each_loc (λ x. at x (with_flag loc.P v core) ≡ cond (has x (only loc.P)) v (at x core)) refl refl refl refl refl refl refl refl refl refl refl refl

pub at-with_flag_cy : (v : ℕ) (core : Core) (x : Loc) → at x (with_flag loc.Cy v core) ≡ cond (has x (only loc.Cy)) v (at x core)
unfolding with_flag has only
at-with_flag_cy v core = each_loc (λ x. at x (with_flag loc.Cy v core) ≡ cond (has x (only loc.Cy)) v (at x core)) refl refl refl refl refl refl refl refl refl refl refl refl

pub at-with_cell : (a v : ℕ) (core : Core) (x : Loc) → at x (with_cell a v core) ≡ at x core
unfolding with_cell
at-with_cell a v core = each_loc (λ x. at x (with_cell a v core) ≡ at x core) refl refl refl refl refl refl refl refl refl refl refl refl

pub at-with_sp : (v : ℕ) (core : Core) (x : Loc) → at x (with_sp v core) ≡ at x core
unfolding with_sp
at-with_sp v core = each_loc (λ x. at x (with_sp v core) ≡ at x core) refl refl refl refl refl refl refl refl refl refl refl refl

pub at-with_pc : (v : ℕ) (core : Core) (x : Loc) → at x (with_pc v core) ≡ at x core
unfolding with_pc
at-with_pc v core = each_loc (λ x. at x (with_pc v core) ≡ at x core) refl refl refl refl refl refl refl refl refl refl refl refl

pub at-with_halted : (v : Bool) (core : Core) (x : Loc) → at x (with_halted v core) ≡ at x core
unfolding with_halted
at-with_halted v core = each_loc (λ x. at x (with_halted v core) ≡ at x core) refl refl refl refl refl refl refl refl refl refl refl refl

pub at-advance : (n : ℕ) (core : Core) (x : Loc) → at x (advance n core) ≡ at x core
unfolding advance with_pc
at-advance n core = each_loc (λ x. at x (advance n core) ≡ at x core) refl refl refl refl refl refl refl refl refl refl refl refl

pub at-with_flag : (f : Loc) (v : ℕ) (core : Core) (x : Loc) → IsFlag f → at x (with_flag f v core) ≡ cond (has x (only f)) v (at x core)
at-with_flag loc.S v core x h = at-with_flag_s v core x
at-with_flag loc.Z v core x h = at-with_flag_z v core x
at-with_flag loc.Ac v core x h = at-with_flag_ac v core x
at-with_flag loc.P v core x h = at-with_flag_p v core x
at-with_flag loc.Cy v core x h = at-with_flag_cy v core x
at-with_flag f v core x h = elim h [ ]

pub reg_of-at : (r : Reg) (core : Core) → reg_of r core ≡ at (loc_of r) core
reg_of-at reg.B core = refl
reg_of-at r core = refl

pub reg_of-with_reg : (r q : Reg) (v : ℕ) (core : Core) → reg_of q (with_reg r v core) ≡ cond (has (loc_of q) (only (loc_of r))) v (reg_of q core)
reg_of-with_reg r q v core =
    reg_of-at q (with_reg r v core) ∙ at-with_reg r v core (loc_of q)
    ∙ ap (λ n. cond (has (loc_of q) (only (loc_of r))) v n) (sym (reg_of-at q core))

-- the parts that no register is
pub record SameFrame (old new : Core) : Type 0 where
  pub sp : new.sp ≡ old.sp
  pub pc : new.pc ≡ old.pc
  pub halted : new.halted ≡ old.halted
  pub cells : new.cells ≡ old.cells

pub frame-with_reg : (r : Reg) (v : ℕ) (core : Core) → SameFrame core (with_reg r v core)
unfolding with_reg
frame-with_reg reg.B v core = record { sp = refl; pc = refl; halted = refl; cells = refl }
frame-with_reg r v core = record { sp = refl; pc = refl; halted = refl; cells = refl }

-- the byte at an address after a byte was put there, and after one was put at another address
pub cell-with_cell_same : (a v : ℕ) (core : Core) → IsCore core → cell a (with_cell a v core) ≡ v
unfolding with_cell
cell-with_cell_same a v core h = get_or-set_same core.cells (a % 65536) v 0 (let m = h.memory in omega arith)

pub cell-with_cell_other : (a b v : ℕ) (core : Core) → (b % 65536 ≡ a % 65536 → ⊥) → cell b (with_cell a v core) ≡ cell b core
unfolding with_cell
cell-with_cell_other a b v core apart = get_or-set_other core.cells (a % 65536) (b % 65536) v 0 apart
