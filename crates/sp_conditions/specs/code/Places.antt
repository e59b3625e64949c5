-- What a routine's conditions are made from, as the code has it.
use Rattle.std.specs.Prelude.{◌≡◌, ℕ, Bool, ◌||◌, IsTrue, List, Option, All, false, option_map}
use Rattle.std.specs.Borrow.{Bor}
use Rattle.sp_base.specs.declared.location.Loc.{Loc}
use Rattle.sp_base.specs.Locs.{has}
use Rattle.sp_graph.specs.Structure.{moves_pointer}
use Rattle.sp_isa.specs.declared.instr.Instr.{Instr}
use Rattle.sp_isa.specs.Code.{valid}
use Rattle.sp_isa.specs.Locations.{writes}
use Rattle.sp_prog.specs.declared.routine.Routine.{Routine}
use Rattle.sp_prog.specs.declared.routine.Stmt.{Stmt}
use Rattle.sp_prog.specs.Rules.{IsUnit, IsRoutine}
use Rattle.sp_term.specs.declared.var.Var.TheVariants as var
use Rattle.sp_term.specs.Tree.{Variable}
use Rattle.sp_trans.specs.Symbolic.{Word}
use Rattle.sp_cond.specs.Calls.{callee_of}
use Rattle.sp_cond.specs.Start.{Setting, callee_sets, callee_stores, is_store}
use Rattle.sp_conditions.specs.declared.place.Place.{Place}

abbrev pub setting_at : Place → Setting
setting_at p = record { unit = p.unit.now; routine = p.routine.now; depths = p.depths.now }

abbrev pub option_now : Option (Bor Routine) → Option Routine
option_now r = option_map (λ (x : Bor Routine). x.now) r

-- each instruction is valid
abbrev pub AreValid : List Stmt → Type 0
AreValid code = All (λ (s : Stmt). IsTrue (valid s.instr)) code

-- an instruction sets a location, or the routine that it calls lists it
abbrev pub sets_at : List Routine → Loc → Instr → Bool
sets_at routines x i = has x (writes i) || callee_sets x (callee_of routines i)

-- an instruction stores, or the routine that it calls lists an area
abbrev pub stores_at : List Routine → Instr → Bool
stores_at routines i = is_store i || callee_stores (callee_of routines i)

abbrev pub word : ℕ → Word
word k = record { high = Variable (var.SlotHigh k); low = Variable (var.SlotLow k) }

-- a routine of a unit whose instructions don't move the stack pointer
pub record IsReady (u : Setting) : Type 0 where
  pub unit : IsUnit u.unit
  pub routine : IsRoutine u.unit u.routine
  pub pointer : All (λ (s : Stmt). moves_pointer s.instr ≡ false) u.routine.code
