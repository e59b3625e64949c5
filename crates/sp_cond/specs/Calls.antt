-- Which routine an instruction calls, and the symbolic state after a call (this project's own).
use Rattle.std.specs.Prelude.{ℕ, Bool, List, [], ◌∷◌, Option, None, Some, if◌then◌else◌}
use Rattle.sp_base.specs.declared.location.Loc.{Loc}
use Rattle.sp_base.specs.declared.location.Loc.TheVariants as loc
use Rattle.sp_base.specs.declared.locs.Locs.{Locs}
use Rattle.sp_base.specs.Locs.{has}
use Rattle.sp_graph.specs.Control.{control_of}
use Rattle.sp_graph.specs.Routines.{callee_at}
use Rattle.sp_graph.specs.Structure.{call_target}
use Rattle.sp_graph.specs.Successors.{routine_at}
use Rattle.sp_graph.specs.declared.control.Control.{Control}
use Rattle.sp_graph.specs.declared.control.Control.TheVariants.{Call, CallIf}
use Rattle.sp_isa.specs.declared.instr.Instr.{Instr}
use Rattle.sp_prog.specs.declared.routine.Routine.{Routine}
use Rattle.sp_term.specs.declared.var.Var.TheVariants as var
use Rattle.sp_term.specs.Tree.{Tree, Variable}
use Rattle.sp_trans.specs.Symbolic.{Symbolic}

-- ---- callees

-- the place of the routine that begins at an address, if there is an address
abbrev pub place_at : List Routine → Option ℕ → Option ℕ
place_at routines None = None
place_at routines (Some address) = routine_at routines address

-- the routine that an instruction calls where its call is taken, and its place
abbrev pub target_place : List Routine → Instr → Option ℕ
target_place routines i = place_at routines (call_target (control_of i))

abbrev pub callee_of : List Routine → Instr → Option Routine
callee_of routines i = callee_at routines (target_place routines i)

-- the address that an instruction calls by a choice: CALL and RST always, Ccc where its condition holds
abbrev pub called_by : Control → Bool → Option ℕ
called_by (Call address) taken = Some address
called_by (CallIf address) taken = if taken then Some address else None
called_by _ taken = None

-- the place of the routine that is called by a choice
abbrev pub called_place : List Routine → Instr → Bool → Option ℕ
called_place routines i taken = place_at routines (called_by (control_of i) taken)

-- ---- after a call

-- a location that the callee lists has the variable of the j-th call, any other keeps its term
abbrev pub after_at : Locs → ℕ → Loc → Tree → Tree
after_at changes j x t = if has x changes then Variable (var.After x j) else t

-- so has memory where the callee lists an area
abbrev pub memory_after : List ℕ → ℕ → Tree → Tree
memory_after [] j t = t
memory_after (area ∷ areas) j t = Variable (var.MemAfter j)

-- the state after the j-th taken call of a walk, of this routine: what the routine lists in `changes` is fresh, all else stays
abbrev pub after_call : Routine → ℕ → Symbolic → Symbolic
after_call callee j g = record {
  a = after_at callee.changes.locs j loc.A g.a;
  b = after_at callee.changes.locs j loc.B g.b;
  c = after_at callee.changes.locs j loc.C g.c;
  d = after_at callee.changes.locs j loc.D g.d;
  e = after_at callee.changes.locs j loc.E g.e;
  h = after_at callee.changes.locs j loc.H g.h;
  l = after_at callee.changes.locs j loc.L g.l;
  s = after_at callee.changes.locs j loc.S g.s;
  z = after_at callee.changes.locs j loc.Z g.z;
  ac = after_at callee.changes.locs j loc.Ac g.ac;
  p = after_at callee.changes.locs j loc.P g.p;
  cy = after_at callee.changes.locs j loc.Cy g.cy;
  memory = memory_after callee.changes.areas j g.memory;
  slots = g.slots;
}
