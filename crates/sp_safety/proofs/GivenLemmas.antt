-- What is given of a routine of a settled unit.
use Rattle.std.proofs.Common.{◌≡◌, ℕ, ◌<◌, List, length, Some, slice_get, ap, arith}
use Rattle.std.specs.Prelude.{Contains}
use Rattle.std.proofs.lemmas.List.Elements.{All-contains}
use Rattle.sp_isa.specs.Code.{code}
use Rattle.sp_model.specs.Unit as runs
use Rattle.sp_prog.specs.Program.{Program}
use Rattle.sp_prog.specs.Rules.{IsUnit, IsRoutine, IsStmt}
use Rattle.sp_prog.specs.View.{routine_of, stmt_of, unit_of}
use Rattle.sp_prog.specs.declared.routine.Routine.{Routine}
use Rattle.sp_prog.specs.declared.routine.Stmt.{Stmt}
use Rattle.sp_prog.proofs.MemberLemmas.{found, in_map}
use Rattle.sp_prog.proofs.UnitLemmas.{has_code}
use Rattle.sp_cond.specs.WalkConditions.{condition_in, setting_of}
use Rattle.sp_flow.specs.Flow.{IsFlowing}
use Rattle.sp_graph.specs.Routines.{graph_of, graph_of_code, graph_of_routine}
use Rattle.sp_graph.specs.SoundUnits.{AreDepthsOf}
use Rattle.sp_graph.specs.Structure.{IsStructured, IsAt}
use Rattle.sp_graph.specs.Walks.{IsCut, IsWalk}
use Rattle.sp_graph.specs.declared.graph.Node.{Node}
use Rattle.sp_graph.specs.declared.walk.Walk.{Walk}
use Rattle.sp_term.specs.Admissible.{IsValid}
use Rattle.sp_safety.specs.Settled.{region_of}

abbrev pub graph : Program → Routine → List Node
graph p routine = graph_of_code p.routines routine.code

-- the routine at a place of a unit, and the depths of its instructions
pub record Given (p : Program) (r : ℕ) (routine : Routine) (depths : List ℕ) : Type 0 where
  pub unit : IsUnit p
  pub among : slice_get p.routines r ≡ Some routine
  pub structured : IsStructured p
  pub flow : IsFlowing p
  pub depths_are : AreDepthsOf p r routine depths
  pub valid : (w : Walk) → IsCut (graph p routine) w.from → IsWalk (graph p routine) w.from w → IsValid p.image (region_of p) (condition_in (setting_of p routine depths) w)

module _ (p : Program) (r : ℕ) (routine : Routine) (depths : List ℕ) (given : Given p r routine depths) where
  abbrev pub own : runs.Routine
  own = routine_of p.areas routine

  pub rules : IsRoutine p routine
  rules = All-contains (IsRoutine p) p.routines routine given.unit.routines (found p.routines r routine given.among)

  pub member : Contains (unit_of p).routines own
  member = in_map (routine_of p.areas) p.routines routine (found p.routines r routine given.among)

  pub graph_is : graph_of p r ≡ graph p routine
  graph_is = ap (graph_of_routine p.routines) given.among

  module _ (at : ℕ) (s : Stmt) (here : slice_get routine.code at ≡ Some s) where
    pub is_at : IsAt p r at routine s
    is_at = record { among = given.among; within = here }

    pub stmt_in : Contains own.code (stmt_of s)
    stmt_in = in_map stmt_of routine.code s (found routine.code at s here)

    pub stmt_rules : IsStmt p.image s
    stmt_rules = All-contains (IsStmt p.image) routine.code s rules.code (found routine.code at s here)

    some_code : 0 < length (code s.instr)
    some_code = omega arith

    some_code_of : (i : runs.Stmt) → 0 < length (code i.instr)
    some_code_of i = omega arith

    -- it is the only instruction at its address
    pub only : (q : runs.Routine) (i : runs.Stmt) → Contains (unit_of p).routines q → Contains q.code i → i.address ≡ s.addr → (own ≡ q) × (stmt_of s ≡ i)
    only q i of_unit within same =
        (has_code p given.unit).one own q (stmt_of s) i (member, stmt_in) (of_unit, within) 0 0 some_code (some_code_of i)
        (let e = same in omega (arith, e))
