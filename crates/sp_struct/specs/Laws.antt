-- What is true of depths.
use Rattle.std.specs.Prelude.{◌≡◌, ◌<◌, ℕ, ℤ, pos, ◌+ℤ◌, true, List, Some, slice_get}
use Rattle.sp_graph.specs.Control.{control_of}
use Rattle.sp_graph.specs.Cycles.{HasNoCycle}
use Rattle.sp_graph.specs.Depths.{HasDepth, effect}
use Rattle.sp_graph.specs.Least.{Successor}
use Rattle.sp_graph.specs.Routines.{graph_of}
use Rattle.sp_graph.specs.Structure.{IsStructured, IsAt, DepthAt, Calls, returns}
use Rattle.sp_graph.specs.declared.graph.Node.{Node}
use Rattle.sp_prog.specs.declared.routine.Routine.{Routine}
use Rattle.sp_prog.specs.declared.routine.Stmt.{Stmt}
use Rattle.sp_prog.specs.Program.{Program}
use Rattle.sp_prog.specs.Rules.{IsUnit}
use Rattle.sp_struct.specs.Refusals.{IsRefusedAt}
use Rattle.sp_struct.specs.declared.refusal.StructKind.{StructKind}

-- an instruction has one depth
pub record DepthsAreOne : Type 0 where
  pub one : (graph : List Node) (code : List Stmt) (at : ℕ) (d e : ℤ) → HasDepth graph code at d → HasDepth graph code at e → d ≡ e

-- where no rule is broken, successors have the depth that the instruction leaves, and returns are at depth 0
pub record DepthsFollow : Type 0 where
  pub onward :
      (p : Program) (r k to : ℕ) (routine : Routine) (s : Stmt) (d e : ℤ) → IsStructured p → IsAt p r k routine s →
      DepthAt p r routine k d → Successor (graph_of p r) k to → DepthAt p r routine to e → e ≡ d +ℤ effect s.instr
  pub home :
      (p : Program) (r k : ℕ) (routine : Routine) (s : Stmt) (d : ℤ) → IsStructured p → IsAt p r k routine s →
      returns (control_of s.instr) ≡ true → DepthAt p r routine k d → d ≡ pos 0

-- where no rule is broken, each cycle has an assertion
pub record LoopsAreCut : Type 0 where
  pub cut : (p : Program) (r : ℕ) (routine : Routine) → IsStructured p → slice_get p.routines r ≡ Some routine → HasNoCycle (graph_of p r)

-- where no rule is broken, routines have numbers that fall along calls
pub record CallsHaveARank : Type 0 where
  pub falls : (p : Program) → IsStructured p → (rank : ℕ → ℕ) × ((r c : ℕ) → Calls p r c → rank c < rank r)

-- a unit is refused on one line in one way, with one pair of depths
pub record RefusalsAreOne : Type 0 where
  pub one :
      (p : Program) (line there : ℕ) (k other : StructKind) → IsUnit p → IsRefusedAt p line k → IsRefusedAt p there other → (line ≡ there) × (k ≡ other)
