-- The ways on from the instructions of a routine, with what is set on each (this project's own; what an instruction uses
-- and sets by the 8080 manual, the descriptions of the instructions).
use Rattle.std.specs.Prelude.{ℕ, ◌+◌, Bool, true, false, List, [], ◌∷◌, Option, None, Some, slice_get}
use Rattle.sp_base.specs.declared.locs.Locs.{Locs}
use Rattle.sp_base.specs.Locs.{none, both}
use Rattle.sp_flow.specs.declared.ways.Way.{Way}
use Rattle.sp_flow.specs.declared.ways.Ways.{Ways}
use Rattle.sp_graph.specs.Control.{control_of}
use Rattle.sp_graph.specs.Routines.{callee_at, node_of}
use Rattle.sp_graph.specs.Successors.{routine_at}
use Rattle.sp_graph.specs.declared.control.Control.{Control}
use Rattle.sp_graph.specs.declared.control.Control.TheVariants.{Call, CallIf}
use Rattle.sp_graph.specs.declared.graph.Branch.{Branch}
use Rattle.sp_graph.specs.declared.graph.Node.{Node}
use Rattle.sp_isa.specs.Locations.{writes}
use Rattle.sp_prog.specs.declared.routine.Routine.{Routine}
use Rattle.sp_prog.specs.declared.routine.Stmt.{Stmt}
use Rattle.sp_prog.specs.Program.{Program}

-- the locations that a routine changes
abbrev pub changes_of : Option Routine → Locs
changes_of None = none
changes_of (Some callee) = callee.changes.locs

-- those of the routine at an address
abbrev pub changes_at : List Routine → ℕ → Locs
changes_at routines address = changes_of (callee_at routines (routine_at routines address))

-- what a taken call sets: CALL and RST are always taken, Ccc where its condition holds
abbrev pub changes_by : List Routine → Control → Bool → Locs
changes_by routines (Call address) taken = changes_at routines address
changes_by routines (CallIf address) true = changes_at routines address
changes_by routines _ taken = none

-- what an instruction sets by a choice
abbrev pub sets_by : List Routine → Stmt → Bool → Locs
sets_by routines s taken = both (writes s.instr) (changes_by routines (control_of s.instr) taken)

-- a branch with what is set on it
abbrev pub way_on : Locs → Option Branch → Option Way
way_on sets None = None
way_on sets (Some branch) = Some (record { sets = sets.0; to = branch.to })

-- the branches of an instruction with what is set on each
abbrev pub ways_by : List Routine → Stmt → Node → Ways
ways_by routines s node = record {
  untaken = way_on (sets_by routines s false) node.untaken;
  taken = way_on (sets_by routines s true) node.taken;
}

-- the ways on from an instruction
abbrev pub ways_at : List Routine → List Stmt → ℕ → Stmt → Ways
ways_at routines code at s = ways_by routines s (node_of routines code at s)

-- those from the instructions from a place on
unfoldable pub ways_from : List Routine → List Stmt → ℕ → List Stmt → List Ways
ways_from routines code at [] = []
ways_from routines code at (s ∷ stmts) = ways_at routines code at s ∷ ways_from routines code (at + 1) stmts

-- the ways on from instructions among the routines of a unit
abbrev pub ways_of_code : List Routine → List Stmt → List Ways
ways_of_code routines code = ways_from routines code 0 code

abbrev pub ways_of_routine : List Routine → Option Routine → List Ways
ways_of_routine routines None = []
ways_of_routine routines (Some r) = ways_of_code routines r.code

-- the ways on from the instructions of a routine of a unit
abbrev pub ways_of : Program → ℕ → List Ways
ways_of p place = ways_of_routine p.routines (slice_get p.routines place)
