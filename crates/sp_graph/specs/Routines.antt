-- The graph of a routine (this project's own).
use Rattle.std.specs.Prelude.{ℕ, ◌+◌, Bool, true, false, List, [], ◌∷◌, Option, None, Some, slice_get, if◌then◌else◌}
use Rattle.sp_graph.specs.Control.{control_of, accesses}
use Rattle.sp_graph.specs.Successors.{place_of, routine_at, next_of}
use Rattle.sp_graph.specs.declared.control.Control.{Control}
use Rattle.sp_graph.specs.declared.control.Control.TheVariants.{Next, Jump, JumpIf, Call, CallIf, Return, ReturnIf, Halt}
use Rattle.sp_graph.specs.declared.graph.Branch.{Branch}
use Rattle.sp_graph.specs.declared.graph.End.{End}
use Rattle.sp_graph.specs.declared.graph.End.TheVariants as end
use Rattle.sp_graph.specs.declared.graph.Node.{Node}
use Rattle.sp_prog.specs.declared.routine.Noted.{Noted}
use Rattle.sp_prog.specs.declared.routine.Routine.{Routine}
use Rattle.sp_prog.specs.declared.routine.Stmt.{Stmt}
use Rattle.sp_prog.specs.Program.{Program}

-- a way on, without an end
abbrev pub onward : Option ℕ → Option Branch
onward to = Some (record { end = None; to = to })

abbrev pub has_notes : List Noted → Bool
has_notes [] = false
has_notes (note ∷ notes) = true

-- a taken call ends a walk where its callee has a precondition
abbrev pub end_of_callee : Option Routine → Option End
end_of_callee None = None
end_of_callee (Some callee) = if has_notes callee.pre then Some end.Call else None

abbrev pub callee_at : List Routine → Option ℕ → Option Routine
callee_at routines None = None
callee_at routines (Some place) = slice_get routines place

abbrev pub end_of_call : List Routine → ℕ → Option End
end_of_call routines address = end_of_callee (callee_at routines (routine_at routines address))

-- the way on where nothing is taken
abbrev pub untaken_by : List Routine → List Stmt → ℕ → Control → Option Branch
untaken_by routines code at Next = onward (next_of code at)
untaken_by routines code at (Jump address) = onward (place_of code address)
untaken_by routines code at (JumpIf address) = onward (next_of code at)
untaken_by routines code at (Call address) = Some (record { end = end_of_call routines address; to = next_of code at })
untaken_by routines code at (CallIf address) = onward (next_of code at)
untaken_by routines code at Return = Some (record { end = Some end.Return; to = None })
untaken_by routines code at ReturnIf = onward (next_of code at)
untaken_by routines code at Halt = None

-- the way on where a condition holds: at Jcc, Ccc and Rcc alone
abbrev pub taken_by : List Routine → List Stmt → ℕ → Control → Option Branch
taken_by routines code at (JumpIf address) = onward (place_of code address)
taken_by routines code at (CallIf address) = Some (record { end = end_of_call routines address; to = next_of code at })
taken_by routines code at ReturnIf = Some (record { end = Some end.Return; to = None })
taken_by routines code at _ = None

-- what walks see of an instruction
abbrev pub node_of : List Routine → List Stmt → ℕ → Stmt → Node
node_of routines code at s = record {
  asserted = has_notes s.asserts;
  access = accesses s.instr;
  untaken = untaken_by routines code at (control_of s.instr);
  taken = taken_by routines code at (control_of s.instr);
}

-- the nodes of instructions from a place on
unfoldable pub nodes_from : List Routine → List Stmt → ℕ → List Stmt → List Node
nodes_from routines code at [] = []
nodes_from routines code at (s ∷ stmts) = node_of routines code at s ∷ nodes_from routines code (at + 1) stmts

-- the graph of instructions among the routines of a unit
abbrev pub graph_of_code : List Routine → List Stmt → List Node
graph_of_code routines code = nodes_from routines code 0 code

-- the graph of a routine of a unit, empty where there is no such routine
abbrev pub graph_of_routine : List Routine → Option Routine → List Node
graph_of_routine routines None = []
graph_of_routine routines (Some r) = graph_of_code routines r.code

abbrev pub graph_of : Program → ℕ → List Node
graph_of p place = graph_of_routine p.routines (slice_get p.routines place)
