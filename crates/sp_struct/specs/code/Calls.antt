-- Which routines a routine calls, and to which ones calls lead.
use Rattle.std.specs.Prelude.{◌≡◌, ◌<◌, ◌↔◌, ℕ, zero, suc, ◌+◌, ◌/◌, Bool, true, false, ◌||◌, nat_eq, List, Option, None, Some, slice_get, length}
use Rattle.sp_isa.specs.declared.instr.Instr.{Instr}
use Rattle.sp_graph.specs.Control.{control_of}
use Rattle.sp_graph.specs.Structure.{IsAt, IsCallOf, CallsLead, call_target}
use Rattle.sp_graph.specs.Successors.{routine_at}
use Rattle.sp_prog.specs.declared.routine.Routine.{Routine}
use Rattle.sp_prog.specs.declared.routine.Stmt.{Stmt}
use Rattle.sp_prog.specs.Program.{Program}
use Rattle.sp_struct.specs.code.Ways.{leads, AreRows}

abbrev pub called_at : List Routine → Option ℕ → Option ℕ
called_at routines None = None
called_at routines (Some address) = routine_at routines address

-- the place of the routine that an instruction calls
abbrev pub callee_of : List Routine → Instr → Option ℕ
callee_of routines i = called_at routines (call_target (control_of i))

abbrev pub is_place : Option ℕ → ℕ → Bool
is_place None c = false
is_place (Some place) c = nat_eq c place

abbrev pub is_call_in : List Routine → Option Stmt → ℕ → Bool
is_call_in routines None c = false
is_call_in routines (Some s) c = is_place (callee_of routines s.instr) c

-- one of the first instructions calls a routine
unfoldable pub calls_first : List Routine → List Stmt → ℕ → ℕ → Bool
calls_first routines code zero c = false
calls_first routines code (suc count) c = calls_first routines code count c || is_call_in routines (slice_get code count) c

abbrev pub calls_by : List Routine → Option Routine → ℕ → Bool
calls_by routines None c = false
calls_by routines (Some routine) c = calls_first routines routine.code (length routine.code) c

-- whether a routine calls another one
abbrev pub calls : Program → ℕ → ℕ → Bool
calls p r c = calls_by p.routines (slice_get p.routines r) c

-- how many words a row has
abbrev pub words_for : List Routine → ℕ
words_for routines = length routines / 64 + 1

-- the rows of the first routines tell what they call
pub record TellCalls (p : Program) (count : ℕ) (rows : List (List ℕ)) : Type 0 where
  pub size : length rows ≡ count
  pub words : AreRows (words_for p.routines) rows
  pub told : (r c : ℕ) → r < count → leads rows r c ≡ calls p r c

-- the rows tell to which routines calls lead
pub record TellLeads (p : Program) (rows : List (List ℕ)) : Type 0 where
  pub size : length rows ≡ length p.routines
  pub told : (r c : ℕ) → r < length p.routines → (leads rows r c ≡ true) ↔ CallsLead p r c

abbrev pub leads_back : List (List ℕ) → Option ℕ → ℕ → Bool
leads_back rows None r = false
leads_back rows (Some c) r = leads rows c r

-- an instruction of a routine, on this line, calls a routine from which calls lead back
abbrev pub RecursHere : Program → ℕ → ℕ → ℕ → Type 0
RecursHere p r k line =
    (routine : Routine) × (s : Stmt) × IsAt p r k routine s × (s.line.0 ≡ line) × ((c : ℕ) × IsCallOf p s c × CallsLead p c r)
