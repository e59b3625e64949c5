-- What an instruction and its callee break, by the kinds of rules.
use Rattle.std.specs.Prelude.{◌≡◌, ◌<◌, ◌⊎◌, ℕ, List, Option, None, Some, Contains, slice_get, slice_index}
use Rattle.sp_flow.specs.Flow.{Breaks, cells_read, cells_written, ports_in, ports_out}
use Rattle.sp_flow.specs.code.Least.{HasCell, HasEither, Lacks}
use Rattle.sp_flow.specs.declared.refusal.FlowKind.{FlowKind}
use Rattle.sp_flow.specs.declared.refusal.FlowKind.TheVariants as kind
use Rattle.sp_flow.specs.declared.refusal.Spot.TheVariants as spot
use Rattle.sp_base.specs.declared.locs.Locs.{Locs}
use Rattle.sp_flow.specs.declared.fault.Fault.{Fault}
use Rattle.sp_graph.specs.Control.{control_of}
use Rattle.sp_graph.specs.Routines.{callee_at}
use Rattle.sp_graph.specs.Structure.{IsAt}
use Rattle.sp_prog.specs.Program.{Program}
use Rattle.sp_graph.specs.Successors.{routine_at}
use Rattle.sp_graph.specs.declared.control.Control.{Control}
use Rattle.sp_graph.specs.declared.control.Control.TheVariants.{Call, CallIf}
use Rattle.sp_isa.specs.Locations.{reads}
use Rattle.sp_isa.specs.declared.instr.Instr.{Instr}
use Rattle.sp_prog.specs.declared.area.Area.{Area}
use Rattle.sp_prog.specs.declared.routine.Routine.{Routine}
use Rattle.sp_prog.specs.declared.routine.Stmt.{Stmt}

-- a kind of what was found, where something was
abbrev pub told : {A : Type 0} → (A → FlowKind) → Option A → Option FlowKind
told make None = None
told make (Some a) = Some (make a)

-- a kind made of something that is so
abbrev pub Made : {A : Type 0} → (A → FlowKind) → (A → Type 0) → FlowKind → Type 0
Made {A} make Q k = (a : A) × (k ≡ make a) × Q a

-- what a routine lists
pub record Own : Type 0 where
  pub locs : Locs
  pub reads : List ℕ
  pub changes : List ℕ
  pub ins : List ℕ
  pub outs : List ℕ

abbrev pub own_of : Routine → Own
own_of r = record { locs = r.reads.locs; reads = r.reads.areas; changes = r.changes.areas; ins = r.ins; outs = r.outs }

abbrev pub own_lists : Locs → List ℕ → List ℕ → List ℕ → List ℕ → Own
own_lists locs reads changes ins outs = record { locs = locs; reads = reads; changes = changes; ins = ins; outs = outs }

-- what an instruction itself breaks
abbrev pub Direct : List Area → Own → Instr → ℕ → FlowKind → Type 0
Direct areas r i unset (kind.Uses (spot.Loc x)) = Lacks (reads i) r.locs unset x
Direct areas r i unset (kind.Uses (spot.Cell n)) = Contains (cells_read i) n × (HasEither areas r.reads r.changes n → ⊥)
Direct areas r i unset (kind.Writes n) = Contains (cells_written i) n × (HasEither areas r.changes r.changes n → ⊥)
Direct areas r i unset (kind.Port n) =
    (Contains (ports_in i) n × (Contains r.ins n → ⊥)) ⊎ (Contains (ports_out i) n × (Contains r.outs n → ⊥))
Direct areas r i unset (kind.CallsReads at) = ⊥

-- what the call of a routine breaks
abbrev pub Called : List Area → Own → Own → ℕ → FlowKind → Type 0
Called areas r callee unset (kind.Uses at) = ⊥
Called areas r callee unset (kind.Writes n) = HasCell areas callee.changes n × (HasEither areas r.changes r.changes n → ⊥)
Called areas r callee unset (kind.Port n) = (Contains callee.ins n × (Contains r.ins n → ⊥)) ⊎ (Contains callee.outs n × (Contains r.outs n → ⊥))
Called areas r callee unset (kind.CallsReads (spot.Loc x)) = Lacks callee.locs r.locs unset x
Called areas r callee unset (kind.CallsReads (spot.Cell n)) = HasCell areas callee.reads n × (HasEither areas r.reads r.changes n → ⊥)

-- what the call of a routine that may be breaks
abbrev pub CalledAt : List Area → Own → Option Routine → ℕ → FlowKind → Type 0
CalledAt areas r None unset k = ⊥
CalledAt areas r (Some callee) unset k = Called areas r (own_of callee) unset k

-- the place of the routine that an instruction calls
abbrev pub callee_by : List Routine → Control → Option ℕ
callee_by routines (Call address) = routine_at routines address
callee_by routines (CallIf address) = routine_at routines address
callee_by routines _ = None

-- what an instruction and its call break
abbrev pub Faulty : List Area → List Routine → Own → Stmt → ℕ → FlowKind → Type 0
Faulty areas routines r s unset k =
    Direct areas r s.instr unset k ⊎ CalledAt areas r (callee_at routines (callee_by routines (control_of s.instr))) unset k

-- what one of the first instructions breaks
abbrev pub FaultyUpTo : List Area → List Routine → Own → List Stmt → List ℕ → ℕ → Fault → Type 0
FaultyUpTo areas routines r code sets at f =
    (j : ℕ) × (s : Stmt) × (j < at) × (slice_get code j ≡ Some s) × (f.line ≡ s.line) × Faulty areas routines r s (slice_index sets j) f.kind

-- what an instruction of a routine breaks
abbrev pub FaultyIn : List Area → List Routine → Own → List Stmt → List ℕ → Fault → Type 0
FaultyIn areas routines r code sets f =
    (j : ℕ) × (s : Stmt) × (slice_get code j ≡ Some s) × (f.line ≡ s.line) × Faulty areas routines r s (slice_index sets j) f.kind

-- what an instruction of a routine of a unit breaks
abbrev pub BrokenIn : Program → ℕ → Fault → Type 0
BrokenIn p r f =
    (k : ℕ) × (routine : Routine) × (s : Stmt) × IsAt p r k routine s × (s.line.0 ≡ f.line.0) × Breaks p r routine k s f.kind

-- what one of the first routines breaks
abbrev pub BrokenUpTo : Program → ℕ → Fault → Type 0
BrokenUpTo p at f = (r : ℕ) × (r < at) × BrokenIn p r f
