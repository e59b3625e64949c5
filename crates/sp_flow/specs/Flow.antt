-- The rules on the flow of locations, cells and ports (this project's own). Each says that an instruction on this line
-- breaks it.
use Rattle.std.specs.Prelude.{◌≡◌, ◌⊎◌, ◌<◌, ◌+◌, ◌%◌, ℕ, false, List, [], ◌∷◌, Some, Contains, IsTrue, slice_get}
use Rattle.sp_base.specs.declared.location.Loc.{Loc}
use Rattle.sp_base.specs.Locs.{has, place}
use Rattle.sp_flow.specs.declared.refusal.FlowKind.{FlowKind}
use Rattle.sp_flow.specs.declared.refusal.FlowKind.TheVariants as kind
use Rattle.sp_flow.specs.declared.refusal.Spot.{Spot}
use Rattle.sp_flow.specs.declared.refusal.Spot.TheVariants as spot
use Rattle.sp_flow.specs.Routes.{ways_of}
use Rattle.sp_flow.specs.Unset.{IsLeftUnset}
use Rattle.sp_graph.specs.Structure.{OnLine, IsCallOf}
use Rattle.sp_isa.specs.Locations.{reads}
use Rattle.sp_isa.specs.declared.instr.Instr.{Instr}
use Rattle.sp_isa.specs.declared.instr.Instr.TheVariants.{Lda, Lhld, Sta, Shld, In, Out}
use Rattle.sp_prog.specs.declared.area.Area.{Area}
use Rattle.sp_prog.specs.declared.routine.Lists.{Lists}
use Rattle.sp_prog.specs.declared.routine.Routine.{Routine}
use Rattle.sp_prog.specs.declared.routine.Stmt.{Stmt}
use Rattle.sp_prog.specs.Program.{Program}
use Rattle.sp_prog.specs.Rules.{IsInArea}

-- ---- Instructions

-- the two cells of a word
abbrev pub cells_of_word : ℕ → List ℕ
cells_of_word a = a ∷ (a + 1) % 65536 ∷ []

-- the cells that an instruction reads by their addresses
abbrev pub cells_read : Instr → List ℕ
cells_read (Lda a) = a ∷ []
cells_read (Lhld a) = cells_of_word a
cells_read _ = []

-- the cells that an instruction writes by their addresses
abbrev pub cells_written : Instr → List ℕ
cells_written (Sta a) = a ∷ []
cells_written (Shld a) = cells_of_word a
cells_written _ = []

-- the port of IN
abbrev pub ports_in : Instr → List ℕ
ports_in (In port) = port ∷ []
ports_in _ = []

-- the port of OUT
abbrev pub ports_out : Instr → List ℕ
ports_out (Out port) = port ∷ []
ports_out _ = []

-- ---- Lists

-- a cell of an area that is listed
abbrev pub IsListed : Program → Lists → ℕ → Type 0
IsListed p lists cell = (at : ℕ) × (area : Area) × Contains lists.areas at × (slice_get p.areas at ≡ Some area) × IsInArea area cell

-- a cell that a routine may read: one of its areas in `reads` or `changes`
abbrev pub MayRead : Program → Routine → ℕ → Type 0
MayRead p routine cell = IsListed p routine.reads cell ⊎ IsListed p routine.changes cell

-- the routine that an instruction calls
abbrev pub IsCallee : Program → Stmt → Routine → Type 0
IsCallee p s callee = (c : ℕ) × IsCallOf p s c × (slice_get p.routines c ≡ Some callee)

-- a location that a routine doesn't list in `reads`, where some walk from the entry leads there and nothing before sets it
abbrev pub IsMissing : Program → ℕ → Routine → ℕ → Loc → Type 0
IsMissing p r routine k x = (has x routine.reads.locs ≡ false) × IsLeftUnset (ways_of p r) (place x) k

-- ---- The kinds

-- a cell that an instruction or its callee changes
abbrev pub Changes : Program → Stmt → ℕ → Type 0
Changes p s cell = Contains (cells_written s.instr) cell ⊎ ((callee : Routine) × IsCallee p s callee × IsListed p callee.changes cell)

-- a port from which an instruction or its callee takes
abbrev pub TakesFrom : Program → Stmt → ℕ → Type 0
TakesFrom p s port = Contains (ports_in s.instr) port ⊎ ((callee : Routine) × IsCallee p s callee × Contains callee.ins port)

-- a port to which an instruction or its callee puts
abbrev pub PutsTo : Program → Stmt → ℕ → Type 0
PutsTo p s port = Contains (ports_out s.instr) port ⊎ ((callee : Routine) × IsCallee p s callee × Contains callee.outs port)

-- an instruction breaks a rule, at this location, cell or port
abbrev pub Breaks : Program → ℕ → Routine → ℕ → Stmt → FlowKind → Type 0
-- a location that is used and missing
Breaks p r routine k s (kind.Uses (spot.Loc x)) = IsTrue (has x (reads s.instr)) × IsMissing p r routine k x
-- a cell of LDA or LHLD in no area of `reads` or `changes`
Breaks p r routine k s (kind.Uses (spot.Cell cell)) = Contains (cells_read s.instr) cell × (MayRead p routine cell → ⊥)
-- a cell of STA or SHLD, or of a callee's `changes` areas, in no area of `changes`
Breaks p r routine k s (kind.Writes cell) = Changes p s cell × (IsListed p routine.changes cell → ⊥)
-- a port of input that isn't in `ins`, or of output that isn't in `outs`
Breaks p r routine k s (kind.Port port) =
    (TakesFrom p s port × (Contains routine.ins port → ⊥)) ⊎ (PutsTo p s port × (Contains routine.outs port → ⊥))
-- a location in a callee's `reads` that is missing
Breaks p r routine k s (kind.CallsReads (spot.Loc x)) =
    (callee : Routine) × IsCallee p s callee × IsTrue (has x callee.reads.locs) × IsMissing p r routine k x
-- a cell of a callee's `reads` areas in no area of `reads` or `changes`
Breaks p r routine k s (kind.CallsReads (spot.Cell cell)) =
    (callee : Routine) × IsCallee p s callee × IsListed p callee.reads cell × (MayRead p routine cell → ⊥)

-- a rule is broken by an instruction on this line, at this location, cell or port
abbrev pub IsBroken : Program → ℕ → FlowKind → Type 0
IsBroken p line rule = OnLine p line (λ r routine k s. Breaks p r routine k s rule)

-- ---- The answer

-- no rule is broken
abbrev pub IsFlowing : Program → Type 0
IsFlowing p = (line : ℕ) (k : FlowKind) → IsBroken p line k → ⊥

-- the order of kinds
abbrev pub rank : FlowKind → ℕ
rank (kind.Uses s) = 0
rank (kind.Writes cell) = 1
rank (kind.Port port) = 2
rank (kind.CallsReads s) = 3

-- the order on one line: the twelve locations, then the cells
abbrev pub number : Spot → ℕ
number (spot.Loc x) = place x
number (spot.Cell cell) = 12 + cell

abbrev pub detail : FlowKind → ℕ
detail (kind.Uses s) = number s
detail (kind.Writes cell) = cell
detail (kind.Port port) = port
detail (kind.CallsReads s) = number s

-- one broken rule counts before another: by kind, then by line, then by location, cell or port
abbrev pub CountsBefore : ℕ → FlowKind → ℕ → FlowKind → Type 0
CountsBefore line k there other =
    (rank k < rank other)
    ⊎ ((rank k ≡ rank other) × ((line < there) ⊎ ((line ≡ there) × (detail k < detail other))))

-- the first broken rule
pub record IsRefusedAt (p : Program) (line : ℕ) (k : FlowKind) : Type 0 where
  pub broken : IsBroken p line k
  pub first : (there : ℕ) (other : FlowKind) → IsBroken p there other → CountsBefore there other line k → ⊥

-- a unit has one answer at most
pub record HasOneAnswer (p : Program) : Type 0 where
  pub one : (line there : ℕ) (k other : FlowKind) → IsRefusedAt p line k → IsRefusedAt p there other → (line ≡ there) × (k ≡ other)
  pub apart : (line : ℕ) (k : FlowKind) → IsFlowing p → IsRefusedAt p line k → ⊥
