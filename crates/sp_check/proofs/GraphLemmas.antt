-- Units with one plain form have the same graphs, ways and depths.
use Rattle.std.proofs.Common.{◌≡◌, ℕ, ℤ, ◌+◌, Bool, true, false, List, [], ◌∷◌, map, Option, Some, None, refl, sym, ap, subst, ◌∙◌}
use Rattle.std.specs.Prelude.{slice_get, ◌+ℤ◌, nat_eq, nat_lt, if◌then◌else◌}
use Rattle.sp_base.specs.Locs.{both}
use Rattle.sp_flow.specs.Routes.{changes_at, changes_of, ways_at, ways_from, ways_of, ways_of_routine, sets_by, changes_by, way_on}
use Rattle.sp_graph.specs.Control.{control_of, accesses}
use Rattle.sp_graph.specs.Depths.{HasDepth, depth_along, effect, effect_in}
use Rattle.sp_graph.specs.Least.{IsLeastWalk}
use Rattle.sp_graph.specs.Routines.{has_notes, end_of_callee, callee_at, end_of_call, untaken_by, taken_by, node_of, nodes_from, graph_of, graph_of_routine, onward}
use Rattle.sp_graph.specs.Successors.{place_of, routine_at, next_of}
use Rattle.sp_graph.specs.declared.control.Control.{Control}
use Rattle.sp_graph.specs.declared.control.Control.TheVariants.{Next, Jump, JumpIf, Call, CallIf, Return, ReturnIf, Halt}
use Rattle.sp_graph.specs.declared.graph.End.TheVariants as end
use Rattle.sp_isa.specs.Locations.{writes}
use Rattle.sp_prog.specs.Rules.{address_of, first_address}
use Rattle.sp_prog.specs.declared.routine.Noted.{Noted}
use Rattle.sp_prog.specs.declared.routine.Routine.{Routine}
use Rattle.sp_prog.specs.declared.routine.Stmt.{Stmt}
use Rattle.sp_prog.specs.Program.{Program}
use Rattle.sp_check.specs.Plain.{PlainStmt, PlainRoutine, PlainUnit, plain_note, plain_stmt, plain_routine, plain}
use Rattle.sp_check.proofs.ListLemmas.{found, missing, same_length, positions_like, head_like, tail_like, none_like, none_left}

-- ---- Lists of instructions and of routines

pub notes_like : (a b : List Noted) → map plain_note a ≡ map plain_note b → has_notes a ≡ has_notes b
notes_like [] [] e = refl
notes_like [] (n ∷ b) e = none_like plain_note n b e
notes_like (n ∷ a) [] e = none_left plain_note n a e
notes_like (n ∷ a) (m ∷ b) e = refl

first_like : (a b : List Stmt) → map plain_stmt a ≡ map plain_stmt b → first_address a ≡ first_address b
first_like [] [] e = refl
first_like [] (s ∷ b) e = none_like plain_stmt s b e
first_like (s ∷ a) [] e = none_left plain_stmt s a e
first_like (s ∷ a) (t ∷ b) e = ap (λ (p : PlainStmt). p.addr) (head_like plain_stmt s t a b e)

pub address_like : (a b : Routine) → plain_routine a ≡ plain_routine b → address_of a ≡ address_of b
address_like a b e = first_like a.code b.code (ap (λ (p : PlainRoutine). p.code) e)

pub place_like : (a b : List Stmt) → map plain_stmt a ≡ map plain_stmt b → (address : ℕ) → place_of a address ≡ place_of b address
place_like a b e address =
    positions_like plain_stmt (λ (s : Stmt). nat_eq s.addr address) (λ s t same. ap (λ (p : PlainStmt). nat_eq p.addr address) same) a b e

next_like : (a b : List Stmt) → map plain_stmt a ≡ map plain_stmt b → (at : ℕ) → next_of a at ≡ next_of b at
next_like a b e at = ap (λ n. if nat_lt (at + 1) n then Some (at + 1) else None) (same_length plain_stmt a b e)

module _ (rs qs : List Routine) (e : map plain_routine rs ≡ map plain_routine qs) where
  pub routine_like : (address : ℕ) → routine_at rs address ≡ routine_at qs address
  routine_like address =
      positions_like plain_routine (λ r. nat_eq (address_of r) address) (λ a b same. ap (λ n. nat_eq n address) (address_like a b same)) rs qs e

  -- what is called is alike
  callee_by : {C : Type 0} (g : Option Routine → C) → ((a b : Routine) → plain_routine a ≡ plain_routine b → g (Some a) ≡ g (Some b))
      → (place : ℕ) (a b : Option Routine) → slice_get rs place ≡ a → slice_get qs place ≡ b → g a ≡ g b
  callee_by g same place None None at there = refl
  callee_by g same place None (Some b) at there =
      absurd (let h : Some b ≡ None = sym there ∙ missing plain_routine rs qs e place at in cc)
  callee_by g same place (Some a) None at there =
      absurd (let y = found plain_routine rs qs e place a at in let h : Some y.0 ≡ None = sym y.1 ∙ there in cc)
  callee_by g same place (Some a) (Some b) at there =
      let y = found plain_routine rs qs e place a at in
      let is : y.0 ≡ b = (let h : Some y.0 ≡ Some b = sym y.1 ∙ there in cc) in
      same a b (sym y.2 ∙ ap plain_routine is)

  pub callee_like : {C : Type 0} (g : Option Routine → C) → ((a b : Routine) → plain_routine a ≡ plain_routine b → g (Some a) ≡ g (Some b))
      → (place : Option ℕ) → g (callee_at rs place) ≡ g (callee_at qs place)
  callee_like g same None = refl
  callee_like g same (Some place) = callee_by g same place (slice_get rs place) (slice_get qs place) refl refl

  end_like : (address : ℕ) → end_of_call rs address ≡ end_of_call qs address
  end_like address =
      ap (λ place. end_of_callee (callee_at rs place)) (routine_like address)
      ∙ callee_like end_of_callee
      (λ a b same. ap (λ t. if t then Some end.Call else None) (notes_like a.pre b.pre (ap (λ (p : PlainRoutine). p.pre) same)))
      (routine_at qs address)

  changes_like : (address : ℕ) → changes_at rs address ≡ changes_at qs address
  changes_like address =
      ap (λ place. changes_of (callee_at rs place)) (routine_like address)
      ∙ callee_like changes_of (λ a b same. ap (λ (p : PlainRoutine). p.changes.locs) same) (routine_at qs address)

  module _ (a b : List Stmt) (same : map plain_stmt a ≡ map plain_stmt b) where
    untaken_like : (at : ℕ) (c : Control) → untaken_by rs a at c ≡ untaken_by qs b at c
    untaken_like at Next = ap onward (next_like a b same at)
    untaken_like at (Jump address) = ap onward (place_like a b same address)
    untaken_like at (JumpIf address) = ap onward (next_like a b same at)
    untaken_like at (Call address) = λ i. Some (record { end = end_like address i; to = next_like a b same at i })
    untaken_like at (CallIf address) = ap onward (next_like a b same at)
    untaken_like at Return = refl
    untaken_like at ReturnIf = ap onward (next_like a b same at)
    untaken_like at Halt = refl

    taken_like : (at : ℕ) (c : Control) → taken_by rs a at c ≡ taken_by qs b at c
    taken_like at Next = refl
    taken_like at (Jump address) = refl
    taken_like at (JumpIf address) = ap onward (place_like a b same address)
    taken_like at (Call address) = refl
    taken_like at (CallIf address) = λ i. Some (record { end = end_like address i; to = next_like a b same at i })
    taken_like at Return = refl
    taken_like at ReturnIf = refl
    taken_like at Halt = refl

    node_like : (at : ℕ) (s t : Stmt) → plain_stmt s ≡ plain_stmt t → node_of rs a at s ≡ node_of qs b at t
    node_like at s t alike =
        let instr = ap (λ (p : PlainStmt). p.instr) alike in
        let asserted = notes_like s.asserts t.asserts (ap (λ (p : PlainStmt). p.asserts) alike) in
        let untaken = untaken_like at (control_of s.instr) ∙ ap (λ i. untaken_by qs b at (control_of i)) instr in
        let taken = taken_like at (control_of s.instr) ∙ ap (λ i. taken_by qs b at (control_of i)) instr in
        λ i. record { asserted = asserted i; access = accesses (instr i); untaken = untaken i; taken = taken i }

    nodes_like : (at : ℕ) (c d : List Stmt) → map plain_stmt c ≡ map plain_stmt d → nodes_from rs a at c ≡ nodes_from qs b at d
    unfolding nodes_from
    nodes_like at [] [] h = refl
    nodes_like at [] (t ∷ d) h = none_like plain_stmt t d h
    nodes_like at (s ∷ c) [] h = none_left plain_stmt s c h
    nodes_like at (s ∷ c) (t ∷ d) h =
        let first = node_like at s t (head_like plain_stmt s t c d h) in
        let rest = nodes_like (at + 1) c d (tail_like plain_stmt s t c d h) in
        λ i. first i ∷ rest i

    changed_like : (c : Control) (taken : Bool) → changes_by rs c taken ≡ changes_by qs c taken
    changed_like Next taken = refl
    changed_like (Jump address) taken = refl
    changed_like (JumpIf address) taken = refl
    changed_like (Call address) taken = changes_like address
    changed_like (CallIf address) true = changes_like address
    changed_like (CallIf address) false = refl
    changed_like Return taken = refl
    changed_like ReturnIf taken = refl
    changed_like Halt taken = refl

    sets_like : (s t : Stmt) (taken : Bool) → plain_stmt s ≡ plain_stmt t → sets_by rs s taken ≡ sets_by qs t taken
    sets_like s t taken alike =
        let instr = ap (λ (p : PlainStmt). p.instr) alike in
        let changed = changed_like (control_of s.instr) taken ∙ ap (λ i. changes_by qs (control_of i) taken) instr in
        λ i. both (writes (instr i)) (changed i)

    way_like : (at : ℕ) (s t : Stmt) → plain_stmt s ≡ plain_stmt t → ways_at rs a at s ≡ ways_at qs b at t
    way_like at s t alike =
        let node = node_like at s t alike in
        let untaken = sets_like s t false alike in
        let taken = sets_like s t true alike in
        λ i. record { untaken = way_on (untaken i) (node i).untaken; taken = way_on (taken i) (node i).taken }

    ways_like : (at : ℕ) (c d : List Stmt) → map plain_stmt c ≡ map plain_stmt d → ways_from rs a at c ≡ ways_from qs b at d
    unfolding ways_from
    ways_like at [] [] h = refl
    ways_like at [] (t ∷ d) h = none_like plain_stmt t d h
    ways_like at (s ∷ c) [] h = none_left plain_stmt s c h
    ways_like at (s ∷ c) (t ∷ d) h =
        let first = way_like at s t (head_like plain_stmt s t c d h) in
        let rest = ways_like (at + 1) c d (tail_like plain_stmt s t c d h) in
        λ i. first i ∷ rest i

-- ---- Units

pub routines_like : (p q : Program) → plain p ≡ plain q → map plain_routine p.routines ≡ map plain_routine q.routines
routines_like p q e = ap (λ (u : PlainUnit). u.routines) e

-- one graph of each routine
pub graphs_like : (p q : Program) → plain p ≡ plain q → (r : ℕ) → graph_of p r ≡ graph_of q r
graphs_like p q e r = by (slice_get p.routines r) (slice_get q.routines r) refl refl
  where
    rs : map plain_routine p.routines ≡ map plain_routine q.routines
    rs = routines_like p q e

    by : (a b : Option Routine) → slice_get p.routines r ≡ a → slice_get q.routines r ≡ b → graph_of_routine p.routines a ≡ graph_of_routine q.routines b
    by None None at there = refl
    by None (Some b) at there = absurd (let h : Some b ≡ None = sym there ∙ missing plain_routine p.routines q.routines rs r at in cc)
    by (Some a) None at there = absurd (let y = found plain_routine p.routines q.routines rs r a at in let h : Some y.0 ≡ None = sym y.1 ∙ there in cc)
    by (Some a) (Some b) at there =
        let y = found plain_routine p.routines q.routines rs r a at in
        let is : y.0 ≡ b = (let h : Some y.0 ≡ Some b = sym y.1 ∙ there in cc) in
        let code = ap (λ (x : PlainRoutine). x.code) (sym y.2 ∙ ap plain_routine is) in
        nodes_like p.routines q.routines rs a.code b.code code 0 a.code b.code code

-- and its ways on, with what is set on each
pub all_ways_like : (p q : Program) → plain p ≡ plain q → (r : ℕ) → ways_of p r ≡ ways_of q r
all_ways_like p q e r = by (slice_get p.routines r) (slice_get q.routines r) refl refl
  where
    rs : map plain_routine p.routines ≡ map plain_routine q.routines
    rs = routines_like p q e

    by : (a b : Option Routine) → slice_get p.routines r ≡ a → slice_get q.routines r ≡ b → ways_of_routine p.routines a ≡ ways_of_routine q.routines b
    by None None at there = refl
    by None (Some b) at there = absurd (let h : Some b ≡ None = sym there ∙ missing plain_routine p.routines q.routines rs r at in cc)
    by (Some a) None at there = absurd (let y = found plain_routine p.routines q.routines rs r a at in let h : Some y.0 ≡ None = sym y.1 ∙ there in cc)
    by (Some a) (Some b) at there =
        let y = found plain_routine p.routines q.routines rs r a at in
        let is : y.0 ≡ b = (let h : Some y.0 ≡ Some b = sym y.1 ∙ there in cc) in
        let code = ap (λ (x : PlainRoutine). x.code) (sym y.2 ∙ ap plain_routine is) in
        ways_like p.routines q.routines rs a.code b.code code 0 a.code b.code code

-- ---- Depths

effects_like : (a b : List Stmt) → map plain_stmt a ≡ map plain_stmt b → (at : ℕ) → effect_in (slice_get a at) ≡ effect_in (slice_get b at)
effects_like a b e at = by (slice_get a at) (slice_get b at) refl refl
  where
    by : (s t : Option Stmt) → slice_get a at ≡ s → slice_get b at ≡ t → effect_in s ≡ effect_in t
    by None None here there = refl
    by None (Some t) here there = absurd (let h : Some t ≡ None = sym there ∙ missing plain_stmt a b e at here in cc)
    by (Some s) None here there = absurd (let y = found plain_stmt a b e at s here in let h : Some y.0 ≡ None = sym y.1 ∙ there in cc)
    by (Some s) (Some t) here there =
        let y = found plain_stmt a b e at s here in
        let is : y.0 ≡ t = (let h : Some y.0 ≡ Some t = sym y.1 ∙ there in cc) in
        ap (λ (x : PlainStmt). effect x.instr) (sym y.2 ∙ ap plain_stmt is)

along_like : (a b : List Stmt) → map plain_stmt a ≡ map plain_stmt b → (places : List ℕ) → depth_along a places ≡ depth_along b places
along_like a b e [] = refl
along_like a b e (at ∷ places) =
    let first = effects_like a b e at in
    let rest = along_like a b e places in
    λ i. first i +ℤ rest i

pub depth_like : (p q : Program) → plain p ≡ plain q → (r k : ℕ) (a b : Routine) (d : ℤ) → plain_routine a ≡ plain_routine b
    → HasDepth (graph_of p r) a.code k d → HasDepth (graph_of q r) b.code k d
depth_like p q e r k a b d same (places, least, is) =
    (places, subst (λ g. IsLeastWalk g places k) (graphs_like p q e r) least, is ∙ along_like a.code b.code (ap (λ (x : PlainRoutine). x.code) same) places)
