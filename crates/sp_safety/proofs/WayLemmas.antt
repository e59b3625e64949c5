-- Where the instructions of a routine go on.
use Rattle.std.proofs.Common.{◌≡◌, ◌⊎◌, inl, inr, ℕ, zero, suc, ◌+◌, ◌%◌, ◌<◌, Bool, true, false, cond, List, [], ◌∷◌, length, get_or, Option, Some, None, slice_get, refl, sym, ap, subst, ◌∙◌, arith}
use Rattle.std.specs.Prelude.{nat_eq, nat_lt}
use Rattle.std.proofs.lemmas.Bool.Decides.{nat_tests}
use Rattle.std.proofs.lemmas.List.Quantifiers.{position-Some}
use Rattle.std.proofs.lemmas.Option.{slice_get-get_or, slice_get_within}
use Rattle.sp_isa.specs.Core.{Core, word}
use Rattle.sp_isa.specs.Outcome.{pc_after, next_address}
use Rattle.sp_isa.specs.Stack.{holds}
use Rattle.sp_isa.specs.declared.instr.Cond.{Cond}
use Rattle.sp_isa.specs.declared.instr.Instr.{Instr}
use Rattle.sp_isa.specs.declared.instr.Instr.TheVariants.{Jmp, Jcc, Call, Ccc, Ret, Rcc, Rst, Pchl, Hlt}
use Rattle.sp_prog.specs.Program.{Program}
use Rattle.sp_prog.specs.Rules.{AreLaidOut, address_of, size_of}
use Rattle.sp_prog.specs.declared.routine.Routine.{Routine}
use Rattle.sp_prog.specs.declared.routine.Stmt.{Stmt}
use Rattle.sp_graph.specs.Control.{control_of}
use Rattle.sp_graph.specs.Graph.{LeadsTo, branch_of, branch_in, way}
use Rattle.sp_graph.specs.Routines.{node_of, untaken_by, taken_by}
use Rattle.sp_graph.specs.Structure.{jump_target, ends, is_computed}
use Rattle.sp_graph.specs.Successors.{place_of, next_of}
use Rattle.sp_graph.proofs.NodeLemmas.{node_at, node_in}
use Rattle.sp_facts.specs.Executions.{IsChoice}
use Rattle.sp_safety.specs.Calls.{On, Calls, Returns, way_of}
use Rattle.sp_safety.proofs.FetchLemmas.{low_at}
use Rattle.sp_safety.proofs.GivenLemmas.{Given, graph, rules, is_at}

-- the choice that the flags make
abbrev pub chosen : Instr → Core → Bool
chosen (Jcc when w) core = holds when core
chosen (Ccc when w) core = holds when core
chosen (Rcc when) core = holds when core
chosen _ core = false

pub is_choice : (i : Instr) (core : Core) → IsChoice i (chosen i core) core
is_choice (Jcc when w) core = refl
is_choice (Ccc when w) core = refl
is_choice (Rcc when) core = refl
is_choice i core = tt

-- ---- Ways

module _ (routines : List Routine) (stmts : List Stmt) (at : ℕ) where
  abbrev way_by : Instr → Bool → Option ℕ
  way_by i false = way (untaken_by routines stmts at (control_of i))
  way_by i true = way (taken_by routines stmts at (control_of i))

  -- an instruction jumps to an address
  record Jumps (i : Instr) (taken : Bool) (pc : ℕ) : Type 0 where
    w : ℕ
    target : jump_target (control_of i) ≡ Some w
    goes : way_by i taken ≡ place_of stmts w
    pc_is : pc ≡ w % 65536

  -- or it goes on at the next instruction
  record Falls (i : Instr) (taken : Bool) (pc next : ℕ) : Type 0 where
    open_end : ends (control_of i) ≡ false
    goes : way_by i taken ≡ next_of stmts at
    pc_is : pc ≡ next

  abbrev Goes : Instr → Bool → ℕ → ℕ → Type 0
  Goes i taken pc next = Jumps i taken pc ⊎ Falls i taken pc next

  jumps_if : (c : Cond) (w : ℕ) (next : ℕ) (b : Bool) → Goes (Jcc c w) b (cond b (w % 65536) next) next
  jumps_if c w next true = inl (record { w = w; target = refl; goes = refl; pc_is = refl })
  jumps_if c w next false = inr (record { open_end = refl; goes = refl; pc_is = refl })

  calls_not : (b : Bool) → cond b Calls On ≡ On → b ≡ false
  calls_not true h = cc
  calls_not false h = refl

  returns_not : (b : Bool) → cond b Returns On ≡ On → b ≡ false
  returns_not true h = cc
  returns_not false h = refl

  not_taken : (i : Instr) (core : Core) (w : ℕ) (b : Bool) → b ≡ false → ends (control_of i) ≡ false → way_by i false ≡ next_of stmts at
      → Goes i b (cond b (w % 65536) (next_address i core)) (next_address i core)
  not_taken i core w true h unended goes = cc
  not_taken i core w false h unended goes = inr (record { open_end = unended; goes = goes; pc_is = refl })

  -- an instruction that goes on in its routine
  goes_on : (i : Instr) (core : Core) → is_computed i ≡ false → way_of i core ≡ On → Goes i (chosen i core) (pc_after i core) (next_address i core)
  goes_on (Jmp w) core direct h = inl (record { w = w; target = refl; goes = refl; pc_is = refl })
  goes_on (Jcc c w) core direct h = jumps_if c w (next_address (Jcc c w) core) (holds c core)
  goes_on (Call w) core direct h = cc
  goes_on (Ccc c w) core direct h = not_taken (Ccc c w) core w (holds c core) (calls_not (holds c core) h) refl refl
  goes_on Ret core direct h = cc
  goes_on (Rcc c) core direct h = not_taken (Rcc c) core (word core.sp core) (holds c core) (returns_not (holds c core) h) refl refl
  goes_on (Rst n) core direct h = cc
  goes_on Hlt core direct h = cc
  goes_on Pchl core direct h = cc
  goes_on i core direct h = inr (record { open_end = refl; goes = refl; pc_is = refl })

  call_taken : (b : Bool) → cond b Calls On ≡ Calls → b ≡ true
  call_taken true h = refl
  call_taken false h = cc

  return_no_call : (b : Bool) → cond b Returns On ≡ Calls → ⊥
  return_no_call true h = cc
  return_no_call false h = cc

  taken_call : (c : Cond) (w next : ℕ) (b : Bool) → b ≡ true → Falls (Ccc c w) b next next
  taken_call c w next true h = record { open_end = refl; goes = refl; pc_is = refl }
  taken_call c w next false h = cc

  -- one that calls has the next instruction after its call
  comes_after : (i : Instr) (core : Core) → way_of i core ≡ Calls → Falls i (chosen i core) (next_address i core) (next_address i core)
  comes_after (Call w) core h = record { open_end = refl; goes = refl; pc_is = refl }
  comes_after (Ccc c w) core h = taken_call c w (next_address (Ccc c w) core) (holds c core) (call_taken (holds c core) h)
  comes_after (Rst n) core h = record { open_end = refl; goes = refl; pc_is = refl }
  comes_after (Rcc c) core h = absurd (return_no_call (holds c core) h)
  comes_after i core h = cc

-- ---- Places

laid_next : (a : ℕ) (stmts : List Stmt) → AreLaidOut a stmts → (at : ℕ) (s next : Stmt) → slice_get stmts at ≡ Some s → slice_get stmts (at + 1) ≡ Some next → next.addr ≡ s.addr + size_of s
laid_next a [] laid at s next here there = absurd cc
laid_next a (x ∷ []) laid zero s next here there = absurd cc
laid_next a (x ∷ y ∷ stmts) laid zero s next here there =
    let first : x ≡ s = cc in
    let second : y ≡ next = cc in
    ap (λ (z : Stmt). z.addr) (sym second) ∙ laid.1.0 ∙ ap (λ n. n + size_of x) (sym laid.0) ∙ ap (λ (z : Stmt). z.addr + size_of z) first
laid_next a (x ∷ stmts) laid (suc at) s next here there =
    let one : suc at + 1 ≡ suc (at + 1) = omega arith in
    laid_next (a + size_of x) stmts laid.1 at s next here (subst (λ n. slice_get (x ∷ stmts) n ≡ Some next) one there)

module _ (p : Program) (r : ℕ) (routine : Routine) (depths : List ℕ) (given : Given p r routine depths) (at : ℕ) (s : Stmt) (here : slice_get routine.code at ≡ Some s) where
  -- an instruction of the routine, to which a choice leads, and its address
  pub record Onward (taken : Bool) (pc : ℕ) : Type 0 where
    pub to : ℕ
    pub leads : LeadsTo (graph p routine) at taken to
    pub next : Stmt
    pub there : slice_get routine.code to ≡ Some next
    pub address : next.addr ≡ pc

  way_is : (taken : Bool) → way (branch_in (slice_get (graph p routine) at) taken) ≡ way_by p.routines routine.code at s.instr taken
  way_is taken = ap (λ o. way (branch_in o taken)) (node_at p.routines routine.code at ∙ ap (node_in p.routines routine.code at) here) ∙ by taken
    where
      by : (b : Bool) → way (branch_of (node_of p.routines routine.code at s) b) ≡ way_by p.routines routine.code at s.instr b
      by true = refl
      by false = refl

  jump_by : (taken : Bool) (pc w : ℕ) → pc ≡ w % 65536 → jump_target (control_of s.instr) ≡ Some w → way_by p.routines routine.code at s.instr taken ≡ place_of routine.code w
      → (o : Option ℕ) → place_of routine.code w ≡ o → Onward taken pc
  jump_by taken pc w pc_is target goes None is = absurd (given.structured.jumps s.line.0 (r, at, routine, s, is_at p r routine depths given at s here, refl, (w, target, is)))
  jump_by taken pc w pc_is target goes (Some to) is =
      let place = position-Some (λ (x : Stmt). nat_eq x.addr w) routine.code to s is in
      let there = slice_get-get_or routine.code to s place.0 in
      let same : (get_or routine.code to s).addr ≡ w = grind (arith, nat_tests) in
      let low = low_at p r routine depths given to (get_or routine.code to s) there in
      record { to = to; leads = way_is taken ∙ goes ∙ is; next = get_or routine.code to s; there = there; address = omega (arith, same, low, pc_is) }

  fall_by : (taken : Bool) (pc : ℕ) (core : Core) → s.addr ≡ core.pc → pc ≡ next_address s.instr core → ends (control_of s.instr) ≡ false → way_by p.routines routine.code at s.instr taken ≡ next_of routine.code at
      → (b : Bool) → nat_lt (at + 1) (length routine.code) ≡ b → Onward taken pc
  fall_by taken pc core counter pc_is unended goes false is =
      let within = slice_get_within routine.code at s here in
      let last : at + 1 ≡ length routine.code = grind (arith, nat_tests) in
      absurd (given.structured.falls s.line.0 (r, at, routine, s, is_at p r routine depths given at s here, refl, (last, unended)))
  fall_by taken pc core counter pc_is unended goes true is =
      let within : at + 1 < length routine.code = grind (arith, nat_tests) in
      let there = slice_get-get_or routine.code (at + 1) s within in
      let next = laid_next (address_of routine) routine.code (rules p r routine depths given).laid_out at s (get_or routine.code (at + 1) s) here there in
      let low = low_at p r routine depths given (at + 1) (get_or routine.code (at + 1) s) there in
      record {
        to = at + 1;
        leads = way_is taken ∙ goes ∙ ap (λ b. cond b (Some (at + 1)) None) is;
        next = get_or routine.code (at + 1) s;
        there = there;
        address = let pc_on = pc_is in omega (arith, next, low, pc_on, counter);
      }

  -- where an instruction goes on
  pub onward : (core : Core) → s.addr ≡ core.pc → way_of s.instr core ≡ On → Onward (chosen s.instr core) (pc_after s.instr core)
  onward core counter h = by (goes_on p.routines routine.code at s.instr core (direct s.instr refl) h)
    where
      direct : (i : Instr) → s.instr ≡ i → is_computed i ≡ false
      direct Pchl e = absurd (given.structured.computed s.line.0 (r, at, routine, s, is_at p r routine depths given at s here, refl, ap is_computed e))
      direct i e = refl

      by : Goes p.routines routine.code at s.instr (chosen s.instr core) (pc_after s.instr core) (next_address s.instr core) → Onward (chosen s.instr core) (pc_after s.instr core)
      by (inl j) = jump_by (chosen s.instr core) (pc_after s.instr core) j.w j.pc_is j.target j.goes (place_of routine.code j.w) refl
      by (inr f) = fall_by (chosen s.instr core) (pc_after s.instr core) core counter f.pc_is f.open_end f.goes (nat_lt (at + 1) (length routine.code)) refl

  -- where it goes on after its call
  pub after_call : (core : Core) → s.addr ≡ core.pc → way_of s.instr core ≡ Calls → Onward (chosen s.instr core) (next_address s.instr core)
  after_call core counter h =
      let f = comes_after p.routines routine.code at s.instr core h in
      fall_by (chosen s.instr core) (next_address s.instr core) core counter f.pc_is f.open_end f.goes (nat_lt (at + 1) (length routine.code)) refl
