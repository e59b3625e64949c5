-- Units with one plain form break the same rules on structure.
use Rattle.std.proofs.Common.{◌≡◌, ℕ, ℤ, ◌+◌, ◌<◌, map, Option, Some, None, sym, ap, subst, ◌∙◌, inl, inr}
use Rattle.std.specs.FinMap as maps
use Rattle.std.specs.Prelude.{pos, ◌+ℤ◌, ◌<ℤ◌, Contains}
use Rattle.sp_graph.specs.Control.{control_of}
use Rattle.sp_graph.specs.Cycles.{IsHighestOfCycle}
use Rattle.sp_graph.specs.Depths.{effect}
use Rattle.sp_graph.specs.Least.{WalkTo, Successor}
use Rattle.sp_graph.specs.Routines.{graph_of}
use Rattle.sp_graph.specs.Structure.{IsAt, OnLine, IsNoCallee, IsCallOf, Calls, CallsLead, one, more, MisusesPointer, ReturnsDeep, DiffersAt, Takes, PassesRegion, HasNoSlot, is_computed, moves_pointer, loaded_pointer, jump_target, call_target, returns, ends, takes_word, is_push, stored, note_words}
use Rattle.sp_graph.specs.Successors.{routine_at}
use Rattle.sp_prog.specs.declared.routine.Routine.{Routine}
use Rattle.sp_prog.specs.declared.routine.Stmt.{Stmt}
use Rattle.sp_prog.specs.Program.{Program}
use Rattle.sp_struct.specs.Refusals.{BreaksRule, IsRefusedAt}
use Rattle.sp_struct.specs.declared.refusal.StructKind.{StructKind}
use Rattle.sp_struct.specs.declared.refusal.StructKind.TheVariants as kind
use Rattle.sp_check.specs.Plain.{PlainNote, PlainStmt, PlainRoutine, PlainUnit, plain_note, plain_stmt, plain_routine, plain}
use Rattle.sp_check.proofs.GraphLemmas.{place_like, routine_like, routines_like, graphs_like, depth_like}
use Rattle.sp_check.proofs.ListLemmas.{found, contained_like, same_length}

-- ---- Parts that are alike

pub instr_like : (s t : Stmt) → plain_stmt s ≡ plain_stmt t → s.instr ≡ t.instr
instr_like s t e = ap (λ (x : PlainStmt). x.instr) e

pub code_like : (a b : Routine) → plain_routine a ≡ plain_routine b → map plain_stmt a.code ≡ map plain_stmt b.code
code_like a b e = ap (λ (x : PlainRoutine). x.code) e

start_like : (a b : Routine) → plain_routine a ≡ plain_routine b → a.start ≡ b.start
start_like a b e = ap (λ (x : PlainRoutine). x.start) e

-- two instructions of two routines are alike, and stand at the same places of both units
pub record AreAlike (p q : Program) (r k : ℕ) (a b : Routine) (s t : Stmt) : Type 0 where
  pub routines : plain_routine a ≡ plain_routine b
  pub stmts : plain_stmt s ≡ plain_stmt t
  pub here : IsAt p r k a s
  pub there : IsAt q r k b t

-- an instruction of one unit has its like in the other
pub stands_like : (p q : Program) → plain p ≡ plain q → (r k : ℕ) (a : Routine) (s : Stmt) → IsAt p r k a s
    → (b : Routine) × (t : Stmt) × AreAlike p q r k a b s t
stands_like p q e r k a s at =
    let b = found plain_routine p.routines q.routines (routines_like p q e) r a at.among in
    let t = found plain_stmt a.code b.0.code (code_like a b.0 (sym b.2)) k s at.within in
    (b.0, t.0, record { routines = sym b.2; stmts = sym t.2; here = at; there = record { among = b.1; within = t.1 } })

-- what holds on a line of one holds there of the other
pub on_line : (p q : Program) → plain p ≡ plain q → (line : ℕ) (P Q : ℕ → Routine → ℕ → Stmt → Type 0)
    → ((r k : ℕ) (a b : Routine) (s t : Stmt) → AreAlike p q r k a b s t → P r a k s → Q r b k t) → OnLine p line P → OnLine q line Q
on_line p q e line P Q each (r, k, a, s, at, on, h) =
    let y = stands_like p q e r k a s at in
    (r, k, y.0, y.1, y.2.there, sym (ap (λ (x : PlainStmt). x.line.0) y.2.stmts) ∙ on, each r k a y.0 s y.1 y.2 h)

module _ (p q : Program) (e : plain p ≡ plain q) where
  -- ---- Calls

  called : (address c : ℕ) → routine_at p.routines address ≡ Some c → routine_at q.routines address ≡ Some c
  called address c is = sym (routine_like p.routines q.routines (routines_like p q e) address) ∙ is

  pub call_like : (s t : Stmt) (c : ℕ) → plain_stmt s ≡ plain_stmt t → IsCallOf p s c → IsCallOf q t c
  call_like s t c same (address, target, at) =
      (address, sym (ap (λ i. call_target (control_of i)) (instr_like s t same)) ∙ target, called address c at)

  calls_like : (r c : ℕ) → Calls p r c → Calls q r c
  calls_like r c (k, a, s, at, call) =
      let y = stands_like p q e r k a s at in
      (k, y.0, y.1, y.2.there, call_like s y.1 c y.2.stmts call)

  leads_like : (r c : ℕ) → CallsLead p r c → CallsLead q r c
  leads_like _ _ (one r c h) = one r c (calls_like r c h)
  leads_like _ _ (more r m c h g) = more r m c (leads_like r m h) (calls_like m c g)

  no_callee : (place : Option ℕ) → IsNoCallee p place → IsNoCallee q place
  no_callee None h = tt
  no_callee (Some c) (callee, at, start) =
      let y = found plain_routine p.routines q.routines (routines_like p q e) c callee at in
      (y.0, y.1, start_like y.0 callee y.2 ∙ start)

  -- ---- Depths

  successor_like : (r k to : ℕ) → Successor (graph_of p r) k to → Successor (graph_of q r) k to
  successor_like r k to h = subst (λ g. Successor g k to) (graphs_like p q e r) h

  deep_like : (r k : ℕ) (a b : Routine) (s t : Stmt) (d : ℤ) → AreAlike p q r k a b s t → ReturnsDeep p r a k s d → ReturnsDeep q r b k t d
  deep_like r k a b s t d same (returned, depth, other) =
      (sym (ap (λ i. returns (control_of i)) (instr_like s t same.stmts)) ∙ returned, depth_like p q e r k a b d same.routines depth, other)

  -- ---- The kinds that look at one instruction

  takes_like : (r k : ℕ) (a b : Routine) (s t : Stmt) (n : ℕ) → AreAlike p q r k a b s t → Takes p s n → Takes q t n
  takes_like r k a b s t n same (inl h) = inl (sym (ap is_push (instr_like s t same.stmts)) ∙ h.0, h.1)
  takes_like r k a b s t n same (inr (c, callee, call, at, is)) =
      let y = found plain_routine p.routines q.routines (routines_like p q e) c callee at in
      inr (c, y.0, call_like s t c same.stmts call, y.1, is ∙ ap (λ m. 2 + m) (sym (ap (λ (x : PlainRoutine). x.depth) y.2)))

  misuses_like : (r k : ℕ) (a b : Routine) (s t : Stmt) → AreAlike p q r k a b s t → MisusesPointer p a k s → MisusesPointer q b k t
  misuses_like r k a b s t same (inl h) = inl (sym (ap moves_pointer (instr_like s t same.stmts)) ∙ h)
  misuses_like r k a b s t same (inr (inl (w, loads, elsewhere))) =
      inr (inl (w, sym (ap loaded_pointer (instr_like s t same.stmts)) ∙ loads, λ h. elsewhere (start_like a b same.routines ∙ h.0, h.1)))
  misuses_like r k a b s t same (inr (inr (inl (start, first, other)))) =
      inr (inr (inl (
        sym (start_like a b same.routines) ∙ start,
        first,
        λ h. other (ap loaded_pointer (instr_like s t same.stmts) ∙ h ∙ ap (λ n. Some (n + 1)) (sym (ap (λ (u : PlainUnit). u.last) e))),
      )))
  misuses_like r k a b s t same (inr (inr (inr (start, (address, target, at))))) =
      inr (inr (inr (
        sym (start_like a b same.routines) ∙ start,
        (
          address,
          sym (ap (λ i. jump_target (control_of i)) (instr_like s t same.stmts)) ∙ target,
          sym (place_like a.code b.code (code_like a b same.routines) address) ∙ at,
        ),
      )))

  slot_like : (line : ℕ) → HasNoSlot p line → HasNoSlot q line
  slot_like line (r, k, a, s, at, (n, depth, w, among, on, here, named, low)) =
      let y = stands_like p q e r k a s at in
      let m = contained_like plain_note s.asserts y.1.asserts (ap (λ (x : PlainStmt). x.asserts) y.2.stmts) n among in (
        r,
        k,
        y.0,
        y.1,
        y.2.there,
        (
          m.0,
          depth,
          w,
          m.1,
          ap (λ (x : PlainNote). x.line.0) m.2 ∙ on,
          depth_like p q e r k a y.0 depth y.2.routines here,
          subst (λ words. Contains words w) (sym (ap (λ (x : PlainNote). note_words x.note) m.2)) named,
          low,
        ),
      )

  region_like : (line : ℕ) → PassesRegion p line → PassesRegion q line
  region_like line (routine, among, on, start, passes) =
      let y = contained_like plain_routine p.routines q.routines (routines_like p q e) routine among in
      let last = ap (λ (u : PlainUnit). u.last + 1) e in
      let reach : p.first + routine.depth ≡ q.first + y.0.depth =
      ap (λ (u : PlainUnit). u.first + routine.depth) e ∙ ap (λ n. q.first + n) (sym (ap (λ (x : PlainRoutine). x.depth) y.2)) in (
        y.0,
        y.1,
        ap (λ (x : PlainRoutine). x.line.0) y.2 ∙ on,
        start_like y.0 routine y.2 ∙ start,
        subst (λ m. q.last + 1 < m) reach (subst (λ n. n < p.first + routine.depth) last passes),
      )

-- the same of depths that differ, which looks at both units
differs_like : (p q : Program) → plain p ≡ plain q → (r k : ℕ) (a b : Routine) (s t : Stmt) (d o : ℤ) → AreAlike p q r k a b s t
    → DiffersAt p r a k s d o → DiffersAt q r b k t d o
differs_like p q e r k a b s t d o same h = record {
  before = h.before;
  depth = depth_like p q e r k a b h.before same.routines h.depth;
  after = h.after ∙ ap (λ i. h.before +ℤ effect i) (instr_like s t same.stmts);
  to = h.to;
  successor = successor_like p q e r k h.to h.successor;
  other = depth_like p q e r h.to a b o same.routines h.other;
  differs = h.differs;
  lowest = λ lower n next depth other.
      h.lowest lower n (successor_like q p (sym e) r k lower next) (depth_like q p (sym e) r lower b a n (sym same.routines) depth) other;
}

alike_back : (p q : Program) (r k : ℕ) (a b : Routine) (s t : Stmt) → AreAlike p q r k a b s t → AreAlike q p r k b a t s
alike_back p q r k a b s t h = record { routines = sym h.routines; stmts = sym h.stmts; here = h.there; there = h.here }

-- ---- All kinds

pub breaks_like : (p q : Program) → plain p ≡ plain q → (k : StructKind) (line : ℕ) → BreaksRule p k line → BreaksRule q k line
breaks_like p q e kind.JumpOut line h = on_line p q e line _ _ (λ r k a b s t same g. (
  g.0,
  sym (ap (λ i. jump_target (control_of i)) (instr_like s t same.stmts)) ∙ g.1,
  sym (place_like a.code b.code (code_like a b same.routines) g.0) ∙ g.2,
)) h
breaks_like p q e kind.FallsOff line h = on_line p q e line _ _ (λ r k a b s t same g. (
  g.0 ∙ same_length plain_stmt a.code b.code (code_like a b same.routines),
  sym (ap (λ i. ends (control_of i)) (instr_like s t same.stmts)) ∙ g.1,
)) h
breaks_like p q e kind.CallOut line h = on_line p q e line _ _ (λ r k a b s t same g. (
  g.0,
  sym (ap (λ i. call_target (control_of i)) (instr_like s t same.stmts)) ∙ g.1,
  subst (λ place. IsNoCallee q place) (routine_like p.routines q.routines (routines_like p q e) g.0) (no_callee p q e _ g.2),
)) h
breaks_like p q e kind.Recursion line h = on_line p q e line _ _ (λ r k a b s t same g.
    (g.0, call_like p q e s t g.0 same.stmts g.1, leads_like p q e g.0 r g.2)) h
breaks_like p q e kind.Computed line h = on_line p q e line _ _ (λ r k a b s t same g. sym (ap is_computed (instr_like s t same.stmts)) ∙ g) h
breaks_like p q e kind.StackPointer line h = on_line p q e line _ _ (λ r k a b s t same g. misuses_like p q e r k a b s t same g) h
breaks_like p q e kind.Unreached line h = on_line p q e line _ _ (λ r k a b s t same g places walk.
    g places (subst (λ graph. WalkTo graph places k) (sym (graphs_like p q e r)) walk)) h
breaks_like p q e (kind.Depth d o) line h = on_line p q e line _ _ (λ r k a b s t same g. elim g [
  | inl deep ↦ inl (deep_like p q e r k a b s t d same deep.0, deep.1)
  | inr other ↦ inr (
    λ n deep. other.0 n (deep_like q p (sym e) r k b a t s n (alike_back p q r k a b s t same) deep),
    differs_like p q e r k a b s t d o same other.1,
  )
]) h
breaks_like p q e kind.PopsReturn line h = on_line p q e line _ _ (λ r k a b s t same g. (
  sym (ap takes_word (instr_like s t same.stmts)) ∙ g.0,
  (g.1.0, depth_like p q e r k a b g.1.0 same.routines g.1.1, g.1.2),
)) h
breaks_like p q e kind.OverDepth line (inl h) = inl (on_line p q e line _ _ (λ r k a b s t same g. (
  g.0,
  g.1,
  takes_like p q e r k a b s t g.0 same g.2,
  depth_like p q e r k a b g.1 same.routines g.3,
  subst (λ n. pos n <ℤ (g.1 +ℤ pos g.0)) (ap (λ (x : PlainRoutine). x.depth) same.routines) g.4,
)) h)
breaks_like p q e kind.OverDepth line (inr h) = inr (region_like p q e line h)
breaks_like p q e kind.NoSlot line h = slot_like p q e line h
breaks_like p q e kind.UncutLoop line h = on_line p q e line _ _ (λ r k a b s t same g.
    subst (λ graph. IsHighestOfCycle graph k) (graphs_like p q e r) g) h
breaks_like p q e kind.ReturnInStart line h = on_line p q e line _ _ (λ r k a b s t same g. (
  sym (start_like a b same.routines) ∙ g.0,
  sym (ap (λ i. returns (control_of i)) (instr_like s t same.stmts)) ∙ g.1,
)) h
breaks_like p q e kind.CodeWritten line h = on_line p q e line _ _ (λ r k a b s t same g. (
  g.0,
  g.1,
  subst (λ cells. Contains cells g.0) (ap stored (instr_like s t same.stmts)) g.2,
  sym (ap (λ (u : PlainUnit). maps.get u.image g.0) e) ∙ g.3,
)) h

-- so they have the same refusal
pub refused_like : (p q : Program) → plain p ≡ plain q → (line : ℕ) (k : StructKind) → IsRefusedAt p line k → IsRefusedAt q line k
refused_like p q e line k h = record {
  broken = breaks_like p q e k line h.broken;
  first = λ other there broken. h.first other there (breaks_like q p (sym e) other there broken);
}
