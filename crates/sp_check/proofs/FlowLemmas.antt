-- Units with one plain form break the same rules on flow.
use Rattle.std.proofs.Common.{◌≡◌, ℕ, sym, ap, subst, ◌∙◌, inl, inr}
use Rattle.std.specs.Prelude.{slice_get, Contains, IsTrue}
use Rattle.sp_base.specs.Locs.{has, place}
use Rattle.sp_base.specs.declared.location.Loc.{Loc}
use Rattle.sp_flow.specs.Flow.{cells_read, cells_written, ports_in, ports_out, IsListed, MayRead, IsCallee, IsMissing, Changes, TakesFrom, PutsTo, Breaks, IsBroken, IsRefusedAt}
use Rattle.sp_flow.specs.Unset.{IsLeftUnset}
use Rattle.sp_flow.specs.declared.refusal.FlowKind.{FlowKind}
use Rattle.sp_flow.specs.declared.refusal.FlowKind.TheVariants as kind
use Rattle.sp_flow.specs.declared.refusal.Spot.TheVariants as spot
use Rattle.sp_isa.specs.Locations.{reads}
use Rattle.sp_prog.specs.declared.routine.Lists.{Lists}
use Rattle.sp_prog.specs.declared.routine.Routine.{Routine}
use Rattle.sp_prog.specs.declared.routine.Stmt.{Stmt}
use Rattle.sp_prog.specs.Program.{Program}
use Rattle.sp_check.specs.Plain.{PlainRoutine, PlainUnit, plain_stmt, plain_routine, plain}
use Rattle.sp_check.proofs.GraphLemmas.{routines_like, all_ways_like}
use Rattle.sp_check.proofs.ListLemmas.{found}
use Rattle.sp_check.proofs.StructureLemmas.{AreAlike, instr_like, call_like, on_line}

reads_like : (a b : Routine) → plain_routine a ≡ plain_routine b → a.reads ≡ b.reads
reads_like a b e = ap (λ (x : PlainRoutine). x.reads) e

changes_like : (a b : Routine) → plain_routine a ≡ plain_routine b → a.changes ≡ b.changes
changes_like a b e = ap (λ (x : PlainRoutine). x.changes) e

module _ (p q : Program) (e : plain p ≡ plain q) where
  listed_like : (a b : Lists) (cell : ℕ) → a ≡ b → IsListed p a cell → IsListed q b cell
  listed_like a b cell same h =
      subst (λ l. IsListed q l cell) same
      (h.0, h.1, h.2, sym (ap (λ (u : PlainUnit). slice_get u.areas h.0) e) ∙ h.3, h.4)

  may_like : (a b : Routine) (cell : ℕ) → plain_routine a ≡ plain_routine b → MayRead p a cell → MayRead q b cell
  may_like a b cell same (inl h) = inl (listed_like a.reads b.reads cell (reads_like a b same) h)
  may_like a b cell same (inr h) = inr (listed_like a.changes b.changes cell (changes_like a b same) h)

  -- the routine that is called has its like
  callee_like : (s t : Stmt) (callee : Routine) → plain_stmt s ≡ plain_stmt t → IsCallee p s callee
      → (other : Routine) × IsCallee q t other × (plain_routine other ≡ plain_routine callee)
  callee_like s t callee same (c, call, at) =
      let y = found plain_routine p.routines q.routines (routines_like p q e) c callee at in
      (y.0, (c, call_like p q e s t c same call, y.1), y.2)

  missing_like : (r k : ℕ) (a b : Routine) (x : Loc) → plain_routine a ≡ plain_routine b → IsMissing p r a k x → IsMissing q r b k x
  missing_like r k a b x same h =
      (sym (ap (λ (l : Lists). has x l.locs) (reads_like a b same)) ∙ h.0, subst (λ ways. IsLeftUnset ways (place x) k) (all_ways_like p q e r) h.1)

  changed_like : (s t : Stmt) (cell : ℕ) → plain_stmt s ≡ plain_stmt t → Changes p s cell → Changes q t cell
  changed_like s t cell same (inl h) = inl (subst (λ i. Contains (cells_written i) cell) (instr_like s t same) h)
  changed_like s t cell same (inr (callee, called, listed)) =
      let y = callee_like s t callee same called in
      inr (y.0, y.1, listed_like callee.changes y.0.changes cell (sym (changes_like y.0 callee y.2)) listed)

  taken_like : (s t : Stmt) (port : ℕ) → plain_stmt s ≡ plain_stmt t → TakesFrom p s port → TakesFrom q t port
  taken_like s t port same (inl h) = inl (subst (λ i. Contains (ports_in i) port) (instr_like s t same) h)
  taken_like s t port same (inr (callee, called, listed)) =
      let y = callee_like s t callee same called in
      inr (y.0, y.1, subst (λ ports. Contains ports port) (sym (ap (λ (x : PlainRoutine). x.ins) y.2)) listed)

  put_like : (s t : Stmt) (port : ℕ) → plain_stmt s ≡ plain_stmt t → PutsTo p s port → PutsTo q t port
  put_like s t port same (inl h) = inl (subst (λ i. Contains (ports_out i) port) (instr_like s t same) h)
  put_like s t port same (inr (callee, called, listed)) =
      let y = callee_like s t callee same called in
      inr (y.0, y.1, subst (λ ports. Contains ports port) (sym (ap (λ (x : PlainRoutine). x.outs) y.2)) listed)

-- a rule is broken by both or by none
breaks_like : (p q : Program) → plain p ≡ plain q → (r k : ℕ) (a b : Routine) (s t : Stmt) (rule : FlowKind) → AreAlike p q r k a b s t
    → Breaks p r a k s rule → Breaks q r b k t rule
breaks_like p q e r k a b s t (kind.Uses (spot.Loc x)) same h =
    (subst (λ i. IsTrue (has x (reads i))) (instr_like s t same.stmts) h.0, missing_like p q e r k a b x same.routines h.1)
breaks_like p q e r k a b s t (kind.Uses (spot.Cell cell)) same h = (
  subst (λ i. Contains (cells_read i) cell) (instr_like s t same.stmts) h.0,
  λ may. h.1 (may_like q p (sym e) b a cell (sym same.routines) may),
)
breaks_like p q e r k a b s t (kind.Writes cell) same h = (
  changed_like p q e s t cell same.stmts h.0,
  λ listed. h.1 (listed_like q p (sym e) b.changes a.changes cell (sym (changes_like a b same.routines)) listed),
)
breaks_like p q e r k a b s t (kind.Port port) same (inl h) = inl (
  taken_like p q e s t port same.stmts h.0,
  λ listed. h.1 (subst (λ ports. Contains ports port) (sym (ap (λ (x : PlainRoutine). x.ins) same.routines)) listed),
)
breaks_like p q e r k a b s t (kind.Port port) same (inr h) = inr (
  put_like p q e s t port same.stmts h.0,
  λ listed. h.1 (subst (λ ports. Contains ports port) (sym (ap (λ (x : PlainRoutine). x.outs) same.routines)) listed),
)
breaks_like p q e r k a b s t (kind.CallsReads (spot.Loc x)) same (callee, called, read, missing) =
    let y = callee_like p q e s t callee same.stmts called in (
      y.0,
      y.1,
      subst (λ (l : Lists). IsTrue (has x l.locs)) (sym (reads_like y.0 callee y.2)) read,
      missing_like p q e r k a b x same.routines missing,
    )
breaks_like p q e r k a b s t (kind.CallsReads (spot.Cell cell)) same (callee, called, listed, not_read) =
    let y = callee_like p q e s t callee same.stmts called in (
      y.0,
      y.1,
      listed_like p q e callee.reads y.0.reads cell (sym (reads_like y.0 callee y.2)) listed,
      λ may. not_read (may_like q p (sym e) b a cell (sym same.routines) may),
    )

pub broken_like : (p q : Program) → plain p ≡ plain q → (line : ℕ) (rule : FlowKind) → IsBroken p line rule → IsBroken q line rule
broken_like p q e line rule h = on_line p q e line _ _ (λ r k a b s t same g. breaks_like p q e r k a b s t rule same g) h

pub refused_like : (p q : Program) → plain p ≡ plain q → (line : ℕ) (k : FlowKind) → IsRefusedAt p line k → IsRefusedAt q line k
refused_like p q e line k h = record {
  broken = broken_like p q e line k h.broken;
  first = λ there other broken before. h.first there other (broken_like q p (sym e) there other broken) before;
}
