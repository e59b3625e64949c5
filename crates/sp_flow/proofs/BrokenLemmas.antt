-- What the code counts for a routine is what its instructions break.
use Rattle.std.proofs.Common.{◌≡◌, ◌≤◌, ◌+◌, arith, length, ◌↔◌, ℕ, ◌⊎◌, inl, inr, refl, sym, ap, subst, ◌∙◌, List, Option, None, Some, slice_get}
use Rattle.std.specs.Prelude.{slice_index}
use Rattle.std.proofs.lemmas.Bool.{cases_order}
use Rattle.std.proofs.lemmas.Option.{slice_get_within}
use Rattle.sp_flow.proofs.FaultLemmas.{first_more}
use Rattle.sp_base.specs.declared.line.Line.{Line}
use Rattle.sp_base.specs.declared.location.Loc.{Loc}
use Rattle.sp_base.specs.Locs.{place}
use Rattle.sp_flow.specs.Flow.{Breaks, CountsBefore, IsBroken, IsCallee, IsFlowing, IsRefusedAt}
use Rattle.sp_flow.specs.Routes.{ways_of}
use Rattle.sp_flow.specs.Unset.{Has, IsLeftUnset}
use Rattle.sp_flow.specs.code.Counts.{BrokenIn, BrokenUpTo, Called, CalledAt, Faulty, FaultyIn, Own, callee_by, own_of}
use Rattle.sp_flow.specs.code.Faults.{IsFirst}
use Rattle.sp_flow.specs.declared.fault.Fault.{Fault}
use Rattle.sp_flow.specs.declared.refusal.FlowKind.{FlowKind}
use Rattle.sp_flow.specs.declared.refusal.FlowKind.TheVariants as kind
use Rattle.sp_flow.specs.declared.refusal.Spot.TheVariants as spot
use Rattle.sp_flow.proofs.KindLemmas.{first_same}
use Rattle.sp_graph.specs.Control.{control_of}
use Rattle.sp_graph.specs.Routines.{callee_at}
use Rattle.sp_graph.specs.Structure.{call_target}
use Rattle.sp_graph.specs.Successors.{routine_at}
use Rattle.sp_graph.specs.declared.control.Control.{Control}
use Rattle.sp_graph.specs.declared.control.Control.TheVariants.{Next, Jump, JumpIf, Call, CallIf, Return, ReturnIf, Halt}
use Rattle.sp_prog.specs.Program.{Program}
use Rattle.sp_prog.specs.declared.area.Area.{Area}
use Rattle.sp_prog.specs.declared.routine.Routine.{Routine}
use Rattle.sp_prog.specs.declared.routine.Stmt.{Stmt}

called_is : (areas : List Area) (r : Own) (o : Option Routine) (unset : ℕ) (k : FlowKind) → CalledAt areas r o unset k →
    (callee : Routine) × (o ≡ Some callee) × Called areas r (own_of callee) unset k
called_is areas r None unset k h = absurd h
called_is areas r (Some callee) unset k h = (callee, refl, h)

called_by : (areas : List Area) (r : Own) (o : Option Routine) (callee : Routine) (unset : ℕ) (k : FlowKind) → o ≡ Some callee → Called areas r (own_of callee) unset k →
    CalledAt areas r o unset k
called_by areas r o callee unset k e h = subst (λ (q : Option Routine). CalledAt areas r q unset k) (sym e) h

at_option : (routines : List Routine) (o : Option ℕ) (callee : Routine) → callee_at routines o ≡ Some callee → (c : ℕ) × (o ≡ Some c) × (slice_get routines c ≡ Some callee)
at_option routines None callee e = absurd cc
at_option routines (Some c) callee e = (c, refl, e)

target_is : (routines : List Routine) (control : Control) (c : ℕ) → callee_by routines control ≡ Some c → (a : ℕ) × (call_target control ≡ Some a) × (routine_at routines a ≡ Some c)
target_is routines Next c e = absurd cc
target_is routines (Jump a) c e = absurd cc
target_is routines (JumpIf a) c e = absurd cc
target_is routines (Call a) c e = (a, refl, e)
target_is routines (CallIf a) c e = (a, refl, e)
target_is routines Return c e = absurd cc
target_is routines ReturnIf c e = absurd cc
target_is routines Halt c e = absurd cc

by_target : (routines : List Routine) (control : Control) (a c : ℕ) → call_target control ≡ Some a → routine_at routines a ≡ Some c → callee_by routines control ≡ Some c
by_target routines Next a c t e = absurd cc
by_target routines (Jump b) a c t e = absurd cc
by_target routines (JumpIf b) a c t e = absurd cc
by_target routines (Call b) a c t e = let same : b ≡ a = cc t in ap (routine_at routines) same ∙ e
by_target routines (CallIf b) a c t e = let same : b ≡ a = cc t in ap (routine_at routines) same ∙ e
by_target routines Return a c t e = absurd cc
by_target routines ReturnIf a c t e = absurd cc
by_target routines Halt a c t e = absurd cc

module _ (p : Program) (s : Stmt) (callee : Routine) where
  callee_to : callee_at p.routines (callee_by p.routines (control_of s.instr)) ≡ Some callee → IsCallee p s callee
  callee_to e =
      let o = at_option p.routines (callee_by p.routines (control_of s.instr)) callee e in
      (o.0, target_is p.routines (control_of s.instr) o.0 o.1, o.2)

  callee_from : IsCallee p s callee → callee_at p.routines (callee_by p.routines (control_of s.instr)) ≡ Some callee
  callee_from (c, (a, target, at), get) =
      ap (callee_at p.routines) (by_target p.routines (control_of s.instr) a c target at) ∙ get

module _ (p : Program) (r : ℕ) (routine : Routine) (sets : List ℕ)
    (members : (x : Loc) (at : ℕ) → Has (place x) (slice_index sets at) ↔ IsLeftUnset (ways_of p r) (place x) at) where
  breaks_to : (j : ℕ) (s : Stmt) (k : FlowKind) → Faulty p.areas p.routines (own_of routine) s (slice_index sets j) k → Breaks p r routine j s k
  breaks_to j s (kind.Uses (spot.Loc x)) (inl h) = (h.uses, (h.is_free, (members x j).0 h.is_unset))
  breaks_to j s (kind.Uses (spot.Cell n)) (inl h) = h
  breaks_to j s (kind.Writes n) (inl h) = (inl h.0, λ l. h.1 (inl l))
  breaks_to j s (kind.Port n) (inl (inl h)) = inl (inl h.0, h.1)
  breaks_to j s (kind.Port n) (inl (inr h)) = inr (inl h.0, h.1)
  breaks_to j s (kind.CallsReads at) (inl h) = absurd h
  breaks_to j s (kind.Uses at) (inr h) =
      let c = called_is p.areas (own_of routine) (callee_at p.routines (callee_by p.routines (control_of s.instr))) (slice_index sets j) (kind.Uses at) h in absurd c.2
  breaks_to j s (kind.Writes n) (inr h) =
      let c = called_is p.areas (own_of routine) (callee_at p.routines (callee_by p.routines (control_of s.instr))) (slice_index sets j) (kind.Writes n) h in
      (inr (c.0, callee_to p s c.0 c.1, c.2.0), λ l. c.2.1 (inl l))
  breaks_to j s (kind.Port n) (inr h) =
      let c = called_is p.areas (own_of routine) (callee_at p.routines (callee_by p.routines (control_of s.instr))) (slice_index sets j) (kind.Port n) h in
      elim c.2 as (λ o. Breaks p r routine j s (kind.Port n)) [
        | inl t ↦ inl (inr (c.0, callee_to p s c.0 c.1, t.0), t.1)
        | inr t ↦ inr (inr (c.0, callee_to p s c.0 c.1, t.0), t.1)
      ]
  breaks_to j s (kind.CallsReads (spot.Loc x)) (inr h) =
      let c = called_is p.areas (own_of routine) (callee_at p.routines (callee_by p.routines (control_of s.instr))) (slice_index sets j) (kind.CallsReads (spot.Loc x)) h in
      (c.0, callee_to p s c.0 c.1, c.2.uses, (c.2.is_free, (members x j).0 c.2.is_unset))
  breaks_to j s (kind.CallsReads (spot.Cell n)) (inr h) =
      let c = called_is p.areas (own_of routine) (callee_at p.routines (callee_by p.routines (control_of s.instr))) (slice_index sets j) (kind.CallsReads (spot.Cell n)) h in
      (c.0, callee_to p s c.0 c.1, c.2.0, c.2.1)

  call_of : (j : ℕ) (s : Stmt) (callee : Routine) (k : FlowKind) → IsCallee p s callee → Called p.areas (own_of routine) (own_of callee) (slice_index sets j) k →
      Faulty p.areas p.routines (own_of routine) s (slice_index sets j) k
  call_of j s callee k c h =
      inr (called_by p.areas (own_of routine) (callee_at p.routines (callee_by p.routines (control_of s.instr))) callee (slice_index sets j) k (callee_from p s callee c) h)

  breaks_from : (j : ℕ) (s : Stmt) (k : FlowKind) → Breaks p r routine j s k → Faulty p.areas p.routines (own_of routine) s (slice_index sets j) k
  breaks_from j s (kind.Uses (spot.Loc x)) h = inl (record { uses = h.0; is_free = h.1.0; is_unset = (members x j).1 h.1.1 })
  breaks_from j s (kind.Uses (spot.Cell n)) h = inl h
  breaks_from j s (kind.Writes n) (inl c, f) = inl (c, λ o. elim o as (λ q. ⊥) [ inl l ↦ f l | inr l ↦ f l ])
  breaks_from j s (kind.Writes n) (inr (callee, c, l), f) =
      call_of j s callee (kind.Writes n) c (l, λ o. elim o as (λ q. ⊥) [ inl l ↦ f l | inr l ↦ f l ])
  breaks_from j s (kind.Port n) (inl (inl c, f)) = inl (inl (c, f))
  breaks_from j s (kind.Port n) (inl (inr (callee, c, l), f)) = call_of j s callee (kind.Port n) c (inl (l, f))
  breaks_from j s (kind.Port n) (inr (inl c, f)) = inl (inr (c, f))
  breaks_from j s (kind.Port n) (inr (inr (callee, c, l), f)) = call_of j s callee (kind.Port n) c (inr (l, f))
  breaks_from j s (kind.CallsReads (spot.Loc x)) (callee, c, u, m) =
      call_of j s callee (kind.CallsReads (spot.Loc x)) c (record { uses = u; is_free = m.0; is_unset = (members x j).1 m.1 })
  breaks_from j s (kind.CallsReads (spot.Cell n)) (callee, c, l, f) = call_of j s callee (kind.CallsReads (spot.Cell n)) c (l, f)

  pub broken_in :
      (S : Fault → Type 0) (best : Option Fault) → slice_get p.routines r ≡ Some routine →
      IsFirst (λ f. S f ⊎ FaultyIn p.areas p.routines (own_of routine) routine.code sets f) best → IsFirst (λ f. S f ⊎ BrokenIn p r f) best
  broken_in S best among is =
      first_same (λ f. S f ⊎ FaultyIn p.areas p.routines (own_of routine) routine.code sets f) (λ f. S f ⊎ BrokenIn p r f) best to from is
    where
      to : (f : Fault) → S f ⊎ FaultyIn p.areas p.routines (own_of routine) routine.code sets f → S f ⊎ BrokenIn p r f
      to f (inl h) = inl h
      to f (inr (j, s, g, l, h)) =
          inr (j, routine, s, record { among = among; within = g }, ap (λ (x : Line). x.0) (sym l), breaks_to j s f.kind h)

      from : (f : Fault) → S f ⊎ BrokenIn p r f → S f ⊎ FaultyIn p.areas p.routines (own_of routine) routine.code sets f
      from f (inl h) = inl h
      from f (inr (k, q, s, at, l, b)) =
          let same : q ≡ routine = let m = at.among in cc (m, among) in
          let within : slice_get routine.code k ≡ Some s = subst (λ (v : Routine). slice_get v.code k ≡ Some s) same at.within in
          let breaks : Breaks p r routine k s f.kind = subst (λ (v : Routine). Breaks p r v k s f.kind) same b in
          inr (k, s, within, same_line f s (sym l), breaks_from k s f.kind breaks)
        where
          same_line : (g : Fault) (t : Stmt) → g.line.0 ≡ t.line.0 → g.line ≡ t.line
          same_line g t e = ap (λ (n : ℕ). record { 0 = n }) e

-- the same lists, said otherwise
pub moved :
    (S : Fault → Type 0) (best : Option Fault) (a b : List Area) (q r : List Routine) (o u : Own) (c d : List Stmt) (x y : List ℕ) →
    a ≡ b → q ≡ r → o ≡ u → c ≡ d → x ≡ y → IsFirst (λ f. S f ⊎ FaultyIn a q o c x f) best → IsFirst (λ f. S f ⊎ FaultyIn b r u d y f) best
moved S best a b q r o u c d x y e1 e2 e3 e4 e5 h =
    subst (λ (z : List Area). IsFirst (λ f. S f ⊎ FaultyIn z r u d y f) best) e1
    (subst (λ (z : List Routine). IsFirst (λ f. S f ⊎ FaultyIn a z u d y f) best) e2
    (subst (λ (z : Own). IsFirst (λ f. S f ⊎ FaultyIn a q z d y f) best) e3
    (subst (λ (z : List Stmt). IsFirst (λ f. S f ⊎ FaultyIn a q o z y f) best) e4
    (subst (λ (z : List ℕ). IsFirst (λ f. S f ⊎ FaultyIn a q o c z f) best) e5 h))))

module _ (p : Program) where
  pub none_broken : IsFirst (λ f. BrokenUpTo p 0 f) None
  none_broken = record { found = λ f e. absurd cc; least = λ f b. absurd (let l = b.1 in omega (arith, l)) }

  pub routine_more :
      (at : ℕ) (best more : Option Fault) → IsFirst (λ f. BrokenUpTo p at f) best → IsFirst (λ f. (best ≡ Some f) ⊎ BrokenIn p at f) more →
      IsFirst (λ f. BrokenUpTo p (at + 1) f) more
  routine_more at best more old new =
      first_same (λ f. BrokenUpTo p at f ⊎ BrokenIn p at f) (λ f. BrokenUpTo p (at + 1) f) more to from
      (first_more (λ f. BrokenUpTo p at f) (λ f. BrokenIn p at f) best more old new)
    where
      to : (f : Fault) → BrokenUpTo p at f ⊎ BrokenIn p at f → BrokenUpTo p (at + 1) f
      to f (inl (r, l, b)) = (r, omega (arith, l), b)
      to f (inr b) = (at, omega arith, b)

      from : (f : Fault) → BrokenUpTo p (at + 1) f → BrokenUpTo p at f ⊎ BrokenIn p at f
      from f (r, l, b) = elim (cases_order r at) as (λ o. BrokenUpTo p at f ⊎ BrokenIn p at f) [
        | inl e ↦ inr (subst (λ (n : ℕ). BrokenIn p n f) e b)
        | inr o ↦ elim o as (λ q. BrokenUpTo p at f ⊎ BrokenIn p at f) [ inl low ↦ inl (r, low, b) | inr high ↦ absurd (omega (arith, l, high)) ]
      ]

  pub routines_all :
      (at : ℕ) (best : Option Fault) → length p.routines ≤ at → IsFirst (λ f. BrokenUpTo p at f) best → IsFirst (λ f. IsBroken p f.line.0 f.kind) best
  routines_all at best past is =
      first_same (λ f. BrokenUpTo p at f) (λ f. IsBroken p f.line.0 f.kind) best to from is
    where
      to : (f : Fault) → BrokenUpTo p at f → IsBroken p f.line.0 f.kind
      to f (r, l, (k, routine, s, here, e, b)) = (r, k, routine, s, here, e, b)

      from : (f : Fault) → IsBroken p f.line.0 f.kind → BrokenUpTo p at f
      from f (r, k, routine, s, here, e, b) =
          let low = slice_get_within p.routines r routine here.among in
          (r, omega (arith, low, past), (k, routine, s, here, e, b))

  pub refused : (fault : Fault) → IsFirst (λ f. IsBroken p f.line.0 f.kind) (Some fault) → IsRefusedAt p fault.line.0 fault.kind
  refused fault is = record {
    broken = is.found fault refl;
    first = λ there other b before.
        let m = is.least (record { line = record { 0 = there }; kind = other }) b in
        let same : fault ≡ m.0 = let e = m.1 in cc e in
        m.2 (subst (λ (g : Fault). CountsBefore there other g.line.0 g.kind) same before);
  }

  pub flowing : IsFirst (λ f. IsBroken p f.line.0 f.kind) None → IsFlowing p
  flowing is line k b = let m = is.least (record { line = record { 0 = line }; kind = k }) b in let e = m.1 in absurd (cc e)
