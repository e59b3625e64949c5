-- Where no call recurs, more calls lead from a caller than from what it calls.
use Rattle.std.proofs.Common.{◌≡◌, ◌<◌, ℕ, Bool, length, refl, sym, subst}
use Rattle.std.proofs.lemmas.Bool.{false_from_ne_true}
use Rattle.sp_graph.specs.Structure.{IsStructured, Calls, CallsLead}
use Rattle.sp_graph.specs.Structure.CallsLead.{one, more}
use Rattle.sp_prog.specs.Program.{Program}
use Rattle.sp_struct.specs.code.Calls.{calls}
use Rattle.sp_struct.specs.code.Ways.{way_through}
use Rattle.sp_struct.proofs.CallLemmas.{leads_joined, leads_way, way_leads}
use Rattle.sp_struct.proofs.CountingLemmas as counting
use Rattle.sp_struct.proofs.RuleLemmas.{routine_within}

-- whether calls lead from a routine to another one
abbrev leads_to : Program → ℕ → ℕ → Bool
leads_to p r c = way_through (calls p) (length p.routines) r c

-- to how many routines calls lead
abbrev pub rank : Program → ℕ → ℕ
rank p r = counting.count (leads_to p r) (length p.routines)

not_itself : (p : Program) → IsStructured p → (c d : ℕ) → CallsLead p c d → c ≡ d → ⊥
not_itself p good _ _ (one r c (k, routine, s, at, call)) e =
    let round : CallsLead p c c = subst (λ v. CallsLead p v c) e (one r c (k, routine, s, at, call)) in
    good.recursion s.line.0 (r, k, routine, s, at, refl, (c, call, subst (λ v. CallsLead p c v) (sym e) round))
not_itself p good _ _ (more r m c l (k, routine, s, at, call)) e =
    good.recursion s.line.0 (m, k, routine, s, at, refl, (c, call, subst (λ v. CallsLead p v m) e l))

falls : (p : Program) → IsStructured p → (r c : ℕ) → Calls p r c → rank p c < rank p r
falls p good r c call =
    let called = call.4 in
    counting.more (leads_to p c) (leads_to p r)
    (λ i e. leads_way p r i (leads_joined p r c i (one r c call) (way_leads p (length p.routines) c i e)))
    (length p.routines) c (routine_within p.routines called.0 c called.2)
    (leads_way p r c (one r c call))
    (false_from_ne_true (leads_to p c c) (λ e. not_itself p good c c (way_leads p (length p.routines) c c e) refl))

pub ranked : (p : Program) → IsStructured p → (rank : ℕ → ℕ) × ((r c : ℕ) → Calls p r c → rank c < rank r)
ranked p good = (rank p, falls p good)
