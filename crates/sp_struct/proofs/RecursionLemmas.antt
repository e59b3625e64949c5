-- The lowest line of a call of a routine from which calls lead back.
use Rattle.std.proofs.Common.{◌≡◌, ◌+◌, ℕ, true, false, List, Option, None, Some, refl, sym, ap, ◌∙◌}
use Rattle.sp_base.specs.declared.line.Line.{Line}
use Rattle.sp_graph.specs.Structure.{IsAt, IsCallOf, CallsLead, Recurs}
use Rattle.sp_prog.specs.declared.routine.Routine.{Routine}
use Rattle.sp_prog.specs.declared.routine.Stmt.{Stmt}
use Rattle.sp_prog.specs.Program.{Program}
use Rattle.sp_struct.specs.Kinds.{IsLowestLine}
use Rattle.sp_struct.specs.code.Calls.{callee_of, leads_back, TellLeads, RecursHere}
use Rattle.sp_struct.specs.code.Lowest.{lower, LowestSoFar, IsLowest}
use Rattle.sp_struct.proofs.CallLemmas.{call_is, is_call}
use Rattle.sp_struct.proofs.LowestLemmas.{one_more, none_more, same_at}
use Rattle.sp_struct.proofs.RuleLemmas.{routine_within}

module _ (p : Program) (rows : List (List ℕ)) (t : TellLeads p rows) where
  back_is : (s : Stmt) (r : ℕ) (o : Option ℕ) → callee_of p.routines s.instr ≡ o → leads_back rows o r ≡ true → (c : ℕ) × IsCallOf p s c × CallsLead p c r
  back_is s r None e h = absurd cc
  back_is s r (Some c) e h =
      let call = call_is p s c e in
      (c, call, (t.told c r (routine_within p.routines call.0 c call.2)).0 h)

  is_back : (s : Stmt) (r c : ℕ) → IsCallOf p s c → CallsLead p c r → leads_back rows (callee_of p.routines s.instr) r ≡ true
  is_back s r c call h =
      rw (is_call p s c call) ((t.told c r (routine_within p.routines call.0 c call.2)).1 h)

  module _ (r k : ℕ) (routine : Routine) (s : Stmt) (at : IsAt p r k routine s) (best : Option Line) (so_far : LowestSoFar (RecursHere p) r k best) where
    only_line : (other : ℕ) → RecursHere p r k other → other ≡ s.line.0
    only_line other h =
        let same = same_at p r k h.0 routine h.1 s h.2 at in
        sym h.3 ∙ ap (λ (x : Stmt). x.line.0) same.1

    pub recurs_here : leads_back rows (callee_of p.routines s.instr) r ≡ true → LowestSoFar (RecursHere p) r (k + 1) (lower best s.line)
    recurs_here e =
        one_more (RecursHere p) r k best so_far s.line (routine, s, at, refl, back_is s r (callee_of p.routines s.instr) refl e) only_line

    pub no_recursion : leads_back rows (callee_of p.routines s.instr) r ≡ false → LowestSoFar (RecursHere p) r (k + 1) best
    no_recursion e =
        none_more (RecursHere p) r k best so_far (λ other h.
        let same = same_at p r k h.0 routine h.1 s h.2 at in
        let b : leads_back rows (callee_of p.routines s.instr) r ≡ true = rw same.1 at (is_back h.1 r h.4.0 h.4.1 h.4.2) in
        cc (b, e))

pub recursion_told : (p : Program) (best : Option Line) → IsLowest (RecursHere p) best → IsLowestLine (Recurs p) best
recursion_told p best low = record {
  found = λ line e. let f = low.found line e in (f.0, f.1, f.2.0, f.2.1, f.2.2, f.2.3, f.2.4);
  least = λ line h. low.least h.0 h.1 line (h.2, h.3, h.4, h.5, h.6);
}
