-- What an instruction and its call break, together.
use Rattle.std.proofs.Common.{◌≡◌, ◌<◌, ◌≤◌, ◌+◌, ℕ, ◌⊎◌, inl, inr, arith, sym, ap, subst, ◌∙◌, List, [], ◌∷◌, Option, Some, length, slice_get}
use Rattle.std.specs.Prelude.{nat_eq, slice_index}
use Rattle.std.proofs.lemmas.Bool.{cases_order}
use Rattle.std.proofs.lemmas.Option.{slice_get_within}
use Rattle.std.proofs.lemmas.List.Quantifiers.{position-Some}
use Rattle.sp_base.specs.declared.line.Line.{Line}
use Rattle.sp_flow.specs.code.Counts.{Faulty, FaultyIn, FaultyUpTo, Own, callee_by}
use Rattle.sp_flow.specs.code.Faults.{Before, IsFirst}
use Rattle.sp_flow.specs.declared.fault.Fault.{Fault}
use Rattle.sp_flow.specs.declared.refusal.FlowKind.{FlowKind}
use Rattle.sp_flow.proofs.FaultLemmas.{first_more}
use Rattle.sp_flow.proofs.KindLemmas.{first_same}
use Rattle.sp_graph.specs.Successors.{routine_at}
use Rattle.sp_graph.specs.declared.control.Control.{Control}
use Rattle.sp_graph.specs.declared.control.Control.TheVariants.{Next, Jump, JumpIf, Call, CallIf, Return, ReturnIf, Halt}
use Rattle.sp_prog.specs.Rules.{address_of}
use Rattle.sp_prog.specs.declared.area.Area.{Area}
use Rattle.sp_prog.specs.declared.routine.Routine.{Routine}
use Rattle.sp_prog.specs.declared.routine.Stmt.{Stmt}

routine_within : (routines : List Routine) (a c : ℕ) → routine_at routines a ≡ Some c → c < length routines
routine_within [] a c e = absurd cc
routine_within (r ∷ routines) a c e = (position-Some (λ (q : Routine). nat_eq (address_of q) a) (r ∷ routines) c r e).0

pub callee_within : (routines : List Routine) (control : Control) (c : ℕ) → callee_by routines control ≡ Some c → c < length routines
callee_within routines Next c e = absurd cc
callee_within routines (Jump a) c e = absurd cc
callee_within routines (JumpIf a) c e = absurd cc
callee_within routines (Call a) c e = routine_within routines a c e
callee_within routines (CallIf a) c e = routine_within routines a c e
callee_within routines Return c e = absurd cc
callee_within routines ReturnIf c e = absurd cc
callee_within routines Halt c e = absurd cc

not_itself : (f : Fault) → Before f f → ⊥
not_itself f (inl l) = omega (arith, l)
not_itself f (inr (s, inl l)) = omega (arith, l)
not_itself f (inr (s, inr q)) = let l = q.1 in omega (arith, l)

-- nothing more
pub nothing_more : (best : Option Fault) (line : Line) → IsFirst (λ f. (best ≡ Some f) ⊎ ((f.line ≡ line) × ⊥)) best
nothing_more best line = record {
  found = λ f e. inl e;
  least = λ f q. elim q as (λ o. (b : Fault) × (best ≡ Some b) × (Before f b → ⊥)) [ inl e ↦ (f, e, not_itself f) | inr p ↦ absurd p.1 ];
}

-- two groups of kinds of one line
pub pair_more :
    (S : Fault → Type 0) (line : Line) (R T : FlowKind → Type 0) (best more : Option Fault) →
    IsFirst (λ f. S f ⊎ ((f.line ≡ line) × R f.kind)) best → IsFirst (λ f. (best ≡ Some f) ⊎ ((f.line ≡ line) × T f.kind)) more →
    IsFirst (λ f. S f ⊎ ((f.line ≡ line) × (R f.kind ⊎ T f.kind))) more
pair_more S line R T best more old new =
    first_same (λ f. (S f ⊎ ((f.line ≡ line) × R f.kind)) ⊎ ((f.line ≡ line) × T f.kind)) (λ f. S f ⊎ ((f.line ≡ line) × (R f.kind ⊎ T f.kind))) more to from
    (first_more (λ f. S f ⊎ ((f.line ≡ line) × R f.kind)) (λ f. (f.line ≡ line) × T f.kind) best more old new)
  where
    to : (f : Fault) → (S f ⊎ ((f.line ≡ line) × R f.kind)) ⊎ ((f.line ≡ line) × T f.kind) → S f ⊎ ((f.line ≡ line) × (R f.kind ⊎ T f.kind))
    to f (inl (inl s)) = inl s
    to f (inl (inr (l, r))) = inr (l, inl r)
    to f (inr (l, t)) = inr (l, inr t)

    from : (f : Fault) → S f ⊎ ((f.line ≡ line) × (R f.kind ⊎ T f.kind)) → (S f ⊎ ((f.line ≡ line) × R f.kind)) ⊎ ((f.line ≡ line) × T f.kind)
    from f (inl s) = inl (inl s)
    from f (inr (l, inl r)) = inl (inr (l, r))
    from f (inr (l, inr t)) = inr (l, t)

-- one instruction more, and all of them
module _ (areas : List Area) (routines : List Routine) (r : Own) (code : List Stmt) (sets : List ℕ) (S : Fault → Type 0) (at : ℕ) (best : Option Fault) where
  pub statement_more :
      (s : Stmt) (unset : ℕ) (more : Option Fault) → slice_get code at ≡ Some s → unset ≡ slice_index sets at →
      IsFirst (λ f. S f ⊎ FaultyUpTo areas routines r code sets at f) best →
      IsFirst (λ f. (best ≡ Some f) ⊎ ((f.line ≡ s.line) × Faulty areas routines r s unset f.kind)) more →
      IsFirst (λ f. S f ⊎ FaultyUpTo areas routines r code sets (at + 1) f) more
  statement_more s unset more get is old new =
      first_same (λ f. (S f ⊎ FaultyUpTo areas routines r code sets at f) ⊎ ((f.line ≡ s.line) × Faulty areas routines r s unset f.kind))
      (λ f. S f ⊎ FaultyUpTo areas routines r code sets (at + 1) f) more to from
      (first_more (λ f. S f ⊎ FaultyUpTo areas routines r code sets at f) (λ f. (f.line ≡ s.line) × Faulty areas routines r s unset f.kind) best more old new)
    where
      to : (f : Fault) → (S f ⊎ FaultyUpTo areas routines r code sets at f) ⊎ ((f.line ≡ s.line) × Faulty areas routines r s unset f.kind) →
          S f ⊎ FaultyUpTo areas routines r code sets (at + 1) f
      to f (inl (inl h)) = inl h
      to f (inl (inr (j, t, m, g, l, h))) = inr (j, t, omega (arith, m), g, l, h)
      to f (inr (l, h)) = inr (at, s, omega arith, get, l, subst (λ (u : ℕ). Faulty areas routines r s u f.kind) is h)

      now : (f : Fault) (j : ℕ) (t : Stmt) → j ≡ at → slice_get code j ≡ Some t → f.line ≡ t.line → Faulty areas routines r t (slice_index sets j) f.kind →
          (f.line ≡ s.line) × Faulty areas routines r s unset f.kind
      now f j t e g l h =
          let here : slice_get code at ≡ Some t = subst (λ (k : ℕ). slice_get code k ≡ Some t) e g in
          let same : t ≡ s = cc (here, get) in
          let set : slice_index sets j ≡ unset = ap (slice_index sets) e ∙ sym is in (
            l ∙ ap (λ (x : Stmt). x.line) same,
            subst (λ (x : Stmt). Faulty areas routines r x unset f.kind) same (subst (λ (u : ℕ). Faulty areas routines r t u f.kind) set h),
          )

      from : (f : Fault) → S f ⊎ FaultyUpTo areas routines r code sets (at + 1) f →
          (S f ⊎ FaultyUpTo areas routines r code sets at f) ⊎ ((f.line ≡ s.line) × Faulty areas routines r s unset f.kind)
      from f (inl h) = inl (inl h)
      from f (inr (j, t, m, g, l, h)) =
          elim (cases_order j at) as (λ o. (S f ⊎ FaultyUpTo areas routines r code sets at f) ⊎ ((f.line ≡ s.line) × Faulty areas routines r s unset f.kind)) [
            | inl e ↦ inr (now f j t e g l h)
            | inr o ↦ elim o as (λ q. (S f ⊎ FaultyUpTo areas routines r code sets at f) ⊎ ((f.line ≡ s.line) × Faulty areas routines r s unset f.kind))
                [ inl low ↦ inl (inr (j, t, low, g, l, h)) | inr high ↦ absurd (omega (arith, m, high)) ]
          ]

  pub statements_all :
      length code ≤ at → IsFirst (λ f. S f ⊎ FaultyUpTo areas routines r code sets at f) best →
      IsFirst (λ f. S f ⊎ FaultyIn areas routines r code sets f) best
  statements_all past is =
      first_same (λ f. S f ⊎ FaultyUpTo areas routines r code sets at f) (λ f. S f ⊎ FaultyIn areas routines r code sets f) best to from is
    where
      to : (f : Fault) → S f ⊎ FaultyUpTo areas routines r code sets at f → S f ⊎ FaultyIn areas routines r code sets f
      to f (inl h) = inl h
      to f (inr (j, t, m, g, l, h)) = inr (j, t, g, l, h)

      from : (f : Fault) → S f ⊎ FaultyIn areas routines r code sets f → S f ⊎ FaultyUpTo areas routines r code sets at f
      from f (inl h) = inl h
      from f (inr (j, t, g, l, h)) = let w = slice_get_within code j t g in inr (j, t, omega (arith, w, past), g, l, h)

  pub none_yet : at ≡ 0 → ((f : Fault) → best ≡ Some f → S f) → ((f : Fault) → S f → best ≡ Some f) → IsFirst (λ f. S f ⊎ FaultyUpTo areas routines r code sets at f) best
  none_yet zero_at found is = record {
    found = λ f e. inl (found f e);
    least = λ f q. elim q as (λ o. (b : Fault) × (best ≡ Some b) × (Before f b → ⊥)) [
      | inl h ↦ (f, is f h, not_itself f)
      | inr p ↦ absurd (let m = p.2 in omega (arith, m, zero_at))
    ];
  }
