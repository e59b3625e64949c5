-- The first kind of a line, from what was found.
use Rattle.std.proofs.Common.{◌≡◌, ◌≤◌, ℕ, ◌⊎◌, inl, inr, refl, sym, ap, subst, ◌∙◌, Option, None, Some}
use Rattle.sp_base.specs.declared.line.Line.{Line}
use Rattle.sp_base.specs.declared.location.Loc.{Loc}
use Rattle.sp_base.specs.Locs.{place}
use Rattle.sp_flow.specs.Flow.{rank, detail}
use Rattle.sp_flow.specs.code.Counts.{told, Made}
use Rattle.sp_flow.specs.code.Faults.{IsFirst, IsFirstKind}
use Rattle.sp_flow.specs.code.Least.{IsFirstLoc, IsLeast}
use Rattle.sp_flow.specs.declared.fault.Fault.{Fault}
use Rattle.sp_flow.specs.declared.refusal.FlowKind.{FlowKind}
use Rattle.sp_flow.proofs.FaultLemmas.{first_more, first_of_line}

told_is : {A : Type 0} (make : A → FlowKind) (o : Option A) (k : FlowKind) → told make o ≡ Some k → (a : A) × (o ≡ Some a) × (k ≡ make a)
told_is make None k e = absurd cc
told_is make (Some a) k e = (a, refl, cc)

pub loc_kind :
    (make : Loc → FlowKind) (Q : Loc → Type 0) (o : Option Loc) → ((x y : Loc) → rank (make x) ≡ rank (make y)) →
    ((x y : Loc) → place x ≤ place y → detail (make x) ≤ detail (make y)) → IsFirstLoc Q o → IsFirstKind (Made make Q) (told make o)
loc_kind make Q o ranks details is = record {
  found = λ k e. let t = told_is make o k e in (t.0, t.2, is.found t.0 t.1);
  least = λ k m.
      let b = is.least m.0 m.2 in
      (make b.0, ap (told make) b.1, ranks b.0 m.0 ∙ ap rank (sym m.1), subst (λ (j : FlowKind). detail (make b.0) ≤ detail j) (sym m.1) (details b.0 m.0 b.2));
}

pub number_kind :
    (make : ℕ → FlowKind) (Q : ℕ → Type 0) (o : Option ℕ) → ((x y : ℕ) → rank (make x) ≡ rank (make y)) →
    ((x y : ℕ) → x ≤ y → detail (make x) ≤ detail (make y)) → IsLeast Q o → IsFirstKind (Made make Q) (told make o)
number_kind make Q o ranks details is = record {
  found = λ k e. let t = told_is make o k e in (t.0, t.2, is.found t.0 t.1);
  least = λ k m.
      let b = is.least m.0 m.2 in
      (make b.0, ap (told make) b.1, ranks b.0 m.0 ∙ ap rank (sym m.1), subst (λ (j : FlowKind). detail (make b.0) ≤ detail j) (sym m.1) (details b.0 m.0 b.2));
}

-- the same faults, said otherwise
pub first_same : (Q R : Fault → Type 0) (best : Option Fault) → ((f : Fault) → Q f → R f) → ((f : Fault) → R f → Q f) → IsFirst Q best → IsFirst R best
first_same Q R best to from is = record { found = λ f e. to f (is.found f e); least = λ f r. is.least f (from f r) }

-- one kind more of a line
pub two_more :
    (S : Fault → Type 0) (line : Line) (R T : FlowKind → Type 0) (best more : Option Fault) (kind : Option FlowKind) →
    IsFirst (λ f. S f ⊎ ((f.line ≡ line) × R f.kind)) best → IsFirstKind T kind →
    IsFirst (λ f. (best ≡ Some f) ⊎ ((f.line ≡ line) × (kind ≡ Some f.kind))) more →
    IsFirst (λ f. S f ⊎ ((f.line ≡ line) × (R f.kind ⊎ T f.kind))) more
two_more S line R T best more kind old of_kind new =
    first_same (λ f. (S f ⊎ ((f.line ≡ line) × R f.kind)) ⊎ ((f.line ≡ line) × T f.kind)) (λ f. S f ⊎ ((f.line ≡ line) × (R f.kind ⊎ T f.kind))) more to from
    (first_more (λ f. S f ⊎ ((f.line ≡ line) × R f.kind)) (λ f. (f.line ≡ line) × T f.kind) best more old (first_of_line T best line kind more of_kind new))
  where
    to : (f : Fault) → (S f ⊎ ((f.line ≡ line) × R f.kind)) ⊎ ((f.line ≡ line) × T f.kind) → S f ⊎ ((f.line ≡ line) × (R f.kind ⊎ T f.kind))
    to f (inl (inl s)) = inl s
    to f (inl (inr (l, r))) = inr (l, inl r)
    to f (inr (l, t)) = inr (l, inr t)

    from : (f : Fault) → S f ⊎ ((f.line ≡ line) × (R f.kind ⊎ T f.kind)) → (S f ⊎ ((f.line ≡ line) × R f.kind)) ⊎ ((f.line ≡ line) × T f.kind)
    from f (inl s) = inl (inl s)
    from f (inr (l, inl r)) = inl (inr (l, r))
    from f (inr (l, inr t)) = inr (l, t)

-- the kinds of a line, said otherwise
pub line_same :
    (S : Fault → Type 0) (line : Line) (R T : FlowKind → Type 0) (best : Option Fault) → ((k : FlowKind) → R k → T k) → ((k : FlowKind) → T k → R k) →
    IsFirst (λ f. S f ⊎ ((f.line ≡ line) × R f.kind)) best → IsFirst (λ f. S f ⊎ ((f.line ≡ line) × T f.kind)) best
line_same S line R T best to from is =
    first_same (λ f. S f ⊎ ((f.line ≡ line) × R f.kind)) (λ f. S f ⊎ ((f.line ≡ line) × T f.kind)) best
    (λ f q. elim q as (λ o. S f ⊎ ((f.line ≡ line) × T f.kind)) [ inl s ↦ inl s | inr p ↦ inr (p.0, to f.kind p.1) ])
    (λ f q. elim q as (λ o. S f ⊎ ((f.line ≡ line) × R f.kind)) [ inl s ↦ inl s | inr p ↦ inr (p.0, from f.kind p.1) ]) is
