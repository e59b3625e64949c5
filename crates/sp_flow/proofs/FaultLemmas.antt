-- The order of broken rules.
use Rattle.std.proofs.Common.{◌≡◌, ◌<◌, ◌≤◌, ℕ, ◌⊎◌, inl, inr, arith, refl, ap, sym, ◌∙◌, Option, Some}
use Rattle.std.proofs.lemmas.Bool.{cases_order}
use Rattle.sp_base.specs.declared.line.Line.{Line}
use Rattle.sp_flow.specs.Flow.{rank, detail}
use Rattle.sp_flow.specs.code.Faults.{Before, IsFirst, IsFirstKind}
use Rattle.sp_flow.specs.declared.fault.Fault.{Fault}
use Rattle.sp_flow.specs.declared.refusal.FlowKind.{FlowKind}

-- lists of three numbers, the first counting most
abbrev Lex : ℕ → ℕ → ℕ → ℕ → ℕ → ℕ → Type 0
Lex a b c d e f = (a < d) ⊎ ((a ≡ d) × ((b < e) ⊎ ((b ≡ e) × (c < f))))

lex_trans : (a b c d e f g h i : ℕ) → Lex a b c d e f → Lex d e f g h i → Lex a b c g h i
lex_trans a b c d e f g h i (inl l) (inl m) = inl (omega (arith, l, m))
lex_trans a b c d e f g h i (inl l) (inr q) = inl (let s = q.0 in omega (arith, l, s))
lex_trans a b c d e f g h i (inr p) (inl m) = inl (let s = p.0 in omega (arith, s, m))
lex_trans a b c d e f g h i (inr (s, inl l)) (inr (t, inl m)) = inr (s ∙ t, inl (omega (arith, l, m)))
lex_trans a b c d e f g h i (inr (s, inl l)) (inr (t, inr q)) = inr (s ∙ t, inl (let v = q.0 in omega (arith, l, v)))
lex_trans a b c d e f g h i (inr (s, inr p)) (inr (t, inl m)) = inr (s ∙ t, inl (let v = p.0 in omega (arith, v, m)))
lex_trans a b c d e f g h i (inr (s, inr p)) (inr (t, inr q)) =
    inr (s ∙ t, inr (p.0 ∙ q.0, (let l = p.1 in let m = q.1 in omega (arith, l, m))))

lex_total : (a b c d e f : ℕ) → Lex a b c d e f ⊎ (Lex d e f a b c ⊎ ((a ≡ d) × (b ≡ e) × (c ≡ f)))
lex_total a b c d e f =
    elim (cases_order a d) as (λ o. Lex a b c d e f ⊎ (Lex d e f a b c ⊎ ((a ≡ d) × (b ≡ e) × (c ≡ f)))) [
      | inl s ↦ elim (cases_order b e) as (λ o. Lex a b c d e f ⊎ (Lex d e f a b c ⊎ ((a ≡ d) × (b ≡ e) × (c ≡ f)))) [
        | inl t ↦ elim (cases_order c f) as (λ o. Lex a b c d e f ⊎ (Lex d e f a b c ⊎ ((a ≡ d) × (b ≡ e) × (c ≡ f)))) [
          | inl u ↦ inr (inr (s, t, u))
          | inr o ↦ elim o as (λ q. Lex a b c d e f ⊎ (Lex d e f a b c ⊎ ((a ≡ d) × (b ≡ e) × (c ≡ f)))) [
            | inl l ↦ inl (inr (s, inr (t, l)))
            | inr l ↦ inr (inl (inr (sym s, inr (sym t, l))))
          ]
        ]
        | inr o ↦ elim o as (λ q. Lex a b c d e f ⊎ (Lex d e f a b c ⊎ ((a ≡ d) × (b ≡ e) × (c ≡ f))))
            [ inl l ↦ inl (inr (s, inl l)) | inr l ↦ inr (inl (inr (sym s, inl l))) ]
      ]
      | inr o ↦ elim o as (λ q. Lex a b c d e f ⊎ (Lex d e f a b c ⊎ ((a ≡ d) × (b ≡ e) × (c ≡ f))))
          [ inl l ↦ inl (inl l) | inr l ↦ inr (inl (inl l)) ]
    ]

lex_same : (a b c d e f g h i : ℕ) → (a ≡ d) × (b ≡ e) × (c ≡ f) → Lex a b c g h i → Lex d e f g h i
lex_same a b c d e f g h i (s, t, u) l = rw (← s, ← t, ← u) l

-- what isn't before one that isn't before a third isn't before the third
not_before : (x y z : Fault) → (Before x y → ⊥) → (Before y z → ⊥) → Before x z → ⊥
not_before x y z f g h =
    elim (lex_total (rank x.kind) x.line.0 (detail x.kind) (rank y.kind) y.line.0 (detail y.kind)) as (λ o. ⊥) [
      | inl l ↦ f l
      | inr o ↦ elim o as (λ q. ⊥) [
        | inl l ↦ g (lex_trans (rank y.kind) y.line.0 (detail y.kind) (rank x.kind) x.line.0 (detail x.kind) (rank z.kind) z.line.0 (detail z.kind) l h)
        | inr same ↦ g (lex_same (rank x.kind) x.line.0 (detail x.kind) (rank y.kind) y.line.0 (detail y.kind) (rank z.kind) z.line.0 (detail z.kind) same h)
      ]
    ]

-- more broken rules beside those so far
pub first_more :
    (Q N : Fault → Type 0) (best more : Option Fault) → IsFirst Q best → IsFirst (λ f. (best ≡ Some f) ⊎ N f) more → IsFirst (λ f. Q f ⊎ N f) more
first_more Q N best more old new = record {
  found = λ f e. elim (new.found f e) as (λ o. Q f ⊎ N f) [ inl b ↦ inl (old.found f b) | inr n ↦ inr n ];
  least = λ f q. elim q as (λ o. (b : Fault) × (more ≡ Some b) × (Before f b → ⊥)) [
    | inl o ↦
        let b = old.least f o in
        let c = new.least b.0 (inl b.1) in
        (c.0, c.1, not_before f b.0 c.0 b.2 c.2)
    | inr n ↦ new.least f (inr n)
  ];
}

-- the first kind of a line stands for all of that line
pub first_of_line :
    (R : FlowKind → Type 0) (best : Option Fault) (line : Line) (kind : Option FlowKind) (more : Option Fault) → IsFirstKind R kind →
    IsFirst (λ f. (best ≡ Some f) ⊎ ((f.line ≡ line) × (kind ≡ Some f.kind))) more →
    IsFirst (λ f. (best ≡ Some f) ⊎ ((f.line ≡ line) × R f.kind)) more
first_of_line R best line kind more of_kind new = record {
  found = λ f e. elim (new.found f e) as (λ o. (best ≡ Some f) ⊎ ((f.line ≡ line) × R f.kind))
      [ inl b ↦ inl b | inr n ↦ inr (n.0, of_kind.found f.kind n.1) ];
  least = λ f q. elim q as (λ o. (b : Fault) × (more ≡ Some b) × (Before f b → ⊥)) [
    | inl o ↦ new.least f (inl o)
    | inr n ↦
        let b = of_kind.least f.kind n.1 in
        let here : Fault = record { line = line; kind = b.0 } in
        let c = new.least here (inr (refl, b.1)) in
        (c.0, c.1, not_before f here c.0 (same_line f here n.0 b.2 b.3) c.2)
  ];
}
  where
    same_line : (f here : Fault) → f.line ≡ here.line → rank here.kind ≡ rank f.kind → detail here.kind ≤ detail f.kind → Before f here → ⊥
    same_line f here l r d (inl low) = omega (arith, r, low)
    same_line f here l r d (inr (s, inl low)) = let e : f.line.0 ≡ here.line.0 = ap (λ (x : Line). x.0) l in omega (arith, e, low)
    same_line f here l r d (inr (s, inr q)) = let low = q.1 in omega (arith, d, low)
