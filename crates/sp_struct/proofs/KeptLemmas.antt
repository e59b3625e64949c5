-- Which kinds are broken first.
use Rattle.std.proofs.Common.{◌≡◌, ◌≢◌, ◌<◌, ◌≤◌, ◌+◌, ℕ, ◌⊎◌, inl, inr, arith, Option, None, Some, refl, sym, ap, ◌∙◌, if◌then◌else◌}
use Rattle.std.proofs.lemmas.Bool.{cases_order}
use Rattle.sp_base.specs.declared.line.Line.{Line}
use Rattle.std.specs.Prelude.{ℤ, nat_eq}
use Rattle.sp_graph.specs.Structure.{IsStructured, DiffersInDepth}
use Rattle.sp_prog.specs.Program.{Program}
use Rattle.sp_struct.specs.Kinds.{IsLowestLine, IsLowestDifference}
use Rattle.sp_struct.specs.Refusals.{BreaksRule, IsRefusedAt, rank}
use Rattle.sp_struct.specs.code.Kept.{AreKept}
use Rattle.sp_struct.specs.declared.differences.Difference.{Difference}
use Rattle.sp_struct.specs.declared.refusal.StructKind.{StructKind}
use Rattle.sp_struct.specs.declared.refusal.StructKind.TheVariants as kind
use Rattle.sp_struct.proofs.RefusalLemmas.{structured}

-- the kind with a number, other than 7
abbrev kind_of : ℕ → StructKind
kind_of n =
    if nat_eq n 0 then kind.JumpOut else
    if nat_eq n 1 then kind.FallsOff else
    if nat_eq n 2 then kind.CallOut else
    if nat_eq n 3 then kind.Recursion else
    if nat_eq n 4 then kind.Computed else
    if nat_eq n 5 then kind.StackPointer else
    if nat_eq n 6 then kind.Unreached else
    if nat_eq n 8 then kind.PopsReturn else
    if nat_eq n 9 then kind.OverDepth else
    if nat_eq n 10 then kind.NoSlot else
    if nat_eq n 11 then kind.UncutLoop else
    if nat_eq n 12 then kind.ReturnInStart else
    kind.CodeWritten

kind_back : (k : StructKind) → (kind_of (rank k) ≡ k) ⊎ (rank k ≡ 7)
kind_back kind.JumpOut = inl refl
kind_back kind.FallsOff = inl refl
kind_back kind.CallOut = inl refl
kind_back kind.Recursion = inl refl
kind_back kind.Computed = inl refl
kind_back kind.StackPointer = inl refl
kind_back kind.Unreached = inl refl
kind_back (kind.Depth a b) = inr refl
kind_back kind.PopsReturn = inl refl
kind_back kind.OverDepth = inl refl
kind_back kind.NoSlot = inl refl
kind_back kind.UncutLoop = inl refl
kind_back kind.ReturnInStart = inl refl
kind_back kind.CodeWritten = inl refl

-- kinds with one number are one, other than those of depths
pub same_kind : (k other : StructKind) → rank k ≡ rank other → rank k ≢ 7 → k ≡ other
same_kind k other e plain = elim (kind_back k) as (λ o. k ≡ other) [
  | inl a ↦ elim (kind_back other) as (λ o. k ≡ other) [ inl b ↦ sym a ∙ ap kind_of e ∙ b | inr b ↦ absurd (plain (e ∙ b)) ]
  | inr a ↦ absurd (plain a)
]

rank_low : (k : StructKind) → rank k < 14
rank_low kind.JumpOut = omega arith
rank_low kind.FallsOff = omega arith
rank_low kind.CallOut = omega arith
rank_low kind.Recursion = omega arith
rank_low kind.Computed = omega arith
rank_low kind.StackPointer = omega arith
rank_low kind.Unreached = omega arith
rank_low (kind.Depth a b) = omega arith
rank_low kind.PopsReturn = omega arith
rank_low kind.OverDepth = omega arith
rank_low kind.NoSlot = omega arith
rank_low kind.UncutLoop = omega arith
rank_low kind.ReturnInStart = omega arith
rank_low kind.CodeWritten = omega arith

-- ---- Steps

module _ (p : Program) where
  pub none_kept : AreKept p 0
  none_kept = record { kept = λ k line b. omega arith }

  higher : (m n : ℕ) → m ≤ n → m ≢ n → m + 1 ≤ n
  higher m n l ne = omega (arith, l, ne)

  module _ (k : StructKind) (plain : rank k ≢ 7) (kept : AreKept p (rank k)) where
    pub refused : (best : Option Line) → IsLowestLine (BreaksRule p k) best → (line : Line) → best ≡ Some line → IsRefusedAt p line.0 k
    refused best low line e = record {
      broken = low.found line e;
      first = λ other there b. elim (cases_order (rank k) (rank other)) as (λ o. (rank k < rank other) ⊎ ((rank k ≡ rank other) × (line.0 ≤ there))) [
        | inl same ↦
            let is = same_kind k other same plain in
            let found = low.least there (rw is b) in
            let one : found.0 ≡ line = let f = found.1 in cc (f, e) in
            inr (same, rw (← one) found.2)
        | inr o ↦ elim o as (λ o. (rank k < rank other) ⊎ ((rank k ≡ rank other) × (line.0 ≤ there)))
            [ inl l ↦ inl l | inr l ↦ absurd (let m = kept.kept other there b in omega (arith, l, m)) ]
      ];
    }

    pub kept_more : IsLowestLine (BreaksRule p k) None → AreKept p (rank k + 1)
    kept_more low = record {
      kept = λ other line b. higher (rank k) (rank other) (kept.kept other line b) (λ same.
          let is = same_kind k other same plain in
          let found = low.least line (rw is b) in absurd (let f = found.1 in cc f));
    }

  -- ---- Depths

  pub depth_of : (k : StructKind) (line : ℕ) → rank k ≡ 7 → BreaksRule p k line → (a : ℤ) × (b : ℤ) × DiffersInDepth p line a b × (k ≡ kind.Depth a b)
  depth_of kind.JumpOut line e b = absurd (omega (arith, e))
  depth_of kind.FallsOff line e b = absurd (omega (arith, e))
  depth_of kind.CallOut line e b = absurd (omega (arith, e))
  depth_of kind.Recursion line e b = absurd (omega (arith, e))
  depth_of kind.Computed line e b = absurd (omega (arith, e))
  depth_of kind.StackPointer line e b = absurd (omega (arith, e))
  depth_of kind.Unreached line e b = absurd (omega (arith, e))
  depth_of (kind.Depth x y) line e b = (x, y, b, refl)
  depth_of kind.PopsReturn line e b = absurd (omega (arith, e))
  depth_of kind.OverDepth line e b = absurd (omega (arith, e))
  depth_of kind.NoSlot line e b = absurd (omega (arith, e))
  depth_of kind.UncutLoop line e b = absurd (omega (arith, e))
  depth_of kind.ReturnInStart line e b = absurd (omega (arith, e))
  depth_of kind.CodeWritten line e b = absurd (omega (arith, e))

  module _ (kept : AreKept p 7) where
    pub refused_depth : (best : Option Difference) → IsLowestDifference p best → (d : Difference) → best ≡ Some d → IsRefusedAt p d.line.0 (kind.Depth d.after d.other)
    refused_depth best low d e = record {
      broken = low.found d e;
      first = λ other there b. elim (cases_order 7 (rank other)) as (λ o. (7 < rank other) ⊎ ((7 ≡ rank other) × (d.line.0 ≤ there))) [
        | inl same ↦
            let differs = depth_of other there (sym same) b in
            let found = low.least there differs.0 differs.1 differs.2 in
            let one : found.0 ≡ d = let f = found.1 in cc (f, e) in
            inr (same, rw (← one) found.2)
        | inr o ↦ elim o as (λ o. (7 < rank other) ⊎ ((7 ≡ rank other) × (d.line.0 ≤ there)))
            [ inl l ↦ inl l | inr l ↦ absurd (let m = kept.kept other there b in omega (arith, l, m)) ]
      ];
    }

    pub kept_depth : IsLowestDifference p None → AreKept p 8
    kept_depth low = record {
      kept = λ other line b. higher 7 (rank other) (kept.kept other line b) (λ same.
          let differs = depth_of other line (sym same) b in
          let found = low.least line differs.0 differs.1 differs.2 in absurd (let f = found.1 in cc f));
    }

  pub all_kept : AreKept p 14 → IsStructured p
  all_kept a = structured p (λ k line b. let l = rank_low k in let m = a.kept k line b in omega (arith, l, m))
