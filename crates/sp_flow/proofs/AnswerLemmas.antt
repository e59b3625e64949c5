-- A unit has one first rule that is broken.
use Rattle.std.proofs.Common.{◌≡◌, ◌<◌, ℕ, inl, inr, arith, ap, sym}
use Rattle.std.proofs.lemmas.Bool.{cases_order}
use Rattle.sp_base.specs.declared.location.Loc.{Loc}
use Rattle.sp_base.specs.declared.location.Loc.TheVariants as loc
use Rattle.sp_base.specs.Locs.{place}
use Rattle.sp_base.proofs.LocsLaws.{same_place}
use Rattle.sp_flow.specs.declared.refusal.FlowKind.{FlowKind}
use Rattle.sp_flow.specs.declared.refusal.FlowKind.TheVariants as kind
use Rattle.sp_flow.specs.declared.refusal.Spot.{Spot}
use Rattle.sp_flow.specs.declared.refusal.Spot.TheVariants as spot
use Rattle.sp_flow.specs.Flow.{CountsBefore, IsRefusedAt, rank, number, detail}
use Rattle.sp_prog.specs.Program.{Program}

pub place_low : (x : Loc) → place x < 12
place_low loc.A = omega arith
place_low loc.B = omega arith
place_low loc.C = omega arith
place_low loc.D = omega arith
place_low loc.E = omega arith
place_low loc.H = omega arith
place_low loc.L = omega arith
place_low loc.S = omega arith
place_low loc.Z = omega arith
place_low loc.Ac = omega arith
place_low loc.P = omega arith
place_low loc.Cy = omega arith

same_spot : (s t : Spot) → number s ≡ number t → s ≡ t
same_spot (spot.Loc x) (spot.Loc y) e = ap (λ z. spot.Loc z) (same_place x y e)
same_spot (spot.Loc x) (spot.Cell c) e = absurd (omega (arith, place_low x, e))
same_spot (spot.Cell c) (spot.Loc x) e = absurd (omega (arith, place_low x, e))
same_spot (spot.Cell c) (spot.Cell d) e = ap (λ z. spot.Cell z) (omega (arith, e))

same_kind : (k other : FlowKind) → rank k ≡ rank other → detail k ≡ detail other → k ≡ other
same_kind (kind.Uses s) (kind.Uses t) r d = ap (λ z. kind.Uses z) (same_spot s t d)
same_kind (kind.Writes a) (kind.Writes b) r d = ap (λ z. kind.Writes z) d
same_kind (kind.Port a) (kind.Port b) r d = ap (λ z. kind.Port z) d
same_kind (kind.CallsReads s) (kind.CallsReads t) r d = ap (λ z. kind.CallsReads z) (same_spot s t d)
same_kind (kind.Uses s) (kind.Writes b) r d = absurd (omega (arith, r))
same_kind (kind.Uses s) (kind.Port b) r d = absurd (omega (arith, r))
same_kind (kind.Uses s) (kind.CallsReads t) r d = absurd (omega (arith, r))
same_kind (kind.Writes a) (kind.Uses t) r d = absurd (omega (arith, r))
same_kind (kind.Writes a) (kind.Port b) r d = absurd (omega (arith, r))
same_kind (kind.Writes a) (kind.CallsReads t) r d = absurd (omega (arith, r))
same_kind (kind.Port a) (kind.Uses t) r d = absurd (omega (arith, r))
same_kind (kind.Port a) (kind.Writes b) r d = absurd (omega (arith, r))
same_kind (kind.Port a) (kind.CallsReads t) r d = absurd (omega (arith, r))
same_kind (kind.CallsReads s) (kind.Uses t) r d = absurd (omega (arith, r))
same_kind (kind.CallsReads s) (kind.Writes b) r d = absurd (omega (arith, r))
same_kind (kind.CallsReads s) (kind.Port b) r d = absurd (omega (arith, r))

-- of two that differ one counts before the other
compared :
    (line there : ℕ) (k other : FlowKind) → (CountsBefore line k there other → ⊥) → (CountsBefore there other line k → ⊥) →
    (line ≡ there) × (k ≡ other)
compared line there k other f g =
    elim (cases_order (rank k) (rank other)) as (λ o. (line ≡ there) × (k ≡ other)) [
      | inl same ↦ elim (cases_order line there) as (λ o. (line ≡ there) × (k ≡ other)) [
        | inl level ↦ elim (cases_order (detail k) (detail other)) as (λ o. (line ≡ there) × (k ≡ other)) [
          | inl e ↦ (level, same_kind k other same e)
          | inr o ↦ elim o [
            | inl l ↦ absurd (f (inr (same, inr (level, l))))
            | inr l ↦ absurd (g (inr (sym same, inr (sym level, l))))
          ]
        ]
        | inr o ↦ elim o [ inl l ↦ absurd (f (inr (same, inl l))) | inr l ↦ absurd (g (inr (sym same, inl l))) ]
      ]
      | inr o ↦ elim o [ inl l ↦ absurd (f (inl l)) | inr l ↦ absurd (g (inl l)) ]
    ]

pub one_refusal :
    (p : Program) (line there : ℕ) (k other : FlowKind) → IsRefusedAt p line k → IsRefusedAt p there other →
    (line ≡ there) × (k ≡ other)
one_refusal p line there k other a b =
    compared line there k other (b.first line k a.broken) (a.first there other b.broken)
