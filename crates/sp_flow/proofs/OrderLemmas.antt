-- The first rule that a unit of one instruction breaks.
use Rattle.std.proofs.Common.{◌≡◌, ◌<◌, ℕ, zero, suc, inl, inr, arith, refl, sym, ◌∙◌, true≢false, false, [], ◌∷◌, get_or}
use Rattle.std.specs.Prelude.{Contains, IsTrue, ⊤}
use Rattle.sp_base.specs.declared.location.Loc.TheVariants as loc
use Rattle.sp_base.specs.declared.locs.Locs.{Locs}
use Rattle.sp_base.specs.Locs.{none, only, has}
use Rattle.sp_base.proofs.LocsLaws.{has_none}
use Rattle.sp_flow.specs.declared.refusal.FlowKind.{FlowKind}
use Rattle.sp_flow.specs.declared.refusal.FlowKind.TheVariants as kind
use Rattle.sp_flow.specs.declared.refusal.Spot.TheVariants as spot
use Rattle.sp_flow.specs.Examples.{unit, routine, lists}
use Rattle.sp_flow.specs.Flow.{IsBroken, IsRefusedAt, CountsBefore}
use Rattle.sp_flow.specs.Unset.WalkTo.{entry}
use Rattle.sp_flow.proofs.ExampleLemmas.{at_first, on_line, no_callee, none_in, not_in_none}
use Rattle.sp_isa.specs.declared.instr.Instr.TheVariants.{Sta}

-- what STA can break: a location that isn't in `reads`, or its cell
abbrev Facts : Locs → FlowKind → Type 0
Facts locs (kind.Uses (spot.Loc x)) = IsTrue (has x (only loc.A)) × (has x locs ≡ false)
Facts locs (kind.Uses (spot.Cell cell)) = ⊥
Facts locs (kind.Writes cell) = Contains (0x2000 ∷ []) cell
Facts locs _ = ⊤

module _ (locs : Locs) where
  broken_is : (line : ℕ) (k : FlowKind) → IsBroken (unit (Sta 0x2000) 1 locs [] []) line k → (line ≡ 6) × Facts locs k
  broken_is line (kind.Uses (spot.Loc x)) b =
      let f = at_first (Sta 0x2000) 1 locs [] [] line _ b in (on_line (Sta 0x2000) 1 locs [] [] line _ b, (rw f.1 at f.2.0, f.2.1.0))
  broken_is line (kind.Uses (spot.Cell cell)) b =
      let f = at_first (Sta 0x2000) 1 locs [] [] line _ b in
      absurd (none_in cell (rw f.1 at f.2.0))
  broken_is line (kind.Writes cell) b =
      let f = at_first (Sta 0x2000) 1 locs [] [] line _ b in (
        on_line (Sta 0x2000) 1 locs [] [] line _ b,
        elim f.2.0 as (λ o. Contains (0x2000 ∷ []) cell) [
          | inl c ↦ rw f.1 at c
          | inr c ↦ absurd (no_callee (Sta 0x2000) 1 locs [] [] refl f.0 c.0 f.1 c.1)
        ],
      )
  broken_is line (kind.Port port) b = (on_line (Sta 0x2000) 1 locs [] [] line _ b, tt)
  broken_is line (kind.CallsReads (spot.Loc x)) b = (on_line (Sta 0x2000) 1 locs [] [] line _ b, tt)
  broken_is line (kind.CallsReads (spot.Cell cell)) b = (on_line (Sta 0x2000) 1 locs [] [] line _ b, tt)

only_cell : (x : ℕ) → Contains (0x2000 ∷ []) x → x ≡ 0x2000
only_cell x c = sym (here c.0 c.1 c.2)
  where
    here : (k : ℕ) → k < 1 → get_or (0x2000 ∷ []) k x ≡ x → 0x2000 ≡ x
    here zero l e = e
    here (suc k) l e = absurd (omega (arith, l))

none_before_uses : (there : ℕ) (other : FlowKind) → there ≡ 6 → CountsBefore there other 6 (kind.Uses (spot.Loc loc.A)) → ⊥
none_before_uses there other e before = elim before as (λ o. ⊥) [
  | inl l ↦ omega (arith, l)
  | inr p ↦ elim p.1 as (λ o. ⊥) [ inl l ↦ omega (arith, l, e) | inr q ↦ let low = q.1 in omega (arith, low) ]
]

none_before_writes : (there : ℕ) (other : FlowKind) → there ≡ 6 → Facts (only loc.A) other → CountsBefore there other 6 (kind.Writes 0x2000) → ⊥
none_before_writes there (kind.Uses (spot.Loc x)) e f before = true≢false (sym f.0 ∙ f.1)
none_before_writes there (kind.Uses (spot.Cell cell)) e f before = f
none_before_writes there (kind.Writes cell) e f before =
    let same = only_cell cell f in
    elim before as (λ o. ⊥) [
      | inl l ↦ omega (arith, l)
      | inr p ↦ elim p.1 as (λ o. ⊥) [ inl l ↦ omega (arith, l, e) | inr q ↦ let low = q.1 in omega (arith, low, same) ]
    ]
none_before_writes there (kind.Port port) e f before =
    elim before as (λ o. ⊥) [ inl l ↦ omega (arith, l) | inr p ↦ let r = p.0 in omega (arith, r) ]
none_before_writes there (kind.CallsReads s) e f before =
    elim before as (λ o. ⊥) [ inl l ↦ omega (arith, l) | inr p ↦ let r = p.0 in omega (arith, r) ]

uses_broken : IsBroken (unit (Sta 0x2000) 1 none [] []) 6 (kind.Uses (spot.Loc loc.A))
unfolding has only
uses_broken = (
  0,
  0,
  routine (Sta 0x2000) none [] [],
  _,
  record { among = refl; within = refl },
  refl,
  (refl, (has_none loc.A, ([], entry, λ s c. absurd (none_in s c)))),
)

writes_broken : IsBroken (unit (Sta 0x2000) 1 (only loc.A) [] []) 6 (kind.Writes 0x2000)
writes_broken = (
  0,
  0,
  routine (Sta 0x2000) (only loc.A) [] [],
  _,
  record { among = refl; within = refl },
  refl,
  (inl (0, omega arith, refl), λ l. not_in_none (Sta 0x2000) 1 (only loc.A) [] [] (lists none []) 0x2000 refl l),
)

pub uses_first : IsRefusedAt (unit (Sta 0x2000) 1 none [] []) 6 (kind.Uses (spot.Loc loc.A))
uses_first = record {
  broken = uses_broken;
  first = λ there other b. none_before_uses there other (broken_is none there other b).0;
}

pub writes_first : IsRefusedAt (unit (Sta 0x2000) 1 (only loc.A) [] []) 6 (kind.Writes 0x2000)
writes_first = record {
  broken = writes_broken;
  first = λ there other b. let is = broken_is (only loc.A) there other b in none_before_writes there other is.0 is.1;
}
