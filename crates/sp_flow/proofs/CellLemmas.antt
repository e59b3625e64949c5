-- Cells of areas, up to the first that is of none.
use Rattle.std.proofs.Common.{◌<◌, ◌≤◌, ℕ, inl, inr, arith, List, Option, None, Some}
use Rattle.std.proofs.lemmas.Bool.{cases_order}
use Rattle.sp_flow.specs.code.Least.{HasCell, HasEither, IsCovered, IsCoveredBy}
use Rattle.sp_prog.specs.declared.area.Area.{Area}

pub other_covered :
    (areas : List Area) (one other : List ℕ) (cell : ℕ) (end : Option ℕ) → (HasCell areas one cell → ⊥) → IsCovered areas other cell end →
    IsCoveredBy areas one other cell end
other_covered areas one other cell None f h = λ o. elim o as (λ q. ⊥) [ inl a ↦ f a | inr b ↦ h b ]
other_covered areas one other cell (Some end) f h = (h.0, λ c l m. inr (h.1 c l m))

pub more_covered :
    (areas : List Area) (one other : List ℕ) (first cell next : ℕ) →
    ((c : ℕ) → first ≤ c → c < cell → HasEither areas one other c) →
    ((c : ℕ) → cell ≤ c → c < next → HasEither areas one other c) →
    (c : ℕ) → first ≤ c → c < next → HasEither areas one other c
more_covered areas one other first cell next below above c l m =
    elim (cases_order c cell) as (λ o. HasEither areas one other c) [
      | inl same ↦ above c (omega (arith, same)) m
      | inr o ↦ elim o as (λ q. HasEither areas one other c) [ inl low ↦ below c l low | inr high ↦ above c (omega (arith, high)) m ]
    ]
