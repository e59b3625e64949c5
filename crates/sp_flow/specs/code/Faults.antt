-- The first broken rule of several.
use Rattle.std.specs.Prelude.{◌≡◌, ◌≤◌, Option, Some}
use Rattle.sp_flow.specs.Flow.{CountsBefore, rank, detail}
use Rattle.sp_flow.specs.declared.fault.Fault.{Fault}
use Rattle.sp_flow.specs.declared.refusal.FlowKind.{FlowKind}

abbrev pub Before : Fault → Fault → Type 0
Before one other = CountsBefore one.line.0 one.kind other.line.0 other.kind

-- the first of the broken rules that are so
pub record IsFirst (Q : Fault → Type 0) (best : Option Fault) : Type 0 where
  pub found : (f : Fault) → best ≡ Some f → Q f
  pub least : (f : Fault) → Q f → (b : Fault) × (best ≡ Some b) × (Before f b → ⊥)

-- the first of the kinds that are so, which are of one rank
pub record IsFirstKind (R : FlowKind → Type 0) (best : Option FlowKind) : Type 0 where
  pub found : (k : FlowKind) → best ≡ Some k → R k
  pub least : (k : FlowKind) → R k → (b : FlowKind) × (best ≡ Some b) × (rank b ≡ rank k) × (detail b ≤ detail k)
