-- What an instruction and its callee break, kind by kind.
use Rattle.std.proofs.Common.{◌≡◌, ℕ, ◌⊎◌, inl, inr, arith, refl, sym, subst, List, Option, None, Some}
use Rattle.std.specs.Prelude.{Contains}
use Rattle.sp_base.specs.declared.line.Line.{Line}
use Rattle.sp_base.specs.declared.location.Loc.{Loc}
use Rattle.sp_flow.specs.Flow.{cells_read, cells_written, ports_in, ports_out}
use Rattle.sp_flow.specs.code.Counts.{Called, Direct, Made, Own, told}
use Rattle.sp_flow.specs.code.Faults.{IsFirst, IsFirstKind}
use Rattle.sp_flow.specs.code.Least.{HasCell, HasEither, IsFirstLoc, IsLeast, Lacks}
use Rattle.sp_flow.specs.declared.fault.Fault.{Fault}
use Rattle.sp_flow.specs.declared.refusal.FlowKind.{FlowKind}
use Rattle.sp_flow.specs.declared.refusal.FlowKind.TheVariants as kind
use Rattle.sp_flow.specs.declared.refusal.Spot.TheVariants as spot
use Rattle.sp_flow.proofs.FaultLemmas.{first_of_line}
use Rattle.sp_flow.proofs.PortLemmas.{least_same}
use Rattle.sp_flow.proofs.KindLemmas.{line_same, loc_kind, number_kind, two_more}
use Rattle.sp_isa.specs.Locations.{reads}
use Rattle.sp_isa.specs.declared.instr.Instr.{Instr}
use Rattle.sp_prog.specs.declared.area.Area.{Area}

-- five kinds of one line, one after another
pub five_more :
    (line : Line) (R1 R2 R3 R4 R5 : FlowKind → Type 0) (best b1 b2 b3 b4 b5 : Option Fault) (o1 o2 o3 o4 o5 : Option FlowKind) →
    IsFirstKind R1 o1 → IsFirstKind R2 o2 → IsFirstKind R3 o3 → IsFirstKind R4 o4 → IsFirstKind R5 o5 →
    IsFirst (λ f. (best ≡ Some f) ⊎ ((f.line ≡ line) × (o1 ≡ Some f.kind))) b1 →
    IsFirst (λ f. (b1 ≡ Some f) ⊎ ((f.line ≡ line) × (o2 ≡ Some f.kind))) b2 →
    IsFirst (λ f. (b2 ≡ Some f) ⊎ ((f.line ≡ line) × (o3 ≡ Some f.kind))) b3 →
    IsFirst (λ f. (b3 ≡ Some f) ⊎ ((f.line ≡ line) × (o4 ≡ Some f.kind))) b4 →
    IsFirst (λ f. (b4 ≡ Some f) ⊎ ((f.line ≡ line) × (o5 ≡ Some f.kind))) b5 →
    IsFirst (λ f. (best ≡ Some f) ⊎ ((f.line ≡ line) × ((((R1 f.kind ⊎ R2 f.kind) ⊎ R3 f.kind) ⊎ R4 f.kind) ⊎ R5 f.kind))) b5
five_more line R1 R2 R3 R4 R5 best b1 b2 b3 b4 b5 o1 o2 o3 o4 o5 k1 k2 k3 k4 k5 f1 f2 f3 f4 f5 =
    let one = first_of_line R1 best line o1 b1 k1 f1 in
    let two = two_more (λ f. best ≡ Some f) line R1 R2 b1 b2 o2 one k2 f2 in
    let three = two_more (λ f. best ≡ Some f) line (λ k. R1 k ⊎ R2 k) R3 b2 b3 o3 two k3 f3 in
    let four = two_more (λ f. best ≡ Some f) line (λ k. (R1 k ⊎ R2 k) ⊎ R3 k) R4 b3 b4 o4 three k4 f4 in
    two_more (λ f. best ≡ Some f) line (λ k. ((R1 k ⊎ R2 k) ⊎ R3 k) ⊎ R4 k) R5 b4 b5 o5 four k5 f5

module _ (areas : List Area) (r : Own) (i : Instr) (unset : ℕ) where
  abbrev pub Loc1 : FlowKind → Type 0
  Loc1 = Made (λ x. kind.Uses (spot.Loc x)) (Lacks (reads i) r.locs unset)

  abbrev pub Cell2 : FlowKind → Type 0
  Cell2 = Made (λ n. kind.Uses (spot.Cell n)) (λ n. Contains (cells_read i) n × (HasEither areas r.reads r.changes n → ⊥))

  abbrev pub Cell3 : FlowKind → Type 0
  Cell3 = Made (λ n. kind.Writes n) (λ n. Contains (cells_written i) n × (HasEither areas r.changes r.changes n → ⊥))

  abbrev pub Port4 : FlowKind → Type 0
  Port4 = Made (λ n. kind.Port n) (λ n. Contains (ports_in i) n × (Contains r.ins n → ⊥))

  abbrev pub Port5 : FlowKind → Type 0
  Port5 = Made (λ n. kind.Port n) (λ n. Contains (ports_out i) n × (Contains r.outs n → ⊥))

  direct_to : (k : FlowKind) → (((Loc1 k ⊎ Cell2 k) ⊎ Cell3 k) ⊎ Port4 k) ⊎ Port5 k → Direct areas r i unset k
  direct_to k (inl (inl (inl (inl (x, e, h))))) = subst (λ (j : FlowKind). Direct areas r i unset j) (sym e) h
  direct_to k (inl (inl (inl (inr (n, e, h))))) = subst (λ (j : FlowKind). Direct areas r i unset j) (sym e) h
  direct_to k (inl (inl (inr (n, e, h)))) = subst (λ (j : FlowKind). Direct areas r i unset j) (sym e) h
  direct_to k (inl (inr (n, e, h))) = subst (λ (j : FlowKind). Direct areas r i unset j) (sym e) (inl h)
  direct_to k (inr (n, e, h)) = subst (λ (j : FlowKind). Direct areas r i unset j) (sym e) (inr h)

  direct_from : (k : FlowKind) → Direct areas r i unset k → (((Loc1 k ⊎ Cell2 k) ⊎ Cell3 k) ⊎ Port4 k) ⊎ Port5 k
  direct_from (kind.Uses (spot.Loc x)) h = inl (inl (inl (inl (x, refl, h))))
  direct_from (kind.Uses (spot.Cell n)) h = inl (inl (inl (inr (n, refl, h))))
  direct_from (kind.Writes n) h = inl (inl (inr (n, refl, h)))
  direct_from (kind.Port n) (inl h) = inl (inr (n, refl, h))
  direct_from (kind.Port n) (inr h) = inr (n, refl, h)
  direct_from (kind.CallsReads at) h = absurd h

  pub direct_all :
      (line : Line) (best b5 : Option Fault) →
      IsFirst (λ f. (best ≡ Some f) ⊎ ((f.line ≡ line) × ((((Loc1 f.kind ⊎ Cell2 f.kind) ⊎ Cell3 f.kind) ⊎ Port4 f.kind) ⊎ Port5 f.kind))) b5 →
      IsFirst (λ f. (best ≡ Some f) ⊎ ((f.line ≡ line) × Direct areas r i unset f.kind)) b5
  direct_all line best b5 is =
      line_same (λ f. best ≡ Some f) line (λ k. (((Loc1 k ⊎ Cell2 k) ⊎ Cell3 k) ⊎ Port4 k) ⊎ Port5 k) (Direct areas r i unset) b5 direct_to direct_from is

pub uses_loc_kind : (Q : Loc → Type 0) (o : Option Loc) → IsFirstLoc Q o → IsFirstKind (Made (λ x. kind.Uses (spot.Loc x)) Q) (told (λ x. kind.Uses (spot.Loc x)) o)
uses_loc_kind Q o is = loc_kind (λ x. kind.Uses (spot.Loc x)) Q o (λ x y. refl) (λ x y l. l) is

pub uses_cell_kind : (Q : ℕ → Type 0) (o : Option ℕ) → IsLeast Q o → IsFirstKind (Made (λ n. kind.Uses (spot.Cell n)) Q) (told (λ n. kind.Uses (spot.Cell n)) o)
uses_cell_kind Q o is = number_kind (λ n. kind.Uses (spot.Cell n)) Q o (λ x y. refl) (λ x y l. omega (arith, l)) is

pub writes_kind : (Q : ℕ → Type 0) (o : Option ℕ) → IsLeast Q o → IsFirstKind (Made (λ n. kind.Writes n) Q) (told (λ n. kind.Writes n) o)
writes_kind Q o is = number_kind (λ n. kind.Writes n) Q o (λ x y. refl) (λ x y l. l) is

pub port_kind : (Q : ℕ → Type 0) (o : Option ℕ) → IsLeast Q o → IsFirstKind (Made (λ n. kind.Port n) Q) (told (λ n. kind.Port n) o)
port_kind Q o is = number_kind (λ n. kind.Port n) Q o (λ x y. refl) (λ x y l. l) is

pub calls_loc_kind : (Q : Loc → Type 0) (o : Option Loc) → IsFirstLoc Q o → IsFirstKind (Made (λ x. kind.CallsReads (spot.Loc x)) Q) (told (λ x. kind.CallsReads (spot.Loc x)) o)
calls_loc_kind Q o is = loc_kind (λ x. kind.CallsReads (spot.Loc x)) Q o (λ x y. refl) (λ x y l. l) is

pub calls_cell_kind : (Q : ℕ → Type 0) (o : Option ℕ) → IsLeast Q o → IsFirstKind (Made (λ n. kind.CallsReads (spot.Cell n)) Q) (told (λ n. kind.CallsReads (spot.Cell n)) o)
calls_cell_kind Q o is = number_kind (λ n. kind.CallsReads (spot.Cell n)) Q o (λ x y. refl) (λ x y l. omega (arith, l)) is

-- a kind that the code tells
pub by_told : (R : FlowKind → Type 0) (o t : Option FlowKind) → o ≡ t → IsFirstKind R t → IsFirstKind R o
by_told R o t e is = subst (λ (p : Option FlowKind). IsFirstKind R p) (sym e) is

-- the least where nothing was so far
pub from_none : (Q : ℕ → Type 0) (o : Option ℕ) → IsLeast (λ n. (None ≡ Some n) ⊎ Q n) o → IsLeast Q o
from_none Q o is = least_same (λ n. (None ≡ Some n) ⊎ Q n) Q o (λ n q. elim q as (λ r. Q n) [ inl e ↦ absurd cc | inr h ↦ h ]) (λ n h. inr h) is

module _ (areas : List Area) (r callee : Own) (unset : ℕ) where
  abbrev pub Changed1 : FlowKind → Type 0
  Changed1 = Made (λ n. kind.Writes n) (λ n. HasCell areas callee.changes n × (HasEither areas r.changes r.changes n → ⊥))

  abbrev pub Taken2 : FlowKind → Type 0
  Taken2 = Made (λ n. kind.Port n) (λ n. Contains callee.ins n × (Contains r.ins n → ⊥))

  abbrev pub Put3 : FlowKind → Type 0
  Put3 = Made (λ n. kind.Port n) (λ n. Contains callee.outs n × (Contains r.outs n → ⊥))

  abbrev pub Reads4 : FlowKind → Type 0
  Reads4 = Made (λ x. kind.CallsReads (spot.Loc x)) (Lacks callee.locs r.locs unset)

  abbrev pub Reads5 : FlowKind → Type 0
  Reads5 = Made (λ n. kind.CallsReads (spot.Cell n)) (λ n. HasCell areas callee.reads n × (HasEither areas r.reads r.changes n → ⊥))

  called_to : (k : FlowKind) → (((Changed1 k ⊎ Taken2 k) ⊎ Put3 k) ⊎ Reads4 k) ⊎ Reads5 k → Called areas r callee unset k
  called_to k (inl (inl (inl (inl (n, e, h))))) = subst (λ (j : FlowKind). Called areas r callee unset j) (sym e) h
  called_to k (inl (inl (inl (inr (n, e, h))))) = subst (λ (j : FlowKind). Called areas r callee unset j) (sym e) (inl h)
  called_to k (inl (inl (inr (n, e, h)))) = subst (λ (j : FlowKind). Called areas r callee unset j) (sym e) (inr h)
  called_to k (inl (inr (x, e, h))) = subst (λ (j : FlowKind). Called areas r callee unset j) (sym e) h
  called_to k (inr (n, e, h)) = subst (λ (j : FlowKind). Called areas r callee unset j) (sym e) h

  called_from : (k : FlowKind) → Called areas r callee unset k → (((Changed1 k ⊎ Taken2 k) ⊎ Put3 k) ⊎ Reads4 k) ⊎ Reads5 k
  called_from (kind.Uses at) h = absurd h
  called_from (kind.Writes n) h = inl (inl (inl (inl (n, refl, h))))
  called_from (kind.Port n) (inl h) = inl (inl (inl (inr (n, refl, h))))
  called_from (kind.Port n) (inr h) = inl (inl (inr (n, refl, h)))
  called_from (kind.CallsReads (spot.Loc x)) h = inl (inr (x, refl, h))
  called_from (kind.CallsReads (spot.Cell n)) h = inr (n, refl, h)

  pub called_all :
      (line : Line) (best b5 : Option Fault) →
      IsFirst (λ f. (best ≡ Some f) ⊎ ((f.line ≡ line) × ((((Changed1 f.kind ⊎ Taken2 f.kind) ⊎ Put3 f.kind) ⊎ Reads4 f.kind) ⊎ Reads5 f.kind))) b5 →
      IsFirst (λ f. (best ≡ Some f) ⊎ ((f.line ≡ line) × Called areas r callee unset f.kind)) b5
  called_all line best b5 is =
      line_same (λ f. best ≡ Some f) line (λ k. (((Changed1 k ⊎ Taken2 k) ⊎ Put3 k) ⊎ Reads4 k) ⊎ Reads5 k) (Called areas r callee unset) b5 called_to called_from is
