-- Units of one instruction that keep all rules on flow, or break one.
use Rattle.std.proofs.Common.{◌≡◌, ◌<◌, ◌+◌, ℕ, zero, suc, inl, inr, arith, refl, ap, sym, ◌∙◌, false, true≢false, List, [], ◌∷◌, None, Some, slice_get, subst, ◌≤◌, get_or}
use Rattle.std.specs.Prelude.{Contains, IsTrue}
use Rattle.sp_base.specs.declared.location.Loc.{Loc}
use Rattle.sp_base.specs.declared.location.Loc.TheVariants as loc
use Rattle.sp_base.specs.declared.locs.Locs.{Locs}
use Rattle.sp_base.specs.Locs.{none, only, has}
use Rattle.sp_base.proofs.LocsLaws.{has_none}
use Rattle.sp_flow.specs.declared.refusal.FlowKind.TheVariants as kind
use Rattle.sp_flow.specs.declared.refusal.Spot.TheVariants as spot
use Rattle.sp_flow.specs.Examples.{unit, routine, cells, lists}
use Rattle.sp_flow.specs.Flow.{IsBroken, IsFlowing, IsListed, IsCallee, MayRead, cells_read, cells_written, ports_in, ports_out}
use Rattle.sp_flow.specs.Unset.WalkTo.{entry}
use Rattle.sp_graph.specs.Control.{control_of}
use Rattle.sp_graph.specs.Structure.{OnLine, call_target}
use Rattle.sp_isa.specs.Locations.{reads}
use Rattle.sp_isa.specs.declared.instr.Instr.{Instr}
use Rattle.sp_isa.specs.declared.instr.Instr.TheVariants.{Lhld, Cmc, In}
use Rattle.sp_prog.specs.declared.area.Area.{Area}
use Rattle.sp_prog.specs.declared.routine.Lists.{Lists}
use Rattle.sp_prog.specs.declared.routine.Routine.{Routine}
use Rattle.sp_prog.specs.declared.routine.Stmt.{Stmt}

-- the only element of a list of one
only_one : {A : Type 0} (x y : A) (k : ℕ) → slice_get (x ∷ []) k ≡ Some y → (k ≡ 0) × (x ≡ y)
only_one x y zero e = (refl, cc)
only_one x y (suc k) e = absurd cc

pub none_in : {A : Type 0} (y : A) → Contains [] y → ⊥
none_in y c = omega (arith, c.1)

module _ (i : Instr) (len : ℕ) (locs : Locs) (places ports : List ℕ) where
  -- the routine and the instruction of such a unit
  pub at_first :
      (line : ℕ) (Breaks : ℕ → Routine → ℕ → Stmt → Type 0) → OnLine (unit i len locs places ports) line Breaks →
      (s : Stmt) × (s.instr ≡ i) × Breaks 0 (routine i locs places ports) 0 s
  at_first line Breaks (r, k, q, s, is, on, breaks) =
      let first = only_one (routine i locs places ports) q r is.among in
      let within : slice_get (routine i locs places ports).code k ≡ Some s =
      subst (λ (v : Routine). slice_get v.code k ≡ Some s) (sym first.1) is.within in
      let here = only_one _ s k within in
      let at_k : Breaks r q 0 s = subst (λ (n : ℕ). Breaks r q n s) here.0 breaks in
      let of_q : Breaks r (routine i locs places ports) 0 s = subst (λ (v : Routine). Breaks r v 0 s) (sym first.1) at_k in
      (s, ap (λ (x : Stmt). x.instr) (sym here.1), subst (λ (n : ℕ). Breaks n (routine i locs places ports) 0 s) first.0 of_q)

  -- which stands on line 6
  pub on_line : (line : ℕ) (Breaks : ℕ → Routine → ℕ → Stmt → Type 0) → OnLine (unit i len locs places ports) line Breaks → line ≡ 6
  on_line line Breaks (r, k, q, s, is, on, breaks) =
      let first = only_one (routine i locs places ports) q r is.among in
      let within : slice_get (routine i locs places ports).code k ≡ Some s =
      subst (λ (v : Routine). slice_get v.code k ≡ Some s) (sym first.1) is.within in
      let here = only_one _ s k within in
      sym (ap (λ (x : Stmt). x.line.0) here.1 ∙ on)

  -- such an instruction calls nothing
  module _ (alone : call_target (control_of i) ≡ None) where
    pub no_callee : (s : Stmt) (callee : Routine) → s.instr ≡ i → IsCallee (unit i len locs places ports) s callee → ⊥
    no_callee s callee e (c, (a, target, at), get) =
        let found : call_target (control_of i) ≡ Some a = rw e at target in absurd cc

    module _
        (no_writes : (cell : ℕ) → Contains (cells_written i) cell → ⊥)
        (no_outs : (port : ℕ) → Contains (ports_out i) port → ⊥)
        (set_or_listed : (x : Loc) → IsTrue (has x (reads i)) → has x locs ≡ false → ⊥)
        (cells_listed : (cell : ℕ) → Contains (cells_read i) cell → MayRead (unit i len locs places ports) (routine i locs places ports) cell)
        (ports_listed : (port : ℕ) → Contains (ports_in i) port → Contains ports port)
      where
        pub keeps_all : IsFlowing (unit i len locs places ports)
        keeps_all line (kind.Uses (spot.Loc x)) b =
            let f = at_first line _ b in set_or_listed x (rw f.1 at f.2.0) f.2.1.0
        keeps_all line (kind.Uses (spot.Cell cell)) b =
            let f = at_first line _ b in f.2.1 (cells_listed cell (rw f.1 at f.2.0))
        keeps_all line (kind.Writes cell) b =
            let f = at_first line _ b in
            elim f.2.0 as (λ o. ⊥) [ inl c ↦ no_writes cell (rw f.1 at c) | inr c ↦ no_callee f.0 c.0 f.1 c.1 ]
        keeps_all line (kind.Port port) b =
            let f = at_first line _ b in
            elim f.2 as (λ o. ⊥) [
              | inl taken ↦ elim taken.0 as (λ o. ⊥)
                  [ inl c ↦ taken.1 (ports_listed port (rw f.1 at c)) | inr c ↦ no_callee f.0 c.0 f.1 c.1 ]
              | inr put ↦ elim put.0 as (λ o. ⊥) [ inl c ↦ no_outs port (rw f.1 at c) | inr c ↦ no_callee f.0 c.0 f.1 c.1 ]
            ]
        keeps_all line (kind.CallsReads (spot.Loc x)) b =
            let f = at_first line _ b in no_callee f.0 f.2.0 f.1 f.2.1
        keeps_all line (kind.CallsReads (spot.Cell cell)) b =
            let f = at_first line _ b in no_callee f.0 f.2.0 f.1 f.2.1

carry_set : (x : Loc) → IsTrue (has x (only loc.Cy)) → has x (only loc.Cy) ≡ false → ⊥
carry_set x a b = true≢false (sym a ∙ b)

nothing_used : (locs : Locs) (x : Loc) → IsTrue (has x none) → has x locs ≡ false → ⊥
nothing_used locs x a b = true≢false (sym a ∙ has_none x)

pub carry_listed : IsFlowing (unit Cmc 1 (only loc.Cy) [] [])
carry_listed = keeps_all Cmc 1 (only loc.Cy) [] [] refl none_in none_in carry_set (λ cell c. absurd (none_in cell c)) (λ port c. absurd (none_in port c))

pub port_listed : IsFlowing (unit (In 5) 1 none [] (5 ∷ []))
port_listed = keeps_all (In 5) 1 none [] (5 ∷ []) refl none_in none_in (nothing_used none) (λ cell c. absurd (none_in cell c)) (λ port c. c)

-- each listed cell stands below the end of the only area
in_cells : (i : Instr) (len : ℕ) (locs : Locs) (places ports : List ℕ) (l : Lists) (cell : ℕ) → IsListed (unit i len locs places ports) l cell → cell < 0x2000 + len
in_cells i len locs places ports l cell (at, area, c, get, within) =
    let is = only_one (cells len) area at get in
    subst (λ (v : Area). cell < v.addr + v.len) (sym is.1) within.1

pub not_in_none : (i : Instr) (len : ℕ) (locs : Locs) (places ports : List ℕ) (l : Lists) (cell : ℕ) → l.areas ≡ [] → IsListed (unit i len locs places ports) l cell → ⊥
not_in_none i len locs places ports l cell e (at, area, c, get, within) =
    none_in at (subst (λ (xs : List ℕ). Contains xs at) e c)

pub carry : IsBroken (unit Cmc 1 none [] []) 6 (kind.Uses (spot.Loc loc.Cy))
unfolding has only
carry = (
  0,
  0,
  routine Cmc none [] [],
  _,
  record { among = refl; within = refl },
  refl,
  (refl, (has_none loc.Cy, ([], entry, λ s c. absurd (none_in s c)))),
)

pub second_cell : IsBroken (unit (Lhld 0x2000) 1 none (0 ∷ []) []) 6 (kind.Uses (spot.Cell 0x2001))
second_cell = (
  0,
  0,
  routine (Lhld 0x2000) none (0 ∷ []) [],
  _,
  record { among = refl; within = refl },
  refl,
  (
    (1, omega arith, refl),
    λ may. elim may as (λ o. ⊥) [
      | inl l ↦ let low = in_cells (Lhld 0x2000) 1 none (0 ∷ []) [] (lists none (0 ∷ [])) 0x2001 l in omega (arith, low)
      | inr l ↦ not_in_none (Lhld 0x2000) 1 none (0 ∷ []) [] (lists none []) 0x2001 refl l
    ],
  ),
)

pub area_not_listed : IsBroken (unit (Lhld 0x2000) 2 none [] []) 6 (kind.Uses (spot.Cell 0x2000))
area_not_listed = (
  0,
  0,
  routine (Lhld 0x2000) none [] [],
  _,
  record { among = refl; within = refl },
  refl,
  (
    (0, omega arith, refl),
    λ may. elim may as (λ o. ⊥) [
      | inl l ↦ not_in_none (Lhld 0x2000) 2 none [] [] (lists none []) 0x2000 refl l
      | inr l ↦ not_in_none (Lhld 0x2000) 2 none [] [] (lists none []) 0x2000 refl l
    ],
  ),
)

pub port : IsBroken (unit (In 5) 1 none [] (4 ∷ [])) 6 (kind.Port 5)
port = (
  0,
  0,
  routine (In 5) none [] (4 ∷ []),
  _,
  record { among = refl; within = refl },
  refl,
  inl (inl (0, omega arith, refl), λ c. let e = only_four 5 c in omega (arith, e)),
)
  where
    only_four : (x : ℕ) → Contains (4 ∷ []) x → x ≡ 4
    only_four x c = sym (only_here c.0 c.1 c.2)
      where
        only_here : (k : ℕ) → k < 1 → get_or (4 ∷ []) k x ≡ x → 4 ≡ x
        only_here zero l e = e
        only_here (suc k) l e = absurd (omega (arith, l))

word_cell : (cell : ℕ) → Contains (cells_read (Lhld 0x2000)) cell → (0x2000 ≤ cell) × (cell < 0x2002)
word_cell cell c = bounds c.0 c.1 c.2
  where
    bounds : (k : ℕ) → k < 2 → get_or (cells_read (Lhld 0x2000)) k cell ≡ cell → (0x2000 ≤ cell) × (cell < 0x2002)
    bounds zero l e = (omega (arith, e), omega (arith, e))
    bounds (suc zero) l e = (omega (arith, e), omega (arith, e))
    bounds (suc (suc k)) l e = absurd (omega (arith, l))

pub both_cells : IsFlowing (unit (Lhld 0x2000) 2 none (0 ∷ []) [])
both_cells =
    keeps_all (Lhld 0x2000) 2 none (0 ∷ []) [] refl none_in none_in (nothing_used none)
    (λ cell c. inl (0, cells 2, (0, omega arith, refl), refl, word_cell cell c)) (λ port c. absurd (none_in port c))
