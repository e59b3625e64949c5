-- One step of the work list, and what holds when it is empty.
use Rattle.std.proofs.Common.{◌≡◌, ◌<◌, ◌^◌, ◌-◌, ◌≢◌, ℕ, Bool, false, true, ◌⊎◌, inl, inr, arith, ◌↔◌, List, [], ◌∷◌, ◌++◌, Option, None, Some, sym, ◌∙◌, refl, subst, length, length-append, get_or, set, replicate, length-set, get_or-set_same, get_or-set_other, slice_get}
use Rattle.std.specs.List.{Contains}
use Rattle.std.specs.Int.{bit_at}
use Rattle.std.proofs.lemmas.Nat.Bits.{bit_at-zero, bit_at_ones}
use Rattle.std.proofs.lemmas.Bool.{cases_order}
use Rattle.std.proofs.lemmas.List.{get_or_default, get_or_past, get_or-replicate, length-replicate}
use Rattle.std.proofs.lemmas.List.Elements.{Contains-append_left, Contains-push, Contains-push_cases}
use Rattle.std.proofs.lemmas.List.Sums.{sum_by-set}
use Rattle.std.proofs.lemmas.Option.{slice_get_within}
use Rattle.sp_flow.specs.Unset.{Has, Leads, Sets, IsLeftUnset, WalkTo, way_at, way_of}
use Rattle.sp_flow.specs.Unset.WalkTo.{entry, onward}
use Rattle.sp_flow.specs.code.Spread.{Sound, Settled, Spreads}
use Rattle.sp_flow.specs.declared.ways.Way.{Way}
use Rattle.sp_flow.specs.declared.ways.Ways.{Ways}
use Rattle.sp_graph.specs.declared.walk.Step.{Step}

same_or_not : (a b : ℕ) → (a ≡ b) ⊎ (a ≢ b)
same_or_not a b = elim (cases_order a b) as (λ o. (a ≡ b) ⊎ (a ≢ b))
    [ inl e ↦ inl e | inr o ↦ inr (λ e. elim o [ inl l ↦ omega arith | inr l ↦ omega arith ]) ]

-- nothing sets a location on a walk, nor on the step after it
unset_onward :
    (graph : List Ways) (x : ℕ) (steps : List Step) (step : Step) →
    ((s : Step) → Contains steps s → Sets graph s x → ⊥) → (Sets graph step x → ⊥) →
    (s : Step) → Contains (steps ++ step ∷ []) s → Sets graph s x → ⊥
unset_onward graph x steps step none here s c sets =
    elim (Contains-push_cases steps step s c) as (λ o. ⊥)
    [ inl before ↦ none s before sets | inr is ↦ here (subst (λ (v : Step). Sets graph v x) (sym is) sets) ]

module _
    (graph : List Ways) (sets work : List ℕ) (step : Step) (branch : Way) (to more : ℕ)
    (is : way_at graph step ≡ Some branch) (leads : branch.to ≡ Some to) (in_sets : to < length sets)
    (members : (x : ℕ) → Has x more ↔ (Has x (get_or sets to 0) ⊎ (Has x (get_or sets step.at 0) × (Has x branch.sets → ⊥))))
  where
    here : (x : ℕ) → Has x (get_or (set sets to more) to 0) ↔ Has x more
    here x = let e = get_or-set_same sets to more 0 in_sets in ((λ h. rw e at h), (λ h. rw e h))

    set_at : (at : ℕ) → ((at ≡ to) × (get_or (set sets to more) at 0 ≡ more)) ⊎ ((at ≢ to) × (get_or (set sets to more) at 0 ≡ get_or sets at 0))
    set_at at = elim (same_or_not at to) as (λ o. ((at ≡ to) × (get_or (set sets to more) at 0 ≡ more)) ⊎ ((at ≢ to) × (get_or (set sets to more) at 0 ≡ get_or sets at 0))) [
      | inl e ↦ inl (e, rw e (get_or-set_same sets to more 0 in_sets))
      | inr ne ↦ inr (ne, get_or-set_other sets to at more 0 ne)
    ]

    leads_to : Leads graph step to
    leads_to = (branch, is, leads)

    only_to : (t : ℕ) → Leads graph step t → t ≡ to
    only_to t (b, e, f) = cc (is, leads)

    not_set : (x : ℕ) → (Has x branch.sets → ⊥) → Sets graph step x → ⊥
    not_set x free (b, e, h) = let same : b ≡ branch = cc (is, e) in free (rw same at h)

    grown_at : (x at : ℕ) → Has x (get_or sets at 0) → Has x (get_or (set sets to more) at 0)
    grown_at x at h = elim (set_at at) as (λ o. Has x (get_or (set sets to more) at 0))
        [ inl p ↦ rw p.1 ((members x).1 (inl (rw p.0 at h))) | inr p ↦ rw p.1 h ]

    sound_at : Sound graph sets → Sound graph (set sets to more)
    sound_at sound x at h = elim (set_at at) as (λ o. IsLeftUnset graph x at) [
      | inl p ↦
          let m : Has x more = rw p.1 at h in
          rw p.0 (elim ((members x).0 m) as (λ o. IsLeftUnset graph x to) [
            | inl old ↦ sound x to old
            | inr new ↦
                let w = sound x step.at new.0 in
                (w.0 ++ step ∷ [], onward w.0 step to w.1 leads_to, unset_onward graph x w.0 step w.2 (not_set x new.1))
          ])
      | inr p ↦ sound x at (rw p.1 at h)
    ]

    listed_at : (at : ℕ) → Contains (work ++ to ∷ []) at ⊎ (get_or (set sets to more) at 0 ≡ get_or sets at 0)
    listed_at at = elim (set_at at) as (λ o. Contains (work ++ to ∷ []) at ⊎ (get_or (set sets to more) at 0 ≡ get_or sets at 0))
        [ inl p ↦ inl (rw p.0 (Contains-push work to)) | inr p ↦ inr p.1 ]

    pub spread_more : get_or sets to 0 < more → more < 2 ^ 16 → Spreads graph sets work (set sets to more) (work ++ to ∷ [])
    spread_more grew fits = record {
      size = length-set sets to more;
      grown = grown_at;
      sound = sound_at;
      kept = λ at c. Contains-append_left work (to ∷ []) at c;
      listed = listed_at;
      fewer = omega (arith, length-append work (to ∷ []), sum_by-set (λ s. 2 ^ 16 - s) sets to more 0 in_sets);
    }

    pub settled_more : Settled graph (set sets to more) (work ++ to ∷ []) step
    settled_more = elim (set_at step.at) as (λ o. Settled graph (set sets to more) (work ++ to ∷ []) step) [
      | inl p ↦ inl (rw p.0 (Contains-push work to))
      | inr p ↦ inr (λ x t l h free.
          rw (only_to t l) ((here x).1 ((members x).1 (inr (rw p.1 at h, λ b. free (branch, is, b))))))
    ]

    pub settled_same : more ≡ get_or sets to 0 → Settled graph sets work step
    settled_same e = inr (λ x t l h free.
        let m : Has x more = (members x).1 (inr (h, λ b. free (branch, is, b))) in rw (only_to t l) (rw e at m))

way_within_option : (graph : List Ways) (step : Step) (branch : Way) (o : Option Ways) → slice_get graph step.at ≡ o → way_of o step.taken ≡ Some branch → step.at < length graph
way_within_option graph step branch None e w = cc
way_within_option graph step branch (Some node) e w = slice_get_within graph step.at node e

pub way_within : (graph : List Ways) (step : Step) (branch : Way) → way_at graph step ≡ Some branch → step.at < length graph
way_within graph step branch w = way_within_option graph step branch (slice_get graph step.at) refl w

-- a settled step stays settled
persists :
    (graph : List Ways) (sets work next_sets next_work : List ℕ) → Spreads graph sets work next_sets next_work →
    (step : Step) → Settled graph sets work step → Settled graph next_sets next_work step
persists graph sets work next_sets next_work s step settled = elim settled as (λ o. Settled graph next_sets next_work step) [
  | inl c ↦ inl (s.kept step.at c)
  | inr closed ↦ elim (s.listed step.at) as (λ o. Settled graph next_sets next_work step) [
    | inl c ↦ inl c
    | inr same ↦ inr (λ x to l h free. s.grown x to (closed x to l (rw same at h) free))
  ]
]

settled_round_at :
    (graph : List Ways) (sets work sets_1 work_1 sets_2 work_2 : List ℕ) (at : ℕ) →
    Spreads graph sets work sets_1 work_1 → Settled graph sets_1 work_1 (record { at = at; taken = false }) →
    Spreads graph sets_1 work_1 sets_2 work_2 → Settled graph sets_2 work_2 (record { at = at; taken = true }) →
    (taken : Bool) → Settled graph sets_2 work_2 (record { at = at; taken = taken })
settled_round_at graph sets work sets_1 work_1 sets_2 work_2 at s c t d false = persists graph sets_1 work_1 sets_2 work_2 t (record { at = at; taken = false }) c
settled_round_at graph sets work sets_1 work_1 sets_2 work_2 at s c t d true = d

-- the two steps from an instruction that is taken from the work list leave each step settled
pub settled_round :
    (graph : List Ways) (sets work sets_1 work_1 sets_2 work_2 : List ℕ) (at : ℕ) →
    ((step : Step) → Settled graph sets (work ++ at ∷ []) step) →
    Spreads graph sets work sets_1 work_1 → Settled graph sets_1 work_1 (record { at = at; taken = false }) →
    Spreads graph sets_1 work_1 sets_2 work_2 → Settled graph sets_2 work_2 (record { at = at; taken = true }) →
    (step : Step) → Settled graph sets_2 work_2 step
settled_round graph sets work sets_1 work_1 sets_2 work_2 at all s c t d step =
    elim (all step) as (λ o. Settled graph sets_2 work_2 step) [
      | inl listed ↦ elim (Contains-push_cases work at step.at listed) as (λ o. Settled graph sets_2 work_2 step) [
        | inl before ↦ inl (t.kept step.at (s.kept step.at before))
        | inr is ↦
            subst (λ (a : ℕ). Settled graph sets_2 work_2 (record { at = a; taken = step.taken })) is
            (settled_round_at graph sets work sets_1 work_1 sets_2 work_2 at s c t d step.taken)
      ]
      | inr closed ↦ persists graph sets_1 work_1 sets_2 work_2 t step (persists graph sets work sets_1 work_1 s step (inr closed))
    ]

-- where each step is closed, the sets have all that is left unset
pub complete :
    (graph : List Ways) (sets : List ℕ) (x : ℕ) → Has x (get_or sets 0 0) → ((step : Step) → Settled graph sets [] step) →
    (steps : List Step) (at : ℕ) → WalkTo graph steps at → ((step : Step) → Contains steps step → Sets graph step x → ⊥) → Has x (get_or sets at 0)
complete graph sets x all settled _ _ entry none = all
complete graph sets x all settled _ _ (onward steps step to w l) none =
    let before = complete graph sets x all settled steps step.at w (λ s c. none s (Contains-append_left steps (step ∷ []) s c)) in
    elim (settled step) as (λ o. Has x (get_or sets to 0)) [
      | inl c ↦ absurd (omega (arith, c.1))
      | inr closed ↦ closed x to l before (none step (Contains-push steps step))
    ]

pub read_at : (xs : List ℕ) (i x : ℕ) → i < length xs → x ≡ get_or xs i x → get_or xs i 0 ≡ x
read_at xs i x l e = get_or_default xs i 0 x l ∙ sym e

-- what the code computes for the set after a step
pub computed :
    (xs : List ℕ) (at to set before kept more sets : ℕ) → get_or xs to 0 ≡ set → get_or xs at 0 ≡ before →
    ((x : ℕ) → Has x kept ↔ (Has x before × (Has x sets → ⊥))) → ((x : ℕ) → Has x more ↔ (Has x set ⊎ Has x kept)) →
    (x : ℕ) → Has x more ↔ (Has x (get_or xs to 0) ⊎ (Has x (get_or xs at 0) × (Has x sets → ⊥)))
computed xs at to set before kept more sets e f k m x =
    rw (e, f) (
      (λ h. elim ((m x).0 h) as (λ o. Has x set ⊎ (Has x before × (Has x sets → ⊥))) [ inl a ↦ inl a | inr b ↦ inr ((k x).0 b) ]),
      (λ o. elim o as (λ o. Has x more) [ inl a ↦ (m x).1 (inl a) | inr b ↦ (m x).1 (inr ((k x).1 b)) ]),
    )

module _ (graph : List Ways) (sets : List ℕ) (some : 0 < length sets) (blank : (at : ℕ) → get_or sets at 0 ≡ 0) where
  start_other : (x at : ℕ) → at ≢ 0 → Has x (get_or (set sets 0 65535) at 0) → ⊥
  start_other x at ne h =
      let e : get_or (set sets 0 65535) at 0 ≡ 0 = get_or-set_other sets 0 at 65535 0 ne ∙ blank at in
      let z : bit_at 0 x ≡ 1 = rw e at h in omega (arith, bit_at-zero x)

  pub start_entry : (x : ℕ) → x < 16 → Has x (get_or (set sets 0 65535) 0 0)
  start_entry x l = rw (get_or-set_same sets 0 65535 0 some) (bit_at_ones 16 x l)

  pub start_sound : Sound graph (set sets 0 65535)
  start_sound x at h = elim (same_or_not at 0) as (λ o. IsLeftUnset graph x at) [
    | inl e ↦ rw e ([], entry, λ s c. absurd (omega (arith, c.1)))
    | inr ne ↦ absurd (start_other x at ne h)
  ]

  pub start_settled : (step : Step) → Settled graph (set sets 0 65535) (0 ∷ []) step
  start_settled step = elim (same_or_not step.at 0) as (λ o. Settled graph (set sets 0 65535) (0 ∷ []) step)
      [ inl e ↦ inl (rw e (0, omega arith, refl)) | inr ne ↦ inr (λ x to l h free. absurd (start_other x step.at ne h)) ]

pub replicate_blank : (n at : ℕ) → ◌≡◌ {A = ℕ} (get_or (replicate n 0) at 0) 0
replicate_blank n at = elim (cases_order at n) as (λ o. ◌≡◌ {A = ℕ} (get_or (replicate n 0) at 0) 0) [
  | inl e ↦ get_or_past (replicate n 0) at 0 (omega (arith, length-replicate {A = ℕ} n 0))
  | inr o ↦ elim o [ inl l ↦ get_or-replicate n at 0 0 l | inr l ↦ get_or_past (replicate n 0) at 0 (omega (arith, length-replicate {A = ℕ} n 0)) ]
]
