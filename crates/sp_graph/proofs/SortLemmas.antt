-- The moves of a search in depth.
use Rattle.std.proofs.Common.{◌≡◌, ◌<◌, ◌+◌, ◌-◌, ◌≢◌, ℕ, zero, suc, ◌⊎◌, inl, inr, arith, Bool, true, false, List, [], ◌∷◌, ◌++◌, sym, ◌∙◌, refl, ap, subst, length, length-append, get_or, set, length-set, get_or-set_same, get_or-set_other}
use Rattle.std.proofs.lemmas.Bool.{cases_order}
use Rattle.std.proofs.lemmas.List.{get_or_append_left, get_or_push}
use Rattle.std.proofs.lemmas.List.Sums.{sum_by-set}
use Rattle.sp_graph.specs.Cycles.{Edge, Reaches, SuccessorsFirst}
use Rattle.sp_graph.specs.Cycles.Reaches.{one, more}
use Rattle.sp_graph.specs.code.Sorting.{mark_at, step_at, Settled, Sorting, undone}
use Rattle.sp_graph.specs.declared.graph.Node.{Node}
use Rattle.sp_graph.specs.declared.walk.Step.{Step}
use Rattle.sp_graph.specs.declared.sorting.Mark.{Mark}
use Rattle.sp_graph.specs.declared.sorting.Mark.TheVariants.{New, Open, Done}
use Rattle.sp_graph.proofs.CycleLemmas.{joined, Comes}

same_or_not : (a b : ℕ) → (a ≡ b) ⊎ (a ≢ b)
same_or_not a b = elim (cases_order a b) as (λ o. (a ≡ b) ⊎ (a ≢ b))
    [ inl e ↦ inl e | inr o ↦ inr (λ e. elim o [ inl l ↦ omega arith | inr l ↦ omega arith ]) ]

last_or_not : {A : Type 0} (xs : List A) (y : A) (k : ℕ) → k < length (xs ++ y ∷ []) → (k < length xs) ⊎ (k ≡ length xs)
last_or_not xs y k l =
    let e : length (xs ++ y ∷ []) ≡ length xs + 1 = length-append xs (y ∷ []) in
    elim (cases_order k (length xs)) as (λ o. (k < length xs) ⊎ (k ≡ length xs))
    [ inl same ↦ inr same | inr o ↦ elim o [ inl less ↦ inl less | inr greater ↦ absurd (omega arith) ] ]

left : (xs : List Step) (y : Step) (k : ℕ) → k < length xs → step_at (xs ++ y ∷ []) k ≡ step_at xs k
left xs y k l = get_or_append_left xs (y ∷ []) (record { at = 0; taken = false }) k l

end_is : (xs : List Step) (y : Step) (k : ℕ) → k ≡ length xs → step_at (xs ++ y ∷ []) k ≡ y
end_is xs y k e = get_or_push xs y (record { at = 0; taken = false }) k (sym e)

order_left : (xs : List ℕ) (y k : ℕ) → k < length xs → get_or (xs ++ y ∷ []) k 0 ≡ get_or xs k 0
order_left xs y k l = get_or_append_left xs (y ∷ []) 0 k l

order_end : (xs : List ℕ) (y k : ℕ) → k ≡ length xs → get_or (xs ++ y ∷ []) k 0 ≡ y
order_end xs y k e = get_or_push xs y 0 k (sym e)

module _ (graph : List Node) (limit : ℕ) (marks : List Mark) (order : List ℕ) (stack : List Step) (s : Sorting graph limit marks order stack)
    (t : ℕ) (free : mark_at marks t ≡ New) (low : t < limit)
    (edge : (k : ℕ) → suc k ≡ length stack → Edge graph limit (step_at stack k).at (step_at stack k).taken t) where
  open_here : mark_at (set marks t Open) t ≡ Open
  open_here = let e = s.size in get_or-set_same marks t Open New (omega arith)

  open_other : (v : ℕ) (m : Mark) → m ≢ New → mark_at marks v ≡ m → mark_at (set marks t Open) v ≡ m
  open_other v m ne e =
      let other : v ≢ t = λ same. ne (sym e ∙ ap (λ u. mark_at marks u) same ∙ free) in
      get_or-set_other marks t v Open New other ∙ e

  open_back : (v : ℕ) → v ≢ t → mark_at (set marks t Open) v ≡ mark_at marks v
  open_back v ne = get_or-set_other marks t v Open New ne

  longer : length (stack ++ record { at = t; taken = false } ∷ []) ≡ length stack + 1
  longer = length-append stack (record { at = t; taken = false } ∷ [])

  pub opened : Sorting graph limit (set marks t Open) order (stack ++ record { at = t; taken = false } ∷ [])
  opened =
      let step : Step = record { at = t; taken = false } in
      record {
        size = let e = s.size in rw (length-set marks t Open) e;
        counted =
            let e = s.size in
            let n = s.counted in
            let was : undone (mark_at marks t) ≡ 1 = rw free refl in
            omega (arith, n, was, sum_by-set undone marks t Open New (omega arith));
        placed = λ v h. elim (same_or_not v t) as (λ o. (k : ℕ) × (k < length order) × (get_or order k 0 ≡ v)) [
          | inl is ↦ let bad : mark_at (set marks t Open) t ≡ Done = rw is at h in cc (bad, open_here)
          | inr ne ↦ s.placed v (sym (open_back v ne) ∙ h)
        ];
        ordered = λ k l. let o = s.ordered k l in (o.0, open_other (get_or order k 0) Done (λ e. cc) o.1);
        once = s.once;
        first = s.first;
        stacked = λ k l. elim (last_or_not stack step k l) as (λ o. ((step_at (stack ++ step ∷ []) k).at < limit) × (mark_at (set marks t Open) (step_at (stack ++ step ∷ []) k).at ≡ Open)) [
          | inl less ↦ rw (left stack step k less) (let o = s.stacked k less in (o.0, open_other (step_at stack k).at Open (λ e. cc) o.1))
          | inr is ↦ rw (end_is stack step k is) (low, open_here)
        ];
        apart = λ j k jk l e. elim (last_or_not stack step k l) as (λ o. ⊥) [
          | inl less ↦ s.apart j k jk less (sym (ap (λ (x : Step). x.at) (left stack step j (omega arith))) ∙ e ∙ ap (λ (x : Step). x.at) (left stack step k less))
          | inr is ↦
              let lj : j < length stack = omega arith in
              let same : (step_at stack j).at ≡ t = sym (ap (λ (x : Step). x.at) (left stack step j lj)) ∙ e ∙ ap (λ (x : Step). x.at) (end_is stack step k is) in
              let m : mark_at marks t ≡ Open = sym (ap (λ v. mark_at marks v) same) ∙ (s.stacked j lj).1 in cc (m, free)
        ];
        open_is = λ v h. elim (same_or_not v t) as (λ o. (k : ℕ) × (k < length (stack ++ step ∷ [])) × ((step_at (stack ++ step ∷ []) k).at ≡ v)) [
          | inl is ↦ (length stack, omega (arith, longer), ap (λ (x : Step). x.at) (end_is stack step (length stack) refl) ∙ sym is)
          | inr ne ↦
              let k = s.open_is v (sym (open_back v ne) ∙ h) in
              (k.0, (let l : k.0 < length stack = k.1 in omega (arith, longer)), ap (λ (x : Step). x.at) (left stack step k.0 k.1) ∙ k.2)
        ];
        path = λ k l. elim (last_or_not stack step (suc k) l) as (λ o. Edge graph limit (step_at (stack ++ step ∷ []) k).at (step_at (stack ++ step ∷ []) k).taken (step_at (stack ++ step ∷ []) (suc k)).at) [
          | inl less ↦ rw (left stack step k (omega arith), left stack step (suc k) less) (s.path k less)
          | inr is ↦ rw (left stack step k (omega arith), end_is stack step (suc k) is) (edge k is)
        ];
        untaken = λ k l h. elim (last_or_not stack step k l) as (λ o. Settled graph limit (set marks t Open) (step_at (stack ++ step ∷ []) k).at false) [
          | inl less ↦ rw (left stack step k less) (λ to e. open_other to Done (λ e. cc) (s.untaken k less (sym (ap (λ (x : Step). x.taken) (left stack step k less)) ∙ h) to e))
          | inr is ↦ let bad : false ≡ true = sym (ap (λ (x : Step). x.taken) (end_is stack step k is)) ∙ h in cc
        ];
      }

module _ (graph : List Node) (limit : ℕ) (marks : List Mark) (order : List ℕ) (rest : List Step) (at : ℕ)
    (s : Sorting graph limit marks order (rest ++ record { at = at; taken = false } ∷ [])) (settled : Settled graph limit marks at false) where
  turned_at : (k : ℕ) → k < length (rest ++ record { at = at; taken = true } ∷ []) →
      (step_at (rest ++ record { at = at; taken = true } ∷ []) k).at ≡ (step_at (rest ++ record { at = at; taken = false } ∷ []) k).at
  turned_at k l = elim (last_or_not rest (record { at = at; taken = true }) k l)
      as (λ o. (step_at (rest ++ record { at = at; taken = true } ∷ []) k).at ≡ (step_at (rest ++ record { at = at; taken = false } ∷ []) k).at) [
        | inl less ↦ rw (left rest (record { at = at; taken = true }) k less, left rest (record { at = at; taken = false }) k less) refl
        | inr is ↦ rw (end_is rest (record { at = at; taken = true }) k is, end_is rest (record { at = at; taken = false }) k is) refl
      ]

  same_length : length (rest ++ record { at = at; taken = true } ∷ []) ≡ length (rest ++ record { at = at; taken = false } ∷ [])
  same_length = omega (arith, length-append rest (record { at = at; taken = true } ∷ []), length-append rest (record { at = at; taken = false } ∷ []))

  pub turned : Sorting graph limit marks order (rest ++ record { at = at; taken = true } ∷ [])
  turned =
      let yes : Step = record { at = at; taken = true } in
      let was : Step = record { at = at; taken = false } in
      record {
        size = s.size;
        counted = s.counted;
        placed = s.placed;
        ordered = s.ordered;
        once = s.once;
        first = s.first;
        stacked = λ k l. rw (turned_at k l) (s.stacked k (omega (arith, same_length)));
        apart = λ j k jk l e. s.apart j k jk (omega (arith, same_length)) (sym (turned_at j (omega arith)) ∙ e ∙ turned_at k l);
        open_is = λ v h. let k = s.open_is v h in
            let l : k.0 < length (rest ++ was ∷ []) = k.1 in
            (k.0, omega (arith, same_length), turned_at k.0 (omega (arith, same_length)) ∙ k.2);
        path = λ k l.
            let short : k < length rest = omega (arith, length-append rest (yes ∷ [])) in
            let old = rw (left rest was k short) at (s.path k (omega (arith, same_length))) in
            rw (left rest yes k short, turned_at (suc k) l) old;
        untaken = λ k l h. elim (last_or_not rest yes k l) as (λ o. Settled graph limit marks (step_at (rest ++ yes ∷ []) k).at false) [
          | inl less ↦
              let is : step_at (rest ++ yes ∷ []) k ≡ step_at (rest ++ was ∷ []) k = left rest yes k less ∙ sym (left rest was k less) in
              rw is (s.untaken k (omega (arith, same_length)) (sym (ap (λ (x : Step). x.taken) is) ∙ h))
          | inr is ↦ rw (end_is rest yes k is) settled
        ];
      }

module _ (graph : List Node) (limit : ℕ) (marks : List Mark) (order : List ℕ) (rest : List Step) (at : ℕ)
    (s : Sorting graph limit marks order (rest ++ record { at = at; taken = true } ∷ [])) (settled : Settled graph limit marks at true) where
  longer_by : length (rest ++ record { at = at; taken = true } ∷ []) ≡ length rest + 1
  longer_by = length-append rest (record { at = at; taken = true } ∷ [])

  at_end : step_at (rest ++ record { at = at; taken = true } ∷ []) (length rest) ≡ record { at = at; taken = true }
  at_end = end_is rest (record { at = at; taken = true }) (length rest) refl

  pub is_open : (at < limit) × (mark_at marks at ≡ Open)
  is_open = rw at_end at (s.stacked (length rest) (omega (arith, longer_by)))

  done_here : mark_at (set marks at Done) at ≡ Done
  done_here = let e = s.size in let l : at < limit = is_open.0 in get_or-set_same marks at Done New (omega arith)

  done_other : (v : ℕ) → v ≢ at → mark_at (set marks at Done) v ≡ mark_at marks v
  done_other v ne = get_or-set_other marks at v Done New ne

  done_kept : (v : ℕ) → mark_at marks v ≡ Done → mark_at (set marks at Done) v ≡ Done
  done_kept v e = elim (same_or_not v at) as (λ o. mark_at (set marks at Done) v ≡ Done)
      [ inl is ↦ rw is done_here | inr ne ↦ done_other v ne ∙ e ]

  all_settled : (taken : Bool) → Settled graph limit marks at taken
  all_settled true = settled
  all_settled false = rw at_end at (s.untaken (length rest) (omega (arith, longer_by)) (ap (λ (x : Step). x.taken) at_end))

  not_ordered : (k : ℕ) → k < length order → get_or order k 0 ≢ at
  not_ordered k l e =
      let m : mark_at marks at ≡ Done = sym (ap (λ v. mark_at marks v) e) ∙ (s.ordered k l).1 in let o = is_open.1 in cc (m, o)

  rest_at : (k : ℕ) → k < length rest → step_at (rest ++ record { at = at; taken = true } ∷ []) k ≡ step_at rest k
  rest_at k l = left rest (record { at = at; taken = true }) k l

  not_stacked : (k : ℕ) → k < length rest → (step_at rest k).at ≢ at
  not_stacked k l e =
      s.apart k (length rest) l (omega (arith, longer_by)) (ap (λ (x : Step). x.at) (rest_at k l) ∙ e ∙ sym (ap (λ (x : Step). x.at) at_end))

  order_longer : length (order ++ at ∷ []) ≡ length order + 1
  order_longer = length-append order (at ∷ [])

  pub finished : Sorting graph limit (set marks at Done) (order ++ at ∷ []) rest
  finished = record {
    size = let e = s.size in rw (length-set marks at Done) e;
    counted =
        let e = s.size in
        let l : at < limit = is_open.0 in
        let n = s.counted in
        let was : undone (mark_at marks at) ≡ 1 = rw is_open.1 refl in
        omega (arith, n, was, order_longer, sum_by-set undone marks at Done New (omega arith));
    placed = λ v h. elim (same_or_not v at) as (λ o. (k : ℕ) × (k < length (order ++ at ∷ [])) × (get_or (order ++ at ∷ []) k 0 ≡ v)) [
      | inl is ↦ (length order, omega (arith, order_longer), order_end order at (length order) refl ∙ sym is)
      | inr ne ↦
          let k = s.placed v (sym (done_other v ne) ∙ h) in
          (k.0, (let l : k.0 < length order = k.1 in omega (arith, order_longer)), order_left order at k.0 k.1 ∙ k.2)
    ];
    ordered = λ k l. elim (last_or_not order at k l)
        as (λ o. (get_or (order ++ at ∷ []) k 0 < limit) × (mark_at (set marks at Done) (get_or (order ++ at ∷ []) k 0) ≡ Done)) [
          | inl less ↦ rw (order_left order at k less) (let o = s.ordered k less in (o.0, done_kept (get_or order k 0) o.1))
          | inr is ↦ rw (order_end order at k is) (is_open.0, done_here)
        ];
    once = λ j k jk l e. elim (last_or_not order at k l) as (λ o. ⊥) [
      | inl less ↦ s.once j k jk less (sym (order_left order at j (omega arith)) ∙ e ∙ order_left order at k less)
      | inr is ↦ let lj : j < length order = omega arith in not_ordered j lj (sym (order_left order at j lj) ∙ e ∙ order_end order at k is)
    ];
    first = λ k taken to l e. elim (last_or_not order at k l) as (λ o. (j : ℕ) × (j < k) × (get_or (order ++ at ∷ []) j 0 ≡ to)) [
      | inl less ↦
          let f = s.first k taken to less (rw (order_left order at k less) at e) in
          let lj : f.0 < k = f.1 in
          (f.0, f.1, order_left order at f.0 (omega arith) ∙ f.2)
      | inr is ↦
          let d = all_settled taken to (rw (order_end order at k is) at e) in
          let f = s.placed to d in
          (f.0, (let lj : f.0 < length order = f.1 in omega arith), order_left order at f.0 f.1 ∙ f.2)
    ];
    stacked = λ k l.
        let o = rw (rest_at k l) at (s.stacked k (omega (arith, longer_by))) in
        (o.0, done_other (step_at rest k).at (not_stacked k l) ∙ o.1);
    apart = λ j k jk l e. s.apart j k jk (omega (arith, longer_by))
        (ap (λ (x : Step). x.at) (rest_at j (omega arith)) ∙ e ∙ sym (ap (λ (x : Step). x.at) (rest_at k l)));
    open_is = λ v h. elim (same_or_not v at) as (λ o. (k : ℕ) × (k < length rest) × ((step_at rest k).at ≡ v)) [
      | inl is ↦ let bad : mark_at (set marks at Done) at ≡ Open = rw is at h in cc (bad, done_here)
      | inr ne ↦
          let k = s.open_is v (sym (done_other v ne) ∙ h) in
          elim (last_or_not rest (record { at = at; taken = true }) k.0 k.1) as (λ o. (k : ℕ) × (k < length rest) × ((step_at rest k).at ≡ v)) [
            | inl less ↦ (k.0, less, sym (ap (λ (x : Step). x.at) (rest_at k.0 less)) ∙ k.2)
            | inr is ↦ absurd (ne (sym k.2 ∙ ap (λ (x : Step). x.at) (end_is rest (record { at = at; taken = true }) k.0 is)))
          ]
    ];
    path = λ k l.
        let old = s.path k (omega (arith, longer_by)) in
        rw (rest_at k (omega arith), rest_at (suc k) l) at old;
    untaken = λ k l h to e.
        done_kept to (s.untaken k (omega (arith, longer_by)) (ap (λ (x : Step). x.taken) (rest_at k l) ∙ h) to (rw (rest_at k l) e));
  }

-- an open instruction that the last one leads to lies on a cycle
module _ (graph : List Node) (limit : ℕ) (marks : List Mark) (order : List ℕ) (rest : List Step) (step : Step)
    (s : Sorting graph limit marks order (rest ++ step ∷ [])) where
  last_longer : length (rest ++ step ∷ []) ≡ length rest + 1
  last_longer = length-append rest (step ∷ [])

  climbs : (n k : ℕ) → k + n ≡ length rest → Comes graph limit (step_at (rest ++ step ∷ []) k).at (step_at (rest ++ step ∷ []) (length rest)).at
  climbs zero k e = let same : k ≡ length rest = omega arith in inl (ap (λ n. (step_at (rest ++ step ∷ []) n).at) same)
  climbs (suc n) k e =
      let low : (step_at (rest ++ step ∷ []) k).at < limit = (s.stacked k (omega (arith, last_longer))).0 in
      let first = one (step_at (rest ++ step ∷ []) k).at (step_at (rest ++ step ∷ []) k).taken (step_at (rest ++ step ∷ []) (suc k)).at low (s.path k (omega (arith, last_longer))) in
      inr (elim (climbs n (suc k) (omega arith)) as (λ o. Reaches graph limit (step_at (rest ++ step ∷ []) k).at (step_at (rest ++ step ∷ []) (length rest)).at) [
        | inl same ↦ subst (λ (v : ℕ). Reaches graph limit (step_at (rest ++ step ∷ []) k).at v) same first
        | inr r ↦ joined graph limit _ _ _ first r
      ])

  pub closes : (to : ℕ) → Edge graph limit step.at step.taken to → mark_at marks to ≡ Open → Reaches graph limit to to
  closes to edge m =
      let k = s.open_is to m in
      let lk : k.0 < length (rest ++ step ∷ []) = k.1 in
      let top = end_is rest step (length rest) refl in
      let low : step.at < limit = rw top at (s.stacked (length rest) (omega (arith, last_longer))).0 in
      let comes : Comes graph limit to step.at = rw (k.2, top) at (climbs (length rest - k.0) k.0 (omega (arith, last_longer))) in
      elim comes as (λ o. Reaches graph limit to to) [
        | inl same ↦ subst (λ (v : ℕ). Reaches graph limit v to) (sym same) (one step.at step.taken to low edge)
        | inr r ↦ more to step.at step.taken to r edge
      ]

-- when the stack is empty and all are done, the order is one
pub sorted :
    (graph : List Node) (limit : ℕ) (marks : List Mark) (order : List ℕ) (stack : List Step) → Sorting graph limit marks order stack →
    ((v : ℕ) → v < limit → mark_at marks v ≡ Done) → SuccessorsFirst graph limit order
sorted graph limit marks order stack s all = record {
  size = let n = s.counted in omega arith;
  below = λ k l. (s.ordered k l).0;
  once = s.once;
  first = s.first;
  every = λ at l. s.placed at (all at l);
}
