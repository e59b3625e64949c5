-- What a search by levels keeps.
use Rattle.std.proofs.Common.{◌≡◌, ◌≤◌, ◌<◌, ◌+◌, ◌≢◌, ℕ, ◌⊎◌, inl, inr, arith, Bool, true, false, List, [], ◌∷◌, ◌++◌, Option, Some, sym, ◌∙◌, refl, ap, length, length-append, get_or, set, length-set, get_or-set_same, get_or-set_other}
use Rattle.std.proofs.lemmas.Bool.{cases_order}
use Rattle.std.proofs.lemmas.List.{get_or_append_left, get_or_push}
use Rattle.std.proofs.lemmas.List.Sums.{sum_by-set}
use Rattle.std.specs.Prelude.{cond}
use Rattle.sp_graph.specs.Least.{Successor}
use Rattle.sp_struct.specs.code.Breadth.{Found, Grown, Closed, BelowAll, Saw, Level}
use Rattle.sp_graph.specs.declared.graph.Node.{Node}

same_or_not : (a b : ℕ) → (a ≡ b) ⊎ (a ≢ b)
same_or_not a b = elim (cases_order a b) as (λ o. (a ≡ b) ⊎ (a ≢ b))
    [ inl e ↦ inl e | inr o ↦ inr (λ e. elim o [ inl l ↦ omega arith | inr l ↦ omega arith ]) ]

at_left : (xs : List ℕ) (y k : ℕ) → k < length xs → get_or (xs ++ y ∷ []) k 0 ≡ get_or xs k 0
at_left xs y k l = get_or_append_left xs (y ∷ []) 0 k l

at_end : (xs : List ℕ) (y : ℕ) → get_or (xs ++ y ∷ []) (length xs) 0 ≡ y
at_end xs y = get_or_push xs y 0 (length xs) refl

-- each place of a longer list is one before, or the last
last_or_not : (xs : List ℕ) (y k : ℕ) → k < length (xs ++ y ∷ []) → (k < length xs) ⊎ (k ≡ length xs)
last_or_not xs y k l =
    let e : length (xs ++ y ∷ []) ≡ length xs + 1 = length-append xs (y ∷ []) in
    elim (cases_order k (length xs)) as (λ o. (k < length xs) ⊎ (k ≡ length xs))
    [ inl same ↦ inr same | inr o ↦ elim o [ inl less ↦ inl less | inr more ↦ absurd (omega arith) ] ]

module _
    (graph : List Node) (seen : List Bool) (order up : List ℕ) (head to : ℕ) (g : Grown graph seen order up head)
    (in_graph : to < length graph) (free : get_or seen to false ≡ false) (successor : Successor graph (get_or order head 0) to)
    (at_head : head < length order) (below : BelowAll order up head to)
  where
    longer : length (order ++ to ∷ []) ≡ length order + 1
    longer = length-append order (to ∷ [])

    order_end : (k : ℕ) → k ≡ length order → get_or (order ++ to ∷ []) k 0 ≡ to
    order_end k e = rw e (at_end order to)

    up_left : (k : ℕ) → k < length order → get_or (up ++ head ∷ []) k 0 ≡ get_or up k 0
    up_left k l = let e = g.size in at_left up head k (omega arith)

    up_end : (k : ℕ) → k ≡ length order → get_or (up ++ head ∷ []) k 0 ≡ head
    up_end k e = rw (e, ← g.size) (at_end up head)

    set_same : get_or (set seen to true) to false ≡ true
    set_same = let e = g.marks in get_or-set_same seen to true false (omega arith)

    not_listed : (k : ℕ) → k < length order → get_or order k 0 ≢ to
    not_listed k l e = let m = g.marked k l in let n : get_or seen to false ≡ true = rw e at m in cc (n, free)

    grown_listed : (v : ℕ) → get_or (set seen to true) v false ≡ true → (k : ℕ) × (k < length (order ++ to ∷ [])) × (get_or (order ++ to ∷ []) k 0 ≡ v)
    grown_listed v h = elim (same_or_not v to) as (λ o. (k : ℕ) × (k < length (order ++ to ∷ [])) × (get_or (order ++ to ∷ []) k 0 ≡ v)) [
      | inl e ↦ (length order, omega (arith, longer), at_end order to ∙ sym e)
      | inr ne ↦
          let k = g.listed v (sym (get_or-set_other seen to v true false ne) ∙ h) in
          (k.0, let l : k.0 < length order = k.1 in omega (arith, longer), at_left order to k.0 k.1 ∙ k.2)
    ]

    grown_marked : (k : ℕ) → k < length (order ++ to ∷ []) → get_or (set seen to true) (get_or (order ++ to ∷ []) k 0) false ≡ true
    grown_marked k l = elim (last_or_not order to k l) as (λ o. get_or (set seen to true) (get_or (order ++ to ∷ []) k 0) false ≡ true) [
      | inl less ↦ rw (at_left order to k less)
          (get_or-set_other seen to (get_or order k 0) true false (not_listed k less) ∙ g.marked k less)
      | inr e ↦ rw (order_end k e) set_same
    ]

    grown_parent : (k : ℕ) → 0 < k → k < length (order ++ to ∷ []) →
        (get_or (up ++ head ∷ []) k 0 < k) × Successor graph (get_or (order ++ to ∷ []) (get_or (up ++ head ∷ []) k 0) 0) (get_or (order ++ to ∷ []) k 0)
    grown_parent k more l = elim (last_or_not order to k l)
        as (λ o. (get_or (up ++ head ∷ []) k 0 < k) × Successor graph (get_or (order ++ to ∷ []) (get_or (up ++ head ∷ []) k 0) 0) (get_or (order ++ to ∷ []) k 0)) [
          | inl less ↦
              let p = g.parent k more less in
              let b : get_or up k 0 < k = p.0 in
              rw (up_left k less, at_left order to k less, at_left order to (get_or up k 0) (omega arith)) p
          | inr e ↦ rw (up_end k e, order_end k e, at_left order to head at_head) (omega arith, successor)
        ]

    grown_upto : (k : ℕ) → k < length (order ++ to ∷ []) → get_or (up ++ head ∷ []) k 0 ≤ head
    grown_upto k l = elim (last_or_not order to k l) as (λ o. get_or (up ++ head ∷ []) k 0 ≤ head)
        [ inl less ↦ rw (up_left k less) (g.upto k less) | inr e ↦ rw (up_end k e) (omega arith) ]

    grown_once : (j k : ℕ) → j < k → k < length (order ++ to ∷ []) → get_or (order ++ to ∷ []) j 0 ≡ get_or (order ++ to ∷ []) k 0 → ⊥
    grown_once j k jk l e = elim (last_or_not order to k l) as (λ o. ⊥) [
      | inl less ↦ g.once j k jk less (sym (at_left order to j (omega arith)) ∙ e ∙ at_left order to k less)
      | inr is ↦ not_listed j (omega arith) (sym (at_left order to j (omega arith)) ∙ e ∙ order_end k is)
    ]

    grown_rising : (j k : ℕ) → 0 < j → j < k → k < length (order ++ to ∷ []) →
        (get_or (up ++ head ∷ []) j 0 < get_or (up ++ head ∷ []) k 0)
        ⊎ ((get_or (up ++ head ∷ []) j 0 ≡ get_or (up ++ head ∷ []) k 0) × (get_or (order ++ to ∷ []) j 0 < get_or (order ++ to ∷ []) k 0))
    grown_rising j k more jk l = elim (last_or_not order to k l)
        as (λ o. (get_or (up ++ head ∷ []) j 0 < get_or (up ++ head ∷ []) k 0)
        ⊎ ((get_or (up ++ head ∷ []) j 0 ≡ get_or (up ++ head ∷ []) k 0) × (get_or (order ++ to ∷ []) j 0 < get_or (order ++ to ∷ []) k 0))) [
          | inl less ↦ rw (up_left k less, up_left j (omega arith), at_left order to k less, at_left order to j (omega arith)) (g.rising j k more jk less)
          | inr is ↦
              let lj : j < length order = omega arith in
              rw (up_end k is, up_left j lj, order_end k is, at_left order to j lj)
              (elim (cases_order (get_or up j 0) head) as (λ o. (get_or up j 0 < head) ⊎ ((get_or up j 0 ≡ head) × (get_or order j 0 < to))) [
                | inl e ↦ inr (e, let b = below j more lj e in let ne = not_listed j lj in omega (arith, ne))
                | inr o ↦ elim o [ inl less ↦ inl less | inr greater ↦ absurd (let u = g.upto j lj in omega arith) ]
              ])
        ]

    pub pushed : Saw graph head (Some to) seen order up (set seen to true) (order ++ to ∷ []) (up ++ head ∷ [])
    pushed = record {
      grown = record {
        size = let e = g.size in omega (arith, longer, length-append up (head ∷ []));
        marks = length-set seen to true ∙ g.marks;
        starts = at_left order to 0 g.some ∙ g.starts;
        some = let s = g.some in omega (arith, longer);
        listed = grown_listed;
        marked = grown_marked;
        parent = grown_parent;
        upto = grown_upto;
        once = grown_once;
        rising = grown_rising;
      };
      found = λ t e.
          let same : to ≡ t = cc in
          (length order, omega (arith, longer), at_end order to ∙ same, inr (rw (up_end (length order) refl) (omega arith)));
      kept = λ k l. (omega (arith, longer), at_left order to k l, up_left k l);
      added = λ k l m. ap (λ v. Some v) (sym (order_end k (omega (arith, longer))));
      fewer =
          let e = g.marks in
          let sum = sum_by-set (λ b. cond b 0 1) seen to true false (omega arith) in
          let one : ◌≡◌ {A = ℕ} (cond (get_or seen to false) 0 1) 1 = rw free refl in
          omega (arith, longer, sum, one);
    }

found_listed :
    (graph : List Node) (seen : List Bool) (order up : List ℕ) (head : ℕ) → Grown graph seen order up head →
    (to : ℕ) → get_or seen to false ≡ true → Found order up to head
found_listed graph seen order up head g to h = let k = g.listed to h in (k.0, k.1, k.2, inr (g.upto k.0 k.1))

-- where there is nothing new to see
pub saw_nothing :
    (graph : List Node) (seen : List Bool) (order up : List ℕ) (head : ℕ) → Grown graph seen order up head →
    (to : Option ℕ) → ((t : ℕ) → to ≡ Some t → get_or seen t false ≡ true) → Saw graph head to seen order up seen order up
saw_nothing graph seen order up head g to h = record {
  grown = g;
  found = λ t e. found_listed graph seen order up head g t (h t e);
  kept = λ k l. (l, refl, refl);
  added = λ k l m. absurd (omega arith);
  fewer = refl;
}

kept_found :
    (graph : List Node) (head : ℕ) (to : Option ℕ) (seen : List Bool) (order up : List ℕ) (next_seen : List Bool) (next_order next_up : List ℕ) →
    Saw graph head to seen order up next_seen next_order next_up → (v i : ℕ) → Found order up v i → Found next_order next_up v i
kept_found graph head to seen order up next_seen next_order next_up s v i f =
    let k = s.kept f.0 f.1 in
    (f.0, k.0, k.1 ∙ f.2, elim f.3 as (λ o. (f.0 ≡ 0) ⊎ (get_or next_up f.0 0 ≤ i)) [ inl z ↦ inl z | inr u ↦ inr (rw k.2 u) ])

module _
    (graph : List Node) (head : ℕ) (low high : Option ℕ) (seen_0 seen_1 seen_2 : List Bool) (order_0 up_0 order_1 up_1 order_2 up_2 : List ℕ)
    (level : Level graph seen_0 order_0 up_0 head) (at_head : head < length order_0)
    (all : (t : ℕ) → Successor graph (get_or order_0 head 0) t → (low ≡ Some t) ⊎ (high ≡ Some t))
  where
    -- before the lower successor is seen, none is
    pub below_first : (t : ℕ) → BelowAll order_0 up_0 head t
    below_first t j more l e = let f = level.fresh j more l in absurd (omega arith)

    module _ (first : Saw graph head low seen_0 order_0 up_0 seen_1 order_1 up_1) (rises : (a b : ℕ) → low ≡ Some a → high ≡ Some b → a ≤ b) where
      pub below_second : (t : ℕ) → high ≡ Some t → BelowAll order_1 up_1 head t
      below_second t e j more l u =
          elim (cases_order j (length order_0)) as (λ o. get_or order_1 j 0 ≤ t) [
            | inl same ↦ rises (get_or order_1 j 0) t (first.added j (omega arith) l) e
            | inr o ↦ elim o as (λ o. get_or order_1 j 0 ≤ t) [
              | inl less ↦ let f = level.fresh j more less in let k = (first.kept j less).2 in absurd (omega (arith, k))
              | inr greater ↦ rises (get_or order_1 j 0) t (first.added j (omega arith) l) e
            ]
          ]

      module _ (second : Saw graph head high seen_1 order_1 up_1 seen_2 order_2 up_2) where
        kept_both : (k : ℕ) → k < length order_0 → (k < length order_2) × (get_or order_2 k 0 ≡ get_or order_0 k 0) × (get_or up_2 k 0 ≡ get_or up_0 k 0)
        kept_both k l =
            let a = first.kept k l in let b = second.kept k a.0 in (b.0, b.1 ∙ a.1, b.2 ∙ a.2)

        both_found : (v i : ℕ) → Found order_0 up_0 v i → Found order_2 up_2 v i
        both_found v i f =
            kept_found graph head high seen_1 order_1 up_1 seen_2 order_2 up_2 second v i
            (kept_found graph head low seen_0 order_0 up_0 seen_1 order_1 up_1 first v i f)

        head_found : (t : ℕ) → Successor graph (get_or order_0 head 0) t → Found order_2 up_2 t head
        head_found t s = elim (all t s) as (λ o. Found order_2 up_2 t head)
            [ inl e ↦ kept_found graph head high seen_1 order_1 up_1 seen_2 order_2 up_2 second t head (first.found t e) | inr e ↦ second.found t e ]

        next_closed : Closed graph order_2 up_2 (head + 1)
        next_closed i t l s =
            elim (cases_order i head) as (λ o. Found order_2 up_2 t i) [
              | inl same ↦
                  let is : get_or order_2 i 0 ≡ get_or order_0 head 0 = (kept_both i (omega arith)).1 ∙ ap (λ n. get_or order_0 n 0) same in
                  rw same (head_found t (rw is at s))
              | inr o ↦ elim o as (λ o. Found order_2 up_2 t i) [
                | inl less ↦
                    let is : get_or order_2 i 0 ≡ get_or order_0 i 0 = (kept_both i (omega arith)).1 in
                    both_found t i (level.closed i t less (rw is at s))
                | inr more ↦ absurd (omega arith)
              ]
            ]

        pub next_level : Level graph seen_2 order_2 up_2 (head + 1)
        next_level = record {
          grown = let g = second.grown in record {
            size = g.size;
            marks = g.marks;
            starts = g.starts;
            some = g.some;
            listed = g.listed;
            marked = g.marked;
            parent = g.parent;
            upto = λ k l. let u = g.upto k l in omega arith;
            once = g.once;
            rising = g.rising;
          };
          fresh = λ k more l. let u = second.grown.upto k l in omega arith;
          closed = next_closed;
          within = let k = (kept_both head at_head).0 in omega arith;
        }
