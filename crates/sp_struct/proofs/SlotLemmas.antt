-- Assertions that name words below those of the stack.
use Rattle.std.proofs.Common.{◌≡◌, ◌<◌, ◌≤◌, ◌+◌, ◌*◌, ℕ, ◌⊎◌, inl, inr, arith, Bool, true, false, List, ◌++◌, Option, Some, slice_get, length, refl, sym, ap, ◌∙◌}
use Rattle.std.specs.Prelude.{ℤ, pos, ◌<ℤ◌, int_lt, ◌||◌, Contains}
use Rattle.std.proofs.Common.{tests}
use Rattle.std.proofs.lemmas.Bool.{cases_order}
use Rattle.std.proofs.lemmas.Int.{ints}
use Rattle.std.proofs.lemmas.List.{get_or_default}
use Rattle.std.proofs.lemmas.List.Elements.{Contains-from_at, at_from_Contains}
use Rattle.std.proofs.lemmas.List.Folds.{list_any-append, Any-from_list_any, list_any_at}
use Rattle.std.proofs.lemmas.Option.{slice_get_within, slice_get_read, get_or_from_slice_get}
use Rattle.sp_base.specs.declared.line.Line.{Line}
use Rattle.sp_logic.specs.View.{note_of}
use Rattle.sp_graph.specs.Routines.{graph_of}
use Rattle.sp_graph.specs.Structure.{IsAt, HasNoSlot, note_words}
use Rattle.sp_prog.specs.declared.routine.Noted.{Noted}
use Rattle.sp_prog.specs.declared.routine.Routine.{Routine}
use Rattle.sp_prog.specs.declared.routine.Stmt.{Stmt}
use Rattle.sp_prog.specs.Program.{Program}
use Rattle.sp_struct.specs.Kinds.{IsLowestLine}
use Rattle.sp_struct.specs.code.Depths.{depth_at, is_seen, TellsDepths}
use Rattle.sp_struct.specs.code.Lowest.{lower, ComesBefore, LowestSoFar, IsLowest}
use Rattle.sp_struct.specs.code.Slots.{lacks, note_lacks, Lowered, LacksHere}
use Rattle.sp_struct.proofs.LeastLemmas.{one_depth}
use Rattle.sp_struct.proofs.LowestLemmas.{lower_is, same_at, none_more}

pub lacks_both : (depth : ℤ) (xs ys : List ℕ) → lacks depth (xs ++ ys) ≡ (lacks depth xs || lacks depth ys)
lacks_both depth xs ys = list_any-append (λ w. int_lt depth (pos (2 * w))) xs ys

below : (x y : ℤ) → int_lt x y ≡ true → x <ℤ y
below x y e = grind (arith, ints, tests)

above : (x y : ℤ) → x <ℤ y → int_lt x y ≡ true
above x y e = grind (arith, ints, tests)

lacks_word : (depth : ℤ) (words : List ℕ) → lacks depth words ≡ true → (w : ℕ) × Contains words w × (depth <ℤ pos (2 * w))
lacks_word depth words e =
    let f = Any-from_list_any (λ w. int_lt depth (pos (2 * w))) words e in
    (f.1, Contains-from_at words f.1 (f.0, f.2, λ d. get_or_default words f.0 d f.1 f.2 ∙ f.3), below depth (pos (2 * f.1)) f.4)

lacks_back : (depth : ℤ) (words : List ℕ) (w : ℕ) → Contains words w → depth <ℤ pos (2 * w) → lacks depth words ≡ true
lacks_back depth words w h l =
    let at = at_from_Contains words w h in
    list_any_at (λ v. int_lt depth (pos (2 * v))) words at.0 w at.1 (rw (at.2 w) (above depth (pos (2 * w)) l))

-- ---- The annotations of an instruction

module _ (depth : ℤ) (notes : List Noted) (first : Option Line) where
  pub none_lowered : Lowered depth notes 0 first first
  none_lowered = record { found = λ line e. inl e; least = λ i n l. absurd (omega arith); kept = λ old e. (old, e, omega arith) }

  module _ (j : ℕ) (n : Noted) (best : Option Line) (so_far : Lowered depth notes j first best) (here : slice_get notes j ≡ Some n) where
    pub lowered_more : note_lacks depth n ≡ true → Lowered depth notes (j + 1) first (lower best n.line)
    lowered_more b =
        let c = lower_is best n.line in
        record {
          found = λ line e.
              let same : c.0 ≡ line = let m = c.1 in cc (m, e) in
              elim c.4 as (λ o. (first ≡ Some line) ⊎ ((i : ℕ) × (m : Noted) × (slice_get notes i ≡ Some m) × (note_lacks depth m ≡ true) × (m.line ≡ line))) [
                | inl is ↦ inr (j, n, here, b, sym is ∙ same)
                | inr old ↦ so_far.found line (old ∙ ap (λ x. Some x) same)
              ];
          least = λ i m l at bad. (
            c.0,
            c.1,
            (elim (cases_order i j) as (λ o. c.0.0 ≤ m.line.0) [
              | inl same ↦ let is : n ≡ m = let e : slice_get notes j ≡ Some m = rw same at at in cc (here, e) in rw (← is) c.2
              | inr o ↦ elim o as (λ o. c.0.0 ≤ m.line.0) [
                | inl less ↦ let old = so_far.least i m less at bad in let low = c.3 old.0 old.1 in let k = old.2 in omega (arith, low, k)
                | inr more ↦ absurd (omega arith)
              ]
            ]),
          );
          kept = λ old e.
              let k = so_far.kept old e in
              let low = c.3 k.0 k.1 in
              let m = k.2 in (c.0, c.1, omega (arith, low, m));
        }

    pub lowered_kept : note_lacks depth n ≡ false → Lowered depth notes (j + 1) first best
    lowered_kept b = record {
      found = so_far.found;
      least = λ i m l at bad. elim (cases_order i j) as (λ o. (x : Line) × (best ≡ Some x) × (x.0 ≤ m.line.0)) [
        | inl same ↦
            let is : n ≡ m = let e : slice_get notes j ≡ Some m = rw same at at in cc (here, e) in
            let t : note_lacks depth n ≡ true = rw (← is) at bad in absurd (cc (t, b))
        | inr o ↦ elim o as (λ o. (x : Line) × (best ≡ Some x) × (x.0 ≤ m.line.0)) [ inl less ↦ so_far.least i m less at bad | inr more ↦ absurd (omega arith) ]
      ];
      kept = so_far.kept;
    }

  pub lowered_all : (j : ℕ) (best : Option Line) → Lowered depth notes j first best → length notes ≤ j → Lowered depth notes (length notes) first best
  lowered_all j best h past = record {
    found = h.found;
    least = λ i n l at bad. h.least i n (omega arith) at bad;
    kept = h.kept;
  }

-- ---- The instructions

pub slot_unseen : (p : Program) (r k : ℕ) (routine : Routine) → slice_get p.routines r ≡ Some routine → (seen : List Bool) (depths : List ℤ) →
    TellsDepths (graph_of p r) routine.code seen depths → (first : Option Line) → LowestSoFar (LacksHere p) r k first →
    is_seen seen k ≡ false → LowestSoFar (LacksHere p) r (k + 1) first
slot_unseen p r k routine among seen depths t first so_far e =
    none_more (LacksHere p) r k first so_far (λ other (there, x, is, (n, depth, w, c, l, d, cw, less)). t.none k e d.0 d.1.walk)

module _ (p : Program) (r k : ℕ) (routine : Routine) (s : Stmt) (at : IsAt p r k routine s) (seen : List Bool) (depths : List ℤ)
    (t : TellsDepths (graph_of p r) routine.code seen depths) (first : Option Line) (so_far : LowestSoFar (LacksHere p) r k first) where
  pub slot_more : (best : Option Line) → is_seen seen k ≡ true → Lowered (depth_at depths k) s.asserts (length s.asserts) first best →
      LowestSoFar (LacksHere p) r (k + 1) best
  slot_more best e low = record {
    found = λ line is. elim (low.found line is) as (λ o. (i : ℕ) × (j : ℕ) × LacksHere p i j line.0) [
      | inl old ↦ so_far.found line old
      | inr (i, n, read, bad, l) ↦
          let w = lacks_word (depth_at depths k) (note_words (note_of n.note)) bad in (
            r,
            k,
            (
              routine,
              s,
              at,
              (
                n,
                depth_at depths k,
                w.0,
                Contains-from_at s.asserts n (i, slice_get_within s.asserts i n read, λ d. get_or_from_slice_get s.asserts i n d read),
                ap (λ (x : Line). x.0) l,
                t.some k e,
                w.1,
                w.2,
              ),
            ),
          )
    ];
    least = λ i j line h b. elim (cases_now i j b) as (λ o. (x : Line) × (best ≡ Some x) × (x.0 ≤ line)) [
      | inl before ↦
          let old = so_far.least i j line h before in
          let now = low.kept old.0 old.1 in
          let a = old.2 in let z = now.2 in (now.0, now.1, omega (arith, a, z))
      | inr now ↦ here line (rw (now.0, now.1) at h)
    ];
  }
    where
      cases_now : (i j : ℕ) → ComesBefore i j r (k + 1) → ComesBefore i j r k ⊎ ((i ≡ r) × (j ≡ k))
      cases_now i j (inl l) = inl (inl l)
      cases_now i j (inr q) = elim (cases_order j k) as (λ o. ComesBefore i j r k ⊎ ((i ≡ r) × (j ≡ k))) [
        | inl same ↦ inr (q.0, same)
        | inr o ↦ elim o as (λ o. ComesBefore i j r k ⊎ ((i ≡ r) × (j ≡ k)))
            [ inl l ↦ inl (inr (q.0, l)) | inr l ↦ absurd (let m : j < k + 1 = q.1 in omega arith) ]
      ]

      here : (line : ℕ) → LacksHere p r k line → (x : Line) × (best ≡ Some x) × (x.0 ≤ line)
      here line (there, x, is, (n, depth, w, c, l, d, cw, less)) =
          let same = same_at p r k there routine x s is at in
          let code : there.code ≡ routine.code = ap (λ (v : Routine). v.code) same.0 in
          let deep : depth ≡ depth_at depths k = one_depth (graph_of p r) routine.code k depth (depth_at depths k) (rw code at d) (t.some k e) in
          let mine : Contains s.asserts n = rw same.1 at c in
          let f = at_from_Contains s.asserts n mine in
          let read = slice_get_read s.asserts (length s.asserts) f.0 n refl f.1 (sym (f.2 n)) in
          let found = low.least f.0 n f.1 read (lacks_back (depth_at depths k) (note_words (note_of n.note)) w cw (rw deep at less)) in
          let z = found.2 in (found.0, found.1, omega (arith, z, l))

pub slots_told : (p : Program) (best : Option Line) → IsLowest (LacksHere p) best → IsLowestLine (HasNoSlot p) best
slots_told p best low = record {
  found = λ line e. let f = low.found line e in (f.0, f.1, f.2.0, f.2.1, f.2.2, f.2.3);
  least = λ line h. low.least h.0 h.1 line (h.2, h.3, h.4, h.5);
}
