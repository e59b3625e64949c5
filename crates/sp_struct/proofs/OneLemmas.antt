-- A unit has one answer.
use Rattle.std.proofs.Common.{◌≡◌, ◌<◌, ℕ, inl, inr, arith, List, length, get_or, sym, ap, ◌∙◌}
use Rattle.std.specs.Prelude.{ℤ, pos, ◌+ℤ◌, Result}
use Rattle.std.proofs.lemmas.Bool.{cases_eq}
use Rattle.std.proofs.lemmas.Grind.{same_number_lists}
use Rattle.std.proofs.lemmas.List.{same_lists}
use Rattle.std.proofs.lemmas.Option.{slice_get-get_or}
use Rattle.sp_base.specs.Refused.{Answers, IsComplete}
use Rattle.sp_base.specs.declared.refused.Refused.{Refused}
use Rattle.sp_base.proofs.RefusedLemmas.{complete}
use Rattle.sp_graph.specs.Depths.{effect}
use Rattle.sp_graph.specs.Routines.{graph_of}
use Rattle.sp_graph.specs.SoundUnits.{AreDepthsOf, IsSoundOf}
use Rattle.sp_graph.specs.Structure.{IsAt, DiffersAt, DiffersInDepth}
use Rattle.sp_graph.specs.declared.sound.Sound.{Sound}
use Rattle.sp_prog.specs.declared.routine.Routine.{Routine}
use Rattle.sp_prog.specs.declared.routine.Stmt.{Stmt}
use Rattle.sp_prog.specs.Program.{Program}
use Rattle.sp_prog.specs.Rules.{IsUnit}
use Rattle.sp_struct.specs.Refusals.{IsRefusedAt, BreaksRule, rank}
use Rattle.sp_struct.specs.code.Gaps.{Differs}
use Rattle.sp_struct.specs.declared.refusal.StructKind.{StructKind}
use Rattle.sp_struct.specs.declared.refusal.StructKind.TheVariants as kind
use Rattle.sp_struct.proofs.KeptLemmas.{same_kind, depth_of}
use Rattle.sp_struct.proofs.LeastLemmas.{one_depth}
use Rattle.sp_struct.proofs.LowestLemmas.{same_at}
use Rattle.sp_struct.proofs.NaturalLemmas.{at_place}
use Rattle.sp_struct.proofs.PlaceLemmas.{one_on_line}
use Rattle.sp_struct.proofs.RefusalLemmas.{one_refusal, unbroken}

-- ---- Depths

same_pos : (a b : ℕ) → pos a ≡ pos b → a ≡ b
same_pos a b e = cc e

module _ (p : Program) (r : ℕ) (routine : Routine) (a b : List ℕ) (x : AreDepthsOf p r routine a) (y : AreDepthsOf p r routine b) where
  one_list : a ≡ b
  one_list = same_number_lists a b (x.size ∙ sym y.size) (λ k l.
      let n = x.size in
      let within : k < length routine.code = omega (arith, l, n) in
      same_pos (get_or a k 0) (get_or b k 0)
      (one_depth (graph_of p r) routine.code k (pos (get_or a k 0)) (pos (get_or b k 0)) (x.each k within) (y.each k within)))

module _ (p : Program) where
  pub one_depths : (a b : Sound) → IsSoundOf p a → IsSoundOf p b → a.depths ≡ b.depths
  one_depths a b x y = same_lists a.depths b.depths (x.size ∙ sym y.size) (λ r d l.
      let n = x.size in
      let m = y.size in
      let low : r < length p.routines = omega (arith, l, n) in
      let found = at_place p.routines r low in
      let routine = found.0 in
      let among = found.1 in
      let mine = slice_get-get_or a.depths r d l in
      let yours = slice_get-get_or b.depths r d (omega (arith, low, m)) in
      one_list p r routine (get_or a.depths r d) (get_or b.depths r d) (x.each r routine (get_or a.depths r d) among mine)
      (y.each r routine (get_or b.depths r d) among yours))

-- ---- Differences

module _ (p : Program) (r k : ℕ) (routine : Routine) (s : Stmt) where
  one_successor : (a b d : ℤ) → (x : DiffersAt p r routine k s a b) → (y : DiffersAt p r routine k s a d) → b ≡ d
  one_successor a b d x y =
      let up = x.lowest y.to d y.successor y.other y.differs in
      let down = y.lowest x.to b x.successor x.other x.differs in
      let same : x.to ≡ y.to = omega (arith, up, down) in
      one_depth (graph_of p r) routine.code y.to b d (rw (← same) x.other) y.other

  one_difference : (a b c d : ℤ) → Differs p r routine k s a b → Differs p r routine k s c d → (a ≡ c) × (b ≡ d)
  one_difference a b c d (inl (x, z)) (inl (y, w)) = (one_depth (graph_of p r) routine.code k a c x.1 y.1, z ∙ sym w)
  one_difference a b c d (inl (x, z)) (inr (none, y)) = absurd (none a x)
  one_difference a b c d (inr (none, x)) (inl (y, w)) = absurd (none c y)
  one_difference a b c d (inr (none, x)) (inr (other, y)) =
      let before : x.before ≡ y.before = one_depth (graph_of p r) routine.code k x.before y.before x.depth y.depth in
      let same : a ≡ c = x.after ∙ ap (λ v. v +ℤ effect s.instr) before ∙ sym y.after in
      (same, one_successor a b d x (rw same y))

module _ (p : Program) (u : IsUnit p) where
  pub one_on_a_line : (line : ℕ) (a b c d : ℤ) → DiffersInDepth p line a b → DiffersInDepth p line c d → (a ≡ c) × (b ≡ d)
  one_on_a_line line a b c d (r, k, routine, s, at, l, h) (q, m, other, t, there, n, g) =
      let place = one_on_line p u r k q m routine other s t at there (l ∙ sym n) in
      let moved : IsAt p r k other t = rw (place.0, place.1) there in
      let same = same_at p r k routine other s t at moved in
      one_difference p r k routine s a b c d h (rw (same.0, same.1, place.0, place.1) g)

  -- both are kinds of depths
  depths_one : (line : ℕ) (k other : StructKind) → rank k ≡ 7 → rank other ≡ 7 → BreaksRule p k line → BreaksRule p other line → k ≡ other
  depths_one line k other e f x y =
      let mine = depth_of p k line e x in
      let yours = depth_of p other line f y in
      let same = one_on_a_line line mine.0 mine.1 yours.0 yours.1 mine.2 yours.2 in
      mine.3 ∙ (λ i. kind.Depth (same.0 i) (same.1 i)) ∙ sym yours.3

  one_kind : (line : ℕ) (k other : StructKind) → rank k ≡ rank other → BreaksRule p k line → BreaksRule p other line → k ≡ other
  one_kind line k other e x y = elim (cases_eq (rank k) 7) as (λ o. k ≡ other) [
    | inl deep ↦ depths_one line k other deep (sym e ∙ deep) x y
    | inr ne ↦ same_kind k other e ne
  ]

  pub one_cause : (line there : ℕ) (k other : StructKind) → IsRefusedAt p line k → IsRefusedAt p there other → (line ≡ there) × (k ≡ other)
  one_cause line there k other x y =
      let same = (one_refusal p).one line there k other x y in
      (same.0, one_kind there k other same.1 (rw same.0 at x.broken) y.broken)

  pub one_answer :
      (result : Result Sound (Refused StructKind)) → Answers (IsSoundOf p) (IsRefusedAt p) result → IsComplete (IsSoundOf p) (IsRefusedAt p) result
  one_answer result h =
      complete (IsSoundOf p) (IsRefusedAt p) (λ a b x y. let same = one_depths p a b x y in (λ i. record { depths = same i })) one_cause
      (λ a line k x y. unbroken p x.structured k line y.broken) result h
