-- Memory as annotations see it, outside the areas that a routine changes.
use Rattle.std.proofs.Common.{◌≡◌, ◌⊎◌, inl, inr, ℕ, ◌+◌, ◌-◌, ◌%◌, ◌<◌, ◌≤◌, ℤ, pos, negsuc, Bool, true, false, cond, ◌&&◌, map, length, refl, sym, ap, subst, ◌∙◌, arith}
use Rattle.std.specs.Prelude.{Contains, slice_index, nat_le, ◌<ℤ◌}
use Rattle.std.proofs.lemmas.Bool.{cases_order}
use Rattle.std.proofs.lemmas.Bool.Decides.{nat_tests}
use Rattle.std.proofs.lemmas.Int.{ints}
use Rattle.std.proofs.lemmas.List.{get_or_past}
use Rattle.std.proofs.lemmas.List.Elements.{All-contains}
use Rattle.sp_model.specs.Good.{InArea, InAllotment, Keeps}
use Rattle.sp_model.specs.Note.{Frame, shown}
use Rattle.sp_model.specs.State.{State}
use Rattle.sp_model.specs.Unit as runs
use Rattle.sp_prog.specs.Program.{Program}
use Rattle.sp_prog.specs.Rules.{IsInArea}
use Rattle.sp_prog.specs.View.{area_of, listed_areas, unit_of, routine_of}
use Rattle.sp_prog.specs.declared.routine.Routine.{Routine}
use Rattle.sp_prog.proofs.MemberLemmas.{in_map, mapped}
use Rattle.sp_term.specs.Admissible.{IsOutside}
use Rattle.sp_cond.specs.Execution.{span}

out_of_span : (a first last len : ℕ) → first ≤ a → a < first + len → last ≡ first + len - 1 → ((pos a <ℤ pos first) ⊎ (pos last <ℤ pos a)) → ⊥
out_of_span a first last len low high same (inl less) = let below : a < first = grind (arith, ints) in omega arith
out_of_span a first last len low high same (inr more) = let above : last < a = grind (arith, ints) in omega arith

module _ (p : Program) (routine : Routine) (f : Frame) (first_is : f.first ≡ p.first) (last_is : f.last ≡ p.last) (s t : State)
    (keeps : Keeps (unit_of p) (routine_of p.areas routine) s t) (in_stack : (a : ℕ) → InAllotment (unit_of p) (routine_of p.areas routine) s a → (p.first ≤ a) × (a ≤ p.last))
    (long : length s.core.cells ≡ 65536) (long_after : length t.core.cells ≡ 65536) where
  outside_areas : (a : ℕ) → IsOutside (pos a) (map span (listed_areas p.areas routine.changes.areas)) → (area : runs.Area) → Contains (map area_of (listed_areas p.areas routine.changes.areas)) area → ¬ InArea a area
  outside_areas a out area there within =
      let m = mapped area_of (listed_areas p.areas routine.changes.areas) area there in
      let inside : IsInArea m.0 a = subst (InArea a) (sym m.2) within in
      let apart = All-contains (λ (q : ℕ × ℕ). (pos a <ℤ pos q.0) ⊎ (pos q.1 <ℤ pos a)) (map span (listed_areas p.areas routine.changes.areas)) (span m.0) out (in_map span (listed_areas p.areas routine.changes.areas) m.0 m.1) in
      out_of_span a m.0.addr (m.0.addr + m.0.len - 1) m.0.len inside.0 inside.1 refl apart

  cell_same : (a : ℕ) → a < 65536 → ¬ ((f.first ≤ a) × (a ≤ f.last)) → IsOutside (pos a) (map span (listed_areas p.areas routine.changes.areas)) → slice_index t.core.cells a ≡ slice_index s.core.cells a
  cell_same a low apart out =
      let same : a % 65536 ≡ a = omega (arith, low) in
      subst (λ n. slice_index t.core.cells n ≡ slice_index s.core.cells n) same
      (keeps.memory a low (outside_areas a out) (λ inside. let there = in_stack a inside in let above = there.0 in let below = there.1 in apart (omega (arith, above, first_is), omega (arith, below, last_is))))

  shown_by : (a : ℕ) (b : Bool) → (nat_le f.first a && nat_le a f.last) ≡ b → IsOutside (pos a) (map span (listed_areas p.areas routine.changes.areas)) → shown f t.core.cells (pos a) ≡ shown f s.core.cells (pos a)
  shown_by a true is out = ap (λ b. cond b (pos 0) (pos (slice_index t.core.cells a))) is ∙ sym (ap (λ b. cond b (pos 0) (pos (slice_index s.core.cells a))) is)
  shown_by a false is out =
      let apart : ¬ ((f.first ≤ a) × (a ≤ f.last)) = λ h. let low = h.0 in let high = h.1 in let clash : (nat_le f.first a && nat_le a f.last) ≡ true = grind (arith, nat_tests) in let no_way : true ≡ false = sym clash ∙ is in absurd cc in
      ap (λ n. cond (nat_le f.first a && nat_le a f.last) (pos 0) (pos n))
      (elim (cases_order a 65536) [
        | inl e ↦ get_or_past t.core.cells a 0 (omega (arith, e, long_after)) ∙ sym (get_or_past s.core.cells a 0 (omega (arith, e, long)))
        | inr (inl low) ↦ cell_same a low apart out
        | inr (inr high) ↦ get_or_past t.core.cells a 0 (omega (arith, high, long_after)) ∙ sym (get_or_past s.core.cells a 0 (omega (arith, high, long)))
      ])

  -- outside the areas memory is as it was
  pub outside_same : (z : ℤ) → IsOutside z (map span (listed_areas p.areas routine.changes.areas)) → shown f t.core.cells z ≡ shown f s.core.cells z
  outside_same (pos a) out = shown_by a (nat_le f.first a && nat_le a f.last) refl out
  outside_same (negsuc a) out = refl
