-- The lowest of header lines.
use Rattle.std.proofs.Common.{◌≡◌, ◌<◌, ◌+◌, ℕ, ◌⊎◌, ◌≤◌, inl, inr, arith, true, false, Option, None, Some, slice_get, length, refl, sym, ap, ◌∙◌}
use Rattle.std.specs.Prelude.{nat_lt}
use Rattle.std.proofs.lemmas.Bool.{ltb-true, lt-ltb}
use Rattle.std.proofs.lemmas.List.Elements.{Contains-from_at, at_from_Contains}
use Rattle.std.proofs.lemmas.Option.{slice_get_within, get_or_from_slice_get, slice_get_read}
use Rattle.sp_base.specs.declared.line.Line.{Line}
use Rattle.sp_graph.specs.Structure.{PassesRegion}
use Rattle.sp_prog.specs.declared.routine.Routine.{Routine}
use Rattle.sp_prog.specs.Program.{Program}
use Rattle.sp_struct.specs.Kinds.{IsLowestLine}
use Rattle.sp_struct.specs.code.Headers.{Header, passes_region}
use Rattle.sp_struct.specs.code.Lowest.{lower, LowestSoFar, IsLowest}
use Rattle.sp_struct.proofs.LowestLemmas.{lower_is, one_more, none_more, routine_done}
use Rattle.sp_struct.proofs.RuleLemmas.{both, join}

module _ (p : Program) (r : ℕ) (routine : Routine) (e : slice_get p.routines r ≡ Some routine) (best : Option Line) (so_far : LowestSoFar (Header p) r 0 best) where
  is_here : (k other : ℕ) → Header p r k other → (other ≡ routine.line.0) × (passes_region p routine ≡ true)
  is_here k other h =
      let same : h.0 ≡ routine = let m = h.1 in cc (m, e) in
      (sym h.3 ∙ ap (λ (x : Routine). x.line.0) same, rw (← same) h.4)

  first_alone : (j line : ℕ) → Header p r j line → j < 0 + 1
  first_alone j line h = let z = h.2 in omega (arith, z)

  pub header_more : passes_region p routine ≡ true → LowestSoFar (Header p) (r + 1) 0 (lower best routine.line)
  header_more b =
      routine_done (Header p) r (0 + 1) (lower best routine.line)
      (one_more (Header p) r 0 best so_far routine.line (routine, e, refl, refl, b) (λ other h. (is_here 0 other h).0)) first_alone

  pub header_kept : passes_region p routine ≡ false → LowestSoFar (Header p) (r + 1) 0 best
  header_kept b =
      routine_done (Header p) r (0 + 1) best
      (none_more (Header p) r 0 best so_far (λ other h. let t = (is_here 0 other h).1 in cc (t, b))) first_alone

pub header_within : (p : Program) (i j line : ℕ) → Header p i j line → i < length p.routines
header_within p i j line h = slice_get_within p.routines i h.0 h.1

pub headers_told : (p : Program) (best : Option Line) → IsLowest (Header p) best → IsLowestLine (PassesRegion p) best
headers_told p best low = record {
  found = λ line e.
      let f = low.found line e in
      let h = f.2 in
      let parts = both h.0.start (nat_lt (p.last + 1) (p.first + h.0.depth)) h.4 in (
        h.0,
        Contains-from_at p.routines h.0 (f.0, slice_get_within p.routines f.0 h.0 h.1, λ d. get_or_from_slice_get p.routines f.0 h.0 d h.1),
        h.3,
        parts.0,
        ltb-true (p.last + 1) (p.first + h.0.depth) parts.1,
      );
  least = λ line q.
      let at = at_from_Contains p.routines q.0 q.1 in
      low.least at.0 0 line (
        q.0,
        slice_get_read p.routines (length p.routines) at.0 q.0 refl at.1 (sym (at.2 q.0)),
        refl,
        q.2,
        join q.0.start (nat_lt (p.last + 1) (p.first + q.0.depth)) q.3 (lt-ltb (p.last + 1) (p.first + q.0.depth) q.4),
      );
}

-- the lowest line on which one of two rules is broken
pub lower_of_both : (A B : ℕ → Type 0) (a : Option Line) (line : Line) → IsLowestLine A a → IsLowestLine B (Some line) →
    IsLowestLine (λ l. A l ⊎ B l) (lower a line)
lower_of_both A B a line low high =
    let c = lower_is a line in
    record {
      found = λ x e.
          let same : c.0 ≡ x = let m = c.1 in cc (m, e) in
          elim c.4 as (λ o. A x.0 ⊎ B x.0) [
            | inl is ↦ inr (high.found x (ap (λ l. Some l) (sym is ∙ same)))
            | inr old ↦ inl (low.found x (old ∙ ap (λ l. Some l) same))
          ];
      least = λ l h. elim h as (λ o. (b : Line) × (lower a line ≡ Some b) × (b.0 ≤ l)) [
        | inl q ↦ let f = low.least l q in let d = c.3 f.0 f.1 in let e = f.2 in (c.0, c.1, omega (arith, d, e))
        | inr q ↦
            let f = high.least l q in
            let is : line ≡ f.0 = let m = f.1 in cc m in
            let d : line.0 ≤ l = rw (← is) at f.2 in
            let e = c.2 in (c.0, c.1, omega (arith, d, e))
      ];
    }

pub lower_of_one : (A B : ℕ → Type 0) (a : Option Line) → IsLowestLine A a → IsLowestLine B None → IsLowestLine (λ l. A l ⊎ B l) a
lower_of_one A B a low none = record {
  found = λ x e. inl (low.found x e);
  least = λ l h. elim h as (λ o. (b : Line) × (a ≡ Some b) × (b.0 ≤ l)) [ inl q ↦ low.least l q | inr q ↦ let f = none.least l q in absurd (let m = f.1 in cc m) ];
}
