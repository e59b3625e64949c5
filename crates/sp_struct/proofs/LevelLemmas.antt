-- The depths of one routine more.
use Rattle.std.proofs.Common.{◌≡◌, ◌<◌, ◌≤◌, ◌+◌, ℕ, zero, suc, inl, inr, arith, List, [], ◌∷◌, ◌++◌, Some, slice_get, length, length-append, get_or, sym, ap, ◌∙◌}
use Rattle.std.proofs.lemmas.Bool.{cases_order}
use Rattle.std.proofs.lemmas.List.{get_or_append_left, get_or_push}
use Rattle.std.proofs.lemmas.Option.{slice_get_within, slice_get-get_or, get_or_from_slice_get}
use Rattle.sp_graph.specs.Routines.{graph_of}
use Rattle.sp_prog.specs.declared.routine.Routine.{Routine}
use Rattle.sp_prog.specs.declared.routine.Stmt.{Stmt}
use Rattle.sp_prog.specs.Program.{Program}
use Rattle.sp_prog.specs.Rules.{AreLaidOut, first_address}
use Rattle.sp_graph.proofs.LayoutLemmas.{code_rises}
use Rattle.sp_struct.specs.declared.stack.Levels.{Levels}
use Rattle.sp_struct.specs.code.Depths.{TellsDepths}
use Rattle.sp_struct.specs.code.Levels.{AreFirstLevels}

-- an instruction stands at an address at least as high as its place
pub place_below : (code : List Stmt) → AreLaidOut (first_address code) code → (k : ℕ) (d : Stmt) → k < length code → k ≤ (get_or code k d).addr
place_below code laid zero d l = omega arith
place_below code laid (suc k) d l =
    let before = place_below code laid k d (omega arith) in
    let up = code_rises (first_address code) code laid k (suc k) d (omega arith) l in
    omega (arith, before, up)

module _ (p : Program) (count : ℕ) (all : List Levels) (first : AreFirstLevels p count all) (levels : Levels)
    (here : (routine : Routine) → slice_get p.routines count ≡ Some routine → TellsDepths (graph_of p count) routine.code levels.reached.items levels.depths.items) where
  pub levels_more : AreFirstLevels p (count + 1) (all ++ levels ∷ [])
  levels_more =
      let size = first.size in
      record {
        size = omega (arith, size, length-append all (levels ∷ []));
        each = λ r routine found among e.
            let l = slice_get_within (all ++ levels ∷ []) r found e in
            let read = get_or_from_slice_get (all ++ levels ∷ []) r found levels e in
            elim (cases_order r count) as (λ o. TellsDepths (graph_of p r) routine.code found.reached.items found.depths.items) [
              | inl same ↦
                  let is : levels ≡ found = sym (get_or_push all levels levels r (omega (arith, same, size))) ∙ read in
                  rw (← is, same) (here routine (rw same at among))
              | inr o ↦ elim o as (λ o. TellsDepths (graph_of p r) routine.code found.reached.items found.depths.items) [
                | inl low ↦
                    let inside : r < length all = omega (arith, size) in
                    let old = sym (get_or_append_left all (levels ∷ []) levels r inside) ∙ read in
                    first.each r routine found among (slice_get-get_or all r levels inside ∙ ap (λ v. Some v) old)
                | inr high ↦ absurd (omega (arith, l, size, length-append all (levels ∷ [])))
              ]
            ];
      }
