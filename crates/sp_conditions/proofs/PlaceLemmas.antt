-- What the rules of a unit give of its routines and areas.
use Rattle.std.proofs.Common.{◌≡◌, ◌≤◌, ℕ, List, Option, Some, None, sym, subst, ◌∙◌, ap, arith, slice_get, get_or}
use Rattle.std.specs.Borrow.{Bor}
use Rattle.std.specs.Prelude.{option_map, All}
use Rattle.std.proofs.lemmas.List.Elements.{All-get_or}
use Rattle.std.proofs.lemmas.Option.{slice_get_within, get_or_from_slice_get}
use Rattle.sp_graph.specs.Routines.{callee_at}
use Rattle.sp_prog.specs.declared.area.Area.{Area}
use Rattle.sp_prog.specs.declared.area.AreaKind.{AreaKind}
use Rattle.sp_prog.specs.declared.area.AreaKind.TheVariants as kind
use Rattle.sp_prog.specs.declared.routine.Routine.{Routine}
use Rattle.sp_prog.specs.Program.{Program}
use Rattle.sp_prog.specs.Rules.{IsUnit, IsRoutine, IsArea, IsEvaluable, HasLength}
use Rattle.sp_conditions.specs.code.Cells.{HasCells}
use Rattle.sp_conditions.specs.code.Notes.{NotesFit}
use Rattle.sp_conditions.proofs.NoteLemmas.{all_fit}

-- what holds of all elements holds of the one at a place
pub element_has : {X : Type 0} (P : X → Type 0) (xs : List X) (k : ℕ) (x : X) → All P xs → slice_get xs k ≡ Some x → P x
element_has P xs k x h e =
    subst P (get_or_from_slice_get xs k x x e) (All-get_or P xs k x (slice_get_within xs k x e) h)

-- a routine of a unit keeps the rules on routines
pub routine_rules : (p : Program) (place : Option ℕ) (r : Routine) → IsUnit p → callee_at p.routines place ≡ Some r → IsRoutine p r
routine_rules p None r u e = absurd cc
routine_rules p (Some place) r u e = element_has (IsRoutine p) p.routines place r u.routines e

some_cells : (k : AreaKind) (n : ℕ) → HasLength k n → 1 ≤ n
some_cells kind.Byte n h = omega (arith, h)
some_cells kind.Word n h = omega (arith, h)
some_cells kind.Bytes n h = omega (arith, h)

area_has_cells : (p : Program) (area : Area) → IsArea p area → HasCells area
area_has_cells p area h = record { some = some_cells area.kind area.len h.length; within = h.within }

-- each area of a unit has cells
pub areas_have_cells : (p : Program) → IsUnit p → All HasCells p.areas
areas_have_cells p u i d l = area_has_cells p (get_or p.areas i d) (u.areas i d l)

-- the area at a place has cells where all have
pub cells_at : (areas : List Area) (place : ℕ) (found : Option Area) (area : Area) → All HasCells areas → found ≡ slice_get areas place → found ≡ Some area → HasCells area
cells_at areas place found area h is e = element_has HasCells areas place area h (sym is ∙ e)

module _ (p : Program) (place : Option ℕ) (found : Option (Bor Routine)) (callee : Bor Routine) (unit : IsUnit p)
    (is : option_map (λ r. r.now) found ≡ callee_at p.routines place) (e : found ≡ Some callee)
  where
    -- the rules on a routine that is found
    pub found_rules : IsRoutine p callee.now
    found_rules = routine_rules p place callee.now unit (sym is ∙ ap (option_map (λ (r : Bor Routine). r.now)) e)

    pub pre_evaluable : All IsEvaluable callee.now.pre
    pre_evaluable = found_rules.pre.each

    pub pre_fits : (n : ℕ) → NotesFit n callee.now.pre
    pre_fits n = all_fit n callee.now.pre found_rules.pre_words
