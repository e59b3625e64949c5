use Rattle.std.proofs.Common.{ℕ, List, [], ◌∷◌, sym, subst}
use Rattle.std.specs.List.{AllZip}
use Rattle.sp_unit.specs.Faults.{areas_by}
use Rattle.sp_unit.specs.SourceUnits.{Begun, IsRoutineOf}
use Rattle.sp_unit.specs.code.Building.{begun_line}
use Rattle.sp_unit.specs.code.Entries.{entries_of}
use Rattle.sp_unit.specs.code.Scopes.{source_of}
use Rattle.sp_unit.proofs.routines.routine_at.Goals as goal

pub returns-in_ok-routine-in-Some : goal.returns-in_ok-routine-in-Some
returns-in_ok-routine-in-Some c =
    let s = source_of c.args.scope.now in
    let areas = areas_by s.value s.notes in
    let below = entries_of c.args.below.now in
    let r = c.in_ok-routine-in-Some.field-0 in
    subst (λ (l : List Begun). AllZip (IsRoutineOf s areas) l (r ∷ [])) (sym (c.in-Some.ensures below))
    (subst (λ (n : ℕ). IsRoutineOf s areas (begun_line c.in-Some.name n below) r) c.line.ensures c.in_ok-routine-in-Some.ensures, tt)

pub returns-in-None : goal.returns-in-None
returns-in-None c =
    let s = source_of c.args.scope.now in
    subst (λ (l : List Begun). AllZip (IsRoutineOf s (areas_by s.value s.notes)) l []) (sym (c.in-None.ensures (entries_of c.args.below.now))) tt
