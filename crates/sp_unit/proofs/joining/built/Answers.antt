use Rattle.std.proofs.Common.{◌≡◌, List, IsSome, sym, ap, subst, ◌∙◌}
use Rattle.std.specs.List.{AllZip}
use Rattle.sp_prog.specs.declared.area.Area.{Area}
use Rattle.sp_prog.specs.Program.{program}
use Rattle.sp_unit.specs.Faults.{Source, areas_by, stack_of}
use Rattle.sp_unit.specs.Lines.{Entry}
use Rattle.sp_unit.specs.Origin.{said_by, entries_by}
use Rattle.sp_unit.specs.SourceUnits.{IsRoutineOf, begun}
use Rattle.sp_unit.specs.code.Entries.{entries_of}
use Rattle.sp_unit.specs.code.Scopes.{source_of}
use Rattle.sp_unit.specs.code.Sounds.{AreSound}
use Rattle.sp_unit.proofs.JoinedLemmas.{joined}
use Rattle.sp_unit.proofs.KeptLemmas.{lines_sound, stack_known, addresses_differ}
use Rattle.sp_unit.proofs.UnitFoundLemmas.{found_apart, found_some}
use Rattle.sp_unit.proofs.UnitRulesLemmas.{unit_keeps}
use Rattle.sp_unit.proofs.joining.built.Goals as goal

pub routines_by-requires-clause-sound : goal.routines_by-requires-clause-sound
routines_by-requires-clause-sound c =
    let listing = c.args.listing.now in
    let notes = c.args.notes.now in
    let whole : entries_of c.deref-2.result.now ≡ entries_by listing notes = ap entries_of c.deref-2.ensures.value ∙ c.in_ok-lines.ensures in
    subst (AreSound (source_of c.in_ok-scope.scope)) (sym whole)
    (subst (λ (s : Source). AreSound s (entries_by listing notes)) (sym c.in_ok-scope.ensures.source) (lines_sound listing notes c.requires.one c.requires.right))

pub routines_by-requires-clause-apart : goal.routines_by-requires-clause-apart
routines_by-requires-clause-apart c found each =
    let listing = c.args.listing.now in
    let notes = c.args.notes.now in
    let s = said_by listing notes in
    let areas : c.deref.result.now ≡ areas_by s.value s.notes = c.deref.ensures.value ∙ c.in_ok-areas.ensures in
    let whole : entries_of c.deref-2.result.now ≡ entries_by listing notes = ap entries_of c.deref-2.ensures.value ∙ c.in_ok-lines.ensures in
    let there : AllZip (IsRoutineOf s (areas_by s.value s.notes)) (begun (entries_by listing notes)) found =
    subst (λ (l : List Entry). AllZip (IsRoutineOf s (areas_by s.value s.notes)) (begun l) found) whole
    (subst (λ (l : List Area). AllZip (IsRoutineOf s l) (begun (entries_of c.deref-2.result.now)) found) areas
    (subst (λ (t : Source). AllZip (IsRoutineOf t c.deref.result.now) (begun (entries_of c.deref-2.result.now)) found) c.in_ok-scope.ensures.source each)) in
    addresses_differ found (found_apart listing notes found c.requires.one c.requires.right there) (found_some listing notes found c.requires.one c.requires.right there)

pub ends-first-requires : goal.ends-first-requires
ends-first-requires c =
    subst IsSome (ap stack_of (sym c.in_ok-scope.ensures.source) ∙ c.in_ok-scope.ensures.known.stack) (stack_known c.args.listing.now c.args.notes.now c.requires.right)

pub invariant_of-result : goal.invariant_of-result
invariant_of-result c =
    let listing = c.args.listing.now in
    let notes = c.args.notes.now in
    unit_keeps listing notes (program c.in_ok-image.image c.ends-first.result.0 c.ends-first.result.1 c.from_vec.result c.from_vec-2.result) c.requires.one c.len.ensures.in_memory
    (joined listing notes c.in_ok-scope.scope c.in_ok-image.image c.ends-first.result.0 c.ends-first.result.1 c.from_vec.result c.from_vec-2.result c.deref.result.now (entries_of c.deref-2.result.now) c.requires.right
    c.in_ok-scope.ensures c.in_ok-image.ensures c.ends-first.ensures c.from_vec.ensures c.deref.ensures.value c.in_ok-areas.ensures (ap entries_of c.deref-2.ensures.value ∙ c.in_ok-lines.ensures)
    c.in_ok-routines.ensures c.from_vec-2.ensures)
