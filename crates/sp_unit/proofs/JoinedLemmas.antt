-- The unit of a source, and what the call on it answers.
use Rattle.std.proofs.Common.{◌≡◌, inl, inr, ℕ, List, Result, Ok, Err, Some, map, refl, sym, ap, subst, ◌∙◌}
use Rattle.std.specs.Prelude.{IsPermutation}
use Rattle.std.specs.List.{AllZip}
use Rattle.std.specs.List.Sorted.{IsStrictlyIncreasing}
use Rattle.sp_base.specs.Image.{ImageMap}
use Rattle.sp_base.specs.declared.refused.Refused.{Refused}
use Rattle.sp_base.specs.declared.refused.Refused.TheVariants as refused
use Rattle.sp_base.specs.Refused.{IsComplete, IsUnlessMemory, at_line}
use Rattle.sp_asm.specs.declared.listing.Listing.{Listing}
use Rattle.sp_note.specs.declared.part.NoteLine.{NoteLine}
use Rattle.sp_prog.specs.declared.area.Area.{Area}
use Rattle.sp_prog.specs.declared.routine.Routine.{Routine}
use Rattle.sp_prog.specs.Program.{Program, program}
use Rattle.sp_prog.specs.Rules.{address_of}
use Rattle.sp_unit.specs.declared.refusal.UnitKind.{UnitKind}
use Rattle.sp_unit.specs.declared.scope.Scope.{Scope}
use Rattle.sp_unit.specs.Faults.{Source, KeepsRules, areas_by, stack_of}
use Rattle.sp_unit.specs.Lines.{Entry}
use Rattle.sp_unit.specs.Origin.{IsAnswered, IsJoined, IsUnjoined, said_by, entries_by}
use Rattle.sp_unit.specs.SourceUnits.{IsRoutineOf, begun}
use Rattle.sp_unit.specs.code.Building.{HasRoutines, IsScopeOf}
use Rattle.sp_unit.specs.code.Scopes.{source_of}
use Rattle.sp_unit.proofs.CauseLemmas.{sources_have_one_cause}

-- the parts that the code has built are those of the unit
pub joined : (listing : Listing) (notes : List NoteLine) (scope : Scope) (image : ImageMap) (first last : ℕ) (areas : List Area) (routines : List Routine) (built : List Area) (lines : List Entry)
    → KeepsRules (said_by listing notes) (entries_by listing notes) → IsScopeOf listing notes scope → image ≡ listing.image → scope.stack ≡ Some (first, last)
    → {others : List Area} → areas ≡ others → built ≡ others → others ≡ areas_by (said_by listing notes).value (said_by listing notes).notes → lines ≡ entries_by listing notes
    → {rs : List Routine} → HasRoutines (source_of scope) built lines rs → routines ≡ rs → IsJoined listing notes (program image first last areas routines)
joined listing notes scope image first last areas routines built lines keeps of same_image stack {others} same_areas listed all whole {rs} has same = record {
  rules = keeps;
  image = same_image;
  stack = ap stack_of (sym of.source) ∙ of.known.stack ∙ stack;
  areas = same_areas ∙ all;
  found = has.found;
  each = subst (λ (l : List Entry). AllZip (IsRoutineOf (said_by listing notes) areas) (begun l) has.found) whole
      (subst (λ (l : List Area). AllZip (IsRoutineOf (said_by listing notes) l) (begun lines) has.found) (listed ∙ sym same_areas)
      (subst (λ (s : Source). AllZip (IsRoutineOf s built) (begun lines) has.found) of.source has.each));
  routines = subst (IsPermutation has.found) (sym same) has.permutation;
  rising = subst (λ (l : List Routine). IsStrictlyIncreasing (map address_of l)) (sym same) has.rising;
}

pub is_answered : (listing : Listing) (notes : List NoteLine) (p : Program) → IsJoined listing notes p → IsAnswered listing notes (Ok p)
is_answered listing notes p h = record {
  whole = λ keeps. inl (p, refl, h);
  exact = λ line kind cause. absurd (sources_have_one_cause.apart (said_by listing notes) (entries_by listing notes) line kind h.rules cause);
}

abbrev refusal : (A : Type 0) → Refused UnitKind → Result A (Refused UnitKind)
refusal A r = Err r

same_refusal : (A : Type 0) (r q : Refused UnitKind) → refusal A r ≡ refusal A q → r ≡ q
same_refusal A r q e = cc

moved : (A B : Type 0) (r q : Refused UnitKind) → IsUnlessMemory (refusal A r) (refusal A q) → IsUnlessMemory (refusal B r) (refusal B q)
moved A B r q h =
    elim h [
      | inl e ↦ inl (ap (refusal B) (same_refusal A r q e))
      | inr e ↦ inr (ap (refusal B) (same_refusal A r refused.Memory e))
    ]

pub is_refused : (listing : Listing) (notes : List NoteLine) (r : Refused UnitKind)
    → IsComplete (λ (_ : Unit {0}). KeepsRules (said_by listing notes) (entries_by listing notes)) (IsUnjoined listing notes) (Err r) → IsAnswered listing notes (Err r)
is_refused listing notes r h = record {
  whole = λ keeps.
      elim (h.whole tt keeps) [
        | inl e ↦ absurd cc
        | inr e ↦ inr (ap (refusal Program) (same_refusal (Unit {0}) r refused.Memory e))
      ];
  exact = λ line kind cause. moved (Unit {0}) Program r (at_line line kind) (h.exact line kind cause);
}
