use Rattle.std.proofs.Common.{◌≡◌, [], ◌∷◌, ◌++◌, sym, ap, subst, refl}
use Rattle.std.specs.Prelude.{option_to_list}
use Rattle.std.specs.List.{AllZip}
use Rattle.sp_note.specs.Parts as parts
use Rattle.sp_unit.specs.declared.statements.Coding.{Coding}
use Rattle.sp_unit.specs.Lines.{Entry, Annotation}
use Rattle.sp_unit.specs.SourceUnits.{IsNoted, raws, assert_in}
use Rattle.sp_unit.specs.code.Building.{AreCoded}
use Rattle.sp_unit.specs.code.Entries.{entry_of}
use Rattle.sp_unit.specs.code.Scopes.{source_of}
use Rattle.sp_unit.proofs.CodedLemmas.{with_annotation}
use Rattle.sp_unit.proofs.statements.with_line.Goals as goal

pub returns-in_ok-asserts-in-Annotation : goal.returns-in_ok-asserts-in-Annotation
returns-in_ok-asserts-in-Annotation c above h =
    let s = source_of c.args.scope.now in
    let n = parts.line_of c.in-Annotation.field-0.now in
    let one = c.in_ok-noted_at-in-Annotation.field-0 in
    let next : Coding = record { code = c.args.coding.code; asserts = c.in_ok-asserts-in-Annotation.asserts } in
    let same : entry_of c.args.e.now ≡ Annotation n = ap entry_of c.in-Annotation.is in
    subst (λ (e : Entry). AreCoded s (above ++ e ∷ []) next) (sym same)
    (with_annotation s above n c.args.coding next one h
    (subst (λ (e : Entry). AllZip (IsNoted s) (raws assert_in (e ∷ [])) (option_to_list one)) same c.in_ok-noted_at-in-Annotation.ensures) refl c.in_ok-asserts-in-Annotation.ensures)
