use Rattle.std.proofs.Common.{◌≡◌, ◌∷◌, false, ap, sym, subst, ◌∙◌}
use Rattle.sp_unit.specs.declared.place.Place.TheVariants as at
use Rattle.sp_unit.specs.code.Entries.{note, entry_of}
use Rattle.sp_unit.specs.code.Places.{IsPlace}
use Rattle.sp_unit.specs.Lines.{Entry, Annotation, ends_header, grown}
use Rattle.sp_unit.proofs.PlaceLemmas.{body_at, header_at}
use Rattle.sp_unit.proofs.place.Place.grown.Goals as goal

pub returns-in-Body : goal.returns-in-Body
returns-in-Body c place below h =
    body_at c.in-Body.body c.after.result place below (entry_of c.args.e.now) c.after.ensures
    (subst (λ p. IsPlace p place (entry_of c.args.e.now ∷ below)) c.in-Body.is h)

pub returns-else-ends_header : goal.returns-else-ends_header
returns-else-ends_header c place below h =
    let b = c.in-Header.h in
    let next = c.after-else-ends_header.result in
    let n = c.in-Annotation.note.now.line.0 in
    let e = Annotation (note n c.in-Annotation.note.now.part) in
    let is : entry_of c.args.e.now ≡ e = ap entry_of c.in-Annotation.is in
    let quiet : ends_header e ≡ false = sym (ap ends_header is) ∙ sym c.ends_header.ensures ∙ c.if-ends_header.false in
    let known : IsPlace (at.Header b) place (entry_of c.args.e.now ∷ below) = subst (λ p. IsPlace p place (entry_of c.args.e.now ∷ below)) c.in-Header.is h in
    subst (λ (x : Entry). IsPlace (at.Header b) place (x ∷ below) → IsPlace (at.Header next) (grown place x) below) (sym is)
    (header_at b next place below e quiet (λ all k. c.after-else-ends_header.ensures all below n quiet k)) known
