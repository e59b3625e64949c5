use Rattle.std.proofs.Common.{subst}
use Rattle.sp_note.specs.Parts.{part_of}
use Rattle.sp_note.specs.RawNotes.{raw_of}
use Rattle.sp_unit.specs.declared.entry.Entry.{Entry}
use Rattle.sp_unit.specs.code.Entries.{entry_of}
use Rattle.sp_unit.specs.code.Scopes.{source_of}
use Rattle.sp_unit.specs.code.Sounds.{IsSound, IsSoundPart}
use Rattle.sp_unit.proofs.noted.noted_at.Goals as goal

pub noted-requires-clause-known : goal.noted-requires-clause-known
noted-requires-clause-known c =
    let s = source_of c.args.scope.now in
    let sound : IsSoundPart s (part_of c.in-Annotation.note.now.part) = subst (λ (e : Entry). IsSound s (entry_of e)) c.in-Annotation.is c.requires.sound in
    sound.notes c.args.point (raw_of c.in-Some.raw.now) c.in-Some.ensures
