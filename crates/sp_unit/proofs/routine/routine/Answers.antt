use Rattle.std.proofs.Common.{sym, subst}
use Rattle.sp_unit.specs.declared.lists.Access.TheVariants as access
use Rattle.sp_unit.specs.Lines.{ends_header, is_end}
use Rattle.sp_unit.specs.code.Entries.{entries_of}
use Rattle.sp_unit.specs.code.Scopes.{source_of}
use Rattle.sp_unit.specs.code.Sounds.{IsSound, AreSound}
use Rattle.sp_unit.proofs.KeptLemmas.{lines_placed}
use Rattle.sp_unit.proofs.SoundLemmas.{each_before}
use Rattle.sp_unit.proofs.routine.routine.Goals as goal

pub notes_at-requires-clause-sound : goal.notes_at-requires-clause-sound
notes_at-requires-clause-sound c =
    let s = source_of c.args.scope.now in
    subst (AreSound s) (sym c.header-head.ensures) (each_before (IsSound s) ends_header (entries_of c.args.below.now) c.requires.sound)

pub notes_at-requires-2-clause-sound : goal.notes_at-requires-2-clause-sound
notes_at-requires-2-clause-sound c =
    let s = source_of c.args.scope.now in
    subst (AreSound s) (sym c.header-head.ensures) (each_before (IsSound s) ends_header (entries_of c.args.below.now) c.requires.sound)

pub lists-requires : goal.lists-requires
lists-requires c =
    let s = source_of c.args.scope.now in
    lines_placed s c.args.places.now.entries access.Reads (entries_of c.header-head.result.now) c.requires.places
    (subst (AreSound s) (sym c.header-head.ensures) (each_before (IsSound s) ends_header (entries_of c.args.below.now) c.requires.sound))

pub lists-requires-2 : goal.lists-requires-2
lists-requires-2 c =
    let s = source_of c.args.scope.now in
    lines_placed s c.args.places.now.entries access.Changes (entries_of c.header-head.result.now) c.requires.places
    (subst (AreSound s) (sym c.header-head.ensures) (each_before (IsSound s) ends_header (entries_of c.args.below.now) c.requires.sound))

pub ports-requires : goal.ports-requires
ports-requires c =
    let s = source_of c.args.scope.now in
    subst (AreSound s) (sym c.header-head.ensures) (each_before (IsSound s) ends_header (entries_of c.args.below.now) c.requires.sound)

pub ports-requires-2 : goal.ports-requires-2
ports-requires-2 c =
    let s = source_of c.args.scope.now in
    subst (AreSound s) (sym c.header-head.ensures) (each_before (IsSound s) ends_header (entries_of c.args.below.now) c.requires.sound)

pub statements-requires-clause-sound : goal.statements-requires-clause-sound
statements-requires-clause-sound c =
    let s = source_of c.args.scope.now in
    subst (AreSound s) (sym c.inside.ensures) (each_before (IsSound s) is_end (entries_of c.args.below.now) c.requires.sound)
