use Rattle.std.proofs.Common.{Ok, Err, rules}
use Rattle.sp_asm.specs.Listing.{IsListing}
use Rattle.sp_asm.specs.Refusals.{IsCause}
use Rattle.sp_note.specs.Source.{AreNotes, IsUnread}
use Rattle.sp_prog.specs.Rules.{IsUnit}
use Rattle.sp_unit.specs.Origin.{IsJoined, IsUnjoined}
use Rattle.sp_check.specs.Refusals.{HasNoUnit}
use Rattle.sp_check.specs.Units.{HasUnit}
use Rattle.sp_check.specs.declared.refusal.CheckKind.TheVariants as kind
use Rattle.sp_check.proofs.AnswerLemmas.{unit_answered}
use Rattle.sp_check.proofs.JoinLemmas.{carried, has_unit, breaks_unit}
use Rattle.sp_check.proofs.reading.read_unit.Goals as goal

pub returns-in-Err-assemble-clause-complete : goal.returns-in-Err-assemble-clause-complete
returns-in-Err-assemble-clause-complete c =
    let source = c.args.source.now in
    let lines = c.in-Ok.lines in
    unit_answered source (Err c.with_kind-in-Err-assemble.result)
    (carried (IsListing source lines) (HasUnit source) (λ k. kind.Asm k) (IsCause source lines) (HasNoUnit source)
    (λ line k cause. record { lines = lines; read = c.in-Ok.ensures.says; cause = cause }) c.in-Err-assemble.refusal
    c.with_kind-in-Err-assemble.result c.with_kind-in-Err-assemble.ensures c.in-Err-assemble.ensures.right)

pub returns-in-Err-read_notes-clause-complete : goal.returns-in-Err-read_notes-clause-complete
returns-in-Err-read_notes-clause-complete c =
    let source = c.args.source.now in
    let lines = c.in-Ok.lines in
    let listed = c.in-Ok-assemble.ensures.right in
    unit_answered source (Err c.with_kind-in-Err-read_notes.result)
    (carried (AreNotes source lines) (HasUnit source) (λ k. kind.Note k) (IsUnread source lines) (HasNoUnit source)
    (λ line k unread. record { lines = lines; rows = listed.0; read = c.in-Ok.ensures.says; assembles = listed.1; unread = unread })
    c.in-Err-read_notes.refusal c.with_kind-in-Err-read_notes.result c.with_kind-in-Err-read_notes.ensures c.in-Err-read_notes.ensures.right)

pub returns-in-Ok-join-clause-complete : goal.returns-in-Ok-join-clause-complete
returns-in-Ok-join-clause-complete c =
    let keeps : IsUnit c.in-Ok-join.unit = search rules in
    unit_answered c.args.source.now (Ok c.in-Ok-join.unit)
    (has_unit c.args.source.now c.in-Ok.lines c.in-Ok.ensures.says c.in-Ok-assemble.listing c.in-Ok-assemble.ensures.right
    c.in-Ok-read_notes.notes c.in-Ok-read_notes.ensures.right c.in-Ok-join.unit keeps c.in-Ok-join.ensures.right)

pub returns-clause-complete : goal.returns-clause-complete
returns-clause-complete c =
    let source = c.args.source.now in
    let listing = c.in-Ok-assemble.listing in
    let notes = c.in-Ok-read_notes.notes in
    unit_answered source (Err c.with_kind-in-Err-join.result)
    (carried (IsJoined listing notes) (HasUnit source) (λ k. kind.Unit k) (IsUnjoined listing notes) (HasNoUnit source)
    (breaks_unit source c.in-Ok.lines c.in-Ok.ensures.says listing c.in-Ok-assemble.ensures.right notes c.in-Ok-read_notes.ensures.right)
    c.in-Err-join.refusal c.with_kind-in-Err-join.result c.with_kind-in-Err-join.ensures c.in-Err-join.ensures.right)
