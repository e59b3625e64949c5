-- What the reader of a source answers.
use Rattle.std.specs.Prelude.{◌≡◌, List, Result, Ok, Err, ⊤}
use Rattle.sp_base.specs.declared.line.Line.{Line}
use Rattle.sp_base.specs.declared.refused.Refused.{Refused}
use Rattle.sp_base.specs.declared.refused.Refused.TheVariants as refused
use Rattle.sp_note.specs.declared.part.NoteLine as declared
use Rattle.sp_note.specs.declared.refusal.LineRefusal.{LineRefusal}
use Rattle.sp_note.specs.declared.refusal.LineRefusal.TheVariants as line
use Rattle.sp_note.specs.declared.refusal.NoteKind.{NoteKind}
use Rattle.sp_note.specs.Parts.{NoteLine, lines_of}
use Rattle.sp_note.specs.code.Lines.{Fault}

-- the refusal of a source for that of this line
abbrev pub refusal_at : LineRefusal → Line → Refused NoteKind
refusal_at (line.Kind kind) number = refused.At number kind
refusal_at line.Memory number = refused.Memory

-- the annotations of lines, or the refusal of a line, unless memory ran out
abbrev pub AnswersNotes : Result (List declared.NoteLine) (Refused NoteKind) → Result (List NoteLine) Fault → Type 0
AnswersNotes (Ok notes) right = right ≡ Ok (lines_of notes)
AnswersNotes (Err (refused.At number kind)) right = right ≡ Err (record { kind = kind; line = number.0 })
AnswersNotes (Err refused.Memory) right = ⊤
