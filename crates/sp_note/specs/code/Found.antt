-- How ports are seen while they are read.
use Rattle.std.specs.Prelude.{◌≡◌, if◌then◌else◌, List, [], ◌∷◌, ◌++◌, Result, Ok, Err, ⊤}
use Rattle.sp_expr.specs.declared.word.Word as expr
use Rattle.sp_note.specs.declared.lists.Found.{Found}
use Rattle.sp_note.specs.declared.refusal.LineRefusal.{LineRefusal}
use Rattle.sp_note.specs.declared.refusal.LineRefusal.TheVariants as line
use Rattle.sp_note.specs.declared.refusal.NoteKind.{NoteKind}
use Rattle.sp_note.specs.declared.refusal.NoteKind.TheVariants.{Syntax, TooDeep, Sort, Wide}
use Rattle.sp_note.specs.Parts.{Expression}
use Rattle.sp_note.specs.code.Lines.{both_read}

-- the ports read so far, or TooDeep where one of them nests too deep
abbrev pub held : Found → Result (List Expression) NoteKind
held found = if found.deep then Err TooDeep else Ok found.expressions.items

abbrev pub with_last : Result (List Expression) NoteKind → Result Expression NoteKind → Result (List Expression) NoteKind
with_last ports port = both_read (λ xs x. xs ++ x ∷ []) ports port

-- an answer to one port more, where this is right for all so far
abbrev pub AnswersPort : {X : Type 0} → Result X LineRefusal → Result (List Expression) NoteKind → Result (List Expression) NoteKind → Type 0
AnswersPort (Ok x) now right = right ≡ now
AnswersPort (Err (line.Kind Syntax)) now right = right ≡ Err Syntax
AnswersPort (Err (line.Kind TooDeep)) now right = ⊥
AnswersPort (Err (line.Kind Sort)) now right = ⊥
AnswersPort (Err (line.Kind Wide)) now right = ⊥
AnswersPort (Err line.Memory) now right = ⊤
