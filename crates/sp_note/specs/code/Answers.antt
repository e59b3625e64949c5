-- What the calls on one line answer.
use Rattle.std.specs.Prelude.{◌≡◌, List, Option, Some, None, Result, Ok, Err, Vec, ⊤}
use Rattle.std.specs.declared.alloc.Global.{Global}
use Rattle.sp_expr.specs.declared.refusal.ParseRefusal.{ParseRefusal}
use Rattle.sp_expr.specs.declared.refusal.ParseRefusal.TheVariants as parse
use Rattle.sp_note.specs.declared.refusal.LineRefusal.{LineRefusal}
use Rattle.sp_note.specs.declared.refusal.LineRefusal.TheVariants as line
use Rattle.sp_note.specs.declared.refusal.NoteKind.{NoteKind}
use Rattle.sp_note.specs.declared.refusal.NoteKind.TheVariants.{Syntax, TooDeep, Sort, Wide}
use Rattle.sp_note.specs.declared.word.Word.{Word}

-- the refusal of a line for that of an expression
abbrev pub refusal_of : ParseRefusal → LineRefusal
refusal_of parse.Syntax = line.Kind Syntax
refusal_of parse.TooDeep = line.Kind TooDeep
refusal_of parse.Memory = line.Memory

-- an answer has a value that is seen as the right one, or is its kind of refusal, unless memory ran out
abbrev pub Answers : {X Y : Type 0} → (X → Y) → Result X LineRefusal → Result Y NoteKind → Type 0
Answers view (Ok x) right = right ≡ Ok (view x)
Answers view (Err (line.Kind kind)) right = right ≡ Err kind
Answers view (Err line.Memory) right = ⊤

-- the same where Syntax is the one kind
abbrev pub AnswersSome : {X Y : Type 0} → (X → Y) → Result X LineRefusal → Option Y → Type 0
AnswersSome view (Ok x) right = right ≡ Some (view x)
AnswersSome view (Err (line.Kind Syntax)) right = right ≡ None
AnswersSome view (Err (line.Kind TooDeep)) right = ⊥
AnswersSome view (Err (line.Kind Sort)) right = ⊥
AnswersSome view (Err (line.Kind Wide)) right = ⊥
AnswersSome view (Err line.Memory) right = ⊤

-- the words of tokens
abbrev pub AnswersWords : Result (Vec Word Global) LineRefusal → Option (List Word) → Type 0
AnswersWords result right = AnswersSome (λ (ws : Vec Word Global). ws.items) result right

-- expressions are refused for Syntax and TooDeep alone
abbrev pub IsOfExpressions : {X : Type 0} → Result X LineRefusal → Type 0
IsOfExpressions (Ok x) = ⊤
IsOfExpressions (Err (line.Kind Syntax)) = ⊤
IsOfExpressions (Err (line.Kind TooDeep)) = ⊤
IsOfExpressions (Err (line.Kind Sort)) = ⊥
IsOfExpressions (Err (line.Kind Wide)) = ⊥
IsOfExpressions (Err line.Memory) = ⊤
