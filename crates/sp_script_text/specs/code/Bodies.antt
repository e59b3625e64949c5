-- What the reader finds of a script after its first line, and of all scripts.
use Rattle.std.specs.Borrow.{Bor}
use Rattle.std.specs.Prelude.{◌≡◌, ◌⊎◌, ℕ, ◌+◌, ◌≤◌, ⊤, List, [], ◌∷◌, ◌++◌, length, Result, Ok, Err, Vec}
use Rattle.std.specs.declared.alloc.Global.{Global}
use Rattle.sp_base.specs.Lines.{lines}
use Rattle.sp_base.specs.declared.refused.Refused.{Refused}
use Rattle.sp_base.specs.declared.refused.Refused.TheVariants as refused
use Rattle.sp_script_text.specs.declared.script.Title.{Title}
use Rattle.sp_script_text.specs.declared.script.Written.{Written}
use Rattle.sp_script_text.specs.declared.script.Script.{Script}
use Rattle.sp_script_text.specs.declared.refusal.ScriptKind.{ScriptKind}
use Rattle.sp_script_text.specs.declared.refusal.ScriptKind.TheVariants as kind
use Rattle.sp_script_text.specs.StepTexts.{IsStepLine}
use Rattle.sp_script_text.specs.Files.{IsIdle, IsEnd, written, AreSteps, AreScripts, BreaksGrammar}

-- an answer that is right, or Syntax at a line that breaks the grammar
abbrev pub AnswersSyntax : {A : Type 0} → (A → Type 0) → (ℕ → Type 0) → Result A (Refused ScriptKind) → Type 0
AnswersSyntax Right Broken (Ok a) = Right a
AnswersSyntax Right Broken (Err (refused.At line kind.Syntax)) = Broken line.0
AnswersSyntax Right Broken (Err (refused.At line kind.Duplicate)) = ⊥
AnswersSyntax Right Broken (Err refused.Memory) = ⊤

-- the line with this number as a step
abbrev pub IsWritten : ℕ → List ℕ → Written → Type 0
IsWritten number line w = (w ≡ written number line) × IsStepLine line

abbrev pub IsNoStep : ℕ → List ℕ → ℕ → Type 0
IsNoStep number line at = (at ≡ number) × ¬ IsStepLine line

-- the lines of a text are steps so far
pub record IsPart (number : ℕ) (text : List ℕ) (steps : List Written) (next : ℕ) (rest : List ℕ) : Type 0 where
  pub body : List (List ℕ)
  pub whole : lines text ≡ body ++ lines rest
  pub are : AreSteps number body steps
  pub place : next ≡ number + length body
  pub fits : next + length rest ≤ number + length text

-- a text after the first line of a script: its steps, `end`, and the rest
pub record IsBody (title : Title) (number : ℕ) (text : List ℕ) (found : Script × ℕ × Bor (List ℕ)) : Type 0 where
  pub body : List (List ℕ)
  pub last : List ℕ
  pub whole : lines text ≡ body ++ last ∷ lines found.2.now
  pub title_is : found.0.title ≡ title
  pub line : found.0.line.0 ≡ number
  pub steps : AreSteps (number + 1) body found.0.steps
  pub ends : IsEnd last
  pub end : found.0.end.0 ≡ number + 1 + length body
  pub next : found.1 ≡ number + 2 + length body
  pub fits : found.1 + length found.2.now ≤ number + 1 + length text

-- such a text that breaks the grammar
pub record BreaksBody (number : ℕ) (text : List ℕ) (at : ℕ) : Type 0 where
  pub body : List (List ℕ)
  pub rest : List (List ℕ)
  pub whole : lines text ≡ body ++ rest
  pub place : at ≡ number + 1 + length body
  pub steps : (ws : List Written) × AreSteps (number + 1) body ws
  pub breaks : (rest ≡ []) ⊎ ((line : List ℕ) × (below : List (List ℕ)) × (rest ≡ line ∷ below) × ¬ IsIdle line × ¬ IsEnd line × ¬ IsStepLine line)

-- the scripts of a text so far
pub record AreDone (text : List ℕ) (scripts : List Script) (number : ℕ) (rest : List ℕ) : Type 0 where
  pub done : List (List ℕ)
  pub whole : lines text ≡ done ++ lines rest
  pub are : AreScripts 1 done scripts
  pub place : number ≡ length done + 1
  pub fits : number + length rest ≤ 1 + length text

abbrev pub AnswersAll : List ℕ → Result (Vec Script Global) (Refused ScriptKind) → Type 0
AnswersAll text result = AnswersSyntax (λ (ss : Vec Script Global). AreScripts 1 (lines text) ss.items) (BreaksGrammar (lines text)) result
