-- The table of scripts by their conditions.
use Rattle.std.specs.Prelude.{◌≡◌, ⊤, ℕ, Bool, ◌&&◌, nat_eq, nat_le, List, map, Result, Ok, Err}
use Rattle.std.specs.Cmp.Lexicographic.{pointwise}
use Rattle.std.specs.List.{AllByRecursion}
use Rattle.std.specs.HashSet.{HashSet}
use Rattle.sp_base.specs.declared.refused.Refused.{Refused}
use Rattle.sp_base.specs.declared.refused.Refused.TheVariants as refused
use Rattle.sp_script_text.specs.declared.script.Title.{Title}
use Rattle.sp_script_text.specs.declared.script.Script.{Script}
use Rattle.sp_script_text.specs.declared.refusal.ScriptKind.{ScriptKind}
use Rattle.sp_script_text.specs.declared.refusal.ScriptKind.TheVariants as kind
use Rattle.sp_script_text.specs.Files.{HasSteps, NoneTwice, IsSecondOf}

abbrev pub titles_in : List Script → List Title
titles_in scripts = map (λ (s : Script). s.title) scripts

-- the conditions of scripts, no two of which have one; and the lines that they keep are steps
pub record IsTable (scripts : List Script) (titles : List Title) : Type 0 where
  pub titles_are : titles ≡ titles_in scripts
  pub once : NoneTwice scripts
  pub steps : AllByRecursion HasSteps scripts

-- whether a condition is one of those that are counted together
abbrev pub counts : List ℕ × ℕ → Title → Bool
counts c t = pointwise nat_eq c.0 t.name && nat_le t.number c.1

-- the conditions of scripts in their order, or the first script that is for a condition of one above
abbrev pub AnswersTitles : {S : Type 0} → Result (HashSet Title S) (Refused ScriptKind) → List Script → Type 0
AnswersTitles (Ok titles) scripts = (titles.keys ≡ titles_in scripts) × NoneTwice scripts
AnswersTitles (Err (refused.At line kind.Duplicate)) scripts = IsSecondOf scripts line.0
AnswersTitles (Err (refused.At line kind.Syntax)) scripts = ⊥
AnswersTitles (Err refused.Memory) scripts = ⊤

abbrev pub AnswersTable : Result (List Script) (Refused ScriptKind) → List Script → Type 0
AnswersTable (Ok given) scripts = (given ≡ scripts) × NoneTwice scripts
AnswersTable (Err (refused.At line kind.Duplicate)) scripts = IsSecondOf scripts line.0
AnswersTable (Err (refused.At line kind.Syntax)) scripts = ⊥
AnswersTable (Err refused.Memory) scripts = ⊤
