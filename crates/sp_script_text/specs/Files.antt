-- Script files, line by line: lines that say nothing, and scripts (this project's own). 45 is the ASCII code of the minus
-- and 46 that of the full stop.
use Rattle.std.specs.Prelude.{◌≡◌, ◌⊎◌, ◌≤◌, ◌<◌, ℕ, ◌+◌, true, List, [], ◌∷◌, ◌++◌, length, codes, decimal}
use Rattle.std.specs.List.{list_all, AllByRecursion}
use Rattle.sp_base.specs.Lines.{lines}
use Rattle.sp_lex.specs.Names.{folded}
use Rattle.sp_lex.specs.Tokens.{IsWord}
use Rattle.sp_fdl.specs.Text.{Form, Token, is_blank}
use Rattle.sp_script_text.specs.declared.script.Title.{Title}
use Rattle.sp_script_text.specs.declared.script.Written.{Written}
use Rattle.sp_script_text.specs.declared.script.Script.{Script}
use Rattle.sp_script_text.specs.declared.refusal.ScriptKind.{ScriptKind}
use Rattle.sp_script_text.specs.declared.refusal.ScriptKind.TheVariants as kind
use Rattle.sp_script_text.specs.StepTexts.{Spaced, Around, IsStepLine}

-- ---- Lines

-- two minuses at the front, and any ASCII bytes
abbrev pub IsComment : Form
IsComment line = (rest : List ℕ) × (line ≡ 45 ∷ 45 ∷ rest) × AllByRecursion (λ byte. byte < 128) rest

-- a line that says nothing: blanks alone, or a comment
abbrev pub IsIdle : Form
IsIdle line = (list_all is_blank line ≡ true) ⊎ IsComment line

-- NAME.k: a name in either case, a full stop, and a number from 1 without leading zeros
pub record Heading (title : Title) (text : List ℕ) : Type 0 where
  pub word : List ℕ
  pub whole : text ≡ word ++ 46 ∷ decimal title.number
  pub is_name : IsWord word
  pub short : length word ≤ 31
  pub name : title.name ≡ folded word
  pub from : 1 ≤ title.number
  pub to : title.number ≤ 4294967295

-- the first line of a script
abbrev pub IsHead : Title → Form
IsHead title line = Around (Spaced (Token (codes "script")) (Heading title)) line

-- the last line of a script
abbrev pub IsEnd : Form
IsEnd line = Around (Token (codes "end")) line

-- ---- Scripts

abbrev pub written : ℕ → List ℕ → Written
written number line = record { line = record { 0 = number }; text = line }

-- the steps of lines, of which the first has this number: each line is a step or says nothing
abbrev pub AreSteps : ℕ → List (List ℕ) → List Written → Type 0
AreSteps number [] steps = steps ≡ []
AreSteps number (line ∷ rest) steps =
    (IsIdle line × AreSteps (number + 1) rest steps)
    ⊎ ((more : List Written) × IsStepLine line × (steps ≡ written number line ∷ more) × AreSteps (number + 1) rest more)

-- lines, of which the first has this number, are this script
pub record IsScript (number : ℕ) (own : List (List ℕ)) (s : Script) : Type 0 where
  pub head : List ℕ
  pub body : List (List ℕ)
  pub last : List ℕ
  pub whole : own ≡ head ∷ (body ++ last ∷ [])
  pub begins : IsHead s.title head
  pub line : s.line.0 ≡ number
  pub steps : AreSteps (number + 1) body s.steps
  pub ends : IsEnd last
  pub end : s.end.0 ≡ number + 1 + length body

-- each line that a script keeps is a step
abbrev pub HasSteps : Script → Type 0
HasSteps s = AllByRecursion (λ (w : Written). IsStepLine w.text) s.steps

-- lines, of which the first has this number, are these scripts, with lines that say nothing round them
abbrev pub AreScripts : ℕ → List (List ℕ) → List Script → Type 0
AreScripts number all [] = AllByRecursion IsIdle all
AreScripts number all (s ∷ more) =
    (before : List (List ℕ)) × (own : List (List ℕ)) × (after : List (List ℕ)) × (all ≡ before ++ (own ++ after))
    × AllByRecursion IsIdle before × IsScript (number + length before) own s × AreScripts (number + length before + length own) after more

-- a script with this condition is among them
abbrev pub Names : Title → List Script → Type 0
Names title [] = ⊥
Names title (s ∷ more) = (s.title ≡ title) ⊎ Names title more

-- each script is for a condition of its own
abbrev pub NoneTwice : List Script → Type 0
NoneTwice [] = Unit {0}
NoneTwice (s ∷ more) = ¬ Names s.title more × NoneTwice more

-- the text is a file with these scripts
pub record IsFile (text : List ℕ) (scripts : List Script) : Type 0 where
  pub are : AreScripts 1 (lines text) scripts
  pub once : NoneTwice scripts

-- ---- Refusals

-- lines that end inside a script
pub record IsOpen (all : List (List ℕ)) : Type 0 where
  pub done : List (List ℕ)
  pub scripts : List Script
  pub head : List ℕ
  pub title : Title
  pub body : List (List ℕ)
  pub steps : List Written
  pub whole : all ≡ done ++ head ∷ body
  pub before : AreScripts 1 done scripts
  pub begins : IsHead title head
  pub are : AreSteps (length done + 2) body steps

-- between scripts the line with this number neither says nothing nor begins a script
pub record BreaksOutside (all : List (List ℕ)) (number : ℕ) : Type 0 where
  pub above : List (List ℕ)
  pub scripts : List Script
  pub line : List ℕ
  pub below : List (List ℕ)
  pub whole : all ≡ above ++ line ∷ below
  pub place : number ≡ length above + 1
  pub before : AreScripts 1 above scripts
  pub not_idle : ¬ IsIdle line
  pub not_head : (title : Title) → ¬ IsHead title line

-- inside a script the line with this number neither says nothing nor is a step or `end`
pub record BreaksInside (all : List (List ℕ)) (number : ℕ) : Type 0 where
  pub above : List (List ℕ)
  pub line : List ℕ
  pub below : List (List ℕ)
  pub whole : all ≡ above ++ line ∷ below
  pub place : number ≡ length above + 1
  pub before : IsOpen above
  pub not_idle : ¬ IsIdle line
  pub not_end : ¬ IsEnd line
  pub not_step : ¬ IsStepLine line

-- the file ends inside a script; the number is that of the line after the last one
pub record IsUnended (all : List (List ℕ)) (number : ℕ) : Type 0 where
  pub inside : IsOpen all
  pub place : number ≡ length all + 1

-- the line with this number is the first that isn't in the grammar
pub data BreaksGrammar (all : List (List ℕ)) (number : ℕ) : Type 0 where
  Outside : BreaksOutside all number → BreaksGrammar all number
  Inside : BreaksInside all number → BreaksGrammar all number
  Unended : IsUnended all number → BreaksGrammar all number

-- of scripts, the first that is for a condition of one above begins at this line
pub record IsSecondOf (scripts : List Script) (number : ℕ) : Type 0 where
  pub above : List Script
  pub second : Script
  pub below : List Script
  pub whole : scripts ≡ above ++ second ∷ below
  pub place : second.line.0 ≡ number
  pub once : NoneTwice above
  pub twice : Names second.title above

-- all lines are in the grammar, and a second script for a condition begins at this line, the first such
abbrev pub IsSecond : List (List ℕ) → ℕ → Type 0
IsSecond all number = (scripts : List Script) × AreScripts 1 all scripts × IsSecondOf scripts number

-- the text is refused at the line with this number, in this way
abbrev pub IsCause : List ℕ → ℕ → ScriptKind → Type 0
IsCause text number kind.Syntax = BreaksGrammar (lines text) number
IsCause text number kind.Duplicate = IsSecond (lines text) number
