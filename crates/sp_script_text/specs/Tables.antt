-- Scripts by their conditions.
use Rattle.std.specs.Prelude.{◌≡◌, ◌⊎◌, ◌≤◌, ℕ, List, [], ◌∷◌, ◌++◌}
use Rattle.std.specs.List.{AllByRecursion}
use Rattle.sp_script_text.specs.declared.script.Title.{Title}
use Rattle.sp_script_text.specs.declared.script.Script.{Script}
use Rattle.sp_script_text.specs.Files.{Names}

abbrev pub title : List ℕ → ℕ → Title
title name number = record { name = name; number = number }

-- the script is among them
abbrev pub Has : Script → List Script → Type 0
Has s scripts = (before : List Script) × (after : List Script) × (scripts ≡ before ++ s ∷ after)

-- the script for a condition
pub record IsFound (scripts : List Script) (name : List ℕ) (number : ℕ) (s : Script) : Type 0 where
  pub among : Has s scripts
  pub names : s.title ≡ title name number

-- no script is for the condition
abbrev pub IsAbsent : List Script → List ℕ → ℕ → Type 0
IsAbsent scripts name number = ¬ Names (title name number) scripts

-- the condition is counted: of each routine those from 1 to its count are
abbrev pub IsCounted : List (List ℕ × ℕ) → Title → Type 0
IsCounted [] t = ⊥
IsCounted (c ∷ counts) t = ((c.0 ≡ t.name) × (t.number ≤ c.1)) ⊎ IsCounted counts t

-- each script is for a condition that is counted
abbrev pub AreKnown : List (List ℕ × ℕ) → List Script → Type 0
AreKnown counts scripts = AllByRecursion (λ s. IsCounted counts s.title) scripts

-- the first script whose condition isn't counted begins at this line
pub record IsUnknownAt (counts : List (List ℕ × ℕ)) (scripts : List Script) (number : ℕ) : Type 0 where
  pub above : List Script
  pub unknown : Script
  pub below : List Script
  pub whole : scripts ≡ above ++ unknown ∷ below
  pub place : unknown.line.0 ≡ number
  pub known : AreKnown counts above
  pub not_counted : ¬ IsCounted counts unknown.title
