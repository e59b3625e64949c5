-- The names that statements define, and their values.
use Rattle.std.specs.Prelude.{ℕ, Bool, true, false, not, List, [], ◌∷◌, Option, Some, None, nat_eq, fold, filter}
use Rattle.std.specs.Cmp.Lexicographic.{pointwise}
use Rattle.std.specs.List.{list_any}
use Rattle.std.specs.Map.{lookup}
use Rattle.indexmap.specs.IndexMap.{insert_entry}
use Rattle.sp_stmt.specs.declared.statement.Code.{Code}
use Rattle.sp_stmt.specs.declared.statement.Code.TheVariants as code
use Rattle.sp_stmt.specs.declared.statement.Statement.{Statement}

-- what a statement defines: a name, by a label, EQU or SET, with its value
pub record Definition : Type 0 where
  pub name : List ℕ
  pub value : ℕ
  pub by_set : Bool

abbrev pub definition : List ℕ → ℕ → Bool → Definition
definition name value by_set = record { name = name; value = value; by_set = by_set }

-- names with their values
abbrev pub Entries : Type 0
Entries = List (List ℕ × ℕ)

abbrev pub with_definition : Entries → Definition → Entries
with_definition names d = insert_entry (pointwise nat_eq) names d.name d.value

-- the names that these define, in order of definition; a later definition gives its name another value
abbrev pub symbols : List Definition → Entries
symbols = fold with_definition []

-- the value of a name
abbrev pub value_in : Entries → List ℕ → Option ℕ
value_in names name = lookup (pointwise nat_eq name) names

-- those by labels and EQU, and those by SET
abbrev pub fixed : List Definition → List Definition
fixed = filter (λ d. not d.by_set)

abbrev pub by_set : List Definition → List Definition
by_set = filter (λ d. d.by_set)

-- the name that a statement defines, if it defines one
abbrev pub name_by : Code → Option (List ℕ) → Option (List ℕ)
name_by (code.Equ name) label = Some name
name_by (code.Set name) label = Some name
name_by code.Nothing label = label
name_by (code.Instr i) label = label
name_by code.Data label = label
name_by code.Space label = label
name_by code.Org label = label
name_by code.End label = label

abbrev pub name_of : Statement → Option (List ℕ)
name_of s = name_by s.code s.label

abbrev pub is_set : Code → Bool
is_set (code.Set name) = true
is_set (code.Equ name) = false
is_set code.Nothing = false
is_set (code.Instr i) = false
is_set code.Data = false
is_set code.Space = false
is_set code.Org = false
is_set code.End = false

-- what SET defines
abbrev pub set_definition : Code → ℕ → List Definition
set_definition (code.Set name) value = definition name value true ∷ []
set_definition (code.Equ name) value = []
set_definition code.Nothing value = []
set_definition (code.Instr i) value = []
set_definition code.Data value = []
set_definition code.Space value = []
set_definition code.Org value = []
set_definition code.End value = []

abbrev pub is_named : List ℕ → Option (List ℕ) → Bool
is_named name None = false
is_named name (Some other) = pointwise nat_eq name other

-- whether one of these statements defines the name
abbrev pub defines : List Statement → List ℕ → Bool
defines statements name = list_any (λ s. is_named name (name_of s)) statements
