-- What the names of a source mean (8080 Assembly Language Programming Manual, "Label field", EQU and SET).
use Rattle.std.specs.Prelude.{◌≡◌, ◌↔◌, ℕ, not, nat_eq, List, [], ◌∷◌, ◌++◌, map, filter, Some}
use Rattle.std.specs.Cmp.Lexicographic.{pointwise}
use Rattle.std.specs.List.{filter_map}
use Rattle.sp_stmt.specs.declared.statement.Code.TheVariants as code
use Rattle.sp_stmt.specs.declared.statement.Statement.{Statement}
use Rattle.sp_asm.specs.Assembly.{Place, Row, places_of, names_above, names_at, names_of}
use Rattle.sp_asm.specs.Names.{name_of, value_in}
use Rattle.sp_asm.specs.Source.{HasAssembly}

-- a label means the address of its statement, the name of EQU or SET the value of its expression
abbrev pub Labels : Place → List ℕ → ℕ → Type 0
Labels p name value = (p.statement.label ≡ Some name) × (value ≡ p.address)

abbrev pub Equates : Place → List ℕ → ℕ → Type 0
Equates p name value = (p.statement.code ≡ code.Equ name) × (value ≡ p.value)

abbrev pub Sets : Place → List ℕ → ℕ → Type 0
Sets p name value = (p.statement.code ≡ code.Set name) × (value ≡ p.value)

-- what a name means to a statement with these above it, in a source of all these: the value of its one label or EQU, wherever
-- that stands, or of its last SET above
pub data Means (all above : List Place) (name : List ℕ) (value : ℕ) : Type 0 where
  by_label : (front back : List Place) (p : Place) → all ≡ front ++ p ∷ back → Labels p name value → Means all above name value
  by_equ : (front back : List Place) (p : Place) → all ≡ front ++ p ∷ back → Equates p name value → Means all above name value
  by_last_set : (front back : List Place) (p : Place) → above ≡ front ++ p ∷ back → Sets p name value
      → ((before after : List Place) (q : Place) (other : ℕ) → back ≡ before ++ q ∷ after → ¬ Sets q name other) → Means all above name value

-- each name once, where it stands first
abbrev pub each_once : List (List ℕ) → List (List ℕ)
each_once [] = []
each_once (name ∷ names) = name ∷ filter (λ other. not (pointwise nat_eq other name)) (each_once names)

-- the names that statements define, in their order
abbrev pub defined_names : List Row → List (List ℕ)
defined_names rows = filter_map (λ (p : Place). name_of p.statement) (places_of rows)

-- names stand for what they mean: in EQU, SET, ORG and DS among the statements above alone; in other statements; and in
-- annotations, which stand for the whole source
pub record NamesHaveMeanings : Type 0 where
  pub above : (source : List ℕ) (rows front back : List Row) (r : Row) (name : List ℕ) (value : ℕ) → HasAssembly source rows → rows ≡ front ++ r ∷ back
      → (names_above (places_of front) name ≡ Some value) ↔ Means (places_of front) (places_of front) name value
  pub elsewhere : (source : List ℕ) (rows front back : List Row) (r : Row) (name : List ℕ) (value : ℕ) → HasAssembly source rows → rows ≡ front ++ r ∷ back
      → (names_at (places_of rows) (places_of front) name ≡ Some value) ↔ Means (places_of rows) (places_of front) name value
  pub last : (source : List ℕ) (rows : List Row) (name : List ℕ) (value : ℕ) → HasAssembly source rows
      → (value_in (names_of rows) name ≡ Some value) ↔ Means (places_of rows) (places_of rows) name value
  pub order : (rows : List Row) → map (λ e. e.0) (names_of rows) ≡ each_once (defined_names rows)
