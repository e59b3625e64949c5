-- What the code knows of a source.
use Rattle.std.specs.Prelude.{◌≡◌, ℕ, List, nat_eq}
use Rattle.std.specs.Cmp.Lexicographic.{pointwise}
use Rattle.std.specs.Map.{lookup}
use Rattle.sp_note.specs.Parts.{lines_of}
use Rattle.sp_unit.specs.declared.scope.Scope.{Scope}
use Rattle.sp_unit.specs.Faults.{Source, area_of, stack_of}
use Rattle.sp_unit.specs.Sources.{source}

-- the source of a scope
abbrev pub source_of : Scope → Source
source_of scope = source scope.image.now scope.names.now.entries (lines_of scope.notes.now)

-- the table has the first area of each name, and the stack region is that of the first `stack` line
pub record IsScope (scope : Scope) : Type 0 where
  pub areas : (name : List ℕ) → area_of (source_of scope) name ≡ lookup (pointwise nat_eq name) scope.areas.entries
  pub stack : stack_of (source_of scope) ≡ scope.stack
