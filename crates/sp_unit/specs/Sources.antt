-- What a source says, by its listing and its annotation lines.
use Rattle.std.specs.Prelude.{ℕ, List, Option, nat_eq}
use Rattle.std.specs.Cmp.Lexicographic.{pointwise}
use Rattle.std.specs.Map.{lookup}
use Rattle.sp_base.specs.Image.{ImageMap}
use Rattle.sp_expr.specs.Parsing.{outcome}
use Rattle.sp_expr.specs.Undefined.{first_undefined}
use Rattle.sp_expr.specs.code.Evaluation.{run, start, finished}
use Rattle.sp_note.specs.Parts.{NoteLine, Expression}
use Rattle.sp_unit.specs.Faults.{Source, AreValues, number_in}

-- the number of a name
abbrev pub number_of : List (List ℕ × ℕ) → List ℕ → Option ℕ
number_of entries name = lookup (pointwise nat_eq name) entries

-- what an expression stands for, read from the left: by a law the value of its tree
abbrev pub value_by : List (List ℕ × ℕ) → Expression → Option ℕ
value_by entries e = number_in (outcome (first_undefined (number_of entries) e) (finished (run (number_of entries) 0 start e)))

-- a source with this image, these names with their numbers, and these annotation lines
abbrev pub source : ImageMap → List (List ℕ × ℕ) → List NoteLine → Source
source image entries notes = record { image = image; names = number_of entries; value = value_by entries; notes = notes }

-- expressions stand for the values of their trees
abbrev pub ValuesAreOfTrees : Type 0
ValuesAreOfTrees = (entries : List (List ℕ × ℕ)) → AreValues (number_of entries) (value_by entries)
