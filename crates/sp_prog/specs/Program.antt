-- What a unit holds (this project's own).
use Rattle.std.specs.Prelude.{ℕ, List}
use Rattle.std.specs.Coded.{Coded, coded_ℕ}
use Rattle.std.specs.FinMap as maps
use Rattle.sp_base.specs.Image.{ImageMap}
use Rattle.sp_prog.specs.declared.area.Area.{Area}
use Rattle.sp_prog.specs.declared.routine.Routine.{Routine}

-- a program with its annotations: its bytes, the first and the last cell of the stack region, its areas and its routines
pub record Program : Type 0 where
  pub image : ImageMap
  pub first : ℕ
  pub last : ℕ
  pub areas : List Area
  pub routines : List Routine

abbrev pub program : ImageMap → ℕ → ℕ → List Area → List Routine → Program
program image first last areas routines = record { image = image; first = first; last = last; areas = areas; routines = routines }

-- an image is stored as its map
abbrev pub image_code : Coded ImageMap
image_code = maps.code coded_ℕ coded_ℕ
