-- What the verifier claims of a source and its image.
use Rattle.std.specs.Prelude.{◌≡◌, ℕ, List, []}
use Rattle.sp_base.specs.Image.{ImageMap}
use Rattle.sp_model.specs.Unit.{Unit}
use Rattle.sp_model.specs.Good.{AllRunsAreGood}
use Rattle.sp_first.specs.Form.{Form, HasForm}
use Rattle.sp_first.specs.Program.{reading_of, unit_of, Meets}

-- the source has an assembly and a unit, which is this one
abbrev pub HasUnit : List ℕ → Unit → Type 0
HasUnit source u = (f : Form) × HasForm source f × (u ≡ unit_of (reading_of f))

-- the image is the source's assembly, and every run from an entry of one of its routines is good
pub record IsRight (source : List ℕ) (image : ImageMap) : Type 0 where
  pub unit : Unit
  pub of_source : HasUnit source unit
  pub assembly : image ≡ unit.image
  pub good : AllRunsAreGood unit

-- it is right, and no other image is
pub record IsTheImage (source : List ℕ) (image : ImageMap) : Type 0 where
  pub right : IsRight source image
  pub only : (other : ImageMap) → IsRight source other → other ≡ image

-- the source isn't of the first form, or there are scripts, which the first form doesn't have
abbrev pub IsNotBuilt : List ℕ → List ℕ → Type 0
IsNotBuilt source scripts = (f : Form) → HasForm source f → scripts ≡ [] → ⊥

-- the source is of the first form without scripts, and its routine, of this name, doesn't meet its annotations
pub record IsOpen (source scripts name : List ℕ) : Type 0 where
  pub form : Form
  pub of_source : HasForm source form
  pub no_scripts : scripts ≡ []
  pub named : name ≡ form.name
  pub unmet : Meets (reading_of form) → ⊥

-- the source is of the first form without scripts, and its routine meets its annotations
pub record IsAccepted (source scripts : List ℕ) : Type 0 where
  pub form : Form
  pub of_source : HasForm source form
  pub no_scripts : scripts ≡ []
  pub met : Meets (reading_of form)

-- two forms of a source say the same, so that it has one unit
abbrev pub HasOneReading : Type 0
HasOneReading = (source : List ℕ) (f g : Form) → HasForm source f → HasForm source g → reading_of f ≡ reading_of g
