-- The environments in which a condition is judged (this project's own).
use Rattle.std.specs.Prelude.{◌≡◌, ◌⊎◌, ℕ, ◌<◌, ◌≤◌, ℤ, pos, negsuc, ◌<ℤ◌, All, List, Option, Some, None}
use Rattle.std.specs.FinMap as maps
use Rattle.sp_base.specs.declared.location.Loc.{Loc}
use Rattle.sp_base.specs.declared.location.Loc.TheVariants as loc
use Rattle.sp_base.specs.Image.{ImageMap}
use Rattle.sp_term.specs.declared.var.Var.{Var}
use Rattle.sp_term.specs.declared.var.Var.TheVariants as var
use Rattle.sp_term.specs.Tree.{Tree}
use Rattle.sp_term.specs.Sorts.{Memory, sort_of}
use Rattle.sp_term.specs.Value.{Env, map_of, IsTrueIn}

-- the greatest value of a register or a flag
abbrev pub greatest_at : Loc → ℕ
greatest_at loc.A = 255
greatest_at loc.B = 255
greatest_at loc.C = 255
greatest_at loc.D = 255
greatest_at loc.E = 255
greatest_at loc.H = 255
greatest_at loc.L = 255
greatest_at loc.S = 1
greatest_at loc.Z = 1
greatest_at loc.Ac = 1
greatest_at loc.P = 1
greatest_at loc.Cy = 1

-- the greatest value of a variable, the least being 0; `k_j`, bound variables and memories have none
abbrev pub greatest : Var → Option ℕ
greatest (var.Entry x) = Some (greatest_at x)
greatest (var.Now x) = Some (greatest_at x)
greatest (var.After x j) = Some (greatest_at x)
greatest var.MemEntry = None
greatest var.Mem = None
greatest (var.MemAfter j) = None
greatest (var.In j) = Some 255
greatest (var.SlotHigh j) = Some 255
greatest (var.SlotLow j) = Some 255
greatest (var.Any j) = None
greatest (var.Bound j) = None

-- a whole number from 0 to the greatest one
abbrev pub IsUpTo : ℕ → ℤ → Type 0
IsUpTo most z = (n : ℕ) × (n ≤ most) × (z ≡ pos n)

-- the stack region, from its first to its last address
pub record Region : Type 0 where
  pub first : ℕ
  pub last : ℕ

-- a map has a byte at each address of memory, and 0 in the stack region and wherever there is no address
pub record IsMemory (region : Region) (m : ℤ → ℤ) : Type 0 where
  pub byte : (a : ℕ) → a < 65536 → IsUpTo 255 (m (pos a))
  pub stack : (a : ℕ) → region.first ≤ a → a ≤ region.last → m (pos a) ≡ pos 0
  pub above : (a : ℕ) → 65536 ≤ a → m (pos a) ≡ pos 0
  pub below : (a : ℕ) → m (negsuc a) ≡ pos 0

-- a memory variable, the memory before it, and the areas, as first and last address, in which the two may differ
pub record Change : Type 0 where
  pub variable : Var
  pub earlier : Tree
  pub areas : List (ℕ × ℕ)

-- the map has each byte of the image at its address
abbrev pub HasImage : ImageMap → (ℤ → ℤ) → Type 0
HasImage image m = (a byte : ℕ) → maps.get image a ≡ Some byte → m (pos a) ≡ pos byte

-- a place that no area has
abbrev pub IsOutside : ℤ → List (ℕ × ℕ) → Type 0
IsOutside z areas = All (λ area. (z <ℤ pos area.0) ⊎ (pos area.1 <ℤ z)) areas

-- the variable's memory has the image, and is the earlier one outside the areas
pub record MeetsChange (image : ImageMap) (e : Env) (change : Change) : Type 0 where
  pub loaded : HasImage image (e.map change.variable)
  pub same : (z : ℤ) → IsOutside z change.areas → e.map change.variable z ≡ map_of e change.earlier z

-- each variable is in its range, each memory variable is a memory, that at the entry has the image, and each change is met
pub record IsAdmissible (image : ImageMap) (stack : Region) (changes : List Change) (e : Env) : Type 0 where
  pub range : (v : Var) (n : ℕ) → greatest v ≡ Some n → IsUpTo n (e.int v)
  pub memory : (v : Var) → sort_of v ≡ Memory → IsMemory stack (e.map v)
  pub loaded : HasImage image (e.map var.MemEntry)
  pub met : All (MeetsChange image e) changes

-- formulas that are given, formulas to be shown, and how the memory variables are related
pub record Condition : Type 0 where
  pub hypotheses : List Tree
  pub goals : List Tree
  pub changes : List Change

-- each goal is true where each hypothesis is
abbrev pub IsTrueAt : Env → Condition → Type 0
IsTrueAt e c = All (IsTrueIn e) c.hypotheses → All (IsTrueIn e) c.goals

-- the condition is true in each admissible environment
abbrev pub IsValid : ImageMap → Region → Condition → Type 0
IsValid image stack c = (e : Env) → IsAdmissible image stack c.changes e → IsTrueAt e c

-- the environment with all values 0
abbrev pub zeros : Env
zeros = record { int = λ v. pos 0; map = λ v z. pos 0 }
