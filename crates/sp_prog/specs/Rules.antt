-- The rules that a unit keeps (this project's own).
use Rattle.std.specs.Prelude.{◌≡◌, ◌≢◌, ℕ, ◌+◌, ◌<◌, ◌≤◌, nat_eq, Bool, true, false, ◌||◌, IsTrue, List, [], ◌∷◌, All, AllPairs, length, map, flat_map, slice_get, slice_index, Some, None, ⊤}
use Rattle.std.specs.Cmp.Lexicographic.{pointwise}
use Rattle.std.specs.List.{IsDistinct}
use Rattle.std.specs.List.Sorted.{IsStrictlyIncreasing}
use Rattle.std.specs.FinMap as maps
use Rattle.sp_base.specs.Image.{ImageMap, IsInMemory}
use Rattle.sp_isa.specs.Code.{code, valid}
use Rattle.sp_model.specs.Note.{Quantity, Cell, StackWord, Total, Negative, Parity, Operate, Note, Constant, Compare, Not, Connect, Quantify}
use Rattle.sp_logic.specs.View.{note_of}
use Rattle.sp_logic.specs.WellFormed.{IsWellFormed}
use Rattle.sp_eval.specs.Wide.{IsNarrow}
use Rattle.sp_prog.specs.declared.area.Area.{Area}
use Rattle.sp_prog.specs.declared.area.AreaKind.{AreaKind}
use Rattle.sp_prog.specs.declared.area.AreaKind.TheVariants as kind
use Rattle.sp_prog.specs.declared.routine.Lists.{Lists}
use Rattle.sp_prog.specs.declared.routine.Noted.{Noted}
use Rattle.sp_prog.specs.declared.routine.Routine.{Routine}
use Rattle.sp_prog.specs.declared.routine.Stmt.{Stmt}
use Rattle.sp_prog.specs.Program.{Program}

-- ---- Areas

-- an address of an area
abbrev pub IsInArea : Area → ℕ → Type 0
IsInArea area a = (area.addr ≤ a) × (a < area.addr + area.len)

-- an address of the stack region
abbrev pub IsInStack : Program → ℕ → Type 0
IsInStack p a = (p.first ≤ a) × (a ≤ p.last)

-- the image has no byte at an address
abbrev pub IsFree : ImageMap → ℕ → Type 0
IsFree image a = maps.get image a ≡ None

-- how many cells an area has
abbrev pub HasLength : AreaKind → ℕ → Type 0
HasLength kind.Byte len = len ≡ 1
HasLength kind.Word len = len ≡ 2
HasLength kind.Bytes len = 0 < len

-- an area has at least one cell, and all its cells are in memory, outside the stack region
pub record IsArea (p : Program) (area : Area) : Type 0 where
  pub length : HasLength area.kind area.len
  pub within : area.addr + area.len ≤ 65536
  pub apart : (a : ℕ) → IsInArea area a → ¬ IsInStack p a

-- ---- Annotations

-- whether STKk stands in a quantity
abbrev pub has_word : Quantity → Bool
has_word (StackWord k) = true
has_word (Cell m x) = has_word x
has_word (Total m x y) = has_word x || has_word y
has_word (Negative x) = has_word x
has_word (Parity x) = has_word x
has_word (Operate o x y) = has_word x || has_word y
has_word _ = false

-- whether it stands in a note
abbrev pub note_has_word : Note → Bool
note_has_word (Constant truth) = false
note_has_word (Compare c x y) = has_word x || has_word y
note_has_word (Not p) = note_has_word p
note_has_word (Connect c p q) = note_has_word p || note_has_word q
note_has_word (Quantify q name x y p) = has_word x || (has_word y || note_has_word p)

-- an annotation can be evaluated: it is well formed, and no part of it can grow too large
pub record IsEvaluable (n : Noted) : Type 0 where
  pub formed : IsWellFormed (note_of n.note)
  pub narrow : IsNarrow (note_of n.note)

-- annotations of one place: at most 64, by rising line
pub record AreNotes (notes : List Noted) : Type 0 where
  pub few : length notes ≤ 64
  pub each : All IsEvaluable notes
  pub rising : IsStrictlyIncreasing (map (λ n. n.line.0) notes)

-- annotations that speak of no word of the stack
abbrev pub HaveNoWords : List Noted → Type 0
HaveNoWords = All (λ n. note_has_word (note_of n.note) ≡ false)

-- ---- Instructions

-- how many bytes an instruction has
abbrev pub size_of : Stmt → ℕ
size_of s = length (code s.instr)

-- these bytes stand in an image from an address on
abbrev pub HasBytes : ImageMap → ℕ → List ℕ → Type 0
HasBytes image a bytes = (k : ℕ) → k < length bytes → maps.get image (a + k) ≡ Some (slice_index bytes k)

-- an instruction is valid, and its code stands at its address
pub record IsStmt (image : ImageMap) (s : Stmt) : Type 0 where
  pub valid : IsTrue (valid s.instr)
  pub code : HasBytes image s.addr (code s.instr)
  pub asserts : AreNotes s.asserts

-- instructions stand one after another, the first at this address
abbrev pub AreLaidOut : ℕ → List Stmt → Type 0
AreLaidOut a [] = ⊤
AreLaidOut a (s ∷ stmts) = (s.addr ≡ a) × AreLaidOut (a + size_of s) stmts

-- two instructions have no byte at one address
abbrev pub HaveNoCommonByte : Stmt → Stmt → Type 0
HaveNoCommonByte one other = (k m : ℕ) → k < size_of one → m < size_of other → one.addr + k ≢ other.addr + m

-- ---- Routines

-- the address of the first instruction, 0 where there is none
abbrev pub first_address : List Stmt → ℕ
first_address [] = 0
first_address (s ∷ stmts) = s.addr

abbrev pub address_of : Routine → ℕ
address_of r = first_address r.code

-- what is asserted at the first instruction
abbrev pub first_asserts : List Stmt → List Noted
first_asserts [] = []
first_asserts (s ∷ stmts) = s.asserts

-- each area of a list is one of so many, and stands there once
pub record AreListed (count : ℕ) (lists : Lists) : Type 0 where
  pub areas : All (λ place. place < count) lists.areas
  pub once : IsDistinct nat_eq lists.areas

-- the areas of a list have no cell at a byte of the image
abbrev pub AreFree : Program → Lists → Type 0
AreFree p lists = All (λ place. (area : Area) → slice_get p.areas place ≡ Some area → (a : ℕ) → IsInArea area a → IsFree p.image a) lists.areas

-- nothing is said of a start routine's return, and nothing asserted at its first instruction, before SP has its value
pub record IsStartRoutine (r : Routine) : Type 0 where
  pub post : r.post ≡ []
  pub asserts : first_asserts r.code ≡ []

pub record IsRoutine (p : Program) (r : Routine) : Type 0 where
  pub some : 0 < length r.code
  pub laid_out : AreLaidOut (address_of r) r.code
  pub code : All (IsStmt p.image) r.code
  pub pre : AreNotes r.pre
  pub pre_words : HaveNoWords r.pre
  pub post : AreNotes r.post
  pub post_words : HaveNoWords r.post
  pub reads : AreListed (length p.areas) r.reads
  pub changes : AreListed (length p.areas) r.changes
  pub changes_free : AreFree p r.changes
  pub start : r.start ≡ true → IsStartRoutine r

-- ---- Units

-- all instructions, routine by routine
abbrev pub instructions : Program → List Stmt
instructions p = flat_map (λ (r : Routine). r.code) p.routines

-- the rules of a unit
pub record IsUnit (p : Program) : Type 0 where
  -- the image has bytes at addresses alone
  pub image : IsInMemory p.image
  -- the stack region has a cell at least, ends below the last address, and has no byte of the image
  pub stack_ordered : p.first ≤ p.last
  pub stack_end : p.last ≤ 65534
  pub stack_free : (a : ℕ) → IsInStack p a → IsFree p.image a
  -- at most 1,024 areas, each with a name of its own
  pub areas : All (IsArea p) p.areas
  pub area_names : IsDistinct (pointwise nat_eq) (map (λ (area : Area). area.name) p.areas)
  pub few_areas : length p.areas ≤ 1024
  -- at most 1,024 routines by rising address, each with a name of its own
  pub routines : All (IsRoutine p) p.routines
  pub routine_names : IsDistinct (pointwise nat_eq) (map (λ (r : Routine). r.name) p.routines)
  pub few_routines : length p.routines ≤ 1024
  pub rising : IsStrictlyIncreasing (map address_of p.routines)
  -- no two instructions have a byte at one address, or stand on one line
  pub apart : AllPairs HaveNoCommonByte (instructions p)
  pub lines : IsDistinct nat_eq (map (λ (s : Stmt). s.line.0) (instructions p))
