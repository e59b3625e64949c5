-- When a machine's core is the value of a symbolic state, and what is asked so that a step keeps it so (this project's own).
use Rattle.std.specs.Prelude.{◌≡◌, ℕ, ◌+◌, ◌*◌, ◌%◌, ◌<◌, ◌≤◌, ℤ, pos, IsTrue, List, [], ◌∷◌, ◌++◌, length, slice_index, All, ⊤}
use Rattle.sp_base.specs.declared.location.Loc.{Loc}
use Rattle.sp_base.specs.declared.pair.Pair.TheVariants as pair
use Rattle.sp_isa.specs.declared.instr.Arg.{Arg}
use Rattle.sp_isa.specs.declared.instr.Arg.TheVariants as arg
use Rattle.sp_isa.specs.declared.instr.Instr.{Instr}
use Rattle.sp_isa.specs.declared.instr.Instr.TheVariants.{Mov, Mvi, Inr, Dcr, Alu, Lxi, Inx, Dcx, Dad, Stax, Ldax, Shld, Lhld, Sta, Lda, Push, Pop, Call, Ccc, Ret, Rcc, Rst, Pchl, Sphl, Xthl, In}
use Rattle.sp_isa.specs.Code.{valid}
use Rattle.sp_isa.specs.Core.{Core, at}
use Rattle.sp_isa.specs.Operands.{pair_of}
use Rattle.sp_model.specs.Note.{Frame, shown, stack_address}
use Rattle.sp_term.specs.Tree.{Tree}
use Rattle.sp_term.specs.Value.{Env, int_of, map_of}
use Rattle.sp_trans.specs.Symbolic.{Word, Symbolic, term_at}
use Rattle.sp_trans.specs.Translation.{next}

-- ---- values

-- the value of a term is this number
pub record Gives (e : Env) (t : Tree) (n : ℕ) : Type 0 where
  pub is : int_of e t ≡ pos n

-- a word on the stack is that of the cells at an address, its low byte first
pub record IsWordAt (e : Env) (w : Word) (address : ℕ) (cells : List ℕ) : Type 0 where
  pub low : Gives e w.low (slice_index cells (address % 65536))
  pub high : Gives e w.high (slice_index cells ((address + 1) % 65536))

-- each word is that of its place below the base: with k words the newest one is the k-th
abbrev pub AreWords : Frame → Env → List Word → List ℕ → Type 0
AreWords f e [] cells = ⊤
AreWords f e (w ∷ words) cells = IsWordAt e w (stack_address f (length words + 1)) cells × AreWords f e words cells

-- The core is the value of the symbolic state in an environment: each register and flag, memory as annotations see it, and
-- the words on the stack. The stack pointer, the program counter and whether it is halted are in no symbolic state.
pub record IsValueOf (f : Frame) (e : Env) (g : Symbolic) (core : Core) : Type 0 where
  pub locations : (x : Loc) → Gives e (term_at x g) (at x core)
  pub memory : (z : ℤ) → map_of e g.memory z ≡ shown f core.cells z
  pub slots : AreWords f e g.slots core.cells

-- the stack pointer is at the newest word
abbrev pub HasPointer : Frame → Symbolic → Core → Type 0
HasPointer f g core = core.sp + 2 * length g.slots ≡ f.base

-- ---- what is asked

-- the table of translation has this form: calls, returns and what computes PC or SP are in no walk's translation
abbrev pub HasForm : Instr → Type 0
HasForm (Call w) = ⊥
HasForm (Ccc when w) = ⊥
HasForm Ret = ⊥
HasForm (Rcc when) = ⊥
HasForm (Rst n) = ⊥
HasForm Pchl = ⊥
HasForm Sphl = ⊥
HasForm (Dad pair.Sp) = ⊥
HasForm (Inx pair.Sp) = ⊥
HasForm (Dcx pair.Sp) = ⊥
HasForm i = ⊤

-- a valid instruction of these forms
abbrev pub IsTranslated : Instr → Type 0
IsTranslated i = IsTrue (valid i) × HasForm i

-- how many words an instruction takes from the stack
abbrev pub words_taken : Instr → ℕ
words_taken (Pop p) = 1
words_taken Xthl = 1
words_taken i = 0

-- the stack pointer takes a number
abbrev pub SetsPointer : Instr → Type 0
SetsPointer (Lxi pair.Sp w) = ⊤
SetsPointer i = ⊥

-- an instruction is a PUSH, or an IN
abbrev pub IsPush : Instr → Type 0
IsPush (Push p) = ⊤
IsPush i = ⊥

abbrev pub IsIn : Instr → Type 0
IsIn (In port) = ⊤
IsIn i = ⊥

-- the cell of an operand
abbrev pub arg_cells : Arg → Core → List ℕ
arg_cells (arg.Reg r) core = []
arg_cells arg.M core = pair_of pair.H core ∷ []

-- the cells that an instruction reads or writes at an address in it or in a pair
abbrev pub addressed : Instr → Core → List ℕ
addressed (Mov to from) core = arg_cells to core ++ arg_cells from core
addressed (Mvi to n) core = arg_cells to core
addressed (Inr y) core = arg_cells y core
addressed (Dcr y) core = arg_cells y core
addressed (Alu o y) core = arg_cells y core
addressed (Stax p) core = pair_of p core ∷ []
addressed (Ldax p) core = pair_of p core ∷ []
addressed (Shld w) core = w ∷ next w ∷ []
addressed (Lhld w) core = w ∷ next w ∷ []
addressed (Sta w) core = w ∷ []
addressed (Lda w) core = w ∷ []
addressed i core = []

abbrev pub IsInStack : Frame → ℕ → Type 0
IsInStack f a = (f.first ≤ a) × (a ≤ f.last)

-- the places of the first n words lie in the stack region, with both their bytes
abbrev pub HasPlaces : Frame → ℕ → Type 0
HasPlaces f n = (k : ℕ) → 1 ≤ k → k ≤ n → (f.first + 2 * k ≤ f.base) × (f.base < f.last + 2 * k)

-- What is asked of an instruction, a symbolic state and a core. The stack region ends before the last cell of memory. The
-- words on the stack lie in it, and so do the two bytes below the stack pointer where one is pushed. No cell of it is
-- addressed. The stack pointer is at the newest word, unless the instruction sets it.
pub record Asks (f : Frame) (i : Instr) (g : Symbolic) (core : Core) : Type 0 where
  pub form : HasForm i
  pub region : f.last < 65535
  pub places : HasPlaces f (length g.slots)
  pub pointer : ¬ SetsPointer i → HasPointer f g core
  pub room : IsPush i → (f.first + 2 ≤ core.sp) × (core.sp ≤ f.last + 1)
  pub words : words_taken i ≤ length g.slots
  pub cells : All (λ a. ¬ IsInStack f a) (addressed i core)

-- ---- calls

abbrev pub IsCall : Instr → Type 0
IsCall (Call w) = ⊤
IsCall (Ccc when w) = ⊤
IsCall (Rst n) = ⊤
IsCall i = ⊥

-- What is asked of a call: as of a PUSH, there is room for the return address below the words.
pub record AsksCall (f : Frame) (g : Symbolic) (core : Core) : Type 0 where
  pub region : f.last < 65535
  pub places : HasPlaces f (length g.slots)
  pub pointer : HasPointer f g core
  pub room : (f.first + 2 ≤ core.sp) × (core.sp ≤ f.last + 1)
