-- Instructions that undo one another, and returns that come back (8080 manual, the descriptions of the instructions).
use Rattle.std.specs.Prelude.{◌≡◌, ℕ, ◌+◌, ◌*◌, ◌%◌, ◌<◌, true, not, length, ◌↔◌}
use Rattle.sp_base.specs.declared.location.Loc.{Loc}
use Rattle.sp_base.specs.declared.pair.Pair.TheVariants as pair
use Rattle.sp_isa.specs.declared.instr.StackPair.{StackPair}
use Rattle.sp_isa.specs.declared.instr.StackPair.TheVariants as stack
use Rattle.sp_isa.specs.declared.instr.Cond.TheVariants as when
use Rattle.sp_isa.specs.declared.instr.Op.TheVariants as op
use Rattle.sp_isa.specs.declared.instr.Instr.{Instr}
use Rattle.sp_isa.specs.declared.instr.Instr.TheVariants.{Ral, Rar, Cma, Cmc, Push, Pop, Call, Ret, Rst, Xchg}
use Rattle.sp_isa.specs.Code.{code}
use Rattle.sp_isa.specs.Core.{Core, IsCore, at, advance}
use Rattle.sp_isa.specs.Operands.{pair_of}
use Rattle.sp_isa.specs.Stack.{holds}
use Rattle.sp_isa.specs.Effect.{effect}
use Rattle.sp_isa.specs.Sums.{Always}

-- the second instruction undoes the first: the core is as it was, but for the program counter
abbrev pub Undoes : Instr → Instr → Type 0
Undoes first second =
    (input : ℕ) (core : Core) → IsCore core
    → effect input second (effect input first core) ≡ advance (length (code first) + length (code second)) core

-- XCHG, CMA and CMC undo themselves; RAL and RAR undo one another
abbrev pub SomeUndoOthers : Type 0
SomeUndoOthers = Undoes Xchg Xchg × Undoes Cma Cma × Undoes Cmc Cmc × Undoes Rar Ral × Undoes Ral Rar

-- POP after PUSH of the same pair: every register, every flag and SP are as they were
abbrev pub PopsRestore : Type 0
PopsRestore =
    (input : ℕ) (p : StackPair) (core : Core) → IsCore core
    → let popped = effect input (Pop p) (effect input (Push p) core) in
    ((x : Loc) → at x popped ≡ at x core) × (popped.sp ≡ core.sp)

-- POP D after PUSH B moves the pair, as does POP H after PUSH D
abbrev pub PopsMove : Type 0
PopsMove =
    (input : ℕ) (core : Core) → IsCore core
    → (pair_of pair.D (effect input (Pop stack.D) (effect input (Push stack.B) core)) ≡ pair_of pair.B core)
    × (pair_of pair.H (effect input (Pop stack.H) (effect input (Push stack.D) core)) ≡ pair_of pair.D core)

-- a call goes to its address, and RET comes back to the address after it, with SP as it was
abbrev pub ComesBack : Instr → ℕ → ℕ → Type 0
ComesBack i target size =
    (input : ℕ) (core : Core) → IsCore core
    → let called = effect input i core in
    let back = effect input Ret called in
    (called.pc ≡ target % 65536) × (back.pc ≡ (core.pc + size) % 65536) × (back.sp ≡ core.sp)

-- CALL goes to its word, and RST n to 8 * n
abbrev pub CallsComeBack : Type 0
CallsComeBack = ((w : ℕ) → ComesBack (Call w) w 3) × ((n : ℕ) → ComesBack (Rst n) (8 * n) 1)

-- conditions come in opposites
abbrev pub ConditionsAreOpposites : Type 0
ConditionsAreOpposites =
    (core : Core) → IsCore core
    → (holds when.Nz core ≡ not (holds when.Z core)) × (holds when.Nc core ≡ not (holds when.C core))
    × (holds when.Po core ≡ not (holds when.Pe core)) × (holds when.P core ≡ not (holds when.M core))

-- after CMP and CPI: Z holds exactly where A is the byte, and C exactly where A is below it
abbrev pub ComparisonsTell : Type 0
ComparisonsTell =
    Always op.Cmp (λ byte old new. ((holds when.Z new ≡ true) ↔ (old.a ≡ byte)) × ((holds when.C new ≡ true) ↔ (old.a < byte)))
