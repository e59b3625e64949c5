-- The depth of the stack at an instruction (this project's own).
use Rattle.std.specs.Prelude.{◌≡◌, ℕ, ℤ, pos, negsuc, ◌+ℤ◌, List, [], ◌∷◌, Option, None, Some, slice_get}
use Rattle.sp_graph.specs.Least.{IsLeastWalk}
use Rattle.sp_graph.specs.declared.graph.Node.{Node}
use Rattle.sp_isa.specs.declared.instr.Instr.{Instr}
use Rattle.sp_isa.specs.declared.instr.Instr.TheVariants.{Push, Pop}
use Rattle.sp_prog.specs.declared.routine.Stmt.{Stmt}

-- by how many bytes an instruction makes the stack deeper: two more after PUSH, two less after POP
abbrev pub effect : Instr → ℤ
effect (Push pair) = pos 2
effect (Pop pair) = negsuc 1
effect _ = pos 0

abbrev pub effect_in : Option Stmt → ℤ
effect_in None = pos 0
effect_in (Some s) = effect s.instr

-- the depth after these instructions, which is 0 at the entry
abbrev pub depth_along : List Stmt → List ℕ → ℤ
depth_along code [] = pos 0
depth_along code (at ∷ places) = effect_in (slice_get code at) +ℤ depth_along code places

-- the depth of an instruction is that along the least walk to it
abbrev pub HasDepth : List Node → List Stmt → ℕ → ℤ → Type 0
HasDepth graph code at depth = (places : List ℕ) × IsLeastWalk graph places at × (depth ≡ depth_along code places)
