-- The walks of small routines, in order (this project's own). Each routine is an instruction, NOP and RET.
use Rattle.std.specs.Prelude.{◌≡◌, List, [], ◌∷◌, None, Some}
use Rattle.sp_base.specs.declared.location.Reg.TheVariants as reg
use Rattle.sp_graph.specs.Laws.{step, step_taken, walk}
use Rattle.sp_graph.specs.Routines.{graph_of}
use Rattle.sp_graph.specs.Walks.{cuts, walks}
use Rattle.sp_graph.specs.declared.graph.End.TheVariants as end
use Rattle.sp_graph.specs.declared.walk.Walk.{Walk}
use Rattle.sp_graph_laws.specs.Graphs.{noted, unit}
use Rattle.sp_isa.specs.declared.instr.Arg.TheVariants.{Reg, M}
use Rattle.sp_isa.specs.declared.instr.Cond.TheVariants as when
use Rattle.sp_isa.specs.declared.instr.Instr.{Instr}
use Rattle.sp_isa.specs.declared.instr.Instr.TheVariants.{Mov, Jmp, Jcc, Call, Ccc, Ret, Rcc, Rst, Nop, Hlt}
use Rattle.sp_prog.specs.declared.routine.Noted.{Noted}

-- the walks of the routine that begins with this instruction
abbrev pub walks_of : Instr → List Noted → List Noted → List Walk
walks_of i asserts pre = walks (graph_of (unit i asserts pre) 0)

-- the walk through all three instructions, and the one by the choice taken at the first
abbrev pub through : Walk
through = walk None (step 0 ∷ step 1 ∷ []) end.Return 2

abbrev pub through_taken : Walk
through_taken = walk None (step_taken 0 ∷ step 1 ∷ []) end.Return 2

-- the branch that isn't taken comes first; a call of a routine with a precondition ends a walk, and another goes on after it;
-- a return that is taken ends a walk of its own; an assertion at the first instruction has an empty walk, and begins others
pub record WalksByExample : Type 0 where
  pub next : walks_of Nop [] [] ≡ through ∷ []
  pub jump : walks_of (Jmp 4) [] [] ≡ walk None (step 0 ∷ []) end.Return 2 ∷ []
  pub jump_if : walks_of (Jcc when.Z 4) [] [] ≡ through ∷ walk None (step_taken 0 ∷ []) end.Return 2 ∷ []
  pub call : walks_of (Call 8) [] [] ≡ through ∷ []
  pub call_with_condition : walks_of (Call 8) [] noted ≡ walk None [] end.Call 0 ∷ through ∷ []
  pub call_if : walks_of (Ccc when.Z 8) [] [] ≡ through ∷ through_taken ∷ []
  pub call_if_with_condition : walks_of (Ccc when.Z 8) [] noted ≡ through ∷ walk None [] end.Call 0 ∷ through_taken ∷ []
  pub restart : walks_of (Rst 1) [] noted ≡ walk None [] end.Call 0 ∷ through ∷ []
  pub restart_of_nothing : walks_of (Rst 2) [] noted ≡ through ∷ []
  pub return : walks_of Ret [] [] ≡ walk None [] end.Return 0 ∷ []
  pub return_if : walks_of (Rcc when.Z) [] [] ≡ through ∷ walk None [] end.Return 0 ∷ []
  pub halt : walks_of Hlt [] [] ≡ []
  pub access : walks_of (Mov M (Reg reg.A)) [] [] ≡ walk None [] end.Access 0 ∷ through ∷ []
  pub asserted : walks_of Nop noted [] ≡ walk None [] end.Assert 0 ∷ walk (Some 0) (step 0 ∷ step 1 ∷ []) end.Return 2 ∷ []
  pub loop : walks_of (Jmp 0) noted [] ≡ walk None [] end.Assert 0 ∷ walk (Some 0) (step 0 ∷ []) end.Assert 0 ∷ []

-- the entry is a cut point, and so is each asserted instruction
pub record CutsByExample : Type 0 where
  pub plain : cuts (graph_of (unit Nop [] []) 0) ≡ None ∷ []
  pub asserted : cuts (graph_of (unit Nop noted []) 0) ≡ None ∷ Some 0 ∷ []
