-- What walks see of an instruction, by example (this project's own).
use Rattle.std.specs.Prelude.{◌≡◌, ℕ, false, true, List, [], ◌∷◌, Option, None, Some, slice_get}
use Rattle.std.specs.FinMap as maps
use Rattle.sp_base.specs.declared.location.Reg.TheVariants as reg
use Rattle.sp_graph.specs.Laws.{to_place, return_node}
use Rattle.sp_graph.specs.Routines.{graph_of}
use Rattle.sp_graph.specs.declared.graph.Branch.{Branch}
use Rattle.sp_graph.specs.declared.graph.End.{End}
use Rattle.sp_graph.specs.declared.graph.End.TheVariants as end
use Rattle.sp_graph.specs.declared.graph.Node.{Node}
use Rattle.sp_graph_laws.specs.Successors.{routines}
use Rattle.sp_isa.specs.declared.instr.Arg.TheVariants.{Reg, M}
use Rattle.sp_isa.specs.declared.instr.Cond.TheVariants as when
use Rattle.sp_isa.specs.declared.instr.Instr.{Instr}
use Rattle.sp_isa.specs.declared.instr.Instr.TheVariants.{Mov, Jmp, Jcc, Call, Ccc, Ret, Rcc, Rst, Pchl, Nop, Hlt}
use Rattle.sp_logic.specs.declared.note.Note.TheVariants.{Constant}
use Rattle.sp_prog.specs.declared.routine.Noted.{Noted}
use Rattle.sp_prog.specs.Program.{Program, program}

-- the annotation `true`
abbrev pub noted : List Noted
noted = record { line = record { 0 = 5 }; note = Constant true } ∷ []

-- a unit whose first routine begins with this instruction, which has these assertions; the second routine, at 8, has these
-- preconditions
abbrev pub unit : Instr → List Noted → List Noted → Program
unit i asserts pre = program maps.empty 0x2300 0x23FF [] (routines i asserts pre)

-- what walks see of that instruction
abbrev pub seen : Instr → List Noted → List Noted → Option Node
seen i asserts pre = slice_get (graph_of (unit i asserts pre) 0) 0

abbrev pub node : Option Branch → Option Branch → Option Node
node untaken taken = Some (record { asserted = false; access = false; untaken = untaken; taken = taken })

-- a branch on which a walk ends
abbrev pub ended : End → Option ℕ → Option Branch
ended e to = Some (record { end = Some e; to = to })

pub record GraphsByExample : Type 0 where
  pub next : seen Nop [] [] ≡ node (to_place 1) None
  pub jump : seen (Jmp 4) [] [] ≡ node (to_place 2) None
  pub jump_if : seen (Jcc when.Z 4) [] [] ≡ node (to_place 1) (to_place 2)
  pub call : seen (Call 8) [] [] ≡ node (to_place 1) None
  pub call_with_condition : seen (Call 8) [] noted ≡ node (ended end.Call (Some 1)) None
  pub call_of_nothing : seen (Call 9) [] noted ≡ node (to_place 1) None
  pub call_if : seen (Ccc when.Z 8) [] [] ≡ node (to_place 1) (to_place 1)
  pub call_if_with_condition : seen (Ccc when.Z 8) [] noted ≡ node (to_place 1) (ended end.Call (Some 1))
  pub restart : seen (Rst 1) [] noted ≡ node (ended end.Call (Some 1)) None
  pub restart_of_nothing : seen (Rst 2) [] noted ≡ node (to_place 1) None
  pub return : seen Ret [] [] ≡ node (ended end.Return None) None
  pub return_if : seen (Rcc when.Z) [] [] ≡ node (to_place 1) (ended end.Return None)
  pub computed : seen Pchl [] [] ≡ node (to_place 1) None
  pub halt : seen Hlt [] [] ≡ node None None
  pub access : seen (Mov M (Reg reg.A)) [] []
      ≡ Some (record { asserted = false; access = true; untaken = to_place 1; taken = None })
  pub asserted : seen Nop noted [] ≡ Some (record { asserted = true; access = false; untaken = to_place 1; taken = None })
  pub callee : graph_of (unit Nop [] []) 1 ≡ return_node false ∷ []
  pub no_routine : graph_of (unit Nop [] []) 2 ≡ []
