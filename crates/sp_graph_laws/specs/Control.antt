-- How control leaves each instruction, beside what the processor does (8080 manual, "Jump instructions", "Call subroutine
-- instructions", "Return from subroutine instructions", "RST instruction", "HLT halt instruction").
use Rattle.std.specs.Prelude.{◌≡◌, ◌≢◌, ◌%◌, true, false, [], if◌then◌else◌}
use Rattle.sp_base.specs.declared.location.Reg.TheVariants as reg
use Rattle.sp_base.specs.declared.pair.Pair.TheVariants as pair
use Rattle.sp_graph.specs.Control.{control_of, accesses}
use Rattle.sp_graph.specs.declared.control.Control.{Control}
use Rattle.sp_graph.specs.declared.control.Control.TheVariants.{Next, Jump, JumpIf, Call, CallIf, Return, ReturnIf, Halt}
use Rattle.sp_isa.specs.Core.{Core, word}
use Rattle.sp_isa.specs.Outcome.{next_address, pc_after, sp_after, sp_popped, halted_after, pushes_address, stores}
use Rattle.sp_isa.specs.Stack.{holds}
use Rattle.sp_isa.specs.declared.instr.Arg.TheVariants.{Reg, M}
use Rattle.sp_isa.specs.declared.instr.Cond.{Cond}
use Rattle.sp_isa.specs.declared.instr.Instr.{Instr}
use Rattle.sp_isa.specs.declared.instr.Instr.TheVariants as instr
use Rattle.sp_isa.specs.declared.instr.Op.TheVariants as op
use Rattle.sp_isa.specs.declared.instr.StackPair.TheVariants as stack

-- the processor goes on so, whatever its registers hold: a jump leaves the stack as it is, a call puts the next address there,
-- and a return takes its address from there
abbrev pub Leaves : Instr → Control → Type 0
Leaves i Next = (core : Core) → pc_after i core ≡ next_address i core
Leaves i (Jump address) = (core : Core) → (pc_after i core ≡ address % 65536) × (sp_after i core ≡ core.sp)
Leaves i (JumpIf address) =
    (when : Cond)
    × ((core : Core) →
    (pc_after i core ≡ if holds when core then address % 65536 else next_address i core) × (sp_after i core ≡ core.sp))
Leaves i (Call address) =
    (core : Core) → (pc_after i core ≡ address % 65536) × (stores i core ≡ pushes_address (next_address i core) core)
Leaves i (CallIf address) =
    (when : Cond)
    × ((core : Core) →
    (pc_after i core ≡ if holds when core then address % 65536 else next_address i core)
    × (stores i core ≡ if holds when core then pushes_address (next_address i core) core else []))
Leaves i Return = (core : Core) → (pc_after i core ≡ word core.sp core % 65536) × (sp_after i core ≡ sp_popped core)
Leaves i ReturnIf =
    (when : Cond)
    × ((core : Core) →
    (pc_after i core ≡ if holds when core then word core.sp core % 65536 else next_address i core)
    × (sp_after i core ≡ if holds when core then sp_popped core else core.sp))
Leaves i Halt = (core : Core) → halted_after i core ≡ true

-- control leaves each instruction as the processor does; PCHL, whose address isn't known, counts as going on at the next
-- instruction, and a rule on structure refuses it
pub record ControlFollowsTheProcessor : Type 0 where
  pub follows : (i : Instr) → i ≢ instr.Pchl → Leaves i (control_of i)
  pub computed : control_of instr.Pchl ≡ Next

-- M on either side of MOV and as any other operand is an access, and so are STAX and LDAX; a register isn't, and neither is
-- an address in the instruction or a word of the stack
pub record AccessesByExample : Type 0 where
  pub move_to : accesses (instr.Mov M (Reg reg.A)) ≡ true
  pub move_from : accesses (instr.Mov (Reg reg.A) M) ≡ true
  pub move : accesses (instr.Mov (Reg reg.A) (Reg reg.B)) ≡ false
  pub load_byte : accesses (instr.Mvi M 5) ≡ true
  pub load_register : accesses (instr.Mvi (Reg reg.A) 5) ≡ false
  pub increase : accesses (instr.Inr M) ≡ true
  pub increase_register : accesses (instr.Inr (Reg reg.H)) ≡ false
  pub decrease : accesses (instr.Dcr M) ≡ true
  pub decrease_register : accesses (instr.Dcr (Reg reg.H)) ≡ false
  pub operate : accesses (instr.Alu op.Cmp M) ≡ true
  pub operate_on_register : accesses (instr.Alu op.Cmp (Reg reg.L)) ≡ false
  pub operate_on_byte : accesses (instr.AluImmediate op.Cmp 5) ≡ false
  pub store_at_pair : accesses (instr.Stax pair.B) ≡ true
  pub load_at_pair : accesses (instr.Ldax pair.D) ≡ true
  pub store : accesses (instr.Sta 0x2000) ≡ false
  pub load : accesses (instr.Lda 0x2000) ≡ false
  pub store_word : accesses (instr.Shld 0x2000) ≡ false
  pub load_word : accesses (instr.Lhld 0x2000) ≡ false
  pub pushed : accesses (instr.Push stack.H) ≡ false
  pub popped : accesses (instr.Pop stack.H) ≡ false
  pub exchange : accesses instr.Xthl ≡ false
