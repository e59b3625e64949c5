-- A call's return address lies below the words on the stack.
use Rattle.std.proofs.Common.{◌≡◌, ℕ, ◌+◌, ◌*◌, ◌-◌, ◌/◌, ◌%◌, length, sym, subst, arith}
use Rattle.sp_isa.specs.declared.instr.Instr.{Instr}
use Rattle.sp_isa.specs.declared.instr.Instr.TheVariants.{Call, Ccc, Rst}
use Rattle.sp_isa.specs.Core.{Core, with_cell}
use Rattle.sp_isa.specs.Stack.{push, holds, call, address_after}
use Rattle.sp_isa.specs.Effect.{effect}
use Rattle.sp_model.specs.Note.{Frame}
use Rattle.sp_model.specs.State.{State, next_input}
use Rattle.sp_model.proofs.StateLemmas.{steps_execute}
use Rattle.sp_term.specs.Value.{Env}
use Rattle.sp_trans.specs.Symbolic.{Symbolic}
use Rattle.sp_trans.specs.Meaning.{IsValueOf, IsCall, AsksCall}
use Rattle.sp_trans.specs.Theorems.{CallsKeepValues}
use Rattle.sp_trans.proofs.ValueLemmas.{value_pc, value_advance}
use Rattle.sp_trans.proofs.StackLemmas.{HasRoom, room_of_push, stack_write, in_stack_true, put, push_is}
use Rattle.sp_trans.proofs.TranslatedLemmas.{value_sp, value_choice}

value_put : (f : Frame) (e : Env) (g : Symbolic) (core : Core) (sp high low : ℕ) → HasRoom f (length g.slots + 1) → sp + 2 * (length g.slots + 1) ≡ f.base → IsValueOf f e g core → IsValueOf f e g (put sp high low core)
value_put f e g core sp high low room there h =
    let floor = room.floor in
    let ceiling = room.ceiling in
    let region = room.region in
    let less : HasRoom f (length g.slots) = record { floor = omega arith; ceiling = omega arith; region = region } in
    let first = stack_write f e g core (sp + 1) high less (omega arith) (in_stack_true (sp + 1) f (omega arith) (omega arith)) (omega arith) h in
    stack_write f e g (with_cell (sp + 1) high core) sp low less (omega arith) (in_stack_true sp f (omega arith) (omega arith)) (omega arith) first

value_push_below : (f : Frame) (e : Env) (g : Symbolic) (core : Core) (high low : ℕ) → AsksCall f g core → IsValueOf f e g core → IsValueOf f e g (push high low core)
value_push_below f e g core high low a h =
    let points = a.pointer in
    let from = a.room.0 in
    let to = a.room.1 in
    let region = a.region in
    let room = room_of_push f (length g.slots) core.sp region a.places points from to in
    subst (IsValueOf f e g) (sym (push_is (core.sp - 2) high low core (omega arith) (omega arith)))
    (value_sp (core.sp + 65534) (value_put f e g core (core.sp - 2) high low room (omega arith) h))

value_call : (f : Frame) (e : Env) (g : Symbolic) (core : Core) (n w : ℕ) → AsksCall f g core → IsValueOf f e g core → IsValueOf f e g (call n w core)
unfolding call
value_call f e g core n w a h = value_pc f e g _ w (value_push_below f e g core (address_after n core / 256) (address_after n core % 256) a h)

called : (i : Instr) (input : ℕ) (f : Frame) (e : Env) (g : Symbolic) (core : Core) → IsCall i → AsksCall f g core → IsValueOf f e g core → IsValueOf f e g (effect input i core)
unfolding effect
called (Call w) input f e g core is a h = value_call f e g core 3 w a h
called (Ccc when w) input f e g core is a h = value_choice (holds when core) (value_call f e g core 3 w a h) (value_advance f e g core 3 h)
called (Rst n) input f e g core is a h = value_call f e g core 1 (8 * n) a h
called i input f e g core is a h = absurd is

pub calls_keep_values : CallsKeepValues
calls_keep_values f e g s i n running next is a h =
    subst (λ (t : State). IsValueOf f e g t.core) (sym (steps_execute s i n running next)) (called i (next_input s) f e g s.core is a h)
