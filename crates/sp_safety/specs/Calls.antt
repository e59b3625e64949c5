-- A run of a routine in its own code, and its calls as whole steps (this project's own).
use Rattle.std.specs.Prelude.{◌≡◌, ℕ, suc, ◌+◌, ◌≤◌, false, Contains, Some, if◌then◌else◌}
use Rattle.sp_isa.specs.Core.{Core}
use Rattle.sp_isa.specs.Stack.{holds}
use Rattle.sp_isa.specs.declared.instr.Instr.{Instr}
use Rattle.sp_isa.specs.declared.instr.Instr.TheVariants.{Call, Ccc, Ret, Rcc, Rst, Hlt}
use Rattle.sp_model.specs.Good.{IsEntry, IsGoodAt, IsReturnStep, HasReturned, InArea, Keeps, base}
use Rattle.sp_model.specs.State.{State, next_instr, run, step}
use Rattle.sp_model.specs.Unit.{Area, Stmt, Routine, Unit}
use Rattle.sp_safety.specs.Contained.{CallsTo, HasStack}

-- ---- where an instruction leads

-- It goes on in its routine, calls, returns or halts.
pub data Way : Type 0 where
  On : Way
  Calls : Way
  Returns : Way
  Halts : Way

-- by the choice that the flags make
abbrev pub way_of : Instr → Core → Way
way_of (Call w) core = Calls
way_of (Ccc when w) core = if holds when core then Calls else On
way_of (Rst n) core = Calls
way_of Ret core = Returns
way_of (Rcc when) core = if holds when core then Returns else On
way_of Hlt core = Halts
way_of _ core = On

-- the state isn't halted, and its next instruction leads this way
pub record Leads (way : Way) (t : State) : Type 0 where
  pub running : t.core.halted ≡ false
  pub instr : Instr
  pub size : ℕ
  pub next : next_instr t.core ≡ Some (instr, size)
  pub way_is : way_of instr t.core ≡ way

-- ---- a run with its calls as whole steps

-- At t' a routine was entered, by a call in a run from s, that changes and uses no more than its caller, and less of the stack.
pub record Enters (u : Unit) (r q : Routine) (s t' : State) : Type 0 where
  pub calls : CallsTo u r q
  pub straight : q.start ≡ false
  pub entry : IsEntry u q t'
  pub areas : (a : ℕ) (area : Area) → Contains q.changes.areas area → InArea a area → (own : Area) × Contains r.changes.areas own × InArea a own
  pub ins : (port : ℕ) → Contains q.ins port → Contains r.ins port
  pub outs : (port : ℕ) → Contains q.outs port → Contains r.outs port
  pub keeps : Keeps u r s t'
  pub below : base u q t' + 2 ≤ base u r s
  pub above : base u r s + q.depth ≤ base u q t' + r.depth

-- after n steps from s a routine is called, and it has returned m steps after it was entered
pub record IsWholeCall (u : Unit) (r : Routine) (s : State) (n m : ℕ) (q : Routine) : Type 0 where
  pub calls : Leads Calls (run s n)
  pub enters : Enters u r q s (run s (suc n))
  pub returned : HasReturned u q (run s (suc n)) (run s (suc (suc n + m)))
  pub running : (run s (suc (suc n + m))).core.halted ≡ false

-- After n steps the run is in the code of the routine that was entered at s: it has come there by instructions that go on in
-- the routine, and by whole calls.
pub data ComesTo (u : Unit) (r : Routine) (s : State) : ℕ → Type 0 where
  begun : ComesTo u r s 0
  onward : (n : ℕ) → ComesTo u r s n → Leads On (run s n) → ComesTo u r s (suc n)
  back : (n m : ℕ) (q : Routine) → ComesTo u r s n → IsWholeCall u r s n m q → ComesTo u r s (suc (suc n + m))

-- ---- what is asked of a state in a routine's own code

-- The state is good, at an instruction of the routine, within its stack; a return is the routine's return step, and a call
-- enters a routine.
pub record IsRight (u : Unit) (r : Routine) (s t : State) : Type 0 where
  pub good : IsGoodAt u r s t
  pub running : t.core.halted ≡ false
  pub stmt : Stmt
  pub own : Contains r.code stmt
  pub there : stmt.address ≡ t.core.pc
  pub stack : r.start ≡ false → HasStack u r s t
  pub returns : Leads Returns t → IsReturnStep u r s t
  pub calls : Leads Calls t → (q : Routine) × Enters u r q s (step t)

-- each state of a routine's run in its own code is right
abbrev pub IsRightInOwnCode : Unit → Routine → Type 0
IsRightInOwnCode u r = (s : State) → IsEntry u r s → (n : ℕ) → ComesTo u r s n → IsRight u r s (run s n)
