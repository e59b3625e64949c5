-- What translation is for: it means what the processor does, and what annotations say (this project's own).
use Rattle.std.specs.Prelude.{◌≡◌, ℕ, ◌≤◌, ◌↔◌, pos, false, Some, [], length}
use Rattle.sp_isa.specs.declared.instr.Instr.{Instr}
use Rattle.sp_isa.specs.Core.{Core}
use Rattle.sp_model.specs.Note.{Frame, Note, HoldsWith, IsClosed}
use Rattle.sp_model.specs.State.{State, IsState, next_instr, next_input, step}
use Rattle.sp_term.specs.declared.var.Var.TheVariants as var
use Rattle.sp_term.specs.Sorts.{Formula}
use Rattle.sp_term.specs.Value.{Env, IsTrueIn}
use Rattle.sp_trans.specs.Symbolic.{Symbolic}
use Rattle.sp_trans.specs.Translation.{applied}
use Rattle.sp_trans.specs.Formulas.{formula_of, NoteFits}
use Rattle.sp_trans.specs.ClosedTerms.{IsClosedTerm, IsSymbolic}
use Rattle.sp_trans.specs.Meaning.{IsValueOf, HasPointer, SetsPointer, IsIn, Asks, IsCall, AsksCall}

-- Where a state's core is the value of a symbolic state, and its next instruction meets what is asked, the core after the
-- step is the value of the symbolic state after the instruction. The variable of an IN is the byte that it takes.
abbrev pub StepsAreTranslated : Type 0
StepsAreTranslated =
    (f : Frame) (e : Env) (g : Symbolic) (s : State) (i : Instr) (n j : ℕ)
    → IsState s → s.core.halted ≡ false → next_instr s.core ≡ Some (i, n) → Asks f i g s.core
    → (IsIn i → e.int (var.In j) ≡ pos (next_input s))
    → IsValueOf f e g s.core → IsValueOf f e (applied i j g) (step s).core

-- After the step the stack pointer is at the newest word again, unless the instruction sets it.
abbrev pub PointersStay : Type 0
PointersStay =
    (f : Frame) (g : Symbolic) (s : State) (i : Instr) (n j : ℕ)
    → IsState s → s.core.halted ≡ false → next_instr s.core ≡ Some (i, n) → Asks f i g s.core
    → ¬ SetsPointer i → HasPointer f (applied i j g) (step s).core

-- A call, taken or not, leaves the core the value of the symbolic state: the return address lies below the words.
abbrev pub CallsKeepValues : Type 0
CallsKeepValues =
    (f : Frame) (e : Env) (g : Symbolic) (s : State) (i : Instr) (n : ℕ)
    → s.core.halted ≡ false → next_instr s.core ≡ Some (i, n) → IsCall i → AsksCall f g s.core
    → IsValueOf f e g s.core → IsValueOf f e g (step s).core

-- A note is true exactly where its formula is, between two cores that are the values of two symbolic states. No bound name
-- of it stands outside its quantifier, and each STKk lies within the words of the second state.
abbrev pub NotesAreTranslated : Type 0
NotesAreTranslated =
    (f : Frame) (e : Env) (g0 g : Symbolic) (entry now : Core) (p : Note)
    → IsSymbolic g0 → IsSymbolic g → IsClosed p → NoteFits (length g.slots) p
    → IsValueOf f e g0 entry → IsValueOf f e g now
    → IsTrueIn e (formula_of g0 g p) ↔ HoldsWith f [] p entry now

-- Each part of the state after an instruction is a closed term of its sort, where each part before it is one.
abbrev pub StatesStaySymbolic : Type 0
StatesStaySymbolic = (i : Instr) (j : ℕ) (g : Symbolic) → (IsIn i → 1 ≤ j) → IsSymbolic g → IsSymbolic (applied i j g)

-- So is the formula of a note, of the sort of formulas.
abbrev pub FormulasAreClosed : Type 0
FormulasAreClosed =
    (p : Note) (g0 g : Symbolic) → IsClosed p → IsSymbolic g0 → IsSymbolic g
    → IsClosedTerm Formula (formula_of g0 g p)
