-- Annotations that are true between two states have true formulas.
use Rattle.std.proofs.Common.{List, [], ◌∷◌, length, All}
use Rattle.std.specs.List.{AllByRecursion}
use Rattle.std.proofs.lemmas.List.Elements.{All-head, All-tail}
use Rattle.sp_logic.specs.View.{note_of}
use Rattle.sp_model.specs.Note.{Frame}
use Rattle.sp_model.specs.State.{State}
use Rattle.sp_prog.specs.declared.routine.Noted.{Noted}
use Rattle.sp_term.specs.Value.{Env, IsTrueIn}
use Rattle.sp_trans.specs.ClosedTerms.{IsSymbolic}
use Rattle.sp_trans.specs.Meaning.{IsValueOf}
use Rattle.sp_trans.specs.Symbolic.{Symbolic}
use Rattle.sp_trans.proofs.NoteLemmas.{notes_are_translated}
use Rattle.sp_cond.specs.Execution.{formulas_of}
use Rattle.sp_facts.specs.Theorems.{IsTrueBetween}

pub between_true : (f : Frame) (e : Env) (g0 g : Symbolic) (s t : State) → IsSymbolic g0 → IsSymbolic g → IsValueOf f e g0 s.core → IsValueOf f e g t.core
    → (notes : List Noted) → All (IsTrueBetween f (length g.slots) s t) notes → AllByRecursion (IsTrueIn e) (formulas_of g0 g notes)
between_true f e g0 g s t closed0 closed value0 value [] h = tt
between_true f e g0 g s t closed0 closed value0 value (n ∷ notes) h =
    let first = All-head (IsTrueBetween f (length g.slots) s t) n notes h in (
      (notes_are_translated f e g0 g s.core t.core (note_of n.note) closed0 closed first.closed first.fits value0 value).1 first.holds,
      between_true f e g0 g s t closed0 closed value0 value notes (All-tail (IsTrueBetween f (length g.slots) s t) n notes h),
    )
