-- At a routine's entry the empty walk begins.
use Rattle.std.proofs.Common.{List, [], ◌∷◌, All, refl, sym, subst, append-nil}
use Rattle.std.specs.List.{AllByRecursion}
use Rattle.std.proofs.lemmas.List.Elements.{All-nil, All-head, All-tail}
use Rattle.sp_base.specs.declared.location.Loc.{Loc}
use Rattle.sp_base.specs.declared.location.Loc.TheVariants as loc
use Rattle.sp_isa.specs.Core.{at}
use Rattle.sp_logic.specs.View.{note_of}
use Rattle.sp_model.specs.Note.{Frame}
use Rattle.sp_model.specs.State.{State}
use Rattle.sp_prog.specs.declared.routine.Noted.{Noted}
use Rattle.sp_term.specs.Sorts.{Int}
use Rattle.sp_term.specs.Value.{Env, IsTrueIn}
use Rattle.sp_trans.specs.ClosedTerms.{IsClosedTerm, IsClosedWord, IsSymbolic}
use Rattle.sp_trans.specs.Meaning.{Gives, IsValueOf}
use Rattle.sp_trans.specs.Symbolic.{term_at}
use Rattle.sp_trans.proofs.NoteLemmas.{notes_are_translated}
use Rattle.sp_cond.specs.Execution.{formulas_of}
use Rattle.sp_cond.specs.Start.{entry_state}
use Rattle.sp_facts.specs.Histories.{History, history, Agrees}
use Rattle.sp_facts.specs.Theorems.{IsTrueNote, EntriesBegin}

closed_at : (x : Loc) → IsClosedTerm Int (term_at x entry_state)
closed_at loc.A = record { sort = (refl, tt); closed = λ k. refl }
closed_at loc.B = record { sort = (refl, tt); closed = λ k. refl }
closed_at loc.C = record { sort = (refl, tt); closed = λ k. refl }
closed_at loc.D = record { sort = (refl, tt); closed = λ k. refl }
closed_at loc.E = record { sort = (refl, tt); closed = λ k. refl }
closed_at loc.H = record { sort = (refl, tt); closed = λ k. refl }
closed_at loc.L = record { sort = (refl, tt); closed = λ k. refl }
closed_at loc.S = record { sort = (refl, tt); closed = λ k. refl }
closed_at loc.Z = record { sort = (refl, tt); closed = λ k. refl }
closed_at loc.Ac = record { sort = (refl, tt); closed = λ k. refl }
closed_at loc.P = record { sort = (refl, tt); closed = λ k. refl }
closed_at loc.Cy = record { sort = (refl, tt); closed = λ k. refl }

pub entry_symbolic : IsSymbolic entry_state
entry_symbolic = record { locations = closed_at; memory = record { sort = (refl, tt); closed = λ k. refl }; slots = All-nil IsClosedWord }

module _ (f : Frame) (h : History) (e : Env) (k : Agrees f h e) where
  given : (x : Loc) → Gives e (term_at x entry_state) (at x h.entry.core)
  given loc.A = record { is = k.at_entry.locations loc.A }
  given loc.B = record { is = k.at_entry.locations loc.B }
  given loc.C = record { is = k.at_entry.locations loc.C }
  given loc.D = record { is = k.at_entry.locations loc.D }
  given loc.E = record { is = k.at_entry.locations loc.E }
  given loc.H = record { is = k.at_entry.locations loc.H }
  given loc.L = record { is = k.at_entry.locations loc.L }
  given loc.S = record { is = k.at_entry.locations loc.S }
  given loc.Z = record { is = k.at_entry.locations loc.Z }
  given loc.Ac = record { is = k.at_entry.locations loc.Ac }
  given loc.P = record { is = k.at_entry.locations loc.P }
  given loc.Cy = record { is = k.at_entry.locations loc.Cy }

  -- the entry is the value of the entry's state
  pub entry_value : IsValueOf f e entry_state h.entry.core
  entry_value = record { locations = given; memory = k.at_entry.memory; slots = tt }

pub pre_true : (f : Frame) (s : State) (e : Env) → IsValueOf f e entry_state s.core → (notes : List Noted) → All (IsTrueNote f s) notes → AllByRecursion (IsTrueIn e) (formulas_of entry_state entry_state notes)
pre_true f s e value [] h = tt
pre_true f s e value (n ∷ notes) h =
    let first = All-head (IsTrueNote f s) n notes h in (
      (notes_are_translated f e entry_state entry_state s.core s.core (note_of n.note) entry_symbolic entry_symbolic first.closed first.fits value value).1 first.holds,
      pre_true f s e value notes (All-tail (IsTrueNote f s) n notes h),
    )

pub entries_begin : EntriesBegin
entries_begin image u f s h = record {
  counted = refl;
  called = refl;
  symbolic = entry_symbolic;
  value = λ e k. entry_value f (history s s [] []) e k;
  hypotheses = λ e k.
      subst (AllByRecursion (IsTrueIn e)) (sym (append-nil (formulas_of entry_state entry_state u.routine.pre)))
      (pre_true f s e (entry_value f (history s s [] []) e k) u.routine.pre h);
  changed = λ e k. tt;
}
