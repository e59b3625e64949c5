-- What is known of a run at a state in its routine's own code: the walk along which it has come, executed as the run went.
use Rattle.std.proofs.Common.{◌≡◌, ℕ, ◌*◌, ◌≤◌, ℤ, true, false, cond, List, [], length, Option, None, Some, slice_get, reverse, refl, sym, ap, subst, ◌∙◌}
use Rattle.std.specs.Prelude.{slice_index}
use Rattle.std.proofs.lemmas.List.{append-nil}
use Rattle.std.proofs.lemmas.List.Elements.{All-nil}
use Rattle.sp_base.specs.declared.location.Loc.{Loc}
use Rattle.sp_isa.specs.Core.{at}
use Rattle.sp_model.specs.Good.{IsEntry, Keeps, frame_of}
use Rattle.sp_model.specs.Note.{Frame, shown}
use Rattle.sp_model.specs.State.{State, IsState}
use Rattle.sp_model.specs.Unit as runs
use Rattle.sp_prog.specs.Program.{Program}
use Rattle.sp_prog.specs.View.{unit_of}
use Rattle.sp_prog.specs.declared.routine.Routine.{Routine}
use Rattle.sp_prog.specs.declared.routine.Stmt.{Stmt}
use Rattle.sp_graph.specs.Control.{accesses}
use Rattle.sp_graph.specs.Graph.{access_of}
use Rattle.sp_graph.specs.Routines.{node_of}
use Rattle.sp_graph.specs.Walks.{Inside, IsCut, IsWalk, ends, at_access}
use Rattle.sp_graph.specs.declared.graph.End.{End}
use Rattle.sp_graph.specs.declared.graph.End.TheVariants as end
use Rattle.sp_graph.specs.declared.walk.Step.{Step}
use Rattle.sp_graph.proofs.NodeLemmas.{node_at, node_in}
use Rattle.sp_term.specs.Admissible.{IsValid}
use Rattle.sp_trans.specs.Meaning.{HasPointer}
use Rattle.sp_cond.specs.Execution.{Execution, executed}
use Rattle.sp_cond.specs.Start.{Setting, is_set, has_store}
use Rattle.sp_cond.specs.WalkConditions.{concluded, setting_of, ends_taken}
use Rattle.sp_facts.specs.Ends.{IsAtEnd, IsTakenBy, HoldAll}
use Rattle.sp_facts.specs.Executions.{IsExecutionOf}
use Rattle.sp_facts.specs.Histories.{History}
use Rattle.sp_facts.specs.Theorems.{IsHistory, HasImageApart, region}
use Rattle.sp_safety.proofs.FetchLemmas.{image_apart}
use Rattle.sp_safety.proofs.GivenLemmas.{Given, graph, own}

-- a run of a routine from an entry
pub record Run : Type 0 where
  pub p : Program
  pub r : ℕ
  pub routine : Routine
  pub depths : List ℕ
  pub given : Given p r routine depths
  pub s : State
  pub entry : IsEntry (unit_of p) (own p r routine depths given) s

module _ (c : Run) where
  abbrev pub unit : runs.Unit
  unit = unit_of c.p

  abbrev pub model : runs.Routine
  model = own c.p c.r c.routine c.depths c.given

  abbrev pub frame : Frame
  frame = frame_of unit model c.s

  abbrev pub setting : Setting
  setting = setting_of c.p c.routine c.depths

  -- what the run has kept at each state
  pub record Kept (t : State) : Type 0 where
    pub state : IsState t
    pub running : t.core.halted ≡ false
    pub keeps : Keeps unit model c.s t
    pub unset : (x : Loc) → is_set setting x ≡ false → at x t.core ≡ at x c.s.core
    pub unstored : has_store setting ≡ false → (z : ℤ) → shown frame t.core.cells z ≡ shown frame c.s.core.cells z

  -- the run has come to an instruction along a walk
  pub record Walked (t : State) (from : Option ℕ) (place : ℕ) (st : Stmt) (h : History) (x : Execution) : Type 0 where
    pub here : slice_get c.routine.code place ≡ Some st
    pub next : st.addr ≡ t.core.pc
    pub cut : IsCut (graph c.p c.routine) from
    pub kept : Kept t
    pub entry_is : h.entry ≡ c.s
    pub history : IsHistory h
    pub words : 2 * length x.state.slots ≡ slice_index c.depths place
    pub shallow : 2 * length x.state.slots ≤ c.routine.depth
    pub pointer : (c.routine.start ≡ true → place ≡ 0 → ⊥) → HasPointer frame x.state t.core
    pub execution : IsExecutionOf c.p.image frame h t x

  abbrev pub along : Option ℕ → List Step → Execution
  along from steps = executed setting from (reverse steps)

  -- and its assertions are true
  pub record Facts (t : State) : Type 0 where
    pub from : Option ℕ
    pub steps : List Step
    pub place : ℕ
    pub st : Stmt
    pub h : History
    pub inside : Inside (graph c.p c.routine) from steps place
    pub walked : Walked t from place st h (along from steps)
    pub asserted : HoldAll frame st.asserts c.s t

  -- where a walk ends, its condition is true
  pub at_end : (t : State) (from : Option ℕ) (steps : List Step) (place : ℕ) (st : Stmt) (h : History) → Walked t from place st h (along from steps)
      → (e : End) → IsWalk (graph c.p c.routine) from (ends from steps e place) → IsTakenBy (ends_taken e) st.instr t.core
      → IsAtEnd c.p.image setting frame h t (along from steps) e st
  at_end t from steps place st h w e walk taken = record {
    history_is = w.history;
    image_is = subst (HasImageApart c.p.image frame) (sym w.entry_is) (image_apart c.p c.r c.routine c.depths c.given c.s c.entry c.s (record { memory = λ a low out apart. refl; outputs = ([], sym (append-nil c.s.outputs), All-nil _) }));
    state = w.kept.state;
    execution = w.execution;
    chosen = taken;
    valid = subst (λ o. IsValid c.p.image (region frame) (concluded setting e o (along from steps))) w.here (c.given.valid (ends from steps e place) w.cut walk);
  }

  -- the node of an instruction
  pub node_is : (place : ℕ) (st : Stmt) → slice_get c.routine.code place ≡ Some st → slice_get (graph c.p c.routine) place ≡ Some (node_of c.p.routines c.routine.code place st)
  node_is place st here = node_at c.p.routines c.routine.code place ∙ ap (node_in c.p.routines c.routine.code place) here

  -- a walk ends at an access
  pub access_walk : (from : Option ℕ) (steps : List Step) (place : ℕ) (st : Stmt) → slice_get c.routine.code place ≡ Some st → Inside (graph c.p c.routine) from steps place
      → accesses st.instr ≡ true → IsWalk (graph c.p c.routine) from (ends from steps end.Access place)
  access_walk from steps place st here inside is =
      at_access steps place end.Access inside (ap access_of (node_is place st here) ∙ ap (λ b. cond b (Some end.Access) None) is)
