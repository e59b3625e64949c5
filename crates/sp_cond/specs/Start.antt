-- The symbolic state at a walk's start (this project's own).
use Rattle.std.specs.Prelude.{ℕ, zero, suc, ◌/◌, Bool, true, false, ◌||◌, List, [], ◌∷◌, Option, None, Some, if◌then◌else◌}
use Rattle.std.specs.Prelude.{slice_index}
use Rattle.std.specs.List.{list_any}
use Rattle.sp_base.specs.declared.location.Loc.{Loc}
use Rattle.sp_base.specs.declared.location.Loc.TheVariants as loc
use Rattle.sp_base.specs.Locs.{has}
use Rattle.sp_isa.specs.declared.instr.Arg.TheVariants as arg
use Rattle.sp_isa.specs.declared.instr.Instr.{Instr}
use Rattle.sp_isa.specs.declared.instr.Instr.TheVariants.{Mov, Mvi, Inr, Dcr, Stax, Sta, Shld}
use Rattle.sp_isa.specs.Locations.{writes}
use Rattle.sp_prog.specs.declared.routine.Routine.{Routine}
use Rattle.sp_prog.specs.declared.routine.Stmt.{Stmt}
use Rattle.sp_prog.specs.Program.{Program}
use Rattle.sp_term.specs.declared.var.Var.{Var}
use Rattle.sp_term.specs.declared.var.Var.TheVariants as var
use Rattle.sp_term.specs.Tree.{Tree, Variable}
use Rattle.sp_trans.specs.Symbolic.{Word, Symbolic}
use Rattle.sp_cond.specs.Calls.{callee_of}

-- what the conditions of a routine are made from: its unit, the routine, and the depths of its instructions
pub record Setting : Type 0 where
  pub unit : Program
  pub routine : Routine
  pub depths : List ℕ

-- ---- what a routine may change

-- a routine that is called lists the location in `changes`
abbrev pub callee_sets : Loc → Option Routine → Bool
callee_sets x None = false
callee_sets x (Some callee) = has x callee.changes.locs

-- some instruction of the routine sets the location, or a routine that it calls lists it
abbrev pub is_set : Setting → Loc → Bool
is_set u x = list_any (λ (s : Stmt). has x (writes s.instr) || callee_sets x (callee_of u.unit.routines s.instr)) u.routine.code

-- an instruction that writes M, or STAX, STA or SHLD
abbrev pub is_store : Instr → Bool
is_store (Mov arg.M from) = true
is_store (Mvi arg.M n) = true
is_store (Inr arg.M) = true
is_store (Dcr arg.M) = true
is_store (Stax p) = true
is_store (Sta w) = true
is_store (Shld w) = true
is_store _ = false

abbrev pub has_some : List ℕ → Bool
has_some [] = false
has_some (place ∷ places) = true

-- a routine that is called lists an area in `changes`
abbrev pub callee_stores : Option Routine → Bool
callee_stores None = false
callee_stores (Some callee) = has_some callee.changes.areas

-- the routine has a store, or a routine that it calls lists an area
abbrev pub has_store : Setting → Bool
has_store u = list_any (λ (s : Stmt). is_store s.instr || callee_stores (callee_of u.unit.routines s.instr)) u.routine.code

-- ---- states of variables

-- a location that may have changed has a variable of its own at the walk's start, any other has that of the entry
abbrev pub start_var : Bool → Loc → Var
start_var true x = var.Now x
start_var false x = var.Entry x

abbrev pub start_memory : Bool → Var
start_memory true = var.Mem
start_memory false = var.MemEntry

-- the state in which the locations that pass a test, and memory where a truth value says so, have variables of their own
abbrev pub state_with : (Loc → Bool) → Bool → List Word → Symbolic
state_with fresh stored slots = record {
  a = Variable (start_var (fresh loc.A) loc.A);
  b = Variable (start_var (fresh loc.B) loc.B);
  c = Variable (start_var (fresh loc.C) loc.C);
  d = Variable (start_var (fresh loc.D) loc.D);
  e = Variable (start_var (fresh loc.E) loc.E);
  h = Variable (start_var (fresh loc.H) loc.H);
  l = Variable (start_var (fresh loc.L) loc.L);
  s = Variable (start_var (fresh loc.S) loc.S);
  z = Variable (start_var (fresh loc.Z) loc.Z);
  ac = Variable (start_var (fresh loc.Ac) loc.Ac);
  p = Variable (start_var (fresh loc.P) loc.P);
  cy = Variable (start_var (fresh loc.Cy) loc.Cy);
  memory = Variable (start_memory stored);
  slots = slots;
}

-- the state at a routine's entry: all entry variables, and no word on the stack
abbrev pub entry_state : Symbolic
entry_state = state_with (λ x. false) false []

-- the words on the stack at a walk's start, the newest first: the k-th has the variables of its two bytes
unfoldable pub fresh_words : ℕ → List Word
fresh_words zero = []
fresh_words (suc k) = record { high = Variable (var.SlotHigh (suc k)); low = Variable (var.SlotLow (suc k)) } ∷ fresh_words k

-- The state at a walk's start. From an assertion, what the routine sets or stores is fresh, and so are the words on the
-- stack, two bytes of its depth each.
abbrev pub start_state : Setting → Option ℕ → Symbolic
start_state u None = entry_state
start_state u (Some at) = state_with (is_set u) (has_store u) (fresh_words (slice_index u.depths at / 2))
