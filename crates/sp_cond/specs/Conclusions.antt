-- What a walk has to show, by its end (this project's own).
use Rattle.std.specs.Prelude.{ℕ, ◌+◌, ◌-◌, nat_eq, Bool, true, false, not, List, [], ◌∷◌, ◌++◌, map, Option, None, Some, slice_get, if◌then◌else◌}
use Rattle.std.specs.List.{filter, list_any}
use Rattle.sp_base.specs.declared.location.Loc.{Loc}
use Rattle.sp_base.specs.declared.pair.Pair.TheVariants as pair
use Rattle.sp_base.specs.Locs.{has}
use Rattle.sp_graph.specs.declared.graph.End.{End}
use Rattle.sp_graph.specs.declared.graph.End.TheVariants as end
use Rattle.sp_isa.specs.declared.instr.Instr.{Instr}
use Rattle.sp_isa.specs.declared.instr.Instr.TheVariants.{Stax, Ldax}
use Rattle.sp_prog.specs.declared.area.Area.{Area}
use Rattle.sp_prog.specs.declared.routine.Lists.{Lists}
use Rattle.sp_prog.specs.declared.routine.Noted.{Noted}
use Rattle.sp_prog.specs.declared.routine.Routine.{Routine}
use Rattle.sp_prog.specs.declared.routine.Stmt.{Stmt}
use Rattle.sp_prog.specs.View.{all_locs, listed_areas}
use Rattle.sp_term.specs.declared.var.Var.TheVariants as var
use Rattle.sp_term.specs.Tree.{Tree, Truth, Variable, Equal, LessOrEqual, And, Or}
use Rattle.sp_trans.specs.Symbolic.{Symbolic, term_at, number, pair_term}
use Rattle.sp_cond.specs.Calls.{callee_of}
use Rattle.sp_cond.specs.Start.{Setting, entry_state, is_store}
use Rattle.sp_cond.specs.Execution.{formulas_of}

-- ---- access

-- the address of the cell that an instruction accesses: that in a pair of STAX and LDAX, else that of M
abbrev pub accessed : Instr → Symbolic → Tree
accessed (Stax p) g = pair_term p g
accessed (Ldax p) g = pair_term p g
accessed _ g = pair_term pair.H g

-- the areas that may be read: those of `reads`, then those of `changes` that aren't among them
abbrev pub readable : Lists → Lists → List ℕ
readable reads changes = reads.areas ++ filter (λ place. not (list_any (nat_eq place) reads.areas)) changes.areas

-- the areas that an access may touch: an instruction that writes the cell writes it
abbrev pub permitted : Routine → Instr → List ℕ
permitted r i = if is_store i then r.changes.areas else readable r.reads r.changes

abbrev pub in_area : Tree → Area → Tree
in_area t area = And (LessOrEqual (number area.addr) t) (LessOrEqual t (number (area.addr + area.len - 1)))

-- in this area or in one of those after it
abbrev pub in_one : Tree → Area → List Area → Tree
in_one t area [] = in_area t area
in_one t area (next ∷ areas) = Or (in_area t area) (in_one t next areas)

-- in one of these areas, of which there may be none
abbrev pub in_areas : Tree → List Area → Tree
in_areas t [] = Truth false
in_areas t (area ∷ areas) = in_one t area areas

abbrev pub access_goals : Setting → Instr → Symbolic → List Tree
access_goals u i g = in_areas (accessed i g) (listed_areas u.unit.areas (permitted u.routine i)) ∷ []

-- ---- calls, assertions and returns

abbrev pub pre_of : Option Routine → List Noted
pre_of None = []
pre_of (Some callee) = callee.pre

-- the state before a call is the callee's entry
abbrev pub call_goals : Setting → Instr → Symbolic → List Tree
call_goals u i g = formulas_of g g (pre_of (callee_of u.unit.routines i))

-- a location has what it had at the entry
abbrev pub unchanged : Symbolic → Loc → Tree
unchanged g x = Equal (term_at x g) (Variable (var.Entry x))

-- the locations that a routine doesn't list in `changes`
abbrev pub unlisted : Routine → List Loc
unlisted r = filter (λ x. not (has x r.changes.locs)) all_locs

abbrev pub return_goals : Setting → Symbolic → List Tree
return_goals u g = formulas_of entry_state g u.routine.post ++ map (unchanged g) (unlisted u.routine)

-- ---- by the end

abbrev pub goals : Setting → End → Stmt → Symbolic → List Tree
goals u end.Access s g = access_goals u s.instr g
goals u end.Call s g = call_goals u s.instr g
goals u end.Assert s g = formulas_of entry_state g s.asserts
goals u end.Return s g = return_goals u g

abbrev pub goals_at : Setting → End → Option Stmt → Symbolic → List Tree
goals_at u end None g = []
goals_at u end (Some s) g = goals u end s g
