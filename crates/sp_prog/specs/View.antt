-- The program that a unit stands for, in the words of the definitions of runs.
use Rattle.std.specs.Prelude.{ℕ, List, [], ◌∷◌, map, filter, slice_get}
use Rattle.std.specs.List.{filter_map}
use Rattle.sp_base.specs.declared.location.Loc.{Loc}
use Rattle.sp_base.specs.declared.location.Loc.TheVariants as loc
use Rattle.sp_base.specs.declared.locs.Locs.{Locs}
use Rattle.sp_base.specs.Locs.{has}
use Rattle.sp_logic.specs.View.{note_of}
use Rattle.sp_model.specs.Note as model
use Rattle.sp_model.specs.Unit as runs
use Rattle.sp_prog.specs.declared.area.Area.{Area}
use Rattle.sp_prog.specs.declared.routine.Lists.{Lists}
use Rattle.sp_prog.specs.declared.routine.Noted.{Noted}
use Rattle.sp_prog.specs.declared.routine.Routine.{Routine}
use Rattle.sp_prog.specs.declared.routine.Stmt.{Stmt}
use Rattle.sp_prog.specs.Program.{Program}
use Rattle.sp_prog.specs.Rules.{address_of}

-- the locations, in their order
abbrev pub all_locs : List Loc
all_locs = loc.A ∷ loc.B ∷ loc.C ∷ loc.D ∷ loc.E ∷ loc.H ∷ loc.L ∷ loc.S ∷ loc.Z ∷ loc.Ac ∷ loc.P ∷ loc.Cy ∷ []

-- those of a set
abbrev pub locs_of : Locs → List Loc
locs_of locs = filter (λ x. has x locs) all_locs

abbrev pub area_of : Area → runs.Area
area_of area = record { name = area.name; address = area.addr; len = area.len }

-- the areas that are listed, by their places among all
abbrev pub listed_areas : List Area → List ℕ → List Area
listed_areas areas = filter_map (slice_get areas)

abbrev pub listed_of : List Area → Lists → runs.Listed
listed_of areas lists = record { locs = locs_of lists.locs; areas = map area_of (listed_areas areas lists.areas) }

abbrev pub notes_of : List Noted → List model.Note
notes_of = map (λ n. note_of n.note)

abbrev pub stmt_of : Stmt → runs.Stmt
stmt_of s = record { address = s.addr; instr = s.instr; asserts = notes_of s.asserts }

abbrev pub routine_of : List Area → Routine → runs.Routine
routine_of areas r = record {
  name = r.name;
  address = address_of r;
  start = r.start;
  pre = notes_of r.pre;
  post = notes_of r.post;
  reads = listed_of areas r.reads;
  changes = listed_of areas r.changes;
  ins = r.ins;
  outs = r.outs;
  depth = r.depth;
  code = map stmt_of r.code;
}

abbrev pub unit_of : Program → runs.Unit
unit_of p = record {
  image = p.image;
  first = p.first;
  last = p.last;
  areas = map area_of p.areas;
  routines = map (routine_of p.areas) p.routines;
}
