-- Where no rule is broken, no routine has a cycle without an assertion.
use Rattle.std.proofs.Common.{◌<◌, ℕ, length}
use Rattle.sp_graph.specs.Cycles.{HasNoCycle}
use Rattle.sp_graph.specs.Routines.{graph_of}
use Rattle.sp_graph.specs.Structure.{IsStructured}
use Rattle.sp_prog.specs.Program.{Program}
use Rattle.sp_struct.proofs.NaturalLemmas.{at_place}
use Rattle.sp_struct.proofs.StructuredLemmas.{loops_cut}

pub cut_at : (p : Program) → IsStructured p → (r : ℕ) → r < length p.routines → HasNoCycle (graph_of p r)
cut_at p good r l = let found = at_place p.routines r l in loops_cut p r found.0 good found.1
