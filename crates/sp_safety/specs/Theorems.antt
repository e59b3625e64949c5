-- What holds of all runs of a unit.
use Rattle.std.specs.Prelude.{ℕ, ◌<◌, Contains}
use Rattle.sp_model.specs.Unit.{Routine, Unit}
use Rattle.sp_graph.specs.declared.sound.Sound.{Sound}
use Rattle.sp_prog.specs.Laws.{HasCode}
use Rattle.sp_prog.specs.Program.{Program}
use Rattle.sp_prog.specs.View.{unit_of}
use Rattle.sp_safety.specs.Calls.{IsRightInOwnCode}
use Rattle.sp_safety.specs.Contained.{CallsTo, IsSafe}
use Rattle.sp_safety.specs.Settled.{IsSettled}

-- routines have numbers that fall along calls
abbrev pub HasRanks : Unit → (Routine → ℕ) → Type 0
HasRanks u rank = (r q : Routine) → Contains u.routines r → CallsTo u r q → rank q < rank r

-- Where calls lead to lower ranks, and each routine's own code is right with its calls as whole steps, all runs are good,
-- and contained.
abbrev pub RunsAreSafe : Type 0
RunsAreSafe =
    (u : Unit) (rank : Routine → ℕ) → HasCode u → HasRanks u rank → ((r : Routine) → Contains u.routines r → IsRightInOwnCode u r) → IsSafe u

-- Of a settled unit all runs are good, and contained.
abbrev pub SettledUnitsAreSafe : Type 0
SettledUnitsAreSafe = (p : Program) (sound : Sound) → IsSettled p sound → IsSafe (unit_of p)
