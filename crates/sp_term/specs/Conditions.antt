-- The condition that nodes of an arena stand for.
use Rattle.std.specs.Prelude.{List, map}
use Rattle.std.specs.Borrow.{Bor}
use Rattle.sp_term.specs.declared.cond.Cond.{Cond}
use Rattle.sp_term.specs.declared.cond.MemFrame.{MemFrame}
use Rattle.sp_term.specs.Tree.{Tree}
use Rattle.sp_term.specs.Admissible.{Change, Condition}

abbrev pub trees : List (Bor Tree) → List Tree
trees ts = map (λ t. t.now) ts

abbrev pub change_of : MemFrame → Change
change_of frame = record { variable = frame.variable; earlier = frame.earlier.now; areas = frame.areas.now }

abbrev pub condition_of : Cond → Condition
condition_of c = record { hypotheses = trees c.hyps.now; goals = trees c.goals.now; changes = map change_of c.frames.now }
