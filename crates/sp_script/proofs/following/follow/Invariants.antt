use Rattle.std.proofs.Common.{take}
use Rattle.sp_script_meaning.specs.Checking.{Leads}
use Rattle.sp_script.proofs.following.follow.Given as goal

abbrev pub invariant-loop-written : goal.invariant-loop-written
invariant-loop-written l = Leads l.place.image.now (take l.written-index l.steps) l.fn.goals l.goals
