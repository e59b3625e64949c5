use Rattle.std.proofs.Common.{◌≡◌, drop}
use Rattle.std.specs.Prelude.{◌||◌}
use Rattle.std.specs.List.{list_any}
use Rattle.sp_base.specs.declared.location.Loc.{Loc}
use Rattle.sp_base.specs.Locs.{has}
use Rattle.sp_prog.specs.declared.routine.Stmt.{Stmt}
use Rattle.sp_conditions.specs.code.Places.{sets_at}
use Rattle.sp_conditions.proofs.start.set_in.Given as goal

abbrev pub invariant-code : goal.invariant-code
invariant-code l = (x : Loc) →
    (has x l.set || list_any (λ (s : Stmt). sets_at l.u.unit.now.routines x s.instr) (drop l.stmt-index l.code))
    ≡ list_any (λ (s : Stmt). sets_at l.u.unit.now.routines x s.instr) l.code
