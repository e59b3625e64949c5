use Rattle.std.proofs.Common.{◌≡◌, ap, subst, sym, false, rules}
use Rattle.sp_prog.specs.Program.{Program}
use Rattle.sp_prog.specs.Rules.{address_of}
use Rattle.sp_trial.specs.code.Entering.{HasRoom, IsLoaded}
use Rattle.sp_trial.proofs.entry.may_enter.Goals as goal

pub returns-clause-begins : goal.returns-clause-begins
returns-clause-begins c =
    let same = ap (λ (p : Program). p.image) c.unit.view_is in
    let begins : c.args.machine.now.pc ≡ address_of c.args.routine.now = search rules in
    let running : c.args.machine.now.halted ≡ false = search rules in
    let room : c.args.routine.now.start ≡ false → HasRoom c.args.unit.now c.args.routine.now.depth c.args.machine.now.sp = search rules in (
      (λ ok. record {
        loaded = subst (λ image. IsLoaded image c.args.machine.now) same (c.is_loaded.ensures.0 ok);
        begins = begins;
        running = running;
        room = room;
      }),
      (λ b. c.is_loaded.ensures.1 (subst (λ image. IsLoaded image c.args.machine.now) (sym same) b.loaded)),
    )
