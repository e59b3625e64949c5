use Rattle.std.proofs.Common.{refl}
use Rattle.sp_prog.specs.declared.routine.Stmt.{Stmt}
use Rattle.sp_unit.proofs.CodedLemmas.{with_instruction}
use Rattle.sp_unit.proofs.statements.with_instr.Goals as goal

pub returns : goal.returns
returns c s above is h =
    let stmt : Stmt = record { line = c.args.item.now.line; addr = c.args.item.now.addr; instr = c.args.instr; asserts = c.from_vec.result } in
    with_instruction s above c.args.item.now c.args.instr c.args.coding _ stmt h is refl refl refl c.from_vec.ensures c.in_ok-push.ensures.items c.new.ensures.items
