use Rattle.std.proofs.Common.{subst}
use Rattle.sp_script_text.specs.Tables.{IsFound}
use Rattle.sp_script_text.proofs.TableLemmas.{found_script}
use Rattle.sp_script_text.proofs.script.Scripts.find.Goals as goal

pub returns-in-Some-clause-found : goal.returns-in-Some-clause-found
returns-in-Some-clause-found c =
    subst (λ ss. IsFound ss c.args.name c.args.number c.index.result.now) c.self.view_is
    (found_script c.self.inside.list.items c.self.inside.titles.keys c.self.invariant c.args.name c.args.number c.in-Some.i c.in-Some.ensures.index c.index.result.now c.index.ensures)
