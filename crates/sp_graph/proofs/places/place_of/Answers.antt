use Rattle.std.proofs.Common.{rules}
use Rattle.std.proofs.lemmas.List.Sorted.{answers_always}
use Rattle.sp_prog.specs.declared.routine.Stmt.{Stmt}
use Rattle.sp_prog.specs.Rules.{first_address}
use Rattle.sp_graph.proofs.LayoutLemmas.{code_rises}
use Rattle.sp_graph.proofs.PlaceLemmas.{found, missed}
use Rattle.sp_graph.proofs.places.place_of.Goals as goal

pub returns-in-Ok : goal.returns-in-Ok
returns-in-Ok c =
    found (λ (s : Stmt). s.addr) c.args.address c.args.code.now c.in-Ok.place c.in-Ok.ensures.bound
    (code_rises (first_address c.args.code.now) c.args.code.now c.requires)
    (c.in-Ok.ensures.position (λ (s : Stmt). s.addr) (answers_always _ _ _ (λ f a r g called. search rules)))

pub returns-in-Err : goal.returns-in-Err
returns-in-Err c =
    missed (λ (s : Stmt). s.addr) c.args.address c.args.code.now c.in-Err.field-0
    (code_rises (first_address c.args.code.now) c.args.code.now c.requires)
    (c.in-Err.ensures.position (λ (s : Stmt). s.addr) (answers_always _ _ _ (λ f a r g called. search rules)))
