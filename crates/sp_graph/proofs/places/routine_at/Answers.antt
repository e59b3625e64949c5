use Rattle.std.proofs.Common.{rules}
use Rattle.std.proofs.lemmas.List.Sorted.{answers_always}
use Rattle.sp_prog.specs.Rules.{address_of}
use Rattle.sp_graph.proofs.LayoutLemmas.{routines_rise}
use Rattle.sp_graph.proofs.PlaceLemmas.{found, missed}
use Rattle.sp_graph.proofs.places.routine_at.Goals as goal

pub returns-in-Ok : goal.returns-in-Ok
returns-in-Ok c =
    found address_of c.args.address c.args.routines.now c.in-Ok.place c.in-Ok.ensures.bound
    (routines_rise c.args.routines.now c.requires)
    (c.in-Ok.ensures.position address_of (answers_always _ _ _ (λ f a r g called. search rules)))

pub returns-in-Err : goal.returns-in-Err
returns-in-Err c =
    missed address_of c.args.address c.args.routines.now c.in-Err.field-0
    (routines_rise c.args.routines.now c.requires)
    (c.in-Err.ensures.position address_of (answers_always _ _ _ (λ f a r g called. search rules)))
