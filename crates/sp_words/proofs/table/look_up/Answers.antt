use Rattle.std.proofs.Common.{rules}
use Rattle.std.proofs.lemmas.List.Sorted.{answers_always}
use Rattle.sp_words.proofs.TableLemmas.{found_at, gap}
use Rattle.sp_words.proofs.table.look_up.Goals as goal

pub returns-in-Ok : goal.returns-in-Ok
returns-in-Ok g c =
    let equal = c.in-Ok.ensures.position (λ row. row.0) (answers_always _ _ _ (λ f a r g called. search rules)) in
    found_at (λ k. k.now) c.args.word.now c.args.table.now c.requires c.in-Ok.place _ c.in-Ok.ensures.bound (equal _)

pub returns-in-Err : goal.returns-in-Err
returns-in-Err g c =
    let parted = c.in-Err.ensures.position (λ row. row.0) (answers_always _ _ _ (λ f a r g called. search rules)) in
    gap (λ k. k.now) c.args.word.now c.args.table.now c.requires c.in-Err.field-0 c.in-Err.ensures.bound parted
