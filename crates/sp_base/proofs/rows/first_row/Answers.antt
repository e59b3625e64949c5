use Rattle.std.proofs.Common.{◌≡◌, true, false, suc, ◌+◌, ◌∷◌, length, drop, sym, ap, ◌∙◌, arith}
use Rattle.std.proofs.lemmas.List.{drop_all}
use Rattle.sp_base.specs.Lines.{row, rows_of}
use Rattle.sp_base.proofs.LineLemmas.{rows_of-unended, rows_of-ended, rows_of-none}
use Rattle.sp_base.proofs.rows.first_row.Goals as goal

pub returns-then-byte-eq-LINE_FEED-clause-rows : goal.returns-then-byte-eq-LINE_FEED-clause-rows
returns-then-byte-eq-LINE_FEED-clause-rows c =
    let n : suc c.loop-i.i ≡ length c.split_at.result.0.now + 1 = omega (arith, c.split_at.ensures.front_len) in
    rows_of-ended c.loop-i.i c.args.text.now c.loop-i-test.true c.loop-i.invariant c.if-byte-eq-LINE_FEED.true
    ∙ ap (λ bytes. row bytes true ∷ rows_of (drop (suc c.loop-i.i) c.args.text.now)) (sym c.split_at.ensures.front)
    ∙ ap (λ k. row c.split_at.result.0.now true ∷ rows_of (drop k c.args.text.now)) n

pub returns-clause-rows : goal.returns-clause-rows
returns-clause-rows c =
    rows_of-unended c.args.text.now c.requires (λ k lt. c.loop-i.invariant k (omega arith))
    ∙ ap (λ rows. row c.args.text.now false ∷ rows) (sym (rows_of-none (drop (length c.args.text.now) c.args.text.now) (drop_all _ c.args.text.now (omega arith))))
