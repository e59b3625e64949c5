use Rattle.std.proofs.Common.{drop, refl, arith, rules}
use Rattle.sp_hex.proofs.LoopLaws.{split_lines, empty_on, empty_stop, empty_end}
use Rattle.sp_hex.proofs.reading.only_empty.Goals as goal

pub returns-then-not-is_empty : goal.returns-then-not-is_empty
returns-then-not-is_empty c =
    let split = split_lines c.loop-rest.rest.now c.line-line.result.now (drop c.size-size.result c.loop-rest.rest.now) _ _ c.first_row-row.ensures.rows c.line-line.ensures c.size-size.ensures refl in
    empty_stop c.loop-rest.number c.loop-rest.rest.now _ _ _ split c.loop-rest.invariant.so_far (search rules)

pub loop-rest-preserved : goal.loop-rest-preserved
loop-rest-preserved c =
    let split = split_lines c.loop-rest.rest.now c.line-line.result.now c.split_at.result.1.now _ _ c.first_row-row.ensures.rows c.line-line.ensures c.size-size.ensures c.split_at.ensures.back in
    record {
      counted = omega (arith, c.first_row-row.ensures.some, c.size-size.ensures, c.split_at.ensures.back_len);
      so_far = empty_on c.loop-rest.number c.loop-rest.rest.now _ _ _ split c.loop-rest.invariant.so_far (search rules);
    }

pub returns : goal.returns
returns c = empty_end c.loop-rest.number c.loop-rest.rest.now _ (search rules) c.loop-rest.invariant.so_far
