use Rattle.std.proofs.Common.{rules, ◌≡◌, arith}
use Rattle.sp_flow.proofs.direct.is_free.Goals as goal

pub returns-in-Some : goal.returns-in-Some
returns-in-Some c =
    let same : c.from.result ≡ c.args.cell = search rules in
    let more = c.in-Some.ensures in
    let high = more.0 in
    more.1 c.args.cell (omega (arith, same)) (omega (arith, same, high))
