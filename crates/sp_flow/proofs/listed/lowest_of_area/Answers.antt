use Rattle.std.proofs.Common.{rules, ◌≡◌, arith}
use Rattle.sp_flow.proofs.listed.lowest_of_area.Goals as goal

pub returns-in-Some : goal.returns-in-Some
returns-in-Some c =
    let start : c.from-first.result ≡ c.args.addr = search rules in
    let size : c.from.result ≡ c.args.len = search rules in
    let m = c.in-Some.ensures in
    let low = m.0 in
    let high = m.1 in
    (omega (arith, start, low), omega (arith, start, size, high), m.2, λ d l q. m.3 d (omega (arith, start, l)) q)

pub returns-in-None : goal.returns-in-None
returns-in-None c d l q =
    let start : c.from-first.result ≡ c.args.addr = search rules in
    let size : c.from.result ≡ c.args.len = search rules in
    c.in-None.ensures d (omega (arith, start, l)) (omega (arith, start, size, q))
