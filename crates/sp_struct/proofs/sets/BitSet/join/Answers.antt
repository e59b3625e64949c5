use Rattle.std.proofs.Common.{◌≡◌, ◌≤◌, ap, arith, length}
use Rattle.sp_struct.proofs.BitLemmas.{joined_all}
use Rattle.sp_struct.proofs.sets.BitSet.join.Goals as goal

pub returns-clause-has : goal.returns-clause-has
returns-clause-has c i =
    let old = c.args.self.now in
    let as_many : length c.self.inside.words.items ≡ length old = ap length c.self.view_is in
    let past : length old ≤ c.words.place =
    let seen = c.len-place-end.ensures in let done = c.words-test.false in omega (arith, as_many, seen, done) in
    joined_all old c.args.other.now c.words.place c.words.self-inside.words.items c.words.invariant past c.requires i
