use Rattle.std.proofs.Common.{◌≡◌, ◌<◌, ◌/◌, length, get_or}
use Rattle.std.proofs.lemmas.List.{get_or_read}
use Rattle.sp_struct.proofs.BitLemmas.{put_has}
use Rattle.sp_struct.proofs.sets.BitSet.put.Goals as goal

pub returns-clause-has : goal.returns-clause-has
returns-clause-has c i =
    let words = c.self.inside.words.items in
    let n = c.args.number in
    let low : n / 64 < length words = rw c.self.view_is c.requires in
    let read : c.index_mut.result.now ≡ get_or words (n / 64) 0 = get_or_read words (n / 64) c.index_mut.result.now low c.index_mut.ensures.value 0 in
    rw read (rw c.self.view_is (put_has c.args.self.now n c.requires i))
