use Rattle.std.proofs.Common.{◌≡◌, refl, w64, Some, ap, ◌∙◌, length, get_or, set, slice_get}
use Rattle.std.specs.Prelude.{pos, ◌+ℤ◌}
use Rattle.std.proofs.Common.{rules, FitsSigned}
use Rattle.std.proofs.lemmas.Int.{to_z-of_z}
use Rattle.std.proofs.lemmas.List.{get_or_read}
use Rattle.std.proofs.lemmas.Option.{slice_get_read}
use Rattle.sp_graph.specs.Depths.{effect}
use Rattle.sp_struct.proofs.stack.tell_next.Goals as goal

pub returns : goal.returns
returns c s e =
    let here : slice_get c.args.code.now c.args.from ≡ Some c.index-code-from.result =
    slice_get_read c.args.code.now (length c.args.code.now) c.args.from c.index-code-from.result refl c.requires.from c.index-code-from.is in
    let same : c.index-code-from.result ≡ s = cc (here, e) in
    let read : c.index.result.now ≡ get_or c.args.depths.now.items c.args.from (pos 0) =
    get_or_read c.args.depths.now.items c.args.from c.index.result.now (rw c.requires.size c.requires.from) c.index.ensures (pos 0) in
    let fits : FitsSigned w64 c.deeper.result = search rules in
    let fits_read : FitsSigned w64 c.index.result.now = search rules in
    let sum = c.deeper.ensures ∙ ap (λ v. v +ℤ effect c.index-code-from.result.instr) (to_z-of_z w64 c.index.result.now fits_read) in
    ap (λ v. set c.args.depths.now.items c.args.to v) (to_z-of_z w64 c.deeper.result fits ∙ rw (← same, ← read) sum)
