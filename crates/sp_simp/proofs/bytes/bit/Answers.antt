use Rattle.std.proofs.Common.{◌≡◌, ◌^◌, ◌∙◌, sym, ap, arith, pos, of_z, to_z, w64}
use Rattle.std.specs.Int.Signed.{shr_z, mag_shr}
use Rattle.std.proofs.lemmas.Int.{to_z-of_z}
use Rattle.sp_base.specs.Integers.{quotient}
use Rattle.sp_term.specs.Value.{low_bit}
use Rattle.sp_simp.proofs.BitLemmas.{shifted}
use Rattle.sp_simp.proofs.bytes.bit.Goals as goal

pub returns : goal.returns
returns c =
    let x = c.args.x in
    let m = c.min.result in
    let inner : to_z w64 (of_z w64 x) ≡ x = to_z-of_z w64 x c.ranges.x in
    let cut : to_z w64 (of_z w64 (shr_z x (2 ^ m))) ≡ shr_z x (2 ^ m) = to_z-of_z w64 (shr_z x (2 ^ m)) (record { sfits = omega (arith, mag_shr x (2 ^ m), c.ranges.x.sfits) }) in
    let low : c.low_bit.result ≡ low_bit (quotient x (pos (2 ^ c.args.k))) =
    c.low_bit.ensures.is ∙ ap (λ z. low_bit (to_z w64 (of_z w64 (shr_z z (2 ^ m))))) inner ∙ ap low_bit cut
    ∙ ap (λ n. low_bit (shr_z x (2 ^ n))) c.min.ensures ∙ sym (ap low_bit (shifted x c.args.k c.ranges.x.sfits)) in
    to_z-of_z w64 c.from.result (record { sfits = c.from.type_inv }) ∙ c.from.ensures ∙ ap pos low
