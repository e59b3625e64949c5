use Rattle.std.proofs.Common.{suc, ◌-◌, ◌≡◌, ◌∙◌, ap, sym, arith}
use Rattle.std.specs.Prelude.{reverse, map}
use Rattle.sp_trans.specs.Formulas.{stack_term}
use Rattle.sp_trans.specs.View.{word_of}
use Rattle.sp_trans.proofs.WordLemmas.{stack_term_is}
use Rattle.sp_trans.proofs.formulas.stack_word.Goals as goal

pub returns : goal.returns
returns c =
    let place : c.from.result ≡ c.args.k = c.from.ensures in
    let number : suc (c.from.result - 1) ≡ c.args.k = omega (arith, place, c.requires.some) in
    let word = stack_term_is (c.from.result - 1) c.args.g.slots.now c.index-g-from.result c.index-g-from-2.result (omega (arith, place, c.requires.some, c.requires.within))
    ∙ ap (λ k. stack_term k (reverse (map word_of c.args.g.slots.now))) number in
    rw (sym word) c.joined.ensures
