use Rattle.std.proofs.Common.{◌∙◌, ap, map}
use Rattle.std.specs.Prelude.{reverse}
use Rattle.sp_trans.specs.View.{word_of}
use Rattle.sp_cond.specs.Start.{fresh_words}
use Rattle.sp_conditions.proofs.StateLemmas.{word_more}
use Rattle.sp_conditions.proofs.start.fresh_words.Goals as goal

pub words-init : goal.words-init
unfolding fresh_words
words-init c = ap (λ ws. reverse (map word_of ws)) c.new-words.ensures.items

pub words-preserved : goal.words-preserved
words-preserved c =
    ap (λ ws. reverse (map word_of ws)) c.in_ok-push.ensures.items
    ∙ word_more c.words.words.items c.in_ok-word.word c.words.k c.words.invariant c.in_ok-word.ensures
