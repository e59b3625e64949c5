use Rattle.std.proofs.Common.{◌+◌, drop, sym, ap, ◌∙◌}
use Rattle.sp_lex.specs.declared.token.Token.{Token}
use Rattle.sp_lex.specs.declared.token.TokenKind.TheVariants as tokens
use Rattle.sp_note.specs.Words.{words_of}
use Rattle.sp_note.proofs.WordLemmas.{after, after-more, after-not, after-all}
use Rattle.sp_note.proofs.tokens.words_of.Goals as goal

abbrev blank : Token
blank = record { kind = tokens.Name; start = 0; end = 0 }

pub returns-in_default : goal.returns-in_default
returns-in_default c =
    let found = rw c.text_of-text.ensures at c.word_of.ensures in
    sym c.loop-token.invariant ∙ after-not c.args.source.now c.args.tokens.now c.loop-token.token-index blank c.loop-token.words.items c.loop-token-test.true (sym c.in_default.is ∙ found)

pub loop-token-preserved : goal.loop-token-preserved
loop-token-preserved c =
    let found = rw c.text_of-text.ensures at c.word_of.ensures in
    ap (λ ws. after ws (words_of c.args.source.now (drop (c.loop-token.token-index + 1) c.args.tokens.now))) c.in_ok-push.ensures.items
    ∙ after-more c.args.source.now c.args.tokens.now c.loop-token.token-index blank c.loop-token.words.items c.in-Some.word c.loop-token-test.true (sym c.in-Some.is ∙ found)
    ∙ c.loop-token.invariant

pub returns : goal.returns
returns c = sym c.loop-token.invariant ∙ after-all c.args.source.now c.args.tokens.now c.loop-token.token-index c.loop-token.words.items c.loop-token-test.false
