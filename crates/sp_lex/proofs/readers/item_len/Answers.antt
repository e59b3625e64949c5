use Rattle.std.proofs.Common.{sym, ◌∙◌, arith}
use Rattle.sp_lex.specs.declared.token.Token.{Token}
use Rattle.sp_lex.specs.declared.token.TokenKind.TheVariants as tokens
use Rattle.sp_lex.proofs.ItemLemmas.{items_of-comma, items_of-whole}
use Rattle.sp_lex.proofs.readers.item_len.Goals as goal

abbrev blank : Token
blank = record { kind = tokens.Name; start = 0; end = 0 }

pub returns-then-is_symbol-clause-items : goal.returns-then-is_symbol-clause-items
returns-then-is_symbol-clause-items c =
    items_of-comma c.args.source.now c.loop-i.i c.args.tokens.now c.loop-i-test.true c.loop-i.invariant blank (sym c.is_symbol.ensures ∙ c.if-is_symbol.true)

pub returns-clause-items : goal.returns-clause-items
returns-clause-items c = items_of-whole c.args.source.now c.args.tokens.now (λ k d lt. c.loop-i.invariant k d (omega arith))
