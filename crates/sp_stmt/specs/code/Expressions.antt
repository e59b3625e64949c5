-- Expressions as operands.
use Rattle.std.specs.Prelude.{ℕ, if◌then◌else◌, List, [], Option, Some, None, Result, Ok, Err}
use Rattle.sp_lex.specs.declared.token.Token.{Token}
use Rattle.sp_expr.specs.declared.refusal.ParseRefusal.{ParseRefusal}
use Rattle.sp_expr.specs.declared.refusal.ParseRefusal.TheVariants.{Syntax, TooDeep}
use Rattle.sp_expr.specs.declared.word.Word.{Word}
use Rattle.sp_expr.specs.code.Nesting.{nest, nests, nests_within}
use Rattle.sp_expr.specs.code.Sentence.{is_sentence}
use Rattle.sp_expr.specs.Words.{words_of}
use Rattle.sp_words.specs.declared.mnemonic.ExpressionKind.{ExpressionKind}
use Rattle.sp_words.specs.declared.mnemonic.ExpressionKind.TheVariants as kind
use Rattle.sp_stmt.specs.declared.operand.Operand.{Operand}
use Rattle.sp_stmt.specs.Operands.{used_as}

-- the words of an expression: Syntax where they are none, and else TooDeep where more than 64 constructs are nested
abbrev pub checked_words : Option (List Word) → Result (List Word) ParseRefusal
checked_words None = Err Syntax
checked_words (Some ws) =
    if is_sentence ws then (if nests_within (nests (nest 0 0) []) ws then Ok ws else Err TooDeep) else Err Syntax

unfoldable pub expression_of : List ℕ → List Token → Result (List Word) ParseRefusal
expression_of source tokens = checked_words (words_of source tokens)

abbrev pub operand_from : ExpressionKind → Result (List Word) ParseRefusal → Result Operand ParseRefusal
operand_from kind (Ok ws) = Ok (used_as kind ws)
operand_from kind (Err refusal) = Err refusal

-- the operand that an expression of all these tokens is
unfoldable pub operand_of : ExpressionKind → List ℕ → List Token → Result Operand ParseRefusal
operand_of kind source tokens = operand_from kind (expression_of source tokens)
