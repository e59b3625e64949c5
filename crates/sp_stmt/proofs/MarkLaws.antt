-- Marks and directives among tokens: which tokens divide operands, and which stand in none.
use Rattle.std.proofs.Common.{◌≡◌, ℕ, true, false, cond, List, [], ◌∷◌, Option, Some, None, length, refl, sym, ap, ◌∙◌, inl, inr}
use Rattle.std.specs.Prelude.{nat_eq, nat_le, codes}
use Rattle.std.specs.Cmp.Lexicographic.{pointwise, same_text}
use Rattle.std.proofs.lemmas.Bool.{cases_Bool}
use Rattle.sp_lex.specs.declared.token.Token.{Token}
use Rattle.sp_lex.specs.declared.token.TokenKind.{TokenKind}
use Rattle.sp_lex.specs.declared.token.TokenKind.TheVariants as tokens
use Rattle.sp_lex.specs.Names.{folded}
use Rattle.sp_expr.specs.declared.word.Word.{Word}
use Rattle.sp_expr.specs.Words.{name_word, symbol_word, word_of, words_of, with_word, text_of}
use Rattle.sp_words.specs.code.Tables.{is_reserved, operator_named, mnemonic_named, arg_named, pair_named, stack_pair_named}
use Rattle.sp_stmt.specs.Tokens.{is_mark, is_comma, is_colon, name_in, name_at, arg_at, pair_at, stack_pair_at}

-- a comma is no word of an expression
mark_no_word : (kind : TokenKind) (text : List ℕ) (word : Word) → word_of kind text ≡ Some word → is_mark (codes ",") kind text ≡ false
unfolding word_of symbol_word
mark_no_word tokens.Name text word e = refl
mark_no_word tokens.Number text word e = refl
mark_no_word tokens.Text text word e = refl
mark_no_word tokens.Symbol text word e =
    elim (cases_Bool (pointwise nat_eq text (codes ","))) [
      | inl holds ↦ (let same = ap symbol_word (same_text text (codes ",") (sym holds)) in absurd cc)
      | inr fails ↦ fails
    ]

-- tokens without a comma
abbrev pub NoComma : List ℕ → List Token → Type 0
NoComma source [] = Unit {0}
NoComma source (token ∷ tokens) = (is_comma source token ≡ false) × NoComma source tokens

with_both : (word : Option Word) (rest : Option (List Word)) (ws : List Word) → with_word word rest ≡ Some ws → (first : Word) × (others : List Word) × (word ≡ Some first) × (rest ≡ Some others)
with_both None rest ws e = absurd cc
with_both (Some word) None ws e = absurd cc
with_both (Some word) (Some rest) ws e = (word, rest, refl, refl)

pub words_no_comma : (source : List ℕ) (tokens : List Token) (ws : List Word) → words_of source tokens ≡ Some ws → NoComma source tokens
unfolding words_of is_comma
words_no_comma source [] ws e = tt
words_no_comma source (token ∷ tokens) ws e =
    let parts = with_both (word_of token.kind (text_of source token)) (words_of source tokens) ws e in (mark_no_word token.kind (text_of source token) parts.0 parts.2, words_no_comma source tokens parts.1 parts.3)

pub text_no_comma : (source : List ℕ) (token : Token) → token.kind ≡ tokens.Text → is_comma source token ≡ false
unfolding is_comma
text_no_comma source token e = ap (λ k. is_mark (codes ",") k (text_of source token)) e

-- a token that stands in no operand
pub record StandsInNone (source : List ℕ) (token : Token) : Type 0 where
  pub no_word : word_of token.kind (text_of source token) ≡ None
  pub no_arg : arg_at source token ≡ None
  pub no_pair : pair_at source token ≡ None
  pub no_stack_pair : stack_pair_at source token ≡ None
  pub no_comma : is_comma source token ≡ false
  pub no_text : ¬ (token.kind ≡ tokens.Text)

colon_symbol : (kind : TokenKind) (text : List ℕ) → is_mark (codes ":") kind text ≡ true → (kind ≡ tokens.Symbol) × (text ≡ codes ":")
colon_symbol tokens.Name text e = absurd cc
colon_symbol tokens.Number text e = absurd cc
colon_symbol tokens.Text text e = absurd cc
colon_symbol tokens.Symbol text e = (refl, same_text text (codes ":") (sym e))

-- a colon is no name
pub colon_no_name : (source : List ℕ) (token : Token) → is_colon source token ≡ true → name_at source token ≡ None
unfolding is_colon name_at
colon_no_name source token e = ap (λ k. name_in k (text_of source token)) (colon_symbol token.kind (text_of source token) e).0

pub colon_in_none : (source : List ℕ) (token : Token) → is_colon source token ≡ true → StandsInNone source token
unfolding is_colon is_comma name_at arg_at pair_at stack_pair_at word_of symbol_word
colon_in_none source token e =
    let is = colon_symbol token.kind (text_of source token) e in
    let no_name : name_in token.kind (text_of source token) ≡ None = ap (λ k. name_in k (text_of source token)) is.0 in
    record {
      no_word = ap (λ k. word_of k (text_of source token)) is.0 ∙ ap symbol_word is.1;
      no_arg = rw no_name refl;
      no_pair = rw no_name refl;
      no_stack_pair = rw no_name refl;
      no_comma = ap (λ k. is_mark (codes ",") k (text_of source token)) is.0 ∙ ap (is_mark (codes ",") tokens.Symbol) is.1;
      no_text = λ t. absurd (let kind = is.0 in cc);
    }

-- a name is a name, and is short enough
named : (kind : TokenKind) (text name : List ℕ) → name_in kind text ≡ Some name → (kind ≡ tokens.Name) × (nat_le (length text) 31 ≡ true) × (folded text ≡ name)
named tokens.Name text name e =
    elim (cases_Bool (nat_le (length text) 31)) [
      | inl holds ↦ (let short = ap (λ b. cond b (Some (folded text)) None) holds in (refl, holds, cc))
      | inr fails ↦ (let long = ap (λ b. cond b (Some (folded text)) None) fails in absurd cc)
    ]
named tokens.Number text name e = absurd cc
named tokens.Text text name e = absurd cc
named tokens.Symbol text name e = absurd cc

-- a name that is no word of an expression and no operand stands in none
pub name_in_none : (source : List ℕ) (token : Token) (name : List ℕ) → name_at source token ≡ Some name → name_word name ≡ None → arg_named name ≡ None → pair_named name ≡ None → stack_pair_named name ≡ None → StandsInNone source token
unfolding is_comma name_at arg_at pair_at stack_pair_at word_of
name_in_none source token name e word arg pair stack =
    let is = named token.kind (text_of source token) name e in
    record {
      no_word = ap (λ k. word_of k (text_of source token)) is.0 ∙ ap (λ b. cond b (name_word (folded (text_of source token))) None) is.1 ∙ ap name_word is.2 ∙ word;
      no_arg = rw e arg;
      no_pair = rw e pair;
      no_stack_pair = rw e stack;
      no_comma = ap (λ k. is_mark (codes ",") k (text_of source token)) is.0;
      no_text = λ t. absurd (let kind = is.0 in cc);
    }

pub equ_in_none : (source : List ℕ) (token : Token) → name_at source token ≡ Some (codes "EQU") → StandsInNone source token
unfolding operator_named is_reserved mnemonic_named arg_named pair_named stack_pair_named
equ_in_none source token e = name_in_none source token (codes "EQU") e refl refl refl refl

pub set_in_none : (source : List ℕ) (token : Token) → name_at source token ≡ Some (codes "SET") → StandsInNone source token
unfolding operator_named is_reserved mnemonic_named arg_named pair_named stack_pair_named
set_in_none source token e = name_in_none source token (codes "SET") e refl refl refl refl
