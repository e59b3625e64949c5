-- What holds of every statement.
use Rattle.std.proofs.Common.{◌≡◌, ℕ, suc, ◌+◌, ◌<◌, Bool, true, false, cond, List, [], ◌∷◌, Option, Some, None, Result, Ok, Err, length, refl, sym, subst, inl, inr, arith}
use Rattle.std.specs.Prelude.{nat_eq, ◌&&◌, All, IfOk, IfSome, is_some, is_none, ⊤}
use Rattle.std.specs.Cmp.Lexicographic.{pointwise}
use Rattle.std.specs.List.{list_all}
use Rattle.std.specs.Map.{lookup}
use Rattle.std.specs.Option.{option_map, option_and_then}
use Rattle.std.proofs.Common.{length-append}
use Rattle.std.proofs.lemmas.List.Elements.{All-nil, All-cons, All-append}
use Rattle.sp_lex.specs.declared.token.SourceLine.{SourceLine}
use Rattle.sp_lex.specs.declared.token.Token.{Token}
use Rattle.sp_lex.specs.Texts.{characters_of}
use Rattle.sp_expr.specs.declared.setting.Setting.TheVariants as setting
use Rattle.sp_expr.specs.declared.refusal.ParseRefusal.{ParseRefusal}
use Rattle.sp_expr.specs.declared.refusal.ParseRefusal.TheVariants.{Syntax, TooDeep}
use Rattle.sp_expr.specs.declared.word.Word.{Word}
use Rattle.sp_expr.specs.code.Nesting.{nest, nests, nests_within}
use Rattle.sp_expr.specs.code.Sentence.{is_sentence}
use Rattle.sp_expr.specs.Words.{words_of, text_of}
use Rattle.sp_expr.proofs.TreeLaws.{sentence_is_spelled}
use Rattle.sp_base.specs.declared.pair.Pair.{Pair}
use Rattle.sp_isa.specs.declared.instr.Arg.{Arg}
use Rattle.sp_isa.specs.declared.instr.StackPair.{StackPair}
use Rattle.sp_isa.specs.declared.instr.Instr.{Instr}
use Rattle.sp_isa.specs.declared.instr.Instr.TheVariants as instr
use Rattle.sp_isa.specs.Code.{valid}
use Rattle.sp_stmt.specs.declared.body.Body.{Body}
use Rattle.sp_words.specs.declared.mnemonic.Assignment.{Assignment}
use Rattle.sp_words.specs.declared.mnemonic.Assignment.TheVariants.{Equ, Set}
use Rattle.sp_words.specs.declared.mnemonic.DataKind.{DataKind}
use Rattle.sp_words.specs.declared.mnemonic.DataKind.TheVariants.{Bytes, Words}
use Rattle.sp_words.specs.declared.mnemonic.ExpressionKind.{ExpressionKind}
use Rattle.sp_words.specs.declared.mnemonic.ExpressionKind.TheVariants as kind
use Rattle.sp_words.specs.declared.mnemonic.Load.{Load}
use Rattle.sp_words.specs.declared.mnemonic.Load.TheVariants as load
use Rattle.sp_words.specs.declared.mnemonic.Mnemonic.{Mnemonic}
use Rattle.sp_words.specs.declared.mnemonic.Mnemonic.TheVariants as mnemonic
use Rattle.sp_words.specs.declared.mnemonic.TheConstants.{MNEMONICS}
use Rattle.sp_words.specs.declared.mnemonic.PairForm.{PairForm}
use Rattle.sp_words.specs.declared.mnemonic.PairForm.TheVariants.{Dad, Inx, Dcx, Stax, Ldax}
use Rattle.sp_words.specs.declared.mnemonic.RegisterForm.{RegisterForm}
use Rattle.sp_words.specs.declared.mnemonic.RegisterForm.TheVariants.{Inr, Dcr, Alu}
use Rattle.sp_words.specs.declared.mnemonic.StackForm.{StackForm}
use Rattle.sp_words.specs.declared.mnemonic.StackForm.TheVariants.{Push, Pop}
use Rattle.sp_stmt.specs.declared.operand.Operand.{Operand}
use Rattle.sp_stmt.specs.declared.statement.Code.{Code}
use Rattle.sp_stmt.specs.declared.statement.Code.TheVariants as code
use Rattle.sp_stmt.specs.declared.statement.Statement.{Statement}
use Rattle.sp_stmt.specs.code.Bodies.{body, with_register, with_pair, with_stack_pair, alone, moved, plain, with_operands, with_expression, loaded, kind_of, load_with, load_body, end_body, register_instr, pair_instr, stack_instr, move_instr, body_of}
use Rattle.sp_stmt.specs.code.Data.{in_front, text_operand, lone_text, byte_item, item_of, behind, one_operand, data_of, items_of}
use Rattle.sp_stmt.specs.Operands.{used_as}
use Rattle.sp_stmt.specs.code.Expressions.{checked_words, expression_of, operand_from, operand_of}
use Rattle.sp_words.specs.code.Tables.{mnemonic_named}
use Rattle.sp_stmt.specs.code.Reading.{Fault, with_first, then_statements, is_statement, statements_from, statements_of, statement, with_body, refuses_label, with_code, coded, labelled, assigned, unlabelled, statement_of}
use Rattle.sp_stmt.specs.Statements.{IsInTable, HaveTree, IsExpressed, IsItem, operand_kind, AreUsedAs, AreFor, IsStatement}
use Rattle.sp_stmt.specs.Tokens.{name_at, arg_at, pair_at, stack_pair_at, mnemonic_at, is_comma, is_colon, own_name_at, assignment_at}

-- words that are answered as an expression have a tree
checked_by : (ws : List Word) (right within : Bool) → is_sentence ws ≡ right → IfOk (cond right (cond within (Ok ws) (Err TooDeep)) (Err Syntax)) HaveTree
checked_by ws true true e = sentence_is_spelled setting.Statement ws e
checked_by ws true false e = tt
checked_by ws false within e = tt

checked_words_good : (found : Option (List Word)) → IfOk (checked_words found) HaveTree
checked_words_good None = tt
checked_words_good (Some ws) = checked_by ws (is_sentence ws) (nests_within (nests (nest 0 0) []) ws) refl

-- an operand of these kinds is an item
abbrev MayBeItem : ExpressionKind → Operand → Type 0
MayBeItem kind.Byte o = IsItem o
MayBeItem kind.Word o = IsItem o
MayBeItem kind.Restart o = ⊤

-- an operand that an expression is
abbrev IsUsed : ExpressionKind → Operand → Type 0
IsUsed kind o = (ws : List Word) × HaveTree ws × (o ≡ used_as kind ws)

used_good : (kind : ExpressionKind) (read : Result (List Word) ParseRefusal) → IfOk read HaveTree → IfOk (operand_from kind read) (IsUsed kind)
used_good kind (Ok ws) h = (ws, h, refl)
used_good kind (Err e) h = tt

operand_good : (kind : ExpressionKind) (source : List ℕ) (tokens : List Token) → IfOk (operand_of kind source tokens) (IsUsed kind)
unfolding operand_of expression_of
operand_good kind source tokens = used_good kind (checked_words (words_of source tokens)) (checked_words_good (words_of source tokens))

used_expressed : (kind : ExpressionKind) (ws : List Word) → HaveTree ws → IsExpressed (used_as kind ws)
used_expressed kind.Byte ws h = h
used_expressed kind.Word ws h = h
used_expressed kind.Restart ws h = h

expressed : (kind : ExpressionKind) (o : Operand) → IsUsed kind o → IsExpressed o
expressed kind o h = subst IsExpressed (sym h.2) (used_expressed kind h.0 h.1)

abbrev IsDatum : Operand → Type 0
IsDatum o = IsExpressed o × IsItem o

text_good : (characters : List ℕ) → IfOk (text_operand characters) IsDatum
text_good [] = tt
text_good (character ∷ characters) = (tt, tt)

datum : (kind : ExpressionKind) (read : Result Operand ParseRefusal) → ((ws : List Word) → IsItem (used_as kind ws)) → IfOk read (IsUsed kind) → IfOk read IsDatum
datum kind (Ok o) item h = (expressed kind o h, subst IsItem (sym h.2) (item h.0))
datum kind (Err e) item h = tt

byte_item_good : (alone : Option Token) (source : List ℕ) (item : List Token) → IfOk (byte_item alone source item) IsDatum
byte_item_good (Some token) source item = text_good (characters_of (text_of source token))
byte_item_good None source item = datum kind.Byte (operand_of kind.Byte source item) (λ ws. tt) (operand_good kind.Byte source item)

item_good : (kind : DataKind) (source : List ℕ) (item : List Token) → IfOk (item_of kind source item) IsDatum
unfolding item_of
item_good Bytes source item = byte_item_good (lone_text item) source item
item_good Words source item = datum kind.Word (operand_of kind.Word source item) (λ ws. tt) (operand_good kind.Word source item)

one_good : (P : Operand → Type 0) (read : Result Operand ParseRefusal) → IfOk read P → IfOk (one_operand read) (All P)
one_good P (Ok o) h = All-cons P o [] h (All-nil P)
one_good P (Err e) h = tt

behind_good : (P : Operand → Type 0) (a b : Result (List Operand) ParseRefusal) → IfOk a (All P) → IfOk b (All P) → IfOk (behind a b) (All P)
behind_good P (Ok a) (Ok b) h k = All-append P a b h k
behind_good P (Ok a) (Err e) h k = tt
behind_good P (Err e) (Ok b) h k = tt
behind_good P (Err e) (Err f) h k = tt

data_good : (kind : DataKind) (source : List ℕ) (items : List (List Token)) → IfOk (data_of kind source items) (All IsDatum)
unfolding data_of
data_good kind source [] = All-nil IsDatum
data_good kind source (item ∷ items) =
    behind_good IsDatum (one_operand (item_of kind source item)) (data_of kind source items) (one_good IsDatum (item_of kind source item) (item_good kind source item)) (data_good kind source items)

-- there is an operand for each item

behind_length : (n : ℕ) (a b : Result (List Operand) ParseRefusal) → IfOk a (λ os. length os ≡ 1) → IfOk b (λ os. length os ≡ n) → IfOk (behind a b) (λ os. length os ≡ suc n)
behind_length n (Ok a) (Ok b) h k = omega (arith, length-append a b)
behind_length n (Ok a) (Err e) h k = tt
behind_length n (Err e) (Ok b) h k = tt
behind_length n (Err e) (Err f) h k = tt

one_length : (read : Result Operand ParseRefusal) → IfOk (one_operand read) (λ os. length os ≡ 1)
one_length (Ok o) = refl
one_length (Err e) = tt

data_length : (kind : DataKind) (source : List ℕ) (items : List (List Token)) → IfOk (data_of kind source items) (λ os. length os ≡ length items)
unfolding data_of
data_length kind source [] = refl
data_length kind source (item ∷ items) = behind_length (length items) (one_operand (item_of kind source item)) (data_of kind source items) (one_length (item_of kind source item)) (data_length kind source items)

in_front_some : (token : Token) (items : List (List Token)) → 0 < length (in_front token items)
in_front_some token [] = omega arith
in_front_some token (item ∷ items) = omega arith

items_by : (comma : Bool) (token : Token) (items : List (List Token)) → 0 < length (cond comma ([] ∷ items) (in_front token items))
items_by true token items = omega arith
items_by false token items = in_front_some token items

items_some : (source : List ℕ) (tokens : List Token) → 0 < length (items_of source tokens)
unfolding items_of
items_some source [] = omega arith
items_some source (token ∷ tokens) = items_by (is_comma source token) token (items_of source tokens)

-- a code with its operands is good
pub record IsGood (b : Body) : Type 0 where
  pub valid : IsInTable b.code
  pub expressions : All IsExpressed b.operands
  pub operands : AreFor b.code b.operands
  pub items : b.code ≡ code.Data → All IsItem b.operands

-- a code that isn't data
abbrev IsOther : Code → Type 0
IsOther code.Data = ⊥
IsOther code.Nothing = ⊤
IsOther (code.Instr i) = ⊤
IsOther code.Space = ⊤
IsOther code.Org = ⊤
IsOther (code.Equ name) = ⊤
IsOther (code.Set name) = ⊤
IsOther code.End = ⊤

no_data : (what : Code) → IsOther what → what ≡ code.Data → ⊥
no_data what other e = subst IsOther e other

good : (what : Code) (operands : List Operand) → IsOther what → IsInTable what → All IsExpressed operands → AreFor what operands → IsGood (body what operands)
good what operands other table h are = record { valid = table; expressions = h; operands = are; items = λ e. absurd (no_data what other e) }

-- a code that takes one expression of a kind
abbrev Takes : ExpressionKind → Code → Type 0
Takes kind what = (ws : List Word) → AreFor what (used_as kind ws ∷ [])

with_operand_good : (kind : ExpressionKind) (what : Code) (read : Result Operand ParseRefusal) → IsOther what → IsInTable what → Takes kind what → IfOk read (IsUsed kind) → IfOk (with_operands what (one_operand read)) IsGood
with_operand_good kind what (Ok o) other table takes h =
    good what (o ∷ []) other table (All-cons IsExpressed o [] (expressed kind o h) (All-nil IsExpressed)) (subst (λ x. AreFor what (x ∷ [])) (sym h.2) (takes h.0))
with_operand_good kind what (Err e) other table takes h = tt

with_expression_good : (kind : ExpressionKind) (what : Code) (source : List ℕ) (tokens : List Token) → IsOther what → IsInTable what → Takes kind what → IfOk (with_expression kind what source tokens) IsGood
with_expression_good kind what source tokens other table takes = with_operand_good kind what (operand_of kind source tokens) other table takes (operand_good kind source tokens)

-- an instruction that takes an expression of this kind, or none
abbrev TakesKind : Option ExpressionKind → Instr → Type 0
TakesKind kind i = operand_kind i ≡ kind

takes : (kind : ExpressionKind) (i : Instr) → TakesKind (Some kind) i → Takes kind (code.Instr i)
takes kind i e ws = subst (λ k. AreUsedAs k (used_as kind ws ∷ [])) (sym e) (ws, refl)

takes_none : (i : Instr) → TakesKind None i → AreFor (code.Instr i) []
takes_none i e = subst (λ k. AreUsedAs k []) (sym e) refl

plain_by : (i : Instr) (b : Bool) → valid i ≡ b → TakesKind None i → IfOk (cond b (Ok (body (code.Instr i) [])) (Err Syntax)) IsGood
plain_by i true e none = good (code.Instr i) [] tt e (All-nil IsExpressed) (takes_none i none)
plain_by i false e none = tt

plain_good : (found : Option Instr) → IfSome found (TakesKind None) → IfOk (plain found) IsGood
plain_good None h = tt
plain_good (Some i) h = plain_by i (valid i) refl h

alone_plain : (i : Instr) (tokens : List Token) → TakesKind None i → IfSome (alone i tokens) (TakesKind None)
alone_plain i [] h = h
alone_plain i (token ∷ rest) h = tt

register_plain : (form : RegisterForm) (found : Option Arg) → IfSome (option_map (with_register form) found) (TakesKind None)
register_plain form None = tt
register_plain Inr (Some y) = refl
register_plain Dcr (Some y) = refl
register_plain (Alu op) (Some y) = refl

pair_plain : (form : PairForm) (found : Option Pair) → IfSome (option_map (with_pair form) found) (TakesKind None)
pair_plain form None = tt
pair_plain Dad (Some p) = refl
pair_plain Inx (Some p) = refl
pair_plain Dcx (Some p) = refl
pair_plain Stax (Some p) = refl
pair_plain Ldax (Some p) = refl

stack_plain : (form : StackForm) (found : Option StackPair) → IfSome (option_map (with_stack_pair form) found) (TakesKind None)
stack_plain form None = tt
stack_plain Push (Some p) = refl
stack_plain Pop (Some p) = refl

register_instr_plain : (source : List ℕ) (form : RegisterForm) (tokens : List Token) → IfSome (register_instr source form tokens) (TakesKind None)
unfolding register_instr
register_instr_plain source form [] = tt
register_instr_plain source form (only ∷ []) = register_plain form (arg_at source only)
register_instr_plain source form (token ∷ next ∷ rest) = tt

pair_instr_plain : (source : List ℕ) (form : PairForm) (tokens : List Token) → IfSome (pair_instr source form tokens) (TakesKind None)
unfolding pair_instr
pair_instr_plain source form [] = tt
pair_instr_plain source form (only ∷ []) = pair_plain form (pair_at source only)
pair_instr_plain source form (token ∷ next ∷ rest) = tt

stack_instr_plain : (source : List ℕ) (form : StackForm) (tokens : List Token) → IfSome (stack_instr source form tokens) (TakesKind None)
unfolding stack_instr
stack_instr_plain source form [] = tt
stack_instr_plain source form (only ∷ []) = stack_plain form (stack_pair_at source only)
stack_instr_plain source form (token ∷ next ∷ rest) = tt

moved_plain : (to from : Option Arg) → IfSome (moved to from) (TakesKind None)
moved_plain None from = tt
moved_plain (Some to) None = tt
moved_plain (Some to) (Some from) = refl

move_by : (comma : Bool) (to from : Option Arg) → IfSome (cond comma (moved to from) None) (TakesKind None)
move_by true to from = moved_plain to from
move_by false to from = tt

move_plain : (source : List ℕ) (tokens : List Token) → IfSome (move_instr source tokens) (TakesKind None)
unfolding move_instr
move_plain source [] = tt
move_plain source (to ∷ []) = tt
move_plain source (to ∷ comma ∷ []) = tt
move_plain source (to ∷ comma ∷ from ∷ []) = move_by (is_comma source comma) (arg_at source to) (arg_at source from)
move_plain source (to ∷ comma ∷ from ∷ next ∷ rest) = tt

-- what MVI or LXI loads
abbrev IsLoad : ExpressionKind → Instr → Type 0
IsLoad kind i = (valid i ≡ true) × TakesKind (Some kind) i

byte_loaded : (found : Option Arg) → IfSome (option_map (λ to. instr.Mvi to 0) found) (IsLoad kind.Byte)
byte_loaded None = tt
byte_loaded (Some to) = (refl, refl)

word_loaded : (found : Option Pair) → IfSome (option_map (λ p. instr.Lxi p 0) found) (IsLoad kind.Word)
word_loaded None = tt
word_loaded (Some p) = (refl, refl)

loaded_good : (form : Load) (source : List ℕ) (token : Token) → IfSome (loaded form source token) (IsLoad (kind_of form))
loaded_good load.Byte source token = byte_loaded (arg_at source token)
loaded_good load.Word source token = word_loaded (pair_at source token)

load_with_good : (kind : ExpressionKind) (found : Option Instr) (source : List ℕ) (value : List Token) → IfSome found (IsLoad kind) → IfOk (load_with kind found source value) IsGood
load_with_good kind None source value h = tt
load_with_good kind (Some i) source value h = with_expression_good kind (code.Instr i) source value tt h.0 (takes kind i h.1)

load_by : (form : Load) (source : List ℕ) (to : Token) (value : List Token) (comma : Bool) → IfOk (cond comma (load_with (kind_of form) (loaded form source to) source value) (Err Syntax)) IsGood
load_by form source to value true = load_with_good (kind_of form) (loaded form source to) source value (loaded_good form source to)
load_by form source to value false = tt

load_good : (form : Load) (source : List ℕ) (tokens : List Token) → IfOk (load_body form source tokens) IsGood
unfolding load_body
load_good form source [] = tt
load_good form source (to ∷ []) = tt
load_good form source (to ∷ comma ∷ value) = load_by form source to value (is_comma source comma)

both_of_data : (P Q : Operand → Type 0) (os : List Operand) → All (λ o. P o × Q o) os → All P os × All Q os
both_of_data P Q os h = (λ k d lt. (h k d lt).0, λ k d lt. (h k d lt).1)

data_body_good : (n : ℕ) (read : Result (List Operand) ParseRefusal) → 0 < n → IfOk read (All IsDatum) → IfOk read (λ os. length os ≡ n) → IfOk (with_operands code.Data read) IsGood
data_body_good n (Ok operands) some h k =
    let parts = both_of_data IsExpressed IsItem operands h in record { valid = tt; expressions = parts.0; operands = omega (arith, k); items = λ _. parts.1 }
data_body_good n (Err e) some h k = tt

end_good : (source : List ℕ) (tokens : List Token) → IfOk (end_body source tokens) IsGood
end_good source [] = good code.End [] tt tt (All-nil IsExpressed) (inl refl)
end_good source (token ∷ rest) = with_expression_good kind.Word code.End source (token ∷ rest) tt tt (λ ws. inr (ws, refl))

abbrev is_kind : ExpressionKind → Option ExpressionKind → Bool
is_kind kind None = false
is_kind kind.Byte (Some kind.Byte) = true
is_kind kind.Byte (Some kind.Word) = false
is_kind kind.Byte (Some kind.Restart) = false
is_kind kind.Word (Some kind.Byte) = false
is_kind kind.Word (Some kind.Word) = true
is_kind kind.Word (Some kind.Restart) = false
is_kind kind.Restart (Some kind.Byte) = false
is_kind kind.Restart (Some kind.Word) = false
is_kind kind.Restart (Some kind.Restart) = true

kind_found : (kind : ExpressionKind) (found : Option ExpressionKind) → is_kind kind found ≡ true → found ≡ Some kind
kind_found kind None e = absurd cc
kind_found kind.Byte (Some kind.Byte) e = refl
kind_found kind.Byte (Some kind.Word) e = absurd cc
kind_found kind.Byte (Some kind.Restart) e = absurd cc
kind_found kind.Word (Some kind.Byte) e = absurd cc
kind_found kind.Word (Some kind.Word) e = refl
kind_found kind.Word (Some kind.Restart) e = absurd cc
kind_found kind.Restart (Some kind.Byte) e = absurd cc
kind_found kind.Restart (Some kind.Word) e = absurd cc
kind_found kind.Restart (Some kind.Restart) e = refl

none_found : (found : Option ExpressionKind) → is_none found ≡ true → found ≡ None
none_found None e = refl
none_found (Some kind) e = absurd cc

both : (a b : Bool) → (a && b) ≡ true → (a ≡ true) × (b ≡ true)
both true true e = (refl, refl)
both true false e = absurd cc
both false b e = absurd cc

-- the instruction of an entry of the table is valid, and takes an expression as the entry says
abbrev is_sound : Mnemonic → Bool
is_sound (mnemonic.Expression kind i) = valid i && is_kind kind (operand_kind i)
is_sound (mnemonic.Alone i) = is_none (operand_kind i)
is_sound (mnemonic.Register form) = true
is_sound (mnemonic.Pair form) = true
is_sound (mnemonic.Stack form) = true
is_sound mnemonic.Move = true
is_sound (mnemonic.Load form) = true
is_sound (mnemonic.Data kind) = true
is_sound mnemonic.Space = true
is_sound mnemonic.Org = true
is_sound (mnemonic.Assignment form) = true
is_sound mnemonic.End = true

body_good : (found : Mnemonic) (source : List ℕ) (tokens : List Token) → is_sound found ≡ true → IfOk (body_of found source tokens) IsGood
unfolding body_of
body_good (mnemonic.Alone i) source tokens h = plain_good (alone i tokens) (alone_plain i tokens (none_found (operand_kind i) h))
body_good (mnemonic.Register form) source tokens h = plain_good (register_instr source form tokens) (register_instr_plain source form tokens)
body_good (mnemonic.Pair form) source tokens h = plain_good (pair_instr source form tokens) (pair_instr_plain source form tokens)
body_good (mnemonic.Stack form) source tokens h = plain_good (stack_instr source form tokens) (stack_instr_plain source form tokens)
body_good mnemonic.Move source tokens h = plain_good (move_instr source tokens) (move_plain source tokens)
body_good (mnemonic.Load form) source tokens h = load_good form source tokens
body_good (mnemonic.Expression kind i) source tokens h =
    let sound = both (valid i) (is_kind kind (operand_kind i)) h in with_expression_good kind (code.Instr i) source tokens tt sound.0 (takes kind i (kind_found kind (operand_kind i) sound.1))
body_good (mnemonic.Data kind) source tokens h =
    data_body_good (length (items_of source tokens)) (data_of kind source (items_of source tokens)) (items_some source tokens) (data_good kind source (items_of source tokens)) (data_length kind source (items_of source tokens))
body_good mnemonic.Space source tokens h = with_expression_good kind.Word code.Space source tokens tt tt (λ ws. (ws, refl))
body_good mnemonic.Org source tokens h = with_expression_good kind.Word code.Org source tokens tt tt (λ ws. (ws, refl))
body_good (mnemonic.Assignment form) source tokens h = tt
body_good mnemonic.End source tokens h = end_good source tokens

lookup_by : {X : Type 0} (sound : X → Bool) (test here : Bool) (x : X) (rest : Bool) (other : Option X) → sound x ≡ here → (here && rest) ≡ true → (rest ≡ true → IfSome other (λ y. sound y ≡ true)) → IfSome (cond test (Some x) other) (λ y. sound y ≡ true)
lookup_by sound true true x rest other e h more = e
lookup_by sound true false x rest other e h more = absurd cc
lookup_by sound false true x rest other e h more = more h
lookup_by sound false false x rest other e h more = absurd cc

lookup_sound : {K X : Type 0} (sound : X → Bool) (test : K → Bool) (entries : List (K × X)) → list_all (λ e. sound e.1) entries ≡ true → IfSome (lookup test entries) (λ x. sound x ≡ true)
lookup_sound sound test [] h = tt
lookup_sound sound test (entry ∷ entries) h =
    lookup_by sound (test entry.0) (sound entry.1) entry.1 (list_all (λ e. sound e.1) entries) (lookup test entries) refl h (lookup_sound sound test entries)

named_sound : (name : List ℕ) → IfSome (mnemonic_named name) (λ found. is_sound found ≡ true)
unfolding mnemonic_named
named_sound name = lookup_sound is_sound (λ word. pointwise nat_eq word.now name) MNEMONICS refl

mnemonic_sound : (source : List ℕ) (token : Token) → IfSome (mnemonic_at source token) (λ found. is_sound found ≡ true)
unfolding mnemonic_at
mnemonic_sound source token = elim (name_at source token) as (λ found. IfSome (option_and_then mnemonic_named found) (λ m. is_sound m ≡ true)) [ None ↦ tt | Some name ↦ named_sound name ]

of_body : (number : ℕ) (label : Option (List ℕ)) (b : Body) → IsGood b → IsStatement (statement number label b)
of_body number label b h = record { valid = h.valid; expressions = h.expressions; operands = h.operands; items = h.items }

with_body_good : (number : ℕ) (label : Option (List ℕ)) (read : Result Body ParseRefusal) → IfOk read IsGood → IfOk (with_body number label read) IsStatement
with_body_good number label (Ok b) h = of_body number label b h
with_body_good number label (Err e) h = tt

with_code_by : (number : ℕ) (label : Option (List ℕ)) (found : Mnemonic) (source : List ℕ) (operands : List Token) (refuses : Bool) → is_sound found ≡ true → IfOk (cond refuses (Err Syntax) (with_body number label (body_of found source operands))) IsStatement
with_code_by number label found source operands true h = tt
with_code_by number label found source operands false h = with_body_good number label (body_of found source operands) (body_good found source operands h)

with_code_good : (number : ℕ) (label : Option (List ℕ)) (found : Option Mnemonic) (source : List ℕ) (operands : List Token) → IfSome found (λ m. is_sound m ≡ true) → IfOk (with_code number label found source operands) IsStatement
with_code_good number label None source operands h = tt
with_code_good number label (Some found) source operands h = with_code_by number label found source operands (is_some label && refuses_label found) h

coded_good : (number : ℕ) (label : Option (List ℕ)) (source : List ℕ) (tokens : List Token) → IfOk (coded number label source tokens) IsStatement
unfolding coded
coded_good number label source [] = tt
coded_good number label source (first ∷ operands) = with_code_good number label (mnemonic_at source first) source operands (mnemonic_sound source first)

labelled_good : (number : ℕ) (label : Option (List ℕ)) (source : List ℕ) (rest : List Token) → IfOk (labelled number label source rest) IsStatement
labelled_good number None source rest = tt
labelled_good number (Some label) source [] = of_body number (Some label) (body code.Nothing []) (good code.Nothing [] tt tt (All-nil IsExpressed) refl)
labelled_good number (Some label) source (first ∷ rest) = coded_good number (Some label) source (first ∷ rest)

assigned_good : (number : ℕ) (form : Assignment) (name : Option (List ℕ)) (source : List ℕ) (rest : List Token) → IfOk (assigned number form name source rest) IsStatement
assigned_good number form None source rest = tt
assigned_good number Equ (Some name) source rest = with_body_good number None (with_expression kind.Word (code.Equ name) source rest) (with_expression_good kind.Word (code.Equ name) source rest tt tt (λ ws. (ws, refl)))
assigned_good number Set (Some name) source rest = with_body_good number None (with_expression kind.Word (code.Set name) source rest) (with_expression_good kind.Word (code.Set name) source rest tt tt (λ ws. (ws, refl)))

unlabelled_good : (number : ℕ) (form : Option Assignment) (source : List ℕ) (first second : Token) (rest : List Token) → IfOk (unlabelled number form source first second rest) IsStatement
unlabelled_good number (Some form) source first second rest = assigned_good number form (own_name_at source first) source rest
unlabelled_good number None source first second rest = coded_good number None source (first ∷ second ∷ rest)

statement_by : (number : ℕ) (source : List ℕ) (first second : Token) (rest : List Token) (colon : Bool)
    → IfOk (cond colon (labelled number (own_name_at source first) source rest) (unlabelled number (assignment_at source second) source first second rest)) IsStatement
statement_by number source first second rest true = labelled_good number (own_name_at source first) source rest
statement_by number source first second rest false = unlabelled_good number (assignment_at source second) source first second rest

-- what is read as a statement is one
pub statement_good : (source : List ℕ) (number : ℕ) (tokens : List Token) → IfOk (statement_of source number tokens) IsStatement
unfolding statement_of
statement_good source number [] = coded_good number None source []
statement_good source number (first ∷ []) = coded_good number None source (first ∷ [])
statement_good source number (first ∷ second ∷ rest) = statement_by number source first second rest (is_colon source second)

with_first_good : (first : Statement) (below : Result (List Statement) Fault) → IsStatement first → IfOk below (All IsStatement) → IfOk (with_first first below) (All IsStatement)
with_first_good first (Ok statements) h k = All-cons IsStatement first statements h k
with_first_good first (Err fault) h k = tt

then_good : (number : ℕ) (read : Result Statement ParseRefusal) (below : Result (List Statement) Fault) → IfOk read IsStatement → IfOk below (All IsStatement) → IfOk (then_statements number read below) (All IsStatement)
then_good number (Ok first) below h k = with_first_good first below h k
then_good number (Err e) below h k = tt

from_line_by : (statement : Bool) (number : ℕ) (read : Result Statement ParseRefusal) (below : Result (List Statement) Fault) → IfOk read IsStatement → IfOk below (All IsStatement)
    → IfOk (cond statement (then_statements number read below) below) (All IsStatement)
from_line_by true number read below h k = then_good number read below h k
from_line_by false number read below h k = k

statements_from_good : (source : List ℕ) (number : ℕ) (lines : List SourceLine) → IfOk (statements_from source number lines) (All IsStatement)
unfolding statements_from
statements_from_good source number [] = All-nil IsStatement
statements_from_good source number (first ∷ lines) =
    from_line_by (is_statement first.kind) number (statement_of source number first.tokens) (statements_from source (number + 1) lines) (statement_good source number first.tokens) (statements_from_good source (number + 1) lines)

-- each statement of a source has a valid instruction, expressions with trees, and no restart number among data
pub statements_are : (source : List ℕ) (lines : List SourceLine) (found : List Statement) → statements_of source lines ≡ Ok found → All IsStatement found
statements_are source lines found e = let P : Result (List Statement) Fault → Type 0 = λ r. IfOk r (All IsStatement) in subst P e (statements_from_good source 1 lines)
