-- The items of DB and DW are read exactly.
use Rattle.std.proofs.Common.{◌≡◌, ℕ, Bool, true, cond, List, [], ◌∷◌, ◌++◌, Option, Some, None, Result, refl, sym, ap, subst, ◌∙◌, inl, inr}
use Rattle.std.specs.Prelude.{All}
use Rattle.std.proofs.lemmas.Bool.{cases_Bool}
use Rattle.std.proofs.lemmas.List.Elements.{All-nil, All-cons, All-head, All-tail}
use Rattle.sp_lex.specs.declared.token.Token.{Token}
use Rattle.sp_lex.specs.declared.token.TokenKind.{TokenKind}
use Rattle.sp_lex.specs.declared.token.TokenKind.TheVariants as tokens
use Rattle.sp_lex.specs.Texts.{characters_of}
use Rattle.sp_expr.specs.declared.refusal.ParseRefusal.{ParseRefusal}
use Rattle.sp_expr.specs.declared.word.Word.{Word}
use Rattle.sp_expr.specs.Words.{text_of}
use Rattle.sp_words.specs.declared.mnemonic.DataKind.{DataKind}
use Rattle.sp_words.specs.declared.mnemonic.DataKind.TheVariants.{Bytes, Words}
use Rattle.sp_words.specs.declared.mnemonic.ExpressionKind.TheVariants as kind
use Rattle.sp_stmt.specs.declared.operand.Operand.{Operand}
use Rattle.sp_stmt.specs.declared.operand.Operand.TheVariants as operand
use Rattle.sp_stmt.specs.code.Data.{in_front, items_of, text_operand, if_text, lone_text, byte_item, item_of, behind, one_operand, data_of}
use Rattle.sp_stmt.specs.code.Expressions.{operand_from, operand_of}
use Rattle.sp_stmt.specs.Grammar.{IsExpression, IsText, IsItem, AreItems, last, more, IsShallow}
use Rattle.sp_stmt.specs.Tokens.{is_comma}
use Rattle.sp_stmt.proofs.ExactLaws.{Exact, found, deep, none, exact-same, exact-map}
use Rattle.sp_stmt.proofs.FormLaws.{expression_exact}
use Rattle.sp_stmt.proofs.MarkLaws.{NoComma, words_no_comma, text_no_comma}

-- an item

kind_text : (kind : TokenKind) (token text : Token) → if_text kind token ≡ Some text → (kind ≡ tokens.Text) × (token ≡ text)
kind_text tokens.Text token text e = (refl, cc)
kind_text tokens.Name token text e = absurd cc
kind_text tokens.Number token text e = absurd cc
kind_text tokens.Symbol token text e = absurd cc

lone_is_text : (item : List Token) (text : Token) → lone_text item ≡ Some text → IsText item text
lone_is_text [] text e = absurd cc
lone_is_text (token ∷ []) text e = let is = kind_text token.kind token text e in record { whole = ap (λ t. t ∷ []) is.1; quoted = sym (ap (λ (t : Token). t.kind) is.1) ∙ is.0 }
lone_is_text (token ∷ next ∷ rest) text e = absurd cc

text_is_lone : (item : List Token) (text : Token) → IsText item text → lone_text item ≡ Some text
text_is_lone item text h = ap lone_text h.whole ∙ ap (λ k. if_text k text) h.quoted

text_item : (source : List ℕ) (item : List Token) (text : Token) → IsText item text → (o : Operand) → IsItem source Bytes item o
    → (o ≡ operand.Text (characters_of (text_of source text))) × ¬ (characters_of (text_of source text) ≡ [])
text_item source item text is (operand.Text characters) h =
    let one = is.whole in
    let other = h.1.whole in
    let token : h.0 ≡ text = cc in
    let same : characters ≡ characters_of (text_of source text) = h.2 ∙ ap (λ t. characters_of (text_of source t)) token in (ap (λ cs. operand.Text cs) same, λ e. h.3 (same ∙ e))
text_item source item text is (operand.Byte ws) h = absurd (h.1 text is)
text_item source item text is (operand.Word ws) h = absurd h
text_item source item text is (operand.Restart ws) h = absurd h

text_exact : (source : List ℕ) (item : List Token) (text : Token) → IsText item text → (characters : List ℕ) → characters_of (text_of source text) ≡ characters → Exact (IsItem source Bytes item) IsShallow (text_operand characters)
text_exact source item text is [] e = none (λ o h. (text_item source item text is o h).1 e)
text_exact source item text is (character ∷ characters) e =
    found (operand.Text (character ∷ characters)) (text, is, sym e, λ none. absurd cc) tt (λ o h. (text_item source item text is o h).0 ∙ ap (λ cs. operand.Text cs) e)

byte_expression : (source : List ℕ) (item : List Token) → ((text : Token) → ¬ IsText item text) → (o : Operand) → IsItem source Bytes item o → (ws : List Word) × IsExpression source item ws × (o ≡ operand.Byte ws)
byte_expression source item other (operand.Text characters) h = absurd (other h.0 h.1)
byte_expression source item other (operand.Byte ws) h = (ws, h.0, refl)
byte_expression source item other (operand.Word ws) h = absurd h
byte_expression source item other (operand.Restart ws) h = absurd h

word_expression : (source : List ℕ) (item : List Token) (o : Operand) → IsItem source Words item o → (ws : List Word) × IsExpression source item ws × (o ≡ operand.Word ws)
word_expression source item (operand.Text characters) h = absurd h
word_expression source item (operand.Byte ws) h = absurd h
word_expression source item (operand.Word ws) h = (ws, h, refl)
word_expression source item (operand.Restart ws) h = absurd h

byte_exact : (source : List ℕ) (item : List Token) (alone : Option Token) → lone_text item ≡ alone → Exact (IsItem source Bytes item) IsShallow (byte_item alone source item)
unfolding operand_of
byte_exact source item None e =
    let other : (text : Token) → ¬ IsText item text = λ text is. let lone = text_is_lone item text is in absurd cc in
    exact-map (IsItem source Bytes item) IsShallow (operand_from kind.Byte) (λ ws. operand.Byte ws) (λ ws. refl) (λ r. refl) (λ ws h. (h, other)) (byte_expression source item other) (λ ws h. h) (λ ws h. h) (expression_exact source item)
byte_exact source item (Some text) e = text_exact source item text (lone_is_text item text e) (characters_of (text_of source text)) refl

item_exact : (kind : DataKind) (source : List ℕ) (item : List Token) → Exact (IsItem source kind item) IsShallow (item_of kind source item)
unfolding item_of operand_of
item_exact Bytes source item = byte_exact source item (lone_text item) refl
item_exact Words source item =
    exact-map (IsItem source Words item) IsShallow (operand_from kind.Word) (λ ws. operand.Word ws) (λ ws. refl) (λ r. refl) (λ ws h. h) (word_expression source item) (λ ws h. h) (λ ws h. h) (expression_exact source item)

-- items, one after another

abbrev Each : List ℕ → DataKind → List (List Token) → List Operand → Type 0
Each source kind [] os = os ≡ []
Each source kind (item ∷ items) os = (o : Operand) × (rest : List Operand) × (os ≡ o ∷ rest) × IsItem source kind item o × Each source kind items rest

abbrev Follows : (Operand → Type 0) → (List Operand → Type 0) → List Operand → Type 0
Follows R Q os = (o : Operand) × (rest : List Operand) × (os ≡ o ∷ rest) × R o × Q rest

follow_exact : (R : Operand → Type 0) (Q : List Operand → Type 0) {r : Result Operand ParseRefusal} {q : Result (List Operand) ParseRefusal} → Exact R IsShallow r → Exact Q (All IsShallow) q → Exact (Follows R Q) (All IsShallow) (behind (one_operand r) q)
follow_exact R Q (found o h s only) (found os k t one) =
    found (o ∷ os) (o, os, refl, h, k) (All-cons IsShallow o os s t) (λ all l. l.2 ∙ ap (λ first. first ∷ l.1) (only l.0 l.3) ∙ ap (λ rest. o ∷ rest) (one l.1 l.4))
follow_exact R Q (found o h s only) (deep os k never one) =
    deep (o ∷ os) (o, os, refl, h, k) (λ all l t. never l.1 l.4 (All-tail IsShallow l.0 l.1 (subst (All IsShallow) l.2 t))) (λ all l. l.2 ∙ ap (λ first. first ∷ l.1) (only l.0 l.3) ∙ ap (λ rest. o ∷ rest) (one l.1 l.4))
follow_exact R Q (found o h s only) (none nothing) = none (λ all l. nothing l.1 l.4)
follow_exact R Q (deep o h never only) (found os k t one) =
    deep (o ∷ os) (o, os, refl, h, k) (λ all l u. never l.0 l.3 (All-head IsShallow l.0 l.1 (subst (All IsShallow) l.2 u))) (λ all l. l.2 ∙ ap (λ first. first ∷ l.1) (only l.0 l.3) ∙ ap (λ rest. o ∷ rest) (one l.1 l.4))
follow_exact R Q (deep o h never only) (deep os k nor one) =
    deep (o ∷ os) (o, os, refl, h, k) (λ all l u. never l.0 l.3 (All-head IsShallow l.0 l.1 (subst (All IsShallow) l.2 u))) (λ all l. l.2 ∙ ap (λ first. first ∷ l.1) (only l.0 l.3) ∙ ap (λ rest. o ∷ rest) (one l.1 l.4))
follow_exact R Q (deep o h never only) (none nothing) = none (λ all l. nothing l.1 l.4)
follow_exact R Q (none nothing) (found os k t one) = none (λ all l. nothing l.0 l.3)
follow_exact R Q (none nothing) (deep os k never one) = none (λ all l. nothing l.0 l.3)
follow_exact R Q (none nothing) (none nor) = none (λ all l. nothing l.0 l.3)

each_exact : (kind : DataKind) (source : List ℕ) (items : List (List Token)) → Exact (Each source kind items) (All IsShallow) (data_of kind source items)
unfolding data_of
each_exact kind source [] = found [] refl (All-nil IsShallow) (λ os h. h)
each_exact kind source (item ∷ items) = follow_exact (IsItem source kind item) (Each source kind items) (item_exact kind source item) (each_exact kind source items)

-- commas divide the tokens into these items
data Split (source : List ℕ) : List Token → List (List Token) → Type 0 where
  whole : (tokens : List Token) → Split source tokens (tokens ∷ [])
  part : (tokens rest : List Token) (comma : Token) (items : List (List Token)) → is_comma source comma ≡ true → Split source rest items → Split source (tokens ++ comma ∷ rest) (tokens ∷ items)

split_in_front : {source : List ℕ} {rest : List Token} {items : List (List Token)} (token : Token) → Split source rest items → Split source (token ∷ rest) (in_front token items)
split_in_front token (whole tokens) = whole (token ∷ tokens)
split_in_front token (part tokens rest comma items divided below) = part (token ∷ tokens) rest comma items divided below

split_of : (source : List ℕ) (tokens : List Token) → Split source tokens (items_of source tokens)
unfolding items_of
split_of source [] = whole []
split_of source (token ∷ tokens) =
    let P : Bool → Type 0 = λ b. Split source (token ∷ tokens) (cond b ([] ∷ items_of source tokens) (in_front token (items_of source tokens))) in
    elim (cases_Bool (is_comma source token)) [
      | inl holds ↦ subst P (sym holds) (part [] tokens token (items_of source tokens) holds (split_of source tokens))
      | inr fails ↦ subst P (sym fails) (split_in_front token (split_of source tokens))
    ]

each_are : {source : List ℕ} {all : List Token} {items : List (List Token)} (kind : DataKind) → Split source all items → (os : List Operand) → Each source kind items os → AreItems source kind all os
each_are {source = source} kind (whole tokens) os h = subst (AreItems source kind tokens) (sym (h.2 ∙ ap (λ rest. h.0 ∷ rest) h.4)) (last tokens h.0 h.3)
each_are {source = source} kind (part tokens rest comma items divided below) os h = subst (AreItems source kind (tokens ++ comma ∷ rest)) (sym h.2) (more tokens rest comma h.0 h.1 h.3 divided (each_are kind below h.1 h.4))

lone_item : (source : List ℕ) (tokens : List Token) → NoComma source tokens → items_of source tokens ≡ tokens ∷ []
unfolding items_of
lone_item source [] h = refl
lone_item source (token ∷ tokens) h = ap (λ b. cond b ([] ∷ items_of source tokens) (in_front token (items_of source tokens))) h.0 ∙ ap (in_front token) (lone_item source tokens h.1)

first_item : (source : List ℕ) (tokens rest : List Token) (comma : Token) → NoComma source tokens → is_comma source comma ≡ true → items_of source (tokens ++ comma ∷ rest) ≡ tokens ∷ items_of source rest
unfolding items_of
first_item source [] rest comma h divided = ap (λ b. cond b ([] ∷ items_of source rest) (in_front comma (items_of source rest))) divided
first_item source (token ∷ tokens) rest comma h divided =
    let all = items_of source (tokens ++ comma ∷ rest) in ap (λ b. cond b ([] ∷ all) (in_front token all)) h.0 ∙ ap (in_front token) (first_item source tokens rest comma h.1 divided)

item_no_comma : (source : List ℕ) (kind : DataKind) (item : List Token) (o : Operand) → IsItem source kind item o → NoComma source item
item_no_comma source Bytes item (operand.Text characters) h = subst (NoComma source) (sym h.1.whole) (text_no_comma source h.0 h.1.quoted, tt)
item_no_comma source Bytes item (operand.Byte ws) h = words_no_comma source item ws h.0.words
item_no_comma source Bytes item (operand.Word ws) h = absurd h
item_no_comma source Bytes item (operand.Restart ws) h = absurd h
item_no_comma source Words item (operand.Text characters) h = absurd h
item_no_comma source Words item (operand.Byte ws) h = absurd h
item_no_comma source Words item (operand.Word ws) h = words_no_comma source item ws h.words
item_no_comma source Words item (operand.Restart ws) h = absurd h

are_each : {source : List ℕ} {kind : DataKind} {all : List Token} {os : List Operand} → AreItems source kind all os → Each source kind (items_of source all) os
are_each {source = source} {kind = kind} (last tokens item h) =
    subst (λ items. Each source kind items (item ∷ [])) (sym (lone_item source tokens (item_no_comma source kind tokens item h))) (item, [], refl, h, refl)
are_each {source = source} {kind = kind} (more tokens rest comma item items h divided below) =
    subst (λ all. Each source kind all (item ∷ items)) (sym (first_item source tokens rest comma (item_no_comma source kind tokens item h) divided)) (item, items, refl, h, are_each below)

-- the operands of DB or DW
pub data_exact : (kind : DataKind) (source : List ℕ) (tokens : List Token) → Exact (AreItems source kind tokens) (All IsShallow) (data_of kind source (items_of source tokens))
data_exact kind source tokens = exact-same (each_are kind (split_of source tokens)) (λ os h. are_each h) (each_exact kind source (items_of source tokens))
