-- The items of data directives, one after another.
use Rattle.std.proofs.Common.{◌≡◌, ℕ, zero, suc, ◌-◌, ◌<◌, ◌≤◌, true, false, cond, List, [], ◌∷◌, length, get_or, take, drop, Result, Ok, Err, refl, sym, ap, ◌∙◌, append_assoc, arith}
use Rattle.std.proofs.lemmas.List.{append-nil, take_all}
use Rattle.sp_lex.specs.declared.token.Token.{Token}
use Rattle.sp_expr.specs.declared.refusal.ParseRefusal.{ParseRefusal}
use Rattle.sp_expr.specs.declared.refusal.ParseRefusal.TheVariants.{Syntax, TooDeep, Memory}
use Rattle.sp_words.specs.declared.mnemonic.DataKind.{DataKind}
use Rattle.sp_stmt.specs.declared.operand.Operand.{Operand}
use Rattle.sp_stmt.specs.code.Answers.{Answers}
use Rattle.sp_stmt.specs.code.Data.{in_front, items_of, items_behind, first_refusal, behind, one_operand, item_of, data_of}
use Rattle.sp_stmt.specs.code.Held.{AnswersItem}
use Rattle.sp_stmt.specs.Tokens.{is_comma}

-- the first item ends before the first comma
pub items_of-comma : (source : List ℕ) (i : ℕ) (tokens : List Token) → i < length tokens → ((k : ℕ) (d : Token) → k < i → is_comma source (get_or tokens k d) ≡ false) → (blank : Token) → is_comma source (get_or tokens i blank) ≡ true
    → items_of source tokens ≡ take i tokens ∷ items_behind source (drop i tokens)
unfolding items_of
items_of-comma source zero [] lt before blank here = absurd (omega arith)
items_of-comma source (suc i) [] lt before blank here = absurd (omega arith)
items_of-comma source zero (token ∷ tokens) lt before blank here = ap (λ b. cond b ([] ∷ items_of source tokens) (in_front token (items_of source tokens))) here
items_of-comma source (suc i) (token ∷ tokens) lt before blank here =
    ap (λ b. cond b ([] ∷ items_of source tokens) (in_front token (items_of source tokens))) (before 0 token (omega arith))
    ∙ ap (in_front token) (items_of-comma source i tokens (omega arith) (λ k d below. before (suc k) d (omega arith)) blank here)

-- without a comma there is one item
pub items_of-whole : (source : List ℕ) (tokens : List Token) → ((k : ℕ) (d : Token) → k < length tokens → is_comma source (get_or tokens k d) ≡ false)
    → items_of source tokens ≡ take (length tokens) tokens ∷ items_behind source (drop (length tokens) tokens)
unfolding items_of
items_of-whole source [] none = refl
items_of-whole source (token ∷ tokens) none =
    ap (λ b. cond b ([] ∷ items_of source tokens) (in_front token (items_of source tokens))) (none 0 token (omega arith))
    ∙ ap (in_front token) (items_of-whole source tokens (λ k d below. none (suc k) d (omega arith)))

abbrev Operands : Type 0
Operands = Result (List Operand) ParseRefusal

first_refusal_assoc : (a b c : ParseRefusal) → first_refusal (first_refusal a b) c ≡ first_refusal a (first_refusal b c)
first_refusal_assoc a b Syntax = refl
first_refusal_assoc a b TooDeep = refl
first_refusal_assoc a b Memory = refl

behind_assoc : (a b c : Operands) → behind (behind a b) c ≡ behind a (behind b c)
behind_assoc (Ok a) (Ok b) (Ok c) = ap (λ os. Ok os) (append_assoc a b c)
behind_assoc (Ok a) (Ok b) (Err e) = refl
behind_assoc (Ok a) (Err e) (Ok c) = refl
behind_assoc (Ok a) (Err e) (Err f) = refl
behind_assoc (Err e) (Ok b) (Ok c) = refl
behind_assoc (Err e) (Ok b) (Err f) = refl
behind_assoc (Err e) (Err f) (Ok c) = refl
behind_assoc (Err e) (Err f) (Err g) = ap (λ r. Err r) (first_refusal_assoc e f g)

behind-nothing : (a : Operands) → behind a (Ok []) ≡ a
behind-nothing (Ok a) = ap (λ os. Ok os) (append-nil a)
behind-nothing (Err e) = refl

-- Syntax stays, whatever stands behind it
pub behind-syntax : (a : Operands) → behind (Err Syntax) a ≡ Err Syntax
behind-syntax (Ok a) = refl
behind-syntax (Err Syntax) = refl
behind-syntax (Err TooDeep) = refl
behind-syntax (Err Memory) = refl

-- one item more
pub data_of-more : (kind : DataKind) (source : List ℕ) (tokens item rest : List Token) (len : ℕ) (front : Operands) → items_of source tokens ≡ take len tokens ∷ items_behind source (drop len tokens) → item ≡ take len tokens → rest ≡ drop len tokens
    → behind front (data_of kind source (items_of source tokens)) ≡ behind (behind front (one_operand (item_of kind source item))) (data_of kind source (items_behind source rest))
unfolding data_of
data_of-more kind source tokens item rest len front items item_is rest_is =
    ap (λ all. behind front (data_of kind source all)) items
    ∙ sym (behind_assoc front (one_operand (item_of kind source (take len tokens))) (data_of kind source (items_behind source (drop len tokens))))
    ∙ ap (λ first. behind (behind front (one_operand (item_of kind source first))) (data_of kind source (items_behind source (drop len tokens)))) (sym item_is)
    ∙ ap (λ others. behind (behind front (one_operand (item_of kind source item))) (data_of kind source (items_behind source others))) (sym rest_is)

-- the last item
pub data_of-last : (kind : DataKind) (source : List ℕ) (rest : List Token) (front : Operands) → rest ≡ [] → behind front (data_of kind source (items_behind source rest)) ≡ front
unfolding data_of
data_of-last kind source rest front none = ap (λ others. behind front (data_of kind source (items_behind source others))) none ∙ behind-nothing front

-- behind the comma that ends an item
pub items_behind-comma : (source : List ℕ) (rest : List Token) → 1 ≤ length rest → items_behind source rest ≡ items_of source (take (length rest - 1) (drop 1 rest))
items_behind-comma source [] some = absurd (omega arith)
items_behind-comma source (comma ∷ rest) some = ap (items_of source) (sym (take_all (length (comma ∷ rest) - 1) rest (omega arith)))

-- an item that refuses the line
pub item_refused : (X : Type 0) (e : ParseRefusal) (now so_far more whole : Operands) → AnswersItem {X = X} (Err e) now so_far → behind so_far more ≡ whole → Answers {X = List Operand} (Err e) whole
item_refused X Syntax now so_far more whole h is = sym is ∙ ap (λ front. behind front more) h ∙ behind-syntax more
item_refused X TooDeep now so_far more whole h is = absurd h
item_refused X Memory now so_far more whole h is = tt
