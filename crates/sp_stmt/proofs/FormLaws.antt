-- Each form of operands is read exactly.
use Rattle.std.proofs.Common.{◌≡◌, ℕ, Bool, true, false, cond, List, [], ◌∷◌, Option, Some, None, Result, Ok, Err, refl, sym, ap, subst, ◌∙◌, inl, inr}
use Rattle.std.specs.Prelude.{◌↔◌, ◌⊎◌, All, IsTrue}
use Rattle.std.specs.Option.{option_map}
use Rattle.std.proofs.lemmas.Bool.{cases_Bool}
use Rattle.std.proofs.lemmas.List.Elements.{All-nil, All-cons, All-head}
use Rattle.sp_lex.specs.declared.token.Token.{Token}
use Rattle.sp_expr.specs.declared.setting.Setting.TheVariants.{Statement}
use Rattle.sp_expr.specs.declared.refusal.ParseRefusal.{ParseRefusal}
use Rattle.sp_expr.specs.declared.refusal.ParseRefusal.TheVariants.{Syntax, TooDeep}
use Rattle.sp_expr.specs.declared.word.Word.{Word}
use Rattle.sp_expr.specs.code.Nesting.{nest, nests, nests_within}
use Rattle.sp_expr.specs.code.Sentence.{is_sentence, accepts_in}
use Rattle.sp_expr.specs.Words.{words_of}
use Rattle.sp_expr.proofs.NestingLaws.{shallow, nests_shallow}
use Rattle.sp_expr.proofs.SentenceLaws.{spelled_is_sentence}
use Rattle.sp_expr.proofs.TreeLaws.{sentence_is_spelled}
use Rattle.sp_isa.specs.declared.instr.Arg.{Arg}
use Rattle.sp_isa.specs.declared.instr.Instr.{Instr}
use Rattle.sp_isa.specs.declared.instr.Instr.TheVariants as instr
use Rattle.sp_isa.specs.Code.{valid}
use Rattle.sp_stmt.specs.declared.body.Body.{Body}
use Rattle.sp_words.specs.declared.mnemonic.ExpressionKind.{ExpressionKind}
use Rattle.sp_words.specs.declared.mnemonic.ExpressionKind.TheVariants as kind
use Rattle.sp_stmt.specs.declared.operand.Operand.{Operand}
use Rattle.sp_stmt.specs.declared.statement.Code.{Code}
use Rattle.sp_stmt.specs.declared.statement.Code.TheVariants as code
use Rattle.sp_stmt.specs.code.Bodies.{body, alone, moved, plain, with_operands, with_expression, load_with, end_body, move_instr}
use Rattle.sp_stmt.specs.code.Data.{one_operand}
use Rattle.sp_stmt.specs.Operands.{used_as}
use Rattle.sp_stmt.specs.code.Expressions.{checked_words, expression_of, operand_from, operand_of}
use Rattle.sp_words.specs.Registers.{arg_name}
use Rattle.sp_stmt.specs.Grammar.{Says, IsExpression, IsBare, IsWord, AreWords, IsValue, IsLoad, NestsWithin, IsShallow}
use Rattle.sp_stmt.specs.Tokens.{is_comma, arg_at}
use Rattle.sp_stmt.proofs.ExactLaws.{Exact, found, deep, none, exact-same, exact-map}
use Rattle.sp_stmt.proofs.NameLemmas.{arg_says}

-- expressions

same_words : (source : List ℕ) (tokens : List Token) (ws vs : List Word) → words_of source tokens ≡ Some ws → IsExpression source tokens vs → vs ≡ ws
same_words source tokens ws vs e h = let known = h.words in cc

sentence_exact : (source : List ℕ) (tokens : List Token) (ws : List Word) (right within : Bool) → is_sentence ws ≡ right → nests_within (nests (nest 0 0) []) ws ≡ within → words_of source tokens ≡ Some ws
    → Exact (IsExpression source tokens) NestsWithin (cond right (cond within (Ok ws) (Err TooDeep)) (Err Syntax))
sentence_exact source tokens ws true true sentence few e =
    let tree = sentence_is_spelled Statement ws sentence in
    found ws (record { words = e; tree = tree.0; spells = tree.1 }) (tree.0, tree.1, shallow Statement ws tree.0 tree.1 few) (λ vs h. same_words source tokens ws vs e h)
sentence_exact source tokens ws true false sentence few e =
    let tree = sentence_is_spelled Statement ws sentence in
    deep ws (record { words = e; tree = tree.0; spells = tree.1 })
    (λ vs h s. let within = nests_shallow Statement vs s.0 s.1 s.2 in let same = same_words source tokens ws vs e h in let both = ap (nests_within (nests (nest 0 0) [])) same in absurd cc) (λ vs h. same_words source tokens ws vs e h)
sentence_exact source tokens ws false within sentence few e =
    none (λ vs h. let right = spelled_is_sentence Statement vs h.tree h.spells in let same = same_words source tokens ws vs e h in let both = ap is_sentence same in absurd cc)

words_exact : (source : List ℕ) (tokens : List Token) (read : Option (List Word)) → words_of source tokens ≡ read → Exact (IsExpression source tokens) NestsWithin (checked_words read)
words_exact source tokens None e = none (λ vs h. let known = h.words in absurd cc)
words_exact source tokens (Some ws) e = sentence_exact source tokens ws (is_sentence ws) (nests_within (nests (nest 0 0) []) ws) refl refl e

pub expression_exact : (source : List ℕ) (tokens : List Token) → Exact (IsExpression source tokens) NestsWithin (expression_of source tokens)
unfolding expression_of
expression_exact source tokens = words_exact source tokens (words_of source tokens) refl

-- no tokens are no expression
pub no_expression : (source : List ℕ) (ws : List Word) → IsExpression source [] ws → ⊥
unfolding words_of accepts_in
no_expression source ws h =
    let sentence = spelled_is_sentence Statement ws h.tree h.spells in
    let known = h.words in
    let same : ws ≡ [] = cc in
    let both = ap is_sentence same in absurd cc

pub used_shallow : (kind : ExpressionKind) (ws : List Word) → NestsWithin ws → IsShallow (used_as kind ws)
used_shallow kind.Byte ws h = h
used_shallow kind.Word ws h = h
used_shallow kind.Restart ws h = h

pub shallow_used : (kind : ExpressionKind) (ws : List Word) → IsShallow (used_as kind ws) → NestsWithin ws
shallow_used kind.Byte ws h = h
shallow_used kind.Word ws h = h
shallow_used kind.Restart ws h = h

-- a body whose expressions are shallow
abbrev pub Shallow : Body → Type 0
Shallow b = All IsShallow b.operands

pub body_is : (b : Body) (what : Code) (operands : List Operand) → b.code ≡ what → b.operands ≡ operands → b ≡ body what operands
body_is b what operands e f = ap (λ c. body c b.operands) e ∙ ap (λ os. body what os) f

-- a code with one expression
pub value_exact : (kind : ExpressionKind) (what : Code) (source : List ℕ) (tokens : List Token)
    → Exact (λ b. (b.code ≡ what) × IsValue source kind tokens b.operands) Shallow (with_expression kind what source tokens)
unfolding operand_of
value_exact kind what source tokens =
    exact-map (λ b. (b.code ≡ what) × IsValue source kind tokens b.operands) Shallow (λ r. with_operands what (one_operand (operand_from kind r))) (λ ws. body what (used_as kind ws ∷ [])) (λ ws. refl) (λ e. refl)
    (λ ws h. (refl, record { words = ws; expression = h; used = refl })) (λ b k. (k.1.words, k.1.expression, body_is b what (used_as kind k.1.words ∷ []) k.0 k.1.used))
    (λ ws h. All-cons IsShallow (used_as kind ws) [] (used_shallow kind ws h) (All-nil IsShallow)) (λ ws h. shallow_used kind ws (All-head IsShallow (used_as kind ws) [] h)) (expression_exact source tokens)

-- codes without an expression

pub bare_exact : (R : Body → Type 0) (what : Code) → R (body what []) → ((b : Body) → R b → (b.code ≡ what) × (b.operands ≡ [])) → Exact R Shallow (Ok (body what []))
bare_exact R what here only = found (body what []) here (All-nil IsShallow) (λ b h. let k = only b h in body_is b what [] k.0 k.1)

plain_exact : (R : Body → Type 0) (i : Instr) → (IsTrue (valid i) → R (body (code.Instr i) [])) → ((b : Body) → R b → (b.code ≡ code.Instr i) × IsTrue (valid i) × (b.operands ≡ [])) → Exact R Shallow (plain (Some i))
plain_exact R i here only =
    elim (cases_Bool (valid i)) [
      | inl holds ↦
          subst (λ v. Exact R Shallow (cond v (Ok (body (code.Instr i) [])) (Err Syntax))) (sym holds) (bare_exact R (code.Instr i) (here holds) (λ b h. let k = only b h in (k.0, k.2)))
      | inr fails ↦
          subst (λ v. Exact R Shallow (cond v (Ok (body (code.Instr i) [])) (Err Syntax))) (sym fails) (none (λ b h. let k = (only b h).1 in absurd cc))
    ]

-- an instruction alone
pub alone_exact : (i : Instr) (tokens : List Token) → Exact (λ b. (b.code ≡ code.Instr i) × IsTrue (valid i) × IsBare tokens b.operands) Shallow (plain (alone i tokens))
alone_exact i [] = plain_exact (λ b. (b.code ≡ code.Instr i) × IsTrue (valid i) × IsBare [] b.operands) i (λ v. (refl, v, (refl, refl))) (λ b h. (h.0, h.1, h.2.1))
alone_exact i (token ∷ rest) = none (λ b h. let some = h.2.0 in absurd cc)

-- a word alone that stands for one of these, and the same with a comma and an expression behind it

abbrev pub HasWord : {Y : Type 0} → List ℕ → (Y → List ℕ) → (Y → Instr) → List Token → Body → Type 0
HasWord {Y = Y} source name f tokens b = (y : Y) × (b.code ≡ code.Instr (f y)) × IsTrue (valid (f y)) × IsWord source (name y) tokens b.operands

abbrev pub HasLoad : {Y : Type 0} → List ℕ → (Y → List ℕ) → (Y → Instr) → ExpressionKind → List Token → Body → Type 0
HasLoad {Y = Y} source name f kind tokens b = (y : Y) × (b.code ≡ code.Instr (f y)) × IsLoad source (name y) kind tokens b.operands

abbrev pub one_word : {Y : Type 0} → (Token → Option Y) → (Y → Instr) → List Token → Option Instr
one_word at f [] = None
one_word at f (only ∷ []) = option_map f (at only)
one_word at f (token ∷ next ∷ rest) = None

abbrev pub one_load : {Y : Type 0} → List ℕ → (Token → Option Y) → (Y → Instr) → ExpressionKind → List Token → Result Body ParseRefusal
one_load source at f kind [] = Err Syntax
one_load source at f kind (first ∷ []) = Err Syntax
one_load source at f kind (first ∷ comma ∷ rest) = cond (is_comma source comma) (load_with kind (option_map f (at first)) source rest) (Err Syntax)

module _ {Y : Type 0} (source : List ℕ) (at : Token → Option Y) (name : Y → List ℕ) (says : (token : Token) (y : Y) → (at token ≡ Some y) ↔ Says source (name y) token) (f : Y → Instr) where
  by_word : (only : Token) (read : Option Y) → at only ≡ read → Exact (HasWord source name f (only ∷ [])) Shallow (plain (option_map f read))
  by_word only None e = none (λ b h. let whole = h.3.whole in let token : only ≡ h.3.token = cc in let says_it = (says h.3.token h.0).1 h.3.says in let same = ap at token in absurd cc)
  by_word only (Some y) e =
      plain_exact (HasWord source name f (only ∷ [])) (f y) (λ v. (y, refl, v, record { token = only; whole = refl; says = (says only y).0 e; alone = refl }))
      (λ b h.
      let whole = h.3.whole in
      let token : only ≡ h.3.token = cc in
      let says_it = (says h.3.token h.0).1 h.3.says in
      let same = ap at token in
      let word : h.0 ≡ y = cc in (h.1 ∙ ap (λ z. code.Instr (f z)) word, subst (λ z. IsTrue (valid (f z))) word h.2, h.3.alone))

  pub word_exact : (tokens : List Token) → Exact (HasWord source name f tokens) Shallow (plain (one_word at f tokens))
  word_exact [] = none (λ b h. let whole = h.3.whole in absurd cc)
  word_exact (only ∷ []) = by_word only (at only) refl
  word_exact (token ∷ next ∷ rest) = none (λ b h. let whole = h.3.whole in absurd cc)

  load_by : (kind : ExpressionKind) (first comma : Token) (rest : List Token) (read : Option Y) → at first ≡ read → is_comma source comma ≡ true
      → Exact (HasLoad source name f kind (first ∷ comma ∷ rest)) Shallow (load_with kind (option_map f read) source rest)
  load_by kind first comma rest None e divided = none (λ b h. let whole = h.2.whole in let token : first ≡ h.2.first = cc in let says_it = (says h.2.first h.0).1 h.2.says in let same = ap at token in absurd cc)
  load_by kind first comma rest (Some y) e divided =
      exact-same (λ b h. (y, h.0, record { first = first; comma = comma; rest = rest; whole = refl; says = (says first y).0 e; divided = divided; value = h.1 }))
      (λ b h.
      let whole = h.2.whole in
      let token : first ≡ h.2.first = cc in
      let says_it = (says h.2.first h.0).1 h.2.says in
      let same = ap at token in
      let word : h.0 ≡ y = cc in
      let behind : h.2.rest ≡ rest = cc in (h.1 ∙ ap (λ z. code.Instr (f z)) word, subst (λ ts. IsValue source kind ts b.operands) behind h.2.value))
      (value_exact kind (code.Instr (f y)) source rest)

  pub load_exact : (kind : ExpressionKind) (tokens : List Token) → Exact (HasLoad source name f kind tokens) Shallow (one_load source at f kind tokens)
  load_exact kind [] = none (λ b h. let whole = h.2.whole in absurd cc)
  load_exact kind (first ∷ []) = none (λ b h. let whole = h.2.whole in absurd cc)
  load_exact kind (first ∷ comma ∷ rest) =
      let P : Bool → Type 0 = λ v. Exact (HasLoad source name f kind (first ∷ comma ∷ rest)) Shallow (cond v (load_with kind (option_map f (at first)) source rest) (Err Syntax)) in
      elim (cases_Bool (is_comma source comma)) [
        | inl holds ↦ subst P (sym holds) (load_by kind first comma rest (at first) refl holds)
        | inr fails ↦ subst P (sym fails) (none (λ b h. let whole = h.2.whole in let token : comma ≡ h.2.comma = cc in let same = ap (is_comma source) token in let divided = h.2.divided in absurd cc))
      ]

-- MOV
abbrev pub HasMove : List ℕ → List Token → Body → Type 0
HasMove source tokens b = (to : Arg) × (from : Arg) × (b.code ≡ code.Instr (instr.Mov to from)) × IsTrue (valid (instr.Mov to from)) × AreWords source (arg_name to) (arg_name from) tokens b.operands

-- the words of a MOV at its tokens
says_left : (source : List ℕ) (to comma from : Token) (b : Body) (h : HasMove source (to ∷ comma ∷ from ∷ []) b) → (arg_at source to ≡ Some h.0) × (is_comma source comma ≡ true) × (arg_at source from ≡ Some h.1)
says_left source to comma from b h =
    let whole = h.4.whole in
    let first : to ≡ h.4.first = cc in
    let middle : comma ≡ h.4.comma = cc in
    let second : from ≡ h.4.second = cc in (
      ap (arg_at source) first ∙ (arg_says source h.4.first h.0).1 h.4.left,
      ap (is_comma source) middle ∙ h.4.divided,
      ap (arg_at source) second ∙ (arg_says source h.4.second h.1).1 h.4.right,
    )

moved_exact : (source : List ℕ) (to comma from : Token) (left right : Option Arg) → arg_at source to ≡ left → arg_at source from ≡ right → is_comma source comma ≡ true
    → Exact (HasMove source (to ∷ comma ∷ from ∷ [])) Shallow (plain (moved left right))
moved_exact source to comma from None right e g divided = none (λ b h. let said = (says_left source to comma from b h).0 in absurd cc)
moved_exact source to comma from (Some y) None e g divided = none (λ b h. let said = (says_left source to comma from b h).2 in absurd cc)
moved_exact source to comma from (Some y) (Some z) e g divided =
    plain_exact (HasMove source (to ∷ comma ∷ from ∷ [])) (instr.Mov y z)
    (λ v. (y, z, refl, v, record { first = to; comma = comma; second = from; whole = refl; left = (arg_says source to y).0 e; divided = divided; right = (arg_says source from z).0 g; alone = refl }))
    (λ b h.
    let said = says_left source to comma from b h in
    let left = said.0 in
    let right = said.2 in
    let one : h.0 ≡ y = cc in
    let other : h.1 ≡ z = cc in
    let same : instr.Mov h.0 h.1 ≡ instr.Mov y z = cc in (h.2 ∙ ap (λ i. code.Instr i) same, subst (λ i. IsTrue (valid i)) same h.3, h.4.alone))

pub move_exact : (source : List ℕ) (tokens : List Token) → Exact (HasMove source tokens) Shallow (plain (move_instr source tokens))
unfolding move_instr
move_exact source [] = none (λ b h. let whole = h.4.whole in absurd cc)
move_exact source (to ∷ []) = none (λ b h. let whole = h.4.whole in absurd cc)
move_exact source (to ∷ comma ∷ []) = none (λ b h. let whole = h.4.whole in absurd cc)
move_exact source (to ∷ comma ∷ from ∷ []) =
    let P : Bool → Type 0 = λ v. Exact (HasMove source (to ∷ comma ∷ from ∷ [])) Shallow (plain (cond v (moved (arg_at source to) (arg_at source from)) None)) in
    elim (cases_Bool (is_comma source comma)) [
      | inl holds ↦ subst P (sym holds) (moved_exact source to comma from (arg_at source to) (arg_at source from) refl refl holds)
      | inr fails ↦ subst P (sym fails) (none (λ b h. let said = (says_left source to comma from b h).1 in absurd cc))
    ]
move_exact source (to ∷ comma ∷ from ∷ next ∷ rest) = none (λ b h. let whole = h.4.whole in absurd cc)

-- END
pub end_exact : (source : List ℕ) (tokens : List Token) → Exact (λ b. (b.code ≡ code.End) × (IsBare tokens b.operands ⊎ IsValue source kind.Word tokens b.operands)) Shallow (end_body source tokens)
end_exact source [] =
    bare_exact (λ b. (b.code ≡ code.End) × (IsBare [] b.operands ⊎ IsValue source kind.Word [] b.operands)) code.End (refl, inl (refl, refl))
    (λ b h. (h.0, elim h.1 [ inl bare ↦ bare.1 | inr value ↦ absurd (no_expression source value.words value.expression) ]))
end_exact source (token ∷ rest) =
    exact-same (λ b h. (h.0, inr h.1)) (λ b h. (h.0, elim h.1 [ inl bare ↦ (let some = bare.0 in absurd cc) | inr value ↦ value ])) (value_exact kind.Word code.End source (token ∷ rest))
