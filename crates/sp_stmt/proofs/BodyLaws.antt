-- What stands behind a mnemonic or directive is read exactly.
use Rattle.std.proofs.Common.{◌≡◌, ℕ, Bool, true, false, cond, List, [], ◌∷◌, Option, Some, None, Err, refl, sym, ap, subst, ◌∙◌, inl, inr}
use Rattle.std.specs.Prelude.{nat_lt, ◌⊎◌, IsTrue, codes}
use Rattle.std.specs.Option.{option_map}
use Rattle.sp_base.specs.declared.pair.Pair.{Pair}
use Rattle.sp_lex.specs.declared.token.Token.{Token}
use Rattle.sp_lex.specs.declared.token.TokenKind.{TokenKind}
use Rattle.sp_lex.specs.declared.token.TokenKind.TheVariants as tokens
use Rattle.sp_expr.specs.declared.refusal.ParseRefusal.TheVariants.{Syntax}
use Rattle.sp_expr.specs.Words.{words_of, with_word}
use Rattle.sp_isa.specs.declared.instr.Arg.{Arg}
use Rattle.sp_isa.specs.declared.instr.StackPair.{StackPair}
use Rattle.sp_isa.specs.declared.instr.Instr.{Instr}
use Rattle.sp_isa.specs.declared.instr.Instr.TheVariants as instr
use Rattle.sp_isa.specs.Code.{valid}
use Rattle.sp_stmt.specs.declared.body.Body.{Body}
use Rattle.sp_words.specs.declared.mnemonic.DataKind.{DataKind}
use Rattle.sp_words.specs.declared.mnemonic.DataKind.TheVariants.{Bytes, Words}
use Rattle.sp_words.specs.declared.mnemonic.ExpressionKind.{ExpressionKind}
use Rattle.sp_words.specs.declared.mnemonic.ExpressionKind.TheVariants as kind
use Rattle.sp_words.specs.declared.mnemonic.Load.TheVariants as load
use Rattle.sp_words.specs.declared.mnemonic.Mnemonic.{Mnemonic}
use Rattle.sp_words.specs.declared.mnemonic.Mnemonic.TheVariants as mnemonic
use Rattle.sp_words.specs.declared.mnemonic.PairForm.{PairForm}
use Rattle.sp_words.specs.declared.mnemonic.PairForm.TheVariants.{Dad, Inx, Dcx, Stax, Ldax}
use Rattle.sp_words.specs.declared.mnemonic.RegisterForm.{RegisterForm}
use Rattle.sp_words.specs.declared.mnemonic.RegisterForm.TheVariants.{Inr, Dcr, Alu}
use Rattle.sp_words.specs.declared.mnemonic.StackForm.{StackForm}
use Rattle.sp_words.specs.declared.mnemonic.StackForm.TheVariants.{Push, Pop}
use Rattle.sp_stmt.specs.declared.operand.Operand.{Operand}
use Rattle.sp_stmt.specs.declared.statement.Code.{Code}
use Rattle.sp_stmt.specs.declared.statement.Code.TheVariants as code
use Rattle.sp_stmt.specs.code.Bodies.{body, with_register, with_pair, with_stack_pair, moved, plain, with_operands, with_expression, load_with, load_body, register_instr, pair_instr, stack_instr, move_instr, body_of}
use Rattle.sp_stmt.specs.code.Data.{in_front, items_of, if_text, lone_text, byte_item, item_of, behind, one_operand, data_of}
use Rattle.sp_stmt.specs.code.Expressions.{checked_words, expression_of, operand_from, operand_of}
use Rattle.sp_words.specs.Registers.{arg_name, pair_name, stack_pair_name}
use Rattle.sp_stmt.specs.Grammar.{Says, IsBare, IsWord, IsValue, AreItems, StandsBehind, AreOperandsOf, IsCode}
use Rattle.sp_words.specs.Manual.{mnemonic_of, form_of}
use Rattle.sp_words.specs.code.Tables.{mnemonic_named}
use Rattle.sp_stmt.specs.Tokens.{is_comma, arg_at, pair_at, stack_pair_at, mnemonic_at}
use Rattle.sp_stmt.proofs.DataFormLaws.{data_exact}
use Rattle.sp_stmt.proofs.ExactLaws.{Exact, none, exact-map, exact-none}
use Rattle.sp_stmt.proofs.FormLaws.{Shallow, body_is, value_exact, alone_exact, HasWord, HasLoad, HasMove, one_word, one_load, word_exact, load_exact, move_exact, end_exact}
use Rattle.sp_stmt.proofs.ItemLaws.{behind-syntax}
use Rattle.sp_stmt.proofs.MarkLaws.{StandsInNone}
use Rattle.sp_stmt.proofs.NameLemmas.{arg_says, pair_says, stack_pair_says, manual_name, mnemonic_says, mnemonic_said}
use Rattle.sp_words.proofs.NameLemmas.{mnemonic_found}

-- what stands behind a mnemonic or directive, by the form of its operands
abbrev pub Behind : Mnemonic → List ℕ → List Token → Body → Type 0
Behind (mnemonic.Alone i) source tokens b = (b.code ≡ code.Instr i) × IsTrue (valid i) × IsBare tokens b.operands
Behind (mnemonic.Register form) source tokens b = HasWord source arg_name (with_register form) tokens b
Behind (mnemonic.Pair form) source tokens b = HasWord source pair_name (with_pair form) tokens b
Behind (mnemonic.Stack form) source tokens b = HasWord source stack_pair_name (with_stack_pair form) tokens b
Behind mnemonic.Move source tokens b = HasMove source tokens b
Behind (mnemonic.Load load.Byte) source tokens b = HasLoad source arg_name (λ to. instr.Mvi to 0) kind.Byte tokens b
Behind (mnemonic.Load load.Word) source tokens b = HasLoad source pair_name (λ p. instr.Lxi p 0) kind.Word tokens b
Behind (mnemonic.Expression kind i) source tokens b = (b.code ≡ code.Instr i) × IsValue source kind tokens b.operands
Behind (mnemonic.Data kind) source tokens b = (b.code ≡ code.Data) × AreItems source kind tokens b.operands
Behind mnemonic.Space source tokens b = (b.code ≡ code.Space) × IsValue source kind.Word tokens b.operands
Behind mnemonic.Org source tokens b = (b.code ≡ code.Org) × IsValue source kind.Word tokens b.operands
Behind (mnemonic.Assignment form) source tokens b = ⊥
Behind mnemonic.End source tokens b = (b.code ≡ code.End) × (IsBare tokens b.operands ⊎ IsValue source kind.Word tokens b.operands)

register_word : (source : List ℕ) (form : RegisterForm) (tokens : List Token) → one_word (arg_at source) (with_register form) tokens ≡ register_instr source form tokens
unfolding register_instr
register_word source form [] = refl
register_word source form (only ∷ []) = refl
register_word source form (token ∷ next ∷ rest) = refl

pair_word : (source : List ℕ) (form : PairForm) (tokens : List Token) → one_word (pair_at source) (with_pair form) tokens ≡ pair_instr source form tokens
unfolding pair_instr
pair_word source form [] = refl
pair_word source form (only ∷ []) = refl
pair_word source form (token ∷ next ∷ rest) = refl

stack_word : (source : List ℕ) (form : StackForm) (tokens : List Token) → one_word (stack_pair_at source) (with_stack_pair form) tokens ≡ stack_instr source form tokens
unfolding stack_instr
stack_word source form [] = refl
stack_word source form (only ∷ []) = refl
stack_word source form (token ∷ next ∷ rest) = refl

byte_load : (source : List ℕ) (tokens : List Token) → one_load source (arg_at source) (λ to. instr.Mvi to 0) kind.Byte tokens ≡ load_body load.Byte source tokens
unfolding load_body
byte_load source [] = refl
byte_load source (to ∷ []) = refl
byte_load source (to ∷ comma ∷ value) = refl

word_load : (source : List ℕ) (tokens : List Token) → one_load source (pair_at source) (λ p. instr.Lxi p 0) kind.Word tokens ≡ load_body load.Word source tokens
unfolding load_body
word_load source [] = refl
word_load source (to ∷ []) = refl
word_load source (to ∷ comma ∷ value) = refl

pub body_exact : (m : Mnemonic) (source : List ℕ) (tokens : List Token) → Exact (Behind m source tokens) Shallow (body_of m source tokens)
unfolding body_of
body_exact (mnemonic.Alone i) source tokens = alone_exact i tokens
body_exact (mnemonic.Register form) source tokens =
    subst (λ r. Exact (HasWord source arg_name (with_register form) tokens) Shallow (plain r)) (register_word source form tokens) (word_exact source (arg_at source) arg_name (arg_says source) (with_register form) tokens)
body_exact (mnemonic.Pair form) source tokens =
    subst (λ r. Exact (HasWord source pair_name (with_pair form) tokens) Shallow (plain r)) (pair_word source form tokens) (word_exact source (pair_at source) pair_name (pair_says source) (with_pair form) tokens)
body_exact (mnemonic.Stack form) source tokens =
    subst (λ r. Exact (HasWord source stack_pair_name (with_stack_pair form) tokens) Shallow (plain r)) (stack_word source form tokens)
    (word_exact source (stack_pair_at source) stack_pair_name (stack_pair_says source) (with_stack_pair form) tokens)
body_exact mnemonic.Move source tokens = move_exact source tokens
body_exact (mnemonic.Load load.Byte) source tokens =
    subst (Exact (HasLoad source arg_name (λ to. instr.Mvi to 0) kind.Byte tokens) Shallow) (byte_load source tokens) (load_exact source (arg_at source) arg_name (arg_says source) (λ to. instr.Mvi to 0) kind.Byte tokens)
body_exact (mnemonic.Load load.Word) source tokens =
    subst (Exact (HasLoad source pair_name (λ p. instr.Lxi p 0) kind.Word tokens) Shallow) (word_load source tokens) (load_exact source (pair_at source) pair_name (pair_says source) (λ p. instr.Lxi p 0) kind.Word tokens)
body_exact (mnemonic.Expression kind i) source tokens = value_exact kind (code.Instr i) source tokens
body_exact (mnemonic.Data kind) source tokens =
    exact-map (Behind (mnemonic.Data kind) source tokens) Shallow (with_operands code.Data) (λ os. body code.Data os) (λ os. refl) (λ e. refl) (λ os h. (refl, h)) (λ b k. (b.operands, k.1, body_is b code.Data b.operands k.0 refl)) (λ os h. h) (λ os h. h)
    (data_exact kind source tokens)
body_exact mnemonic.Space source tokens = value_exact kind.Word code.Space source tokens
body_exact mnemonic.Org source tokens = value_exact kind.Word code.Org source tokens
body_exact (mnemonic.Assignment form) source tokens = none (λ b h. h)
body_exact mnemonic.End source tokens = end_exact source tokens

-- the operands of an instruction have the form that stands behind its mnemonic
operands_behind : (i : Instr) (source : List ℕ) (tokens : List Token) (os : List Operand) → IsTrue (valid i) → AreOperandsOf source i tokens os → Behind (form_of i) source tokens (body (code.Instr i) os)
operands_behind (instr.Mov to from) source tokens os v h = (to, from, refl, v, h)
operands_behind (instr.Mvi to n) source tokens os v h = (to, ap (λ k. code.Instr (instr.Mvi to k)) h.0, h.1)
operands_behind (instr.Inr y) source tokens os v h = (y, refl, v, h)
operands_behind (instr.Dcr y) source tokens os v h = (y, refl, v, h)
operands_behind (instr.Alu o y) source tokens os v h = (y, refl, v, h)
operands_behind (instr.AluImmediate o n) source tokens os v h = (ap (λ k. code.Instr (instr.AluImmediate o k)) h.0, h.1)
operands_behind (instr.Lxi p w) source tokens os v h = (p, ap (λ k. code.Instr (instr.Lxi p k)) h.0, h.1)
operands_behind (instr.Dad p) source tokens os v h = (p, refl, v, h)
operands_behind (instr.Inx p) source tokens os v h = (p, refl, v, h)
operands_behind (instr.Dcx p) source tokens os v h = (p, refl, v, h)
operands_behind (instr.Stax p) source tokens os v h = (p, refl, v, h)
operands_behind (instr.Ldax p) source tokens os v h = (p, refl, v, h)
operands_behind (instr.Shld w) source tokens os v h = (ap (λ k. code.Instr (instr.Shld k)) h.0, h.1)
operands_behind (instr.Lhld w) source tokens os v h = (ap (λ k. code.Instr (instr.Lhld k)) h.0, h.1)
operands_behind (instr.Sta w) source tokens os v h = (ap (λ k. code.Instr (instr.Sta k)) h.0, h.1)
operands_behind (instr.Lda w) source tokens os v h = (ap (λ k. code.Instr (instr.Lda k)) h.0, h.1)
operands_behind instr.Rlc source tokens os v h = (refl, v, h)
operands_behind instr.Rrc source tokens os v h = (refl, v, h)
operands_behind instr.Ral source tokens os v h = (refl, v, h)
operands_behind instr.Rar source tokens os v h = (refl, v, h)
operands_behind instr.Daa source tokens os v h = (refl, v, h)
operands_behind instr.Cma source tokens os v h = (refl, v, h)
operands_behind instr.Stc source tokens os v h = (refl, v, h)
operands_behind instr.Cmc source tokens os v h = (refl, v, h)
operands_behind (instr.Push p) source tokens os v h = (p, refl, v, h)
operands_behind (instr.Pop p) source tokens os v h = (p, refl, v, h)
operands_behind (instr.Jmp w) source tokens os v h = (ap (λ k. code.Instr (instr.Jmp k)) h.0, h.1)
operands_behind (instr.Jcc when w) source tokens os v h = (ap (λ k. code.Instr (instr.Jcc when k)) h.0, h.1)
operands_behind (instr.Call w) source tokens os v h = (ap (λ k. code.Instr (instr.Call k)) h.0, h.1)
operands_behind (instr.Ccc when w) source tokens os v h = (ap (λ k. code.Instr (instr.Ccc when k)) h.0, h.1)
operands_behind instr.Ret source tokens os v h = (refl, v, h)
operands_behind (instr.Rcc when) source tokens os v h = (refl, v, h)
operands_behind (instr.Rst n) source tokens os v h = (ap (λ k. code.Instr (instr.Rst k)) h.0, h.1)
operands_behind instr.Pchl source tokens os v h = (refl, v, h)
operands_behind instr.Sphl source tokens os v h = (refl, v, h)
operands_behind instr.Xthl source tokens os v h = (refl, v, h)
operands_behind instr.Xchg source tokens os v h = (refl, v, h)
operands_behind (instr.In n) source tokens os v h = (ap (λ k. code.Instr (instr.In k)) h.0, h.1)
operands_behind (instr.Out n) source tokens os v h = (ap (λ k. code.Instr (instr.Out k)) h.0, h.1)
operands_behind instr.Nop source tokens os v h = (refl, v, h)
operands_behind instr.Ei source tokens os v h = (refl, v, h)
operands_behind instr.Di source tokens os v h = (refl, v, h)
operands_behind instr.Hlt source tokens os v h = (refl, v, h)

-- the same of the forms that name the instruction
abbrev Own : Mnemonic → Instr → List ℕ → List Token → List Operand → Type 0
Own (mnemonic.Alone j) i source tokens os = IsTrue (valid i) × IsBare tokens os
Own (mnemonic.Expression kind j) i source tokens os = (i ≡ j) × IsValue source kind tokens os
Own _ i source tokens os = ⊥

own_operands : (i : Instr) (source : List ℕ) (tokens : List Token) (os : List Operand) → Own (form_of i) i source tokens os → IsTrue (valid i) × AreOperandsOf source i tokens os
own_operands (instr.Mov to from) source tokens os h = absurd h
own_operands (instr.Mvi to n) source tokens os h = absurd h
own_operands (instr.Inr y) source tokens os h = absurd h
own_operands (instr.Dcr y) source tokens os h = absurd h
own_operands (instr.Alu o y) source tokens os h = absurd h
own_operands (instr.AluImmediate o n) source tokens os h = let same = h.0 in let zero : n ≡ 0 = cc in (refl, (zero, h.1))
own_operands (instr.Lxi p w) source tokens os h = absurd h
own_operands (instr.Dad p) source tokens os h = absurd h
own_operands (instr.Inx p) source tokens os h = absurd h
own_operands (instr.Dcx p) source tokens os h = absurd h
own_operands (instr.Stax p) source tokens os h = absurd h
own_operands (instr.Ldax p) source tokens os h = absurd h
own_operands (instr.Shld w) source tokens os h = let same = h.0 in let zero : w ≡ 0 = cc in (refl, (zero, h.1))
own_operands (instr.Lhld w) source tokens os h = let same = h.0 in let zero : w ≡ 0 = cc in (refl, (zero, h.1))
own_operands (instr.Sta w) source tokens os h = let same = h.0 in let zero : w ≡ 0 = cc in (refl, (zero, h.1))
own_operands (instr.Lda w) source tokens os h = let same = h.0 in let zero : w ≡ 0 = cc in (refl, (zero, h.1))
own_operands instr.Rlc source tokens os h = h
own_operands instr.Rrc source tokens os h = h
own_operands instr.Ral source tokens os h = h
own_operands instr.Rar source tokens os h = h
own_operands instr.Daa source tokens os h = h
own_operands instr.Cma source tokens os h = h
own_operands instr.Stc source tokens os h = h
own_operands instr.Cmc source tokens os h = h
own_operands (instr.Push p) source tokens os h = absurd h
own_operands (instr.Pop p) source tokens os h = absurd h
own_operands (instr.Jmp w) source tokens os h = let same = h.0 in let zero : w ≡ 0 = cc in (refl, (zero, h.1))
own_operands (instr.Jcc when w) source tokens os h = let same = h.0 in let zero : w ≡ 0 = cc in (refl, (zero, h.1))
own_operands (instr.Call w) source tokens os h = let same = h.0 in let zero : w ≡ 0 = cc in (refl, (zero, h.1))
own_operands (instr.Ccc when w) source tokens os h = let same = h.0 in let zero : w ≡ 0 = cc in (refl, (zero, h.1))
own_operands instr.Ret source tokens os h = h
own_operands (instr.Rcc when) source tokens os h = h
own_operands (instr.Rst n) source tokens os h = let same = h.0 in let zero : n ≡ 0 = cc in (ap (λ k. nat_lt k 8) zero, (zero, h.1))
own_operands instr.Pchl source tokens os h = h
own_operands instr.Sphl source tokens os h = h
own_operands instr.Xthl source tokens os h = h
own_operands instr.Xchg source tokens os h = h
own_operands (instr.In n) source tokens os h = let same = h.0 in let zero : n ≡ 0 = cc in (refl, (zero, h.1))
own_operands (instr.Out n) source tokens os h = let same = h.0 in let zero : n ≡ 0 = cc in (refl, (zero, h.1))
own_operands instr.Nop source tokens os h = h
own_operands instr.Ei source tokens os h = h
own_operands instr.Di source tokens os h = h
own_operands instr.Hlt source tokens os h = h

-- a code is what stands behind a mnemonic or directive

-- what a word at the front stands for, and what is behind it
told : (source : List ℕ) (word : List ℕ) (first : Token) (rest behind : List Token) (m : Mnemonic) → StandsBehind source word (first ∷ rest) behind → mnemonic_named word ≡ Some m → (mnemonic_at source first ≡ Some m) × (behind ≡ rest)
told source word first rest behind m h e =
    let whole = h.whole in
    let token : first ≡ h.first = cc in
    let same : behind ≡ rest = cc in (ap (mnemonic_at source) token ∙ mnemonic_said source h.first word m h.says e, same)

abbrev IsBehind : List ℕ → Token → List Token → Code → List Operand → Type 0
IsBehind source first rest what os = (m : Mnemonic) × (mnemonic_at source first ≡ Some m) × Behind m source rest (body what os)

pub code_behind : (source : List ℕ) (first : Token) (rest : List Token) (what : Code) (os : List Operand) → IsCode source (first ∷ rest) what os → (m : Mnemonic) × (mnemonic_at source first ≡ Some m) × Behind m source rest (body what os)
unfolding mnemonic_named
code_behind source first rest (code.Instr i) os h =
    let t = told source (mnemonic_of i) first rest h.0 (form_of i) h.1 (mnemonic_found i) in (form_of i, t.0, operands_behind i source rest os h.2 (subst (λ ts. AreOperandsOf source i ts os) t.1 h.3))
code_behind source first rest code.Data os h =
    elim h.1 as (λ _. IsBehind source first rest code.Data os) [
      | inl bytes ↦ (let t = told source (codes "DB") first rest h.0 (mnemonic.Data Bytes) bytes.0 refl in (mnemonic.Data Bytes, t.0, (refl, subst (λ ts. AreItems source Bytes ts os) t.1 bytes.1)))
      | inr words ↦ (let t = told source (codes "DW") first rest h.0 (mnemonic.Data Words) words.0 refl in (mnemonic.Data Words, t.0, (refl, subst (λ ts. AreItems source Words ts os) t.1 words.1)))
    ]
code_behind source first rest code.Space os h = let t = told source (codes "DS") first rest h.0 mnemonic.Space h.1 refl in (mnemonic.Space, t.0, (refl, subst (λ ts. IsValue source kind.Word ts os) t.1 h.2))
code_behind source first rest code.Org os h = let t = told source (codes "ORG") first rest h.0 mnemonic.Org h.1 refl in (mnemonic.Org, t.0, (refl, subst (λ ts. IsValue source kind.Word ts os) t.1 h.2))
code_behind source first rest code.End os h =
    let t = told source (codes "END") first rest h.0 mnemonic.End h.1 refl in (mnemonic.End, t.0, (refl, subst (λ ts. IsBare ts os ⊎ IsValue source kind.Word ts os) t.1 h.2))
code_behind source first rest code.Nothing os h = absurd h
code_behind source first rest (code.Equ name) os h = absurd h
code_behind source first rest (code.Set name) os h = absurd h

-- the code of what stands behind a mnemonic or directive

stands : (source word : List ℕ) (first : Token) (rest : List Token) → Says source word first → StandsBehind source word (first ∷ rest) rest
stands source word first rest says = record { first = first; whole = refl; says = says }

own_code : (i : Instr) (m : Mnemonic) (source : List ℕ) (first : Token) (rest : List Token) (os : List Operand) → Says source (mnemonic_of i) first → mnemonic_named (mnemonic_of i) ≡ Some m → Own m i source rest os
    → IsCode source (first ∷ rest) (code.Instr i) os
own_code i m source first rest os says e h =
    let known = mnemonic_found i in
    let form : m ≡ form_of i = cc in
    let own = own_operands i source rest os (subst (λ n. Own n i source rest os) form h) in (rest, stands source (mnemonic_of i) first rest says, own.0, own.1)

register_code : (form : RegisterForm) (y : Arg) (source : List ℕ) (first : Token) (rest : List Token) (os : List Operand) → Says source (manual_name (mnemonic.Register form)) first → IsTrue (valid (with_register form y)) → IsWord source (arg_name y) rest os
    → IsCode source (first ∷ rest) (code.Instr (with_register form y)) os
register_code Inr y source first rest os says v h = (rest, stands source (codes "INR") first rest says, v, h)
register_code Dcr y source first rest os says v h = (rest, stands source (codes "DCR") first rest says, v, h)
register_code (Alu o) y source first rest os says v h = (rest, stands source (mnemonic_of (instr.Alu o y)) first rest says, v, h)

pair_code : (form : PairForm) (p : Pair) (source : List ℕ) (first : Token) (rest : List Token) (os : List Operand) → Says source (manual_name (mnemonic.Pair form)) first → IsTrue (valid (with_pair form p)) → IsWord source (pair_name p) rest os
    → IsCode source (first ∷ rest) (code.Instr (with_pair form p)) os
pair_code Dad p source first rest os says v h = (rest, stands source (codes "DAD") first rest says, v, h)
pair_code Inx p source first rest os says v h = (rest, stands source (codes "INX") first rest says, v, h)
pair_code Dcx p source first rest os says v h = (rest, stands source (codes "DCX") first rest says, v, h)
pair_code Stax p source first rest os says v h = (rest, stands source (codes "STAX") first rest says, v, h)
pair_code Ldax p source first rest os says v h = (rest, stands source (codes "LDAX") first rest says, v, h)

stack_code : (form : StackForm) (p : StackPair) (source : List ℕ) (first : Token) (rest : List Token) (os : List Operand) → Says source (manual_name (mnemonic.Stack form)) first → IsTrue (valid (with_stack_pair form p)) → IsWord source (stack_pair_name p) rest os
    → IsCode source (first ∷ rest) (code.Instr (with_stack_pair form p)) os
stack_code Push p source first rest os says v h = (rest, stands source (codes "PUSH") first rest says, v, h)
stack_code Pop p source first rest os says v h = (rest, stands source (codes "POP") first rest says, v, h)

-- a body whose code is this
of_code : (source : List ℕ) (tokens : List Token) (b : Body) (what : Code) → b.code ≡ what → IsCode source tokens what b.operands → IsCode source tokens b.code b.operands
of_code source tokens b what e h = subst (λ c. IsCode source tokens c b.operands) (sym e) h

named_code : (m : Mnemonic) (source : List ℕ) (first : Token) (rest : List Token) (b : Body) → Says source (manual_name m) first → mnemonic_named (manual_name m) ≡ Some m → Behind m source rest b → IsCode source (first ∷ rest) b.code b.operands
named_code (mnemonic.Alone i) source first rest b says e h = of_code source (first ∷ rest) b (code.Instr i) h.0 (own_code i (mnemonic.Alone i) source first rest b.operands says e (h.1, h.2))
named_code (mnemonic.Register form) source first rest b says e h = of_code source (first ∷ rest) b (code.Instr (with_register form h.0)) h.1 (register_code form h.0 source first rest b.operands says h.2 h.3)
named_code (mnemonic.Pair form) source first rest b says e h = of_code source (first ∷ rest) b (code.Instr (with_pair form h.0)) h.1 (pair_code form h.0 source first rest b.operands says h.2 h.3)
named_code (mnemonic.Stack form) source first rest b says e h = of_code source (first ∷ rest) b (code.Instr (with_stack_pair form h.0)) h.1 (stack_code form h.0 source first rest b.operands says h.2 h.3)
named_code mnemonic.Move source first rest b says e h = of_code source (first ∷ rest) b (code.Instr (instr.Mov h.0 h.1)) h.2 (rest, stands source (codes "MOV") first rest says, h.3, h.4)
named_code (mnemonic.Load load.Byte) source first rest b says e h = of_code source (first ∷ rest) b (code.Instr (instr.Mvi h.0 0)) h.1 (rest, stands source (codes "MVI") first rest says, refl, (refl, h.2))
named_code (mnemonic.Load load.Word) source first rest b says e h = of_code source (first ∷ rest) b (code.Instr (instr.Lxi h.0 0)) h.1 (rest, stands source (codes "LXI") first rest says, refl, (refl, h.2))
named_code (mnemonic.Expression kind i) source first rest b says e h = of_code source (first ∷ rest) b (code.Instr i) h.0 (own_code i (mnemonic.Expression kind i) source first rest b.operands says e (refl, h.1))
named_code (mnemonic.Data Bytes) source first rest b says e h = of_code source (first ∷ rest) b code.Data h.0 (rest, inl (stands source (codes "DB") first rest says, h.1))
named_code (mnemonic.Data Words) source first rest b says e h = of_code source (first ∷ rest) b code.Data h.0 (rest, inr (stands source (codes "DW") first rest says, h.1))
named_code mnemonic.Space source first rest b says e h = of_code source (first ∷ rest) b code.Space h.0 (rest, stands source (codes "DS") first rest says, h.1)
named_code mnemonic.Org source first rest b says e h = of_code source (first ∷ rest) b code.Org h.0 (rest, stands source (codes "ORG") first rest says, h.1)
named_code (mnemonic.Assignment form) source first rest b says e h = absurd h
named_code mnemonic.End source first rest b says e h = of_code source (first ∷ rest) b code.End h.0 (rest, stands source (codes "END") first rest says, h.1)

pub behind_code : (m : Mnemonic) (source : List ℕ) (first : Token) (rest : List Token) (b : Body) → mnemonic_at source first ≡ Some m → Behind m source rest b → IsCode source (first ∷ rest) b.code b.operands
behind_code m source first rest b e h = let says = mnemonic_says source first m e in named_code m source first rest b says.0 says.1 h

-- what stands in no operand stands behind no mnemonic or directive

words_none : (source : List ℕ) (token : Token) (rest : List Token) → StandsInNone source token → words_of source (token ∷ rest) ≡ None
unfolding words_of
words_none source token rest h = ap (λ w. with_word w (words_of source rest)) h.no_word

value_none : (kind : ExpressionKind) (what : Code) (source : List ℕ) (token : Token) (rest : List Token) → StandsInNone source token → with_expression kind what source (token ∷ rest) ≡ Err Syntax
unfolding operand_of expression_of
value_none kind what source token rest h = ap (λ ws. with_operands what (one_operand (operand_from kind (checked_words ws)))) (words_none source token rest h)

no_kind : (kind : TokenKind) (token : Token) → ¬ (kind ≡ tokens.Text) → if_text kind token ≡ None
no_kind tokens.Text token h = absurd (h refl)
no_kind tokens.Name token h = refl
no_kind tokens.Number token h = refl
no_kind tokens.Symbol token h = refl

not_lone : (token : Token) (rest : List Token) → ¬ (token.kind ≡ tokens.Text) → lone_text (token ∷ rest) ≡ None
not_lone token [] h = no_kind token.kind token h
not_lone token (next ∷ rest) h = refl

item_none : (kind : DataKind) (source : List ℕ) (token : Token) (rest : List Token) → StandsInNone source token → item_of kind source (token ∷ rest) ≡ Err Syntax
unfolding item_of operand_of expression_of
item_none Bytes source token rest h =
    ap (λ alone. byte_item alone source (token ∷ rest)) (not_lone token rest h.no_text) ∙ ap (λ ws. operand_from kind.Byte (checked_words ws)) (words_none source token rest h)
item_none Words source token rest h = ap (λ ws. operand_from kind.Word (checked_words ws)) (words_none source token rest h)

front_none : (kind : DataKind) (source : List ℕ) (token : Token) (items : List (List Token)) → StandsInNone source token → data_of kind source (in_front token items) ≡ Err Syntax
unfolding data_of
front_none kind source token [] h = ap (λ r. behind (one_operand r) (data_of kind source [])) (item_none kind source token [] h) ∙ behind-syntax (data_of kind source [])
front_none kind source token (item ∷ items) h = ap (λ r. behind (one_operand r) (data_of kind source items)) (item_none kind source token item h) ∙ behind-syntax (data_of kind source items)

data_none : (kind : DataKind) (source : List ℕ) (token : Token) (rest : List Token) → StandsInNone source token → data_of kind source (items_of source (token ∷ rest)) ≡ Err Syntax
unfolding items_of
data_none kind source token rest h =
    ap (λ b. data_of kind source (cond b ([] ∷ items_of source rest) (in_front token (items_of source rest)))) h.no_comma ∙ front_none kind source token (items_of source rest) h

word_none : {Y : Type 0} (at : Token → Option Y) (f : Y → Instr) (token : Token) (rest : List Token) → at token ≡ None → one_word at f (token ∷ rest) ≡ None
word_none at f token [] e = ap (option_map f) e
word_none at f token (next ∷ rest) e = refl

cond_same : {X : Type 0} (b : Bool) (x : X) → cond b x x ≡ x
cond_same true x = refl
cond_same false x = refl

load_none : {Y : Type 0} (source : List ℕ) (at : Token → Option Y) (f : Y → Instr) (kind : ExpressionKind) (token : Token) (rest : List Token) → at token ≡ None → one_load source at f kind (token ∷ rest) ≡ Err Syntax
load_none source at f kind token [] e = refl
load_none source at f kind token (comma ∷ rest) e =
    ap (λ y. cond (is_comma source comma) (load_with kind (option_map f y) source rest) (Err Syntax)) e ∙ cond_same (is_comma source comma) (Err Syntax)

move_none : (source : List ℕ) (token : Token) (rest : List Token) → arg_at source token ≡ None → move_instr source (token ∷ rest) ≡ None
unfolding move_instr
move_none source to [] e = refl
move_none source to (comma ∷ []) e = refl
move_none source to (comma ∷ from ∷ []) e = ap (λ y. cond (is_comma source comma) (moved y (arg_at source from)) None) e ∙ cond_same (is_comma source comma) None
move_none source to (comma ∷ from ∷ next ∷ rest) e = refl

body_none : (m : Mnemonic) (source : List ℕ) (token : Token) (rest : List Token) → StandsInNone source token → body_of m source (token ∷ rest) ≡ Err Syntax
unfolding body_of
body_none (mnemonic.Alone i) source token rest h = refl
body_none (mnemonic.Register form) source token rest h = ap plain (sym (register_word source form (token ∷ rest)) ∙ word_none (arg_at source) (with_register form) token rest h.no_arg)
body_none (mnemonic.Pair form) source token rest h = ap plain (sym (pair_word source form (token ∷ rest)) ∙ word_none (pair_at source) (with_pair form) token rest h.no_pair)
body_none (mnemonic.Stack form) source token rest h = ap plain (sym (stack_word source form (token ∷ rest)) ∙ word_none (stack_pair_at source) (with_stack_pair form) token rest h.no_stack_pair)
body_none mnemonic.Move source token rest h = ap plain (move_none source token rest h.no_arg)
body_none (mnemonic.Load load.Byte) source token rest h = sym (byte_load source (token ∷ rest)) ∙ load_none source (arg_at source) (λ to. instr.Mvi to 0) kind.Byte token rest h.no_arg
body_none (mnemonic.Load load.Word) source token rest h = sym (word_load source (token ∷ rest)) ∙ load_none source (pair_at source) (λ p. instr.Lxi p 0) kind.Word token rest h.no_pair
body_none (mnemonic.Expression kind i) source token rest h = value_none kind (code.Instr i) source token rest h
body_none (mnemonic.Data kind) source token rest h = ap (with_operands code.Data) (data_none kind source token rest h)
body_none mnemonic.Space source token rest h = value_none kind.Word code.Space source token rest h
body_none mnemonic.Org source token rest h = value_none kind.Word code.Org source token rest h
body_none (mnemonic.Assignment form) source token rest h = refl
body_none mnemonic.End source token rest h = value_none kind.Word code.End source token rest h

pub code_none : (source : List ℕ) (first second : Token) (rest : List Token) (what : Code) (os : List Operand) → StandsInNone source second → ¬ IsCode source (first ∷ second ∷ rest) what os
code_none source first second rest what os h code =
    let found = code_behind source first (second ∷ rest) what os code in
    let nothing = (exact-none (body_exact found.0 source (second ∷ rest))).0 (body_none found.0 source second rest h) in nothing (body what os) found.2
