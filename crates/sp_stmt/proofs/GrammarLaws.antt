-- A line is read as the statement that it is.
use Rattle.std.proofs.Common.{◌≡◌, ℕ, Bool, true, false, cond, List, [], ◌∷◌, Option, Some, None, Result, Err, refl, sym, ap, subst, ◌∙◌, inl, inr}
use Rattle.std.specs.Prelude.{◌⊎◌, All}
use Rattle.std.specs.Option.{option_and_then}
use Rattle.std.proofs.lemmas.Bool.{cases_Bool}
use Rattle.std.proofs.lemmas.List.Elements.{All-nil}
use Rattle.sp_lex.specs.declared.token.Token.{Token}
use Rattle.sp_expr.specs.declared.refusal.ParseRefusal.{ParseRefusal}
use Rattle.sp_expr.specs.declared.refusal.ParseRefusal.TheVariants.{Syntax}
use Rattle.sp_words.specs.code.Tables.{is_reserved}
use Rattle.sp_stmt.specs.declared.body.Body.{Body}
use Rattle.sp_words.specs.declared.mnemonic.Assignment.{Assignment}
use Rattle.sp_words.specs.declared.mnemonic.Assignment.TheVariants.{Equ, Set}
use Rattle.sp_words.specs.declared.mnemonic.ExpressionKind.TheVariants as kind
use Rattle.sp_words.specs.declared.mnemonic.Load.TheVariants as load
use Rattle.sp_words.specs.declared.mnemonic.Mnemonic.{Mnemonic}
use Rattle.sp_words.specs.declared.mnemonic.Mnemonic.TheVariants as mnemonic
use Rattle.sp_stmt.specs.declared.operand.Operand.{Operand}
use Rattle.sp_stmt.specs.declared.statement.Code.{Code}
use Rattle.sp_stmt.specs.declared.statement.Code.TheVariants as code
use Rattle.sp_stmt.specs.declared.statement.Statement.{Statement}
use Rattle.sp_stmt.specs.code.Bodies.{body, body_of}
use Rattle.sp_stmt.specs.Grammar.{Says, Names, IsValue, IsShallow, IsCode, IsLabel, Assigns, IsLabelled, IsUnlabelled, IsForm, IsLine}
use Rattle.sp_words.specs.code.Tables.{mnemonic_named}
use Rattle.sp_stmt.specs.code.Reading.{statement, with_body, refuses_label, with_code, coded, labelled, assigning, assigned, unlabelled, statement_of}
use Rattle.sp_stmt.specs.Tokens.{is_colon, name_at, unless_reserved, own_name_at, mnemonic_at, assignment_of, assignment_at}
use Rattle.sp_stmt.proofs.BodyLaws.{Behind, body_exact, code_behind, behind_code, code_none}
use Rattle.sp_stmt.proofs.ExactLaws.{Exact, found, none, exact-same, exact-map}
use Rattle.sp_stmt.proofs.FormLaws.{Shallow, value_exact}
use Rattle.sp_stmt.proofs.MarkLaws.{StandsInNone, colon_no_name, colon_in_none, equ_in_none, set_in_none}
use Rattle.sp_stmt.proofs.NameLemmas.{by_name, manual_name, mnemonic_says, mnemonic_said}

-- a statement whose expressions are shallow
abbrev AllShallow : Statement → Type 0
AllShallow s = All IsShallow s.operands

-- a statement with this number, this label, if any, and such a body
abbrev HasBody : ℕ → Option (List ℕ) → (Body → Type 0) → Statement → Type 0
HasBody number label R s = (s.line.0 ≡ number) × (s.label ≡ label) × R (body s.code s.operands)

statement_is : (s : Statement) (number : ℕ) (label : Option (List ℕ)) → s.line.0 ≡ number → s.label ≡ label → s ≡ statement number label (body s.code s.operands)
statement_is s number label e f = ap (λ n. statement n s.label (body s.code s.operands)) e ∙ ap (λ l. statement number l (body s.code s.operands)) f

with_body_exact : {R : Body → Type 0} {r : Result Body ParseRefusal} (number : ℕ) (label : Option (List ℕ)) → Exact R Shallow r → Exact (HasBody number label R) AllShallow (with_body number label r)
with_body_exact {R = R} number label h =
    exact-map (HasBody number label R) AllShallow (with_body number label) (statement number label) (λ b. refl) (λ e. refl) (λ b k. (refl, refl, k)) (λ s k. (body s.code s.operands, k.2, statement_is s number label k.0 k.1)) (λ b k. k) (λ b k. k) h

-- codes that no label stands before
abbrev stands_alone : Code → Bool
stands_alone code.Org = true
stands_alone code.End = true
stands_alone code.Nothing = false
stands_alone (code.Instr i) = false
stands_alone code.Data = false
stands_alone code.Space = false
stands_alone (code.Equ name) = false
stands_alone (code.Set name) = false

refuses_behind : (m : Mnemonic) (source : List ℕ) (tokens : List Token) (b : Body) → Behind m source tokens b → stands_alone b.code ≡ refuses_label m
refuses_behind (mnemonic.Alone i) source tokens b h = ap stands_alone h.0
refuses_behind (mnemonic.Register form) source tokens b h = ap stands_alone h.1
refuses_behind (mnemonic.Pair form) source tokens b h = ap stands_alone h.1
refuses_behind (mnemonic.Stack form) source tokens b h = ap stands_alone h.1
refuses_behind mnemonic.Move source tokens b h = ap stands_alone h.2
refuses_behind (mnemonic.Load load.Byte) source tokens b h = ap stands_alone h.1
refuses_behind (mnemonic.Load load.Word) source tokens b h = ap stands_alone h.1
refuses_behind (mnemonic.Expression kind i) source tokens b h = ap stands_alone h.0
refuses_behind (mnemonic.Data kind) source tokens b h = ap stands_alone h.0
refuses_behind mnemonic.Space source tokens b h = ap stands_alone h.0
refuses_behind mnemonic.Org source tokens b h = ap stands_alone h.0
refuses_behind (mnemonic.Assignment form) source tokens b h = absurd h
refuses_behind mnemonic.End source tokens b h = ap stands_alone h.0

labelled_is_code : (source : List ℕ) (first : Token) (rest : List Token) (what : Code) (os : List Operand) → IsLabelled source (first ∷ rest) what os → IsCode source (first ∷ rest) what os × (stands_alone what ≡ false)
labelled_is_code source first rest code.Nothing os h = let some = h.0 in absurd cc
labelled_is_code source first rest code.Org os h = absurd h
labelled_is_code source first rest code.End os h = absurd h
labelled_is_code source first rest (code.Instr i) os h = (h, refl)
labelled_is_code source first rest code.Data os h = (h, refl)
labelled_is_code source first rest code.Space os h = (h, refl)
labelled_is_code source first rest (code.Equ name) os h = absurd h
labelled_is_code source first rest (code.Set name) os h = absurd h

code_is_labelled : (source : List ℕ) (tokens : List Token) (what : Code) (os : List Operand) → IsCode source tokens what os → stands_alone what ≡ false → IsLabelled source tokens what os
code_is_labelled source tokens code.Nothing os h e = absurd h
code_is_labelled source tokens code.Org os h e = absurd cc
code_is_labelled source tokens code.End os h e = absurd cc
code_is_labelled source tokens (code.Instr i) os h e = h
code_is_labelled source tokens code.Data os h e = h
code_is_labelled source tokens code.Space os h e = h
code_is_labelled source tokens (code.Equ name) os h e = absurd h
code_is_labelled source tokens (code.Set name) os h e = absurd h

-- a code where there is no label, and behind one
abbrev IsCodeBehind : Option (List ℕ) → List ℕ → List Token → Body → Type 0
IsCodeBehind None source tokens b = IsCode source tokens b.code b.operands
IsCodeBehind (Some label) source tokens b = IsLabelled source tokens b.code b.operands

-- the code at a mnemonic or directive
code_at : (source : List ℕ) (first : Token) (rest : List Token) (m : Mnemonic) (b : Body) → mnemonic_at source first ≡ Some m → IsCode source (first ∷ rest) b.code b.operands → Behind m source rest b
code_at source first rest m b e h =
    let is = code_behind source first rest b.code b.operands h in
    let known = is.1 in
    let same : is.0 ≡ m = cc in subst (λ n. Behind n source rest b) same is.2

labelled_by : (number : ℕ) (label : List ℕ) (source : List ℕ) (first : Token) (rest : List Token) (m : Mnemonic) (refuses : Bool) → mnemonic_at source first ≡ Some m → refuses_label m ≡ refuses
    → Exact (HasBody number (Some label) (IsCodeBehind (Some label) source (first ∷ rest))) AllShallow (cond refuses (Err Syntax) (with_body number (Some label) (body_of m source rest)))
labelled_by number label source first rest m true e refuses =
    none (λ s h.
    let is = labelled_is_code source first rest s.code s.operands h.2 in
    let known = refuses_behind m source rest (body s.code s.operands) (code_at source first rest m (body s.code s.operands) e is.0) in
    let alone = is.1 in absurd cc)
labelled_by number label source first rest m false e refuses =
    with_body_exact number (Some label)
    (exact-same (λ b h. code_is_labelled source (first ∷ rest) b.code b.operands (behind_code m source first rest b e h) (refuses_behind m source rest b h ∙ refuses))
    (λ b h. code_at source first rest m b e (labelled_is_code source first rest b.code b.operands h).0) (body_exact m source rest))

with_code_exact : (number : ℕ) (label : Option (List ℕ)) (source : List ℕ) (first : Token) (rest : List Token) (read : Option Mnemonic) → mnemonic_at source first ≡ read
    → Exact (HasBody number label (IsCodeBehind label source (first ∷ rest))) AllShallow (with_code number label read source rest)
with_code_exact number None source first rest None e = none (λ s h. let known = (code_behind source first rest s.code s.operands h.2).1 in absurd cc)
with_code_exact number (Some label) source first rest None e =
    none (λ s h. let known = (code_behind source first rest s.code s.operands (labelled_is_code source first rest s.code s.operands h.2).0).1 in absurd cc)
with_code_exact number None source first rest (Some m) e =
    with_body_exact number None (exact-same (λ b h. behind_code m source first rest b e h) (λ b h. code_at source first rest m b e h) (body_exact m source rest))
with_code_exact number (Some label) source first rest (Some m) e = labelled_by number label source first rest m (refuses_label m) e refl

coded_exact : (number : ℕ) (label : Option (List ℕ)) (source : List ℕ) (first : Token) (rest : List Token) → Exact (HasBody number label (IsCodeBehind label source (first ∷ rest))) AllShallow (coded number label source (first ∷ rest))
unfolding coded
coded_exact number label source first rest = with_code_exact number label source first rest (mnemonic_at source first) refl

-- no code is nothing, and nothing alone may stand behind a label

no_tokens : (source : List ℕ) (what : Code) (os : List Operand) → ¬ IsCode source [] what os
no_tokens source (code.Instr i) os h = let whole = h.1.whole in absurd cc
no_tokens source code.Data os h = elim h.1 [ inl bytes ↦ (let whole = bytes.0.whole in absurd cc) | inr words ↦ (let whole = words.0.whole in absurd cc) ]
no_tokens source code.Space os h = let whole = h.1.whole in absurd cc
no_tokens source code.Org os h = let whole = h.1.whole in absurd cc
no_tokens source code.End os h = let whole = h.1.whole in absurd cc
no_tokens source code.Nothing os h = h
no_tokens source (code.Equ name) os h = h
no_tokens source (code.Set name) os h = h

nothing_labelled : (source : List ℕ) (what : Code) (os : List Operand) → IsLabelled source [] what os → body what os ≡ body code.Nothing []
nothing_labelled source code.Nothing os h = ap (λ all. body code.Nothing all) h.1
nothing_labelled source code.Org os h = absurd h
nothing_labelled source code.End os h = absurd h
nothing_labelled source (code.Instr i) os h = absurd (no_tokens source (code.Instr i) os h)
nothing_labelled source code.Data os h = absurd (no_tokens source code.Data os h)
nothing_labelled source code.Space os h = absurd (no_tokens source code.Space os h)
nothing_labelled source (code.Equ name) os h = absurd h
nothing_labelled source (code.Set name) os h = absurd h

behind_label_exact : (number : ℕ) (label : List ℕ) (source : List ℕ) (rest : List Token) → Exact (HasBody number (Some label) (IsCodeBehind (Some label) source rest)) AllShallow (labelled number (Some label) source rest)
behind_label_exact number label source [] =
    found (statement number (Some label) (body code.Nothing [])) (refl, refl, (refl, refl)) (All-nil IsShallow)
    (λ s h. statement_is s number (Some label) h.0 h.1 ∙ ap (statement number (Some label)) (nothing_labelled source s.code s.operands h.2))
behind_label_exact number label source (first ∷ rest) = coded_exact number (Some label) source first rest

-- a token's own name

unreserved : (known name : List ℕ) (b : Bool) → cond b None (Some known) ≡ Some name → (known ≡ name) × (b ≡ false)
unreserved known name true e = absurd cc
unreserved known name false e = (cc, refl)

own_name : (source : List ℕ) (token : Token) (name : List ℕ) → own_name_at source token ≡ Some name → Names source name token
unfolding own_name_at
own_name source token name e =
    let said = by_name unless_reserved (name_at source token) name e in
    let is = unreserved said.0 name (is_reserved said.0) said.2 in (said.1 ∙ ap (λ n. Some n) is.0, ap is_reserved (sym is.0) ∙ is.1)

named_own : (source : List ℕ) (token : Token) (name : List ℕ) → Names source name token → own_name_at source token ≡ Some name
unfolding own_name_at
named_own source token name h = ap (option_and_then unless_reserved) h.0 ∙ ap (λ b. cond b None (Some name)) h.1

-- EQU and SET

abbrev assignment_name : Assignment → List ℕ
assignment_name form = manual_name (mnemonic.Assignment form)

assigns : (m : Option Mnemonic) (form : Assignment) → assignment_of m ≡ Some form → m ≡ Some (mnemonic.Assignment form)
assigns (Some (mnemonic.Assignment other)) form e = let same : other ≡ form = cc in ap (λ f. Some (mnemonic.Assignment f)) same
assigns (Some (mnemonic.Alone i)) form e = absurd cc
assigns (Some (mnemonic.Register kind)) form e = absurd cc
assigns (Some (mnemonic.Pair kind)) form e = absurd cc
assigns (Some (mnemonic.Stack kind)) form e = absurd cc
assigns (Some mnemonic.Move) form e = absurd cc
assigns (Some (mnemonic.Load kind)) form e = absurd cc
assigns (Some (mnemonic.Expression kind i)) form e = absurd cc
assigns (Some (mnemonic.Data kind)) form e = absurd cc
assigns (Some mnemonic.Space) form e = absurd cc
assigns (Some mnemonic.Org) form e = absurd cc
assigns (Some mnemonic.End) form e = absurd cc
assigns None form e = absurd cc

assignment_says : (source : List ℕ) (token : Token) (form : Assignment) → assignment_at source token ≡ Some form → Says source (assignment_name form) token
unfolding assignment_at
assignment_says source token form e = (mnemonic_says source token (mnemonic.Assignment form) (assigns (mnemonic_at source token) form e)).0

assignment_found : (form : Assignment) → mnemonic_named (assignment_name form) ≡ Some (mnemonic.Assignment form)
unfolding mnemonic_named
assignment_found Equ = refl
assignment_found Set = refl

assignment_said : (source : List ℕ) (token : Token) (form : Assignment) → Says source (assignment_name form) token → assignment_at source token ≡ Some form
unfolding assignment_at
assignment_said source token form says = ap assignment_of (mnemonic_said source token (assignment_name form) (mnemonic.Assignment form) says (assignment_found form))

assignment_in_none : (source : List ℕ) (token : Token) (form : Assignment) → Says source (assignment_name form) token → StandsInNone source token
assignment_in_none source token Equ says = equ_in_none source token says
assignment_in_none source token Set says = set_in_none source token says

-- what two tokens at the front begin: a label, EQU or SET, or a code

is_label : (source name : List ℕ) (first colon : Token) (rest behind : List Token) → IsLabel source name (first ∷ colon ∷ rest) behind → Names source name first × (is_colon source colon ≡ true) × (behind ≡ rest)
is_label source name first colon rest behind h =
    let whole = h.whole in
    let token : h.first ≡ first = cc in
    let mark : colon ≡ h.colon = cc in
    let same : behind ≡ rest = cc in (subst (Names source name) token h.names, ap (is_colon source) mark ∙ h.divided, same)

assigns_all : (source word name : List ℕ) (first second : Token) (rest : List Token) (os : List Operand) → Assigns source word name (first ∷ second ∷ rest) os → Names source name first × Says source word second × IsValue source kind.Word rest os
assigns_all source word name first second rest os h =
    let whole = h.whole in
    let token : h.first ≡ first = cc in
    let other : h.second ≡ second = cc in
    let same : h.rest ≡ rest = cc in (subst (Names source name) token h.names, subst (Says source word) other h.says, subst (λ ts. IsValue source kind.Word ts os) same h.value)

-- where there is no label, a name with EQU or SET stands, or a code
unlabelled_is : (source : List ℕ) (tokens : List Token) (what : Code) (os : List Operand) → IsUnlabelled source tokens what os
    → ((form : Assignment) × (name : List ℕ) × (what ≡ assigning form name) × Assigns source (assignment_name form) name tokens os) ⊎ IsCode source tokens what os
unlabelled_is source tokens (code.Equ name) os h = inl (Equ, name, refl, h)
unlabelled_is source tokens (code.Set name) os h = inl (Set, name, refl, h)
unlabelled_is source tokens code.Nothing os h = inr h
unlabelled_is source tokens (code.Instr i) os h = inr h
unlabelled_is source tokens code.Data os h = inr h
unlabelled_is source tokens code.Space os h = inr h
unlabelled_is source tokens code.Org os h = inr h
unlabelled_is source tokens code.End os h = inr h

code_is_unlabelled : (source : List ℕ) (tokens : List Token) (what : Code) (os : List Operand) → IsCode source tokens what os → IsUnlabelled source tokens what os
code_is_unlabelled source tokens (code.Equ name) os h = absurd h
code_is_unlabelled source tokens (code.Set name) os h = absurd h
code_is_unlabelled source tokens code.Nothing os h = h
code_is_unlabelled source tokens (code.Instr i) os h = h
code_is_unlabelled source tokens code.Data os h = h
code_is_unlabelled source tokens code.Space os h = h
code_is_unlabelled source tokens code.Org os h = h
code_is_unlabelled source tokens code.End os h = h

-- a line of a form with this label, if any, and this code
line_is : (source : List ℕ) (number : ℕ) (tokens : List Token) (s : Statement) (label : Option (List ℕ)) (what : Code) → s.line.0 ≡ number → s.label ≡ label → s.code ≡ what → IsForm source tokens label what s.operands → IsLine source number tokens s
line_is source number tokens s label what e f g h =
    record { line = e; form = subst (λ l. IsForm source tokens l s.code s.operands) (sym f) (subst (λ c. IsForm source tokens label c s.operands) (sym g) h) }

-- behind a name and a colon

abbrev AtColon : List ℕ → Token → List Token → Option (List ℕ) → Code → List Operand → Type 0
AtColon source first rest label what os = (name : List ℕ) × (label ≡ Some name) × (own_name_at source first ≡ Some name) × IsLabelled source rest what os

form_at_colon : (source : List ℕ) (first colon : Token) (rest : List Token) (label : Option (List ℕ)) (what : Code) (os : List Operand) → is_colon source colon ≡ true → IsForm source (first ∷ colon ∷ rest) label what os → AtColon source first rest label what os
form_at_colon source first colon rest (Some name) what os e h =
    let is = is_label source name first colon rest h.0 h.1 in (name, refl, named_own source first name is.0, subst (λ ts. IsLabelled source ts what os) is.2 h.2)
form_at_colon source first colon rest None what os e h =
    absurd (elim (unlabelled_is source (first ∷ colon ∷ rest) what os h) [
      | inl assigned ↦ (
          let parts = assigns_all source (assignment_name assigned.0) assigned.1 first colon rest os assigned.3 in
          let says = parts.1 in
          let silent = colon_no_name source colon e in absurd cc
          )
      | inr code ↦ code_none source first colon rest what os (colon_in_none source colon e) code
    ])

labelled_exact : (source : List ℕ) (number : ℕ) (first colon : Token) (rest : List Token) (own : Option (List ℕ)) → is_colon source colon ≡ true → own_name_at source first ≡ own
    → Exact (IsLine source number (first ∷ colon ∷ rest)) AllShallow (labelled number own source rest)
labelled_exact source number first colon rest None e own = none (λ s h. let known = (form_at_colon source first colon rest s.label s.code s.operands e h.form).2 in absurd cc)
labelled_exact source number first colon rest (Some name) e own =
    exact-same
    (λ s h. line_is source number (first ∷ colon ∷ rest) s (Some name) s.code h.0 h.1 refl (rest, record { first = first; colon = colon; whole = refl; names = own_name source first name own; divided = e }, h.2))
    (λ s h.
    let is = form_at_colon source first colon rest s.label s.code s.operands e h.form in
    let known = is.2 in
    let same : is.0 ≡ name = cc in (h.line, is.1 ∙ ap (λ n. Some n) same, is.3))
    (behind_label_exact number name source rest)

-- behind a name and EQU or SET

abbrev AtAssignment : Assignment → List ℕ → Token → List Token → Option (List ℕ) → Code → List Operand → Type 0
AtAssignment form source first rest label what os = (name : List ℕ) × (label ≡ None) × (what ≡ assigning form name) × (own_name_at source first ≡ Some name) × IsValue source kind.Word rest os

form_at_assignment : (source : List ℕ) (first second : Token) (rest : List Token) (form : Assignment) (label : Option (List ℕ)) (what : Code) (os : List Operand) → is_colon source second ≡ false → assignment_at source second ≡ Some form
    → IsForm source (first ∷ second ∷ rest) label what os → AtAssignment form source first rest label what os
form_at_assignment source first second rest form (Some name) what os colon e h = let divided = (is_label source name first second rest h.0 h.1).1 in absurd cc
form_at_assignment source first second rest form None what os colon e h =
    elim (unlabelled_is source (first ∷ second ∷ rest) what os h) as (λ _. AtAssignment form source first rest None what os) [
      | inl assigned ↦ (
          let parts = assigns_all source (assignment_name assigned.0) assigned.1 first second rest os assigned.3 in
          let said = assignment_said source second assigned.0 parts.1 in
          let same : assigned.0 ≡ form = cc in (assigned.1, refl, assigned.2 ∙ ap (λ f. assigning f assigned.1) same, named_own source first assigned.1 parts.0, parts.2)
          )
      | inr code ↦ absurd (code_none source first second rest what os (assignment_in_none source second form (assignment_says source second form e)) code)
    ]

assignment_form : (source : List ℕ) (first second : Token) (rest : List Token) (form : Assignment) (name : List ℕ) (os : List Operand) → Names source name first → Says source (assignment_name form) second → IsValue source kind.Word rest os
    → IsForm source (first ∷ second ∷ rest) None (assigning form name) os
assignment_form source first second rest Equ name os names says value = record { first = first; second = second; rest = rest; whole = refl; names = names; says = says; value = value }
assignment_form source first second rest Set name os names says value = record { first = first; second = second; rest = rest; whole = refl; names = names; says = says; value = value }

assigned_exact : (source : List ℕ) (number : ℕ) (first second : Token) (rest : List Token) (form : Assignment) (own : Option (List ℕ)) → is_colon source second ≡ false → assignment_at source second ≡ Some form → own_name_at source first ≡ own
    → Exact (IsLine source number (first ∷ second ∷ rest)) AllShallow (assigned number form own source rest)
assigned_exact source number first second rest form None colon e own = none (λ s h. let known = (form_at_assignment source first second rest form s.label s.code s.operands colon e h.form).3 in absurd cc)
assigned_exact source number first second rest form (Some name) colon e own =
    exact-same
    (λ s h. line_is source number (first ∷ second ∷ rest) s None (assigning form name) h.0 h.1 h.2.0
    (assignment_form source first second rest form name s.operands (own_name source first name own) (assignment_says source second form e) h.2.1))
    (λ s h.
    let is = form_at_assignment source first second rest form s.label s.code s.operands colon e h.form in
    let known = is.3 in
    let same : is.0 ≡ name = cc in (h.line, is.1, (is.2 ∙ ap (assigning form) same, is.4)))
    (with_body_exact number None (value_exact kind.Word (assigning form name) source rest))

-- a code alone

code_exact : (source : List ℕ) (number : ℕ) (first : Token) (rest : List Token) → ((label : Option (List ℕ)) (what : Code) (os : List Operand) → IsForm source (first ∷ rest) label what os → (label ≡ None) × IsCode source (first ∷ rest) what os)
    → Exact (IsLine source number (first ∷ rest)) AllShallow (coded number None source (first ∷ rest))
code_exact source number first rest only =
    exact-same (λ s h. line_is source number (first ∷ rest) s None s.code h.0 h.1 refl (code_is_unlabelled source (first ∷ rest) s.code s.operands h.2))
    (λ s h. let is = only s.label s.code s.operands h.form in (h.line, is.0, is.1)) (coded_exact number None source first rest)

form_at_code : (source : List ℕ) (first second : Token) (rest : List Token) (label : Option (List ℕ)) (what : Code) (os : List Operand) → is_colon source second ≡ false → assignment_at source second ≡ None → IsForm source (first ∷ second ∷ rest) label what os
    → (label ≡ None) × IsCode source (first ∷ second ∷ rest) what os
form_at_code source first second rest (Some name) what os colon e h = let divided = (is_label source name first second rest h.0 h.1).1 in absurd cc
form_at_code source first second rest None what os colon e h = (
  refl,
  elim (unlabelled_is source (first ∷ second ∷ rest) what os h) [
    | inl assigned ↦ (
        let parts = assigns_all source (assignment_name assigned.0) assigned.1 first second rest os assigned.3 in
        let said = assignment_said source second assigned.0 parts.1 in absurd cc
        )
    | inr code ↦ code
  ],
)

form_at_one : (source : List ℕ) (only : Token) (label : Option (List ℕ)) (what : Code) (os : List Operand) → IsForm source (only ∷ []) label what os → (label ≡ None) × IsCode source (only ∷ []) what os
form_at_one source only (Some name) what os h = let whole = h.1.whole in absurd cc
form_at_one source only None what os h = (refl, elim (unlabelled_is source (only ∷ []) what os h) [ inl assigned ↦ (let whole = assigned.3.whole in absurd cc) | inr code ↦ code ])

no_form : (source : List ℕ) (label : Option (List ℕ)) (what : Code) (os : List Operand) → ¬ IsForm source [] label what os
no_form source (Some name) what os h = let whole = h.1.whole in absurd cc
no_form source None what os h = elim (unlabelled_is source [] what os h) [ inl assigned ↦ (let whole = assigned.3.whole in absurd cc) | inr code ↦ no_tokens source what os code ]

unlabelled_exact : (source : List ℕ) (number : ℕ) (first second : Token) (rest : List Token) (form : Option Assignment) → is_colon source second ≡ false → assignment_at source second ≡ form
    → Exact (IsLine source number (first ∷ second ∷ rest)) AllShallow (unlabelled number form source first second rest)
unlabelled_exact source number first second rest (Some form) colon e = assigned_exact source number first second rest form (own_name_at source first) colon e refl
unlabelled_exact source number first second rest None colon e = code_exact source number first (second ∷ rest) (λ label what os h. form_at_code source first second rest label what os colon e h)

-- the statement of a line is exactly what the grammar makes of it
pub statement_exact : (source : List ℕ) (number : ℕ) (tokens : List Token) → Exact (IsLine source number tokens) AllShallow (statement_of source number tokens)
unfolding statement_of coded
statement_exact source number [] = none (λ s h. no_form source s.label s.code s.operands h.form)
statement_exact source number (first ∷ []) = code_exact source number first [] (form_at_one source first)
statement_exact source number (first ∷ second ∷ rest) =
    let P : Bool → Type 0 = λ b. Exact (IsLine source number (first ∷ second ∷ rest)) AllShallow
    (cond b (labelled number (own_name_at source first) source rest) (unlabelled number (assignment_at source second) source first second rest)) in
    elim (cases_Bool (is_colon source second)) [
      | inl holds ↦ subst P (sym holds) (labelled_exact source number first second rest (own_name_at source first) holds refl)
      | inr fails ↦ subst P (sym fails) (unlabelled_exact source number first second rest (assignment_at source second) fails refl)
    ]
