-- Which tokens are an annotation line, and what it says, one rule a kind of line (this project's own).
use Rattle.std.specs.Prelude.{◌≡◌, ◌↔◌, ◌⊎◌, ◌<◌, ◌≤◌, ℕ, List, [], ◌∷◌, Some, None, Ok, Err, codes, ⊤}
use Rattle.sp_lex.specs.declared.token.Token.{Token}
use Rattle.sp_lex.specs.Readers.{name_at, IsComma, AreItems}
use Rattle.sp_expr.specs.declared.setting.Setting.TheVariants.{Annotation}
use Rattle.sp_expr.specs.Trees as expr
use Rattle.sp_expr.specs.Words as expressions
use Rattle.sp_note.specs.declared.part.Listed.{Listed}
use Rattle.sp_note.specs.declared.part.Listed.TheVariants as listed
use Rattle.sp_note.specs.declared.refusal.NoteKind.{NoteKind}
use Rattle.sp_note.specs.declared.refusal.NoteKind.TheVariants.{Syntax, TooDeep, Sort, Wide}
use Rattle.sp_note.specs.Conditions.{IsConditionOf, BreaksCondition}
use Rattle.sp_note.specs.Parts as parts
use Rattle.sp_note.specs.Parts.{Part, Expression}
use Rattle.sp_note.specs.Words.{own_name, own_name_at}
use Rattle.sp_note.specs.code.Lines.{expression_of, locations_named, part_at}

-- an expression of these words, nested to 64 at most; it has no `$` and no word of annotations as a name
pub record IsExpression (source : List ℕ) (tokens : List Token) (ws : Expression) : Type 0 where
  pub tree : expr.Tree
  pub words : expressions.words_of source tokens ≡ Some ws
  pub spells : expr.SpellsIn Annotation ws tree
  pub shallow : expr.depth_of tree ≤ 64

-- two expressions with a comma between them
pub record AreTwo (source : List ℕ) (tokens : List Token) (first last : Expression) : Type 0 where
  pub one : List Token
  pub other : List Token
  pub items : AreItems source tokens (one ∷ other ∷ [])
  pub left : IsExpression source one first
  pub right : IsExpression source other last

-- a name of the program's own, a comma, and these tokens
pub record IsNamed (source : List ℕ) (tokens : List Token) (name : List ℕ) (rest : List Token) : Type 0 where
  pub first : Token
  pub comma : Token
  pub whole : tokens ≡ first ∷ comma ∷ rest
  pub names : own_name_at source first ≡ Some name
  pub divided : IsComma source comma

-- NAME, ADDR
abbrev pub IsArea : List ℕ → List Token → List ℕ → Expression → Type 0
IsArea source tokens name addr = (rest : List Token) × IsNamed source tokens name rest × IsExpression source rest addr

-- NAME, ADDR, LEN
abbrev pub AreBytes : List ℕ → List Token → List ℕ → Expression → Expression → Type 0
AreBytes source tokens name addr len = (rest : List Token) × IsNamed source tokens name rest × AreTwo source rest addr len

-- each of these items stands for its own, in order
abbrev pub AreEach : {X : Type 0} → (List Token → X → Type 0) → List (List Token) → List X → Type 0
AreEach R [] [] = ⊤
AreEach R [] (x ∷ xs) = ⊥
AreEach R (item ∷ items) [] = ⊥
AreEach R (item ∷ items) (x ∷ xs) = R item x × AreEach R items xs

-- what a name in a list means: locations, or else an area
abbrev pub Means : List ℕ → Listed → Type 0
Means name (listed.Locs locations) = locations_named name ≡ Some locations
Means name (listed.Area area) = (locations_named name ≡ None) × (own_name name ≡ Some area)

-- an item of LIST: a name alone
pub record IsListed (source : List ℕ) (item : List Token) (x : Listed) : Type 0 where
  pub token : Token
  pub name : List ℕ
  pub whole : item ≡ token ∷ []
  pub says : name_at source token ≡ Some name
  pub means : Means name x

-- LIST: names with commas between them
abbrev pub IsList : List ℕ → List Token → List Listed → Type 0
IsList source tokens xs = (items : List (List Token)) × AreItems source tokens items × AreEach (IsListed source) items xs

-- PORTS: expressions with commas between them
abbrev pub ArePorts : List ℕ → List Token → List Expression → Type 0
ArePorts source tokens ports = (items : List (List Token)) × AreItems source tokens items × AreEach (IsExpression source) items ports

-- a name of the program's own, alone
pub record IsName (source : List ℕ) (tokens : List Token) (name : List ℕ) : Type 0 where
  pub token : Token
  pub whole : tokens ≡ token ∷ []
  pub names : own_name_at source token ≡ Some name

-- the word that a line begins with
abbrev pub word_of : Part → List ℕ
word_of (parts.Stack first last) = codes "STACK"
word_of (parts.Byte name addr) = codes "BYTE"
word_of (parts.Word name addr) = codes "WORD"
word_of (parts.Bytes name addr len) = codes "BYTES"
word_of (parts.Routine name) = codes "ROUTINE"
word_of parts.Start = codes "START"
word_of (parts.Pre p) = codes "PRE"
word_of (parts.Post p) = codes "POST"
word_of (parts.Reads xs) = codes "READS"
word_of (parts.Changes xs) = codes "CHANGES"
word_of (parts.Ins ports) = codes "INS"
word_of (parts.Outs ports) = codes "OUTS"
word_of (parts.Depth n) = codes "DEPTH"
word_of (parts.Assert p) = codes "ASSERT"
word_of parts.End = codes "END"

-- what stands after that word
abbrev pub StandsAfter : List ℕ → List Token → Part → Type 0
StandsAfter source tokens (parts.Stack first last) = AreTwo source tokens first last
StandsAfter source tokens (parts.Byte name addr) = IsArea source tokens name addr
StandsAfter source tokens (parts.Word name addr) = IsArea source tokens name addr
StandsAfter source tokens (parts.Bytes name addr len) = AreBytes source tokens name addr len
StandsAfter source tokens (parts.Routine name) = IsName source tokens name
StandsAfter source tokens parts.Start = tokens ≡ []
StandsAfter source tokens (parts.Pre p) = IsConditionOf source tokens p
StandsAfter source tokens (parts.Post p) = IsConditionOf source tokens p
StandsAfter source tokens (parts.Reads xs) = IsList source tokens xs
StandsAfter source tokens (parts.Changes xs) = IsList source tokens xs
StandsAfter source tokens (parts.Ins ports) = ArePorts source tokens ports
StandsAfter source tokens (parts.Outs ports) = ArePorts source tokens ports
StandsAfter source tokens (parts.Depth n) = IsExpression source tokens n
StandsAfter source tokens (parts.Assert p) = IsConditionOf source tokens p
StandsAfter source tokens parts.End = tokens ≡ []

-- the tokens of an annotation line, without its mark, say this
pub record IsPart (source : List ℕ) (tokens : List Token) (part : Part) : Type 0 where
  pub first : Token
  pub rest : List Token
  pub whole : tokens ≡ first ∷ rest
  pub says : name_at source first ≡ Some (word_of part)
  pub after : StandsAfter source rest part

-- the reader of lines gives exactly the parts of the table, and a line says one thing at most
pub record LinesFollowTheTable : Type 0 where
  pub right : (source : List ℕ) (tokens : List Token) (part : Part) → (part_at source tokens ≡ Ok part) ↔ IsPart source tokens part
  pub one : (source : List ℕ) (tokens : List Token) (part other : Part) → IsPart source tokens part → IsPart source tokens other → part ≡ other

-- the words before a condition
abbrev pub BeginsCondition : List ℕ → Type 0
BeginsCondition word = (word ≡ codes "PRE") ⊎ ((word ≡ codes "POST") ⊎ (word ≡ codes "ASSERT"))

-- a line is refused exactly where it says nothing by the table; where a condition stands, for the rule that the condition breaks
pub record LinesAreRefused : Type 0 where
  pub refused : (source : List ℕ) (tokens : List Token) → ((kind : NoteKind) × (part_at source tokens ≡ Err kind)) ↔ ((part : Part) → ¬ IsPart source tokens part)
  pub conditions : (source : List ℕ) (first : Token) (rest : List Token) (word : List ℕ) (kind : NoteKind) → name_at source first ≡ Some word → BeginsCondition word
      → (part_at source (first ∷ rest) ≡ Err kind) ↔ BreaksCondition source rest kind

-- how tokens are no expression: they aren't in the grammar, or nest too deep
abbrev pub BreaksExpression : List ℕ → List Token → NoteKind → Type 0
BreaksExpression source tokens Syntax = (ws : Expression) (t : expr.Tree) → expressions.words_of source tokens ≡ Some ws → ¬ expr.SpellsIn Annotation ws t
BreaksExpression source tokens TooDeep =
    (ws : Expression) × (t : expr.Tree) × (expressions.words_of source tokens ≡ Some ws) × expr.SpellsIn Annotation ws t × (64 < expr.depth_of t)
BreaksExpression source tokens Sort = ⊥
BreaksExpression source tokens Wide = ⊥

-- the reader of expressions gives exactly these answers
pub record ExpressionsFollowTheGrammar : Type 0 where
  pub right : (source : List ℕ) (tokens : List Token) (ws : Expression) → (expression_of source tokens ≡ Ok ws) ↔ IsExpression source tokens ws
  pub broken : (source : List ℕ) (tokens : List Token) (kind : NoteKind) → (expression_of source tokens ≡ Err kind) ↔ BreaksExpression source tokens kind
