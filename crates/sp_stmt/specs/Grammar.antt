-- How a line is written that is a statement (8080 Assembly Language Programming Manual, "Assembly language instruction format" and the
-- descriptions of instructions and directives; names of at most 31 characters, labels alone on a line and no label before ORG and END
-- are this project's own).
use Rattle.std.specs.Prelude.{◌≡◌, ◌⊎◌, ◌≤◌, ℕ, List, [], ◌∷◌, ◌++◌, Option, Some, None, IsTrue, IsFalse, codes, ⊤}
use Rattle.sp_lex.specs.declared.token.Token.{Token}
use Rattle.sp_lex.specs.declared.token.TokenKind.TheVariants as token
use Rattle.sp_lex.specs.Texts.{characters_of}
use Rattle.sp_expr.specs.declared.word.Word.{Word}
use Rattle.sp_words.specs.code.Tables.{is_reserved}
use Rattle.sp_expr.specs.Trees.{Tree, Spells, depth_of}
use Rattle.sp_expr.specs.Words.{words_of, text_of}
use Rattle.sp_isa.specs.declared.instr.Instr.{Instr}
use Rattle.sp_isa.specs.declared.instr.Instr.TheVariants as instr
use Rattle.sp_isa.specs.Code.{valid}
use Rattle.sp_words.specs.declared.mnemonic.DataKind.{DataKind}
use Rattle.sp_words.specs.declared.mnemonic.DataKind.TheVariants.{Bytes, Words}
use Rattle.sp_words.specs.declared.mnemonic.ExpressionKind.{ExpressionKind}
use Rattle.sp_words.specs.declared.mnemonic.ExpressionKind.TheVariants as kind
use Rattle.sp_stmt.specs.declared.operand.Operand.{Operand}
use Rattle.sp_stmt.specs.declared.operand.Operand.TheVariants as operand
use Rattle.sp_stmt.specs.declared.statement.Code.{Code}
use Rattle.sp_stmt.specs.declared.statement.Code.TheVariants as code
use Rattle.sp_stmt.specs.declared.statement.Statement.{Statement}
use Rattle.sp_stmt.specs.Operands.{used_as}
use Rattle.sp_words.specs.Manual.{mnemonic_of}
use Rattle.sp_words.specs.Registers.{arg_name, pair_name, stack_pair_name}
use Rattle.sp_stmt.specs.Tokens.{is_comma, is_colon, name_at}

-- a token that is this word, in letters of either case
abbrev pub Says : List ℕ → List ℕ → Token → Type 0
Says source word token = name_at source token ≡ Some word

-- a token that is a name of the program's own
abbrev pub Names : List ℕ → List ℕ → Token → Type 0
Names source name token = Says source name token × IsFalse (is_reserved name)

-- tokens that are an expression of these words
pub record IsExpression (source : List ℕ) (tokens : List Token) (ws : List Word) : Type 0 where
  pub words : words_of source tokens ≡ Some ws
  pub tree : Tree
  pub spells : Spells ws tree

-- forms of operands: none, a word, two words with a comma between them, an expression, and a word, a comma and an expression

abbrev pub IsBare : List Token → List Operand → Type 0
IsBare tokens operands = (tokens ≡ []) × (operands ≡ [])

pub record IsWord (source word : List ℕ) (tokens : List Token) (operands : List Operand) : Type 0 where
  pub token : Token
  pub whole : tokens ≡ token ∷ []
  pub says : Says source word token
  pub alone : operands ≡ []

pub record AreWords (source one other : List ℕ) (tokens : List Token) (operands : List Operand) : Type 0 where
  pub first : Token
  pub comma : Token
  pub second : Token
  pub whole : tokens ≡ first ∷ comma ∷ second ∷ []
  pub left : Says source one first
  pub divided : IsTrue (is_comma source comma)
  pub right : Says source other second
  pub alone : operands ≡ []

pub record IsValue (source : List ℕ) (kind : ExpressionKind) (tokens : List Token) (operands : List Operand) : Type 0 where
  pub words : List Word
  pub expression : IsExpression source tokens words
  pub used : operands ≡ used_as kind words ∷ []

pub record IsLoad (source word : List ℕ) (kind : ExpressionKind) (tokens : List Token) (operands : List Operand) : Type 0 where
  pub first : Token
  pub comma : Token
  pub rest : List Token
  pub whole : tokens ≡ first ∷ comma ∷ rest
  pub says : Says source word first
  pub divided : IsTrue (is_comma source comma)
  pub value : IsValue source kind rest operands

-- an instruction whose value is an expression has 0 in its place
abbrev pub HasValue : List ℕ → ExpressionKind → ℕ → List Token → List Operand → Type 0
HasValue source kind n tokens operands = (n ≡ 0) × IsValue source kind tokens operands

-- what stands behind the mnemonic of an instruction
abbrev pub AreOperandsOf : List ℕ → Instr → List Token → List Operand → Type 0
AreOperandsOf source (instr.Mov to from) tokens operands = AreWords source (arg_name to) (arg_name from) tokens operands
AreOperandsOf source (instr.Mvi to n) tokens operands = (n ≡ 0) × IsLoad source (arg_name to) kind.Byte tokens operands
AreOperandsOf source (instr.Inr y) tokens operands = IsWord source (arg_name y) tokens operands
AreOperandsOf source (instr.Dcr y) tokens operands = IsWord source (arg_name y) tokens operands
AreOperandsOf source (instr.Alu o y) tokens operands = IsWord source (arg_name y) tokens operands
AreOperandsOf source (instr.AluImmediate o n) tokens operands = HasValue source kind.Byte n tokens operands
AreOperandsOf source (instr.Lxi p w) tokens operands = (w ≡ 0) × IsLoad source (pair_name p) kind.Word tokens operands
AreOperandsOf source (instr.Dad p) tokens operands = IsWord source (pair_name p) tokens operands
AreOperandsOf source (instr.Inx p) tokens operands = IsWord source (pair_name p) tokens operands
AreOperandsOf source (instr.Dcx p) tokens operands = IsWord source (pair_name p) tokens operands
AreOperandsOf source (instr.Stax p) tokens operands = IsWord source (pair_name p) tokens operands
AreOperandsOf source (instr.Ldax p) tokens operands = IsWord source (pair_name p) tokens operands
AreOperandsOf source (instr.Shld w) tokens operands = HasValue source kind.Word w tokens operands
AreOperandsOf source (instr.Lhld w) tokens operands = HasValue source kind.Word w tokens operands
AreOperandsOf source (instr.Sta w) tokens operands = HasValue source kind.Word w tokens operands
AreOperandsOf source (instr.Lda w) tokens operands = HasValue source kind.Word w tokens operands
AreOperandsOf source (instr.Push p) tokens operands = IsWord source (stack_pair_name p) tokens operands
AreOperandsOf source (instr.Pop p) tokens operands = IsWord source (stack_pair_name p) tokens operands
AreOperandsOf source (instr.Jmp w) tokens operands = HasValue source kind.Word w tokens operands
AreOperandsOf source (instr.Jcc when w) tokens operands = HasValue source kind.Word w tokens operands
AreOperandsOf source (instr.Call w) tokens operands = HasValue source kind.Word w tokens operands
AreOperandsOf source (instr.Ccc when w) tokens operands = HasValue source kind.Word w tokens operands
AreOperandsOf source (instr.Rst n) tokens operands = HasValue source kind.Restart n tokens operands
AreOperandsOf source (instr.In n) tokens operands = HasValue source kind.Byte n tokens operands
AreOperandsOf source (instr.Out n) tokens operands = HasValue source kind.Byte n tokens operands
AreOperandsOf source _ tokens operands = IsBare tokens operands

-- a text alone, in quotes
pub record IsText (tokens : List Token) (text : Token) : Type 0 where
  pub whole : tokens ≡ text ∷ []
  pub quoted : text.kind ≡ token.Text

-- an item of DB is a text of one character or more, or an expression that isn't a text alone; an item of DW is an expression
abbrev pub IsItem : List ℕ → DataKind → List Token → Operand → Type 0
IsItem source Bytes tokens (operand.Text characters) =
    (text : Token) × IsText tokens text × (characters ≡ characters_of (text_of source text)) × ¬ (characters ≡ [])
IsItem source Bytes tokens (operand.Byte ws) = IsExpression source tokens ws × ((text : Token) → ¬ IsText tokens text)
IsItem source Words tokens (operand.Word ws) = IsExpression source tokens ws
IsItem source _ tokens _ = ⊥

-- an item, and another one behind a comma, and so on
pub data AreItems (source : List ℕ) (kind : DataKind) : List Token → List Operand → Type 0 where
  last : (tokens : List Token) (item : Operand) → IsItem source kind tokens item → AreItems source kind tokens (item ∷ [])
  more : (tokens rest : List Token) (comma : Token) (item : Operand) (items : List Operand)
      → IsItem source kind tokens item → IsTrue (is_comma source comma) → AreItems source kind rest items
      → AreItems source kind (tokens ++ comma ∷ rest) (item ∷ items)

-- what stands behind this word at the front
pub record StandsBehind (source word : List ℕ) (tokens rest : List Token) : Type 0 where
  pub first : Token
  pub whole : tokens ≡ first ∷ rest
  pub says : Says source word first

-- an instruction or a directive; EQU and SET stand behind a name alone
abbrev pub IsCode : List ℕ → List Token → Code → List Operand → Type 0
IsCode source tokens (code.Instr i) operands =
    (rest : List Token) × StandsBehind source (mnemonic_of i) tokens rest × IsTrue (valid i) × AreOperandsOf source i rest operands
IsCode source tokens code.Data operands =
    (rest : List Token) × ((StandsBehind source (codes "DB") tokens rest × AreItems source Bytes rest operands)
    ⊎ (StandsBehind source (codes "DW") tokens rest × AreItems source Words rest operands))
IsCode source tokens code.Space operands =
    (rest : List Token) × StandsBehind source (codes "DS") tokens rest × IsValue source kind.Word rest operands
IsCode source tokens code.Org operands =
    (rest : List Token) × StandsBehind source (codes "ORG") tokens rest × IsValue source kind.Word rest operands
IsCode source tokens code.End operands =
    (rest : List Token) × StandsBehind source (codes "END") tokens rest × (IsBare rest operands ⊎ IsValue source kind.Word rest operands)
IsCode source tokens _ operands = ⊥

-- a name and a colon
pub record IsLabel (source name : List ℕ) (tokens rest : List Token) : Type 0 where
  pub first : Token
  pub colon : Token
  pub whole : tokens ≡ first ∷ colon ∷ rest
  pub names : Names source name first
  pub divided : IsTrue (is_colon source colon)

-- a name, EQU or SET, and an expression
pub record Assigns (source word name : List ℕ) (tokens : List Token) (operands : List Operand) : Type 0 where
  pub first : Token
  pub second : Token
  pub rest : List Token
  pub whole : tokens ≡ first ∷ second ∷ rest
  pub names : Names source name first
  pub says : Says source word second
  pub value : IsValue source kind.Word rest operands

-- behind a label stands nothing, or a code other than ORG and END
abbrev pub IsLabelled : List ℕ → List Token → Code → List Operand → Type 0
IsLabelled source tokens code.Nothing operands = IsBare tokens operands
IsLabelled source tokens code.Org operands = ⊥
IsLabelled source tokens code.End operands = ⊥
IsLabelled source tokens other operands = IsCode source tokens other operands

-- where there is no label stands a code, or a name with EQU or SET
abbrev pub IsUnlabelled : List ℕ → List Token → Code → List Operand → Type 0
IsUnlabelled source tokens (code.Equ name) operands = Assigns source (codes "EQU") name tokens operands
IsUnlabelled source tokens (code.Set name) operands = Assigns source (codes "SET") name tokens operands
IsUnlabelled source tokens other operands = IsCode source tokens other operands

abbrev pub IsForm : List ℕ → List Token → Option (List ℕ) → Code → List Operand → Type 0
IsForm source tokens (Some label) code operands = (rest : List Token) × IsLabel source label tokens rest × IsLabelled source rest code operands
IsForm source tokens None code operands = IsUnlabelled source tokens code operands

-- the line with this number and these tokens is this statement
pub record IsLine (source : List ℕ) (number : ℕ) (tokens : List Token) (s : Statement) : Type 0 where
  pub line : s.line.0 ≡ number
  pub form : IsForm source tokens s.label s.code s.operands

-- at most 64 parentheses and NOTs are nested
abbrev pub NestsWithin : List Word → Type 0
NestsWithin ws = (tree : Tree) × Spells ws tree × (depth_of tree ≤ 64)

abbrev pub IsShallow : Operand → Type 0
IsShallow (operand.Text characters) = ⊤
IsShallow (operand.Byte ws) = NestsWithin ws
IsShallow (operand.Word ws) = NestsWithin ws
IsShallow (operand.Restart ws) = NestsWithin ws

-- a line is one statement at most
abbrev pub LinesAreOneStatement : Type 0
LinesAreOneStatement =
    (source : List ℕ) (number : ℕ) (tokens : List Token) (one other : Statement)
    → IsLine source number tokens one → IsLine source number tokens other → one ≡ other
