-- What refuses a source.
use Rattle.std.specs.Prelude.{◌≡◌, ◌⊎◌, ℕ, ◌%◌, true, false, nat_eq, List, [], ◌∷◌, ◌++◌, map, Option, None, Contains}
use Rattle.std.specs.List.{IsDistinct}
use Rattle.sp_lex.specs.declared.token.SourceLine.{SourceLine}
use Rattle.sp_expr.specs.declared.word.Word.TheVariants as words
use Rattle.sp_stmt.specs.declared.operand.Operand.{Operand}
use Rattle.sp_stmt.specs.declared.statement.Statement.{Statement}
use Rattle.sp_stmt.specs.declared.refusal.StatementKind.TheVariants as unread
use Rattle.sp_stmt.specs.Source.{AreStatementsOf, IsUnread}
use Rattle.sp_asm.specs.declared.refusal.AsmKind.{AsmKind}
use Rattle.sp_asm.specs.declared.refusal.AsmKind.TheVariants.{Syntax, TooDeep, Duplicate, Later, Undefined, ZeroDivisor, Range, PastEnd, Overlap}
use Rattle.sp_asm.specs.Names.{defines}
use Rattle.sp_asm.specs.Values.{operand_words, AreValues, OneIsWithoutValue, AreInRange}
use Rattle.sp_asm.specs.Assembly.{Place, uses_names_above, HasPlaceValue, HasRoom, address_after, names_above, names_at, is_duplicate, ArePlaced, Row, IsRow, places_of, addresses_of}

-- ---- Operands without a value

-- a name that the operands use, and that has no value
pub record IsMissing (names : List ℕ → Option ℕ) (operands : List Operand) (name : List ℕ) : Type 0 where
  pub operand : Operand
  pub among : Contains operands operand
  pub used : Contains (operand_words operand) (words.Name name)
  pub missing : names name ≡ None

-- one of them is defined, but later
abbrev pub UsesLater : List Statement → (List ℕ → Option ℕ) → List Operand → Type 0
UsesLater all names operands = (name : List ℕ) × IsMissing names operands name × (defines all name ≡ true)

-- none is defined later, and one isn't defined at all
pub record UsesUndefined (all : List Statement) (names : List ℕ → Option ℕ) (operands : List Operand) : Type 0 where
  pub none_later : ¬ UsesLater all names operands
  pub name : List ℕ
  pub missing : IsMissing names operands name

-- all names have values, and a divisor is zero
pub record DividesByZero (names : List ℕ → Option ℕ) (here : ℕ) (operands : List Operand) : Type 0 where
  pub none_missing : (name : List ℕ) → ¬ IsMissing names operands name
  pub without : OneIsWithoutValue names here operands

-- ---- The rounds

-- how a statement breaks the equations of places, the places above it keeping them
abbrev pub BreaksPlace : List Statement → List Place → Statement → AsmKind → Type 0
BreaksPlace all above s Duplicate = is_duplicate above s ≡ true
BreaksPlace all above s Later = (is_duplicate above s ≡ false) × (uses_names_above s.code ≡ true) × UsesLater all (names_above above) s.operands
BreaksPlace all above s Undefined = (is_duplicate above s ≡ false) × (uses_names_above s.code ≡ true) × UsesUndefined all (names_above above) s.operands
BreaksPlace all above s ZeroDivisor = (is_duplicate above s ≡ false) × (uses_names_above s.code ≡ true) × DividesByZero (names_above above) (address_after above % 65536) s.operands
BreaksPlace all above s PastEnd =
    (p : Place) × (p.statement ≡ s) × (p.address ≡ address_after above) × (is_duplicate above s ≡ false)
    × HasPlaceValue (uses_names_above s.code) (names_above above) (p.address % 65536) s.operands p.value × ¬ HasRoom p
BreaksPlace all above s Syntax = ⊥
BreaksPlace all above s TooDeep = ⊥
BreaksPlace all above s Range = ⊥
BreaksPlace all above s Overlap = ⊥

-- how a place breaks the equations of rows, the rows above it keeping them
abbrev pub BreaksRow : List Statement → List Place → List Row → Place → AsmKind → Type 0
BreaksRow statements all above p Later = (uses_names_above p.statement.code ≡ false) × UsesLater statements (names_at all (places_of above)) p.statement.operands
BreaksRow statements all above p Undefined = (uses_names_above p.statement.code ≡ false) × UsesUndefined statements (names_at all (places_of above)) p.statement.operands
BreaksRow statements all above p ZeroDivisor =
    (uses_names_above p.statement.code ≡ false) × DividesByZero (names_at all (places_of above)) (p.address % 65536) p.statement.operands
BreaksRow statements all above p Range =
    (uses_names_above p.statement.code ≡ false)
    × ((values : List ℕ) × AreValues (names_at all (places_of above)) (p.address % 65536) p.statement.operands values × ¬ AreInRange p.statement.operands values)
BreaksRow statements all above p Overlap =
    (r : Row) × (r.place ≡ p) × IsRow all (places_of above) r × ¬ IsDistinct nat_eq (addresses_of (above ++ r ∷ []))
BreaksRow statements all above p Syntax = ⊥
BreaksRow statements all above p TooDeep = ⊥
BreaksRow statements all above p Duplicate = ⊥
BreaksRow statements all above p PastEnd = ⊥

-- of the equations of places the first that are broken are those of the statement on this line
pub record FirstRound (statements : List Statement) (line : ℕ) (kind : AsmKind) : Type 0 where
  pub above : List Place
  pub broken : Statement
  pub below : List Statement
  pub whole : statements ≡ map (λ (p : Place). p.statement) above ++ broken ∷ below
  pub placed : ArePlaced above
  pub at : broken.line.0 ≡ line
  pub breaks : BreaksPlace statements above broken kind

-- all statements have their places, and of the equations of rows the first that are broken are those of this line
pub record SecondRound (statements : List Statement) (line : ℕ) (kind : AsmKind) : Type 0 where
  pub all : List Place
  pub whole : map (λ (p : Place). p.statement) all ≡ statements
  pub placed : ArePlaced all
  pub above : List Row
  pub broken : Place
  pub below : List Place
  pub parts : all ≡ places_of above ++ broken ∷ below
  pub rows : (first later : List Row) (r : Row) → above ≡ first ++ r ∷ later → IsRow all (places_of first) r
  pub apart : IsDistinct nat_eq (addresses_of above)
  pub at : broken.statement.line.0 ≡ line
  pub breaks : BreaksRow statements all above broken kind

-- why a source with these lines isn't assembled, and the number of the line: first the lowest line that is no statement, then
-- the first round, then the second
abbrev pub IsCause : List ℕ → List SourceLine → ℕ → AsmKind → Type 0
IsCause source lines at Syntax = IsUnread source lines at unread.Syntax
IsCause source lines at TooDeep = IsUnread source lines at unread.TooDeep
IsCause source lines at kind = (statements : List Statement) × AreStatementsOf source lines statements × (FirstRound statements at kind ⊎ SecondRound statements at kind)
