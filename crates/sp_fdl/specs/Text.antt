-- The texts that stand for terms: each token of the printed form with any blanks between tokens, and literals with leading
-- zeros (this project's own; "after FDL" is the only statement made about that language).
-- Numbers are ASCII codes: 32 is the space, 9 the tab, 45 the minus, 95 the underline and 126 the tilde.
use Rattle.std.specs.Prelude.{◌≡◌, ◌⊎◌, ◌≤◌, ℕ, Bool, true, false, ◌||◌, ◌==◌, ⊤, List, [], ◌∷◌, ◌++◌, codes, decimal, ℤ, pos, neg_ℤ, FitsSigned}
use Rattle.std.specs.Char.{is_ascii_alphanumeric}
use Rattle.std.specs.Int.{w64}
use Rattle.std.specs.List.{list_all}
use Rattle.std.specs.Str.Parse.{IsNumeral, digits_value}
use Rattle.sp_term.specs.declared.var.Var.{Var}
use Rattle.sp_term.specs.declared.var.Var.TheVariants as var
use Rattle.sp_term.specs.Tree.{Tree, Literal, Truth, Variable, Add, Subtract, Multiply, Divide, Remainder, ByteAnd, ByteOr, ByteXor, Parity, Bit, Psw, If, Element, Update, Total, Equal, Less, LessOrEqual, Not, And, Or, Implies, Iff, ForAll, ForSome, depth_of}
use Rattle.sp_term.specs.Sorts.{IsTerm}
use Rattle.sp_term.specs.Free.{IsClosed}
use Rattle.sp_fdl.specs.Printed.{variable_text}

abbrev pub is_blank : ℕ → Bool
is_blank byte = byte == 32 || byte == 9

-- letters, digits, _ and ~ make runs; a run is one token
abbrev pub is_run : ℕ → Bool
is_run byte = is_ascii_alphanumeric byte || (byte == 95 || byte == 126)

abbrev pub begins_run : List ℕ → Bool
begins_run [] = false
begins_run (byte ∷ bytes) = is_run byte

abbrev pub ends_run : List ℕ → Bool
ends_run [] = false
ends_run (byte ∷ []) = is_run byte
ends_run (byte ∷ next ∷ bytes) = ends_run (next ∷ bytes)

-- no run goes on from one text into the next
abbrev pub IsApart : List ℕ → List ℕ → Type 0
IsApart one next = ends_run one ≡ true → begins_run next ≡ false

-- texts of a form
abbrev pub Form : Type 1
Form = List ℕ → Type 0

-- this token alone
abbrev pub Token : List ℕ → Form
Token token text = text ≡ token

-- a text of one form, any blanks, and a text of another form
pub record Then (Front Back : Form) (text : List ℕ) : Type 0 where
  pub front : List ℕ
  pub blanks : List ℕ
  pub back : List ℕ
  pub whole : text ≡ front ++ (blanks ++ back)
  pub blank : list_all is_blank blanks ≡ true
  pub apart : IsApart front (blanks ++ back)
  pub in_front : Front front
  pub in_back : Back back

-- decimal digits of a number, with a minus directly before them where it is taken below zero
abbrev pub IsLiteral : ℤ → Form
IsLiteral n text =
    (IsNumeral 10 text × (n ≡ pos (digits_value 10 text)))
    ⊎ ((digits : List ℕ) × (text ≡ 45 ∷ digits) × IsNumeral 10 digits × (n ≡ neg_ℤ (pos (digits_value 10 digits))))

-- parts in parentheses with an operator between them
abbrev pub Between : List ℕ → Form → Form → Form
Between operator X Y = Then (Token (codes "(")) (Then X (Then (Token operator) (Then Y (Token (codes ")")))))

-- the function's name, and its first argument with what follows it
abbrev pub Call : List ℕ → Form → Form
Call name Rest = Then (Token name) (Then (Token (codes "(")) Rest)

-- an argument with a comma after it, or with the closing parenthesis
abbrev pub More : Form → Form → Form
More X Rest = Then X (Then (Token (codes ",")) Rest)

abbrev pub Last : Form → Form
Last X = Then X (Token (codes ")"))

-- a place of a memory: [x]
abbrev pub Cell : Form → Form → Form
Cell X Rest = Then (Token (codes "[")) (Then X (Then (Token (codes "]")) Rest))

abbrev pub Quantified : List ℕ → ℕ → Form → Form → Form → Form
Quantified name k X Y P =
    Call name (Then (Token (codes "i" ++ decimal k)) (Then (Token (codes ":")) (Then X (Then (Token (codes "..")) (More Y (Last P))))))

-- a text spells a tree
abbrev pub Spells : Tree → Form
Spells (Literal n) = IsLiteral n
Spells (Truth true) = Token (codes "true")
Spells (Truth false) = Token (codes "false")
Spells (Variable v) = Token (variable_text v)
Spells (Add x y) = Between (codes "+") (Spells x) (Spells y)
Spells (Subtract x y) = Between (codes "-") (Spells x) (Spells y)
Spells (Multiply x y) = Between (codes "*") (Spells x) (Spells y)
Spells (Divide x y) = Between (codes "div") (Spells x) (Spells y)
Spells (Remainder x y) = Between (codes "mod") (Spells x) (Spells y)
Spells (ByteAnd x y) = Call (codes "band") (More (Spells x) (Last (Spells y)))
Spells (ByteOr x y) = Call (codes "bor") (More (Spells x) (Last (Spells y)))
Spells (ByteXor x y) = Call (codes "bxor") (More (Spells x) (Last (Spells y)))
Spells (Parity x) = Call (codes "par") (Last (Spells x))
Spells (Bit k x) = Call (codes "bit") (More (Token (decimal k)) (Last (Spells x)))
Spells (Psw s z ac p cy) =
    Call (codes "psw") (More (Spells s) (More (Spells z) (More (Spells ac) (More (Spells p) (Last (Spells cy))))))
Spells (If p x y) = Call (codes "if") (More (Spells p) (More (Spells x) (Last (Spells y))))
Spells (Element m x) = Call (codes "element") (More (Spells m) (Cell (Spells x) (Token (codes ")"))))
Spells (Update m x y) = Call (codes "update") (More (Spells m) (Cell (Spells x) (Then (Token (codes ",")) (Last (Spells y)))))
Spells (Total m x y) =
    Call (codes "total") (More (Spells m) (Cell (Spells x) (Then (Token (codes ",")) (Cell (Spells y) (Token (codes ")"))))))
Spells (Equal x y) = Between (codes "=") (Spells x) (Spells y)
Spells (Less x y) = Between (codes "<") (Spells x) (Spells y)
Spells (LessOrEqual x y) = Between (codes "<=") (Spells x) (Spells y)
Spells (Not p) = Then (Token (codes "(")) (Then (Token (codes "not")) (Last (Spells p)))
Spells (And p q) = Between (codes "and") (Spells p) (Spells q)
Spells (Or p q) = Between (codes "or") (Spells p) (Spells q)
Spells (Implies p q) = Between (codes "->") (Spells p) (Spells q)
Spells (Iff p q) = Between (codes "<->") (Spells p) (Spells q)
Spells (ForAll k x y p) = Quantified (codes "for_all") k (Spells x) (Spells y) (Spells p)
Spells (ForSome k x y p) = Quantified (codes "for_some") k (Spells x) (Spells y) (Spells p)

-- the number of a variable is at most 4,294,967,295; that it is 1 at least is said by its sort
abbrev pub HasNameNumber : Var → Type 0
HasNameNumber (var.Entry x) = ⊤
HasNameNumber (var.Now x) = ⊤
HasNameNumber (var.After x j) = j ≤ 4294967295
HasNameNumber var.MemEntry = ⊤
HasNameNumber var.Mem = ⊤
HasNameNumber (var.MemAfter j) = j ≤ 4294967295
HasNameNumber (var.In j) = j ≤ 4294967295
HasNameNumber (var.SlotHigh j) = j ≤ 4294967295
HasNameNumber (var.SlotLow j) = j ≤ 4294967295
HasNameNumber (var.Any j) = j ≤ 4294967295
HasNameNumber (var.Bound j) = j ≤ 4294967295

-- literals are 64-bit signed, and numbers of names at most 4,294,967,295
abbrev pub HasNumbers : Tree → Type 0
HasNumbers (Literal n) = FitsSigned w64 n
HasNumbers (Truth b) = ⊤
HasNumbers (Variable v) = HasNameNumber v
HasNumbers (Add x y) = HasNumbers x × HasNumbers y
HasNumbers (Subtract x y) = HasNumbers x × HasNumbers y
HasNumbers (Multiply x y) = HasNumbers x × HasNumbers y
HasNumbers (Divide x y) = HasNumbers x × HasNumbers y
HasNumbers (Remainder x y) = HasNumbers x × HasNumbers y
HasNumbers (ByteAnd x y) = HasNumbers x × HasNumbers y
HasNumbers (ByteOr x y) = HasNumbers x × HasNumbers y
HasNumbers (ByteXor x y) = HasNumbers x × HasNumbers y
HasNumbers (Parity x) = HasNumbers x
HasNumbers (Bit k x) = HasNumbers x
HasNumbers (Psw s z ac p cy) = HasNumbers s × HasNumbers z × HasNumbers ac × HasNumbers p × HasNumbers cy
HasNumbers (If p x y) = HasNumbers p × HasNumbers x × HasNumbers y
HasNumbers (Element m x) = HasNumbers m × HasNumbers x
HasNumbers (Update m x y) = HasNumbers m × HasNumbers x × HasNumbers y
HasNumbers (Total m x y) = HasNumbers m × HasNumbers x × HasNumbers y
HasNumbers (Equal x y) = HasNumbers x × HasNumbers y
HasNumbers (Less x y) = HasNumbers x × HasNumbers y
HasNumbers (LessOrEqual x y) = HasNumbers x × HasNumbers y
HasNumbers (Not p) = HasNumbers p
HasNumbers (And p q) = HasNumbers p × HasNumbers q
HasNumbers (Or p q) = HasNumbers p × HasNumbers q
HasNumbers (Implies p q) = HasNumbers p × HasNumbers q
HasNumbers (Iff p q) = HasNumbers p × HasNumbers q
HasNumbers (ForAll k x y p) = (k ≤ 4294967295) × HasNumbers x × HasNumbers y × HasNumbers p
HasNumbers (ForSome k x y p) = (k ≤ 4294967295) × HasNumbers x × HasNumbers y × HasNumbers p

-- a tree that has a text: a term whose numbers have their ranges, without bound variables outside their quantifiers, and of
-- depth at most 2,000
pub record IsReadable (tree : Tree) : Type 0 where
  pub term : IsTerm tree
  pub numbers : HasNumbers tree
  pub closed : IsClosed tree
  pub shallow : depth_of tree ≤ 2000

-- a text stands for a tree
pub record StandsFor (text : List ℕ) (tree : Tree) : Type 0 where
  pub readable : IsReadable tree
  pub spells : Spells tree text
