-- The values of a statement's operands.
use Rattle.std.specs.Prelude.{◌≡◌, ◌⊎◌, ℕ, Bool, true, ◌&&◌, ◌||◌, nat_le, IsTrue, List, [], ◌∷◌, Option, Some, None, Contains}
use Rattle.sp_expr.specs.declared.word.Word.{Word}
use Rattle.sp_expr.specs.Trees.{Tree, Spells, value_of}
use Rattle.sp_expr.specs.Undefined.{first_undefined}
use Rattle.sp_stmt.specs.declared.operand.Operand.{Operand}
use Rattle.sp_stmt.specs.declared.operand.Operand.TheVariants as operand

-- the words of an operand's expression
abbrev pub operand_words : Operand → List Word
operand_words (operand.Text characters) = []
operand_words (operand.Byte ws) = ws
operand_words (operand.Word ws) = ws
operand_words (operand.Restart ws) = ws

-- an expression has this value at an address, where each name has its value
pub record HasValue (names : List ℕ → Option ℕ) (here : ℕ) (ws : List Word) (value : ℕ) : Type 0 where
  pub defined : first_undefined names ws ≡ None
  pub tree : Tree
  pub spells : Spells ws tree
  pub value_is : value_of names here tree ≡ Some value

-- an expression has no value: a name has none, or a divisor is zero
abbrev pub HasNoValue : (List ℕ → Option ℕ) → ℕ → List Word → Type 0
HasNoValue names here ws =
    ((name : List ℕ) × (first_undefined names ws ≡ Some name)) ⊎ ((first_undefined names ws ≡ None) × ((t : Tree) × Spells ws t × (value_of names here t ≡ None)))

-- the value of an operand; that of a text is 0 and isn't used
abbrev pub IsValue : (List ℕ → Option ℕ) → ℕ → Operand → ℕ → Type 0
IsValue names here (operand.Text characters) value = value ≡ 0
IsValue names here (operand.Byte ws) value = HasValue names here ws value
IsValue names here (operand.Word ws) value = HasValue names here ws value
IsValue names here (operand.Restart ws) value = HasValue names here ws value

abbrev pub IsWithoutValue : (List ℕ → Option ℕ) → ℕ → Operand → Type 0
IsWithoutValue names here (operand.Text characters) = ⊥
IsWithoutValue names here (operand.Byte ws) = HasNoValue names here ws
IsWithoutValue names here (operand.Word ws) = HasNoValue names here ws
IsWithoutValue names here (operand.Restart ws) = HasNoValue names here ws

-- the values of operands, one for each
abbrev pub AreValues : (List ℕ → Option ℕ) → ℕ → List Operand → List ℕ → Type 0
AreValues names here [] [] = Unit {0}
AreValues names here [] (value ∷ values) = ⊥
AreValues names here (o ∷ operands) [] = ⊥
AreValues names here (o ∷ operands) (value ∷ values) = IsValue names here o value × AreValues names here operands values

-- one of the operands has no value
abbrev pub OneIsWithoutValue : (List ℕ → Option ℕ) → ℕ → List Operand → Type 0
OneIsWithoutValue names here operands = (o : Operand) × Contains operands o × IsWithoutValue names here o

-- the range of an operand's value: a byte is 0 to 255 or FF00H to FFFFH, the number of RST 0 to 7
abbrev pub is_in_range : Operand → ℕ → Bool
is_in_range (operand.Text characters) value = true
is_in_range (operand.Byte ws) value = nat_le value 255 || nat_le 65280 value
is_in_range (operand.Word ws) value = true
is_in_range (operand.Restart ws) value = nat_le value 7

unfoldable pub are_in_range : List Operand → List ℕ → Bool
are_in_range [] values = true
are_in_range (o ∷ operands) [] = true
are_in_range (o ∷ operands) (value ∷ values) = is_in_range o value && are_in_range operands values

abbrev pub AreInRange : List Operand → List ℕ → Type 0
AreInRange operands values = IsTrue (are_in_range operands values)
