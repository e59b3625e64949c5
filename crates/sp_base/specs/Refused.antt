-- What the answer of a layer means: the one definition that the contracts of every layer cite.
use Rattle.std.specs.Prelude.{◌≡◌, ◌⊎◌, ℕ, Result, Ok, Err, ⊤}
use Rattle.sp_base.specs.declared.refused.Refused.{Refused}
use Rattle.sp_base.specs.declared.refused.Refused.TheVariants as refused

-- the refusal of the line with this number, in this way
abbrev pub at_line : {K : Type 0} → ℕ → K → Refused K
at_line line kind = refused.At (record { 0 = line }) kind

-- what an answer says: what was given is right, and a refusal has its cause at its line; want of memory says nothing
abbrev pub Answers : {A K : Type 0} → (A → Type 0) → (ℕ → K → Type 0) → Result A (Refused K) → Type 0
Answers Right Cause (Ok a) = Right a
Answers Right Cause (Err (refused.At line kind)) = Cause line.0 kind
Answers Right Cause (Err refused.Memory) = ⊤

-- the answer is this one, unless memory ran out
abbrev pub IsUnlessMemory : {A K : Type 0} → Result A (Refused K) → Result A (Refused K) → Type 0
IsUnlessMemory result right = (result ≡ right) ⊎ (result ≡ Err refused.Memory)

-- what is right is given, and each cause is refused at its line with its kind, unless memory ran out
pub record IsComplete {A K : Type 0} (Right : A → Type 0) (Cause : ℕ → K → Type 0) (result : Result A (Refused K)) : Type 0 where
  pub whole : (a : A) → Right a → IsUnlessMemory result (Ok a)
  pub exact : (line : ℕ) (kind : K) → Cause line kind → IsUnlessMemory result (Err (at_line line kind))

-- the refusal of a layer as that of the layer above it, which names kinds in its own way
abbrev pub HasKindBy : {J K : Type 0} → (J → K → Type 0) → Refused J → Refused K → Type 0
HasKindBy As (refused.At line low) (refused.At at high) = (at ≡ line) × As low high
HasKindBy As refused.Memory refused.Memory = ⊤
HasKindBy As _ _ = ⊥
