-- Annotations: their trees, and what they say of a state. Their numbers are whole numbers without bounds (this project's
-- own).
use Rattle.std.specs.Prelude.{◌≡◌, ◌≢◌, ℕ, ◌+◌, ◌-◌, ◌*◌, ℤ, pos, negsuc, neg_ℤ, ◌+ℤ◌, ◌-ℤ◌, ◌*ℤ◌, ◌<ℤ◌, ◌≤ℤ◌, Bool, IsTrue, ◌&&◌, ◌⊎◌, List, [], ◌∷◌, slice_index, Contains, bytes_eq, nat_le, if◌then◌else◌, ⊤}
use Rattle.sp_base.specs.Integers.{quotient, remainder, byte_and, byte_or, byte_xor, parity, sum_between}
use Rattle.sp_base.specs.declared.location.Loc.{Loc}
use Rattle.sp_base.specs.declared.pair.Pair.TheVariants as pair
use Rattle.sp_isa.specs.Core.{Core, at, word}
use Rattle.sp_isa.specs.Operands.{pair_of}
use Rattle.sp_model.specs.State.{State}

-- ---- trees

-- which state a name is looked up in: the present one, or with ~ the one at the routine's entry
pub data Moment : Type 0 where
  Now : Moment
  AtEntry : Moment

-- the register pairs that annotations name
pub data RegisterPair : Type 0 where
  BC : RegisterPair
  DE : RegisterPair
  HL : RegisterPair

-- + - * div mod band bor bxor
pub data Operator : Type 0 where
  Add : Operator
  Subtract : Operator
  Multiply : Operator
  Divide : Operator
  Modulo : Operator
  BitAnd : Operator
  BitOr : Operator
  BitXor : Operator

-- what stands in an annotation for a whole number
pub data Quantity : Type 0 where
  -- 40
  Literal : ℕ → Quantity
  -- A, CY~
  Location : Moment → Loc → Quantity
  -- HL, BC~
  Pair : Moment → RegisterPair → Quantity
  -- mem[x], mem~[x]
  Cell : Moment → Quantity → Quantity
  -- STKk
  StackWord : ℕ → Quantity
  -- total(x, y), total~(x, y)
  Total : Moment → Quantity → Quantity → Quantity
  -- -x
  Negative : Quantity → Quantity
  -- par(x)
  Parity : Quantity → Quantity
  -- x + y, band(x, y)
  Operate : Operator → Quantity → Quantity → Quantity
  -- the bound name I
  Bound : List ℕ → Quantity

-- = <> < <= > >=
pub data Comparison : Type 0 where
  Equal : Comparison
  Unequal : Comparison
  Less : Comparison
  LessOrEqual : Comparison
  Greater : Comparison
  GreaterOrEqual : Comparison

-- and or -> <->
pub data Connective : Type 0 where
  And : Connective
  Or : Connective
  Implies : Connective
  Iff : Connective

pub data Quantifier : Type 0 where
  ForAll : Quantifier
  ForSome : Quantifier

-- an annotation: what stands in one for a truth value
pub data Note : Type 0 where
  -- true, false
  Constant : Bool → Note
  -- x <= y
  Compare : Comparison → Quantity → Quantity → Note
  -- not p
  Not : Note → Note
  -- p -> q
  Connect : Connective → Note → Note → Note
  -- for all I in x..y: p
  Quantify : Quantifier → List ℕ → Quantity → Quantity → Note → Note

-- ---- what a note is read in

-- the first and the last cell of the stack region, and the base of the routine's stack
pub record Frame : Type 0 where
  pub first : ℕ
  pub last : ℕ
  pub base : ℕ

-- the bound names with their numbers, the innermost first
abbrev pub Bindings : Type 0
Bindings = List (List ℕ × ℤ)

-- the number of a bound name: that of its innermost quantifier (0 for a name that no quantifier binds)
abbrev pub bound_value : Bindings → List ℕ → ℤ
bound_value [] name = pos 0
bound_value ((bound, n) ∷ outer) name = if bytes_eq bound name then n else bound_value outer name

-- the core at a moment: the present one, or the one at entry
abbrev pub core_at : Moment → Core → Core → Core
core_at Now entry now = now
core_at AtEntry entry now = entry

abbrev pub register_pair : RegisterPair → Core → ℕ
register_pair BC core = pair_of pair.B core
register_pair DE core = pair_of pair.D core
register_pair HL core = pair_of pair.H core

-- memory as annotations see it: the stack region has zeros, and so has what is no address
abbrev pub shown : Frame → List ℕ → ℤ → ℤ
shown f cells (pos a) = if nat_le f.first a && nat_le a f.last then pos 0 else pos (slice_index cells a)
shown f cells (negsuc a) = pos 0

-- the address of the k-th word on the stack, k from 1 to 32,767: the base minus 2k, modulo 65,536 where a word is read
abbrev pub stack_address : Frame → ℕ → ℕ
stack_address f k = f.base + 65536 - 2 * k

abbrev pub calculate : Operator → ℤ → ℤ → ℤ
calculate Add x y = x +ℤ y
calculate Subtract x y = x -ℤ y
calculate Multiply x y = x *ℤ y
calculate Divide x y = quotient x y
calculate Modulo x y = remainder x y
calculate BitAnd x y = byte_and x y
calculate BitOr x y = byte_or x y
calculate BitXor x y = byte_xor x y

-- the number that a quantity stands for, between the core at entry and the present one
abbrev pub value : Frame → Bindings → Quantity → Core → Core → ℤ
value f b (Literal n) entry now = pos n
value f b (Location m x) entry now = pos (at x (core_at m entry now))
value f b (Pair m p) entry now = pos (register_pair p (core_at m entry now))
value f b (Cell m x) entry now = shown f (core_at m entry now).cells (value f b x entry now)
value f b (StackWord k) entry now = pos (word (stack_address f k) now)
value f b (Total m x y) entry now = sum_between (shown f (core_at m entry now).cells) (value f b x entry now) (value f b y entry now)
value f b (Negative x) entry now = neg_ℤ (value f b x entry now)
value f b (Parity x) entry now = parity (value f b x entry now)
value f b (Operate o x y) entry now = calculate o (value f b x entry now) (value f b y entry now)
value f b (Bound name) entry now = bound_value b name

-- ---- truth

abbrev pub Compares : Comparison → ℤ → ℤ → Type 0
Compares Equal x y = x ≡ y
Compares Unequal x y = x ≢ y
Compares Less x y = x <ℤ y
Compares LessOrEqual x y = x ≤ℤ y
Compares Greater x y = y <ℤ x
Compares GreaterOrEqual x y = y ≤ℤ x

abbrev pub Connects : Connective → Type 0 → Type 0 → Type 0
Connects And p q = p × q
Connects Or p q = p ⊎ q
Connects Implies p q = p → q
Connects Iff p q = (p → q) × (q → p)

-- a fact of each number, or of some number, from one through another
abbrev pub Quantifies : Quantifier → ℤ → ℤ → (ℤ → Type 0) → Type 0
Quantifies ForAll low high P = (n : ℤ) → low ≤ℤ n → n ≤ℤ high → P n
Quantifies ForSome low high P = (n : ℤ) × (low ≤ℤ n) × (n ≤ℤ high) × P n

-- a note is true at the present core, with these numbers for the bound names
abbrev pub HoldsWith : Frame → Bindings → Note → Core → Core → Type 0
HoldsWith f b (Constant truth) entry now = IsTrue truth
HoldsWith f b (Compare c x y) entry now = Compares c (value f b x entry now) (value f b y entry now)
HoldsWith f b (Not p) entry now = ¬ HoldsWith f b p entry now
HoldsWith f b (Connect c p q) entry now = Connects c (HoldsWith f b p entry now) (HoldsWith f b q entry now)
HoldsWith f b (Quantify q name x y p) entry now =
    Quantifies q (value f b x entry now) (value f b y entry now) (λ n. HoldsWith f ((name, n) ∷ b) p entry now)

-- the annotation is true at the present state, for a run that began at the entry
abbrev pub Holds : Frame → Note → State → State → Type 0
Holds f note entry now = HoldsWith f [] note entry.core now.core

-- ---- bound names

-- each bound name of a quantity is one of these
abbrev pub HasBoundNames : List (List ℕ) → Quantity → Type 0
HasBoundNames names (Cell m x) = HasBoundNames names x
HasBoundNames names (Total m x y) = HasBoundNames names x × HasBoundNames names y
HasBoundNames names (Negative x) = HasBoundNames names x
HasBoundNames names (Parity x) = HasBoundNames names x
HasBoundNames names (Operate o x y) = HasBoundNames names x × HasBoundNames names y
HasBoundNames names (Bound name) = Contains names name
HasBoundNames names _ = ⊤

-- each bound name of a note is one of these or stands inside its quantifier; a quantifier binds its name in its note, and
-- not in its ends
abbrev pub BindsNames : List (List ℕ) → Note → Type 0
BindsNames names (Constant truth) = ⊤
BindsNames names (Compare c x y) = HasBoundNames names x × HasBoundNames names y
BindsNames names (Not p) = BindsNames names p
BindsNames names (Connect c p q) = BindsNames names p × BindsNames names q
BindsNames names (Quantify q name x y p) = HasBoundNames names x × HasBoundNames names y × BindsNames (name ∷ names) p

-- no bound name stands outside its quantifier
abbrev pub IsClosed : Note → Type 0
IsClosed note = BindsNames [] note
