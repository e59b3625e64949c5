-- Numbers that fit the code's integers with room to add, and notes whose parts all have such numbers.
use Rattle.std.specs.Prelude.{◌≢◌, ℕ, ◌≤◌, pos, ◌^◌, ◌<◌, ℤ, ◌≤ℤ◌, unsigned_abs, ◌∷◌, ⊤}
use Rattle.sp_isa.specs.Core.{Core}
use Rattle.sp_model.specs.Note.{Frame, Bindings, value, Quantity, Literal, Location, Pair, Cell, StackWord, Total, Negative, Parity, Operate, Bound, Note, Constant, Compare, Not, Connect, Quantify}

pub record IsSmall (z : ℤ) : Type 0 where
  pub size : unsigned_abs z < 2 ^ 101

-- the number from 0 to 65,536 that is nearest to another
pub record IsClamped (z : ℤ) (n : ℕ) : Type 0 where
  pub within : n ≤ 65536
  pub low : n ≢ 65536 → z ≤ℤ pos n
  pub high : n ≢ 0 → pos n ≤ℤ z

-- the number of a quantity is small, and so is that of each part
abbrev pub HasSmallParts : Frame → Bindings → Quantity → Core → Core → Type 0
HasSmallParts f b (Literal n) entry now = IsSmall (value f b (Literal n) entry now)
HasSmallParts f b (Location m x) entry now = IsSmall (value f b (Location m x) entry now)
HasSmallParts f b (Pair m p) entry now = IsSmall (value f b (Pair m p) entry now)
HasSmallParts f b (Cell m x) entry now = IsSmall (value f b (Cell m x) entry now) × HasSmallParts f b x entry now
HasSmallParts f b (StackWord k) entry now = IsSmall (value f b (StackWord k) entry now)
HasSmallParts f b (Total m x y) entry now = IsSmall (value f b (Total m x y) entry now) × HasSmallParts f b x entry now × HasSmallParts f b y entry now
HasSmallParts f b (Negative x) entry now = IsSmall (value f b (Negative x) entry now) × HasSmallParts f b x entry now
HasSmallParts f b (Parity x) entry now = IsSmall (value f b (Parity x) entry now) × HasSmallParts f b x entry now
HasSmallParts f b (Operate o x y) entry now = IsSmall (value f b (Operate o x y) entry now) × HasSmallParts f b x entry now × HasSmallParts f b y entry now
HasSmallParts f b (Bound name) entry now = IsSmall (value f b (Bound name) entry now)

abbrev pub NoteHasSmallParts : Frame → Bindings → Note → Core → Core → Type 0
NoteHasSmallParts f b (Constant truth) entry now = ⊤
NoteHasSmallParts f b (Compare c x y) entry now = HasSmallParts f b x entry now × HasSmallParts f b y entry now
NoteHasSmallParts f b (Not p) entry now = NoteHasSmallParts f b p entry now
NoteHasSmallParts f b (Connect c p q) entry now = NoteHasSmallParts f b p entry now × NoteHasSmallParts f b q entry now
NoteHasSmallParts f b (Quantify q name x y p) entry now =
    HasSmallParts f b x entry now × HasSmallParts f b y entry now
    × ((n : ℤ) → value f b x entry now ≤ℤ n → n ≤ℤ value f b y entry now → NoteHasSmallParts f ((name, n) ∷ b) p entry now)
