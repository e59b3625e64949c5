-- Notes with a part in each place where one may stand.
use Rattle.std.specs.Prelude.{◌≡◌, ◌↔◌, ℕ, pos, true, false, List, [], ◌∷◌, codes}
use Rattle.sp_isa.specs.Core.{Core}
use Rattle.sp_model.specs.Note.{Moment, Now, Operator, Comparison, Connective, Quantifier, Frame, Bindings, value, HoldsWith, Quantity, Literal, Cell, Total, Negative, Parity, Operate, Add, BitAnd, BitOr, BitXor, Bound, Less, And, ForAll, ForSome, Note, Constant, Compare, Not, Connect, Quantify, IsClosed}

-- the bound names I and J
abbrev pub I : Quantity
I = Bound (codes "I")

abbrev pub J : Quantity
J = Bound (codes "J")

-- for all I in 1..2: p
abbrev pub all_I : Note → Note
all_I p = Quantify ForAll (codes "I") (Literal 1) (Literal 2) p

-- x < 1
abbrev pub below : Quantity → Note
below x = Compare Less x (Literal 1)

-- a name at this place of a note is to be bound: the note is closed with I there inside a quantifier of I, and it isn't
-- with I there outside of one, or with J there inside of it
pub record BindsAt (note : Quantity → Note) : Type 0 where
  pub bound : IsClosed (all_I (note I))
  pub outside : ¬ IsClosed (note I)
  pub other : ¬ IsClosed (all_I (note J))

-- so it is at each place: on both sides, inside each operation, on both sides of a connective, and at both ends of a quantifier
pub record BindsEverywhere : Type 0 where
  pub left : BindsAt below
  pub right : BindsAt (λ x. Compare Less (Literal 1) x)
  pub cell : BindsAt (λ x. below (Cell Now x))
  pub low : BindsAt (λ x. below (Total Now x (Literal 1)))
  pub high : BindsAt (λ x. below (Total Now (Literal 1) x))
  pub negative : BindsAt (λ x. below (Negative x))
  pub parity : BindsAt (λ x. below (Parity x))
  pub first : BindsAt (λ x. below (Operate Add x (Literal 1)))
  pub second : BindsAt (λ x. below (Operate Add (Literal 1) x))
  pub denied : BindsAt (λ x. Not (below x))
  pub left_note : BindsAt (λ x. Connect And (below x) (Constant true))
  pub right_note : BindsAt (λ x. Connect And (Constant true) (below x))
  pub first_end : BindsAt (λ x. Quantify ForSome (codes "K") x (Literal 1) (Constant true))
  pub last_end : BindsAt (λ x. Quantify ForSome (codes "K") (Literal 1) x (Constant true))
  pub inside : BindsAt (λ x. Quantify ForSome (codes "K") (Literal 1) (Literal 1) (below x))
  -- a quantifier binds its name inside, and not in its ends
  pub own_first_end : ¬ IsClosed (Quantify ForAll (codes "I") I (Literal 1) (Constant true))
  pub own_last_end : ¬ IsClosed (Quantify ForAll (codes "I") (Literal 1) I (Constant true))

-- ---- Parts of notes stand for their numbers and truth values

-- a quantity with a part in it has the same number if the part's number, n, is written instead
abbrev pub HasPart : (Quantity → Quantity) → Type 0
HasPart quantity =
    (f : Frame) (b : Bindings) (entry now : Core) (x : Quantity) (n : ℕ) → value f b x entry now ≡ pos n
    → value f b (quantity x) entry now ≡ value f b (quantity (Literal n)) entry now

-- so has a note
abbrev pub HasNumber : (Quantity → Note) → Type 0
HasNumber note =
    (f : Frame) (b : Bindings) (entry now : Core) (x : Quantity) (n : ℕ) → value f b x entry now ≡ pos n
    → HoldsWith f b (note x) entry now ↔ HoldsWith f b (note (Literal n)) entry now

-- and a note with another in it is the same if that one's truth value is written instead
abbrev pub HasTruth : (Note → Note) → Type 0
HasTruth note =
    (f : Frame) (b : Bindings) (entry now : Core) (p : Note)
    → (HoldsWith f b p entry now → HoldsWith f b (note p) entry now ↔ HoldsWith f b (note (Constant true)) entry now)
    × ((¬ HoldsWith f b p entry now) → HoldsWith f b (note p) entry now ↔ HoldsWith f b (note (Constant false)) entry now)

pub record StandForValues : Type 0 where
  pub cell : (m : Moment) → HasPart (Cell m)
  pub low : (m : Moment) (y : Quantity) → HasPart (λ x. Total m x y)
  pub high : (m : Moment) (y : Quantity) → HasPart (Total m y)
  pub negative : HasPart Negative
  pub parity : HasPart Parity
  pub first : (o : Operator) (y : Quantity) → HasPart (λ x. Operate o x y)
  pub second : (o : Operator) (y : Quantity) → HasPart (Operate o y)
  pub left : (c : Comparison) (y : Quantity) → HasNumber (λ x. Compare c x y)
  pub right : (c : Comparison) (y : Quantity) → HasNumber (Compare c y)
  pub first_end : (q : Quantifier) (name : List ℕ) (y : Quantity) (p : Note) → HasNumber (λ x. Quantify q name x y p)
  pub last_end : (q : Quantifier) (name : List ℕ) (y : Quantity) (p : Note) → HasNumber (λ x. Quantify q name y x p)
  pub denied : HasTruth Not
  pub left_note : (c : Connective) (q : Note) → HasTruth (λ p. Connect c p q)
  pub right_note : (c : Connective) (q : Note) → HasTruth (Connect c q)
  -- for all or some I from a number to itself: what is inside, with this number for I
  pub inside : (f : Frame) (b : Bindings) (entry now : Core) (q : Quantifier) (name : List ℕ) (x : Quantity) (p : Note)
      → HoldsWith f b (Quantify q name x x p) entry now ↔ HoldsWith f ((name, value f b x entry now) ∷ b) p entry now

-- of 12 and 10 one bit is in both, three are in either, and two in one alone
pub record HasOverlap : Type 0 where
  pub both : (f : Frame) (entry now : Core) → value f [] (Operate BitAnd (Literal 12) (Literal 10)) entry now ≡ pos 8
  pub either : (f : Frame) (entry now : Core) → value f [] (Operate BitOr (Literal 12) (Literal 10)) entry now ≡ pos 14
  pub one : (f : Frame) (entry now : Core) → value f [] (Operate BitXor (Literal 12) (Literal 10)) entry now ≡ pos 6

-- a closed note says the same whatever names stand for
abbrev pub NeedNoNames : Type 0
NeedNoNames =
    (f : Frame) (b c : Bindings) (entry now : Core) (p : Note) → IsClosed p → HoldsWith f b p entry now ↔ HoldsWith f c p entry now
