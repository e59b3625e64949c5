-- Whether a note is true, as a test.
use Rattle.std.specs.Prelude.{ℕ, ℤ, Bool, true, false, not, ◌&&◌, ◌||◌, int_lt, int_le, ◌∷◌}
use Rattle.std.specs.Ordering.{int_eq}
use Rattle.sp_base.specs.Integers.{all_from, some_from, count_between}
use Rattle.sp_isa.specs.Core.{Core}
use Rattle.sp_model.specs.Note.{Frame, Bindings, value, Comparison, Equal, Unequal, Less, LessOrEqual, Greater, GreaterOrEqual, Connective, And, Or, Implies, Iff, Quantifier, ForAll, ForSome, Note, Constant, Compare, Not, Connect, Quantify}

abbrev pub compares : Comparison → ℤ → ℤ → Bool
compares Equal x y = int_eq x y
compares Unequal x y = not (int_eq x y)
compares Less x y = int_lt x y
compares LessOrEqual x y = int_le x y
compares Greater x y = int_lt y x
compares GreaterOrEqual x y = int_le y x

abbrev pub same_truth : Bool → Bool → Bool
same_truth true q = q
same_truth false q = not q

abbrev pub connects : Connective → Bool → Bool → Bool
connects And p q = p && q
connects Or p q = p || q
connects Implies p q = not p || q
connects Iff p q = same_truth p q

-- the truth over no index
abbrev pub truth_over_none : Quantifier → Bool
truth_over_none ForAll = true
truth_over_none ForSome = false

-- the truth over two parts of a range
abbrev pub joined : Quantifier → Bool → Bool → Bool
joined ForAll first rest = first && rest
joined ForSome first rest = first || rest

-- a test of so many numbers from z on
abbrev pub quantifies_from : Quantifier → (ℤ → Bool) → ℤ → ℕ → Bool
quantifies_from ForAll test z n = all_from test z n
quantifies_from ForSome test z n = some_from test z n

-- a test of the numbers from one through another
abbrev pub quantifies : Quantifier → (ℤ → Bool) → ℤ → ℤ → Bool
quantifies q test low high = quantifies_from q test low (count_between low high)

abbrev pub is_true : Frame → Bindings → Note → Core → Core → Bool
is_true f b (Constant truth) entry now = truth
is_true f b (Compare c x y) entry now = compares c (value f b x entry now) (value f b y entry now)
is_true f b (Not p) entry now = not (is_true f b p entry now)
is_true f b (Connect c p q) entry now = connects c (is_true f b p entry now) (is_true f b q entry now)
is_true f b (Quantify q name x y p) entry now =
    quantifies q (λ n. is_true f ((name, n) ∷ b) p entry now) (value f b x entry now) (value f b y entry now)
