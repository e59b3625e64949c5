-- The rules of scripts in the order of their numbers: what each makes of a subgoal, none where it doesn't apply (this
-- project's own). Rules 2 and 16 are relations and stand in Next.
use Rattle.std.specs.Prelude.{ℕ, Bool, true, false, if◌then◌else◌, ◌||◌, nat_le, ℤ, pos, negsuc, int_lt, Option, Some, None, List, [], ◌∷◌}
use Rattle.std.specs.FinMap as maps
use Rattle.sp_base.specs.Image.{ImageMap}
use Rattle.sp_term.specs.declared.var.Var.{Var}
use Rattle.sp_term.specs.declared.var.Var.TheVariants as var
use Rattle.sp_term.specs.declared.interval.Interval.{Interval}
use Rattle.sp_term.specs.Tree.{Tree, Literal, Truth, Variable, Add, Subtract, Multiply, Divide, Remainder, ByteAnd, ByteOr, ByteXor, Parity, Bit, If, Element, Update, Total, Equal, Less, LessOrEqual, Not, And, Or, Implies, Iff, ForAll, ForSome}
use Rattle.sp_term.specs.Free.{replaced, var_eq}
use Rattle.sp_term.specs.Admissible.{Change}
use Rattle.sp_simp.specs.Same.{tree_eq}
use Rattle.sp_steps.specs.declared.side.Side.{Side}
use Rattle.sp_steps.specs.declared.side.Side.TheVariants as side
use Rattle.sp_steps.specs.Rewriting.{stands_in_tree, rewritten}
use Rattle.sp_steps.specs.Steps.{Taken, Built, New, turned, with_added, adds}

abbrev any : ℕ → Tree
any j = Variable (var.Any j)

-- the formula of a quantifier with a term in the place of its variable
abbrev pub at_term : ℕ → Tree → Tree → Tree
at_term i x p = replaced (var.Bound i) x p

-- ---- logic

-- 1 `close hK`: hK is the goal, or is false; the subgoal goes
abbrev pub closed_by : Option Tree → Tree → Option (List New)
closed_by (Some p) goal = if tree_eq p goal || tree_eq p (Truth false) then Some [] else None
closed_by None goal = None

-- 2 `simp`: the goal becomes its simple form p, and goes if that is true
abbrev pub with_simple_goal : Tree → List New
with_simple_goal p = if tree_eq (Truth true) p then [] else turned (Built p) ∷ []

-- 3 `split`
abbrev pub split_goal : Tree → Option (List New)
split_goal (And p q) = Some (turned (Taken p) ∷ turned (Taken q) ∷ [])
split_goal (Iff p q) = Some (turned (Built (Implies p q)) ∷ turned (Built (Implies q p)) ∷ [])
split_goal (Equal x y) = Some (turned (Built (LessOrEqual x y)) ∷ turned (Built (LessOrEqual y x)) ∷ [])
split_goal goal = None

-- 4 `intro`
abbrev pub introduced : Tree → Option (List New)
introduced (Implies p q) = Some (with_added (Taken p ∷ []) (Taken q) ∷ [])
introduced (Not p) = Some (with_added (Taken p ∷ []) (Built (Truth false)) ∷ [])
introduced goal = None

-- 5 `side left`, `side right`
abbrev pub one_of : Side → Tree → Tree → Tree
one_of side.Left p q = p
one_of side.Right p q = q

abbrev pub on_side : Side → Tree → Option (List New)
on_side s (Or p q) = Some (turned (Taken (one_of s p q)) ∷ [])
on_side s goal = None

-- 6 `unpack hK`
abbrev pub unpacked_not : Tree → Tree → Option (List New)
unpacked_not (Equal x y) goal = adds (Built (Or (Less x y) (Less y x)) ∷ []) goal
unpacked_not p goal = None

abbrev pub unpacked_one : Tree → Tree → Option (List New)
unpacked_one (And p q) goal = adds (Taken p ∷ Taken q ∷ []) goal
unpacked_one (Iff p q) goal = adds (Built (Implies p q) ∷ Built (Implies q p) ∷ []) goal
unpacked_one (Not p) goal = unpacked_not p goal
unpacked_one h goal = None

abbrev pub unpacked : Option Tree → Tree → Option (List New)
unpacked (Some h) goal = unpacked_one h goal
unpacked None goal = None

-- 7 `use hK hJ`
abbrev pub used_one : Tree → Tree → Tree → Option (List New)
used_one (Implies p q) r goal = if tree_eq p r then adds (Taken q ∷ []) goal else None
used_one (Not p) r goal = if tree_eq p r then adds (Built (Truth false) ∷ []) goal else None
used_one h r goal = None

abbrev pub used : Option Tree → Option Tree → Tree → Option (List New)
used (Some h) (Some r) goal = used_one h r goal
used _ _ goal = None

-- 8 `cases hK`, `cases T`
abbrev pub cases_of_one : Tree → Tree → Option (List New)
cases_of_one (Or p q) goal = Some (with_added (Taken p ∷ []) (Taken goal) ∷ with_added (Taken q ∷ []) (Taken goal) ∷ [])
cases_of_one h goal = None

abbrev pub cases_of : Option Tree → Tree → Option (List New)
cases_of (Some h) goal = cases_of_one h goal
cases_of None goal = None

abbrev pub cases_on : Tree → Tree → Option (List New)
cases_on p goal = Some (with_added (Built p ∷ []) (Taken goal) ∷ with_added (Built (Not p) ∷ []) (Taken goal) ∷ [])

-- 9 `cut T`
abbrev pub cut_by : Tree → Tree → Option (List New)
cut_by p goal = Some (turned (Built p) ∷ with_added (Built p ∷ []) (Taken goal) ∷ [])

-- ---- quantifiers; `k_j` is fresh

-- 10 `fix`
abbrev pub fixed : ℕ → Tree → Option (List New)
fixed j (ForAll i x y p) = Some (with_added (Built (LessOrEqual x (any j)) ∷ Built (LessOrEqual (any j) y) ∷ []) (Built (at_term i (any j) p)) ∷ [])
fixed j goal = None

-- 11 `at hK X`
abbrev pub instance_of_one : Tree → Tree → Tree → Option (List New)
instance_of_one (ForAll i x y p) t goal = adds (Built (Implies (And (LessOrEqual x t) (LessOrEqual t y)) (at_term i t p)) ∷ []) goal
instance_of_one h t goal = None

abbrev pub instance_of : Option Tree → Tree → Tree → Option (List New)
instance_of (Some h) t goal = instance_of_one h t goal
instance_of None t goal = None

-- 12 `give X`
abbrev pub given : Tree → Tree → Option (List New)
given t (ForSome i x y p) = Some (turned (Built (And (LessOrEqual x t) (And (LessOrEqual t y) (at_term i t p)))) ∷ [])
given t goal = None

-- 13 `pick hK`
abbrev pub picked_one : ℕ → Tree → Tree → Option (List New)
picked_one j (ForSome i x y p) goal =
    adds (Built (LessOrEqual x (any j)) ∷ Built (LessOrEqual (any j) y) ∷ Built (at_term i (any j) p) ∷ []) goal
picked_one j h goal = None

abbrev pub picked : ℕ → Option Tree → Tree → Option (List New)
picked j (Some h) goal = picked_one j h goal
picked j None goal = None

-- 14 `induct`: first at the lower end, then from k to k + 1
abbrev pub induction_step : ℕ → ℕ → Tree → Tree → Tree → New
induction_step j i x y p =
    with_added (Built (LessOrEqual x (any j)) ∷ Built (Less (any j) y) ∷ Built (at_term i (any j) p) ∷ [])
    (Built (at_term i (Add (any j) (Literal (pos 1))) p))

abbrev pub inducted : ℕ → Tree → Option (List New)
inducted j (ForAll i x y p) = Some (turned (Built (Implies (LessOrEqual x y) (at_term i x p))) ∷ induction_step j i x y p ∷ [])
inducted j goal = None

-- ---- equations

-- 15 `rewrite hK`, `rewrite hK hJ`, each also with `back`: what is replaced, and by what
abbrev pub sides_of : Bool → Tree → Option (Tree × Tree)
sides_of false (Equal x y) = Some (x, y)
sides_of true (Equal x y) = Some (y, x)
sides_of back h = None

abbrev pub sides_of_some : Bool → Option Tree → Option (Tree × Tree)
sides_of_some back (Some h) = sides_of back h
sides_of_some back None = None

abbrev pub rewritten_goal : Option (Tree × Tree) → Tree → Option (List New)
rewritten_goal (Some s) goal = if stands_in_tree s.0 goal then Some (turned (Built (rewritten s.0 s.1 goal)) ∷ []) else None
rewritten_goal None goal = None

abbrev pub rewritten_one : Option (Tree × Tree) → Option Tree → Tree → Option (List New)
rewritten_one (Some s) (Some h) goal = if stands_in_tree s.0 h then adds (Built (rewritten s.0 s.1 h) ∷ []) goal else None
rewritten_one _ _ goal = None

-- ---- numbers

-- 17 `divmod X c`
abbrev pub divided : Tree → ℤ → Tree → Option (List New)
divided x c goal =
    let n = Literal c in
    if int_lt (pos 0) c then
    adds (Built (Equal x (Add (Multiply n (Divide x n)) (Remainder x n))) ∷ Built (LessOrEqual (Literal (pos 0)) (Remainder x n)) ∷ Built (Less (Remainder x n) n) ∷ []) goal
    else None

-- 18 `range X`
abbrev pub ranged : Option Interval → Tree → Tree → Option (List New)
ranged (Some i) x goal = adds (Built (LessOrEqual (Literal i.low) x) ∷ Built (LessOrEqual x (Literal i.high)) ∷ []) goal
ranged None x goal = None

-- ---- memories

-- 19 `read X`
abbrev pub read_cell : Tree → Tree → Option (List New)
read_cell (Element (Update m x v) y) goal =
    let cell = Element (Update m x v) y in
    adds (Built (Implies (Equal x y) (Equal cell v)) ∷ Built (Implies (Not (Equal x y)) (Equal cell (Element m y))) ∷ []) goal
read_cell t goal = None

-- the change of a memory variable, if it has one
abbrev pub change_for : Var → List Change → Option Change
change_for v [] = None
change_for v (c ∷ cs) = if var_eq v c.variable then Some c else change_for v cs

abbrev pub change_of_memory : Tree → List Change → Option Change
change_of_memory (Variable v) cs = change_for v cs
change_of_memory m cs = None

abbrev pub has_change : Option Change → Bool
has_change (Some c) = true
has_change None = false

-- a memory variable of the condition: `mem~`, and those that have changes
abbrev pub is_known_memory : Tree → List Change → Bool
is_known_memory (Variable v) cs = var_eq v var.MemEntry || has_change (change_for v cs)
is_known_memory m cs = false

-- the byte of an image at a number
abbrev pub byte_at : ImageMap → ℤ → Option ℕ
byte_at image (pos a) = maps.get image a
byte_at image (negsuc a) = None

-- 20 `rom M c`
abbrev pub loaded_byte : Tree → ℤ → Option ℕ → Tree → Option (List New)
loaded_byte m c (Some byte) goal = adds (Built (Equal (Element m (Literal c)) (Literal (pos byte))) ∷ []) goal
loaded_byte m c None goal = None

abbrev pub loaded : List Change → Tree → ℤ → ImageMap → Tree → Option (List New)
loaded cs m c image goal = if is_known_memory m cs then loaded_byte m c (byte_at image c) goal else None

-- 21 `frame M X`: outside the areas the memory is as before
abbrev pub away : Tree → ℕ × ℕ → Tree
away x area = Or (Less x (Literal (pos area.0))) (Less (Literal (pos area.1)) x)

abbrev pub away_from : Tree → ℕ × ℕ → List (ℕ × ℕ) → Tree
away_from x area [] = away x area
away_from x area (next ∷ areas) = And (away x area) (away_from x next areas)

abbrev pub outside : Tree → List (ℕ × ℕ) → Tree
outside x [] = Truth true
outside x (area ∷ areas) = away_from x area areas

abbrev pub unchanged : Tree → Option Change → Tree → Tree → Option (List New)
unchanged m (Some c) x goal = adds (Built (Implies (outside x c.areas) (Equal (Element m x) (Element c.earlier x))) ∷ []) goal
unchanged m None x goal = None

-- ---- bits and choices

-- `(2^k * bit(k,X))`
abbrev pub weighed_bit : ℕ → ℕ → Tree → Tree
weighed_bit weight k x = Multiply (Literal (pos weight)) (Bit k x)

-- `(128 * bit(7,X))`, `(64 * bit(6,X))` down to `(2 * bit(1,X))`, `bit(0,X)`, summed from the left
abbrev pub sum_of_bits : Tree → Tree
sum_of_bits x =
    Add (Add (Add (Add (Add (Add (Add (weighed_bit 128 7 x) (weighed_bit 64 6 x)) (weighed_bit 32 5 x)) (weighed_bit 16 4 x))
    (weighed_bit 8 3 x)) (weighed_bit 4 2 x)) (weighed_bit 2 1 x)) (Bit 0 x)

-- `par(X)`, `bit(0,X)` up to `bit(7,X)`, summed from the left
abbrev pub parity_sum : Tree → Tree
parity_sum x = Add (Add (Add (Add (Add (Add (Add (Add (Parity x) (Bit 0 x)) (Bit 1 x)) (Bit 2 x)) (Bit 3 x)) (Bit 4 x)) (Bit 5 x)) (Bit 6 x)) (Bit 7 x)

-- 22 `bits X`
abbrev pub in_bits : Tree → Tree → Option (List New)
in_bits x goal =
    adds (Built (Equal (Remainder x (Literal (pos 256))) (sum_of_bits x)) ∷ Built (Equal (Remainder (parity_sum x) (Literal (pos 2))) (Literal (pos 1))) ∷ []) goal

-- a bit of `band`, `bor` or `bxor` by those of the two parts
abbrev pub bit_of_parts : ℕ → Tree → Option Tree
bit_of_parts k (ByteAnd x y) = Some (Multiply (Bit k x) (Bit k y))
bit_of_parts k (ByteOr x y) = Some (Subtract (Add (Bit k x) (Bit k y)) (Multiply (Bit k x) (Bit k y)))
bit_of_parts k (ByteXor x y) = Some (Subtract (Add (Bit k x) (Bit k y)) (Multiply (Literal (pos 2)) (Multiply (Bit k x) (Bit k y))))
bit_of_parts k t = None

abbrev pub bit_is : ℕ → Tree → Option Tree → Tree → Option (List New)
bit_is k t (Some w) goal = adds (Built (Equal (Bit k t) w) ∷ []) goal
bit_is k t None goal = None

-- 23 `bitof k X`, where k is 0 to 7
abbrev pub bit_of : ℤ → Tree → Tree → Option (List New)
bit_of (pos k) t goal = if nat_le k 7 then bit_is k t (bit_of_parts k t) goal else None
bit_of (negsuc k) t goal = None

-- 24 `choose X`
abbrev pub chosen : Tree → Tree → Option (List New)
chosen (If p x y) goal = adds (Built (Implies p (Equal (If p x y) x)) ∷ Built (Implies (Not p) (Equal (If p x y) y)) ∷ []) goal
chosen t goal = None

-- ---- sums of cells

-- 25 `empty X`
abbrev pub empty_total : Tree → Tree → Option (List New)
empty_total (Total m x y) goal = adds (Built (Implies (Less y x) (Equal (Total m x y) (Literal (pos 0)))) ∷ []) goal
empty_total t goal = None

-- 26 `last X`
abbrev pub last_of_total : Tree → Tree → Option (List New)
last_of_total (Total m x y) goal =
    adds (Built (Implies (LessOrEqual x y) (Equal (Total m x y) (Add (Total m x (Subtract y (Literal (pos 1)))) (Element m y)))) ∷ []) goal
last_of_total t goal = None

-- 27 `over X`
abbrev pub total_over_update : Tree → Tree → Option (List New)
total_over_update (Total (Update m z v) x y) goal =
    let sum = Total (Update m z v) x y in
    let before = Total m x y in
    adds (Built (Implies (Or (Less z x) (Less y z)) (Equal sum before))
    ∷ Built (Implies (And (LessOrEqual x z) (LessOrEqual z y)) (Equal sum (Subtract (Add before v) (Element m z)))) ∷ []) goal
total_over_update t goal = None
