-- New subgoals are closed formulas.
use Rattle.std.proofs.Common.{ℕ, ◌≤◌, ◌≡◌, refl, sym, subst, ℤ, pos, negsuc, Bool, true, false, List, [], ◌∷◌, ◌++◌, map, Option, Some, None, arith}
use Rattle.std.specs.Prelude.{◌||◌, if◌then◌else◌, All, int_lt, nat_le}
use Rattle.std.specs.List.{AllByRecursion}
use Rattle.std.proofs.lemmas.Bool.Decides.{nat_tests}
use Rattle.sp_base.specs.Image.{ImageMap}
use Rattle.sp_term.specs.declared.var.Var.{Var}
use Rattle.sp_term.specs.declared.interval.Interval.{Interval}
use Rattle.sp_term.specs.Tree.{Tree, Truth, Variable, ByteAnd, ByteOr, ByteXor, If, Element, Update, Total, Equal, Not, And, Or, Implies, Iff, ForAll, ForSome}
use Rattle.sp_term.specs.Free.{var_eq}
use Rattle.sp_term.specs.Sorts.{Int, Formula, Memory}
use Rattle.sp_term.specs.Intervals.{interval}
use Rattle.sp_term.specs.Admissible.{Change}
use Rattle.sp_simp.specs.Same.{tree_eq}
use Rattle.sp_steps.specs.declared.side.Side.{Side}
use Rattle.sp_steps.specs.declared.side.Side.TheVariants as side
use Rattle.sp_steps.specs.Subgoals.{Subgoal, hypothesis}
use Rattle.sp_steps.specs.Steps.{Step, New, Piece, Built, turned, formula, adds, Close, Simp, Split, Intro, OneSide, Unpack, UseBoth, CasesOf, CasesOn, Cut, Fix, At, Give, Pick, Induct, Rewrite, Linear, DivMod, Range, Read, Rom, Frame, Bits, BitOf, Choose, Empty, Last, Over}
use Rattle.sp_steps.specs.Rewriting.{stands_in_tree}
use Rattle.sp_steps.specs.Rows.{closed_by, split_goal, introduced, one_of, on_side, unpacked, unpacked_one, unpacked_not, used, used_one, cases_of, cases_of_one, fixed, instance_of, instance_of_one, given, picked, picked_one, inducted, sides_of, sides_of_some, rewritten_goal, rewritten_one, divided, ranged, read_cell, change_for, change_of_memory, byte_at, loaded_byte, loaded, away, away_from, outside, unchanged, sum_of_bits, weighed_bit, parity_sum, in_bits, bit_of_parts, bit_is, bit_of, chosen, empty_total, last_of_total, total_over_update}
use Rattle.sp_steps.specs.Next.{Row, new_subgoal}
use Rattle.sp_steps.specs.Soundness.{IsClosedTerm, IsProperSubgoal, IsProperChange, IsProperStep, AreApart}
use Rattle.sp_rules_laws.specs.Truth.{StaysProper}
use Rattle.sp_rules_laws.proofs.BoolLemmas.{same_some, none_some, if_some, every, all_of, append, changed}
use Rattle.sp_rules_laws.proofs.StateLemmas.{placed_is}
use Rattle.sp_rules_laws.proofs.NumberLemmas.{proper_at}
use Rattle.sp_rules_laws.proofs.ClosedLemmas.{Closed, closed, literal, truth, any, negation, bit, parity, add, subtract, multiply, divide, rest, element, equal, less, at_most, both, one_or, implies, total, and_parts, or_parts, implies_parts, iff_parts, equal_parts, element_parts, byteand_parts, byteor_parts, bytexor_parts, total_parts, update_parts, if_parts, not_part, all_parts, some_parts, rewritten_closed}
use Rattle.sp_rules_laws.proofs.SimpleLemmas.{simple_closed}

abbrev F : Tree → Type 0
F p = Closed Formula p

-- what is added, and the goal
abbrev IsProperNew : New → Type 0
IsProperNew n = AllByRecursion F (map formula n.added) × F (formula n.goal)

abbrev Proper : List New → Type 0
Proper made = AllByRecursion IsProperNew made

is_made : (a made : List New) → Some a ≡ Some made → Proper a → Proper made
is_made a made h p = subst Proper (same_some a made h) p

added : (ps : List Piece) (goal : Tree) (made : List New) → adds ps goal ≡ Some made → AllByRecursion F (map formula ps) → F goal → Proper made
added ps goal made h p g = is_made _ made h ((p, g), tt)

abbrev Hs : List Tree → Type 0
Hs hs = AllByRecursion F hs

hypothesis_closed : (hs : List Tree) (k : ℕ) (p : Tree) → hypothesis hs k ≡ Some p → Hs hs → F p
hypothesis_closed hs k p h is = closed (proper_at hs k p h (changed F (IsClosedTerm Formula) (λ q c. c.is) hs is))

-- ---- logic
close_proper : (h : Option Tree) (goal : Tree) (made : List New) → closed_by h goal ≡ Some made → Proper made
close_proper (Some p) goal made h = is_made [] made (if_some (tree_eq p goal || tree_eq p (Truth false)) (Some []) made h).1 tt
close_proper None goal made h = none_some made h

simple_proper : (p : Tree) (b : Bool) → F p → Proper (if b then [] else turned (Built p) ∷ [])
simple_proper p true h = tt
simple_proper p false h = ((tt, h), tt)

split_proper : (goal : Tree) (made : List New) → split_goal goal ≡ Some made → F goal → Proper made
split_proper (And p q) made h f = let a = and_parts p q f in is_made _ made h ((tt, a.0), ((tt, a.1), tt))
split_proper (Iff p q) made h f = let a = iff_parts p q f in is_made _ made h ((tt, implies a.0 a.1), ((tt, implies a.1 a.0), tt))
split_proper (Equal x y) made h f = let a = equal_parts x y f in is_made _ made h ((tt, at_most a.0 a.1), ((tt, at_most a.1 a.0), tt))
split_proper goal made h f = none_some made h

intro_proper : (goal : Tree) (made : List New) → introduced goal ≡ Some made → F goal → Proper made
intro_proper (Implies p q) made h f = let a = implies_parts p q f in is_made _ made h (((a.0, tt), a.1), tt)
intro_proper (Not p) made h f = is_made _ made h (((not_part p f, tt), truth false), tt)
intro_proper goal made h f = none_some made h

side_of : (s : Side) (p q : Tree) → F p → F q → F (one_of s p q)
side_of side.Left p q h g = h
side_of side.Right p q h g = g

side_proper : (s : Side) (goal : Tree) (made : List New) → on_side s goal ≡ Some made → F goal → Proper made
side_proper s (Or p q) made h f = let a = or_parts p q f in is_made _ made h ((tt, side_of s p q a.0 a.1), tt)
side_proper s goal made h f = none_some made h

unpack_not : (p goal : Tree) (made : List New) → unpacked_not p goal ≡ Some made → F (Not p) → F goal → Proper made
unpack_not (Equal x y) goal made h f g = let a = equal_parts x y (not_part (Equal x y) f) in added _ goal made h (one_or (less a.0 a.1) (less a.1 a.0), tt) g
unpack_not p goal made h f g = none_some made h

unpack_one : (p goal : Tree) (made : List New) → unpacked_one p goal ≡ Some made → F p → F goal → Proper made
unpack_one (And p q) goal made h f g = let a = and_parts p q f in added _ goal made h (a.0, (a.1, tt)) g
unpack_one (Iff p q) goal made h f g = let a = iff_parts p q f in added _ goal made h (implies a.0 a.1, (implies a.1 a.0, tt)) g
unpack_one (Not p) goal made h f g = unpack_not p goal made h f g
unpack_one p goal made h f g = none_some made h

unpack_proper : (hs : List Tree) (k : ℕ) (goal : Tree) (made : List New) (o : Option Tree) → hypothesis hs k ≡ o → unpacked o goal ≡ Some made → Hs hs → F goal → Proper made
unpack_proper hs k goal made (Some p) is h f g = unpack_one p goal made h (hypothesis_closed hs k p is f) g
unpack_proper hs k goal made None is h f g = none_some made h

use_one : (p r goal : Tree) (made : List New) → used_one p r goal ≡ Some made → F p → F goal → Proper made
use_one (Implies p q) r goal made h f g = let k = if_some (tree_eq p r) _ made h in added _ goal made k.1 ((implies_parts p q f).1, tt) g
use_one (Not p) r goal made h f g = let k = if_some (tree_eq p r) _ made h in added _ goal made k.1 (truth false, tt) g
use_one p r goal made h f g = none_some made h

use_proper : (hs : List Tree) (k : ℕ) (goal : Tree) (made : List New) (o r : Option Tree) → hypothesis hs k ≡ o → used o r goal ≡ Some made → Hs hs → F goal → Proper made
use_proper hs k goal made (Some p) (Some r) is h f g = use_one p r goal made h (hypothesis_closed hs k p is f) g
use_proper hs k goal made (Some p) None is h f g = none_some made h
use_proper hs k goal made None r is h f g = none_some made h

cases_one : (p goal : Tree) (made : List New) → cases_of_one p goal ≡ Some made → F p → F goal → Proper made
cases_one (Or p q) goal made h f g = let a = or_parts p q f in is_made _ made h (((a.0, tt), g), (((a.1, tt), g), tt))
cases_one p goal made h f g = none_some made h

cases_proper : (hs : List Tree) (k : ℕ) (goal : Tree) (made : List New) (o : Option Tree) → hypothesis hs k ≡ o → cases_of o goal ≡ Some made → Hs hs → F goal → Proper made
cases_proper hs k goal made (Some p) is h f g = cases_one p goal made h (hypothesis_closed hs k p is f) g
cases_proper hs k goal made None is h f g = none_some made h

-- ---- quantifiers
fix_proper : (j : ℕ) (goal : Tree) (made : List New) → 1 ≤ j → fixed j goal ≡ Some made → F goal → Proper made
fix_proper j (ForAll i x y p) made l h f =
    let a = all_parts i x y p f in let k = any j l in
    is_made _ made h (((at_most a.0 k, (at_most k a.1, tt)), a.2 _ k), tt)
fix_proper j goal made l h f = none_some made h

at_one : (p t goal : Tree) (made : List New) → instance_of_one p t goal ≡ Some made → Closed Int t → F p → F goal → Proper made
at_one (ForAll i x y p) t goal made h term f g =
    let a = all_parts i x y p f in
    added _ goal made h (implies (both (at_most a.0 term) (at_most term a.1)) (a.2 t term), tt) g
at_one p t goal made h term f g = none_some made h

at_proper : (hs : List Tree) (k : ℕ) (t goal : Tree) (made : List New) (o : Option Tree) → hypothesis hs k ≡ o → instance_of o t goal ≡ Some made → Closed Int t → Hs hs → F goal → Proper made
at_proper hs k t goal made (Some p) is h term f g = at_one p t goal made h term (hypothesis_closed hs k p is f) g
at_proper hs k t goal made None is h term f g = none_some made h

give_proper : (t goal : Tree) (made : List New) → given t goal ≡ Some made → Closed Int t → F goal → Proper made
give_proper t (ForSome i x y p) made h term f =
    let a = some_parts i x y p f in
    is_made _ made h ((tt, both (at_most a.0 term) (both (at_most term a.1) (a.2 t term))), tt)
give_proper t goal made h term f = none_some made h

pick_one : (j : ℕ) (p goal : Tree) (made : List New) → 1 ≤ j → picked_one j p goal ≡ Some made → F p → F goal → Proper made
pick_one j (ForSome i x y p) goal made l h f g =
    let a = some_parts i x y p f in let k = any j l in
    added _ goal made h (at_most a.0 k, (at_most k a.1, (a.2 _ k, tt))) g
pick_one j p goal made l h f g = none_some made h

pick_proper : (hs : List Tree) (k j : ℕ) (goal : Tree) (made : List New) (o : Option Tree) → hypothesis hs k ≡ o → 1 ≤ j → picked j o goal ≡ Some made → Hs hs → F goal → Proper made
pick_proper hs k j goal made (Some p) is l h f g = pick_one j p goal made l h (hypothesis_closed hs k p is f) g
pick_proper hs k j goal made None is l h f g = none_some made h

induct_proper : (j : ℕ) (goal : Tree) (made : List New) → 1 ≤ j → inducted j goal ≡ Some made → F goal → Proper made
induct_proper j (ForAll i x y p) made l h f =
    let a = all_parts i x y p f in let k = any j l in
    is_made _ made h ((tt, implies (at_most a.0 a.1) (a.2 x a.0)), (((at_most a.0 k, (less k a.1, (a.2 _ k, tt))), a.2 _ (add k (literal (pos 1)))), tt))
induct_proper j goal made l h f = none_some made h

-- ---- equations
record Sides (s : Tree × Tree) : Type 0 where
  pub first : Closed Int s.0
  pub second : Closed Int s.1

sides : (back : Bool) (h : Tree) (s : Tree × Tree) → sides_of back h ≡ Some s → F h → Sides s
sides false (Equal x y) s g f = let a = equal_parts x y f in subst Sides (same_some (x, y) s g) (record { first = a.0; second = a.1 })
sides true (Equal x y) s g f = let a = equal_parts x y f in subst Sides (same_some (y, x) s g) (record { first = a.1; second = a.0 })
sides false h s g f = none_some s g
sides true h s g f = none_some s g

goal_at : (back : Bool) (p goal : Tree) (made : List New) (o : Option (Tree × Tree)) → sides_of back p ≡ o → rewritten_goal o goal ≡ Some made → F p → F goal → Proper made
goal_at back p goal made (Some s) is h f g =
    let a = sides back p s is f in let k = if_some (stands_in_tree s.0 goal) _ made h in
    is_made _ made k.1 ((tt, rewritten_closed s.0 s.1 goal Formula a.first a.second g), tt)
goal_at back p goal made None is h f g = none_some made h

goal_proper : (hs : List Tree) (k : ℕ) (back : Bool) (goal : Tree) (made : List New) (o : Option Tree) → hypothesis hs k ≡ o → rewritten_goal (sides_of_some back o) goal ≡ Some made → Hs hs → F goal → Proper made
goal_proper hs k back goal made (Some p) is h f g = goal_at back p goal made (sides_of back p) refl h (hypothesis_closed hs k p is f) g
goal_proper hs k back goal made None is h f g = none_some made h

one_at : (back : Bool) (p r goal : Tree) (made : List New) (o : Option (Tree × Tree)) → sides_of back p ≡ o → rewritten_one o (Some r) goal ≡ Some made → F p → F r → F goal → Proper made
one_at back p r goal made (Some s) is h f there g =
    let a = sides back p s is f in let k = if_some (stands_in_tree s.0 r) _ made h in
    added _ goal made k.1 (rewritten_closed s.0 s.1 r Formula a.first a.second there, tt) g
one_at back p r goal made None is h f there g = none_some made h

one_proper : (hs : List Tree) (k j : ℕ) (back : Bool) (goal : Tree) (made : List New) (o r : Option Tree) → hypothesis hs k ≡ o → hypothesis hs j ≡ r → rewritten_one (sides_of_some back o) r goal ≡ Some made → Hs hs → F goal → Proper made
one_proper hs k j back goal made (Some p) (Some r) is there h f g = one_at back p r goal made (sides_of back p) refl h (hypothesis_closed hs k p is f) (hypothesis_closed hs j r there f) g
one_proper hs k j back goal made (Some p) None is there h f g = none_some made (no_other (sides_of back p) goal h)
  where
    no_other : (o : Option (Tree × Tree)) (goal : Tree) → rewritten_one o None goal ≡ Some made → None ≡ Some made
    no_other (Some s) goal h = h
    no_other None goal h = h
one_proper hs k j back goal made None (Some r) is there h f g = none_some made h
one_proper hs k j back goal made None None is there h f g = none_some made h

-- ---- numbers
divmod_proper : (t : Tree) (c : ℤ) (goal : Tree) (made : List New) → divided t c goal ≡ Some made → Closed Int t → F goal → Proper made
divmod_proper t c goal made h term g =
    let k = if_some (int_lt (pos 0) c) _ made h in
    let n = literal c in
    let r = rest term n in
    added _ goal made k.1 (equal term (add (multiply n (divide term n)) r), (at_most (literal (pos 0)) r, (less r n, tt))) g

range_proper : (o : Option Interval) (t goal : Tree) (made : List New) → ranged o t goal ≡ Some made → Closed Int t → F goal → Proper made
range_proper (Some i) t goal made h term g = added _ goal made h (at_most (literal i.low) term, (at_most term (literal i.high), tt)) g
range_proper None t goal made h term g = none_some made h

read_proper : (t goal : Tree) (made : List New) → read_cell t goal ≡ Some made → Closed Int t → F goal → Proper made
read_proper (Element (Update m x v) y) goal made h term g =
    let a = element_parts (Update m x v) y term in
    let b = update_parts m x v a.0 in
    let same = equal b.1 a.1 in
    added _ goal made h (implies same (equal term b.2), (implies (negation same) (equal term (element b.0 a.1)), tt)) g
read_proper t goal made h term g = none_some made h

rom_byte : (m : Tree) (c : ℤ) (o : Option ℕ) (goal : Tree) (made : List New) → loaded_byte m c o goal ≡ Some made → Closed Memory m → F goal → Proper made
rom_byte m c (Some b) goal made h term g = added _ goal made h (equal (element term (literal c)) (literal (pos b)), tt) g
rom_byte m c None goal made h term g = none_some made h

rom_proper : (cs : List Change) (m : Tree) (c : ℤ) (image : ImageMap) (goal : Tree) (made : List New) → loaded cs m c image goal ≡ Some made → Closed Memory m → F goal → Proper made
rom_proper cs m c image goal made h term g = rom_byte m c (byte_at image c) goal made (if_some _ _ made h).1 term g

away_proper : (t : Tree) (area : ℕ × ℕ) → Closed Int t → F (away t area)
away_proper t area h = one_or (less h (literal (pos area.0))) (less (literal (pos area.1)) h)

away_all : (t : Tree) (area : ℕ × ℕ) (areas : List (ℕ × ℕ)) → Closed Int t → F (away_from t area areas)
away_all t area [] h = away_proper t area h
away_all t area (next ∷ areas) h = both (away_proper t area h) (away_all t next areas h)

outside_proper : (t : Tree) (areas : List (ℕ × ℕ)) → Closed Int t → F (outside t areas)
outside_proper t [] h = truth true
outside_proper t (area ∷ areas) h = away_all t area areas h

change_by : (v : Var) (c : Change) (cs : List Change) (d : Change) (b : Bool) → (if b then Some c else change_for v cs) ≡ Some d → IsProperChange c → (change_for v cs ≡ Some d → IsProperChange d) → IsProperChange d
change_by v c cs d true h p later = subst IsProperChange (same_some c d h) p
change_by v c cs d false h p later = later h

change_proper : (v : Var) (cs : List Change) (d : Change) → change_for v cs ≡ Some d → AllByRecursion IsProperChange cs → IsProperChange d
change_proper v [] d h p = none_some d h
change_proper v (c ∷ cs) d h p = change_by v c cs d (var_eq v c.variable) h p.0 (λ k. change_proper v cs d k p.1)

frame_of : (m : Tree) (o : Option Change) (t goal : Tree) (made : List New) → unchanged m o t goal ≡ Some made → ((c : Change) → o ≡ Some c → IsProperChange c) → Closed Memory m → Closed Int t → F goal → Proper made
frame_of m (Some c) t goal made h p memory term g =
    added _ goal made h (implies (outside_proper t c.areas term) (equal (element memory term) (element (closed (p c refl).earlier) term)), tt) g
frame_of m None t goal made h p memory term g = none_some made h

memory_change : (m : Tree) (cs : List Change) (c : Change) → change_of_memory m cs ≡ Some c → AllByRecursion IsProperChange cs → IsProperChange c
memory_change (Variable v) cs c h p = change_proper v cs c h p
memory_change m cs c h p = none_some c h

-- ---- bits
weighed : (weight k : ℕ) (t : Tree) → k ≤ 7 → Closed Int t → Closed Int (weighed_bit weight k t)
weighed weight k t l h = multiply (literal (pos weight)) (bit k l h)

bits_proper : (t goal : Tree) (made : List New) → in_bits t goal ≡ Some made → Closed Int t → F goal → Proper made
bits_proper t goal made h term g =
    let sum : Closed Int (sum_of_bits t) = add (add (add (add (add (add (add (weighed 128 7 t (omega arith) term) (weighed 64 6 t (omega arith) term)) (weighed 32 5 t (omega arith) term)) (weighed 16 4 t (omega arith) term)) (weighed 8 3 t (omega arith) term)) (weighed 4 2 t (omega arith) term)) (weighed 2 1 t (omega arith) term)) (bit 0 (omega arith) term) in
    let odd : Closed Int (parity_sum t) = add (add (add (add (add (add (add (add (parity term) (bit 0 (omega arith) term)) (bit 1 (omega arith) term)) (bit 2 (omega arith) term)) (bit 3 (omega arith) term)) (bit 4 (omega arith) term)) (bit 5 (omega arith) term)) (bit 6 (omega arith) term)) (bit 7 (omega arith) term) in
    added _ goal made h (equal (rest term (literal (pos 256))) sum, (equal (rest odd (literal (pos 2))) (literal (pos 1)), tt)) g

up_to : (a b : ℕ) → nat_le a b ≡ true → a ≤ b
up_to a b h = grind (arith, nat_tests)

bit_proper : (k : ℕ) (t goal : Tree) (made : List New) → k ≤ 7 → bit_is k t (bit_of_parts k t) goal ≡ Some made → Closed Int t → F goal → Proper made
bit_proper k (ByteAnd x y) goal made l h term g =
    let a = byteand_parts x y term in let p = bit k l a.0 in let q = bit k l a.1 in
    added _ goal made h (equal (bit k l term) (multiply p q), tt) g
bit_proper k (ByteOr x y) goal made l h term g =
    let a = byteor_parts x y term in let p = bit k l a.0 in let q = bit k l a.1 in
    added _ goal made h (equal (bit k l term) (subtract (add p q) (multiply p q)), tt) g
bit_proper k (ByteXor x y) goal made l h term g =
    let a = bytexor_parts x y term in let p = bit k l a.0 in let q = bit k l a.1 in
    added _ goal made h (equal (bit k l term) (subtract (add p q) (multiply (literal (pos 2)) (multiply p q))), tt) g
bit_proper k t goal made l h term g = none_some made h

bitof_proper : (k : ℤ) (t goal : Tree) (made : List New) → bit_of k t goal ≡ Some made → Closed Int t → F goal → Proper made
bitof_proper (pos k) t goal made h term g = let c = if_some (nat_le k 7) _ made h in bit_proper k t goal made (up_to k 7 c.0) c.1 term g
bitof_proper (negsuc k) t goal made h term g = none_some made h

choose_proper : (t goal : Tree) (made : List New) → chosen t goal ≡ Some made → Closed Int t → F goal → Proper made
choose_proper (If p x y) goal made h term g =
    let a = if_parts p x y term in
    added _ goal made h (implies a.0 (equal term a.1), (implies (negation a.0) (equal term a.2), tt)) g
choose_proper t goal made h term g = none_some made h

-- ---- sums of cells
empty_proper : (t goal : Tree) (made : List New) → empty_total t goal ≡ Some made → Closed Int t → F goal → Proper made
empty_proper (Total m x y) goal made h term g = let a = total_parts m x y term in added _ goal made h (implies (less a.2 a.1) (equal term (literal (pos 0))), tt) g
empty_proper t goal made h term g = none_some made h

last_proper : (t goal : Tree) (made : List New) → last_of_total t goal ≡ Some made → Closed Int t → F goal → Proper made
last_proper (Total m x y) goal made h term g =
    let a = total_parts m x y term in
    added _ goal made h (implies (at_most a.1 a.2) (equal term (add (total a.0 a.1 (subtract a.2 (literal (pos 1)))) (element a.0 a.2))), tt) g
last_proper t goal made h term g = none_some made h

over_proper : (t goal : Tree) (made : List New) → total_over_update t goal ≡ Some made → Closed Int t → F goal → Proper made
over_proper (Total (Update m z v) x y) goal made h term g =
    let a = total_parts (Update m z v) x y term in
    let b = update_parts m z v a.0 in
    let before = total b.0 a.1 a.2 in
    added _ goal made h (
      implies (one_or (less b.1 a.1) (less a.2 b.1)) (equal term before),
      (implies (both (at_most a.1 b.1) (at_most b.1 a.2)) (equal term (subtract (add before b.2) (element b.0 b.1))), tt),
    ) g
over_proper t goal made h term g = none_some made h

-- ---- the table
row_proper : (image : ImageMap) (cs : List Change) (g : Subgoal) (step : Step) (made : List New) → AllByRecursion IsProperChange cs → Hs g.hypotheses → F g.goal → IsProperStep image step → Row cs g step made → Proper made
row_proper image cs g (Close k) made c hs f right row = close_proper (hypothesis g.hypotheses k) g.goal made row
row_proper image cs g (Simp None) made c hs f right row = subst Proper row.2 (simple_proper row.0 (tree_eq (Truth true) row.0) (closed (simple_closed g.goal row.0 f.is row.1)))
row_proper image cs g (Simp (Some k)) made c hs f right row = added _ g.goal made row.4 (closed (simple_closed row.0 row.1 (hypothesis_closed g.hypotheses k row.0 row.2 hs).is row.3), tt) f
row_proper image cs g Split made c hs f right row = split_proper g.goal made row f
row_proper image cs g Intro made c hs f right row = intro_proper g.goal made row f
row_proper image cs g (OneSide s) made c hs f right row = side_proper s g.goal made row f
row_proper image cs g (Unpack k) made c hs f right row = unpack_proper g.hypotheses k g.goal made (hypothesis g.hypotheses k) refl row hs f
row_proper image cs g (UseBoth k j) made c hs f right row = use_proper g.hypotheses k g.goal made (hypothesis g.hypotheses k) (hypothesis g.hypotheses j) refl row hs f
row_proper image cs g (CasesOf k) made c hs f right row = cases_proper g.hypotheses k g.goal made (hypothesis g.hypotheses k) refl row hs f
row_proper image cs g (CasesOn p) made c hs f right row = is_made _ made row (((closed right, tt), f), (((negation (closed right), tt), f), tt))
row_proper image cs g (Cut p) made c hs f right row = is_made _ made row ((tt, closed right), (((closed right, tt), f), tt))
row_proper image cs g Fix made c hs f right row = fix_proper row.0 g.goal made row.1.positive row.2 f
row_proper image cs g (At k t) made c hs f right row = at_proper g.hypotheses k t g.goal made (hypothesis g.hypotheses k) refl row (closed right) hs f
row_proper image cs g (Give t) made c hs f right row = give_proper t g.goal made row (closed right) f
row_proper image cs g (Pick k) made c hs f right row = pick_proper g.hypotheses k row.0 g.goal made (hypothesis g.hypotheses k) refl row.1.positive row.2 hs f
row_proper image cs g Induct made c hs f right row = induct_proper row.0 g.goal made row.1.positive row.2 f
row_proper image cs g (Rewrite k None back) made c hs f right row = goal_proper g.hypotheses k back g.goal made (hypothesis g.hypotheses k) refl row hs f
row_proper image cs g (Rewrite k (Some j) back) made c hs f right row = one_proper g.hypotheses k j back g.goal made (hypothesis g.hypotheses k) (hypothesis g.hypotheses j) refl refl row hs f
row_proper image cs g (Linear n numbers) made c hs f right row = subst Proper (sym row.3) tt
row_proper image cs g (DivMod t n) made c hs f right row = divmod_proper t n g.goal made row (closed right) f
row_proper image cs g (Range t) made c hs f right row = range_proper (interval t) t g.goal made row (closed right) f
row_proper image cs g (Read t) made c hs f right row = read_proper t g.goal made row (closed right) f
row_proper image cs g (Rom m n bytes) made c hs f right row = rom_proper cs m n bytes g.goal made row (closed right.0) f
row_proper image cs g (Frame m t) made c hs f right row = frame_of m (change_of_memory m cs) t g.goal made row (λ d h. memory_change m cs d h c) (closed right.0) (closed right.1) f
row_proper image cs g (Bits t) made c hs f right row = bits_proper t g.goal made row (closed right) f
row_proper image cs g (BitOf k t) made c hs f right row = bitof_proper k t g.goal made row (closed right) f
row_proper image cs g (Choose t) made c hs f right row = choose_proper t g.goal made row (closed right) f
row_proper image cs g (Empty t) made c hs f right row = empty_proper t g.goal made row (closed right) f
row_proper image cs g (Last t) made c hs f right row = last_proper t g.goal made row (closed right) f
row_proper image cs g (Over t) made c hs f right row = over_proper t g.goal made row (closed right) f

-- ---- the state
placed : (hs : List Tree) (made : List New) → Hs hs → Proper made → AllByRecursion IsProperSubgoal (map (new_subgoal hs) made)
placed hs [] h p = tt
placed hs (n ∷ made) h p = (
  record {
    hypotheses = all_of (IsClosedTerm Formula) (hs ++ map formula n.added) (changed F (IsClosedTerm Formula) (λ q c. c.is) (hs ++ map formula n.added) (append F hs (map formula n.added) h p.0.0));
    goal = p.0.1.is;
  },
  placed hs made h p.1,
)

pub stays_proper : (step : Step) → StaysProper step
stays_proper step image old new proper right next =
    let subgoals = every IsProperSubgoal (next.first ∷ next.rest) (subst (All IsProperSubgoal) next.on_first proper.subgoals) in
    let hs : Hs next.first.hypotheses = changed (IsClosedTerm Formula) F (λ q c. closed c) next.first.hypotheses (every (IsClosedTerm Formula) next.first.hypotheses subgoals.0.hypotheses) in
    let changes = every IsProperChange old.changes proper.changes in
    let made = row_proper image old.changes next.first step next.made changes hs (closed subgoals.0.goal) right next.row in
    let all : AllByRecursion IsProperSubgoal (map (new_subgoal next.first.hypotheses) next.made ++ next.rest) =
    append IsProperSubgoal (map (new_subgoal next.first.hypotheses) next.made) next.rest (placed next.first.hypotheses next.made hs made) subgoals.1 in
    record {
      subgoals = all_of IsProperSubgoal new.subgoals (subst (AllByRecursion IsProperSubgoal) (placed_is next.first.hypotheses next.rest next.made new.subgoals next.placed) all);
      changes = subst (All IsProperChange) (sym next.changes) proper.changes;
      apart = subst AreApart (sym next.changes) proper.apart;
    }
