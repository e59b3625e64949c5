-- What annotations say, by example.
use Rattle.std.proofs.Common.{◌≡◌, ℕ, zero, suc, ◌+◌, ◌-◌, ◌*◌, ◌%◌, ◌<◌, ◌≤◌, inl, inr, refl, ap, ◌∙◌, arith, Bool, true, false, cond, List, [], ◌∷◌, length, get_or, ℤ, pos, negsuc}
use Rattle.std.specs.Prelude.{◌<ℤ◌, ◌≤ℤ◌, ◌&&◌, nat_le, slice_index, codes, Contains}
use Rattle.std.proofs.lemmas.Int.{ints, by_lt_z}
use Rattle.std.proofs.lemmas.Bool.Decides.{nat_tests}
use Rattle.std.proofs.lemmas.List.{get_or_past}
use Rattle.sp_base.proofs.IntegerLemmas.{sum_between_none, sum_between_one, sum_between-parts}
use Rattle.sp_model.specs.Note.{Frame, shown, core_at}
use Rattle.sp_model.specs.NoteExamples.{HasWholeNumbers, DividesDown, HasBits, ReadsPlaces, ShowsMemory, ReadsStack, SumsCells, Orders, Connected, Quantified, BindsInnermost}

pub whole_numbers : HasWholeNumbers
whole_numbers = record {
  sum = λ f entry now. refl;
  difference = λ f entry now. refl;
  product = λ f entry now. refl;
  minus_minus = λ f entry now. refl;
  large = λ f entry now. refl;
}

pub divides_down : DividesDown
divides_down = record {
  both = λ f entry now. refl;
  left = λ f entry now. refl;
  right = λ f entry now. refl;
  neither = λ f entry now. refl;
  by_zero = λ f entry now. refl;
  rest_both = λ f entry now. refl;
  rest_left = λ f entry now. refl;
  rest_right = λ f entry now. refl;
  rest_neither = λ f entry now. refl;
  rest_by_zero = λ f entry now. refl;
}

pub bits : HasBits
unfolding lib.Count.ones
bits = record {
  conjunction = λ f entry now. refl;
  conjunction_below = λ f entry now. refl;
  disjunction = λ f entry now. refl;
  exclusive = λ f entry now. refl;
  even = λ f entry now. refl;
  odd = λ f entry now. refl;
  none = λ f entry now. refl;
  below = λ f entry now. refl;
}

pub places : ReadsPlaces
places = record {
  register = λ f entry now. refl;
  register_before = λ f entry now. refl;
  flag = λ f entry now. refl;
  bc = λ f entry now. refl;
  de = λ f entry now. refl;
  hl = λ f entry now. refl;
  hl_before = λ f entry now. refl;
}

either_zero : (b : Bool) (v : ℕ) → v ≡ 0 → cond b (pos 0) (pos v) ≡ pos 0
either_zero true v e = refl
either_zero false v e = ap pos e

pub shown_below : (f : Frame) (cells : List ℕ) (z : ℤ) → z <ℤ pos 0 → shown f cells z ≡ pos 0
shown_below f cells (pos a) h = absurd (omega (arith, ints))
shown_below f cells (negsuc a) h = refl

pub shown_past : (f : Frame) (cells : List ℕ) (z : ℤ) → length cells ≡ 65536 → pos 65536 ≤ℤ z → shown f cells z ≡ pos 0
shown_past f cells (pos a) whole h = either_zero (nat_le f.first a && nat_le a f.last) (get_or cells a 0) (get_or_past cells a 0 (omega (arith, ints)))
shown_past f cells (negsuc a) whole h = absurd (omega (arith, ints))

read_outside : (b c : Bool) (v : ℕ) → (b && c) ≡ false → cond (b && c) (pos 0) (pos v) ≡ pos v
read_outside b c v e = ap (λ t. cond t (pos 0) (pos v)) e

read_inside : (b c : Bool) (v : ℕ) → (b && c) ≡ true → cond (b && c) (pos 0) (pos v) ≡ pos 0
read_inside b c v e = ap (λ t. cond t (pos 0) (pos v)) e

before_first : (first a last : ℕ) → a < first → (nat_le first a && nat_le a last) ≡ false
before_first first a last h = grind (arith, nat_tests)

after_last : (first a last : ℕ) → last < a → (nat_le first a && nat_le a last) ≡ false
after_last first a last h = grind (arith, nat_tests)

in_region : (first a last : ℕ) → first ≤ a → a ≤ last → (nat_le first a && nat_le a last) ≡ true
in_region first a last h k = grind (arith, nat_tests)

pub memory : ShowsMemory
memory = record {
  below = λ f cells a h. read_outside (nat_le f.first a) (nat_le a f.last) (slice_index cells a) (before_first f.first a f.last h);
  above = λ f cells a h. read_outside (nat_le f.first a) (nat_le a f.last) (slice_index cells a) (after_last f.first a f.last h);
  stack = λ f cells a h k. read_inside (nat_le f.first a) (nat_le a f.last) (slice_index cells a) (in_region f.first a f.last h k);
  negative = shown_below;
  past = shown_past;
  present = λ f entry now n. refl;
  before = λ f entry now n. refl;
}

two_cells : (cells : List ℕ) (a b i j : ℕ) → a ≡ i → b ≡ j → pos (slice_index cells a + 256 * slice_index cells b) ≡ pos (slice_index cells i + 256 * slice_index cells j)
two_cells cells a b i j e g = ap (λ n. pos (slice_index cells n + 256 * slice_index cells b)) e ∙ ap (λ n. pos (slice_index cells i + 256 * slice_index cells n)) g

pub stack_words : ReadsStack
stack_words = record {
  address = λ f k h. omega arith;
  word = λ f entry now k. refl;
  first = λ f entry now h. two_cells now.cells ((f.base + 65536 - 2 * 1) % 65536) ((f.base + 65536 - 2 * 1 + 1) % 65536) 1 2 (omega (arith, h)) (omega (arith, h));
  round = λ f entry now h. two_cells now.cells ((f.base + 65536 - 2 * 2) % 65536) ((f.base + 65536 - 2 * 2 + 1) % 65536) 65535 0 (omega (arith, h)) (omega (arith, h));
}

pub sums : SumsCells
sums = record {
  none = λ f m entry now low high h. sum_between_none (shown f (core_at m entry now).cells) low high h;
  one = λ f entry now z. sum_between_one (shown f now.cells) z;
  one_before = λ f entry now z. sum_between_one (shown f entry.cells) z;
  parts = λ f m entry now low mid high h k. sum_between-parts (shown f (core_at m entry now).cells) low mid high h k;
}

pub orders : Orders
orders = record {
  equal = ((λ f entry now. refl), (λ f entry now h. absurd (omega (arith, ints, h))), (λ f entry now h. absurd (omega (arith, ints, h))));
  unequal = ((λ f entry now h. h refl), (λ f entry now h. absurd (omega (arith, ints, h))), (λ f entry now h. absurd (omega (arith, ints, h))));
  less = ((λ f entry now h. absurd (omega (arith, ints, h))), (λ f entry now. omega (arith, ints)), (λ f entry now h. absurd (omega (arith, ints, h))));
  at_most = ((λ f entry now. omega (arith, ints)), (λ f entry now. omega (arith, ints)), (λ f entry now h. absurd (omega (arith, ints, h))));
  greater = ((λ f entry now h. absurd (omega (arith, ints, h))), (λ f entry now h. absurd (omega (arith, ints, h))), (λ f entry now. omega (arith, ints)));
  at_least = ((λ f entry now. omega (arith, ints)), (λ f entry now h. absurd (omega (arith, ints, h))), (λ f entry now. omega (arith, ints)));
  below_zero = ((λ f entry now. omega (arith, ints)), (λ f entry now h. absurd (omega (arith, ints, h))));
}

clash : false ≡ true → ⊥
clash h = cc

pub connected : Connected
connected = record {
  constants = ((λ f entry now. refl), (λ f entry now h. clash h));
  negation = ((λ f entry now h. h refl), (λ f entry now h. clash h));
  conjunction = ((λ f entry now. (refl, refl)), (λ f entry now h. clash h.1), (λ f entry now h. clash h.0), (λ f entry now h. clash h.0));
  disjunction = ((λ f entry now. inl refl), (λ f entry now. inl refl), (λ f entry now. inr refl), (λ f entry now h. elim h [ inl p ↦ clash p | inr q ↦ clash q ]));
  implication = ((λ f entry now p. p), (λ f entry now h. clash (h refl)), (λ f entry now p. refl), (λ f entry now p. p));
  equivalence = ((λ f entry now. ((λ p. p), (λ p. p))), (λ f entry now h. clash (h.0 refl)), (λ f entry now h. clash (h.1 refl)), (λ f entry now. ((λ p. p), (λ p. p))));
}

pub quantified : Quantified
quantified = record {
  each = λ f entry now n from to. to;
  not_last = λ f entry now h. let k = h (pos 4) (omega (arith, ints)) (omega (arith, ints)) in absurd (omega (arith, ints, k));
  not_first = λ f entry now h. let k = h (pos 3) (omega (arith, ints)) (omega (arith, ints)) in absurd (omega (arith, ints, k));
  no_more = λ f entry now n from to. by_lt_z n (pos 4) (λ l. inl (omega (arith, ints, from))) (λ l. inr (omega (arith, ints, to)));
  some_first = λ f entry now. (pos 3, omega (arith, ints), omega (arith, ints), refl);
  some_last = λ f entry now. (pos 4, omega (arith, ints), omega (arith, ints), refl);
  some_past = λ f entry now h. let a = h.2 in let b = h.3 in absurd (omega (arith, ints, a, b));
  all_of_none = λ f entry now n from to. absurd (omega (arith, ints, from, to));
  some_of_none = λ f entry now h. let a = h.1 in let b = h.2 in absurd (omega (arith, ints, a, b));
}

i_is_not_j : Contains (codes "I" ∷ []) (codes "J") → ⊥
i_is_not_j (zero, low, e) = let n = ap (λ name. get_or name 0 0) e in absurd (omega (arith, n))
i_is_not_j (suc k, low, e) = absurd (omega (arith, low))

none_is : (name : List ℕ) → Contains [] name → ⊥
none_is name (k, low, e) = absurd (omega (arith, low))

pub binds_innermost : BindsInnermost
binds_innermost = record {
  inner = λ f entry now n from to m low high. omega (arith, ints, low, high);
  other = λ f entry now n from to m low high. omega (arith, ints, from, to);
  ends = λ f entry now n from to m low high. omega (arith, ints, from, to, low, high);
  closed = (tt, tt, ((0, omega arith, refl), tt));
  not_closed = λ h. i_is_not_j h.2.0;
  not_in_ends = λ h. none_is (codes "I") h.1;
  not_beside = λ h. none_is (codes "I") h.1.0;
}
