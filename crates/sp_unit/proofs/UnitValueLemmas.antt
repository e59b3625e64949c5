-- Values of expressions and of names are numbers of sixteen bits.
use Rattle.std.proofs.Common.{◌≡◌, ℕ, zero, suc, ◌+◌, ◌-◌, ◌*◌, ◌/◌, ◌%◌, ◌^◌, ◌<◌, ◌≤◌, Bool, true, false, cond, List, [], ◌∷◌, ◌++◌, length, take, Option, Some, None, refl, sym, subst, arith, div-le_self, lit<}
use Rattle.std.specs.Prelude.{nat_lt, slice_index_or, unwrap_or, bit_and, ◌==◌}
use Rattle.std.proofs.lemmas.Nat.{and_le_l, or_of_16, xor_of_16}
use Rattle.sp_expr.specs.declared.word.Operator.{Operator}
use Rattle.sp_expr.specs.declared.word.Operator.TheVariants as op
use Rattle.sp_expr.specs.declared.word.Word.{Word}
use Rattle.sp_expr.specs.declared.word.Word.TheVariants as words
use Rattle.sp_expr.specs.declared.level.Pending.{Pending}
use Rattle.sp_expr.specs.declared.level.Level.{Level}
use Rattle.sp_expr.specs.Arithmetic.{combined, applied, inverted, rank_of}
use Rattle.sp_expr.specs.Trees.{Tree, Number, Name, Here, Paren, Sign, Not, Binary, value_of}
use Rattle.sp_expr.specs.code.Level.{settled, inverted_if, product_with, sum_with, not_with, both_with, value_with, after_rank, after_operator, after_sign, empty}
use Rattle.sp_expr.specs.code.Evaluation.{State, start, step, run, finished, with_operator}

-- none, or below 65,536
abbrev pub IsShort : Option ℕ → Type 0
IsShort None = Unit {0}
IsShort (Some v) = v < 65536

cut : (n : ℕ) → n % 65536 < 65536
cut n = omega arith

at_most : (a b : ℕ) → b ≤ a → a < 65536 → b < 65536
at_most a b le lt = omega arith

and_short : (a b : ℕ) → a < 65536 → bit_and a b < 65536
and_short a b lt = at_most a (bit_and a b) (and_le_l a b) lt

divided : (b : Bool) (q : ℕ) → q < 65536 → IsShort (cond b None (Some q))
divided true q lt = tt
divided false q lt = lt

rest_of : (a b : ℕ) → b < 65536 → (t : Bool) → (b == 0) ≡ t → IsShort (cond t None (Some (a % b)))
rest_of a b lt true e = tt
rest_of a zero lt false e = absurd cc
rest_of a (suc b) lt false e = let below : a % suc b < suc b = omega arith in omega arith

shifted : (b : Bool) (n : ℕ) → n < 65536 → cond b n 0 < 65536
shifted true n lt = lt
shifted false n lt = lit< tt

combined_short : (o : Operator) (a b : ℕ) → a < 65536 → b < 65536 → IsShort (combined o a b)
combined_short op.Times a b la lb = cut (a * b)
combined_short op.Divide a b la lb = divided (b == 0) (a / b) (at_most a (a / b) (div-le_self a b) la)
combined_short op.Modulo a b la lb = rest_of a b lb (b == 0) refl
combined_short op.ShiftLeft a b la lb = shifted (nat_lt b 16) (a * 2 ^ b % 65536) (cut (a * 2 ^ b))
combined_short op.ShiftRight a b la lb = shifted (nat_lt b 16) (a / 2 ^ b) (at_most a (a / 2 ^ b) (div-le_self a (2 ^ b)) la)
combined_short op.Plus a b la lb = cut (a + b)
combined_short op.Minus a b la lb = cut (a + 65536 - b)
combined_short op.And a b la lb = and_short a b la
combined_short op.Or a b la lb = or_of_16 a b la lb
combined_short op.Xor a b la lb = xor_of_16 a b la lb

applied_short : (o : Operator) (x y : Option ℕ) → IsShort x → IsShort y → IsShort (applied o x y)
applied_short o None y h k = tt
applied_short o (Some a) None h k = tt
applied_short o (Some a) (Some b) h k = combined_short o a b h k

inverted_short : (x : Option ℕ) → IsShort x → IsShort (inverted x)
inverted_short None h = tt
inverted_short (Some a) h = xor_of_16 a 65535 h (lit< tt)

-- ---- Trees

pub tree_short : (names : List ℕ → Option ℕ) (here : ℕ) (t : Tree) → IsShort (value_of names here t)
tree_short names here (Number n) = cut n
tree_short names here (Name name) = cut (unwrap_or (names name) 0)
tree_short names here Here = cut here
tree_short names here (Paren tree) = tree_short names here tree
tree_short names here (Sign sign tree) = applied_short sign (Some 0) (value_of names here tree) (lit< tt) (tree_short names here tree)
tree_short names here (Not tree) = inverted_short (value_of names here tree) (tree_short names here tree)
tree_short names here (Binary o left right) = applied_short o (value_of names here left) (value_of names here right) (tree_short names here left) (tree_short names here right)

-- ---- Words read from the left

abbrev Waits : Option Pending → Type 0
Waits None = Unit {0}
Waits (Some p) = IsShort p.left

record IsShortLevel (l : Level) : Type 0 where
  either : Waits l.either
  both : Waits l.both
  sum : Waits l.sum
  product : Waits l.product

settled_short : (p : Option Pending) (x : Option ℕ) → Waits p → IsShort x → IsShort (settled p x)
settled_short None x h k = k
settled_short (Some p) x h k = applied_short p.operator p.left x h k

inverted_if_short : (b : Bool) (x : Option ℕ) → IsShort x → IsShort (inverted_if b x)
inverted_if_short true x h = inverted_short x h
inverted_if_short false x h = h

module _ (l : Level) (x : Option ℕ) (h : IsShortLevel l) (k : IsShort x) where
  product_short : IsShort (product_with l x)
  product_short = settled_short l.product x h.product k

  sum_short : IsShort (sum_with l x)
  sum_short = settled_short l.sum (product_with l x) h.sum product_short

  not_short : IsShort (not_with l x)
  not_short = inverted_if_short l.inverted (sum_with l x) sum_short

  both_short : IsShort (both_with l x)
  both_short = settled_short l.both (not_with l x) h.both not_short

  value_short : IsShort (value_with l x)
  value_short = settled_short l.either (both_with l x) h.either both_short

  rank_short : (rank : ℕ) (o : Operator) → IsShortLevel (after_rank rank o l x)
  rank_short zero o = h
  rank_short (suc zero) o = record { either = h.either; both = h.both; sum = h.sum; product = product_short }
  rank_short (suc (suc zero)) o = record { either = h.either; both = h.both; sum = sum_short; product = tt }
  rank_short (suc (suc (suc zero))) o = h
  rank_short (suc (suc (suc (suc zero)))) o = record { either = h.either; both = both_short; sum = tt; product = tt }
  rank_short (suc (suc (suc (suc (suc rank))))) o = record { either = value_short; both = tt; sum = tt; product = tt }

empty_short : IsShortLevel empty
empty_short = record { either = tt; both = tt; sum = tt; product = tt }

abbrev AreShort : List Level → Type 0
AreShort [] = Unit {0}
AreShort (l ∷ ls) = IsShortLevel l × AreShort ls

pushed_short : (ls : List Level) (l : Level) → AreShort ls → IsShortLevel l → AreShort (ls ++ l ∷ [])
pushed_short [] l h k = (k, tt)
pushed_short (m ∷ ls) l h k = (h.0, pushed_short ls l h.1 k)

taken_short : (n : ℕ) (ls : List Level) → AreShort ls → AreShort (take n ls)
taken_short zero ls h = tt
taken_short (suc n) [] h = tt
taken_short (suc n) (l ∷ ls) h = (h.0, taken_short n ls h.1)

at_short : (n : ℕ) (ls : List Level) → AreShort ls → IsShortLevel (slice_index_or ls n empty)
at_short n [] h = by n
  where
    by : (m : ℕ) → IsShortLevel (slice_index_or [] m empty)
    by zero = empty_short
    by (suc m) = empty_short
at_short zero (l ∷ ls) h = h.0
at_short (suc n) (l ∷ ls) h = at_short n ls h.1

record IsShortState (s : State) : Type 0 where
  level : IsShortLevel s.level
  outer : AreShort s.outer
  operand : IsShort s.operand

operator_short : (s : State) (o : Operator) (b : Bool) → s.after ≡ b → IsShortState s → IsShortState (with_operator s o)
operator_short s o true e h = subst (λ b. IsShortState (cond b (record { level = after_operator o s.level s.operand; outer = s.outer; operand = s.operand; after = false }) (record { level = after_sign o s.level; outer = s.outer; operand = s.operand; after = false }))) (sym e)
    (record { level = rank_short s.level s.operand h.level h.operand (rank_of o) o; outer = h.outer; operand = h.operand })
operator_short s o false e h = subst (λ b. IsShortState (cond b (record { level = after_operator o s.level s.operand; outer = s.outer; operand = s.operand; after = false }) (record { level = after_sign o s.level; outer = s.outer; operand = s.operand; after = false }))) (sym e)
    (record { level = record { either = h.level.either; both = h.level.both; sum = lit< tt; product = h.level.product }; outer = h.outer; operand = h.operand })

module _ (names : List ℕ → Option ℕ) (here : ℕ) where
  step_short : (s : State) (w : Word) → IsShortState s → IsShortState (step names here s w)
  step_short s (words.Number n) h = record { level = h.level; outer = h.outer; operand = cut n }
  step_short s (words.Name name) h = record { level = h.level; outer = h.outer; operand = cut (unwrap_or (names name) 0) }
  step_short s words.Here h = record { level = h.level; outer = h.outer; operand = cut here }
  step_short s (words.Operator o) h = operator_short s o s.after refl h
  step_short s words.Not h = record { level = record { either = h.level.either; both = h.level.both; sum = h.level.sum; product = h.level.product }; outer = h.outer; operand = h.operand }
  step_short s words.Open h = record { level = empty_short; outer = pushed_short s.outer s.level h.outer h.level; operand = h.operand }
  step_short s words.Close h = record {
    level = at_short (length s.outer - 1) s.outer h.outer;
    outer = taken_short (length s.outer - 1) s.outer h.outer;
    operand = value_short s.level s.operand h.level h.operand;
  }

  run_short : (s : State) (ws : List Word) → IsShortState s → IsShortState (run names here s ws)
  unfolding run
  run_short s [] h = h
  run_short s (w ∷ ws) h = run_short (step names here s w) ws (step_short s w h)

  pub words_short : (ws : List Word) → IsShort (finished (run names here start ws))
  words_short ws =
      let h = run_short start ws (record { level = empty_short; outer = tt; operand = lit< tt }) in
      let end = run names here start ws in
      value_short (run names here start ws).level (run names here start ws).operand h.level h.operand
