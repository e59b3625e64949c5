-- The words of an expression are read for its tree, so that they have one.
use Rattle.std.proofs.Common.{◌≡◌, ℕ, zero, suc, ◌+◌, ◌-◌, ◌≤◌, Bool, true, false, List, [], ◌∷◌, ◌++◌, length, get_or, take, Option, Some, None, refl, sym, ap, subst, ◌∙◌, arith, append_assoc, length-append, if◌then◌else◌}
use Rattle.std.proofs.lemmas.List.{append-nil}
use Rattle.std.proofs.Math.Seq.{take-append_seam}
use Rattle.sp_expr.specs.declared.setting.Setting.{Setting}
use Rattle.sp_expr.specs.declared.word.Operator.{Operator}
use Rattle.sp_expr.specs.declared.word.Operator.TheVariants as op
use Rattle.sp_expr.specs.declared.word.Word.{Word}
use Rattle.sp_expr.specs.declared.word.Word.TheVariants as words
use Rattle.sp_expr.specs.Arithmetic.{rank_of}
use Rattle.sp_expr.specs.Trees.Tree.{Number, Name, Here, Paren, Sign, Not, Binary}
use Rattle.sp_expr.specs.Trees.{Tree, rank_of_tree, IsExpression, spelling, SpellsIn}
use Rattle.sp_expr.proofs.ValueLaws.{tree_bound, no_third}
use Rattle.sp_reading_laws.specs.Expressions.{HaveOneTree}

-- ---- Reading

-- what waits for an operand: a left operand with its operator, or a sign
data Pending : Type 0 where
  Left : Operator → Tree → Pending
  Signed : Operator → Pending

abbrev settled : Option Pending → Tree → Tree
settled None tree = tree
settled (Some (Left operator left)) tree = Binary operator left tree
settled (Some (Signed sign)) tree = Sign sign tree

abbrev with_nots : ℕ → Tree → Tree
with_nots zero tree = tree
with_nots (suc n) tree = with_nots n (Not tree)

-- what waits between two parentheses, by the ranks of operators
record Level : Type 0 where
  either : Option Pending
  both : Option Pending
  nots : ℕ
  sum : Option Pending
  product : Option Pending

abbrev level : Option Pending → Option Pending → ℕ → Option Pending → Option Pending → Level
level either both nots sum product = record { either = either; both = both; nots = nots; sum = sum; product = product }

abbrev empty : Level
empty = level None None 0 None None

abbrev pending : Operator → Tree → Option Pending
pending operator left = Some (Left operator left)

abbrev signed : Operator → Option Pending
signed sign = Some (Signed sign)

abbrev sum_with : Level → Tree → Tree
sum_with l operand = settled l.sum (settled l.product operand)

abbrev both_with : Level → Tree → Tree
both_with l operand = settled l.both (with_nots l.nots (sum_with l operand))

abbrev value_with : Level → Tree → Tree
value_with l operand = settled l.either (both_with l operand)

-- the level after an operator of this rank that follows an operand
abbrev after_rank : ℕ → Operator → Level → Tree → Level
after_rank zero operator l operand = l
after_rank (suc zero) operator l operand = level l.either l.both l.nots l.sum (pending operator (settled l.product operand))
after_rank (suc (suc zero)) operator l operand = level l.either l.both l.nots (pending operator (sum_with l operand)) None
after_rank (suc (suc (suc zero))) operator l operand = l
after_rank (suc (suc (suc (suc zero)))) operator l operand = level l.either (pending operator (both_with l operand)) 0 None None
after_rank (suc (suc (suc (suc (suc rank))))) operator l operand = level (pending operator (value_with l operand)) None 0 None None

-- what waits here and outside, the last operand, and whether an operand was the last word
record State : Type 0 where
  level : Level
  outer : List Level
  operand : Tree
  after : Bool

abbrev state : Level → List Level → Tree → Bool → State
state level outer operand after = record { level = level; outer = outer; operand = operand; after = after }

abbrev start : State
start = state empty [] Here false

abbrev with_operator : State → Operator → State
with_operator s operator =
    if s.after then state (after_rank (rank_of operator) operator s.level s.operand) s.outer s.operand false
    else state (record s.level { sum = signed operator }) s.outer s.operand false

abbrev closed : State → State
closed s = state (get_or s.outer (length s.outer - 1) empty) (take (length s.outer - 1) s.outer) (Paren (value_with s.level s.operand)) true

abbrev step : State → Word → State
step s (words.Number n) = state s.level s.outer (Number n) true
step s (words.Name name) = state s.level s.outer (Name name) true
step s words.Here = state s.level s.outer Here true
step s (words.Operator operator) = with_operator s operator
step s words.Not = state (record s.level { nots = suc s.level.nots }) s.outer s.operand s.after
step s words.Open = state empty (s.outer ++ s.level ∷ []) s.operand false
step s words.Close = closed s

run : State → List Word → State
run s [] = s
run s (word ∷ ws) = run (step s word) ws

-- ---- what reading a tree of each rank leaves

abbrev Reads : ℕ → Tree → Type 0
Reads zero t = (l : Level) (outer : List Level) (operand : Tree) (rest : List Word)
    → run (state l outer operand false) (spelling t ++ rest) ≡ run (state l outer t true) rest
Reads (suc zero) t = (o a : Option Pending) (b : ℕ) (s : Option Pending) (outer : List Level) (operand : Tree) (rest : List Word)
    → (p : Option Pending) × (v : Tree)
    × (run (state (level o a b s None) outer operand false) (spelling t ++ rest) ≡ run (state (level o a b s p) outer v true) rest)
    × (settled p v ≡ t)
Reads (suc (suc zero)) t = (o a : Option Pending) (b : ℕ) (outer : List Level) (operand : Tree) (rest : List Word)
    → (s p : Option Pending) × (v : Tree)
    × (run (state (level o a b None None) outer operand false) (spelling t ++ rest) ≡ run (state (level o a b s p) outer v true) rest)
    × (settled s (settled p v) ≡ t)
Reads (suc (suc (suc zero))) t = (o a : Option Pending) (b : ℕ) (outer : List Level) (operand : Tree) (rest : List Word)
    → (c : ℕ) × (s p : Option Pending) × (v : Tree)
    × (run (state (level o a b None None) outer operand false) (spelling t ++ rest) ≡ run (state (level o a c s p) outer v true) rest)
    × (with_nots c (settled s (settled p v)) ≡ with_nots b t)
Reads (suc (suc (suc (suc zero)))) t = (o : Option Pending) (outer : List Level) (operand : Tree) (rest : List Word)
    → (a : Option Pending) × (c : ℕ) × (s p : Option Pending) × (v : Tree)
    × (run (state (level o None 0 None None) outer operand false) (spelling t ++ rest) ≡ run (state (level o a c s p) outer v true) rest)
    × (settled a (with_nots c (settled s (settled p v))) ≡ t)
Reads (suc (suc (suc (suc (suc r))))) t = (outer : List Level) (operand : Tree) (rest : List Word)
    → (l : Level) × (v : Tree) × (run (state empty outer operand false) (spelling t ++ rest) ≡ run (state l outer v true) rest)
    × (value_with l v ≡ t)

up : (r : ℕ) (t : Tree) → Reads r t → Reads (suc r) t
up zero t h = λ o a b s outer operand rest. (None, t, h (level o a b s None) outer operand rest, refl)
up (suc zero) t h = λ o a b outer operand rest.
    let k = h o a b None outer operand rest in
    (None, k.0, k.1, k.2, k.3)
up (suc (suc zero)) t h = λ o a b outer operand rest.
    let k = h o a b outer operand rest in
    (b, k.0, k.1, k.2, k.3, ap (with_nots b) k.4)
up (suc (suc (suc zero))) t h = λ o outer operand rest.
    let k = h o None 0 outer operand rest in
    (None, k.0, k.1, k.2, k.3, k.4, k.5)
up (suc (suc (suc (suc zero)))) t h = λ outer operand rest.
    let k = h None outer operand rest in
    (level None k.0 k.1 k.2 k.3, k.4, k.5, k.6)
up (suc (suc (suc (suc (suc r))))) t h = h

up_by : (r n : ℕ) (t : Tree) → Reads r t → Reads (n + r) t
up_by r zero t h = let e : r ≡ 0 + r = omega arith in subst (λ k. Reads k t) e h
up_by r (suc n) t h = let e : suc (n + r) ≡ suc n + r = omega arith in subst (λ k. Reads k t) e (up (n + r) t (up_by r n t h))

up_to : (low high : ℕ) (t : Tree) → low ≤ high → Reads low t → Reads high t
up_to low high t le h = let e : high - low + low ≡ high = omega arith in subst (λ k. Reads k t) e (up_by low (high - low) t h)

rank_bound : (operator : Operator) → rank_of operator ≤ 5
rank_bound op.Times = omega arith
rank_bound op.Divide = omega arith
rank_bound op.Modulo = omega arith
rank_bound op.ShiftLeft = omega arith
rank_bound op.ShiftRight = omega arith
rank_bound op.Plus = omega arith
rank_bound op.Minus = omega arith
rank_bound op.And = omega arith
rank_bound op.Or = omega arith
rank_bound op.Xor = omega arith

last_is : (outer : List Level) (l : Level) → get_or (outer ++ l ∷ []) (length outer) empty ≡ l
last_is [] l = refl
last_is (first ∷ outer) l = last_is outer l

popped : (l : Level) (outer : List Level) (v : Tree) (inside : Level) → closed (state inside (outer ++ l ∷ []) v true)
    ≡ state l outer (Paren (value_with inside v)) true
popped l outer v inside =
    let n : length (outer ++ l ∷ []) - 1 ≡ length outer = omega (arith, length-append outer (l ∷ [])) in
    ap (λ k. state (get_or (outer ++ l ∷ []) k empty) (take k (outer ++ l ∷ [])) (Paren (value_with inside v)) true) n
    ∙ ap (λ front. state (get_or (outer ++ l ∷ []) (length outer) empty) front (Paren (value_with inside v)) true)
    (take-append_seam outer (l ∷ []))
    ∙ ap (λ last. state last outer (Paren (value_with inside v)) true) (last_is outer l)

paren : (t : Tree) → Reads 5 t → Reads 0 (Paren t)
unfolding spelling run
paren t h l outer operand rest =
    let k = h (outer ++ l ∷ []) operand (words.Close ∷ rest) in
    ap (run (state empty (outer ++ l ∷ []) operand false)) (append_assoc (spelling t) (words.Close ∷ []) rest) ∙ k.2
    ∙ ap (λ s. run s rest) (popped l outer k.1 k.0 ∙ ap (λ tree. state l outer (Paren tree) true) k.3)

sign_read : (sign : Operator) (t : Tree) → Reads 1 t → Reads 2 (Sign sign t)
unfolding spelling run
sign_read sign t h o a b outer operand rest =
    let k = h o a b (signed sign) outer operand rest in
    (signed sign, k.0, k.1, k.2, ap (Sign sign) k.3)

not_read : (t : Tree) → Reads 3 t → Reads 3 (Not t)
unfolding spelling run
not_read t h o a b outer operand rest =
    let k = h o a (suc b) outer operand rest in
    (k.0, k.1, k.2, k.3, k.4, k.5)

-- an operator after an operand
operator_read : (operator : Operator) (rank : ℕ) (l : Level) (outer : List Level) (v : Tree) (rest : List Word) → rank_of operator ≡ rank
    → run (state l outer v true) (words.Operator operator ∷ rest) ≡ run (state (after_rank rank operator l v) outer v false) rest
unfolding run
operator_read operator rank l outer v rest e = ap (λ k. run (state (after_rank k operator l v) outer v false) rest) e

binary_words : (operator : Operator) (l r : Tree) (rest : List Word) → spelling (Binary operator l r) ++ rest ≡ spelling l
    ++ words.Operator operator ∷ (spelling r ++ rest)
unfolding spelling
binary_words operator l r rest = append_assoc (spelling l) (words.Operator operator ∷ spelling r) rest

binary_read : (operator : Operator) (rank : ℕ) (l r : Tree) → rank_of operator ≡ suc rank → Reads (suc rank) l → Reads rank r
    → Reads (suc rank) (Binary operator l r)
binary_read operator zero l r e hl hr = λ o a b s outer operand rest.
    let k = hl o a b s outer operand (words.Operator operator ∷ (spelling r ++ rest)) in
    let next = pending operator (settled k.0 k.1) in (
      next,
      r,
      ap (run (state (level o a b s None) outer operand false)) (binary_words operator l r rest) ∙ k.2
          ∙ operator_read operator 1 (level o a b s k.0) outer k.1 (spelling r ++ rest) e ∙ hr (level o a b s next) outer k.1 rest,
      ap (λ x. Binary operator x r) k.3,
    )
binary_read operator (suc zero) l r e hl hr = λ o a b outer operand rest.
    let k = hl o a b outer operand (words.Operator operator ∷ (spelling r ++ rest)) in
    let next = pending operator (settled k.0 (settled k.1 k.2)) in
    let m = hr o a b next outer k.2 rest in (
      next,
      m.0,
      m.1,
      ap (run (state (level o a b None None) outer operand false)) (binary_words operator l r rest) ∙ k.3
          ∙ operator_read operator 2 (level o a b k.0 k.1) outer k.2 (spelling r ++ rest) e ∙ m.2,
      ap (Binary operator (settled k.0 (settled k.1 k.2))) m.3 ∙ ap (λ x. Binary operator x r) k.4,
    )
binary_read operator (suc (suc zero)) l r e hl hr = absurd (no_third operator e)
binary_read operator (suc (suc (suc zero))) l r e hl hr = λ o outer operand rest.
    let k = hl o outer operand (words.Operator operator ∷ (spelling r ++ rest)) in
    let value = settled k.0 (with_nots k.1 (settled k.2 (settled k.3 k.4))) in
    let next = pending operator value in
    let m = hr o next 0 outer k.4 rest in (
      next,
      m.0,
      m.1,
      m.2,
      m.3,
      ap (run (state (level o None 0 None None) outer operand false)) (binary_words operator l r rest) ∙ k.5
          ∙ operator_read operator 4 (level o k.0 k.1 k.2 k.3) outer k.4 (spelling r ++ rest) e ∙ m.4,
      ap (Binary operator value) m.5 ∙ ap (λ x. Binary operator x r) k.6,
    )
binary_read operator (suc (suc (suc (suc zero)))) l r e hl hr = λ outer operand rest.
    let k = hl outer operand (words.Operator operator ∷ (spelling r ++ rest)) in
    let next = pending operator (value_with k.0 k.1) in
    let m = hr next outer k.1 rest in (
      level next m.0 m.1 m.2 m.3,
      m.4,
      ap (run (state empty outer operand false)) (binary_words operator l r rest) ∙ k.2
          ∙ operator_read operator 5 k.0 outer k.1 (spelling r ++ rest) e ∙ m.5,
      ap (Binary operator (value_with k.0 k.1)) m.6 ∙ ap (λ x. Binary operator x r) k.3,
    )
binary_read operator (suc (suc (suc (suc (suc rank))))) l r e hl hr = absurd (omega (arith, rank_bound operator))

-- every expression is read so
reads : (setting : Setting) (t : Tree) → IsExpression setting t → Reads (rank_of_tree t) t
unfolding spelling run
reads setting (Number n) h = λ l outer operand rest. refl
reads setting (Name name) h = λ l outer operand rest. refl
reads setting Here h = λ l outer operand rest. refl
reads setting (Paren t) h = paren t (up_to (rank_of_tree t) 5 t (tree_bound t) (reads setting t h))
reads setting (Sign sign t) h = sign_read sign t (up_to (rank_of_tree t) 1 t h.1 (reads setting t h.2))
reads setting (Not t) h = not_read t (up_to (rank_of_tree t) 3 t h.0 (reads setting t h.1))
reads setting (Binary operator l r) h =
    let e : rank_of operator ≡ suc (rank_of operator - 1) = omega (arith, h.1) in
    subst (λ k. Reads k (Binary operator l r)) (sym e)
    (binary_read operator (rank_of operator - 1) l r e
    (subst (λ k. Reads k l) e (up_to (rank_of_tree l) (rank_of operator) l h.0 (reads setting l h.2)))
    (up_to (rank_of_tree r) (rank_of operator - 1) r (omega (arith, h.1)) (reads setting r h.3)))

tree_is : (setting : Setting) (ws : List Word) (t : Tree) → SpellsIn setting ws t → value_with (run start ws).level (run start ws).operand
    ≡ t
unfolding run
tree_is setting ws t h =
    let k = up_to (rank_of_tree t) 5 t (tree_bound t) (reads setting t h.grammar) [] Here [] in
    ap (λ w. value_with (run start w).level (run start w).operand) (h.whole ∙ sym (append-nil (spelling t)))
    ∙ ap (λ (s : State). value_with s.level s.operand) k.2 ∙ k.3

pub have_one_tree : HaveOneTree
have_one_tree setting other ws one two h k = sym (tree_is setting ws one h) ∙ tree_is other ws two k
