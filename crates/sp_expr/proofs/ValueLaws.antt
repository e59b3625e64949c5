-- An expression is read for the value of its tree.
use Rattle.std.proofs.Common.{◌≡◌, ℕ, zero, suc, ◌+◌, ◌-◌, ◌≤◌, Bool, true, false, List, [], ◌∷◌, ◌++◌, length, get_or, take, Option, Some, None, refl, sym, ap, subst, ◌∙◌, arith, append_assoc}
use Rattle.std.specs.Prelude.{not, bit_xor}
use Rattle.std.specs.Int.Bits.{xor_assoc, xor_self, xor_zero_r}
use Rattle.std.proofs.Common.{length-append}
use Rattle.std.proofs.lemmas.List.{append-nil}
use Rattle.std.proofs.Math.Seq.{take-append_seam}
use Rattle.sp_expr.specs.declared.setting.Setting.{Setting}
use Rattle.sp_expr.specs.declared.word.Operator.{Operator}
use Rattle.sp_expr.specs.declared.word.Operator.TheVariants as op
use Rattle.sp_expr.specs.declared.word.Word.{Word}
use Rattle.sp_expr.specs.declared.word.Word.TheVariants as words
use Rattle.sp_expr.specs.declared.level.Pending.{Pending}
use Rattle.sp_expr.specs.declared.level.Level.{Level}
use Rattle.sp_expr.specs.Arithmetic.{applied, inverted, rank_of}
use Rattle.sp_expr.specs.code.Level.{level, settled, inverted_if, value_with, after_rank, pending, empty}
use Rattle.sp_expr.specs.Trees.Tree.{Number, Name, Here, Paren, Sign, Not, Binary}
use Rattle.sp_expr.specs.Trees.{Tree, rank_of_tree, IsExpression, spelling, value_of, SpellsIn}
use Rattle.sp_expr.specs.code.Evaluation.{state, start, run, finished, closed}

-- ---- NOT

twice : (x : Option ℕ) → x ≡ inverted (inverted x)
twice None = refl
twice (Some v) = ap (λ n. Some n) (sym (xor_assoc v 65535 65535 ∙ ap (bit_xor v) (xor_self 65535) ∙ xor_zero_r v))

flip : (b : Bool) (x : Option ℕ) → inverted_if (not b) x ≡ inverted_if b (inverted x)
flip true x = twice x
flip false x = refl

-- ---- what reading a tree of each rank leaves

abbrev Reads : (List ℕ → Option ℕ) → ℕ → ℕ → Tree → Type 0
Reads names here zero t = (l : Level) (outer : List Level) (operand : Option ℕ) (rest : List Word)
    → run names here (state l outer operand false) (spelling t ++ rest) ≡ run names here (state l outer (value_of names here t) true) rest
Reads names here (suc zero) t = (o a : Option Pending) (b : Bool) (s : Option Pending) (outer : List Level) (operand : Option ℕ) (rest : List Word)
    → (p : Option Pending) × (v : Option ℕ) × (run names here (state (level o a b s None) outer operand false) (spelling t ++ rest) ≡ run names here (state (level o a b s p) outer v true) rest)
    × (settled p v ≡ value_of names here t)
Reads names here (suc (suc zero)) t = (o a : Option Pending) (b : Bool) (outer : List Level) (operand : Option ℕ) (rest : List Word)
    → (s p : Option Pending) × (v : Option ℕ) × (run names here (state (level o a b None None) outer operand false) (spelling t ++ rest) ≡ run names here (state (level o a b s p) outer v true) rest)
    × (settled s (settled p v) ≡ value_of names here t)
Reads names here (suc (suc (suc zero))) t = (o a : Option Pending) (b : Bool) (outer : List Level) (operand : Option ℕ) (rest : List Word)
    → (c : Bool) × (s p : Option Pending) × (v : Option ℕ) × (run names here (state (level o a b None None) outer operand false) (spelling t ++ rest) ≡ run names here (state (level o a c s p) outer v true) rest)
    × (inverted_if c (settled s (settled p v)) ≡ inverted_if b (value_of names here t))
Reads names here (suc (suc (suc (suc zero)))) t = (o : Option Pending) (outer : List Level) (operand : Option ℕ) (rest : List Word)
    → (a : Option Pending) × (c : Bool) × (s p : Option Pending) × (v : Option ℕ)
    × (run names here (state (level o None false None None) outer operand false) (spelling t ++ rest) ≡ run names here (state (level o a c s p) outer v true) rest)
    × (settled a (inverted_if c (settled s (settled p v))) ≡ value_of names here t)
Reads names here (suc (suc (suc (suc (suc r))))) t = (outer : List Level) (operand : Option ℕ) (rest : List Word)
    → (l : Level) × (v : Option ℕ) × (run names here (state empty outer operand false) (spelling t ++ rest) ≡ run names here (state l outer v true) rest) × (value_with l v ≡ value_of names here t)

up : (names : List ℕ → Option ℕ) (here r : ℕ) (t : Tree) → Reads names here r t → Reads names here (suc r) t
up names here zero t h = λ o a b s outer operand rest. (None, value_of names here t, h (level o a b s None) outer operand rest, refl)
up names here (suc zero) t h = λ o a b outer operand rest.
    let k = h o a b None outer operand rest in
    (None, k.0, k.1, k.2, k.3)
up names here (suc (suc zero)) t h = λ o a b outer operand rest.
    let k = h o a b outer operand rest in
    (b, k.0, k.1, k.2, k.3, ap (inverted_if b) k.4)
up names here (suc (suc (suc zero))) t h = λ o outer operand rest.
    let k = h o None false outer operand rest in
    (None, k.0, k.1, k.2, k.3, k.4, k.5)
up names here (suc (suc (suc (suc zero)))) t h = λ outer operand rest.
    let k = h None outer operand rest in
    (level None k.0 k.1 k.2 k.3, k.4, k.5, k.6)
up names here (suc (suc (suc (suc (suc r))))) t h = h

up_by : (names : List ℕ → Option ℕ) (here r n : ℕ) (t : Tree) → Reads names here r t → Reads names here (n + r) t
up_by names here r zero t h = let e : r ≡ 0 + r = omega arith in subst (λ k. Reads names here k t) e h
up_by names here r (suc n) t h = let e : suc (n + r) ≡ suc n + r = omega arith in subst (λ k. Reads names here k t) e (up names here (n + r) t (up_by names here r n t h))

up_to : (names : List ℕ → Option ℕ) (here low high : ℕ) (t : Tree) → low ≤ high → Reads names here low t → Reads names here high t
up_to names here low high t le h = let e : high - low + low ≡ high = omega arith in subst (λ k. Reads names here k t) e (up_by names here low (high - low) t h)

rank_bound : (operator : Operator) → rank_of operator ≤ 5
rank_bound op.Times = omega arith
rank_bound op.Divide = omega arith
rank_bound op.Modulo = omega arith
rank_bound op.ShiftLeft = omega arith
rank_bound op.ShiftRight = omega arith
rank_bound op.Plus = omega arith
rank_bound op.Minus = omega arith
rank_bound op.And = omega arith
rank_bound op.Or = omega arith
rank_bound op.Xor = omega arith

pub tree_bound : (t : Tree) → rank_of_tree t ≤ 5
tree_bound (Number n) = omega arith
tree_bound (Name name) = omega arith
tree_bound Here = omega arith
tree_bound (Paren t) = omega arith
tree_bound (Sign sign t) = omega arith
tree_bound (Not t) = omega arith
tree_bound (Binary operator l r) = rank_bound operator

pub no_third : (operator : Operator) → rank_of operator ≡ 3 → ⊥
no_third op.Times e = omega arith
no_third op.Divide e = omega arith
no_third op.Modulo e = omega arith
no_third op.ShiftLeft e = omega arith
no_third op.ShiftRight e = omega arith
no_third op.Plus e = omega arith
no_third op.Minus e = omega arith
no_third op.And e = omega arith
no_third op.Or e = omega arith
no_third op.Xor e = omega arith

last_is : (outer : List Level) (l : Level) → get_or (outer ++ l ∷ []) (length outer) empty ≡ l
last_is [] l = refl
last_is (first ∷ outer) l = last_is outer l

popped : (l : Level) (outer : List Level) (v : Option ℕ) (inside : Level) → closed (state inside (outer ++ l ∷ []) v true) ≡ state l outer (value_with inside v) true
popped l outer v inside =
    let n : length (outer ++ l ∷ []) - 1 ≡ length outer = omega (arith, length-append outer (l ∷ [])) in
    ap (λ k. state (get_or (outer ++ l ∷ []) k empty) (take k (outer ++ l ∷ [])) (value_with inside v) true) n
    ∙ ap (λ front. state (get_or (outer ++ l ∷ []) (length outer) empty) front (value_with inside v) true) (take-append_seam outer (l ∷ []))
    ∙ ap (λ last. state last outer (value_with inside v) true) (last_is outer l)

paren : (names : List ℕ → Option ℕ) (here : ℕ) (t : Tree) → Reads names here 5 t → Reads names here 0 (Paren t)
unfolding spelling run
paren names here t h l outer operand rest =
    let k = h (outer ++ l ∷ []) operand (words.Close ∷ rest) in
    ap (run names here (state empty (outer ++ l ∷ []) operand false)) (append_assoc (spelling t) (words.Close ∷ []) rest) ∙ k.2
    ∙ ap (λ s. run names here s rest) (popped l outer k.1 k.0 ∙ ap (λ v. state l outer v true) k.3)

sign_read : (names : List ℕ → Option ℕ) (here : ℕ) (sign : Operator) (t : Tree) → Reads names here 1 t → Reads names here 2 (Sign sign t)
unfolding spelling run
sign_read names here sign t h o a b outer operand rest =
    let k = h o a b (pending sign (Some 0)) outer operand rest in
    (pending sign (Some 0), k.0, k.1, k.2, ap (applied sign (Some 0)) k.3)

not_read : (names : List ℕ → Option ℕ) (here : ℕ) (t : Tree) → Reads names here 3 t → Reads names here 3 (Not t)
unfolding spelling run
not_read names here t h o a b outer operand rest =
    let k = h o a (not b) outer operand rest in
    (k.0, k.1, k.2, k.3, k.4, k.5 ∙ flip b (value_of names here t))

-- an operator after an operand
operator_read : (names : List ℕ → Option ℕ) (here : ℕ) (operator : Operator) (rank : ℕ) (l : Level) (outer : List Level) (v : Option ℕ) (rest : List Word) → rank_of operator ≡ rank
    → run names here (state l outer v true) (words.Operator operator ∷ rest) ≡ run names here (state (after_rank rank operator l v) outer v false) rest
unfolding run
operator_read names here operator rank l outer v rest e = ap (λ k. run names here (state (after_rank k operator l v) outer v false) rest) e

binary_words : (operator : Operator) (l r : Tree) (rest : List Word) → spelling (Binary operator l r) ++ rest ≡ spelling l ++ words.Operator operator ∷ (spelling r ++ rest)
unfolding spelling
binary_words operator l r rest = append_assoc (spelling l) (words.Operator operator ∷ spelling r) rest

binary_read : (names : List ℕ → Option ℕ) (here : ℕ) (operator : Operator) (rank : ℕ) (l r : Tree) → rank_of operator ≡ suc rank → Reads names here (suc rank) l → Reads names here rank r → Reads names here (suc rank) (Binary operator l r)
binary_read names here operator zero l r e hl hr = λ o a b s outer operand rest.
    let k = hl o a b s outer operand (words.Operator operator ∷ (spelling r ++ rest)) in
    let next = pending operator (settled k.0 k.1) in (
      next,
      value_of names here r,
      ap (run names here (state (level o a b s None) outer operand false)) (binary_words operator l r rest) ∙ k.2
          ∙ operator_read names here operator 1 (level o a b s k.0) outer k.1 (spelling r ++ rest) e ∙ hr (level o a b s next) outer k.1 rest,
      ap (λ x. applied operator x (value_of names here r)) k.3,
    )
binary_read names here operator (suc zero) l r e hl hr = λ o a b outer operand rest.
    let k = hl o a b outer operand (words.Operator operator ∷ (spelling r ++ rest)) in
    let next = pending operator (settled k.0 (settled k.1 k.2)) in
    let m = hr o a b next outer k.2 rest in (
      next,
      m.0,
      m.1,
      ap (run names here (state (level o a b None None) outer operand false)) (binary_words operator l r rest) ∙ k.3
          ∙ operator_read names here operator 2 (level o a b k.0 k.1) outer k.2 (spelling r ++ rest) e ∙ m.2,
      ap (applied operator (settled k.0 (settled k.1 k.2))) m.3 ∙ ap (λ x. applied operator x (value_of names here r)) k.4,
    )
binary_read names here operator (suc (suc zero)) l r e hl hr = absurd (no_third operator e)
binary_read names here operator (suc (suc (suc zero))) l r e hl hr = λ o outer operand rest.
    let k = hl o outer operand (words.Operator operator ∷ (spelling r ++ rest)) in
    let value = settled k.0 (inverted_if k.1 (settled k.2 (settled k.3 k.4))) in
    let next = pending operator value in
    let m = hr o next false outer k.4 rest in (
      next,
      m.0,
      m.1,
      m.2,
      m.3,
      ap (run names here (state (level o None false None None) outer operand false)) (binary_words operator l r rest) ∙ k.5
          ∙ operator_read names here operator 4 (level o k.0 k.1 k.2 k.3) outer k.4 (spelling r ++ rest) e ∙ m.4,
      ap (applied operator value) m.5 ∙ ap (λ x. applied operator x (value_of names here r)) k.6,
    )
binary_read names here operator (suc (suc (suc (suc zero)))) l r e hl hr = λ outer operand rest.
    let k = hl outer operand (words.Operator operator ∷ (spelling r ++ rest)) in
    let next = pending operator (value_with k.0 k.1) in
    let m = hr next outer k.1 rest in (
      level next m.0 m.1 m.2 m.3,
      m.4,
      ap (run names here (state empty outer operand false)) (binary_words operator l r rest) ∙ k.2
          ∙ operator_read names here operator 5 k.0 outer k.1 (spelling r ++ rest) e ∙ m.5,
      ap (applied operator (value_with k.0 k.1)) m.6 ∙ ap (λ x. applied operator x (value_of names here r)) k.3,
    )
binary_read names here operator (suc (suc (suc (suc (suc rank))))) l r e hl hr = absurd (omega (arith, rank_bound operator))

-- every expression is read so
pub reads : (setting : Setting) (names : List ℕ → Option ℕ) (here : ℕ) (t : Tree) → IsExpression setting t → Reads names here (rank_of_tree t) t
unfolding spelling run
reads setting names here (Number n) h = λ l outer operand rest. refl
reads setting names here (Name name) h = λ l outer operand rest. refl
reads setting names here Here h = λ l outer operand rest. refl
reads setting names here (Paren t) h = paren names here t (up_to names here (rank_of_tree t) 5 t (tree_bound t) (reads setting names here t h))
reads setting names here (Sign sign t) h = sign_read names here sign t (up_to names here (rank_of_tree t) 1 t h.1 (reads setting names here t h.2))
reads setting names here (Not t) h = not_read names here t (up_to names here (rank_of_tree t) 3 t h.0 (reads setting names here t h.1))
reads setting names here (Binary operator l r) h =
    let e : rank_of operator ≡ suc (rank_of operator - 1) = omega (arith, h.1) in
    subst (λ k. Reads names here k (Binary operator l r)) (sym e)
    (binary_read names here operator (rank_of operator - 1) l r e
    (subst (λ k. Reads names here k l) e (up_to names here (rank_of_tree l) (rank_of operator) l h.0 (reads setting names here l h.2)))
    (up_to names here (rank_of_tree r) (rank_of operator - 1) r (omega (arith, h.1)) (reads setting names here r h.3)))

pub value_is : (setting : Setting) (names : List ℕ → Option ℕ) (here : ℕ) (ws : List Word) (t : Tree) → SpellsIn setting ws t → finished (run names here start ws) ≡ value_of names here t
unfolding run
value_is setting names here ws t h =
    let k = up_to names here (rank_of_tree t) 5 t (tree_bound t) (reads setting names here t h.grammar) [] (Some 0) [] in
    ap (λ w. finished (run names here start w)) (h.whole ∙ sym (append-nil (spelling t))) ∙ ap finished k.2 ∙ k.3
