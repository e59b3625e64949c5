-- What trees become where one tree comes in the places of another one.
use Rattle.std.proofs.Common.{◌≡◌, ◌≢◌, ◌⊎◌, inl, inr, ℕ, ◌+◌, ◌<◌, refl, sym, ◌∙◌, ap, subst, arith, Bool, true, false, ◌||◌, List, [], ◌∷◌, ◌++◌, length, get_or, length-append}
use Rattle.std.specs.Prelude.{if◌then◌else◌}
use Rattle.std.proofs.lemmas.Bool.{cases_order}
use Rattle.std.proofs.Math.ListN.{get_or-append}
use Rattle.std.proofs.Math.Seq.{get_or-append_seam}
use Rattle.sp_term.specs.Tree.{Tree, Literal, Truth, Variable, Add, Subtract, Multiply, Divide, Remainder, ByteAnd, ByteOr, ByteXor, Parity, Bit, Psw, If, Element, Update, Total, Equal, Less, LessOrEqual, Not, And, Or, Implies, Iff, ForAll, ForSome}
use Rattle.sp_term.specs.Pools.{tree_at, Grows, IsPlace}
use Rattle.sp_term.specs.declared.shape.Node.{Node}
use Rattle.sp_simp.specs.Same.{tree_eq, tree_one, tree_same}
use Rattle.sp_steps.specs.Rewriting.{stands_in_tree, rewritten}
use Rattle.sp_rules.specs.declared.replacement.Replacement.{Replacement}
use Rattle.sp_rules.specs.code.Rewritten.{with_new_parts, stands_in_parts, from_tree, to_tree, AreKnown, IsReplacement, GoesOn, IsMore}

-- ---- the tree itself, or its parts

at_true : (b : Bool) (p q : Tree) → b ≡ true → (if b then p else q) ≡ p
at_true b p q h = ap (λ c. if c then p else q) h

at_false : (b : Bool) (p q : Tree) → b ≡ false → (if b then p else q) ≡ q
at_false b p q h = ap (λ c. if c then p else q) h

pub here : (x y t : Tree) → tree_eq x t ≡ true → rewritten x y t ≡ y
here x y (Literal n) h = at_true (tree_eq x (Literal n)) y (with_new_parts x y (Literal n)) h
here x y (Truth b) h = at_true (tree_eq x (Truth b)) y (with_new_parts x y (Truth b)) h
here x y (Variable v) h = at_true (tree_eq x (Variable v)) y (with_new_parts x y (Variable v)) h
here x y (Add a b) h = at_true (tree_eq x (Add a b)) y (with_new_parts x y (Add a b)) h
here x y (Subtract a b) h = at_true (tree_eq x (Subtract a b)) y (with_new_parts x y (Subtract a b)) h
here x y (Multiply a b) h = at_true (tree_eq x (Multiply a b)) y (with_new_parts x y (Multiply a b)) h
here x y (Divide a b) h = at_true (tree_eq x (Divide a b)) y (with_new_parts x y (Divide a b)) h
here x y (Remainder a b) h = at_true (tree_eq x (Remainder a b)) y (with_new_parts x y (Remainder a b)) h
here x y (ByteAnd a b) h = at_true (tree_eq x (ByteAnd a b)) y (with_new_parts x y (ByteAnd a b)) h
here x y (ByteOr a b) h = at_true (tree_eq x (ByteOr a b)) y (with_new_parts x y (ByteOr a b)) h
here x y (ByteXor a b) h = at_true (tree_eq x (ByteXor a b)) y (with_new_parts x y (ByteXor a b)) h
here x y (Parity a) h = at_true (tree_eq x (Parity a)) y (with_new_parts x y (Parity a)) h
here x y (Bit k a) h = at_true (tree_eq x (Bit k a)) y (with_new_parts x y (Bit k a)) h
here x y (Psw a b c d e) h = at_true (tree_eq x (Psw a b c d e)) y (with_new_parts x y (Psw a b c d e)) h
here x y (If a b c) h = at_true (tree_eq x (If a b c)) y (with_new_parts x y (If a b c)) h
here x y (Element a b) h = at_true (tree_eq x (Element a b)) y (with_new_parts x y (Element a b)) h
here x y (Update a b c) h = at_true (tree_eq x (Update a b c)) y (with_new_parts x y (Update a b c)) h
here x y (Total a b c) h = at_true (tree_eq x (Total a b c)) y (with_new_parts x y (Total a b c)) h
here x y (Equal a b) h = at_true (tree_eq x (Equal a b)) y (with_new_parts x y (Equal a b)) h
here x y (Less a b) h = at_true (tree_eq x (Less a b)) y (with_new_parts x y (Less a b)) h
here x y (LessOrEqual a b) h = at_true (tree_eq x (LessOrEqual a b)) y (with_new_parts x y (LessOrEqual a b)) h
here x y (Not a) h = at_true (tree_eq x (Not a)) y (with_new_parts x y (Not a)) h
here x y (And a b) h = at_true (tree_eq x (And a b)) y (with_new_parts x y (And a b)) h
here x y (Or a b) h = at_true (tree_eq x (Or a b)) y (with_new_parts x y (Or a b)) h
here x y (Implies a b) h = at_true (tree_eq x (Implies a b)) y (with_new_parts x y (Implies a b)) h
here x y (Iff a b) h = at_true (tree_eq x (Iff a b)) y (with_new_parts x y (Iff a b)) h
here x y (ForAll k a b c) h = at_true (tree_eq x (ForAll k a b c)) y (with_new_parts x y (ForAll k a b c)) h
here x y (ForSome k a b c) h = at_true (tree_eq x (ForSome k a b c)) y (with_new_parts x y (ForSome k a b c)) h

pub in_parts : (x y t : Tree) → tree_eq x t ≡ false → rewritten x y t ≡ with_new_parts x y t
in_parts x y (Literal n) h = at_false (tree_eq x (Literal n)) y (with_new_parts x y (Literal n)) h
in_parts x y (Truth b) h = at_false (tree_eq x (Truth b)) y (with_new_parts x y (Truth b)) h
in_parts x y (Variable v) h = at_false (tree_eq x (Variable v)) y (with_new_parts x y (Variable v)) h
in_parts x y (Add a b) h = at_false (tree_eq x (Add a b)) y (with_new_parts x y (Add a b)) h
in_parts x y (Subtract a b) h = at_false (tree_eq x (Subtract a b)) y (with_new_parts x y (Subtract a b)) h
in_parts x y (Multiply a b) h = at_false (tree_eq x (Multiply a b)) y (with_new_parts x y (Multiply a b)) h
in_parts x y (Divide a b) h = at_false (tree_eq x (Divide a b)) y (with_new_parts x y (Divide a b)) h
in_parts x y (Remainder a b) h = at_false (tree_eq x (Remainder a b)) y (with_new_parts x y (Remainder a b)) h
in_parts x y (ByteAnd a b) h = at_false (tree_eq x (ByteAnd a b)) y (with_new_parts x y (ByteAnd a b)) h
in_parts x y (ByteOr a b) h = at_false (tree_eq x (ByteOr a b)) y (with_new_parts x y (ByteOr a b)) h
in_parts x y (ByteXor a b) h = at_false (tree_eq x (ByteXor a b)) y (with_new_parts x y (ByteXor a b)) h
in_parts x y (Parity a) h = at_false (tree_eq x (Parity a)) y (with_new_parts x y (Parity a)) h
in_parts x y (Bit k a) h = at_false (tree_eq x (Bit k a)) y (with_new_parts x y (Bit k a)) h
in_parts x y (Psw a b c d e) h = at_false (tree_eq x (Psw a b c d e)) y (with_new_parts x y (Psw a b c d e)) h
in_parts x y (If a b c) h = at_false (tree_eq x (If a b c)) y (with_new_parts x y (If a b c)) h
in_parts x y (Element a b) h = at_false (tree_eq x (Element a b)) y (with_new_parts x y (Element a b)) h
in_parts x y (Update a b c) h = at_false (tree_eq x (Update a b c)) y (with_new_parts x y (Update a b c)) h
in_parts x y (Total a b c) h = at_false (tree_eq x (Total a b c)) y (with_new_parts x y (Total a b c)) h
in_parts x y (Equal a b) h = at_false (tree_eq x (Equal a b)) y (with_new_parts x y (Equal a b)) h
in_parts x y (Less a b) h = at_false (tree_eq x (Less a b)) y (with_new_parts x y (Less a b)) h
in_parts x y (LessOrEqual a b) h = at_false (tree_eq x (LessOrEqual a b)) y (with_new_parts x y (LessOrEqual a b)) h
in_parts x y (Not a) h = at_false (tree_eq x (Not a)) y (with_new_parts x y (Not a)) h
in_parts x y (And a b) h = at_false (tree_eq x (And a b)) y (with_new_parts x y (And a b)) h
in_parts x y (Or a b) h = at_false (tree_eq x (Or a b)) y (with_new_parts x y (Or a b)) h
in_parts x y (Implies a b) h = at_false (tree_eq x (Implies a b)) y (with_new_parts x y (Implies a b)) h
in_parts x y (Iff a b) h = at_false (tree_eq x (Iff a b)) y (with_new_parts x y (Iff a b)) h
in_parts x y (ForAll k a b c) h = at_false (tree_eq x (ForAll k a b c)) y (with_new_parts x y (ForAll k a b c)) h
in_parts x y (ForSome k a b c) h = at_false (tree_eq x (ForSome k a b c)) y (with_new_parts x y (ForSome k a b c)) h

pub stands_here : (x t : Tree) → tree_eq x t ≡ true → stands_in_tree x t ≡ true
stands_here x (Literal n) h = h
stands_here x (Truth b) h = h
stands_here x (Variable v) h = h
stands_here x (Add a b) h = ap (λ first. first || stands_in_tree x a || stands_in_tree x b) h
stands_here x (Subtract a b) h = ap (λ first. first || stands_in_tree x a || stands_in_tree x b) h
stands_here x (Multiply a b) h = ap (λ first. first || stands_in_tree x a || stands_in_tree x b) h
stands_here x (Divide a b) h = ap (λ first. first || stands_in_tree x a || stands_in_tree x b) h
stands_here x (Remainder a b) h = ap (λ first. first || stands_in_tree x a || stands_in_tree x b) h
stands_here x (ByteAnd a b) h = ap (λ first. first || stands_in_tree x a || stands_in_tree x b) h
stands_here x (ByteOr a b) h = ap (λ first. first || stands_in_tree x a || stands_in_tree x b) h
stands_here x (ByteXor a b) h = ap (λ first. first || stands_in_tree x a || stands_in_tree x b) h
stands_here x (Parity a) h = ap (λ first. first || stands_in_tree x a) h
stands_here x (Bit k a) h = ap (λ first. first || stands_in_tree x a) h
stands_here x (Psw a b c d e) h = ap (λ first. first || stands_in_tree x a || stands_in_tree x b || stands_in_tree x c || stands_in_tree x d || stands_in_tree x e) h
stands_here x (If a b c) h = ap (λ first. first || stands_in_tree x a || stands_in_tree x b || stands_in_tree x c) h
stands_here x (Element a b) h = ap (λ first. first || stands_in_tree x a || stands_in_tree x b) h
stands_here x (Update a b c) h = ap (λ first. first || stands_in_tree x a || stands_in_tree x b || stands_in_tree x c) h
stands_here x (Total a b c) h = ap (λ first. first || stands_in_tree x a || stands_in_tree x b || stands_in_tree x c) h
stands_here x (Equal a b) h = ap (λ first. first || stands_in_tree x a || stands_in_tree x b) h
stands_here x (Less a b) h = ap (λ first. first || stands_in_tree x a || stands_in_tree x b) h
stands_here x (LessOrEqual a b) h = ap (λ first. first || stands_in_tree x a || stands_in_tree x b) h
stands_here x (Not a) h = ap (λ first. first || stands_in_tree x a) h
stands_here x (And a b) h = ap (λ first. first || stands_in_tree x a || stands_in_tree x b) h
stands_here x (Or a b) h = ap (λ first. first || stands_in_tree x a || stands_in_tree x b) h
stands_here x (Implies a b) h = ap (λ first. first || stands_in_tree x a || stands_in_tree x b) h
stands_here x (Iff a b) h = ap (λ first. first || stands_in_tree x a || stands_in_tree x b) h
stands_here x (ForAll k a b c) h = ap (λ first. first || stands_in_tree x a || stands_in_tree x b || stands_in_tree x c) h
stands_here x (ForSome k a b c) h = ap (λ first. first || stands_in_tree x a || stands_in_tree x b || stands_in_tree x c) h

pub stands_below : (x t : Tree) → tree_eq x t ≡ false → stands_in_tree x t ≡ stands_in_parts x t
stands_below x (Literal n) h = h
stands_below x (Truth b) h = h
stands_below x (Variable v) h = h
stands_below x (Add a b) h = ap (λ first. first || stands_in_tree x a || stands_in_tree x b) h
stands_below x (Subtract a b) h = ap (λ first. first || stands_in_tree x a || stands_in_tree x b) h
stands_below x (Multiply a b) h = ap (λ first. first || stands_in_tree x a || stands_in_tree x b) h
stands_below x (Divide a b) h = ap (λ first. first || stands_in_tree x a || stands_in_tree x b) h
stands_below x (Remainder a b) h = ap (λ first. first || stands_in_tree x a || stands_in_tree x b) h
stands_below x (ByteAnd a b) h = ap (λ first. first || stands_in_tree x a || stands_in_tree x b) h
stands_below x (ByteOr a b) h = ap (λ first. first || stands_in_tree x a || stands_in_tree x b) h
stands_below x (ByteXor a b) h = ap (λ first. first || stands_in_tree x a || stands_in_tree x b) h
stands_below x (Parity a) h = ap (λ first. first || stands_in_tree x a) h
stands_below x (Bit k a) h = ap (λ first. first || stands_in_tree x a) h
stands_below x (Psw a b c d e) h = ap (λ first. first || stands_in_tree x a || stands_in_tree x b || stands_in_tree x c || stands_in_tree x d || stands_in_tree x e) h
stands_below x (If a b c) h = ap (λ first. first || stands_in_tree x a || stands_in_tree x b || stands_in_tree x c) h
stands_below x (Element a b) h = ap (λ first. first || stands_in_tree x a || stands_in_tree x b) h
stands_below x (Update a b c) h = ap (λ first. first || stands_in_tree x a || stands_in_tree x b || stands_in_tree x c) h
stands_below x (Total a b c) h = ap (λ first. first || stands_in_tree x a || stands_in_tree x b || stands_in_tree x c) h
stands_below x (Equal a b) h = ap (λ first. first || stands_in_tree x a || stands_in_tree x b) h
stands_below x (Less a b) h = ap (λ first. first || stands_in_tree x a || stands_in_tree x b) h
stands_below x (LessOrEqual a b) h = ap (λ first. first || stands_in_tree x a || stands_in_tree x b) h
stands_below x (Not a) h = ap (λ first. first || stands_in_tree x a) h
stands_below x (And a b) h = ap (λ first. first || stands_in_tree x a || stands_in_tree x b) h
stands_below x (Or a b) h = ap (λ first. first || stands_in_tree x a || stands_in_tree x b) h
stands_below x (Implies a b) h = ap (λ first. first || stands_in_tree x a || stands_in_tree x b) h
stands_below x (Iff a b) h = ap (λ first. first || stands_in_tree x a || stands_in_tree x b) h
stands_below x (ForAll k a b c) h = ap (λ first. first || stands_in_tree x a || stands_in_tree x b || stands_in_tree x c) h
stands_below x (ForSome k a b c) h = ap (λ first. first || stands_in_tree x a || stands_in_tree x b || stands_in_tree x c) h

other_tree : (x t : Tree) → t ≢ x → tree_eq x t ≡ false
other_tree x t h = by (tree_eq x t) refl
  where
    by : (b : Bool) → tree_eq x t ≡ b → b ≡ false
    by false e = refl
    by true e = absurd (h (sym (tree_one x t e)))

-- ---- what is known

known_grown : (old new : List Tree) (x y : Tree) (places : List ℕ) (marks : List Bool) → Grows old new → AreKnown old x y places marks → AreKnown new x y places marks
known_grown old new x y places marks g k = record { within = omega (arith, k.within, g.longer); as_many = k.as_many; place = place; mark = mark }
  where
    same : (n : ℕ) → n < length places → tree_at new n ≡ tree_at old n
    same n l = g.same n (omega (arith, l, k.within))

    place : (n : ℕ) → n < length places → IsPlace new (rewritten x y (tree_at new n)) (get_or places n 0)
    place n l =
        let p : IsPlace old (rewritten x y (tree_at old n)) (get_or places n 0) = k.place n l in
        record { within = omega (arith, p.within, g.longer); is = g.same (get_or places n 0) p.within ∙ p.is ∙ ap (rewritten x y) (sym (same n l)) }

    mark : (n : ℕ) → n < length places → get_or marks n false ≡ stands_in_tree x (tree_at new n)
    mark n l = k.mark n l ∙ ap (stands_in_tree x) (sym (same n l))

length-more : {A : Type 0} (xs : List A) (x : A) → length (xs ++ x ∷ []) ≡ 1 + length xs
length-more xs x = let e : length (xs ++ x ∷ []) ≡ length xs + 1 = length-append xs (x ∷ []) in omega (arith, e)

below_or_last : (n m : ℕ) → n < 1 + m → (n < m) ⊎ (n ≡ m)
below_or_last n m l = by (cases_order n m)
  where
    by : (n ≡ m) ⊎ ((n < m) ⊎ (m < n)) → (n < m) ⊎ (n ≡ m)
    by (inl e) = inr e
    by (inr (inl k)) = inl k
    by (inr (inr k)) = absurd (omega (arith, l, k))

known_more : (ts : List Tree) (x y : Tree) (places : List ℕ) (marks : List Bool) (p : ℕ) (m : Bool) → AreKnown ts x y places marks → length places < length ts → IsPlace ts (rewritten x y (tree_at ts (length places))) p → m ≡ stands_in_tree x (tree_at ts (length places)) → AreKnown ts x y (places ++ p ∷ []) (marks ++ m ∷ [])
known_more ts x y places marks p m k low is e =
    record {
      within = omega (arith, low, length-more places p);
      as_many = length-more marks m ∙ ap (λ n. 1 + n) k.as_many ∙ sym (length-more places p);
      place = λ n l. place_by n (below_or_last n (length places) (subst (λ c. n < c) (length-more places p) l));
      mark = λ n l. mark_by n (below_or_last n (length places) (subst (λ c. n < c) (length-more places p) l));
    }
  where
    place_by : (n : ℕ) → (n < length places) ⊎ (n ≡ length places) → IsPlace ts (rewritten x y (tree_at ts n)) (get_or (places ++ p ∷ []) n 0)
    place_by n (inl l) = subst (IsPlace ts (rewritten x y (tree_at ts n))) (sym (get_or-append places (p ∷ []) 0 n l)) (k.place n l)
    place_by n (inr d) =
        let seam : p ≡ get_or (places ++ p ∷ []) n 0 = sym (ap (λ q. get_or (places ++ p ∷ []) q 0) d ∙ get_or-append_seam places p [] 0) in
        subst (IsPlace ts (rewritten x y (tree_at ts n))) seam (subst (λ q. IsPlace ts (rewritten x y (tree_at ts q)) p) (sym d) is)

    mark_by : (n : ℕ) → (n < length places) ⊎ (n ≡ length places) → get_or (marks ++ m ∷ []) n false ≡ stands_in_tree x (tree_at ts n)
    mark_by n (inl l) = get_or-append marks (m ∷ []) false n (subst (λ c. n < c) (sym k.as_many) l) ∙ k.mark n l
    mark_by n (inr d) =
        ap (λ q. get_or (marks ++ m ∷ []) q false) (d ∙ sym k.as_many) ∙ get_or-append_seam marks m [] false ∙ e ∙ ap (λ q. stands_in_tree x (tree_at ts q)) (sym d)

-- ---- the whole

kept : (old new : Replacement) (n : Node) → n.0 < length old.pool → Grows old.pool new.pool → (m : Node) → m ≡ n → tree_at new.pool m.0 ≡ tree_at old.pool n.0
kept old new n l g m e = ap (λ (q : Node). tree_at new.pool q.0) e ∙ g.same n.0 l

pub more : (old new : Replacement) (p : Node) (m : Bool) → IsReplacement old → length old.places.items < length old.pool → Grows old.pool new.pool → new.from ≡ old.from → new.to ≡ old.to → new.places.items ≡ old.places.items ++ p.0 ∷ [] → new.marks.items ≡ old.marks.items ++ m ∷ [] → IsPlace new.pool (rewritten (from_tree old) (to_tree old) (tree_at old.pool (length old.places.items))) p.0 → m ≡ stands_in_tree (from_tree old) (tree_at old.pool (length old.places.items)) → IsMore old new
more old new p m h low g f t ps ms is e =
    record {
      goes_on = record { grows = g; from = f; to = t; right = record { from = within old.from new.from h.from f; to = within old.to new.to h.to t; known = known } };
      longer = ap length ps ∙ length-more old.places.items p.0;
    }
  where
    within : (n q : Node) → n.0 < length old.pool → q ≡ n → q.0 < length new.pool
    within n q l d = subst (λ (c : Node). c.0 < length new.pool) (sym d) (omega (arith, l, g.longer))

    same : tree_at new.pool (length old.places.items) ≡ tree_at old.pool (length old.places.items)
    same = g.same (length old.places.items) low

    next : AreKnown new.pool (from_tree old) (to_tree old) (old.places.items ++ p.0 ∷ []) (old.marks.items ++ m ∷ [])
    next =
        known_more new.pool (from_tree old) (to_tree old) old.places.items old.marks.items p.0 m
        (known_grown old.pool new.pool (from_tree old) (to_tree old) old.places.items old.marks.items g h.known) (omega (arith, low, g.longer))
        (subst (λ u. IsPlace new.pool (rewritten (from_tree old) (to_tree old) u) p.0) (sym same) is) (e ∙ ap (stands_in_tree (from_tree old)) (sym same))

    known : AreKnown new.pool (from_tree new) (to_tree new) new.places.items new.marks.items
    known =
        subst (λ u. AreKnown new.pool u (to_tree new) new.places.items new.marks.items) (sym (kept old new old.from h.from g new.from f))
        (subst (λ u. AreKnown new.pool (from_tree old) u new.places.items new.marks.items) (sym (kept old new old.to h.to g new.to t))
        (subst (λ l. AreKnown new.pool (from_tree old) (to_tree old) l new.marks.items) (sym ps)
        (subst (λ l. AreKnown new.pool (from_tree old) (to_tree old) (old.places.items ++ p.0 ∷ []) l) (sym ms) next)))

-- the next tree is the one that is replaced
pub more_here : (old new : Replacement) → IsReplacement old → length old.places.items < length old.pool → tree_at old.pool (length old.places.items) ≡ from_tree old → new.pool ≡ old.pool → new.from ≡ old.from → new.to ≡ old.to → new.places.items ≡ old.places.items ++ old.to.0 ∷ [] → new.marks.items ≡ old.marks.items ++ true ∷ [] → IsMore old new
more_here old new h low e p f t ps ms = more old new old.to true h low grows f t ps ms is mark
  where
    n : ℕ
    n = length old.places.items

    grows : Grows old.pool new.pool
    grows = subst (Grows old.pool) (sym p) (record { longer = omega arith; same = λ k l. refl })

    eq : tree_eq (from_tree old) (tree_at old.pool n) ≡ true
    eq = tree_same (from_tree old) (tree_at old.pool n) (sym e)

    is : IsPlace new.pool (rewritten (from_tree old) (to_tree old) (tree_at old.pool n)) old.to.0
    is = record { within = subst (λ l. old.to.0 < length l) (sym p) h.to; is = ap (λ l. tree_at l old.to.0) p ∙ sym (here (from_tree old) (to_tree old) (tree_at old.pool n) eq) }

    mark : true ≡ stands_in_tree (from_tree old) (tree_at old.pool n)
    mark = sym (stands_here (from_tree old) (tree_at old.pool n) eq)

-- the next tree is another one, and is made of what its parts become
pub more_in_parts : (old new : Replacement) (p : Node) (m : Bool) (t : Tree) → IsReplacement old → length old.places.items < length old.pool → tree_at old.pool (length old.places.items) ≢ from_tree old → Grows old.pool new.pool → new.from ≡ old.from → new.to ≡ old.to → new.places.items ≡ old.places.items ++ p.0 ∷ [] → new.marks.items ≡ old.marks.items ++ m ∷ [] → t ≡ tree_at old.pool (length old.places.items) → IsPlace new.pool (with_new_parts (from_tree old) (to_tree old) t) p.0 → m ≡ stands_in_parts (from_tree old) t → IsMore old new
more_in_parts old new p m t h low e g f to ps ms is place mark =
    let u = tree_at old.pool (length old.places.items) in
    let x = from_tree old in
    let y = to_tree old in
    let eq : tree_eq x u ≡ false = other_tree x u e in
    more old new p m h low g f to ps ms
    (subst (λ (s : Tree). IsPlace new.pool s p.0) (ap (with_new_parts x y) is ∙ sym (in_parts x y u eq)) place) (mark ∙ ap (stands_in_parts x) is ∙ sym (stands_below x u eq))

-- ---- one step after another

grows_on : (a b c : List Tree) → Grows a b → Grows b c → Grows a c
grows_on a b c g h = record { longer = omega (arith, g.longer, h.longer); same = λ k l. h.same k (omega (arith, l, g.longer)) ∙ g.same k l }

pub still : (r : Replacement) → IsReplacement r → GoesOn r r
still r h = record { grows = record { longer = omega arith; same = λ k l. refl }; from = refl; to = refl; right = h }

pub then_on : (a b c : Replacement) → GoesOn a b → GoesOn b c → GoesOn a c
then_on a b c g h = record { grows = grows_on a.pool b.pool c.pool g.grows h.grows; from = h.from ∙ g.from; to = h.to ∙ g.to; right = h.right }
