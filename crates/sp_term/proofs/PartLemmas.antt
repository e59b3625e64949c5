-- A list of trees that grows by some trees alone.
use Rattle.std.proofs.Common.{ℕ, ◌<◌, ◌≤◌, ◌≡◌, List, [], ◌∷◌, ◌++◌, length, sym, ◌∙◌, subst, arith, ◌⊎◌, inl, inr, ap, Result, Ok, Err, IfOk, OnErr}
use Rattle.std.proofs.lemmas.List.{length-append}
use Rattle.std.specs.List.{Contains}
use Rattle.std.proofs.lemmas.List.Elements.{Contains-append_left, Contains-append_right}
use Rattle.sp_term.specs.Tree.{Tree}
use Rattle.sp_base.specs.declared.memory.Memory.{Memory}
use Rattle.sp_term.specs.declared.shape.Node.{Node}
use Rattle.sp_term.specs.Pools.{tree_at, Grows, IsAdded}
use Rattle.sp_term.specs.Parts.{AppendsOnly, parts, parts_below}
use Rattle.sp_term.proofs.FindLemmas.{pushed_last}

-- nothing was appended
pub none_appended : (ts some : List Tree) → AppendsOnly ts ts some
none_appended ts some = record { each = λ k low high. absurd (omega arith) }

-- more trees may be named, after a tree and its parts
pub wider : (old new xs ys : List Tree) (t : Tree) → AppendsOnly old new (t ∷ xs) → AppendsOnly old new (t ∷ (xs ++ ys))
wider old new xs ys t a = record { each = λ k low high. Contains-append_left (t ∷ xs) ys (tree_at new k) (a.each k low high) }

low_or_high : (k n : ℕ) → (k < n) ⊎ (n ≤ k)
low_or_high k n = grind arith

-- some trees were appended, and then others
pub then_appended : (old mid new xs ys : List Tree) (t : Tree) → AppendsOnly old mid (t ∷ xs) → AppendsOnly mid new ys → Grows mid new → AppendsOnly old new (t ∷ (xs ++ ys))
then_appended old mid new xs ys t a b g = record {
  each = λ k low high. elim (low_or_high k (length mid)) [
    | inl l ↦ subst (Contains ((t ∷ xs) ++ ys)) (sym (g.same k l)) (Contains-append_left (t ∷ xs) ys (tree_at mid k) (a.each k low l))
    | inr h ↦ Contains-append_right (t ∷ xs) ys (tree_at new k) (b.each k h high)
  ];
}

added : (old new : List Tree) (t : Tree) (n : ℕ) → IsAdded old t new n → AppendsOnly old new (t ∷ [])
added old new t n a = elim a [
  | inl p ↦ subst (λ w. AppendsOnly old w (t ∷ [])) (sym p.1) (none_appended old (t ∷ []))
  | inr p ↦ subst (λ w. AppendsOnly old w (t ∷ [])) (sym p.2) (record {
    each = λ k low high. (0, (omega arith), sym (pushed_last old t) ∙ ap (tree_at (old ++ t ∷ [])) (omega (arith, length-append old (t ∷ []))));
  })
]

under : (old new xs : List Tree) (t : Tree) → AppendsOnly old new xs → AppendsOnly old new (t ∷ xs)
under old new xs t a = record { each = λ k low high. Contains-append_right (t ∷ []) xs (tree_at new k) (a.each k low high) }

-- the parts below a tree were appended
pub below_appended : (old new : List Tree) (t u : Tree) → u ≡ t → AppendsOnly old new (parts_below u) → AppendsOnly old new (parts t)
below_appended old new t u h a = subst (λ w. AppendsOnly old new (parts w)) h (under old new (parts_below u) u a)

-- the parts below a tree were appended, and then the tree was added
pub itself_appended : (old mid new : List Tree) (t u v : Tree) (r : Result Node Memory) → u ≡ t → AppendsOnly old mid (parts_below u) → Grows mid new →
    v ≡ u → IfOk r (λ n. IsAdded mid v new n.0) → OnErr r (new ≡ mid) → AppendsOnly old new (parts t)
itself_appended old mid new t u v (Ok n) h a g same i e = subst (λ w. AppendsOnly old new (parts w)) h (record {
  each = λ k low high. elim (low_or_high k (length mid)) [
    | inl l ↦ subst (Contains (parts u)) (sym (g.same k l)) (Contains-append_right (u ∷ []) (parts_below u) (tree_at mid k) (a.each k low l))
    | inr b ↦ Contains-append_left (u ∷ []) (parts_below u) (tree_at new k) ((added mid new u n.0 (subst (λ w. IsAdded mid w new n.0) same i)).each k b high)
  ];
})
itself_appended old mid new t u v (Err m) h a g same i e = subst (λ w. AppendsOnly old w (parts t)) (sym e) (below_appended old mid t u h a)
