-- What adding a tree to a pool answers.
use Rattle.std.proofs.Common.{ℕ, ◌≡◌, inl, inr, sym, ◌∙◌, List}
use Rattle.sp_term.specs.Tree.{Tree}
use Rattle.sp_term.specs.Pools.{IsDistinct, IsAdded}

pub one_answer : (old one other : List Tree) (t : Tree) (m n : ℕ) → IsDistinct old → IsAdded old t one m → IsAdded old t other n → (one ≡ other) × (m ≡ n)
one_answer old one other t m n distinct a b = elim a [
  | inl p ↦ elim b [
    | inl q ↦ (p.1 ∙ sym q.1, distinct m n p.0.within q.0.within (p.0.is ∙ sym q.0.is))
    | inr q ↦ absurd (q.0 m p.0.within p.0.is)
  ]
  | inr p ↦ elim b [
    | inl q ↦ absurd (p.0 n q.0.within q.0.is)
    | inr q ↦ (p.2 ∙ sym q.2, p.1 ∙ sym q.1)
  ]
]
