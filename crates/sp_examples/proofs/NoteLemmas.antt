-- Where bound names stand, by example.
use Rattle.std.proofs.Common.{◌≡◌, ℕ, zero, suc, true, List, [], ◌∷◌, get_or, refl, ap, arith, lit<}
use Rattle.std.specs.Prelude.{Contains, codes}
use Rattle.sp_model.specs.Note.{Now, Quantity, Literal, Cell, Total, Negative, Parity, Operate, Add, Less, And, ForSome, Note, Constant, Compare, Not, Connect, Quantify, IsClosed}
use Rattle.sp_examples.specs.Notes.{I, J, all_I, below, BindsAt, BindsEverywhere}

abbrev letter : List ℕ → ℕ
letter name = get_or name 0 0

-- no name is among none, and J isn't I
no_name : (name : List ℕ) → Contains [] name → ⊥
no_name name (k, less, is) = absurd (omega arith)

not_I : Contains (codes "I" ∷ []) (codes "J") → ⊥
not_I (zero, less, is) = let e : 73 ≡ 74 = ap letter is in absurd (omega (arith, e))
not_I (suc k, less, is) = absurd (omega arith)

here : Contains (codes "I" ∷ []) (codes "I")
here = (0, lit< tt, refl)

-- a note whose names are bound as this place asks binds at the place
module _ (note : Quantity → Note) where
  binds : IsClosed (all_I (note I)) → (IsClosed (note I) → Contains [] (codes "I"))
      → (IsClosed (all_I (note J)) → Contains (codes "I" ∷ []) (codes "J")) → BindsAt note
  binds bound outside other = record { bound = bound; outside = λ h. no_name (codes "I") (outside h); other = λ h. not_I (other h) }

-- in a quantifier of K
K_and_I : Contains (codes "K" ∷ codes "I" ∷ []) (codes "I")
K_and_I = (1, lit< tt, refl)

not_K : Contains (codes "K" ∷ []) (codes "I") → ⊥
not_K (zero, less, is) = let e : 75 ≡ 73 = ap letter is in absurd (omega (arith, e))
not_K (suc k, less, is) = absurd (omega arith)

not_K_or_I : Contains (codes "K" ∷ codes "I" ∷ []) (codes "J") → ⊥
not_K_or_I (zero, less, is) = let e : 75 ≡ 74 = ap letter is in absurd (omega (arith, e))
not_K_or_I (suc zero, less, is) = let e : 73 ≡ 74 = ap letter is in absurd (omega (arith, e))
not_K_or_I (suc (suc k), less, is) = absurd (omega arith)

pub binds_everywhere : BindsEverywhere
binds_everywhere = record {
  left = binds below (tt, tt, (here, tt)) (λ h. h.0) (λ h. h.2.0);
  right = binds (λ x. Compare Less (Literal 1) x) (tt, tt, (tt, here)) (λ h. h.1) (λ h. h.2.1);
  cell = binds (λ x. below (Cell Now x)) (tt, tt, (here, tt)) (λ h. h.0) (λ h. h.2.0);
  low = binds (λ x. below (Total Now x (Literal 1))) (tt, tt, ((here, tt), tt)) (λ h. h.0.0) (λ h. h.2.0.0);
  high = binds (λ x. below (Total Now (Literal 1) x)) (tt, tt, ((tt, here), tt)) (λ h. h.0.1) (λ h. h.2.0.1);
  negative = binds (λ x. below (Negative x)) (tt, tt, (here, tt)) (λ h. h.0) (λ h. h.2.0);
  parity = binds (λ x. below (Parity x)) (tt, tt, (here, tt)) (λ h. h.0) (λ h. h.2.0);
  first = binds (λ x. below (Operate Add x (Literal 1))) (tt, tt, ((here, tt), tt)) (λ h. h.0.0) (λ h. h.2.0.0);
  second = binds (λ x. below (Operate Add (Literal 1) x)) (tt, tt, ((tt, here), tt)) (λ h. h.0.1) (λ h. h.2.0.1);
  denied = binds (λ x. Not (below x)) (tt, tt, (here, tt)) (λ h. h.0) (λ h. h.2.0);
  left_note = binds (λ x. Connect And (below x) (Constant true)) (tt, tt, ((here, tt), tt)) (λ h. h.0.0) (λ h. h.2.0.0);
  right_note = binds (λ x. Connect And (Constant true) (below x)) (tt, tt, (tt, (here, tt))) (λ h. h.1.0) (λ h. h.2.1.0);
  first_end = binds (λ x. Quantify ForSome (codes "K") x (Literal 1) (Constant true)) (tt, tt, (here, tt, tt)) (λ h. h.0) (λ h. h.2.0);
  last_end = binds (λ x. Quantify ForSome (codes "K") (Literal 1) x (Constant true)) (tt, tt, (tt, here, tt)) (λ h. h.1) (λ h. h.2.1);
  inside = record { bound = (tt, tt, (tt, tt, (K_and_I, tt))); outside = λ h. not_K h.2.0; other = λ h. not_K_or_I h.2.2.0 };
  own_first_end = λ h. no_name (codes "I") h.0;
  own_last_end = λ h. no_name (codes "I") h.1;
}
