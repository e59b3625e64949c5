-- Parts of notes stand for their numbers and truth values.
use Rattle.std.proofs.Common.{◌≡◌, true, false, ◌∷◌, pos, ℤ, refl, sym, ap, subst, inl, inr, arith}
use Rattle.std.specs.Prelude.{◌↔◌, ◌≤ℤ◌, neg_ℤ}
use Rattle.std.proofs.lemmas.Int.{ints}
use Rattle.sp_model.specs.Note.{Connective, And, Or, Implies, Iff, Connects, Quantifier, ForAll, ForSome, core_at, shown, value, calculate, Compares, Quantifies, HoldsWith}
use Rattle.sp_base.specs.Integers.{sum_between, parity}
use Rattle.sp_examples.specs.Notes.{HasOverlap, StandForValues}

-- what holds of a number holds of an equal one
along : (P : ℤ → Type 0) (x y : ℤ) → x ≡ y → P x ↔ P y
along P x y e = (subst P e, subst P (sym e))

pub connects_left : (c : Connective) (P Q R : Type 0) → (P → Q) → (Q → P) → Connects c P R → Connects c Q R
connects_left And P Q R f g h = (f h.0, h.1)
connects_left Or P Q R f g (inl h) = inl (f h)
connects_left Or P Q R f g (inr h) = inr h
connects_left Implies P Q R f g h = λ q. h (g q)
connects_left Iff P Q R f g h = (λ q. h.0 (g q), λ r. f (h.1 r))

pub connects_right : (c : Connective) (P Q R : Type 0) → (P → Q) → (Q → P) → Connects c R P → Connects c R Q
connects_right And P Q R f g h = (h.0, f h.1)
connects_right Or P Q R f g (inl h) = inl h
connects_right Or P Q R f g (inr h) = inr (f h)
connects_right Implies P Q R f g h = λ r. f (h r)
connects_right Iff P Q R f g h = (λ r. f (h.0 r), λ q. h.1 (g q))

one_number : (q : Quantifier) (x : ℤ) (P : ℤ → Type 0) → Quantifies q x x P ↔ P x
one_number ForAll x P = (λ h. h x (omega (arith, ints)) (omega (arith, ints)), λ h n low high. subst P (same n low high) h)
  where
    same : (n : ℤ) → x ≤ℤ n → n ≤ℤ x → x ≡ n
    same n low high = omega (arith, ints)
one_number ForSome x P = (λ h. subst P (same h.0 h.1 h.2) h.3, λ h. (x, omega (arith, ints), omega (arith, ints), h))
  where
    same : (n : ℤ) → x ≤ℤ n → n ≤ℤ x → n ≡ x
    same n low high = omega (arith, ints)

pub stand_for_values : StandForValues
stand_for_values = record {
  cell = λ m f b entry now x n e. ap (shown f (core_at m entry now).cells) e;
  low = λ m y f b entry now x n e. ap (λ z. sum_between (shown f (core_at m entry now).cells) z (value f b y entry now)) e;
  high = λ m y f b entry now x n e. ap (sum_between (shown f (core_at m entry now).cells) (value f b y entry now)) e;
  negative = λ f b entry now x n e. ap neg_ℤ e;
  parity = λ f b entry now x n e. ap parity e;
  first = λ o y f b entry now x n e. ap (λ z. calculate o z (value f b y entry now)) e;
  second = λ o y f b entry now x n e. ap (calculate o (value f b y entry now)) e;
  left = λ c y f b entry now x n e. along (λ z. Compares c z (value f b y entry now)) (value f b x entry now) (pos n) e;
  right = λ c y f b entry now x n e. along (Compares c (value f b y entry now)) (value f b x entry now) (pos n) e;
  first_end = λ q name y p f b entry now x n e.
      along (λ z. Quantifies q z (value f b y entry now) (λ i. HoldsWith f ((name, i) ∷ b) p entry now)) (value f b x entry now) (pos n) e;
  last_end = λ q name y p f b entry now x n e.
      along (λ z. Quantifies q (value f b y entry now) z (λ i. HoldsWith f ((name, i) ∷ b) p entry now)) (value f b x entry now) (pos n) e;
  denied = λ f b entry now p. (λ h. (λ no. absurd (no h), λ no. absurd (no refl)), λ h. (λ no e. no_truth e, λ no. h));
  left_note = λ c q f b entry now p. (
    λ h. (connects_left c _ _ _ (λ t. refl) (λ t. h), connects_left c _ _ _ (λ t. h) (λ t. refl)),
    λ h. (
      connects_left c _ _ _ (λ t. absurd (h t)) (λ e. absurd (no_truth e)),
      connects_left c _ _ _ (λ e. absurd (no_truth e))
          (λ t. absurd (h t)),
    ),
  );
  right_note = λ c q f b entry now p. (
    λ h. (connects_right c _ _ _ (λ t. refl) (λ t. h), connects_right c _ _ _ (λ t. h) (λ t. refl)),
    λ h. (
      connects_right c _ _ _ (λ t. absurd (h t)) (λ e. absurd (no_truth e)),
      connects_right c _ _ _ (λ e. absurd (no_truth e))
          (λ t. absurd (h t)),
    ),
  );
  inside = λ f b entry now q name x p. one_number q (value f b x entry now) (λ i. HoldsWith f ((name, i) ∷ b) p entry now);
}
  where
    no_truth : false ≡ true → ⊥
    no_truth e = cc

pub overlap : HasOverlap
overlap = record { both = λ f entry now. refl; either = λ f entry now. refl; one = λ f entry now. refl }
