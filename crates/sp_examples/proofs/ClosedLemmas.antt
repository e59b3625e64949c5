-- A note says the same whatever the names that it doesn't use stand for.
use Rattle.std.proofs.Common.{◌≡◌, ℕ, zero, suc, true, cond, List, [], ◌∷◌, ℤ, refl, sym, ap, subst, ◌∙◌, arith}
use Rattle.std.specs.Prelude.{◌↔◌, Contains, bytes_eq, neg_ℤ}
use Rattle.std.proofs.lemmas.Slice.Eq.{bytes_eq-Decides}
use Rattle.sp_base.specs.Integers.{sum_between, parity}
use Rattle.sp_isa.specs.Core.{Core}
use Rattle.sp_model.specs.Note.{Frame, Bindings, Quantity, Literal, Location, Pair, Cell, StackWord, Total, Negative, Parity, Operate, Bound, Quantifier, ForAll, ForSome, Note, Constant, Compare, Not, Connect, Quantify, bound_value, core_at, shown, value, calculate, Compares, Quantifies, HoldsWith, HasBoundNames, BindsNames}
use Rattle.sp_examples.specs.Notes.{NeedNoNames}
use Rattle.sp_examples.proofs.PartLemmas.{connects_left, connects_right}

-- two lists of numbers agree on these names
abbrev Agree : List (List ℕ) → Bindings → Bindings → Type 0
Agree names b c = (name : List ℕ) → Contains names name → bound_value b name ≡ bound_value c name

reversed : (names : List (List ℕ)) (b c : Bindings) → Agree names b c → Agree names c b
reversed names b c h name among = sym (h name among)

-- so they do with one name more
more : (names : List (List ℕ)) (b c : Bindings) (name : List ℕ) (n : ℤ) → Agree names b c
    → Agree (name ∷ names) ((name, n) ∷ b) ((name, n) ∷ c)
more names b c name n h other (zero, less, is) =
    let same : bytes_eq name other ≡ true = (bytes_eq-Decides name other).1 is in
    ap (λ t. cond t n (bound_value b other)) same ∙ sym (ap (λ t. cond t n (bound_value c other)) same)
more names b c name n h other (suc k, less, is) = ap (λ v. cond (bytes_eq name other) n v) (h other (k, omega arith, is))

module _ (f : Frame) (entry now : Core) where
  same_value : (names : List (List ℕ)) (b c : Bindings) → Agree names b c → (x : Quantity) → HasBoundNames names x
      → value f b x entry now ≡ value f c x entry now
  same_value names b c h (Literal n) closed = refl
  same_value names b c h (Location m x) closed = refl
  same_value names b c h (Pair m p) closed = refl
  same_value names b c h (Cell m x) closed = ap (shown f (core_at m entry now).cells) (same_value names b c h x closed)
  same_value names b c h (StackWord k) closed = refl
  same_value names b c h (Total m x y) closed =
      ap (λ z. sum_between (shown f (core_at m entry now).cells) z (value f b y entry now)) (same_value names b c h x closed.0)
      ∙ ap (sum_between (shown f (core_at m entry now).cells) (value f c x entry now)) (same_value names b c h y closed.1)
  same_value names b c h (Negative x) closed = ap neg_ℤ (same_value names b c h x closed)
  same_value names b c h (Parity x) closed = ap parity (same_value names b c h x closed)
  same_value names b c h (Operate o x y) closed =
      ap (λ z. calculate o z (value f b y entry now)) (same_value names b c h x closed.0)
      ∙ ap (calculate o (value f c x entry now)) (same_value names b c h y closed.1)
  same_value names b c h (Bound name) closed = h name closed

  quantified : (q : Quantifier) (low low' high high' : ℤ) (P Q : ℤ → Type 0) → low ≡ low' → high ≡ high' → ((n : ℤ) → P n → Q n)
      → Quantifies q low high P → Quantifies q low' high' Q
  quantified q low low' high high' P Q e g each h = subst (λ z. Quantifies q z high' Q) e (subst (λ z. Quantifies q low z Q) g (inside q h))
    where
      inside : (q : Quantifier) → Quantifies q low high P → Quantifies q low high Q
      inside ForAll h = λ n from through. each n (h n from through)
      inside ForSome h = (h.0, h.1, h.2, each h.0 h.3)

  same_truth : (names : List (List ℕ)) (b c : Bindings) → Agree names b c → (p : Note) → BindsNames names p
      → HoldsWith f b p entry now ↔ HoldsWith f c p entry now
  same_truth names b c h (Constant t) closed = (λ k. k, λ k. k)
  same_truth names b c h (Compare k x y) closed =
      let left = same_value names b c h x closed.0 in
      let right = same_value names b c h y closed.1 in (
        λ t. subst (Compares k (value f c x entry now)) right (subst (λ z. Compares k z (value f b y entry now)) left t),
        λ t. subst (Compares k (value f b x entry now)) (sym right) (subst (λ z. Compares k z (value f c y entry now)) (sym left) t),
      )
  same_truth names b c h (Not p) closed = let k = same_truth names b c h p closed in (λ no yes. no (k.1 yes), λ no yes. no (k.0 yes))
  same_truth names b c h (Connect k p q) closed =
      let left = same_truth names b c h p closed.0 in
      let right = same_truth names b c h q closed.1 in (
        λ t. connects_right k _ _ _ right.0 right.1 (connects_left k _ _ _ left.0 left.1 t),
        λ t. connects_right k _ _ _ right.1 right.0 (connects_left k _ _ _ left.1 left.0 t),
      )
  same_truth names b c h (Quantify q name x y p) closed =
      let low = same_value names b c h x closed.0 in
      let high = same_value names b c h y closed.1 in (
        quantified q _ _ _ _ _ _ low high
            (λ n. (same_truth (name ∷ names) ((name, n) ∷ b) ((name, n) ∷ c) (more names b c name n h) p closed.2).0),
        quantified q _ _ _ _ _ _ (sym low) (sym high)
            (λ n. (same_truth (name ∷ names) ((name, n) ∷ b) ((name, n) ∷ c) (more names b c name n h) p closed.2).1),
      )

pub need_no_names : NeedNoNames
need_no_names f b c entry now p closed = same_truth f entry now [] b c (λ name among. absurd (none name among)) p closed
  where
    none : (name : List ℕ) → Contains [] name → ⊥
    none name (k, less, is) = absurd (omega arith)
