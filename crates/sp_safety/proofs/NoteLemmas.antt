-- Annotations see locations, memory outside the stack region, and words on the stack alone.
use Rattle.std.proofs.Common.{◌≡◌, ◌⊎◌, inl, inr, ℕ, ℤ, pos, neg_ℤ, ◌+◌, ◌*◌, Bool, true, false, ◌||◌, ◌≤ℤ◌, [], ◌∷◌, refl, sym, ap, ap₂, subst, ◌∙◌}
use Rattle.std.proofs.Math.Path.{subst₂}
use Rattle.sp_base.specs.Integers.{parity, sum_between}
use Rattle.sp_base.specs.declared.location.Loc.{Loc}
use Rattle.sp_base.specs.declared.location.Loc.TheVariants as loc
use Rattle.sp_isa.specs.Core.{Core, at, word}
use Rattle.sp_model.specs.Note.{Moment, Now, AtEntry, RegisterPair, BC, DE, HL, Quantity, Literal, Location, Pair, Cell, StackWord, Total, Negative, Parity, Operate, Bound, Connective, And, Or, Implies, Iff, Quantifier, ForAll, ForSome, Note, Constant, Compare, Not, Connect, Quantify, Frame, Bindings, core_at, register_pair, shown, stack_address, calculate, value, Compares, Connects, Quantifies, HoldsWith}
use Rattle.sp_prog.specs.Rules.{has_word, note_has_word}

-- two cores have the same locations and, as annotations see it, the same memory
pub record Alike (f f' : Frame) (m m' : Core) : Type 0 where
  pub locations : (x : Loc) → at x m ≡ at x m'
  pub memory : shown f m.cells ≡ shown f' m'.cells

either : (a b : Bool) → (a || b) ≡ false → (a ≡ false) × (b ≡ false)
either false b h = (refl, h)
either true b h = absurd cc

pair_same : (f f' : Frame) (m m' : Core) → Alike f f' m m' → (p : RegisterPair) → register_pair p m ≡ register_pair p m'
pair_same f f' m m' h BC = ap₂ (λ x y. 256 * x + y) (h.locations loc.B) (h.locations loc.C)
pair_same f f' m m' h DE = ap₂ (λ x y. 256 * x + y) (h.locations loc.D) (h.locations loc.E)
pair_same f f' m m' h HL = ap₂ (λ x y. 256 * x + y) (h.locations loc.H) (h.locations loc.L)

module _ (f f' : Frame) (s t s' t' : Core) (entry : Alike f f' s s') (now : Alike f f' t t') where
  -- the words on the stack are the same, where there are any in the annotation
  abbrev pub WordsStay : Bool → Type 0
  WordsStay some = (some ≡ false) ⊎ ((k : ℕ) → word (stack_address f k) t ≡ word (stack_address f' k) t')

  first_part : (a b : Bool) → WordsStay (a || b) → WordsStay a
  first_part a b (inl none) = inl (either a b none).0
  first_part a b (inr same) = inr same

  second_part : (a b : Bool) → WordsStay (a || b) → WordsStay b
  second_part a b (inl none) = inl (either a b none).1
  second_part a b (inr same) = inr same

  at_moment : (m : Moment) → Alike f f' (core_at m s t) (core_at m s' t')
  at_moment Now = now
  at_moment AtEntry = entry

  word_same : (k : ℕ) → WordsStay true → word (stack_address f k) t ≡ word (stack_address f' k) t'
  word_same k (inl none) = absurd cc
  word_same k (inr same) = same k

  value_same : (b : Bindings) (x : Quantity) → WordsStay (has_word x) → value f b x s t ≡ value f' b x s' t'
  value_same b (Literal n) w = refl
  value_same b (Location m x) w = ap pos ((at_moment m).locations x)
  value_same b (Pair m p) w = ap pos (pair_same f f' (core_at m s t) (core_at m s' t') (at_moment m) p)
  value_same b (Cell m x) w = ap₂ (λ (c : ℤ → ℤ) (z : ℤ). c z) (at_moment m).memory (value_same b x w)
  value_same b (StackWord k) w = ap pos (word_same k w)
  value_same b (Total m x y) w =
      ap (λ (c : ℤ → ℤ). sum_between c (value f b x s t) (value f b y s t)) (at_moment m).memory
      ∙ ap₂ (sum_between (shown f' (core_at m s' t').cells)) (value_same b x (first_part (has_word x) (has_word y) w)) (value_same b y (second_part (has_word x) (has_word y) w))
  value_same b (Negative x) w = ap neg_ℤ (value_same b x w)
  value_same b (Parity x) w = ap parity (value_same b x w)
  value_same b (Operate o x y) w = ap₂ (calculate o) (value_same b x (first_part (has_word x) (has_word y) w)) (value_same b y (second_part (has_word x) (has_word y) w))
  value_same b (Bound name) w = refl

  abbrev Both : Type 0 → Type 0 → Type 0
  Both p q = (p → q) × (q → p)

  connected : (c : Connective) (p p' q q' : Type 0) → Both p p' → Both q q' → Both (Connects c p q) (Connects c p' q')
  connected And p p' q q' h k = ((λ x. (h.0 x.0, k.0 x.1)), (λ x. (h.1 x.0, k.1 x.1)))
  connected Or p p' q q' h k = (
    (λ x. elim x [ inl l ↦ inl (h.0 l) | inr r ↦ inr (k.0 r) ]),
    (λ x. elim x [ inl l ↦ inl (h.1 l) | inr r ↦ inr (k.1 r) ]),
  )
  connected Implies p p' q q' h k = ((λ x y. k.0 (x (h.1 y))), (λ x y. k.1 (x (h.0 y))))
  connected Iff p p' q q' h k = (
    (λ x. ((λ y. k.0 (x.0 (h.1 y))), (λ y. h.0 (x.1 (k.1 y))))),
    (λ x. ((λ y. k.1 (x.0 (h.0 y))), (λ y. h.1 (x.1 (k.0 y))))),
  )

  quantified : (q : Quantifier) (low high low' high' : ℤ) (P P' : ℤ → Type 0) → low ≡ low' → high ≡ high' → ((n : ℤ) → Both (P n) (P' n))
      → Both (Quantifies q low high P) (Quantifies q low' high' P')
  quantified ForAll low high low' high' P P' a b h = (
    (λ x n above below. (h n).0 (x n (subst (λ l. l ≤ℤ n) (sym a) above) (subst (λ l. n ≤ℤ l) (sym b) below))),
    (λ x n above below. (h n).1 (x n (subst (λ l. l ≤ℤ n) a above) (subst (λ l. n ≤ℤ l) b below))),
  )
  quantified ForSome low high low' high' P P' a b h = (
    (λ x. (x.0, subst (λ l. l ≤ℤ x.0) a x.1, subst (λ l. x.0 ≤ℤ l) b x.2, (h x.0).0 x.3)),
    (λ x. (x.0, subst (λ l. l ≤ℤ x.0) (sym a) x.1, subst (λ l. x.0 ≤ℤ l) (sym b) x.2, (h x.0).1 x.3)),
  )

  same : (b : Bindings) (n : Note) → WordsStay (note_has_word n) → Both (HoldsWith f b n s t) (HoldsWith f' b n s' t')
  same b (Constant truth) w = ((λ h. h), (λ h. h))
  same b (Compare c x y) w =
      let left = value_same b x (first_part (has_word x) (has_word y) w) in
      let right = value_same b y (second_part (has_word x) (has_word y) w) in
      (subst₂ (Compares c) left right, subst₂ (Compares c) (sym left) (sym right))
  same b (Not p) w = let h = same b p w in ((λ no yes. no (h.1 yes)), (λ no yes. no (h.0 yes)))
  same b (Connect c p q) w =
      connected c (HoldsWith f b p s t) (HoldsWith f' b p s' t') (HoldsWith f b q s t) (HoldsWith f' b q s' t')
      (same b p (first_part (note_has_word p) (note_has_word q) w)) (same b q (second_part (note_has_word p) (note_has_word q) w))
  same b (Quantify q name x y p) w =
      let rest = second_part (has_word x) (has_word y || note_has_word p) w in
      quantified q (value f b x s t) (value f b y s t) (value f' b x s' t') (value f' b y s' t')
      (λ n. HoldsWith f ((name, n) ∷ b) p s t) (λ n. HoldsWith f' ((name, n) ∷ b) p s' t')
      (value_same b x (first_part (has_word x) (has_word y || note_has_word p) w))
      (value_same b y (first_part (has_word y) (note_has_word p) rest))
      (λ n. same ((name, n) ∷ b) p (second_part (has_word y) (note_has_word p) rest))

  pub seen : (n : Note) → WordsStay (note_has_word n) → HoldsWith f [] n s t → HoldsWith f' [] n s' t'
  seen n w h = (same [] n w).0 h
