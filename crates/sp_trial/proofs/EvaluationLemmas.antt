-- The first annotation that isn't true within the budget is one.
use Rattle.std.proofs.Common.{◌≡◌, ◌≢◌, ℕ, ◌+◌, ◌<◌, List, inl, inr, refl, sym, ap, subst, ◌∙◌, arith, Some}
use Rattle.std.specs.Prelude.{slice_get}
use Rattle.std.proofs.lemmas.Bool.{cases_order}
use Rattle.sp_base.specs.declared.line.Line.{Line}
use Rattle.sp_prog.specs.declared.routine.Noted.{Noted}
use Rattle.sp_trial.specs.declared.judging.Finding.{Finding}
use Rattle.sp_trial.specs.declared.judging.Finding.TheVariants as finding
use Rattle.sp_trial.specs.Judged.{Evaluation, IsTrueIn, IsFalseIn, IsLongIn, AreTrueIn, ComesToNote, IsFalseOn, PassesBudget}
use Rattle.sp_trial.specs.Trials.{Answer, Judges}
use Rattle.sp_trial.specs.code.Courses.{FindsOne, Finds}

some_is : {A : Type 0} (x y : A) → Some x ≡ Some y → x ≡ y
some_is x y e = cc

pub false_is_not_true : (e : Evaluation) (n : Noted) → IsFalseIn e n → ¬ IsTrueIn e n
false_is_not_true e n h t = h.fails t.holds

pub long_is_not_true : (e : Evaluation) (n : Noted) → IsLongIn e n → ¬ IsTrueIn e n
long_is_not_true e n h t = let over = h.over in let within = t.within in omega (arith, over, within)

module _ (e : Evaluation) (notes : List Noted) where
  one_note : (n m : Noted) → ComesToNote e notes n → ComesToNote e notes m → ¬ IsTrueIn e n → ¬ IsTrueIn e m → n ≡ m
  one_note n m x y not_n not_m =
      elim (cases_order x.place y.place) [
        | inl same ↦ some_is n m (sym x.there ∙ ap (slice_get notes) same ∙ y.there)
        | inr (inl lt) ↦ absurd (not_n (y.before x.place n lt x.there))
        | inr (inr gt) ↦ absurd (not_m (x.before y.place m gt y.there))
      ]

  pub one_line : (l k : Line) → IsFalseOn e notes l → IsFalseOn e notes k → l ≡ k
  one_line l k x y =
      sym x.on
      ∙ ap (λ (n : Noted). n.line) (one_note x.note y.note x.comes y.comes (false_is_not_true e x.note x.is_false) (false_is_not_true e y.note y.is_false))
      ∙ y.on

  pub false_or_long : (l : Line) → IsFalseOn e notes l → PassesBudget e notes → ⊥
  false_or_long l x y =
      let same = one_note x.note y.note x.comes y.comes (false_is_not_true e x.note x.is_false) (long_is_not_true e y.note y.is_long) in
      let within = (subst (λ n. IsFalseIn e n) same x.is_false).within in
      let over = y.is_long.over in
      omega (arith, within, over)

  pub false_or_true : (l : Line) → IsFalseOn e notes l → AreTrueIn e notes → ⊥
  false_or_true l x all = false_is_not_true e x.note x.is_false (all x.comes.place x.note x.comes.there)

  pub long_or_true : PassesBudget e notes → AreTrueIn e notes → ⊥
  long_or_true x all = long_is_not_true e x.note x.is_long (all x.comes.place x.note x.comes.there)

  module _ (Fails : Line → Answer) (Next : Answer → Type 0) (one : (a b : Answer) → Next a → Next b → a ≡ b) where
    pub one_judged : (a b : Answer) → Judges e notes Fails Next a → Judges e notes Fails Next b → a ≡ b
    one_judged a b (inl x) (inl y) = x.2 ∙ ap Fails (one_line x.0 y.0 x.1 y.1) ∙ sym y.2
    one_judged a b (inl x) (inr (inl y)) = absurd (false_or_long x.0 x.1 y.0)
    one_judged a b (inl x) (inr (inr y)) = absurd (false_or_true x.0 x.1 y.0)
    one_judged a b (inr (inl x)) (inl y) = absurd (false_or_long y.0 y.1 x.0)
    one_judged a b (inr (inl x)) (inr (inl y)) = x.1 ∙ sym y.1
    one_judged a b (inr (inl x)) (inr (inr y)) = absurd (long_or_true x.0 y.0)
    one_judged a b (inr (inr x)) (inl y) = absurd (false_or_true y.0 y.1 x.0)
    one_judged a b (inr (inr x)) (inr (inl y)) = absurd (long_or_true y.0 x.0)
    one_judged a b (inr (inr x)) (inr (inr y)) = one a b x.1 y.1

  -- ---- The loop

  abbrev pub Before : ℕ → Type 0
  Before k = (j : ℕ) (m : Noted) → j < k → slice_get notes j ≡ Some m → IsTrueIn e m

  pub true_more : (k : ℕ) (n : Noted) → slice_get notes k ≡ Some n → Before k → IsTrueIn e n → Before (k + 1)
  true_more k n there before true_there j m lt at =
      elim (cases_order j k) [
        | inl same ↦ subst (λ x. IsTrueIn e x) (some_is n m (sym there ∙ ap (slice_get notes) (sym same) ∙ at)) true_there
        | inr (inl less) ↦ before j m less at
        | inr (inr more) ↦ absurd (omega arith)
      ]

  pub found_first : (k : ℕ) (n : Noted) (found : Finding) → slice_get notes k ≡ Some n → Before k → FindsOne e n found → found ≢ finding.AllTrue → Finds e notes found
  found_first k n finding.AllTrue there before h other = absurd (other refl)
  found_first k n (finding.FalseOn line) there before h other = record {
    note = n;
    comes = record { place = k; there = there; before = before };
    on = h.1;
    is_false = h.0;
  }
  found_first k n finding.TooLong there before h other = record {
    note = n;
    comes = record { place = k; there = there; before = before };
    is_long = h;
  }
