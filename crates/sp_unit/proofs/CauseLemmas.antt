-- A source has one cause of a refusal at most.
use Rattle.std.proofs.Common.{◌≡◌, inl, inr, ℕ, List, [], ◌∷◌, ◌++◌, Result, Ok, Err, Option, Some, None, is_some, true, false, refl, sym, ap, ◌∙◌}
use Rattle.std.specs.Prelude.{IsSome}
use Rattle.sp_base.specs.declared.refused.Refused.{Refused}
use Rattle.sp_base.specs.declared.refused.Refused.TheVariants as refused
use Rattle.sp_base.specs.Refused.{Answers, IsComplete}
use Rattle.sp_base.proofs.RefusedLemmas.{complete}
use Rattle.sp_asm.proofs.SplitLaws.{head_is, tail_is}
use Rattle.sp_unit.specs.declared.refusal.UnitKind.{UnitKind}
use Rattle.sp_unit.specs.declared.refusal.UnitKind.TheVariants.{NoStack}
use Rattle.sp_unit.specs.Lines.{Entry, line_of}
use Rattle.sp_unit.specs.Faults.{Source, stack_line, fault, AreRight, IsFirstFault, KeepsRules, IsCause, SourcesHaveOneCause}

some_is : {K : Type 0} (k m : K) → Some k ≡ Some m → k ≡ m
some_is k m e = cc

module _ {A K : Type 0} where
  -- F is none of each element above one, with those above it and below
  abbrev pub NoneAbove : (List A → A → List A → Option K) → List A → A → List A → Type 0
  NoneAbove F a x c = (front back : List A) (e : A) → a ≡ front ++ e ∷ back → F front e (back ++ x ∷ c) ≡ None

  -- the first element of which F is some is one
  pub one_first : (F : List A → A → List A → Option K) (a b c d : List A) (x y : A) (k m : K) → a ++ x ∷ c ≡ b ++ y ∷ d → F a x c ≡ Some k → F b y d ≡ Some m
      → NoneAbove F a x c → NoneAbove F b y d → (x ≡ y) × (k ≡ m)
  one_first F [] [] c d x y k m e at_x at_y above_x above_y =
      let first = head_is x y c d e in
      (first, some_is k m (sym at_x ∙ ap (λ z. F [] z c) first ∙ ap (λ rest. F [] y rest) (tail_is x y c d e) ∙ at_y))
  one_first F [] (g ∷ b) c d x y k m e at_x at_y above_x above_y =
      let none : F [] g (b ++ y ∷ d) ≡ None = above_y [] b g refl in
      let wrong : Some k ≡ None = sym at_x ∙ ap (λ z. F [] z c) (head_is x g c (b ++ y ∷ d) e) ∙ ap (λ rest. F [] g rest) (tail_is x g c (b ++ y ∷ d) e) ∙ none in
      absurd cc
  one_first F (h ∷ a) [] c d x y k m e at_x at_y above_x above_y =
      let none : F [] h (a ++ x ∷ c) ≡ None = above_x [] a h refl in
      let wrong : Some m ≡ None = sym at_y ∙ ap (λ z. F [] z d) (sym (head_is h y (a ++ x ∷ c) d e)) ∙ ap (λ rest. F [] h rest) (sym (tail_is h y (a ++ x ∷ c) d e)) ∙ none in
      absurd cc
  one_first F (h ∷ a) (g ∷ b) c d x y k m e at_x at_y above_x above_y =
      let same = head_is h g (a ++ x ∷ c) (b ++ y ∷ d) e in
      one_first (λ front. F (h ∷ front)) a b c d x y k m (tail_is h g (a ++ x ∷ c) (b ++ y ∷ d) e) at_x
      (ap (λ z. F (z ∷ b) y d) same ∙ at_y)
      (λ front back z eq. above_x (h ∷ front) back z (ap (λ l. h ∷ l) eq))
      (λ front back z eq. ap (λ w. F (w ∷ front) z (back ++ y ∷ d)) same ∙ above_y (g ∷ front) back z (ap (λ l. g ∷ l) eq))

no_line : (s : Source) → IsSome (stack_line s) → stack_line s ≡ None → ⊥
no_line s some none = let wrong : true ≡ false = sym some ∙ ap (λ o. is_some o) none in cc

unbroken : (s : Source) (entries : List Entry) (line : ℕ) (kind : UnitKind) → AreRight s entries → IsFirstFault s entries line kind → ⊥
unbroken s entries line kind right f = let wrong : Some kind ≡ None = sym f.breaks ∙ right f.above f.below f.broken f.whole in cc

one : (s : Source) (entries : List Entry) (line there : ℕ) (kind other : UnitKind) → IsCause s entries line kind → IsCause s entries there other → (line ≡ there) × (kind ≡ other)
one s entries line there kind other (inl a) (inl b) = (a.0 ∙ sym b.0, a.1 ∙ sym b.1)
one s entries line there kind other (inl a) (inr b) = absurd (no_line s b.0 a.2)
one s entries line there kind other (inr a) (inl b) = absurd (no_line s a.0 b.2)
one s entries line there kind other (inr a) (inr b) =
    let f = a.1 in
    let g = b.1 in
    let same = one_first (fault s) f.above g.above f.below g.below f.broken g.broken kind other (sym f.whole ∙ g.whole) f.breaks g.breaks f.first g.first in
    (sym f.at ∙ ap line_of same.0 ∙ g.at, same.1)

pub sources_have_one_cause : SourcesHaveOneCause
sources_have_one_cause = record {
  one = one;
  apart = λ s entries line kind keeps cause. elim cause [ inl none ↦ no_line s keeps.has_stack none.2 | inr first ↦ unbroken s entries line kind keeps.right first.1 ];
}

-- an answer about the lines of a source that has a `stack` line
pub answered : (s : Source) (entries : List Entry) → IsSome (stack_line s) → (result : Result (Unit {0}) (Refused UnitKind))
    → Answers (λ _. AreRight s entries) (IsFirstFault s entries) result → Answers (λ _. KeepsRules s entries) (IsCause s entries) result
answered s entries some (Ok done) h = record { has_stack = some; right = h }
answered s entries some (Err (refused.At line kind)) h = inr (some, h)
answered s entries some (Err refused.Memory) h = tt

pub is_complete : (s : Source) (entries : List Entry) (result : Result (Unit {0}) (Refused UnitKind)) → Answers (λ _. KeepsRules s entries) (IsCause s entries) result
    → IsComplete (λ _. KeepsRules s entries) (IsCause s entries) result
is_complete s entries result h =
    complete (λ _. KeepsRules s entries) (IsCause s entries) (λ a b right also. refl) (one s entries)
    (λ a line kind keeps cause. sources_have_one_cause.apart s entries line kind keeps cause) result h

none_from : {A : Type 0} (o : Option A) → is_some o ≡ false → o ≡ None
none_from None h = refl
none_from (Some x) h = absurd cc

-- a source without a `stack` line
pub without_stack : (s : Source) (entries : List Entry) → is_some (stack_line s) ≡ false → IsCause s entries 0 NoStack
without_stack s entries h = inl (refl, refl, none_from (stack_line s) h)
