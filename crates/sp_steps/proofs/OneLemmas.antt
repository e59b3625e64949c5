-- A step has one next state.
use Rattle.std.proofs.Common.{subst, ◌≡◌, ◌<◌, ℕ, inl, inr, sym, ◌∙◌, ap, true, false, List, [], ◌∷◌, Option, Some, None}
use Rattle.std.specs.Prelude.{◌⊎◌}
use Rattle.std.proofs.lemmas.Bool.{cases_order}
use Rattle.sp_term.specs.Admissible.{Change}
use Rattle.sp_simp.specs.Simple.{IsSimpleForm}
use Rattle.sp_simp.proofs.OneLemmas.{simple_one}
use Rattle.sp_steps.specs.Subgoals.{Subgoal, State, occurs, IsFresh, hypothesis}
use Rattle.sp_steps.specs.Steps.{Step, Close, Simp, Split, Intro, OneSide, Unpack, UseBoth, CasesOf, CasesOn, Cut, Fix, At, Give, Pick, Induct, Rewrite, Linear, DivMod, Range, Read, Rom, Frame, Bits, BitOf, Choose, Empty, Last, Over, Built, New, adds}
use Rattle.sp_steps.specs.Rows.{with_simple_goal, fixed, picked, inducted}
use Rattle.sp_steps.specs.Next.{Row, after, IsNext}

pub some_one : {A : Type 0} {f : Option A} (a b : A) → f ≡ Some a → f ≡ Some b → a ≡ b
some_one a b h k = let e : Some a ≡ Some b = sym h ∙ k in cc

no_both : {P : Type 0} (g : Subgoal) (i : ℕ) → occurs i g ≡ true → occurs i g ≡ false → P
no_both g i h k = let e : true ≡ false = sym h ∙ k in absurd (cc)

pub fresh_one : (g : Subgoal) (i j : ℕ) → IsFresh g i → IsFresh g j → i ≡ j
fresh_one g i j a b = by (cases_order i j)
  where
    by : (i ≡ j) ⊎ ((i < j) ⊎ (j < i)) → i ≡ j
    by (inl e) = e
    by (inr (inl l)) = no_both g i (b.least i a.positive l) a.new
    by (inr (inr l)) = no_both g j (a.least j b.positive l) b.new

pub row_one : (cs : List Change) (g : Subgoal) (step : Step) (one other : List New) → Row cs g step one → Row cs g step other → one ≡ other
row_one cs g (Close k) m n a b = some_one m n a b
row_one cs g (Simp None) m n (p, f, e) (q, h, d) = sym e ∙ ap with_simple_goal (simple_one f q h) ∙ d
row_one cs g (Simp (Some k)) m n (h, p, i, f, e) (j, q, l, s, d) =
    let same : h ≡ j = some_one h j i l in
    let form : IsSimpleForm h q = subst (λ t. IsSimpleForm t q) (sym same) s in
    some_one m n e (ap (λ t. adds (Built t ∷ []) g.goal) (simple_one f q form) ∙ d)
row_one cs g Split m n a b = some_one m n a b
row_one cs g Intro m n a b = some_one m n a b
row_one cs g (OneSide s) m n a b = some_one m n a b
row_one cs g (Unpack k) m n a b = some_one m n a b
row_one cs g (UseBoth k j) m n a b = some_one m n a b
row_one cs g (CasesOf k) m n a b = some_one m n a b
row_one cs g (CasesOn p) m n a b = some_one m n a b
row_one cs g (Cut p) m n a b = some_one m n a b
row_one cs g Fix m n (i, f, e) (j, h, d) = some_one m n e (ap (λ l. fixed l g.goal) (fresh_one g i j f h) ∙ d)
row_one cs g (At k t) m n a b = some_one m n a b
row_one cs g (Give t) m n a b = some_one m n a b
row_one cs g (Pick k) m n (i, f, e) (j, h, d) = some_one m n e (ap (λ l. picked l (hypothesis g.hypotheses k) g.goal) (fresh_one g i j f h) ∙ d)
row_one cs g Induct m n (i, f, e) (j, h, d) = some_one m n e (ap (λ l. inducted l g.goal) (fresh_one g i j f h) ∙ d)
row_one cs g (Rewrite k None back) m n a b = some_one m n a b
row_one cs g (Rewrite k (Some j) back) m n a b = some_one m n a b
row_one cs g (Linear z numbers) m n (hs, named, f, e) (is, others, h, d) = e ∙ sym d
row_one cs g (DivMod t c) m n a b = some_one m n a b
row_one cs g (Range t) m n a b = some_one m n a b
row_one cs g (Read t) m n a b = some_one m n a b
row_one cs g (Rom t c image) m n a b = some_one m n a b
row_one cs g (Frame t u) m n a b = some_one m n a b
row_one cs g (Bits t) m n a b = some_one m n a b
row_one cs g (BitOf k t) m n a b = some_one m n a b
row_one cs g (Choose t) m n a b = some_one m n a b
row_one cs g (Empty t) m n a b = some_one m n a b
row_one cs g (Last t) m n a b = some_one m n a b
row_one cs g (Over t) m n a b = some_one m n a b

head_of : {A : Type 0} (x y : A) (xs ys : List A) → x ∷ xs ≡ y ∷ ys → x ≡ y
head_of x y xs ys e = cc

tail_of : {A : Type 0} (x y : A) (xs ys : List A) → x ∷ xs ≡ y ∷ ys → xs ≡ ys
tail_of x y xs ys e = cc

pub next_one : (step : Step) (old one other : State) → IsNext step old one → IsNext step old other → one ≡ other
next_one step old one other a b =
    let both : a.first ∷ a.rest ≡ b.first ∷ b.rest = sym a.on_first ∙ b.on_first in
    let first : a.first ≡ b.first = head_of a.first b.first a.rest b.rest both in
    let rest : a.rest ≡ b.rest = tail_of a.first b.first a.rest b.rest both in
    let made : a.made ≡ b.made = row_one old.changes a.first step a.made b.made a.row (subst (λ g. Row old.changes g step b.made) (sym first) b.row) in
    let new : one.subgoals ≡ other.subgoals = some_one one.subgoals other.subgoals a.placed ((λ i. after (first i).hypotheses (rest i) (made i)) ∙ b.placed) in
    let changes : one.changes ≡ other.changes = a.changes ∙ sym b.changes in
    λ i. record { subgoals = new i; changes = changes i }

pub next_none : (step : Step) (old new : State) → old.subgoals ≡ [] → IsNext step old new → ⊥
next_none step old new h a = let e : [] ≡ a.first ∷ a.rest = sym h ∙ a.on_first in absurd (cc)
