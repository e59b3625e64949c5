-- Hypotheses that are named by number, and the rule on their sums.
use Rattle.std.proofs.Common.{◌≡◌, ◌<◌, ◌+◌, ℕ, zero, suc, ℤ, refl, sym, ◌∙◌, subst, arith, List, [], ◌∷◌, ◌++◌, length, take, get_or, Some, None}
use Rattle.std.specs.Prelude.{Err}
use Rattle.std.specs.Borrow.{Bor}
use Rattle.std.proofs.lemmas.List.{take_more, map-append}
use Rattle.sp_term.specs.Tree.{Tree}
use Rattle.sp_linear.specs.Linear.{named, Follows}
use Rattle.sp_steps.specs.declared.refusal.RuleRefusal.TheVariants as refusal
use Rattle.sp_steps.specs.Subgoals.{State, subgoal, hypothesis}
use Rattle.sp_steps.specs.Steps.{New, Linear}
use Rattle.sp_steps.specs.Next.{Row, AreNamed, Applies}
use Rattle.sp_steps.proofs.OneLemmas.{some_one}
use Rattle.sp_rules.specs.declared.work.Work.{Work}
use Rattle.sp_rules.specs.code.Work.{hypotheses_of}
use Rattle.sp_rules.proofs.ApplyLemmas.{IsAtWork, applies_at}

-- numbers name one list at most
named_one : (hs : List Tree) (numbers : List (ℤ × ℕ)) (a b : List (ℤ × Tree)) → AreNamed hs numbers a → AreNamed hs numbers b → a ≡ b
named_one hs [] [] [] p q = refl
named_one hs [] (x ∷ a) b p q = absurd p
named_one hs [] [] (y ∷ b) p q = absurd q
named_one hs (n ∷ ns) [] b p q = absurd p
named_one hs (n ∷ ns) (x ∷ a) [] p q = absurd q
named_one hs (n ∷ ns) (x ∷ a) (y ∷ b) p q =
    let number : x.0 ≡ y.0 = sym p.0.0 ∙ q.0.0 in
    let tree : x.1 ≡ y.1 = some_one x.1 y.1 p.0.1 q.0.1 in
    let rest : a ≡ b = named_one hs ns a b p.1 q.1 in
    λ i. (number i, tree i) ∷ rest i

none_some : {P : Type 0} (t : Tree) → None ≡ Some t → P
none_some t e = absurd (cc)

-- a number that names no hypothesis
pub none_named : (hs : List Tree) (numbers : List (ℤ × ℕ)) (i : ℕ) (d : ℤ × ℕ) → i < length numbers → hypothesis hs (get_or numbers i d).1 ≡ None → (found : List (ℤ × Tree)) → AreNamed hs numbers found → ⊥
none_named hs [] i d l e found p = absurd (omega (arith, l))
none_named hs (n ∷ ns) i d l e [] p = absurd p
none_named hs (n ∷ ns) zero d l e (x ∷ found) p = none_some x.1 (sym e ∙ p.0.1)
none_named hs (n ∷ ns) (suc i) d l e (x ∷ found) p = none_named hs ns i d (omega (arith, l)) e found p.1

named_push : (hs : List Tree) (numbers : List (ℤ × ℕ)) (a : List (ℤ × Tree)) (n : ℤ × ℕ) (x : ℤ × Tree) → AreNamed hs numbers a → (n.0 ≡ x.0) × (hypothesis hs n.1 ≡ Some x.1) → AreNamed hs (numbers ++ n ∷ []) (a ++ x ∷ [])
named_push hs [] [] n x p q = (q, tt)
named_push hs [] (y ∷ a) n x p q = absurd p
named_push hs (m ∷ ns) [] n x p q = absurd p
named_push hs (m ∷ ns) (y ∷ a) n x p q = (p.0, named_push hs ns a n x p.1 q)

-- one more number, and the hypothesis that it names
pub named_more : (hs : List Tree) (numbers : List (ℤ × ℕ)) (i : ℕ) (d : ℤ × ℕ) (old : List (ℤ × Bor Tree)) (t : Bor Tree) → i < length numbers → AreNamed hs (take i numbers) (named old) → hypothesis hs (get_or numbers i d).1 ≡ Some t.now → AreNamed hs (take (i + 1) numbers) (named (old ++ ((get_or numbers i d).0, t) ∷ []))
named_more hs numbers i d old t low a e =
    let n = get_or numbers i d in
    let back : named (old ++ (n.0, t) ∷ []) ≡ named old ++ (n.0, t.now) ∷ [] = map-append (λ (h : ℤ × Bor Tree). (h.0, h.1.now)) old ((n.0, t) ∷ []) in
    subst (λ ns. AreNamed hs ns (named (old ++ (n.0, t) ∷ []))) (sym (take_more numbers i d low))
    (subst (AreNamed hs (take i numbers ++ n ∷ [])) (sym back) (named_push hs (take i numbers) (named old) n (n.0, t.now) a (refl, e)))

-- ---- the rule

-- numbers that name hypotheses from which the goal doesn't follow
pub applies_not_linear : (n : ℤ) (numbers : List (ℤ × ℕ)) (found : List (ℤ × Tree)) (old : State) (w : Work) (goal : Tree) → IsAtWork old w goal → AreNamed (hypotheses_of w) numbers found → (Follows n found goal → ⊥) → Applies (Linear n numbers) old (Err refusal.NoApply)
applies_not_linear n numbers found old w goal h a fails =
    applies_at (Linear n numbers) old w goal None (Err refusal.NoApply) h (record { holds = λ made e. absurd (cc); only = λ made r. absurd (never made r) }) refl
  where
    never : (made : List New) → Row old.changes (subgoal (hypotheses_of w) goal) (Linear n numbers) made → ⊥
    never made r = fails (subst (λ l. Follows n l goal) (named_one (hypotheses_of w) numbers r.0 found r.1 a) r.2)
