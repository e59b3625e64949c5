-- A simplified condition is true in the environments in which the condition is, and is one.
use Rattle.std.proofs.Common.{◌≡◌, inl, inr, refl, sym, ◌∙◌, ap, subst, Bool, true, false, ◌||◌, List, [], ◌∷◌, ◌++◌}
use Rattle.std.specs.Prelude.{if◌then◌else◌, ◌↔◌, All}
use Rattle.std.specs.List.{AllByRecursion, AllZip}
use Rattle.std.proofs.lemmas.Bool.{or_cases, and_parts, and_from}
use Rattle.std.proofs.lemmas.List.Elements.{All-from_recursion, recursion_from_All}
use Rattle.sp_term.specs.Tree.{Tree, Truth, And}
use Rattle.sp_term.specs.Sorts.{Formula}
use Rattle.sp_term.specs.Value.{Env, Value, value, IsTrueIn}
use Rattle.sp_term.specs.Admissible.{Region, Condition, IsTrueAt}
use Rattle.sp_simp.specs.Ranges.{IsInRanges}
use Rattle.sp_simp.specs.Same.{tree_eq, tree_one}
use Rattle.sp_simp.specs.Simple.{IsSimpleForm}
use Rattle.sp_simp.specs.Simplified.{IsFormula, conjuncts, all_conjuncts, stands_in, fresh, goals_left, IsSimplified}
use Rattle.sp_simp.proofs.OneLemmas.{simple_one}
use Rattle.sp_simp.proofs.ValueLemmas.{simple_value}

abbrev Each : Env → List Tree → Type 0
Each e ps = AllByRecursion (IsTrueIn e) ps

each_append : (e : Env) (ps qs : List Tree) → Each e ps → Each e qs → Each e (ps ++ qs)
each_append e [] qs h g = g
each_append e (p ∷ ps) qs h g = (h.0, each_append e ps qs h.1 g)

each_first : (e : Env) (ps qs : List Tree) → Each e (ps ++ qs) → Each e ps
each_first e [] qs h = tt
each_first e (p ∷ ps) qs h = (h.0, each_first e ps qs h.1)

each_second : (e : Env) (ps qs : List Tree) → Each e (ps ++ qs) → Each e qs
each_second e [] qs h = h
each_second e (p ∷ ps) qs h = each_second e ps qs h.1

-- ---- formulas and what `and` joins

to_conjuncts : (e : Env) (p : Tree) → IsTrueIn e p → Each e (conjuncts p)
to_conjuncts e (And p q) h =
    let k = and_parts (value e p).truth (value e q).truth h in
    each_append e (conjuncts p) (conjuncts q) (to_conjuncts e p k.0) (to_conjuncts e q k.1)
to_conjuncts e p h = (h, tt)

from_conjuncts : (e : Env) (p : Tree) → Each e (conjuncts p) → IsTrueIn e p
from_conjuncts e (And p q) h =
    and_from (value e p).truth (value e q).truth (from_conjuncts e p (each_first e (conjuncts p) (conjuncts q) h)) (from_conjuncts e q (each_second e (conjuncts p) (conjuncts q) h))
from_conjuncts e p h = h.0

to_all : (e : Env) (ps : List Tree) → Each e ps → Each e (all_conjuncts ps)
unfolding all_conjuncts
to_all e [] h = tt
to_all e (p ∷ ps) h = each_append e (conjuncts p) (all_conjuncts ps) (to_conjuncts e p h.0) (to_all e ps h.1)

from_all : (e : Env) (ps : List Tree) → Each e (all_conjuncts ps) → Each e ps
unfolding all_conjuncts
from_all e [] h = tt
from_all e (p ∷ ps) h = (from_conjuncts e p (each_first e (conjuncts p) (all_conjuncts ps) h), from_all e ps (each_second e (conjuncts p) (all_conjuncts ps) h))

-- ---- formulas that are known

known_true : (e : Env) (ps : List Tree) (p : Tree) → Each e ps → stands_in ps p ≡ true → IsTrueIn e p
unfolding stands_in
known_true e [] p h s = absurd (cc)
known_true e (q ∷ ps) p h s = elim (or_cases (tree_eq q p) (stands_in ps p) s) [
  | inl k ↦ subst (IsTrueIn e) (tree_one q p k) h.0
  | inr k ↦ known_true e ps p h.1 k
]

true_or_known : (e : Env) (known : List Tree) (p : Tree) → Each e known → (tree_eq (Truth true) p || stands_in known p) ≡ true → IsTrueIn e p
true_or_known e known p h s = elim (or_cases (tree_eq (Truth true) p) (stands_in known p) s) [
  | inl k ↦ subst (IsTrueIn e) (tree_one (Truth true) p k) refl
  | inr k ↦ known_true e known p h k
]

-- where the known formulas and the fresh ones are true, all are
from_fresh : (e : Env) (known ps : List Tree) → Each e known → Each e (fresh known ps) → Each e ps
unfolding fresh
from_fresh e known [] k h = tt
from_fresh e known (p ∷ ps) k h = by (tree_eq (Truth true) p || stands_in known p) refl h (from_fresh e known ps k) (λ more. from_fresh e (known ++ p ∷ []) ps (each_append e known (p ∷ []) k more))
  where
    by : (b : Bool) → (tree_eq (Truth true) p || stands_in known p) ≡ b → Each e (if b then fresh known ps else p ∷ fresh (known ++ p ∷ []) ps) →
        (Each e (fresh known ps) → Each e ps) → (Each e (p ∷ []) → Each e (fresh (known ++ p ∷ []) ps) → Each e ps) → Each e (p ∷ ps)
    by true s h f g = (true_or_known e known p k s, f h)
    by false s h f g = (h.0, g (h.0, tt) h.1)

to_fresh : (e : Env) (known ps : List Tree) → Each e ps → Each e (fresh known ps)
unfolding fresh
to_fresh e known [] h = tt
to_fresh e known (p ∷ ps) h = by (tree_eq (Truth true) p || stands_in known p) (to_fresh e known ps h.1) (to_fresh e (known ++ p ∷ []) ps h.1)
  where
    by : (b : Bool) → Each e (fresh known ps) → Each e (fresh (known ++ p ∷ []) ps) → Each e (if b then fresh known ps else p ∷ fresh (known ++ p ∷ []) ps)
    by true f g = f
    by false f g = (h.0, g)

-- ---- simple forms

to_simple : (stack : Region) (e : Env) → IsInRanges stack e → (ps rs : List Tree) → AllZip IsSimpleForm ps rs → AllByRecursion IsFormula ps → Each e ps → Each e rs
to_simple stack e r [] [] z s h = tt
to_simple stack e r [] (q ∷ rs) z s h = absurd z
to_simple stack e r (p ∷ ps) [] z s h = absurd z
to_simple stack e r (p ∷ ps) (q ∷ rs) z s h = (subst (λ (v : Value). v.truth ≡ true) (simple_value stack e r z.0 Formula s.0) h.0, to_simple stack e r ps rs z.1 s.1 h.1)

from_simple : (stack : Region) (e : Env) → IsInRanges stack e → (ps rs : List Tree) → AllZip IsSimpleForm ps rs → AllByRecursion IsFormula ps → Each e rs → Each e ps
from_simple stack e r [] [] z s h = tt
from_simple stack e r [] (q ∷ rs) z s h = absurd z
from_simple stack e r (p ∷ ps) [] z s h = absurd z
from_simple stack e r (p ∷ ps) (q ∷ rs) z s h = (subst (λ (v : Value). v.truth ≡ true) (sym (simple_value stack e r z.0 Formula s.0)) h.0, from_simple stack e r ps rs z.1 s.1 h.1)

pub simple_lists : (ps rs qs : List Tree) → AllZip IsSimpleForm ps rs → AllZip IsSimpleForm ps qs → rs ≡ qs
simple_lists [] [] [] z y = refl
simple_lists [] [] (q ∷ qs) z y = absurd y
simple_lists [] (r ∷ rs) qs z y = absurd z
simple_lists (p ∷ ps) [] qs z y = absurd z
simple_lists (p ∷ ps) (r ∷ rs) [] z y = absurd y
simple_lists (p ∷ ps) (r ∷ rs) (q ∷ qs) z y = λ i. simple_one z.0 q y.0 i ∷ simple_lists ps rs qs z.1 y.1 i

-- ---- conditions

goals_from : (e : Env) (hs gs : List Tree) → Each e hs → Each e (goals_left hs gs) → Each e gs
goals_from e hs gs h k = by (stands_in hs (Truth false)) refl k
  where
    by : (b : Bool) → stands_in hs (Truth false) ≡ b → Each e (if b then [] else fresh hs gs) → Each e gs
    by true s k = let no : false ≡ true = known_true e hs (Truth false) h s in absurd (cc)
    by false s k = from_fresh e hs gs h k

goals_to : (e : Env) (hs gs : List Tree) → Each e gs → Each e (goals_left hs gs)
goals_to e hs gs g = by (stands_in hs (Truth false))
  where
    by : (b : Bool) → Each e (if b then [] else fresh hs gs)
    by true = tt
    by false = to_fresh e hs gs g

pub simplified_true : (stack : Region) (e : Env) → IsInRanges stack e → (c r : Condition) → All IsFormula c.hypotheses → All IsFormula c.goals → IsSimplified c r → IsTrueAt e c ↔ IsTrueAt e r
simplified_true stack e w c r hf gf s = (to, from)
  where
    to : IsTrueAt e c → IsTrueAt e r
    to f h =
        let each : Each e r.hypotheses = recursion_from_All (IsTrueIn e) r.hypotheses h in
        let joined : Each e (all_conjuncts s.hypotheses.0) = from_fresh e [] (all_conjuncts s.hypotheses.0) tt (subst (Each e) s.hypotheses.2 each) in
        let whole : Each e c.hypotheses = from_simple stack e w c.hypotheses s.hypotheses.0 s.hypotheses.1 (recursion_from_All IsFormula c.hypotheses hf) (from_all e s.hypotheses.0 joined) in
        let goals : Each e c.goals = recursion_from_All (IsTrueIn e) c.goals (f (All-from_recursion (IsTrueIn e) c.hypotheses whole)) in
        let simple : Each e s.goals.0 = to_simple stack e w c.goals s.goals.0 s.goals.1 (recursion_from_All IsFormula c.goals gf) goals in
        All-from_recursion (IsTrueIn e) r.goals (subst (Each e) (sym s.goals.2) (goals_to e r.hypotheses (all_conjuncts s.goals.0) (to_all e s.goals.0 simple)))

    from : IsTrueAt e r → IsTrueAt e c
    from f h =
        let each : Each e c.hypotheses = recursion_from_All (IsTrueIn e) c.hypotheses h in
        let simple : Each e s.hypotheses.0 = to_simple stack e w c.hypotheses s.hypotheses.0 s.hypotheses.1 (recursion_from_All IsFormula c.hypotheses hf) each in
        let left : Each e r.hypotheses = subst (Each e) (sym s.hypotheses.2) (to_fresh e [] (all_conjuncts s.hypotheses.0) (to_all e s.hypotheses.0 simple)) in
        let goals : Each e r.goals = recursion_from_All (IsTrueIn e) r.goals (f (All-from_recursion (IsTrueIn e) r.hypotheses left)) in
        let joined : Each e (all_conjuncts s.goals.0) = goals_from e r.hypotheses (all_conjuncts s.goals.0) left (subst (Each e) s.goals.2 goals) in
        All-from_recursion (IsTrueIn e) c.goals (from_simple stack e w c.goals s.goals.0 s.goals.1 (recursion_from_All IsFormula c.goals gf) (from_all e s.goals.0 joined))

condition_is : (a b : Condition) → a.hypotheses ≡ b.hypotheses → a.goals ≡ b.goals → a.changes ≡ b.changes → a ≡ b
condition_is a b h g c = λ i. record { hypotheses = h i; goals = g i; changes = c i }

pub simplified_one : (c r q : Condition) → IsSimplified c r → IsSimplified c q → r ≡ q
simplified_one c r q s t =
    let hs : s.hypotheses.0 ≡ t.hypotheses.0 = simple_lists c.hypotheses s.hypotheses.0 t.hypotheses.0 s.hypotheses.1 t.hypotheses.1 in
    let gs : s.goals.0 ≡ t.goals.0 = simple_lists c.goals s.goals.0 t.goals.0 s.goals.1 t.goals.1 in
    let h : r.hypotheses ≡ q.hypotheses = s.hypotheses.2 ∙ ap (λ l. fresh [] (all_conjuncts l)) hs ∙ sym t.hypotheses.2 in
    let g : r.goals ≡ q.goals = s.goals.2 ∙ (λ i. goals_left (h i) (all_conjuncts (gs i))) ∙ sym t.goals.2 in
    condition_is r q h g (s.changes ∙ sym t.changes)
