-- What is left of formulas, one after another.
use Rattle.std.proofs.Common.{ℕ, suc, ◌+◌, ◌<◌, ◌≡◌, ◌≢◌, refl, sym, ◌∙◌, ap, subst, arith, Bool, true, false, ◌||◌, not, List, [], ◌∷◌, ◌++◌, length, get_or, take, drop, replicate, set, Some, None, append_assoc, get_or-set_same, get_or-set_other, length-set, nat_eq, eqb-true, eq-eqb}
use Rattle.std.specs.Prelude.{if◌then◌else◌, slice_index_or}
use Rattle.std.specs.List.{AllZip, AllByRecursion}
use Rattle.std.proofs.lemmas.List.{take_more, map-append, length-replicate, get_or-replicate}
use Rattle.std.proofs.lemmas.List.Elements.{All-from_recursion}
use Rattle.sp_term.specs.Tree.{Tree, Truth, And}
use Rattle.sp_term.specs.Pools.{tree_at, IsDistinct, Grows}
use Rattle.sp_term.specs.declared.shape.Node.{Node}
use Rattle.sp_simp.specs.Same.{tree_eq, tree_one, tree_same}
use Rattle.sp_simp.specs.Rules.{truth}
use Rattle.sp_simp.specs.Simplified.{conjuncts, all_conjuncts, stands_in, fresh, goals_left, IsSimplified}
use Rattle.sp_simp.specs.Simple.{IsSimpleForm}
use Rattle.sp_simp.specs.Memos.{IsSimpleAt}
use Rattle.sp_simp.specs.code.Marks.{conjunction, kept_with, with_one, left, trees_at, AreWithin, AreSimpleAt, IsKept}
use Rattle.sp_simp.specs.declared.kept.Kept.{Kept}
use Rattle.std.specs.Borrow.{Bor}
use Rattle.sp_term.specs.Conditions.{trees}
use Rattle.sp_term.specs.Admissible.{Condition}
use Rattle.sp_simp.proofs.RootLemmas.{truth_of}
use Rattle.sp_simp.proofs.MemoLemmas.{form_grown}

-- ---- true and false

pub true_is : (t : Tree) (b : Bool) → truth t ≡ Some b → tree_eq (Truth true) t ≡ b
unfolding tree_eq
true_is t true h = ap (tree_eq (Truth true)) (truth_of t true h)
true_is t false h = ap (tree_eq (Truth true)) (truth_of t false h)

pub false_is : (t : Tree) (b : Bool) → truth t ≡ Some b → tree_eq t (Truth false) ≡ not b
unfolding tree_eq
false_is t true h = ap (λ u. tree_eq u (Truth false)) (truth_of t true h)
false_is t false h = ap (λ u. tree_eq u (Truth false)) (truth_of t false h)

pub true_not : (t : Tree) → truth t ≡ None → tree_eq (Truth true) t ≡ false
true_not t h = by (tree_eq (Truth true) t) refl
  where
    by : (b : Bool) → tree_eq (Truth true) t ≡ b → b ≡ false
    by false e = refl
    by true e = let k : Some true ≡ None = ap truth (tree_one (Truth true) t e) ∙ h in cc

pub false_not : (t : Tree) → truth t ≡ None → tree_eq t (Truth false) ≡ false
false_not t h = by (tree_eq t (Truth false)) refl
  where
    by : (b : Bool) → tree_eq t (Truth false) ≡ b → b ≡ false
    by false e = refl
    by true e = let k : Some false ≡ None = sym (ap truth (tree_one t (Truth false) e)) ∙ h in cc

pub ruleset tests = (true_is, false_is, true_not, false_not)

-- ---- formulas that stand in a list

or_assoc : (a b c : Bool) → ((a || b) || c) ≡ (a || (b || c))
or_assoc true b c = refl
or_assoc false b c = refl

pub stands_in-append : (ps qs : List Tree) (p : Tree) → stands_in (ps ++ qs) p ≡ (stands_in ps p || stands_in qs p)
unfolding stands_in
stands_in-append [] qs p = refl
stands_in-append (q ∷ ps) qs p = ap (λ b. tree_eq q p || b) (stands_in-append ps qs p) ∙ sym (or_assoc (tree_eq q p) (stands_in ps p) (stands_in qs p))

or_none : (b : Bool) → (b || false) ≡ b
or_none true = refl
or_none false = refl

pub stands_in-push : (ps : List Tree) (q p : Tree) → stands_in (ps ++ q ∷ []) p ≡ (stands_in ps p || tree_eq q p)
unfolding stands_in
stands_in-push ps q p = stands_in-append ps (q ∷ []) p ∙ ap (λ b. stands_in ps p || b) (or_none (tree_eq q p))

-- ---- fresh formulas

fresh-append : (known ps qs : List Tree) → fresh known (ps ++ qs) ≡ fresh known ps ++ fresh (known ++ fresh known ps) qs
unfolding fresh
fresh-append known [] qs = ap (λ l. fresh l qs) (append_nil known)
  where
    append_nil : (l : List Tree) → l ≡ l ++ []
    append_nil [] = refl
    append_nil (x ∷ l) = ap (λ m. x ∷ m) (append_nil l)
fresh-append known (p ∷ ps) qs = by (tree_eq (Truth true) p || stands_in known p) (fresh-append known ps qs) (fresh-append (known ++ p ∷ []) ps qs)
  where
    by : (b : Bool) → fresh known (ps ++ qs) ≡ fresh known ps ++ fresh (known ++ fresh known ps) qs →
        fresh (known ++ p ∷ []) (ps ++ qs) ≡ fresh (known ++ p ∷ []) ps ++ fresh ((known ++ p ∷ []) ++ fresh (known ++ p ∷ []) ps) qs →
        (if b then fresh known (ps ++ qs) else p ∷ fresh (known ++ p ∷ []) (ps ++ qs)) ≡
        (if b then fresh known ps else p ∷ fresh (known ++ p ∷ []) ps) ++ fresh (known ++ (if b then fresh known ps else p ∷ fresh (known ++ p ∷ []) ps)) qs
    by true f g = f
    by false f g = ap (λ l. p ∷ l) (g ∙ ap (λ l. fresh (known ++ p ∷ []) ps ++ fresh l qs) (append_assoc known (p ∷ []) (fresh (known ++ p ∷ []) ps)))

pub kept-append : (known ps qs : List Tree) → kept_with known (ps ++ qs) ≡ kept_with (kept_with known ps) qs
unfolding kept_with
kept-append known ps qs = ap (λ l. known ++ l) (fresh-append known ps qs) ∙ sym (append_assoc known (fresh known ps) (fresh (known ++ fresh known ps) qs))

no_more : (l : List Tree) → l ++ [] ≡ l
no_more [] = refl
no_more (x ∷ l) = ap (λ m. x ∷ m) (no_more l)

pub kept-none : (known : List Tree) → kept_with known [] ≡ known
unfolding kept_with fresh
kept-none known = no_more known

kept_one : (known : List Tree) (p : Tree) → tree_eq (Truth true) p ≡ false → kept_with known (p ∷ []) ≡ with_one known p
unfolding kept_with fresh
kept_one known p h = ap (λ (b : Bool). known ++ (if b || stands_in known p then [] else p ∷ [])) h ∙ by (stands_in known p)
  where
    by : (b : Bool) → known ++ (if b then [] else p ∷ []) ≡ (if b then known else known ++ p ∷ [])
    by true = no_more known
    by false = refl

kept_true : (known : List Tree) (p : Tree) → tree_eq (Truth true) p ≡ true → kept_with known (p ∷ []) ≡ known
unfolding kept_with fresh
kept_true known p h = ap (λ (b : Bool). known ++ (if b || stands_in known p then [] else p ∷ [])) h ∙ no_more known

-- ---- what `and` joins

single : (t : Tree) → conjunction t ≡ None → conjuncts t ≡ t ∷ []
single (And p q) h = absurd (cc)
single _ h = refl

pair : (t p q : Tree) → conjunction t ≡ Some (p, q) → conjuncts t ≡ conjuncts p ++ conjuncts q
pair (And x y) p q h =
    let k : ◌≡◌ {A = Tree × Tree} (x, y) (p, q) = cc in
    λ i. conjuncts (k i).0 ++ conjuncts (k i).1
pair _ p q h = absurd (cc)

pub kept_pair : (known : List Tree) (t p q : Tree) → conjunction t ≡ Some (p, q) → kept_with (kept_with known (conjuncts p)) (conjuncts q) ≡ kept_with known (conjuncts t)
kept_pair known t p q h = sym (kept-append known (conjuncts p) (conjuncts q)) ∙ ap (kept_with known) (sym (pair t p q h))

pub kept_single : (known : List Tree) (t : Tree) → conjunction t ≡ None → tree_eq (Truth true) t ≡ false → kept_with known (conjuncts t) ≡ with_one known t
kept_single known t h g = ap (kept_with known) (single t h) ∙ kept_one known t g

pub kept_known : (known : List Tree) (t : Tree) → conjunction t ≡ None → tree_eq (Truth true) t ≡ true → kept_with known (conjuncts t) ≡ known
kept_known known t h g = ap (kept_with known) (single t h) ∙ kept_true known t g

pub ruleset keeping = (kept_pair, kept_single, kept_known)

-- ---- marks

or_true : (b : Bool) → (b || true) ≡ true
or_true true = refl
or_true false = refl

places_apart : (ts : List Tree) (n j : ℕ) → IsDistinct ts → n < length ts → j < length ts → j ≢ n → tree_eq (tree_at ts n) (tree_at ts j) ≡ false
places_apart ts n j d low h ne = by (tree_eq (tree_at ts n) (tree_at ts j)) refl
  where
    by : (b : Bool) → tree_eq (tree_at ts n) (tree_at ts j) ≡ b → b ≡ false
    by false e = refl
    by true e = absurd (ne (d j n h low (sym (tree_one (tree_at ts n) (tree_at ts j) e))))

-- with one formula more and the mark of its place, exactly the places of formulas are marked
pub marked_more : (ts known : List Tree) (marks : List Bool) (n : ℕ) → IsDistinct ts → n < length ts → length marks ≡ length ts →
    ((j : ℕ) → j < length ts → slice_index_or marks j false ≡ stands_in known (tree_at ts j)) →
    (j : ℕ) → j < length ts → slice_index_or (set marks n true) j false ≡ stands_in (known ++ tree_at ts n ∷ []) (tree_at ts j)
marked_more ts formulas marks n d low size each j h = by (nat_eq j n) refl
  where
    by : (b : Bool) → nat_eq j n ≡ b → slice_index_or (set marks n true) j false ≡ stands_in (formulas ++ tree_at ts n ∷ []) (tree_at ts j)
    by true e =
        let same : j ≡ n = eqb-true j n e in
        let lt : n < length marks = omega arith in
        ap (λ i. get_or (set marks n true) i false) same ∙ get_or-set_same marks n true false lt
        ∙ sym (stands_in-push formulas (tree_at ts n) (tree_at ts j) ∙ ap (λ b. stands_in formulas (tree_at ts j) || b) (tree_same (tree_at ts n) (tree_at ts j) (ap (tree_at ts) (sym same))) ∙ or_true (stands_in formulas (tree_at ts j)))
    by false e =
        let ne : j ≢ n = λ k. (let t : nat_eq j n ≡ true = eq-eqb j n k in cc) in
        get_or-set_other marks n j true false ne ∙ each j h
        ∙ sym (stands_in-push formulas (tree_at ts n) (tree_at ts j) ∙ ap (λ b. stands_in formulas (tree_at ts j) || b) (places_apart ts n j d low h ne) ∙ or_none (stands_in formulas (tree_at ts j)))

-- ---- places of simple forms

zip_push : {A : Type 0} {B : Type 0} (R : A → B → Type 0) (xs : List A) (ys : List B) (x : A) (y : B) → AllZip R xs ys → R x y → AllZip R (xs ++ x ∷ []) (ys ++ y ∷ [])
zip_push R [] [] x y z r = (r, tt)
zip_push R [] (b ∷ ys) x y z r = absurd z
zip_push R (a ∷ xs) [] x y z r = absurd z
zip_push R (a ∷ xs) (b ∷ ys) x y z r = (z.0, zip_push R xs ys x y z.1 r)

pub forms_grown : (ps old new : List Tree) (ns : List Node) → Grows old new → AreSimpleAt ps old ns → AreSimpleAt ps new ns
forms_grown [] old new [] g z = tt
forms_grown [] old new (n ∷ ns) g z = absurd z
forms_grown (p ∷ ps) old new [] g z = absurd z
forms_grown (p ∷ ps) old new (n ∷ ns) g z = (form_grown p old new n.0 z.0 g, forms_grown ps old new ns g z.1)

pub forms_more : (ps ts : List Tree) (ns : List Node) (i : ℕ) (n : Node) (d : Tree) → i < length ps → AreSimpleAt (take i ps) ts ns → IsSimpleAt (get_or ps i d) ts n.0 → AreSimpleAt (take (i + 1) ps) ts (ns ++ n ∷ [])
forms_more ps ts ns i n d low z f = subst (λ l. AreSimpleAt l ts (ns ++ n ∷ [])) (sym (take_more ps i d low)) (zip_push (λ p m. IsSimpleAt p ts m.0) (take i ps) ns (get_or ps i d) n z f)

pub forms_of : (ps ts : List Tree) (ns : List Node) → AreSimpleAt ps ts ns → AllZip IsSimpleForm ps (trees_at ts ns)
forms_of [] ts [] z = tt
forms_of [] ts (n ∷ ns) z = absurd z
forms_of (p ∷ ps) ts [] z = absurd z
forms_of (p ∷ ps) ts (n ∷ ns) z = (z.0.form, forms_of ps ts ns z.1)

within_by : (ps ts : List Tree) (ns : List Node) → AreSimpleAt ps ts ns → AllByRecursion (λ (n : Node). n.0 < length ts) ns
within_by [] ts [] z = tt
within_by [] ts (n ∷ ns) z = absurd z
within_by (p ∷ ps) ts [] z = absurd z
within_by (p ∷ ps) ts (n ∷ ns) z = (z.0.within, within_by ps ts ns z.1)

pub forms_within : (ps ts : List Tree) (ns : List Node) → AreSimpleAt ps ts ns → AreWithin (length ts) ns
forms_within ps ts ns z = All-from_recursion (λ (n : Node). n.0 < length ts) ns (within_by ps ts ns z)

-- ---- formulas of several places

pub all_conjuncts-push : (ps : List Tree) (p : Tree) → all_conjuncts (ps ++ p ∷ []) ≡ all_conjuncts ps ++ conjuncts p
unfolding all_conjuncts
all_conjuncts-push [] p = no_more (conjuncts p)
all_conjuncts-push (q ∷ ps) p = ap (λ l. conjuncts q ++ l) (all_conjuncts-push ps p) ∙ sym (append_assoc (conjuncts q) (all_conjuncts ps) (conjuncts p))

places_more : (ts : List Tree) (ns : List Node) (i : ℕ) (d : Node) → i < length ns → trees_at ts (take (i + 1) ns) ≡ trees_at ts (take i ns) ++ tree_at ts (get_or ns i d).0 ∷ []
places_more ts ns i d low = ap (trees_at ts) (take_more ns i d low) ∙ map-append (λ (n : Node). tree_at ts n.0) (take i ns) (get_or ns i d ∷ [])

pub kept_more : (known ts : List Tree) (ns : List Node) (i : ℕ) (d : Node) → i < length ns →
    kept_with (kept_with known (all_conjuncts (trees_at ts (take i ns)))) (conjuncts (tree_at ts (get_or ns i d).0)) ≡ kept_with known (all_conjuncts (trees_at ts (take (i + 1) ns)))
kept_more known ts ns i d low =
    sym (kept-append known (all_conjuncts (trees_at ts (take i ns))) (conjuncts (tree_at ts (get_or ns i d).0)))
    ∙ ap (kept_with known) (sym (all_conjuncts-push (trees_at ts (take i ns)) (tree_at ts (get_or ns i d).0)))
    ∙ ap (λ l. kept_with known (all_conjuncts l)) (sym (places_more ts ns i d low))

pub kept_first : (known ts : List Tree) (ns : List Node) → known ≡ kept_with known (all_conjuncts (trees_at ts (take 0 ns)))
unfolding all_conjuncts
kept_first known ts [] = sym (kept-none known)
kept_first known ts (n ∷ ns) = sym (kept-none known)

pub kept_new : (ts : List Tree) (k : Kept) → k.terms.items ≡ [] → k.marks.items ≡ replicate (length ts) false → k.contradiction ≡ false → IsKept ts k
unfolding stands_in
kept_new ts k t m c = record {
  size = ap length m ∙ length-replicate (length ts) false;
  each = λ n h. ap (λ l. slice_index_or l n false) m ∙ get_or-replicate (length ts) n false false h ∙ ap (λ l. stands_in (trees l) (tree_at ts n)) (sym t);
  contradiction = c ∙ ap (λ l. stands_in (trees l) (Truth false)) (sym t);
}

left_more : (xs : List (Bor Tree)) (x : Bor Tree) → trees (xs ++ x ∷ []) ≡ trees xs ++ x.now ∷ []
left_more xs x = map-append (λ (t : Bor Tree). t.now) xs (x ∷ [])

pub kept_added : (ts : List Tree) (old new : Kept) (n : ℕ) (x : Bor Tree) → IsDistinct ts → n < length ts → IsKept ts old →
    new.terms.items ≡ old.terms.items ++ x ∷ [] → x.now ≡ tree_at ts n → new.marks.items ≡ set old.marks.items n true →
    new.contradiction ≡ (old.contradiction || tree_eq (tree_at ts n) (Truth false)) → IsKept ts new
kept_added ts old new n x d low k t is m c =
    let more : left new ≡ left old ++ tree_at ts n ∷ [] = ap trees t ∙ left_more old.terms.items x ∙ ap (λ (w : Tree). left old ++ w ∷ []) is in
    record {
      size = ap length m ∙ length-set old.marks.items n true ∙ k.size;
      each = λ j h. ap (λ l. slice_index_or l j false) m ∙ marked_more ts (left old) old.marks.items n d low k.size k.each j h ∙ ap (λ l. stands_in l (tree_at ts j)) (sym more);
      contradiction = c ∙ ap (λ b. b || tree_eq (tree_at ts n) (Truth false)) k.contradiction ∙ sym (stands_in-push (left old) (tree_at ts n) (Truth false)) ∙ ap (λ l. stands_in l (Truth false)) (sym more);
    }

pub grown_twice : (a b c : List Tree) → Grows a b → Grows b c → Grows a c
grown_twice a b c g h = record { longer = omega (arith, g.longer, h.longer); same = λ k low. h.same k (omega (arith, low, g.longer)) ∙ g.same k low }

-- ---- the simplified condition

pub kept_goals : (known ps : List Tree) (b : Bool) → b ≡ stands_in known (Truth false) → (if b then known else kept_with known ps) ≡ known ++ goals_left known ps
unfolding kept_with
kept_goals known ps b h = ap (λ (t : Bool). if t then known else known ++ fresh known ps) h ∙ by (stands_in known (Truth false))
  where
    by : (t : Bool) → (if t then known else known ++ fresh known ps) ≡ known ++ (if t then [] else fresh known ps)
    by true = sym (no_more known)
    by false = refl

start : (ps : List Tree) → kept_with [] ps ≡ fresh [] ps
unfolding kept_with
start ps = refl

pub simplified_from : (c r : Condition) (hs gs first both : List Tree) (count : ℕ) → AllZip IsSimpleForm c.hypotheses hs → AllZip IsSimpleForm c.goals gs →
    first ≡ kept_with [] (all_conjuncts hs) → both ≡ first ++ goals_left first (all_conjuncts gs) → count ≡ length first →
    r.hypotheses ≡ take count both → r.goals ≡ drop count both → r.changes ≡ c.changes → IsSimplified c r
simplified_from c r hs gs first both count zh zg f b n rh rg rc =
    let hyps : r.hypotheses ≡ first = rh ∙ (λ i. take (n i) (b i)) ∙ take-all first (goals_left first (all_conjuncts gs)) in
    let goals : r.goals ≡ goals_left first (all_conjuncts gs) = rg ∙ (λ i. drop (n i) (b i)) ∙ drop-all first (goals_left first (all_conjuncts gs)) in
    record {
      hypotheses = (hs, zh, hyps ∙ f ∙ start (all_conjuncts hs));
      goals = (gs, zg, goals ∙ ap (λ l. goals_left l (all_conjuncts gs)) (sym hyps));
      changes = rc;
    }
  where
    take-all : (xs ys : List Tree) → take (length xs) (xs ++ ys) ≡ xs
    take-all [] [] = refl
    take-all [] (y ∷ ys) = refl
    take-all (x ∷ xs) ys = ap (λ l. x ∷ l) (take-all xs ys)

    drop-all : (xs ys : List Tree) → drop (length xs) (xs ++ ys) ≡ ys
    drop-all [] [] = refl
    drop-all [] (y ∷ ys) = refl
    drop-all (x ∷ xs) ys = drop-all xs ys

pub trees_length : (xs : List (Bor Tree)) → length (trees xs) ≡ length xs
trees_length [] = refl
trees_length (x ∷ xs) = ap suc (trees_length xs)
