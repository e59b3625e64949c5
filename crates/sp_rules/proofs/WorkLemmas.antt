-- The stack of subgoals: pushed, popped, and the hypotheses at work changed above what each shares.
use Rattle.std.proofs.Common.{◌≡◌, ℕ, zero, suc, ◌+◌, ◌<◌, ◌≤◌, refl, sym, ap, subst, ◌∙◌, arith, Bool, true, false, ◌&&◌, List, [], ◌∷◌, ◌++◌, length, take, map, Some, None}
use Rattle.std.proofs.lemmas.Bool.{eqb-true}
use Rattle.std.specs.Prelude.{IsTrue, ◌==◌, nat_le, if◌then◌else◌}
use Rattle.std.specs.List.{AllByRecursion}
use Rattle.std.proofs.lemmas.List.{take-append-le, length-take, length-append}
use Rattle.std.proofs.Math.Seq.{take-length}
use Rattle.std.proofs.lemmas.Bool.Decides.{nat_tests}
use Rattle.sp_term.specs.Tree.{Tree}
use Rattle.std.specs.Borrow.{Bor}
use Rattle.sp_term.specs.declared.cond.Cond.{Cond}
use Rattle.sp_term.specs.Conditions.{trees, change_of, condition_of}
use Rattle.sp_steps.specs.Subgoals.{Subgoal, subgoal, joined, first_subgoals, start, most_hypotheses}
use Rattle.sp_steps.specs.Next.{may_be_subgoals}
use Rattle.sp_rules.specs.declared.work.Waiting.{Waiting}
use Rattle.sp_rules.specs.declared.work.Work.{Work}
use Rattle.sp_rules.specs.code.Work.{subgoal_at, stacked, Rises, IsStacked, hypotheses_of, rest_of, changes_of, state_of, IsWork}
use Rattle.sp_rules.specs.code.Outcome.{may_be_longer, placed, in_state, placed_in, joined_goals, first_waiting}

-- ---- the stack as a list

pub stacked-push : (hs : List Tree) (ss : List Waiting) (s : Waiting) → stacked hs (ss ++ s ∷ []) ≡ subgoal_at hs s ∷ stacked hs ss
unfolding stacked
stacked-push hs [] s = refl
stacked-push hs (x ∷ ss) s = ap (λ l. l ++ subgoal_at hs x ∷ []) (stacked-push hs ss s)

length-snoc : (gs : List Subgoal) (g : Subgoal) → length (gs ++ g ∷ []) ≡ suc (length gs)
length-snoc [] g = refl
length-snoc (x ∷ gs) g = ap suc (length-snoc gs g)

pub stacked-length : (hs : List Tree) (ss : List Waiting) → length (stacked hs ss) ≡ length ss
unfolding stacked
stacked-length hs [] = refl
stacked-length hs (s ∷ ss) = length-snoc (stacked hs ss) (subgoal_at hs s) ∙ ap suc (stacked-length hs ss)

-- what each shares is the same
pub stacked-same : (old new : List Tree) (ss : List Waiting) → AllByRecursion (λ s. take s.kept new ≡ take s.kept old) ss → stacked new ss ≡ stacked old ss
unfolding stacked
stacked-same old new [] h = refl
stacked-same old new (s ∷ ss) h = λ i. stacked-same old new ss h.1 i ++ subgoal (h.0 i ++ trees s.added.now) s.goal.now ∷ []

-- ---- what rises

all_weaker : (P Q : Waiting → Type 0) → ((s : Waiting) → P s → Q s) → (ss : List Waiting) → AllByRecursion P ss → AllByRecursion Q ss
all_weaker P Q f [] h = tt
all_weaker P Q f (s ∷ ss) h = (f s h.0, all_weaker P Q f ss h.1)

all_front : (P : Waiting → Type 0) (ss : List Waiting) (s : Waiting) → AllByRecursion P (ss ++ s ∷ []) → AllByRecursion P ss
all_front P [] s h = tt
all_front P (x ∷ ss) s h = (h.0, all_front P ss s h.1)

all_last : (P : Waiting → Type 0) (ss : List Waiting) (s : Waiting) → AllByRecursion P (ss ++ s ∷ []) → P s
all_last P [] s h = h.0
all_last P (x ∷ ss) s h = all_last P ss s h.1

all_snoc : (P : Waiting → Type 0) (ss : List Waiting) (s : Waiting) → AllByRecursion P ss → P s → AllByRecursion P (ss ++ s ∷ [])
all_snoc P [] s h p = (p, tt)
all_snoc P (x ∷ ss) s h p = (h.0, all_snoc P ss s h.1 p)

rises_front : (ss : List Waiting) (s : Waiting) → Rises (ss ++ s ∷ []) → Rises ss
unfolding Rises
rises_front [] s h = tt
rises_front (x ∷ ss) s h = (all_front (λ above. x.kept ≤ above.kept) ss s h.0, rises_front ss s h.1)

rises_below : (ss : List Waiting) (s : Waiting) → Rises (ss ++ s ∷ []) → AllByRecursion (λ x. x.kept ≤ s.kept) ss
unfolding Rises
rises_below [] s h = tt
rises_below (x ∷ ss) s h = (all_last (λ above. x.kept ≤ above.kept) ss s h.0, rises_below ss s h.1)

rises_snoc : (ss : List Waiting) (s : Waiting) → AllByRecursion (λ x. x.kept ≤ s.kept) ss → Rises ss → Rises (ss ++ s ∷ [])
unfolding Rises
rises_snoc [] s h r = (tt, tt)
rises_snoc (x ∷ ss) s h r = (all_snoc (λ above. x.kept ≤ above.kept) ss s r.0 h.0, rises_snoc ss s h.1 r.1)

-- one more subgoal that shares all
pub stacked_more : (count : ℕ) (ss : List Waiting) (s : Waiting) → s.kept ≡ count → IsStacked count ss → IsStacked count (ss ++ s ∷ [])
stacked_more count ss s e h =
    record {
      within = all_snoc (λ x. x.kept ≤ count) ss s h.within (omega (arith, e));
      rises = rises_snoc ss s (subst (λ n. AllByRecursion (λ x. x.kept ≤ n) ss) (sym e) h.within) h.rises;
    }

-- the first one taken out, and its hypotheses at work
pub stacked_fewer : (count new : ℕ) (ss : List Waiting) (s : Waiting) → IsStacked count (ss ++ s ∷ []) → s.kept ≤ new → IsStacked new ss
stacked_fewer count new ss s h l =
    record {
      within = all_weaker (λ x. x.kept ≤ s.kept) (λ x. x.kept ≤ new) (λ x k. omega (arith, k, l)) ss (rises_below ss s h.rises);
      rises = rises_front ss s h.rises;
    }

take_less : (m k : ℕ) (hs : List Tree) → m ≤ k → take m (take k hs) ≡ take m hs
take_less zero k hs l = refl
take_less (suc m) zero hs l = absurd (omega (arith, l))
take_less (suc m) (suc k) [] l = refl
take_less (suc m) (suc k) (h ∷ hs) l = ap (λ t. h ∷ t) (take_less m k hs (omega (arith, l)))

take_loaded : (m k : ℕ) (hs added : List Tree) → m ≤ k → k ≤ length hs → take m (take k hs ++ added) ≡ take m hs
take_loaded m k hs added l n = take-append-le m (take k hs) added (omega (arith, l, n, length-take k hs)) ∙ take_less m k hs l

pub stacked_loaded : (count : ℕ) (hs added : List Tree) (ss : List Waiting) (s : Waiting) → IsStacked (length hs) (ss ++ s ∷ []) → stacked (take s.kept hs ++ added) ss ≡ stacked hs ss
stacked_loaded count hs added ss s h =
    let n : s.kept ≤ length hs = all_last (λ x. x.kept ≤ length hs) ss s h.within in
    stacked-same hs (take s.kept hs ++ added) ss
    (all_weaker (λ x. x.kept ≤ s.kept) (λ x. take x.kept (take s.kept hs ++ added) ≡ take x.kept hs) (λ x l. take_loaded x.kept s.kept hs added l n) ss (rises_below ss s h.rises))

pub kept_within : (hs : List Tree) (ss : List Waiting) (s : Waiting) → IsStacked (length hs) (ss ++ s ∷ []) → s.kept ≤ length hs
kept_within hs ss s h = all_last (λ x. x.kept ≤ length hs) ss s h.within

-- ---- what new subgoals do

fits_less : (n m : ℕ) → m ≤ n → may_be_subgoals n m ≡ true
fits_less n m l = grind (arith, nat_tests)

fits_two : (n : ℕ) → n + 2 ≤ 4096 → may_be_subgoals (1 + n) (2 + n) ≡ true
fits_two n l = grind (arith, nat_tests)

not_two : (n : ℕ) → 4096 < n + 2 → may_be_subgoals (1 + n) (2 + n) ≡ false
not_two n l = grind (arith, nat_tests)

pub placed_none : (hs : List Tree) (rest : List Subgoal) → placed hs rest [] ≡ Some rest
placed_none hs rest = ap (λ b. if b then Some rest else None) (fits_less (1 + length rest) (0 + length rest) (omega arith))

pub placed_one : (hs : List Tree) (rest : List Subgoal) (added : List Tree) (goal : Tree) → may_be_longer (length hs) added ≡ true → placed hs rest (subgoal added goal ∷ []) ≡ Some (subgoal (hs ++ added) goal ∷ rest)
placed_one hs rest added goal h = (λ i. if (h i && true) && fits_less (1 + length rest) (1 + length rest) (omega arith) i then Some (subgoal (hs ++ added) goal ∷ rest) else None)

pub placed_one_not : (hs : List Tree) (rest : List Subgoal) (added : List Tree) (goal : Tree) → may_be_longer (length hs) added ≡ false → placed hs rest (subgoal added goal ∷ []) ≡ None
placed_one_not hs rest added goal h = ap (λ b. if (b && true) && may_be_subgoals (1 + length rest) (1 + length rest) then Some (subgoal (hs ++ added) goal ∷ rest) else None) h

pub placed_two : (hs : List Tree) (rest : List Subgoal) (a b : List Tree) (g h : Tree) → may_be_longer (length hs) a ≡ true → may_be_longer (length hs) b ≡ true → length rest + 2 ≤ 4096 → placed hs rest (subgoal a g ∷ subgoal b h ∷ []) ≡ Some (subgoal (hs ++ a) g ∷ subgoal (hs ++ b) h ∷ rest)
placed_two hs rest a b g h p q l = λ i. if (p i && (q i && true)) && fits_two (length rest) l i then Some (subgoal (hs ++ a) g ∷ subgoal (hs ++ b) h ∷ rest) else None

and_false : (p : Bool) → (p && false) ≡ false
and_false true = refl
and_false false = refl

pub placed_two_many : (hs : List Tree) (rest : List Subgoal) (a b : List Tree) (g h : Tree) → 4096 < length rest + 2 → placed hs rest (subgoal a g ∷ subgoal b h ∷ []) ≡ None
placed_two_many hs rest a b g h l =
    let some = Some (subgoal (hs ++ a) g ∷ subgoal (hs ++ b) h ∷ rest) in
    let p = may_be_longer (length hs) a && (may_be_longer (length hs) b && true) in
    ap (λ c. if p && c then some else None) (not_two (length rest) l) ∙ ap (λ c. if c then some else None) (and_false p)

pub placed_two_long : (hs : List Tree) (rest : List Subgoal) (a b : List Tree) (g h : Tree) → may_be_longer (length hs) a ≡ false → placed hs rest (subgoal a g ∷ subgoal b h ∷ []) ≡ None
placed_two_long hs rest a b g h p = ap (λ c. if (c && (may_be_longer (length hs) b && true)) && may_be_subgoals (1 + length rest) (2 + length rest) then Some (subgoal (hs ++ a) g ∷ subgoal (hs ++ b) h ∷ rest) else None) p

pub placed_two_longer : (hs : List Tree) (rest : List Subgoal) (a b : List Tree) (g h : Tree) → may_be_longer (length hs) b ≡ false → placed hs rest (subgoal a g ∷ subgoal b h ∷ []) ≡ None
placed_two_longer hs rest a b g h q =
    let some = Some (subgoal (hs ++ a) g ∷ subgoal (hs ++ b) h ∷ rest) in
    let c = may_be_subgoals (1 + length rest) (2 + length rest) in
    ap (λ d. if (may_be_longer (length hs) a && (d && true)) && c then some else None) q
    ∙ ap (λ d. if d && c then some else None) (and_false (may_be_longer (length hs) a))

-- ---- the functions on the stack

trees_append : (xs ys : List (Bor Tree)) → trees (xs ++ ys) ≡ trees xs ++ trees ys
trees_append [] ys = refl
trees_append (x ∷ xs) ys = ap (λ l. x.now ∷ l) (trees_append xs ys)

trees_take : (k : ℕ) (xs : List (Bor Tree)) → trees (take k xs) ≡ take k (trees xs)
trees_take zero xs = refl
trees_take (suc k) [] = refl
trees_take (suc k) (x ∷ xs) = ap (λ l. x.now ∷ l) (trees_take k xs)

pub trees_length : (xs : List (Bor Tree)) → length (trees xs) ≡ length xs
trees_length [] = refl
trees_length (x ∷ xs) = ap suc (trees_length xs)

pub trees_loaded : (k : ℕ) (xs ys mid new : List (Bor Tree)) → mid ≡ take k xs → new ≡ mid ++ ys → trees new ≡ take k (trees xs) ++ trees ys
trees_loaded k xs ys mid new e f = ap trees (f ∙ ap (λ l. l ++ ys) e) ∙ trees_append (take k xs) ys ∙ ap (λ l. l ++ trees ys) (trees_take k xs)

kept_loaded : (k : ℕ) (hs added : List Tree) → k ≤ length hs → k ≤ length (take k hs ++ added)
kept_loaded k hs added l = omega (arith, l, length-append (take k hs) added, length-take k hs)

pub first_works : (hs new : List Tree) (old ss : List Waiting) (s : Waiting) → IsStacked (length hs) old → old ≡ ss ++ s ∷ [] → new ≡ take s.kept hs ++ trees s.added.now → IsStacked (length new) ss
first_works hs new old ss s h e f =
    let k : IsStacked (length hs) (ss ++ s ∷ []) = subst (IsStacked (length hs)) e h in
    stacked_fewer (length hs) (length new) ss s k (subst (λ l. s.kept ≤ length l) (sym f) (kept_loaded s.kept hs (trees s.added.now) (kept_within hs ss s k)))

pub first_stacks : (hs new : List Tree) (old ss : List Waiting) (s : Waiting) → IsStacked (length hs) old → old ≡ ss ++ s ∷ [] → new ≡ take s.kept hs ++ trees s.added.now → stacked hs old ≡ subgoal new s.goal.now ∷ stacked new ss
first_stacks hs new old ss s h e f =
    let k : IsStacked (length hs) (ss ++ s ∷ []) = subst (IsStacked (length hs)) e h in
    ap (stacked hs) e ∙ stacked-push hs ss s ∙ (λ i. subgoal (sym f i) s.goal.now ∷ sym (stacked_loaded (length hs) hs (trees s.added.now) ss s k) i)
    ∙ ap (λ l. subgoal new s.goal.now ∷ stacked l ss) (sym f)

pub none_stacked : (hs : List Tree) (ss : List Waiting) → ss ≡ [] → stacked hs ss ≡ []
unfolding stacked
none_stacked hs ss e = ap (stacked hs) e

pub some_stacked : (hs : List Tree) (ss : List Waiting) → stacked hs ss ≡ [] → ss ≡ []
some_stacked hs [] e = refl
some_stacked hs (s ∷ ss) e = let z : length (s ∷ ss) ≡ 0 = sym (stacked-length hs (s ∷ ss)) ∙ ap length e in let w : suc (length ss) ≡ 0 = z in absurd (omega (arith, w))

pub push_works : (hs new : List (Bor Tree)) (old ss : List Waiting) (s : Waiting) → IsStacked (length (trees hs)) old → ss ≡ old ++ s ∷ [] → new ≡ hs → s.kept ≡ length hs → IsStacked (length (trees new)) ss
push_works hs new old ss s h e f k =
    subst (λ l. IsStacked (length (trees l)) ss) (sym f) (subst (IsStacked (length (trees hs))) (sym e) (stacked_more (length (trees hs)) old s (k ∙ sym (trees_length hs)) h))

take_all : (hs : List Tree) (k : ℕ) → k ≡ length hs → take k hs ≡ hs
take_all hs k e = ap (λ n. take n hs) e ∙ take-length hs

pub push_stacks : (hs new : List (Bor Tree)) (old ss : List Waiting) (s : Waiting) → ss ≡ old ++ s ∷ [] → new ≡ hs → s.kept ≡ length hs → stacked (trees new) ss ≡ subgoal (trees hs ++ trees s.added.now) s.goal.now ∷ stacked (trees hs) old
push_stacks hs new old ss s e f k =
    (λ i. stacked (trees (f i)) (e i)) ∙ stacked-push (trees hs) old s
    ∙ ap (λ l. subgoal (l ++ trees s.added.now) s.goal.now ∷ stacked (trees hs) old) (take_all (trees hs) s.kept (k ∙ sym (trees_length hs)))

pub longer_nothing : (n : ℕ) (ts : List (Bor Tree)) → length ts ≡ 0 → may_be_longer n (trees ts) ≡ true
longer_nothing n [] e = refl
longer_nothing n (t ∷ ts) e = let z : suc (length ts) ≡ 0 = e in absurd (omega (arith, z))

at_most : (m : ℕ) → m ≤ 4096 → nat_le m most_hypotheses ≡ true
at_most m l = grind (arith, nat_tests)

pub longer_few : (n : ℕ) (ts : List (Bor Tree)) → n + length ts ≤ 4096 → may_be_longer n (trees ts) ≡ true
longer_few n [] l = refl
longer_few n (t ∷ ts) l = let e : length (trees (t ∷ ts)) ≡ length (t ∷ ts) = trees_length (t ∷ ts) in at_most (n + length (trees (t ∷ ts))) (subst (λ m. n + m ≤ 4096) (sym e) l)

pub two_many : (w : Work) (a b : List Tree) (g h : Tree) → 4096 < length w.waiting.items + 2 → placed_in w (subgoal a g ∷ subgoal b h ∷ []) ≡ None
two_many w a b g h l = ap (in_state (changes_of w)) (placed_two_many (hypotheses_of w) (rest_of w) a b g h (subst (λ n. 4096 < n + 2) (sym (stacked-length (hypotheses_of w) w.waiting.items)) l))

pub two_work : (w v u : Work) (a b : List Tree) (g h : Tree) → may_be_longer (length (hypotheses_of w)) b ≡ true → rest_of v ≡ subgoal (hypotheses_of w ++ b) h ∷ rest_of w → may_be_longer (length (hypotheses_of v)) a ≡ true → rest_of u ≡ subgoal (hypotheses_of v ++ a) g ∷ rest_of v → v.hypotheses ≡ w.hypotheses → v.frames ≡ w.frames → u.frames ≡ v.frames → length w.waiting.items + 2 ≤ 4096 → placed_in w (subgoal a g ∷ subgoal b h ∷ []) ≡ Some (state_of u)
two_work w v u a b g h lb rv la ru hv fv fu l =
    let same : hypotheses_of v ≡ hypotheses_of w = ap (λ k. trees k.items) hv in
    let la2 : may_be_longer (length (hypotheses_of w)) a ≡ true = subst (λ k. may_be_longer (length k) a ≡ true) same la in
    let few : length (rest_of w) + 2 ≤ 4096 = subst (λ n. n + 2 ≤ 4096) (sym (stacked-length (hypotheses_of w) w.waiting.items)) l in
    let new : subgoal (hypotheses_of w ++ a) g ∷ subgoal (hypotheses_of w ++ b) h ∷ rest_of w ≡ rest_of u = sym (ru ∙ (λ i. subgoal (same i ++ a) g ∷ rv i)) in
    let changes : changes_of w ≡ changes_of u = sym (ap (λ f. map change_of f.now) (fu ∙ fv)) in
    ap (in_state (changes_of w)) (placed_two (hypotheses_of w) (rest_of w) a b g h la2 lb few) ∙ (λ i. Some (record { subgoals = new i; changes = changes i }))

pub longer_within : (hs ts : List (Bor Tree)) (k : ℕ) → k ≡ length hs → k + length ts ≤ 4096 → may_be_longer (length (trees hs)) (trees ts) ≡ true
longer_within hs ts k e l = longer_few (length (trees hs)) ts (subst (λ n. n + length ts ≤ 4096) (e ∙ sym (trees_length hs)) l)

no_length : (ss : List Waiting) → length ss ≡ 0 → ss ≡ []
no_length [] e = refl
no_length (s ∷ ss) e = let z : suc (length ss) ≡ 0 = e in absurd (omega (arith, z))

pub empty_is : (hs : List Tree) (ss : List Waiting) (n : ℕ) (b : Bool) → n ≡ length ss → b ≡ (n == 0) → (IsTrue b → stacked hs ss ≡ []) × (stacked hs ss ≡ [] → IsTrue b)
empty_is hs ss n b e f = (
  λ t. none_stacked hs ss (no_length ss (sym e ∙ eqb-true n 0 (sym f ∙ t))),
  λ h. f ∙ ap (λ m. m == 0) (e ∙ ap length (some_stacked hs ss h)),
)

-- ---- the first state

pub started_works : (w : Work) (s : Waiting) → w.waiting.items ≡ s ∷ [] → s.kept ≡ 0 → IsWork w
unfolding Rises
started_works w s e k = subst (IsStacked (length (hypotheses_of w))) (sym e) (record { within = (omega (arith, k), tt); rises = (tt, tt) })

pub empty_works : (w : Work) → w.waiting.items ≡ [] → IsWork w
unfolding Rises
empty_works w e = subst (IsStacked (length (hypotheses_of w))) (sym e) (record { within = tt; rises = tt })

first_is : (hs goals : List Tree) (g : Tree) → Some g ≡ joined_goals goals → subgoal hs g ∷ [] ≡ first_subgoals hs goals
first_is hs [] g e = absurd (cc)
first_is hs (p ∷ ps) g e = let same : g ≡ joined p ps = cc in ap (λ t. subgoal hs t ∷ []) same

none_first : (hs goals : List Tree) → None ≡ joined_goals goals → [] ≡ first_subgoals hs goals
none_first hs [] e = refl
none_first hs (p ∷ ps) e = absurd (cc)

pub started_state : (w : Work) (c : Cond) (g : Bor Tree) → w.waiting.items ≡ first_waiting c g ∷ [] → w.hypotheses.items ≡ [] → w.frames ≡ c.frames → Some g.now ≡ joined_goals (trees c.goals.now) → state_of w ≡ start (condition_of c)
unfolding stacked
started_state w c g e h f j =
    let subgoals : rest_of w ≡ first_subgoals (trees c.hyps.now) (trees c.goals.now) = (λ i. stacked (trees (h i)) (e i)) ∙ first_is (trees c.hyps.now) (trees c.goals.now) g.now j in
    λ i. record { subgoals = subgoals i; changes = map change_of (f i).now }

pub empty_state : (w : Work) (c : Cond) → w.waiting.items ≡ [] → w.frames ≡ c.frames → None ≡ joined_goals (trees c.goals.now) → state_of w ≡ start (condition_of c)
unfolding stacked
empty_state w c e f j =
    let subgoals : rest_of w ≡ first_subgoals (trees c.hyps.now) (trees c.goals.now) = ap (stacked (hypotheses_of w)) e ∙ none_first (trees c.hyps.now) (trees c.goals.now) j in
    λ i. record { subgoals = subgoals i; changes = map change_of (f i).now }

pub started_at : (w : Work) (c : Cond) (g : Bor Tree) → w.waiting.items ≡ first_waiting c g ∷ [] → IsWork w
started_at w c g e = started_works w (first_waiting c g) e refl

pub ruleset started = (started_at, started_state, empty_works, empty_state)
