-- Counting nodes and depths of formulas.
use Rattle.std.proofs.Common.{◌≡◌, ◌<◌, ◌≤◌, ◌+◌, ℕ, List, [], ◌∷◌, ◌++◌, refl, ◌∙◌, sym, ap, ap₂, arith, length, drop, get_or}
use Rattle.std.specs.Prelude.{max, min}
use Rattle.std.specs.List.{fold}
use Rattle.sp_term.specs.Tree.{Tree, nodes, depth_of, Literal, Truth, Variable, Add, Subtract, Multiply, Divide, Remainder, ByteAnd, ByteOr, ByteXor, Parity, Bit, Psw, If, Element, Update, Total, Equal, Less, LessOrEqual, Not, And, Or, Implies, Iff, ForAll, ForSome}
use Rattle.std.specs.Borrow.{Bor}
use Rattle.std.proofs.lemmas.List.{at_drop_all, at_drop_more}
use Rattle.std.proofs.lemmas.List.Sums.{sum_by-append, sum_by-cons, sum-map}
use Rattle.sp_term.specs.Conditions.{trees}
use Rattle.sp_conditions.specs.code.Limits.{all_nodes}

-- a tree has as many nodes as its depth at least
pub depth_within : (t : Tree) → depth_of t ≤ nodes t
depth_within (Literal n) = omega arith
depth_within (Truth b) = omega arith
depth_within (Variable v) = omega arith
depth_within (Add x y) = omega (arith, depth_within x, depth_within y)
depth_within (Subtract x y) = omega (arith, depth_within x, depth_within y)
depth_within (Multiply x y) = omega (arith, depth_within x, depth_within y)
depth_within (Divide x y) = omega (arith, depth_within x, depth_within y)
depth_within (Remainder x y) = omega (arith, depth_within x, depth_within y)
depth_within (ByteAnd x y) = omega (arith, depth_within x, depth_within y)
depth_within (ByteOr x y) = omega (arith, depth_within x, depth_within y)
depth_within (ByteXor x y) = omega (arith, depth_within x, depth_within y)
depth_within (Parity x) = omega (arith, depth_within x)
depth_within (Bit k x) = omega (arith, depth_within x)
depth_within (Psw s z ac p cy) = omega (arith, depth_within s, depth_within z, depth_within ac, depth_within p, depth_within cy)
depth_within (If p x y) = omega (arith, depth_within p, depth_within x, depth_within y)
depth_within (Element m x) = omega (arith, depth_within m, depth_within x)
depth_within (Update m x y) = omega (arith, depth_within m, depth_within x, depth_within y)
depth_within (Total m x y) = omega (arith, depth_within m, depth_within x, depth_within y)
depth_within (Equal x y) = omega (arith, depth_within x, depth_within y)
depth_within (Less x y) = omega (arith, depth_within x, depth_within y)
depth_within (LessOrEqual x y) = omega (arith, depth_within x, depth_within y)
depth_within (Not p) = omega (arith, depth_within p)
depth_within (And p q) = omega (arith, depth_within p, depth_within q)
depth_within (Or p q) = omega (arith, depth_within p, depth_within q)
depth_within (Implies p q) = omega (arith, depth_within p, depth_within q)
depth_within (Iff p q) = omega (arith, depth_within p, depth_within q)
depth_within (ForAll k x y p) = omega (arith, depth_within x, depth_within y, depth_within p)
depth_within (ForSome k x y p) = omega (arith, depth_within x, depth_within y, depth_within p)

-- the greatest depth from a number on
abbrev pub deepest_from : ℕ → List Tree → ℕ
deepest_from n ts = fold (λ most t. max most (depth_of t)) n ts

nodes_more : (t : Tree) (ts : List Tree) → all_nodes (t ∷ ts) ≡ nodes t + all_nodes ts
nodes_more t ts = sum-map nodes (t ∷ ts) ∙ sum_by-cons nodes t ts ∙ ap (λ n. nodes t + n) (sym (sum-map nodes ts))

pub deepest_within : (n : ℕ) (ts : List Tree) → deepest_from n ts ≤ n + all_nodes ts
deepest_within n [] = omega arith
deepest_within n (t ∷ ts) =
    let counted = nodes_more t ts in
    let rest = deepest_within (max n (depth_of t)) ts in
    omega (arith, depth_within t, counted, rest)

pub deepest_joined : (n : ℕ) (ts us : List Tree) → deepest_from n (ts ++ us) ≡ deepest_from (deepest_from n ts) us
deepest_joined n [] us = refl
deepest_joined n (t ∷ ts) us = deepest_joined (max n (depth_of t)) ts us

pub nodes_joined : (ts us : List Tree) → all_nodes (ts ++ us) ≡ all_nodes ts + all_nodes us
nodes_joined ts us =
    sum-map nodes (ts ++ us) ∙ sum_by-append nodes ts us ∙ ap₂ (λ m n. m + n) (sym (sum-map nodes ts)) (sym (sum-map nodes us))

capped : (m a b c : ℕ) → min (a + (b + c)) m ≡ min (min (a + min b m) m + c) m
capped m a b c = omega arith

-- one formula more is counted, up to a most
pub counted_more :
    (most total i : ℕ) (ts : List (Bor Tree)) (d : Bor Tree) → i < length ts →
    min (total + all_nodes (trees (drop i ts))) most
    ≡ min (min (total + min (nodes (get_or ts i d).now) most) most + all_nodes (trees (drop (i + 1) ts))) most
counted_more most total i ts d l =
    at_drop_more (λ us. min (total + all_nodes (trees us)) most) ts i d l
    ∙ ap (λ n. min (total + n) most) (nodes_more (get_or ts i d).now (trees (drop (i + 1) ts)))
    ∙ capped most total (nodes (get_or ts i d).now) (all_nodes (trees (drop (i + 1) ts)))

-- numbers that are alike up to a most have the like greatest depths
pub alike : (most n m : ℕ) (ts : List Tree) → min n most ≡ min m most → min (deepest_from n ts) most ≡ min (deepest_from m ts) most
alike most n m [] h = h
alike most n m (t ∷ ts) h = alike most (max n (depth_of t)) (max m (depth_of t)) ts (omega (arith, h))

-- one formula more is looked at, up to a most
pub looked_more :
    (most n i : ℕ) (ts : List (Bor Tree)) (d : Bor Tree) → i < length ts →
    min (deepest_from n (trees (drop i ts))) most
    ≡ min (deepest_from (max n (min (depth_of (get_or ts i d).now) most)) (trees (drop (i + 1) ts))) most
looked_more most n i ts d l =
    at_drop_more (λ us. min (deepest_from n (trees us)) most) ts i d l
    ∙ alike most (max n (depth_of (get_or ts i d).now)) (max n (min (depth_of (get_or ts i d).now) most)) (trees (drop (i + 1) ts)) (omega arith)

-- at the end of the list the count is that of all
pub counted_done :
    (most total i : ℕ) (ts : List (Bor Tree)) → length ts ≤ i → total ≤ most → min (total + all_nodes (trees (drop i ts))) most ≡ total
counted_done most total i ts l h = at_drop_all (λ us. min (total + all_nodes (trees us)) most) ts i l ∙ omega (arith, h)

pub looked_done :
    (most n i : ℕ) (ts : List (Bor Tree)) → length ts ≤ i → n ≤ most → min (deepest_from n (trees (drop i ts))) most ≡ n
looked_done most n i ts l h = at_drop_all (λ us. min (deepest_from n (trees us)) most) ts i l ∙ omega (arith, h)

-- two lists counted one after the other
pub nodes_of_both :
    (most : ℕ) (hs gs : List Tree) (a b : ℕ) → a ≡ min (0 + all_nodes hs) most → b ≡ min (a + all_nodes gs) most →
    b ≡ min (all_nodes (hs ++ gs)) most
nodes_of_both most hs gs a b h k = let both = nodes_joined hs gs in omega (arith, both, h, k)

pub depth_of_both :
    (most : ℕ) (hs gs : List Tree) (a b : ℕ) → a ≡ min (deepest_from 0 hs) most → b ≡ min (deepest_from a gs) most →
    b ≡ min (deepest_from 0 (hs ++ gs)) most
depth_of_both most hs gs a b h k =
    k ∙ alike most a (deepest_from 0 hs) gs (omega (arith, h)) ∙ ap (λ n. min n most) (sym (deepest_joined 0 hs gs))
