-- What a tree is, of which the root is known.
use Rattle.std.proofs.Common.{◌≤◌, arith, ◌≡◌, refl, sym, ◌∙◌, ap, subst, Option, Some, None, option_map, ℤ, Bool, true, false}
use Rattle.std.specs.Prelude.{◌↔◌}
use Rattle.std.specs.Ordering.{int_eq}
use Rattle.std.proofs.lemmas.Bool.Decides.{Decides-int_eq, same_from_decides}
use Rattle.sp_term.specs.Tree.{Tree, nodes, Literal, Truth, Add, Multiply, Divide, Remainder}
use Rattle.sp_term.specs.Intervals.{literal}
use Rattle.sp_simp.specs.Rules.{Right, when, first, truth, offset, multiple, divided, reduced, multiple_sum, reduced_sum, based, base}
use Rattle.sp_simp.specs.Same.{tree_eq, tree_one, tree_same}

pub when_is : (P : Right → Type 0) (b : Bool) (r p : Right) → when b r ≡ Some p → (b ≡ true → P r) → P p
when_is P true r p e f = let k : r ≡ p = cc in subst P k (f refl)
when_is P false r p e f = absurd (cc)

pub first_is : (P : Right → Type 0) (a b : Option Right) (p : Right) → first a b ≡ Some p → (a ≡ Some p → P p) → (a ≡ None → b ≡ Some p → P p) → P p
first_is P (Some r) b p e f g = f e
first_is P None b p e f g = g refl e

pub literal_of : (t : Tree) (n : ℤ) → literal t ≡ Some n → t ≡ Literal n
literal_of (Literal m) n h = cc
literal_of _ n h = cc

pub truth_of : (t : Tree) (b : Bool) → truth t ≡ Some b → t ≡ Truth b
truth_of (Truth c) b h = cc
truth_of _ b h = cc

mapped : {A : Type 0} {B : Type 0} (f : A → B) (o : Option A) (q : B) → option_map f o ≡ Some q → (a : A) × (o ≡ Some a) × (f a ≡ q)
mapped f (Some a) q h = (a, refl, cc)
mapped f None q h = absurd (cc)

pub offset_of : (t : Tree) (p : Tree × ℤ) → offset t ≡ Some p → t ≡ Add p.0 (Literal p.1)
offset_of (Add x y) p h =
    let m = mapped (λ c. (x, c)) (literal y) p h in
    ap (Add x) (literal_of y m.0 m.1) ∙ ap (λ (r : Tree × ℤ). Add r.0 (Literal r.1)) m.2
offset_of _ p h = absurd (cc)

pub multiple_of : (t : Tree) (p : ℤ × Tree) → multiple t ≡ Some p → t ≡ Multiply (Literal p.0) p.1
multiple_of (Multiply x y) p h =
    let m = mapped (λ c. (c, y)) (literal x) p h in
    ap (λ w. Multiply w y) (literal_of x m.0 m.1) ∙ ap (λ (r : ℤ × Tree). Multiply (Literal r.0) r.1) m.2
multiple_of _ p h = absurd (cc)

pub divided_of : (t : Tree) (p : Tree × ℤ) → divided t ≡ Some p → t ≡ Divide p.0 (Literal p.1)
divided_of (Divide x y) p h =
    let m = mapped (λ c. (x, c)) (literal y) p h in
    ap (Divide x) (literal_of y m.0 m.1) ∙ ap (λ (r : Tree × ℤ). Divide r.0 (Literal r.1)) m.2
divided_of _ p h = absurd (cc)

pub reduced_of : (t : Tree) (p : Tree × ℤ) → reduced t ≡ Some p → t ≡ Remainder p.0 (Literal p.1)
reduced_of (Remainder x y) p h =
    let m = mapped (λ c. (x, c)) (literal y) p h in
    ap (Remainder x) (literal_of y m.0 m.1) ∙ ap (λ (r : Tree × ℤ). Remainder r.0 (Literal r.1)) m.2
reduced_of _ p h = absurd (cc)

pub multiple_sum_of : (t : Tree) (p : (ℤ × Tree) × Tree) → multiple_sum t ≡ Some p → t ≡ Add (Multiply (Literal p.0.0) p.0.1) p.1
multiple_sum_of (Add x y) p h =
    let m = mapped (λ c. (c, y)) (multiple x) p h in
    ap (λ w. Add w y) (multiple_of x m.0 m.1) ∙ ap (λ (r : (ℤ × Tree) × Tree). Add (Multiply (Literal r.0.0) r.0.1) r.1) m.2
multiple_sum_of _ p h = absurd (cc)

pub reduced_sum_of : (t : Tree) (p : (Tree × ℤ) × Tree) → reduced_sum t ≡ Some p → t ≡ Add (Remainder p.0.0 (Literal p.0.1)) p.1
reduced_sum_of (Add x y) p h =
    let m = mapped (λ c. (c, y)) (reduced x) p h in
    ap (λ w. Add w y) (reduced_of x m.0 m.1) ∙ ap (λ (r : (Tree × ℤ) × Tree). Add (Remainder r.0.0 (Literal r.0.1)) r.1) m.2
reduced_sum_of _ p h = absurd (cc)

pub int_one : (a b : ℤ) → int_eq a b ≡ true → a ≡ b
int_one a b h = (Decides-int_eq a b).0 h

pub int_self : (a : ℤ) → int_eq a a ≡ true
int_self a = (Decides-int_eq a a).1 refl

literals : (n c : ℤ) → tree_eq (Literal n) (Literal c) ≡ int_eq n c
literals n c = same_from_decides {P = Literal n ≡ Literal c} (tree_eq (Literal n) (Literal c)) (int_eq n c)
    (tree_one (Literal n) (Literal c), tree_same (Literal n) (Literal c))
    ((λ e. ap Literal (int_one n c e)), (λ e. (Decides-int_eq n c).1 (cc)))

-- a literal and another, or none
pub literal_is : (t : Tree) (n c : ℤ) → literal t ≡ Some n → tree_eq t (Literal c) ≡ int_eq n c
literal_is t n c h = ap (λ u. tree_eq u (Literal c)) (literal_of t n h) ∙ literals n c

pub literal_not : (t : Tree) (c : ℤ) → literal t ≡ None → tree_eq t (Literal c) ≡ false
literal_not t c h = by (tree_eq t (Literal c)) refl
  where
    by : (b : Bool) → tree_eq t (Literal c) ≡ b → b ≡ false
    by false e = refl
    by true e = let k : Some c ≡ None = sym (ap literal (tree_one t (Literal c) e)) ∙ h in cc

pub tree_flip : (x y : Tree) → tree_eq x y ≡ tree_eq y x
tree_flip x y = same_from_decides {P = x ≡ y} (tree_eq x y) (tree_eq y x) (tree_one x y, tree_same x y) ((λ e. sym (tree_one y x e)), (λ e. tree_same y x (sym e)))

-- the base of a sum of a term and a literal is the term
pub base_of_sum : (t : Tree) (p : Tree × ℤ) → offset t ≡ Some p → base t ≡ p
base_of_sum t p h = ap (λ o. based t o (literal t)) h

-- ---- the number of nodes of a base

based_nodes : (t : Tree) (o : Option (Tree × ℤ)) (c : Option ℤ) → offset t ≡ o → literal t ≡ c → nodes (based t o c).0 ≤ nodes t
based_nodes t (Some p) c h g = let e = ap nodes (offset_of t p h) in omega arith
based_nodes t None (Some c) h g = let e = ap nodes (literal_of t c g) in omega arith
based_nodes t None None h g = omega arith

pub base_nodes : (t : Tree) → nodes (base t).0 ≤ nodes t
base_nodes t = based_nodes t (offset t) (literal t) refl refl

pub same_tree : (t : Tree) → tree_eq t t ≡ true
same_tree t = tree_same t t refl

pub ruleset equal = (literal_is, literal_not, tree_flip, same_tree)

-- a test that passes exactly where two trees are one
pub same_test : (b : Bool) (x y : Tree) → (b ≡ true) ↔ (x ≡ y) → b ≡ tree_eq x y
same_test b x y h = same_from_decides {P = x ≡ y} b (tree_eq x y) (h.0, h.1) (tree_one x y, tree_same x y)
