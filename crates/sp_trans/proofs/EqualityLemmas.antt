-- Trees that the test calls one are equal, and equal trees are.
use Rattle.std.proofs.Common.{◌≡◌, Bool, true, false, refl, sym, ap, subst, ◌∙◌}
use Rattle.std.specs.Prelude.{◌↔◌, IsTrue}
use Rattle.std.proofs.lemmas.Bool.{and_parts, and_from, eq-eqb, eqb-true}
use base.Stored.{Gv, gnil, gnum, gcons}
use Rattle.sp_term.specs.Tree.{Tree}
use Rattle.sp_term.specs.code.TreeCode.{code, tree_code}
use Rattle.sp_trans.specs.TreeEquality.{same_code, same_tree}

codes_equal : (a b : Gv) → same_code a b ≡ true → a ≡ b
codes_equal gnil gnil h = refl
codes_equal (gnum m) (gnum n) h = ap gnum (eqb-true m n h)
codes_equal (gcons a b) (gcons c d) h =
    let both = and_parts (same_code a c) (same_code b d) h in
    ap (λ x. gcons x b) (codes_equal a c both.0) ∙ ap (gcons c) (codes_equal b d both.1)
codes_equal a b h = cc

same_self : (a : Gv) → same_code a a ≡ true
same_self gnil = refl
same_self (gnum n) = eq-eqb n n refl
same_self (gcons a b) = and_from (same_code a a) (same_code b b) (same_self a) (same_self b)

pub same : (x y : Tree) → same_tree x y ≡ true → x ≡ y
same x y h = tree_code.inj x y (codes_equal (code x) (code y) h)

pub is_same : (x y : Tree) → x ≡ y → same_tree x y ≡ true
is_same x y h = subst (λ t. same_tree x t ≡ true) h (same_self (code x))

-- a test that tells whether two trees are equal is the test
pub same_is : (b : Bool) (x y : Tree) → (IsTrue b ↔ (x ≡ y)) → b ≡ same_tree x y
same_is true x y h = sym (is_same x y (h.0 refl))
same_is false x y h = by (same_tree x y) refl
  where
    by : (t : Bool) → same_tree x y ≡ t → false ≡ t
    by true is = h.1 (same x y is)
    by false is = refl
