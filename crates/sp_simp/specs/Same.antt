-- Whether two trees are one.
use Rattle.std.specs.Prelude.{◌==◌, ◌≡◌, Bool, true, false, ◌&&◌, refl}
use Rattle.std.proofs.Common.{ap, sym, ◌∙◌}
use Rattle.std.proofs.lemmas.Bool.{eqb-true, eq-eqb, and_parts, and_from}
use base.Stored.{Gv, gnil, gnum, gcons}
use Rattle.sp_term.specs.Tree.{Tree}
use Rattle.sp_term.specs.code.TreeCode.{code, tree_code}

abbrev same_code : Gv → Gv → Bool
same_code gnil gnil = true
same_code (gnum m) (gnum n) = m == n
same_code (gcons a b) (gcons c d) = same_code a c && same_code b d
same_code _ _ = false

code_one : (a b : Gv) → same_code a b ≡ true → a ≡ b
code_one gnil gnil h = refl
code_one (gnum m) (gnum n) h = ap gnum (eqb-true m n h)
code_one (gcons a b) (gcons c d) h = λ i. gcons (code_one a c (and_parts (same_code a c) (same_code b d) h).0 i) (code_one b d (and_parts (same_code a c) (same_code b d) h).1 i)
code_one _ _ h = absurd (cc)

code_self : (a : Gv) → same_code a a ≡ true
code_self gnil = refl
code_self (gnum n) = eq-eqb n n refl
code_self (gcons a b) = and_from (same_code a a) (same_code b b) (code_self a) (code_self b)

-- by their codes, which are one to one
unfoldable pub tree_eq : Tree → Tree → Bool
tree_eq x y = same_code (code x) (code y)

pub tree_one : (x y : Tree) → tree_eq x y ≡ true → x ≡ y
unfolding tree_eq
tree_one x y h = tree_code.inj x y (code_one (code x) (code y) h)

pub tree_self : (x : Tree) → tree_eq x x ≡ true
unfolding tree_eq
tree_self x = code_self (code x)

pub tree_same : (x y : Tree) → x ≡ y → tree_eq x y ≡ true
tree_same x y h = ap (tree_eq x) (sym h) ∙ tree_self x
