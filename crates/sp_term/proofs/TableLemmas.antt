-- What the entries of a pool's table say of its trees.
use Rattle.std.proofs.Common.{ℕ, ◌<◌, ◌≡◌, List, length, Some, option_map, sym, ◌∙◌, ap, subst, slice_get, nat_eq, true}
use Rattle.std.specs.Prelude.{◌↔◌}
use Rattle.std.proofs.lemmas.Bool.{eqb-true, eq-eqb}
use Rattle.std.proofs.lemmas.Option.{slice_get-map, get_or_from_slice_get}
use Rattle.sp_term.specs.Tree.{Tree}
use Rattle.sp_term.specs.declared.shape.Shape.{Shape}
use Rattle.sp_term.specs.declared.pool.Entry.{Entry}
use Rattle.sp_term.specs.Intervals.{interval}
use Rattle.sp_term.specs.Pools.{tree_at, shape_tree, IsBelow, IsDistinct}
use Rattle.sp_term.specs.code.Table.{trees_in, IsTable}

pub entry_tree : (es : List (Shape × Entry)) (k : ℕ) (s : Shape) (e : Entry) → slice_get es k ≡ Some (s, e) → tree_at (trees_in es) k ≡ e.term.now
entry_tree es k s e h = get_or_from_slice_get (trees_in es) k e.term.now _ (slice_get-map (λ p. p.1.term.now) es k ∙ ap (option_map (λ p. p.1.term.now)) h)

pub entry_span : (es : List (Shape × Entry)) (ts : List Tree) → trees_in es ≡ ts → IsTable es → (k : ℕ) (s : Shape) (e : Entry) → slice_get es k ≡ Some (s, e) → e.span ≡ interval (tree_at ts k)
entry_span es ts v t k s e h = (t.made k s e h).span ∙ ap interval (sym (entry_tree es k s e h) ∙ ap (λ w. tree_at w k) v)

pub entry_shape : (es : List (Shape × Entry)) (ts : List Tree) → trees_in es ≡ ts → IsTable es → (k : ℕ) (s : Shape) (e : Entry) → slice_get es k ≡ Some (s, e) → shape_tree ts s ≡ tree_at ts k
entry_shape es ts v t k s e h = subst (λ w. shape_tree w s ≡ tree_at w k) v (sym (t.made k s e h).tree ∙ sym (entry_tree es k s e h))

pub entry_below : (es : List (Shape × Entry)) → IsTable es → (k : ℕ) (s : Shape) (e : Entry) → slice_get es k ≡ Some (s, e) → IsBelow k s
entry_below es t k s e h = (t.made k s e h).below

-- no two places have one tree
pub one_place : (es : List (Shape × Entry)) (ts : List Tree) → trees_in es ≡ ts → IsTable es → (j k : ℕ) → j < length ts → k < length ts → (nat_eq j k ≡ true) ↔ (tree_at ts j ≡ tree_at ts k)
one_place es ts v t j k p q = ((λ h. ap (tree_at ts) (eqb-true j k h)), (λ h. eq-eqb j k (subst IsDistinct v t.distinct j k p q h)))

pub distinct_trees : (es : List (Shape × Entry)) (ts : List Tree) → trees_in es ≡ ts → IsTable es → IsDistinct ts
distinct_trees es ts v t = subst IsDistinct v t.distinct
