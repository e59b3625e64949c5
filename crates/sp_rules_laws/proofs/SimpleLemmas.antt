-- Simple forms stay closed formulas.
use Rattle.std.proofs.Common.{◌≡◌, ◌∙◌, sym, refl, Bool, true, false, true≢false}
use Rattle.sp_term.specs.declared.var.Var.TheVariants as var
use Rattle.sp_term.specs.Tree.{Tree}
use Rattle.sp_term.specs.Free.{is_free}
use Rattle.sp_term.specs.Sorts.{Formula}
use Rattle.sp_simp.specs.Simple.{IsSimpleForm}
use Rattle.sp_simp.proofs.SortLemmas.{simple_sort, simple_free}
use Rattle.sp_steps.specs.Soundness.{IsClosedTerm}

not_free : (a b : Bool) → (b ≡ true → a ≡ true) → a ≡ false → b ≡ false
not_free a false h f = refl
not_free a true h f = absurd (true≢false (sym (h refl) ∙ f))

pub simple_closed : (t r : Tree) → IsClosedTerm Formula t → IsSimpleForm t r → IsClosedTerm Formula r
simple_closed t r h form = (simple_sort form Formula h.0, λ k. not_free (is_free (var.Bound k) t) (is_free (var.Bound k) r) (simple_free (var.Bound k) form) (h.1 k))
