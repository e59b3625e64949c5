use Rattle.std.proofs.Common.{◌≡◌, ◌∙◌, sym, refl, Bool, true, false}
use Rattle.sp_term.specs.declared.var.Var.TheVariants as var
use Rattle.sp_term.specs.Free.{is_free}
use Rattle.sp_simp.proofs.SortLemmas.{simple_sort, simple_free}
use Rattle.sp_simp.proofs.laws.simple_forms_keep_terms.Goals as goal

not_free : (a b : Bool) → (b ≡ true → a ≡ true) → a ≡ false → b ≡ false
not_free a false h f = refl
not_free a true h f = let k : false ≡ true = sym f ∙ h refl in absurd (cc)

pub returns : goal.returns
returns c = record {
  sort = λ t r s f h. simple_sort f s h;
  free = λ v t r f h. simple_free v f h;
  closed = λ t r f h k. not_free (is_free (var.Bound k) t) (is_free (var.Bound k) r) (simple_free (var.Bound k) f) (h k);
}
