use Rattle.std.proofs.Common.{refl, ◌∙◌, ap, replicate, false}
use Rattle.sp_simp.proofs.MarkLemmas.{kept_new}
use Rattle.sp_simp.proofs.kept.Kept.new.Goals as goal

pub returns-clause-kept : goal.returns-clause-kept
returns-clause-kept c =
    kept_new _ _ c.new.ensures.items (c.in_ok-from_elem.ensures.items_if_clones_equal (λ y h. h) ∙ ap (λ n. replicate n false) c.len.ensures) refl
