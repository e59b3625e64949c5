use Rattle.std.proofs.Common.{◌+◌, min, cond, ◌||◌, sym, ap, ◌∙◌}
use Rattle.std.specs.List.{list_any}
use Rattle.sp_unit.specs.code.Entries.{note}
use Rattle.sp_unit.specs.Faults.{count, is_depth_part, is_pre_part, is_post_part}
use Rattle.sp_unit.specs.Lines.{Annotation, is_note, is_start_part}
use Rattle.sp_unit.proofs.PlaceLemmas.{any_more, count_more, start_more}
use Rattle.sp_unit.proofs.place.Header.after.Goals as goal

pub returns : goal.returns
returns c all below n quiet h =
    let e = Annotation (note n c.args.part.now) in
    record {
      is_start = h.is_start ∙ start_more all below e quiet;
      starts =
          ap (λ t. t || c.is_start_part.result) h.starts ∙ ap (λ t. list_any (is_note is_start_part) all || t) c.is_start_part.ensures ∙ sym (any_more (is_note is_start_part) all e);
      has_depth =
          ap (λ t. t || c.is_depth_part.result) h.has_depth ∙ ap (λ t. list_any (is_note is_depth_part) all || t) c.is_depth_part.ensures ∙ sym (any_more (is_note is_depth_part) all e);
      pre = c.counted.ensures (count is_pre_part all) h.pre ∙ ap (λ m. min m 64) (ap (λ t. count is_pre_part all + cond t 1 0) c.is_pre_part.ensures ∙ sym (count_more is_pre_part all e));
      post = c.counted-2.ensures (count is_post_part all) h.post ∙ ap (λ m. min m 64) (ap (λ t. count is_post_part all + cond t 1 0) c.is_post_part.ensures ∙ sym (count_more is_post_part all e));
    }
