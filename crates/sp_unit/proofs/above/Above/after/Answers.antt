use Rattle.std.proofs.Common.{◌+◌, min, cond, ◌||◌, [], ◌∷◌, sym, ap, subst, ◌∙◌}
use Rattle.std.specs.List.{list_any}
use Rattle.std.proofs.lemmas.List.Sums.{fold-append}
use Rattle.sp_unit.specs.code.Entries.{entry_of, entries_of}
use Rattle.sp_unit.specs.code.Places.{IsPlace}
use Rattle.sp_unit.specs.Faults.{count, is_area_part, is_stack_part}
use Rattle.sp_unit.specs.Lines.{Outside, is_note, is_routine_part, next_place}
use Rattle.sp_unit.proofs.PlaceLemmas.{any_more, count_more}
use Rattle.sp_unit.proofs.above.Above.after.Goals as goal

pub returns : goal.returns
returns c all h =
    let e = entry_of c.args.e.now in
    record {
      has_stack = ap (λ t. t || c.is_stack.result) h.has_stack ∙ ap (λ t. list_any (is_note is_stack_part) all || t) c.is_stack.ensures ∙ sym (any_more (is_note is_stack_part) all e);
      areas = c.counted.ensures (count is_area_part all) h.areas ∙ ap (λ m. min m 1024) (ap (λ t. count is_area_part all + cond t 1 0) c.is_area.ensures ∙ sym (count_more is_area_part all e));
      routines =
          c.counted-2.ensures (count is_routine_part all) h.routines
          ∙ ap (λ m. min m 1024) (ap (λ t. count is_routine_part all + cond t 1 0) c.is_routine.ensures ∙ sym (count_more is_routine_part all e));
      place = subst (λ p. IsPlace c.after.result p (entries_of c.args.below.now)) (sym (fold-append next_place Outside all (e ∷ []))) (c.after.ensures _ h.place);
    }
