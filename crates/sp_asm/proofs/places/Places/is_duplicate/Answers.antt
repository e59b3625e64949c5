use Rattle.std.proofs.Common.{◌≡◌, Some, true, false, sym, ap, ◌∙◌, is_some}
use Rattle.sp_asm.specs.Names.{value_in, name_of, is_set}
use Rattle.sp_asm.specs.Assembly.{definitions, is_taken}
use Rattle.sp_asm.proofs.NameLaws.{taken_fixed, taken_set}
use Rattle.sp_asm.proofs.places.Places.is_duplicate.Goals as goal

pub returns-then-is_set : goal.returns-then-is_set
returns-then-is_set c places h =
    let named : name_of c.args.s.now ≡ Some c.in-Some.name = sym c.name_of.ensures ∙ c.in-Some.is in
    let set : is_set c.args.s.now.code ≡ true = sym c.is_set.ensures ∙ c.if-is_set.true in
    c.contains_key.ensures
    ∙ ap (λ es. is_some (value_in es c.in-Some.name)) h.fixed_names
    ∙ sym (taken_set (definitions places) c.in-Some.name)
    ∙ ap (is_taken (definitions places) (Some c.in-Some.name)) (sym set)
    ∙ ap (λ n. is_taken (definitions places) n (is_set c.args.s.now.code)) (sym named)

pub returns-else-is_set : goal.returns-else-is_set
returns-else-is_set c places h =
    let named : name_of c.args.s.now ≡ Some c.in-Some.name = sym c.name_of.ensures ∙ c.in-Some.is in
    let set : is_set c.args.s.now.code ≡ false = sym c.is_set.ensures ∙ c.if-is_set.false in
    c.contains_key-else-is_set.ensures
    ∙ ap (λ es. is_some (value_in es c.in-Some.name)) h.names
    ∙ sym (taken_fixed (definitions places) c.in-Some.name)
    ∙ ap (is_taken (definitions places) (Some c.in-Some.name)) (sym set)
    ∙ ap (λ n. is_taken (definitions places) n (is_set c.args.s.now.code)) (sym named)
