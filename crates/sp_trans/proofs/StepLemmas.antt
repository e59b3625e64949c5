-- A step of a state against translation.
use Rattle.std.proofs.Common.{sym, subst}
use Rattle.sp_isa.proofs.CoreLemmas.{instr_at_bytes}
use Rattle.sp_isa.proofs.FetchLemmas.{fetched_is_code}
use Rattle.sp_model.specs.State.{State, next_input}
use Rattle.sp_model.proofs.StateLemmas.{steps_execute}
use Rattle.sp_trans.specs.Translation.{applied}
use Rattle.sp_trans.specs.Meaning.{IsValueOf}
use Rattle.sp_trans.specs.Theorems.{StepsAreTranslated}
use Rattle.sp_trans.proofs.TranslatedLemmas.{translated}

pub steps_are_translated : StepsAreTranslated
steps_are_translated f e g s i n j k running next asks input h =
    let bytes = instr_at_bytes s.core.pc s.core i n k.core next in
    let valid = (fetched_is_code i n s.core.pc s.core k.core next).0 in
    subst (λ (t : State). IsValueOf f e (applied i j g) t.core) (sym (steps_execute s i n running next))
    (translated i (next_input s) j f e g s.core k.core bytes valid asks input h)
