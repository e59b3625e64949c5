use Rattle.std.proofs.Common.{ℕ, arith, refl, inl, inr, List, []}
use Rattle.std.specs.Prelude.{Contains}
use Rattle.sp_base.specs.declared.location.Loc.TheVariants as loc
use Rattle.sp_words.specs.declared.annotation.AnnotationWord.TheVariants as word
use Rattle.sp_logic.proofs.laws.notes_are_formed.Goals as goal

none_is : (name : List ℕ) → Contains [] name → ⊥
none_is name (k, low, e) = absurd (omega (arith, low))

pub returns : goal.returns
returns c = record {
  largest = record { closed = (tt, tt); limits = (omega arith, (omega arith, omega arith)) };
  too_large = λ h. let l = h.limits.0 in absurd (omega (arith, l));
  last_word = record { closed = (tt, tt); limits = (omega arith, (omega arith, omega arith)) };
  no_word = λ h. let l = h.limits.1.0 in absurd (omega (arith, l));
  past_word = λ h. let l = h.limits.1.1 in absurd (omega (arith, l));
  open_name = λ h. none_is _ h.closed.0;
  register = λ h. h.limits.0.new (record { word = word.Loc loc.A; written = tt; named = refl });
  digit = λ h. elim h.limits.0.start [ inl l ↦ let a = l.0 in absurd (omega (arith, a)) | inr l ↦ let a = l.0 in absurd (omega (arith, a)) ];
}
