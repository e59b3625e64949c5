use Rattle.std.proofs.Common.{◌≡◌, false, refl, codes, arith}
use Rattle.sp_words.specs.Annotations.{IsAnnotationWord}
use Rattle.sp_words.specs.declared.annotation.AnnotationWord.TheVariants.{Len}
use Rattle.sp_words.specs.code.Slots.{number_after}
use Rattle.sp_words.specs.code.Tables.{annotation_word_named, is_annotation_word}
use Rattle.sp_words.proofs.AnnotationLemmas.{is_annotation_exact}
use Rattle.sp_expr.proofs.laws.settings_by_example.Goals as goal

lens_is_none : is_annotation_word (codes "LENS") ≡ false
unfolding number_after annotation_word_named is_annotation_word
lens_is_none = refl

no_word : ¬ IsAnnotationWord (codes "LENS")
no_word h = let yes = (is_annotation_exact (codes "LENS")).1 h in let none = lens_is_none in cc

pub returns : goal.returns
returns c = record {
  address = (omega arith, omega arith, tt, tt);
  no_address = λ h. h.2;
  name = no_word;
  word = λ h. h (record { word = Len; written = tt; named = refl });
  name_of_statement = tt;
}
