use Rattle.sp_words.proofs.AnnotationLemmas.{annotation_exact, is_annotation_exact}
use Rattle.sp_words.proofs.laws.annotations_have_their_words.Goals as goal

pub returns : goal.returns
returns c = record { named = annotation_exact; exactly = is_annotation_exact }
