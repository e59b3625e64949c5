use Rattle.sp_words.proofs.AnnotationLemmas.{annotation_exact}
use Rattle.sp_words.proofs.annotation.annotation_word_named.Goals as goal

pub returns-clause-own : goal.returns-clause-own
returns-clause-own c w = let e = c.meaning_of.ensures in rw e (annotation_exact c.args.word.now w)
