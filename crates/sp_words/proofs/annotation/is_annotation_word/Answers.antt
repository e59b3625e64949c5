use Rattle.std.proofs.Common.{◌≡◌, is_some, ap, ◌∙◌}
use Rattle.sp_words.specs.code.Tables.{is_annotation_word}
use Rattle.sp_words.proofs.AnnotationLemmas.{is_annotation_exact}
use Rattle.sp_words.proofs.annotation.is_annotation_word.Goals as goal

pub returns-clause-table : goal.returns-clause-table
unfolding is_annotation_word
returns-clause-table c = c.is_some.ensures ∙ ap is_some c.meaning_of.ensures

pub returns-clause-own : goal.returns-clause-own
unfolding is_annotation_word
returns-clause-own c =
    let e : c.is_some.result ≡ is_annotation_word c.args.word.now = c.is_some.ensures ∙ ap is_some c.meaning_of.ensures in
    rw e (is_annotation_exact c.args.word.now)
