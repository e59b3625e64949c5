use Rattle.std.proofs.Common.{refl}
use Rattle.sp_words.specs.code.Slots.{number_after}
use Rattle.sp_words.specs.code.Tables.{mnemonic_named, operator_named, arg_named, pair_named, stack_pair_named, is_reserved, annotation_word_named, is_annotation_word}
use Rattle.sp_words.proofs.laws.words_by_example.Goals as goal

pub returns : goal.returns
unfolding number_after mnemonic_named operator_named arg_named pair_named stack_pair_named is_reserved annotation_word_named is_annotation_word
returns c = record { minus = refl; plus = refl; even = refl; odd = refl; none = refl; reserved = refl; names = refl; words = refl; others = refl }
