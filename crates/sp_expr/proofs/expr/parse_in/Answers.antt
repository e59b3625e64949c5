use Rattle.std.proofs.Common.{◌≡◌, true, false, [], Some, Option, List, sym, ap, ◌∙◌}
use Rattle.sp_expr.specs.declared.word.Word.{Word}
use Rattle.sp_expr.specs.code.Sentence.{is_sentence_in}
use Rattle.sp_expr.specs.code.Nesting.{nests, nest, nests_within}
use Rattle.sp_expr.proofs.SentenceLaws.{spelled_is_sentence}
use Rattle.sp_expr.proofs.TreeLaws.{sentence_is_spelled}
use Rattle.sp_expr.proofs.NestingLaws.{shallow, deep}
use Rattle.sp_expr.proofs.KeptLemmas.{kept}
use Rattle.sp_expr.proofs.expr.parse_in.Goals as goal

abbrev some_words : List Word → Option (List Word)
some_words ws = Some ws

same_words : (a b : List Word) → some_words a ≡ some_words b → a ≡ b
same_words a b e = cc

pub returns-then-not-is_sentence : goal.returns-then-not-is_sentence
returns-then-not-is_sentence c ws t is h =
    let words = c.deref.ensures.value ∙ same_words c.in_ok-words.words.items ws (sym c.in_ok-words.ensures ∙ is) in
    let yes = ap (is_sentence_in c.args.setting) words ∙ spelled_is_sentence c.args.setting ws t h in
    let no = sym c.is_sentence.ensures ∙ c.if-not-is_sentence.true in
    let both : true ≡ false = sym yes ∙ no in cc

pub returns-then-not-nests_within : goal.returns-then-not-nests_within
returns-then-not-nests_within c =
    let accepted : is_sentence_in c.args.setting c.in_ok-words.words.items ≡ true = ap (is_sentence_in c.args.setting) (sym c.deref.ensures.value) ∙ sym c.is_sentence.ensures ∙ c.if-not-is_sentence.false in
    let tree = sentence_is_spelled c.args.setting c.in_ok-words.words.items accepted in
    let nested : nests_within (nests (nest 0 0) []) c.in_ok-words.words.items ≡ false =
    ap (nests_within (nests (nest 0 0) [])) (sym c.deref-2.ensures.value) ∙ sym c.nests_within.ensures ∙ c.if-not-nests_within.true in
    (c.in_ok-words.words.items, c.in_ok-words.ensures, (tree.0, tree.1, deep c.args.setting c.in_ok-words.words.items tree.0 tree.1 nested))

pub invariant_of-result : goal.invariant_of-result
invariant_of-result c =
    let accepted : is_sentence_in c.args.setting c.in_ok-words.words.items ≡ true = ap (is_sentence_in c.args.setting) (sym c.deref.ensures.value) ∙ sym c.is_sentence.ensures ∙ c.if-not-is_sentence.false in
    let nested : nests_within (nests (nest 0 0) []) c.in_ok-words.words.items ≡ true =
    ap (nests_within (nests (nest 0 0) [])) (sym c.deref-2.ensures.value) ∙ sym c.nests_within.ensures ∙ c.if-not-nests_within.false in
    kept c.args.setting c.in_ok-words.words.items accepted nested

pub returns : goal.returns
returns c =
    let accepted : is_sentence_in c.args.setting c.in_ok-words.words.items ≡ true = ap (is_sentence_in c.args.setting) (sym c.deref.ensures.value) ∙ sym c.is_sentence.ensures ∙ c.if-not-is_sentence.false in
    let tree = sentence_is_spelled c.args.setting c.in_ok-words.words.items accepted in
    let nested : nests_within (nests (nest 0 0) []) c.in_ok-words.words.items ≡ true =
    ap (nests_within (nests (nest 0 0) [])) (sym c.deref-2.ensures.value) ∙ sym c.nests_within.ensures ∙ c.if-not-nests_within.false in
    (c.in_ok-words.ensures, (tree.0, tree.1, shallow c.args.setting c.in_ok-words.words.items tree.0 tree.1 nested))
