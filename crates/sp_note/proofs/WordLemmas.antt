-- The words of tokens, one after another.
use Rattle.std.proofs.Common.{◌≡◌, ℕ, ◌+◌, ◌<◌, ◌≤◌, List, [], ◌∷◌, ◌++◌, length, get_or, drop, Option, Some, None, refl, sym, ap, ◌∙◌, append_assoc}
use Rattle.std.specs.Option.{option_map}
use Rattle.std.proofs.lemmas.List.{at_drop_more, at_drop_all, append-nil}
use Rattle.sp_lex.specs.declared.token.Token.{Token}
use Rattle.sp_note.specs.declared.word.Word.{Word}
use Rattle.sp_note.specs.Words.{word_of, words_of, with_word}
use Rattle.sp_lex.specs.Readers.{text_of}

abbrev pub after : List Word → Option (List Word) → Option (List Word)
after front ws = option_map (λ rest. front ++ rest) ws

pub after-none : (ws : Option (List Word)) → after [] ws ≡ ws
after-none None = refl
after-none (Some ws) = refl

after-one : (front : List Word) (word : Word) (ws : Option (List Word)) → after (front ++ word ∷ []) ws ≡ after front (with_word (Some word) ws)
after-one front word None = refl
after-one front word (Some ws) = ap (λ all. Some all) (append_assoc front (word ∷ []) ws)

pub after-more : (source : List ℕ) (tokens : List Token) (i : ℕ) (token : Token) (front : List Word) (word : Word) → i < length tokens → Some word ≡ word_of (get_or tokens i token).kind (text_of source (get_or tokens i token))
    → after (front ++ word ∷ []) (words_of source (drop (i + 1) tokens)) ≡ after front (words_of source (drop i tokens))
unfolding words_of
after-more source tokens i token front word lt found =
    after-one front word (words_of source (drop (i + 1) tokens))
    ∙ ap (λ w. after front (with_word w (words_of source (drop (i + 1) tokens)))) found
    ∙ ap (after front) (sym (at_drop_more (words_of source) tokens i token lt))

pub after-not : (source : List ℕ) (tokens : List Token) (i : ℕ) (token : Token) (front : List Word) → i < length tokens → None ≡ word_of (get_or tokens i token).kind (text_of source (get_or tokens i token))
    → after front (words_of source (drop i tokens)) ≡ None
unfolding words_of
after-not source tokens i token front lt found =
    ap (after front) (at_drop_more (words_of source) tokens i token lt)
    ∙ ap (λ w. after front (with_word w (words_of source (drop (i + 1) tokens)))) (sym found)

pub after-all : (source : List ℕ) (tokens : List Token) (i : ℕ) (front : List Word) → length tokens ≤ i → after front (words_of source (drop i tokens)) ≡ Some front
unfolding words_of
after-all source tokens i front le = ap (after front) (at_drop_all (words_of source) tokens i le) ∙ ap (λ ws. Some ws) (append-nil front)
