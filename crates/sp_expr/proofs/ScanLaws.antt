-- The scans over the words of an expression, word by word.
use Rattle.std.proofs.Common.{◌≡◌, ℕ, ◌+◌, ◌<◌, ◌≤◌, true, false, List, [], ◌∷◌, length, get_or, drop, Option, Some, None, refl, sym, ap, ◌∙◌}
use Rattle.std.specs.Prelude.{◌&&◌}
use Rattle.std.proofs.lemmas.List.{at_drop_more, at_drop_all}
use Rattle.sp_expr.specs.declared.setting.Setting.{Setting}
use Rattle.sp_expr.specs.declared.word.Word.{Word}
use Rattle.sp_expr.specs.declared.sentence.Place.{Place}
use Rattle.sp_expr.specs.code.Sentence.{next, ends, accepts_in}
use Rattle.sp_expr.specs.code.Nesting.{Nests, may_follow, open_after, nests_within}

pub accepts-more : (setting : Setting) (ws : List Word) (i : ℕ) (word : Word) (place : Place) (opened : ℕ) (found : Option (Place × ℕ)) → i < length ws → word ≡ get_or ws i word → found ≡ next setting place opened word
    → accepts_in setting (drop (i + 1) ws) found ≡ accepts_in setting (drop i ws) (Some (place, opened))
unfolding accepts_in
accepts-more setting ws i word place opened found lt is found_is =
    ap (accepts_in setting (drop (i + 1) ws)) (found_is ∙ ap (next setting place opened) is) ∙ sym (at_drop_more (λ rest. accepts_in setting rest (Some (place, opened))) ws i word lt)

pub accepts-none : (setting : Setting) (ws : List Word) → accepts_in setting ws None ≡ false
unfolding accepts_in
accepts-none setting [] = refl
accepts-none setting (word ∷ ws) = refl

pub accepts-all : (setting : Setting) (ws : List Word) (i : ℕ) (place : Place) (opened : ℕ) → length ws ≤ i → accepts_in setting (drop i ws) (Some (place, opened)) ≡ ends place opened
unfolding accepts_in
accepts-all setting ws i place opened le = at_drop_all (λ rest. accepts_in setting rest (Some (place, opened))) ws i le

pub nests_within-more : (n next : Nests) (ws : List Word) (i : ℕ) (word : Word) → i < length ws → word ≡ get_or ws i word → may_follow n word ≡ true → next ≡ open_after n word
    → nests_within next (drop (i + 1) ws) ≡ nests_within n (drop i ws)
unfolding nests_within
nests_within-more n next ws i word lt is may next_is =
    ap (λ m. nests_within m (drop (i + 1) ws)) next_is ∙ ap (λ b. b && nests_within (open_after n word) (drop (i + 1) ws)) (sym may)
    ∙ ap (λ w. may_follow n w && nests_within (open_after n w) (drop (i + 1) ws)) is ∙ sym (at_drop_more (nests_within n) ws i word lt)

pub nests_within-not : (n : Nests) (ws : List Word) (i : ℕ) (word : Word) → i < length ws → word ≡ get_or ws i word → may_follow n word ≡ false → nests_within n (drop i ws) ≡ false
unfolding nests_within
nests_within-not n ws i word lt is may =
    at_drop_more (nests_within n) ws i word lt ∙ ap (λ w. may_follow n w && nests_within (open_after n w) (drop (i + 1) ws)) (sym is) ∙ ap (λ b. b && nests_within (open_after n word) (drop (i + 1) ws)) may

pub nests_within-all : (n : Nests) (ws : List Word) (i : ℕ) → length ws ≤ i → nests_within n (drop i ws) ≡ true
unfolding nests_within
nests_within-all n ws i le = at_drop_all (nests_within n) ws i le
