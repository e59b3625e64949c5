-- The items that commas divide, one after another.
use Rattle.std.proofs.Common.{◌≡◌, ℕ, zero, suc, ◌<◌, true, false, cond, List, [], ◌∷◌, ◌++◌, length, get_or, take, drop, refl, sym, ap, subst, ◌∙◌, arith}
use Rattle.std.specs.Prelude.{codes}
use Rattle.std.proofs.lemmas.Bool.{cond_both}
use Rattle.sp_lex.specs.declared.token.Token.{Token}
use Rattle.sp_lex.specs.Readers.{in_front, items_of, items_after, is_symbol, IsComma, HasNoComma, AreItems}

-- the first item ends before the first comma
pub items_of-comma : (source : List ℕ) (i : ℕ) (tokens : List Token) → i < length tokens
    → ((k : ℕ) (d : Token) → k < i → is_symbol (codes ",") source (get_or tokens k d) ≡ false)
    → (d : Token) → is_symbol (codes ",") source (get_or tokens i d) ≡ true
    → items_of source tokens ≡ take i tokens ∷ items_after source (drop i tokens)
unfolding items_of
items_of-comma source zero [] lt before d here = absurd (omega arith)
items_of-comma source (suc i) [] lt before d here = absurd (omega arith)
items_of-comma source zero (token ∷ tokens) lt before d here =
    ap (λ b. cond b ([] ∷ items_of source tokens) (in_front token (items_of source tokens))) here
items_of-comma source (suc i) (token ∷ tokens) lt before d here =
    ap (λ b. cond b ([] ∷ items_of source tokens) (in_front token (items_of source tokens))) (before 0 token (omega arith))
    ∙ ap (in_front token) (items_of-comma source i tokens (omega arith) (λ k e below. before (suc k) e (omega arith)) d here)

-- without a comma there is one item
pub items_of-whole : (source : List ℕ) (tokens : List Token)
    → ((k : ℕ) (d : Token) → k < length tokens → is_symbol (codes ",") source (get_or tokens k d) ≡ false)
    → items_of source tokens ≡ take (length tokens) tokens ∷ items_after source (drop (length tokens) tokens)
unfolding items_of
items_of-whole source [] none = refl
items_of-whole source (token ∷ tokens) none =
    ap (λ b. cond b ([] ∷ items_of source tokens) (in_front token (items_of source tokens))) (none 0 token (omega arith))
    ∙ ap (in_front token) (items_of-whole source tokens (λ k d lt. none (suc k) d (omega arith)))

-- ---- The items are those that `AreItems` describes

no_comma : (source : List ℕ) (token : Token) → is_symbol (codes ",") source token ≡ false → ¬ IsComma source token
no_comma source token e h = let f : true ≡ false = sym h ∙ e in cc

-- a token at the front of the first item
front_items : (source : List ℕ) (token : Token) (tokens : List Token) (items : List (List Token)) → ¬ IsComma source token → AreItems source tokens items → AreItems source (token ∷ tokens) (in_front token items)
front_items source token tokens [] other h = absurd h
front_items source token tokens (item ∷ []) other h = (ap (λ ts. token ∷ ts) h.0, (other, h.1))
front_items source token tokens (item ∷ next ∷ items) other h = (h.0, h.1, ap (λ ts. token ∷ ts) h.2, h.3, (other, h.4), h.5)

comma_items : (source : List ℕ) (comma : Token) (tokens : List Token) (items : List (List Token)) → IsComma source comma → AreItems source tokens items → AreItems source (comma ∷ tokens) ([] ∷ items)
comma_items source comma tokens [] is h = absurd h
comma_items source comma tokens (item ∷ items) is h = (comma, tokens, refl, is, tt, h)

pub items_are : (source : List ℕ) (tokens : List Token) → AreItems source tokens (items_of source tokens)
unfolding items_of
items_are source [] = (refl, tt)
items_are source (token ∷ tokens) =
    cond_both (is_symbol (codes ",") source token) ([] ∷ items_of source tokens) (in_front token (items_of source tokens)) (AreItems source (token ∷ tokens))
    (λ is. comma_items source token tokens (items_of source tokens) is (items_are source tokens))
    (λ other. front_items source token tokens (items_of source tokens) (no_comma source token other) (items_are source tokens))

-- what stands before the first comma is one list
head_of : List Token → Token → Token
head_of [] d = d
head_of (token ∷ tokens) d = token

one_front : (source : List ℕ) (one other rest after : List Token) (comma there : Token) → HasNoComma source one → HasNoComma source other → IsComma source comma → IsComma source there
    → one ++ comma ∷ rest ≡ other ++ there ∷ after → (one ≡ other) × (rest ≡ after)
unfolding head_of
one_front source [] [] rest after comma there h g c d e = (refl, ap (drop 1) e)
one_front source [] (token ∷ other) rest after comma there h g c d e = absurd (g.0 (subst (IsComma source) (ap (λ ts. head_of ts comma) e) c))
one_front source (token ∷ one) [] rest after comma there h g c d e = absurd (h.0 (subst (IsComma source) (ap (λ ts. head_of ts comma) (sym e)) d))
one_front source (a ∷ one) (b ∷ other) rest after comma there h g c d e =
    let same = one_front source one other rest after comma there h.1 g.1 c d (ap (drop 1) e) in
    (ap (λ t. t ∷ one) (ap (λ ts. head_of ts comma) e) ∙ ap (λ ts. b ∷ ts) same.0, same.1)

comma_outside : (source : List ℕ) (item other rest : List Token) (comma : Token) → HasNoComma source item → IsComma source comma → item ≡ other ++ comma ∷ rest → ⊥
unfolding head_of
comma_outside source [] [] rest comma h c e = cc
comma_outside source [] (token ∷ other) rest comma h c e = cc
comma_outside source (token ∷ item) [] rest comma h c e = h.0 (subst (IsComma source) (ap (λ ts. head_of ts comma) (sym e)) c)
comma_outside source (token ∷ item) (b ∷ other) rest comma h c e = comma_outside source item other rest comma h.1 c (ap (drop 1) e)

pub one_items : (source : List ℕ) (tokens : List Token) (one other : List (List Token)) → AreItems source tokens one → AreItems source tokens other → one ≡ other
one_items source tokens [] other h g = absurd h
one_items source tokens (item ∷ one) [] h g = absurd g
one_items source tokens (item ∷ []) (there ∷ []) h g = ap (λ i. i ∷ []) (sym h.0 ∙ g.0)
one_items source tokens (item ∷ []) (there ∷ next ∷ other) h g = absurd (comma_outside source item there g.1 g.0 h.1 g.3 (sym h.0 ∙ g.2))
one_items source tokens (item ∷ next ∷ one) (there ∷ []) h g = absurd (comma_outside source there item h.1 h.0 g.1 h.3 (sym g.0 ∙ h.2))
one_items source tokens (item ∷ next ∷ one) (there ∷ below ∷ other) h g =
    let same = one_front source item there h.1 g.1 h.0 g.0 h.4 g.4 h.3 g.3 (sym h.2 ∙ g.2) in
    ap (λ i. i ∷ next ∷ one) same.0
    ∙ ap (λ is. there ∷ is) (one_items source g.1 (next ∷ one) (below ∷ other) (subst (λ ts. AreItems source ts (next ∷ one)) same.1 h.5) g.5)
