-- Scripts by their conditions.
use Rattle.std.proofs.Common.{◌≡◌, ◌⊎◌, ℕ, zero, suc, ◌+◌, ◌<◌, ◌≤◌, true, false, cond, List, [], ◌∷◌, ◌++◌, length, take, drop, get_or, Some, refl, sym, ap, subst, ◌∙◌, arith, inl, inr, true≢false, nat_eq}
use Rattle.std.specs.Prelude.{nat_le, position, slice_get}
use Rattle.std.specs.Cmp.Lexicographic.{pointwise, same_text, nat_list_eq_equiv}
use Rattle.std.specs.List.{AllByRecursion, list_any}
use Rattle.std.proofs.lemmas.Bool.{and_parts, and_from, or_cases, or_left, or_right, eqb-true, eq-eqb, leb-true, le-leb}
use Rattle.std.proofs.lemmas.List.{length-map, map-append, take_more, drop_more, take_all, take-append-drop}
use Rattle.std.proofs.lemmas.List.Quantifiers.{position-Some}
use Rattle.std.proofs.lemmas.Option.{slice_get-get_or}
use Rattle.sp_script_text.specs.declared.script.Title.{Title}
use Rattle.sp_script_text.specs.declared.script.Script.{Script}
use Rattle.sp_script_text.specs.Files.{HasSteps, Names, NoneTwice, IsSecondOf}
use Rattle.sp_script_text.specs.Tables.{title, Has, IsFound, IsAbsent, IsCounted, AreKnown, IsUnknownAt}
use Rattle.sp_script_text.specs.code.Table.{titles_in, IsTable, counts}
use Rattle.sp_script_text.specs.contracts.script.TitlePartialEq.TheImpl.{eq-value}

-- ---- one condition

title_same : (a b : Title) → eq-value.it a b ≡ true → a ≡ b
title_same a b h =
    let p = and_parts (pointwise nat_eq a.name b.name) (nat_eq a.number b.number) h in
    λ i. record { name = same_text a.name b.name (sym p.0) i; number = eqb-true a.number b.number p.1 i }

title_self : (a : Title) → eq-value.it a a ≡ true
title_self a = and_from (pointwise nat_eq a.name a.name) (nat_eq a.number a.number) (nat_list_eq_equiv.refl a.name) (eq-eqb a.number a.number refl)

any_names : (t : Title) (ss : List Script) → list_any (eq-value.it t) (titles_in ss) ≡ true → Names t ss
any_names t [] h = absurd cc
any_names t (s ∷ ss) h = by (or_cases (eq-value.it t s.title) (list_any (eq-value.it t) (titles_in ss)) h) (any_names t ss)
  where
    by : (eq-value.it t s.title ≡ true) ⊎ (list_any (eq-value.it t) (titles_in ss) ≡ true) → (list_any (eq-value.it t) (titles_in ss) ≡ true → Names t ss) → Names t (s ∷ ss)
    by (inl e) more = inl (sym (title_same t s.title e))
    by (inr e) more = inr (more e)

names_any : (t : Title) (ss : List Script) → Names t ss → list_any (eq-value.it t) (titles_in ss) ≡ true
names_any t [] h = absurd h
names_any t (s ∷ ss) (inl e) = or_left (eq-value.it t s.title) (list_any (eq-value.it t) (titles_in ss)) (ap (eq-value.it t) e ∙ title_self t)
names_any t (s ∷ ss) (inr h) = or_right (eq-value.it t s.title) (list_any (eq-value.it t) (titles_in ss)) (names_any t ss h)

-- ---- finding

pub found_within : (ss : List Script) (titles : List Title) → IsTable ss titles → (i : ℕ) → i < length titles → i < length ss
found_within ss titles t i h = omega (arith, h, ap length t.titles_are, length-map ss (λ (s : Script). s.title))

at_title : (ss : List Script) (i : ℕ) (d : Title) (s : Script) → i < length ss → get_or (titles_in ss) i d ≡ (get_or ss i s).title
at_title [] i d s h = absurd (omega arith)
at_title (x ∷ ss) zero d s h = refl
at_title (x ∷ ss) (suc i) d s h = at_title ss i d s (omega arith)

has_at : (ss : List Script) (i : ℕ) (s : Script) → slice_get ss i ≡ Some s → Has s ss
has_at [] i s e = absurd cc
has_at (x ∷ ss) zero s e = let same : x ≡ s = cc in ([], ss, ap (λ w. w ∷ ss) same)
has_at (x ∷ ss) (suc i) s e = let h = has_at ss i s e in (x ∷ h.0, h.1, ap (λ w. x ∷ w) h.2)

at_get : (ss : List Script) (i : ℕ) (s : Script) → slice_get ss i ≡ Some s → (i < length ss) × (get_or ss i s ≡ s)
at_get [] i s e = absurd cc
at_get (x ∷ ss) zero s e = let same : x ≡ s = cc in (omega arith, same)
at_get (x ∷ ss) (suc i) s e = let h = at_get ss i s e in (omega (arith, h.0), h.1)

pub found_script : (ss : List Script) (titles : List Title) → IsTable ss titles → (name : List ℕ) (number i : ℕ) → Some i ≡ position (eq-value.it (title name number)) titles → (s : Script) → s ≡ get_or ss i s
    → IsFound ss name number s
found_script ss titles t name number i h is_at at =
    let p = position-Some (eq-value.it (title name number)) titles i (title name number) (sym h) in
    let s : Script = is_at in
    let lt : i < length ss = found_within ss titles t i p.0 in
    let e : slice_get ss i ≡ Some s = slice_get-get_or ss i s lt ∙ ap Some (sym at) in
    let g = at_get ss i s e in
    let key : get_or titles i (title name number) ≡ s.title = ap (λ w. get_or w i (title name number)) t.titles_are ∙ at_title ss i (title name number) s g.0 ∙ ap (λ (w : Script). w.title) g.1 in
    record { among = has_at ss i s e; names = sym (title_same (title name number) s.title (ap (eq-value.it (title name number)) (sym key) ∙ p.1)) }

pub absent_script : (ss : List Script) (titles : List Title) → IsTable ss titles → (name : List ℕ) (number : ℕ) → list_any (eq-value.it (title name number)) titles ≡ false → IsAbsent ss name number
absent_script ss titles t name number h = λ names.
    true≢false (sym (names_any (title name number) ss names) ∙ ap (list_any (eq-value.it (title name number))) (sym t.titles_are) ∙ h)

steps_at : (ss : List Script) (i : ℕ) (s : Script) → AllByRecursion HasSteps ss → slice_get ss i ≡ Some s → HasSteps s
steps_at [] i s h e = absurd cc
steps_at (x ∷ ss) zero s h e = let same : x ≡ s = cc in subst HasSteps same h.0
steps_at (x ∷ ss) (suc i) s h e = steps_at ss i s h.1 e

pub found_steps : (ss : List Script) (titles : List Title) → IsTable ss titles → (i : ℕ) (s : Script) → slice_get ss i ≡ Some s → HasSteps s
found_steps ss titles t i s e = steps_at ss i s t.steps e

-- ---- the table

names_append : (t : Title) (xs ys : List Script) → Names t (xs ++ ys) → Names t xs ⊎ Names t ys
names_append t [] ys h = inr h
names_append t (x ∷ xs) ys (inl e) = inl (inl e)
names_append t (x ∷ xs) ys (inr h) = by (names_append t xs ys h)
  where
    by : Names t xs ⊎ Names t ys → Names t (x ∷ xs) ⊎ Names t ys
    by (inl g) = inl (inr g)
    by (inr g) = inr g

pub once_more : (xs : List Script) (s : Script) → NoneTwice xs → (Names s.title xs → ⊥) → NoneTwice (xs ++ s ∷ [])
once_more [] s h new = ((λ names. names), tt)
once_more (x ∷ xs) s h new =
    ((λ names. by (names_append x.title xs (s ∷ []) names)), once_more xs s h.1 (λ names. new (inr names)))
  where
    by : Names x.title xs ⊎ Names x.title (s ∷ []) → ⊥
    by (inl g) = h.0 g
    by (inr (inl e)) = new (inl (sym e))
    by (inr (inr g)) = g

-- ---- one script after another

-- the first scripts with the next one
next_taken : (ss : List Script) (i : ℕ) (s : Script) → i < length ss → s ≡ get_or ss i s → take (i + 1) ss ≡ take i ss ++ s ∷ []
next_taken ss i s lt at = take_more ss i s lt ∙ ap (λ w. take i ss ++ w ∷ []) (sym at)

-- a list at a place
parted : (ss : List Script) (i : ℕ) (s : Script) → i < length ss → s ≡ get_or ss i s → ss ≡ take i ss ++ s ∷ drop (i + 1) ss
parted ss i s lt at = sym (take-append-drop i ss) ∙ ap (λ w. take i ss ++ w) (drop_more ss i s lt ∙ ap (λ w. w ∷ drop (i + 1) ss) (sym at))

-- the conditions so far
pub record AreTitles (ss : List Script) (i : ℕ) (titles : List Title) : Type 0 where
  pub are : titles ≡ titles_in (take i ss)
  pub once : NoneTwice (take i ss)

pub titles_begin : (ss : List Script) → AreTitles ss 0 []
titles_begin ss = record { are = refl; once = tt }

not_named : (ss : List Script) (i : ℕ) (titles : List Title) (t : Title) → AreTitles ss i titles → list_any (eq-value.it t) titles ≡ false → Names t (take i ss) → ⊥
not_named ss i titles t h new names = true≢false (sym (names_any t (take i ss) names) ∙ ap (list_any (eq-value.it t)) (sym h.are) ∙ new)

pub titles_more : (ss : List Script) (i : ℕ) (titles new : List Title) (s : Script) → AreTitles ss i titles → i < length ss → s ≡ get_or ss i s → list_any (eq-value.it s.title) titles ≡ false
    → new ≡ cond (list_any (eq-value.it s.title) titles) titles (titles ++ s.title ∷ []) → AreTitles ss (i + 1) new
titles_more ss i titles new s h lt at fresh is =
    let next = next_taken ss i s lt at in
    let grown : new ≡ titles ++ s.title ∷ [] = is ∙ ap (λ b. cond b titles (titles ++ s.title ∷ [])) fresh in
    record {
      are = grown ∙ ap (λ w. w ++ s.title ∷ []) h.are ∙ sym (map-append (λ (x : Script). x.title) (take i ss) (s ∷ [])) ∙ ap titles_in (sym next);
      once = subst NoneTwice (sym next) (once_more (take i ss) s h.once (not_named ss i titles s.title h fresh));
    }

pub titles_all : (ss : List Script) (i : ℕ) (titles : List Title) → AreTitles ss i titles → length ss ≤ i → (titles ≡ titles_in ss) × NoneTwice ss
titles_all ss i titles h all =
    let whole : take i ss ≡ ss = take_all i ss all in
    (h.are ∙ ap titles_in whole, subst NoneTwice whole h.once)

pub title_twice : (ss : List Script) (i : ℕ) (titles : List Title) (s : Script) → AreTitles ss i titles → i < length ss → s ≡ get_or ss i s → list_any (eq-value.it s.title) titles ≡ true → IsSecondOf ss s.line.0
title_twice ss i titles s h lt at old = record {
  above = take i ss;
  second = s;
  below = drop (i + 1) ss;
  whole = parted ss i s lt at;
  place = refl;
  once = h.once;
  twice = any_names s.title (take i ss) (ap (list_any (eq-value.it s.title)) (sym h.are) ∙ old);
}

-- ---- conditions that are counted

counted_is : (cs : List (List ℕ × ℕ)) (t : Title) → list_any (λ c. counts c t) cs ≡ true → IsCounted cs t
counted_is [] t h = absurd cc
counted_is (c ∷ cs) t h = by (or_cases (counts c t) (list_any (λ d. counts d t) cs) h) (counted_is cs t)
  where
    by : (counts c t ≡ true) ⊎ (list_any (λ d. counts d t) cs ≡ true) → (list_any (λ d. counts d t) cs ≡ true → IsCounted cs t) → IsCounted (c ∷ cs) t
    by (inl e) more = let p = and_parts (pointwise nat_eq c.0 t.name) (nat_le t.number c.1) e in inl (same_text c.0 t.name (sym p.0), leb-true t.number c.1 p.1)
    by (inr e) more = inr (more e)

counted_again : (cs : List (List ℕ × ℕ)) (t : Title) → IsCounted cs t → list_any (λ c. counts c t) cs ≡ true
counted_again [] t h = absurd h
counted_again (c ∷ cs) t (inl e) =
    let same : pointwise nat_eq c.0 t.name ≡ true = ap (λ w. pointwise nat_eq w t.name) e.0 ∙ nat_list_eq_equiv.refl t.name in
    or_left (counts c t) (list_any (λ d. counts d t) cs) (and_from (pointwise nat_eq c.0 t.name) (nat_le t.number c.1) same (le-leb t.number c.1 e.1))
counted_again (c ∷ cs) t (inr h) = or_right (counts c t) (list_any (λ d. counts d t) cs) (counted_again cs t h)

known_append : (cs : List (List ℕ × ℕ)) (xs : List Script) (s : Script) → AreKnown cs xs → IsCounted cs s.title → AreKnown cs (xs ++ s ∷ [])
known_append cs [] s h k = (k, tt)
known_append cs (x ∷ xs) s h k = (h.0, known_append cs xs s h.1 k)

pub known_none : (cs : List (List ℕ × ℕ)) (ss : List Script) → AreKnown cs (take 0 ss)
known_none cs ss = tt

pub known_more : (cs : List (List ℕ × ℕ)) (ss items : List Script) → items ≡ ss → (i : ℕ) (s : Script) → AreKnown cs (take i ss) → i < length items → s ≡ get_or items i s → list_any (λ c. counts c s.title) cs ≡ true → AreKnown cs (take (i + 1) ss)
known_more cs ss items e i s h less is k =
    let lt : i < length ss = omega (arith, less, ap length e) in
    let at : s ≡ get_or ss i s = is ∙ ap (λ w. get_or w i s) e in
    subst (AreKnown cs) (sym (next_taken ss i s lt at)) (known_append cs (take i ss) s h (counted_is cs s.title k))

pub known_all : (cs : List (List ℕ × ℕ)) (ss : List Script) (i : ℕ) → AreKnown cs (take i ss) → length ss ≤ i → AreKnown cs ss
known_all cs ss i h all = subst (AreKnown cs) (take_all i ss all) h

pub unknown_at : (cs : List (List ℕ × ℕ)) (ss : List Script) (i : ℕ) (s : Script) → AreKnown cs (take i ss) → i < length ss → s ≡ get_or ss i s → list_any (λ c. counts c s.title) cs ≡ false → IsUnknownAt cs ss s.line.0
unknown_at cs ss i s h lt at k = record {
  above = take i ss;
  unknown = s;
  below = drop (i + 1) ss;
  whole = parted ss i s lt at;
  place = refl;
  known = h;
  not_counted = λ counted. true≢false (sym (counted_again cs s.title counted) ∙ k);
}
