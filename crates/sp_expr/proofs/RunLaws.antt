-- Reading an expression word by word.
use Rattle.std.proofs.Common.{◌≡◌, ℕ, ◌+◌, ◌-◌, ◌<◌, ◌≤◌, Bool, true, false, cond, ltb, List, [], ◌∷◌, ◌++◌, length, get_or, take, drop, Option, Some, None, refl, sym, ap, subst, ◌∙◌, arith}
use Rattle.std.specs.Prelude.{◌&&◌, is_some}
use Rattle.std.proofs.Common.{length-append, length-take}
use Rattle.std.proofs.lemmas.List.{at_drop_more, at_drop_all}
use Rattle.sp_expr.specs.declared.word.Word.{Word}
use Rattle.sp_expr.specs.declared.word.Word.TheVariants as words
use Rattle.sp_expr.specs.code.Evaluation.{State, step, run, fits}
use Rattle.sp_expr.specs.Undefined.{first_undefined}

and_left : (a b : Bool) → (a && b) ≡ true → a ≡ true
and_left true b e = refl
and_left false b e = absurd cc

and_right : (a b : Bool) → (a && b) ≡ true → b ≡ true
and_right true b e = e
and_right false b e = absurd cc

same_outer : {A : Type 0} (P : A → Type 0) (b : Bool) (x y : A) → P x → P y → P (cond b x y)
same_outer P true x y p q = p
same_outer P false x y p q = q

fits-step : (names : List ℕ → Option ℕ) (here : ℕ) (s : State) (word : Word) (ws : List Word) → fits (length s.outer) (word ∷ ws) ≡ true → fits (length (step names here s word).outer) ws ≡ true
unfolding fits
fits-step names here s (words.Number n) ws h = h
fits-step names here s (words.Name name) ws h = h
fits-step names here s words.Here ws h = h
fits-step names here s words.Not ws h = h
fits-step names here s (words.Operator operator) ws h = same_outer (λ (t : State). fits (length t.outer) ws ≡ true) s.after _ _ h h
fits-step names here s words.Open ws h =
    let n : length s.outer + 1 ≡ length (s.outer ++ s.level ∷ []) = omega (arith, length-append s.outer (s.level ∷ [])) in
    subst (λ k. fits k ws ≡ true) n (and_right (ltb (length s.outer) 64) (fits (length s.outer + 1) ws) h)
fits-step names here s words.Close ws h =
    let n : length s.outer - 1 ≡ length (take (length s.outer - 1) s.outer) = omega (arith, length-take (length s.outer - 1) s.outer) in
    subst (λ k. fits k ws ≡ true) n h

fits-one : (opened : ℕ) (word : Word) (ws : List Word) → fits opened (word ∷ ws) ≡ true → fits opened (word ∷ []) ≡ true
unfolding fits
fits-one opened (words.Number n) ws h = refl
fits-one opened (words.Name name) ws h = refl
fits-one opened words.Here ws h = refl
fits-one opened words.Not ws h = refl
fits-one opened (words.Operator operator) ws h = refl
fits-one opened words.Close ws h = refl
fits-one opened words.Open ws h = rw (and_left (ltb opened 64) (fits (opened + 1) ws) h) refl

pub fits-next : (opened : ℕ) (ws : List Word) (i : ℕ) (word : Word) → i < length ws → word ≡ get_or ws i word → fits opened (drop i ws) ≡ true → fits opened (word ∷ []) ≡ true
fits-next opened ws i word lt is h =
    subst (λ w. fits opened (w ∷ []) ≡ true) (sym is) (fits-one opened (get_or ws i word) (drop (i + 1) ws) (sym (at_drop_more (fits opened) ws i word lt) ∙ h))

pub fits-more : (names : List ℕ → Option ℕ) (here : ℕ) (s next : State) (ws : List Word) (i : ℕ) (word : Word) → i < length ws → word ≡ get_or ws i word → next ≡ step names here s word
    → fits (length s.outer) (drop i ws) ≡ true → fits (length next.outer) (drop (i + 1) ws) ≡ true
fits-more names here s next ws i word lt is next_is h =
    subst (λ (t : State). fits (length t.outer) (drop (i + 1) ws) ≡ true) (ap (step names here s) (sym is) ∙ sym next_is)
    (fits-step names here s (get_or ws i word) (drop (i + 1) ws) (sym (at_drop_more (fits (length s.outer)) ws i word lt) ∙ h))

pub run-more : (names : List ℕ → Option ℕ) (here : ℕ) (s next : State) (ws : List Word) (i : ℕ) (word : Word) → i < length ws → word ≡ get_or ws i word → next ≡ step names here s word
    → run names here next (drop (i + 1) ws) ≡ run names here s (drop i ws)
unfolding run
run-more names here s next ws i word lt is next_is =
    ap (λ t. run names here t (drop (i + 1) ws)) (next_is ∙ ap (step names here s) is) ∙ sym (at_drop_more (run names here s) ws i word lt)

pub run-all : (names : List ℕ → Option ℕ) (here : ℕ) (s : State) (ws : List Word) (i : ℕ) → length ws ≤ i → run names here s (drop i ws) ≡ s
unfolding run
run-all names here s ws i le = at_drop_all (run names here s) ws i le

abbrev none_of_names : Option (List ℕ)
none_of_names = None

choose_some : (b : Bool) (rest : Option (List ℕ)) (name : List ℕ) → cond b (none_of_names) (Some name) ≡ None → cond b rest (Some name) ≡ rest
choose_some true rest name h = refl
choose_some false rest name h = absurd cc

choose_none : (b : Bool) (rest : Option (List ℕ)) (name found : List ℕ) → cond b (none_of_names) (Some name) ≡ Some found → cond b rest (Some name) ≡ Some found
choose_none true rest name found h = absurd cc
choose_none false rest name found h = h

first_of : (names : List ℕ → Option ℕ) (word : Word) (ws : List Word) → first_undefined names (word ∷ []) ≡ None → first_undefined names (word ∷ ws) ≡ first_undefined names ws
unfolding first_undefined
first_of names (words.Number n) ws h = refl
first_of names (words.Name name) ws h = choose_some (is_some (names name)) (first_undefined names ws) name h
first_of names words.Here ws h = refl
first_of names words.Not ws h = refl
first_of names (words.Operator operator) ws h = refl
first_of names words.Close ws h = refl
first_of names words.Open ws h = refl

some_of : (names : List ℕ → Option ℕ) (word : Word) (ws : List Word) (name : List ℕ) → first_undefined names (word ∷ []) ≡ Some name → first_undefined names (word ∷ ws) ≡ Some name
unfolding first_undefined
some_of names (words.Number n) ws name h = absurd cc
some_of names (words.Name found) ws name h = choose_none (is_some (names found)) (first_undefined names ws) found name h
some_of names words.Here ws name h = absurd cc
some_of names words.Not ws name h = absurd cc
some_of names (words.Operator operator) ws name h = absurd cc
some_of names words.Close ws name h = absurd cc
some_of names words.Open ws name h = absurd cc

pub first_undefined-more : (names : List ℕ → Option ℕ) (ws : List Word) (i : ℕ) (word : Word) → i < length ws → word ≡ get_or ws i word → first_undefined names (word ∷ []) ≡ None
    → first_undefined names (drop (i + 1) ws) ≡ first_undefined names (drop i ws)
first_undefined-more names ws i word lt is none =
    sym (first_of names word (drop (i + 1) ws) none) ∙ ap (λ w. first_undefined names (w ∷ drop (i + 1) ws)) is ∙ sym (at_drop_more (first_undefined names) ws i word lt)

pub first_undefined-found : (names : List ℕ → Option ℕ) (ws : List Word) (i : ℕ) (word : Word) (name : List ℕ) → i < length ws → word ≡ get_or ws i word → first_undefined names (word ∷ []) ≡ Some name
    → first_undefined names (drop i ws) ≡ Some name
first_undefined-found names ws i word name lt is some =
    at_drop_more (first_undefined names) ws i word lt ∙ ap (λ w. first_undefined names (w ∷ drop (i + 1) ws)) (sym is) ∙ some_of names word (drop (i + 1) ws) name some

pub first_undefined-none : (names : List ℕ → Option ℕ) (ws : List Word) (i : ℕ) → length ws ≤ i → first_undefined names (drop i ws) ≡ None
unfolding first_undefined
first_undefined-none names ws i le = at_drop_all (first_undefined names) ws i le
