-- The names of an assembly stand in the order of their first definitions.
use Rattle.std.proofs.Common.{◌≡◌, ℕ, Bool, true, false, cond, ◌||◌, ◌&&◌, List, [], ◌∷◌, ◌++◌, map, fold, Option, Some, None, refl, sym, ap, ◌∙◌, append_assoc}
use Rattle.std.specs.Prelude.{not, filter}
use Rattle.std.specs.List.{list_any, filter_map, cons_option}
use Rattle.std.specs.Cmp.Lexicographic.{same_text}
use Rattle.std.proofs.lemmas.List.{append-nil, map-append}
use Rattle.std.proofs.lemmas.List.Folds.{list_any-append}
use Rattle.indexmap.specs.IndexMap.{insert_entry}
use Rattle.sp_asm.specs.Names.{Definition, Entries, with_definition, name_of, is_set}
use Rattle.sp_asm.specs.Assembly.{Place, Row, definition_by, definition_of, defined_value, definitions, places_of, names_of}
use Rattle.sp_asm.specs.Meanings.{each_once, defined_names}
use Rattle.sp_asm.proofs.DefinitionLemmas.{eq}

abbrev keys : Entries → List (List ℕ)
keys es = map (λ e. e.0) es

-- whether a name is among others
abbrev among : List ℕ → List (List ℕ) → Bool
among name names = list_any (λ k. eq name k) names

abbrev fresh : List (List ℕ) → List ℕ → Bool
fresh names name = not (among name names)

-- ---- Lists

module _ {X : Type 0} where
  filter_same : (p q : X → Bool) (xs : List X) → ((x : X) → p x ≡ q x) → filter p xs ≡ filter q xs
  filter_same p q [] h = refl
  filter_same p q (x ∷ xs) h = let below = filter_same p q xs h in λ i. cond (h x i) (x ∷ below i) (below i)

  kept : (p : X → Bool) (x : X) (b : Bool) (xs ys : List X) → filter p xs ≡ ys → filter p (cond b (x ∷ xs) xs) ≡ cond (b && p x) (x ∷ ys) ys
  kept p x true xs ys e = λ i. cond (p x) (x ∷ e i) (e i)
  kept p x false xs ys e = e

  filter_twice : (p q : X → Bool) (xs : List X) → filter p (filter q xs) ≡ filter (λ x. q x && p x) xs
  filter_twice p q [] = refl
  filter_twice p q (x ∷ xs) = kept p x (q x) (filter q xs) (filter (λ y. q y && p y) xs) (filter_twice p q xs)

filter_all : (names : List (List ℕ)) → filter (fresh []) names ≡ names
filter_all [] = refl
filter_all (name ∷ names) = ap (λ l. name ∷ l) (filter_all names)

-- ---- One name more

pushed : (name : List ℕ) (b : Bool) (xs ys : List (List ℕ)) → name ∷ cond b xs ys ≡ cond b (name ∷ xs) (name ∷ ys)
pushed name true xs ys = refl
pushed name false xs ys = refl

keys-insert : (name : List ℕ) (v : ℕ) (es : Entries) → keys (insert_entry eq es name v) ≡ cond (among name (keys es)) (keys es) (keys es ++ name ∷ [])
keys-insert name v [] = refl
keys-insert name v (e ∷ es) = by (keys-insert name v es) (eq name e.0)
  where
    by : keys (insert_entry eq es name v) ≡ cond (among name (keys es)) (keys es) (keys es ++ name ∷ []) → (b : Bool) → keys (cond b ((e.0, v) ∷ es) (e ∷ insert_entry eq es name v)) ≡ cond (b || among name (keys es)) (e.0 ∷ keys es) (e.0 ∷ (keys es ++ name ∷ []))
    by below true = refl
    by below false = ap (λ l. e.0 ∷ l) below ∙ pushed e.0 (among name (keys es)) (keys es) (keys es ++ name ∷ [])

known : (names : List (List ℕ)) (name other : List ℕ) → among name names ≡ true → fresh names other ≡ (not (eq other name) && fresh names other)
known names name other e = by (eq other name) refl
  where
    by : (b : Bool) → eq other name ≡ b → fresh names other ≡ (not b && fresh names other)
    by true same = ap (λ n. fresh names n) (same_text other name (sym same)) ∙ ap not e
    by false apart = refl

not_or : (a b : Bool) → not (a || (b || false)) ≡ (not b && not a)
not_or true true = refl
not_or true false = refl
not_or false true = refl
not_or false false = refl

unknown : (names : List (List ℕ)) (name other : List ℕ) → fresh (names ++ name ∷ []) other ≡ (not (eq other name) && fresh names other)
unknown names name other = ap not (list_any-append (λ k. eq other k) names (name ∷ [])) ∙ not_or (among other names) (eq other name)

one_more : (known_names later : List (List ℕ)) (name : List ℕ) (b : Bool) → among name known_names ≡ b
    → cond b known_names (known_names ++ name ∷ []) ++ filter (fresh (cond b known_names (known_names ++ name ∷ []))) later
    ≡ known_names ++ filter (fresh known_names) (name ∷ filter (λ other. not (eq other name)) later)
one_more names later name true e =
    let same : filter (fresh names) later ≡ filter (fresh names) (filter (λ other. not (eq other name)) later) =
    filter_same (fresh names) (λ other. not (eq other name) && fresh names other) later (λ other. known names name other e)
    ∙ sym (filter_twice (fresh names) (λ other. not (eq other name)) later) in
    ap (λ l. names ++ l) same
    ∙ ap (λ b. names ++ cond (not b) (name ∷ filter (fresh names) (filter (λ other. not (eq other name)) later)) (filter (fresh names) (filter (λ other. not (eq other name)) later))) (sym e)
one_more names later name false e =
    let same : filter (fresh (names ++ name ∷ [])) later ≡ filter (fresh names) (filter (λ other. not (eq other name)) later) =
    filter_same (fresh (names ++ name ∷ [])) (λ other. not (eq other name) && fresh names other) later (λ other. unknown names name other)
    ∙ sym (filter_twice (fresh names) (λ other. not (eq other name)) later) in
    append_assoc names (name ∷ []) (filter (fresh (names ++ name ∷ [])) later)
    ∙ ap (λ l. names ++ name ∷ l) same
    ∙ ap (λ b. names ++ cond (not b) (name ∷ filter (fresh names) (filter (λ other. not (eq other name)) later)) (filter (fresh names) (filter (λ other. not (eq other name)) later))) (sym e)

abbrev names_in : List Definition → List (List ℕ)
names_in ds = map (λ d. d.name) ds

keys-fold : (es : Entries) (ds : List Definition) → keys (fold with_definition es ds) ≡ keys es ++ filter (fresh (keys es)) (each_once (names_in ds))
keys-fold es [] = sym (append-nil (keys es))
keys-fold es (d ∷ ds) =
    keys-fold (with_definition es d) ds
    ∙ ap (λ (ks : List (List ℕ)). ks ++ filter (fresh ks) (each_once (names_in ds))) (keys-insert d.name d.value es)
    ∙ one_more (keys es) (each_once (names_in ds)) d.name (among d.name (keys es)) refl

-- ---- Places

named_by : (n : Option (List ℕ)) (v : ℕ) (s : Bool) (xs ys : List (List ℕ)) → xs ≡ ys → names_in (definition_by n v s) ++ xs ≡ cons_option n ys
named_by None v s xs ys e = e
named_by (Some name) v s xs ys e = ap (λ l. name ∷ l) e

names_in-definitions : (places : List Place) → names_in (definitions places) ≡ filter_map (λ (p : Place). name_of p.statement) places
names_in-definitions [] = refl
names_in-definitions (p ∷ places) =
    map-append (λ (d : Definition). d.name) (definition_of p) (definitions places)
    ∙ named_by (name_of p.statement) (defined_value p.statement.code p.address p.value) (is_set p.statement.code) (names_in (definitions places)) (filter_map (λ (q : Place). name_of q.statement) places)
    (names_in-definitions places)

pub names_in_order : (rows : List Row) → map (λ e. e.0) (names_of rows) ≡ each_once (defined_names rows)
names_in_order rows =
    keys-fold [] (definitions (places_of rows)) ∙ filter_all (each_once (names_in (definitions (places_of rows)))) ∙ ap each_once (names_in-definitions (places_of rows))
