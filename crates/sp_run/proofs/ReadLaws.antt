-- Options from the texts that were found for them.
use Rattle.std.proofs.Common.{◌≡◌, ◌∙◌, sym, ap, subst, refl, true, false, true≢false, ℕ, map, List, [], ◌∷◌, Option, Some, None, is_some, codes}
use Rattle.std.specs.Prelude.{option_map, option_and_then, slice_get, unwrap_or, IsSome, find}
use Rattle.std.specs.List.{filter_map, cons_option}
use Rattle.std.specs.Borrow.{Bor}
use Rattle.clap.specs.Matches.{found_of, first_value, matched_of, raw_values}
use Rattle.clap.specs.Walk.{Row, rows_of}
use Rattle.clap.specs.declared.parser.matches.ArgMatches.{ArgMatches}
use Rattle.clap.proofs.WalkLemmas.{first_value-rows, raw_values-rows}
use Rattle.sp_run.specs.declared.names.OptionName.{OptionName}
use Rattle.sp_run.specs.declared.names.OptionName.TheVariants.{Pc, Steps, Set}
use Rattle.sp_run.specs.declared.settings.Setting.{Setting}
use Rattle.sp_run.specs.declared.settings.Options.{Options}
use Rattle.sp_run.specs.Words.{given_from}
use Rattle.sp_run.specs.Values.{word_of, count_of}
use Rattle.sp_run.specs.Settings.{setting_of}
use Rattle.sp_run.specs.Options.{at_most_once, texts_of, settings_of, options_from, options_of}
use Rattle.sp_run.specs.Form.{fits}
use Rattle.sp_run.specs.Matches.{id_of, found_texts, HasGiven}
use Rattle.sp_run.proofs.FormLaws.{options_fit}

-- the first text that was found
pub first_found : (name : OptionName) (m : ArgMatches) → first_value (found_of m) (id_of name) ≡ slice_get (found_texts name m) 0
first_found name m = first_value-rows (found_of m) (id_of name) ∙ go (find (λ r. Rattle.std.specs.Str.bytes_eq r.id (id_of name)) (rows_of (found_of m)))
  where
    go : (o : Option Row) → option_and_then (λ (r : Row). slice_get r.values 0) o ≡ slice_get (unwrap_or (option_map (λ (r : Row). r.values) o) []) 0
    go None = refl
    go (Some r) = refl

filter_map-map : {X Y Z : Type 0} (f : Y → Option Z) (g : X → Y) (xs : List X) → filter_map (λ x. f (g x)) xs ≡ filter_map f (map g xs)
filter_map-map f g [] = refl
filter_map-map f g (x ∷ xs) = ap (cons_option (f (g x))) (filter_map-map f g xs)

-- the settings of the texts that were found
pub settings_found : (m : ArgMatches) (r : Option (Bor (List (Bor (List ℕ))))) (default texts : Bor (List (Bor (List ℕ)))) → texts ≡ unwrap_or r default → default.now ≡ []
    → option_map (λ s. map (λ v. v.now) s.now) r ≡ option_map raw_values (matched_of (found_of m) (codes "set"))
    → filter_map (λ text. setting_of text.now) texts.now ≡ filter_map setting_of (found_texts Set m)
settings_found m r default texts same empty is =
    ap (λ (t : Bor (List (Bor (List ℕ)))). filter_map (λ (text : Bor (List ℕ)). setting_of text.now) t.now) same
    ∙ filter_map-map setting_of (λ (text : Bor (List ℕ)). text.now) (unwrap_or r default).now
    ∙ ap (filter_map setting_of) (found r ∙ ap (λ o. unwrap_or o []) (is ∙ raw_values-rows (found_of m) (codes "set")))
  where
    found : (o : Option (Bor (List (Bor (List ℕ))))) → map (λ (text : Bor (List ℕ)). text.now) (unwrap_or o default).now ≡ unwrap_or (option_map (λ (s : Bor (List (Bor (List ℕ)))). map (λ (v : Bor (List ℕ)). v.now) s.now) o) []
    found None = ap (map (λ (text : Bor (List ℕ)). text.now)) empty
    found (Some s) = refl

-- an option that stands at most once is read from its first text
once_read : {X : Type 0} (read : List ℕ → Option X) (missing : X) (texts : List (List ℕ)) (x : X) → at_most_once read missing texts ≡ Some x
    → x ≡ unwrap_or (option_and_then read (slice_get texts 0)) missing
once_read read missing [] x is = sym (ap (λ o. unwrap_or o missing) is)
once_read read missing (text ∷ []) x is = sym (ap (λ o. unwrap_or o missing) is)
once_read read missing (text ∷ other ∷ texts) x is = let none : None ≡ Some x = is in cc

-- the settings are those of the texts
settings_read : (texts : List (List ℕ)) (settings : List Setting) → settings_of texts ≡ Some settings → filter_map setting_of texts ≡ settings
settings_read [] settings is = ap (λ o. unwrap_or o []) is
settings_read (text ∷ texts) settings is = go (setting_of text) refl (settings_of texts) refl (settings_read texts)
  where
    go : (o : Option Setting) → setting_of text ≡ o → (rest : Option (List Setting)) → settings_of texts ≡ rest
        → ((more : List Setting) → settings_of texts ≡ Some more → filter_map setting_of texts ≡ more) → filter_map setting_of (text ∷ texts) ≡ settings
    go None e rest f read = let none : None ≡ Some settings = rw e at is in cc
    go (Some setting) e None f read = let none : None ≡ Some settings = rw (e, f) at is in cc
    go (Some setting) e (Some more) f read =
        let same : Some (setting ∷ more) ≡ Some settings = rw (e, f) at is in
        rw e (ap (λ xs. setting ∷ xs) (read more f)) ∙ ap (λ o. unwrap_or o []) same

-- what options are made of
record Made (given : List (OptionName × List ℕ)) (o : Options) : Type 0 where
  pc : at_most_once (λ text. option_map Some (word_of text)) None (texts_of Pc given) ≡ Some o.pc
  steps : at_most_once count_of 10000 (texts_of Steps given) ≡ Some o.steps
  settings : settings_of (texts_of Set given) ≡ Some o.settings

-- each part of a chain
parts_made : {A B C D : Type 0} (f : A → B → C → D) (a : Option A) (b : Option B) (c : Option C) (d : D)
    → option_and_then (λ x. option_and_then (λ y. option_map (f x y) c) b) a ≡ Some d
    → (x : A) × (y : B) × (z : C) × (a ≡ Some x) × (b ≡ Some y) × (c ≡ Some z) × (f x y z ≡ d)
parts_made f None b c d is = let none : None ≡ Some d = is in cc
parts_made f (Some x) None c d is = let none : None ≡ Some d = is in cc
parts_made f (Some x) (Some y) None d is = let none : None ≡ Some d = is in cc
parts_made f (Some x) (Some y) (Some z) d is = (x, y, z, refl, refl, refl, ap (λ o. unwrap_or o d) is)

made : (given : List (OptionName × List ℕ)) (o : Options) → options_from given ≡ Some o → Made given o
made given o is =
    let p = parts_made (λ pc steps settings. let whole : Options = record { pc = pc; steps = steps; settings = settings } in whole)
    (at_most_once (λ text. option_map Some (word_of text)) None (texts_of Pc given)) (at_most_once count_of 10000 (texts_of Steps given)) (settings_of (texts_of Set given)) o is in
    record {
      pc = p.3 ∙ ap (λ (w : Options). Some w.pc) p.6;
      steps = p.4 ∙ ap (λ (w : Options). Some w.steps) p.6;
      settings = p.5 ∙ ap (λ (w : Options). Some w.settings) p.6;
    }

-- a text that gives the program counter
pc_read : (o : Option (List ℕ)) → unwrap_or (option_and_then (λ text. option_map Some (word_of text)) o) None ≡ option_and_then word_of o
pc_read None = refl
pc_read (Some text) = go (word_of text)
  where
    go : (w : Option ℕ) → unwrap_or (option_map Some w) None ≡ w
    go None = refl
    go (Some n) = refl

-- what is found makes the options that the words stand for
all_read : (m : ArgMatches) (given : List (OptionName × List ℕ)) (o whole : Options) → ((name : OptionName) → found_texts name m ≡ texts_of name given) → options_from given ≡ Some whole
    → o.pc ≡ option_and_then word_of (first_value (found_of m) (codes "pc"))
    → o.steps ≡ unwrap_or (option_and_then count_of (first_value (found_of m) (codes "steps"))) 10000
    → o.settings ≡ filter_map setting_of (found_texts Set m)
    → ◌≡◌ {A = Options} whole o
all_read m given o whole found is pc steps settings =
    let parts = made given whole is in
    let first = λ (name : OptionName). first_found name m ∙ ap (λ (texts : List (List ℕ)). slice_get texts 0) (found name) in
    let whole_pc : whole.pc ≡ o.pc =
    once_read (λ text. option_map Some (word_of text)) None (texts_of Pc given) whole.pc parts.pc ∙ pc_read (slice_get (texts_of Pc given) 0)
    ∙ sym (pc ∙ ap (option_and_then word_of) (first Pc)) in
    let whole_steps : whole.steps ≡ o.steps =
    once_read count_of 10000 (texts_of Steps given) whole.steps parts.steps ∙ sym (steps ∙ ap (λ t. unwrap_or (option_and_then count_of t) 10000) (first Steps)) in
    let whole_settings : whole.settings ≡ o.settings = sym (settings ∙ ap (filter_map setting_of) (found Set) ∙ settings_read (texts_of Set given) whole.settings parts.settings) in
    λ i. record { pc = whole_pc i; steps = whole_steps i; settings = whole_settings i }

pub read_is : (words : List (List ℕ)) (m : ArgMatches) (o : Options) → IsSome (options_of words) → HasGiven words m
    → o.pc ≡ option_and_then word_of (first_value (found_of m) (codes "pc"))
    → o.steps ≡ unwrap_or (option_and_then count_of (first_value (found_of m) (codes "steps"))) 10000
    → o.settings ≡ filter_map setting_of (found_texts Set m)
    → options_of words ≡ Some o
unfolding options_of
read_is words m o some found pc steps settings = go (given_from None words) refl
  where
    whole_is : (given : List (OptionName × List ℕ)) → given_from None words ≡ Some given → (w : Option Options) → options_from given ≡ w → options_of words ≡ Some o
    whole_is given e None f = absurd (true≢false (sym (subst (λ x. IsSome x) f (subst (λ x. IsSome (option_and_then options_from x)) e some))))
    whole_is given e (Some whole) f =
        let fit : fits false false given ≡ true = sym (options_fit given) ∙ ap is_some f in
        ap (option_and_then options_from) e ∙ f ∙ ap Some (all_read m given o whole (found given e fit) f pc steps settings)

    go : (g : Option (List (OptionName × List ℕ))) → given_from None words ≡ g → options_of words ≡ Some o
    go None e = absurd (true≢false (sym (subst (λ x. IsSome (option_and_then options_from x)) e some)))
    go (Some given) e = whole_is given e (options_from given) refl
