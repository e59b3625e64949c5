-- The form of option words, as it is tested word by word.
use Rattle.std.proofs.Common.{◌≡◌, ◌∙◌, sym, ap, ap₂, refl, ◌&&◌, Bool, cond, true, false, not, ℕ, List, [], ◌∷◌, Option, Some, None, is_some}
use Rattle.std.specs.Prelude.{option_map, option_and_then}
use Rattle.std.specs.List.{list_all}
use Rattle.sp_run.specs.declared.form.Reader.{Reader}
use Rattle.sp_run.specs.declared.names.OptionName.{OptionName}
use Rattle.sp_run.specs.declared.names.OptionName.TheVariants.{Pc, Steps, Set}
use Rattle.sp_run.specs.declared.settings.Setting.{Setting}
use Rattle.sp_run.specs.Words.{alone, joined, given_from}
use Rattle.sp_run.specs.Values.{word_of, count_of}
use Rattle.sp_run.specs.Settings.{setting_of}
use Rattle.sp_run.specs.Options.{at_most_once, texts_of, settings_of, options_from, options_of}
use Rattle.sp_run.specs.Form.{fits, fits_if_any, admits}

-- ---- Words one by one

-- what may follow, once an option has its value
abbrev after_value : Reader → OptionName → List ℕ → List (List ℕ) → Bool
after_value reader name value words = fits_if_any reader.has_pc reader.has_steps (option_map (λ given. (name, value) ∷ given) (given_from None words))

pub admits-due : (reader : Reader) (name : OptionName) (value : List ℕ) (words : List (List ℕ)) → reader.due ≡ Some name
    → admits reader (value ∷ words) ≡ after_value reader name value words
unfolding given_from
admits-due reader name value words due = ap (λ d. fits_if_any reader.has_pc reader.has_steps (given_from d (value ∷ words))) due

given_word : (word : List ℕ) (words : List (List ℕ)) (a : Option OptionName) (j : Option (OptionName × List ℕ)) → alone word ≡ a → joined word ≡ j
    → given_from None (word ∷ words) ≡ cond (is_some a) (given_from a words) (option_and_then (λ first. option_map (λ given. first ∷ given) (given_from None words)) j)
unfolding given_from
given_word word words a j ea ej =
    ap₂ (λ b k. cond (is_some b) (given_from b words) (option_and_then (λ first. option_map (λ given. first ∷ given) (given_from None words)) k)) ea ej

pub admits-alone : (reader : Reader) (name : OptionName) (word : List ℕ) (words : List (List ℕ)) → reader.due ≡ None → alone word ≡ Some name
    → admits (record reader { due = Some name }) words ≡ admits reader (word ∷ words)
admits-alone reader name word words due is =
    sym (ap (λ d. fits_if_any reader.has_pc reader.has_steps (given_from d (word ∷ words))) due
    ∙ ap (fits_if_any reader.has_pc reader.has_steps) (given_word word words (Some name) (joined word) is refl))

pub admits-joined : (reader : Reader) (name : OptionName) (value word : List ℕ) (words : List (List ℕ)) → reader.due ≡ None → alone word ≡ None → joined word ≡ Some (name, value)
    → admits reader (word ∷ words) ≡ after_value reader name value words
admits-joined reader name value word words due none is =
    ap (λ d. fits_if_any reader.has_pc reader.has_steps (given_from d (word ∷ words))) due
    ∙ ap (fits_if_any reader.has_pc reader.has_steps) (given_word word words None (Some (name, value)) none is)

pub admits-none : (reader : Reader) (word : List ℕ) (words : List (List ℕ)) → reader.due ≡ None → alone word ≡ None → joined word ≡ None → admits reader (word ∷ words) ≡ false
admits-none reader word words due none is =
    ap (λ d. fits_if_any reader.has_pc reader.has_steps (given_from d (word ∷ words))) due
    ∙ ap (fits_if_any reader.has_pc reader.has_steps) (given_word word words None None none is)

pub value_taken : (old new : Reader) (name : OptionName) (value : List ℕ) (words : List (List ℕ)) → new.due ≡ None
    → ((given : List (OptionName × List ℕ)) → fits new.has_pc new.has_steps given ≡ fits old.has_pc old.has_steps ((name, value) ∷ given))
    → admits new words ≡ after_value old name value words
value_taken old new name value words due same = ap (λ d. fits_if_any new.has_pc new.has_steps (given_from d words)) due ∙ go (given_from None words)
  where
    go : (o : Option (List (OptionName × List ℕ))) → fits_if_any new.has_pc new.has_steps o ≡ fits_if_any old.has_pc old.has_steps (option_map (λ given. (name, value) ∷ given) o)
    go None = refl
    go (Some given) = same given

pub value_refused : (old : Reader) (name : OptionName) (value : List ℕ) (words : List (List ℕ))
    → ((given : List (OptionName × List ℕ)) → fits old.has_pc old.has_steps ((name, value) ∷ given) ≡ false) → after_value old name value words ≡ false
value_refused old name value words never = go (given_from None words)
  where
    go : (o : Option (List (OptionName × List ℕ))) → fits_if_any old.has_pc old.has_steps (option_map (λ given. (name, value) ∷ given) o) ≡ false
    go None = refl
    go (Some given) = never given

-- nothing may be missing at the end
pub admits-end : (reader : Reader) (b : Bool) → b ≡ not (is_some reader.due) → b ≡ admits reader []
unfolding given_from
admits-end reader b is = is ∙ go reader.due
  where
    go : (d : Option OptionName) → not (is_some d) ≡ fits_if_any reader.has_pc reader.has_steps (given_from d [])
    go None = refl
    go (Some name) = refl

-- ---- The whole

-- an option that may stand once, in another form
abbrev once : (seen : Bool) → (List ℕ → Bool) → List (List ℕ) → Bool
once seen test [] = true
once seen test (text ∷ texts) = not seen && test text && once true test texts

abbrev is_word : List ℕ → Bool
is_word text = is_some (word_of text)

abbrev is_count : List ℕ → Bool
is_count text = is_some (count_of text)

abbrev is_setting : List ℕ → Bool
is_setting text = is_some (setting_of text)

abbrev parts : (p s : Bool) → List (OptionName × List ℕ) → Bool
parts p s given = once p is_word (texts_of Pc given) && (once s is_count (texts_of Steps given) && list_all is_setting (texts_of Set given))

first_moved : (x a r : Bool) → (x && (a && r)) ≡ ((x && a) && r)
first_moved true a r = refl
first_moved false a r = refl

and_false : (x : Bool) → (x && false) ≡ false
and_false true = refl
and_false false = refl

second_moved : (x a b r : Bool) → (x && (a && (b && r))) ≡ (a && ((x && b) && r))
second_moved true a b r = refl
second_moved false a b r = sym (and_false a)

third_moved : (x a b r : Bool) → (x && (a && (b && r))) ≡ (a && (b && (x && r)))
third_moved true a b r = refl
third_moved false a b r = sym (ap (λ y. a && y) (and_false b) ∙ and_false a)

fits-parts : (p s : Bool) (given : List (OptionName × List ℕ)) → fits p s given ≡ parts p s given
fits-parts p s [] = refl
fits-parts p s ((Pc, text) ∷ given) = ap (λ b. not p && is_word text && b) (fits-parts true s given) ∙ first_moved (not p && is_word text) _ _
fits-parts p s ((Steps, text) ∷ given) = ap (λ b. not s && is_count text && b) (fits-parts p true given) ∙ second_moved (not s && is_count text) _ _ _
fits-parts p s ((Set, text) ∷ given) = ap (λ b. is_setting text && b) (fits-parts p s given) ∙ third_moved (is_setting text) _ _ _

once_is : {X : Type 0} (read : List ℕ → Option X) (missing : X) (texts : List (List ℕ)) → is_some (at_most_once read missing texts) ≡ once false (λ text. is_some (read text)) texts
once_is read missing [] = refl
once_is read missing (text ∷ []) = and_true (is_some (read text))
  where
    and_true : (b : Bool) → b ≡ (b && true)
    and_true true = refl
    and_true false = refl
once_is read missing (text ∷ other ∷ texts) = sym (and_false (is_some (read text)))

settings_are : (texts : List (List ℕ)) → is_some (settings_of texts) ≡ list_all is_setting texts
settings_are [] = refl
settings_are (text ∷ texts) = go (setting_of text) (settings_of texts) ∙ ap (λ b. is_setting text && b) (settings_are texts)
  where
    go : (o : Option Setting) (rest : Option (List Setting)) → is_some (option_and_then (λ setting. option_map (λ settings. setting ∷ settings) rest) o) ≡ (is_some o && is_some rest)
    go None rest = refl
    go (Some setting) None = refl
    go (Some setting) (Some settings) = refl

some_word : (o : Option ℕ) → is_some (option_map Some o) ≡ is_some o
some_word None = refl
some_word (Some n) = refl

three : {A B C D : Type 0} (f : A → B → C → D) (a : Option A) (b : Option B) (c : Option C)
    → is_some (option_and_then (λ x. option_and_then (λ y. option_map (f x y) c) b) a) ≡ (is_some a && (is_some b && is_some c))
three f None b c = refl
three f (Some x) None c = refl
three f (Some x) (Some y) None = refl
three f (Some x) (Some y) (Some z) = refl

pub options_fit : (given : List (OptionName × List ℕ)) → is_some (options_from given) ≡ fits false false given
options_fit given =
    three (λ pc steps settings. record { pc = pc; steps = steps; settings = settings }) pc steps settings
    ∙ ap₂ (λ (a b : Bool). a && (b && is_some settings))
    (once_is (λ text. option_map Some (word_of text)) None (texts_of Pc given) ∙ (λ i. once false (λ text. some_word (word_of text) i) (texts_of Pc given)))
    (once_is count_of 10000 (texts_of Steps given))
    ∙ ap (λ b. once false is_word (texts_of Pc given) && (once false is_count (texts_of Steps given) && b)) (settings_are (texts_of Set given))
    ∙ sym (fits-parts false false given)
  where
    pc : Option (Option ℕ)
    pc = at_most_once (λ text. option_map Some (word_of text)) None (texts_of Pc given)

    steps : Option ℕ
    steps = at_most_once count_of 10000 (texts_of Steps given)

    settings : Option (List Setting)
    settings = settings_of (texts_of Set given)

-- a new reader admits just the words that are in the form
pub admits-form : (words : List (List ℕ)) → admits (record { due = None; has_pc = false; has_steps = false }) words ≡ is_some (options_of words)
unfolding options_of
admits-form words = go (given_from None words)
  where
    go : (o : Option (List (OptionName × List ℕ))) → fits_if_any false false o ≡ is_some (option_and_then options_from o)
    go None = refl
    go (Some given) = sym (options_fit given)
