-- A parser of command lines over option words.
use Rattle.std.proofs.Common.{nat_eq, eqb-true, ◌≡◌, ◌∙◌, sym, ap, subst, refl, ◌&&◌, Bool, cond, true, false, not, true≢false, ℕ, suc, ◌+◌, ◌==◌, arith, take, List, [], ◌∷◌, ◌++◌, Option, Some, None, is_some, append-nil, append_assoc, codes}
use Rattle.std.specs.Option.{option_map, unwrap_or, option_and_then}
use Rattle.std.specs.List.{fold, list_any, before_first, after_first}
use Rattle.std.specs.Str.{bytes_eq}
use Rattle.std.proofs.lemmas.Slice.Eq.{bytes_eq-Decides}
use Rattle.clap.specs.Lexer.{strip_byte, long_of, long_of_rest, short_of, short_of_rest}
use Rattle.clap.specs.Walk.{Held, Row, Rule, Walk, idle, option, all_of, finished, nothing_held, pushed, reacted, settled, used, walk, walked, with_default, with_values}
use Rattle.clap.specs.Simple.{App, built, is_simple, matches_of, new_app, new_rule, on_top, with_rule}
use Rattle.clap.specs.declared.builder.action.ArgAction.{ArgAction}
use Rattle.clap.specs.declared.builder.action.ArgAction.TheVariants.{Append}
use Rattle.clap.specs.declared.builder.action.ArgAction.TheVariants as action
use Rattle.clap.specs.declared.builder.value_parser.ValueParser.TheVariants as parser
use Rattle.clap.specs.declared.builder.value_parser.Reading.TheVariants.{AsWritten}
use Rattle.clap.specs.declared.parser.matches.ValueSource.TheVariants.{CommandLine}
use Rattle.sp_lex.specs.Numbers.{number_of}
use Rattle.sp_run.specs.declared.names.OptionName.{OptionName}
use Rattle.sp_run.specs.declared.names.OptionName.TheVariants.{Pc, Steps, Set}
use Rattle.sp_run.specs.Words.{after_prefix, alone, joined, given_from}
use Rattle.sp_run.specs.Values.{word_of, count_of}
use Rattle.sp_run.specs.Settings.{setting_of, setting_with, target_of, named}
use Rattle.sp_run.specs.Options.{texts_of}
use Rattle.sp_run.specs.Form.{fits}
use Rattle.sp_run.specs.Matches.{id_of}
use Rattle.sp_run.proofs.PrefixLaws.{after_prefix_is}
use Rattle.sp_run.proofs.RowLaws.{all_of-more, all_of-other, without-none}

-- ---- The command

abbrev pub action_of : OptionName → ArgAction
action_of Pc = action.Set
action_of Steps = action.Set
action_of Set = action.Append

-- an option as the command is given it
abbrev pub given_rule : OptionName → Rule
given_rule name = record (new_rule (id_of name)) { long = Some (id_of name); action = Some (action_of name) }

-- and once the command is built
abbrev pub rule_for : OptionName → Rule
rule_for name = record (given_rule name) { parser = Some parser.String; range = Some (record { start_inclusive = 1; end_inclusive = 1 }) }

abbrev pub rules : List Rule
rules = rule_for Pc ∷ rule_for Steps ∷ rule_for Set ∷ []

abbrev pub bare_app : App
bare_app =
    on_top (λ s. record s { disable_version_flag = true }) (on_top (λ s. record s { disable_help_flag = true })
    (on_top (λ s. record s { no_binary_name = true }) (new_app (codes "run"))))

abbrev pub app : App
app = with_rule (with_rule (with_rule bare_app (given_rule Pc)) (given_rule Steps)) (given_rule Set)

pub app_is_simple : is_simple app ≡ true
app_is_simple = refl

pub rules_are : (built app).top.rules ≡ rules
rules_are = refl

pub matches_are : (words : List (List ℕ)) → matches_of app words ≡ finished rules (walk rules [] nothing_held words).held
matches_are words = refl

-- ---- Words

-- a walk between two options, and one in which an option waits for its value
abbrev idle_at : Held → Walk
idle_at h = record { held = h; waiting = idle; position = 1; is_trailing = false; stopped = None }

abbrev due_at : OptionName → Held → Walk
due_at name h = record { held = h; waiting = option (id_of name); position = 1; is_trailing = false; stopped = None }

abbrev waiting_for : OptionName → Held → Held
waiting_for name h = record (settled rules h) { pending = Some (id_of name, []) }

walk_alone : (name : OptionName) (h : Held) → walked rules [] (idle_at h) (codes "--" ++ id_of name) ≡ due_at name (waiting_for name h)
unfolding walked
walk_alone Pc h = refl
walk_alone Steps h = refl
walk_alone Set h = refl

walk_joined_pc : (value : List ℕ) (h : Held) → walked rules [] (idle_at h) (codes "--pc=" ++ value) ≡ idle_at (reacted rules (rule_for Pc) (value ∷ []) h)
unfolding walked
walk_joined_pc value h = refl

walk_joined_steps : (value : List ℕ) (h : Held) → walked rules [] (idle_at h) (codes "--steps=" ++ value) ≡ idle_at (reacted rules (rule_for Steps) (value ∷ []) h)
unfolding walked
walk_joined_steps value h = refl

-- no hyphen stands in front
abbrev IsPlain : List ℕ → Type 0
IsPlain text = strip_byte 45 text ≡ None

plain_first : (x : ℕ) (text : List ℕ) → IsPlain (x ∷ text) → nat_eq x 45 ≡ false
plain_first x text plain = go (nat_eq x 45) refl
  where
    go : (b : Bool) → nat_eq x 45 ≡ b → nat_eq x 45 ≡ false
    go false is = is
    go true is = let some : Some text ≡ None = rw is at plain in cc

no_dashes : (text : List ℕ) → IsPlain text → bytes_eq text (45 ∷ 45 ∷ []) ≡ false
no_dashes [] plain = refl
no_dashes (x ∷ text) plain = rw (plain_first x text plain) refl

no_long : (text : List ℕ) → IsPlain text → long_of text ≡ None
no_long text plain = ap (λ o. option_and_then long_of_rest (option_and_then (strip_byte 45) o)) plain

no_short : (text : List ℕ) → IsPlain text → short_of text ≡ None
no_short text plain = ap (λ o. option_and_then short_of_rest o) plain

walk_value : (name : OptionName) (value : List ℕ) (h : Held) → IsPlain value
    → walked rules [] (due_at name (waiting_for name h)) value ≡ idle_at (pushed (id_of name) value (waiting_for name h))
unfolding walked
walk_value Pc value h plain = rw (no_dashes value plain, no_long value plain, no_short value plain) refl
walk_value Steps value h plain = rw (no_dashes value plain, no_long value plain, no_short value plain) refl
walk_value Set value h plain = rw (no_dashes value plain, no_long value plain, no_short value plain) refl

-- the rows after uses of options with these values
abbrev uses : List (OptionName × List ℕ) → List Row → List Row
uses [] rows = rows
uses ((name, value) ∷ given) rows = uses given (used (rule_for name) (value ∷ []) rows)

rows_pushed : (name : OptionName) (value : List ℕ) (h : Held)
    → (settled rules (pushed (id_of name) value (waiting_for name h))).rows ≡ used (rule_for name) (value ∷ []) (settled rules h).rows
rows_pushed Pc value h = refl
rows_pushed Steps value h = refl
rows_pushed Set value h = refl

-- ---- Values stand without a hyphen

plain_unless : (f : List ℕ → Bool) → ((text : List ℕ) → f (45 ∷ text) ≡ false) → (value : List ℕ) → f value ≡ true → IsPlain value
plain_unless f never [] is = refl
plain_unless f never (x ∷ text) is = go (nat_eq x 45) refl
  where
    go : (b : Bool) → nat_eq x 45 ≡ b → IsPlain (x ∷ text)
    go false apart = rw apart refl
    go true same = absurd (true≢false (sym is ∙ ap (λ y. f (y ∷ text)) (eqb-true x 45 same) ∙ never text))

no_word : (text : List ℕ) → is_some (word_of (45 ∷ text)) ≡ false
unfolding number_of
no_word text = refl

no_count : (text : List ℕ) → is_some (count_of (45 ∷ text)) ≡ false
no_count text = refl

one_more : (n : ℕ) → 1 + n ≡ suc n
one_more n = omega arith

no_target : (text : List ℕ) → target_of (45 ∷ text) ≡ None
unfolding named number_of
no_target text = refl

no_setting : (text : List ℕ) → is_some (setting_of (45 ∷ text)) ≡ false
unfolding setting_of
no_setting text =
    let front : before_first (λ byte. byte == 61) (45 ∷ text) ≡ 45 ∷ before_first (λ byte. byte == 61) text = ap (λ n. take n (45 ∷ text)) (one_more _) in
    ap (λ target. is_some (option_and_then (λ t. setting_with t (after_first (λ byte. byte == 61) (45 ∷ text))) target)) (ap target_of front ∙ no_target _)

both : (a b : Bool) → (a && b) ≡ true → (a ≡ true) × (b ≡ true)
both true b e = (refl, e)
both false b e = absurd (true≢false (sym e))

-- what follows from the form for the first value and for the others
record Fits (name : OptionName) (value : List ℕ) (given : List (OptionName × List ℕ)) : Type 0 where
  plain : IsPlain value
  has_pc : Bool
  has_steps : Bool
  others : fits has_pc has_steps given ≡ true

fits_first : (p s : Bool) (name : OptionName) (value : List ℕ) (given : List (OptionName × List ℕ)) → fits p s ((name, value) ∷ given) ≡ true → Fits name value given
fits_first p s Pc value given fit =
    let outer = both _ _ fit in
    let inner = both _ _ outer.0 in
    record { plain = plain_unless (λ t. is_some (word_of t)) no_word value inner.1; has_pc = true; has_steps = s; others = outer.1 }
fits_first p s Steps value given fit =
    let outer = both _ _ fit in
    let inner = both _ _ outer.0 in
    record { plain = plain_unless (λ t. is_some (count_of t)) no_count value inner.1; has_pc = p; has_steps = true; others = outer.1 }
fits_first p s Set value given fit =
    let outer = both _ _ fit in
    record { plain = plain_unless (λ t. is_some (setting_of t)) no_setting value outer.0; has_pc = p; has_steps = s; others = outer.1 }

-- ---- The walk

abbrev walk_at : Option OptionName → Held → Walk
walk_at None h = idle_at h
walk_at (Some name) h = due_at name (waiting_for name h)

-- the rows once the walk has gone over the words
abbrev rows_over : Walk → List (List ℕ) → List Row
rows_over w words = (settled rules (fold (walked rules []) w words).held).rows

-- what a word that names an option alone is
alone_is : (word : List ℕ) (name : OptionName) → alone word ≡ Some name → word ≡ codes "--" ++ id_of name
alone_is word name is = go (bytes_eq word (codes "--pc")) refl (bytes_eq word (codes "--steps")) refl (bytes_eq word (codes "--set")) refl
  where
    go : (a : Bool) → bytes_eq word (codes "--pc") ≡ a → (b : Bool) → bytes_eq word (codes "--steps") ≡ b → (d : Bool) → bytes_eq word (codes "--set") ≡ d
        → word ≡ codes "--" ++ id_of name
    go true e b f d g =
        let same : Some Pc ≡ Some name = rw e at is in
        (bytes_eq-Decides word (codes "--pc")).0 e ∙ ap (λ o. codes "--" ++ id_of (unwrap_or o Pc)) same
    go false e true f d g =
        let same : Some Steps ≡ Some name = rw (e, f) at is in
        (bytes_eq-Decides word (codes "--steps")).0 f ∙ ap (λ o. codes "--" ++ id_of (unwrap_or o Pc)) same
    go false e false f true g =
        let same : Some Set ≡ Some name = rw (e, f, g) at is in
        (bytes_eq-Decides word (codes "--set")).0 g ∙ ap (λ o. codes "--" ++ id_of (unwrap_or o Pc)) same
    go false e false f false g = let none : None ≡ Some name = rw (e, f, g) at is in cc

-- the walk over a word that names an option with its value
rows_joined : (word : List ℕ) (first : OptionName × List ℕ) (h : Held) → joined word ≡ Some first
    → (held : Held) × (walked rules [] (idle_at h) word ≡ idle_at held) × ((settled rules held).rows ≡ used (rule_for first.0) (first.1 ∷ []) (settled rules h).rows)
rows_joined word first h is = go (after_prefix (codes "--pc=") word) refl (after_prefix (codes "--steps=") word) refl
  where
    Joins : OptionName × List ℕ → Type 0
    Joins g = (held : Held) × (walked rules [] (idle_at h) word ≡ idle_at held) × ((settled rules held).rows ≡ used (rule_for g.0) (g.1 ∷ []) (settled rules h).rows)

    go : (a : Option (List ℕ)) → after_prefix (codes "--pc=") word ≡ a → (b : Option (List ℕ)) → after_prefix (codes "--steps=") word ≡ b → Joins first
    go (Some value) e b f =
        let same : Some (Pc, value) ≡ Some first = rw e at is in
        let here = after_prefix_is (codes "--pc=") word value e in
        subst Joins (ap (λ o. unwrap_or o first) same) (reacted rules (rule_for Pc) (value ∷ []) h, ap (walked rules [] (idle_at h)) here ∙ walk_joined_pc value h, refl)
    go None e (Some value) f =
        let same : Some (Steps, value) ≡ Some first = rw (e, f) at is in
        let here = after_prefix_is (codes "--steps=") word value f in
        subst Joins (ap (λ o. unwrap_or o first) same) (reacted rules (rule_for Steps) (value ∷ []) h, ap (walked rules [] (idle_at h)) here ∙ walk_joined_steps value h, refl)
    go None e None f = let none : None ≡ Some first = rw (e, f) at is in cc

-- what is given behind a first value
rest_given : (first : OptionName × List ℕ) (rest : Option (List (OptionName × List ℕ))) (given : List (OptionName × List ℕ))
    → option_map (λ more. first ∷ more) rest ≡ Some given → (more : List (OptionName × List ℕ)) × (rest ≡ Some more) × (first ∷ more ≡ given)
rest_given first None given is = let none : None ≡ Some given = is in cc
rest_given first (Some more) given is = (more, refl, ap (λ o. unwrap_or o given) is)

-- the walk over words leaves the rows of the uses that they name
over_words : (due : Option OptionName) (words : List (List ℕ)) (given : List (OptionName × List ℕ)) (h : Held) (p s : Bool)
    → given_from due words ≡ Some given → fits p s given ≡ true → rows_over (walk_at due h) words ≡ uses given (settled rules h).rows
unfolding given_from
over_words None [] given h p s is fit = ap (λ o. uses (unwrap_or o []) (settled rules h).rows) is
over_words (Some name) [] given h p s is fit = let none : None ≡ Some given = is in cc
over_words (Some name) (value ∷ words) given h p s is fit = value_first (over_words None words) (rest_given (name, value) (given_from None words) given is)
  where
    value_first : ((given : List (OptionName × List ℕ)) (h : Held) (p s : Bool) → given_from None words ≡ Some given → fits p s given ≡ true
        → rows_over (walk_at None h) words ≡ uses given (settled rules h).rows)
        → (more : List (OptionName × List ℕ)) × (given_from None words ≡ Some more) × ((name, value) ∷ more ≡ given)
        → rows_over (walk_at (Some name) h) (value ∷ words) ≡ uses given (settled rules h).rows
    value_first over rest =
        let f = fits_first p s name value rest.0 (ap (fits p s) rest.2 ∙ fit) in
        ap (λ w. rows_over w words) (walk_value name value h f.plain)
        ∙ over rest.0 (pushed (id_of name) value (waiting_for name h)) f.has_pc f.has_steps rest.1 f.others
        ∙ ap (uses rest.0) (rows_pushed name value h) ∙ ap (λ g. uses g (settled rules h).rows) rest.2
over_words None (word ∷ words) given h p s is fit = word_first (alone word) refl (joined word) refl (λ name. over_words (Some name) words) (over_words None words)
  where
    Over : Option OptionName → Type 0
    Over due = (given : List (OptionName × List ℕ)) (h : Held) (p s : Bool) → given_from due words ≡ Some given → fits p s given ≡ true
        → rows_over (walk_at due h) words ≡ uses given (settled rules h).rows

    word_first : (a : Option OptionName) → alone word ≡ a → (j : Option (OptionName × List ℕ)) → joined word ≡ j → ((name : OptionName) → Over (Some name)) → Over None
        → rows_over (walk_at None h) (word ∷ words) ≡ uses given (settled rules h).rows
    word_first (Some name) e j f over_due over_none =
        ap (λ w. rows_over w words) (ap (walked rules [] (idle_at h)) (alone_is word name e) ∙ walk_alone name h) ∙ over_due name given h p s (rw e at is) fit
    word_first None e (Some first) f over_due over_none =
        let rest = rest_given first (given_from None words) given (rw (e, f) at is) in
        let met = rows_joined word first h f in
        let fitting = fits_first p s first.0 first.1 rest.0 (ap (fits p s) rest.2 ∙ fit) in
        ap (λ w. rows_over w words) met.1
        ∙ over_none rest.0 met.0 fitting.has_pc fitting.has_steps rest.1 fitting.others
        ∙ ap (uses rest.0) met.2 ∙ ap (λ g. uses g (settled rules h).rows) rest.2
    word_first None e None f over_due over_none = let none : None ≡ Some given = rw (e, f) at is in cc

default_same : (rows : List Row) (name : OptionName) → with_default rows (rule_for name) ≡ rows
default_same rows name = same (list_any (λ r. bytes_eq r.id (id_of name)) rows)
  where
    same : (b : Bool) → cond b rows rows ≡ rows
    same true = refl
    same false = refl

-- ---- The rows

abbrev texts : OptionName → List Row → List (List ℕ)
texts name rows = unwrap_or (all_of (id_of name) rows) []

-- the option may be used: it has no row, or it is `--set`
abbrev IsFresh : OptionName → List Row → Type 0
IsFresh Set rows = Unit {0}
IsFresh name rows = all_of (id_of name) rows ≡ None

used_plain : (name : OptionName) (value : List ℕ) (rows : List Row) → IsFresh name rows
    → used (rule_for name) (value ∷ []) rows ≡ with_values (id_of name) AsWritten CommandLine (value ∷ []) rows
used_plain Pc value rows fresh = ap (with_values (id_of Pc) AsWritten CommandLine (value ∷ [])) (without-none (id_of Pc) rows fresh)
used_plain Steps value rows fresh = ap (with_values (id_of Steps) AsWritten CommandLine (value ∷ [])) (without-none (id_of Steps) rows fresh)
used_plain Set value rows fresh = refl

-- a use adds a text to its option
used_more : (name : OptionName) (value : List ℕ) (rows : List Row) → IsFresh name rows → texts name (used (rule_for name) (value ∷ []) rows) ≡ texts name rows ++ value ∷ []
used_more name value rows fresh =
    ap (texts name) (used_plain name value rows fresh) ∙ ap (λ o. unwrap_or o []) (all_of-more (id_of name) AsWritten CommandLine (value ∷ []) rows)

-- and none to another
used_other : (name other : OptionName) (value : List ℕ) (rows : List Row) → IsFresh name rows → bytes_eq (id_of name) (id_of other) ≡ false
    → all_of (id_of other) (used (rule_for name) (value ∷ []) rows) ≡ all_of (id_of other) rows
used_other name other value rows fresh apart =
    ap (all_of (id_of other)) (used_plain name value rows fresh) ∙ all_of-other (id_of name) (id_of other) AsWritten CommandLine (value ∷ []) rows apart

-- the texts of one option once another one, or the same, is used
abbrev Grows : OptionName → OptionName → Type 0
Grows name first =
    (value : List ℕ) (rows : List Row) (given : List (OptionName × List ℕ)) → IsFresh first rows
    → texts name (used (rule_for first) (value ∷ []) rows) ++ texts_of name given ≡ texts name rows ++ texts_of name ((first, value) ∷ given)

grows_same : (name : OptionName) (value : List ℕ) (rows : List Row) (more : List (List ℕ)) → IsFresh name rows
    → texts name (used (rule_for name) (value ∷ []) rows) ++ more ≡ texts name rows ++ (value ∷ more)
grows_same name value rows more fresh = ap (λ xs. xs ++ more) (used_more name value rows fresh) ∙ append_assoc (texts name rows) (value ∷ []) more

grows_other : (name first : OptionName) (value : List ℕ) (rows : List Row) (more : List (List ℕ)) → IsFresh first rows → bytes_eq (id_of first) (id_of name) ≡ false
    → texts name (used (rule_for first) (value ∷ []) rows) ++ more ≡ texts name rows ++ more
grows_other name first value rows more fresh apart = ap (λ o. unwrap_or o [] ++ more) (used_other first name value rows fresh apart)

grows : (name first : OptionName) → Grows name first
grows Pc Pc value rows given fresh = grows_same Pc value rows (texts_of Pc given) fresh
grows Steps Pc value rows given fresh = grows_other Steps Pc value rows (texts_of Steps given) fresh refl
grows Set Pc value rows given fresh = grows_other Set Pc value rows (texts_of Set given) fresh refl
grows Pc Steps value rows given fresh = grows_other Pc Steps value rows (texts_of Pc given) fresh refl
grows Steps Steps value rows given fresh = grows_same Steps value rows (texts_of Steps given) fresh
grows Set Steps value rows given fresh = grows_other Set Steps value rows (texts_of Set given) fresh refl
grows Pc Set value rows given fresh = grows_other Pc Set value rows (texts_of Pc given) fresh refl
grows Steps Set value rows given fresh = grows_other Steps Set value rows (texts_of Steps given) fresh refl
grows Set Set value rows given fresh = grows_same Set value rows (texts_of Set given) fresh

from_not : (b : Bool) → not b ≡ true → b ≡ false
from_not false e = refl
from_not true e = sym e

-- the texts that the rows have of an option after the uses: those of before, and those that are given
uses_found : (given : List (OptionName × List ℕ)) (p s : Bool) (rows : List Row) → fits p s given ≡ true
    → (p ≡ false → all_of (id_of Pc) rows ≡ None) → (s ≡ false → all_of (id_of Steps) rows ≡ None)
    → (name : OptionName) → texts name (uses given rows) ≡ texts name rows ++ texts_of name given
uses_found [] p s rows fit no_pc no_steps name = sym (append-nil (texts name rows))
uses_found ((Pc, value) ∷ given) p s rows fit no_pc no_steps name =
    let outer = both _ _ fit in
    let fresh = no_pc (from_not p (both _ _ outer.0).0) in
    uses_found given true s (used (rule_for Pc) (value ∷ []) rows) outer.1 (λ e. absurd (true≢false e))
    (λ e. used_other Pc Steps value rows fresh refl ∙ no_steps e) name
    ∙ grows name Pc value rows given fresh
uses_found ((Steps, value) ∷ given) p s rows fit no_pc no_steps name =
    let outer = both _ _ fit in
    let fresh = no_steps (from_not s (both _ _ outer.0).0) in
    uses_found given p true (used (rule_for Steps) (value ∷ []) rows) outer.1
    (λ e. used_other Steps Pc value rows fresh refl ∙ no_pc e) (λ e. absurd (true≢false e)) name
    ∙ grows name Steps value rows given fresh
uses_found ((Set, value) ∷ given) p s rows fit no_pc no_steps name =
    let outer = both _ _ fit in
    uses_found given p s (used (rule_for Set) (value ∷ []) rows) outer.1
    (λ e. used_other Set Pc value rows tt refl ∙ no_pc e) (λ e. used_other Set Steps value rows tt refl ∙ no_steps e) name
    ∙ grows name Set value rows given tt

pub found_is : (words : List (List ℕ)) (given : List (OptionName × List ℕ)) → given_from None words ≡ Some given → fits false false given ≡ true
    → (name : OptionName) → texts name (matches_of app words) ≡ texts_of name given
found_is words given is fit name =
    let rows = rows_over (idle_at nothing_held) words in
    let first = ap (λ r. with_default (with_default r (rule_for Steps)) (rule_for Set)) (default_same rows Pc) in
    let second = ap (λ r. with_default r (rule_for Set)) (default_same rows Steps) in
    ap (texts name) (first ∙ second ∙ default_same rows Set)
    ∙ ap (texts name) (over_words None words given nothing_held false false is fit)
    ∙ uses_found given false false [] fit (λ e. refl) (λ e. refl) name
