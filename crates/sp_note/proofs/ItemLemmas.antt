-- The items of lists, one after another.
use Rattle.std.proofs.Common.{◌≡◌, ℕ, Bool, true, false, cond, ◌-◌, ◌<◌, ◌≤◌, List, [], ◌∷◌, ◌++◌, length, take, drop, Option, Some, None, Result, Ok, Err, refl, sym, ap, ◌∙◌, append_assoc, arith}
use Rattle.std.specs.Prelude.{◌==◌, codes}
use Rattle.std.specs.Option.{option_map}
use Rattle.std.proofs.lemmas.List.{append-nil, take_all}
use Rattle.sp_lex.specs.declared.token.Token.{Token}
use Rattle.sp_lex.specs.Readers as lex
use Rattle.sp_lex.specs.Readers.{is_symbol, items_of, items_after}
use Rattle.sp_note.specs.declared.part.Listed.{Listed}
use Rattle.sp_note.specs.declared.refusal.LineRefusal.{LineRefusal}
use Rattle.sp_note.specs.declared.refusal.LineRefusal.TheVariants as line
use Rattle.sp_note.specs.declared.refusal.NoteKind.{NoteKind}
use Rattle.sp_note.specs.declared.refusal.NoteKind.TheVariants.{Syntax, TooDeep, Sort, Wide}
use Rattle.sp_note.specs.Parts.{Expression}
use Rattle.sp_note.specs.code.Answers.{Answers}
use Rattle.sp_note.specs.code.Found.{with_last, AnswersPort}
use Rattle.sp_note.specs.code.Lines.{first_kind, both_read, listed_at, with_item, list_read, expression_of, with_port, ports_read, two_by, two}

-- after the comma that ends an item
pub items_after-comma : (source : List ℕ) (rest : List Token) → 1 ≤ length rest → items_after source rest ≡ items_of source (take (length rest - 1) (drop 1 rest))
items_after-comma source [] some = absurd (omega arith)
items_after-comma source (comma ∷ rest) some = ap (items_of source) (sym (take_all (length (comma ∷ rest) - 1) rest (omega arith)))

-- ---- items of `reads` and `changes`

abbrev pub after_items : List Listed → Option (List Listed) → Option (List Listed)
after_items front rest = option_map (λ items. front ++ items) rest

pub after_items-nil : (rest : Option (List Listed)) → after_items [] rest ≡ rest
after_items-nil None = refl
after_items-nil (Some items) = refl

after_items-one : (front : List Listed) (item : Listed) (rest : Option (List Listed)) → after_items (front ++ item ∷ []) rest ≡ after_items front (with_item (Some item) rest)
after_items-one front item None = refl
after_items-one front item (Some items) = ap (λ all. Some all) (append_assoc front (item ∷ []) items)

first_items : (source : List ℕ) (tokens item rest : List Token) (len : ℕ) → items_of source tokens ≡ take len tokens ∷ items_after source (drop len tokens)
    → item ≡ take len tokens → rest ≡ drop len tokens → items_of source tokens ≡ item ∷ items_after source rest
first_items source tokens item rest len items item_is rest_is =
    items ∙ ap (λ first. first ∷ items_after source (drop len tokens)) (sym item_is) ∙ ap (λ others. item ∷ items_after source others) (sym rest_is)

pub list_read-more : (source : List ℕ) (tokens item rest : List Token) (len : ℕ) (front : List Listed) (x : Listed)
    → items_of source tokens ≡ take len tokens ∷ items_after source (drop len tokens) → item ≡ take len tokens → rest ≡ drop len tokens → listed_at source item ≡ Some x
    → after_items front (list_read source (items_of source tokens)) ≡ after_items (front ++ x ∷ []) (list_read source (items_after source rest))
unfolding list_read
list_read-more source tokens item rest len front x items item_is rest_is found =
    ap (λ all. after_items front (list_read source all)) (first_items source tokens item rest len items item_is rest_is)
    ∙ ap (λ f. after_items front (with_item f (list_read source (items_after source rest)))) found
    ∙ sym (after_items-one front x (list_read source (items_after source rest)))

pub list_read-none : (source : List ℕ) (tokens item rest : List Token) (len : ℕ) (front : List Listed)
    → items_of source tokens ≡ take len tokens ∷ items_after source (drop len tokens) → item ≡ take len tokens → rest ≡ drop len tokens → listed_at source item ≡ None
    → after_items front (list_read source (items_of source tokens)) ≡ None
unfolding list_read
list_read-none source tokens item rest len front items item_is rest_is found =
    ap (λ all. after_items front (list_read source all)) (first_items source tokens item rest len items item_is rest_is)
    ∙ ap (λ f. after_items front (with_item f (list_read source (items_after source rest)))) found

pub list_read-last : (source : List ℕ) (rest : List Token) (front : List Listed) → rest ≡ [] → after_items front (list_read source (items_after source rest)) ≡ Some front
unfolding list_read
list_read-last source rest front none = ap (λ others. after_items front (list_read source (items_after source others))) none ∙ ap (λ items. Some items) (append-nil front)

-- ---- ports

abbrev pub in_front : Result (List Expression) NoteKind → Result (List Expression) NoteKind → Result (List Expression) NoteKind
in_front front rest = both_read (λ xs ys. xs ++ ys) front rest

pub in_front-nil : (rest : Result (List Expression) NoteKind) → in_front (Ok []) rest ≡ rest
in_front-nil (Ok ports) = refl
in_front-nil (Err kind) = refl

first_kind_assoc : (a b c : NoteKind) → first_kind (first_kind a b) c ≡ first_kind a (first_kind b c)
first_kind_assoc a b Syntax = refl
first_kind_assoc a b TooDeep = refl
first_kind_assoc a b Sort = refl
first_kind_assoc a b Wide = refl

in_front-one : (front : Result (List Expression) NoteKind) (port : Result Expression NoteKind) (rest : Result (List Expression) NoteKind)
    → in_front (with_last front port) rest ≡ in_front front (with_port port rest)
in_front-one (Ok front) (Ok port) (Ok rest) = ap (λ all. Ok all) (append_assoc front (port ∷ []) rest)
in_front-one (Ok front) (Ok port) (Err kind) = refl
in_front-one (Ok front) (Err kind) (Ok rest) = refl
in_front-one (Ok front) (Err kind) (Err other) = refl
in_front-one (Err kind) (Ok port) (Ok rest) = refl
in_front-one (Err kind) (Ok port) (Err other) = refl
in_front-one (Err kind) (Err other) (Ok rest) = refl
in_front-one (Err kind) (Err other) (Err third) = ap (λ k. Err k) (first_kind_assoc kind other third)

in_front-nothing : (front : Result (List Expression) NoteKind) → in_front front (Ok []) ≡ front
in_front-nothing (Ok front) = ap (λ all. Ok all) (append-nil front)
in_front-nothing (Err kind) = refl

pub ports_read-more : (source : List ℕ) (tokens item rest : List Token) (len : ℕ) (front : Result (List Expression) NoteKind)
    → items_of source tokens ≡ take len tokens ∷ items_after source (drop len tokens) → item ≡ take len tokens → rest ≡ drop len tokens
    → in_front front (ports_read source (items_of source tokens)) ≡ in_front (with_last front (expression_of source item)) (ports_read source (items_after source rest))
unfolding ports_read
ports_read-more source tokens item rest len front items item_is rest_is =
    ap (λ all. in_front front (ports_read source all)) (first_items source tokens item rest len items item_is rest_is)
    ∙ sym (in_front-one front (expression_of source item) (ports_read source (items_after source rest)))

pub ports_read-last : (source : List ℕ) (rest : List Token) (front : Result (List Expression) NoteKind) → rest ≡ [] → in_front front (ports_read source (items_after source rest)) ≡ front
unfolding ports_read
ports_read-last source rest front none = ap (λ others. in_front front (ports_read source (items_after source others))) none ∙ in_front-nothing front

pub syntax_first : (rest : Result (List Expression) NoteKind) → in_front (Err Syntax) rest ≡ Err Syntax
syntax_first (Ok ports) = refl
syntax_first (Err Syntax) = refl
syntax_first (Err TooDeep) = refl
syntax_first (Err Sort) = refl
syntax_first (Err Wide) = refl

-- ---- two expressions

some_by : (source : List ℕ) (token : Token) (tokens : List Token) (b : Bool) → ((item : List Token) × (items : List (List Token)) × (items_of source tokens ≡ item ∷ items))
    → (item : List Token) × (items : List (List Token)) × (cond b ([] ∷ items_of source tokens) (lex.in_front token (items_of source tokens)) ≡ item ∷ items)
some_by source token tokens true rest = ([], items_of source tokens, refl)
some_by source token tokens false rest = (token ∷ rest.0, rest.1, ap (lex.in_front token) rest.2)

-- there is an item, if an empty one
some_items : (source : List ℕ) (tokens : List Token) → (item : List Token) × (items : List (List Token)) × (items_of source tokens ≡ item ∷ items)
unfolding items_of
some_items source [] = ([], [], refl)
some_items source (token ∷ tokens) = some_by source token tokens (is_symbol (codes ",") source token) (some_items source tokens)

two_more : {X : Type 0} (f : Expression → Expression → X) (source : List ℕ) (one other : List Token) (more : List Token) → (length more == 0) ≡ false → two_by f source (one ∷ other ∷ items_after source more) ≡ Err Syntax
two_more f source one other [] e = absurd cc
two_more f source one other (comma ∷ rest) e = let some = some_items source rest in ap (λ items. two_by f source (one ∷ other ∷ items)) some.2

pub two_long : {X : Type 0} (f : Expression → Expression → X) (source : List ℕ) (tokens after more : List Token) (n m : ℕ)
    → items_of source tokens ≡ take n tokens ∷ items_after source (drop n tokens) → after ≡ drop n tokens → 1 ≤ length after
    → items_of source (take (length after - 1) (drop 1 after)) ≡ take m (take (length after - 1) (drop 1 after)) ∷ items_after source (drop m (take (length after - 1) (drop 1 after)))
    → more ≡ drop m (take (length after - 1) (drop 1 after)) → (length more == 0) ≡ false → two f source tokens ≡ Err Syntax
two_long f source tokens after more n m first after_is some second more_is long =
    let rest = take (length after - 1) (drop 1 after) in
    ap (two_by f source) (first ∙ ap (λ a. take n tokens ∷ items_after source a) (sym after_is) ∙ ap (λ items. take n tokens ∷ items) (items_after-comma source after some ∙ second ∙ ap (λ v. take m rest ∷ items_after source v) (sym more_is)))
    ∙ two_more f source (take n tokens) (take m rest) more long

-- ---- a port that refuses the line

pub port_stops : (X : Type 0) (e : LineRefusal) (now so_far more whole : Result (List Expression) NoteKind) → AnswersPort {X = X} (Err e) now so_far → in_front so_far more ≡ whole → Answers (λ (ports : List Expression). ports) (Err e) whole
port_stops X (line.Kind Syntax) now so_far more whole h is = sym is ∙ ap (λ front. in_front front more) h ∙ syntax_first more
port_stops X (line.Kind TooDeep) now so_far more whole h is = absurd h
port_stops X (line.Kind Sort) now so_far more whole h is = absurd h
port_stops X (line.Kind Wide) now so_far more whole h is = absurd h
port_stops X line.Memory now so_far more whole h is = tt
