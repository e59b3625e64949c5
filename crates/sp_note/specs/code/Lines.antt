-- Reading annotation lines.
use Rattle.std.specs.Prelude.{ℕ, ◌+◌, Bool, true, false, nat_eq, nat_lt, if◌then◌else◌, List, [], ◌∷◌, Option, Some, None, Result, Ok, Err, codes}
use Rattle.std.specs.Option.{option_map, option_and_then}
use Rattle.sp_base.specs.declared.location.Loc.TheVariants as loc
use Rattle.sp_base.specs.declared.locs.Locs.{Locs}
use Rattle.sp_base.specs.Locs.{only, both}
use Rattle.sp_lex.specs.declared.token.LineKind.{LineKind}
use Rattle.sp_lex.specs.declared.token.LineKind.TheVariants as line
use Rattle.sp_lex.specs.declared.token.SourceLine.{SourceLine}
use Rattle.sp_lex.specs.declared.token.Token.{Token}
use Rattle.sp_lex.specs.Readers.{name_at, is_symbol, items_of}
use Rattle.sp_expr.specs.declared.setting.Setting.TheVariants.{Annotation}
use Rattle.sp_expr.specs.declared.word.Word as expr
use Rattle.sp_expr.specs.Words as expressions
use Rattle.sp_expr.specs.code.Nesting.{nest, nests, nests_within}
use Rattle.sp_expr.specs.code.Sentence.{is_sentence_in}
use Rattle.sp_words.specs.declared.annotation.AnnotationWord.{AnnotationWord}
use Rattle.sp_words.specs.declared.annotation.AnnotationWord.TheVariants as named
use Rattle.sp_words.specs.code.Tables.{annotation_word_named}
use Rattle.sp_note.specs.declared.keyword.Keyword.{Keyword}
use Rattle.sp_note.specs.declared.keyword.Keyword.TheVariants as keyword
use Rattle.sp_note.specs.declared.part.Listed.{Listed}
use Rattle.sp_note.specs.declared.part.Listed.TheVariants as listed
use Rattle.sp_note.specs.declared.refusal.NoteKind.{NoteKind}
use Rattle.sp_note.specs.declared.refusal.NoteKind.TheVariants.{Syntax, TooDeep, Sort, Wide}
use Rattle.sp_note.specs.Parts as parts
use Rattle.sp_note.specs.Parts.{Part, Expression, NoteLine}
use Rattle.sp_note.specs.RawNotes.{RawNote}
use Rattle.sp_note.specs.Sorts.{is_truth}
use Rattle.sp_note.specs.Words.{is_text, own_name, own_name_at, words_of}
use Rattle.sp_note.specs.code.Operands.{Known}
use Rattle.sp_note.specs.code.Parser.{parsed}

-- ---- conditions

abbrev pub if_narrow : Option ℕ → RawNote → Result RawNote NoteKind
if_narrow (Some n) tree = Ok tree
if_narrow None tree = Err Wide

abbrev pub if_truth : Known → Result RawNote NoteKind
if_truth x = if is_truth x.sort then if_narrow x.bound x.tree else Err Sort

-- a condition that is read, with its depth: TooDeep comes before Sort, and Sort before Wide
abbrev pub judged : Known × ℕ → Result RawNote NoteKind
judged c = if nat_lt 64 c.1 then Err TooDeep else if_truth c.0

abbrev pub judged_some : Option (Known × ℕ) → Result RawNote NoteKind
judged_some None = Err Syntax
judged_some (Some c) = judged c

unfoldable pub condition_of : List ℕ → List Token → Result RawNote NoteKind
condition_of source tokens = judged_some (option_and_then parsed (words_of source tokens))

-- ---- expressions

abbrev pub checked_words : Option (List expr.Word) → Result Expression NoteKind
checked_words None = Err Syntax
checked_words (Some ws) =
    if is_sentence_in Annotation ws then (if nests_within (nests (nest 0 0) []) ws then Ok ws else Err TooDeep) else Err Syntax

unfoldable pub expression_of : List ℕ → List Token → Result Expression NoteKind
expression_of source tokens = checked_words (expressions.words_of source tokens)

-- of two refusals of one line the one that counts: Syntax, whichever it is
abbrev pub first_kind : NoteKind → NoteKind → NoteKind
first_kind one Syntax = Syntax
first_kind one TooDeep = one
first_kind one Sort = one
first_kind one Wide = one

abbrev pub both_read : {X Y Z : Type 0} → (X → Y → Z) → Result X NoteKind → Result Y NoteKind → Result Z NoteKind
both_read f (Ok x) (Ok y) = Ok (f x y)
both_read f (Ok x) (Err kind) = Err kind
both_read f (Err kind) (Ok y) = Err kind
both_read f (Err kind) (Err other) = Err (first_kind kind other)

abbrev pub read_as : {X Y : Type 0} → (X → Y) → Result X NoteKind → Result Y NoteKind
read_as f (Ok x) = Ok (f x)
read_as f (Err kind) = Err kind

abbrev pub or_syntax : {X : Type 0} → Option X → Result X NoteKind
or_syntax (Some x) = Ok x
or_syntax None = Err Syntax

abbrev pub two_by : {X : Type 0} → (Expression → Expression → X) → List ℕ → List (List Token) → Result X NoteKind
two_by f source [] = Err Syntax
two_by f source (one ∷ []) = Err Syntax
two_by f source (one ∷ other ∷ []) = both_read f (expression_of source one) (expression_of source other)
two_by f source (one ∷ other ∷ more ∷ rest) = Err Syntax

-- two expressions with a comma between them
abbrev pub two : {X : Type 0} → (Expression → Expression → X) → List ℕ → List Token → Result X NoteKind
two f source tokens = two_by f source (items_of source tokens)

-- ---- lists

abbrev pub flags : Locs
flags = both (both (both (both (only loc.S) (only loc.Z)) (only loc.Ac)) (only loc.P)) (only loc.Cy)

abbrev pub locations_of : AnnotationWord → Option Locs
locations_of (named.Loc x) = Some (only x)
locations_of named.Bc = Some (both (only loc.B) (only loc.C))
locations_of named.De = Some (both (only loc.D) (only loc.E))
locations_of named.Hl = Some (both (only loc.H) (only loc.L))
locations_of _ = None

-- the locations that a name means in a list; FLAGS means the five flags, also where an area has this name
unfoldable pub locations_named : List ℕ → Option Locs
locations_named name = if is_text name (codes "FLAGS") then Some flags else option_and_then locations_of (annotation_word_named name)

abbrev pub or_area : Option Locs → List ℕ → Option Listed
or_area (Some locations) name = Some (listed.Locs locations)
or_area None name = option_map (λ area. listed.Area area) (own_name name)

abbrev pub listed_named : List ℕ → Option Listed
listed_named name = or_area (locations_named name) name

unfoldable pub listed_at : List ℕ → List Token → Option Listed
listed_at source [] = None
listed_at source (token ∷ []) = option_and_then listed_named (name_at source token)
listed_at source (token ∷ next ∷ rest) = None

abbrev pub with_item : Option Listed → Option (List Listed) → Option (List Listed)
with_item None rest = None
with_item (Some item) None = None
with_item (Some item) (Some rest) = Some (item ∷ rest)

unfoldable pub list_read : List ℕ → List (List Token) → Option (List Listed)
list_read source [] = Some []
list_read source (item ∷ items) = with_item (listed_at source item) (list_read source items)

abbrev pub with_port : Result Expression NoteKind → Result (List Expression) NoteKind → Result (List Expression) NoteKind
with_port port rest = both_read (λ x xs. x ∷ xs) port rest

unfoldable pub ports_read : List ℕ → List (List Token) → Result (List Expression) NoteKind
ports_read source [] = Ok []
ports_read source (item ∷ items) = with_port (expression_of source item) (ports_read source items)

-- ---- a line

-- a name, a comma and what stands after it
abbrev pub named_by : Option (List ℕ) → List Token → Option (List ℕ × List Token)
named_by None rest = None
named_by (Some name) rest = Some (name, rest)

unfoldable pub name_of : List ℕ → List Token → Option (List ℕ × List Token)
name_of source [] = None
name_of source (first ∷ []) = None
name_of source (first ∷ comma ∷ rest) = if is_symbol (codes ",") source comma then named_by (own_name_at source first) rest else None

abbrev pub area_by : (List ℕ → Expression → Part) → List ℕ → Option (List ℕ × List Token) → Result Part NoteKind
area_by f source None = Err Syntax
area_by f source (Some n) = read_as (f n.0) (expression_of source n.1)

abbrev pub bytes_by : List ℕ → Option (List ℕ × List Token) → Result Part NoteKind
bytes_by source None = Err Syntax
bytes_by source (Some n) = two (parts.Bytes n.0) source n.1

abbrev pub routine_of : List ℕ → List Token → Result Part NoteKind
routine_of source [] = Err Syntax
routine_of source (token ∷ []) = read_as (λ name. parts.Routine name) (or_syntax (own_name_at source token))
routine_of source (token ∷ next ∷ rest) = Err Syntax

abbrev pub alone : Part → List Token → Result Part NoteKind
alone part [] = Ok part
alone part (token ∷ rest) = Err Syntax

unfoldable pub part_after : Keyword → List ℕ → List Token → Result Part NoteKind
part_after keyword.Stack source tokens = two (λ first last. parts.Stack first last) source tokens
part_after keyword.Byte source tokens = area_by (λ name addr. parts.Byte name addr) source (name_of source tokens)
part_after keyword.Word source tokens = area_by (λ name addr. parts.Word name addr) source (name_of source tokens)
part_after keyword.Bytes source tokens = bytes_by source (name_of source tokens)
part_after keyword.Routine source tokens = routine_of source tokens
part_after keyword.Start source tokens = alone parts.Start tokens
part_after keyword.Pre source tokens = read_as (λ p. parts.Pre p) (condition_of source tokens)
part_after keyword.Post source tokens = read_as (λ p. parts.Post p) (condition_of source tokens)
part_after keyword.Reads source tokens = read_as (λ items. parts.Reads items) (or_syntax (list_read source (items_of source tokens)))
part_after keyword.Changes source tokens = read_as (λ items. parts.Changes items) (or_syntax (list_read source (items_of source tokens)))
part_after keyword.Ins source tokens = read_as (λ ports. parts.Ins ports) (ports_read source (items_of source tokens))
part_after keyword.Outs source tokens = read_as (λ ports. parts.Outs ports) (ports_read source (items_of source tokens))
part_after keyword.Depth source tokens = read_as (λ n. parts.Depth n) (expression_of source tokens)
part_after keyword.Assert source tokens = read_as (λ p. parts.Assert p) (condition_of source tokens)
part_after keyword.End source tokens = alone parts.End tokens

-- the keyword that a word in upper case is
unfoldable pub keyword_named : List ℕ → Option Keyword
keyword_named word =
    if is_text word (codes "STACK") then Some keyword.Stack
    else (if is_text word (codes "BYTE") then Some keyword.Byte
    else (if is_text word (codes "WORD") then Some keyword.Word
    else (if is_text word (codes "BYTES") then Some keyword.Bytes
    else (if is_text word (codes "ROUTINE") then Some keyword.Routine
    else (if is_text word (codes "START") then Some keyword.Start
    else (if is_text word (codes "PRE") then Some keyword.Pre
    else (if is_text word (codes "POST") then Some keyword.Post
    else (if is_text word (codes "READS") then Some keyword.Reads
    else (if is_text word (codes "CHANGES") then Some keyword.Changes
    else (if is_text word (codes "INS") then Some keyword.Ins
    else (if is_text word (codes "OUTS") then Some keyword.Outs
    else (if is_text word (codes "DEPTH") then Some keyword.Depth
    else (if is_text word (codes "ASSERT") then Some keyword.Assert
    else (if is_text word (codes "END") then Some keyword.End
    else None))))))))))))))

abbrev pub part_by : Option Keyword → List ℕ → List Token → Result Part NoteKind
part_by None source tokens = Err Syntax
part_by (Some keyword) source tokens = part_after keyword source tokens

unfoldable pub part_at : List ℕ → List Token → Result Part NoteKind
part_at source [] = Err Syntax
part_at source (first ∷ rest) = part_by (option_and_then keyword_named (name_at source first)) source rest

-- ---- a source

-- a refusal with the number of its line
pub record Fault : Type 0 where
  pub kind : NoteKind
  pub line : ℕ

abbrev pub with_first : NoteLine → Result (List NoteLine) Fault → Result (List NoteLine) Fault
with_first first (Ok notes) = Ok (first ∷ notes)
with_first first (Err fault) = Err fault

abbrev pub then_notes : ℕ → Result Part NoteKind → Result (List NoteLine) Fault → Result (List NoteLine) Fault
then_notes number (Err kind) below = Err (record { kind = kind; line = number })
then_notes number (Ok part) below = with_first (record { line = number; part = part }) below

abbrev pub is_annotation : LineKind → Bool
is_annotation line.Annotation = true
is_annotation line.Empty = false
is_annotation line.Statement = false

-- statements and empty lines are passed over
abbrev pub from_line : LineKind → ℕ → Result Part NoteKind → Result (List NoteLine) Fault → Result (List NoteLine) Fault
from_line kind number read below = if is_annotation kind then then_notes number read below else below

-- the annotations of lines, the first of which has this number
unfoldable pub notes_from : List ℕ → ℕ → List SourceLine → Result (List NoteLine) Fault
notes_from source number [] = Ok []
notes_from source number (first ∷ lines) =
    from_line first.kind number (part_at source first.tokens) (notes_from source (number + 1) lines)

-- the annotations of a source's lines, or the refusal of the lowest line that has one
abbrev pub notes_of : List ℕ → List SourceLine → Result (List NoteLine) Fault
notes_of source lines = notes_from source 1 lines
