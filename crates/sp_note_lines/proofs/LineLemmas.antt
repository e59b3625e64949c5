-- Lines are read by the table of lines.
use Rattle.std.proofs.Common.{◌≡◌, ℕ, true, cond, List, [], ◌∷◌, Option, Some, None, Result, Ok, Err, refl, sym, ap, subst, ◌∙◌, inl, inr}
use Rattle.std.specs.Prelude.{codes}
use Rattle.std.specs.Option.{option_map, option_and_then}
use Rattle.std.specs.Cmp.Lexicographic.{same_text}
use Rattle.std.proofs.lemmas.Bool.{cases_Bool}
use Rattle.sp_base.specs.declared.locs.Locs.{Locs}
use Rattle.sp_lex.specs.declared.token.Token.{Token}
use Rattle.sp_lex.specs.Readers.{name_at, is_symbol, items_of, AreItems}
use Rattle.sp_lex.proofs.ItemLemmas.{items_are, one_items}
use Rattle.sp_expr.specs.declared.setting.Setting.TheVariants.{Annotation}
use Rattle.sp_expr.specs.declared.word.Word as expr
use Rattle.sp_expr.specs.Words as expressions
use Rattle.sp_expr.specs.code.Nesting.{nest, nests, nests_within}
use Rattle.sp_expr.specs.code.Sentence.{is_sentence_in}
use Rattle.sp_expr.proofs.NestingLaws.{shallow}
use Rattle.sp_expr.proofs.TreeLaws.{sentence_is_spelled}
use Rattle.sp_note.specs.declared.keyword.Keyword.{Keyword}
use Rattle.sp_note.specs.declared.keyword.Keyword.TheVariants as keyword
use Rattle.sp_note.specs.declared.part.Listed.{Listed}
use Rattle.sp_note.specs.declared.part.Listed.TheVariants as listed
use Rattle.sp_note.specs.declared.refusal.NoteKind.{NoteKind}
use Rattle.sp_note.specs.declared.refusal.NoteKind.TheVariants.{Syntax, TooDeep}
use Rattle.sp_note.specs.Parts as parts
use Rattle.sp_note.specs.Parts.{Part, Expression}
use Rattle.sp_note.specs.Words.{own_name, own_name_at, is_text}
use Rattle.sp_note.specs.code.Lines.{checked_words, condition_of, expression_of, both_read, read_as, or_syntax, two_by, locations_named, or_area, listed_named, listed_at, with_item, list_read, ports_read, named_by, name_of, area_by, bytes_by, routine_of, alone, part_after, keyword_named, part_by, part_at}
use Rattle.sp_note.proofs.AnswerLemmas.{parsed_ok}
use Rattle.sp_note.proofs.ConditionLemmas.{reads, read_right}
use Rattle.sp_note_lines.specs.Lines.{IsExpression, AreTwo, IsNamed, IsArea, AreBytes, AreEach, Means, IsListed, IsList, ArePorts, IsName, word_of, StandsAfter, IsPart}

-- ---- keywords

abbrev text_of : Keyword → List ℕ
text_of keyword.Stack = codes "STACK"
text_of keyword.Byte = codes "BYTE"
text_of keyword.Word = codes "WORD"
text_of keyword.Bytes = codes "BYTES"
text_of keyword.Routine = codes "ROUTINE"
text_of keyword.Start = codes "START"
text_of keyword.Pre = codes "PRE"
text_of keyword.Post = codes "POST"
text_of keyword.Reads = codes "READS"
text_of keyword.Changes = codes "CHANGES"
text_of keyword.Ins = codes "INS"
text_of keyword.Outs = codes "OUTS"
text_of keyword.Depth = codes "DEPTH"
text_of keyword.Assert = codes "ASSERT"
text_of keyword.End = codes "END"

the_keyword : (a b : Keyword) → Some a ≡ Some b → a ≡ b
the_keyword a b e = cc

by_text : (w : List ℕ) (k : Keyword) (rest : Option Keyword) → ((j : Keyword) → rest ≡ Some j → w ≡ text_of j) → (j : Keyword) → cond (is_text w (text_of k)) (Some k) rest ≡ Some j → w ≡ text_of j
by_text w k rest below j e =
    elim (cases_Bool (is_text w (text_of k))) [
      | inl holds ↦ (let same = the_keyword k j (sym (ap (λ b. cond b (Some k) rest) holds) ∙ e) in same_text w (text_of k) (sym holds) ∙ ap text_of same)
      | inr fails ↦ below j (sym (ap (λ b. cond b (Some k) rest) fails) ∙ e)
    ]

no_keyword : (w : List ℕ) (j : Keyword) → None ≡ Some j → w ≡ text_of j
no_keyword w j e = absurd cc

keyword_is : (w : List ℕ) (j : Keyword) → keyword_named w ≡ Some j → w ≡ text_of j
unfolding keyword_named
keyword_is w =
    by_text w keyword.Stack _ (by_text w keyword.Byte _ (by_text w keyword.Word _ (by_text w keyword.Bytes _ (by_text w keyword.Routine _
    (by_text w keyword.Start _ (by_text w keyword.Pre _ (by_text w keyword.Post _ (by_text w keyword.Reads _ (by_text w keyword.Changes _
    (by_text w keyword.Ins _ (by_text w keyword.Outs _ (by_text w keyword.Depth _ (by_text w keyword.Assert _ (by_text w keyword.End None (no_keyword w)))))))))))))))

abbrev keyword_of : Part → Keyword
keyword_of (parts.Stack first last) = keyword.Stack
keyword_of (parts.Byte name addr) = keyword.Byte
keyword_of (parts.Word name addr) = keyword.Word
keyword_of (parts.Bytes name addr len) = keyword.Bytes
keyword_of (parts.Routine name) = keyword.Routine
keyword_of parts.Start = keyword.Start
keyword_of (parts.Pre p) = keyword.Pre
keyword_of (parts.Post p) = keyword.Post
keyword_of (parts.Reads xs) = keyword.Reads
keyword_of (parts.Changes xs) = keyword.Changes
keyword_of (parts.Ins ports) = keyword.Ins
keyword_of (parts.Outs ports) = keyword.Outs
keyword_of (parts.Depth n) = keyword.Depth
keyword_of (parts.Assert p) = keyword.Assert
keyword_of parts.End = keyword.End

keyword_found : (part : Part) → keyword_named (word_of part) ≡ Some (keyword_of part)
unfolding keyword_named
keyword_found (parts.Stack first last) = refl
keyword_found (parts.Byte name addr) = refl
keyword_found (parts.Word name addr) = refl
keyword_found (parts.Bytes name addr len) = refl
keyword_found (parts.Routine name) = refl
keyword_found parts.Start = refl
keyword_found (parts.Pre p) = refl
keyword_found (parts.Post p) = refl
keyword_found (parts.Reads xs) = refl
keyword_found (parts.Changes xs) = refl
keyword_found (parts.Ins ports) = refl
keyword_found (parts.Outs ports) = refl
keyword_found (parts.Depth n) = refl
keyword_found (parts.Assert p) = refl
keyword_found parts.End = refl

-- ---- answers in parts

abbrev ok : {X : Type 0} → X → Result X NoteKind
ok x = Ok x

the_ok : {X : Type 0} (a b : X) → ok a ≡ ok b → a ≡ b
the_ok a b e = cc

as_ok : {X Y : Type 0} (f : X → Y) (r : Result X NoteKind) (y : Y) → read_as f r ≡ Ok y → (x : X) × (r ≡ Ok x) × (f x ≡ y)
as_ok f (Ok x) y e = (x, refl, the_ok (f x) y e)
as_ok f (Err kind) y e = absurd cc

both_ok : {X Y Z : Type 0} (f : X → Y → Z) (r : Result X NoteKind) (s : Result Y NoteKind) (z : Z) → both_read f r s ≡ Ok z → (x : X) × (y : Y) × (r ≡ Ok x) × (s ≡ Ok y) × (f x y ≡ z)
both_ok f (Ok x) (Ok y) z e = (x, y, refl, refl, the_ok (f x y) z e)
both_ok f (Ok x) (Err kind) z e = absurd cc
both_ok f (Err kind) (Ok y) z e = absurd cc
both_ok f (Err kind) (Err other) z e = absurd cc

both_right : {X Y Z : Type 0} (f : X → Y → Z) (r : Result X NoteKind) (s : Result Y NoteKind) (x : X) (y : Y) → r ≡ Ok x → s ≡ Ok y → both_read f r s ≡ Ok (f x y)
both_right f r s x y e d = ap (λ r. both_read f r s) e ∙ ap (both_read f (Ok x)) d

some_ok : {X : Type 0} (o : Option X) (x : X) → or_syntax o ≡ Ok x → o ≡ Some x
some_ok (Some y) x e = ap (λ v. Some v) (the_ok y x e)
some_ok None x e = absurd cc

-- ---- expressions

module _ (source : List ℕ) where
  words_right : (tokens : List Token) (found : Option (List expr.Word)) (ws : Expression) → expressions.words_of source tokens ≡ found → checked_words found ≡ Ok ws → IsExpression source tokens ws
  words_right tokens None ws is e = absurd cc
  words_right tokens (Some v) ws is e =
      let inner : Result Expression NoteKind = cond (nests_within (nests (nest 0 0) []) v) (Ok v) (Err TooDeep) in
      elim (cases_Bool (is_sentence_in Annotation v)) [
        | inl holds ↦ elim (cases_Bool (nests_within (nests (nest 0 0) []) v)) [
          | inl within ↦ (
              let tree = sentence_is_spelled Annotation v holds in
              let same = the_ok v ws (sym (ap (λ b. cond b inner (Err Syntax)) holds ∙ ap (λ b. cond b (Ok v) (Err TooDeep)) within) ∙ e) in
              subst (IsExpression source tokens) same (record { tree = tree.0; words = is; spells = tree.1; shallow = shallow Annotation v tree.0 tree.1 within }))
          | inr deep ↦ (let bad : Err TooDeep ≡ Ok ws = sym (ap (λ b. cond b inner (Err Syntax)) holds ∙ ap (λ b. cond b (Ok v) (Err TooDeep)) deep) ∙ e in absurd cc)
        ]
        | inr fails ↦ (let bad : Err Syntax ≡ Ok ws = sym (ap (λ b. cond b inner (Err Syntax)) fails) ∙ e in absurd cc)
      ]

  pub expression_ok : (tokens : List Token) (ws : Expression) → expression_of source tokens ≡ Ok ws → IsExpression source tokens ws
  unfolding expression_of
  expression_ok tokens ws e = words_right tokens (expressions.words_of source tokens) ws refl e

  pub expression_right : (tokens : List Token) (ws : Expression) → IsExpression source tokens ws → expression_of source tokens ≡ Ok ws
  unfolding expression_of
  expression_right tokens ws h = parsed_ok ws (expressions.words_of source tokens) (h.words, (h.tree, h.spells, h.shallow))

  -- ---- two expressions

  two_items : {Z : Type 0} (f : Expression → Expression → Z) (tokens : List Token) (items : List (List Token)) (z : Z) → AreItems source tokens items → two_by f source items ≡ Ok z
      → (x : Expression) × (y : Expression) × AreTwo source tokens x y × (f x y ≡ z)
  two_items f tokens [] z are e = absurd cc
  two_items f tokens (one ∷ []) z are e = absurd cc
  two_items f tokens (one ∷ other ∷ []) z are e =
      let both = both_ok f (expression_of source one) (expression_of source other) z e in
      (both.0, both.1, record { one = one; other = other; items = are; left = expression_ok one both.0 both.2; right = expression_ok other both.1 both.3 }, both.4)
  two_items f tokens (one ∷ other ∷ more ∷ rest) z are e = absurd cc

  two_right : {Z : Type 0} (f : Expression → Expression → Z) (tokens : List Token) (x y : Expression) → AreTwo source tokens x y → two_by f source (items_of source tokens) ≡ Ok (f x y)
  two_right f tokens x y h =
      ap (two_by f source) (one_items source tokens (items_of source tokens) (h.one ∷ h.other ∷ []) (items_are source tokens) h.items)
      ∙ both_right f (expression_of source h.one) (expression_of source h.other) x y (expression_right h.one x h.left) (expression_right h.other y h.right)

  -- ---- lists

  means_ok : (name : List ℕ) (found : Option Locs) (x : Listed) → locations_named name ≡ found → or_area found name ≡ Some x → Means name x
  means_ok name (Some ls) x is e =
      let same : listed.Locs ls ≡ x = cc in subst (Means name) same is
  means_ok name None x is e = area (own_name name) refl e
    where
      area : (own : Option (List ℕ)) → own_name name ≡ own → option_map (λ a. listed.Area a) own ≡ Some x → Means name x
      area None o d = absurd cc
      area (Some a) o d = let same : listed.Area a ≡ x = cc in subst (Means name) same (is, o)

  means_right : (name : List ℕ) (x : Listed) → Means name x → or_area (locations_named name) name ≡ Some x
  means_right name (listed.Locs ls) h = ap (λ f. or_area f name) h
  means_right name (listed.Area a) h = ap (λ f. or_area f name) h.0 ∙ ap (option_map (λ a. listed.Area a)) h.1

  named_ok : (token : Token) (found : Option (List ℕ)) (x : Listed) → name_at source token ≡ found → option_and_then listed_named found ≡ Some x → IsListed source (token ∷ []) x
  named_ok token None x is e = absurd cc
  named_ok token (Some name) x is e = record { token = token; name = name; whole = refl; says = is; means = means_ok name (locations_named name) x refl e }

  listed_ok : (item : List Token) (x : Listed) → listed_at source item ≡ Some x → IsListed source item x
  unfolding listed_at
  listed_ok [] x e = absurd cc
  listed_ok (token ∷ []) x e = named_ok token (name_at source token) x refl e
  listed_ok (token ∷ next ∷ rest) x e = absurd cc

  listed_right : (item : List Token) (x : Listed) → IsListed source item x → listed_at source item ≡ Some x
  unfolding listed_at
  listed_right item x h = ap (listed_at source) h.whole ∙ ap (option_and_then listed_named) h.says ∙ means_right h.name x h.means

  item_ok : (item : List Token) (items : List (List Token)) (first : Option Listed) (rest : Option (List Listed)) (xs : List Listed) → listed_at source item ≡ first → ((ys : List Listed) → rest ≡ Some ys → AreEach (IsListed source) items ys)
      → with_item first rest ≡ Some xs → AreEach (IsListed source) (item ∷ items) xs
  item_ok item items None rest xs is below e = absurd cc
  item_ok item items (Some x) None xs is below e = absurd cc
  item_ok item items (Some x) (Some ys) xs is below e =
      let same : x ∷ ys ≡ xs = cc in subst (AreEach (IsListed source) (item ∷ items)) same (listed_ok item x is, below ys refl)

  list_ok : (items : List (List Token)) (xs : List Listed) → list_read source items ≡ Some xs → AreEach (IsListed source) items xs
  unfolding list_read
  list_ok [] [] e = tt
  list_ok [] (x ∷ xs) e = absurd cc
  list_ok (item ∷ items) xs e = item_ok item items (listed_at source item) (list_read source items) xs refl (λ ys. list_ok items ys) e

  list_right : (items : List (List Token)) (xs : List Listed) → AreEach (IsListed source) items xs → list_read source items ≡ Some xs
  unfolding list_read
  list_right [] [] h = refl
  list_right [] (x ∷ xs) h = absurd h
  list_right (item ∷ items) [] h = absurd h
  list_right (item ∷ items) (x ∷ xs) h = ap (λ f. with_item f (list_read source items)) (listed_right item x h.0) ∙ ap (with_item (Some x)) (list_right items xs h.1)

  ports_ok : (items : List (List Token)) (xs : List Expression) → ports_read source items ≡ Ok xs → AreEach (IsExpression source) items xs
  unfolding ports_read
  ports_ok [] [] e = tt
  ports_ok [] (x ∷ xs) e = absurd cc
  ports_ok (item ∷ items) xs e =
      let both = both_ok (λ (y : Expression) (ys : List Expression). y ∷ ys) (expression_of source item) (ports_read source items) xs e in
      subst (AreEach (IsExpression source) (item ∷ items)) both.4 (expression_ok item both.0 both.2, ports_ok items both.1 both.3)

  ports_right : (items : List (List Token)) (xs : List Expression) → AreEach (IsExpression source) items xs → ports_read source items ≡ Ok xs
  unfolding ports_read
  ports_right [] [] h = refl
  ports_right [] (x ∷ xs) h = absurd h
  ports_right (item ∷ items) [] h = absurd h
  ports_right (item ∷ items) (x ∷ xs) h =
      both_right (λ (y : Expression) (ys : List Expression). y ∷ ys) (expression_of source item) (ports_read source items) x xs (expression_right item x h.0) (ports_right items xs h.1)

  the_items : (tokens : List Token) (items : List (List Token)) → AreItems source tokens items → items_of source tokens ≡ items
  the_items tokens items h = one_items source tokens (items_of source tokens) items (items_are source tokens) h

  whole_list : (tokens : List Token) (xs : List Listed) → IsList source tokens xs → or_syntax (list_read source (items_of source tokens)) ≡ Ok xs
  whole_list tokens xs h = ap (λ items. or_syntax (list_read source items)) (the_items tokens h.0 h.1) ∙ ap or_syntax (list_right h.0 xs h.2)

  whole_ports : (tokens : List Token) (xs : List Expression) → ArePorts source tokens xs → ports_read source (items_of source tokens) ≡ Ok xs
  whole_ports tokens xs h = ap (ports_read source) (the_items tokens h.0 h.1) ∙ ports_right h.0 xs h.2

  -- ---- names

  own_ok : (first comma : Token) (rest : List Token) (own : Option (List ℕ)) (n : List ℕ × List Token) → own_name_at source first ≡ own → is_symbol (codes ",") source comma ≡ true → named_by own rest ≡ Some n
      → IsNamed source (first ∷ comma ∷ rest) n.0 n.1
  own_ok first comma rest None n is c e = absurd cc
  own_ok first comma rest (Some name) n is c e =
      let same : (name, rest) ≡ n = cc in
      subst (λ (m : List ℕ × List Token). IsNamed source (first ∷ comma ∷ rest) m.0 m.1) same (record { first = first; comma = comma; whole = refl; names = is; divided = c })

  name_ok : (tokens : List Token) (n : List ℕ × List Token) → name_of source tokens ≡ Some n → IsNamed source tokens n.0 n.1
  unfolding name_of
  name_ok [] n e = absurd cc
  name_ok (first ∷ []) n e = absurd cc
  name_ok (first ∷ comma ∷ rest) n e =
      elim (cases_Bool (is_symbol (codes ",") source comma)) [
        | inl holds ↦ own_ok first comma rest (own_name_at source first) n refl holds (sym (ap (λ b. cond b (named_by (own_name_at source first) rest) None) holds) ∙ e)
        | inr fails ↦ (let bad : None ≡ Some n = sym (ap (λ b. cond b (named_by (own_name_at source first) rest) None) fails) ∙ e in absurd cc)
      ]

  name_right : (tokens : List Token) (name : List ℕ) (rest : List Token) → IsNamed source tokens name rest → name_of source tokens ≡ Some (name, rest)
  unfolding name_of
  name_right tokens name rest h =
      ap (name_of source) h.whole ∙ ap (λ b. cond b (named_by (own_name_at source h.first) rest) None) h.divided ∙ ap (λ o. named_by o rest) h.names

  area_ok : (f : List ℕ → Expression → Part) (tokens : List Token) (found : Option (List ℕ × List Token)) (p : Part) → name_of source tokens ≡ found → area_by f source found ≡ Ok p
      → (name : List ℕ) × (addr : Expression) × IsArea source tokens name addr × (f name addr ≡ p)
  area_ok f tokens None p is e = absurd cc
  area_ok f tokens (Some n) p is e =
      let read = as_ok (f n.0) (expression_of source n.1) p e in
      (n.0, read.0, (n.1, name_ok tokens n is, expression_ok n.1 read.0 read.1), read.2)

  area_right : (f : List ℕ → Expression → Part) (tokens : List Token) (name : List ℕ) (addr : Expression) → IsArea source tokens name addr → area_by f source (name_of source tokens) ≡ Ok (f name addr)
  area_right f tokens name addr h = ap (area_by f source) (name_right tokens name h.0 h.1) ∙ ap (read_as (f name)) (expression_right h.0 addr h.2)

  bytes_ok : (tokens : List Token) (found : Option (List ℕ × List Token)) (p : Part) → name_of source tokens ≡ found → bytes_by source found ≡ Ok p
      → (name : List ℕ) × (addr : Expression) × (len : Expression) × AreBytes source tokens name addr len × (parts.Bytes name addr len ≡ p)
  bytes_ok tokens None p is e = absurd cc
  bytes_ok tokens (Some n) p is e =
      let read = two_items (parts.Bytes n.0) n.1 (items_of source n.1) p (items_are source n.1) e in
      (n.0, read.0, read.1, (n.1, name_ok tokens n is, read.2), read.3)

  bytes_right : (tokens : List Token) (name : List ℕ) (addr len : Expression) → AreBytes source tokens name addr len → bytes_by source (name_of source tokens) ≡ Ok (parts.Bytes name addr len)
  bytes_right tokens name addr len h = ap (bytes_by source) (name_right tokens name h.0 h.1) ∙ two_right (parts.Bytes name) h.0 addr len h.2

  routine_ok : (tokens : List Token) (p : Part) → routine_of source tokens ≡ Ok p → (name : List ℕ) × IsName source tokens name × (parts.Routine name ≡ p)
  routine_ok [] p e = absurd cc
  routine_ok (token ∷ []) p e =
      let read = as_ok (λ name. parts.Routine name) (or_syntax (own_name_at source token)) p e in
      (read.0, record { token = token; whole = refl; names = some_ok (own_name_at source token) read.0 read.1 }, read.2)
  routine_ok (token ∷ next ∷ rest) p e = absurd cc

  routine_right : (tokens : List Token) (name : List ℕ) → IsName source tokens name → routine_of source tokens ≡ Ok (parts.Routine name)
  routine_right tokens name h = ap (routine_of source) h.whole ∙ ap (λ o. read_as (λ n. parts.Routine n) (or_syntax o)) h.names

  alone_ok : (part : Part) (tokens : List Token) (p : Part) → alone part tokens ≡ Ok p → (tokens ≡ []) × (part ≡ p)
  alone_ok part [] p e = (refl, the_ok part p e)
  alone_ok part (token ∷ rest) p e = absurd cc

  -- ---- lines

  abbrev Said : List ℕ → List Token → Part → Type 0
  Said w rest p = (w ≡ word_of p) × StandsAfter source rest p

  after_ok : (k : Keyword) (rest : List Token) (p : Part) → part_after k source rest ≡ Ok p → Said (text_of k) rest p
  unfolding part_after
  after_ok keyword.Stack rest p e =
      let r = two_items (λ first last. parts.Stack first last) rest (items_of source rest) p (items_are source rest) e in subst (Said (codes "STACK") rest) r.3 (refl, r.2)
  after_ok keyword.Byte rest p e = let r = area_ok (λ name addr. parts.Byte name addr) rest (name_of source rest) p refl e in subst (Said (codes "BYTE") rest) r.3 (refl, r.2)
  after_ok keyword.Word rest p e = let r = area_ok (λ name addr. parts.Word name addr) rest (name_of source rest) p refl e in subst (Said (codes "WORD") rest) r.3 (refl, r.2)
  after_ok keyword.Bytes rest p e = let r = bytes_ok rest (name_of source rest) p refl e in subst (Said (codes "BYTES") rest) r.4 (refl, r.3)
  after_ok keyword.Routine rest p e = let r = routine_ok rest p e in subst (Said (codes "ROUTINE") rest) r.2 (refl, r.1)
  after_ok keyword.Start rest p e = let r = alone_ok parts.Start rest p e in subst (Said (codes "START") rest) r.1 (refl, r.0)
  after_ok keyword.Pre rest p e = let r = as_ok (λ c. parts.Pre c) (condition_of source rest) p e in subst (Said (codes "PRE") rest) r.2 (refl, reads source rest r.0 r.1)
  after_ok keyword.Post rest p e = let r = as_ok (λ c. parts.Post c) (condition_of source rest) p e in subst (Said (codes "POST") rest) r.2 (refl, reads source rest r.0 r.1)
  after_ok keyword.Reads rest p e =
      let r = as_ok (λ xs. parts.Reads xs) (or_syntax (list_read source (items_of source rest))) p e in
      subst (Said (codes "READS") rest) r.2 (refl, (items_of source rest, items_are source rest, list_ok (items_of source rest) r.0 (some_ok (list_read source (items_of source rest)) r.0 r.1)))
  after_ok keyword.Changes rest p e =
      let r = as_ok (λ xs. parts.Changes xs) (or_syntax (list_read source (items_of source rest))) p e in
      subst (Said (codes "CHANGES") rest) r.2 (refl, (items_of source rest, items_are source rest, list_ok (items_of source rest) r.0 (some_ok (list_read source (items_of source rest)) r.0 r.1)))
  after_ok keyword.Ins rest p e =
      let r = as_ok (λ ports. parts.Ins ports) (ports_read source (items_of source rest)) p e in
      subst (Said (codes "INS") rest) r.2 (refl, (items_of source rest, items_are source rest, ports_ok (items_of source rest) r.0 r.1))
  after_ok keyword.Outs rest p e =
      let r = as_ok (λ ports. parts.Outs ports) (ports_read source (items_of source rest)) p e in
      subst (Said (codes "OUTS") rest) r.2 (refl, (items_of source rest, items_are source rest, ports_ok (items_of source rest) r.0 r.1))
  after_ok keyword.Depth rest p e = let r = as_ok (λ n. parts.Depth n) (expression_of source rest) p e in subst (Said (codes "DEPTH") rest) r.2 (refl, expression_ok rest r.0 r.1)
  after_ok keyword.Assert rest p e = let r = as_ok (λ c. parts.Assert c) (condition_of source rest) p e in subst (Said (codes "ASSERT") rest) r.2 (refl, reads source rest r.0 r.1)
  after_ok keyword.End rest p e = let r = alone_ok parts.End rest p e in subst (Said (codes "END") rest) r.1 (refl, r.0)

  after_right : (p : Part) (rest : List Token) → StandsAfter source rest p → part_after (keyword_of p) source rest ≡ Ok p
  unfolding part_after
  after_right (parts.Stack first last) rest h = two_right (λ x y. parts.Stack x y) rest first last h
  after_right (parts.Byte name addr) rest h = area_right (λ n a. parts.Byte n a) rest name addr h
  after_right (parts.Word name addr) rest h = area_right (λ n a. parts.Word n a) rest name addr h
  after_right (parts.Bytes name addr len) rest h = bytes_right rest name addr len h
  after_right (parts.Routine name) rest h = routine_right rest name h
  after_right parts.Start rest h = ap (alone parts.Start) h
  after_right (parts.Pre p) rest h = ap (read_as (λ c. parts.Pre c)) (read_right source rest p h)
  after_right (parts.Post p) rest h = ap (read_as (λ c. parts.Post c)) (read_right source rest p h)
  after_right (parts.Reads xs) rest h = ap (read_as (λ ys. parts.Reads ys)) (whole_list rest xs h)
  after_right (parts.Changes xs) rest h = ap (read_as (λ ys. parts.Changes ys)) (whole_list rest xs h)
  after_right (parts.Ins ports) rest h = ap (read_as (λ ys. parts.Ins ys)) (whole_ports rest ports h)
  after_right (parts.Outs ports) rest h = ap (read_as (λ ys. parts.Outs ys)) (whole_ports rest ports h)
  after_right (parts.Depth n) rest h = ap (read_as (λ m. parts.Depth m)) (expression_right rest n h)
  after_right (parts.Assert p) rest h = ap (read_as (λ c. parts.Assert c)) (read_right source rest p h)
  after_right parts.End rest h = ap (alone parts.End) h

  keyed_ok : (first : Token) (rest : List Token) (name : List ℕ) (found : Option Keyword) (p : Part) → name_at source first ≡ Some name → keyword_named name ≡ found → part_by found source rest ≡ Ok p → IsPart source (first ∷ rest) p
  keyed_ok first rest name None p n is e = absurd cc
  keyed_ok first rest name (Some k) p n is e =
      let said = after_ok k rest p e in
      record { first = first; rest = rest; whole = refl; says = n ∙ ap (λ w. Some w) (keyword_is name k is ∙ said.0); after = said.1 }

  begun_ok : (first : Token) (rest : List Token) (found : Option (List ℕ)) (p : Part) → name_at source first ≡ found → part_by (option_and_then keyword_named found) source rest ≡ Ok p → IsPart source (first ∷ rest) p
  begun_ok first rest None p is e = absurd cc
  begun_ok first rest (Some name) p is e = keyed_ok first rest name (keyword_named name) p is refl e

  pub reads_part : (tokens : List Token) (p : Part) → part_at source tokens ≡ Ok p → IsPart source tokens p
  unfolding part_at
  reads_part [] p e = absurd cc
  reads_part (first ∷ rest) p e = begun_ok first rest (name_at source first) p refl e

  pub part_reads : (tokens : List Token) (p : Part) → IsPart source tokens p → part_at source tokens ≡ Ok p
  unfolding part_at
  part_reads tokens p h =
      ap (part_at source) h.whole
      ∙ ap (λ name. part_by (option_and_then keyword_named name) source h.rest) h.says
      ∙ ap (λ k. part_by k source h.rest) (keyword_found p)
      ∙ after_right p h.rest h.after

  pub one_part : (tokens : List Token) (p q : Part) → IsPart source tokens p → IsPart source tokens q → p ≡ q
  one_part tokens p q h k = the_ok p q (sym (part_reads tokens p h) ∙ part_reads tokens q k)
