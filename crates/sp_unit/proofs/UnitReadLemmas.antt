-- What annotation lines of a source keep: their order, and the limits of the annotations on them.
use Rattle.std.proofs.Common.{◌≡◌, ℕ, ◌+◌, ◌^◌, ◌<◌, ◌≤◌, Bool, true, false, cond, List, [], ◌∷◌, ◌++◌, length, Option, Some, None, Result, Ok, Err, refl, sym, ap, subst, ◌∙◌, arith, lit<}
use Rattle.std.specs.Prelude.{IsSome, is_some, nat_le, ◌==◌, codes, ⊤}
use Rattle.std.specs.Option.{option_and_then}
use Rattle.std.proofs.lemmas.Bool.Decides.{nat_tests}
use Rattle.sp_lex.specs.declared.token.LineKind.{LineKind}
use Rattle.sp_lex.specs.declared.token.LineKind.TheVariants as line
use Rattle.sp_lex.specs.declared.token.SourceLine.{SourceLine}
use Rattle.sp_lex.specs.declared.token.Token.{Token}
use Rattle.sp_lex.specs.declared.token.TokenKind.{TokenKind}
use Rattle.sp_lex.specs.declared.token.TokenKind.TheVariants as tokens
use Rattle.sp_lex.specs.Names.{folded}
use Rattle.sp_lex.specs.Numbers.{number_of, at_most}
use Rattle.sp_lex.specs.Readers.{text_of, name_at, items_of}
use Rattle.sp_lex.specs.Reading.{AreLines, IsTokenOf, HaveTokensOf, is_annotation}
use Rattle.sp_lex.specs.Tokens.{IsToken}
use Rattle.sp_lex.proofs.TokenLemmas.{have_tokens}
use Rattle.sp_words.specs.declared.annotation.AnnotationWord.{AnnotationWord}
use Rattle.sp_words.specs.declared.annotation.AnnotationWord.TheVariants as named
use Rattle.sp_words.specs.Annotations.{IsWritten}
use Rattle.sp_words.specs.code.Tables.{annotation_word_named, is_annotation_word, is_reserved}
use Rattle.sp_words.proofs.AnnotationLemmas.{annotation_exact}
use Rattle.sp_logic.specs.WellFormed.{IsBoundName}
use Rattle.sp_note.specs.declared.keyword.Keyword.{Keyword}
use Rattle.sp_note.specs.declared.keyword.Keyword.TheVariants as keyword
use Rattle.sp_note.specs.declared.refusal.NoteKind.{NoteKind}
use Rattle.sp_note.specs.declared.word.Infix.{Infix}
use Rattle.sp_note.specs.declared.word.Infix.TheVariants as op
use Rattle.sp_note.specs.declared.word.Measure.TheVariants as measure
use Rattle.sp_note.specs.declared.word.Word.{Word}
use Rattle.sp_note.specs.declared.word.Word.TheVariants as words
use Rattle.sp_note.specs.Bounds.{bound_of}
use Rattle.sp_note.specs.Grammar as grammar
use Rattle.sp_note.specs.Grammar.{Tree, spelling, mark}
use Rattle.sp_note.specs.Meaning.{meaning_of, joining}
use Rattle.sp_note.specs.Parts as parts
use Rattle.sp_note.specs.Parts.{Part, NoteLine, Expression}
use Rattle.sp_note.specs.RawNotes.{RawNote}
use Rattle.sp_note.specs.Source.{Gives, AreNotesFrom}
use Rattle.sp_note.specs.Words.{name_word, or_plain, word_named, mark_word, long_word, symbol_word, is_text, word_of, words_of, with_word}
use Rattle.sp_note.specs.code.Lines.{condition_of, expression_of, read_as, both_read, or_syntax, two_by, area_by, bytes_by, routine_of, alone, part_after, part_by, part_at, keyword_named, list_read, ports_read, name_of}
use Rattle.sp_note.proofs.ConditionLemmas.{reads}
use Rattle.sp_unit.proofs.UnitListLemmas.{Each, Pairwise, each_weaker, each_front, each_back}
use Rattle.sp_unit.proofs.UnitFormedLemmas.{RawIsInLimits}
use Rattle.sp_unit.proofs.UnitNameLemmas.{own_name}
use Rattle.sp_unit.proofs.UnitPartsLemmas.{mapped}

-- ---- Words

-- a word of a condition keeps the limits
abbrev WordIsInLimits : Word → Type 0
WordIsInLimits (words.Number n) = n < 2 ^ 63
WordIsInLimits (words.StackWord k) = (1 ≤ k) × (k ≤ 32767)
WordIsInLimits (words.Name name) = IsBoundName name
WordIsInLimits _ = ⊤

-- a list of tests, each with its word
pick : (b : Bool) (x w : Word) (rest : Option Word) → WordIsInLimits x → (rest ≡ Some w → WordIsInLimits w) → cond b (Some x) rest ≡ Some w → WordIsInLimits w
pick true x w rest h k e = let is : x ≡ w = cc in subst WordIsInLimits is h
pick false x w rest h k e = k e

mark_limits : (mark : ℕ) (w : Word) → mark_word mark ≡ Some w → WordIsInLimits w
mark_limits m w =
    pick (m == 40) words.Open w _ tt
    (pick (m == 41) words.Close w _ tt
    (pick (m == 42) (words.Infix op.Multiply) w _ tt
    (pick (m == 43) (words.Infix op.Add) w _ tt
    (pick (m == 44) words.Comma w _ tt
    (pick (m == 45) (words.Infix op.Subtract) w _ tt
    (pick (m == 58) words.Colon w _ tt
    (pick (m == 60) _ w _ tt
    (pick (m == 61) _ w _ tt
    (pick (m == 62) _ w _ tt
    (pick (m == 91) words.OpenBracket w _ tt
    (pick (m == 93) words.CloseBracket w _ tt
    (pick (m == 126) words.AtEntry w None tt (λ e. absurd cc)))))))))))))

long_limits : (text : List ℕ) (w : Word) → long_word text ≡ Some w → WordIsInLimits w
long_limits text w =
    pick (is_text text (codes "<=")) _ w _ tt
    (pick (is_text text (codes ">=")) _ w _ tt
    (pick (is_text text (codes "<>")) _ w _ tt
    (pick (is_text text (codes "->")) _ w _ tt
    (pick (is_text text (codes "<->")) _ w _ tt
    (pick (is_text text (codes "..")) words.Range w None tt (λ e. absurd cc))))))

symbol_limits : (text : List ℕ) (w : Word) → symbol_word text ≡ Some w → WordIsInLimits w
symbol_limits [] w e = long_limits [] w e
symbol_limits (mark ∷ []) w e = mark_limits mark w e
symbol_limits (mark ∷ next ∷ rest) w e = long_limits (mark ∷ next ∷ rest) w e

-- the greatest number of a condition
most : (v n : ℕ) → v ≤ n → n < 2 ^ 63 → v < 2 ^ 63
most v n le lt = by (2 ^ 63) lt
  where
    by : (top : ℕ) → n < top → v < top
    by top below = omega arith

le_from : (a b : ℕ) → nat_le a b ≡ true → a ≤ b
le_from a b h = grind (arith, nat_tests)

number_limits : (o : Option ℕ) (v : ℕ) → at_most 9223372036854775807 o ≡ Some v → v < 2 ^ 63
number_limits None v e = absurd cc
number_limits (Some n) v e = by (nat_le n 9223372036854775807) refl e
  where
    by : (b : Bool) → nat_le n 9223372036854775807 ≡ b → cond b (Some n) None ≡ Some v → v < 2 ^ 63
    by true is k = let same : n ≡ v = cc in subst (λ m. m < 2 ^ 63) same (most n 9223372036854775807 (le_from n 9223372036854775807 is) (lit< tt))
    by false is k = absurd cc

named_limits : (w : AnnotationWord) → IsWritten w → WordIsInLimits (word_named w)
named_limits (named.Slot k) h = h
named_limits _ h = tt

some_is : {A : Type 0} (a b : A) → Some a ≡ Some b → a ≡ b
some_is a b e = cc

unreserved : (text : List ℕ) (w : Word) → IsToken true tokens.Name text → annotation_word_named (folded text) ≡ None → (b : Bool) → is_reserved (folded text) ≡ b
    → cond b None (Some (words.Name (folded text))) ≡ Some w → WordIsInLimits w
unfolding is_annotation_word
unreserved text w token new true free k = absurd cc
unreserved text w token new false free k = subst WordIsInLimits (some_is (words.Name (folded text)) w k) (own_name text token.0 token.1 free (ap is_some new))

name_limits : (text : List ℕ) (w : Word) → IsToken true tokens.Name text → name_word (folded text) ≡ Some w → WordIsInLimits w
name_limits text w token e = by (annotation_word_named (folded text)) refl e
  where
    by : (o : Option AnnotationWord) → annotation_word_named (folded text) ≡ o → or_plain o (folded text) ≡ Some w → WordIsInLimits w
    by (Some word) is k = subst WordIsInLimits (some_is (word_named word) w k) (named_limits word ((annotation_exact (folded text) word).0 is).0)
    by None is k = unreserved text w token is (is_reserved (folded text)) refl k

word_limits : (kind : TokenKind) (text : List ℕ) (w : Word) → IsToken true kind text → word_of kind text ≡ Some w → WordIsInLimits w
unfolding word_of
word_limits tokens.Number text w token e =
    let from = mapped (λ (value : ℕ). words.Number value) (at_most 9223372036854775807 (number_of text)) w e in
    subst WordIsInLimits from.is (number_limits (number_of text) from.from from.given)
word_limits tokens.Text text w token e = absurd cc
word_limits tokens.Symbol text w token e = symbol_limits text w e
word_limits tokens.Name text w token e = by (nat_le (length text) 31) e
  where
    by : (b : Bool) → cond b (name_word (folded text)) None ≡ Some w → WordIsInLimits w
    by true k = name_limits text w token k
    by false k = absurd cc

words_limits : (source : List ℕ) (ts : List Token) (ws : List Word) → Each (IsTokenOf source true) ts → words_of source ts ≡ Some ws → Each WordIsInLimits ws
unfolding words_of
words_limits source [] ws h e = let is : [] ≡ ws = some_is [] ws e in subst (Each WordIsInLimits) is tt
words_limits source (t ∷ ts) ws h e = by (word_of t.kind (text_of source t)) (words_of source ts) refl refl e (words_limits source ts)
  where
    by : (o : Option Word) (rest : Option (List Word)) → word_of t.kind (text_of source t) ≡ o → words_of source ts ≡ rest → with_word o rest ≡ Some ws
        → ((vs : List Word) → Each (IsTokenOf source true) ts → words_of source ts ≡ Some vs → Each WordIsInLimits vs) → Each WordIsInLimits ws
    by None rest is also k again = absurd cc
    by (Some word) None is also k again = absurd cc
    by (Some word) (Some vs) is also k again = subst (Each WordIsInLimits) (some_is (word ∷ vs) ws k) (word_limits t.kind (text_of source t) word h.0.text is, again vs h.1 also)

-- ---- Conditions

joined_limits : (i : Infix) (x y : RawNote) → RawIsInLimits x → RawIsInLimits y → RawIsInLimits (joining i x y)
joined_limits op.Iff x y h k = (h, k)
joined_limits op.Implies x y h k = (h, k)
joined_limits op.Or x y h k = (h, k)
joined_limits op.And x y h k = (h, k)
joined_limits (op.Compare c) x y h k = (h, k)
joined_limits op.Add x y h k = (h, k)
joined_limits op.Subtract x y h k = (h, k)
joined_limits op.Multiply x y h k = (h, k)
joined_limits op.Divide x y h k = (h, k)
joined_limits op.Modulo x y h k = (h, k)

-- of two parts with a word between them
two_parts : (xs ys : List Word) (w : Word) → Each WordIsInLimits (xs ++ w ∷ ys) → Each WordIsInLimits xs × Each WordIsInLimits ys
two_parts xs ys w h = (each_front WordIsInLimits xs (w ∷ ys) h, (each_back WordIsInLimits xs (w ∷ ys) h).1)

tree_limits : (t : Tree) → Each WordIsInLimits (spelling t) → RawIsInLimits (meaning_of t)
unfolding spelling
tree_limits (grammar.Number n) h = h.0
tree_limits (grammar.Constant truth) h = tt
tree_limits (grammar.Location m x) h = tt
tree_limits (grammar.Pair m p) h = tt
tree_limits (grammar.StackWord k) h = h.0
tree_limits (grammar.Named m name) h = tt
tree_limits (grammar.Measured measure.Address name) h = tt
tree_limits (grammar.Measured measure.Length name) h = tt
tree_limits (grammar.Cell m x) h =
    let inside = each_back WordIsInLimits (mark m) (words.OpenBracket ∷ (spelling x ++ words.CloseBracket ∷ [])) h.1 in
    tree_limits x (each_front WordIsInLimits (spelling x) (words.CloseBracket ∷ []) inside.1)
tree_limits (grammar.Element m name x) h =
    let inside = each_back WordIsInLimits (mark m) (words.OpenBracket ∷ (spelling x ++ words.CloseBracket ∷ [])) h.1 in
    tree_limits x (each_front WordIsInLimits (spelling x) (words.CloseBracket ∷ []) inside.1)
tree_limits (grammar.Total m x y) h =
    let inside = each_back WordIsInLimits (mark m) (words.Open ∷ (spelling x ++ words.Comma ∷ (spelling y ++ words.Close ∷ []))) h.1 in
    let both = two_parts (spelling x) (spelling y ++ words.Close ∷ []) words.Comma inside.1 in
    (tree_limits x both.0, tree_limits y (each_front WordIsInLimits (spelling y) (words.Close ∷ []) both.1))
tree_limits (grammar.Parity x) h = tree_limits x (each_front WordIsInLimits (spelling x) (words.Close ∷ []) h.1.1)
tree_limits (grammar.TwoBits b x y) h =
    let both = two_parts (spelling x) (spelling y ++ words.Close ∷ []) words.Comma h.1.1 in
    (tree_limits x both.0, tree_limits y (each_front WordIsInLimits (spelling y) (words.Close ∷ []) both.1))
tree_limits (grammar.Paren x) h = tree_limits x (each_front WordIsInLimits (spelling x) (words.Close ∷ []) h.1)
tree_limits (grammar.Negative x) h = tree_limits x h.1
tree_limits (grammar.Joined i x y) h =
    let both = two_parts (spelling x) (spelling y) (words.Infix i) h in
    joined_limits i (meaning_of x) (meaning_of y) (tree_limits x both.0) (tree_limits y both.1)
tree_limits (grammar.Not p) h = tree_limits p h.1
tree_limits (grammar.Quantified q name x y p) h =
    let both = two_parts (spelling x) (spelling y ++ words.Colon ∷ spelling p) words.Range h.1.1.1.1 in
    let rest = two_parts (spelling y) (spelling p) words.Colon both.1 in
    (h.1.1.0, tree_limits x both.0, tree_limits y rest.0, tree_limits p rest.1)

-- an annotation that a line may have
pub record IsRawRight (raw : RawNote) : Type 0 where
  pub limits : RawIsInLimits raw
  pub narrow : IsSome (bound_of [] raw)

condition_right : (source : List ℕ) (ts : List Token) (raw : RawNote) → Each (IsTokenOf source true) ts → condition_of source ts ≡ Ok raw → IsRawRight raw
condition_right source ts raw h e =
    let is = reads source ts raw e in
    let each = subst (Each WordIsInLimits) is.written.spells.whole (words_limits source ts is.written.ws h is.written.words) in
    record { limits = subst RawIsInLimits (sym is.means) (tree_limits is.tree each); narrow = is.narrow }

-- ---- Lines

abbrev pub IsPartRight : Part → Type 0
IsPartRight (parts.Pre raw) = IsRawRight raw
IsPartRight (parts.Post raw) = IsRawRight raw
IsPartRight (parts.Assert raw) = IsRawRight raw
IsPartRight _ = ⊤

abbrev right_part : Part → Result Part NoteKind
right_part part = Ok part

ok_is : (a b : Part) → right_part a ≡ right_part b → a ≡ b
ok_is a b e = cc

err_ok : (k : NoteKind) (b : Part) → Err k ≡ right_part b → ⊥
err_ok k b e = cc

read_right : {X : Type 0} (f : X → Part) (r : Result X NoteKind) (part : Part) → ((x : X) → r ≡ Ok x → IsPartRight (f x)) → read_as f r ≡ Ok part → IsPartRight part
read_right f (Ok x) part h e = subst IsPartRight (ok_is (f x) part e) (h x refl)
read_right f (Err k) part h e = absurd (err_ok k part e)

both_right : (f : Expression → Expression → Part) (x y : Result Expression NoteKind) (part : Part) → ((a b : Expression) → IsPartRight (f a b)) → both_read f x y ≡ Ok part → IsPartRight part
both_right f (Ok a) (Ok b) part h e = subst IsPartRight (ok_is (f a b) part e) (h a b)
both_right f (Ok a) (Err k) part h e = absurd cc
both_right f (Err k) (Ok b) part h e = absurd cc
both_right f (Err k) (Err l) part h e = absurd cc

two_right : (f : Expression → Expression → Part) (source : List ℕ) (items : List (List Token)) (part : Part) → ((a b : Expression) → IsPartRight (f a b)) → two_by f source items ≡ Ok part → IsPartRight part
two_right f source [] part h e = absurd cc
two_right f source (one ∷ []) part h e = absurd cc
two_right f source (one ∷ other ∷ []) part h e = both_right f (expression_of source one) (expression_of source other) part h e
two_right f source (one ∷ other ∷ more ∷ rest) part h e = absurd cc

area_right : (f : List ℕ → Expression → Part) (source : List ℕ) (o : Option (List ℕ × List Token)) (part : Part) → ((name : List ℕ) (a : Expression) → IsPartRight (f name a)) → area_by f source o ≡ Ok part → IsPartRight part
area_right f source None part h e = absurd cc
area_right f source (Some n) part h e = read_right (f n.0) (expression_of source n.1) part (λ a is. h n.0 a) e

bytes_right : (source : List ℕ) (o : Option (List ℕ × List Token)) (part : Part) → bytes_by source o ≡ Ok part → IsPartRight part
bytes_right source None part e = absurd cc
bytes_right source (Some n) part e = two_right (parts.Bytes n.0) source (items_of source n.1) part (λ a b. tt) e

routine_right : (source : List ℕ) (ts : List Token) (part : Part) → routine_of source ts ≡ Ok part → IsPartRight part
routine_right source [] part e = absurd cc
routine_right source (t ∷ []) part e = read_right (λ (name : List ℕ). parts.Routine name) _ part (λ name is. tt) e
routine_right source (t ∷ u ∷ rest) part e = absurd cc

alone_right : (p : Part) (ts : List Token) (part : Part) → IsPartRight p → alone p ts ≡ Ok part → IsPartRight part
alone_right p [] part h e = subst IsPartRight (ok_is p part e) h
alone_right p (t ∷ rest) part h e = absurd cc

after_right : (k : Keyword) (source : List ℕ) (ts : List Token) (part : Part) → Each (IsTokenOf source true) ts → part_after k source ts ≡ Ok part → IsPartRight part
unfolding part_after
after_right keyword.Stack source ts part h e = two_right (λ first last. parts.Stack first last) source (items_of source ts) part (λ a b. tt) e
after_right keyword.Byte source ts part h e = area_right (λ name addr. parts.Byte name addr) source (name_of source ts) part (λ name a. tt) e
after_right keyword.Word source ts part h e = area_right (λ name addr. parts.Word name addr) source (name_of source ts) part (λ name a. tt) e
after_right keyword.Bytes source ts part h e = bytes_right source (name_of source ts) part e
after_right keyword.Routine source ts part h e = routine_right source ts part e
after_right keyword.Start source ts part h e = alone_right parts.Start ts part tt e
after_right keyword.Pre source ts part h e = read_right (λ (p : RawNote). parts.Pre p) (condition_of source ts) part (λ raw is. condition_right source ts raw h is) e
after_right keyword.Post source ts part h e = read_right (λ (p : RawNote). parts.Post p) (condition_of source ts) part (λ raw is. condition_right source ts raw h is) e
after_right keyword.Reads source ts part h e = read_right (λ items. parts.Reads items) (or_syntax (list_read source (items_of source ts))) part (λ items is. tt) e
after_right keyword.Changes source ts part h e = read_right (λ items. parts.Changes items) (or_syntax (list_read source (items_of source ts))) part (λ items is. tt) e
after_right keyword.Ins source ts part h e = read_right (λ ports. parts.Ins ports) (ports_read source (items_of source ts)) part (λ ports is. tt) e
after_right keyword.Outs source ts part h e = read_right (λ ports. parts.Outs ports) (ports_read source (items_of source ts)) part (λ ports is. tt) e
after_right keyword.Depth source ts part h e = read_right (λ n. parts.Depth n) (expression_of source ts) part (λ n is. tt) e
after_right keyword.Assert source ts part h e = read_right (λ (p : RawNote). parts.Assert p) (condition_of source ts) part (λ raw is. condition_right source ts raw h is) e
after_right keyword.End source ts part h e = alone_right parts.End ts part tt e

part_right : (source : List ℕ) (ts : List Token) (part : Part) → Each (IsTokenOf source true) ts → part_at source ts ≡ Ok part → IsPartRight part
unfolding part_at
part_right source [] part h e = absurd cc
part_right source (first ∷ rest) part h e = by (option_and_then keyword_named (name_at source first)) e
  where
    by : (o : Option Keyword) → part_by o source rest ≡ Ok part → IsPartRight part
    by None k = absurd cc
    by (Some word) k = after_right word source rest part h.1 k

-- ---- A source

-- annotation lines in their order, from a line on
pub record AreInOrder (number : ℕ) (notes : List NoteLine) : Type 0 where
  pub from : Each (λ (n : NoteLine). number ≤ n.line) notes
  pub rising : Pairwise (λ (m n : NoteLine). m.line < n.line) notes
  pub right : Each (λ (n : NoteLine). IsPartRight n.part) notes

none_given : (number : ℕ) (notes given below : List NoteLine) → notes ≡ given ++ below → given ≡ [] → AreInOrder (number + 1) below → AreInOrder number notes
none_given number notes given below whole none h =
    let same : notes ≡ below = whole ∙ ap (λ l. l ++ below) none in
    subst (AreInOrder number) (sym same) (record {
      from = each_weaker (λ (n : NoteLine). number + 1 ≤ n.line) (λ (n : NoteLine). number ≤ n.line) (λ n le. omega arith) below h.from;
      rising = h.rising;
      right = h.right;
    })

one_given : (number : ℕ) (notes given below : List NoteLine) (part : Part) → notes ≡ given ++ below → given ≡ record { line = number; part = part } ∷ [] → IsPartRight part → AreInOrder (number + 1) below → AreInOrder number notes
one_given number notes given below part whole is right h =
    let n : NoteLine = record { line = number; part = part } in
    let same : notes ≡ record { line = number; part = part } ∷ below = whole ∙ ap (λ l. l ++ below) is in
    subst (AreInOrder number) (sym same) (record {
      from = (omega arith, each_weaker (λ (m : NoteLine). number + 1 ≤ m.line) (λ (m : NoteLine). number ≤ m.line) (λ m le. omega arith) below h.from);
      rising = (each_weaker (λ (m : NoteLine). number + 1 ≤ m.line) (λ (m : NoteLine). number < m.line) (λ m le. omega arith) below h.from, h.rising);
      right = (right, h.right);
    })

in_order : (source : List ℕ) (number : ℕ) (lines : List SourceLine) (notes : List NoteLine) → HaveTokensOf source lines → AreNotesFrom source number lines notes → AreInOrder number notes
in_order source number [] notes t h = subst (AreInOrder number) (sym h) (record { from = tt; rising = tt; right = tt })
in_order source number (first ∷ lines) notes t h = by first.kind refl h.3 (in_order source (number + 1) lines h.1 t.1 h.4)
  where
    by : (k : LineKind) → first.kind ≡ k → Gives k source number first.tokens h.0 → AreInOrder (number + 1) h.1 → AreInOrder number notes
    by line.Annotation is gives rest =
        let tokens_right = subst (λ k. Each (IsTokenOf source (is_annotation k)) first.tokens) is t.0 in
        one_given number notes h.0 h.1 gives.0 h.2 gives.2 (part_right source first.tokens gives.0 tokens_right gives.1) rest
    by line.Empty is gives rest = none_given number notes h.0 h.1 h.2 gives rest
    by line.Statement is gives rest = none_given number notes h.0 h.1 h.2 gives rest

-- the annotation lines of a source rise, and their annotations keep the limits
pub notes_in_order : (source : List ℕ) (lines : List SourceLine) (notes : List NoteLine) → AreLines source lines → AreNotesFrom source 1 lines notes → AreInOrder 1 notes
notes_in_order source lines notes read h = in_order source 1 lines notes (have_tokens source lines read) h
