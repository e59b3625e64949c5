-- The printed form of a note is read as the note.
use Rattle.std.proofs.Common.{◌≡◌, ℕ, zero, suc, ◌<◌, Bool, true, false, List, [], ◌∷◌, ◌++◌, length, get_or, Some, refl, sym, ap, subst, ◌∙◌, arith, append_assoc, append-nil}
use Rattle.std.specs.Prelude.{codes, nat_eq, Contains}
use Rattle.sp_base.specs.declared.location.Loc.{Loc}
use Rattle.sp_base.specs.declared.location.Loc.TheVariants as loc
use Rattle.sp_lex.specs.declared.token.TokenKind.TheVariants.{Symbol}
use Rattle.sp_lex.specs.Pieces.{tokens_from}
use Rattle.sp_lex.specs.code.Pieces.{symbol_len}
use Rattle.sp_logic.specs.declared.note.Comparison as declared_comparison
use Rattle.sp_logic.specs.declared.note.Comparison.TheVariants as comparison
use Rattle.sp_logic.specs.declared.note.Moment as declared_moment
use Rattle.sp_logic.specs.declared.note.Moment.TheVariants as moment
use Rattle.sp_logic.specs.declared.note.Quantifier as declared_quantifier
use Rattle.sp_logic.specs.declared.note.Quantifier.TheVariants as quantifier
use Rattle.sp_logic.specs.declared.note.RegisterPair as declared_pair
use Rattle.sp_logic.specs.declared.note.RegisterPair.TheVariants as pair
use Rattle.sp_logic.specs.Text.{moment_mark, location_name, pair_name, opening, middle, comparison_sign, connective_word, quantifier_words, quantity_text, note_text}
use Rattle.sp_logic.specs.View.{moment_of, pair_of, comparison_of, quantifier_of}
use Rattle.sp_logic.specs.WellFormed.{IsBoundName, IsInLimits, NoteIsInLimits}
use Rattle.sp_model.specs.Note.{Moment, Now, AtEntry, RegisterPair, BC, DE, HL, Operator, Add, Subtract, Multiply, Divide, Modulo, BitAnd, BitOr, BitXor, Comparison, Equal, Unequal, Less, LessOrEqual, Greater, GreaterOrEqual, Connective, And, Or, Implies, Iff, Quantifier, ForAll, ForSome, Quantity, Literal, Location, Pair, Cell, StackWord, Total, Negative, Parity, Operate, Bound, Note, Constant, Compare, Not, Connect, Quantify, HasBoundNames, BindsNames}
use Rattle.sp_words.specs.code.Tables.{annotation_word_named}
use Rattle.sp_note.specs.declared.word.Bits.TheVariants as bits
use Rattle.sp_note.specs.declared.word.Infix.{Infix}
use Rattle.sp_note.specs.declared.word.Infix.TheVariants as op
use Rattle.sp_note.specs.declared.word.Word.{Word}
use Rattle.sp_note.specs.declared.word.Word.TheVariants as words
use Rattle.sp_lex.proofs.PieceLemmas.{one_cutting}
use Rattle.sp_note.specs.Conditions.{IsWritten}
use Rattle.sp_note.proofs.ConditionLemmas.{one_meaning, read_right}
use Rattle.sp_note.specs.Grammar as grammar
use Rattle.sp_note.specs.Grammar.{Tree, rank_of_tree, ends_open, IsCondition, mark, spelling}
use Rattle.sp_note.specs.Meaning.{meaning_of}
use Rattle.sp_note.specs.RawNotes as raw
use Rattle.sp_note.specs.Sorts.{sort_of}
use Rattle.sp_note.specs.declared.operand.Sort.TheVariants as sort
use Rattle.sp_note.specs.Words.{word_of}
use Rattle.sp_note_laws.specs.Printed.{quantity_as_read, note_as_read, PrintedNotesAreRead, PrintedNotesStandForThemselves}
use Rattle.sp_note_laws.proofs.ReadLemmas.{Reads, done, blank, symbol, symbol_two, symbol_three, Ends, word, number, numeral, name, name_is, slot, token_words}

-- ---- the trees of printed notes

abbrev moment_in : Moment → declared_moment.Moment
moment_in Now = moment.Now
moment_in AtEntry = moment.AtEntry

abbrev pair_in : RegisterPair → declared_pair.RegisterPair
pair_in BC = pair.Bc
pair_in DE = pair.De
pair_in HL = pair.Hl

abbrev comparison_in : Comparison → declared_comparison.Comparison
comparison_in Equal = comparison.Equal
comparison_in Unequal = comparison.Unequal
comparison_in Less = comparison.Less
comparison_in LessOrEqual = comparison.LessOrEqual
comparison_in Greater = comparison.Greater
comparison_in GreaterOrEqual = comparison.GreaterOrEqual

abbrev quantifier_in : Quantifier → declared_quantifier.Quantifier
quantifier_in ForAll = quantifier.ForAll
quantifier_in ForSome = quantifier.ForSome

abbrev connective_in : Connective → Infix
connective_in And = op.And
connective_in Or = op.Or
connective_in Implies = op.Implies
connective_in Iff = op.Iff

abbrev operate_tree : Operator → Tree → Tree → Tree
operate_tree Add x y = grammar.Paren (grammar.Joined op.Add x y)
operate_tree Subtract x y = grammar.Paren (grammar.Joined op.Subtract x y)
operate_tree Multiply x y = grammar.Paren (grammar.Joined op.Multiply x y)
operate_tree Divide x y = grammar.Paren (grammar.Joined op.Divide x y)
operate_tree Modulo x y = grammar.Paren (grammar.Joined op.Modulo x y)
operate_tree BitAnd x y = grammar.TwoBits bits.And x y
operate_tree BitOr x y = grammar.TwoBits bits.Or x y
operate_tree BitXor x y = grammar.TwoBits bits.Xor x y

abbrev quantity_tree : Quantity → Tree
quantity_tree (Literal n) = grammar.Number n
quantity_tree (Location m x) = grammar.Location (moment_in m) x
quantity_tree (Pair m p) = grammar.Pair (moment_in m) (pair_in p)
quantity_tree (Cell m x) = grammar.Cell (moment_in m) (quantity_tree x)
quantity_tree (StackWord k) = grammar.StackWord k
quantity_tree (Total m x y) = grammar.Total (moment_in m) (quantity_tree x) (quantity_tree y)
quantity_tree (Negative x) = grammar.Paren (grammar.Negative (quantity_tree x))
quantity_tree (Parity x) = grammar.Parity (quantity_tree x)
quantity_tree (Operate o x y) = operate_tree o (quantity_tree x) (quantity_tree y)
quantity_tree (Bound name) = grammar.Named moment.Now name

abbrev note_tree : Note → Tree
note_tree (Constant truth) = grammar.Constant truth
note_tree (Compare c x y) = grammar.Paren (grammar.Joined (op.Compare (comparison_in c)) (quantity_tree x) (quantity_tree y))
note_tree (Not p) = grammar.Paren (grammar.Not (note_tree p))
note_tree (Connect c p q) = grammar.Paren (grammar.Joined (connective_in c) (note_tree p) (note_tree q))
note_tree (Quantify q name x y p) = grammar.Paren (grammar.Quantified (quantifier_in q) name (quantity_tree x) (quantity_tree y) (note_tree p))

-- ---- they are conditions, and stand for the notes

-- a condition that stands in any place
abbrev Closed : Tree → Type 0
Closed t = (rank_of_tree t ≡ 0) × (ends_open t ≡ false) × IsCondition t

closed_operate : (o : Operator) (x y : Tree) → Closed x → Closed y → Closed (operate_tree o x y)
closed_operate Add x y h k = (refl, refl, (omega (arith, h.0), omega (arith, k.0), h.1, h.2, k.2))
closed_operate Subtract x y h k = (refl, refl, (omega (arith, h.0), omega (arith, k.0), h.1, h.2, k.2))
closed_operate Multiply x y h k = (refl, refl, (omega (arith, h.0), omega (arith, k.0), h.1, h.2, k.2))
closed_operate Divide x y h k = (refl, refl, (omega (arith, h.0), omega (arith, k.0), h.1, h.2, k.2))
closed_operate Modulo x y h k = (refl, refl, (omega (arith, h.0), omega (arith, k.0), h.1, h.2, k.2))
closed_operate BitAnd x y h k = (refl, refl, (h.2, k.2))
closed_operate BitOr x y h k = (refl, refl, (h.2, k.2))
closed_operate BitXor x y h k = (refl, refl, (h.2, k.2))

closed_quantity : (x : Quantity) → Closed (quantity_tree x)
closed_quantity (Literal n) = (refl, refl, tt)
closed_quantity (Location m x) = (refl, refl, tt)
closed_quantity (Pair m p) = (refl, refl, tt)
closed_quantity (Cell m x) = (refl, refl, (closed_quantity x).2)
closed_quantity (StackWord k) = (refl, refl, tt)
closed_quantity (Total m x y) =
    let h = closed_quantity x in
    let k = closed_quantity y in (refl, refl, (omega (arith, h.0), omega (arith, k.0), h.2, k.2))
closed_quantity (Negative x) = let h = closed_quantity x in (refl, refl, (omega (arith, h.0), h.2))
closed_quantity (Parity x) = (refl, refl, (closed_quantity x).2)
closed_quantity (Operate o x y) = closed_operate o (quantity_tree x) (quantity_tree y) (closed_quantity x) (closed_quantity y)
closed_quantity (Bound name) = (refl, refl, tt)

closed_connect : (c : Connective) (p q : Tree) → Closed p → Closed q → Closed (grammar.Paren (grammar.Joined (connective_in c) p q))
closed_connect And p q h k = (refl, refl, (omega (arith, h.0), omega (arith, k.0), h.1, h.2, k.2))
closed_connect Or p q h k = (refl, refl, (omega (arith, h.0), omega (arith, k.0), h.1, h.2, k.2))
closed_connect Implies p q h k = (refl, refl, (omega (arith, h.0), omega (arith, k.0), h.1, h.2, k.2))
closed_connect Iff p q h k = (refl, refl, (omega (arith, h.0), omega (arith, k.0), h.1, h.2, k.2))

closed_note : (p : Note) → Closed (note_tree p)
closed_note (Constant truth) = (refl, refl, tt)
closed_note (Compare c x y) =
    let h = closed_quantity x in
    let k = closed_quantity y in (refl, refl, (omega (arith, h.0), omega (arith, k.0), h.1, h.2, k.2))
closed_note (Not p) = let h = closed_note p in (refl, refl, (omega (arith, h.0), h.2))
closed_note (Connect c p q) = closed_connect c (note_tree p) (note_tree q) (closed_note p) (closed_note q)
closed_note (Quantify q name x y p) =
    let h = closed_quantity x in
    let k = closed_quantity y in (refl, refl, (omega (arith, h.0), omega (arith, k.0), h.2, k.2, (closed_note p).2))

moment_same : (m : Moment) → moment_of (moment_in m) ≡ m
moment_same Now = refl
moment_same AtEntry = refl

pair_same : (p : RegisterPair) → pair_of (pair_in p) ≡ p
pair_same BC = refl
pair_same DE = refl
pair_same HL = refl

comparison_same : (c : Comparison) → comparison_of (comparison_in c) ≡ c
comparison_same Equal = refl
comparison_same Unequal = refl
comparison_same Less = refl
comparison_same LessOrEqual = refl
comparison_same Greater = refl
comparison_same GreaterOrEqual = refl

quantifier_same : (q : Quantifier) → quantifier_of (quantifier_in q) ≡ q
quantifier_same ForAll = refl
quantifier_same ForSome = refl

operate_means : (o : Operator) (x y : Tree) → meaning_of (operate_tree o x y) ≡ raw.Operate o (meaning_of x) (meaning_of y)
operate_means Add x y = refl
operate_means Subtract x y = refl
operate_means Multiply x y = refl
operate_means Divide x y = refl
operate_means Modulo x y = refl
operate_means BitAnd x y = refl
operate_means BitOr x y = refl
operate_means BitXor x y = refl

connect_means : (c : Connective) (p q : Tree) → meaning_of (grammar.Paren (grammar.Joined (connective_in c) p q)) ≡ raw.Connect c (meaning_of p) (meaning_of q)
connect_means And p q = refl
connect_means Or p q = refl
connect_means Implies p q = refl
connect_means Iff p q = refl

quantity_means : (x : Quantity) → meaning_of (quantity_tree x) ≡ quantity_as_read x
quantity_means (Literal n) = refl
quantity_means (Location m x) = ap (λ n. raw.Location n x) (moment_same m)
quantity_means (Pair m p) = ap (λ n. raw.Pair n (pair_of (pair_in p))) (moment_same m) ∙ ap (raw.Pair m) (pair_same p)
quantity_means (Cell m x) = ap (λ n. raw.Cell n (meaning_of (quantity_tree x))) (moment_same m) ∙ ap (raw.Cell m) (quantity_means x)
quantity_means (StackWord k) = refl
quantity_means (Total m x y) =
    ap (λ n. raw.Total n (meaning_of (quantity_tree x)) (meaning_of (quantity_tree y))) (moment_same m) ∙ ap (λ v. raw.Total m v (meaning_of (quantity_tree y))) (quantity_means x)
    ∙ ap (raw.Total m (quantity_as_read x)) (quantity_means y)
quantity_means (Negative x) = ap (λ v. raw.Negative v) (quantity_means x)
quantity_means (Parity x) = ap (λ v. raw.Parity v) (quantity_means x)
quantity_means (Operate o x y) =
    operate_means o (quantity_tree x) (quantity_tree y) ∙ ap (λ v. raw.Operate o v (meaning_of (quantity_tree y))) (quantity_means x) ∙ ap (raw.Operate o (quantity_as_read x)) (quantity_means y)
quantity_means (Bound name) = refl

note_means : (p : Note) → meaning_of (note_tree p) ≡ note_as_read p
note_means (Constant truth) = refl
note_means (Compare c x y) =
    ap (λ d. raw.Compare d (meaning_of (quantity_tree x)) (meaning_of (quantity_tree y))) (comparison_same c) ∙ ap (λ v. raw.Compare c v (meaning_of (quantity_tree y))) (quantity_means x)
    ∙ ap (raw.Compare c (quantity_as_read x)) (quantity_means y)
note_means (Not p) = ap (λ v. raw.Not v) (note_means p)
note_means (Connect c p q) = connect_means c (note_tree p) (note_tree q) ∙ ap (λ v. raw.Connect c v (meaning_of (note_tree q))) (note_means p) ∙ ap (raw.Connect c (note_as_read p)) (note_means q)
note_means (Quantify q name x y p) =
    ap (λ r. raw.Quantify r name (meaning_of (quantity_tree x)) (meaning_of (quantity_tree y)) (meaning_of (note_tree p))) (quantifier_same q)
    ∙ ap (λ v. raw.Quantify q name v (meaning_of (quantity_tree y)) (meaning_of (note_tree p))) (quantity_means x)
    ∙ ap (λ v. raw.Quantify q name (quantity_as_read x) v (meaning_of (note_tree p))) (quantity_means y)
    ∙ ap (raw.Quantify q name (quantity_as_read x) (quantity_as_read y)) (note_means p)

-- ---- single words of the printed form

open_paren : (rest : List ℕ) (ws : List Word) → Reads rest ws → Reads (40 ∷ rest) (words.Open ∷ ws)
unfolding symbol_len word_of
open_paren rest ws r = symbol 40 rest words.Open ws refl refl r

close : (rest : List ℕ) (ws : List Word) → Reads rest ws → Reads (41 ∷ rest) (words.Close ∷ ws)
unfolding symbol_len word_of
close rest ws r = symbol 41 rest words.Close ws refl refl r

open_bracket : (rest : List ℕ) (ws : List Word) → Reads rest ws → Reads (91 ∷ rest) (words.OpenBracket ∷ ws)
unfolding symbol_len word_of
open_bracket rest ws r = symbol 91 rest words.OpenBracket ws refl refl r

close_bracket : (rest : List ℕ) (ws : List Word) → Reads rest ws → Reads (93 ∷ rest) (words.CloseBracket ∷ ws)
unfolding symbol_len word_of
close_bracket rest ws r = symbol 93 rest words.CloseBracket ws refl refl r

comma : (rest : List ℕ) (ws : List Word) → Reads rest ws → Reads (44 ∷ 32 ∷ rest) (words.Comma ∷ ws)
unfolding symbol_len word_of
comma rest ws r = symbol 44 (32 ∷ rest) words.Comma ws refl refl (blank rest ws r)

colon : (rest : List ℕ) (ws : List Word) → Reads rest ws → Reads (58 ∷ 32 ∷ rest) (words.Colon ∷ ws)
unfolding symbol_len word_of
colon rest ws r = symbol 58 (32 ∷ rest) words.Colon ws refl refl (blank rest ws r)

range : (rest : List ℕ) (ws : List Word) → Reads rest ws → Reads (46 ∷ 46 ∷ rest) (words.Range ∷ ws)
unfolding symbol_len word_of
range rest ws r = symbol_two 46 46 rest words.Range ws refl refl r

-- a sign, before a quantity
minus : (b : ℕ) (rest : List ℕ) (ws : List Word) → nat_eq 62 b ≡ false → Reads (b ∷ rest) ws → Reads (45 ∷ b ∷ rest) (words.Infix op.Subtract ∷ ws)
unfolding symbol_len word_of
minus b rest ws other r = symbol 45 (b ∷ rest) (words.Infix op.Subtract) ws (rw other refl) refl r

marked : (m : Moment) (rest : List ℕ) (ws : List Word) → Reads rest ws → Reads (moment_mark m ++ rest) (mark (moment_in m) ++ ws)
unfolding symbol_len word_of
marked Now rest ws r = r
marked AtEntry rest ws r = symbol 126 rest words.AtEntry ws refl refl r

marked_ends : (m : Moment) (rest : List ℕ) → Ends rest → Ends (moment_mark m ++ rest)
marked_ends Now rest e = e
marked_ends AtEntry rest e = (refl, refl)

location : (x : Loc) (rest : List ℕ) (ws : List Word) → Ends rest → Reads rest ws → Reads (location_name x ++ rest) (words.Location x ∷ ws)
unfolding word_of annotation_word_named
location loc.A rest ws e r = word 65 [] rest (words.Location loc.A) ws refl refl (omega arith) refl e r
location loc.B rest ws e r = word 66 [] rest (words.Location loc.B) ws refl refl (omega arith) refl e r
location loc.C rest ws e r = word 67 [] rest (words.Location loc.C) ws refl refl (omega arith) refl e r
location loc.D rest ws e r = word 68 [] rest (words.Location loc.D) ws refl refl (omega arith) refl e r
location loc.E rest ws e r = word 69 [] rest (words.Location loc.E) ws refl refl (omega arith) refl e r
location loc.H rest ws e r = word 72 [] rest (words.Location loc.H) ws refl refl (omega arith) refl e r
location loc.L rest ws e r = word 76 [] rest (words.Location loc.L) ws refl refl (omega arith) refl e r
location loc.S rest ws e r = word 83 [] rest (words.Location loc.S) ws refl refl (omega arith) refl e r
location loc.Z rest ws e r = word 90 [] rest (words.Location loc.Z) ws refl refl (omega arith) refl e r
location loc.Ac rest ws e r = word 65 (codes "C") rest (words.Location loc.Ac) ws refl refl (omega arith) refl e r
location loc.P rest ws e r = word 80 [] rest (words.Location loc.P) ws refl refl (omega arith) refl e r
location loc.Cy rest ws e r = word 67 (codes "Y") rest (words.Location loc.Cy) ws refl refl (omega arith) refl e r

register_pair : (p : RegisterPair) (rest : List ℕ) (ws : List Word) → Ends rest → Reads rest ws → Reads (pair_name p ++ rest) (words.Pair (pair_in p) ∷ ws)
unfolding word_of annotation_word_named
register_pair BC rest ws e r = word 66 (codes "C") rest (words.Pair pair.Bc) ws refl refl (omega arith) refl e r
register_pair DE rest ws e r = word 68 (codes "E") rest (words.Pair pair.De) ws refl refl (omega arith) refl e r
register_pair HL rest ws e r = word 72 (codes "L") rest (words.Pair pair.Hl) ws refl refl (omega arith) refl e r

mem : (rest : List ℕ) (ws : List Word) → Ends rest → Reads rest ws → Reads (codes "mem" ++ rest) (words.Mem ∷ ws)
unfolding word_of annotation_word_named
mem rest ws e r = word 109 (codes "em") rest words.Mem ws refl refl (omega arith) refl e r

total : (rest : List ℕ) (ws : List Word) → Ends rest → Reads rest ws → Reads (codes "total" ++ rest) (words.Total ∷ ws)
unfolding word_of annotation_word_named
total rest ws e r = word 116 (codes "otal") rest words.Total ws refl refl (omega arith) refl e r

par : (rest : List ℕ) (ws : List Word) → Reads rest ws → Reads (codes "par(" ++ rest) (words.Par ∷ words.Open ∷ ws)
unfolding word_of annotation_word_named
par rest ws r = word 112 (codes "ar") (40 ∷ rest) words.Par (words.Open ∷ ws) refl refl (omega arith) refl (refl, refl) (open_paren rest ws r)

not_word : (rest : List ℕ) (ws : List Word) → Reads rest ws → Reads (codes "(not " ++ rest) (words.Open ∷ words.Not ∷ ws)
unfolding word_of annotation_word_named
not_word rest ws r =
    open_paren (codes "not " ++ rest) (words.Not ∷ ws) (word 110 (codes "ot") (32 ∷ rest) words.Not ws refl refl (omega arith) refl (refl, refl) (blank rest ws r))

constant : (truth : Bool) (rest : List ℕ) (ws : List Word) → Ends rest → Reads rest ws → Reads (note_text (Constant truth) ++ rest) (words.Constant truth ∷ ws)
unfolding word_of annotation_word_named
constant true rest ws e r = word 116 (codes "rue") rest (words.Constant true) ws refl refl (omega arith) refl e r
constant false rest ws e r = word 102 (codes "alse") rest (words.Constant false) ws refl refl (omega arith) refl e r

-- an operator of one mark between blanks
between : (a : ℕ) (i : Infix) (rest : List ℕ) (ws : List Word) → symbol_len true (a ∷ 32 ∷ rest) ≡ 1 → word_of Symbol (a ∷ []) ≡ Some (words.Infix i) → Reads rest ws → Reads (32 ∷ a ∷ 32 ∷ rest) (words.Infix i ∷ ws)
between a i rest ws len is r = blank (a ∷ 32 ∷ rest) (words.Infix i ∷ ws) (symbol a (32 ∷ rest) (words.Infix i) ws len is (blank rest ws r))

between_two : (a b : ℕ) (i : Infix) (rest : List ℕ) (ws : List Word) → symbol_len true (a ∷ b ∷ 32 ∷ rest) ≡ 2 → word_of Symbol (a ∷ b ∷ []) ≡ Some (words.Infix i) → Reads rest ws
    → Reads (32 ∷ a ∷ b ∷ 32 ∷ rest) (words.Infix i ∷ ws)
between_two a b i rest ws len is r = blank (a ∷ b ∷ 32 ∷ rest) (words.Infix i ∷ ws) (symbol_two a b (32 ∷ rest) (words.Infix i) ws len is (blank rest ws r))

compared : (c : Comparison) (rest : List ℕ) (ws : List Word) → Reads rest ws → Reads (comparison_sign c ++ rest) (words.Infix (op.Compare (comparison_in c)) ∷ ws)
unfolding symbol_len word_of
compared Equal rest ws r = between 61 (op.Compare comparison.Equal) rest ws refl refl r
compared Unequal rest ws r = between_two 60 62 (op.Compare comparison.Unequal) rest ws refl refl r
compared Less rest ws r = between 60 (op.Compare comparison.Less) rest ws refl refl r
compared LessOrEqual rest ws r = between_two 60 61 (op.Compare comparison.LessOrEqual) rest ws refl refl r
compared Greater rest ws r = between 62 (op.Compare comparison.Greater) rest ws refl refl r
compared GreaterOrEqual rest ws r = between_two 62 61 (op.Compare comparison.GreaterOrEqual) rest ws refl refl r

connected : (c : Connective) (rest : List ℕ) (ws : List Word) → Reads rest ws → Reads (connective_word c ++ rest) (words.Infix (connective_in c) ∷ ws)
unfolding symbol_len word_of annotation_word_named
connected And rest ws r = blank _ _ (word 97 (codes "nd") (32 ∷ rest) (words.Infix op.And) ws refl refl (omega arith) refl (refl, refl) (blank rest ws r))
connected Or rest ws r = blank _ _ (word 111 (codes "r") (32 ∷ rest) (words.Infix op.Or) ws refl refl (omega arith) refl (refl, refl) (blank rest ws r))
connected Implies rest ws r = between_two 45 62 op.Implies rest ws refl refl r
connected Iff rest ws r = blank _ _ (symbol_three 60 45 62 (32 ∷ rest) (words.Infix op.Iff) ws refl refl (blank rest ws r))

-- ---- parts, one after another

-- a text is read as these words, whatever is read after it
abbrev ReadsAs : List ℕ → List Word → Type 0
ReadsAs text words = (rest : List ℕ) (ws : List Word) → Ends rest → Reads rest ws → Reads (text ++ rest) (words ++ ws)

as_same : (t u : List ℕ) (v w : List Word) → t ≡ u → v ≡ w → Reads u w → Reads t v
as_same t u v w e f r = subst (λ x. Reads x v) (sym e) (subst (λ x. Reads u x) (sym f) r)

-- a part, and a symbol that closes it
tail : (tx rest : List ℕ) (sx ws : List Word) (b : ℕ) (w : Word) → ReadsAs tx sx → Ends (b ∷ rest) → Reads (b ∷ rest) (w ∷ ws) → Reads ((tx ++ b ∷ []) ++ rest) ((sx ++ w ∷ []) ++ ws)
tail tx rest sx ws b w h e r = as_same _ (tx ++ b ∷ rest) _ (sx ++ w ∷ ws) (append_assoc tx (b ∷ []) rest) (append_assoc sx (w ∷ []) ws) (h (b ∷ rest) (w ∷ ws) e r)

-- texts one after another
four : (a b c d r : List ℕ) → (((a ++ b) ++ c) ++ d) ++ r ≡ a ++ (b ++ (c ++ (d ++ r)))
four a b c d r = append_assoc ((a ++ b) ++ c) d r ∙ append_assoc (a ++ b) c (d ++ r) ∙ append_assoc a b (c ++ (d ++ r))

nine : (a b c d e f g h i r : List ℕ) → ((((((((a ++ b) ++ c) ++ d) ++ e) ++ f) ++ g) ++ h) ++ i) ++ r ≡ a ++ (b ++ (c ++ (d ++ (e ++ (f ++ (g ++ (h ++ (i ++ r))))))))
nine a b c d e f g h i r =
    append_assoc (((((((a ++ b) ++ c) ++ d) ++ e) ++ f) ++ g) ++ h) i r ∙ four ((((a ++ b) ++ c) ++ d) ++ e) f g h (i ++ r) ∙ append_assoc (((a ++ b) ++ c) ++ d) e (f ++ (g ++ (h ++ (i ++ r))))
    ∙ four a b c d (e ++ (f ++ (g ++ (h ++ (i ++ r)))))

abbrev ReadsSign : List ℕ → Word → Type 0
ReadsSign sign w = (rest : List ℕ) (ws : List Word) → Reads rest ws → Reads (sign ++ rest) (w ∷ ws)

joined : (tx sign ty : List ℕ) (sx : List Word) (i : Infix) (sy : List Word) → ReadsAs tx sx → ReadsAs ty sy → ((rest : List ℕ) → Ends (sign ++ rest)) → ReadsSign sign (words.Infix i)
    → ReadsAs (codes "(" ++ tx ++ sign ++ ty ++ codes ")") (words.Open ∷ ((sx ++ words.Infix i ∷ sy) ++ words.Close ∷ []))
joined tx sign ty sx i sy hx hy es hs rest ws e r =
    open_paren _ _ (as_same _ (tx ++ (sign ++ (ty ++ 41 ∷ rest))) _ (sx ++ words.Infix i ∷ (sy ++ words.Close ∷ ws)) (four tx sign ty (41 ∷ []) rest)
    (append_assoc (sx ++ words.Infix i ∷ sy) (words.Close ∷ []) ws ∙ append_assoc sx (words.Infix i ∷ sy) (words.Close ∷ ws))
    (hx _ _ (es (ty ++ 41 ∷ rest)) (hs (ty ++ 41 ∷ rest) (sy ++ words.Close ∷ ws) (hy (41 ∷ rest) (words.Close ∷ ws) (refl, refl) (close rest ws r)))))

two_parts : (tx ty : List ℕ) (sx sy : List Word) (rest : List ℕ) (ws : List Word) → ReadsAs tx sx → ReadsAs ty sy → Reads rest ws
    → Reads ((tx ++ codes ", " ++ ty ++ codes ")") ++ rest) ((sx ++ words.Comma ∷ (sy ++ words.Close ∷ [])) ++ ws)
two_parts tx ty sx sy rest ws hx hy r =
    as_same _ (tx ++ (codes ", " ++ (ty ++ 41 ∷ rest))) _ (sx ++ words.Comma ∷ (sy ++ words.Close ∷ ws)) (four tx (codes ", ") ty (41 ∷ []) rest)
    (append_assoc sx (words.Comma ∷ (sy ++ words.Close ∷ [])) ws ∙ ap (λ v. sx ++ words.Comma ∷ v) (append_assoc sy (words.Close ∷ []) ws))
    (hx _ _ (refl, refl) (comma (ty ++ 41 ∷ rest) (sy ++ words.Close ∷ ws) (hy (41 ∷ rest) (words.Close ∷ ws) (refl, refl) (close rest ws r))))

operate : (o : Operator) (tx ty : List ℕ) (x y : Tree) → ReadsAs tx (spelling x) → ReadsAs ty (spelling y) → ReadsAs (opening o ++ tx ++ middle o ++ ty ++ codes ")") (spelling (operate_tree o x y))
unfolding spelling symbol_len word_of annotation_word_named
operate Add tx ty x y h k = joined tx (codes " + ") ty (spelling x) op.Add (spelling y) h k (λ rest. (refl, refl)) (λ rest ws r. between 43 op.Add rest ws refl refl r)
operate Subtract tx ty x y h k = joined tx (codes " - ") ty (spelling x) op.Subtract (spelling y) h k (λ rest. (refl, refl)) (λ rest ws r. between 45 op.Subtract rest ws refl refl r)
operate Multiply tx ty x y h k = joined tx (codes " * ") ty (spelling x) op.Multiply (spelling y) h k (λ rest. (refl, refl)) (λ rest ws r. between 42 op.Multiply rest ws refl refl r)
operate Divide tx ty x y h k =
    joined tx (codes " div ") ty (spelling x) op.Divide (spelling y) h k (λ rest. (refl, refl))
    (λ rest ws r. blank _ _ (word 100 (codes "iv") (32 ∷ rest) (words.Infix op.Divide) ws refl refl (omega arith) refl (refl, refl) (blank rest ws r)))
operate Modulo tx ty x y h k =
    joined tx (codes " mod ") ty (spelling x) op.Modulo (spelling y) h k (λ rest. (refl, refl))
    (λ rest ws r. blank _ _ (word 109 (codes "od") (32 ∷ rest) (words.Infix op.Modulo) ws refl refl (omega arith) refl (refl, refl) (blank rest ws r)))
operate BitAnd tx ty x y h k = λ rest ws e r.
    word 98 (codes "and") _ (words.Bits bits.And) _ refl refl (omega arith) refl (refl, refl) (open_paren _ _ (two_parts tx ty (spelling x) (spelling y) rest ws h k r))
operate BitOr tx ty x y h k = λ rest ws e r.
    word 98 (codes "or") _ (words.Bits bits.Or) _ refl refl (omega arith) refl (refl, refl) (open_paren _ _ (two_parts tx ty (spelling x) (spelling y) rest ws h k r))
operate BitXor tx ty x y h k = λ rest ws e r.
    word 98 (codes "xor") _ (words.Bits bits.Xor) _ refl refl (omega arith) refl (refl, refl) (open_paren _ _ (two_parts tx ty (spelling x) (spelling y) rest ws h k r))

-- ---- quantities

-- each bound name is a name
abbrev AreNames : List (List ℕ) → Type 0
AreNames names = (name : List ℕ) → Contains names name → IsBoundName name

-- a text that doesn't begin with >
record Begins (text : List ℕ) : Type 0 where
  first : ℕ
  rest : List ℕ
  whole : text ≡ first ∷ rest
  other : nat_eq 62 first ≡ false

begins : (first : ℕ) (rest : List ℕ) → nat_eq 62 first ≡ false → Begins (first ∷ rest)
begins first rest other = record { first = first; rest = rest; whole = refl; other = other }

location_begins : (x : Loc) (rest : List ℕ) → Begins (location_name x ++ rest)
location_begins loc.A rest = begins 65 rest refl
location_begins loc.B rest = begins 66 rest refl
location_begins loc.C rest = begins 67 rest refl
location_begins loc.D rest = begins 68 rest refl
location_begins loc.E rest = begins 69 rest refl
location_begins loc.H rest = begins 72 rest refl
location_begins loc.L rest = begins 76 rest refl
location_begins loc.S rest = begins 83 rest refl
location_begins loc.Z rest = begins 90 rest refl
location_begins loc.Ac rest = begins 65 (67 ∷ rest) refl
location_begins loc.P rest = begins 80 rest refl
location_begins loc.Cy rest = begins 67 (89 ∷ rest) refl

pair_begins : (p : RegisterPair) (rest : List ℕ) → Begins (pair_name p ++ rest)
pair_begins BC rest = begins 66 (67 ∷ rest) refl
pair_begins DE rest = begins 68 (69 ∷ rest) refl
pair_begins HL rest = begins 72 (76 ∷ rest) refl

operate_begins : (o : Operator) (tx ty : List ℕ) → Begins (opening o ++ tx ++ middle o ++ ty ++ codes ")")
operate_begins Add tx ty = begins 40 _ refl
operate_begins Subtract tx ty = begins 40 _ refl
operate_begins Multiply tx ty = begins 40 _ refl
operate_begins Divide tx ty = begins 40 _ refl
operate_begins Modulo tx ty = begins 40 _ refl
operate_begins BitAnd tx ty = begins 98 _ refl
operate_begins BitOr tx ty = begins 98 _ refl
operate_begins BitXor tx ty = begins 98 _ refl

quantity_begins : (names : List (List ℕ)) (x : Quantity) → AreNames names → HasBoundNames names x → IsInLimits x → Begins (quantity_text x)
quantity_begins names (Literal n) a b l = let h = numeral n (omega (arith, l)) in record { first = h.first; rest = h.rest; whole = h.whole; other = h.other }
quantity_begins names (Location m x) a b l = location_begins x (moment_mark m)
quantity_begins names (Pair m p) a b l = pair_begins p (moment_mark m)
quantity_begins names (Cell m x) a b l = begins 109 _ refl
quantity_begins names (StackWord k) a b l = begins 83 _ refl
quantity_begins names (Total m x y) a b l = begins 116 _ refl
quantity_begins names (Negative x) a b l = begins 40 _ refl
quantity_begins names (Parity x) a b l = begins 112 _ refl
quantity_begins names (Operate o x y) a b l = operate_begins o (quantity_text x) (quantity_text y)
quantity_begins names (Bound n) a b l = let h = name_is n (a n b) in record { first = h.first; rest = h.rest; whole = h.whole; other = h.other }

signed : (tx : List ℕ) (rest : List ℕ) (ws : List Word) → Begins tx → Reads ((tx ++ 41 ∷ []) ++ rest) ws → Reads (45 ∷ ((tx ++ 41 ∷ []) ++ rest)) (words.Infix op.Subtract ∷ ws)
signed tx rest ws h r =
    subst (λ x. Reads (45 ∷ ((x ++ 41 ∷ []) ++ rest)) (words.Infix op.Subtract ∷ ws)) (sym h.whole)
    (minus h.first ((h.rest ++ 41 ∷ []) ++ rest) ws h.other (subst (λ x. Reads ((x ++ 41 ∷ []) ++ rest) ws) h.whole r))

cell_text : (m : Moment) (tx rest : List ℕ) → (moment_mark m ++ codes "[" ++ tx ++ codes "]") ++ rest ≡ moment_mark m ++ (91 ∷ ((tx ++ 93 ∷ []) ++ rest))
cell_text Now tx rest = refl
cell_text AtEntry tx rest = refl

total_text : (m : Moment) (tx ty rest : List ℕ) → (moment_mark m ++ codes "(" ++ tx ++ codes ", " ++ ty ++ codes ")") ++ rest ≡ moment_mark m ++ (40 ∷ ((tx ++ codes ", " ++ ty ++ codes ")") ++ rest))
total_text Now tx ty rest = refl
total_text AtEntry tx ty rest = refl

quantity_reads : (names : List (List ℕ)) (x : Quantity) → AreNames names → HasBoundNames names x → IsInLimits x → ReadsAs (quantity_text x) (spelling (quantity_tree x))
unfolding spelling
quantity_reads names (Literal n) a b l = λ rest ws e r. number n rest ws l e r
quantity_reads names (Location m x) a b l = λ rest ws e r.
    as_same _ (location_name x ++ (moment_mark m ++ rest)) _ _ (append_assoc (location_name x) (moment_mark m) rest) refl
    (location x (moment_mark m ++ rest) (mark (moment_in m) ++ ws) (marked_ends m rest e) (marked m rest ws r))
quantity_reads names (Pair m p) a b l = λ rest ws e r.
    as_same _ (pair_name p ++ (moment_mark m ++ rest)) _ _ (append_assoc (pair_name p) (moment_mark m) rest) refl
    (register_pair p (moment_mark m ++ rest) (mark (moment_in m) ++ ws) (marked_ends m rest e) (marked m rest ws r))
quantity_reads names (Cell m x) a b l = λ rest ws e r.
    let tx = quantity_text x in
    let sx = spelling (quantity_tree x) in
    let inner = open_bracket _ _ (tail tx rest sx ws 93 words.CloseBracket (quantity_reads names x a b l) (refl, refl) (close_bracket rest ws r)) in
    mem _ _ (subst Ends (sym (cell_text m tx rest)) (marked_ends m (91 ∷ ((tx ++ 93 ∷ []) ++ rest)) (refl, refl)))
    (as_same _ (moment_mark m ++ (91 ∷ ((tx ++ 93 ∷ []) ++ rest))) _ (mark (moment_in m) ++ (words.OpenBracket ∷ ((sx ++ words.CloseBracket ∷ []) ++ ws)))
    (cell_text m tx rest) (append_assoc (mark (moment_in m)) (words.OpenBracket ∷ (sx ++ words.CloseBracket ∷ [])) ws)
    (marked m (91 ∷ ((tx ++ 93 ∷ []) ++ rest)) (words.OpenBracket ∷ ((sx ++ words.CloseBracket ∷ []) ++ ws)) inner))
quantity_reads names (StackWord k) a b l = λ rest ws e r. slot k rest ws l.0 l.1 e r
quantity_reads names (Total m x y) a b l = λ rest ws e r.
    let tx = quantity_text x in
    let ty = quantity_text y in
    let sx = spelling (quantity_tree x) in
    let sy = spelling (quantity_tree y) in
    let inner = open_paren _ _ (two_parts tx ty sx sy rest ws (quantity_reads names x a b.0 l.0) (quantity_reads names y a b.1 l.1) r) in
    total _ _ (subst Ends (sym (total_text m tx ty rest)) (marked_ends m (40 ∷ ((tx ++ codes ", " ++ ty ++ codes ")") ++ rest)) (refl, refl)))
    (as_same _ (moment_mark m ++ (40 ∷ ((tx ++ codes ", " ++ ty ++ codes ")") ++ rest))) _ (mark (moment_in m) ++ (words.Open ∷ ((sx ++ words.Comma ∷ (sy ++ words.Close ∷ [])) ++ ws)))
    (total_text m tx ty rest) (append_assoc (mark (moment_in m)) (words.Open ∷ (sx ++ words.Comma ∷ (sy ++ words.Close ∷ []))) ws)
    (marked m (40 ∷ ((tx ++ codes ", " ++ ty ++ codes ")") ++ rest)) (words.Open ∷ ((sx ++ words.Comma ∷ (sy ++ words.Close ∷ [])) ++ ws)) inner))
quantity_reads names (Negative x) a b l = λ rest ws e r.
    open_paren _ _ (signed (quantity_text x) rest _ (quantity_begins names x a b l)
    (tail (quantity_text x) rest (spelling (quantity_tree x)) ws 41 words.Close (quantity_reads names x a b l) (refl, refl) (close rest ws r)))
quantity_reads names (Parity x) a b l = λ rest ws e r.
    par _ _ (tail (quantity_text x) rest (spelling (quantity_tree x)) ws 41 words.Close (quantity_reads names x a b l) (refl, refl) (close rest ws r))
quantity_reads names (Operate o x y) a b l = operate o (quantity_text x) (quantity_text y) (quantity_tree x) (quantity_tree y) (quantity_reads names x a b.0 l.0) (quantity_reads names y a b.1 l.1)
quantity_reads names (Bound n) a b l = λ rest ws e r. name n rest ws (a n b) e r

-- ---- notes

with_name : (name : List ℕ) (names : List (List ℕ)) → IsBoundName name → AreNames names → AreNames (name ∷ names)
with_name name names h a other c = found c.0 c.1 c.2
  where
    found : (k : ℕ) → k < length (name ∷ names) → get_or (name ∷ names) k other ≡ other → IsBoundName other
    found zero lt e = subst IsBoundName e h
    found (suc k) lt e = a other (k, omega (arith, lt), e)

quantified : (q : Quantifier) (rest : List ℕ) (ws : List Word) → Reads rest ws → Reads (quantifier_words q ++ rest) (words.For ∷ words.Quantifier (quantifier_in q) ∷ ws)
unfolding word_of annotation_word_named
quantified ForAll rest ws r =
    word 102 (codes "or") _ words.For _ refl refl (omega arith) refl (refl, refl)
    (blank _ _ (word 97 (codes "ll") (32 ∷ rest) (words.Quantifier quantifier.ForAll) ws refl refl (omega arith) refl (refl, refl) (blank rest ws r)))
quantified ForSome rest ws r =
    word 102 (codes "or") _ words.For _ refl refl (omega arith) refl (refl, refl)
    (blank _ _ (word 115 (codes "ome") (32 ∷ rest) (words.Quantifier quantifier.ForSome) ws refl refl (omega arith) refl (refl, refl) (blank rest ws r)))

in_word : (rest : List ℕ) (ws : List Word) → Reads rest ws → Reads (codes " in " ++ rest) (words.In ∷ ws)
unfolding word_of annotation_word_named
in_word rest ws r = blank _ _ (word 105 (codes "n") (32 ∷ rest) words.In ws refl refl (omega arith) refl (refl, refl) (blank rest ws r))

sign_ends : (c : Comparison) (rest : List ℕ) → Ends (comparison_sign c ++ rest)
sign_ends Equal rest = (refl, refl)
sign_ends Unequal rest = (refl, refl)
sign_ends Less rest = (refl, refl)
sign_ends LessOrEqual rest = (refl, refl)
sign_ends Greater rest = (refl, refl)
sign_ends GreaterOrEqual rest = (refl, refl)

connective_ends : (c : Connective) (rest : List ℕ) → Ends (connective_word c ++ rest)
connective_ends And rest = (refl, refl)
connective_ends Or rest = (refl, refl)
connective_ends Implies rest = (refl, refl)
connective_ends Iff rest = (refl, refl)

-- what stands after the name of a quantifier
ranged : (tx ty tp rest : List ℕ) (sx sy sp ws : List Word) → ReadsAs tx sx → ReadsAs ty sy → ReadsAs tp sp → Reads rest ws
    → Reads (tx ++ (codes ".." ++ (ty ++ (codes ": " ++ (tp ++ 41 ∷ rest))))) (((sx ++ words.Range ∷ (sy ++ words.Colon ∷ sp)) ++ words.Close ∷ []) ++ ws)
ranged tx ty tp rest sx sy sp ws hx hy hp r =
    as_same _ (tx ++ (codes ".." ++ (ty ++ (codes ": " ++ (tp ++ 41 ∷ rest))))) _ (sx ++ words.Range ∷ (sy ++ words.Colon ∷ (sp ++ words.Close ∷ ws))) refl
    (append_assoc (sx ++ words.Range ∷ (sy ++ words.Colon ∷ sp)) (words.Close ∷ []) ws ∙ append_assoc sx (words.Range ∷ (sy ++ words.Colon ∷ sp)) (words.Close ∷ ws)
    ∙ ap (λ v. sx ++ words.Range ∷ v) (append_assoc sy (words.Colon ∷ sp) (words.Close ∷ ws)))
    (hx _ _ (refl, refl) (range (ty ++ (codes ": " ++ (tp ++ 41 ∷ rest))) (sy ++ words.Colon ∷ (sp ++ words.Close ∷ ws))
    (hy _ _ (refl, refl) (colon (tp ++ 41 ∷ rest) (sp ++ words.Close ∷ ws) (hp (41 ∷ rest) (words.Close ∷ ws) (refl, refl) (close rest ws r))))))

quantify : (q : Quantifier) (n tx ty tp : List ℕ) (sx sy sp : List Word) → IsBoundName n → ReadsAs tx sx → ReadsAs ty sy → ReadsAs tp sp
    → ReadsAs (codes "(" ++ quantifier_words q ++ n ++ codes " in " ++ tx ++ codes ".." ++ ty ++ codes ": " ++ tp ++ codes ")")
    (words.Open ∷ ((words.For ∷ words.Quantifier (quantifier_in q) ∷ words.Name n ∷ words.In ∷ (sx ++ words.Range ∷ (sy ++ words.Colon ∷ sp))) ++ words.Close ∷ []))
quantify q n tx ty tp sx sy sp bound hx hy hp rest ws e r =
    let more = ((sx ++ words.Range ∷ (sy ++ words.Colon ∷ sp)) ++ words.Close ∷ []) ++ ws in
    let end = tx ++ (codes ".." ++ (ty ++ (codes ": " ++ (tp ++ 41 ∷ rest)))) in
    let inner : Reads (codes " in " ++ end) (words.In ∷ more) = in_word end more (ranged tx ty tp rest sx sy sp ws hx hy hp r) in
    open_paren _ _ (subst (λ t. Reads t (words.For ∷ words.Quantifier (quantifier_in q) ∷ words.Name n ∷ words.In ∷ more))
    (sym (nine (quantifier_words q) n (codes " in ") tx (codes "..") ty (codes ": ") tp (41 ∷ []) rest))
    (quantified q (n ++ (codes " in " ++ end)) (words.Name n ∷ words.In ∷ more) (name n (codes " in " ++ end) (words.In ∷ more) bound (refl, refl) inner)))

note_reads : (names : List (List ℕ)) (p : Note) → AreNames names → BindsNames names p → NoteIsInLimits p → ReadsAs (note_text p) (spelling (note_tree p))
unfolding spelling
note_reads names (Constant truth) a b l = λ rest ws e r. constant truth rest ws e r
note_reads names (Compare c x y) a b l =
    joined (quantity_text x) (comparison_sign c) (quantity_text y) (spelling (quantity_tree x)) (op.Compare (comparison_in c)) (spelling (quantity_tree y))
    (quantity_reads names x a b.0 l.0) (quantity_reads names y a b.1 l.1) (sign_ends c) (compared c)
note_reads names (Not p) a b l = λ rest ws e r.
    not_word _ _ (tail (note_text p) rest (spelling (note_tree p)) ws 41 words.Close (note_reads names p a b l) (refl, refl) (close rest ws r))
note_reads names (Connect c p q) a b l =
    joined (note_text p) (connective_word c) (note_text q) (spelling (note_tree p)) (connective_in c) (spelling (note_tree q))
    (note_reads names p a b.0 l.0) (note_reads names q a b.1 l.1) (connective_ends c) (connected c)
note_reads names (Quantify q n x y p) a b l =
    quantify q n (quantity_text x) (quantity_text y) (note_text p) (spelling (quantity_tree x)) (spelling (quantity_tree y)) (spelling (note_tree p)) l.0
    (quantity_reads names x a b.0 l.1) (quantity_reads names y a b.1 l.2) (note_reads (n ∷ names) p (with_name n names l.0 a) b.2 l.3)

pub printed_stand : PrintedNotesStandForThemselves
printed_stand note h =
    let names : AreNames [] = λ n c. absurd (let lt = c.1 in omega (arith, lt)) in
    let r = note_reads [] note names h.closed h.limits [] [] (refl, refl) done in
    let text : note_text note ++ [] ≡ note_text note = append-nil (note_text note) in
    let whole : Reads (note_text note) (spelling (note_tree note)) = subst (λ t. Reads t (spelling (note_tree note))) text (subst (λ v. Reads (note_text note ++ []) v) (append-nil (spelling (note_tree note))) r) in
    let written : IsWritten (note_text note) (tokens_from 0 whole.cuts) (note_tree note) = record {
      ws = spelling (note_tree note);
      words = token_words 0 (note_text note) [] (note_text note) whole.cuts refl refl whole.cut ∙ whole.words;
      spells = record { grammar = (closed_note note).2; whole = refl };
    } in
    record {
      tokens = tokens_from 0 whole.cuts;
      cut = record { cuts = whole.cuts; cut = whole.cut; sound = whole.sound; tokens_are = refl };
      tree = note_tree note;
      written = written;
      means = note_means note;
      alone = λ others other h w.
          (let same : h.cuts ≡ whole.cuts = one_cutting true (note_text note) h.cuts whole.cuts h.cut whole.cut in
          let tokens : others ≡ tokens_from 0 whole.cuts = h.tokens_are ∙ ap (tokens_from 0) same in
          (one_meaning (note_text note) (tokens_from 0 whole.cuts) other (note_tree note) (subst (λ ts. IsWritten (note_text note) ts other) tokens w) written).0 ∙ note_means note);
    }

-- ---- the reader's answer

quantity_sort : (x : Quantity) → sort_of (quantity_as_read x) ≡ Some sort.Number
quantity_sort (Literal n) = refl
quantity_sort (Location m x) = refl
quantity_sort (Pair m p) = refl
quantity_sort (Cell m x) = rw (quantity_sort x) refl
quantity_sort (StackWord k) = refl
quantity_sort (Total m x y) = rw (quantity_sort x, quantity_sort y) refl
quantity_sort (Negative x) = rw (quantity_sort x) refl
quantity_sort (Parity x) = rw (quantity_sort x) refl
quantity_sort (Operate o x y) = rw (quantity_sort x, quantity_sort y) refl
quantity_sort (Bound n) = refl

note_sort : (p : Note) → sort_of (note_as_read p) ≡ Some sort.Truth
note_sort (Constant truth) = refl
note_sort (Compare c x y) = rw (quantity_sort x, quantity_sort y) refl
note_sort (Not p) = rw (note_sort p) refl
note_sort (Connect c p q) = rw (note_sort p, note_sort q) refl
note_sort (Quantify q n x y p) = rw (quantity_sort x, quantity_sort y, note_sort p) refl

pub printed_read : PrintedNotesAreRead
printed_read note tokens tree h cut written shallow narrow =
    read_right (note_text note) tokens (note_as_read note) (record {
      tree = tree;
      written = written;
      shallow = shallow;
      means = sym ((printed_stand note h).alone tokens tree cut written);
      sorted = note_sort note;
      narrow = narrow;
    })
