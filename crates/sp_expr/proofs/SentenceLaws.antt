-- The words of an expression are accepted.
use Rattle.std.proofs.Common.{◌≡◌, ℕ, suc, ◌+◌, ◌<◌, ◌≤◌, Bool, true, false, cond, List, [], ◌∷◌, ◌++◌, Some, None, refl, sym, ap, ◌∙◌, arith, append_assoc, inl, inr}
use Rattle.std.specs.Prelude.{nat_le, not}
use Rattle.std.proofs.lemmas.Bool.{eq-eqb, cases_Bool}
use Rattle.std.proofs.lemmas.List.{append-nil}
use Rattle.sp_words.specs.code.Tables.{is_annotation_word}
use Rattle.sp_words.proofs.AnnotationLemmas.{is_annotation_exact}
use Rattle.sp_expr.specs.declared.setting.Setting.{Setting}
use Rattle.sp_expr.specs.declared.setting.Setting.TheVariants.{Statement, Annotation}
use Rattle.sp_expr.specs.Setting.{HasAddress, IsName}
use Rattle.sp_expr.specs.declared.word.Word.{Word}
use Rattle.sp_expr.specs.declared.word.Word.TheVariants as words
use Rattle.sp_expr.specs.declared.sentence.Place.{Place}
use Rattle.sp_expr.specs.declared.sentence.Place.TheVariants.{Start, Operand, After}
use Rattle.sp_expr.specs.Arithmetic.{rank_of}
use Rattle.sp_expr.specs.code.Sentence.{has_address, is_name, accepts_in, is_sentence_in}
use Rattle.sp_expr.specs.Trees.{Tree, Number, Name, Here, Paren, Sign, Not, Binary, rank_of_tree, IsExpression, spelling, SpellsIn}

-- where a tree of this rank may stand
abbrev MayStand : Place → ℕ → Type 0
MayStand Start rank = Unit {0}
MayStand Operand rank = rank ≤ 1
MayStand After rank = ⊥

le_true : (a b : ℕ) → a ≤ b → nat_le a b ≡ true
le_true a b h = grind arith

le_false : (a b : ℕ) → b < a → nat_le a b ≡ false
le_false a b h = grind arith

suc_of : (n : ℕ) → n + 1 ≡ suc n
suc_of n = omega arith

tighter : (place : Place) (low high : ℕ) → low ≤ high → MayStand place high → MayStand place low
tighter Start low high le may = tt
tighter Operand low high le may = omega arith
tighter After low high le may = absurd may

low_rank : (low rank : ℕ) → low < rank → nat_le rank 2 ≡ true → low ≤ 1
low_rank low rank lt le = grind arith

-- ---- settings

other : (b : Bool) → (b ≡ true → ⊥) → not b ≡ true
other true h = absurd (h refl)
other false h = refl

other_not : (b : Bool) → not b ≡ true → b ≡ true → ⊥
other_not true h e = absurd cc
other_not false h e = absurd cc

pub address_is : (setting : Setting) → HasAddress setting → has_address setting ≡ true
address_is Statement h = refl
address_is Annotation h = absurd h

pub has_address_is : (setting : Setting) → has_address setting ≡ true → HasAddress setting
has_address_is Statement h = tt
has_address_is Annotation h = absurd cc

pub name_is : (setting : Setting) (name : List ℕ) → IsName setting name → is_name setting name ≡ true
name_is Statement name h = refl
name_is Annotation name h = other (is_annotation_word name) (λ e. h ((is_annotation_exact name).0 e))

pub is_name_is : (setting : Setting) (name : List ℕ) → is_name setting name ≡ true → IsName setting name
is_name_is Statement name h = tt
is_name_is Annotation name h = λ word. other_not (is_annotation_word name) h ((is_annotation_exact name).1 word)

may : (setting : Setting) (b : Bool) (opened : ℕ) (rest : List Word) → b ≡ true
    → accepts_in setting rest (cond b (Some (After, opened)) None) ≡ accepts_in setting rest (Some (After, opened))
may setting b opened rest e = ap (λ c. accepts_in setting rest (cond c (Some (After, opened)) None)) e

-- ---- trees

accepts-tree : (setting : Setting) (t : Tree) → IsExpression setting t → (place : Place) (opened : ℕ) (rest : List Word) → MayStand place (rank_of_tree t)
    → accepts_in setting (spelling t ++ rest) (Some (place, opened)) ≡ accepts_in setting rest (Some (After, opened))
unfolding spelling accepts_in
accepts-tree setting (Number n) h Start opened rest stands = refl
accepts-tree setting (Number n) h Operand opened rest stands = refl
accepts-tree setting (Number n) h After opened rest stands = absurd stands
accepts-tree setting (Name name) h Start opened rest stands = may setting (is_name setting name) opened rest (name_is setting name h)
accepts-tree setting (Name name) h Operand opened rest stands = may setting (is_name setting name) opened rest (name_is setting name h)
accepts-tree setting (Name name) h After opened rest stands = absurd stands
accepts-tree setting Here h Start opened rest stands = may setting (has_address setting) opened rest (address_is setting h)
accepts-tree setting Here h Operand opened rest stands = may setting (has_address setting) opened rest (address_is setting h)
accepts-tree setting Here h After opened rest stands = absurd stands
accepts-tree setting (Paren t) h Start opened rest stands =
    ap (λ ws. accepts_in setting ws (Some (Start, opened + 1))) (append_assoc (spelling t) (words.Close ∷ []) rest) ∙ accepts-tree setting t h Start (opened + 1) (words.Close ∷ rest) tt
    ∙ ap (λ k. accepts_in setting (words.Close ∷ rest) (Some (After, k))) (suc_of opened)
accepts-tree setting (Paren t) h Operand opened rest stands =
    ap (λ ws. accepts_in setting ws (Some (Start, opened + 1))) (append_assoc (spelling t) (words.Close ∷ []) rest) ∙ accepts-tree setting t h Start (opened + 1) (words.Close ∷ rest) tt
    ∙ ap (λ k. accepts_in setting (words.Close ∷ rest) (Some (After, k))) (suc_of opened)
accepts-tree setting (Paren t) h After opened rest stands = absurd stands
accepts-tree setting (Sign sign t) h Start opened rest stands =
    ap (λ b. accepts_in setting (spelling t ++ rest) (cond b (Some (Operand, opened)) None)) (eq-eqb (rank_of sign) 2 h.0) ∙ accepts-tree setting t h.2 Operand opened rest h.1
accepts-tree setting (Sign sign t) h Operand opened rest stands = absurd (omega arith)
accepts-tree setting (Sign sign t) h After opened rest stands = absurd stands
accepts-tree setting (Not t) h Start opened rest stands = accepts-tree setting t h.1 Start opened rest tt
accepts-tree setting (Not t) h Operand opened rest stands = absurd (omega arith)
accepts-tree setting (Not t) h After opened rest stands = absurd stands
accepts-tree setting (Binary operator l r) h place opened rest stands =
    ap (λ ws. accepts_in setting ws (Some (place, opened))) (append_assoc (spelling l) (words.Operator operator ∷ spelling r) rest)
    ∙ accepts-tree setting l h.2 place opened (words.Operator operator ∷ (spelling r ++ rest)) (tighter place (rank_of_tree l) (rank_of operator) h.0 stands)
    ∙ elim (cases_Bool (nat_le (rank_of operator) 2)) [
      | inl low ↦
          ap (λ b. accepts_in setting (spelling r ++ rest) (cond b (Some (Operand, opened)) (Some (Start, opened)))) low
          ∙ accepts-tree setting r h.3 Operand opened rest (low_rank (rank_of_tree r) (rank_of operator) h.1 low)
      | inr high ↦
          ap (λ b. accepts_in setting (spelling r ++ rest) (cond b (Some (Operand, opened)) (Some (Start, opened)))) high
          ∙ accepts-tree setting r h.3 Start opened rest tt
    ]

pub spelled_is_sentence : (setting : Setting) (ws : List Word) (t : Tree) → SpellsIn setting ws t → is_sentence_in setting ws ≡ true
unfolding accepts_in
spelled_is_sentence setting ws t h =
    ap (λ w. accepts_in setting w (Some (Start, 0))) (h.whole ∙ sym (append-nil (spelling t))) ∙ accepts-tree setting t h.grammar Start 0 [] tt
