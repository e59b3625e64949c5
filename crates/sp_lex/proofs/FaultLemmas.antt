-- The first of the faults of a line's pieces.
use Rattle.std.proofs.Common.{◌≡◌, ℕ, ◌<◌, Bool, true, false, List, [], ◌∷◌, Option, Some, None, refl, sym, ap, ◌∙◌, ◌⊎◌, inl, inr, arith, length}
use Rattle.std.specs.Prelude.{nat_le, is_some}
use Rattle.std.specs.List.{list_all}
use Rattle.std.proofs.lemmas.Bool.{leb-true, leb-false, lt-leb, cond_both}
use Rattle.sp_lex.specs.declared.refusal.TextKind.{TextKind}
use Rattle.sp_lex.specs.declared.refusal.TextKind.TheVariants.{LongLine, BadByte, OpenQuote, BadNumber}
use Rattle.sp_lex.specs.declared.token.TokenKind.TheVariants.{Name, Number, Text, Symbol}
use Rattle.sp_lex.specs.declared.pieces.PieceKind.{PieceKind}
use Rattle.sp_lex.specs.declared.pieces.PieceKind.TheVariants as pieces
use Rattle.sp_lex.specs.Bytes.{is_plain, is_comment_byte}
use Rattle.sp_lex.specs.Numbers.{number_of, at_most, limit_of}
use Rattle.sp_lex.specs.Pieces.{Cut, Breaks, SomeBreaks}
use Rattle.sp_lex.specs.Refusal.{rank_of}
use Rattle.sp_lex.specs.code.Pieces.{unless, fault_of, first_fault, fault_in}

-- of the kinds that stand, this one comes first, or none stands
abbrev pub IsFirst : (TextKind → Type 0) → Option TextKind → Type 0
IsFirst Stands None = (kind : TextKind) → ¬ Stands kind
IsFirst Stands (Some kind) = Stands kind × ((other : TextKind) → rank_of other < rank_of kind → ¬ Stands other)

pub first_by : (P Q : TextKind → Type 0) (o : Option TextKind) → ((k : TextKind) → P k → Q k) → ((k : TextKind) → Q k → P k) → IsFirst P o → IsFirst Q o
first_by P Q None to back h = λ k q. h k (back k q)
first_by P Q (Some kind) to back h = (to kind h.0, λ k lower q. h.1 k lower (back k q))

-- ---- one piece

no_value : (o : Option ℕ) → is_some o ≡ false → o ≡ None
no_value None e = refl
no_value (Some value) e = absurd cc

only : (test : Bool) (kind : TextKind) (P : TextKind → Type 0) → ((k : TextKind) → P k → (k ≡ kind) × (test ≡ false)) → (test ≡ false → P kind) → IsFirst P (unless test kind)
only true kind P means stands = λ k p. let e = (means k p).1 in cc
only false kind P means stands = (stands refl, λ other lower p. let e = ap rank_of (means other p).0 in omega (arith, e, lower))

module _ (annotation : Bool) (text : List ℕ) where
  comment_means : (k : TextKind) → Breaks annotation pieces.Comment text k → (k ≡ BadByte) × (list_all is_comment_byte text ≡ false)
  comment_means BadByte h = (refl, h)
  comment_means LongLine h = absurd h
  comment_means OpenQuote h = absurd h
  comment_means BadNumber h = absurd h

  name_means : (k : TextKind) → Breaks annotation (pieces.Token Name) text k → (k ≡ BadByte) × (nat_le (length text) 31 ≡ false)
  name_means BadByte h = (refl, lt-leb (length text) 31 h)
  name_means LongLine h = absurd h
  name_means OpenQuote h = absurd h
  name_means BadNumber h = absurd h

  text_means : (k : TextKind) → Breaks annotation (pieces.Token Text) text k → (k ≡ BadByte) × (list_all is_plain text ≡ false)
  text_means BadByte h = (refl, h)
  text_means LongLine h = absurd h
  text_means OpenQuote h = absurd h
  text_means BadNumber h = absurd h

  number_means : (k : TextKind) → Breaks annotation (pieces.Token Number) text k → (k ≡ BadNumber) × (is_some (at_most (limit_of annotation) (number_of text)) ≡ false)
  number_means BadNumber h = (refl, ap is_some h)
  number_means LongLine h = absurd h
  number_means OpenQuote h = absurd h
  number_means BadByte h = absurd h

  none_breaks : (k : TextKind) → ¬ Breaks annotation (pieces.Token Symbol) text k
  none_breaks LongLine h = h
  none_breaks BadByte h = h
  none_breaks OpenQuote h = h
  none_breaks BadNumber h = h

  blank_breaks : (k : TextKind) → ¬ Breaks annotation pieces.Blank text k
  blank_breaks LongLine h = h
  blank_breaks BadByte h = h
  blank_breaks OpenQuote h = h
  blank_breaks BadNumber h = h

  stray_lower : (k : TextKind) → rank_of k < 1 → ¬ Breaks annotation pieces.Stray text k
  stray_lower LongLine lower h = h
  stray_lower BadByte lower h = omega (arith, lower)
  stray_lower OpenQuote lower h = h
  stray_lower BadNumber lower h = h

  open_lower : (k : TextKind) → rank_of k < 1 → ¬ Breaks annotation pieces.OpenText text k
  open_lower LongLine lower h = h
  open_lower BadByte lower h = omega (arith, lower)
  open_lower OpenQuote lower h = omega (arith, lower)
  open_lower BadNumber lower h = h

  plain_lower : list_all is_plain text ≡ true → (k : TextKind) → rank_of k < 2 → ¬ Breaks annotation pieces.OpenText text k
  plain_lower plain LongLine lower h = h
  plain_lower plain BadByte lower h = let e : true ≡ false = sym plain ∙ h in cc
  plain_lower plain OpenQuote lower h = omega (arith, lower)
  plain_lower plain BadNumber lower h = h

  pub piece_first : (kind : PieceKind) → IsFirst (Breaks annotation kind text) (fault_of annotation kind text)
  unfolding fault_of
  piece_first pieces.Blank = blank_breaks
  piece_first pieces.Comment = only (list_all is_comment_byte text) BadByte (Breaks annotation pieces.Comment text) comment_means (λ e. e)
  piece_first (pieces.Token Name) = only (nat_le (length text) 31) BadByte (Breaks annotation (pieces.Token Name) text) name_means (λ e. leb-false (length text) 31 e)
  piece_first (pieces.Token Number) =
      only (is_some (at_most (limit_of annotation) (number_of text))) BadNumber (Breaks annotation (pieces.Token Number) text) number_means (λ e. no_value (at_most (limit_of annotation) (number_of text)) e)
  piece_first (pieces.Token Text) = only (list_all is_plain text) BadByte (Breaks annotation (pieces.Token Text) text) text_means (λ e. e)
  piece_first (pieces.Token Symbol) = none_breaks
  piece_first pieces.OpenText =
      cond_both (list_all is_plain text) (Some OpenQuote) (Some BadByte) (IsFirst (Breaks annotation pieces.OpenText text))
      (λ plain. (tt, plain_lower plain)) (λ other. (other, open_lower))
  piece_first pieces.Stray = (tt, stray_lower)

-- ---- all pieces

-- the first of two is first of what either says
two_first : (P Q : TextKind → Type 0) (a b : Option TextKind) → IsFirst P a → IsFirst Q b → IsFirst (λ k. P k ⊎ Q k) (first_fault a b)
two_first P Q None None h g = λ k s. elim s [ inl p ↦ h k p | inr q ↦ g k q ]
two_first P Q None (Some b) h g = (inr g.0, λ k lower s. elim s [ inl p ↦ h k p | inr q ↦ g.1 k lower q ])
two_first P Q (Some a) None h g = (inl h.0, λ k lower s. elim s [ inl p ↦ h.1 k lower p | inr q ↦ g k q ])
two_first P Q (Some a) (Some b) h g =
    cond_both (nat_le (rank_of a) (rank_of b)) (Some a) (Some b) (IsFirst (λ k. P k ⊎ Q k))
    (λ t. let le = leb-true (rank_of a) (rank_of b) t in
    (inl h.0, λ k lower s. elim s [ inl p ↦ h.1 k lower p | inr q ↦ g.1 k (omega (arith, le, lower)) q ]))
    (λ f. let lt = leb-false (rank_of a) (rank_of b) f in
    (inr g.0, λ k lower s. elim s [ inl p ↦ h.1 k (omega (arith, lt, lower)) p | inr q ↦ g.1 k lower q ]))

pieces_first : (annotation : Bool) (P : TextKind → Type 0) (before : Option TextKind) (cs : List Cut) → IsFirst P before → IsFirst (λ k. P k ⊎ SomeBreaks annotation cs k) (fault_in annotation before cs)
pieces_first annotation P before [] h = first_by P (λ k. P k ⊎ ⊥) before (λ k p. inl p) (λ k s. elim s [ inl p ↦ p | inr q ↦ absurd q ]) h
pieces_first annotation P before (c ∷ cs) h =
    let Q : TextKind → Type 0 = λ k. P k ⊎ Breaks annotation c.kind c.text k in
    let two = two_first P (Breaks annotation c.kind c.text) before (fault_of annotation c.kind c.text) h (piece_first annotation c.text c.kind) in
    first_by (λ k. Q k ⊎ SomeBreaks annotation cs k) (λ k. P k ⊎ SomeBreaks annotation (c ∷ cs) k) (fault_in annotation before (c ∷ cs))
    (λ k s. elim s [ inl q ↦ elim q [ inl p ↦ inl p | inr b ↦ inr (inl b) ] | inr more ↦ inr (inr more) ])
    (λ k s. elim s [ inl p ↦ inl (inl p) | inr more ↦ elim more [ inl b ↦ inl (inr b) | inr rest ↦ inr rest ] ])
    (pieces_first annotation Q (first_fault before (fault_of annotation c.kind c.text)) cs two)

pub fault_in-first : (annotation : Bool) (cs : List Cut) → IsFirst (SomeBreaks annotation cs) (fault_in annotation None cs)
fault_in-first annotation cs =
    first_by (λ k. ⊥ ⊎ SomeBreaks annotation cs k) (SomeBreaks annotation cs) (fault_in annotation None cs)
    (λ k s. elim s [ inl p ↦ absurd p | inr more ↦ more ]) (λ k b. inr b)
    (pieces_first annotation (λ k. ⊥) None cs (λ k p. p))
