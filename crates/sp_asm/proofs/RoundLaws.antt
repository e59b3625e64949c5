-- What the rounds answer, as the answer to a source.
use Rattle.std.proofs.Common.{◌≡◌, ℕ, List, refl, sym, ap, subst, inl, inr, Result, Ok, Err}
use Rattle.sp_base.specs.declared.line.Line.{Line}
use Rattle.sp_base.specs.declared.refused.Refused.{Refused}
use Rattle.sp_base.specs.declared.refused.Refused.TheVariants as refused
use Rattle.sp_base.specs.Refused.{Answers, HasKindBy}
use Rattle.sp_lex.specs.declared.token.SourceLine.{SourceLine}
use Rattle.sp_stmt.specs.declared.refusal.StatementKind.{StatementKind}
use Rattle.sp_stmt.specs.declared.refusal.StatementKind.TheVariants as unread
use Rattle.sp_stmt.specs.declared.statement.Statement.{Statement}
use Rattle.sp_stmt.specs.Source.{AreStatementsOf, IsUnread}
use Rattle.sp_asm.specs.declared.listing.Listing.{Listing}
use Rattle.sp_asm.specs.declared.places.Places.{Places}
use Rattle.sp_asm.specs.declared.refusal.AsmKind.{AsmKind}
use Rattle.sp_asm.specs.declared.refusal.AsmKind.TheVariants as kind
use Rattle.sp_asm.specs.Listing.{IsListing}
use Rattle.sp_asm.specs.Refusals.{IsCause, FirstRound, SecondRound}
use Rattle.sp_asm.specs.code.Kinds.{kind_of}
use Rattle.sp_asm.specs.code.Passes.{ArePlaces, ListsAssembly}

module _ (source : List ℕ) (lines : List SourceLine) where
  unread_cause : (line : ℕ) (low : StatementKind) → IsUnread source lines line low → IsCause source lines line (kind_of low)
  unread_cause line unread.Syntax h = h
  unread_cause line unread.TooDeep h = h

  -- a refusal to read the statements is one of the source
  pub unread_is_cause : (low : Refused StatementKind) (high : Refused AsmKind) → HasKindBy (λ a b. b ≡ kind_of a) low high
      → Answers {A = List Statement} (AreStatementsOf source lines) (IsUnread source lines) (Err low) → Answers {A = Listing} (IsListing source lines) (IsCause source lines) (Err high)
  unread_is_cause (refused.At line low) (refused.At at high) kinds h =
      subst (λ n. IsCause source lines n high) (sym (ap (λ (l : Line). l.0) kinds.0)) (subst (IsCause source lines line.0) (sym kinds.1) (unread_cause line.0 low h))
  unread_is_cause (refused.At line low) refused.Memory kinds h = tt
  unread_is_cause refused.Memory (refused.At at high) kinds h = absurd kinds
  unread_is_cause refused.Memory refused.Memory kinds h = tt

  module _ (statements : List Statement) (read : AreStatementsOf source lines statements) where
    first_cause : (line : ℕ) (k : AsmKind) → FirstRound statements line k → IsCause source lines line k
    first_cause line kind.Syntax round = absurd round.breaks
    first_cause line kind.TooDeep round = absurd round.breaks
    first_cause line kind.Range round = absurd round.breaks
    first_cause line kind.Overlap round = absurd round.breaks
    first_cause line kind.Duplicate round = (statements, read, inl round)
    first_cause line kind.Later round = (statements, read, inl round)
    first_cause line kind.Undefined round = (statements, read, inl round)
    first_cause line kind.ZeroDivisor round = (statements, read, inl round)
    first_cause line kind.PastEnd round = (statements, read, inl round)

    second_cause : (line : ℕ) (k : AsmKind) → SecondRound statements line k → IsCause source lines line k
    second_cause line kind.Syntax round = absurd round.breaks
    second_cause line kind.TooDeep round = absurd round.breaks
    second_cause line kind.Duplicate round = absurd round.breaks
    second_cause line kind.PastEnd round = absurd round.breaks
    second_cause line kind.Later round = (statements, read, inr round)
    second_cause line kind.Undefined round = (statements, read, inr round)
    second_cause line kind.ZeroDivisor round = (statements, read, inr round)
    second_cause line kind.Range round = (statements, read, inr round)
    second_cause line kind.Overlap round = (statements, read, inr round)

    -- a refusal of the first round is one of the source
    pub first_is_cause : (r : Refused AsmKind) → Answers {A = Places} (ArePlaces statements) (FirstRound statements) (Err r) → Answers {A = Listing} (IsListing source lines) (IsCause source lines) (Err r)
    first_is_cause (refused.At line k) h = first_cause line.0 k h
    first_is_cause refused.Memory h = tt

    -- and so is the answer of the second
    pub second_is_answer : (result : Result Listing (Refused AsmKind)) → Answers (ListsAssembly statements) (SecondRound statements) result → Answers (IsListing source lines) (IsCause source lines) result
    second_is_answer (Ok l) h = (h.0, (statements, read, h.1), h.2)
    second_is_answer (Err (refused.At line k)) h = second_cause line.0 k h
    second_is_answer (Err refused.Memory) h = tt
