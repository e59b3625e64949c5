-- What a source is answered is one.
use Rattle.std.proofs.Common.{◌≡◌, ◌⊎◌, inl, inr, ℕ, List, refl, sym, ap, subst, ◌∙◌}
use Rattle.std.specs.Prelude.{Result, Ok, Err}
use Rattle.sp_base.specs.declared.refused.Refused.{Refused}
use Rattle.sp_base.specs.declared.refused.Refused.TheVariants as refused
use Rattle.sp_base.specs.Refused.{Answers, IsUnlessMemory}
use Rattle.sp_lex.specs.declared.token.SourceLine.{SourceLine}
use Rattle.sp_lex.proofs.SourceLemmas.{one_reading}
use Rattle.sp_stmt.specs.declared.refusal.StatementKind.{StatementKind}
use Rattle.sp_stmt.specs.declared.refusal.StatementKind.TheVariants as unread
use Rattle.sp_stmt.specs.declared.statement.Statement.{Statement}
use Rattle.sp_stmt.specs.Source.{AreStatementsOf, IsUnread}
use Rattle.sp_stmt.proofs.SourceLemmas.{one_source, one_unread, read_or_unread}
use Rattle.sp_asm.specs.declared.listing.Listing.{Listing}
use Rattle.sp_asm.specs.declared.refusal.AsmKind.{AsmKind}
use Rattle.sp_asm.specs.declared.refusal.AsmKind.TheVariants.{Syntax, TooDeep, Duplicate, Later, Undefined, ZeroDivisor, Range, PastEnd, Overlap}
use Rattle.sp_asm.specs.Assembly.{Row, IsAssembly, places_of}
use Rattle.sp_asm.specs.Listing.{Lists, IsListing, IsAnswered}
use Rattle.sp_asm.specs.Refusals.{IsCause}
use Rattle.sp_asm.specs.Source.{Assembles, HasAssembly, IsRefused}
use Rattle.sp_asm.specs.code.Kinds.{kind_of}
use Rattle.sp_asm.proofs.CauseLaws.{Round, one_round, round_or_assembly}
use Rattle.sp_asm.proofs.SplitLaws.{AllSplits}
use Rattle.sp_asm.proofs.UniqueLaws.{Keeps, places_are_one, rows_are_one}

-- statements have one assembly at most
pub one_assembly : (statements : List Statement) (one other : List Row) → IsAssembly statements one → IsAssembly statements other → one ≡ other
one_assembly statements one other h k =
    let places = places_are_one (places_of one) (places_of other) h.places k.places (h.whole ∙ sym k.whole) in
    rows_are_one (places_of one) one other h.each (subst (λ all. AllSplits (Keeps all) other) (sym places) k.each) places

module _ (source : List ℕ) (lines : List SourceLine) where
  -- a cause is a line that isn't read, or one of the rounds
  record IsUnreadLine (line : ℕ) (kind : AsmKind) : Type 0 where
    why : StatementKind
    kind_is : kind ≡ kind_of why
    unread : IsUnread source lines line why

  record IsRound (line : ℕ) (kind : AsmKind) : Type 0 where
    statements : List Statement
    read : AreStatementsOf source lines statements
    round : Round statements line kind

  abbrev Cause : ℕ → AsmKind → Type 0
  Cause line kind = IsUnreadLine line kind ⊎ IsRound line kind

  cause_of : (line : ℕ) (kind : AsmKind) → IsCause source lines line kind → Cause line kind
  cause_of line Syntax h = inl (record { why = unread.Syntax; kind_is = refl; unread = h })
  cause_of line TooDeep h = inl (record { why = unread.TooDeep; kind_is = refl; unread = h })
  cause_of line Duplicate h = inr (record { statements = h.0; read = h.1; round = h.2 })
  cause_of line Later h = inr (record { statements = h.0; read = h.1; round = h.2 })
  cause_of line Undefined h = inr (record { statements = h.0; read = h.1; round = h.2 })
  cause_of line ZeroDivisor h = inr (record { statements = h.0; read = h.1; round = h.2 })
  cause_of line Range h = inr (record { statements = h.0; read = h.1; round = h.2 })
  cause_of line PastEnd h = inr (record { statements = h.0; read = h.1; round = h.2 })
  cause_of line Overlap h = inr (record { statements = h.0; read = h.1; round = h.2 })

  one_by : (line there : ℕ) (kind other : AsmKind) → Cause line kind → Cause there other → (line ≡ there) × (kind ≡ other)
  one_by line there kind other (inl h) (inl k) =
      let same = one_unread source lines line there h.why k.why h.unread k.unread in
      (same.0, h.kind_is ∙ ap kind_of same.1 ∙ sym k.kind_is)
  one_by line there kind other (inl h) (inr k) = absurd (read_or_unread source lines k.statements line h.why k.read h.unread)
  one_by line there kind other (inr h) (inl k) = absurd (read_or_unread source lines h.statements there k.why h.read k.unread)
  one_by line there kind other (inr h) (inr k) =
      let same = one_source source lines h.statements k.statements h.read k.read in
      one_round k.statements line there kind other (subst (λ ss. Round ss line kind) same h.round) k.round

  -- a source is refused for one cause at most
  pub causes_are_one : (line there : ℕ) (kind other : AsmKind) → IsCause source lines line kind → IsCause source lines there other → (line ≡ there) × (kind ≡ other)
  causes_are_one line there kind other h k = one_by line there kind other (cause_of line kind h) (cause_of there other k)

  none_by : (rows : List Row) (line : ℕ) (kind : AsmKind) → Assembles source lines rows → Cause line kind → ⊥
  none_by rows line kind h (inl k) = read_or_unread source lines h.0 line k.why h.1 k.unread
  none_by rows line kind h (inr k) =
      let same = one_source source lines k.statements h.0 k.read h.1 in
      round_or_assembly h.0 line kind rows h.2 (subst (λ ss. Round ss line kind) same k.round)

  -- and for none where it has an assembly
  pub assembled_has_no_cause : (rows : List Row) (line : ℕ) (kind : AsmKind) → Assembles source lines rows → IsCause source lines line kind → ⊥
  assembled_has_no_cause rows line kind h k = none_by rows line kind h (cause_of line kind k)

  -- it has one assembly at most
  pub assemblies_are_one : (one other : List Row) → Assembles source lines one → Assembles source lines other → one ≡ other
  assemblies_are_one one other h k =
      let same = one_source source lines h.0 k.0 h.1 k.1 in
      one_assembly k.0 one other (subst (λ ss. IsAssembly ss one) same h.2) k.2

  -- so what is answered is complete

  whole_by : (result : Result Listing (Refused AsmKind)) → Answers (IsListing source lines) (IsCause source lines) result → (rows : List Row) → Assembles source lines rows
      → ((l : Listing) × (result ≡ Ok l) × Lists l rows) ⊎ (result ≡ Err refused.Memory)
  whole_by (Ok l) h rows k = inl (l, refl, subst (Lists l) (assemblies_are_one h.0 rows h.1 k) h.2)
  whole_by (Err (refused.At line kind)) h rows k = absurd (assembled_has_no_cause rows line.0 kind k h)
  whole_by (Err refused.Memory) h rows k = inr refl

  exact_by : (result : Result Listing (Refused AsmKind)) → Answers (IsListing source lines) (IsCause source lines) result → (line : ℕ) (kind : AsmKind) → IsCause source lines line kind
      → IsUnlessMemory result (Err (refused.At (record { 0 = line }) kind))
  exact_by (Ok l) h line kind k = absurd (assembled_has_no_cause h.0 line kind h.1 k)
  exact_by (Err (refused.At at other)) h line kind k =
      let same = causes_are_one at.0 line other kind h k in
      inl (λ i. Err (refused.At (record { 0 = same.0 i }) (same.1 i)))
  exact_by (Err refused.Memory) h line kind k = inr refl

  pub answered : (result : Result Listing (Refused AsmKind)) → Answers (IsListing source lines) (IsCause source lines) result → IsAnswered source lines result
  answered result h = record { whole = whole_by result h; exact = exact_by result h }

-- ---- Sources

pub one_of_source : (source : List ℕ) (one other : List Row) → HasAssembly source one → HasAssembly source other → one ≡ other
one_of_source source one other h k =
    let same = one_reading source h.lines k.lines h.read k.read in
    assemblies_are_one source k.lines one other (subst (λ lines. Assembles source lines one) same h.assembles) k.assembles

pub one_refusal : (source : List ℕ) (at there : ℕ) (kind other : AsmKind) → IsRefused source at kind → IsRefused source there other → (at ≡ there) × (kind ≡ other)
one_refusal source at there kind other h k =
    let same = one_reading source h.lines k.lines h.read k.read in
    causes_are_one source k.lines at there kind other (subst (λ lines. IsCause source lines at kind) same h.cause) k.cause

pub assembled_or_refused : (source : List ℕ) (rows : List Row) (at : ℕ) (kind : AsmKind) → HasAssembly source rows → IsRefused source at kind → ⊥
assembled_or_refused source rows at kind h k =
    let same = one_reading source h.lines k.lines h.read k.read in
    assembled_has_no_cause source k.lines rows at kind (subst (λ lines. Assembles source lines rows) same h.assembles) k.cause
