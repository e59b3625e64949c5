-- A source has one answer.
use Rattle.std.proofs.Common.{◌≡◌, ◌⊎◌, ℕ, List, Result, Ok, Err, refl, sym, ap, ◌∙◌, inl, inr}
use Rattle.sp_asm.specs.Source as asm
use Rattle.sp_asm.specs.Source.{HasAssembly}
use Rattle.sp_asm.proofs.AnswerLaws as assembly
use Rattle.sp_base.specs.declared.refused.Refused.{Refused}
use Rattle.sp_base.specs.declared.refused.Refused.TheVariants as refused
use Rattle.sp_base.specs.Refused.{Answers}
use Rattle.sp_flow.specs.Flow.{IsFlowing}
use Rattle.sp_flow.specs.declared.refusal.FlowKind.{FlowKind}
use Rattle.sp_flow.proofs.AnswerLemmas as flowing
use Rattle.sp_graph.specs.Structure.{IsStructured}
use Rattle.sp_lex.specs.Reading.{AreLines, IsFaultAt}
use Rattle.sp_lex.proofs.SourceLemmas.{one_fault}
use Rattle.sp_prog.specs.Program.{Program}
use Rattle.sp_struct.specs.declared.refusal.StructKind.{StructKind}
use Rattle.sp_struct.proofs.OneLemmas.{one_cause}
use Rattle.sp_struct.proofs.RefusalLemmas as structured
use Rattle.sp_asm.specs.Assembly.{Row}
use Rattle.sp_note.specs.Parts.{NoteLine}
use Rattle.sp_unit.specs.Faults.{KeepsRules}
use Rattle.sp_check.specs.declared.checking.Checked.{Checked}
use Rattle.sp_check.specs.declared.refusal.CheckKind.{CheckKind}
use Rattle.sp_check.specs.declared.refusal.CheckKind.TheVariants as kind
use Rattle.sp_check.specs.Refusals.{IsUnreadNote, BreaksUnit, BreaksStructure, BreaksFlow, HasNoUnit, IsRefused, HasSoundUnit, IsChecked, UnitIsAnswered, CheckIsAnswered, HasOneAnswer}
use Rattle.sp_check.specs.Units.{IsRead, said, entries, HasUnit}
use Rattle.sp_check.proofs.FlowLemmas as flow_like
use Rattle.sp_check.proofs.RowLemmas.{assembly_of, one_plain, one_note, one_unit_cause, lines_or_text, rows_or_asm, notes_or_unread, rules_or_cause}
use Rattle.sp_check.proofs.StructureLemmas as like

-- ---- Rows, and what stands below them

abbrev One : (ℕ → CheckKind → Type 0) → Type 0
One C = (line there : ℕ) (k other : CheckKind) → C line k → C there other → (line ≡ there) × (k ≡ other)

abbrev Apart : (ℕ → CheckKind → Type 0) → (ℕ → CheckKind → Type 0) → Type 0
Apart C V = (line there : ℕ) (k other : CheckKind) → C line k → V there other → ⊥

abbrev Either : (ℕ → CheckKind → Type 0) → (ℕ → CheckKind → Type 0) → ℕ → CheckKind → Type 0
Either C V line k = C line k ⊎ V line k

either : (C V : ℕ → CheckKind → Type 0) → One C → One V → Apart C V → One (Either C V)
either C V c v apart line there k other (inl h) (inl g) = c line there k other h g
either C V c v apart line there k other (inl h) (inr g) = absurd (apart line there k other h g)
either C V c v apart line there k other (inr h) (inl g) = absurd (apart there line other k g h)
either C V c v apart line there k other (inr h) (inr g) = v line there k other h g

abbrev refusal : ℕ → CheckKind → Refused CheckKind
refusal line k = refused.At (record { 0 = line }) k

-- a row, by the kinds of its layer
abbrev RowOf : {J : Type 0} → (J → CheckKind) → (ℕ → J → Type 0) → ℕ → CheckKind → Type 0
RowOf {J = J} named C line k = (low : J) × (k ≡ named low) × C line low

one_row : {J : Type 0} (named : J → CheckKind) (C : ℕ → J → Type 0) → ((line there : ℕ) (k other : J) → C line k → C there other → (line ≡ there) × (k ≡ other)) → One (RowOf named C)
one_row named C one line there k other (low, is, h) (low', is', g) =
    let same = one line there low low' h g in
    (same.0, is ∙ ap named same.1 ∙ sym is')

module _ (source : List ℕ) where
  abbrev Text : ℕ → CheckKind → Type 0
  Text = RowOf (λ k. kind.Text k) (IsFaultAt source)

  abbrev Asm : ℕ → CheckKind → Type 0
  Asm = RowOf (λ k. kind.Asm k) (asm.IsRefused source)

  abbrev Note : ℕ → CheckKind → Type 0
  Note = RowOf (λ k. kind.Note k) (IsUnreadNote source)

  abbrev Unit' : ℕ → CheckKind → Type 0
  Unit' = RowOf (λ k. kind.Unit k) (BreaksUnit source)

  abbrev Struct : ℕ → CheckKind → Type 0
  Struct = RowOf (λ k. kind.Struct k) (BreaksStructure source)

  abbrev Flow : ℕ → CheckKind → Type 0
  Flow = RowOf (λ k. kind.Flow k) (BreaksFlow source)

  -- the rows below a row
  abbrev Below4 : ℕ → CheckKind → Type 0
  Below4 = Either Struct Flow

  abbrev Below3 : ℕ → CheckKind → Type 0
  Below3 = Either Unit' Below4

  abbrev Below2 : ℕ → CheckKind → Type 0
  Below2 = Either Note Below3

  abbrev Below1 : ℕ → CheckKind → Type 0
  Below1 = Either Asm Below2

  abbrev All : ℕ → CheckKind → Type 0
  All = Either Text Below1

  view : (line : ℕ) (k : CheckKind) → IsRefused source line k → All line k
  view line (kind.Text k) h = inl (k, refl, h)
  view line (kind.Asm k) h = inr (inl (k, refl, h))
  view line (kind.Note k) h = inr (inr (inl (k, refl, h)))
  view line (kind.Unit k) h = inr (inr (inr (inl (k, refl, h))))
  view line (kind.Struct k) h = inr (inr (inr (inr (inl (k, refl, h)))))
  view line (kind.Flow k) h = inr (inr (inr (inr (inr (k, refl, h)))))

  -- ---- What the rows below one need

  unit_below : (line : ℕ) (k : CheckKind) → Below4 line k → (p : Program) × HasUnit source p
  unit_below line k (inl (low, is, h)) = (h.program, h.unit)
  unit_below line k (inr (low, is, h)) = (h.program, h.unit)

  abbrev Read : Type 0
  Read = (rows : _) × (notes : _) × IsRead source rows notes

  read_of : (p : Program) → HasUnit source p → Read
  read_of p h = (h.rows, h.notes, h.read)

  read_below : (line : ℕ) (k : CheckKind) → Below3 line k → Read
  read_below line k (inl (low, is, h)) = (h.rows, h.notes, h.read)
  read_below line k (inr h) = let u = unit_below line k h in read_of u.0 u.1

  abbrev Assembled : Type 0
  Assembled = (rows : _) × HasAssembly source rows

  assembled_of : Read → Assembled
  assembled_of (rows, notes, h) = (rows, assembly_of source rows notes h)

  assembled_below : (line : ℕ) (k : CheckKind) → Below2 line k → Assembled
  assembled_below line k (inl (low, is, h)) = (h.rows, record { lines = h.lines; read = h.read; assembles = h.assembles })
  assembled_below line k (inr h) = assembled_of (read_below line k h)

  abbrev HasLines : Type 0
  HasLines = (lines : _) × AreLines source lines

  lines_below : (line : ℕ) (k : CheckKind) → Below1 line k → HasLines
  lines_below line k (inl (low, is, h)) = (h.lines, h.read)
  lines_below line k (inr h) = let a = assembled_below line k h in (a.1.lines, a.1.read)

  -- ---- One refusal

  one_structure : (line there : ℕ) (k other : StructKind) → BreaksStructure source line k → BreaksStructure source there other → (line ≡ there) × (k ≡ other)
  one_structure line there k other h g =
      one_cause g.program g.unit.keeps line there k other
      (like.refused_like h.program g.program (one_plain source h.program g.program h.unit g.unit) line k h.refused) g.refused

  one_flow : (line there : ℕ) (k other : FlowKind) → BreaksFlow source line k → BreaksFlow source there other → (line ≡ there) × (k ≡ other)
  one_flow line there k other h g =
      flowing.one_refusal g.program line there k other
      (flow_like.refused_like h.program g.program (one_plain source h.program g.program h.unit g.unit) line k h.refused) g.refused

  -- a unit whose structure is right isn't refused for it, wherever its annotations lie
  structure_or_not : (p : Program) (line : ℕ) (k : StructKind) → HasUnit source p → IsStructured p → BreaksStructure source line k → ⊥
  structure_or_not p line k h right g =
      structured.unbroken p right k line (like.refused_like g.program p (one_plain source g.program p g.unit h) line k g.refused).broken

  flow_or_not : (p : Program) (line : ℕ) (k : FlowKind) → HasUnit source p → IsFlowing p → BreaksFlow source line k → ⊥
  flow_or_not p line k h right g =
      right line k (flow_like.refused_like g.program p (one_plain source g.program p g.unit h) line k g.refused).broken

  one_all : One All
  one_all =
      either Text Below1 (one_row _ _ (one_fault source))
      (either Asm Below2 (one_row _ _ (assembly.one_refusal source))
      (either Note Below3 (one_row _ _ (one_note source))
      (either Unit' Below4 (one_row _ _ (one_unit_cause source))
      (either Struct Flow (one_row _ _ one_structure) (one_row _ _ one_flow)
      (λ line there k other h g. structure_or_not g.2.program line h.0 g.2.unit g.2.structured h.2))
      (λ line there k other h g. let u = (unit_below there other g).1 in rules_or_cause source u.rows u.notes line h.0 u.read u.is.rules h.2))
      (λ line there k other h g. let r = read_below there other g in notes_or_unread source r.0 r.1 line h.0 r.2 h.2))
      (λ line there k other h g. let a = assembled_below there other g in rows_or_asm source a.0 line h.0 a.1 h.2))
      (λ line there k other h g. let l = lines_below there other g in lines_or_text source l.0 line h.0 l.1 h.2)

  pub one_refusal : One (IsRefused source)
  one_refusal line there k other h g = one_all line there k other (view line k h) (view there other g)

  pub keeps_rules : (rows : List Row) (notes : List NoteLine) (line : ℕ) (k : CheckKind) → IsRead source rows notes
      → KeepsRules (said rows notes) (entries rows notes) → HasNoUnit source line k → ⊥
  keeps_rules rows notes line (kind.Text k) h keeps g = lines_or_text source h.lines line k h.read g
  keeps_rules rows notes line (kind.Asm k) h keeps g = rows_or_asm source rows line k (assembly_of source rows notes h) g
  keeps_rules rows notes line (kind.Note k) h keeps g = notes_or_unread source rows notes line k h g
  keeps_rules rows notes line (kind.Unit k) h keeps g = rules_or_cause source rows notes line k h keeps g
  keeps_rules rows notes line (kind.Struct k) h keeps g = g
  keeps_rules rows notes line (kind.Flow k) h keeps g = g

  has_unit : (p : Program) (line : ℕ) (k : CheckKind) → HasUnit source p → HasNoUnit source line k → ⊥
  has_unit p line k h g = keeps_rules h.rows h.notes line k h.read h.is.rules g

  pub is_right : (p : Program) (line : ℕ) (k : CheckKind) → HasSoundUnit source p → IsRefused source line k → ⊥
  is_right p line (kind.Text k) h g = has_unit p line (kind.Text k) h.unit g
  is_right p line (kind.Asm k) h g = has_unit p line (kind.Asm k) h.unit g
  is_right p line (kind.Note k) h g = has_unit p line (kind.Note k) h.unit g
  is_right p line (kind.Unit k) h g = has_unit p line (kind.Unit k) h.unit g
  is_right p line (kind.Struct k) h g = structure_or_not p line k h.unit h.structured g
  is_right p line (kind.Flow k) h g = flow_or_not p line k h.unit h.flows g

  -- a source without a unit is refused
  pub no_unit : (line : ℕ) (k : CheckKind) → HasNoUnit source line k → IsRefused source line k
  no_unit line (kind.Text k) h = h
  no_unit line (kind.Asm k) h = h
  no_unit line (kind.Note k) h = h
  no_unit line (kind.Unit k) h = h
  no_unit line (kind.Struct k) h = absurd h
  no_unit line (kind.Flow k) h = absurd h

  pub one_answer : HasOneAnswer source
  one_answer = record { unit = one_plain source; one = one_refusal; unread = keeps_rules; refused = is_right }

  -- ---- So what is answered is complete

  same_refusal : (line there : ℕ) (k other : CheckKind) → (line ≡ there) × (k ≡ other) → refusal line k ≡ refusal there other
  same_refusal line there k other same = λ i. refused.At (record { 0 = same.0 i }) (same.1 i)

  pub unit_answered : (result : Result Program (Refused CheckKind)) → Answers (HasUnit source) (HasNoUnit source) result → UnitIsAnswered source result
  unit_answered (Ok q) h = record {
    whole = λ rows notes read keeps. inl (q, refl, h);
    exact = λ line k cause. absurd (has_unit q line k h cause);
  }
  unit_answered (Err (refused.At at other)) h = record {
    whole = λ rows notes read keeps. absurd (keeps_rules rows notes at.0 other read keeps h);
    exact = λ line k cause. inl (ap (λ r. Err r)
        (same_refusal at.0 line other k (one_refusal at.0 line other k (no_unit at.0 other h) (no_unit line k cause))));
  }
  unit_answered (Err refused.Memory) h = record { whole = λ rows notes read keeps. inr refl; exact = λ line k cause. inr refl }

  pub check_answered : (result : Result Checked (Refused CheckKind)) → Answers (IsChecked source) (IsRefused source) result → CheckIsAnswered source result
  check_answered (Ok c) h = record {
    whole = λ p right. inl (c, refl, h);
    exact = λ line k cause. absurd (is_right c.unit line k h.right cause);
  }
  check_answered (Err (refused.At at other)) h = record {
    whole = λ p right. absurd (is_right p at.0 other right h);
    exact = λ line k cause. inl (ap (λ r. Err r) (same_refusal at.0 line other k (one_refusal at.0 line other k h cause)));
  }
  check_answered (Err refused.Memory) h = record { whole = λ p right. inr refl; exact = λ line k cause. inr refl }
