-- Assemblies and refusals of small sources, from what is computed of them.
use Rattle.std.proofs.Common.{◌≡◌, ℕ, ◌%◌, ◌<◌, ◌≤◌, Bool, true, false, List, [], ◌∷◌, ◌++◌, map, Option, Some, None, Ok, Err, refl, sym, subst, ◌∙◌, inl, inr, append_assoc}
use Rattle.std.proofs.lemmas.List.{append-nil}
use Rattle.std.specs.Prelude.{nat_eq, if◌then◌else◌, is_some}
use Rattle.std.specs.List.{IsDistinct}
use Rattle.sp_base.specs.declared.refused.Refused.TheVariants as refused
use Rattle.sp_lex.specs.declared.token.SourceLine.{SourceLine}
use Rattle.sp_lex.specs.code.Lines.{lines_of}
use Rattle.sp_lex.proofs.SourceLemmas.{lines_found}
use Rattle.sp_expr.specs.declared.setting.Setting.TheVariants.{Statement}
use Rattle.sp_expr.specs.declared.word.Word.{Word}
use Rattle.sp_expr.specs.code.Evaluation.{run, start, finished}
use Rattle.sp_expr.specs.code.Sentence.{is_sentence}
use Rattle.sp_expr.specs.Undefined.{first_undefined}
use Rattle.sp_expr.proofs.TreeLaws.{sentence_is_spelled}
use Rattle.sp_expr.proofs.ValueLaws.{value_is}
use Rattle.sp_stmt.specs.declared.operand.Operand.{Operand}
use Rattle.sp_stmt.specs.declared.refusal.StatementKind.TheVariants as unread
use Rattle.sp_stmt.specs.declared.statement.Statement as statements
use Rattle.sp_stmt.specs.code.Reading.{statements_of}
use Rattle.sp_stmt.proofs.SourceLemmas.{fault, from_ok, right_by}
use Rattle.sp_asm.specs.declared.refusal.AsmKind.{AsmKind}
use Rattle.sp_asm.specs.declared.refusal.AsmKind.TheVariants.{TooDeep}
use Rattle.sp_asm.specs.Assembly.{Place, Row, IsPlaced, IsRow, HasPlaceValue, address_after, addresses_of, is_duplicate, names_above, names_at, next_address, places_of, uses_names_above}
use Rattle.sp_asm.specs.Names.{defines}
use Rattle.sp_asm.specs.Refusals.{FirstRound, SecondRound}
use Rattle.sp_asm.specs.Source.{HasAssembly, IsRefused}
use Rattle.sp_asm.specs.Values.{HasValue, HasNoValue, OneIsWithoutValue}
use Rattle.sp_asm.specs.code.Passes.{Declares, fault_of}
use Rattle.sp_asm.proofs.FaultLaws.{fault_is}
use Rattle.sp_asm.proofs.PlaceLaws as place
use Rattle.sp_asm.proofs.RoundLaws.{first_is_cause, second_is_answer}
use Rattle.sp_asm.proofs.RowLaws as row
use Rattle.sp_asm.proofs.SplitLaws.{AllSplits, splits_empty, splits_more}

-- ---- Values

module _ (names : List ℕ → Option ℕ) (here : ℕ) (ws : List Word) (sentence : is_sentence ws ≡ true) where
  pub valued : (value : ℕ) → first_undefined names ws ≡ None → finished (run names here start ws) ≡ Some value
      → HasValue names here ws value
  valued value defined is =
      let t = sentence_is_spelled Statement ws sentence in
      record { defined = defined; tree = t.0; spells = t.1; value_is = sym (value_is Statement names here ws t.0 t.1) ∙ is }

  pub divided : first_undefined names ws ≡ None → finished (run names here start ws) ≡ None → HasNoValue names here ws
  divided defined is =
      let t = sentence_is_spelled Statement ws sentence in
      inr (defined, (t.0, t.1, sym (value_is Statement names here ws t.0 t.1) ∙ is))

pub unnamed : (names : List ℕ → Option ℕ) (here : ℕ) (ws : List Word) (name : List ℕ) → first_undefined names ws ≡ Some name
    → HasNoValue names here ws
unnamed names here ws name is = inl (name, is)

-- ---- Places

-- a fact of each element of a list with those above it, the first of which stand above all
abbrev pub EachBelow : {A : Type 0} → (List A → A → Type 0) → List A → List A → Type 0
EachBelow P above [] = Unit {0}
EachBelow P above (x ∷ xs) = P above x × EachBelow P (above ++ x ∷ []) xs

module _ {A : Type 0} (P : List A → A → Type 0) where
  split_below : (above xs : List A) → AllSplits P above → EachBelow P above xs → AllSplits P (above ++ xs)
  split_below above [] before h = subst (AllSplits P) (sym (append-nil above)) before
  split_below above (x ∷ xs) before h =
      subst (AllSplits P) (append_assoc above (x ∷ []) xs) (split_below (above ++ x ∷ []) xs (splits_more P above x h.0 before) h.1)

  pub each_split : (xs : List A) → EachBelow P [] xs → AllSplits P xs
  each_split xs h = split_below [] xs (splits_empty P) h

pub placed : (above : List Place) (p : Place) → p.address ≡ address_after above → is_duplicate above p.statement ≡ false
    → HasPlaceValue (uses_names_above p.statement.code) (names_above above) (p.address % 65536) p.statement.operands p.value
    → p.address < 65536 → next_address p ≤ 65536 → IsPlaced above p
placed above p at apart value low within =
    record { address = at; apart = apart; value = value; room = record { label = λ h. low; behind = within } }

abbrev pub RowAt : List Place → List Row → Row → Type 0
RowAt all above r = IsRow all (places_of above) r

-- ---- Sources

abbrev Statements : Type 0
Statements = List statements.Statement

module _ (source : List ℕ) (lines : List SourceLine) (read : lines_of source ≡ Ok lines) where
  pub assembled : (rows : List Row) → statements_of source lines ≡ Ok (map (λ (p : Place). p.statement) (places_of rows))
      → EachBelow IsPlaced [] (places_of rows) → EachBelow (RowAt (places_of rows)) [] rows → IsDistinct nat_eq (addresses_of rows)
      → HasAssembly source rows
  assembled rows are places each apart = record {
    lines = lines;
    read = lines_found source lines read;
    assembles = (
      map (λ (p : Place). p.statement) (places_of rows),
      from_ok source 1 lines (map (λ (p : Place). p.statement) (places_of rows)) are,
      record {
        whole = refl;
        places = each_split IsPlaced (places_of rows) places;
        each = each_split (RowAt (places_of rows)) rows each;
        apart = apart;
      },
    );
  }

  pub too_deep : (at : ℕ) → statements_of source lines ≡ Err (fault unread.TooDeep at) → IsRefused source at TooDeep
  too_deep at are = record {
    lines = lines;
    read = lines_found source lines read;
    cause = right_by source lines (Err (refused.At (record { 0 = at }) unread.TooDeep)) are;
  }

  pub refused_first : (all : Statements) (at : ℕ) (kind : AsmKind) → statements_of source lines ≡ Ok all → FirstRound all at kind
      → IsRefused source at kind
  refused_first all at kind are round = record {
    lines = lines;
    read = lines_found source lines read;
    cause = first_is_cause source lines all (from_ok source 1 lines all are) (refused.At (record { 0 = at }) kind) round;
  }

  pub refused_second : (all : Statements) (at : ℕ) (kind : AsmKind) → statements_of source lines ≡ Ok all → SecondRound all at kind
      → IsRefused source at kind
  refused_second all at kind are round = record {
    lines = lines;
    read = lines_found source lines read;
    cause = second_is_answer source lines all (from_ok source 1 lines all are) (Err (refused.At (record { 0 = at }) kind)) round;
  }

-- the names that statements define, each with a value
abbrev declared_by : Statements → List ℕ → Option ℕ
declared_by all name = if defines all name then Some 0 else None

declares : (all : Statements) → Declares (declared_by all) all
declares all name = is_there (defines all name)
  where
    is_there : (b : Bool) → is_some {T = ℕ} (if b then Some 0 else None) ≡ b
    is_there true = refl
    is_there false = refl

-- the fault of operands, one of which has no value
abbrev pub lack : Statements → (List ℕ → Option ℕ) → List Operand → AsmKind
lack all names operands = fault_of names (declared_by all) operands

-- a statement that uses the names above is refused in the first round
pub first_round : (all below : Statements) (above : List Place) (s : statements.Statement) → all ≡ map (λ (p : Place). p.statement) above
    ++ s ∷ below
    → EachBelow IsPlaced [] above → is_duplicate above s ≡ false → uses_names_above s.code ≡ true
    → OneIsWithoutValue (names_above above) (address_after above % 65536) s.operands
    → FirstRound all s.line.0 (lack all (names_above above) s.operands)
first_round all below above s whole places apart uses without = record {
  above = above;
  broken = s;
  below = below;
  whole = whole;
  placed = each_split IsPlaced above places;
  at = refl;
  breaks =
      place.breaks_by_fault all above s (lack all (names_above above) s.operands) apart uses
      (fault_is all (names_above above) (declared_by all) (address_after above % 65536) s.operands (declares all) without);
}

-- the first statement of a source that uses all names is refused in the second round
pub second_round : (all : Statements) (places : List Place) (p : Place) (below : List Place) → map (λ (q : Place). q.statement) places ≡ all
    → EachBelow IsPlaced [] places
    → places ≡ p ∷ below → uses_names_above p.statement.code ≡ false
    → OneIsWithoutValue (names_at places []) (p.address % 65536) p.statement.operands
    → IsDistinct nat_eq (addresses_of []) → SecondRound all p.statement.line.0 (lack all (names_at places []) p.statement.operands)
second_round all places p below whole are parts uses without apart = record {
  all = places;
  whole = whole;
  placed = each_split IsPlaced places are;
  above = [];
  broken = p;
  below = below;
  parts = parts;
  rows = splits_empty (RowAt places);
  apart = apart;
  at = refl;
  breaks =
      row.breaks_by_fault all places [] p (lack all (names_at places []) p.statement.operands) uses
      (fault_is all (names_at places []) (declared_by all) (p.address % 65536) p.statement.operands (declares all) without);
}
