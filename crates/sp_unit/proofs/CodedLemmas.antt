-- Instructions and routines of lines, with one line more.
use Rattle.std.proofs.Common.{◌≡◌, false, cond, List, [], ◌∷◌, ◌++◌, Option, refl, sym, ap, subst, ◌∙◌, append-nil, append_assoc}
use Rattle.std.specs.Prelude.{option_to_list}
use Rattle.std.specs.List.{AllZip}
use Rattle.std.proofs.lemmas.List.Sums.{fold-append}
use Rattle.sp_isa.specs.declared.instr.Instr.{Instr}
use Rattle.sp_asm.specs.declared.listing.Item.{Item}
use Rattle.sp_asm.specs.declared.listing.ItemKind.{ItemKind}
use Rattle.sp_asm.specs.declared.listing.ItemKind.TheVariants as kind
use Rattle.sp_note.specs.Parts.{NoteLine}
use Rattle.sp_prog.specs.declared.area.Area.{Area}
use Rattle.sp_prog.specs.declared.routine.Noted.{Noted}
use Rattle.sp_prog.specs.declared.routine.Routine.{Routine}
use Rattle.sp_prog.specs.declared.routine.Stmt.{Stmt}
use Rattle.sp_unit.specs.declared.statements.Coding.{Coding}
use Rattle.sp_unit.specs.Faults.{Source}
use Rattle.sp_unit.specs.Lines.{Entry, Statement, Annotation, is_instr, is_instruction}
use Rattle.sp_unit.specs.SourceUnits.{Raw, Begun, IsNoted, IsCoded, IsRoutineOf, raws, assert_in, instr_in, coded_at, coded, begun, begun_at}
use Rattle.sp_unit.specs.code.Building.{AreCoded, waiting}
use Rattle.sp_unit.proofs.UnitListLemmas.{zip_append}

-- the assertions that wait after one line more
abbrev pub after : List Raw → Entry → List Raw
after asserts e = cond (is_instruction e) [] (asserts ++ raws assert_in (e ∷ []))

waiting_more : (above : List Entry) (e : Entry) → waiting [] (above ++ e ∷ []) ≡ after (waiting [] above) e
waiting_more above e = fold-append after [] above (e ∷ [])

coded_append : (asserts : List Raw) (xs ys : List Entry) → coded asserts (xs ++ ys) ≡ coded asserts xs ++ coded (waiting asserts xs) ys
coded_append asserts [] ys = refl
coded_append asserts (e ∷ xs) ys =
    ap (λ l. coded_at asserts e ++ l) (coded_append (after asserts e) xs ys) ∙ sym (append_assoc (coded_at asserts e) (coded (after asserts e) xs) (coded (waiting (after asserts e) xs) ys))

coded_more : (above : List Entry) (e : Entry) → coded [] (above ++ e ∷ []) ≡ coded [] above ++ coded_at (waiting [] above) e
coded_more above e = coded_append [] above (e ∷ []) ∙ ap (λ l. coded [] above ++ l) (append-nil (coded_at (waiting [] above) e))

pub coded_none : (s : Source) (c : Coding) → c.code.items ≡ [] → c.asserts.items ≡ [] → AreCoded s [] c
coded_none s c code asserts = record {
  code = subst (AllZip (IsCoded s) []) (sym code) tt;
  asserts = subst (AllZip (IsNoted s) []) (sym asserts) tt;
}

-- with one instruction more
pub with_instruction : (s : Source) (above : List Entry) (item : Item) (i : Instr) (c next : Coding) (stmt : Stmt) → AreCoded s above c → item.kind ≡ kind.Instr i
    → stmt.line ≡ item.line → stmt.addr ≡ item.addr → stmt.instr ≡ i → stmt.asserts ≡ c.asserts.items → next.code.items ≡ c.code.items ++ stmt ∷ [] → next.asserts.items ≡ []
    → AreCoded s (above ++ Statement item ∷ []) next
with_instruction s above item i c next stmt h is line addr instr asserts code rest =
    let more : coded [] (above ++ Statement item ∷ []) ≡ coded [] above ++ record { item = item; instr = i; asserts = waiting [] above } ∷ [] =
    coded_more above (Statement item) ∙ ap (λ k. coded [] above ++ instr_in item k (waiting [] above)) is in
    let one : IsCoded s (record { item = item; instr = i; asserts = waiting [] above }) stmt = record {
      line = line;
      address = addr;
      instr = instr;
      asserts = subst (AllZip (IsNoted s) (waiting [] above)) (sym asserts) h.asserts;
    } in
    let none : waiting [] (above ++ Statement item ∷ []) ≡ [] = waiting_more above (Statement item) ∙ ap (λ k. cond (is_instr k) [] (waiting [] above ++ [])) is in
    record {
      code = subst (λ l. AllZip (IsCoded s) l next.code.items) (sym more)
          (subst (AllZip (IsCoded s) (coded [] above ++ record { item = item; instr = i; asserts = waiting [] above } ∷ [])) (sym code)
          (zip_append (IsCoded s) (coded [] above) (record { item = item; instr = i; asserts = waiting [] above } ∷ []) c.code.items (stmt ∷ []) h.code (one, tt)));
      asserts = subst (λ l. AllZip (IsNoted s) l next.asserts.items) (sym none) (subst (AllZip (IsNoted s) []) (sym rest) tt);
    }

no_code : (item : Item) (k : ItemKind) (asserts : List Raw) → is_instr k ≡ false → instr_in item k asserts ≡ []
no_code item (kind.Instr i) asserts e = absurd cc
no_code item kind.Label asserts e = refl
no_code item kind.Bytes asserts e = refl
no_code item kind.Space asserts e = refl
no_code item kind.Org asserts e = refl
no_code item kind.Other asserts e = refl

pub not_instr : (k : ItemKind) → ((i : Instr) → k ≡ kind.Instr i → ⊥) → is_instr k ≡ false
not_instr (kind.Instr i) h = absurd (h i refl)
not_instr kind.Label h = refl
not_instr kind.Bytes h = refl
not_instr kind.Space h = refl
not_instr kind.Org h = refl
not_instr kind.Other h = refl

-- with another statement
pub with_other : (s : Source) (above : List Entry) (item : Item) (c : Coding) → AreCoded s above c → is_instr item.kind ≡ false → AreCoded s (above ++ Statement item ∷ []) c
with_other s above item c h other = record {
  code = subst (λ l. AllZip (IsCoded s) l c.code.items)
      (sym (coded_more above (Statement item) ∙ ap (λ l. coded [] above ++ l) (no_code item item.kind (waiting [] above) other) ∙ append-nil (coded [] above))) h.code;
  asserts = subst (λ l. AllZip (IsNoted s) l c.asserts.items)
      (sym (waiting_more above (Statement item) ∙ ap (λ t. cond t [] (waiting [] above ++ [])) other ∙ append-nil (waiting [] above))) h.asserts;
}

-- with one annotation more
pub with_annotation : (s : Source) (above : List Entry) (n : NoteLine) (c next : Coding) (one : Option Noted) → AreCoded s above c
    → AllZip (IsNoted s) (raws assert_in (Annotation n ∷ [])) (option_to_list one) → next.code ≡ c.code → next.asserts.items ≡ c.asserts.items ++ option_to_list one
    → AreCoded s (above ++ Annotation n ∷ []) next
with_annotation s above n c next one h noted code asserts = record {
  code = subst (λ l. AllZip (IsCoded s) l next.code.items) (sym (coded_more above (Annotation n) ∙ append-nil (coded [] above)))
      (subst (λ v. AllZip (IsCoded s) (coded [] above) v.items) (sym code) h.code);
  asserts = subst (λ l. AllZip (IsNoted s) l next.asserts.items) (sym (waiting_more above (Annotation n)))
      (subst (AllZip (IsNoted s) (waiting [] above ++ raws assert_in (Annotation n ∷ []))) (sym asserts)
      (zip_append (IsNoted s) (waiting [] above) (raws assert_in (Annotation n ∷ [])) c.asserts.items (option_to_list one) h.asserts noted));
}

-- ---- Routines

-- so far these routines are found
pub record AreFound (s : Source) (areas : List Area) (entries below : List Entry) (found : List Routine) : Type 0 where
  pub front : List Begun
  pub whole : begun entries ≡ front ++ begun below
  pub each : AllZip (IsRoutineOf s areas) front found

pub found_none : (s : Source) (areas : List Area) (entries : List Entry) (found : List Routine) → found ≡ [] → AreFound s areas entries entries found
found_none s areas entries found is = record { front = []; whole = refl; each = subst (AllZip (IsRoutineOf s areas) []) (sym is) tt }

pub found_more : (s : Source) (areas : List Area) (entries below : List Entry) (e : Entry) (found more : List Routine) (one : Option Routine) → AreFound s areas entries (e ∷ below) found
    → AllZip (IsRoutineOf s areas) (begun_at e below) (option_to_list one) → more ≡ found ++ option_to_list one → AreFound s areas entries below more
found_more s areas entries below e found more one h here is = record {
  front = h.front ++ begun_at e below;
  whole = h.whole ∙ sym (append_assoc h.front (begun_at e below) (begun below));
  each = subst (AllZip (IsRoutineOf s areas) (h.front ++ begun_at e below)) (sym is)
      (zip_append (IsRoutineOf s areas) h.front (begun_at e below) found (option_to_list one) h.each here);
}

pub found_all : (s : Source) (areas : List Area) (entries : List Entry) (found : List Routine) → AreFound s areas entries [] found → AllZip (IsRoutineOf s areas) (begun entries) found
found_all s areas entries found h = subst (λ l. AllZip (IsRoutineOf s areas) l found) (sym (h.whole ∙ append-nil h.front)) h.each
