-- What a step leaves: memory, outputs, and the image.
use Rattle.std.proofs.Common.{◌≡◌, ◌≢◌, ℕ, zero, suc, ◌+◌, ◌%◌, ◌<◌, ◌≤◌, List, [], ◌∷◌, ◌++◌, length, get_or, refl, sym, ap, subst, ◌∙◌, arith, Some, ◌⊎◌, inl, inr, append-nil, append_assoc, get_or-set_other, add-zero}
use Rattle.std.proofs.lemmas.List.Elements.{All-nil, All-cons, All-append}
use Rattle.std.specs.Prelude.{Contains, IsTrue, slice_index, slice_set, ⊤}
use Rattle.std.specs.FinMap as maps
use Rattle.sp_base.specs.Image.{ImageMap}
use Rattle.sp_isa.specs.declared.instr.Instr.{Instr}
use Rattle.sp_isa.specs.declared.instr.Instr.TheVariants.{Mvi}
use Rattle.sp_isa.specs.Code.{code, operand, opcode, valid}
use Rattle.sp_isa.specs.Core.{Core, cell}
use Rattle.sp_isa.specs.Decode.{decode, decode_front}
use Rattle.sp_isa.proofs.CodeLemmas.{decodes_codes}
use Rattle.sp_model.specs.State.{State, next_instr}
use Rattle.sp_model.specs.Unit.{Area, Routine, Unit}
use Rattle.sp_model.specs.Good.{Keeps, Loaded, InArea, InAllotment, base}

-- ---- memory and outputs
pub same_or_not : (a b : ℕ) → (a ≡ b) ⊎ (a ≢ b)
same_or_not zero zero = inl refl
same_or_not zero (suc b) = inr (λ h. omega arith)
same_or_not (suc a) zero = inr (λ h. omega arith)
same_or_not (suc a) (suc b) = elim (same_or_not a b) [ inl h ↦ inl (ap suc h) | inr n ↦ inr (λ h. n (omega arith)) ]

-- an address that the routine may write
abbrev pub MayWrite : Unit → Routine → State → ℕ → Type 0
MayWrite u r s a = ((area : Area) × Contains r.changes.areas area × InArea a area) ⊎ InAllotment u r s a

pub keeps_itself : (u : Unit) (r : Routine) (s : State) → Keeps u r s s
keeps_itself u r s = record {
  memory = λ a low apart out. refl;
  outputs = ([], sym (append-nil s.outputs), All-nil (λ o. Contains r.outs o.0));
}

pub keeps_still : (u : Unit) (r : Routine) (s t v : State) → Keeps u r s t → v.core.cells ≡ t.core.cells → v.outputs ≡ t.outputs → Keeps u r s v
keeps_still u r s t v k cells outputs = record {
  memory = λ a low apart out. ap (λ m. slice_index m (a % 65536)) cells ∙ k.memory a low apart out;
  outputs = (k.outputs.0, outputs ∙ k.outputs.1, k.outputs.2);
}

pub cell_apart : (m : List ℕ) (a w b : ℕ) → a ≢ w → slice_index (slice_set m w b) a ≡ slice_index m a
cell_apart m a w b apart = get_or-set_other m w a b 0 apart

pub keeps_written : (u : Unit) (r : Routine) (s t v : State) (w b : ℕ) → Keeps u r s t → v.core.cells ≡ slice_set t.core.cells w b → v.outputs ≡ t.outputs → MayWrite u r s w → Keeps u r s v
keeps_written u r s t v w b k cells outputs may = record {
  memory = λ a low apart out.
      let there : a % 65536 ≡ a = omega arith in
      elim (same_or_not a w) [
        | inl is ↦ absurd (elim may [
          | inl p ↦ apart p.0 p.1 (subst (λ x. InArea x p.0) (sym is) p.2)
          | inr p ↦ out (subst (InAllotment u r s) (sym is) p)
        ])
        | inr other ↦ ap (λ m. slice_index m (a % 65536)) cells ∙ cell_apart t.core.cells (a % 65536) w b (λ h. other (sym there ∙ h)) ∙ k.memory a low apart out
      ];
  outputs = (k.outputs.0, outputs ∙ k.outputs.1, k.outputs.2);
}

pub keeps_sent : (u : Unit) (r : Routine) (s t v : State) (o : ℕ × ℕ) → Keeps u r s t → v.core.cells ≡ t.core.cells → v.outputs ≡ t.outputs ++ o ∷ [] → Contains r.outs o.0 → Keeps u r s v
keeps_sent u r s t v o k cells outputs listed = record {
  memory = λ a low apart out. ap (λ m. slice_index m (a % 65536)) cells ∙ k.memory a low apart out;
  outputs = (
    k.outputs.0 ++ o ∷ [],
    outputs ∙ ap (λ xs. xs ++ o ∷ []) k.outputs.1 ∙ append_assoc s.outputs k.outputs.0 (o ∷ []),
    All-append (λ o. Contains r.outs o.0) k.outputs.0 (o ∷ []) k.outputs.2 (All-cons (λ o. Contains r.outs o.0) o [] listed (All-nil (λ o. Contains r.outs o.0))),
  );
}

-- what is kept from s to t and from t to v is kept from s to v
pub keeps_on : (u : Unit) (r : Routine) (s t v : State) → base u r t ≡ base u r s → Keeps u r s t → Keeps u r t v → Keeps u r s v
keeps_on u r s t v same first next = record {
  memory = λ a low apart out. next.memory a low apart (λ inside. out (subst (λ b. (a < b) × (b ≤ a + r.depth)) same inside)) ∙ first.memory a low apart out;
  outputs = (
    first.outputs.0 ++ next.outputs.0,
    next.outputs.1 ∙ ap (λ xs. xs ++ next.outputs.0) first.outputs.1 ∙ append_assoc s.outputs first.outputs.0 next.outputs.0,
    All-append (λ o. Contains r.outs o.0) first.outputs.0 next.outputs.0 first.outputs.2 next.outputs.2,
  );
}

-- ---- the image
-- a byte written where the image has none
pub loaded_apart : (image : ImageMap) (t v : State) (w b : ℕ) → ((a byte : ℕ) → maps.get image a ≡ Some byte → (a < 65536) × (a ≢ w)) → v.core.cells ≡ slice_set t.core.cells w b → Loaded image t → Loaded image v
loaded_apart image t v w b apart cells loaded a byte there =
    let under = apart a byte there in
    let same : a % 65536 ≡ a = let low = under.0 in omega arith in
    ap (λ m. slice_index m (a % 65536)) cells ∙ cell_apart t.core.cells (a % 65536) w b (λ h. under.1 (sym same ∙ h)) ∙ loaded a byte there

-- a byte written past the image
pub loaded_written : (image : ImageMap) (t v : State) (w b : ℕ) → ((a byte : ℕ) → maps.get image a ≡ Some byte → a < 0x200) → 0x200 ≤ w → v.core.cells ≡ slice_set t.core.cells w b → Loaded image t → Loaded image v
loaded_written image t v w b low high cells loaded = loaded_apart image t v w b (λ a byte there. let under = low a byte there in (omega arith, λ h. omega arith)) cells loaded

-- ---- fetching
fetched_by : (b : ℕ) (bs : List ℕ) (i : Instr) (core : Core) → length bs ≤ 2 → IsTrue (valid i) → code i ≡ b ∷ bs → ((k : ℕ) → k < length (b ∷ bs) → cell (core.pc + k) core ≡ get_or (b ∷ bs) k 0) → next_instr core ≡ Some (i, length (code i))
fetched_by b [] i core short ok is h =
    ap (λ n. decode (cell n core) (cell (core.pc + 1) core) (cell (core.pc + 2) core)) (sym (add-zero core.pc))
    ∙ ap (λ n. decode n (cell (core.pc + 1) core) (cell (core.pc + 2) core)) (h 0 (omega arith))
    ∙ subst (λ bytes. decode_front (bytes ++ cell (core.pc + 1) core ∷ cell (core.pc + 2) core ∷ []) ≡ Some (i, length (code i))) is (decodes_codes i ok (cell (core.pc + 1) core ∷ cell (core.pc + 2) core ∷ []))
fetched_by b (c ∷ []) i core short ok is h =
    ap (λ n. decode (cell n core) (cell (core.pc + 1) core) (cell (core.pc + 2) core)) (sym (add-zero core.pc))
    ∙ ap (λ n. decode n (cell (core.pc + 1) core) (cell (core.pc + 2) core)) (h 0 (omega arith))
    ∙ ap (λ n. decode b n (cell (core.pc + 2) core)) (h 1 (omega arith))
    ∙ subst (λ bytes. decode_front (bytes ++ cell (core.pc + 2) core ∷ []) ≡ Some (i, length (code i))) is (decodes_codes i ok (cell (core.pc + 2) core ∷ []))
fetched_by b (c ∷ d ∷ []) i core short ok is h =
    ap (λ n. decode (cell n core) (cell (core.pc + 1) core) (cell (core.pc + 2) core)) (sym (add-zero core.pc))
    ∙ ap (λ n. decode n (cell (core.pc + 1) core) (cell (core.pc + 2) core)) (h 0 (omega arith))
    ∙ ap (λ n. decode b n (cell (core.pc + 2) core)) (h 1 (omega arith))
    ∙ ap (λ n. decode b c n) (h 2 (omega arith))
    ∙ subst (λ bytes. decode_front (bytes ++ []) ≡ Some (i, length (code i))) is (decodes_codes i ok [])
fetched_by b (c ∷ d ∷ a ∷ bs) i core short ok is h = absurd (omega arith)

operand_short : (i : Instr) → length (operand i) ≤ 2
operand_short (Mvi y n) = omega arith
operand_short i = omega arith

-- the image has these bytes from an address on
abbrev pub StandsAt : ImageMap → ℕ → List ℕ → Type 0
StandsAt image a [] = ⊤
StandsAt image a (b ∷ bs) = (maps.get image a ≡ Some b) × StandsAt image (a + 1) bs

stands_at : (image : ImageMap) (a : ℕ) (bs : List ℕ) → StandsAt image a bs → (k : ℕ) → k < length bs → maps.get image (a + k) ≡ Some (get_or bs k 0)
stands_at image a [] h k less = absurd (omega arith)
stands_at image a (b ∷ bs) h zero less = ap (maps.get image) (add-zero a) ∙ h.0
stands_at image a (b ∷ bs) h (suc k) less =
    let there : a + suc k ≡ a + 1 + k = omega arith in
    ap (maps.get image) there ∙ stands_at image (a + 1) bs h.1 k (omega arith)

pub fetched : (image : ImageMap) (t : State) (i : Instr) → Loaded image t → IsTrue (valid i) → StandsAt image t.core.pc (code i) → next_instr t.core ≡ Some (i, length (code i))
fetched image t i loaded ok h =
    fetched_by (opcode i) (operand i) i t.core (operand_short i) ok refl
    (λ k less. loaded (t.core.pc + k) (get_or (code i) k 0) (stands_at image t.core.pc (code i) h k less))
