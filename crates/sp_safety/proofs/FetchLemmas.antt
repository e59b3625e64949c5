-- What a run keeps leaves its program in memory, so that its instructions are fetched.
use Rattle.std.proofs.Common.{◌≡◌, inl, inr, ℕ, ◌+◌, ◌<◌, ◌≤◌, Bool, true, false, List, length, cond, Some, None, slice_get, refl, sym, ap, subst, ◌∙◌, arith}
use Rattle.std.specs.Prelude.{Contains, slice_index}
use Rattle.std.specs.FinMap as maps
use Rattle.std.specs.Cmp.{nat_cmp_total}
use Rattle.std.proofs.lemmas.Bool.{cases_order}
use Rattle.sp_base.specs.Image.{ImageMap, IsInMemory}
use Rattle.sp_base.proofs.ImageLaws.{none_past_memory}
use Rattle.sp_isa.specs.Code.{code}
use Rattle.sp_isa.specs.Step.{instr_at}
use Rattle.sp_isa.proofs.FetchLemmas.{code_is_fetched}
use Rattle.sp_model.specs.Good.{IsEntry, InArea, InAllotment, Keeps, Loaded, base, frame_of}
use Rattle.sp_model.specs.State.{State, next_instr}
use Rattle.sp_model.specs.Unit as runs
use Rattle.sp_prog.specs.Program.{Program}
use Rattle.sp_prog.specs.View.{unit_of}
use Rattle.sp_prog.specs.declared.routine.Routine.{Routine}
use Rattle.sp_prog.specs.declared.routine.Stmt.{Stmt}
use Rattle.sp_prog.proofs.MemberLemmas.{found}
use Rattle.sp_prog.proofs.UnitLemmas.{is_apart}
use Rattle.sp_facts.specs.Theorems.{HasImageApart}
use Rattle.sp_safety.proofs.GivenLemmas.{Given, own, member, stmt_rules}

-- a byte of the image stands at an address
pub at_address : (image : ImageMap) → IsInMemory image → (a b : ℕ) → maps.get image a ≡ Some b → a < 65536
at_address image memory a b e =
    let past : 65536 ≤ a → ⊥ = λ high.
    let none : Some b ≡ None =
    sym e ∙ maps.get-entries image a ∙ sym (maps.get-from_entries nat_cmp_total (maps.entries image) a)
    ∙ none_past_memory (maps.entries image) 65536 memory (omega arith) a high in
    cc in
    elim (cases_order a 65536) [
      | inl same ↦ absurd (past (omega (arith, same)))
      | inr (inl low) ↦ low
      | inr (inr high) ↦ absurd (past (omega (arith, high)))
    ]

-- an instruction stands at an address
pub low_at : (p : Program) (r : ℕ) (routine : Routine) (depths : List ℕ) (given : Given p r routine depths) (at : ℕ) (st : Stmt) → slice_get routine.code at ≡ Some st → st.addr < 65536
low_at p r routine depths given at st here =
    let rules = stmt_rules p r routine depths given at st here in
    let some : 0 < length (code st.instr) = omega arith in
    let within = at_address p.image given.unit.image (st.addr + 0) (slice_index (code st.instr) 0) (rules.code 0 some) in
    omega (arith, within)

-- there is room for the routine's stack below its base
pub record HasPlace (p : Program) (depth start_base : ℕ) (start : Bool) : Type 0 where
  pub below : p.first + depth ≤ start_base
  pub above : start_base ≤ p.last + 1
  pub called : start ≡ false → start_base + 1 ≤ p.last
  pub region : p.last ≤ 65534

module _ (p : Program) (r : ℕ) (routine : Routine) (depths : List ℕ) (given : Given p r routine depths) (s : State) (entry : IsEntry (unit_of p) (own p r routine depths given) s) where
  abbrev u : runs.Unit
  u = unit_of p

  abbrev o : runs.Routine
  o = own p r routine depths given

  pub base_of_called : o.start ≡ false → base u o s ≡ s.core.sp
  base_of_called straight = ap (λ b. cond b (u.last + 1) s.core.sp) straight

  pub base_of_start : o.start ≡ true → base u o s ≡ p.last + 1
  base_of_start starts = ap (λ b. cond b (u.last + 1) s.core.sp) starts

  room_by : (b : Bool) → routine.start ≡ b → HasPlace p routine.depth (base u o s) routine.start
  room_by false straight =
      let room = entry.room straight in
      let below = room.below in
      let above = room.above in
      let same = base_of_called straight in
      record { below = omega (arith, below, same); above = omega (arith, above, same); called = λ h. omega (arith, above, same); region = given.unit.stack_end }
  room_by true starts =
      let same = base_of_start starts in
      let fits : p.first + routine.depth ≤ p.last + 1 =
      elim (cases_order (p.last + 1) (p.first + routine.depth)) [
        | inl e ↦ omega (arith, e)
        | inr (inl less) ↦ absurd (given.structured.over routine.line.0 (inr (routine, found p.routines r routine given.among, refl, starts, less)))
        | inr (inr more) ↦ omega (arith, more)
      ] in
      record {
        below = omega (arith, fits, same);
        above = omega (arith, same);
        called = λ straight. let clash : true ≡ false = sym starts ∙ straight in absurd cc;
        region = given.unit.stack_end;
      }

  pub room : HasPlace p routine.depth (base u o s) routine.start
  room = room_by routine.start refl

  -- bytes of the image lie outside what the routine changes, and outside the stack region
  pub image_free : (a byte : ℕ) → maps.get p.image a ≡ Some byte → ((area : runs.Area) → Contains o.changes.areas area → ¬ InArea a area) × ¬ ((p.first ≤ a) × (a ≤ p.last))
  image_free a byte e =
      let apart = is_apart p given.unit in (
        (λ area there within. let none = apart.changed o area (member p r routine depths given) there a within in let clash : Some byte ≡ None = sym e ∙ none in absurd cc),
        (λ inside. let none = apart.stack a inside in let clash : Some byte ≡ None = sym e ∙ none in absurd cc),
      )

  pub allotted : (a : ℕ) → InAllotment u o s a → (p.first ≤ a) × (a ≤ p.last)
  allotted a h =
      let low = h.0 in
      let high = h.1 in
      let below = room.below in
      let above = room.above in
      (omega (arith, high, below), omega (arith, low, above))

  pub still_loaded : (t : State) → Keeps u o s t → Loaded p.image t
  still_loaded t keeps a byte e =
      let free = image_free a byte e in
      keeps.memory a (at_address p.image given.unit.image a byte e) free.0 (λ h. free.1 (allotted a h)) ∙ entry.loaded a byte e

  pub image_apart : (t : State) → Keeps u o s t → HasImageApart p.image (frame_of u o s) t
  image_apart t keeps = record {
    loaded = still_loaded t keeps;
    apart = λ a byte e. (at_address p.image given.unit.image a byte e, (image_free a byte e).1);
  }

  -- the instruction at the program counter is the next one
  pub fetched : (t : State) → Keeps u o s t → (at : ℕ) (st : Stmt) → slice_get routine.code at ≡ Some st → st.addr ≡ t.core.pc → next_instr t.core ≡ Some (st.instr, length (code st.instr))
  fetched t keeps at st here same =
      let rules = stmt_rules p r routine depths given at st here in
      subst (λ pc. instr_at pc t.core ≡ Some (st.instr, length (code st.instr))) same
      (code_is_fetched st.instr st.addr t.core rules.valid (λ k less. still_loaded t keeps (st.addr + k) (slice_index (code st.instr) k) (rules.code k less)))
