-- Return steps, and what a return leaves.
use Rattle.std.proofs.Common.{◌≡◌, ◌≢◌, ℕ, ◌+◌, ◌*◌, ◌%◌, ◌<◌, ◌≤◌, true, false, List, [], ◌∷◌, refl, sym, ap, subst, ◌∙◌, arith, Option, Some, None, ◌⊎◌, inl, inr, lit<, get_or-set_same, pos}
use Rattle.std.specs.Prelude.{All, Contains, IsTrue, slice_index, slice_set, unwrap_or, ◌↔◌}
use Rattle.std.proofs.lemmas.List.Elements.{All-nil, All-cons}
use Rattle.std.proofs.lemmas.Bool.{cases_lt, eqb-true}
use Rattle.std.specs.Ordering.{nat_cmp}
use Rattle.std.specs.FinMap as maps
use Rattle.sp_base.specs.declared.location.Loc.{Loc}
use Rattle.sp_base.specs.declared.location.Loc.TheVariants as loc
use Rattle.sp_isa.specs.declared.instr.Instr.TheVariants.{Ret, Nop}
use Rattle.sp_isa.specs.Core.{Core, at, cell, word}
use Rattle.sp_model.specs.State.{State, next_instr}
use Rattle.sp_model.specs.Unit.{Routine, Unit}
use Rattle.sp_model.specs.Good.{InArea, IsReturnStep, HasReturned}
use Rattle.sp_examples.specs.Units.{alone, a_is, bytes_of}
use Rattle.sp_examples.specs.States.{ready, memory_of}
use Rattle.sp_examples.proofs.KeepsLemmas.{same_or_not, cell_apart}
use Rattle.sp_examples.proofs.EntryLemmas.{fetch, memory_at, memory_long, ready_loaded}
use Rattle.sp_examples.proofs.GoodLemmas.{same_some, Says, not_return, return_step}
use Rattle.sp_examples.proofs.AloneLemmas.{one_of, two_of, loaded_still}
use Rattle.std.specs.Prelude.{◌==◌}
use Rattle.std.specs.FinMap.{find}
use Rattle.sp_isa.specs.declared.instr.Instr.{Instr}
use Rattle.sp_isa.specs.declared.instr.Instr.TheVariants.{Rcc}
use Rattle.sp_isa.specs.declared.instr.Cond.TheVariants as when
use Rattle.sp_isa.specs.Effect.{returns}
use Rattle.sp_examples.specs.Units.{given, only, begin, finish as finishing, one_cell}
use Rattle.sp_examples.specs.States.{stopped, with_sp as at_sp, with_z, left, end_cells}
use Rattle.sp_examples.proofs.EntryLemmas.{found_all}

abbrev cells : Instr → List (ℕ × ℕ)
cells i = bytes_of (only i).code

-- a state with the memory of the given one fetches the RET
fetches_ret : (t : State) → t.core.pc ≡ 0x100 → t.core.cells ≡ memory_of (cells Ret) → next_instr t.core ≡ Some (Ret, 1)
fetches_ret t here same =
    ap (λ (core : Core). next_instr core) (ap (λ pc. record t.core { pc = pc }) here)
    ∙ fetch (cells Ret) (record t { core = record t.core { pc = 0x100 } }) Ret refl (loaded_still (maps.from_sorted (cells Ret)) (given Ret) (record t { core = record t.core { pc = 0x100 } }) same (ready_loaded (cells Ret) 0x100 0x2380 refl refl)) refl refl

pub base_law : (sp : ℕ) → IsReturnStep (alone (only Ret)) (only Ret) (given Ret) (at_sp sp (given Ret)) ↔ (sp ≡ 0x2380)
base_law sp = (λ h. h.at_base, λ is. return_step (alone (only Ret)) (only Ret) (given Ret) (at_sp sp (given Ret)) refl (fetches_ret (at_sp sp (given Ret)) refl refl) is)

pub start_base_law : (sp : ℕ) → IsReturnStep (alone (begin Ret)) (begin Ret) (given Ret) (at_sp sp (given Ret)) ↔ (sp ≡ 0x2400)
start_base_law sp = (λ h. h.at_base, λ is. return_step (alone (begin Ret)) (begin Ret) (given Ret) (at_sp sp (given Ret)) refl (fetches_ret (at_sp sp (given Ret)) refl refl) is)

pub running : ¬ IsReturnStep (alone (only Ret)) (only Ret) (given Ret) (stopped (given Ret))
running h = no h.running
  where
    no : true ≡ false → ⊥
    no h = cc

fetches_nop : next_instr (given Nop).core ≡ Some (Nop, 1)
fetches_nop = fetch (cells Nop) (given Nop) Nop refl (ready_loaded (cells Nop) 0x100 0x2380 refl refl) refl refl

pub no_return : ¬ IsReturnStep (alone (only Nop)) (only Nop) (given Nop) (given Nop)
no_return = not_return (alone (only Nop)) (only Nop) (given Nop) (given Nop) Nop 1 fetches_nop refl

abbrev rz : Instr
rz = Rcc when.Z

fetches_rz : (z : ℕ) → next_instr (with_z z (given rz)).core ≡ Some (rz, 1)
fetches_rz z = fetch (cells rz) (with_z z (given rz)) rz refl (loaded_still (maps.from_sorted (cells rz)) (given rz) (with_z z (given rz)) refl (ready_loaded (cells rz) 0x100 0x2380 refl refl)) refl refl

is_one : (z : ℕ) → IsTrue (z == 1) → z ≡ 1
is_one z h = eqb-true z 1 h

one_is : (z : ℕ) → z ≡ 1 → IsTrue (z == 1)
one_is z h = ap (λ n. n == 1) h

pub condition_law : (z : ℕ) → IsReturnStep (alone (only rz)) (only rz) (given rz) (with_z z (given rz)) ↔ (z ≡ 1)
condition_law z = (
  λ h. is_one z (ap (λ (x : Instr × ℕ). returns x.0 (with_z z (given rz)).core) (same_some (rz, 1) h.returns.0 (sym (fetches_rz z) ∙ h.returns.1)) ∙ h.returns.2),
  λ is. record { running = refl; returns = ((rz, 1), fetches_rz z, one_is z is); at_base = refl },
)

-- ---- what a return leaves
abbrev entered : State
entered = ready end_cells 0x100 0x2380

return_word : word 0x2380 entered.core ≡ 0x1234
return_word =
    ap (λ x. x + 256 * cell 0x2381 entered.core) (memory_at end_cells 0x2380 (lit< tt))
    ∙ ap (λ x. 0x34 + 256 * x) (memory_at end_cells 0x2381 (lit< tt))

-- the cells that the routine may write
abbrev pub MayWrite : ℕ → Type 0
MayWrite w = (w ≡ 0x2000) ⊎ ((0x237E ≤ w) × (w ≤ 0x2380))

may_write : (w : ℕ) → MayWrite w ⊎ (MayWrite w → ⊥)
may_write w = elim (same_or_not w 0x2000) [
  | inl is ↦ inl (inl is)
  | inr other ↦ elim (cases_lt w 0x237E) [
    | inl low ↦ inr (λ h. elim h [ inl is ↦ other is | inr in_stack ↦ omega (arith, in_stack.0) ])
    | inr high ↦ elim (cases_lt 0x2380 w) [
      | inl above ↦ inr (λ h. elim h [ inl is ↦ other is | inr in_stack ↦ omega (arith, in_stack.1) ])
      | inr below ↦ inl (inr (high, below))
    ]
  ]
]

same_pos : (m n : ℕ) → pos m ≡ pos n → m ≡ n
same_pos m n h = cc

not_one : (o : Option ℕ) → ((b : ℕ) → o ≡ Some b → b ≢ 1) → unwrap_or o 0 ≢ 1
not_one None h is = omega arith
not_one (Some b) h is = h b refl is

was : (w : ℕ) → w < 65536 → slice_index (memory_of end_cells) (w % 65536) ≢ 1
was w low h =
    let same : w % 65536 ≡ w = omega arith in
    let is : slice_index (memory_of end_cells) w ≡ 1 = sym (ap (slice_index (memory_of end_cells)) same) ∙ h in
    not_one (find nat_cmp w end_cells)
    (λ b there. found_all (λ x. x ≢ 1) end_cells ((λ h. omega arith), ((λ h. omega arith), ((λ h. omega arith), tt))) w b there)
    (sym (memory_at end_cells w low) ∙ is)

pub left_law : (a b sp pc port w : ℕ) → w < 65536 → HasReturned (alone finishing) finishing (ready end_cells 0x100 0x2380) (left a b sp pc port w (ready end_cells 0x100 0x2380)) ↔ ((a ≡ 9) × (b ≡ 1) × (sp ≡ 0x2382) × (pc ≡ 0x1234) × (port ≡ 5) × MayWrite w)
left_law a b sp pc port w low =
    let u : Unit = alone finishing in
    let r : Routine = finishing in
    let v : State = left a b sp pc port w entered in (
      λ h. (
        same_pos a 9 (h.post 0 (a_is 9) (lit< tt)),
        h.unlisted loc.B (λ listed. not_a (one_of (λ x. x ≡ loc.A) loc.A refl loc.B listed)),
        h.sp,
        h.pc ∙ return_word,
        one_of (λ x. x ≡ 5) 5 refl port (subst (All (λ o. Contains (5 ∷ []) o.0)) (sym h.keeps.outputs.1) h.keeps.outputs.2 0 (0, 0) (lit< tt)),
        elim (may_write w) [
          | inl may ↦ may
          | inr never ↦ absurd (was w low
              (sym (h.keeps.memory w low
              (λ area listed inside. two_of (λ area. InArea w area → ⊥) (one_cell 0x2000) (one_cell 0x2380) (λ inside. never (inl (omega (arith, inside.0, inside.1)))) (λ inside. never (inr (omega (arith, inside.0), omega (arith, inside.1)))) area listed inside)
              (λ inside. never (inr (omega (arith, inside.1), omega (arith, inside.0)))))
              ∙ written))
        ],
      ),
      λ h. record {
        keeps = record {
          memory = λ x small apart out.
              let there : x % 65536 ≡ x = omega arith in
              cell_apart (memory_of end_cells) (x % 65536) w 1 (λ is. elim h.5 [
                | inl there ↦ apart _ (0, lit< tt, refl) (omega arith)
                | inr in_stack ↦ elim (cases_lt w 0x2380) [ inl below ↦ out (omega arith, omega arith) | inr top ↦ apart _ (1, lit< tt, refl) (omega arith, omega arith) ]
              ]);
          outputs = ((port, 0) ∷ [], refl, All-cons (λ o. Contains (5 ∷ []) o.0) (port, 0) [] (0, lit< tt, sym h.4) (All-nil (λ o. Contains (5 ∷ []) o.0)));
        };
        post = All-cons (Says u r entered v) (a_is 9) [] (ap pos h.0) (All-nil (Says u r entered v));
        sp = h.2;
        pc = h.3 ∙ sym return_word;
        unlisted = λ x out. unlisted x h.1 out;
      },
    )
  where
    not_a : loc.B ≡ loc.A → ⊥
    not_a h = cc

    there : w % 65536 ≡ w
    there = omega arith

    written : cell w (left a b sp pc port w entered).core ≡ 1
    written = ap (slice_index (slice_set (memory_of end_cells) w 1)) there ∙ get_or-set_same (memory_of end_cells) w 1 0 (omega (arith, memory_long end_cells))

    unlisted : (x : Loc) → b ≡ 1 → ¬ Contains (loc.A ∷ []) x → at x (left a b sp pc port w entered).core ≡ at x entered.core
    unlisted loc.A is out = absurd (out (0, lit< tt, refl))
    unlisted loc.B is out = is
    unlisted x is out = refl
