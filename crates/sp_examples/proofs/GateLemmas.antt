-- Which states are entries.
use Rattle.std.proofs.Common.{◌≡◌, ℕ, ◌+◌, ◌<◌, ◌≤◌, true, false, List, [], ◌∷◌, refl, sym, ap, arith, lit<, lit≤, pos}
use Rattle.std.specs.Prelude.{◌↔◌}
use Rattle.std.proofs.lemmas.List.Elements.{All-nil, All-cons}
use Rattle.sp_base.specs.declared.location.Loc.TheVariants as loc
use Rattle.sp_isa.specs.Core.{cell}
use Rattle.sp_model.specs.Note.{Note}
use Rattle.sp_model.specs.State.{State}
use Rattle.sp_model.specs.Unit.{Routine}
use Rattle.sp_model.specs.Good.{IsEntry, IsGood, AllRunsAreGood}
use Rattle.sp_examples.specs.Units.{alone, a_is, bytes_of}
use Rattle.sp_examples.specs.States.{ready}
use Rattle.sp_examples.proofs.EntryLemmas.{get_is, memory_at, ready_state, ready_loaded}
use Rattle.sp_examples.proofs.GoodLemmas.{Says}
use Rattle.sp_examples.proofs.AloneLemmas.{one_of}
use Rattle.sp_examples.specs.Units.{push as pushing, guard, write}
use Rattle.sp_examples.proofs.WriteLemmas.{start_entry}

abbrev cells : List (ℕ × ℕ)
cells = bytes_of (pushing 0 []).code

abbrev given : State
given = ready cells 0x100 0x2380

pub room_law : (depth sp : ℕ) → IsEntry (alone (pushing depth [])) (pushing depth []) (ready (bytes_of (pushing depth []).code) 0x100 sp) ↔ ((0x2300 + depth ≤ sp) × (sp + 1 ≤ 0x23FF))
room_law depth sp = (
  λ e. let room = e.room refl in (room.below, room.above),
  λ room. record {
    state = ready_state cells 0x100 sp refl (lit< tt) (omega arith);
    loaded = ready_loaded cells 0x100 sp refl refl;
    begins = refl;
    running = refl;
    pre = All-nil (Says (alone (pushing depth [])) (pushing depth []) (ready cells 0x100 sp) (ready cells 0x100 sp));
    room = λ h. record { below = room.0; above = room.1 };
  },
)

pub unloaded : ¬ IsEntry (alone (pushing 2 [])) (pushing 2 []) (ready [] 0x100 0x2380)
unloaded e =
    let there : cell 0x100 (ready [] 0x100 0x2380).core ≡ 0xC5 = e.loaded 0x100 0xC5 (get_is cells refl 0x100) in
    omega (arith, there, memory_at [] 0x100 (lit< tt))

pub elsewhere : ¬ IsEntry (alone (pushing 2 [])) (pushing 2 []) (ready cells 0x101 0x2380)
elsewhere e = apart e.begins
  where
    apart : ◌≡◌ {A = ℕ} 0x101 0x100 → ⊥
    apart h = omega arith

pub halted_no : ¬ IsEntry (alone (pushing 2 [])) (pushing 2 []) (record given { core = record given.core { halted = true } })
halted_no e = no e.running
  where
    no : true ≡ false → ⊥
    no h = cc

pub no_state : ¬ IsEntry (alone (pushing 2 [])) (pushing 2 []) (record given { inputs = 256 ∷ [] })
no_state e = no (e.state.inputs 0 0 (lit< tt))
  where
    no : 256 < 256 → ⊥
    no h = omega arith

pub start_law : (depth sp w : ℕ) → w < 65536 → sp < 65536 → IsEntry (alone (write true depth w)) (write true depth w) (ready (bytes_of (write true depth w).code) 0x100 sp)
start_law depth sp w small room = start_entry depth w sp small room

abbrev ret_cells : List (ℕ × ℕ)
ret_cells = bytes_of (guard [] []).code

same_pos : (m n : ℕ) → pos m ≡ pos n → m ≡ n
same_pos m n h = cc

pub pre_law : (m n : ℕ) → IsEntry (alone (guard (a_is m ∷ []) (a_is n ∷ []))) (guard (a_is m ∷ []) (a_is n ∷ [])) (ready (bytes_of (guard [] []).code) 0x100 0x2380) ↔ (m ≡ 7)
pre_law m n =
    let s : State = ready ret_cells 0x100 0x2380 in
    let r : Routine = guard (a_is m ∷ []) (a_is n ∷ []) in (
      λ e. sym (same_pos 7 m (e.pre 0 (a_is m) (lit< tt))),
      λ is. record {
        state = ready_state ret_cells 0x100 0x2380 refl (lit< tt) (lit< tt);
        loaded = ready_loaded ret_cells 0x100 0x2380 refl refl;
        begins = refl;
        running = refl;
        pre = All-cons (Says (alone r) r s s) (a_is m) [] (ap pos (sym is)) (All-nil (Says (alone r) r s s));
        room = λ h. record { below = lit≤ tt; above = lit≤ tt };
      },
    )

-- ---- no entry at all
pub never_law : (r : Routine) → ((s : State) → ¬ IsEntry (alone r) r s) → AllRunsAreGood (alone r)
never_law r never = one_of (λ q. (s : State) → IsEntry (alone r) q s → (n : ℕ) → IsGood (alone r) q s n) r (λ s e. absurd (never s e))

pub never_met : (n : ℕ) (s : State) → ¬ IsEntry (alone (guard (a_is 256 ∷ []) (a_is n ∷ []))) (guard (a_is 256 ∷ []) (a_is n ∷ [])) s
never_met n s e = no_reg (e.state.core.locations loc.A) (same_pos s.core.a 256 (e.pre 0 (a_is 256) (lit< tt)))
  where
    no_reg : s.core.a < 256 → s.core.a ≡ 256 → ⊥
    no_reg h k = omega arith

pub never_room : (asserts : List Note) (s : State) → ¬ IsEntry (alone (pushing 0xFF asserts)) (pushing 0xFF asserts) s
never_room asserts s e = let room = e.room refl in omega (arith, room.below, room.above)
