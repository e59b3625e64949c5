-- The environment of a run is admissible.
use Rattle.std.proofs.Common.{◌≡◌, inl, inr, ℕ, ◌+◌, ◌-◌, ◌%◌, ◌<◌, ◌≤◌, Bool, true, false, cond, ◌&&◌, List, length, get_or, Some, refl, sym, ap, subst, ◌∙◌, pos, arith}
use Rattle.std.specs.Prelude.{All, slice_index, nat_le}
use Rattle.std.proofs.lemmas.Bool.{cases_lt}
use Rattle.std.proofs.lemmas.Bool.Decides.{nat_tests}
use Rattle.std.proofs.lemmas.List.{get_or_past}
use Rattle.sp_base.specs.declared.location.Loc.{Loc}
use Rattle.sp_base.specs.declared.location.Loc.TheVariants as loc
use Rattle.sp_base.specs.Image.{ImageMap}
use Rattle.sp_isa.specs.Core.{Core, IsCore, at, limit}
use Rattle.sp_model.specs.Note.{Frame, shown, stack_address}
use Rattle.sp_model.specs.State.{State, IsState}
use Rattle.sp_term.specs.declared.var.Var.{Var}
use Rattle.sp_term.specs.declared.var.Var.TheVariants as var
use Rattle.sp_term.specs.Admissible.{greatest, greatest_at, IsUpTo, IsMemory, HasImage}
use Rattle.sp_term.specs.Sorts.{Memory, sort_of}
use Rattle.sp_facts.specs.Histories.{History, after, int_in, map_in}
use Rattle.sp_facts.specs.Theorems.{IsHistory, HasImageApart, region, EnvironmentsAreAdmissible}

-- ---- Numbers

at_most : (x : Loc) (n : ℕ) → n < limit x → n ≤ greatest_at x
at_most loc.A n lt = omega arith
at_most loc.B n lt = omega arith
at_most loc.C n lt = omega arith
at_most loc.D n lt = omega arith
at_most loc.E n lt = omega arith
at_most loc.H n lt = omega arith
at_most loc.L n lt = omega arith
at_most loc.S n lt = omega arith
at_most loc.Z n lt = omega arith
at_most loc.Ac n lt = omega arith
at_most loc.P n lt = omega arith
at_most loc.Cy n lt = omega arith

up_to : (most n value : ℕ) → value ≤ most → Some most ≡ Some n → IsUpTo n (pos value)
up_to most n value le e = let same : most ≡ n = cc in (value, omega (arith, le, same), refl)

state_after : (h : History) → IsHistory h → (j : ℕ) → IsState (after h j)
state_after h k j =
    elim (cases_lt (j - 1) (length h.calls)) [
      | inl lt ↦ k.calls_are (j - 1) h.entry lt
      | inr le ↦ subst IsState (sym (get_or_past h.calls (j - 1) h.entry le)) k.entry_is
    ]

byte_of : (bytes : List ℕ) → All (λ byte. byte < 256) bytes → (j : ℕ) → get_or bytes j 0 ≤ 255
byte_of bytes h j =
    elim (cases_lt j (length bytes)) [
      | inl lt ↦ let small : get_or bytes j 0 < 256 = h j 0 lt in omega (arith, small)
      | inr le ↦ let none = get_or_past bytes j 0 le in omega (arith, none)
    ]

range : (f : Frame) (h : History) → IsHistory h → (v : Var) (n : ℕ) → greatest v ≡ Some n → IsUpTo n (int_in f h v)
range f h k (var.Entry x) n e = up_to (greatest_at x) n (at x h.entry.core) (at_most x (at x h.entry.core) (k.entry_is.core.locations x)) e
range f h k (var.Now x) n e = up_to (greatest_at x) n (at x h.start.core) (at_most x (at x h.start.core) (k.start_is.core.locations x)) e
range f h k (var.After x j) n e = up_to (greatest_at x) n (at x (after h j).core) (at_most x (at x (after h j).core) ((state_after h k j).core.locations x)) e
range f h k (var.In j) n e = up_to 255 n (slice_index h.taken (j - 1)) (byte_of h.taken k.bytes (j - 1)) e
range f h k (var.SlotHigh w) n e = up_to 255 n (slice_index h.start.core.cells ((stack_address f w + 1) % 65536)) (byte_of h.start.core.cells k.start_is.core.bytes ((stack_address f w + 1) % 65536)) e
range f h k (var.SlotLow w) n e = up_to 255 n (slice_index h.start.core.cells (stack_address f w % 65536)) (byte_of h.start.core.cells k.start_is.core.bytes (stack_address f w % 65536)) e
range f h k var.MemEntry n e = absurd cc
range f h k var.Mem n e = absurd cc
range f h k (var.MemAfter j) n e = absurd cc
range f h k (var.Any j) n e = absurd cc
range f h k (var.Bound j) n e = absurd cc

-- ---- Memories

in_stack : (f : Frame) (a : ℕ) → f.first ≤ a → a ≤ f.last → (nat_le f.first a && nat_le a f.last) ≡ true
in_stack f a low high = grind (arith, nat_tests)

not_in_stack : (f : Frame) (a : ℕ) → ¬ ((f.first ≤ a) × (a ≤ f.last)) → (nat_le f.first a && nat_le a f.last) ≡ false
not_in_stack f a apart = by (nat_le f.first a && nat_le a f.last) refl
  where
    le_of : (m n : ℕ) → nat_le m n ≡ true → m ≤ n
    le_of m n e = grind (arith, nat_tests)

    both : (b c : Bool) → (b && c) ≡ true → (b ≡ true) × (c ≡ true)
    both true c e = (refl, e)
    both false c e = absurd cc

    by : (t : Bool) → (nat_le f.first a && nat_le a f.last) ≡ t → (nat_le f.first a && nat_le a f.last) ≡ false
    by false e = e
    by true e = let parts = both (nat_le f.first a) (nat_le a f.last) e in absurd (apart (le_of f.first a parts.0, le_of a f.last parts.1))

module _ (f : Frame) (core : Core) (h : IsCore core) where
  seen : (a : ℕ) (b : Bool) → (nat_le f.first a && nat_le a f.last) ≡ b → shown f core.cells (pos a) ≡ cond b (pos 0) (pos (slice_index core.cells a))
  seen a b e = ap (λ t. cond t (pos 0) (pos (slice_index core.cells a))) e

  byte_in : (a : ℕ) (b : Bool) → (nat_le f.first a && nat_le a f.last) ≡ b → IsUpTo 255 (shown f core.cells (pos a))
  byte_in a true e = (0, omega arith, seen a true e)
  byte_in a false e = (slice_index core.cells a, byte_of core.cells h.bytes a, seen a false e)

  above_in : (a : ℕ) → 65536 ≤ a → (b : Bool) → (nat_le f.first a && nat_le a f.last) ≡ b → shown f core.cells (pos a) ≡ pos 0
  above_in a le true e = seen a true e
  above_in a le false e = let long = h.memory in seen a false e ∙ ap pos (get_or_past core.cells a 0 (omega (arith, le, long)))

  pub is_memory : IsMemory (region f) (shown f core.cells)
  is_memory = record {
    byte = λ a lt. byte_in a (nat_le f.first a && nat_le a f.last) refl;
    stack = λ a low high. seen a true (in_stack f a low high);
    above = λ a le. above_in a le (nat_le f.first a && nat_le a f.last) refl;
    below = λ a. refl;
  }

memory : (f : Frame) (h : History) → IsHistory h → (v : Var) → sort_of v ≡ Memory → IsMemory (region f) (map_in f h v)
memory f h k var.MemEntry e = is_memory f h.entry.core k.entry_is.core
memory f h k var.Mem e = is_memory f h.start.core k.start_is.core
memory f h k (var.MemAfter j) e = is_memory f (after h j).core (state_after h k j).core
memory f h k (var.Entry x) e = absurd cc
memory f h k (var.Now x) e = absurd cc
memory f h k (var.After x j) e = absurd cc
memory f h k (var.In j) e = absurd cc
memory f h k (var.SlotHigh w) e = absurd cc
memory f h k (var.SlotLow w) e = absurd cc
memory f h k (var.Any j) e = absurd cc
memory f h k (var.Bound j) e = absurd cc

-- a memory with the image shows it
pub shows_image : (image : ImageMap) (f : Frame) (s : State) → HasImageApart image f s → HasImage image (shown f s.core.cells)
shows_image image f s h a byte there =
    let place = h.apart a byte there in
    let low : a % 65536 ≡ a = let lt = place.0 in omega (arith, lt) in
    ap (λ t. cond t (pos 0) (pos (slice_index s.core.cells a))) (not_in_stack f a place.1) ∙ ap pos (ap (slice_index s.core.cells) (sym low) ∙ h.loaded a byte there)

pub environments_are_admissible : EnvironmentsAreAdmissible
environments_are_admissible image f h changes k apart met = record {
  range = range f h k;
  memory = memory f h k;
  loaded = shows_image image f h.entry apart;
  met = met;
}
