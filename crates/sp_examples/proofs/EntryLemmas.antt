-- Entries: images written out, states at an address, and the given states.
use Rattle.std.proofs.Common.{◌≡◌, ℕ, zero, suc, ◌+◌, ◌%◌, ◌<◌, ◌≤◌, Bool, true, false, cond, List, [], ◌∷◌, ◌++◌, length, map, refl, sym, ap, subst, ◌∙◌, arith, rules, Option, Some, None, length-set, get_or-set_same, get_or-set_other, lit<}
use Rattle.std.proofs.lemmas.List.{length-replicate, get_or-replicate}
use Rattle.std.specs.List.{AllByRecursion}
use Rattle.std.specs.Prelude.{All, IsTrue, slice_index, slice_set, unwrap_or, nat_lt, nat_le}
use Rattle.std.specs.Ordering.{nat_cmp, eq_by_cmp}
use Rattle.std.specs.FinMap as maps
use Rattle.std.specs.FinMap.{find, is_sorted}
use Rattle.std.proofs.lemmas.List.Elements.{All-nil, All-replicate}
use Rattle.std.proofs.lemmas.Float.{T_from_true}
use Rattle.std.proofs.lemmas.Bool.{ltb-true, leb-true}
use Rattle.sp_base.specs.declared.location.Loc.{Loc}
use Rattle.sp_base.specs.declared.location.Loc.TheVariants as loc
use Rattle.sp_isa.specs.declared.instr.Instr.{Instr}
use Rattle.sp_isa.specs.Code.{code, valid}
use Rattle.sp_isa.specs.Core.{at, limit}
use Rattle.sp_model.specs.State.{State, IsState, next_instr}
use Rattle.sp_model.specs.Good.{Loaded}
use Rattle.sp_examples.specs.States.{zeros, memory_of, ready}
use Rattle.sp_examples.proofs.KeepsLemmas.{StandsAt, fetched}

-- ---- images
tied : (a b : ℕ) → eq_by_cmp nat_cmp a b ≡ true → a ≡ b
tied a b h = search rules

-- each address is below a bound
abbrev pub AreBelow : ℕ → List (ℕ × ℕ) → Type 0
AreBelow n = AllByRecursion (λ c. c.0 < n)

abbrev pub AreBytes : List (ℕ × ℕ) → Type 0
AreBytes = AllByRecursion (λ c. c.1 < 256)

-- a test for each of both
abbrev pub all_low : ℕ → List (ℕ × ℕ) → Bool
all_low n [] = true
all_low n (c ∷ cells) = cond (nat_lt c.0 n) (all_low n cells) false

abbrev pub all_high : ℕ → List (ℕ × ℕ) → Bool
all_high n [] = true
all_high n (c ∷ cells) = cond (nat_le n c.0) (all_high n cells) false

abbrev pub all_bytes : List (ℕ × ℕ) → Bool
all_bytes [] = true
all_bytes (c ∷ cells) = cond (nat_lt c.1 256) (all_bytes cells) false

pub below : (n : ℕ) (cells : List (ℕ × ℕ)) → all_low n cells ≡ true → AreBelow n cells
below n [] h = tt
below n (c ∷ cells) h =
    elim (nat_lt c.0 n) as (λ t. nat_lt c.0 n ≡ t → cond t (all_low n cells) false ≡ true → (c.0 < n) × AreBelow n cells) [
      | true ↦ λ t rest. (ltb-true c.0 n t, below n cells rest)
      | false ↦ λ t rest. cc
    ] refl h

pub bytes : (cells : List (ℕ × ℕ)) → all_bytes cells ≡ true → AreBytes cells
bytes [] h = tt
bytes (c ∷ cells) h =
    elim (nat_lt c.1 256) as (λ t. nat_lt c.1 256 ≡ t → cond t (all_bytes cells) false ≡ true → (c.1 < 256) × AreBytes cells) [
      | true ↦ λ t rest. (ltb-true c.1 256 t, bytes cells rest)
      | false ↦ λ t rest. cc
    ] refl h

pub found_below : (n : ℕ) (cells : List (ℕ × ℕ)) → AreBelow n cells → (a b : ℕ) → find nat_cmp a cells ≡ Some b → a < n
found_below n [] h a b is = cc
found_below n (c ∷ cells) h a b is =
    elim (eq_by_cmp nat_cmp a c.0) as (λ t. eq_by_cmp nat_cmp a c.0 ≡ t → cond t (Some c.1) (find nat_cmp a cells) ≡ Some b → a < n) [
      | true ↦ λ t there. let same = tied a c.0 t in omega (arith, h.0)
      | false ↦ λ t there. found_below n cells h.1 a b there
    ] refl is

pub found_all : (P : ℕ → Type 0) (cells : List (ℕ × ℕ)) → AllByRecursion (λ c. P c.1) cells → (a b : ℕ) → find nat_cmp a cells ≡ Some b → P b
found_all P [] h a b is = cc
found_all P (c ∷ cells) h a b is =
    elim (eq_by_cmp nat_cmp a c.0) as (λ t. cond t (Some c.1) (find nat_cmp a cells) ≡ Some b → P b) [
      | true ↦ λ there. subst P (same_value c.1 b there) h.0
      | false ↦ λ there. found_all P cells h.1 a b there
    ] is
  where
    same_value : (x y : ℕ) → Some x ≡ Some y → x ≡ y
    same_value x y h = cc

-- nothing stands at an address past all
pub none_past : (cells : List (ℕ × ℕ)) (a : ℕ) → all_low 0x200 cells ≡ true → 0x200 ≤ a → find nat_cmp a cells ≡ None
none_past cells a low high = none_of (find nat_cmp a cells) (λ b is. let under = found_below 0x200 cells (below 0x200 cells low) a b is in omega arith)
  where
    none_of : (o : Option ℕ) → ((b : ℕ) → o ≡ Some b → ⊥) → o ≡ None
    none_of None h = refl
    none_of (Some b) h = absurd (h b refl)

-- what stands from an address on
abbrev pub bytes_from : List (ℕ × ℕ) → ℕ → ℕ → List (Option ℕ)
bytes_from cells a zero = []
bytes_from cells a (suc n) = find nat_cmp a cells ∷ bytes_from cells (a + 1) n

same_head : (a b : Option ℕ) (xs ys : List (Option ℕ)) → a ∷ xs ≡ b ∷ ys → a ≡ b
same_head a b xs ys h = cc

same_tail : (a b : Option ℕ) (xs ys : List (Option ℕ)) → a ∷ xs ≡ b ∷ ys → xs ≡ ys
same_tail a b xs ys h = cc

pub get_is : (cells : List (ℕ × ℕ)) → is_sorted nat_cmp cells ≡ true → (q : ℕ) → maps.get (maps.from_sorted {R = nat_cmp} cells) q ≡ find nat_cmp q cells
get_is cells sorted q = maps.get-from_sorted nat_cmp cells q (T_from_true (is_sorted nat_cmp cells) sorted)

pub stand : (cells : List (ℕ × ℕ)) → is_sorted nat_cmp cells ≡ true → (a : ℕ) (bs : List ℕ) → bytes_from cells a (length bs) ≡ map Some bs → StandsAt (maps.from_sorted {R = nat_cmp} cells) a bs
stand cells sorted a [] h = tt
stand cells sorted a (b ∷ bs) h = (get_is cells sorted a ∙ same_head _ _ _ _ h, stand cells sorted (a + 1) bs (same_tail _ _ _ _ h))

-- a state with the image fetches what stands at its PC
pub fetch : (cells : List (ℕ × ℕ)) (t : State) (i : Instr) → is_sorted nat_cmp cells ≡ true → Loaded (maps.from_sorted cells) t → IsTrue (valid i) → bytes_from cells t.core.pc (length (code i)) ≡ map Some (code i) → next_instr t.core ≡ Some (i, length (code i))
fetch cells t i sorted loaded ok h = fetched (maps.from_sorted cells) t i loaded ok (stand cells sorted t.core.pc (code i) h)

pub low_image : (n : ℕ) (cells : List (ℕ × ℕ)) → is_sorted nat_cmp cells ≡ true → all_low n cells ≡ true → (a b : ℕ) → maps.get (maps.from_sorted {R = nat_cmp} cells) a ≡ Some b → a < n
low_image n cells sorted h a b is = found_below n cells (below n cells h) a b (sym (get_is cells sorted a) ∙ is)

found_high : (n : ℕ) (cells : List (ℕ × ℕ)) → all_high n cells ≡ true → (a b : ℕ) → find nat_cmp a cells ≡ Some b → n ≤ a
found_high n [] h a b is = cc
found_high n (c ∷ cells) h a b is =
    elim (nat_le n c.0) as (λ t. nat_le n c.0 ≡ t → cond t (all_high n cells) false ≡ true → n ≤ a) [
      | true ↦ λ high rest. elim (eq_by_cmp nat_cmp a c.0) as (λ t. eq_by_cmp nat_cmp a c.0 ≡ t → cond t (Some c.1) (find nat_cmp a cells) ≡ Some b → n ≤ a) [
        | true ↦ λ t there. let same = tied a c.0 t in let over = leb-true n c.0 high in omega arith
        | false ↦ λ t there. found_high n cells rest a b there
      ] refl is
      | false ↦ λ high rest. cc
    ] refl h

pub high_image : (n : ℕ) (cells : List (ℕ × ℕ)) → is_sorted nat_cmp cells ≡ true → all_high n cells ≡ true → (a b : ℕ) → maps.get (maps.from_sorted {R = nat_cmp} cells) a ≡ Some b → n ≤ a
high_image n cells sorted h a b is = found_high n cells h a b (sym (get_is cells sorted a) ∙ is)

-- the first bytes of a longer list
found_more : (xs ys : List (ℕ × ℕ)) (a b : ℕ) → find nat_cmp a xs ≡ Some b → find nat_cmp a (xs ++ ys) ≡ Some b
found_more [] ys a b is = cc
found_more (x ∷ xs) ys a b is =
    elim (eq_by_cmp nat_cmp a x.0) as (λ t. cond t (Some x.1) (find nat_cmp a xs) ≡ Some b → cond t (Some x.1) (find nat_cmp a (xs ++ ys)) ≡ Some b) [
      | true ↦ λ there. there
      | false ↦ λ there. found_more xs ys a b there
    ] is

pub loaded_part : (xs ys : List (ℕ × ℕ)) (t : State) → is_sorted nat_cmp xs ≡ true → is_sorted nat_cmp (xs ++ ys) ≡ true → Loaded (maps.from_sorted (xs ++ ys)) t → Loaded (maps.from_sorted xs) t
loaded_part xs ys t part whole loaded a byte there =
    loaded a byte (get_is (xs ++ ys) whole a ∙ found_more xs ys a byte (sym (get_is xs part a) ∙ there))

-- ---- a state at an address
abbrev pub placed : State → ℕ → State
placed s a = record s { core = record s.core { pc = a; halted = false } }

pub placed_is : (s : State) (a : ℕ) → s.core.pc ≡ a → s.core.halted ≡ false → s ≡ placed s a
placed_is s a here running = ap (λ pc. record s { core = record s.core { pc = pc } }) here ∙ ap (λ halted. record s { core = record s.core { pc = a; halted = halted } }) running

-- ---- the given states
pub zeros_long : length zeros ≡ 65536
unfolding zeros
zeros_long = length-replicate {A = ℕ} 65536 0

pub zeros_are : (a : ℕ) → a < 65536 → slice_index zeros a ≡ 0
unfolding zeros
zeros_are a low = get_or-replicate {A = ℕ} 65536 a 0 0 low

zeros_low : All (λ byte. byte < 256) zeros
unfolding zeros
zeros_low = All-replicate (λ byte. byte < 256) 65536 0 (omega arith)

pub memory_long : (cells : List (ℕ × ℕ)) → length (memory_of cells) ≡ 65536
unfolding memory_of
memory_long [] = zeros_long
memory_long (c ∷ cells) = length-set (memory_of cells) c.0 c.1 ∙ memory_long cells

low_set : (xs : List ℕ) (i b : ℕ) → b < 256 → All (λ byte. byte < 256) xs → All (λ byte. byte < 256) (slice_set xs i b)
low_set xs i b low h k d less = search rules

pub memory_low : (cells : List (ℕ × ℕ)) → AreBytes cells → All (λ byte. byte < 256) (memory_of cells)
unfolding memory_of
memory_low [] h = zeros_low
memory_low (c ∷ cells) h = low_set (memory_of cells) c.0 c.1 h.0 (memory_low cells h.1)

-- a byte of the memory of some cells
pub memory_at : (cells : List (ℕ × ℕ)) (a : ℕ) → a < 65536 → slice_index (memory_of cells) a ≡ unwrap_or (find nat_cmp a cells) 0
unfolding memory_of
memory_at [] a low = zeros_are a low
memory_at (c ∷ cells) a low =
    elim (eq_by_cmp nat_cmp a c.0) as (λ t. eq_by_cmp nat_cmp a c.0 ≡ t → slice_index (slice_set (memory_of cells) c.0 c.1) a ≡ unwrap_or (cond t (Some c.1) (find nat_cmp a cells)) 0) [
      | true ↦ λ t. let same = tied a c.0 t in subst (λ x. slice_index (slice_set (memory_of cells) x c.1) a ≡ c.1) same (get_or-set_same (memory_of cells) a c.1 0 (omega (arith, memory_long cells)))
      | false ↦ λ t. get_or-set_other (memory_of cells) c.0 a c.1 0 (λ h. untied a c.0 t h) ∙ memory_at cells a low
    ] refl
  where
    untied : (a b : ℕ) → eq_by_cmp nat_cmp a b ≡ false → a ≡ b → ⊥
    untied a b t h = search rules

ready_locations : (x : Loc) (cells : List (ℕ × ℕ)) (pc sp : ℕ) → at x (ready cells pc sp).core < limit x
ready_locations loc.A cells pc sp = lit< tt
ready_locations loc.B cells pc sp = lit< tt
ready_locations loc.C cells pc sp = lit< tt
ready_locations loc.D cells pc sp = lit< tt
ready_locations loc.E cells pc sp = lit< tt
ready_locations loc.H cells pc sp = lit< tt
ready_locations loc.L cells pc sp = lit< tt
ready_locations loc.S cells pc sp = lit< tt
ready_locations loc.Z cells pc sp = lit< tt
ready_locations loc.Ac cells pc sp = lit< tt
ready_locations loc.P cells pc sp = lit< tt
ready_locations loc.Cy cells pc sp = lit< tt

pub state_of_bytes : (cells : List (ℕ × ℕ)) (pc sp : ℕ) → AreBytes cells → pc < 65536 → sp < 65536 → IsState (ready cells pc sp)
state_of_bytes cells pc sp are low room = record {
  core = record { locations = λ x. ready_locations x cells pc sp; sp = room; pc = low; memory = memory_long cells; bytes = memory_low cells are };
  inputs = All-nil (λ byte. byte < 256);
  outputs = All-nil (λ o. (o.0 < 256) × (o.1 < 256));
}

pub ready_state : (cells : List (ℕ × ℕ)) (pc sp : ℕ) → all_bytes cells ≡ true → pc < 65536 → sp < 65536 → IsState (ready cells pc sp)
ready_state cells pc sp are low room = state_of_bytes cells pc sp (bytes cells are) low room

pub ready_loaded : (cells : List (ℕ × ℕ)) (pc sp : ℕ) → is_sorted nat_cmp cells ≡ true → all_low 0x200 cells ≡ true → Loaded (maps.from_sorted cells) (ready cells pc sp)
ready_loaded cells pc sp sorted low a byte there =
    let found : find nat_cmp a cells ≡ Some byte = sym (get_is cells sorted a) ∙ there in
    let under = found_below 0x200 cells (below 0x200 cells low) a byte found in
    let same : a % 65536 ≡ a = omega arith in
    ap (slice_index (memory_of cells)) same ∙ memory_at cells a (omega arith) ∙ ap (λ o. unwrap_or o 0) found
