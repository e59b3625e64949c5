-- A list of cells in order as the finite map that it makes.
use Rattle.std.proofs.Common.{◌≡◌, ℕ, ◌<◌, ◌≤◌, false, cond, List, [], ◌∷◌, length, refl, sym, ap, subst, ◌∙◌, Some, None, All, arith, rules}
use Rattle.std.specs.Prelude.{Option, IsSome, IfSome, slice_get}
use Rattle.std.specs.Ordering.{nat_cmp, is_gt}
use Rattle.std.specs.declared.cmp.Ordering.TheVariants.{Less}
use Rattle.std.specs.Cmp.{nat_cmp_total, eq_by_cmp_equiv}
use Rattle.std.specs.FinMap as maps
use Rattle.std.specs.FinMap.{find, nat_cmp-IsAntisymmetric}
use Rattle.std.specs.FinMap.Entries.{put}
use Rattle.std.specs.Map.{lookup, keys_of}
use Rattle.std.specs.BTreeMap.{BTreeMap, is_at}
use Rattle.std.specs.BTreeMap.Range.{IsRangeOf, IsEntryInRange, IsLeBy}
use Rattle.std.specs.List.{AllByRecursion}
use Rattle.std.proofs.lemmas.List.Elements.{All-head, All-tail}
use Rattle.std.specs.List.Sorted.{IsStrictlySortedBy}
use Rattle.std.proofs.lemmas.Map.Keys.{sorted_head, sorted_tail, le_from_not_gt}
use Rattle.std.specs.declared.ops.Bound.TheVariants.{Included, Unbounded}
use Rattle.sp_base.specs.Image.{AreCells, NextByte, NoByteFrom}

find_is_lookup : (q : ℕ) (cells : List (ℕ × ℕ)) → find nat_cmp q cells ≡ lookup (is_at (nat_cmp q)) cells
find_is_lookup q [] = refl
find_is_lookup q (c ∷ cells) = ap (cond (is_at (nat_cmp q) c.0) (Some c.1)) (find_is_lookup q cells)

pub get-cells : (cells : List (ℕ × ℕ)) (q : ℕ) → maps.get (maps.from_entries {R = nat_cmp} cells) q ≡ lookup (is_at (nat_cmp q)) cells
get-cells cells q = maps.get-from_entries nat_cmp_total cells q ∙ find_is_lookup q cells

-- cells that differ at one address make maps that differ there
pub cells-insert : (old new : List (ℕ × ℕ)) (a byte : ℕ) → ((q : ℕ) → lookup (is_at (nat_cmp q)) new ≡ cond (is_at (nat_cmp a) q) (Some byte) (lookup (is_at (nat_cmp q)) old)) → maps.from_entries {R = nat_cmp} new ≡ maps.insert (maps.from_entries old) a byte
cells-insert old new a byte h = maps.same_map nat_cmp_total nat_cmp-IsAntisymmetric _ _ (λ q.
    get-cells new q ∙ h q ∙ ap (λ b. cond b (Some byte) (lookup (is_at (nat_cmp q)) old)) ((eq_by_cmp_equiv nat_cmp_total).symm a q)
    ∙ sym (maps.get-insert nat_cmp_total (maps.from_entries old) a byte q ∙ ap (cond (is_at (nat_cmp q) a) (Some byte)) (get-cells old q)))

put_first : (c : ℕ × ℕ) (cells : List (ℕ × ℕ)) → AllByRecursion (λ a. nat_cmp c.0 a ≡ Less) (keys_of cells) → put nat_cmp c.0 c.1 cells ≡ c ∷ cells
put_first c [] h = refl
put_first c (d ∷ cells) h = rw h.0 refl

no_cells : (cells : List (ℕ × ℕ)) → length cells ≡ 0 → cells ≡ []
no_cells [] h = refl
no_cells (c ∷ cells) h = cc

-- cells in order are those of the map that they make
pub entries-cells : (cells : List (ℕ × ℕ)) → IsStrictlySortedBy nat_cmp (keys_of cells) → maps.entries (maps.from_entries {R = nat_cmp} cells) ≡ cells
entries-cells [] h = no_cells _ (sym (maps.len-entries maps.empty) ∙ maps.len-empty nat_cmp ℕ)
entries-cells (c ∷ cells) h =
    maps.entries-insert nat_cmp_total (maps.from_entries cells) c.0 c.1
    ∙ ap (put nat_cmp c.0 c.1) (entries-cells cells (sorted_tail nat_cmp c.0 (keys_of cells) h))
    ∙ put_first c cells (sorted_head nat_cmp c.0 (keys_of cells) h)

pub len-cells : (cells : List (ℕ × ℕ)) → IsStrictlySortedBy nat_cmp (keys_of cells) → maps.len (maps.from_entries {R = nat_cmp} cells) ≡ length cells
len-cells cells h = maps.len-entries (maps.from_entries cells) ∙ ap length (entries-cells cells h)

not_gt : (a b : ℕ) → a ≤ b → is_gt (nat_cmp a b) ≡ false
not_gt a b h = search rules

-- what isn't there is none
none_or : (o : Option ℕ) → (IsSome o → ⊥) → o ≡ None
none_or None h = refl
none_or (Some x) h = absurd (h (search rules))

-- what a range from an address on begins with
pub next_of_range : (m : BTreeMap ℕ ℕ) (from : ℕ) (range rest : List (ℕ × ℕ)) (c : ℕ × ℕ) → IsRangeOf nat_cmp (Included from) Unbounded m range → range ≡ c ∷ rest → NextByte (maps.from_entries m.entries) from c
next_of_range m from range rest c h is =
    let first : slice_get range 0 ≡ Some c = rw is refl in
    let it : IsEntryInRange nat_cmp (Included from) Unbounded m c = subst (λ o. IfSome o (IsEntryInRange nat_cmp (Included from) Unbounded m)) first h.1 in
    record {
      there = get-cells m.entries c.0 ∙ it.1;
      from_there = le_from_not_gt from c.0 it.0.0;
      least = λ a low high. get-cells m.entries a ∙ none_or _ (λ some. absurd (
          let below : IsLeBy nat_cmp c.0 a = subst (λ o. IfSome o (λ e. IsLeBy nat_cmp e.0 a)) first (h.2 a (not_gt from a low, tt) some) in
          omega (arith, le_from_not_gt c.0 a below)));
    }

apart_at : (a b : ℕ) → b < a → is_at (nat_cmp a) b ≡ false
apart_at a b h = search rules

-- an address past memory has no byte
past_memory : (cells : List (ℕ × ℕ)) (a : ℕ) → All (λ a. a < 65536) (keys_of cells) → 65536 ≤ a → lookup (is_at (nat_cmp a)) cells ≡ None
past_memory [] a h high = refl
past_memory (c ∷ cells) a h high =
    let low = All-head (λ a. a < 65536) c.0 (keys_of cells) h in
    rw (apart_at a c.0 (omega arith)) (past_memory cells a (All-tail (λ a. a < 65536) c.0 (keys_of cells) h) high)

pub none_past_memory : (cells : List (ℕ × ℕ)) (from : ℕ) → AreCells cells → 65536 ≤ from → NoByteFrom (maps.from_entries cells) from
none_past_memory cells from h high a low = get-cells cells a ∙ past_memory cells a h.addresses (omega arith)

pub none_of_range : (m : BTreeMap ℕ ℕ) (from : ℕ) (range : List (ℕ × ℕ)) → IsRangeOf nat_cmp (Included from) Unbounded m range → range ≡ [] → NoByteFrom (maps.from_entries m.entries) from
none_of_range m from range h is a low = get-cells m.entries a ∙ h.5 is a (not_gt from a low, tt)
