-- Putting the bytes of a record into an image, one after another.
use Rattle.std.proofs.Common.{◌≡◌, ℕ, ◌+◌, ◌<◌, ◌≤◌, Bool, true, false, refl, cond, List, ◌∷◌, length, get_or, drop, sym, ap, ◌∙◌, Option, Some, None, inl, inr, rules, true≢false, add-one, drop-cons}
use Rattle.std.proofs.Math.ListN.{drop_of_length-le}
use Rattle.std.specs.Option.{is_some}
use Rattle.std.specs.Ordering.{nat_cmp}
use Rattle.std.specs.Cmp.{nat_cmp_total}
use Rattle.std.specs.Ordering.{eq_by_cmp}
use Rattle.std.proofs.lemmas.Bool.{cases_Bool, cond_both}
use Rattle.std.specs.FinMap as maps
use Rattle.std.specs.FinMap.{nat_cmp-IsAntisymmetric}
use Rattle.sp_base.specs.Image.{ImageMap}
use Rattle.sp_base.specs.Cells.{placed, Keeps, IsAdded}

next_byte : (bytes : List ℕ) (i : ℕ) → i < length bytes → drop i bytes ≡ get_or bytes i 0 ∷ drop (i + 1) bytes
next_byte bytes i lt = rw add-one (drop-cons bytes i 0 lt)

module _ (bytes : List ℕ) (i a : ℕ) (image : ImageMap) (total : Option ImageMap) (lt : i < length bytes) (so_far : placed a (drop i bytes) image ≡ total) where
  pub placed_on : maps.contains_key image a ≡ false → placed (a + 1) (drop (i + 1) bytes) (maps.insert image a (get_or bytes i 0)) ≡ total
  unfolding placed
  placed_on free =
      ap (λ b. cond b None (placed (a + 1) (drop (i + 1) bytes) (maps.insert image a (get_or bytes i 0)))) (sym free)
      ∙ ap (λ (x : List ℕ). placed a x image) (sym (next_byte bytes i lt)) ∙ so_far

  pub placed_none : maps.contains_key image a ≡ true → total ≡ None
  unfolding placed
  placed_none taken =
      sym so_far ∙ ap (λ (x : List ℕ). placed a x image) (next_byte bytes i lt)
      ∙ ap (λ b. cond b None (placed (a + 1) (drop (i + 1) bytes) (maps.insert image a (get_or bytes i 0)))) taken

pub placed_all : (bytes : List ℕ) (i a : ℕ) (image : ImageMap) (total : Option ImageMap) → length bytes ≤ i → placed a (drop i bytes) image ≡ total → total ≡ Some image
unfolding placed
placed_all bytes i a image total all so_far = sym so_far ∙ ap (λ (x : List ℕ). placed a x image) (drop_of_length-le bytes all)

same_key : (q a : ℕ) → eq_by_cmp nat_cmp q a ≡ true → q ≡ a
same_key q a e = search rules

-- a byte at a new address leaves those that are there
pub keeps_more : (old image : ImageMap) (a byte : ℕ) → Keeps old image → maps.contains_key image a ≡ false → Keeps old (maps.insert image a byte)
keeps_more old image a byte keeps free q b there =
    elim (cases_Bool (eq_by_cmp nat_cmp q a)) [
      | inl same ↦
          let there_too : maps.contains_key image a ≡ true = ap is_some (ap (maps.get image) (sym (same_key q a same)) ∙ keeps q b there) in
          absurd (true≢false (sym there_too ∙ free))
      | inr other ↦ maps.get-insert nat_cmp_total image a byte q ∙ ap (λ t. cond t (Some byte) (maps.get image q)) other ∙ keeps q b there
    ]

-- a byte that took the place of another, and gave it back
pub put_back : (image : ImageMap) (a byte old : ℕ) → maps.get image a ≡ Some old → maps.insert (maps.insert image a byte) a old ≡ image
put_back image a byte old there = maps.same_map nat_cmp_total nat_cmp-IsAntisymmetric _ _ (λ q.
    maps.get-insert nat_cmp_total (maps.insert image a byte) a old q ∙ ap (cond (eq_by_cmp nat_cmp q a) (Some old)) (maps.get-insert nat_cmp_total image a byte q)
    ∙ cond_both (eq_by_cmp nat_cmp q a) (Some old) (cond (eq_by_cmp nat_cmp q a) (Some byte) (maps.get image q)) (λ o. o ≡ maps.get image q)
    (λ same. sym (ap (maps.get image) (same_key q a same) ∙ there))
    (λ other. ap (λ b. cond b (Some byte) (maps.get image q)) other))

pub no_key : (o : Option ℕ) → ((x : ℕ) → o ≡ Some x → ⊥) → is_some o ≡ false
no_key None h = refl
no_key (Some x) h = absurd (h x refl)

module _ (old new : ImageMap) (a byte : ℕ) where
  pub added_none : (added : Bool) → added ≡ false → IsAdded added old a byte new → (maps.contains_key old a ≡ true) × (new ≡ old)
  added_none false e h = h
  added_none true e h = absurd cc

  pub added_one : (added : Bool) → added ≡ true → IsAdded added old a byte new → (maps.contains_key old a ≡ false) × (new ≡ maps.insert old a byte)
  added_one true e h = h
  added_one false e h = absurd cc
