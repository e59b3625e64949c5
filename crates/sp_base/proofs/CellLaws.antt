-- Bytes that are put into an image one after another, none of them where one is already.
use Rattle.std.proofs.Common.{◌≡◌, ◌≢◌, ℕ, ◌+◌, false, cond, List, [], ◌∷◌, ◌++◌, map, refl, sym, ap, subst, ◌∙◌, inl, inr, Option, Some, None, append_assoc}
use Rattle.std.specs.Prelude.{nat_eq, is_some, unwrap_or}
use Rattle.std.specs.List.{IsDistinct, AllByRecursion}
use Rattle.std.specs.Ordering.{nat_cmp}
use Rattle.std.specs.Cmp.{nat_cmp_total}
use Rattle.std.specs.FinMap as maps
use Rattle.std.specs.FinMap.{find, nat_cmp-IsAntisymmetric}
use Rattle.std.proofs.lemmas.Bool.{cases_Bool, eqb-false, ne_eqb}
use Rattle.std.proofs.lemmas.List.{append-nil}
use Rattle.std.proofs.lemmas.List.Concat.{flat_map-append}
use Rattle.sp_base.specs.Image.{ImageMap}
use Rattle.sp_base.specs.Cells.{Data, cells_at, cells_of}
use Rattle.sp_base.specs.Cells.{placed}
use Rattle.sp_base.proofs.FindLaws.{Cells, here, other, some_is_not_none}

abbrev addresses : Cells → List ℕ
addresses = map (λ c. c.0)

-- no address stands twice
abbrev pub Apart : Cells → Type 0
Apart cells = IsDistinct nat_eq (addresses cells)

module _ (P : ℕ → Type 0) where
  all_middle : (xs : Cells) (c : ℕ × ℕ) (ys : Cells) → AllByRecursion P (addresses (xs ++ c ∷ ys)) → P c.0
  all_middle [] c ys h = h.0
  all_middle (x ∷ xs) c ys h = all_middle xs c ys h.1

  all_front : (xs ys : Cells) → AllByRecursion P (addresses (xs ++ ys)) → AllByRecursion P (addresses xs)
  all_front [] ys h = tt
  all_front (x ∷ xs) ys h = (h.0, all_front xs ys h.1)

  all_push : (xs : Cells) (c : ℕ × ℕ) → AllByRecursion P (addresses xs) → P c.0 → AllByRecursion P (addresses (xs ++ c ∷ []))
  all_push [] c h p = (p, tt)
  all_push (x ∷ xs) c h p = (h.0, all_push xs c h.1 p)

pub apart_front : (xs ys : Cells) → Apart (xs ++ ys) → Apart xs
unfolding IsDistinct
apart_front [] ys h = tt
apart_front (x ∷ xs) ys h = (all_front (λ y. nat_eq x.0 y ≡ false) xs ys h.0, apart_front xs ys h.1)

apart_new : (xs : Cells) (c : ℕ × ℕ) (ys : Cells) → Apart (xs ++ c ∷ ys) → find nat_cmp c.0 xs ≡ None
unfolding IsDistinct
apart_new [] c ys h = refl
apart_new (x ∷ xs) c ys h =
    other c.0 x xs (λ e. eqb-false x.0 c.0 (all_middle (λ y. nat_eq x.0 y ≡ false) xs c ys h.0) (sym e)) ∙ apart_new xs c ys h.1

apart_push : (xs : Cells) (c : ℕ × ℕ) → Apart xs → find nat_cmp c.0 xs ≡ None → Apart (xs ++ c ∷ [])
unfolding IsDistinct
apart_push [] c h none = (tt, tt)
apart_push (x ∷ xs) c h none =
    let ne : c.0 ≢ x.0 = λ e. some_is_not_none x.1 _ (here x xs) (subst (λ k. find nat_cmp k (x ∷ xs) ≡ None) e none) in
    (all_push (λ y. nat_eq x.0 y ≡ false) xs c h.0 (ne_eqb x.0 c.0 (λ e. ne (sym e))), apart_push xs c h.1 (sym (other c.0 x xs ne) ∙ none))

abbrev pub map_of : Cells → ImageMap
map_of = maps.from_entries {R = nat_cmp}

free : (xs : Cells) (a : ℕ) → find nat_cmp a xs ≡ None → maps.contains_key (map_of xs) a ≡ false
free xs a none = ap is_some (maps.get-from_entries nat_cmp_total xs a ∙ none)

push_is : (xs : Cells) (a byte : ℕ) → find nat_cmp a xs ≡ None → maps.insert (map_of xs) a byte ≡ map_of (xs ++ (a, byte) ∷ [])
push_is xs a byte none = sym (maps.from_entries_push nat_cmp_total nat_cmp-IsAntisymmetric xs a byte none)

none_of : (o : Option ℕ) → is_some o ≡ false → o ≡ None
none_of None h = refl
none_of (Some x) h = absurd cc

pub some_map : (image : ImageMap) → ◌≡◌ {A = Option ImageMap} (Some image) None → ⊥
some_map image e = cc

-- bytes at new addresses are placed
pub placed_apart : (cells : Cells) (a : ℕ) (bytes : List ℕ) → Apart (cells ++ cells_at a bytes) → placed a bytes (map_of cells) ≡ Some (map_of (cells ++ cells_at a bytes))
unfolding placed
placed_apart cells a [] h = ap (λ (x : Cells). Some (map_of x)) (sym (append-nil cells))
placed_apart cells a (byte ∷ bytes) h =
    let none = apart_new cells (a, byte) (cells_at (a + 1) bytes) h in
    let joined = append_assoc cells ((a, byte) ∷ []) (cells_at (a + 1) bytes) in
    ap (λ b. cond b None (placed (a + 1) bytes (maps.insert (map_of cells) a byte))) (free cells a none)
    ∙ ap (placed (a + 1) bytes) (push_is cells a byte none)
    ∙ placed_apart (cells ++ (a, byte) ∷ []) (a + 1) bytes (subst Apart (sym joined) h)
    ∙ ap (λ (x : Cells). Some (map_of x)) joined

-- bytes that were placed had new addresses
pub placed_some : (cells : Cells) (a : ℕ) (bytes : List ℕ) (image : ImageMap) → Apart cells → placed a bytes (map_of cells) ≡ Some image → Apart (cells ++ cells_at a bytes) × (image ≡ map_of (cells ++ cells_at a bytes))
unfolding placed
placed_some cells a [] image apart is =
    (subst Apart (sym (append-nil cells)) apart, ap (λ o. unwrap_or o image) (sym is) ∙ ap map_of (sym (append-nil cells)))
placed_some cells a (byte ∷ bytes) image apart is =
    elim (cases_Bool (maps.contains_key (map_of cells) a)) [
      | inl taken ↦ absurd (some_map image (sym is ∙ ap (λ b. cond b None (placed (a + 1) bytes (maps.insert (map_of cells) a byte))) taken))
      | inr not_taken ↦
          let none : find nat_cmp a cells ≡ None = none_of _ (ap is_some (sym (maps.get-from_entries nat_cmp_total cells a)) ∙ not_taken) in
          let joined = append_assoc cells ((a, byte) ∷ []) (cells_at (a + 1) bytes) in
          let rest = placed_some (cells ++ (a, byte) ∷ []) (a + 1) bytes image (apart_push cells (a, byte) apart none)
          (ap (placed (a + 1) bytes) (sym (push_is cells a byte none)) ∙ ap (λ b. cond b None (placed (a + 1) bytes (maps.insert (map_of cells) a byte))) (sym not_taken) ∙ is) in
          (subst Apart joined rest.0, rest.1 ∙ ap map_of joined)
    ]

-- the cells of one more record
pub cells_more : (records : List Data) (d : Data) → cells_of (records ++ d ∷ []) ≡ cells_of records ++ cells_at d.address d.bytes
cells_more records d = flat_map-append (λ (e : Data). cells_at e.address e.bytes) records (d ∷ []) ∙ ap (λ (x : Cells). cells_of records ++ x) (append-nil (cells_at d.address d.bytes))
