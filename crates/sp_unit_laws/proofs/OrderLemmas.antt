-- Lines by rising line.
use Rattle.std.proofs.Common.{◌≡◌, ◌≢◌, ℕ, suc, ◌<◌, ◌≤◌, Bool, true, false, cond, List, [], ◌∷◌, map, Contains, Option, Some, None, refl, sym, ap, subst, ◌∙◌, arith}
use Rattle.std.specs.Prelude.{nat_lt}
use Rattle.std.specs.List.{filter_map, cons_option}
use Rattle.std.proofs.lemmas.Bool.Decides.{nat_tests}
use Rattle.sp_asm.specs.declared.listing.Item.{Item}
use Rattle.sp_note.specs.Parts.{NoteLine}
use Rattle.sp_unit.specs.Lines.{Entry, Statement, Annotation, line_of, item_in, note_in, placed, merged}
use Rattle.sp_unit.proofs.UnitListLemmas.{Each, Pairwise, each_weaker, rising_pairs, rising_from_pairs}
use Rattle.sp_unit.proofs.UnitMergeLemmas.{merged_items, merged_notes}
use Rattle.sp_unit_laws.specs.Order.{LinesAreMerged}

-- ---- What holds of statements and of annotation lines holds of all lines

module _ (P : Entry → Type 0) where
  of_notes : (notes : List NoteLine) → Each (λ n. P (Annotation n)) notes → Each P (map Annotation notes)
  of_notes [] h = tt
  of_notes (n ∷ notes) h = (h.0, of_notes notes h.1)

  of_placed : (item : Item) (later : List NoteLine → List Entry) → P (Statement item) → ((ns : List NoteLine) → Each (λ n. P (Annotation n)) ns → Each P (later ns))
      → (notes : List NoteLine) → Each (λ n. P (Annotation n)) notes → Each P (placed item later notes)
  of_placed item later here below [] h = (here, below [] tt)
  of_placed item later here below (n ∷ notes) h = by (nat_lt item.line.0 n.line) (of_placed item later here below notes h.1)
    where
      by : (b : Bool) → Each P (placed item later notes) → Each P (cond b (Statement item ∷ later (n ∷ notes)) (Annotation n ∷ placed item later notes))
      by true rest = (here, below (n ∷ notes) h)
      by false rest = (h.0, rest)

  of_merged : (items : List Item) (notes : List NoteLine) → Each (λ i. P (Statement i)) items → Each (λ n. P (Annotation n)) notes → Each P (merged items notes)
  of_merged [] notes h k = of_notes notes k
  of_merged (item ∷ items) notes h k = of_placed item (merged items) h.0 (λ ns each. of_merged items ns h.1 each) notes k

-- ---- They rise

abbrev Below : Entry → Entry → Type 0
Below e f = line_of e < line_of f

lt_from : (a b : ℕ) → nat_lt a b ≡ true → a < b
lt_from a b h = grind (arith, nat_tests)

le_from : (a b : ℕ) → nat_lt a b ≡ false → b ≤ a
le_from a b h = grind (arith, nat_tests)

rising_notes : (notes : List NoteLine) → Pairwise (λ (m n : NoteLine). m.line < n.line) notes → Pairwise Below (map Annotation notes)
rising_notes [] h = tt
rising_notes (n ∷ notes) h = (of_notes (λ e. n.line < line_of e) notes h.0, rising_notes notes h.1)

-- no line of these statements is that of one of these annotation lines
abbrev NoneBoth : List Item → List NoteLine → Type 0
NoneBoth items notes = Each (λ (i : Item). Each (λ (n : NoteLine). i.line.0 ≢ n.line) notes) items

module _ (item : Item) (items : List Item) (below : Each (λ (i : Item). item.line.0 < i.line.0) items)
    (later : (ns : List NoteLine) → Pairwise (λ (m n : NoteLine). m.line < n.line) ns → NoneBoth items ns → Pairwise Below (merged items ns)) where
  rising_placed : (notes : List NoteLine) → Pairwise (λ (m n : NoteLine). m.line < n.line) notes → Each (λ (n : NoteLine). item.line.0 ≢ n.line) notes → NoneBoth items notes → Pairwise Below (placed item (merged items) notes)
  rising_placed [] h apart none = (of_merged (λ e. item.line.0 < line_of e) items [] below tt, later [] tt none)
  rising_placed (n ∷ notes) h apart none =
      by (nat_lt item.line.0 n.line) refl (rising_placed notes h.1 apart.1 (each_weaker (λ (i : Item). Each (λ (m : NoteLine). i.line.0 ≢ m.line) (n ∷ notes)) (λ (i : Item). Each (λ (m : NoteLine). i.line.0 ≢ m.line) notes) (λ i k. k.1) items none))
    where
      by : (b : Bool) → nat_lt item.line.0 n.line ≡ b → Pairwise Below (placed item (merged items) notes) → Pairwise Below (cond b (Statement item ∷ merged items (n ∷ notes)) (Annotation n ∷ placed item (merged items) notes))
      by true is rest =
          let lt = lt_from item.line.0 n.line is in (
            of_merged (λ e. item.line.0 < line_of e) items (n ∷ notes) below (lt, each_weaker (λ (m : NoteLine). n.line < m.line) (λ (m : NoteLine). item.line.0 < m.line) (λ m more. omega (arith, lt, more)) notes h.0),
            later (n ∷ notes) h none,
          )
      by false is rest =
          let le = le_from item.line.0 n.line is in
          let differ : item.line.0 ≢ n.line = apart.0 in
          let lt : n.line < item.line.0 = omega (arith, le, differ) in (
            of_placed (λ e. n.line < line_of e) item (merged items) lt
                (λ ns each. of_merged (λ e. n.line < line_of e) items ns (each_weaker (λ (i : Item). item.line.0 < i.line.0) (λ (i : Item). n.line < i.line.0) (λ i more. omega (arith, lt, more)) items below) each) notes h.0,
            rest,
          )

rising_merged : (items : List Item) (notes : List NoteLine) → Pairwise (λ (i j : Item). i.line.0 < j.line.0) items → Pairwise (λ (m n : NoteLine). m.line < n.line) notes → NoneBoth items notes → Pairwise Below (merged items notes)
rising_merged [] notes h k none = rising_notes notes k
rising_merged (item ∷ items) notes h k none = rising_placed item items h.0 (λ ns rise apart. rising_merged items ns h.1 rise apart) notes k none.0 none.1

-- ---- There is one such list

each_contained : {X : Type 0} (P : X → Type 0) (xs : List X) → ((x : X) → Contains xs x → P x) → Each P xs
each_contained P [] h = tt
each_contained P (x ∷ xs) h = (h x (0, omega arith, refl), each_contained P xs (λ y among. h y (suc among.0, omega (arith, among.1), among.2)))

first_of : {X : Type 0} (f : Entry → Option X) (P : Entry → Type 0) (Q : X → Type 0) → ((e : Entry) (x : X) → f e ≡ Some x → P e → Q x) → (es : List Entry) (x : X) (rest : List X) → Each P es → filter_map f es ≡ x ∷ rest → Q x
first_of f P Q g [] x rest h e = absurd cc
first_of {X} f P Q g (d ∷ es) x rest h e = by (f d) refl e (first_of f P Q g es x rest h.1)
  where
    by : (o : Option X) → f d ≡ o → cons_option o (filter_map f es) ≡ x ∷ rest → (filter_map f es ≡ x ∷ rest → Q x) → Q x
    by None is k again = again k
    by (Some y) is k again = let same : y ≡ x = cc in subst Q same (g d y is h.0)

item_line : (a : ℕ) (e : Entry) (i : Item) → item_in e ≡ Some i → a < line_of e → a < i.line.0
item_line a (Statement j) i is lt = let same : j ≡ i = cc in subst (λ (x : Item). a < x.line.0) same lt
item_line a (Annotation n) i is lt = absurd cc

note_line : (a : ℕ) (e : Entry) (n : NoteLine) → note_in e ≡ Some n → a < line_of e → a < n.line
note_line a (Statement j) n is lt = absurd cc
note_line a (Annotation m) n is lt = let same : m ≡ n = cc in subst (λ (x : NoteLine). a < x.line) same lt

-- a statement first in one list, an annotation line first in the other
crossed : (i : Item) (n : NoteLine) (es fs : List Entry) → Each (Below (Statement i)) es → Each (Below (Annotation n)) fs
    → i ∷ filter_map item_in es ≡ filter_map item_in fs → filter_map note_in es ≡ n ∷ filter_map note_in fs → ⊥
crossed i n es fs h k items notes =
    let one : i.line.0 < n.line = first_of note_in (Below (Statement i)) (λ (m : NoteLine). i.line.0 < m.line) (λ e m is lt. note_line i.line.0 e m is lt) es n (filter_map note_in fs) h notes in
    let other : n.line < i.line.0 = first_of item_in (Below (Annotation n)) (λ (j : Item). n.line < j.line.0) (λ e j is lt. item_line n.line e j is lt) fs i (filter_map item_in es) k (sym items) in
    omega (arith, one, other)

head_is : {X : Type 0} (x y : X) (xs ys : List X) → x ∷ xs ≡ y ∷ ys → x ≡ y
head_is x y xs ys e = cc

tail_is : {X : Type 0} (x y : X) (xs ys : List X) → x ∷ xs ≡ y ∷ ys → xs ≡ ys
tail_is x y xs ys e = cc

one_list : (es fs : List Entry) → Pairwise Below es → Pairwise Below fs → filter_map item_in es ≡ filter_map item_in fs → filter_map note_in es ≡ filter_map note_in fs → es ≡ fs
one_list [] [] h k items notes = refl
one_list [] (Statement j ∷ fs) h k items notes = absurd cc
one_list [] (Annotation n ∷ fs) h k items notes = absurd cc
one_list (Statement i ∷ es) [] h k items notes = absurd cc
one_list (Annotation m ∷ es) [] h k items notes = absurd cc
one_list (Statement i ∷ es) (Statement j ∷ fs) h k items notes =
    ap (λ x. Statement x ∷ es) (head_is i j (filter_map item_in es) (filter_map item_in fs) items)
    ∙ ap (λ l. Statement j ∷ l) (one_list es fs h.1 k.1 (tail_is i j (filter_map item_in es) (filter_map item_in fs) items) notes)
one_list (Annotation m ∷ es) (Annotation n ∷ fs) h k items notes =
    ap (λ x. Annotation x ∷ es) (head_is m n (filter_map note_in es) (filter_map note_in fs) notes)
    ∙ ap (λ l. Annotation n ∷ l) (one_list es fs h.1 k.1 items (tail_is m n (filter_map note_in es) (filter_map note_in fs) notes))
one_list (Statement i ∷ es) (Annotation n ∷ fs) h k items notes = absurd (crossed i n es fs h.0 k.0 items notes)
one_list (Annotation m ∷ es) (Statement j ∷ fs) h k items notes = absurd (crossed j m fs es k.0 h.0 (sym items) (sym notes))

pub lines_are_merged : LinesAreMerged
lines_are_merged = record {
  items = merged_items;
  notes = merged_notes;
  rising = λ items notes h.
      rising_from_pairs line_of (merged items notes)
      (rising_merged items notes (rising_pairs (λ (i : Item). i.line.0) items h.items_rise) (rising_pairs (λ (n : NoteLine). n.line) notes h.notes_rise)
      (each_contained (λ (i : Item). Each (λ (n : NoteLine). i.line.0 ≢ n.line) notes) items (λ i among. each_contained (λ (n : NoteLine). i.line.0 ≢ n.line) notes (λ n also. h.apart i n among also))));
  one = λ entries others rise also items notes. one_list entries others (rising_pairs line_of entries rise) (rising_pairs line_of others also) items notes;
}
