-- What holds of all lines of a source holds of those of a routine.
use Rattle.std.proofs.Common.{◌≡◌, ℕ, Bool, true, false, cond, ◌&&◌, ◌||◌, List, [], ◌∷◌, ◌++◌, Option, Some, None, refl, sym, ap, subst, ◌∙◌, arith}
use Rattle.std.specs.Prelude.{nat_eq}
use Rattle.std.specs.Cmp.Lexicographic.{same_text}
use Rattle.std.specs.List.{filter_map, cons_option, list_any}
use Rattle.std.proofs.lemmas.List.Elements.{filter_map-append}
use Rattle.std.proofs.lemmas.Bool.Decides.{nat_tests}
use Rattle.sp_asm.specs.declared.listing.Item.{Item}
use Rattle.sp_asm.specs.declared.listing.ItemKind.{ItemKind}
use Rattle.sp_asm.specs.declared.listing.ItemKind.TheVariants as kind
use Rattle.sp_unit.specs.Lines.{Entry, Statement, Annotation, item_in, is_instr, before}
use Rattle.sp_unit.specs.Faults.{is_label, is_label_named}
use Rattle.sp_unit.specs.SourceUnits.{Raw, raws, assert_in, Coded, instr_in, coded, Begun}
use Rattle.sp_unit.proofs.UnitListLemmas.{Each, Pairwise, each_append, each_front, each_back, pairwise_front, pairwise_back}
use Rattle.sp_unit.proofs.UnitBodyLemmas.{before_front}
use Rattle.sp_unit.proofs.UnitFoundLemmas.{BeginsAt}
use Rattle.sp_unit.proofs.UnitSourceLemmas.{FollowOn}

module _ {X : Type 0} (h : Entry → Option X) (es : List Entry) (b : Begun) (at : BeginsAt es b) where
  -- the lines above the routine with its own, and the lines below
  split : filter_map h es ≡ filter_map h at.front ++ (cons_option (h (Annotation at.note)) [] ++ filter_map h b.below)
  split =
      ap (filter_map h) at.whole ∙ filter_map-append h at.front (Annotation at.note ∷ b.below)
      ∙ ap (λ l. filter_map h at.front ++ l) (filter_map-append h (Annotation at.note ∷ []) b.below)

  pub below_each : (P : X → Type 0) → Each P (filter_map h es) → Each P (filter_map h b.below)
  below_each P k =
      each_back P (cons_option (h (Annotation at.note)) []) (filter_map h b.below)
      (each_back P (filter_map h at.front) (cons_option (h (Annotation at.note)) [] ++ filter_map h b.below) (subst (Each P) split k))

  below_pairs : (R : X → X → Type 0) → Pairwise R (filter_map h es) → Pairwise R (filter_map h b.below)
  below_pairs R k =
      pairwise_back R (cons_option (h (Annotation at.note)) []) (filter_map h b.below)
      (pairwise_back R (filter_map h at.front) (cons_option (h (Annotation at.note)) [] ++ filter_map h b.below) (subst (Pairwise R) split k))

  module _ (test : Entry → Bool) where
    front_is : filter_map h b.below ≡ filter_map h (before test b.below) ++ filter_map h (before_front test b.below).0
    front_is = ap (filter_map h) (before_front test b.below).1 ∙ filter_map-append h (before test b.below) (before_front test b.below).0

    pub piece_each : (P : X → Type 0) → Each P (filter_map h es) → Each P (filter_map h (before test b.below))
    piece_each P k = each_front P (filter_map h (before test b.below)) (filter_map h (before_front test b.below).0) (subst (Each P) front_is (below_each P k))

    pub piece_pairs : (R : X → X → Type 0) → Pairwise R (filter_map h es) → Pairwise R (filter_map h (before test b.below))
    piece_pairs R k = pairwise_front R (filter_map h (before test b.below)) (filter_map h (before_front test b.below).0) (subst (Pairwise R) front_is (below_pairs R k))

-- ---- Items

follow_back : (xs ys : List Item) → FollowOn (xs ++ ys) → FollowOn ys
follow_back [] ys h = h
follow_back (x ∷ xs) ys h = follow_back xs ys h.1

pub below_follows : (es : List Entry) (b : Begun) → BeginsAt es b → FollowOn (filter_map item_in es) → FollowOn (filter_map item_in b.below)
below_follows es b at h = follow_back (filter_map item_in at.front) (filter_map item_in b.below) (subst FollowOn (split item_in es b at) h)

instr_of : (P : Item → Type 0) (item : Item) (k : ItemKind) (acc : List Raw) → P item → Each (λ (c : Coded). P c.item) (instr_in item k acc)
instr_of P item (kind.Instr i) acc h = (h, tt)
instr_of P item kind.Label acc h = tt
instr_of P item kind.Bytes acc h = tt
instr_of P item kind.Space acc h = tt
instr_of P item kind.Org acc h = tt
instr_of P item kind.Other acc h = tt

-- what holds of each statement holds of each instruction
pub coded_of : (P : Item → Type 0) (acc : List Raw) (lines : List Entry) → Each P (filter_map item_in lines) → Each (λ (c : Coded). P c.item) (coded acc lines)
coded_of P acc [] h = tt
coded_of P acc (Statement item ∷ lines) h =
    each_append (λ (c : Coded). P c.item) (instr_in item item.kind acc) (coded (cond (is_instr item.kind) [] (acc ++ [])) lines) (instr_of P item item.kind acc h.0)
    (coded_of P (cond (is_instr item.kind) [] (acc ++ [])) lines h.1)
coded_of P acc (Annotation n ∷ lines) h = coded_of P (acc ++ raws assert_in (Annotation n ∷ [])) lines h

-- ---- Labels

and_true : (a b : Bool) → (a && b) ≡ true → (a ≡ true) × (b ≡ true)
and_true true b h = (refl, h)
and_true false b h = absurd cc

label_named : (name : List ℕ) (label : Option (List ℕ)) → is_label_named name label ≡ true → label ≡ Some name
label_named name None h = absurd cc
label_named name (Some other) h = ap (λ n. Some n) (same_text other name (sym h))

eq_from : (a b : ℕ) → nat_eq a b ≡ true → a ≡ b
eq_from a b h = grind (arith, nat_tests)

-- where each label has its address, a label of these lines has that of its line
pub labelled : (value : List ℕ → Option ℕ) (name : List ℕ) (a : ℕ) (lines : List Entry) → Each (λ (i : Item). (n : List ℕ) → i.label ≡ Some n → value n ≡ Some i.addr) (filter_map item_in lines)
    → list_any (is_label name a) lines ≡ true → value name ≡ Some a
labelled value name a [] h k = absurd cc
labelled value name a (Annotation n ∷ lines) h k = labelled value name a lines h k
labelled value name a (Statement item ∷ lines) h k = by (is_label name a (Statement item)) refl k (labelled value name a lines h.1)
  where
    by : (t : Bool) → is_label name a (Statement item) ≡ t → (t || list_any (is_label name a) lines) ≡ true → (list_any (is_label name a) lines ≡ true → value name ≡ Some a) → value name ≡ Some a
    by true e g again =
        let both = and_true (nat_eq item.addr a) (is_label_named name item.label) e in
        h.0 name (label_named name item.label both.1) ∙ ap (λ n. Some n) (eq_from item.addr a both.0)
    by false e g again = again g
