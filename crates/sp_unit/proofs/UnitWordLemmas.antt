-- Annotations without a word of the stack have none after their names are resolved.
use Rattle.std.proofs.Common.{◌≡◌, ℕ, ◌+◌, Bool, true, false, ◌||◌, List, ◌∷◌, Some, refl, ap, subst}
use Rattle.std.specs.Option.{option_and_then}
use Rattle.sp_model.specs.Note as model
use Rattle.sp_model.specs.Note.{Moment, Quantity, Note}
use Rattle.sp_note.specs.RawNotes.{RawNote, Literal, Constant, Location, Pair, Cell, StackWord, Total, Named, Element, Address, Length, Negative, Parity, Operate, Compare, Not, Connect, Quantify}
use Rattle.sp_prog.specs.declared.area.Area.{Area}
use Rattle.sp_prog.specs.declared.area.AreaKind.{AreaKind}
use Rattle.sp_prog.specs.declared.area.AreaKind.TheVariants as kind
use Rattle.sp_prog.specs.Rules as rules
use Rattle.sp_unit.specs.Resolution.{Meanings, Bound, area_named, content, element, pair, quantified, number, condition}
use Rattle.sp_unit.specs.Words.{has_word}
use Rattle.sp_unit.proofs.UnitPartsLemmas.{Stands, a_bound_name, an_area, a_number, named_is, element_is, mapped, chained, both_given}

abbrev HasNone : Quantity → Type 0
HasNone q = rules.has_word q ≡ false

abbrev NoteHasNone : Note → Type 0
NoteHasNone p = rules.note_has_word p ≡ false

or_false : (a b : Bool) → (a || b) ≡ false → (a ≡ false) × (b ≡ false)
or_false true b h = absurd cc
or_false false b h = (refl, h)

both_false : (a b : Bool) → a ≡ false → b ≡ false → (a || b) ≡ false
both_false true b h k = absurd cc
both_false false b h k = k

content_words : (moment : Moment) (k : AreaKind) (a : ℕ) (q : Quantity) → content moment k a ≡ Some q → HasNone q
content_words moment kind.Byte a q e = let is : model.Cell moment (model.Literal a) ≡ q = cc in subst HasNone is refl
content_words moment kind.Word a q e =
    let is : model.Operate model.Add (model.Cell moment (model.Literal a)) (model.Operate model.Multiply (model.Literal 256) (model.Cell moment (model.Literal (a + 1)))) ≡ q = cc in
    subst HasNone is refl
content_words moment kind.Bytes a q e = absurd cc

module _ (m : Meanings) where
  named_words : (bound : Bound) (moment : Moment) (name : List ℕ) (q : Quantity) → Stands m bound moment name q → HasNone q
  named_words bound moment name q (a_bound_name is now same) = subst HasNone same refl
  named_words bound moment name q (an_area a is found same) = content_words moment a.kind a.addr q same
  named_words bound moment name q (a_number n is found same) = subst HasNone same refl

  number_words : (bound : Bound) (raw : RawNote) (q : Quantity) → has_word raw ≡ false → number m bound raw ≡ Some q → HasNone q
  number_words bound (Literal n) q h e = let is : model.Literal n ≡ q = cc in subst HasNone is refl
  number_words bound (Constant truth) q h e = absurd cc
  number_words bound (Location moment x) q h e = let is : model.Location moment x ≡ q = cc in subst HasNone is refl
  number_words bound (Pair moment p) q h e = let is : model.Pair moment p ≡ q = cc in subst HasNone is refl
  number_words bound (Cell moment x) q h e = let from = mapped (model.Cell moment) (number m bound x) q e in subst HasNone from.is (number_words bound x from.from h from.given)
  number_words bound (StackWord k) q h e = absurd cc
  number_words bound (Total moment x y) q h e =
      let from = both_given (model.Total moment) (number m bound x) (number m bound y) q e in
      let parts = or_false (has_word x) (has_word y) h in
      subst HasNone from.is
      (both_false (rules.has_word from.left) (rules.has_word from.right) (number_words bound x from.left parts.0 from.left_given) (number_words bound y from.right parts.1 from.right_given))
  number_words bound (Named moment name) q h e = named_words bound moment name q (named_is m bound moment name q e)
  number_words bound (Element moment name x) q h e =
      let from = chained (λ (a : Area). option_and_then (element moment a.kind a.addr) (number m bound x)) (area_named m bound name) q e in
      let index = chained (element moment from.from.kind from.from.addr) (number m bound x) q from.is in
      subst HasNone (element_is moment from.from.kind from.from.addr index.from q index.is) (number_words bound x index.from h index.given)
  number_words bound (Address name) q h e = let from = mapped (λ (a : Area). model.Literal a.addr) (area_named m bound name) q e in subst HasNone from.is refl
  number_words bound (Length name) q h e = let from = mapped (λ (a : Area). model.Literal a.len) (area_named m bound name) q e in subst HasNone from.is refl
  number_words bound (Negative x) q h e = let from = mapped model.Negative (number m bound x) q e in subst HasNone from.is (number_words bound x from.from h from.given)
  number_words bound (Parity x) q h e = let from = mapped model.Parity (number m bound x) q e in subst HasNone from.is (number_words bound x from.from h from.given)
  number_words bound (Operate o x y) q h e =
      let from = both_given (model.Operate o) (number m bound x) (number m bound y) q e in
      let parts = or_false (has_word x) (has_word y) h in
      subst HasNone from.is
      (both_false (rules.has_word from.left) (rules.has_word from.right) (number_words bound x from.left parts.0 from.left_given) (number_words bound y from.right parts.1 from.right_given))
  number_words bound (Compare c x y) q h e = absurd cc
  number_words bound (Not p) q h e = absurd cc
  number_words bound (Connect c p r) q h e = absurd cc
  number_words bound (Quantify k name x y p) q h e = absurd cc

  pub condition_words : (bound : Bound) (raw : RawNote) (p : Note) → has_word raw ≡ false → condition m bound raw ≡ Some p → NoteHasNone p
  condition_words bound (Constant truth) p h e = let is : model.Constant truth ≡ p = cc in subst NoteHasNone is refl
  condition_words bound (Compare c x y) p h e =
      let from = both_given (model.Compare c) (number m bound x) (number m bound y) p e in
      let parts = or_false (has_word x) (has_word y) h in
      subst NoteHasNone from.is
      (both_false (rules.has_word from.left) (rules.has_word from.right) (number_words bound x from.left parts.0 from.left_given) (number_words bound y from.right parts.1 from.right_given))
  condition_words bound (Not r) p h e = let from = mapped model.Not (condition m bound r) p e in subst NoteHasNone from.is (condition_words bound r from.from h from.given)
  condition_words bound (Connect c r s) p h e =
      let from = both_given (model.Connect c) (condition m bound r) (condition m bound s) p e in
      let parts = or_false (has_word r) (has_word s) h in
      subst NoteHasNone from.is
      (both_false (rules.note_has_word from.left) (rules.note_has_word from.right) (condition_words bound r from.left parts.0 from.left_given) (condition_words bound s from.right parts.1 from.right_given))
  condition_words bound (Quantify k name x y r) p h e =
      let from = both_given (quantified k name) (pair (number m bound x) (number m bound y)) (condition m (name ∷ bound) r) p e in
      let ends = both_given (λ (a b : Quantity). (a, b)) (number m bound x) (number m bound y) from.left from.left_given in
      let parts = or_false (has_word x) (has_word y || has_word r) h in
      let more = or_false (has_word y) (has_word r) parts.1 in
      let first : ends.left ≡ from.left.0 = ap (λ (z : Quantity × Quantity). z.0) ends.is in
      let last : ends.right ≡ from.left.1 = ap (λ (z : Quantity × Quantity). z.1) ends.is in
      let low = subst HasNone first (number_words bound x ends.left parts.0 ends.left_given) in
      let high = subst HasNone last (number_words bound y ends.right more.0 ends.right_given) in
      let inner = condition_words (name ∷ bound) r from.right more.1 from.right_given in
      subst NoteHasNone from.is
      (both_false (rules.has_word from.left.0) (rules.has_word from.left.1 || rules.note_has_word from.right) low (both_false (rules.has_word from.left.1) (rules.note_has_word from.right) high inner))
  condition_words bound (Literal n) p h e = absurd cc
  condition_words bound (Location moment x) p h e = absurd cc
  condition_words bound (Pair moment r) p h e = absurd cc
  condition_words bound (Cell moment x) p h e = absurd cc
  condition_words bound (StackWord k) p h e = absurd cc
  condition_words bound (Total moment x y) p h e = absurd cc
  condition_words bound (Named moment name) p h e = absurd cc
  condition_words bound (Element moment name x) p h e = absurd cc
  condition_words bound (Address name) p h e = absurd cc
  condition_words bound (Length name) p h e = absurd cc
  condition_words bound (Negative x) p h e = absurd cc
  condition_words bound (Parity x) p h e = absurd cc
  condition_words bound (Operate o x y) p h e = absurd cc
