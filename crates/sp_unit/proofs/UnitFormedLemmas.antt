-- Annotations with their names resolved are well formed.
use Rattle.std.proofs.Common.{◌≡◌, ℕ, suc, ◌+◌, ◌^◌, ◌<◌, ◌≤◌, Bool, true, false, ◌||◌, List, [], ◌∷◌, Contains, Some, refl, sym, ap, subst, arith, lit<, lit≤}
use Rattle.std.specs.Prelude.{bytes_eq, ⊤}
use Rattle.std.specs.Option.{option_and_then}
use Rattle.std.specs.Cmp.Lexicographic.{same_text}
use Rattle.sp_model.specs.Note as model
use Rattle.sp_model.specs.Note.{Moment, Quantity, Note, HasBoundNames, BindsNames}
use Rattle.sp_logic.specs.WellFormed.{IsBoundName, IsInLimits, NoteIsInLimits, IsWellFormed}
use Rattle.sp_note.specs.RawNotes.{RawNote, Literal, Constant, Location, Pair, Cell, StackWord, Total, Named, Element, Address, Length, Negative, Parity, Operate, Compare, Not, Connect, Quantify}
use Rattle.sp_prog.specs.declared.area.Area.{Area}
use Rattle.sp_prog.specs.declared.area.AreaKind.{AreaKind}
use Rattle.sp_prog.specs.declared.area.AreaKind.TheVariants as kind
use Rattle.sp_unit.specs.Resolution.{Meanings, Bound, is_bound, area_named, content, element, pair, quantified, number, condition}
use Rattle.sp_unit.proofs.UnitPartsLemmas.{Stands, a_bound_name, an_area, a_number, named_is, area_given, element_is, mapped, chained, both_given}

-- numbers are below 2 to the power 63, the k of each STKk is from 1 to 32,767, and what quantifiers bind are names
abbrev pub RawIsInLimits : RawNote → Type 0
RawIsInLimits (Literal n) = n < 2 ^ 63
RawIsInLimits (Constant truth) = ⊤
RawIsInLimits (Location m x) = ⊤
RawIsInLimits (Pair m p) = ⊤
RawIsInLimits (Cell m x) = RawIsInLimits x
RawIsInLimits (StackWord k) = (1 ≤ k) × (k ≤ 32767)
RawIsInLimits (Total m x y) = RawIsInLimits x × RawIsInLimits y
RawIsInLimits (Named m name) = ⊤
RawIsInLimits (Element m name x) = RawIsInLimits x
RawIsInLimits (Address name) = ⊤
RawIsInLimits (Length name) = ⊤
RawIsInLimits (Negative x) = RawIsInLimits x
RawIsInLimits (Parity x) = RawIsInLimits x
RawIsInLimits (Operate o x y) = RawIsInLimits x × RawIsInLimits y
RawIsInLimits (Compare c x y) = RawIsInLimits x × RawIsInLimits y
RawIsInLimits (Not p) = RawIsInLimits p
RawIsInLimits (Connect c p q) = RawIsInLimits p × RawIsInLimits q
RawIsInLimits (Quantify q name x y p) = IsBoundName name × RawIsInLimits x × RawIsInLimits y × RawIsInLimits p

-- areas and names of a source have numbers of sixteen bits
pub record AreShort (m : Meanings) : Type 0 where
  pub areas : (name : List ℕ) (a : Area) → m.areas name ≡ Some a → (a.addr < 65536) × (a.len < 65536)
  pub names : (name : List ℕ) (n : ℕ) → m.names name ≡ Some n → n < 65536

in_limits : (n : ℕ) → n ≤ 65536 → n < 2 ^ 63
in_limits n le = by (2 ^ 63) (lit< tt)
  where
    by : (top : ℕ) → 65536 < top → n < top
    by top lt = omega arith

bound_among : (bound : Bound) (name : List ℕ) → is_bound bound name ≡ true → Contains bound name
bound_among [] name h = absurd cc
bound_among (inner ∷ bound) name h = by (bytes_eq inner name) refl h (bound_among bound name)
  where
    by : (b : Bool) → bytes_eq inner name ≡ b → (b || is_bound bound name) ≡ true → (is_bound bound name ≡ true → Contains bound name) → Contains (inner ∷ bound) name
    by true e k again = (0, omega arith, same_text inner name (sym e))
    by false e k again = let found = again k in (suc found.0, omega (arith, found.1), found.2)

-- a quantity that keeps to the limits, with these bound names
pub record IsFormed (bound : Bound) (q : Quantity) : Type 0 where
  pub limits : IsInLimits q
  pub closed : HasBoundNames bound q

pub record IsNoteFormed (bound : Bound) (p : Note) : Type 0 where
  pub limits : NoteIsInLimits p
  pub closed : BindsNames bound p

literal_formed : (bound : Bound) (n : ℕ) → n ≤ 65536 → IsFormed bound (model.Literal n)
literal_formed bound n le = record { limits = in_limits n le; closed = tt }

cell_formed : (bound : Bound) (moment : Moment) (n : ℕ) → n ≤ 65536 → IsFormed bound (model.Cell moment (model.Literal n))
cell_formed bound moment n le = record { limits = in_limits n le; closed = tt }

content_formed : (bound : Bound) (moment : Moment) (k : AreaKind) (a : ℕ) (q : Quantity) → a < 65536 → content moment k a ≡ Some q → IsFormed bound q
content_formed bound moment kind.Byte a q lt e =
    let is : model.Cell moment (model.Literal a) ≡ q = cc in
    subst (IsFormed bound) is (cell_formed bound moment a (omega arith))
content_formed bound moment kind.Word a q lt e =
    let is : model.Operate model.Add (model.Cell moment (model.Literal a)) (model.Operate model.Multiply (model.Literal 256) (model.Cell moment (model.Literal (a + 1)))) ≡ q = cc in
    subst (IsFormed bound) is (record { limits = (in_limits a (omega arith), (in_limits 256 (lit≤ tt), in_limits (a + 1) (omega arith))); closed = (tt, (tt, tt)) })
content_formed bound moment kind.Bytes a q lt e = absurd cc

module _ (m : Meanings) (short : AreShort m) (bound : Bound) where
  named_formed : (moment : Moment) (name : List ℕ) (q : Quantity) → Stands m bound moment name q → IsFormed bound q
  named_formed moment name q (a_bound_name is now same) = subst (IsFormed bound) same (record { limits = tt; closed = bound_among bound name is })
  named_formed moment name q (an_area a is found same) = content_formed bound moment a.kind a.addr q (short.areas name a found).0 same
  named_formed moment name q (a_number n is found same) = let lt = short.names name n found in subst (IsFormed bound) same (literal_formed bound n (omega (arith, lt)))

  pub number_formed : (raw : RawNote) (q : Quantity) → RawIsInLimits raw → number m bound raw ≡ Some q → IsFormed bound q
  number_formed (Literal n) q h e = let is : model.Literal n ≡ q = cc in subst (IsFormed bound) is (record { limits = h; closed = tt })
  number_formed (Constant truth) q h e = absurd cc
  number_formed (Location moment x) q h e = let is : model.Location moment x ≡ q = cc in subst (IsFormed bound) is (record { limits = tt; closed = tt })
  number_formed (Pair moment p) q h e = let is : model.Pair moment p ≡ q = cc in subst (IsFormed bound) is (record { limits = tt; closed = tt })
  number_formed (Cell moment x) q h e =
      let from = mapped (model.Cell moment) (number m bound x) q e in
      let inner = number_formed x from.from h from.given in
      subst (IsFormed bound) from.is (record { limits = inner.limits; closed = inner.closed })
  number_formed (StackWord k) q h e = let is : model.StackWord k ≡ q = cc in subst (IsFormed bound) is (record { limits = h; closed = tt })
  number_formed (Total moment x y) q h e =
      let from = both_given (model.Total moment) (number m bound x) (number m bound y) q e in
      let left = number_formed x from.left h.0 from.left_given in
      let right = number_formed y from.right h.1 from.right_given in
      subst (IsFormed bound) from.is (record { limits = (left.limits, right.limits); closed = (left.closed, right.closed) })
  number_formed (Named moment name) q h e = named_formed moment name q (named_is m bound moment name q e)
  number_formed (Element moment name x) q h e =
      let from = chained (λ (a : Area). option_and_then (element moment a.kind a.addr) (number m bound x)) (area_named m bound name) q e in
      let index = chained (element moment from.from.kind from.from.addr) (number m bound x) q from.is in
      let inner = number_formed x index.from h index.given in
      let lt = (short.areas name from.from (area_given m bound name from.from from.given)).0 in
      subst (IsFormed bound) (element_is moment from.from.kind from.from.addr index.from q index.is)
      (record { limits = (in_limits from.from.addr (omega (arith, lt)), inner.limits); closed = (tt, inner.closed) })
  number_formed (Address name) q h e =
      let from = mapped (λ (a : Area). model.Literal a.addr) (area_named m bound name) q e in
      let lt = (short.areas name from.from (area_given m bound name from.from from.given)).0 in
      subst (IsFormed bound) from.is (literal_formed bound from.from.addr (omega (arith, lt)))
  number_formed (Length name) q h e =
      let from = mapped (λ (a : Area). model.Literal a.len) (area_named m bound name) q e in
      let lt = (short.areas name from.from (area_given m bound name from.from from.given)).1 in
      subst (IsFormed bound) from.is (literal_formed bound from.from.len (omega (arith, lt)))
  number_formed (Negative x) q h e =
      let from = mapped model.Negative (number m bound x) q e in
      let inner = number_formed x from.from h from.given in
      subst (IsFormed bound) from.is (record { limits = inner.limits; closed = inner.closed })
  number_formed (Parity x) q h e =
      let from = mapped model.Parity (number m bound x) q e in
      let inner = number_formed x from.from h from.given in
      subst (IsFormed bound) from.is (record { limits = inner.limits; closed = inner.closed })
  number_formed (Operate o x y) q h e =
      let from = both_given (model.Operate o) (number m bound x) (number m bound y) q e in
      let left = number_formed x from.left h.0 from.left_given in
      let right = number_formed y from.right h.1 from.right_given in
      subst (IsFormed bound) from.is (record { limits = (left.limits, right.limits); closed = (left.closed, right.closed) })
  number_formed (Compare c x y) q h e = absurd cc
  number_formed (Not p) q h e = absurd cc
  number_formed (Connect c p r) q h e = absurd cc
  number_formed (Quantify k name x y p) q h e = absurd cc

module _ (m : Meanings) (short : AreShort m) where
  condition_formed : (bound : Bound) (raw : RawNote) (p : Note) → RawIsInLimits raw → condition m bound raw ≡ Some p → IsNoteFormed bound p
  condition_formed bound (Constant truth) p h e = let is : model.Constant truth ≡ p = cc in subst (IsNoteFormed bound) is (record { limits = tt; closed = tt })
  condition_formed bound (Compare c x y) p h e =
      let from = both_given (model.Compare c) (number m bound x) (number m bound y) p e in
      let left = number_formed m short bound x from.left h.0 from.left_given in
      let right = number_formed m short bound y from.right h.1 from.right_given in
      subst (IsNoteFormed bound) from.is (record { limits = (left.limits, right.limits); closed = (left.closed, right.closed) })
  condition_formed bound (Not r) p h e =
      let from = mapped model.Not (condition m bound r) p e in
      let inner = condition_formed bound r from.from h from.given in
      subst (IsNoteFormed bound) from.is (record { limits = inner.limits; closed = inner.closed })
  condition_formed bound (Connect c r s) p h e =
      let from = both_given (model.Connect c) (condition m bound r) (condition m bound s) p e in
      let left = condition_formed bound r from.left h.0 from.left_given in
      let right = condition_formed bound s from.right h.1 from.right_given in
      subst (IsNoteFormed bound) from.is (record { limits = (left.limits, right.limits); closed = (left.closed, right.closed) })
  condition_formed bound (Quantify k name x y r) p h e =
      let from = both_given (quantified k name) (pair (number m bound x) (number m bound y)) (condition m (name ∷ bound) r) p e in
      let ends = both_given (λ (a b : Quantity). (a, b)) (number m bound x) (number m bound y) from.left from.left_given in
      let low = number_formed m short bound x ends.left h.1 ends.left_given in
      let high = number_formed m short bound y ends.right h.2 ends.right_given in
      let inner = condition_formed (name ∷ bound) r from.right h.3 from.right_given in
      let first : ends.left ≡ from.left.0 = ap (λ (z : Quantity × Quantity). z.0) ends.is in
      let last : ends.right ≡ from.left.1 = ap (λ (z : Quantity × Quantity). z.1) ends.is in
      subst (IsNoteFormed bound) from.is (record {
        limits = (h.0, subst IsInLimits first low.limits, subst IsInLimits last high.limits, inner.limits);
        closed = (subst (HasBoundNames bound) first low.closed, subst (HasBoundNames bound) last high.closed, inner.closed);
      })
  condition_formed bound (Literal n) p h e = absurd cc
  condition_formed bound (Location moment x) p h e = absurd cc
  condition_formed bound (Pair moment r) p h e = absurd cc
  condition_formed bound (Cell moment x) p h e = absurd cc
  condition_formed bound (StackWord k) p h e = absurd cc
  condition_formed bound (Total moment x y) p h e = absurd cc
  condition_formed bound (Named moment name) p h e = absurd cc
  condition_formed bound (Element moment name x) p h e = absurd cc
  condition_formed bound (Address name) p h e = absurd cc
  condition_formed bound (Length name) p h e = absurd cc
  condition_formed bound (Negative x) p h e = absurd cc
  condition_formed bound (Parity x) p h e = absurd cc
  condition_formed bound (Operate o x y) p h e = absurd cc

  pub note_formed : (raw : RawNote) (p : Note) → RawIsInLimits raw → condition m [] raw ≡ Some p → IsWellFormed p
  note_formed raw p h e = let f = condition_formed [] raw p h e in record { closed = f.closed; limits = f.limits }
