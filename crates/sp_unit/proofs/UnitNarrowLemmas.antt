-- Annotations with their names resolved stay narrow, and speak of no other word of the stack.
use Rattle.std.proofs.Common.{◌≡◌, ℕ, ◌+◌, ◌-◌, ◌^◌, ◌<◌, ◌≤◌, max, Bool, true, false, cond, ◌||◌, List, [], ◌∷◌, Option, Some, None, refl, sym, ap, subst, ◌∙◌, arith, lit<, lit≤, mul-le-mul}
use Rattle.std.specs.Prelude.{nat_lt, bytes_eq, unwrap_or, ⊤}
use Rattle.std.specs.Option.{option_and_then}
use Rattle.std.proofs.lemmas.Bool.Decides.{nat_tests}
use Rattle.sp_base.specs.declared.location.Loc.{Loc}
use Rattle.sp_base.specs.declared.location.Loc.TheVariants as loc
use Rattle.sp_isa.specs.Core.{limit}
use Rattle.sp_model.specs.Note as model
use Rattle.sp_model.specs.Note.{Moment, Now, AtEntry, Quantity, Note, Operator, Add, Subtract, Multiply, Divide, Modulo, BitAnd, BitOr, BitXor}
use Rattle.sp_eval.specs.Wide as wide
use Rattle.sp_eval.specs.Wide.{NameBounds, quantity_bound, IsBelow, NoteIsBelow, IsNarrow}
use Rattle.sp_note.specs.Bounds as bounds
use Rattle.sp_note.specs.Bounds.{Bounds, named_bound, below, kept, either, operated, greater, location_bound, bound_of}
use Rattle.sp_note.specs.RawNotes.{RawNote, Literal, Constant, Location, Pair, Cell, StackWord, Total, Named, Element, Address, Length, Negative, Parity, Operate, Compare, Not, Connect, Quantify}
use Rattle.sp_prog.specs.declared.area.Area.{Area}
use Rattle.sp_prog.specs.declared.area.AreaKind.{AreaKind}
use Rattle.sp_prog.specs.declared.area.AreaKind.TheVariants as kind
use Rattle.sp_unit.specs.Resolution.{Meanings, Bound, is_bound, area_named, content, element, pair, quantified, number, condition}
use Rattle.sp_unit.proofs.UnitPartsLemmas.{Stands, a_bound_name, an_area, a_number, named_is, area_given, element_is, mapped, chained, both_given}
use Rattle.sp_unit.proofs.UnitFormedLemmas.{AreShort}

-- the limits of bounds: as lines have them, and as units have them
half : ℕ
half = 2 ^ 100

top : ℕ
top = 2 ^ 101

room : half + 65536 ≤ top
unfolding half top
room = lit≤ tt

large : 16777216 ≤ half
unfolding half
large = lit≤ tt

record IsBelowHalf (n m : ℕ) : Type 0 where
  same : m ≡ n
  lt : n < half

lt_from : (n : ℕ) → nat_lt n (2 ^ 100) ≡ true → n < half
unfolding half
lt_from n h = grind (arith, nat_tests)

below_is : (n m : ℕ) → below n ≡ Some m → IsBelowHalf n m
below_is n m e = by (nat_lt n (2 ^ 100)) refl e
  where
    by : (b : Bool) → nat_lt n (2 ^ 100) ≡ b → cond b (Some n) None ≡ Some m → IsBelowHalf n m
    by true is h = let same : n ≡ m = cc in record { same = sym same; lt = lt_from n is }
    by false is h = absurd cc

-- ---- Options

record Kept (o : Option ℕ) (n m : ℕ) : Type 0 where
  part : ℕ
  given : o ≡ Some part
  is : m ≡ n

kept_is : (o : Option ℕ) (n m : ℕ) → kept o n ≡ Some m → Kept o n m
kept_is None n m e = absurd cc
kept_is (Some k) n m e = let is : m ≡ n = cc in record { part = k; given = refl; is = is }

record Either (x y : Option ℕ) (n m : ℕ) : Type 0 where
  left : ℕ
  right : ℕ
  left_given : x ≡ Some left
  right_given : y ≡ Some right
  is : m ≡ n

either_is : (x y : Option ℕ) (n m : ℕ) → either x y n ≡ Some m → Either x y n m
either_is None y n m e = absurd cc
either_is (Some k) y n m e = let from = kept_is y n m e in record { left = k; right = from.part; left_given = refl; right_given = from.given; is = from.is }

record Operated (o : Operator) (x y : Option ℕ) (m : ℕ) : Type 0 where
  left : ℕ
  right : ℕ
  left_given : x ≡ Some left
  right_given : y ≡ Some right
  is : IsBelowHalf (bounds.operator_bound o left right) m

operated_is : (o : Operator) (x y : Option ℕ) (m : ℕ) → operated o x y ≡ Some m → Operated o x y m
operated_is o (Some k) (Some l) m e = record { left = k; right = l; left_given = refl; right_given = refl; is = below_is (bounds.operator_bound o k l) m e }
operated_is o (Some k) None m e = absurd cc
operated_is o None y m e = absurd cc

-- ---- Bound names

-- bound names with the bounds that lines give them, and lower ones
abbrev Bind : Bound → Bounds → NameBounds → Type 0
Bind [] [] [] = ⊤
Bind [] [] (d ∷ low) = ⊥
Bind [] (c ∷ high) low = ⊥
Bind (name ∷ bound) [] low = ⊥
Bind (name ∷ bound) (c ∷ high) [] = ⊥
Bind (name ∷ bound) (c ∷ high) (d ∷ low) = (c.0 ≡ name) × (d.0 ≡ name) × (d.1 ≤ c.1) × (c.1 < half) × Bind bound high low

record IsLower (high : Bounds) (low : NameBounds) (name : List ℕ) : Type 0 where
  le : wide.bound_of_name low name ≤ bounds.bound_of_name high name
  lt : bounds.bound_of_name high name < half

found_bound : (bound : Bound) (high : Bounds) (low : NameBounds) (name : List ℕ) → Bind bound high low → is_bound bound name ≡ true → IsLower high low name
found_bound [] high low name h is = absurd cc
found_bound (b ∷ bound) [] low name h is = absurd h
found_bound (b ∷ bound) (c ∷ high) [] name h is = absurd h
found_bound (b ∷ bound) (c ∷ high) (d ∷ low) name h is = by (bytes_eq b name) refl is (found_bound bound high low name h.4)
  where
    by : (t : Bool) → bytes_eq b name ≡ t → (t || is_bound bound name) ≡ true → (is_bound bound name ≡ true → IsLower high low name) → IsLower (c ∷ high) (d ∷ low) name
    by true e k again =
        let one : bounds.bound_of_name (c ∷ high) name ≡ c.1 = ap (λ t. cond t c.1 (bounds.bound_of_name high name)) (ap (λ z. bytes_eq z name) h.0 ∙ e) in
        let other : wide.bound_of_name (d ∷ low) name ≡ d.1 = ap (λ t. cond t d.1 (wide.bound_of_name low name)) (ap (λ z. bytes_eq z name) h.1 ∙ e) in
        let le : d.1 ≤ c.1 = h.2 in
        let lt : c.1 < half = h.3 in
        record { le = omega (arith, one, other, le); lt = omega (arith, one, lt) }
    by false e k again =
        let rest = again k in
        let one : bounds.bound_of_name (c ∷ high) name ≡ bounds.bound_of_name high name = ap (λ t. cond t c.1 (bounds.bound_of_name high name)) (ap (λ z. bytes_eq z name) h.0 ∙ e) in
        let other : wide.bound_of_name (d ∷ low) name ≡ wide.bound_of_name low name = ap (λ t. cond t d.1 (wide.bound_of_name low name)) (ap (λ z. bytes_eq z name) h.1 ∙ e) in
        record { le = omega (arith, one, other, rest.le); lt = omega (arith, one, rest.lt) }

no_bound : (bound : Bound) (high : Bounds) (low : NameBounds) (name : List ℕ) → Bind bound high low → is_bound bound name ≡ false → bounds.bound_of_name high name ≡ 65535
no_bound [] [] low name h is = refl
no_bound [] (c ∷ high) low name h is = absurd h
no_bound (b ∷ bound) [] low name h is = absurd h
no_bound (b ∷ bound) (c ∷ high) [] name h is = absurd h
no_bound (b ∷ bound) (c ∷ high) (d ∷ low) name h is = by (bytes_eq b name) refl is (no_bound bound high low name h.4)
  where
    by : (t : Bool) → bytes_eq b name ≡ t → (t || is_bound bound name) ≡ false → (is_bound bound name ≡ false → bounds.bound_of_name high name ≡ 65535) → bounds.bound_of_name (c ∷ high) name ≡ 65535
    by true e k again = absurd cc
    by false e k again = ap (λ t. cond t c.1 (bounds.bound_of_name high name)) (ap (λ z. bytes_eq z name) h.0 ∙ e) ∙ again k

free_bound : (bound : Bound) (high : Bounds) (low : NameBounds) (moment : Moment) (name : List ℕ) → Bind bound high low → is_bound bound name ≡ false → named_bound high moment name ≡ 65535
free_bound bound high low Now name h is = no_bound bound high low name h is
free_bound bound high low AtEntry name h is = refl

-- ---- Numbers

-- a quantity, and each part of it, has a bound at most that of its line
record IsUnder (low : NameBounds) (q : Quantity) (n : ℕ) : Type 0 where
  le : quantity_bound low q ≤ n
  lt : n < half
  parts : IsBelow top low q

location_small : (x : Loc) → limit x - 1 ≤ 255
location_small loc.A = lit≤ tt
location_small loc.B = lit≤ tt
location_small loc.C = lit≤ tt
location_small loc.D = lit≤ tt
location_small loc.E = lit≤ tt
location_small loc.H = lit≤ tt
location_small loc.L = lit≤ tt
location_small loc.S = lit≤ tt
location_small loc.Z = lit≤ tt
location_small loc.Ac = lit≤ tt
location_small loc.P = lit≤ tt
location_small loc.Cy = lit≤ tt

under : (n : ℕ) → n < 16777216 → n < top
under n lt = omega (arith, room, large)

under_half : (n : ℕ) → n < 16777216 → n < half
under_half n lt = omega (arith, large)

operator_le : (o : Operator) (a b k l : ℕ) → a ≤ k → b ≤ l → wide.operator_bound o a b ≤ bounds.operator_bound o k l
operator_le Add a b k l h g = omega arith
operator_le Subtract a b k l h g = omega arith
operator_le Multiply a b k l h g = mul-le-mul h g
operator_le Divide a b k l h g = h
operator_le Modulo a b k l h g = g
operator_le BitAnd a b k l h g = lit≤ tt
operator_le BitOr a b k l h g = lit≤ tt
operator_le BitXor a b k l h g = lit≤ tt

content_under : (low : NameBounds) (moment : Moment) (k : AreaKind) (a : ℕ) (q : Quantity) → a < 65536 → content moment k a ≡ Some q → IsUnder low q 65535
content_under low moment kind.Byte a q lt e =
    let is : model.Cell moment (model.Literal a) ≡ q = cc in
    subst (λ z. IsUnder low z 65535) is (record { le = lit≤ tt; lt = under_half 65535 (lit< tt); parts = (under 255 (lit< tt), under a (omega arith)) })
content_under low moment kind.Word a q lt e =
    let is : model.Operate model.Add (model.Cell moment (model.Literal a)) (model.Operate model.Multiply (model.Literal 256) (model.Cell moment (model.Literal (a + 1)))) ≡ q = cc in
    subst (λ z. IsUnder low z 65535) is (record {
      le = lit≤ tt;
      lt = under_half 65535 (lit< tt);
      parts = (
        under 65535 (lit< tt),
        (under 255 (lit< tt), under a (omega arith)),
        (under 65280 (lit< tt), under 256 (lit< tt), (under 255 (lit< tt), under (a + 1) (omega arith))),
      );
    })
content_under low moment kind.Bytes a q lt e = absurd cc

literal_under : (low : NameBounds) (n : ℕ) → n < 65536 → IsUnder low (model.Literal n) 65535
literal_under low n lt = record { le = omega arith; lt = under_half 65535 (lit< tt); parts = under n (omega arith) }

module _ (m : Meanings) (short : AreShort m) (bound : Bound) (high : Bounds) (low : NameBounds) (bind : Bind bound high low) where
  named_under : (moment : Moment) (name : List ℕ) (q : Quantity) → Stands m bound moment name q → IsUnder low q (named_bound high moment name)
  named_under moment name q (a_bound_name is now same) =
      let found = found_bound bound high low name bind is in
      let here : IsUnder low (model.Bound name) (named_bound high Now name) = record { le = found.le; lt = found.lt; parts = omega (arith, found.le, found.lt, room) } in
      subst (λ z. IsUnder low z (named_bound high moment name)) same (subst (λ z. IsUnder low (model.Bound name) (named_bound high z name)) (sym now) here)
  named_under moment name q (an_area a is found same) =
      subst (IsUnder low q) (sym (free_bound bound high low moment name bind is)) (content_under low moment a.kind a.addr q (short.areas name a found).0 same)
  named_under moment name q (a_number n is found same) =
      subst (IsUnder low q) (sym (free_bound bound high low moment name bind is)) (subst (λ z. IsUnder low z 65535) same (literal_under low n (short.names name n found)))

  number_under : (raw : RawNote) (q : Quantity) (n : ℕ) → number m bound raw ≡ Some q → bound_of high raw ≡ Some n → IsUnder low q n
  number_under (Literal k) q n e f =
      let is : model.Literal k ≡ q = cc in
      let b = below_is k n f in
      subst (λ z. IsUnder low z n) is (record { le = omega (arith, b.same); lt = omega (arith, b.same, b.lt); parts = omega (arith, b.lt, room) })
  number_under (Constant truth) q n e f = absurd cc
  number_under (Location moment x) q n e f =
      let is : model.Location moment x ≡ q = cc in
      let same : limit x - 1 ≡ n = cc in
      let small = location_small x in
      subst (λ z. IsUnder low z n) is (record { le = omega (arith, same); lt = omega (arith, same, small, large); parts = under (limit x - 1) (omega (arith, small)) })
  number_under (Pair moment p) q n e f =
      let is : model.Pair moment p ≡ q = cc in
      let same : 65535 ≡ n = cc in
      subst (λ z. IsUnder low z n) is (subst (IsUnder low (model.Pair moment p)) same (record { le = lit≤ tt; lt = under_half 65535 (lit< tt); parts = under 65535 (lit< tt) }))
  number_under (Cell moment x) q n e f =
      let from = mapped (model.Cell moment) (number m bound x) q e in
      let k = kept_is (bound_of high x) 255 n f in
      let inner = number_under x from.from k.part from.given k.given in
      subst (λ z. IsUnder low z n) from.is (subst (IsUnder low (model.Cell moment from.from)) (sym k.is) (record { le = lit≤ tt; lt = under_half 255 (lit< tt); parts = (under 255 (lit< tt), inner.parts) }))
  number_under (StackWord k) q n e f =
      let is : model.StackWord k ≡ q = cc in
      let same : 65535 ≡ n = cc in
      subst (λ z. IsUnder low z n) is (subst (IsUnder low (model.StackWord k)) same (record { le = lit≤ tt; lt = under_half 65535 (lit< tt); parts = under 65535 (lit< tt) }))
  number_under (Total moment x y) q n e f =
      let from = both_given (model.Total moment) (number m bound x) (number m bound y) q e in
      let k = either_is (bound_of high x) (bound_of high y) 16711680 n f in
      let left = number_under x from.left k.left from.left_given k.left_given in
      let right = number_under y from.right k.right from.right_given k.right_given in
      subst (λ z. IsUnder low z n) from.is
      (subst (IsUnder low (model.Total moment from.left from.right)) (sym k.is) (record { le = lit≤ tt; lt = under_half 16711680 (lit< tt); parts = (under 16711680 (lit< tt), left.parts, right.parts) }))
  number_under (Named moment name) q n e f =
      let same : named_bound high moment name ≡ n = cc in
      subst (IsUnder low q) same (named_under moment name q (named_is m bound moment name q e))
  number_under (Element moment name x) q n e f =
      let from = chained (λ (a : Area). option_and_then (element moment a.kind a.addr) (number m bound x)) (area_named m bound name) q e in
      let index = chained (element moment from.from.kind from.from.addr) (number m bound x) q from.is in
      let k = kept_is (bound_of high x) 255 n f in
      let inner = number_under x index.from k.part index.given k.given in
      let lt = (short.areas name from.from (area_given m bound name from.from from.given)).0 in
      let sum : from.from.addr + quantity_bound low index.from < top = omega (arith, lt, inner.le, inner.lt, room) in
      let cell = model.Cell moment (model.Operate model.Add (model.Literal from.from.addr) index.from) in
      subst (λ z. IsUnder low z n) (element_is moment from.from.kind from.from.addr index.from q index.is)
      (subst (IsUnder low cell) (sym k.is) (record { le = lit≤ tt; lt = under_half 255 (lit< tt); parts = (under 255 (lit< tt), (sum, under from.from.addr (omega (arith, lt)), inner.parts)) }))
  number_under (Address name) q n e f =
      let from = mapped (λ (a : Area). model.Literal a.addr) (area_named m bound name) q e in
      let same : 65535 ≡ n = cc in
      let lt = (short.areas name from.from (area_given m bound name from.from from.given)).0 in
      subst (IsUnder low q) same (subst (λ z. IsUnder low z 65535) from.is (literal_under low from.from.addr lt))
  number_under (Length name) q n e f =
      let from = mapped (λ (a : Area). model.Literal a.len) (area_named m bound name) q e in
      let same : 65535 ≡ n = cc in
      let lt = (short.areas name from.from (area_given m bound name from.from from.given)).1 in
      subst (IsUnder low q) same (subst (λ z. IsUnder low z 65535) from.is (literal_under low from.from.len lt))
  number_under (Negative x) q n e f =
      let from = mapped model.Negative (number m bound x) q e in
      let inner = number_under x from.from n from.given f in
      subst (λ z. IsUnder low z n) from.is (record { le = inner.le; lt = inner.lt; parts = inner.parts })
  number_under (Parity x) q n e f =
      let from = mapped model.Parity (number m bound x) q e in
      let k = kept_is (bound_of high x) 1 n f in
      let inner = number_under x from.from k.part from.given k.given in
      subst (λ z. IsUnder low z n) from.is (subst (IsUnder low (model.Parity from.from)) (sym k.is) (record { le = lit≤ tt; lt = under_half 1 (lit< tt); parts = (under 1 (lit< tt), inner.parts) }))
  number_under (Operate o x y) q n e f =
      let from = both_given (model.Operate o) (number m bound x) (number m bound y) q e in
      let k = operated_is o (bound_of high x) (bound_of high y) n f in
      let left = number_under x from.left k.left from.left_given k.left_given in
      let right = number_under y from.right k.right from.right_given k.right_given in
      let le : wide.operator_bound o (quantity_bound low from.left) (quantity_bound low from.right) ≤ bounds.operator_bound o k.left k.right = operator_le o (quantity_bound low from.left) (quantity_bound low from.right) k.left k.right left.le right.le in
      let same = k.is.same in
      let lt = k.is.lt in
      subst (λ z. IsUnder low z n) from.is (record { le = omega (arith, le, same); lt = omega (arith, same, lt); parts = (omega (arith, le, lt, room), left.parts, right.parts) })
  number_under (Compare c x y) q n e f = absurd cc
  number_under (Not p) q n e f = absurd cc
  number_under (Connect c p r) q n e f = absurd cc
  number_under (Quantify k name x y p) q n e f = absurd cc

max_le : (a b k l : ℕ) → a ≤ k → b ≤ l → max a b ≤ max k l
max_le a b k l h g = omega arith

max_lt : (k l : ℕ) → k < half → l < half → max k l < half
max_lt k l h g = omega arith

module _ (m : Meanings) (short : AreShort m) where
  condition_under : (bound : Bound) (high : Bounds) (low : NameBounds) → Bind bound high low → (raw : RawNote) (p : Note) (n : ℕ) → condition m bound raw ≡ Some p → bound_of high raw ≡ Some n → NoteIsBelow top low p
  condition_under bound high low bind (Constant truth) p n e f = let is : model.Constant truth ≡ p = cc in subst (NoteIsBelow top low) is tt
  condition_under bound high low bind (Compare c x y) p n e f =
      let from = both_given (model.Compare c) (number m bound x) (number m bound y) p e in
      let k = either_is (bound_of high x) (bound_of high y) 0 n f in
      let left = number_under m short bound high low bind x from.left k.left from.left_given k.left_given in
      let right = number_under m short bound high low bind y from.right k.right from.right_given k.right_given in
      subst (NoteIsBelow top low) from.is (left.parts, right.parts)
  condition_under bound high low bind (Not r) p n e f =
      let from = mapped model.Not (condition m bound r) p e in
      let k = kept_is (bound_of high r) 0 n f in
      subst (NoteIsBelow top low) from.is (condition_under bound high low bind r from.from k.part from.given k.given)
  condition_under bound high low bind (Connect c r s) p n e f =
      let from = both_given (model.Connect c) (condition m bound r) (condition m bound s) p e in
      let k = either_is (bound_of high r) (bound_of high s) 0 n f in
      subst (NoteIsBelow top low) from.is (
        condition_under bound high low bind r from.left k.left from.left_given k.left_given,
        condition_under bound high low bind s from.right k.right from.right_given k.right_given,
      )
  condition_under bound high low bind (Quantify c name x y r) p n e f =
      let from = both_given (quantified c name) (pair (number m bound x) (number m bound y)) (condition m (name ∷ bound) r) p e in
      let ends = both_given (λ (a b : Quantity). (a, b)) (number m bound x) (number m bound y) from.left from.left_given in
      let inner_high = (name, greater (bound_of high x) (bound_of high y)) ∷ high in
      let k = either_is (bound_of high x) (either (bound_of high y) (bound_of inner_high r) 0) 0 n f in
      let l = either_is (bound_of high y) (bound_of inner_high r) 0 k.right k.right_given in
      let first : ends.left ≡ from.left.0 = ap (λ (z : Quantity × Quantity). z.0) ends.is in
      let last : ends.right ≡ from.left.1 = ap (λ (z : Quantity × Quantity). z.1) ends.is in
      let left = subst (λ z. IsUnder low z k.left) first (number_under m short bound high low bind x ends.left k.left ends.left_given k.left_given) in
      let right = subst (λ z. IsUnder low z l.left) last (number_under m short bound high low bind y ends.right l.left ends.right_given l.left_given) in
      let same : greater (bound_of high x) (bound_of high y) ≡ max k.left l.left = λ i. max (unwrap_or (k.left_given i) 0) (unwrap_or (l.left_given i) 0) in
      let le : max (quantity_bound low from.left.0) (quantity_bound low from.left.1) ≤ greater (bound_of high x) (bound_of high y) =
      subst (λ z. max (quantity_bound low from.left.0) (quantity_bound low from.left.1) ≤ z) (sym same) (max_le (quantity_bound low from.left.0) (quantity_bound low from.left.1) k.left l.left left.le right.le) in
      let lt : greater (bound_of high x) (bound_of high y) < half = subst (λ z. z < half) (sym same) (max_lt k.left l.left left.lt right.lt) in
      let inner_low = (name, max (quantity_bound low from.left.0) (quantity_bound low from.left.1)) ∷ low in
      let inner = condition_under (name ∷ bound) inner_high inner_low (refl, refl, le, lt, bind) r from.right l.right from.right_given l.right_given in
      subst (NoteIsBelow top low) from.is (left.parts, right.parts, inner)
  condition_under bound high low bind (Literal k) p n e f = absurd cc
  condition_under bound high low bind (Location moment x) p n e f = absurd cc
  condition_under bound high low bind (Pair moment r) p n e f = absurd cc
  condition_under bound high low bind (Cell moment x) p n e f = absurd cc
  condition_under bound high low bind (StackWord k) p n e f = absurd cc
  condition_under bound high low bind (Total moment x y) p n e f = absurd cc
  condition_under bound high low bind (Named moment name) p n e f = absurd cc
  condition_under bound high low bind (Element moment name x) p n e f = absurd cc
  condition_under bound high low bind (Address name) p n e f = absurd cc
  condition_under bound high low bind (Length name) p n e f = absurd cc
  condition_under bound high low bind (Negative x) p n e f = absurd cc
  condition_under bound high low bind (Parity x) p n e f = absurd cc
  condition_under bound high low bind (Operate o x y) p n e f = absurd cc

  top_is : top ≡ 2 ^ 101
  unfolding top
  top_is = refl

  pub note_narrow : (raw : RawNote) (p : Note) (n : ℕ) → condition m [] raw ≡ Some p → bound_of [] raw ≡ Some n → IsNarrow p
  note_narrow raw p n e f = subst (λ z. NoteIsBelow z [] p) top_is (condition_under [] [] [] tt raw p n e f)
