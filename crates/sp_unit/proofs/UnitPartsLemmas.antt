-- Annotations with names in place of numbers, and what becomes of their parts.
use Rattle.std.proofs.Common.{◌≡◌, ℕ, Bool, true, false, cond, List, Option, Some, None, refl}
use Rattle.std.specs.Option.{option_map, option_and_then}
use Rattle.sp_model.specs.Note as model
use Rattle.sp_model.specs.Note.{Moment, Now, AtEntry, Quantity, Note}
use Rattle.sp_prog.specs.declared.area.Area.{Area}
use Rattle.sp_prog.specs.declared.area.AreaKind.{AreaKind}
use Rattle.sp_prog.specs.declared.area.AreaKind.TheVariants as kind
use Rattle.sp_unit.specs.Resolution.{Meanings, Bound, is_bound, area_named, content, element, at_moment, free_name, named, both}

-- ---- Options

some_is : {A : Type 0} (a b : A) → Some a ≡ Some b → a ≡ b
some_is a b e = cc

none_some : {A : Type 0} (a : A) → None ≡ Some a → ⊥
none_some a e = cc

-- what gives something was given something
pub record Mapped {A B : Type 0} (f : A → B) (o : Option A) (b : B) : Type 0 where
  pub from : A
  pub given : o ≡ Some from
  pub is : f from ≡ b

pub mapped : {A B : Type 0} (f : A → B) (o : Option A) (b : B) → option_map f o ≡ Some b → Mapped f o b
mapped f None b e = absurd (none_some b e)
mapped f (Some a) b e = record { from = a; given = refl; is = some_is (f a) b e }

pub record Chained {A B : Type 0} (f : A → Option B) (o : Option A) (b : B) : Type 0 where
  pub from : A
  pub given : o ≡ Some from
  pub is : f from ≡ Some b

pub chained : {A B : Type 0} (f : A → Option B) (o : Option A) (b : B) → option_and_then f o ≡ Some b → Chained f o b
chained f None b e = absurd (none_some b e)
chained f (Some a) b e = record { from = a; given = refl; is = e }

pub record Both {A B C : Type 0} (f : A → B → C) (x : Option A) (y : Option B) (c : C) : Type 0 where
  pub left : A
  pub right : B
  pub left_given : x ≡ Some left
  pub right_given : y ≡ Some right
  pub is : f left right ≡ c

pub both_given : {A B C : Type 0} (f : A → B → C) (x : Option A) (y : Option B) (c : C) → both f x y ≡ Some c → Both f x y c
both_given f (Some a) (Some b) c e = record { left = a; right = b; left_given = refl; right_given = refl; is = some_is (f a b) c e }
both_given f (Some a) None c e = absurd (none_some c e)
both_given f None y c e = absurd (none_some c e)

-- ---- Names

-- a name stands for one of these: a bound name, the content of an area, a number
pub data Stands (m : Meanings) (bound : Bound) (moment : Moment) (name : List ℕ) (q : Quantity) : Type 0 where
  a_bound_name : is_bound bound name ≡ true → moment ≡ Now → model.Bound name ≡ q → Stands m bound moment name q
  an_area : (a : Area) → is_bound bound name ≡ false → m.areas name ≡ Some a → content moment a.kind a.addr ≡ Some q → Stands m bound moment name q
  a_number : (n : ℕ) → is_bound bound name ≡ false → m.names name ≡ Some n → model.Literal n ≡ q → Stands m bound moment name q

at_now : (moment : Moment) (x q : Quantity) → at_moment moment x ≡ Some q → (moment ≡ Now) × (x ≡ q)
at_now Now x q e = (refl, some_is x q e)
at_now AtEntry x q e = absurd (none_some q e)

pub named_is : (m : Meanings) (bound : Bound) (moment : Moment) (name : List ℕ) (q : Quantity) → named m bound moment name ≡ Some q → Stands m bound moment name q
named_is m bound moment name q e = by (is_bound bound name) (m.areas name) refl refl e
  where
    by : (b : Bool) (o : Option Area) → is_bound bound name ≡ b → m.areas name ≡ o → cond b (at_moment moment (model.Bound name)) (free_name m moment name o) ≡ Some q → Stands m bound moment name q
    by true o is found h = let now = at_now moment (model.Bound name) q h in a_bound_name is now.0 now.1
    by false (Some a) is found h = an_area a is found h
    by false None is found h =
        let number = chained (λ n. at_moment moment (model.Literal n)) (m.names name) q h in
        a_number number.from is number.given (at_now moment (model.Literal number.from) q number.is).1

-- the area of a name
pub area_given : (m : Meanings) (bound : Bound) (name : List ℕ) (a : Area) → area_named m bound name ≡ Some a → m.areas name ≡ Some a
area_given m bound name a e = by (is_bound bound name) e
  where
    by : (b : Bool) → cond b None (m.areas name) ≡ Some a → m.areas name ≡ Some a
    by true h = absurd (none_some a h)
    by false h = h

-- a cell of bytes
pub element_is : (moment : Moment) (k : AreaKind) (a : ℕ) (x q : Quantity) → element moment k a x ≡ Some q → model.Cell moment (model.Operate model.Add (model.Literal a) x) ≡ q
element_is moment kind.Bytes a x q e = some_is (model.Cell moment (model.Operate model.Add (model.Literal a) x)) q e
element_is moment kind.Byte a x q e = absurd (none_some q e)
element_is moment kind.Word a x q e = absurd (none_some q e)
