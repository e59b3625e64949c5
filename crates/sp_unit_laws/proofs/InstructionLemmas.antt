-- The instructions of a unit are those of its source.
use Rattle.std.proofs.Common.{◌≡◌, ◌⊎◌, inl, inr, ℕ, zero, suc, ◌<◌, Bool, true, false, cond, List, [], ◌∷◌, length, map, get_or, Contains, refl, sym, ap, subst, ◌∙◌, arith}
use Rattle.std.specs.Prelude.{filter, flat_map}
use Rattle.std.specs.List.{AllZip, filter_map}
use Rattle.std.proofs.lemmas.List.Elements.{Contains-append_left, Contains-append_right, Contains-append_cases}
use Rattle.std.proofs.lemmas.List.Sorted.{Contains-permutation, IsPermutation-sym}
use Rattle.sp_isa.specs.declared.instr.Instr.{Instr}
use Rattle.sp_asm.specs.declared.listing.Item.{Item}
use Rattle.sp_asm.specs.declared.listing.ItemKind.{ItemKind}
use Rattle.sp_asm.specs.declared.listing.ItemKind.TheVariants as kind
use Rattle.sp_prog.specs.declared.routine.Routine.{Routine}
use Rattle.sp_prog.specs.declared.routine.Stmt.{Stmt}
use Rattle.sp_prog.specs.Program.{Program}
use Rattle.sp_prog.specs.Rules.{instructions}
use Rattle.sp_unit.specs.Faults.{Source}
use Rattle.sp_unit.specs.Lines.{Entry, item_in, is_instr}
use Rattle.sp_unit.specs.SourceUnits.{Coded, begun, IsUnitOf}
use Rattle.sp_unit.proofs.UnitFoundLemmas.{Stands, all_coded, instructions_are, found_code}
use Rattle.sp_unit_laws.specs.Units.{IsOfItem, UnitsHaveTheirInstructions}

module _ {X : Type 0} where
  here : (x : X) (xs : List X) → Contains (x ∷ xs) x
  here x xs = (0, omega arith, refl)

  later : (y x : X) (xs : List X) → Contains xs x → Contains (y ∷ xs) x
  later y x xs h = (suc h.0, omega (arith, h.1), h.2)

  at_place : (y x : X) (xs : List X) (k : ℕ) → k < length (y ∷ xs) → get_or (y ∷ xs) k x ≡ x → (y ≡ x) ⊎ Contains xs x
  at_place y x xs zero lt e = inl e
  at_place y x xs (suc k) lt e = inr (k, omega arith, e)

  first_or_later : (y x : X) (xs : List X) → Contains (y ∷ xs) x → (y ≡ x) ⊎ Contains xs x
  first_or_later y x xs h = at_place y x xs h.0 h.1 h.2

  in_none : (x : X) → Contains [] x → ⊥
  in_none x h = let lt : h.0 < 0 = h.1 in omega arith

  -- an element that passes
  filtered : (test : X → Bool) (xs : List X) (x : X) → Contains xs x → test x ≡ true → Contains (filter test xs) x
  filtered test [] x h passes = absurd (in_none x h)
  filtered test (y ∷ xs) x h passes = by (test y) refl (first_or_later y x xs h) (filtered test xs x)
    where
      by : (b : Bool) → test y ≡ b → (y ≡ x) ⊎ Contains xs x → (Contains xs x → test x ≡ true → Contains (filter test xs) x) → Contains (cond b (y ∷ filter test xs) (filter test xs)) x
      by true e (inl same) again = subst (Contains (y ∷ filter test xs)) same (here y (filter test xs))
      by true e (inr below) again = later y x (filter test xs) (again below passes)
      by false e (inl same) again = let wrong : true ≡ false = sym passes ∙ ap test (sym same) ∙ e in absurd cc
      by false e (inr below) again = again below passes

  unfiltered : (test : X → Bool) (xs : List X) (x : X) → Contains (filter test xs) x → Contains xs x
  unfiltered test [] x h = absurd (in_none x h)
  unfiltered test (y ∷ xs) x h = by (test y) h (unfiltered test xs x)
    where
      by : (b : Bool) → Contains (cond b (y ∷ filter test xs) (filter test xs)) x → (Contains (filter test xs) x → Contains xs x) → Contains (y ∷ xs) x
      by true k again =
          elim (first_or_later y x (filter test xs) k) [ inl same ↦ subst (Contains (y ∷ xs)) same (here y xs) | inr below ↦ later y x xs (again below) ]
      by false k again = later y x xs (again k)

module _ {X Y : Type 0} where
  -- an element that gives another
  record From (f : X → Y) (xs : List X) (y : Y) : Type 0 where
    from : X
    among : Contains xs from
    is : f from ≡ y

  of_mapped : (f : X → Y) (xs : List X) (y : Y) → Contains (map f xs) y → From f xs y
  of_mapped f [] y h = absurd (in_none y h)
  of_mapped f (x ∷ xs) y h =
      elim (first_or_later (f x) y (map f xs) h) [
        | inl same ↦ record { from = x; among = here x xs; is = same }
        | inr below ↦ let found = of_mapped f xs y below in record { from = found.from; among = later x found.from xs found.among; is = found.is }
      ]

  mapped : (f : X → Y) (xs : List X) (x : X) → Contains xs x → Contains (map f xs) (f x)
  mapped f [] x h = absurd (in_none x h)
  mapped f (y ∷ xs) x h =
      elim (first_or_later y x xs h) [
        | inl same ↦ subst (λ z. Contains (f y ∷ map f xs) (f z)) same (here (f y) (map f xs))
        | inr below ↦ later (f y) (f x) (map f xs) (mapped f xs x below)
      ]

  record Part (f : X → List Y) (xs : List X) (y : Y) : Type 0 where
    part : X
    among : Contains xs part
    within : Contains (f part) y

  of_flat : (f : X → List Y) (xs : List X) (y : Y) → Contains (flat_map f xs) y → Part f xs y
  of_flat f [] y h = absurd (in_none y h)
  of_flat f (x ∷ xs) y h =
      elim (Contains-append_cases (f x) (flat_map f xs) y h) [
        | inl first ↦ record { part = x; among = here x xs; within = first }
        | inr below ↦ let found = of_flat f xs y below in record { part = found.part; among = later x found.part xs found.among; within = found.within }
      ]

  flat : (f : X → List Y) (xs : List X) (x : X) (y : Y) → Contains xs x → Contains (f x) y → Contains (flat_map f xs) y
  flat f [] x y h k = absurd (in_none x h)
  flat f (z ∷ xs) x y h k =
      elim (first_or_later z x xs h) [
        | inl same ↦ Contains-append_left (f z) (flat_map f xs) y (subst (λ w. Contains (f w) y) (sym same) k)
        | inr below ↦ Contains-append_right (f z) (flat_map f xs) y (flat f xs x y below k)
      ]

  -- of two lists side by side
  record Beside (Q : X → Y → Type 0) (ys : List Y) (x : X) : Type 0 where
    other : Y
    among : Contains ys other
    is : Q x other

  beside : (Q : X → Y → Type 0) (xs : List X) (ys : List Y) (x : X) → AllZip Q xs ys → Contains xs x → Beside Q ys x
  beside Q [] ys x z h = absurd (in_none x h)
  beside Q (w ∷ xs) [] x z h = absurd z
  beside Q (w ∷ xs) (y ∷ ys) x z h =
      elim (first_or_later w x xs h) [
        | inl same ↦ record { other = y; among = here y ys; is = subst (λ v. Q v y) same z.0 }
        | inr below ↦ let found = beside Q xs ys x z.1 below in record { other = found.other; among = later y found.other ys found.among; is = found.is }
      ]

  record Before (Q : X → Y → Type 0) (xs : List X) (y : Y) : Type 0 where
    other : X
    among : Contains xs other
    is : Q other y

  before : (Q : X → Y → Type 0) (xs : List X) (ys : List Y) (y : Y) → AllZip Q xs ys → Contains ys y → Before Q xs y
  before Q xs [] y z h = absurd (in_none y h)
  before Q [] (w ∷ ys) y z h = absurd z
  before Q (x ∷ xs) (w ∷ ys) y z h =
      elim (first_or_later w y ys h) [
        | inl same ↦ record { other = x; among = here x xs; is = subst (Q x) same z.0 }
        | inr below ↦ let found = before Q xs ys y z.1 below in record { other = found.other; among = later x found.other xs found.among; is = found.is }
      ]

is_instr_of : (k : ItemKind) (i : Instr) → k ≡ kind.Instr i → is_instr k ≡ true
is_instr_of k i e = ap is_instr e

stands_for : (s : Source) (c : Coded) (stmt : Stmt) → Stands s c stmt → IsOfItem c.item stmt
stands_for s c stmt h = record { line = h.is.line; address = h.is.address; instr = h.kind_is ∙ ap (λ i. kind.Instr i) (sym h.is.instr) }

module _ (s : Source) (es : List Entry) (p : Program) (u : IsUnitOf s es p) where
  abbrev code_of : Routine → List Stmt
  code_of r = r.code

  abbrev items : List Item
  items = filter_map item_in es

  abbrev cs : List Coded
  cs = all_coded (begun es)

  abbrev item_of : Coded → Item
  item_of c = c.item

  moved : (stmt : Stmt) → Contains (flat_map code_of u.found) stmt → Contains (instructions p) stmt
  moved stmt h =
      let part = of_flat code_of u.found stmt h in
      flat code_of p.routines part.part stmt (Contains-permutation u.found p.routines part.part u.routines part.among) part.within

  moved_back : (stmt : Stmt) → Contains (instructions p) stmt → Contains (flat_map code_of u.found) stmt
  moved_back stmt h =
      let part = of_flat code_of p.routines stmt h in
      flat code_of u.found part.part stmt (Contains-permutation p.routines u.found part.part (IsPermutation-sym u.found p.routines u.routines) part.among) part.within

  abbrev all_instr : Item → Bool
  all_instr i = is_instr i.kind

  each_item : (item : Item) (i : Instr) → Contains items item → item.kind ≡ kind.Instr i → (stmt : Stmt) × Contains (instructions p) stmt × IsOfItem item stmt
  each_item item i h e =
      let listed = subst (λ l. Contains l item) (sym (instructions_are s es u.rules.right)) (filtered all_instr items item h (is_instr_of item.kind i e)) in
      let from = of_mapped item_of cs item listed in
      let found = beside (Stands s) cs (flat_map code_of u.found) from.from (found_code s p.areas es u.found u.each) from.among in
      (found.other, moved found.other found.among, subst (λ x. IsOfItem x found.other) from.is (stands_for s from.from found.other found.is))

  only_items : (stmt : Stmt) → Contains (instructions p) stmt → (item : Item) × Contains items item × IsOfItem item stmt
  only_items stmt h =
      let found = before (Stands s) cs (flat_map code_of u.found) stmt (found_code s p.areas es u.found u.each) (moved_back stmt h) in
      let listed = subst (λ l. Contains l found.other.item) (instructions_are s es u.rules.right) (mapped item_of cs found.other found.among) in
      (found.other.item, unfiltered all_instr items found.other.item listed, stands_for s found.other stmt found.is)

pub units_have_their_instructions : UnitsHaveTheirInstructions
units_have_their_instructions s es p u = record { each = each_item s es p u; only = only_items s es p u }
