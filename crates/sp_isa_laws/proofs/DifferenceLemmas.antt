-- Differences are found by trying: for each first byte and each location, two cores of which one has a 1 in A, and two other
-- values of the location.
use Rattle.std.proofs.Common.{◌≡◌, ◌≢◌, ◌⊎◌, ℕ, zero, suc, ◌<◌, Bool, true, false, ◌&&◌, ◌||◌, nat_eq, [], ◌∷◌, Option, Some, None, refl, sym, ap, ◌∙◌, inl, inr, arith, lit<, List}
use Rattle.std.specs.Prelude.{not, if◌then◌else◌, Contains}
use Rattle.std.proofs.lemmas.Bool.{cases_eq}
use Rattle.std.proofs.lemmas.Bool.Decides.{nat_tests}
use Rattle.sp_base.specs.declared.location.Loc.{Loc}
use Rattle.sp_base.specs.declared.location.Loc.TheVariants as loc
use Rattle.sp_base.specs.Locs.{has, none, only, both}
use Rattle.sp_isa.specs.declared.instr.Instr.{Instr}
use Rattle.sp_isa.specs.Arithmetic.{with_szp, add, compare, subtract, logic, alu, increase, decrease, add_pair, adjust, rotate}
use Rattle.sp_isa.specs.Core.{Core, at, cell, with_reg, with_sp, with_pc, with_cell, with_flag, with_halted, advance}
use Rattle.sp_isa.specs.Decode.{decode, form}
use Rattle.sp_isa.specs.Effect.{effect, gives_output}
use Rattle.sp_isa.specs.Locations.{reads, writes}
use Rattle.sp_isa.specs.Operands.{with_pair, with_arg}
use Rattle.sp_isa.specs.Stack.{push, with_flag_byte, push_pair, top_to, pop_pair, call, ret, exchange_top, exchange_pairs}
use Rattle.sp_isa_laws.specs.Differences.{DiffersAfter, in_location, in_cell, in_stack_pointer, in_program_counter, in_output, Matters, ReadsMatter, with_location}

-- ---- Tests

differ : ℕ → ℕ → Bool
differ m n = not (nat_eq m n)

apart : (m n : ℕ) → differ m n ≡ true → m ≢ n
unfolding differ
apart m n h e = grind (arith, nat_tests)

either : (a b : Bool) → (a || b) ≡ true → (a ≡ true) ⊎ (b ≡ true)
either true b h = inl refl
either false b h = inr h

both_hold : (a b : Bool) → (a && b) ≡ true → (a ≡ true) × (b ≡ true)
both_hold true b h = (refl, h)
both_hold false b h = absurd cc

abbrev byte_out : Option (ℕ × ℕ) → ℕ
byte_out None = 0
byte_out (Some p) = p.1

-- the locations
locations : List Loc
locations =
    loc.A ∷ loc.B ∷ loc.C ∷ loc.D ∷ loc.E ∷ loc.H ∷ loc.L ∷ loc.S ∷ loc.Z ∷ loc.Ac ∷ loc.P ∷ loc.Cy ∷ []

is_location : (x : Loc) → Contains locations x
unfolding locations
is_location loc.A = (0, lit< tt, refl)
is_location loc.B = (1, lit< tt, refl)
is_location loc.C = (2, lit< tt, refl)
is_location loc.D = (3, lit< tt, refl)
is_location loc.E = (4, lit< tt, refl)
is_location loc.H = (5, lit< tt, refl)
is_location loc.L = (6, lit< tt, refl)
is_location loc.S = (7, lit< tt, refl)
is_location loc.Z = (8, lit< tt, refl)
is_location loc.Ac = (9, lit< tt, refl)
is_location loc.P = (10, lit< tt, refl)
is_location loc.Cy = (11, lit< tt, refl)

-- one of these passes a test
some_of : (Loc → Bool) → List Loc → Bool
some_of test [] = false
some_of test (x ∷ xs) = test x || some_of test xs

one_found : (test : Loc → Bool) (xs : List Loc) → some_of test xs ≡ true → (x : Loc) × (test x ≡ true)
unfolding some_of
one_found test [] h = absurd cc
one_found test (x ∷ xs) h = elim (either (test x) (some_of test xs) h) [ inl here ↦ (x, here) | inr below ↦ one_found test xs below ]

-- all of these pass a test
all_of : (Loc → Bool) → List Loc → Bool
all_of test [] = true
all_of test (x ∷ xs) = test x && all_of test xs

each_of : (test : Loc → Bool) (xs : List Loc) → all_of test xs ≡ true → (x : Loc) → Contains xs x → test x ≡ true
unfolding all_of
each_of test [] h x (k, less, is) = absurd (omega arith)
each_of test (y ∷ xs) h x (zero, less, is) = ap test (sym is) ∙ (both_hold (test y) (all_of test xs) h).0
each_of test (y ∷ xs) h x (suc k, less, is) = each_of test xs (both_hold (test y) (all_of test xs) h).1 x (k, omega arith, is)

-- all numbers below one pass a test
all_below : (ℕ → Bool) → ℕ → Bool
all_below test zero = true
all_below test (suc n) = test n && all_below test n

each_below : (test : ℕ → Bool) (n : ℕ) → all_below test n ≡ true → (k : ℕ) → k < n → test k ≡ true
unfolding all_below
each_below test zero h k less = absurd (omega arith)
each_below test (suc n) h k less =
    let parts = both_hold (test n) (all_below test n) h in
    elim (cases_eq k n) [
      | inl same ↦ ap test same ∙ parts.0
      | inr other ↦ each_below test n parts.1 k (omega arith)
    ]

-- ---- Trying

abbrev base : ℕ → Core
base a = record {
  b = 0;
  c = 0;
  d = 0;
  e = 0;
  h = 0;
  l = 0;
  a = a;
  s = 0;
  z = 0;
  ac = 0;
  p = 0;
  cy = 0;
  sp = 0;
  pc = 0;
  halted = false;
  cells = 3 ∷ 0 ∷ 0 ∷ 0 ∷ 0 ∷ 0 ∷ 0 ∷ 0 ∷ [];
}

abbrev differs_at : Instr → Core → Core → Loc → Bool
differs_at i one two x = has x (writes i) && differ (at x one) (at x two)

abbrev differs_in_cell : ℕ → Core → Core → Bool
differs_in_cell a one two = differ (cell a one) (cell a two)

abbrev differs_after : Instr → Core → Core → Core → Core → Bool
differs_after i one two new other =
    some_of (differs_at i new other) locations
    || (differs_in_cell 0 new other || (differs_in_cell 5 new other || (differs_in_cell 6 new other
    || (differ new.sp other.sp || (differ new.pc other.pc || differ (byte_out (gives_output i one)) (byte_out (gives_output i two)))))))

abbrev differs : Instr → Core → Core → Bool
differs i one two = differs_after i one two (effect 0 i one) (effect 0 i two)

found : (i : Instr) (one two : Core) → differs i one two ≡ true → DiffersAfter i one two
found i one two h =
    let new = effect 0 i one in
    let other = effect 0 i two in
    elim (either (some_of (differs_at i new other) locations) _ h) [
      | inl here ↦
          let x = one_found (differs_at i new other) locations here in
          let parts = both_hold (has x.0 (writes i)) (differ (at x.0 new) (at x.0 other)) x.1 in
          in_location x.0 parts.0 (apart (at x.0 new) (at x.0 other) parts.1)
      | inr h0 ↦ elim (either (differs_in_cell 0 new other) _ h0) [
        | inl here ↦ in_cell 0 (apart (cell 0 new) (cell 0 other) here)
        | inr h5 ↦ elim (either (differs_in_cell 5 new other) _ h5) [
          | inl here ↦ in_cell 5 (apart (cell 5 new) (cell 5 other) here)
          | inr h6 ↦ elim (either (differs_in_cell 6 new other) _ h6) [
            | inl here ↦ in_cell 6 (apart (cell 6 new) (cell 6 other) here)
            | inr sp ↦ elim (either (differ new.sp other.sp) _ sp) [
              | inl here ↦ in_stack_pointer (apart new.sp other.sp here)
              | inr pc ↦ elim (either (differ new.pc other.pc) _ pc) [
                | inl here ↦ in_program_counter (apart new.pc other.pc here)
                | inr out ↦ in_output (λ e. apart (byte_out (gives_output i one)) (byte_out (gives_output i two)) out (ap byte_out e))
              ]
            ]
          ]
        ]
      ]
    ]

abbrev try_both : Instr → Loc → ℕ → Bool
try_both i x a = differs i (base a) (with_location x 1 (base a)) || differs i (base a) (with_location x 8 (base a))

abbrev matters : Instr → Loc → Bool
matters i x = try_both i x 0 || try_both i x 1

found_in : (i : Instr) (x : Loc) (a : ℕ) → try_both i x a ≡ true → Matters x i
found_in i x a h = elim (either (differs i (base a) (with_location x 1 (base a))) _ h) [
  | inl here ↦ (base a, 1, found i (base a) (with_location x 1 (base a)) here)
  | inr here ↦ (base a, 8, found i (base a) (with_location x 8 (base a)) here)
]

matters_is : (i : Instr) (x : Loc) → matters i x ≡ true → Matters x i
matters_is i x h = elim (either (try_both i x 0) (try_both i x 1) h) [ inl here ↦ found_in i x 0 here | inr here ↦ found_in i x 1 here ]

-- ---- All instructions

abbrev read_matters : Instr → Loc → Bool
read_matters i x = if has x (reads i) then matters i x else true

abbrev all_matter : Option (Instr × ℕ) → Bool
all_matter None = true
all_matter (Some p) = all_of (read_matters p.0) locations

abbrev byte_matters : ℕ → Bool
byte_matters first = all_matter (decode first 5 0)

table : all_below byte_matters 256 ≡ true
unfolding decode form has none only both effect with_szp add compare subtract logic alu increase decrease add_pair adjust rotate
    push with_flag_byte push_pair top_to pop_pair call ret exchange_top exchange_pairs with_pair with_arg with_reg with_sp with_pc with_cell
    with_flag with_halted advance lib.Count.ones differ locations some_of all_of all_below
table = refl

used : (i : Instr) (x : Loc) → read_matters i x ≡ true → has x (reads i) ≡ true → matters i x ≡ true
used i x h read = sym (ap (λ b. if b then matters i x else true) read) ∙ h

pub reads_matter : ReadsMatter
reads_matter first i length x less is read =
    let all = each_below byte_matters 256 table first less in
    let here : all_of (read_matters i) locations ≡ true = sym (ap all_matter is) ∙ all in
    matters_is i x (used i x (each_of (read_matters i) locations here x (is_location x)) read)
