-- What sets of locations have.
use Rattle.std.proofs.Common.{◌≡◌, ◌≢◌, ℕ, ◌^◌, true, false, refl, sym, ap, ◌∙◌, arith, cond}
use Rattle.std.specs.Prelude.{◌==◌, ◌||◌, ◌↔◌, IsTrue, not}
use Rattle.std.specs.Int.{bit_at}
use Rattle.std.specs.Int.RustNames.{bit_and}
use Rattle.std.proofs.lemmas.Bool.Decides.{nat_tests}
use Rattle.std.proofs.lemmas.Nat.Bits.{and_pow, bit_at_or, bit_at-lt, bit_at-zero, bit_at-pow_same, bit_at-pow_other}
use Rattle.std.proofs.lemmas.Nat.{pow_pos}
use Rattle.sp_base.specs.declared.location.Loc.{Loc}
use Rattle.sp_base.specs.declared.location.Loc.TheVariants as loc
use Rattle.sp_base.specs.declared.locs.Locs.{Locs}
use Rattle.sp_base.specs.Locs.{place, has, none, only, both}

pub has_none : (x : Loc) → has x none ≡ false
unfolding has none
has_none x = rw (bit_at-zero (place x)) refl

-- the location of a place
abbrev of_place : ℕ → Loc
of_place n = cond (n == 0) loc.A (cond (n == 1) loc.B (cond (n == 2) loc.C (cond (n == 3) loc.D (cond (n == 4) loc.E (cond (n == 5) loc.H
    (cond (n == 6) loc.L (cond (n == 7) loc.S (cond (n == 8) loc.Z (cond (n == 9) loc.Ac (cond (n == 10) loc.P loc.Cy))))))))))

of-place : (x : Loc) → of_place (place x) ≡ x
of-place loc.A = refl
of-place loc.B = refl
of-place loc.C = refl
of-place loc.D = refl
of-place loc.E = refl
of-place loc.H = refl
of-place loc.L = refl
of-place loc.S = refl
of-place loc.Z = refl
of-place loc.Ac = refl
of-place loc.P = refl
of-place loc.Cy = refl

-- locations of one place are one
pub same_place : (x y : Loc) → place x ≡ place y → x ≡ y
same_place x y e = sym (of-place x) ∙ ap of_place e ∙ of-place y

only_this : (x y : Loc) → IsTrue (has y (only x)) → y ≡ x
unfolding has only
only_this x y h =
    elim (place y == place x) as (λ b. (place y == place x) ≡ b → y ≡ x) [
      | true ↦ λ e. same_place y x (grind (arith, nat_tests))
      | false ↦ λ e. let other : place y ≢ place x = grind (arith, nat_tests) in let zero = bit_at-pow_other (place x) (place y) other in absurd (grind (arith, nat_tests))
    ] refl

has_this : (x y : Loc) → y ≡ x → IsTrue (has y (only x))
unfolding has only
has_this x y e = rw (e, bit_at-pow_same (place x)) refl

pub has_only : (x y : Loc) → IsTrue (has y (only x)) ↔ (y ≡ x)
has_only x y = (only_this x y, has_this x y)

pub has_both : (a b : Locs) (x : Loc) → has x (both a b) ≡ (has x a || has x b)
unfolding has both
has_both a b x =
    let either = bit_at_or a.0 b.0 (place x) in
    let low = bit_at-lt a.0 (place x) in
    let lower = bit_at-lt b.0 (place x) in
    grind (arith, nat_tests)

pub has_by_bit : (x : Loc) (locs : Locs) → has x locs ≡ not (bit_and locs.0 (2 ^ place x) == 0)
unfolding has
has_by_bit x locs =
    let bit = and_pow locs.0 (place x) in
    let low = bit_at-lt locs.0 (place x) in
    let some = pow_pos (place x) in
    elim (bit_at locs.0 (place x) == 1) as (λ b. (bit_at locs.0 (place x) == 1) ≡ b → b ≡ not (bit_and locs.0 (2 ^ place x) == 0)) [
      | true ↦ λ e. let one : bit_at locs.0 (place x) ≡ 1 = grind (arith, nat_tests) in rw (bit, one) (grind (arith, nat_tests))
      | false ↦ λ e. let zero : bit_at locs.0 (place x) ≡ 0 = grind (arith, nat_tests) in rw (bit, zero) (grind (arith, nat_tests))
    ] refl
