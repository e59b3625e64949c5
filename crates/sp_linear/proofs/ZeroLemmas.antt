-- The test of all products but the empty one.
use Rattle.std.proofs.Common.{ℕ, zero, suc, ◌+◌, ◌<◌, ◌≡◌, refl, ap, sym, subst, ◌∙◌, pos, Bool, true, false, List, [], ◌∷◌, length, get_or, take, arith}
use Rattle.std.specs.Prelude.{◌&&◌, ◌||◌, nat_eq}
use Rattle.std.specs.Ordering.{int_eq}
use Rattle.sp_linear.specs.Polynomials.{Monomial, coefficient}
use Rattle.sp_linear.specs.code.Tests.{is_empty, zero_apart}

abbrev pub test : List (Monomial ℕ) → Monomial ℕ → Bool
test all m = is_empty m.atoms || int_eq (coefficient nat_eq m.atoms all) (pos 0)

more : (a b c : Bool) → a && b ≡ true → (b ≡ true → c ≡ true) → a && c ≡ true
more true b c h k = k h
more false b c h k = h

fails : (a b : Bool) → b ≡ false → a && b ≡ false
fails true b h = h
fails false b h = refl

pub zero-more : (all ms : List (Monomial ℕ)) (i : ℕ) (d : Monomial ℕ) → i < length ms → zero_apart nat_eq all (take i ms) ≡ true → test all (get_or ms i d) ≡ true → zero_apart nat_eq all (take (i + 1) ms) ≡ true
zero-more all [] i d h is e = absurd (omega (arith, h))
zero-more all (m ∷ ms) zero d h is e = ap (λ b. b && true) e
zero-more all (m ∷ ms) (suc i) d h is e =
    let k : suc i + 1 ≡ suc (i + 1) = omega arith in
    rw k (more (test all m) (zero_apart nat_eq all (take i ms)) (zero_apart nat_eq all (take (i + 1) ms)) is (λ r. zero-more all ms i d (omega (arith, h)) r e))

pub zero-fails : (all ms : List (Monomial ℕ)) (i : ℕ) (d : Monomial ℕ) → i < length ms → test all (get_or ms i d) ≡ false → zero_apart nat_eq all ms ≡ false
zero-fails all [] i d h e = absurd (omega (arith, h))
zero-fails all (m ∷ ms) zero d h e = ap (λ b. b && zero_apart nat_eq all ms) e
zero-fails all (m ∷ ms) (suc i) d h e = fails (test all m) (zero_apart nat_eq all ms) (zero-fails all ms i d (omega (arith, h)) e)

-- at a place of the polynomial itself
pub fails_at : (all items : List (Monomial ℕ)) → items ≡ all → (i : ℕ) (m : Monomial ℕ) (b : Bool) → i < length items → m ≡ get_or items i m → b ≡ test all m → b ≡ false → false ≡ zero_apart nat_eq all all
fails_at all items e i m b h is found k =
    let f : test all (get_or items i m) ≡ false = ap (test all) (sym is) ∙ sym found ∙ k in
    sym (zero-fails all all i m (subst (λ (l : List (Monomial ℕ)). i < length l) e h) (subst (λ (l : List (Monomial ℕ)). test all (get_or l i m) ≡ false) e f))

pub more_at : (all items : List (Monomial ℕ)) → items ≡ all → (i : ℕ) (m : Monomial ℕ) (b : Bool) → i < length items → m ≡ get_or items i m → b ≡ test all m → b ≡ true → zero_apart nat_eq all (take i all) ≡ true → zero_apart nat_eq all (take (i + 1) all) ≡ true
more_at all items e i m b h is found k before =
    let f : test all (get_or items i m) ≡ true = ap (test all) (sym is) ∙ sym found ∙ k in
    zero-more all all i m (subst (λ (l : List (Monomial ℕ)). i < length l) e h) before (subst (λ (l : List (Monomial ℕ)). test all (get_or l i m) ≡ true) e f)
