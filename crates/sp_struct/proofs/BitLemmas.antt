-- Numbers in sets of bits.
use Rattle.std.proofs.Common.{◌≡◌, ◌<◌, ◌≤◌, ◌+◌, ◌*◌, ◌/◌, ◌%◌, ◌^◌, ℕ, zero, suc, max, inl, inr, arith, List, length, get_or, set, get_or-set_same, get_or-set_other, refl, sym, ap, ◌∙◌, bit_or, w64}
use Rattle.std.specs.Prelude.{◌||◌, nat_eq}
use Rattle.std.specs.Int.{bit_at}
use Rattle.std.proofs.Math.Bool.{or-true, or-false}
use Rattle.std.proofs.Math.Nat.{div-add-mod}
use Rattle.std.proofs.lemmas.Bool.{cases_eq, cases_lt, eq-eqb, ne_eqb}
use Rattle.std.proofs.lemmas.List.{get_or_past, length-set}
use Rattle.std.proofs.lemmas.Nat.Bits.{bit_at_or, bit_at-lt, bit_at-zero, bit_at_set_same, bit_at_set_other}
use Rattle.sp_struct.specs.code.Bits.{has, JoinedBefore}

-- ---- Putting

whole : (i n : ℕ) → i / 64 ≡ n / 64 → i % 64 ≡ n % 64 → i ≡ n
whole i n d m = let a = div-add-mod i 64 in let b = div-add-mod n 64 in omega (arith, d, m, a, b)

module _ (words : List ℕ) (n : ℕ) (l : n / 64 < length words) where
  abbrev new : List ℕ
  new = set words (n / 64) (bit_or (get_or words (n / 64) 0) (1 * 2 ^ (n % 64) % 2 ^ 64))

  low : n % 64 < 64
  low = omega arith

  in_word : (i : ℕ) → i / 64 ≡ n / 64 → get_or new (i / 64) 0 ≡ bit_or (get_or words (n / 64) 0) (1 * 2 ^ (n % 64) % 2 ^ 64)
  in_word i e = rw e (get_or-set_same words (n / 64) (bit_or (get_or words (n / 64) 0) (1 * 2 ^ (n % 64) % 2 ^ 64)) 0 l)

  pub put_has : (i : ℕ) → has new i ≡ (has words i || nat_eq i n)
  put_has i = elim (cases_eq (i / 64) (n / 64)) as (λ o. has new i ≡ (has words i || nat_eq i n)) [
    | inl d ↦ elim (cases_eq (i % 64) (n % 64)) as (λ o. has new i ≡ (has words i || nat_eq i n)) [
      | inl m ↦
          ap (λ v. nat_eq (bit_at v (i % 64)) 1) (in_word i d)
          ∙ ap (λ k. nat_eq (bit_at (bit_or (get_or words (n / 64) 0) (1 * 2 ^ (n % 64) % 2 ^ 64)) k) 1) m
          ∙ ap (λ v. nat_eq v 1) (bit_at_set_same w64 (get_or words (n / 64) 0) (n % 64) low)
          ∙ sym (ap (λ b. has words i || b) (eq-eqb i n (whole i n d m)) ∙ or-true (has words i))
      | inr ne ↦
          ap (λ v. nat_eq (bit_at v (i % 64)) 1) (in_word i d)
          ∙ ap (λ v. nat_eq v 1) (bit_at_set_other w64 (get_or words (n / 64) 0) (n % 64) low (i % 64) ne)
          ∙ ap (λ k. nat_eq (bit_at (get_or words k 0) (i % 64)) 1) (sym d)
          ∙ sym (ap (λ b. has words i || b) (ne_eqb i n (λ e. ne (ap (λ k. k % 64) e))) ∙ or-false (has words i))
    ]
    | inr ne ↦
        ap (λ v. nat_eq (bit_at v (i % 64)) 1) (get_or-set_other words (n / 64) (i / 64) (bit_or (get_or words (n / 64) 0) (1 * 2 ^ (n % 64) % 2 ^ 64)) 0 ne)
        ∙ sym (ap (λ b. has words i || b) (ne_eqb i n (λ e. ne (ap (λ k. k / 64) e))) ∙ or-false (has words i))
  ]

-- ---- Joining

max_bit : (x y : ℕ) → x < 2 → y < 2 → nat_eq (max x y) 1 ≡ (nat_eq x 1 || nat_eq y 1)
max_bit zero zero l m = refl
max_bit zero (suc zero) l m = refl
max_bit (suc zero) zero l m = refl
max_bit (suc zero) (suc zero) l m = refl
max_bit (suc (suc x)) y l m = absurd (omega arith)
max_bit zero (suc (suc y)) l m = absurd (omega arith)
max_bit (suc zero) (suc (suc y)) l m = absurd (omega arith)

or_has : (a b k : ℕ) → nat_eq (bit_at (bit_or a b) k) 1 ≡ (nat_eq (bit_at a k) 1 || nat_eq (bit_at b k) 1)
or_has a b k = ap (λ v. nat_eq v 1) (bit_at_or a b k) ∙ max_bit (bit_at a k) (bit_at b k) (bit_at-lt a k) (bit_at-lt b k)

module _ (old other : List ℕ) where
  pub joined_none : JoinedBefore old other 0 old
  joined_none = record { size = refl; joined = λ w l. absurd (omega arith); kept = λ w l. refl }

  pub joined_more : (at : ℕ) (new : List ℕ) (a b : ℕ) → at < length old → JoinedBefore old other at new → a ≡ get_or new at 0 → b ≡ get_or other at 0 → JoinedBefore old other (at + 1) (set new at (bit_or a b))
  joined_more at new a b l j e f = record {
    size = length-set new at (bit_or a b) ∙ j.size;
    joined = λ w less. elim (cases_eq w at) as (λ o. get_or (set new at (bit_or a b)) w 0 ≡ bit_or (get_or old w 0) (get_or other w 0)) [
      | inl same ↦
          let n = j.size in
          rw same (get_or-set_same new at (bit_or a b) 0 (omega (arith, l, n)) ∙ (λ i. bit_or ((e ∙ j.kept at (omega arith)) i) (f i)))
      | inr ne ↦ get_or-set_other new at w (bit_or a b) 0 ne ∙ j.joined w (omega (arith, less, ne))
    ];
    kept = λ w above. get_or-set_other new at w (bit_or a b) 0 (λ e. omega (arith, e, above)) ∙ j.kept w (omega (arith, above));
  }

  pub joined_all : (at : ℕ) (new : List ℕ) → JoinedBefore old other at new → length old ≤ at → length old ≡ length other →
      (i : ℕ) → has new i ≡ (has old i || has other i)
  joined_all at new j past size i = elim (cases_lt (i / 64) at) as (λ o. has new i ≡ (has old i || has other i)) [
    | inl l ↦ ap (λ v. nat_eq (bit_at v (i % 64)) 1) (j.joined (i / 64) l) ∙ or_has (get_or old (i / 64) 0) (get_or other (i / 64) 0) (i % 64)
    | inr l ↦
        ap (λ v. nat_eq (bit_at v (i % 64)) 1) (j.kept (i / 64) l)
        ∙ sym (ap (λ b. has old i || b) (ap (λ v. nat_eq (bit_at v (i % 64)) 1) (get_or_past other (i / 64) 0 (omega (arith, l, past, size))) ∙ ap (λ v. nat_eq v 1) (bit_at-zero (i % 64)))
        ∙ or-false (has old i))
  ]
