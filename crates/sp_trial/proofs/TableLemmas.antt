-- The table of places, filled from the last instruction on.
use Rattle.std.proofs.Common.{◌≡◌, ◌≢◌, ℕ, suc, ◌+◌, ◌<◌, List, ◌∷◌, length, get_or, set, drop, inl, inr, sym, ap, ◌∙◌, arith, false, cond, Some}
use Rattle.std.specs.Prelude.{slice_get, nat_eq, slice_index}
use Rattle.std.proofs.Math.ListN.{length-set}
use Rattle.std.proofs.lemmas.Bool.{cases_eq, eq-eqb}
use Rattle.std.proofs.lemmas.Bool.Decides.{eqb_tells}
use Rattle.std.proofs.lemmas.List.{get_or-set_other, drop_more, drop_all}
use Rattle.std.proofs.lemmas.Grind.{get_or-set_at}
use Rattle.std.proofs.lemmas.Option.{slice_get-get_or}
use Rattle.sp_prog.specs.declared.routine.Stmt.{Stmt}
use Rattle.sp_trial.specs.Setup.{asserted_at}
use Rattle.sp_trial.specs.code.Tables.{asserts_of, asserts_before, IsTable}

before_is : (code : List Stmt) (place j : ℕ) (x : Stmt) → place ≡ suc j → slice_get code j ≡ Some x → asserts_before code place ≡ x.asserts
before_is code place j x e there = ap (asserts_before code) e ∙ ap asserts_of there

at_first : (x : Stmt) (rest : List Stmt) (a : ℕ) → x.addr ≡ a → asserted_at (x ∷ rest) a ≡ x.asserts
at_first x rest a e = ap (λ b. cond b x.asserts (asserted_at rest a)) (eq-eqb x.addr a e)

other : (n a : ℕ) → n ≢ a → nat_eq n a ≡ false
other n a ne = elim (eqb_tells n a) as (λ o. nat_eq n a ≡ false) [ inl p ↦ absurd (ne p.1) | inr p ↦ p.0 ]

at_later : (x : Stmt) (rest : List Stmt) (a : ℕ) → x.addr ≢ a → asserted_at (x ∷ rest) a ≡ asserted_at rest a
at_later x rest a ne = ap (λ b. cond b x.asserts (asserted_at rest a)) (other x.addr a ne)

pub empty_table : (code : List Stmt) (table : List ℕ) → length table ≡ 65536 → ((a : ℕ) → a < 65536 → slice_index table a ≡ 0) → IsTable code (drop (length code) code) table
empty_table code table size zeros = record {
  size = size;
  right = λ a low. ap (asserts_before code) (zeros a low) ∙ sym (ap (λ l. asserted_at l a) (drop_all (length code) code (omega arith)));
}

module _ (code : List Stmt) (place j : ℕ) (table : List ℕ) (x : Stmt) (next : place ≡ suc j) (within : j < length code) (there : x ≡ get_or code j x) (low : x.addr < 65536)
    (h : IsTable code (drop place code) table) where
  rest : drop j code ≡ x ∷ drop place code
  rest = let n : j + 1 ≡ place = omega (arith, next) in
      drop_more code j x within ∙ ap (λ k. get_or code j x ∷ drop k code) n ∙ ap (λ s. s ∷ drop place code) (sym there)

  at : slice_get code j ≡ Some x
  at = slice_get-get_or code j x within ∙ ap (λ s. Some s) (sym there)

  right : (a : ℕ) → a < 65536 → asserts_before code (slice_index (set table x.addr place) a) ≡ asserted_at (x ∷ drop place code) a
  right a lt =
      elim (cases_eq x.addr a) [
        | inl same ↦
            ap (asserts_before code) (get_or-set_at table x.addr a place 0 (sym same) (let s = h.size in omega (arith, s, low)))
            ∙ before_is code place j x next at
            ∙ sym (at_first x (drop place code) a same)
        | inr ne ↦
            ap (asserts_before code) (get_or-set_other table x.addr a place 0 (λ e. ne (sym e)))
            ∙ h.right a lt
            ∙ sym (at_later x (drop place code) a ne)
      ]

  pub one_more_place : IsTable code (drop j code) (set table x.addr place)
  one_more_place = record {
    size = length-set table x.addr place ∙ h.size;
    right = λ a lt. right a lt ∙ sym (ap (λ l. asserted_at l a) rest);
  }
