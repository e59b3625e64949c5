-- The values of operands, one after another.
use Rattle.std.proofs.Common.{◌≡◌, ℕ, ◌+◌, ◌<◌, ◌≤◌, true, false, ◌&&◌, List, [], ◌∷◌, ◌++◌, length, get_or, take, drop, Option, refl, sym, ap, subst, ◌∙◌, arith, add-one}
use Rattle.std.proofs.Math.ListN.{drop_of_length-le}
use Rattle.std.proofs.Math.Seq.{take-suc}
use Rattle.std.proofs.lemmas.List.{drop_more}
use Rattle.sp_stmt.specs.declared.operand.Operand.{Operand}
use Rattle.sp_asm.specs.Values.{IsValue, AreValues, is_in_range, are_in_range}

pub values_length : (names : List ℕ → Option ℕ) (here : ℕ) (operands : List Operand) (values : List ℕ) → AreValues names here operands values → length values ≡ length operands
values_length names here [] [] h = refl
values_length names here [] (v ∷ values) h = absurd h
values_length names here (o ∷ operands) [] h = absurd h
values_length names here (o ∷ operands) (v ∷ values) h = omega (arith, values_length names here operands values h.1)

-- one value more, for one operand more
values_push : (names : List ℕ → Option ℕ) (here : ℕ) (operands : List Operand) (values : List ℕ) (o : Operand) (v : ℕ)
    → AreValues names here operands values → IsValue names here o v → AreValues names here (operands ++ o ∷ []) (values ++ v ∷ [])
values_push names here [] [] o v h one = (one, tt)
values_push names here [] (w ∷ values) o v h one = absurd h
values_push names here (p ∷ operands) [] o v h one = absurd h
values_push names here (p ∷ operands) (w ∷ values) o v h one = (h.0, values_push names here operands values o v h.1 one)

pub values_more : (names : List ℕ → Option ℕ) (here : ℕ) (operands : List Operand) (i : ℕ) (values : List ℕ) (o : Operand) (v : ℕ)
    → i < length operands → o ≡ get_or operands i o → AreValues names here (take i operands) values → IsValue names here o v → AreValues names here (take (i + 1) operands) (values ++ v ∷ [])
values_more names here operands i values o v lt is h one =
    let next : take (i + 1) operands ≡ take i operands ++ o ∷ [] = rw add-one (take-suc operands i o lt ∙ ap (λ (x : Operand). take i operands ++ x ∷ []) (sym is)) in
    subst (λ (x : List Operand). AreValues names here x (values ++ v ∷ [])) (sym next) (values_push names here (take i operands) values o v h one)

-- ---- Ranges

module _ (operands : List Operand) (values : List ℕ) (i : ℕ) (o : Operand) (same : length values ≡ length operands) (lt : i < length operands) (is : o ≡ get_or operands i o) where
  range_now : are_in_range (drop i operands) (drop i values) ≡ (is_in_range o (get_or values i 0) && are_in_range (drop (i + 1) operands) (drop (i + 1) values))
  unfolding are_in_range
  range_now =
      ap (λ (x : List Operand). are_in_range x (drop i values)) (drop_more operands i o lt ∙ ap (λ (x : Operand). x ∷ drop (i + 1) operands) (sym is))
      ∙ ap (are_in_range (o ∷ drop (i + 1) operands)) (drop_more values i 0 (omega arith))

  pub ranges_more : is_in_range o (get_or values i 0) ≡ true → are_in_range (drop (i + 1) operands) (drop (i + 1) values) ≡ are_in_range (drop i operands) (drop i values)
  ranges_more within = sym (range_now ∙ ap (λ b. b && are_in_range (drop (i + 1) operands) (drop (i + 1) values)) within)

  pub ranges_stop : is_in_range o (get_or values i 0) ≡ false → false ≡ are_in_range (drop i operands) (drop i values)
  ranges_stop outside = sym (range_now ∙ ap (λ b. b && are_in_range (drop (i + 1) operands) (drop (i + 1) values)) outside)

pub ranges_all : (operands : List Operand) (values : List ℕ) (i : ℕ) → length operands ≤ i → true ≡ are_in_range (drop i operands) (drop i values)
unfolding are_in_range
ranges_all operands values i all = sym (ap (λ (x : List Operand). are_in_range x (drop i values)) (drop_of_length-le operands all))
