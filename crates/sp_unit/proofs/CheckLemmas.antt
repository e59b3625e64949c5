-- Lines that break no rule, with one line more.
use Rattle.std.proofs.Common.{◌≡◌, ◌⊎◌, inl, inr, ℕ, zero, suc, ◌<◌, ◌≤◌, List, [], ◌∷◌, ◌++◌, length, map, take, drop, get_or, Some, None, refl, sym, ap, subst, ◌∙◌, arith, append-nil, append_assoc}
use Rattle.sp_asm.proofs.SplitLaws.{head_is, tail_is}
use Rattle.sp_unit.specs.declared.refusal.UnitKind.{UnitKind}
use Rattle.sp_unit.specs.Lines.{Entry, line_of}
use Rattle.sp_unit.specs.Faults.{Source, fault, AreRight, IsFirstFault}

module _ {A : Type 0} where
  none_here : (front back : List A) (x : A) → [] ≡ front ++ x ∷ back → ⊥
  none_here [] back x e = cc
  none_here (f ∷ front) back x e = cc

  -- an element of a list with one more is the last one, or one above it
  pub last_or_above : (xs front back : List A) (p q : A) → xs ++ p ∷ [] ≡ front ++ q ∷ back
      → ((xs ≡ front) × (p ≡ q) × (back ≡ [])) ⊎ ((rest : List A) × (xs ≡ front ++ q ∷ rest) × (back ≡ rest ++ p ∷ []))
  last_or_above [] [] back p q e = inl (refl, head_is p q [] back e, sym (tail_is p q [] back e))
  last_or_above [] (f ∷ front) back p q e = absurd (none_here front back q (tail_is p f [] (front ++ q ∷ back) e))
  last_or_above (x ∷ xs) [] back p q e = inr (xs, ap (λ z. z ∷ xs) (head_is x q (xs ++ p ∷ []) back e), sym (tail_is x q (xs ++ p ∷ []) back e))
  last_or_above (x ∷ xs) (f ∷ front) back p q e =
      let first = head_is x f (xs ++ p ∷ []) (front ++ q ∷ back) e in
      elim (last_or_above xs front back p q (tail_is x f (xs ++ p ∷ []) (front ++ q ∷ back) e)) [
        | inl last ↦ inl (ap (λ l. x ∷ l) last.0 ∙ ap (λ z. z ∷ front) first, last.1, last.2)
        | inr found ↦ inr (found.0, ap (λ l. x ∷ l) found.1 ∙ ap (λ z. z ∷ (front ++ q ∷ found.0)) first, found.2)
      ]

module _ {A B : Type 0} (v : A → B) where
  -- what stands from a place on, and up to the next
  pub drop_is : (xs : List A) (i : ℕ) (d : A) → i < length xs → map v (drop i xs) ≡ v (get_or xs i d) ∷ map v (drop (suc i) xs)
  drop_is [] i d lt = absurd (omega (arith, lt))
  drop_is (x ∷ xs) zero d lt = refl
  drop_is (x ∷ xs) (suc i) d lt = drop_is xs i d (omega (arith, lt))

  pub take_is : (xs : List A) (i : ℕ) (d : A) → i < length xs → map v (take (suc i) xs) ≡ map v (take i xs) ++ v (get_or xs i d) ∷ []
  take_is [] i d lt = absurd (omega (arith, lt))
  take_is (x ∷ xs) zero d lt = refl
  take_is (x ∷ xs) (suc i) d lt = ap (λ l. v x ∷ l) (take_is xs i d (omega (arith, lt)))

  pub whole_is : (xs : List A) (i : ℕ) (d : A) → i < length xs → map v xs ≡ map v (take i xs) ++ v (get_or xs i d) ∷ map v (drop (suc i) xs)
  whole_is [] i d lt = absurd (omega (arith, lt))
  whole_is (x ∷ xs) zero d lt = refl
  whole_is (x ∷ xs) (suc i) d lt = ap (λ l. v x ∷ l) (whole_is xs i d (omega (arith, lt)))

  pub take_all : (xs : List A) (i : ℕ) → length xs ≤ i → map v (take i xs) ≡ map v xs
  take_all [] zero le = refl
  take_all [] (suc i) le = refl
  take_all (x ∷ xs) zero le = absurd (omega (arith, le))
  take_all (x ∷ xs) (suc i) le = ap (λ l. v x ∷ l) (take_all xs i (omega (arith, le)))

-- none of the lines above breaks a rule
abbrev pub AreRightAbove : Source → List Entry → List Entry → Type 0
AreRightAbove s above below = (front back : List Entry) (e : Entry) → above ≡ front ++ e ∷ back → fault s front e (back ++ below) ≡ None

pub right_none : (s : Source) (below : List Entry) → AreRightAbove s [] below
right_none s below front back e h = absurd (none_here front back e h)

pub right_more : (s : Source) (above below : List Entry) (e : Entry) → AreRightAbove s above (e ∷ below) → fault s above e below ≡ None → AreRightAbove s (above ++ e ∷ []) below
right_more s above below e right here front back x split =
    elim (last_or_above above front back e x split) [
      | inl last ↦
          ap (λ b. fault s front x (b ++ below)) last.2 ∙ ap (λ z. fault s front z below) (sym last.1) ∙ ap (λ f. fault s f e below) (sym last.0) ∙ here
      | inr found ↦
          ap (λ b. fault s front x (b ++ below)) found.2 ∙ ap (fault s front x) (append_assoc found.0 (e ∷ []) below) ∙ right front found.0 x found.1
    ]

pub right_all : (s : Source) (entries : List Entry) → AreRightAbove s entries [] → AreRight s entries
right_all s entries right above below e split = ap (fault s above e) (sym (append-nil below)) ∙ right above below e split

-- ---- One line more of a list

module _ {A : Type 0} (v : A → Entry) (xs : List A) (i j : ℕ) (e : A) (next : j ≡ suc i) (lt : i < length xs) (is : e ≡ get_or xs i e) where
  pub drop_next : map v (drop i xs) ≡ v e ∷ map v (drop j xs)
  drop_next = drop_is v xs i e lt ∙ ap (λ z. v z ∷ map v (drop (suc i) xs)) (sym is) ∙ ap (λ n. v e ∷ map v (drop n xs)) (sym next)

  pub take_next : map v (take j xs) ≡ map v (take i xs) ++ v e ∷ []
  take_next = ap (λ n. map v (take n xs)) next ∙ take_is v xs i e lt ∙ ap (λ z. map v (take i xs) ++ v z ∷ []) (sym is)

  pub whole_next : map v xs ≡ map v (take i xs) ++ v e ∷ map v (drop j xs)
  whole_next =
      whole_is v xs i e lt ∙ ap (λ z. map v (take i xs) ++ v z ∷ map v (drop (suc i) xs)) (sym is) ∙ ap (λ n. map v (take i xs) ++ v e ∷ map v (drop n xs)) (sym next)

  pub right_next : (s : Source) → AreRightAbove s (map v (take i xs)) (map v (drop i xs)) → fault s (map v (take i xs)) (v e) (map v (drop j xs)) ≡ None
      → AreRightAbove s (map v (take j xs)) (map v (drop j xs))
  right_next s right here =
      subst (λ l. AreRightAbove s l (map v (drop j xs))) (sym take_next)
      (right_more s (map v (take i xs)) (map v (drop j xs)) (v e) (subst (AreRightAbove s (map v (take i xs))) drop_next right) here)

  pub fault_found : (s : Source) (kind : UnitKind) (line : ℕ) → AreRightAbove s (map v (take i xs)) (map v (drop i xs))
      → Some kind ≡ fault s (map v (take i xs)) (v e) (map v (drop j xs)) → line ≡ line_of (v e) → IsFirstFault s (map v xs) line kind
  fault_found s kind line right here at = record {
    above = map v (take i xs);
    broken = v e;
    below = map v (drop j xs);
    whole = whole_next;
    at = sym at;
    breaks = sym here;
    first = subst (AreRightAbove s (map v (take i xs))) drop_next right;
  }
