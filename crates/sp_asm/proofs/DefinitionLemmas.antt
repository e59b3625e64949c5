-- The value of a name is that of its last definition.
use Rattle.std.proofs.Common.{◌≡◌, ◌⊎◌, inl, inr, ℕ, Bool, true, false, cond, List, [], ◌∷◌, ◌++◌, fold, map, Option, Some, None, refl, sym, ap, subst, ◌∙◌}
use Rattle.std.specs.Prelude.{nat_eq, not, filter}
use Rattle.std.specs.Cmp.Lexicographic.{pointwise, same_text, nat_list_eq_equiv}
use Rattle.std.proofs.lemmas.Bool.{cases_Bool}
use Rattle.indexmap.specs.IndexMap.{insert_entry}
use Rattle.sp_asm.specs.Names.{Definition, definition, Entries, with_definition, symbols, value_in, fixed, by_set}

abbrev pub eq : List ℕ → List ℕ → Bool
eq = pointwise nat_eq

-- of two values the second, where there is one
abbrev pub or_last : Option ℕ → Option ℕ → Option ℕ
or_last (Some v) before = Some v
or_last None before = before

abbrev pub value_if : Bool → ℕ → Option ℕ
value_if b v = cond b (Some v) None

-- the value of the last definition of a name
abbrev pub last_of : List ℕ → List Definition → Option ℕ
last_of name [] = None
last_of name (d ∷ ds) = or_last (last_of name ds) (value_if (eq name d.name) d.value)

or_none : (a : Option ℕ) → or_last a None ≡ a
or_none None = refl
or_none (Some v) = refl

or_assoc : (a b c : Option ℕ) → or_last a (or_last b c) ≡ or_last (or_last a b) c
or_assoc None b c = refl
or_assoc (Some v) b c = refl

-- ---- Tables of names

inserted_here : (b : Bool) (v w : ℕ) (rest : Option ℕ) → cond b (Some v) rest ≡ or_last (value_if b v) (cond b (Some w) rest)
inserted_here true v w rest = refl
inserted_here false v w rest = refl

inserted_below : (here there : Bool) (v w : ℕ) (rest : Option ℕ) → (here ≡ true → there ≡ true → ⊥) → cond here (Some w) (or_last (value_if there v) rest) ≡ or_last (value_if there v) (cond here (Some w) rest)
inserted_below true true v w rest apart = absurd (apart refl refl)
inserted_below true false v w rest apart = refl
inserted_below false there v w rest apart = refl

value-insert : (q k : List ℕ) (v : ℕ) (es : Entries) → value_in (insert_entry eq es k v) q ≡ or_last (value_if (eq q k) v) (value_in es q)
value-insert q k v [] = sym (or_none (value_if (eq q k) v))
value-insert q k v (e ∷ es) = by (value-insert q k v es) (eq k e.0) refl
  where
    by : value_in (insert_entry eq es k v) q ≡ or_last (value_if (eq q k) v) (value_in es q) → (b : Bool) → eq k e.0 ≡ b
        → value_in (cond b ((e.0, v) ∷ es) (e ∷ insert_entry eq es k v)) q ≡ or_last (value_if (eq q k) v) (value_in (e ∷ es) q)
    by below true same =
        let keys : eq q k ≡ eq q e.0 = nat_list_eq_equiv.symm q k ∙ nat_list_eq_equiv.congr k e.0 q same ∙ nat_list_eq_equiv.symm e.0 q in
        inserted_here (eq q e.0) v e.1 (value_in es q) ∙ ap (λ b. or_last (value_if b v) (value_in (e ∷ es) q)) (sym keys)
    by below false other =
        let apart : eq q e.0 ≡ true → eq q k ≡ true → ⊥ = λ here there. (let same = nat_list_eq_equiv.congr q k e.0 there in cc) in
        ap (λ o. cond (eq q e.0) (Some e.1) o) below ∙ inserted_below (eq q e.0) (eq q k) v e.1 (value_in es q) apart

value-fold : (name : List ℕ) (es : Entries) (ds : List Definition) → value_in (fold with_definition es ds) name ≡ or_last (last_of name ds) (value_in es name)
value-fold name es [] = refl
value-fold name es (d ∷ ds) =
    value-fold name (with_definition es d) ds
    ∙ ap (or_last (last_of name ds)) (value-insert name d.name d.value es)
    ∙ or_assoc (last_of name ds) (value_if (eq name d.name) d.value) (value_in es name)

pub value-symbols : (name : List ℕ) (ds : List Definition) → value_in (symbols ds) name ≡ last_of name ds
value-symbols name ds = value-fold name [] ds ∙ or_none (last_of name ds)

-- ---- Definitions one after another

pub last-append : (name : List ℕ) (xs ys : List Definition) → last_of name (xs ++ ys) ≡ or_last (last_of name ys) (last_of name xs)
last-append name [] ys = sym (or_none (last_of name ys))
last-append name (d ∷ xs) ys =
    ap (λ o. or_last o (value_if (eq name d.name) d.value)) (last-append name xs ys) ∙ sym (or_assoc (last_of name ys) (last_of name xs) (value_if (eq name d.name) d.value))

or_is_none : (a b : Option ℕ) → or_last a b ≡ None → (a ≡ None) × (b ≡ None)
or_is_none None b e = (refl, e)
or_is_none (Some v) b e = absurd cc

module _ (name : List ℕ) where
  fixed_alone : (ds : List Definition) → last_of name (by_set ds) ≡ None → last_of name ds ≡ last_of name (fixed ds)
  fixed_alone [] e = refl
  fixed_alone (d ∷ ds) e = by d.by_set e (fixed_alone ds)
    where
      by : (b : Bool) → last_of name (cond b (d ∷ by_set ds) (by_set ds)) ≡ None → (last_of name (by_set ds) ≡ None → last_of name ds ≡ last_of name (fixed ds))
          → last_of name (d ∷ ds) ≡ last_of name (cond (not b) (d ∷ fixed ds) (fixed ds))
      by true e below =
          let parts = or_is_none (last_of name (by_set ds)) (value_if (eq name d.name) d.value) e in
          ap (or_last (last_of name ds)) parts.1 ∙ or_none (last_of name ds) ∙ below parts.0
      by false e below = ap (λ o. or_last o (value_if (eq name d.name) d.value)) (below e)

  set_alone : (ds : List Definition) → last_of name (fixed ds) ≡ None → last_of name ds ≡ last_of name (by_set ds)
  set_alone [] e = refl
  set_alone (d ∷ ds) e = by d.by_set e (set_alone ds)
    where
      by : (b : Bool) → last_of name (cond (not b) (d ∷ fixed ds) (fixed ds)) ≡ None → (last_of name (fixed ds) ≡ None → last_of name ds ≡ last_of name (by_set ds))
          → last_of name (d ∷ ds) ≡ last_of name (cond b (d ∷ by_set ds) (by_set ds))
      by false e below =
          let parts = or_is_none (last_of name (fixed ds)) (value_if (eq name d.name) d.value) e in
          ap (or_last (last_of name ds)) parts.1 ∙ or_none (last_of name ds) ∙ below parts.0
      by true e below = ap (λ o. or_last o (value_if (eq name d.name) d.value)) (below e)

  some_is_not_none : (v : ℕ) (o : Option ℕ) → o ≡ Some v → o ≡ None → ⊥
  some_is_not_none v o e f = cc

  -- where not both SET and others define a name, it has the value of those that do
  pub last_either : (ds : List Definition) → ((v w : ℕ) → last_of name (by_set ds) ≡ Some v → last_of name (fixed ds) ≡ Some w → ⊥)
      → last_of name ds ≡ or_last (last_of name (by_set ds)) (last_of name (fixed ds))
  last_either ds apart = by (last_of name (by_set ds)) (last_of name (fixed ds)) refl refl
    where
      by : (a b : Option ℕ) → last_of name (by_set ds) ≡ a → last_of name (fixed ds) ≡ b → last_of name ds ≡ or_last a b
      by None b e f = fixed_alone ds e ∙ f
      by (Some v) None e f = set_alone ds f ∙ e
      by (Some v) (Some w) e f = absurd (apart v w e f)

-- a name is equal to itself
pub eq_same : (name : List ℕ) → eq name name ≡ true
eq_same name = nat_list_eq_equiv.refl name
