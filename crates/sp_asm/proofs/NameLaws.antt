-- The names that definitions give.
use Rattle.std.proofs.Common.{◌≡◌, ℕ, Bool, true, false, ◌||◌, ◌&&◌, not, cond, List, [], ◌∷◌, refl, sym, ap, ◌∙◌, fold, is_some}
use Rattle.std.specs.Prelude.{nat_eq, Option, Some, None}
use Rattle.std.specs.List.{list_any}
use Rattle.std.specs.Cmp.Lexicographic.{pointwise, nat_list_eq_equiv}
use Rattle.indexmap.specs.IndexMap.{insert_entry}
use Rattle.sp_asm.specs.Names.{Definition, Entries, with_definition, symbols, value_in, fixed}
use Rattle.sp_asm.specs.Assembly.{is_taken}

abbrev eq : List ℕ → List ℕ → Bool
eq = pointwise nat_eq

or_true : (b : Bool) → (b || true) ≡ true
or_true true = refl
or_true false = refl

or_swap : (a b c : Bool) → (a || (b || c)) ≡ (b || (a || c))
or_swap true true c = refl
or_swap true false c = refl
or_swap false true c = refl
or_swap false false c = refl

and_false : (a : Bool) → (a && false) ≡ false
and_false true = refl
and_false false = refl

and_true : (a : Bool) → (a && true) ≡ a
and_true true = refl
and_true false = refl

or_again : (a b : Bool) → (a || (a || b)) ≡ (a || b)
or_again true b = refl
or_again false b = refl

or_assoc : (a b c : Bool) → (b || (a || c)) ≡ ((a || b) || c)
or_assoc true true c = refl
or_assoc true false c = refl
or_assoc false true c = refl
or_assoc false false c = refl

or_false : (a : Bool) → (a || false) ≡ a
or_false true = refl
or_false false = refl

is_some_cond : (b : Bool) (v : ℕ) (rest : Option ℕ) → is_some (cond b (Some v) rest) ≡ (b || is_some rest)
is_some_cond true v rest = refl
is_some_cond false v rest = refl

-- a name is among entries with one more where it is that one or was among them
found-insert : (q k : List ℕ) (v : ℕ) (es : Entries) → is_some (value_in (insert_entry eq es k v) q) ≡ (eq q k || is_some (value_in es q))
found-insert q k v [] = is_some_cond (eq q k) v None
found-insert q k v (e ∷ es) = by (found-insert q k v es) (eq k e.0) refl
  where
    by : is_some (value_in (insert_entry eq es k v) q) ≡ (eq q k || is_some (value_in es q)) → (b : Bool) → eq k e.0 ≡ b → is_some (value_in (cond b ((e.0, v) ∷ es) (e ∷ insert_entry eq es k v)) q) ≡ (eq q k || is_some (value_in (e ∷ es) q))
    by below true same =
        let keys : eq q e.0 ≡ eq q k = nat_list_eq_equiv.symm q e.0 ∙ sym (nat_list_eq_equiv.congr k e.0 q same) ∙ nat_list_eq_equiv.symm k q in
        is_some_cond (eq q e.0) v (value_in es q)
        ∙ ap (λ b. b || is_some (value_in es q)) keys
        ∙ sym (or_again (eq q k) (is_some (value_in es q)))
        ∙ ap (λ b. eq q k || (b || is_some (value_in es q))) (sym keys)
        ∙ ap (λ b. eq q k || b) (sym (is_some_cond (eq q e.0) e.1 (value_in es q)))
    by below false other =
        is_some_cond (eq q e.0) e.1 (value_in (insert_entry eq es k v) q)
        ∙ ap (λ b. eq q e.0 || b) below
        ∙ or_swap (eq q e.0) (eq q k) (is_some (value_in es q))
        ∙ ap (λ b. eq q k || b) (sym (is_some_cond (eq q e.0) e.1 (value_in es q)))

found-fold : (q : List ℕ) (es : Entries) (ds : List Definition) → is_some (value_in (fold with_definition es ds) q) ≡ (list_any (λ d. eq q d.name) ds || is_some (value_in es q))
found-fold q es [] = refl
found-fold q es (d ∷ ds) =
    found-fold q (with_definition es d) ds
    ∙ ap (λ b. list_any (λ (e : Definition). eq q e.name) ds || b) (found-insert q d.name d.value es)
    ∙ or_assoc (eq q d.name) (list_any (λ (e : Definition). eq q e.name) ds) (is_some (value_in es q))

-- a name has a value where one of the definitions has it
pub found : (q : List ℕ) (ds : List Definition) → is_some (value_in (symbols ds) q) ≡ list_any (λ d. eq q d.name) ds
found q ds = found-fold q [] ds ∙ or_false (list_any (λ (d : Definition). eq q d.name) ds)

not_both : (a b : Bool) → (a && not (b && false)) ≡ a
not_both true true = refl
not_both true false = refl
not_both false b = refl

-- a name of a label or EQU is taken by any definition of it
pub taken_fixed : (ds : List Definition) (name : List ℕ) → is_taken ds (Some name) false ≡ is_some (value_in (symbols ds) name)
taken_fixed ds name = any_same (λ d. eq name d.name && not (d.by_set && false)) (λ d. eq name d.name) (λ d. not_both (eq name d.name) d.by_set) ds ∙ sym (found name ds)
  where
    any_same : (p r : Definition → Bool) → ((d : Definition) → p d ≡ r d) → (es : List Definition) → list_any p es ≡ list_any r es
    any_same p r h [] = refl
    any_same p r h (e ∷ es) = ap (λ b. b || list_any p es) (h e) ∙ ap (λ b. r e || b) (any_same p r h es)

any_fixed : (name : List ℕ) (ds : List Definition) → list_any (λ d. eq name d.name && not (d.by_set && true)) ds ≡ list_any (λ d. eq name d.name) (fixed ds)
any_fixed name [] = refl
any_fixed name (d ∷ ds) = one_more name d ds d.by_set (any_fixed name ds)
  where
    one_more : (name : List ℕ) (d : Definition) (ds : List Definition) (b : Bool) → list_any (λ e. eq name e.name && not (e.by_set && true)) ds ≡ list_any (λ e. eq name e.name) (fixed ds)
        → ((eq name d.name && not (b && true)) || list_any (λ e. eq name e.name && not (e.by_set && true)) ds) ≡ list_any (λ e. eq name e.name) (cond (not b) (d ∷ fixed ds) (fixed ds))
    one_more name d ds true h = ap (λ b. b || list_any (λ (e : Definition). eq name e.name && not (e.by_set && true)) ds) (and_false (eq name d.name)) ∙ h
    one_more name d ds false h = ap (λ b. b || list_any (λ (e : Definition). eq name e.name && not (e.by_set && true)) ds) (and_true (eq name d.name)) ∙ ap (λ b. eq name d.name || b) h

-- a name of SET is taken by a label or EQU alone
pub taken_set : (ds : List Definition) (name : List ℕ) → is_taken ds (Some name) true ≡ is_some (value_in (symbols (fixed ds)) name)
taken_set ds name = any_fixed name ds ∙ sym (found name (fixed ds))
