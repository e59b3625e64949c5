-- What a search in the table finds, and what an appended entry leaves true.
use Rattle.std.proofs.Common.{ℕ, ◌+◌, ◌<◌, ◌≡◌, List, [], ◌∷◌, ◌++◌, length, Bool, true, false, true≢false, Option, Some, None, option_map, position, slice_get, get_or, refl, sym, ◌∙◌, ap, subst, arith, IfNone, cond, is_some, zero, suc, ◌⊎◌, inl, inr}
use Rattle.std.proofs.lemmas.Map.Entries.{place_from_lookup}
use Rattle.std.proofs.lemmas.Option.{slice_get-map, get_or_from_slice_get, slice_get-get_or, slice_get_within}
use Rattle.std.proofs.lemmas.List.{length-map, map-append, length-append}
use Rattle.std.proofs.Math.ListN.{get_or-append}
use Rattle.std.proofs.Math.Seq.{get_or-append_seam}
use Rattle.std.proofs.lemmas.List.Quantifiers.{position-Some}
use Rattle.std.specs.Map.{keys_of, lookup}
use Rattle.indexmap.specs.IndexMap.{insert_entry}
use Rattle.indexmap.proofs.MapLemmas.{insert_entry-absent, absent_from_lookup}
use Rattle.sp_term.specs.Tree.{Tree, Truth}
use Rattle.sp_term.specs.declared.shape.Shape.{Shape}
use Rattle.sp_term.specs.declared.shape.Shape.TheVariants.{Truth}
use Rattle.sp_term.specs.declared.pool.Entry.{Entry}
use Rattle.sp_term.specs.Intervals.{interval}
use Rattle.sp_term.specs.Pools.{tree_at, shape_tree, IsBelow, IsDistinct, IsPlace, IsAbsent, Grows}
use Rattle.sp_term.specs.code.Table.{trees_in, IsTable, IsMade}
use Rattle.sp_term.specs.contracts.shape.ShapePartialEq.TheImpl.{eq-value}
use Rattle.sp_term.proofs.TableLemmas.{entry_shape, entry_below}
use Rattle.sp_term.proofs.ShapeEqualityLemmas.{shape_same, shape_self, shape_one}
use Rattle.sp_term.proofs.ShapeLemmas.{shape_below, shape_grown}

-- each place of the list has an entry
there : (es : List (Shape × Entry)) (k : ℕ) → k < length es → (s : Shape) × (e : Entry) × (slice_get es k ≡ Some (s, e))
there [] k h = absurd (omega arith)
there (e ∷ es) k h = let g = slice_get-get_or (e ∷ es) k e h in let p : Shape × Entry = get_or (e ∷ es) k e in (p.0, p.1, g)

pub found_place : (es : List (Shape × Entry)) (ts : List Tree) → trees_in es ≡ ts → IsTable es → (s : Shape) (i : ℕ) → position (eq-value.it s) (keys_of es) ≡ Some i → IsPlace ts (shape_tree ts s) i
found_place es ts v t s i h =
    let f = position-Some (eq-value.it s) (keys_of es) i s h in
    let lt : i < length es = omega (arith, f.0, length-map es (λ e. e.0)) in
    let w = there es i lt in
    let key : get_or (keys_of es) i s ≡ w.0 = get_or_from_slice_get (keys_of es) i w.0 s (slice_get-map (λ e. e.0) es i ∙ ap (option_map (λ e. e.0)) w.2) in
    let one : s ≡ w.0 = shape_same s w.0 (ap (eq-value.it s) (sym key) ∙ f.1) in
    record {
      within = subst (λ l. i < length l) v (omega (arith, lt, length-map es (λ e. e.1.term.now)));
      is = sym (entry_shape es ts v t i w.0 w.1 w.2) ∙ ap (shape_tree ts) (sym one);
    }

some_one : {A : Type 0} {a b : A} → Some a ≡ Some b → a ≡ b
some_one p = cc

unplaced : (test : Shape → Bool) (es : List (Shape × Entry)) → is_some (lookup test es) ≡ false → (k : ℕ) (s : Shape) (e : Entry) → slice_get es k ≡ Some (s, e) → test s ≡ false
unplaced test [] h k s e g = cc
unplaced test (x ∷ es) h zero s e g = by (test x.0) refl h (ap (λ p. p.0) (some_one g))
  where
    by : (b : Bool) → test x.0 ≡ b → is_some (cond b (Some x.1) (lookup test es)) ≡ false → x.0 ≡ s → test s ≡ false
    by true u v w = cc
    by false u v w = ap test (sym w) ∙ u
unplaced test (x ∷ es) h (suc k) s e g = by (test x.0) h (λ v. unplaced test es v k s e g)
  where
    by : (b : Bool) → is_some (cond b (Some x.1) (lookup test es)) ≡ false → (is_some (lookup test es) ≡ false → test s ≡ false) → test s ≡ false
    by true v f = cc
    by false v f = f v

pub absent_place : (es : List (Shape × Entry)) (ts : List Tree) → trees_in es ≡ ts → IsTable es → (s : Shape) → IsBelow (length ts) s → (r : Option ℕ) → is_some r ≡ is_some (lookup (eq-value.it s) es) → IfNone r (IsAbsent ts (shape_tree ts s))
absent_place es ts v t s b (Some i) h = tt
absent_place es ts v t s b None h = λ k lt is.
    let many : length ts ≡ length es = sym (ap length v) ∙ length-map es (λ e. e.1.term.now) in
    let w = there es k (omega arith) in
    let low : IsBelow (length ts) w.0 = shape_below w.0 k (length ts) lt (entry_below es t k w.0 w.1 w.2) in
    let d : IsDistinct ts = subst IsDistinct v t.distinct in
    let one : w.0 ≡ s = shape_one ts d w.0 s low b (entry_shape es ts v t k w.0 w.1 w.2 ∙ is) in
    true≢false (sym (shape_self s) ∙ ap (eq-value.it s) (sym one) ∙ unplaced (eq-value.it s) es (sym h) k w.0 w.1 w.2)

pub absent_key : (es : List (Shape × Entry)) (ts : List Tree) → trees_in es ≡ ts → IsTable es → (s : Shape) → IsAbsent ts (shape_tree ts s) → lookup (eq-value.it s) es ≡ None
absent_key es ts v t s a = by (lookup (eq-value.it s) es) refl
  where
    by : (r : Option Entry) → lookup (eq-value.it s) es ≡ r → r ≡ None
    by None h = refl
    by (Some e) h =
        let p = place_from_lookup (eq-value.it s) es e h in
        let lt : p.0 < length ts = omega (arith, slice_get_within es p.0 (p.1, e) p.2, length-map es (λ e. e.1.term.now), ap length v) in
        absurd (a p.0 lt (sym (entry_shape es ts v t p.0 p.1 e p.2) ∙ ap (shape_tree ts) (sym (shape_same s p.1 p.3))))

pub trees_pushed : (es : List (Shape × Entry)) (s : Shape) (e : Entry) → trees_in (es ++ (s, e) ∷ []) ≡ trees_in es ++ e.term.now ∷ []
trees_pushed es s e = map-append (λ p. p.1.term.now) es ((s, e) ∷ [])

pub pushed_grows : (ts : List Tree) (t : Tree) → Grows ts (ts ++ t ∷ [])
pushed_grows ts t = record { longer = omega (arith, length-append ts (t ∷ [])); same = λ k h. get_or-append ts (t ∷ []) (Truth true) k h }

pub pushed_last : (ts : List Tree) (t : Tree) → tree_at (ts ++ t ∷ []) (length ts) ≡ t
pushed_last ts t = get_or-append_seam ts t [] (Truth true)

slice_get_left : (es : List (Shape × Entry)) (x : Shape × Entry) (k : ℕ) → k < length es → slice_get (es ++ x ∷ []) k ≡ slice_get es k
slice_get_left [] x k h = absurd (omega arith)
slice_get_left (e ∷ es) x zero h = refl
slice_get_left (e ∷ es) x (suc k) h = slice_get_left es x k (omega arith)

slice_get_last : (es : List (Shape × Entry)) (x : Shape × Entry) → slice_get (es ++ x ∷ []) (length es) ≡ Some x
slice_get_last [] x = refl
slice_get_last (e ∷ es) x = slice_get_last es x

last_or : (k n : ℕ) → k < n + 1 → (k < n) ⊎ (k ≡ n)
last_or k n h = grind arith

made_grown : (old new : List Tree) (k : ℕ) (s : Shape) (e : Entry) → Grows old new → k < length old → IsMade old k s e → IsMade new k s e
made_grown old new k s e g h m = record { below = m.below; tree = m.tree ∙ sym (shape_grown old new g s (shape_below s k (length old) h m.below)); span = m.span }

distinct_pushed : (ts : List Tree) (t : Tree) → IsDistinct ts → IsAbsent ts t → IsDistinct (ts ++ t ∷ [])
distinct_pushed ts t d a j k p q h =
    let g = pushed_grows ts t in
    let l = pushed_last ts t in
    elim (last_or j (length ts) (omega (arith, length-append ts (t ∷ [])))) [
      | inl u ↦ elim (last_or k (length ts) (omega (arith, length-append ts (t ∷ [])))) [
        | inl w ↦ d j k u w (sym (g.same j u) ∙ h ∙ g.same k w)
        | inr w ↦ absurd (a j u (sym (g.same j u) ∙ h ∙ ap (tree_at (ts ++ t ∷ [])) w ∙ l))
      ]
      | inr u ↦ elim (last_or k (length ts) (omega (arith, length-append ts (t ∷ [])))) [
        | inl w ↦ absurd (a k w (sym (g.same k w) ∙ sym h ∙ ap (tree_at (ts ++ t ∷ [])) u ∙ l))
        | inr w ↦ u ∙ sym w
      ]
    ]

pub table_pushed : (es : List (Shape × Entry)) (ts : List Tree) → trees_in es ≡ ts → IsTable es → (s : Shape) (e : Entry) → IsBelow (length ts) s → IsAbsent ts (shape_tree ts s) → e.term.now ≡ shape_tree ts s → e.span ≡ interval (shape_tree ts s) → IsTable (es ++ (s, e) ∷ [])
table_pushed es ts v t s e b a tm sp =
    let many : length ts ≡ length es = sym (ap length v) ∙ length-map es (λ e. e.1.term.now) in
    let new : trees_in (es ++ (s, e) ∷ []) ≡ ts ++ e.term.now ∷ [] = trees_pushed es s e ∙ ap (λ w. w ++ e.term.now ∷ []) v in
    let g = pushed_grows ts e.term.now in
    let gone : IsAbsent ts e.term.now = subst (IsAbsent ts) (sym tm) a in
    let old : (k : ℕ) (s' : Shape) (e' : Entry) → slice_get es k ≡ Some (s', e') → IsMade ts k s' e' = subst (λ w. (k : ℕ) (s' : Shape) (e' : Entry) → slice_get es k ≡ Some (s', e') → IsMade w k s' e') v t.made in
    let last : IsMade (ts ++ e.term.now ∷ []) (length es) s e = record { below = subst (λ n. IsBelow n s) many b; tree = tm ∙ sym (shape_grown ts _ g s b); span = sp ∙ ap interval (sym tm) } in
    let all : (k : ℕ) (s' : Shape) (e' : Entry) → slice_get (es ++ (s, e) ∷ []) k ≡ Some (s', e') → IsMade (ts ++ e.term.now ∷ []) k s' e' =
    λ k s' e' h. elim (last_or k (length es) (omega (arith, slice_get_within (es ++ (s, e) ∷ []) k (s', e') h, length-append es ((s, e) ∷ [])))) [
      | inl w ↦ made_grown ts _ k s' e' g (omega arith) (old k s' e' (sym (slice_get_left es (s, e) k w) ∙ h))
      | inr w ↦
          let one : Shape × Entry = (s, e) in
          let two : Shape × Entry = (s', e') in
          let x : Some one ≡ Some two = sym (slice_get_last es (s, e)) ∙ ap (slice_get (es ++ (s, e) ∷ [])) (sym w) ∙ h in
          let y : one ≡ two = some_one x in
          subst (λ (p : Shape × Entry). IsMade (ts ++ e.term.now ∷ []) k p.0 p.1) y (subst (λ n. IsMade (ts ++ e.term.now ∷ []) n s e) (sym w) last)
    ] in
    record {
      made = subst (λ w. (k : ℕ) (s' : Shape) (e' : Entry) → slice_get (es ++ (s, e) ∷ []) k ≡ Some (s', e') → IsMade w k s' e') (sym new) all;
      distinct = subst IsDistinct (sym new) (distinct_pushed ts e.term.now (subst IsDistinct v t.distinct) gone);
    }

inserted : (es : List (Shape × Entry)) (ts : List Tree) → trees_in es ≡ ts → IsTable es → (s : Shape) (e : Entry) → IsAbsent ts (shape_tree ts s) → insert_entry eq-value.it es s e ≡ es ++ (s, e) ∷ []
inserted es ts v t s e a = insert_entry-absent eq-value.it s e es (absent_from_lookup (eq-value.it s) es (absent_key es ts v t s a))

pub push_table : (es : List (Shape × Entry)) (ts : List Tree) → trees_in es ≡ ts → IsTable es → (s : Shape) (e : Entry) → IsBelow (length ts) s → IsAbsent ts (shape_tree ts s) → e.term.now ≡ shape_tree ts s → e.span ≡ interval (shape_tree ts s) → (new : List (Shape × Entry)) → new ≡ insert_entry eq-value.it es s e → IsTable new
push_table es ts v t s e b a tm sp new h = subst IsTable (sym (h ∙ inserted es ts v t s e a)) (table_pushed es ts v t s e b a tm sp)

pub push_trees : (es : List (Shape × Entry)) (ts : List Tree) → trees_in es ≡ ts → IsTable es → (s : Shape) (e : Entry) → IsAbsent ts (shape_tree ts s) → e.term.now ≡ shape_tree ts s → (new : List (Shape × Entry)) → new ≡ insert_entry eq-value.it es s e → trees_in new ≡ ts ++ shape_tree ts s ∷ []
push_trees es ts v t s e a tm new h = ap trees_in (h ∙ inserted es ts v t s e a) ∙ trees_pushed es s e ∙ (λ i. v i ++ tm i ∷ [])
