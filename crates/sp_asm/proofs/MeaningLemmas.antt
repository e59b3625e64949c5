-- Names stand for what they mean.
use Rattle.std.proofs.Common.{◌≡◌, ◌⊎◌, inl, inr, ℕ, Bool, true, false, cond, ◌||◌, ◌&&◌, List, [], ◌∷◌, ◌++◌, map, Option, Some, None, refl, sym, ap, subst, ◌∙◌, append_assoc}
use Rattle.std.specs.Prelude.{◌↔◌, nat_eq, not, filter}
use Rattle.std.specs.List.{list_any, flat_map}
use Rattle.std.specs.Cmp.Lexicographic.{same_text}
use Rattle.std.proofs.lemmas.Grind.{flat_map-append}
use Rattle.std.proofs.lemmas.List.{append-nil}
use Rattle.std.proofs.lemmas.List.Elements.{filter-append}
use Rattle.std.proofs.lemmas.List.Folds.{list_any-append}
use Rattle.sp_stmt.specs.declared.statement.Code.{Code}
use Rattle.sp_stmt.specs.declared.statement.Code.TheVariants as code
use Rattle.sp_stmt.specs.declared.statement.Statement.{Statement}
use Rattle.sp_asm.specs.Names.{Definition, definition, fixed, by_set, name_by, name_of, is_set}
use Rattle.sp_asm.specs.Assembly.{Place, definition_by, definition_of, defined_value, definitions, is_taken, names_above, names_at, ArePlaced}
use Rattle.sp_asm.specs.Meanings.{Labels, Equates, Sets, Means, by_label, by_equ, by_last_set}
use Rattle.sp_asm.proofs.DefinitionLemmas.{eq, eq_same, or_last, value_if, last_of, value-symbols, last-append, last_either}
use Rattle.sp_asm.proofs.SplitLaws.{head_is, tail_is}

-- ---- Two elements of a list

module _ {A : Type 0} where
  -- of two elements of a list one stands above the other, or both are one
  pub two_splits : (e l f m : List A) (p q : A) → e ++ p ∷ l ≡ f ++ q ∷ m
      → (p ≡ q) ⊎ (((between : List A) × (f ≡ e ++ p ∷ between)) ⊎ ((between : List A) × (e ≡ f ++ q ∷ between)))
  two_splits [] l [] m p q h = inl (head_is p q l m h)
  two_splits [] l (y ∷ f) m p q h = inr (inl (f, ap (λ x. x ∷ f) (sym (head_is p y l (f ++ q ∷ m) h))))
  two_splits (x ∷ e) l [] m p q h = inr (inr (e, ap (λ y. y ∷ e) (head_is x q (e ++ p ∷ l) m h)))
  two_splits (x ∷ e) l (y ∷ f) m p q h =
      let first = head_is x y (e ++ p ∷ l) (f ++ q ∷ m) h in
      elim (two_splits e l f m p q (tail_is x y (e ++ p ∷ l) (f ++ q ∷ m) h)) [
        | inl same ↦ inl same
        | inr (inl below) ↦ inr (inl (below.0, ap (λ z. z ∷ f) (sym first) ∙ ap (λ z. x ∷ z) below.1))
        | inr (inr above) ↦ inr (inr (above.0, ap (λ z. z ∷ e) first ∙ ap (λ z. y ∷ z) above.1))
      ]

-- ---- What a place defines

-- EQU and SET have no label
abbrev pub Unlabelled : Code → Option (List ℕ) → Type 0
Unlabelled (code.Equ name) label = label ≡ None
Unlabelled (code.Set name) label = label ≡ None
Unlabelled c label = Unit {0}

abbrev pub IsUnlabelled : Statement → Type 0
IsUnlabelled s = Unlabelled s.code s.label

-- a place defines this name with this value, by SET or not
pub record Defines (p : Place) (name : List ℕ) (value : ℕ) (by_set : Bool) : Type 0 where
  pub named : name_of p.statement ≡ Some name
  pub valued : defined_value p.statement.code p.address p.value ≡ value
  pub kind : is_set p.statement.code ≡ by_set

defines_is : (p : Place) (name : List ℕ) (value : ℕ) (s : Bool) → Defines p name value s → definition_of p ≡ definition name value s ∷ []
defines_is p name value s h i = definition_by (h.named i) (h.valued i) (h.kind i)

labels_by : (c : Code) (label : Option (List ℕ)) (name : List ℕ) (a v : ℕ) → Unlabelled c label → label ≡ Some name → (name_by c label ≡ Some name) × (defined_value c a v ≡ a) × (is_set c ≡ false)
labels_by (code.Equ n) label name a v none h = absurd cc
labels_by (code.Set n) label name a v none h = absurd cc
labels_by code.Nothing label name a v none h = (h, refl, refl)
labels_by (code.Instr i) label name a v none h = (h, refl, refl)
labels_by code.Data label name a v none h = (h, refl, refl)
labels_by code.Space label name a v none h = (h, refl, refl)
labels_by code.Org label name a v none h = (h, refl, refl)
labels_by code.End label name a v none h = (h, refl, refl)

labels_define : (p : Place) (name : List ℕ) (value : ℕ) → IsUnlabelled p.statement → Labels p name value → Defines p name value false
labels_define p name value plain h =
    let is = labels_by p.statement.code p.statement.label name p.address p.value plain h.0 in
    record { named = is.0; valued = is.1 ∙ sym h.1; kind = is.2 }

equates_define : (p : Place) (name : List ℕ) (value : ℕ) → Equates p name value → Defines p name value false
equates_define p name value h = record {
  named = ap (λ c. name_by c p.statement.label) h.0;
  valued = ap (λ c. defined_value c p.address p.value) h.0 ∙ sym h.1;
  kind = ap is_set h.0;
}

sets_define : (p : Place) (name : List ℕ) (value : ℕ) → Sets p name value → Defines p name value true
sets_define p name value h = record {
  named = ap (λ c. name_by c p.statement.label) h.0;
  valued = ap (λ c. defined_value c p.address p.value) h.0 ∙ sym h.1;
  kind = ap is_set h.0;
}

fixed_value : (p : Place) (name : List ℕ) (value : ℕ) → Defines p name value false → last_of name (fixed (definition_of p)) ≡ Some value
fixed_value p name value h = ap (λ ds. last_of name (fixed ds)) (defines_is p name value false h) ∙ ap (λ b. value_if b value) (eq_same name)

set_value : (p : Place) (name : List ℕ) (value : ℕ) → Sets p name value → last_of name (by_set (definition_of p)) ≡ Some value
set_value p name value h = ap (λ ds. last_of name (by_set ds)) (defines_is p name value true (sets_define p name value h)) ∙ ap (λ b. value_if b value) (eq_same name)

value_is : (b : Bool) (v w : ℕ) → value_if b v ≡ Some w → (b ≡ true) × (w ≡ v)
value_is true v w e = (refl, cc)
value_is false v w e = absurd cc

module _ (name : List ℕ) (value : ℕ) where
  label_by : (label : Option (List ℕ)) (a : ℕ) → last_of name (fixed (definition_by label a false)) ≡ Some value → (label ≡ Some name) × (value ≡ a)
  label_by None a e = absurd cc
  label_by (Some l) a e = let is = value_is (eq name l) a value e in (ap (λ n. Some n) (sym (same_text name l (sym is.0))), is.1)

  fixed_by : (c : Code) (label : Option (List ℕ)) (a v : ℕ) → last_of name (fixed (definition_by (name_by c label) (defined_value c a v) (is_set c))) ≡ Some value
      → ((label ≡ Some name) × (value ≡ a)) ⊎ ((c ≡ code.Equ name) × (value ≡ v))
  fixed_by (code.Set n) label a v e = absurd cc
  fixed_by (code.Equ n) label a v e = let is = value_is (eq name n) v value e in inr (ap (λ m. code.Equ m) (sym (same_text name n (sym is.0))), is.1)
  fixed_by code.Nothing label a v e = inl (label_by label a e)
  fixed_by (code.Instr i) label a v e = inl (label_by label a e)
  fixed_by code.Data label a v e = inl (label_by label a e)
  fixed_by code.Space label a v e = inl (label_by label a e)
  fixed_by code.Org label a v e = inl (label_by label a e)
  fixed_by code.End label a v e = inl (label_by label a e)

  none_by : (label : Option (List ℕ)) (a : ℕ) → last_of name (by_set (definition_by label a false)) ≡ Some value → ⊥
  none_by None a e = cc
  none_by (Some l) a e = cc

  set_by : (c : Code) (label : Option (List ℕ)) (a v : ℕ) → last_of name (by_set (definition_by (name_by c label) (defined_value c a v) (is_set c))) ≡ Some value → (c ≡ code.Set name) × (value ≡ v)
  set_by (code.Set n) label a v e = let is = value_is (eq name n) v value e in (ap (λ m. code.Set m) (sym (same_text name n (sym is.0))), is.1)
  set_by (code.Equ n) label a v e = absurd cc
  set_by code.Nothing label a v e = absurd (none_by label a e)
  set_by (code.Instr i) label a v e = absurd (none_by label a e)
  set_by code.Data label a v e = absurd (none_by label a e)
  set_by code.Space label a v e = absurd (none_by label a e)
  set_by code.Org label a v e = absurd (none_by label a e)
  set_by code.End label a v e = absurd (none_by label a e)

-- ---- What places define

module _ (name : List ℕ) where
  abbrev set_of : List Place → Option ℕ
  set_of places = last_of name (by_set (definitions places))

  abbrev fixed_of : List Place → Option ℕ
  fixed_of places = last_of name (fixed (definitions places))

  set-append : (xs ys : List Place) → set_of (xs ++ ys) ≡ or_last (set_of ys) (set_of xs)
  set-append xs ys =
      ap (λ ds. last_of name (by_set ds)) (flat_map-append definition_of xs ys)
      ∙ ap (last_of name) (filter-append (λ (d : Definition). d.by_set) (definitions xs) (definitions ys))
      ∙ last-append name (by_set (definitions xs)) (by_set (definitions ys))

  set-first : (p : Place) (ps : List Place) → set_of (p ∷ ps) ≡ or_last (set_of ps) (last_of name (by_set (definition_of p)))
  set-first p ps =
      ap (last_of name) (filter-append (λ (d : Definition). d.by_set) (definition_of p) (definitions ps)) ∙ last-append name (by_set (definition_of p)) (by_set (definitions ps))

  set-at : (front back : List Place) (p : Place) → set_of (front ++ p ∷ back) ≡ or_last (or_last (set_of back) (last_of name (by_set (definition_of p)))) (set_of front)
  set-at front back p = set-append front (p ∷ back) ∙ ap (λ o. or_last o (set_of front)) (set-first p back)

  fixed-append : (xs ys : List Place) → fixed_of (xs ++ ys) ≡ or_last (fixed_of ys) (fixed_of xs)
  fixed-append xs ys =
      ap (λ ds. last_of name (fixed ds)) (flat_map-append definition_of xs ys)
      ∙ ap (last_of name) (filter-append (λ (d : Definition). not d.by_set) (definitions xs) (definitions ys))
      ∙ last-append name (fixed (definitions xs)) (fixed (definitions ys))

  fixed-first : (p : Place) (ps : List Place) → fixed_of (p ∷ ps) ≡ or_last (fixed_of ps) (last_of name (fixed (definition_of p)))
  fixed-first p ps =
      ap (last_of name) (filter-append (λ (d : Definition). not d.by_set) (definition_of p) (definitions ps)) ∙ last-append name (fixed (definition_of p)) (fixed (definitions ps))

  fixed-at : (front back : List Place) (p : Place) → fixed_of (front ++ p ∷ back) ≡ or_last (or_last (fixed_of back) (last_of name (fixed (definition_of p)))) (fixed_of front)
  fixed-at front back p = fixed-append front (p ∷ back) ∙ ap (λ o. or_last o (fixed_of front)) (fixed-first p back)

  abbrev NoSets : List Place → Type 0
  NoSets back = (before after : List Place) (q : Place) (other : ℕ) → back ≡ before ++ q ∷ after → ¬ Sets q name other

  or_some : (a b : Option ℕ) (v : ℕ) → or_last (or_last a (Some v)) b ≡ None → ⊥
  or_some None b v e = cc
  or_some (Some w) b v e = cc

  no_sets : (ps : List Place) → set_of ps ≡ None → NoSets ps
  no_sets ps none before after q other e s =
      or_some (set_of after) (set_of before) other
      (sym (set-at before after q ∙ ap (λ o. or_last (or_last (set_of after) o) (set_of before)) (set_value q name other s)) ∙ ap set_of (sym e) ∙ none)

  record SetAt (places : List Place) (value : ℕ) : Type 0 where
    front : List Place
    back : List Place
    place : Place
    whole : places ≡ front ++ place ∷ back
    sets : Sets place name value
    last : NoSets back

  set_found : (places : List Place) (value : ℕ) → set_of places ≡ Some value → SetAt places value
  set_found [] value e = absurd cc
  set_found (p ∷ ps) value e = by (set_found ps value) (set_of ps) refl
    where
      by : (set_of ps ≡ Some value → SetAt ps value) → (o : Option ℕ) → set_of ps ≡ o → SetAt (p ∷ ps) value
      by again (Some w) f =
          let found : or_last (Some w) (last_of name (by_set (definition_of p))) ≡ Some value = ap (λ o. or_last o (last_of name (by_set (definition_of p)))) (sym f) ∙ sym (set-first p ps) ∙ e in
          let same : w ≡ value = cc in
          let below = again (f ∙ ap (λ v. Some v) same) in
          record { front = p ∷ below.front; back = below.back; place = below.place; whole = ap (λ l. p ∷ l) below.whole; sets = below.sets; last = below.last }
      by again None f =
          let found : last_of name (by_set (definition_of p)) ≡ Some value = ap (λ o. or_last o (last_of name (by_set (definition_of p)))) (sym f) ∙ sym (set-first p ps) ∙ e in
          record { front = []; back = ps; place = p; whole = refl; sets = set_by name value p.statement.code p.statement.label p.address p.value found; last = no_sets ps f }

  no_set : (ps : List Place) → NoSets ps → set_of ps ≡ None
  no_set ps none = by (set_of ps) refl
    where
      by : (o : Option ℕ) → set_of ps ≡ o → set_of ps ≡ None
      by None f = f
      by (Some v) f = let at = set_found ps v f in absurd (none at.front at.back at.place v at.whole at.sets)

  set_back : (places front back : List Place) (p : Place) (value : ℕ) → places ≡ front ++ p ∷ back → Sets p name value → NoSets back → set_of places ≡ Some value
  set_back places front back p value e s none =
      ap set_of e ∙ set-at front back p
      ∙ (λ i. or_last (or_last (no_set back none i) (set_value p name value s i)) (set_of front))

  record FixedAt (places : List Place) (value : ℕ) : Type 0 where
    front : List Place
    back : List Place
    place : Place
    whole : places ≡ front ++ place ∷ back
    fixes : Labels place name value ⊎ Equates place name value

  fixed_found : (places : List Place) (value : ℕ) → fixed_of places ≡ Some value → FixedAt places value
  fixed_found [] value e = absurd cc
  fixed_found (p ∷ ps) value e = by (fixed_found ps value) (fixed_of ps) refl
    where
      by : (fixed_of ps ≡ Some value → FixedAt ps value) → (o : Option ℕ) → fixed_of ps ≡ o → FixedAt (p ∷ ps) value
      by again (Some w) f =
          let found : or_last (Some w) (last_of name (fixed (definition_of p))) ≡ Some value = ap (λ o. or_last o (last_of name (fixed (definition_of p)))) (sym f) ∙ sym (fixed-first p ps) ∙ e in
          let same : w ≡ value = cc in
          let below = again (f ∙ ap (λ v. Some v) same) in
          record { front = p ∷ below.front; back = below.back; place = below.place; whole = ap (λ l. p ∷ l) below.whole; fixes = below.fixes }
      by again None f =
          let found : last_of name (fixed (definition_of p)) ≡ Some value = ap (λ o. or_last o (last_of name (fixed (definition_of p)))) (sym f) ∙ sym (fixed-first p ps) ∙ e in
          record { front = []; back = ps; place = p; whole = refl; fixes = fixed_by name value p.statement.code p.statement.label p.address p.value found }

-- ---- No name is defined twice, but by SET alone

or_middle : (a b c : Bool) → b ≡ true → (a || (b || c)) ≡ true
or_middle true b c e = refl
or_middle false true c e = refl
or_middle false false c e = absurd cc

taken : (name : List ℕ) (v : ℕ) (s t : Bool) → (s && t) ≡ false → list_any (λ (d : Definition). eq name d.name && not (d.by_set && t)) (definition name v s ∷ []) ≡ true
taken name v s t e = (λ i. (eq_same name i && not (e i)) || false)

-- each place of these but EQU and SET alone has a label
abbrev pub ArePlain : List Place → Type 0
ArePlain places = (front back : List Place) (p : Place) → places ≡ front ++ p ∷ back → IsUnlabelled p.statement

module _ (all : List Place) (placed : ArePlaced all) (plain : ArePlain all) (name : List ℕ) where
  no_two : (front between back : List Place) (p q : Place) (v w : ℕ) (s t : Bool) → all ≡ front ++ p ∷ (between ++ q ∷ back) → Defines p name v s → Defines q name w t → (s && t) ≡ false → ⊥
  no_two front between back p q v w s t e h k apart =
      let above = front ++ p ∷ between in
      let test = λ (d : Definition). eq name d.name && not (d.by_set && t) in
      let free = (placed (front ++ p ∷ between) back q (e ∙ sym (append_assoc front (p ∷ between) (q ∷ back)))).apart in
      let parts : definitions (front ++ p ∷ between) ≡ definitions front ++ (definition_of p ++ definitions between) = flat_map-append definition_of front (p ∷ between) in
      let one : list_any test (definition_of p) ≡ true = ap (list_any test) (defines_is p name v s h) ∙ taken name v s t apart in
      let among : is_taken (definitions (front ++ p ∷ between)) (Some name) t ≡ true =
      ap (list_any test) parts ∙ list_any-append test (definitions front) (definition_of p ++ definitions between)
      ∙ ap (λ b. list_any test (definitions front) || b) (list_any-append test (definition_of p) (definitions between))
      ∙ or_middle (list_any test (definitions front)) (list_any test (definition_of p)) (list_any test (definitions between)) one in
      let asked : is_taken (definitions (front ++ p ∷ between)) (name_of q.statement) (is_set q.statement.code) ≡ is_taken (definitions (front ++ p ∷ between)) (Some name) t =
      λ i. is_taken (definitions (front ++ p ∷ between)) (k.named i) (k.kind i) in
      let clash : true ≡ false = sym among ∙ sym asked ∙ free in
      true_is_false clash
    where
      true_is_false : true ≡ false → ⊥
      true_is_false e = cc

  defined_at : (front back : List Place) (p : Place) (v : ℕ) → all ≡ front ++ p ∷ back → Labels p name v ⊎ Equates p name v → Defines p name v false
  defined_at front back p v e (inl h) = labels_define p name v (plain front back p e) h
  defined_at front back p v e (inr h) = equates_define p name v h

  set_or_fixed : (above rest : List Place) (v w : ℕ) → all ≡ above ++ rest → set_of name above ≡ Some v → fixed_of name all ≡ Some w → ⊥
  set_or_fixed above rest v w e s f =
      let set_at = set_found name above v s in
      let fixed_at = fixed_found name all w f in
      let set_whole : all ≡ set_at.front ++ set_at.place ∷ (set_at.back ++ rest) = e ∙ ap (λ l. l ++ rest) set_at.whole ∙ append_assoc set_at.front (set_at.place ∷ set_at.back) rest in
      let fixes = defined_at fixed_at.front fixed_at.back fixed_at.place w fixed_at.whole fixed_at.fixes in
      let sets = sets_define set_at.place name v set_at.sets in
      elim (two_splits fixed_at.front fixed_at.back set_at.front (set_at.back ++ rest) fixed_at.place set_at.place (sym fixed_at.whole ∙ set_whole)) [
        | inl same ↦ one_kind (is_set set_at.place.statement.code) sets.kind (ap (λ (q : Place). is_set q.statement.code) (sym same) ∙ fixes.kind)
        | inr (inl below) ↦ no_two fixed_at.front below.0 (set_at.back ++ rest) fixed_at.place set_at.place w v false true
            (set_whole ∙ ap (λ l. l ++ set_at.place ∷ (set_at.back ++ rest)) below.1 ∙ append_assoc fixed_at.front (fixed_at.place ∷ below.0) (set_at.place ∷ (set_at.back ++ rest))) fixes sets refl
        | inr (inr above_it) ↦ no_two set_at.front above_it.0 fixed_at.back set_at.place fixed_at.place v w true false
            (fixed_at.whole ∙ ap (λ l. l ++ fixed_at.place ∷ fixed_at.back) above_it.1 ∙ append_assoc set_at.front (set_at.place ∷ above_it.0) (fixed_at.place ∷ fixed_at.back)) sets fixes refl
      ]
    where
      one_kind : (b : Bool) → b ≡ true → b ≡ false → ⊥
      one_kind b e f = cc

  fixed_back : (front back : List Place) (p : Place) (v : ℕ) → all ≡ front ++ p ∷ back → Labels p name v ⊎ Equates p name v → fixed_of name all ≡ Some v
  fixed_back front back p v e h =
      let is = defined_at front back p v e h in
      ap (fixed_of name) e ∙ fixed-at name front back p ∙ (λ i. or_last (or_last (none (fixed_of name back) refl i) (fixed_value p name v is i)) (fixed_of name front))
    where
      none : (o : Option ℕ) → fixed_of name back ≡ o → fixed_of name back ≡ None
      none None f = f
      none (Some w) f =
          let at = fixed_found name back w f in
          let whole : all ≡ front ++ p ∷ (at.front ++ at.place ∷ at.back) = e ∙ ap (λ l. front ++ p ∷ l) at.whole in
          let other = defined_at (front ++ p ∷ at.front) at.back at.place w (whole ∙ sym (append_assoc front (p ∷ at.front) (at.place ∷ at.back))) at.fixes in
          absurd (no_two front at.front at.back p at.place v w false false whole (defined_at front back p v e h) other refl)

  -- ---- Meanings

  module _ (above rest : List Place) (e : all ≡ above ++ rest) (value : ℕ) where
    means_to : or_last (set_of name above) (fixed_of name all) ≡ Some value → Means all above name value
    means_to f = by (set_of name above) refl
      where
        fixed_means : FixedAt name all value → Means all above name value
        fixed_means at = elim at.fixes [
          | inl labels ↦ by_label at.front at.back at.place at.whole labels
          | inr equates ↦ by_equ at.front at.back at.place at.whole equates
        ]

        by : (o : Option ℕ) → set_of name above ≡ o → Means all above name value
        by (Some w) g =
            let found : or_last (Some w) (fixed_of name all) ≡ Some value = ap (λ o. or_last o (fixed_of name all)) (sym g) ∙ f in
            let same : w ≡ value = cc in
            let at = set_found name above value (g ∙ ap (λ v. Some v) same) in
            by_last_set at.front at.back at.place at.whole at.sets at.last
        by None g = fixed_means (fixed_found name all value (ap (λ o. or_last o (fixed_of name all)) (sym g) ∙ f))

    fixed_from : fixed_of name all ≡ Some value → or_last (set_of name above) (fixed_of name all) ≡ Some value
    fixed_from f = ap (λ o. or_last o (fixed_of name all)) (none (set_of name above) refl) ∙ f
      where
        none : (o : Option ℕ) → set_of name above ≡ o → set_of name above ≡ None
        none None g = g
        none (Some w) g = absurd (set_or_fixed above rest w value e g f)

    means_from : Means all above name value → or_last (set_of name above) (fixed_of name all) ≡ Some value
    means_from (by_label front back p whole h) = fixed_from (fixed_back front back p value whole (inl h))
    means_from (by_equ front back p whole h) = fixed_from (fixed_back front back p value whole (inr h))
    means_from (by_last_set front back p whole h last) = ap (λ o. or_last o (fixed_of name all)) (set_back name above front back p value whole h last)

    -- where these stand above a statement, a name stands for what it means
    pub means_at : (names_at all above name ≡ Some value) ↔ Means all above name value
    means_at =
        let is : names_at all above name ≡ or_last (set_of name above) (fixed_of name all) =
        value-symbols name (fixed (definitions all) ++ by_set (definitions above)) ∙ last-append name (fixed (definitions all)) (by_set (definitions above)) in
        (λ f. means_to (sym is ∙ f), λ h. is ∙ means_from h)

  -- among all places alone
  pub means_in : (value : ℕ) → (names_above all name ≡ Some value) ↔ Means all all name value
  means_in value =
      let none : all ≡ all ++ [] = sym (append-nil all) in
      let is : names_above all name ≡ or_last (set_of name all) (fixed_of name all) =
      value-symbols name (definitions all) ∙ last_either name (definitions all) (λ v w s f. set_or_fixed all [] v w (sym (append-nil all)) s f) in
      (λ f. means_to all [] none value (sym is ∙ f), λ h. is ∙ means_from all [] none value h)
