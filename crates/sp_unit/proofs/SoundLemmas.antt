-- Sound lines, and what they say, with one line more.
use Rattle.std.proofs.Common.{◌≡◌, ℕ, zero, suc, ◌+◌, ◌<◌, ◌≤◌, arith, Bool, true, false, cond, ◌||◌, ◌&&◌, List, [], ◌∷◌, ◌++◌, length, map, get_or, take, drop, Option, Some, None, refl, sym, ap, subst, ◌∙◌, append-nil, append_assoc}
use Rattle.std.specs.Prelude.{flat_map, option_to_list, slice_get}
use Rattle.std.specs.List.{AllZip, AllByRecursion, cons_option, filter_map, list_any, list_all}
use Rattle.std.specs.Option.{option_map, option_and_then}
use Rattle.std.proofs.lemmas.List.{take_more, map-append}
use Rattle.std.proofs.lemmas.Grind.{flat_map-append}
use Rattle.std.proofs.lemmas.List.Elements.{filter_map-append}
use Rattle.sp_note.specs.declared.part.NoteLine as lines
use Rattle.sp_note.specs.Parts.{Part, NoteLine, Expression, part_of, line_of, lines_of}
use Rattle.sp_note.specs.RawNotes.{RawNote}
use Rattle.sp_prog.specs.declared.area.Area.{Area}
use Rattle.sp_prog.specs.declared.routine.Noted.{Noted}
use Rattle.sp_unit.specs.declared.ports.Direction.{Direction}
use Rattle.sp_unit.specs.Faults.{Source, area_by, areas_by, is_over}
use Rattle.sp_unit.specs.Lines.{Entry, Statement, Annotation, note_in, before}
use Rattle.sp_unit.specs.SourceUnits.{IsNoted, raws, named_in, depth_in}
use Rattle.sp_unit.specs.code.Sounds.{IsSound, ports_by, raw}
use Rattle.sp_unit.proofs.UnitListLemmas.{zip_append}

-- ---- Each line of some

module _ {A B : Type 0} (v : A → B) (P : B → Type 0) where
  pub each_read : (xs : List A) (i : ℕ) (x : A) → i < length xs → x ≡ get_or xs i x → AllByRecursion P (map v xs) → P (v x)
  each_read [] i x lt is h = absurd (omega (arith, lt))
  each_read (y ∷ xs) zero x lt is h = subst (λ z. P (v z)) (sym is) h.0
  each_read (y ∷ xs) (suc i) x lt is h = each_read xs i x (omega (arith, lt)) is h.1

  pub each_below : (xs : List A) (i j : ℕ) → j ≡ suc i → i < length xs → AllByRecursion P (map v xs) → AllByRecursion P (map v (drop j xs))
  each_below [] i j next lt h = absurd (omega (arith, lt))
  each_below (y ∷ xs) zero j next lt h = subst (λ n. AllByRecursion P (map v (drop n (y ∷ xs)))) (sym next) h.1
  each_below (y ∷ xs) (suc i) j next lt h = subst (λ n. AllByRecursion P (map v (drop n (y ∷ xs)))) (sym next) (each_below xs i (suc i) refl (omega (arith, lt)) h.1)

pub none_below : {A B : Type 0} (v : A → B) (xs : List A) (i : ℕ) → length xs ≤ i → map v (drop i xs) ≡ []
none_below v [] zero le = refl
none_below v [] (suc i) le = refl
none_below v (x ∷ xs) zero le = absurd (omega (arith, le))
none_below v (x ∷ xs) (suc i) le = none_below v xs i (omega (arith, le))

both_true : (a b : Bool) → (a && b) ≡ true → (a ≡ true) × (b ≡ true)
both_true true b e = (refl, e)
both_true false b e = absurd cc

pub all_read : {A : Type 0} (p : A → Bool) (xs : List A) (i : ℕ) (x : A) → i < length xs → x ≡ get_or xs i x → list_all p xs ≡ true → p x ≡ true
all_read p [] i x lt is h = absurd (omega (arith, lt))
all_read p (y ∷ xs) zero x lt is h = ap p is ∙ (both_true (p y) (list_all p xs) h).0
all_read p (y ∷ xs) (suc i) x lt is h = all_read p xs i x (omega (arith, lt)) is (both_true (p y) (list_all p xs) h).1

both_false : (a b : Bool) → (a || b) ≡ false → (a ≡ false) × (b ≡ false)
both_false true b e = absurd cc
both_false false b e = (refl, e)

pub none_read : {A : Type 0} (p : A → Bool) (xs : List A) (i : ℕ) (x : A) → i < length xs → x ≡ get_or xs i x → list_any p xs ≡ false → p x ≡ false
none_read p [] i x lt is h = absurd (omega (arith, lt))
none_read p (y ∷ xs) zero x lt is h = ap p is ∙ (both_false (p y) (list_any p xs) h).0
none_read p (y ∷ xs) (suc i) x lt is h = none_read p xs i x (omega (arith, lt)) is (both_false (p y) (list_any p xs) h).1

pub each_before : {A : Type 0} (P : A → Type 0) (test : A → Bool) (xs : List A) → AllByRecursion P xs → AllByRecursion P (before test xs)
each_before P test [] h = tt
each_before P test (x ∷ xs) h = by (test x) (each_before P test xs h.1)
  where
    by : (b : Bool) → AllByRecursion P (before test xs) → AllByRecursion P (cond b [] (x ∷ before test xs))
    by true rest = tt
    by false rest = (h.0, rest)

-- ---- What lines say

pub raws_append : (said : Part → Option RawNote) (xs ys : List Entry) → raws said (xs ++ ys) ≡ raws said xs ++ raws said ys
raws_append said xs ys =
    let said_by = λ (n : NoteLine). option_map (raw n.line) (said n.part) in
    ap (filter_map said_by) (filter_map-append note_in xs ys) ∙ filter_map-append said_by (filter_map note_in xs) (filter_map note_in ys)

pub named_append : {A : Type 0} (named : Part → List A) (xs ys : List Entry) → named_in named (xs ++ ys) ≡ named_in named xs ++ named_in named ys
named_append named xs ys =
    ap (flat_map (λ (n : NoteLine). named n.part)) (filter_map-append note_in xs ys) ∙ flat_map-append (λ (n : NoteLine). named n.part) (filter_map note_in xs) (filter_map note_in ys)

pub noted_more : (s : Source) (said : Part → Option RawNote) (above : List Entry) (e : Entry) (notes more : List Noted) (one : Option Noted) → AllZip (IsNoted s) (raws said above) notes
    → AllZip (IsNoted s) (raws said (e ∷ [])) (option_to_list one) → more ≡ notes ++ option_to_list one → AllZip (IsNoted s) (raws said (above ++ e ∷ [])) more
noted_more s said above e notes more one h k is =
    subst (λ l. AllZip (IsNoted s) l more) (sym (raws_append said above (e ∷ [])))
    (subst (AllZip (IsNoted s) (raws said above ++ raws said (e ∷ []))) (sym is) (zip_append (IsNoted s) (raws said above) (raws said (e ∷ [])) notes (option_to_list one) h k))

-- ---- Ports

pub ports_sound : (s : Source) (to : Direction) (e : Entry) → IsSound s e → list_any (is_over s) (named_in (ports_by to) (e ∷ [])) ≡ false
ports_sound s to (Statement item) h = refl
ports_sound s to (Annotation n) h = ap (list_any (is_over s)) (append-nil (ports_by to n.part)) ∙ h.ports to

-- ---- Areas, ports and depths, with one more

listed_one : {A B : Type 0} (f : A → Option B) (x : A) (o : Option B) → o ≡ f x → filter_map f (x ∷ []) ≡ option_to_list o
listed_one f x None is = ap (λ p. cons_option p []) (sym is)
listed_one f x (Some y) is = ap (λ p. cons_option p []) (sym is)

pub kept_more : {A B : Type 0} (f : A → Option B) (all : List B) (xs : List A) (i : ℕ) (d : A) (o : Option B) → i < length xs → o ≡ f (get_or xs i d)
    → (all ++ filter_map f (take i xs)) ++ option_to_list o ≡ all ++ filter_map f (take (i + 1) xs)
kept_more f all xs i d o lt is =
    append_assoc all (filter_map f (take i xs)) (option_to_list o)
    ∙ ap (λ l. all ++ l)
    (ap (λ l. filter_map f (take i xs) ++ l) (sym (listed_one f (get_or xs i d) o is)) ∙ sym (filter_map-append f (take i xs) (get_or xs i d ∷ [])) ∙ ap (filter_map f) (sym (take_more xs i d lt)))

pub areas_more : (value : Expression → Option ℕ) (notes : List lines.NoteLine) (i : ℕ) (d : lines.NoteLine) (o : Option Area) → i < length notes → o ≡ area_by value (part_of (get_or notes i d).part)
    → areas_by value (lines_of (take (i + 1) notes)) ≡ areas_by value (lines_of (take i notes)) ++ option_to_list o
areas_more value notes i d o lt is =
    let area = λ (n : NoteLine). area_by value n.part in
    let front = lines_of (take i notes) in
    let n = line_of (get_or notes i d) in
    ap (λ l. filter_map area (lines_of l)) (take_more notes i d lt)
    ∙ ap (filter_map area) (map-append line_of (take i notes) (get_or notes i d ∷ []))
    ∙ filter_map-append area front (n ∷ [])
    ∙ ap (λ l. filter_map area front ++ l) (listed_one area n o is)

abbrev pub depths : List Entry → List Expression
depths entries = filter_map (λ (n : NoteLine). depth_in n.part) (filter_map note_in entries)

depths_append : (xs ys : List Entry) → depths (xs ++ ys) ≡ depths xs ++ depths ys
depths_append xs ys =
    ap (filter_map (λ (n : NoteLine). depth_in n.part)) (filter_map-append note_in xs ys) ∙ filter_map-append (λ (n : NoteLine). depth_in n.part) (filter_map note_in xs) (filter_map note_in ys)

depth_here : (e : Entry) (back : List Entry) (x : Expression) → option_and_then (λ (n : NoteLine). depth_in n.part) (note_in e) ≡ Some x → slice_get (depths (e ∷ back)) 0 ≡ Some x
depth_here (Statement item) back x is = absurd cc
depth_here (Annotation n) back x is = ap (λ o. slice_get (cons_option o (depths back)) 0) is

pub first_depth : (entries front back : List Entry) (e : Entry) (x : Expression) → entries ≡ front ++ e ∷ back → depths front ≡ []
    → option_and_then (λ (n : NoteLine). depth_in n.part) (note_in e) ≡ Some x → slice_get (depths entries) 0 ≡ Some x
first_depth entries front back e x split none is =
    ap (λ l. slice_get (depths l) 0) split ∙ ap (λ l. slice_get l 0) (depths_append front (e ∷ back)) ∙ ap (λ l. slice_get (l ++ depths (e ∷ back)) 0) none ∙ depth_here e back x is

no_depth_here : (e : Entry) → option_and_then (λ (n : NoteLine). depth_in n.part) (note_in e) ≡ None → depths (e ∷ []) ≡ []
no_depth_here (Statement item) is = refl
no_depth_here (Annotation n) is = ap (λ o. cons_option o []) is

pub no_depth : (front : List Entry) (e : Entry) → depths front ≡ [] → option_and_then (λ (n : NoteLine). depth_in n.part) (note_in e) ≡ None → depths (front ++ e ∷ []) ≡ []
no_depth front e none is = depths_append front (e ∷ []) ∙ ap (λ l. l ++ depths (e ∷ [])) none ∙ no_depth_here e is
