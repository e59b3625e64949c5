-- Steps of the reader: what each takes from the front of a text, and that it takes it again.
use Rattle.std.proofs.Common.{◌≡◌, ℕ, Bool, true, false, cond, List, [], ◌∷◌, ◌++◌, length, Option, Some, None, refl, ap, subst, ◌∙◌, append_assoc, arith, length-append}
use Rattle.std.specs.Prelude.{◌&&◌, ◌||◌, ◌==◌, codes}
use Rattle.std.specs.List.{list_all}
use Rattle.sp_term.specs.Tree.{Tree}
use Rattle.sp_fdl.specs.declared.sort.Sort.{Sort}
use Rattle.sp_fdl.specs.declared.sort.Sort.TheVariants as sort
use Rattle.sp_fdl.specs.Text.{is_blank, is_run, begins_run, IsApart, Form, Token, Then, Spells}
use Rattle.sp_fdl.specs.code.Tokens.{◌>>=◌, after_blanks, run_of, after_mark}
use Rattle.sp_fdl.specs.code.Reading.{Read, read_as, Reader, same_sort, of_sort, part, part_after, closed, cell, cell_after}
use Rattle.sp_fdl.proofs.TextLemmas.{bind_some, some_is, if_some, stops, apart_more, Takes, takes_then, after_mark_takes, blanks_again, mark_again, IsFilled}
use Rattle.sp_fdl.proofs.FitLemmas.{Fits}

-- how a text begins that a term may be read from
abbrev pub opens : List ℕ → Bool
opens [] = false
opens (byte ∷ bytes) = byte == 40 || (byte == 45 && begins_run bytes || is_run byte)

-- what a reader found: a tree that the front of the text spells, and that may stand there
pub record Reads (n : ℕ) (scope text : List ℕ) (found : Read) : Type 0 where
  pub takes : Takes (Spells found.tree) text found.rest
  pub fits : Fits n scope found.sort found.tree

-- a reader that reads exactly what may stand at its places
pub record IsReader (r : Reader) (n : ℕ) : Type 0 where
  pub is : (scope text : List ℕ) (found : Read) → r scope text ≡ Some found → Reads n scope text found
  pub again : (scope : List ℕ) (s : Sort) (t : Tree) (front rest : List ℕ) → Fits n scope s t → Spells t front → IsApart front rest → r scope (front ++ rest) ≡ Some (read_as t s rest)
  pub opening : (scope text : List ℕ) (found : Read) → r scope text ≡ Some found → opens text ≡ true
  pub refuses : (scope text : List ℕ) → run_of text ≡ 110 ∷ 111 ∷ 116 ∷ [] → r scope text ≡ None

-- ---- what is found

same_sort_is : (s r : Sort) → same_sort s r ≡ true → s ≡ r
same_sort_is sort.Int sort.Int e = refl
same_sort_is sort.Int sort.Formula e = absurd cc
same_sort_is sort.Int sort.Memory e = absurd cc
same_sort_is sort.Formula sort.Int e = absurd cc
same_sort_is sort.Formula sort.Formula e = refl
same_sort_is sort.Formula sort.Memory e = absurd cc
same_sort_is sort.Memory sort.Int e = absurd cc
same_sort_is sort.Memory sort.Formula e = absurd cc
same_sort_is sort.Memory sort.Memory e = refl

pub same_sort_self : (s : Sort) → same_sort s s ≡ true
same_sort_self sort.Int = refl
same_sort_self sort.Formula = refl
same_sort_self sort.Memory = refl

-- a part of this sort
pub record IsPart (n : ℕ) (scope : List ℕ) (s : Sort) (text : List ℕ) (found : Read) : Type 0 where
  pub takes : Takes (Spells found.tree) text found.rest
  pub fits : Fits n scope s found.tree

pub of_sort_is : (n : ℕ) (scope : List ℕ) (s : Sort) (text : List ℕ) (one found : Read) → Reads n scope text one → of_sort s one ≡ Some found → IsPart n scope s text found
of_sort_is n scope s text one found h e =
    let g = if_some (same_sort one.sort s) one found e in
    let one_is : IsPart n scope s text one = record { takes = h.takes; fits = subst (λ q. Fits n scope q one.tree) (same_sort_is one.sort s g.0) h.fits } in
    subst (IsPart n scope s text) g.1 one_is

pub part_is : (r : Reader) (n : ℕ) → IsReader r n → (scope : List ℕ) (s : Sort) (text : List ℕ) (found : Read) → part r scope s text ≡ Some found → IsPart n scope s (after_blanks text) found
unfolding part
part_is r n h scope s text found e =
    let b = bind_some (r scope (after_blanks text)) (of_sort s) found e in
    of_sort_is n scope s (after_blanks text) b.0 found (h.is scope (after_blanks text) b.0 b.1) b.2

-- a part after a mark, and the form that it makes with what follows
pub record IsPartAfter (n : ℕ) (scope : List ℕ) (mark : ℕ) (s : Sort) (text : List ℕ) (found : Read) : Type 1 where
  pub fits : Fits n scope s found.tree
  pub follows : (Y : Form) (rest : List ℕ) → Takes Y (after_blanks found.rest) rest → Takes (Then (Token (mark ∷ [])) (Then (Spells found.tree) Y)) (after_blanks text) rest

pub part_after_is : (r : Reader) (n : ℕ) → IsReader r n → (scope : List ℕ) (mark : ℕ) (s : Sort) (text : List ℕ) (found : Read) → is_run mark ≡ false → part_after r scope mark s text ≡ Some found → IsPartAfter n scope mark s text found
unfolding part_after
part_after_is r n h scope mark s text found plain e =
    let b = bind_some (after_mark mark text) (part r scope s) found e in
    let p = part_is r n h scope s b.0 found b.2 in
    let m = after_mark_takes mark text b.0 plain b.1 in
    record {
      fits = p.fits;
      follows = λ Y rest next. takes_then (Token (mark ∷ [])) (Then (Spells found.tree) Y) (after_blanks text) b.0 rest m (takes_then (Spells found.tree) Y (after_blanks b.0) found.rest rest p.takes next);
    }

-- a place of a memory after a comma
pub record IsCell (n : ℕ) (scope text : List ℕ) (found : Read) : Type 1 where
  pub fits : Fits n scope sort.Int found.tree
  pub follows : (Y : Form) (rest : List ℕ) → Takes Y (after_blanks found.rest) rest
      → Takes (Then (Token (codes ",")) (Then (Token (codes "[")) (Then (Spells found.tree) (Then (Token (codes "]")) Y)))) (after_blanks text) rest

cell_is : (r : Reader) (n : ℕ) → IsReader r n → (scope text : List ℕ) (found : Read) → cell_after r scope text ≡ Some found → IsCell n scope text found
unfolding cell cell_after
cell_is r n h scope text found e =
    let b = bind_some (after_mark 44 text) (cell r scope) found e in
    let c = bind_some (part_after r scope 91 sort.Int b.0) (λ x. after_mark 93 x.rest >>= λ rest. Some (read_as x.tree x.sort rest)) found b.2 in
    let x : Read = c.0 in
    let d = bind_some (after_mark 93 x.rest) (λ rest. Some (read_as x.tree x.sort rest)) found c.2 in
    let p = part_after_is r n h scope 91 sort.Int b.0 x refl c.1 in
    let m = after_mark_takes 44 text b.0 refl b.1 in
    let one : IsCell n scope text (read_as x.tree x.sort d.0) = record {
      fits = p.fits;
      follows = λ Y rest next. takes_then (Token (codes ",")) (Then (Token (codes "[")) (Then (Spells x.tree) (Then (Token (codes "]")) Y))) (after_blanks text) b.0 rest m
          (p.follows (Then (Token (codes "]")) Y) rest (takes_then (Token (codes "]")) Y (after_blanks x.rest) d.0 rest (after_mark_takes 93 x.rest d.0 refl d.1) next));
    } in
    subst (IsCell n scope text) (some_is (read_as x.tree x.sort d.0) found d.2) one

-- a form that ends with the closing parenthesis
pub closed_is : (t : Tree) (s : Sort) (text : List ℕ) (found : Read) (P : Read → Type 0) → closed t s text ≡ Some found → ((rest : List ℕ) → Takes (Token (codes ")")) (after_blanks text) rest → P (read_as t s rest)) → P found
unfolding closed
closed_is t s text found P e make =
    let b = bind_some (after_mark 41 text) (λ rest. Some (read_as t s rest)) found e in
    subst P (some_is (read_as t s b.0) found b.2) (make b.0 (after_mark_takes 41 text b.0 refl b.1))

-- a step of a form, and what it leaves to prove
pub then_part : (r : Reader) (n : ℕ) → IsReader r n → (P : Type 0) (scope : List ℕ) (s : Sort) (text : List ℕ) (next : Read → Option Read) (found : Read)
    → (part r scope s text >>= next) ≡ Some found → ((x : Read) → IsPart n scope s (after_blanks text) x → next x ≡ Some found → P) → P
then_part r n h P scope s text next found e go = let b = bind_some (part r scope s text) next found e in go b.0 (part_is r n h scope s text b.0 b.1) b.2

pub then_part_after : (r : Reader) (n : ℕ) → IsReader r n → (P : Type 0) (scope : List ℕ) (mark : ℕ) (s : Sort) (text : List ℕ) (next : Read → Option Read) (found : Read) → is_run mark ≡ false
    → (part_after r scope mark s text >>= next) ≡ Some found → ((x : Read) → IsPartAfter n scope mark s text x → next x ≡ Some found → P) → P
then_part_after r n h P scope mark s text next found plain e go =
    let b = bind_some (part_after r scope mark s text) next found e in go b.0 (part_after_is r n h scope mark s text b.0 plain b.1) b.2

pub then_cell : (r : Reader) (n : ℕ) → IsReader r n → (P : Type 0) (scope text : List ℕ) (next : Read → Option Read) (found : Read)
    → (cell_after r scope text >>= next) ≡ Some found → ((x : Read) → IsCell n scope text x → next x ≡ Some found → P) → P
then_cell r n h P scope text next found e go = let b = bind_some (cell_after r scope text) next found e in go b.0 (cell_is r n h scope text b.0 b.1) b.2

-- ---- what is found again

-- what is left after a step: blanks, a text of a form, and the rest
pub record Next (Y : Form) (rest : List ℕ) (E : List ℕ → Type 0) : Type 0 where
  pub blanks : List ℕ
  pub text : List ℕ
  pub blank : list_all is_blank blanks ≡ true
  pub is : Y text
  pub gives : E (blanks ++ (text ++ rest))

regroup : (front blanks back rest : List ℕ) → (front ++ (blanks ++ back)) ++ rest ≡ front ++ (blanks ++ (back ++ rest))
regroup front blanks back rest = simp append_assoc

pub split : (X Y : Form) (text rest : List ℕ) → (h : Then X Y text) → text ++ rest ≡ h.front ++ (h.blanks ++ (h.back ++ rest))
split X Y text rest h = ap (λ w. w ++ rest) h.whole ∙ regroup h.front h.blanks h.back rest

pub front_apart : (X Y : Form) (text rest : List ℕ) → IsFilled Y → (h : Then X Y text) → IsApart h.front (h.blanks ++ (h.back ++ rest))
front_apart X Y text rest filled h =
    subst (IsApart h.front) (append_assoc h.blanks h.back rest) (apart_more h.front (h.blanks ++ h.back) rest (omega (arith, length-append h.blanks h.back, filled h.back h.in_back)) h.apart)

pub opens_solid : (text : List ℕ) → opens text ≡ true → stops is_blank text ≡ true
opens_solid [] e = absurd cc
opens_solid (byte ∷ bytes) e = other byte (begins_run bytes) e
  where
    other : (c : ℕ) (b : Bool) → (c == 40 || (c == 45 && b || is_run c)) ≡ true → cond (is_blank c) false true ≡ true
    other c b h = grind arith

-- what is read at the front is read after blanks
pub part_again : (r : Reader) (n : ℕ) → IsReader r n → (scope : List ℕ) (s : Sort) (t : Tree) (blanks front rest : List ℕ) → list_all is_blank blanks ≡ true → Fits n scope s t → Spells t front → IsApart front rest
    → part r scope s (blanks ++ (front ++ rest)) ≡ Some (read_as t s rest)
unfolding part
part_again r n h scope s t blanks front rest blank fits spells apart =
    let e = h.again scope s t front rest fits spells apart in
    let solid = opens_solid (front ++ rest) (h.opening scope (front ++ rest) (read_as t s rest) e) in
    ap (λ w. r scope w >>= of_sort s) (blanks_again blanks (front ++ rest) blank solid) ∙ ap (λ o. o >>= of_sort s) e ∙ rw (same_sort_self s) refl

pub part_step : (r : Reader) (n : ℕ) → IsReader r n → (scope : List ℕ) (s : Sort) (t : Tree) (Y : Form) → IsFilled Y → (blanks text rest : List ℕ) → list_all is_blank blanks ≡ true → Fits n scope s t → Then (Spells t) Y text
    → Next Y rest (λ tail. part r scope s (blanks ++ (text ++ rest)) ≡ Some (read_as t s tail))
part_step r n h scope s t Y filled blanks text rest blank fits g = record {
  blanks = g.blanks;
  text = g.back;
  blank = g.blank;
  is = g.in_back;
  gives = ap (λ w. part r scope s (blanks ++ w)) (split (Spells t) Y text rest g)
      ∙ part_again r n h scope s t blanks g.front (g.blanks ++ (g.back ++ rest)) blank fits g.in_front (front_apart (Spells t) Y text rest filled g);
}

pub mark_step : (mark : ℕ) → is_blank mark ≡ false → (Y : Form) (blanks text rest : List ℕ) → list_all is_blank blanks ≡ true → Then (Token (mark ∷ [])) Y text
    → Next Y rest (λ tail. after_mark mark (blanks ++ (text ++ rest)) ≡ Some tail)
mark_step mark solid Y blanks text rest blank g = record {
  blanks = g.blanks;
  text = g.back;
  blank = g.blank;
  is = g.in_back;
  gives = ap (λ w. after_mark mark (blanks ++ w)) (split (Token (mark ∷ [])) Y text rest g ∙ ap (λ w. w ++ (g.blanks ++ (g.back ++ rest))) g.in_front)
      ∙ mark_again mark blanks (g.blanks ++ (g.back ++ rest)) solid blank;
}

pub part_after_step : (r : Reader) (n : ℕ) → IsReader r n → (scope : List ℕ) (mark : ℕ) (s : Sort) (t : Tree) (Y : Form) → is_blank mark ≡ false → IsFilled Y → (blanks text rest : List ℕ) → list_all is_blank blanks ≡ true
    → Fits n scope s t → Then (Token (mark ∷ [])) (Then (Spells t) Y) text → Next Y rest (λ tail. part_after r scope mark s (blanks ++ (text ++ rest)) ≡ Some (read_as t s tail))
unfolding part_after
part_after_step r n h scope mark s t Y solid filled blanks text rest blank fits g =
    let m = mark_step mark solid (Then (Spells t) Y) blanks text rest blank g in
    let p = part_step r n h scope s t Y filled m.blanks m.text rest m.blank fits m.is in
    record { blanks = p.blanks; text = p.text; blank = p.blank; is = p.is; gives = ap (λ o. o >>= part r scope s) m.gives ∙ p.gives }

pub cell_step : (r : Reader) (n : ℕ) → IsReader r n → (scope : List ℕ) (t : Tree) (Y : Form) (blanks text rest : List ℕ) → list_all is_blank blanks ≡ true → Fits n scope sort.Int t
    → Then (Token (codes ",")) (Then (Token (codes "[")) (Then (Spells t) (Then (Token (codes "]")) Y))) text
    → Next Y rest (λ tail. cell_after r scope (blanks ++ (text ++ rest)) ≡ Some (read_as t sort.Int tail))
unfolding cell cell_after
cell_step r n h scope t Y blanks text rest blank fits g =
    let filled : IsFilled (Then (Token (codes "]")) Y) = λ w i. omega (arith, ap length i.whole, ap length i.in_front, length-append i.front (i.blanks ++ i.back)) in
    let m = mark_step 44 refl (Then (Token (codes "[")) (Then (Spells t) (Then (Token (codes "]")) Y))) blanks text rest blank g in
    let p = part_after_step r n h scope 91 sort.Int t (Then (Token (codes "]")) Y) refl filled m.blanks m.text rest m.blank fits m.is in
    let c = mark_step 93 refl Y p.blanks p.text rest p.blank p.is in
    record { blanks = c.blanks; text = c.text; blank = c.blank; is = c.is; gives = ap (λ o. o >>= cell r scope) m.gives ∙ ap (λ o. o >>= λ x. after_mark 93 x.rest >>= λ tail. Some (read_as x.tree x.sort tail)) p.gives ∙ ap (λ o. o >>= λ tail. Some (read_as t sort.Int tail)) c.gives }

pub closed_again : (t : Tree) (s : Sort) (blanks text rest : List ℕ) → list_all is_blank blanks ≡ true → Token (codes ")") text → closed t s (blanks ++ (text ++ rest)) ≡ Some (read_as t s rest)
unfolding closed
closed_again t s blanks text rest blank e =
    ap (λ w. after_mark 41 (blanks ++ (w ++ rest)) >>= λ tail. Some (read_as t s tail)) e ∙ ap (λ o. o >>= λ tail. Some (read_as t s tail)) (mark_again 41 blanks rest refl blank)
