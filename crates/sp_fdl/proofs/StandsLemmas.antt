-- The reader answers what a text stands for.
use Rattle.std.proofs.Common.{◌≡◌, ℕ, List, [], ◌∷◌, ◌++◌, Some, None, refl, sym, ap, subst, ◌∙◌}
use Rattle.std.proofs.lemmas.List.{append-nil}
use Rattle.sp_term.specs.Tree.{Tree}
use Rattle.sp_term.specs.Sorts.{Sort, Int, Formula, Memory, HasSort}
use Rattle.sp_fdl.specs.declared.sort.Sort as code
use Rattle.sp_fdl.specs.declared.sort.Sort.TheVariants as sort
use Rattle.sp_fdl.specs.Text.{Spells, StandsFor}
use Rattle.sp_fdl.specs.code.Tokens.{◌>>=◌}
use Rattle.sp_fdl.specs.code.Reading.{Read, read_at, whole, read_of}
use Rattle.sp_fdl.proofs.TextLemmas.{bind_some, some_is}
use Rattle.sp_fdl.proofs.FitLemmas.{meaning, Fits, closed_within, within_closed}
use Rattle.sp_fdl.proofs.FormAgainLemmas.{reads}

whole_is : (t : Tree) (rest : List ℕ) (found : Tree) → whole t rest ≡ Some found → (rest ≡ []) × (t ≡ found)
whole_is t [] found e = (refl, some_is t found e)
whole_is t (byte ∷ rest) found e = absurd cc

stands : (text : List ℕ) (t : Tree) (s : code.Sort) (front : List ℕ) → text ≡ front → Spells t front → Fits 2000 [] s t → StandsFor text t
stands text t s front e spells f = record {
  readable = record { term = (meaning s, f.sort); numbers = f.numbers; closed = within_closed t f.within; shallow = f.shallow };
  spells = subst (Spells t) (sym e) spells;
}

pub read_stands : (text : List ℕ) (t : Tree) → read_of text ≡ Some t → StandsFor text t
unfolding read_of
read_stands text t e =
    let b = bind_some (read_at 2000 [] text) (λ found. whole found.tree found.rest) t e in
    let found : Read = b.0 in
    let h = (reads 2000).is [] text found b.1 in
    let w = whole_is found.tree found.rest t b.2 in
    let all : text ≡ h.takes.front = h.takes.whole ∙ ap (λ u. h.takes.front ++ u) w.0 ∙ append-nil h.takes.front in
    subst (StandsFor text) w.1 (stands text found.tree found.sort h.takes.front all h.takes.is h.fits)

code_sort : (s : Sort) → (r : code.Sort) × (meaning r ≡ s)
code_sort Int = (sort.Int, refl)
code_sort Formula = (sort.Formula, refl)
code_sort Memory = (sort.Memory, refl)

pub stands_read : (text : List ℕ) (t : Tree) → StandsFor text t → read_of text ≡ Some t
unfolding read_of
stands_read text t h =
    let s : Sort = h.readable.term.0 in
    let c = code_sort s in
    let fits : Fits 2000 [] c.0 t = record {
      sort = subst (HasSort t) (sym c.1) h.readable.term.1;
      numbers = h.readable.numbers;
      within = closed_within t h.readable.closed;
      shallow = h.readable.shallow;
    } in
    let e = (reads 2000).again [] c.0 t text [] fits h.spells (λ ends. refl) in
    ap (λ w. read_at 2000 [] w >>= λ found. whole found.tree found.rest) (sym (append-nil text)) ∙ ap (λ o. o >>= λ found. whole found.tree found.rest) e

-- a text stands for one tree at most
pub one_tree : (text : List ℕ) (t u : Tree) → StandsFor text t → StandsFor text u → t ≡ u
one_tree text t u one other = some_is t u (sym (stands_read text t one) ∙ stands_read text u other)

pub none_stands : (text : List ℕ) → read_of text ≡ None → (t : Tree) → StandsFor text t → ⊥
none_stands text e t h = let is = stands_read text t h in absurd cc
