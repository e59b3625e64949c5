-- Where a term may stand: its sort, its numbers, the names that are bound round it, and how deep it is.
use Rattle.std.proofs.Common.{◌≡◌, ℕ, suc, ◌<◌, ◌≤◌, Bool, true, false, List, [], ◌∷◌, refl, sym, ap, ◌∙◌, arith, true≢false, inl, inr}
use Rattle.std.specs.Prelude.{◌&&◌, ◌||◌, ◌==◌, not}
use Rattle.std.specs.List.{list_any}
use Rattle.std.proofs.lemmas.Bool.{or_cases, or_left, or_right, and_parts, and_from, cases_Bool, eqb-true, eq-eqb, false_from_ne_true}
use Rattle.sp_term.specs.declared.var.Var.TheVariants as var
use Rattle.sp_term.specs.Tree.{Tree, Literal, Truth, Variable, Add, Subtract, Multiply, Divide, Remainder, ByteAnd, ByteOr, ByteXor, Parity, Bit, Psw, If, Element, Update, Total, Equal, Less, LessOrEqual, Not, And, Or, Implies, Iff, ForAll, ForSome, depth_of}
use Rattle.sp_term.specs.Sorts.{Sort, Int, Formula, Memory, HasSort}
use Rattle.sp_term.specs.Free.{is_free}
use Rattle.sp_fdl.specs.declared.sort.Sort as code
use Rattle.sp_fdl.specs.declared.sort.Sort.TheVariants as sort
use Rattle.sp_fdl.specs.declared.operator.Operator.{Operator}
use Rattle.sp_fdl.specs.declared.operator.Operator.TheVariants as operator
use Rattle.sp_fdl.specs.declared.word.Pairing.{Pairing}
use Rattle.sp_fdl.specs.declared.word.Pairing.TheVariants as pairs
use Rattle.sp_fdl.specs.Text.{HasNumbers}
use Rattle.sp_fdl.specs.code.Operators.{part_sort, whole_sort, operated}
use Rattle.sp_fdl.specs.code.Reading.{pairing, quantifying}

abbrev pub meaning : code.Sort → Sort
meaning sort.Int = Int
meaning sort.Formula = Formula
meaning sort.Memory = Memory

-- each bound name that is free in a tree is among these
abbrev pub Within : List ℕ → Tree → Type 0
Within scope t = (k : ℕ) → is_free (var.Bound k) t ≡ true → list_any (λ j. j == k) scope ≡ true

pub record Fits (n : ℕ) (scope : List ℕ) (s : code.Sort) (t : Tree) : Type 0 where
  pub sort : HasSort t (meaning s)
  pub numbers : HasNumbers t
  pub within : Within scope t
  pub shallow : depth_of t ≤ n

pub int_sort : (s : code.Sort) → meaning s ≡ Int → s ≡ sort.Int
int_sort sort.Int e = refl
int_sort sort.Formula e = absurd cc
int_sort sort.Memory e = absurd cc

pub formula_sort : (s : code.Sort) → meaning s ≡ Formula → s ≡ sort.Formula
formula_sort sort.Int e = absurd cc
formula_sort sort.Formula e = refl
formula_sort sort.Memory e = absurd cc

pub memory_sort : (s : code.Sort) → meaning s ≡ Memory → s ≡ sort.Memory
memory_sort sort.Int e = absurd cc
memory_sort sort.Formula e = absurd cc
memory_sort sort.Memory e = refl

either : (a b : Bool) (P : Type 0) → (a ≡ true → P) → (b ≡ true → P) → (a || b) ≡ true → P
either a b P left right h = elim (or_cases a b h) [
  | inl e ↦ left e
  | inr e ↦ right e
]

-- ---- from the parts to the whole

pub fits_operated : (n : ℕ) (scope : List ℕ) (o : Operator) (x y : Tree) → Fits n scope (part_sort o) x → Fits n scope (part_sort o) y → Fits (suc n) scope (whole_sort o) (operated o x y)
fits_operated n scope operator.Add x y a b = let d0 = a.shallow in let d1 = b.shallow in record { sort = (refl, a.sort, b.sort); numbers = (a.numbers, b.numbers); within = λ k h. (either (is_free (var.Bound k) x) (is_free (var.Bound k) y) (list_any (λ j. j == k) scope ≡ true) (a.within k) (b.within k)) h; shallow = omega arith }
fits_operated n scope operator.Subtract x y a b = let d0 = a.shallow in let d1 = b.shallow in record { sort = (refl, a.sort, b.sort); numbers = (a.numbers, b.numbers); within = λ k h. (either (is_free (var.Bound k) x) (is_free (var.Bound k) y) (list_any (λ j. j == k) scope ≡ true) (a.within k) (b.within k)) h; shallow = omega arith }
fits_operated n scope operator.Multiply x y a b = let d0 = a.shallow in let d1 = b.shallow in record { sort = (refl, a.sort, b.sort); numbers = (a.numbers, b.numbers); within = λ k h. (either (is_free (var.Bound k) x) (is_free (var.Bound k) y) (list_any (λ j. j == k) scope ≡ true) (a.within k) (b.within k)) h; shallow = omega arith }
fits_operated n scope operator.Divide x y a b = let d0 = a.shallow in let d1 = b.shallow in record { sort = (refl, a.sort, b.sort); numbers = (a.numbers, b.numbers); within = λ k h. (either (is_free (var.Bound k) x) (is_free (var.Bound k) y) (list_any (λ j. j == k) scope ≡ true) (a.within k) (b.within k)) h; shallow = omega arith }
fits_operated n scope operator.Remainder x y a b = let d0 = a.shallow in let d1 = b.shallow in record { sort = (refl, a.sort, b.sort); numbers = (a.numbers, b.numbers); within = λ k h. (either (is_free (var.Bound k) x) (is_free (var.Bound k) y) (list_any (λ j. j == k) scope ≡ true) (a.within k) (b.within k)) h; shallow = omega arith }
fits_operated n scope operator.Equal x y a b = let d0 = a.shallow in let d1 = b.shallow in record { sort = (refl, a.sort, b.sort); numbers = (a.numbers, b.numbers); within = λ k h. (either (is_free (var.Bound k) x) (is_free (var.Bound k) y) (list_any (λ j. j == k) scope ≡ true) (a.within k) (b.within k)) h; shallow = omega arith }
fits_operated n scope operator.Less x y a b = let d0 = a.shallow in let d1 = b.shallow in record { sort = (refl, a.sort, b.sort); numbers = (a.numbers, b.numbers); within = λ k h. (either (is_free (var.Bound k) x) (is_free (var.Bound k) y) (list_any (λ j. j == k) scope ≡ true) (a.within k) (b.within k)) h; shallow = omega arith }
fits_operated n scope operator.LessOrEqual x y a b = let d0 = a.shallow in let d1 = b.shallow in record { sort = (refl, a.sort, b.sort); numbers = (a.numbers, b.numbers); within = λ k h. (either (is_free (var.Bound k) x) (is_free (var.Bound k) y) (list_any (λ j. j == k) scope ≡ true) (a.within k) (b.within k)) h; shallow = omega arith }
fits_operated n scope operator.And x y a b = let d0 = a.shallow in let d1 = b.shallow in record { sort = (refl, a.sort, b.sort); numbers = (a.numbers, b.numbers); within = λ k h. (either (is_free (var.Bound k) x) (is_free (var.Bound k) y) (list_any (λ j. j == k) scope ≡ true) (a.within k) (b.within k)) h; shallow = omega arith }
fits_operated n scope operator.Or x y a b = let d0 = a.shallow in let d1 = b.shallow in record { sort = (refl, a.sort, b.sort); numbers = (a.numbers, b.numbers); within = λ k h. (either (is_free (var.Bound k) x) (is_free (var.Bound k) y) (list_any (λ j. j == k) scope ≡ true) (a.within k) (b.within k)) h; shallow = omega arith }
fits_operated n scope operator.Implies x y a b = let d0 = a.shallow in let d1 = b.shallow in record { sort = (refl, a.sort, b.sort); numbers = (a.numbers, b.numbers); within = λ k h. (either (is_free (var.Bound k) x) (is_free (var.Bound k) y) (list_any (λ j. j == k) scope ≡ true) (a.within k) (b.within k)) h; shallow = omega arith }
fits_operated n scope operator.Iff x y a b = let d0 = a.shallow in let d1 = b.shallow in record { sort = (refl, a.sort, b.sort); numbers = (a.numbers, b.numbers); within = λ k h. (either (is_free (var.Bound k) x) (is_free (var.Bound k) y) (list_any (λ j. j == k) scope ≡ true) (a.within k) (b.within k)) h; shallow = omega arith }

pub fits_pairing : (n : ℕ) (scope : List ℕ) (which : Pairing) (x y : Tree) → Fits n scope sort.Int x → Fits n scope sort.Int y → Fits (suc n) scope sort.Int (pairing which x y)
fits_pairing n scope pairs.And x y a b = let d0 = a.shallow in let d1 = b.shallow in record { sort = (refl, a.sort, b.sort); numbers = (a.numbers, b.numbers); within = λ k h. (either (is_free (var.Bound k) x) (is_free (var.Bound k) y) (list_any (λ j. j == k) scope ≡ true) (a.within k) (b.within k)) h; shallow = omega arith }
fits_pairing n scope pairs.Or x y a b = let d0 = a.shallow in let d1 = b.shallow in record { sort = (refl, a.sort, b.sort); numbers = (a.numbers, b.numbers); within = λ k h. (either (is_free (var.Bound k) x) (is_free (var.Bound k) y) (list_any (λ j. j == k) scope ≡ true) (a.within k) (b.within k)) h; shallow = omega arith }
fits_pairing n scope pairs.Xor x y a b = let d0 = a.shallow in let d1 = b.shallow in record { sort = (refl, a.sort, b.sort); numbers = (a.numbers, b.numbers); within = λ k h. (either (is_free (var.Bound k) x) (is_free (var.Bound k) y) (list_any (λ j. j == k) scope ≡ true) (a.within k) (b.within k)) h; shallow = omega arith }

pub fits_not : (n : ℕ) (scope : List ℕ) (p : Tree) → Fits n scope sort.Formula p → Fits (suc n) scope sort.Formula (Not p)
fits_not n scope p fp = let d0 = fp.shallow in record { sort = (refl, fp.sort); numbers = fp.numbers; within = λ k h. (fp.within k) h; shallow = omega arith }

pub fits_parity : (n : ℕ) (scope : List ℕ) (x : Tree) → Fits n scope sort.Int x → Fits (suc n) scope sort.Int (Parity x)
fits_parity n scope x fx = let d0 = fx.shallow in record { sort = (refl, fx.sort); numbers = fx.numbers; within = λ k h. (fx.within k) h; shallow = omega arith }

pub fits_flags : (n : ℕ) (scope : List ℕ) (s z ac p cy : Tree) → Fits n scope sort.Int s → Fits n scope sort.Int z → Fits n scope sort.Int ac → Fits n scope sort.Int p → Fits n scope sort.Int cy → Fits (suc n) scope sort.Int (Psw s z ac p cy)
fits_flags n scope s z ac p cy fs fz fac fp fcy = let d0 = fs.shallow in let d1 = fz.shallow in let d2 = fac.shallow in let d3 = fp.shallow in let d4 = fcy.shallow in record { sort = (refl, fs.sort, fz.sort, fac.sort, fp.sort, fcy.sort); numbers = (fs.numbers, fz.numbers, fac.numbers, fp.numbers, fcy.numbers); within = λ k h. (either ((((is_free (var.Bound k) s) || (is_free (var.Bound k) z)) || (is_free (var.Bound k) ac)) || (is_free (var.Bound k) p)) (is_free (var.Bound k) cy) (list_any (λ j. j == k) scope ≡ true) (either (((is_free (var.Bound k) s) || (is_free (var.Bound k) z)) || (is_free (var.Bound k) ac)) (is_free (var.Bound k) p) (list_any (λ j. j == k) scope ≡ true) (either ((is_free (var.Bound k) s) || (is_free (var.Bound k) z)) (is_free (var.Bound k) ac) (list_any (λ j. j == k) scope ≡ true) (either (is_free (var.Bound k) s) (is_free (var.Bound k) z) (list_any (λ j. j == k) scope ≡ true) (fs.within k) (fz.within k)) (fac.within k)) (fp.within k)) (fcy.within k)) h; shallow = omega arith }

pub fits_if : (n : ℕ) (scope : List ℕ) (p x y : Tree) → Fits n scope sort.Formula p → Fits n scope sort.Int x → Fits n scope sort.Int y → Fits (suc n) scope sort.Int (If p x y)
fits_if n scope p x y fp fx fy = let d0 = fp.shallow in let d1 = fx.shallow in let d2 = fy.shallow in record { sort = (refl, fp.sort, fx.sort, fy.sort); numbers = (fp.numbers, fx.numbers, fy.numbers); within = λ k h. (either ((is_free (var.Bound k) p) || (is_free (var.Bound k) x)) (is_free (var.Bound k) y) (list_any (λ j. j == k) scope ≡ true) (either (is_free (var.Bound k) p) (is_free (var.Bound k) x) (list_any (λ j. j == k) scope ≡ true) (fp.within k) (fx.within k)) (fy.within k)) h; shallow = omega arith }

pub fits_element : (n : ℕ) (scope : List ℕ) (m x : Tree) → Fits n scope sort.Memory m → Fits n scope sort.Int x → Fits (suc n) scope sort.Int (Element m x)
fits_element n scope m x fm fx = let d0 = fm.shallow in let d1 = fx.shallow in record { sort = (refl, fm.sort, fx.sort); numbers = (fm.numbers, fx.numbers); within = λ k h. (either (is_free (var.Bound k) m) (is_free (var.Bound k) x) (list_any (λ j. j == k) scope ≡ true) (fm.within k) (fx.within k)) h; shallow = omega arith }

pub fits_update : (n : ℕ) (scope : List ℕ) (m x y : Tree) → Fits n scope sort.Memory m → Fits n scope sort.Int x → Fits n scope sort.Int y → Fits (suc n) scope sort.Memory (Update m x y)
fits_update n scope m x y fm fx fy = let d0 = fm.shallow in let d1 = fx.shallow in let d2 = fy.shallow in record { sort = (refl, fm.sort, fx.sort, fy.sort); numbers = (fm.numbers, fx.numbers, fy.numbers); within = λ k h. (either ((is_free (var.Bound k) m) || (is_free (var.Bound k) x)) (is_free (var.Bound k) y) (list_any (λ j. j == k) scope ≡ true) (either (is_free (var.Bound k) m) (is_free (var.Bound k) x) (list_any (λ j. j == k) scope ≡ true) (fm.within k) (fx.within k)) (fy.within k)) h; shallow = omega arith }

pub fits_total : (n : ℕ) (scope : List ℕ) (m x y : Tree) → Fits n scope sort.Memory m → Fits n scope sort.Int x → Fits n scope sort.Int y → Fits (suc n) scope sort.Int (Total m x y)
fits_total n scope m x y fm fx fy = let d0 = fm.shallow in let d1 = fx.shallow in let d2 = fy.shallow in record { sort = (refl, fm.sort, fx.sort, fy.sort); numbers = (fm.numbers, fx.numbers, fy.numbers); within = λ k h. (either ((is_free (var.Bound k) m) || (is_free (var.Bound k) x)) (is_free (var.Bound k) y) (list_any (λ j. j == k) scope ≡ true) (either (is_free (var.Bound k) m) (is_free (var.Bound k) x) (list_any (λ j. j == k) scope ≡ true) (fm.within k) (fx.within k)) (fy.within k)) h; shallow = omega arith }

pub fits_bit : (n : ℕ) (scope : List ℕ) (k : ℕ) (x : Tree) → k ≤ 7 → Fits n scope sort.Int x → Fits (suc n) scope sort.Int (Bit k x)
fits_bit n scope k x low f = let d = f.shallow in record { sort = (refl, low, f.sort); numbers = f.numbers; within = f.within; shallow = omega arith }

-- a name that is free in the formula of a quantifier is another one, or the quantifier's own
inner : (k j : ℕ) (scope : List ℕ) (b : Bool) → (b ≡ true → list_any (λ i. i == j) (k ∷ scope) ≡ true) → (not (j == k) && b) ≡ true → list_any (λ i. i == j) scope ≡ true
inner k j scope b h e =
    let p = and_parts (not (j == k)) b e in
    elim (or_cases (k == j) (list_any (λ i. i == j) scope) (h p.1)) [
      | inl same ↦ absurd (other (j == k) p.0 (eq-eqb j k (sym (eqb-true k j same))))
      | inr there ↦ there
    ]
  where
    other : (c : Bool) → not c ≡ true → c ≡ true → ⊥
    other true u v = true≢false (sym u)
    other false u v = true≢false (sym v)

outer : (k j : ℕ) (scope : List ℕ) (b : Bool) → ((not (j == k) && b) ≡ true → list_any (λ i. i == j) scope ≡ true) → b ≡ true → list_any (λ i. i == j) (k ∷ scope) ≡ true
outer k j scope b h e =
    elim (cases_Bool (j == k)) [
      | inl same ↦ or_left (k == j) (list_any (λ i. i == j) scope) (eq-eqb k j (sym (eqb-true j k same)))
      | inr other ↦ or_right (k == j) (list_any (λ i. i == j) scope) (h (and_from (not (j == k)) b (ap not other) e))
    ]

pub fits_quantifying : (n : ℕ) (scope : List ℕ) (all : Bool) (k : ℕ) (x y p : Tree) → 1 ≤ k → k ≤ 4294967295 → Fits n scope sort.Int x → Fits n scope sort.Int y → Fits n (k ∷ scope) sort.Formula p → Fits (suc n) scope sort.Formula (quantifying all k x y p)
fits_quantifying n scope true k x y p low high a b f = let d = a.shallow in let g = b.shallow in let q = f.shallow in record { sort = (refl, low, a.sort, b.sort, f.sort); numbers = (high, a.numbers, b.numbers, f.numbers); within = λ j h. either ((is_free (var.Bound j) x) || (is_free (var.Bound j) y)) (not (j == k) && is_free (var.Bound j) p) (list_any (λ i. i == j) scope ≡ true) (either (is_free (var.Bound j) x) (is_free (var.Bound j) y) (list_any (λ i. i == j) scope ≡ true) (a.within j) (b.within j)) (inner k j scope (is_free (var.Bound j) p) (f.within j)) h; shallow = omega arith }
fits_quantifying n scope false k x y p low high a b f = let d = a.shallow in let g = b.shallow in let q = f.shallow in record { sort = (refl, low, a.sort, b.sort, f.sort); numbers = (high, a.numbers, b.numbers, f.numbers); within = λ j h. either ((is_free (var.Bound j) x) || (is_free (var.Bound j) y)) (not (j == k) && is_free (var.Bound j) p) (list_any (λ i. i == j) scope ≡ true) (either (is_free (var.Bound j) x) (is_free (var.Bound j) y) (list_any (λ i. i == j) scope ≡ true) (a.within j) (b.within j)) (inner k j scope (is_free (var.Bound j) p) (f.within j)) h; shallow = omega arith }

-- ---- from the whole to its parts

pub record Two (n : ℕ) (scope : List ℕ) (whole one other s : code.Sort) (x y : Tree) : Type 0 where
  pub of_sort : s ≡ whole
  pub left : Fits n scope one x
  pub right : Fits n scope other y

pub parts_operated : (n : ℕ) (scope : List ℕ) (s : code.Sort) (o : Operator) (x y : Tree) → Fits (suc n) scope s (operated o x y) → Two n scope (whole_sort o) (part_sort o) (part_sort o) s x y
parts_operated n scope s operator.Add x y h = let d = h.shallow in record { of_sort = int_sort s h.sort.0; left = record { sort = h.sort.1; numbers = h.numbers.0; within = λ k e. h.within k (or_left (is_free (var.Bound k) x) (is_free (var.Bound k) y) e); shallow = omega arith }; right = record { sort = h.sort.2; numbers = h.numbers.1; within = λ k e. h.within k (or_right (is_free (var.Bound k) x) (is_free (var.Bound k) y) e); shallow = omega arith } }
parts_operated n scope s operator.Subtract x y h = let d = h.shallow in record { of_sort = int_sort s h.sort.0; left = record { sort = h.sort.1; numbers = h.numbers.0; within = λ k e. h.within k (or_left (is_free (var.Bound k) x) (is_free (var.Bound k) y) e); shallow = omega arith }; right = record { sort = h.sort.2; numbers = h.numbers.1; within = λ k e. h.within k (or_right (is_free (var.Bound k) x) (is_free (var.Bound k) y) e); shallow = omega arith } }
parts_operated n scope s operator.Multiply x y h = let d = h.shallow in record { of_sort = int_sort s h.sort.0; left = record { sort = h.sort.1; numbers = h.numbers.0; within = λ k e. h.within k (or_left (is_free (var.Bound k) x) (is_free (var.Bound k) y) e); shallow = omega arith }; right = record { sort = h.sort.2; numbers = h.numbers.1; within = λ k e. h.within k (or_right (is_free (var.Bound k) x) (is_free (var.Bound k) y) e); shallow = omega arith } }
parts_operated n scope s operator.Divide x y h = let d = h.shallow in record { of_sort = int_sort s h.sort.0; left = record { sort = h.sort.1; numbers = h.numbers.0; within = λ k e. h.within k (or_left (is_free (var.Bound k) x) (is_free (var.Bound k) y) e); shallow = omega arith }; right = record { sort = h.sort.2; numbers = h.numbers.1; within = λ k e. h.within k (or_right (is_free (var.Bound k) x) (is_free (var.Bound k) y) e); shallow = omega arith } }
parts_operated n scope s operator.Remainder x y h = let d = h.shallow in record { of_sort = int_sort s h.sort.0; left = record { sort = h.sort.1; numbers = h.numbers.0; within = λ k e. h.within k (or_left (is_free (var.Bound k) x) (is_free (var.Bound k) y) e); shallow = omega arith }; right = record { sort = h.sort.2; numbers = h.numbers.1; within = λ k e. h.within k (or_right (is_free (var.Bound k) x) (is_free (var.Bound k) y) e); shallow = omega arith } }
parts_operated n scope s operator.Equal x y h = let d = h.shallow in record { of_sort = formula_sort s h.sort.0; left = record { sort = h.sort.1; numbers = h.numbers.0; within = λ k e. h.within k (or_left (is_free (var.Bound k) x) (is_free (var.Bound k) y) e); shallow = omega arith }; right = record { sort = h.sort.2; numbers = h.numbers.1; within = λ k e. h.within k (or_right (is_free (var.Bound k) x) (is_free (var.Bound k) y) e); shallow = omega arith } }
parts_operated n scope s operator.Less x y h = let d = h.shallow in record { of_sort = formula_sort s h.sort.0; left = record { sort = h.sort.1; numbers = h.numbers.0; within = λ k e. h.within k (or_left (is_free (var.Bound k) x) (is_free (var.Bound k) y) e); shallow = omega arith }; right = record { sort = h.sort.2; numbers = h.numbers.1; within = λ k e. h.within k (or_right (is_free (var.Bound k) x) (is_free (var.Bound k) y) e); shallow = omega arith } }
parts_operated n scope s operator.LessOrEqual x y h = let d = h.shallow in record { of_sort = formula_sort s h.sort.0; left = record { sort = h.sort.1; numbers = h.numbers.0; within = λ k e. h.within k (or_left (is_free (var.Bound k) x) (is_free (var.Bound k) y) e); shallow = omega arith }; right = record { sort = h.sort.2; numbers = h.numbers.1; within = λ k e. h.within k (or_right (is_free (var.Bound k) x) (is_free (var.Bound k) y) e); shallow = omega arith } }
parts_operated n scope s operator.And x y h = let d = h.shallow in record { of_sort = formula_sort s h.sort.0; left = record { sort = h.sort.1; numbers = h.numbers.0; within = λ k e. h.within k (or_left (is_free (var.Bound k) x) (is_free (var.Bound k) y) e); shallow = omega arith }; right = record { sort = h.sort.2; numbers = h.numbers.1; within = λ k e. h.within k (or_right (is_free (var.Bound k) x) (is_free (var.Bound k) y) e); shallow = omega arith } }
parts_operated n scope s operator.Or x y h = let d = h.shallow in record { of_sort = formula_sort s h.sort.0; left = record { sort = h.sort.1; numbers = h.numbers.0; within = λ k e. h.within k (or_left (is_free (var.Bound k) x) (is_free (var.Bound k) y) e); shallow = omega arith }; right = record { sort = h.sort.2; numbers = h.numbers.1; within = λ k e. h.within k (or_right (is_free (var.Bound k) x) (is_free (var.Bound k) y) e); shallow = omega arith } }
parts_operated n scope s operator.Implies x y h = let d = h.shallow in record { of_sort = formula_sort s h.sort.0; left = record { sort = h.sort.1; numbers = h.numbers.0; within = λ k e. h.within k (or_left (is_free (var.Bound k) x) (is_free (var.Bound k) y) e); shallow = omega arith }; right = record { sort = h.sort.2; numbers = h.numbers.1; within = λ k e. h.within k (or_right (is_free (var.Bound k) x) (is_free (var.Bound k) y) e); shallow = omega arith } }
parts_operated n scope s operator.Iff x y h = let d = h.shallow in record { of_sort = formula_sort s h.sort.0; left = record { sort = h.sort.1; numbers = h.numbers.0; within = λ k e. h.within k (or_left (is_free (var.Bound k) x) (is_free (var.Bound k) y) e); shallow = omega arith }; right = record { sort = h.sort.2; numbers = h.numbers.1; within = λ k e. h.within k (or_right (is_free (var.Bound k) x) (is_free (var.Bound k) y) e); shallow = omega arith } }

pub parts_pairing : (n : ℕ) (scope : List ℕ) (s : code.Sort) (which : Pairing) (x y : Tree) → Fits (suc n) scope s (pairing which x y) → Two n scope sort.Int sort.Int sort.Int s x y
parts_pairing n scope s pairs.And x y h = let d = h.shallow in record { of_sort = int_sort s h.sort.0; left = record { sort = h.sort.1; numbers = h.numbers.0; within = λ k e. h.within k (or_left (is_free (var.Bound k) x) (is_free (var.Bound k) y) e); shallow = omega arith }; right = record { sort = h.sort.2; numbers = h.numbers.1; within = λ k e. h.within k (or_right (is_free (var.Bound k) x) (is_free (var.Bound k) y) e); shallow = omega arith } }
parts_pairing n scope s pairs.Or x y h = let d = h.shallow in record { of_sort = int_sort s h.sort.0; left = record { sort = h.sort.1; numbers = h.numbers.0; within = λ k e. h.within k (or_left (is_free (var.Bound k) x) (is_free (var.Bound k) y) e); shallow = omega arith }; right = record { sort = h.sort.2; numbers = h.numbers.1; within = λ k e. h.within k (or_right (is_free (var.Bound k) x) (is_free (var.Bound k) y) e); shallow = omega arith } }
parts_pairing n scope s pairs.Xor x y h = let d = h.shallow in record { of_sort = int_sort s h.sort.0; left = record { sort = h.sort.1; numbers = h.numbers.0; within = λ k e. h.within k (or_left (is_free (var.Bound k) x) (is_free (var.Bound k) y) e); shallow = omega arith }; right = record { sort = h.sort.2; numbers = h.numbers.1; within = λ k e. h.within k (or_right (is_free (var.Bound k) x) (is_free (var.Bound k) y) e); shallow = omega arith } }

pub record NotParts (n : ℕ) (scope : List ℕ) (r : code.Sort) (p : Tree) : Type 0 where
  pub of_sort : r ≡ sort.Formula
  pub at_p : Fits n scope sort.Formula p

pub parts_not : (n : ℕ) (scope : List ℕ) (r : code.Sort) (p : Tree) → Fits (suc n) scope r (Not p) → NotParts n scope r p
parts_not n scope r p h = let d = h.shallow in record { of_sort = formula_sort r h.sort.0; at_p = record { sort = h.sort.1; numbers = h.numbers; within = λ k e. h.within k e; shallow = omega arith } }

pub record ParityParts (n : ℕ) (scope : List ℕ) (r : code.Sort) (x : Tree) : Type 0 where
  pub of_sort : r ≡ sort.Int
  pub at_x : Fits n scope sort.Int x

pub parts_parity : (n : ℕ) (scope : List ℕ) (r : code.Sort) (x : Tree) → Fits (suc n) scope r (Parity x) → ParityParts n scope r x
parts_parity n scope r x h = let d = h.shallow in record { of_sort = int_sort r h.sort.0; at_x = record { sort = h.sort.1; numbers = h.numbers; within = λ k e. h.within k e; shallow = omega arith } }

pub record FlagsParts (n : ℕ) (scope : List ℕ) (r : code.Sort) (s z ac p cy : Tree) : Type 0 where
  pub of_sort : r ≡ sort.Int
  pub at_s : Fits n scope sort.Int s
  pub at_z : Fits n scope sort.Int z
  pub at_ac : Fits n scope sort.Int ac
  pub at_p : Fits n scope sort.Int p
  pub at_cy : Fits n scope sort.Int cy

pub parts_flags : (n : ℕ) (scope : List ℕ) (r : code.Sort) (s z ac p cy : Tree) → Fits (suc n) scope r (Psw s z ac p cy) → FlagsParts n scope r s z ac p cy
parts_flags n scope r s z ac p cy h = let d = h.shallow in record { of_sort = int_sort r h.sort.0; at_s = record { sort = h.sort.1; numbers = h.numbers.0; within = λ k e. h.within k (or_left ((((is_free (var.Bound k) s) || (is_free (var.Bound k) z)) || (is_free (var.Bound k) ac)) || (is_free (var.Bound k) p)) (is_free (var.Bound k) cy) (or_left (((is_free (var.Bound k) s) || (is_free (var.Bound k) z)) || (is_free (var.Bound k) ac)) (is_free (var.Bound k) p) (or_left ((is_free (var.Bound k) s) || (is_free (var.Bound k) z)) (is_free (var.Bound k) ac) (or_left (is_free (var.Bound k) s) (is_free (var.Bound k) z) e)))); shallow = omega arith }; at_z = record { sort = h.sort.2; numbers = h.numbers.1; within = λ k e. h.within k (or_left ((((is_free (var.Bound k) s) || (is_free (var.Bound k) z)) || (is_free (var.Bound k) ac)) || (is_free (var.Bound k) p)) (is_free (var.Bound k) cy) (or_left (((is_free (var.Bound k) s) || (is_free (var.Bound k) z)) || (is_free (var.Bound k) ac)) (is_free (var.Bound k) p) (or_left ((is_free (var.Bound k) s) || (is_free (var.Bound k) z)) (is_free (var.Bound k) ac) (or_right (is_free (var.Bound k) s) (is_free (var.Bound k) z) e)))); shallow = omega arith }; at_ac = record { sort = h.sort.3; numbers = h.numbers.2; within = λ k e. h.within k (or_left ((((is_free (var.Bound k) s) || (is_free (var.Bound k) z)) || (is_free (var.Bound k) ac)) || (is_free (var.Bound k) p)) (is_free (var.Bound k) cy) (or_left (((is_free (var.Bound k) s) || (is_free (var.Bound k) z)) || (is_free (var.Bound k) ac)) (is_free (var.Bound k) p) (or_right ((is_free (var.Bound k) s) || (is_free (var.Bound k) z)) (is_free (var.Bound k) ac) e))); shallow = omega arith }; at_p = record { sort = h.sort.4; numbers = h.numbers.3; within = λ k e. h.within k (or_left ((((is_free (var.Bound k) s) || (is_free (var.Bound k) z)) || (is_free (var.Bound k) ac)) || (is_free (var.Bound k) p)) (is_free (var.Bound k) cy) (or_right (((is_free (var.Bound k) s) || (is_free (var.Bound k) z)) || (is_free (var.Bound k) ac)) (is_free (var.Bound k) p) e)); shallow = omega arith }; at_cy = record { sort = h.sort.5; numbers = h.numbers.4; within = λ k e. h.within k (or_right ((((is_free (var.Bound k) s) || (is_free (var.Bound k) z)) || (is_free (var.Bound k) ac)) || (is_free (var.Bound k) p)) (is_free (var.Bound k) cy) e); shallow = omega arith } }

pub record IfParts (n : ℕ) (scope : List ℕ) (r : code.Sort) (p x y : Tree) : Type 0 where
  pub of_sort : r ≡ sort.Int
  pub at_p : Fits n scope sort.Formula p
  pub at_x : Fits n scope sort.Int x
  pub at_y : Fits n scope sort.Int y

pub parts_if : (n : ℕ) (scope : List ℕ) (r : code.Sort) (p x y : Tree) → Fits (suc n) scope r (If p x y) → IfParts n scope r p x y
parts_if n scope r p x y h = let d = h.shallow in record { of_sort = int_sort r h.sort.0; at_p = record { sort = h.sort.1; numbers = h.numbers.0; within = λ k e. h.within k (or_left ((is_free (var.Bound k) p) || (is_free (var.Bound k) x)) (is_free (var.Bound k) y) (or_left (is_free (var.Bound k) p) (is_free (var.Bound k) x) e)); shallow = omega arith }; at_x = record { sort = h.sort.2; numbers = h.numbers.1; within = λ k e. h.within k (or_left ((is_free (var.Bound k) p) || (is_free (var.Bound k) x)) (is_free (var.Bound k) y) (or_right (is_free (var.Bound k) p) (is_free (var.Bound k) x) e)); shallow = omega arith }; at_y = record { sort = h.sort.3; numbers = h.numbers.2; within = λ k e. h.within k (or_right ((is_free (var.Bound k) p) || (is_free (var.Bound k) x)) (is_free (var.Bound k) y) e); shallow = omega arith } }

pub record ElementParts (n : ℕ) (scope : List ℕ) (r : code.Sort) (m x : Tree) : Type 0 where
  pub of_sort : r ≡ sort.Int
  pub at_m : Fits n scope sort.Memory m
  pub at_x : Fits n scope sort.Int x

pub parts_element : (n : ℕ) (scope : List ℕ) (r : code.Sort) (m x : Tree) → Fits (suc n) scope r (Element m x) → ElementParts n scope r m x
parts_element n scope r m x h = let d = h.shallow in record { of_sort = int_sort r h.sort.0; at_m = record { sort = h.sort.1; numbers = h.numbers.0; within = λ k e. h.within k (or_left (is_free (var.Bound k) m) (is_free (var.Bound k) x) e); shallow = omega arith }; at_x = record { sort = h.sort.2; numbers = h.numbers.1; within = λ k e. h.within k (or_right (is_free (var.Bound k) m) (is_free (var.Bound k) x) e); shallow = omega arith } }

pub record UpdateParts (n : ℕ) (scope : List ℕ) (r : code.Sort) (m x y : Tree) : Type 0 where
  pub of_sort : r ≡ sort.Memory
  pub at_m : Fits n scope sort.Memory m
  pub at_x : Fits n scope sort.Int x
  pub at_y : Fits n scope sort.Int y

pub parts_update : (n : ℕ) (scope : List ℕ) (r : code.Sort) (m x y : Tree) → Fits (suc n) scope r (Update m x y) → UpdateParts n scope r m x y
parts_update n scope r m x y h = let d = h.shallow in record { of_sort = memory_sort r h.sort.0; at_m = record { sort = h.sort.1; numbers = h.numbers.0; within = λ k e. h.within k (or_left ((is_free (var.Bound k) m) || (is_free (var.Bound k) x)) (is_free (var.Bound k) y) (or_left (is_free (var.Bound k) m) (is_free (var.Bound k) x) e)); shallow = omega arith }; at_x = record { sort = h.sort.2; numbers = h.numbers.1; within = λ k e. h.within k (or_left ((is_free (var.Bound k) m) || (is_free (var.Bound k) x)) (is_free (var.Bound k) y) (or_right (is_free (var.Bound k) m) (is_free (var.Bound k) x) e)); shallow = omega arith }; at_y = record { sort = h.sort.3; numbers = h.numbers.2; within = λ k e. h.within k (or_right ((is_free (var.Bound k) m) || (is_free (var.Bound k) x)) (is_free (var.Bound k) y) e); shallow = omega arith } }

pub record TotalParts (n : ℕ) (scope : List ℕ) (r : code.Sort) (m x y : Tree) : Type 0 where
  pub of_sort : r ≡ sort.Int
  pub at_m : Fits n scope sort.Memory m
  pub at_x : Fits n scope sort.Int x
  pub at_y : Fits n scope sort.Int y

pub parts_total : (n : ℕ) (scope : List ℕ) (r : code.Sort) (m x y : Tree) → Fits (suc n) scope r (Total m x y) → TotalParts n scope r m x y
parts_total n scope r m x y h = let d = h.shallow in record { of_sort = int_sort r h.sort.0; at_m = record { sort = h.sort.1; numbers = h.numbers.0; within = λ k e. h.within k (or_left ((is_free (var.Bound k) m) || (is_free (var.Bound k) x)) (is_free (var.Bound k) y) (or_left (is_free (var.Bound k) m) (is_free (var.Bound k) x) e)); shallow = omega arith }; at_x = record { sort = h.sort.2; numbers = h.numbers.1; within = λ k e. h.within k (or_left ((is_free (var.Bound k) m) || (is_free (var.Bound k) x)) (is_free (var.Bound k) y) (or_right (is_free (var.Bound k) m) (is_free (var.Bound k) x) e)); shallow = omega arith }; at_y = record { sort = h.sort.3; numbers = h.numbers.2; within = λ k e. h.within k (or_right ((is_free (var.Bound k) m) || (is_free (var.Bound k) x)) (is_free (var.Bound k) y) e); shallow = omega arith } }

pub record BitParts (n : ℕ) (scope : List ℕ) (r : code.Sort) (k : ℕ) (x : Tree) : Type 0 where
  pub of_sort : r ≡ sort.Int
  pub low : k ≤ 7
  pub at_x : Fits n scope sort.Int x

pub parts_bit : (n : ℕ) (scope : List ℕ) (r : code.Sort) (k : ℕ) (x : Tree) → Fits (suc n) scope r (Bit k x) → BitParts n scope r k x
parts_bit n scope r k x h = let d = h.shallow in record { of_sort = int_sort r h.sort.0; low = h.sort.1; at_x = record { sort = h.sort.2; numbers = h.numbers; within = h.within; shallow = omega arith } }

pub record QuantifierParts (n : ℕ) (scope : List ℕ) (r : code.Sort) (k : ℕ) (x y p : Tree) : Type 0 where
  pub of_sort : r ≡ sort.Formula
  pub low : 1 ≤ k
  pub high : k ≤ 4294967295
  pub at_x : Fits n scope sort.Int x
  pub at_y : Fits n scope sort.Int y
  pub at_p : Fits n (k ∷ scope) sort.Formula p

pub parts_quantifying : (n : ℕ) (scope : List ℕ) (r : code.Sort) (all : Bool) (k : ℕ) (x y p : Tree) → Fits (suc n) scope r (quantifying all k x y p) → QuantifierParts n scope r k x y p
parts_quantifying n scope r true k x y p h = let d = h.shallow in record {
  of_sort = formula_sort r h.sort.0;
  low = h.sort.1;
  high = h.numbers.0;
  at_x = record { sort = h.sort.2; numbers = h.numbers.1; within = λ j e. h.within j (or_left ((is_free (var.Bound j) x) || (is_free (var.Bound j) y)) (not (j == k) && is_free (var.Bound j) p) (or_left (is_free (var.Bound j) x) (is_free (var.Bound j) y) e)); shallow = omega arith };
  at_y = record { sort = h.sort.3; numbers = h.numbers.2; within = λ j e. h.within j (or_left ((is_free (var.Bound j) x) || (is_free (var.Bound j) y)) (not (j == k) && is_free (var.Bound j) p) (or_right (is_free (var.Bound j) x) (is_free (var.Bound j) y) e)); shallow = omega arith };
  at_p = record { sort = h.sort.4; numbers = h.numbers.3; within = λ j e. outer k j scope (is_free (var.Bound j) p) (λ q. h.within j (or_right ((is_free (var.Bound j) x) || (is_free (var.Bound j) y)) (not (j == k) && is_free (var.Bound j) p) q)) e; shallow = omega arith };
}
parts_quantifying n scope r false k x y p h = let d = h.shallow in record {
  of_sort = formula_sort r h.sort.0;
  low = h.sort.1;
  high = h.numbers.0;
  at_x = record { sort = h.sort.2; numbers = h.numbers.1; within = λ j e. h.within j (or_left ((is_free (var.Bound j) x) || (is_free (var.Bound j) y)) (not (j == k) && is_free (var.Bound j) p) (or_left (is_free (var.Bound j) x) (is_free (var.Bound j) y) e)); shallow = omega arith };
  at_y = record { sort = h.sort.3; numbers = h.numbers.2; within = λ j e. h.within j (or_left ((is_free (var.Bound j) x) || (is_free (var.Bound j) y)) (not (j == k) && is_free (var.Bound j) p) (or_right (is_free (var.Bound j) x) (is_free (var.Bound j) y) e)); shallow = omega arith };
  at_p = record { sort = h.sort.4; numbers = h.numbers.3; within = λ j e. outer k j scope (is_free (var.Bound j) p) (λ q. h.within j (or_right ((is_free (var.Bound j) x) || (is_free (var.Bound j) y)) (not (j == k) && is_free (var.Bound j) p) q)) e; shallow = omega arith };
}

-- no term has the depth 0
pub some_depth : (t : Tree) → 0 < depth_of t
some_depth (Literal n) = omega arith
some_depth (Truth b) = omega arith
some_depth (Variable v) = omega arith
some_depth (Add x y) = omega arith
some_depth (Subtract x y) = omega arith
some_depth (Multiply x y) = omega arith
some_depth (Divide x y) = omega arith
some_depth (Remainder x y) = omega arith
some_depth (Equal x y) = omega arith
some_depth (Less x y) = omega arith
some_depth (LessOrEqual x y) = omega arith
some_depth (And x y) = omega arith
some_depth (Or x y) = omega arith
some_depth (Implies x y) = omega arith
some_depth (Iff x y) = omega arith
some_depth (ByteAnd x y) = omega arith
some_depth (ByteOr x y) = omega arith
some_depth (ByteXor x y) = omega arith
some_depth (Parity x) = omega arith
some_depth (Bit k x) = omega arith
some_depth (Psw s z ac p cy) = omega arith
some_depth (If p x y) = omega arith
some_depth (Element m x) = omega arith
some_depth (Update m x y) = omega arith
some_depth (Total m x y) = omega arith
some_depth (Not p) = omega arith
some_depth (ForAll k x y p) = omega arith
some_depth (ForSome k x y p) = omega arith

pub closed_within : (t : Tree) → ((k : ℕ) → is_free (var.Bound k) t ≡ false) → Within [] t
closed_within t h = λ k e. absurd (true≢false (sym e ∙ h k))

pub within_closed : (t : Tree) → Within [] t → (k : ℕ) → is_free (var.Bound k) t ≡ false
within_closed t h k = false_from_ne_true (is_free (var.Bound k) t) (λ e. true≢false (sym (h k e)))
