-- The addresses of instructions and of routines rise.
use Rattle.std.proofs.Common.{◌≡◌, ◌<◌, ◌≤◌, ◌+◌, ◌-◌, ℕ, zero, suc, arith, List, [], ◌∷◌, length, get_or, map}
use Rattle.std.specs.List.Sorted.{IsStrictlyIncreasing}
use Rattle.std.proofs.lemmas.List.{get_or-map, length-map}
use Rattle.sp_prog.specs.declared.routine.Routine.{Routine}
use Rattle.sp_prog.specs.declared.routine.Stmt.{Stmt}
use Rattle.sp_prog.specs.Rules.{AreLaidOut, address_of, size_of}
use Rattle.sp_graph.proofs.PlaceLemmas.{Rises}

some_bytes : (s : Stmt) → 0 < size_of s
some_bytes s = omega arith

addr_of : Stmt → ℕ
addr_of s = s.addr

-- no instruction stands below the first
from_first : (a : ℕ) (code : List Stmt) → AreLaidOut a code → (k : ℕ) (d : Stmt) → k < length code → a ≤ (get_or code k d).addr
from_first a [] h k d l = absurd (omega arith)
from_first a (s ∷ code) h zero d l = let e : s.addr ≡ a = h.0 in omega (arith, e)
from_first a (s ∷ code) h (suc k) d l = let up = from_first (a + size_of s) code h.1 k d (omega arith) in omega (arith, up)

pub code_rises : (a : ℕ) (code : List Stmt) → AreLaidOut a code → Rises (λ (s : Stmt). s.addr) code
code_rises a [] h i j d low l = absurd (omega arith)
code_rises a (s ∷ code) h i zero d low l = absurd (omega arith)
code_rises a (s ∷ code) h zero (suc j) d low l =
    let e : s.addr ≡ a = h.0 in
    let up = from_first (a + size_of s) code h.1 j d (omega arith) in
    let some = some_bytes s in omega (arith, e, up, some)
code_rises a (s ∷ code) h (suc i) (suc j) d low l = code_rises (a + size_of s) code h.1 i j d (omega arith) (omega arith)

climbs : (xs : List ℕ) → IsStrictlyIncreasing xs → (n i : ℕ) → i + suc n < length xs → get_or xs i 0 < get_or xs (i + suc n) 0
climbs xs h zero i l = h i l
climbs xs h (suc n) i l =
    let first = h i (omega arith) in
    let e : i + 1 + suc n ≡ i + suc (suc n) = omega arith in
    let rest = climbs xs h n (i + 1) (omega arith) in
    omega (arith, first, rw e at rest)

pub routines_rise : (routines : List Routine) → IsStrictlyIncreasing (map address_of routines) → Rises address_of routines
routines_rise routines h i j d low l =
    let size : length (map address_of routines) ≡ length routines = length-map routines address_of in
    let e : i + suc (j - suc i) ≡ j = omega arith in
    let up = climbs (map address_of routines) h (j - suc i) i (omega (arith, size)) in
    omega (arith, rw e at up, get_or-map address_of routines i d 0 (omega arith), get_or-map address_of routines j d 0 l)
