-- A routine of a unit has at most as many instructions as there are addresses.
use Rattle.std.proofs.Common.{◌≡◌, ℕ, ◌+◌, ◌<◌, ◌≤◌, List, [], ◌∷◌, length, get_or, sum_by, Some, None, inl, inr, sym, ◌∙◌, arith}
use Rattle.std.specs.List.{AllByRecursion}
use Rattle.std.specs.Prelude.{All, slice_index}
use Rattle.std.specs.FinMap as maps
use Rattle.std.proofs.lemmas.List.Elements.{recursion_from_All}
use Rattle.std.proofs.lemmas.List.Sums.{sum_by-le}
use Rattle.std.proofs.lemmas.Bool.{cases_order}
use Rattle.std.specs.Cmp.{nat_cmp_total}
use Rattle.sp_base.specs.Image.{ImageMap, IsInMemory}
use Rattle.sp_base.proofs.ImageLaws.{none_past_memory}
use Rattle.sp_isa.specs.Code.{code}
use Rattle.sp_prog.specs.Rules.{AreLaidOut, IsStmt, IsUnit, size_of, address_of}
use Rattle.sp_prog.specs.Program.{Program}
use Rattle.sp_prog.specs.declared.routine.Routine.{Routine}
use Rattle.sp_prog.specs.declared.routine.Stmt.{Stmt}

some_bytes : (s : Stmt) → 0 < size_of s
some_bytes s = omega arith

module _ (image : ImageMap) (memory : IsInMemory image) where
  -- a byte of the image stands at an address
  at_address : (a b : ℕ) → maps.get image a ≡ Some b → a < 65536
  at_address a b e =
      let past : 65536 ≤ a → ⊥ = λ high.
      let none : Some b ≡ None =
      sym e ∙ maps.get-entries image a ∙ sym (maps.get-from_entries nat_cmp_total (maps.entries image) a)
      ∙ none_past_memory (maps.entries image) 65536 memory (omega arith) a high in
      cc in
      elim (cases_order a 65536) [
        | inl same ↦ absurd (past (omega (arith, same)))
        | inr (inl low) ↦ low
        | inr (inr high) ↦ absurd (past (omega (arith, high)))
      ]

  starts_within : (s : Stmt) → IsStmt image s → s.addr < 65536
  starts_within s h =
      let byte = h.code 0 (some_bytes s) in
      let within = at_address (s.addr + 0) (slice_index (code s.instr) 0) byte in
      omega (arith, within)

  laid_within : (a : ℕ) (s : Stmt) (stmts : List Stmt) → AreLaidOut a (s ∷ stmts) → AllByRecursion (IsStmt image) (s ∷ stmts) → a + length stmts < 65536
  laid_within a s [] laid all = let e = laid.0 in let within = starts_within s all.0 in omega (arith, e, within)
  laid_within a s (t ∷ stmts) laid all =
      let rest = laid_within (a + size_of s) t stmts laid.1 all.1 in
      let some = some_bytes s in omega (arith, rest, some)

  pub few_stmts : (a : ℕ) (stmts : List Stmt) → AreLaidOut a stmts → AllByRecursion (IsStmt image) stmts → length stmts ≤ 65536
  few_stmts a [] laid all = omega arith
  few_stmts a (s ∷ stmts) laid all = let within = laid_within a s stmts laid all in omega (arith, within)

-- so a unit has few in all
pub few_instructions : (p : Program) → IsUnit p → sum_by (λ (r : Routine). length r.code) p.routines ≤ 67108864
few_instructions p h =
    let each : All (λ (r : Routine). length r.code ≤ 65536) p.routines = λ k d within.
    let r = h.routines k d within in
    few_stmts p.image h.image (address_of (get_or p.routines k d)) (get_or p.routines k d).code r.laid_out
    (recursion_from_All (IsStmt p.image) (get_or p.routines k d).code r.code) in
    let all = sum_by-le (λ (r : Routine). length r.code) 65536 p.routines each in
    let few = h.few_routines in
    omega (arith, all, few)
