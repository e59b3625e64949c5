-- What lies in memory and what is fetched from there (8080 manual, "Computer program representation in memory").
use Rattle.std.specs.Prelude.{◌≡◌, ℕ, ◌+◌, ◌<◌, Some, IsTrue, length, slice_index}
use Rattle.sp_isa.specs.declared.instr.Instr.{Instr}
use Rattle.sp_isa.specs.Code.{valid, code}
use Rattle.sp_isa.specs.Core.{Core, IsCore, cell}
use Rattle.sp_isa.specs.Step.{instr_at}

-- the bytes of an instruction lie in memory from an address on
abbrev pub IsCodeAt : Instr → ℕ → Core → Type 0
IsCodeAt i address core = (k : ℕ) → k < length (code i) → cell (address + k) core ≡ slice_index (code i) k

-- where the code of a valid instruction lies, that instruction begins, with its length
abbrev pub CodeIsFetched : Type 0
CodeIsFetched =
    (i : Instr) (address : ℕ) (core : Core) → IsTrue (valid i) → IsCodeAt i address core
    → instr_at address core ≡ Some (i, length (code i))

-- where an instruction begins, it is a valid one, its code lies there, and its length is that of its code
abbrev pub FetchedIsCode : Type 0
FetchedIsCode =
    (i : Instr) (n address : ℕ) (core : Core) → IsCore core → instr_at address core ≡ Some (i, n)
    → IsTrue (valid i) × (n ≡ length (code i)) × IsCodeAt i address core
