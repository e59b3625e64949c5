-- What lies in memory is what is fetched.
use Rattle.std.proofs.Common.{◌≡◌, ◌∙◌, sym, ap, ap₂, refl, ℕ, zero, suc, ◌+◌, ◌<◌, ◌≤◌, List, [], ◌∷◌, ◌++◌, length, drop, get_or, arith, lit≤, add-zero}
use Rattle.std.specs.Prelude.{slice_index}
use Rattle.std.proofs.Math.ListN.{get_or-append}
use Rattle.sp_isa.specs.declared.instr.Instr.{Instr}
use Rattle.sp_isa.specs.declared.instr.Instr.TheVariants.{Mvi}
use Rattle.sp_isa.specs.Code.{code}
use Rattle.sp_isa.specs.Core.{Core, cell}
use Rattle.sp_isa.specs.Decode.{decode_front}
use Rattle.sp_isa.specs.Fetch.{CodeIsFetched, FetchedIsCode}
use Rattle.sp_isa.proofs.CodeLemmas.{decodes_codes, decodes_the_table}
use Rattle.sp_isa.proofs.CoreLemmas.{low_cell}

-- a code has at most three bytes
pub code_short : (i : Instr) → length (code i) ≤ 3
code_short (Mvi y n) = lit≤ tt
code_short _ = lit≤ tt

-- the three bytes at an address
abbrev three : ℕ → Core → List ℕ
three a core = cell a core ∷ cell (a + 1) core ∷ cell (a + 2) core ∷ []

at_index : (a k : ℕ) (core : Core) → k < 3 → slice_index (three a core) k ≡ cell (a + k) core
at_index a zero core lt = ap (λ n. cell n core) (sym (add-zero a))
at_index a (suc zero) core lt = refl
at_index a (suc (suc zero)) core lt = refl
at_index a (suc (suc (suc k))) core lt = absurd (omega arith)

-- a list that another one's elements begin
begins : (xs ys : List ℕ) → length xs ≤ length ys → ((k : ℕ) → k < length xs → get_or ys k 0 ≡ get_or xs k 0) → ys ≡ xs ++ drop (length xs) ys
begins [] ys le h = refl
begins (x ∷ xs) [] le h = absurd (omega arith)
begins (x ∷ xs) (y ∷ ys) le h = ap₂ (λ z zs. z ∷ zs) (h 0 (omega arith)) (begins xs ys (omega arith) (λ k lt. h (suc k) (omega arith)))

pub code_is_fetched : CodeIsFetched
code_is_fetched i a core valid h =
    let short = code_short i in
    let same : (k : ℕ) → k < length (code i) → slice_index (three a core) k ≡ slice_index (code i) k = λ k lt. at_index a k core (omega arith) ∙ h k lt in
    let split = begins (code i) (three a core) short same in
    ap decode_front split ∙ decodes_codes i valid (drop (length (code i)) (three a core))

pub fetched_is_code : FetchedIsCode
fetched_is_code i n a core h e =
    let found = (decodes_the_table (cell a core) (cell (a + 1) core) (cell (a + 2) core) (low_cell a core h) (low_cell (a + 1) core h) (low_cell (a + 2) core h) i n).1 e in
    let short = code_short i in (
      found.0,
      found.1.0,
      λ k lt.
          sym (at_index a k core (omega arith)) ∙ ap (λ bytes. slice_index bytes k) found.1.1.1 ∙ get_or-append (code i) found.1.1.0 0 k lt,
    )
