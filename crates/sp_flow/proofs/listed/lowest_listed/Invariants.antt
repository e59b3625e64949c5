use Rattle.std.proofs.Common.{◌≡◌, ◌⊎◌, Some}
use Rattle.sp_flow.specs.code.Least.{IsLeast, UpTo}
use Rattle.sp_flow.proofs.ListedLemmas.{FreeAt}
use Rattle.sp_flow.proofs.listed.lowest_listed.Given as goal

abbrev pub invariant-places : goal.invariant-places
invariant-places l =
    IsLeast (λ n. (l.fn.so_far ≡ Some n) ⊎ UpTo (FreeAt l.areas l.one l.other l.listed) l.at n) l.best
