use Rattle.std.proofs.Common.{◌≡◌, ◌++◌, drop}
use Rattle.std.specs.Prelude.{nat_eq, not}
use Rattle.std.specs.List.{filter, list_any}
use Rattle.sp_conditions.proofs.accesses.readable.Given as goal

abbrev pub invariant-written : goal.invariant-written
invariant-written l =
    l.places.items ++ filter (λ place. not (list_any (nat_eq place) l.read)) (drop l.place-index l.written)
    ≡ l.read ++ filter (λ place. not (list_any (nat_eq place) l.read)) l.written
