use Rattle.std.proofs.Common.{◌≡◌, List, map, take}
use Rattle.sp_asm.specs.Assembly.{Place, Row, places_of}
use Rattle.sp_asm.specs.code.Passes.{IsPlaces, IsRows}
use Rattle.sp_asm.proofs.rows.listing_of.Given as goal

abbrev pub invariant-loop-i : goal.invariant-loop-i
invariant-loop-i l =
    (all : List Place) × (rows : List Row) × (map (λ (q : Place). q.statement) all ≡ l.statements) × IsPlaces l.fn.places all
    × (places_of rows ≡ take l.i all) × IsRows l.rows all rows
