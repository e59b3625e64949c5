-- What it means that walks are given or refused.
use Rattle.std.specs.Prelude.{◌≡◌, ◌<◌, ◌≤◌, ◌-◌, ◌^◌, ℕ, min, List, length, Result, Ok, Err, ⊤}
use Rattle.sp_graph.specs.declared.refusal.WalksRefusal.{WalksRefusal}
use Rattle.sp_graph.specs.declared.refusal.WalksRefusal.TheVariants as refusal
use Rattle.sp_graph.specs.declared.walk.Walk.{Walk}

-- how many walks a routine may have (the limit on conditions)
abbrev pub most_walks : ℕ
most_walks = 65536

-- the walks are given where there are at most so many; else their number is told, up to the greatest u64
abbrev pub GivesWalks : List Walk → Result (List Walk) WalksRefusal → Type 0
GivesWalks walks (Ok given) = (given ≡ walks) × (length walks ≤ most_walks)
GivesWalks walks (Err (refusal.TooMany count)) = (most_walks < length walks) × (count ≡ min (length walks) (2 ^ 64 - 1))
GivesWalks walks (Err refusal.Memory) = ⊤
