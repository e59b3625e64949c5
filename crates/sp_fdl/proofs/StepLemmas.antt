-- Reading to a depth, one step at a time.
use Rattle.std.proofs.Common.{◌≡◌, ℕ, zero, suc, ◌-◌, ◌<◌, List, None, refl, arith}
use Rattle.sp_fdl.specs.code.Reading.{form, read_at}

pub read_at_zero : (depth : ℕ) (scope text : List ℕ) → depth ≡ 0 → read_at depth scope text ≡ None
unfolding read_at
read_at_zero zero scope text h = refl
read_at_zero (suc depth) scope text h = absurd (omega arith)

pub read_at_step : (depth : ℕ) (scope text : List ℕ) → 0 < depth → read_at depth scope text ≡ form (read_at (depth - 1)) scope text
unfolding read_at
read_at_step zero scope text h = absurd (omega arith)
read_at_step (suc depth) scope text h = let e : suc depth - 1 ≡ depth = omega arith in rw e refl
