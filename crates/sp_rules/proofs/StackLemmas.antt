-- An empty stack.
use Rattle.std.proofs.Common.{◌≡◌, ℕ, sym, subst, List, []}
use Rattle.sp_rules.specs.declared.work.Waiting.{Waiting}
use Rattle.sp_rules.specs.code.Work.{Rises, IsStacked}

pub none_works : (n : ℕ) (ss : List Waiting) → ss ≡ [] → IsStacked n ss
unfolding Rises
none_works n ss e = subst (IsStacked n) (sym e) (record { within = tt; rises = tt })
