-- How many walks there are, and how many there may be (this project's own).
use Rattle.std.specs.Prelude.{◌≡◌, ◌≢◌, ◌+◌, ◌-◌, ◌^◌, ℕ, zero, suc, false, List, [], ◌∷◌, Result, Ok, Err, length}
use Rattle.sp_graph.specs.Answers.{GivesWalks}
use Rattle.sp_graph.specs.Laws.{to_place, return_node}
use Rattle.sp_graph.specs.Walks.{walks}
use Rattle.sp_graph.specs.declared.graph.Node.{Node}
use Rattle.sp_graph.specs.declared.refusal.WalksRefusal.{WalksRefusal}
use Rattle.sp_graph.specs.declared.refusal.WalksRefusal.TheVariants.{TooMany, Memory}
use Rattle.sp_graph.specs.declared.walk.Walk.{Walk}

-- so many jumps with a condition, the first at this place, each to the next instruction, and then a return
abbrev pub forks : ℕ → ℕ → List Node
forks first zero = return_node false ∷ []
forks first (suc n) =
    record { asserted = false; access = false; untaken = to_place (first + 1); taken = to_place (first + 1) } ∷ forks (first + 1) n

-- each fork doubles the walks
pub record WalksDouble : Type 0 where
  pub one : length (walks (forks 0 0)) ≡ 1
  pub two : length (walks (forks 0 1)) ≡ 2
  pub four : length (walks (forks 0 2)) ≡ 4
  pub eight : length (walks (forks 0 3)) ≡ 8
  pub sixteen : length (walks (forks 0 4)) ≡ 16

-- 65,536 walks are given, and one more is too many; the number is told exactly, up to the greatest u64
pub record LimitsByExample : Type 0 where
  pub most : (all : List Walk) → length all ≡ 65536 → GivesWalks all (Ok all)
  pub not_too_many : (all : List Walk) (count : ℕ) → length all ≡ 65536 → GivesWalks all (Err (TooMany count)) → ⊥
  pub one_more : (all : List Walk) → length all ≡ 65537 → GivesWalks all (Err (TooMany 65537))
  pub not_given : (all given : List Walk) → length all ≡ 65537 → GivesWalks all (Ok given) → ⊥
  pub exact : (all : List Walk) (count : ℕ) → length all ≡ 65537 → GivesWalks all (Err (TooMany count)) → count ≡ 65537
  pub greatest : (all : List Walk) → length all ≡ 2 ^ 64 → GivesWalks all (Err (TooMany (2 ^ 64 - 1)))

-- but for want of memory, walks are answered in one way
pub record AnswersAreOne : Type 0 where
  pub one :
      (all : List Walk) (x y : Result (List Walk) WalksRefusal) → GivesWalks all x → GivesWalks all y → x ≢ Err Memory →
      y ≢ Err Memory → x ≡ y
