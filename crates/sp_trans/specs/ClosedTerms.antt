-- Symbolic states whose parts are terms of their sorts (this project's own).
use Rattle.std.specs.Prelude.{All}
use Rattle.sp_base.specs.declared.location.Loc.{Loc}
use Rattle.sp_term.specs.Tree.{Tree}
use Rattle.sp_term.specs.Sorts.{Sort, Int, Memory, HasSort}
use Rattle.sp_term.specs.Free.{IsClosed}
use Rattle.sp_trans.specs.Symbolic.{Word, Symbolic, term_at}

-- a term of a sort in which no bound variable is free
pub record IsClosedTerm (s : Sort) (t : Tree) : Type 0 where
  pub sort : HasSort t s
  pub closed : IsClosed t

pub record IsClosedWord (w : Word) : Type 0 where
  pub high : IsClosedTerm Int w.high
  pub low : IsClosedTerm Int w.low

-- each part is a closed term of its sort
pub record IsSymbolic (g : Symbolic) : Type 0 where
  pub locations : (x : Loc) → IsClosedTerm Int (term_at x g)
  pub memory : IsClosedTerm Memory g.memory
  pub slots : All IsClosedWord g.slots
