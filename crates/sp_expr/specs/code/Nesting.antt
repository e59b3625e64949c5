-- How deep the words of an expression nest.
use Rattle.std.specs.Prelude.{ℕ, ◌+◌, ◌-◌, Bool, true, ◌&&◌, nat_lt, if◌then◌else◌, List, [], ◌∷◌, ◌++◌, length, take, slice_index_or}
use Rattle.sp_expr.specs.declared.word.Operator.{Operator}
use Rattle.sp_expr.specs.declared.word.Word.{Word}
use Rattle.sp_expr.specs.declared.word.Word.TheVariants as words
use Rattle.sp_expr.specs.declared.nesting.Nest.{Nest}
use Rattle.sp_expr.specs.Arithmetic.{rank_of}

abbrev pub nest : ℕ → ℕ → Nest
nest outside nots = record { outside = outside; nots = nots }

-- what is open around the words here, and around those outside each open parenthesis
pub record Nests : Type 0 where
  pub here : Nest
  pub outer : List Nest

abbrev pub nests : Nest → List Nest → Nests
nests here outer = record { here = here; outer = outer }

-- whether one construct more may be open
abbrev pub has_room : Nests → Bool
has_room n = nat_lt (n.here.outside + n.here.nots) 64 && nat_lt (length n.outer) 64

-- whether a word keeps to 64 nested constructs
abbrev pub may_follow : Nests → Word → Bool
may_follow n words.Not = has_room n
may_follow n words.Open = has_room n
may_follow n words.Close = true
may_follow n words.Here = true
may_follow n (words.Operator operator) = true
may_follow n (words.Number v) = true
may_follow n (words.Name name) = true

-- AND, OR and XOR end what NOT stands before
abbrev pub after_operator : Operator → Nest → Nest
after_operator operator here = if nat_lt 2 (rank_of operator) then nest here.outside 0 else here

abbrev pub open_after : Nests → Word → Nests
open_after n words.Not = nests (nest n.here.outside (n.here.nots + 1)) n.outer
open_after n words.Open = nests (nest (n.here.outside + n.here.nots + 1) 0) (n.outer ++ n.here ∷ [])
open_after n words.Close = nests (slice_index_or n.outer (length n.outer - 1) (nest 0 0)) (take (length n.outer - 1) n.outer)
open_after n words.Here = n
open_after n (words.Operator operator) = nests (after_operator operator n.here) n.outer
open_after n (words.Number v) = n
open_after n (words.Name name) = n

-- whether words keep to 64 nested constructs
unfoldable pub nests_within : Nests → List Word → Bool
nests_within n [] = true
nests_within n (word ∷ ws) = may_follow n word && nests_within (open_after n word) ws
