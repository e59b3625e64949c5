-- Symbolic states: a term for each part of the machine (this project's own).
use Rattle.std.specs.Prelude.{ℕ, pos, List, ◌&&◌, nat_le, Bool, if◌then◌else◌}
use Rattle.sp_base.specs.declared.location.Loc.{Loc}
use Rattle.sp_base.specs.declared.location.Loc.TheVariants as loc
use Rattle.sp_base.specs.declared.pair.Pair.{Pair}
use Rattle.sp_base.specs.declared.pair.Pair.TheVariants as pair
use Rattle.sp_term.specs.Tree.{Tree, Literal, Add, Multiply, Divide, Remainder, nodes, depth_of}
use Rattle.sp_trans.specs.TreeEquality.{same_tree}

-- the high and the low byte of a word on the stack
pub record Word : Type 0 where
  pub high : Tree
  pub low : Tree

-- a term for each register and flag, one for memory, and the words on the stack, the newest first
pub record Symbolic : Type 0 where
  pub a : Tree
  pub b : Tree
  pub c : Tree
  pub d : Tree
  pub e : Tree
  pub h : Tree
  pub l : Tree
  pub s : Tree
  pub z : Tree
  pub ac : Tree
  pub p : Tree
  pub cy : Tree
  pub memory : Tree
  pub slots : List Word

abbrev pub term_at : Loc → Symbolic → Tree
term_at loc.A g = g.a
term_at loc.B g = g.b
term_at loc.C g = g.c
term_at loc.D g = g.d
term_at loc.E g = g.e
term_at loc.H g = g.h
term_at loc.L g = g.l
term_at loc.S g = g.s
term_at loc.Z g = g.z
term_at loc.Ac g = g.ac
term_at loc.P g = g.p
term_at loc.Cy g = g.cy

-- the state with another term for a register or a flag
unfoldable pub with_term : Loc → Tree → Symbolic → Symbolic
with_term loc.A t g = record g { a = t }
with_term loc.B t g = record g { b = t }
with_term loc.C t g = record g { c = t }
with_term loc.D t g = record g { d = t }
with_term loc.E t g = record g { e = t }
with_term loc.H t g = record g { h = t }
with_term loc.L t g = record g { l = t }
with_term loc.S t g = record g { s = t }
with_term loc.Z t g = record g { z = t }
with_term loc.Ac t g = record g { ac = t }
with_term loc.P t g = record g { p = t }
with_term loc.Cy t g = record g { cy = t }

unfoldable pub with_memory : Tree → Symbolic → Symbolic
with_memory t g = record g { memory = t }

unfoldable pub with_slots : List Word → Symbolic → Symbolic
with_slots slots g = record g { slots = slots }

abbrev pub number : ℕ → Tree
number n = Literal (pos n)

-- at most 65,536 nodes, and at most 2,000 deep
abbrev pub is_small : Tree → Bool
is_small t = nat_le (nodes t) 65536 && nat_le (depth_of t) 2000

-- the term that a quotient divides
abbrev pub divided : Tree → Tree
divided (Divide z d) = z
divided t = t

-- the word of a high and a low byte: z where they are `(z div 256)` and `(z mod 256)` of one small z, else `((256 * x) + y)`
unfoldable pub joined : Tree → Tree → Tree
joined x y =
    let z = divided x in
    if is_small z && (same_tree x (Divide z (number 256)) && same_tree y (Remainder z (number 256))) then z else Add (Multiply (number 256) x) y

-- the word in a register pair; a symbolic state has none for the stack pointer
unfoldable pub pair_term : Pair → Symbolic → Tree
pair_term pair.B g = joined g.b g.c
pair_term pair.D g = joined g.d g.e
pair_term pair.H g = joined g.h g.l
pair_term pair.Sp g = number 0
