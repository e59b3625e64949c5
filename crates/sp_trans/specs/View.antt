-- The symbolic state that terms of an arena stand for.
use Rattle.std.specs.Prelude.{ℕ, List, map, reverse, slice_index_or, true}
use Rattle.std.specs.Borrow.{Bor}
use Rattle.sp_term.specs.Tree.{Tree, Truth}
use Rattle.sp_term.specs.Conditions.{trees}
use Rattle.sp_trans.specs.declared.symbolic.Sym.{Sym}
use Rattle.sp_trans.specs.Symbolic.{Word, Symbolic}

-- the tree at a place of a list; there are twelve
abbrev pub term_in : List (Bor Tree) → ℕ → Tree
term_in ts n = slice_index_or (trees ts) n (Truth true)

abbrev pub word_of : Bor Tree × Bor Tree → Word
word_of w = record { high = w.0.now; low = w.1.now }

abbrev pub symbolic_of : Sym → Symbolic
symbolic_of s = record {
  a = term_in s.locs.now 0;
  b = term_in s.locs.now 1;
  c = term_in s.locs.now 2;
  d = term_in s.locs.now 3;
  e = term_in s.locs.now 4;
  h = term_in s.locs.now 5;
  l = term_in s.locs.now 6;
  s = term_in s.locs.now 7;
  z = term_in s.locs.now 8;
  ac = term_in s.locs.now 9;
  p = term_in s.locs.now 10;
  cy = term_in s.locs.now 11;
  memory = s.mem.now;
  slots = reverse (map word_of s.slots.now);
}
