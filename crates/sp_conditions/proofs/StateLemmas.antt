-- The symbolic state of terms that are listed in the order of locations.
use Rattle.std.proofs.Common.{◌≡◌, ◌+◌, ℕ, suc, refl, subst, arith, Bool, true, List, [], ◌∷◌, ◌++◌, length, ap, ap₂, sym, ◌∙◌, map}
use Rattle.std.specs.Prelude.{reverse, slice_index_or}
use Rattle.std.specs.Borrow.{Bor}
use Rattle.std.proofs.lemmas.List.{length-map, map-append, reverse-append}
use Rattle.sp_base.specs.declared.location.Loc.{Loc}
use Rattle.sp_base.specs.declared.locs.Locs.{Locs}
use Rattle.sp_base.specs.Locs.{has}
use Rattle.sp_prog.specs.declared.routine.Routine.{Routine}
use Rattle.sp_prog.specs.View.{all_locs}
use Rattle.sp_term.specs.Conditions.{trees}
use Rattle.sp_term.specs.Tree.{Tree, Truth, Variable}
use Rattle.sp_trans.specs.declared.symbolic.Sym.{Sym}
use Rattle.sp_trans.specs.Symbolic.{Word, Symbolic, term_at}
use Rattle.sp_trans.specs.View.{symbolic_of, word_of}
use Rattle.sp_cond.specs.Calls.{after_at, after_call, memory_after}
use Rattle.sp_conditions.specs.code.Places.{word}
use Rattle.sp_cond.specs.Start.{start_var, start_memory, state_with, fresh_words}

abbrev pub from_parts : List Tree → Tree → List Word → Symbolic
from_parts ts memory slots = record {
  a = slice_index_or ts 0 (Truth true);
  b = slice_index_or ts 1 (Truth true);
  c = slice_index_or ts 2 (Truth true);
  d = slice_index_or ts 3 (Truth true);
  e = slice_index_or ts 4 (Truth true);
  h = slice_index_or ts 5 (Truth true);
  l = slice_index_or ts 6 (Truth true);
  s = slice_index_or ts 7 (Truth true);
  z = slice_index_or ts 8 (Truth true);
  ac = slice_index_or ts 9 (Truth true);
  p = slice_index_or ts 10 (Truth true);
  cy = slice_index_or ts 11 (Truth true);
  memory = memory;
  slots = slots;
}

-- terms of variables make the state of variables
pub started :
    (fresh : Locs) (stored : Bool) (s : Sym) → trees s.locs.now ≡ map (λ x. Variable (start_var (has x fresh) x)) all_locs →
    s.mem.now ≡ Variable (start_memory stored) → symbolic_of s ≡ state_with (λ x. has x fresh) stored (reverse (map word_of s.slots.now))
started fresh stored s h m = λ i. from_parts (h i) (m i) (reverse (map word_of s.slots.now))

-- terms after a call make the state after it
pub called :
    (callee : Routine) (j : ℕ) (g s : Sym) →
    trees s.locs.now ≡ map (λ x. after_at callee.changes.locs j x (term_at x (symbolic_of g))) all_locs →
    s.mem.now ≡ memory_after callee.changes.areas j g.mem.now → s.slots ≡ g.slots → symbolic_of s ≡ after_call callee j (symbolic_of g)
called callee j g s h m w = λ i. from_parts (h i) (m i) (reverse (map word_of (w i).now))

-- there are twelve
pub twelve : (f : Loc → Tree) (ts : List (Bor Tree)) → trees ts ≡ map f all_locs → length ts ≡ 12
twelve f ts h = sym (length-map ts (λ (t : Bor Tree). t.now)) ∙ ap length h

next_words : (k : ℕ) → word (k + 1) ∷ fresh_words k ≡ fresh_words (k + 1)
unfolding fresh_words
next_words k = let e : suc k ≡ k + 1 = omega arith in subst (λ n. word n ∷ fresh_words k ≡ fresh_words n) e refl

-- one word more
pub word_more :
    (words : List (Bor Tree × Bor Tree)) (w : Bor Tree × Bor Tree) (k : ℕ) → reverse (map word_of words) ≡ fresh_words k →
    word_of w ≡ word (k + 1) → reverse (map word_of (words ++ w ∷ [])) ≡ fresh_words (k + 1)
word_more words w k h is =
    ap reverse (map-append word_of words (w ∷ [])) ∙ reverse-append (map word_of words) (word_of w ∷ []) ∙ ap₂ (λ v vs. v ∷ vs) is h
    ∙ next_words k
