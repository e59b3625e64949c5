-- Annotations of a unit fit the words on the stack.
use Rattle.std.proofs.Common.{◌≡◌, inl, inr, ℕ, ◌*◌, ◌<◌, ◌≤◌, pos, Bool, true, false, ◌||◌, List, ◌++◌, Some, slice_get, refl, arith}
use Rattle.std.specs.Prelude.{Contains, slice_index, ◌<ℤ◌}
use Rattle.std.proofs.lemmas.Int.{ints}
use Rattle.std.proofs.lemmas.Bool.{cases_order}
use Rattle.std.proofs.lemmas.List.Elements.{All-weaker, All-contains, All-contains_itself, Contains-append_left, Contains-append_right}
use Rattle.sp_logic.specs.View.{note_of}
use Rattle.sp_logic.specs.WellFormed.{IsInLimits, NoteIsInLimits}
use Rattle.sp_model.specs.Note.{Quantity, Literal, Location, Pair, Cell, StackWord, Total, Negative, Parity, Operate, Bound, Note, Constant, Compare, Not, Connect, Quantify, IsClosed}
use Rattle.sp_prog.specs.Program.{Program}
use Rattle.sp_prog.specs.Rules.{has_word, note_has_word, AreNotes, HaveNoWords, IsEvaluable}
use Rattle.sp_prog.specs.declared.routine.Noted.{Noted}
use Rattle.sp_prog.specs.declared.routine.Routine.{Routine}
use Rattle.sp_prog.specs.declared.routine.Stmt.{Stmt}
use Rattle.sp_graph.specs.Structure.{words_of, note_words}
use Rattle.sp_trans.specs.Formulas.{QuantityFits, NoteFits}
use Rattle.sp_facts.specs.Ends.{FitNotes}
use Rattle.sp_safety.proofs.GivenLemmas.{Given, is_at, stmt_rules}
use Rattle.sp_safety.proofs.RuleLemmas.{depth_at}

either : (a b : Bool) → (a || b) ≡ false → (a ≡ false) × (b ≡ false)
either false b h = (refl, h)
either true b h = absurd cc

-- ---- each word is among so many

module _ (n : ℕ) where
  abbrev AreWithin : List ℕ → Type 0
  AreWithin words = (k : ℕ) → Contains words k → k ≤ n

  left_within : (xs ys : List ℕ) → AreWithin (xs ++ ys) → AreWithin xs
  left_within xs ys h k there = h k (Contains-append_left xs ys k there)

  right_within : (xs ys : List ℕ) → AreWithin (xs ++ ys) → AreWithin ys
  right_within xs ys h k there = h k (Contains-append_right xs ys k there)

  quantity_fits : (x : Quantity) → IsInLimits x → AreWithin (words_of x) → QuantityFits n x
  quantity_fits (Literal m) limits h = tt
  quantity_fits (Location m x) limits h = tt
  quantity_fits (Pair m p) limits h = tt
  quantity_fits (Cell m x) limits h = quantity_fits x limits h
  quantity_fits (StackWord k) limits h = (limits.0, h k (0, omega arith, refl))
  quantity_fits (Total m x y) limits h = (quantity_fits x limits.0 (left_within (words_of x) (words_of y) h), quantity_fits y limits.1 (right_within (words_of x) (words_of y) h))
  quantity_fits (Negative x) limits h = quantity_fits x limits h
  quantity_fits (Parity x) limits h = quantity_fits x limits h
  quantity_fits (Operate o x y) limits h = (quantity_fits x limits.0 (left_within (words_of x) (words_of y) h), quantity_fits y limits.1 (right_within (words_of x) (words_of y) h))
  quantity_fits (Bound name) limits h = tt

  note_fits : (p : Note) → NoteIsInLimits p → AreWithin (note_words p) → NoteFits n p
  note_fits (Constant truth) limits h = tt
  note_fits (Compare c x y) limits h = (quantity_fits x limits.0 (left_within (words_of x) (words_of y) h), quantity_fits y limits.1 (right_within (words_of x) (words_of y) h))
  note_fits (Not p) limits h = note_fits p limits h
  note_fits (Connect c p q) limits h = (note_fits p limits.0 (left_within (note_words p) (note_words q) h), note_fits q limits.1 (right_within (note_words p) (note_words q) h))
  note_fits (Quantify q name x y p) limits h =
      let rest = right_within (words_of x) (words_of y ++ note_words p) h in (
        quantity_fits x limits.1 (left_within (words_of x) (words_of y ++ note_words p) h),
        quantity_fits y limits.2 (left_within (words_of y) (note_words p) rest),
        note_fits p limits.3 (right_within (words_of y) (note_words p) rest),
      )

  -- where there is none, any number will do
  wordless : (x : Quantity) → has_word x ≡ false → QuantityFits n x
  wordless (Literal m) h = tt
  wordless (Location m x) h = tt
  wordless (Pair m p) h = tt
  wordless (Cell m x) h = wordless x h
  wordless (StackWord k) h = cc
  wordless (Total m x y) h = let both = either (has_word x) (has_word y) h in (wordless x both.0, wordless y both.1)
  wordless (Negative x) h = wordless x h
  wordless (Parity x) h = wordless x h
  wordless (Operate o x y) h = let both = either (has_word x) (has_word y) h in (wordless x both.0, wordless y both.1)
  wordless (Bound name) h = tt

  pub note_wordless : (p : Note) → note_has_word p ≡ false → NoteFits n p
  note_wordless (Constant truth) h = tt
  note_wordless (Compare c x y) h = let both = either (has_word x) (has_word y) h in (wordless x both.0, wordless y both.1)
  note_wordless (Not p) h = note_wordless p h
  note_wordless (Connect c p q) h = let both = either (note_has_word p) (note_has_word q) h in (note_wordless p both.0, note_wordless q both.1)
  note_wordless (Quantify q name x y p) h =
      let both = either (has_word x) (has_word y || note_has_word p) h in
      let rest = either (has_word y) (note_has_word p) both.1 in
      (wordless x both.0, wordless y rest.0, note_wordless p rest.1)

  -- annotations without words fit
  pub fit_wordless : (notes : List Noted) → AreNotes notes → HaveNoWords notes → FitNotes n notes
  fit_wordless notes rules none =
      All-weaker (Contains notes) (λ m. IsClosed (note_of m.note) × NoteFits n (note_of m.note))
      (λ m there. (
        (All-contains IsEvaluable notes m rules.each there).formed.closed,
        note_wordless (note_of m.note) (All-contains (λ o. note_has_word (note_of o.note) ≡ false) notes m none there),
      )) notes (All-contains_itself notes)

module _ (p : Program) (r : ℕ) (routine : Routine) (depths : List ℕ) (given : Given p r routine depths) (at : ℕ) (s : Stmt) (here : slice_get routine.code at ≡ Some s) where
  word_within : (n : ℕ) → 2 * n ≡ slice_index depths at → (m : Noted) → Contains s.asserts m → (k : ℕ) → Contains (note_words (note_of m.note)) k → k ≤ n
  word_within n same m there k among =
      elim (cases_order n k) [
        | inl e ↦ omega (arith, e)
        | inr (inl less) ↦ absurd (given.structured.slots m.line.0 (r, at, routine, s, is_at p r routine depths given at s here, (m, pos (slice_index depths at), k, there, refl, depth_at p r routine depths given at s here, among, low less)))
        | inr (inr more) ↦ omega (arith, more)
      ]
    where
      low : n < k → pos (slice_index depths at) <ℤ pos (2 * k)
      low less = let small : slice_index depths at < 2 * k = omega (arith, less, same) in grind (arith, ints)

  -- what is asserted fits the words there
  pub fit_asserts : (n : ℕ) → 2 * n ≡ slice_index depths at → FitNotes n s.asserts
  fit_asserts n same =
      let rules = (stmt_rules p r routine depths given at s here).asserts in
      All-weaker (Contains s.asserts) (λ m. IsClosed (note_of m.note) × NoteFits n (note_of m.note))
      (λ m there.
      let formed = (All-contains IsEvaluable s.asserts m rules.each there).formed in
      (formed.closed, note_fits n (note_of m.note) formed.limits (word_within n same m there))) s.asserts (All-contains_itself s.asserts)
