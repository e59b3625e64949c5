-- The reader of conditions answers by their grammar.
use Rattle.std.proofs.Common.{◌≡◌, ℕ, ◌+◌, ◌<◌, ◌≤◌, max, Bool, true, false, cond, List, [], ◌∷◌, ◌++◌, Option, Some, None, Result, Ok, Err, refl, sym, ap, subst, ◌∙◌, inl, inr, arith}
use Rattle.std.specs.Prelude.{nat_lt, ◌↔◌, IsSome, is_some}
use Rattle.std.specs.Option.{option_and_then}
use Rattle.std.proofs.lemmas.Bool.{cases_Bool}
use Rattle.std.proofs.lemmas.Bool.Decides.{nat_tests}
use Rattle.std.proofs.lemmas.List.{append-nil}
use Rattle.sp_lex.specs.declared.token.Token.{Token}
use Rattle.sp_note.specs.declared.operand.Sort as sorts
use Rattle.sp_note.specs.declared.operand.Sort.TheVariants.{Number, Truth}
use Rattle.sp_note.specs.declared.refusal.NoteKind.{NoteKind}
use Rattle.sp_note.specs.declared.refusal.NoteKind.TheVariants.{Syntax, TooDeep, Sort, Wide}
use Rattle.sp_note.specs.declared.word.Word.{Word}
use Rattle.sp_note.specs.Bounds.{bound_of}
use Rattle.sp_note.specs.Conditions.{IsWritten, IsConditionOf, BreaksCondition}
use Rattle.sp_note.specs.Grammar.{Tree, Spells, depth_of, spelling}
use Rattle.sp_note.specs.Meaning.{meaning_of}
use Rattle.sp_note.specs.RawNotes.{RawNote}
use Rattle.sp_note.specs.Sorts.{sort_of, is_truth}
use Rattle.sp_note.specs.Words.{words_of}
use Rattle.sp_note.specs.code.Frames.{bounds_in, open_in, reduced}
use Rattle.sp_note.specs.code.Heads.{Start, After}
use Rattle.sp_note.specs.code.Lines.{if_narrow, judged, judged_some, condition_of}
use Rattle.sp_note.specs.code.Operands.{Known, known}
use Rattle.sp_note.specs.code.Parser.{State, state, start, run, ended, ended_at, whole_of, parsed}
use Rattle.sp_note.proofs.StackLemmas.{open_nothing}
use Rattle.sp_note.proofs.TakeLemmas.{tree_rank, takes, reduced-nil}
use Rattle.sp_note.proofs.WrittenLemmas.{Condition, parsed_written}

-- ---- words

no_bounds : bounds_in [] ≡ []
unfolding bounds_in
no_bounds = refl

run-nil : (s : State) → run s [] ≡ Some s
unfolding run
run-nil s = refl

-- the words of a condition are read as its meaning
pub parsed_exact : (ws : List Word) (t : Tree) → Spells ws t → parsed ws ≡ Some (known [] (meaning_of t), depth_of t)
unfolding parsed
parsed_exact ws t h =
    let rank = tree_rank t in
    let read = takes t h.grammar [] 0 (omega (arith, open_nothing)) rank in
    let next = read.0 in
    let taken = read.1 in
    let most = taken.most in
    let ran : run start ws ≡ Some next = ap (run start) (h.whole ∙ sym (append-nil (spelling t))) ∙ read.2 [] ∙ run-nil next in
    let deep : next.most ≡ depth_of t = omega (arith, most, open_nothing) in
    let done = taken.reduces 10 (omega (arith, rank)) (λ o. omega arith) ∙ reduced-nil 10 (known (bounds_in []) (meaning_of t)) in
    ap (option_and_then ended) ran ∙ ap (ended_at next) taken.place ∙ ap (whole_of next.most) done
    ∙ ap (λ b. Some (known b (meaning_of t), next.most)) no_bounds ∙ ap (λ d. Some (known [] (meaning_of t), d)) deep

-- ---- verdicts

truth_is : (s : Option sorts.Sort) → is_truth s ≡ true → s ≡ Some Truth
truth_is (Some Truth) e = refl
truth_is (Some Number) e = absurd cc
truth_is None e = absurd cc

truth_isnt : (s : Option sorts.Sort) → is_truth s ≡ false → ¬ (s ≡ Some Truth)
truth_isnt (Some Truth) e h = cc
truth_isnt (Some Number) e h = cc
truth_isnt None e h = cc

-- what the tests on a condition come to
data Verdict (m : RawNote) (d : ℕ) : Result RawNote NoteKind → Type 0 where
  deep : 64 < d → Verdict m d (Err TooDeep)
  unsorted : d ≤ 64 → ¬ (sort_of m ≡ Some Truth) → Verdict m d (Err Sort)
  wide : d ≤ 64 → sort_of m ≡ Some Truth → bound_of [] m ≡ None → Verdict m d (Err Wide)
  right : d ≤ 64 → sort_of m ≡ Some Truth → IsSome (bound_of [] m) → Verdict m d (Ok m)

narrow_by : (m : RawNote) (d : ℕ) (o : Option ℕ) → bound_of [] m ≡ o → d ≤ 64 → sort_of m ≡ Some Truth → Verdict m d (if_narrow o m)
narrow_by m d None is shallow sorted = wide shallow sorted is
narrow_by m d (Some n) is shallow sorted = right shallow sorted (ap is_some is)

sort_by : (m : RawNote) (d : ℕ) (b : Bool) → is_truth (sort_of m) ≡ b → d ≤ 64 → Verdict m d (cond b (if_narrow (bound_of [] m) m) (Err Sort))
sort_by m d true is shallow = narrow_by m d (bound_of [] m) refl shallow (truth_is (sort_of m) is)
sort_by m d false is shallow = unsorted shallow (truth_isnt (sort_of m) is)

depth_by : (m : RawNote) (d : ℕ) (b : Bool) → nat_lt 64 d ≡ b → Verdict m d (cond b (Err TooDeep) (cond (is_truth (sort_of m)) (if_narrow (bound_of [] m) m) (Err Sort)))
depth_by m d true is = deep (grind (arith, nat_tests))
depth_by m d false is = sort_by m d (is_truth (sort_of m)) refl (grind (arith, nat_tests))

verdict : (m : RawNote) (d : ℕ) → Verdict m d (judged (known [] m, d))
verdict m d = depth_by m d (nat_lt 64 d) refl

some_pair : {X : Type 0} (a b : X) → Some a ≡ Some b → a ≡ b
some_pair a b e = cc

-- ---- tokens

module _ (source : List ℕ) (tokens : List Token) where
  -- what is answered of tokens that are written as a condition
  pub answered : (t : Tree) → IsWritten source tokens t → condition_of source tokens ≡ judged (known [] (meaning_of t), depth_of t)
  unfolding condition_of
  answered t h = ap (λ ws. judged_some (option_and_then parsed ws)) h.words ∙ ap judged_some (parsed_exact h.ws t h.spells)

  -- tokens are written as a condition, or they are Syntax and aren't
  data Tokens : Type 0 where
    written : (t : Tree) → IsWritten source tokens t → Tokens
    none : condition_of source tokens ≡ Err Syntax → ((t : Tree) → ¬ IsWritten source tokens t) → Tokens

  parsed_by : (ws : List Word) (r : Option (Known × ℕ)) → words_of source tokens ≡ Some ws → parsed ws ≡ r → Tokens
  unfolding condition_of
  parsed_by ws (Some r) is e = let c = parsed_written ws r e in written c.tree (record { ws = ws; words = is; spells = record { grammar = c.grammar; whole = c.written } })
  parsed_by ws None is e =
      none (ap (λ v. judged_some (option_and_then parsed v)) is ∙ ap judged_some e)
      (λ t h. let same = sym is ∙ h.words in let read = parsed_exact h.ws t h.spells in cc)

  words_by : (r : Option (List Word)) → words_of source tokens ≡ r → Tokens
  unfolding condition_of
  words_by (Some ws) is = parsed_by ws (parsed ws) is refl
  words_by None is = none (ap (λ v. judged_some (option_and_then parsed v)) is) (λ t h. let words = h.words in cc)

  all_tokens : Tokens
  all_tokens = words_by (words_of source tokens) refl

  verdict_right : (t : Tree) (r : Result RawNote NoteKind) (note : RawNote) → IsWritten source tokens t → Verdict (meaning_of t) (depth_of t) r → r ≡ Ok note → IsConditionOf source tokens note
  verdict_right t r note h (deep lt) e = absurd cc
  verdict_right t r note h (unsorted shallow isnt) e = absurd cc
  verdict_right t r note h (wide shallow sorted isnt) e = absurd cc
  verdict_right t r note h (right shallow sorted some) e =
      let same : note ≡ meaning_of t = cc in
      record { tree = t; written = h; shallow = shallow; means = same; sorted = ap sort_of same ∙ sorted; narrow = subst (λ n. IsSome (bound_of [] n)) (sym same) some }

  verdict_broken : (t : Tree) (r : Result RawNote NoteKind) (kind : NoteKind) → IsWritten source tokens t → Verdict (meaning_of t) (depth_of t) r → r ≡ Err kind → BreaksCondition source tokens kind
  verdict_broken t r Syntax h (deep lt) e = absurd cc
  verdict_broken t r TooDeep h (deep lt) e = (t, h, lt)
  verdict_broken t r Sort h (deep lt) e = absurd cc
  verdict_broken t r Wide h (deep lt) e = absurd cc
  verdict_broken t r Syntax h (unsorted shallow isnt) e = absurd cc
  verdict_broken t r TooDeep h (unsorted shallow isnt) e = absurd cc
  verdict_broken t r Sort h (unsorted shallow isnt) e = (t, h, shallow, isnt)
  verdict_broken t r Wide h (unsorted shallow isnt) e = absurd cc
  verdict_broken t r Syntax h (wide shallow sorted isnt) e = absurd cc
  verdict_broken t r TooDeep h (wide shallow sorted isnt) e = absurd cc
  verdict_broken t r Sort h (wide shallow sorted isnt) e = absurd cc
  verdict_broken t r Wide h (wide shallow sorted isnt) e = (t, h, shallow, sorted, isnt)
  verdict_broken t r kind h (right shallow sorted some) e = absurd cc

  pub reads : (note : RawNote) → condition_of source tokens ≡ Ok note → IsConditionOf source tokens note
  reads note e =
      elim all_tokens [
        | written t h ↦ verdict_right t (judged (known [] (meaning_of t), depth_of t)) note h (verdict (meaning_of t) (depth_of t)) (sym (answered t h) ∙ e)
        | none syntax isnt ↦ absurd cc
      ]

  pub breaks : (kind : NoteKind) → condition_of source tokens ≡ Err kind → BreaksCondition source tokens kind
  breaks kind e =
      elim all_tokens [
        | written t h ↦ verdict_broken t (judged (known [] (meaning_of t), depth_of t)) kind h (verdict (meaning_of t) (depth_of t)) (sym (answered t h) ∙ e)
        | none syntax isnt ↦ (let same : Syntax ≡ kind = cc in subst (BreaksCondition source tokens) same isnt)
      ]

  ok_by : (m note : RawNote) (d : ℕ) (r : Result RawNote NoteKind) → Verdict m d r → d ≤ 64 → note ≡ m → sort_of note ≡ Some Truth → IsSome (bound_of [] note) → r ≡ Ok note
  ok_by m note d r (deep lt) shallow means sorted some = absurd (omega (arith, lt, shallow))
  ok_by m note d r (unsorted low isnt) shallow means sorted some = absurd (isnt (ap sort_of (sym means) ∙ sorted))
  ok_by m note d r (wide low truth isnt) shallow means sorted some =
      let has = subst (λ n. IsSome (bound_of [] n)) means some in
      let hasnt = subst (λ (o : Option ℕ). IsSome o) isnt has in absurd cc
  ok_by m note d r (right low truth has) shallow means sorted some = ap (λ n. Ok n) (sym means)

  err_by : (m : RawNote) (d : ℕ) (r : Result RawNote NoteKind) → Verdict m d r
      → ((64 < d) → r ≡ Err TooDeep) × ((d ≤ 64) → ¬ (sort_of m ≡ Some Truth) → r ≡ Err Sort) × ((d ≤ 64) → sort_of m ≡ Some Truth → bound_of [] m ≡ None → r ≡ Err Wide)
  err_by m d r (deep lt) = (λ h. refl, λ h isnt. absurd (omega (arith, lt, h)), λ h sorted isnt. absurd (omega (arith, lt, h)))
  err_by m d r (unsorted low isnt) = (λ h. absurd (omega (arith, low, h)), λ h n. refl, λ h sorted n. absurd (isnt sorted))
  err_by m d r (wide low truth isnt) = (λ h. absurd (omega (arith, low, h)), λ h n. absurd (n truth), λ h sorted n. refl)
  err_by m d r (right low truth has) =
      (λ h. absurd (omega (arith, low, h)), λ h n. absurd (n truth), λ h sorted n. let hasnt = subst (λ (o : Option ℕ). IsSome o) n has in absurd cc)

  pub read_right : (note : RawNote) → IsConditionOf source tokens note → condition_of source tokens ≡ Ok note
  read_right note h =
      let t = h.tree in
      answered t h.written ∙ ok_by (meaning_of t) note (depth_of t) (judged (known [] (meaning_of t), depth_of t)) (verdict (meaning_of t) (depth_of t)) h.shallow h.means h.sorted h.narrow

  pub read_broken : (kind : NoteKind) → BreaksCondition source tokens kind → condition_of source tokens ≡ Err kind
  read_broken Syntax h = elim all_tokens [ written t k ↦ absurd (h t k) | none syntax isnt ↦ syntax ]
  read_broken TooDeep h =
      let t = h.0 in answered t h.1 ∙ (err_by (meaning_of t) (depth_of t) (judged (known [] (meaning_of t), depth_of t)) (verdict (meaning_of t) (depth_of t))).0 h.2
  read_broken Sort h =
      let t = h.0 in answered t h.1 ∙ (err_by (meaning_of t) (depth_of t) (judged (known [] (meaning_of t), depth_of t)) (verdict (meaning_of t) (depth_of t))).1 h.2 h.3
  read_broken Wide h =
      let t = h.0 in answered t h.1 ∙ (err_by (meaning_of t) (depth_of t) (judged (known [] (meaning_of t), depth_of t)) (verdict (meaning_of t) (depth_of t))).2 h.2 h.3 h.4

  -- ---- one meaning

  pub one_meaning : (one other : Tree) → IsWritten source tokens one → IsWritten source tokens other → (meaning_of one ≡ meaning_of other) × (depth_of one ≡ depth_of other)
  one_meaning one other h k =
      let same_words : h.ws ≡ k.ws = (let e = sym h.words ∙ k.words in cc) in
      let same : Some (known [] (meaning_of one), depth_of one) ≡ Some (known [] (meaning_of other), depth_of other) =
      sym (parsed_exact h.ws one h.spells) ∙ ap parsed same_words ∙ parsed_exact k.ws other k.spells in
      let pair = some_pair (known [] (meaning_of one), depth_of one) (known [] (meaning_of other), depth_of other) same in
      (ap (λ (p : Known × ℕ). p.0.tree) pair, ap (λ (p : Known × ℕ). p.1) pair)
