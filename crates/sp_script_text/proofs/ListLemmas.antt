-- Hypotheses with their multipliers, and the arguments of `rewrite`.
use Rattle.std.proofs.Common.{◌≡◌, ℕ, ℤ, zero, suc, ◌+◌, ◌<◌, Bool, true, false, cond, List, [], ◌∷◌, ◌++◌, length, Option, Some, None, refl, sym, ap, subst, ◌∙◌, arith, length-append, append_assoc}
use Rattle.std.specs.Prelude.{codes, Err}
use Rattle.std.specs.Borrow.{Bor}
use Rattle.std.proofs.lemmas.List.{append-nil}
use Rattle.sp_fdl.specs.Text.{Form, Token}
use Rattle.sp_fdl.specs.code.Tokens.{◌>>=◌}
use Rattle.sp_fdl.proofs.TextLemmas.{bind_some, some_is, if_some, chosen}
use Rattle.sp_fdl.proofs.NameLemmas.{word_is}
use Rattle.sp_script_text.specs.declared.rule.Rule.TheVariants as rule
use Rattle.sp_script_text.specs.Steps.{Step, Rewrite, rule_of}
use Rattle.sp_script_text.specs.StepTexts.{Spaced, Hypothesis, Number, Named, arguments_of}
use Rattle.sp_script_text.specs.code.Words.{word_of, after_word, after_space, is_word}
use Rattle.sp_script_text.specs.code.Arguments.{hypothesis_of, next_hypothesis, next_number, next_named, named_within, named_of, is_back}
use Rattle.sp_script_text.specs.code.Answers.{Gives}
use Rattle.sp_script_text.specs.declared.refusal.StepRefusal.{StepRefusal}
use Rattle.sp_script_text.specs.declared.refusal.StepRefusal.TheVariants as refusal
use Rattle.sp_script_text.specs.code.Stepping.{rewrite_by, rewrite_after, rewrite}
use Rattle.sp_script_text.proofs.SolidLemmas.{hypothesis_run, all_solid}
use Rattle.sp_script_text.proofs.TermLemmas.{hypothesis_of_is, hypothesis_of_again}
use Rattle.sp_script_text.proofs.SpaceLemmas.{space_is, space_again, After, Rest, Next, with_next, next_parts, next_last, last_next, after_some, after_filled, word_at, word_next}
use Rattle.sp_script_text.proofs.ArgumentLemmas.{next_hypothesis_is, next_hypothesis_again, next_number_is, next_number_again}

-- ---- hypotheses with their multipliers

-- what stands after the first number: nothing, or hypotheses with their multipliers
abbrev pub Within : List (ℤ × ℕ) → List ℕ → Type 0
Within [] text = text ≡ []
Within (first ∷ named) text = After (Named first named) text

within_next : (p : ℤ × ℕ) (named : List (ℤ × ℕ)) (text middle rest : List ℕ) → Next (Number p.0) text middle → Next (Hypothesis p.1) middle rest → Within named rest → After (Named p named) text
within_next p [] text middle rest one next h =
    with_next (Number p.0) (Hypothesis p.1) text middle one (next_last (Hypothesis p.1) middle (subst (Next (Hypothesis p.1) middle) h next))
within_next p (first ∷ named) text middle rest one next h =
    with_next (Number p.0) (Spaced (Hypothesis p.1) (Named first named)) text middle one (with_next (Hypothesis p.1) (Named first named) middle rest next h)

pub named_is : (n : ℕ) (text : List ℕ) (named : List (ℤ × ℕ)) → named_within n text ≡ Some named → Within named text
unfolding named_within
named_is zero text named e = absurd cc
named_is (suc n) [] named e = subst (λ ps. Within ps []) (some_is [] named e) refl
named_is (suc n) (byte ∷ bytes) named e =
    let text : List ℕ = byte ∷ bytes in
    let b = bind_some (next_number text) _ named e in
    let c = bind_some (next_hypothesis b.0.1) _ named b.2 in
    let d = bind_some (named_within n c.0.1) _ named c.2 in
    subst (λ ps. Within ps text) (some_is ((b.0.0, c.0.0) ∷ d.0) named d.2)
    (within_next (b.0.0, c.0.0) d.0 text b.0.1 c.0.1 (next_number_is text b.0 b.1) (next_hypothesis_is b.0.1 c.0 c.1) (named_is n c.0.1 d.0 d.1))

next_shorter : (X : Form) (text rest : List ℕ) → Next X text rest → length rest < length text
next_shorter X text rest h = omega (arith, ap length h.whole, length-append h.blanks (h.word ++ rest), length-append h.word rest, h.some)

-- the parts of hypotheses with multipliers, of which there is one at least
record Parts (p : ℤ × ℕ) (named : List (ℤ × ℕ)) (text : List ℕ) : Type 0 where
  middle : List ℕ
  rest : List ℕ
  one : Next (Number p.0) text middle
  next : Next (Hypothesis p.1) middle rest
  within : Within named rest

parts_in : (p : ℤ × ℕ) (named : List (ℤ × ℕ)) (text : List ℕ) → After (Named p named) text → Parts p named text
parts_in p [] text h =
    let a = next_parts (Number p.0) (Hypothesis p.1) text h in
    record { middle = a.rest; rest = []; one = a.next; next = last_next (Hypothesis p.1) a.rest a.after; within = refl }
parts_in p (first ∷ named) text h =
    let a = next_parts (Number p.0) (Spaced (Hypothesis p.1) (Named first named)) text h in
    let b = next_parts (Hypothesis p.1) (Named first named) a.rest a.after in
    record { middle = a.rest; rest = b.rest; one = a.next; next = b.next; within = b.after }

pub named_again : (n : ℕ) (named : List (ℤ × ℕ)) (text : List ℕ) → length text < n → Within named text → named_within n text ≡ Some named
unfolding named_within
named_again zero named text fits h = absurd (omega arith)
named_again (suc n) [] [] fits h = refl
named_again (suc n) [] (byte ∷ bytes) fits h = absurd cc
named_again (suc n) (p ∷ named) [] fits h = absurd (after_some (Named p named) h)
named_again (suc n) (p ∷ named) (byte ∷ bytes) fits h =
    let text : List ℕ = byte ∷ bytes in
    let a = parts_in p named text h in
    let shorter : length a.rest < n = omega (arith, next_shorter _ text a.middle a.one, next_shorter _ a.middle a.rest a.next, fits) in
    ap (λ o. o >>= λ first. next_hypothesis first.1 >>= λ second. named_within n second.1 >>= λ more. Some ((first.0, second.0) ∷ more)) (next_number_again text p.0 a.middle a.one)
    ∙ ap (λ o. o >>= λ second. named_within n second.1 >>= λ more. Some ((p.0, second.0) ∷ more)) (next_hypothesis_again a.middle p.1 a.rest a.next)
    ∙ ap (λ o. o >>= λ more. Some (p ∷ more)) (named_again n named a.rest shorter a.within)

-- any number past the length serves
pub named_more : (n : ℕ) (text : List ℕ) (named : List (ℤ × ℕ)) → length text < n → named_within n text ≡ Some named → named_of text ≡ Some named
named_more n text named fits e = named_again (length text + 1) named text (omega arith) (named_is n text named e)

-- ---- rewrite

-- `back` or nothing at the end
abbrev pub Backed : Bool → List ℕ → Type 0
Backed false text = text ≡ []
Backed true text = After (Token (codes "back")) text

pub is_back_is : (text : List ℕ) (b : Bool) → is_back text ≡ Some b → Backed b text
unfolding is_back
is_back_is [] b e = subst (λ c. Backed c []) (some_is false b e) refl
is_back_is (byte ∷ bytes) b e =
    let text : List ℕ = byte ∷ bytes in
    let f = bind_some (after_space text) _ b e in
    let g = space_is text f.0 f.1 in
    let t = if_some (is_word f.0 (codes "back")) true b f.2 in
    subst (λ c. Backed c text) t.1 (record { blanks = g.blanks; back = f.0; whole = g.whole; blank = g.blank; some = g.some; is = word_is f.0 (codes "back") t.0 })

back_space : (text : List ℕ) → After (Token (codes "back")) text → after_space text ≡ Some (codes "back")
back_space text h =
    ap after_space h.whole ∙ ap (λ w. after_space (h.blanks ++ w)) h.is ∙ space_again h.blanks (codes "back") h.blank h.some refl

pub is_back_again : (b : Bool) (text : List ℕ) → Backed b text → is_back text ≡ Some b
unfolding is_back
is_back_again false text h = ap is_back h
is_back_again true [] h = absurd (after_some (Token (codes "back")) h)
is_back_again true (byte ∷ bytes) h = ap (λ o. o >>= λ word. cond (is_word word (codes "back")) (Some true) None) (back_space (byte ∷ bytes) h)

abbrev pub Rewrites : List ℕ → Step → Type 0
Rewrites text step = (rule_of step ≡ rule.Rewrite) × Rest (arguments_of step) text

with_back : (k j : ℕ) (b : Bool) (text rest more : List ℕ) → Next (Hypothesis k) text rest → Next (Hypothesis j) rest more → Backed b more → Rewrites text (Rewrite k (Some j) b)
with_back k j false text rest more one next h = (refl, with_next (Hypothesis k) (Hypothesis j) text rest one (next_last (Hypothesis j) rest (subst (Next (Hypothesis j) rest) h next)))
with_back k j true text rest more one next h =
    (refl, with_next (Hypothesis k) (Spaced (Hypothesis j) (Token (codes "back"))) text rest one (with_next (Hypothesis j) (Token (codes "back")) rest more next h))

rewrite_after_is : (k : ℕ) (text rest : List ℕ) (step : Step) → Next (Hypothesis k) text rest → rewrite_after k rest ≡ Some step → Rewrites text step
unfolding rewrite_by
rewrite_after_is k text [] step one e = subst (Rewrites text) (some_is (Rewrite k None false) step e) (refl, next_last (Hypothesis k) text one)
rewrite_after_is k text (byte ∷ bytes) step one e =
    let rest : List ℕ = byte ∷ bytes in
    let f = bind_some (after_space rest) (rewrite_by k) step e in
    let g = space_is rest f.0 f.1 in
    chosen (Rewrites text step) (is_word f.0 (codes "back")) (Some (Rewrite k None true)) _ (Some step) f.2
    (λ h is. subst (Rewrites text) (some_is (Rewrite k None true) step is)
    (refl, with_next (Hypothesis k) (Token (codes "back")) text rest one (record { blanks = g.blanks; back = f.0; whole = g.whole; blank = g.blank; some = g.some; is = word_is f.0 (codes "back") h })))
    (λ h is.
    let b = bind_some (hypothesis_of (word_of f.0)) (λ j. is_back (after_word f.0) >>= λ back. Some (Rewrite k (Some j) back)) step is in
    let c = bind_some (is_back (after_word f.0)) (λ back. Some (Rewrite k (Some b.0) back)) step b.2 in
    subst (Rewrites text) (some_is (Rewrite k (Some b.0) c.0) step c.2)
    (with_back k b.0 c.0 text rest (after_word f.0) one (word_at (Hypothesis b.0) rest f.0 g (hypothesis_of_is (word_of f.0) b.0 b.1)) (is_back_is (after_word f.0) c.0 c.1)))

pub rewrite_is : (text : List ℕ) (step : Step) → rewrite text ≡ Some step → Rewrites text step
unfolding rewrite
rewrite_is text step e =
    let b = bind_some (next_hypothesis text) (λ first. rewrite_after first.0 first.1) step e in
    rewrite_after_is b.0.0 text b.0.1 step (next_hypothesis_is text b.0 b.1) b.2

rewrite_from : (k : ℕ) (text rest : List ℕ) (step : Step) → Next (Hypothesis k) text rest → rewrite_after k rest ≡ Some step → rewrite text ≡ Some step
unfolding rewrite
rewrite_from k text rest step one e = ap (λ o. o >>= λ first. rewrite_after first.0 first.1) (next_hypothesis_again text k rest one) ∙ e

rewrite_some : (k : ℕ) (rest : List ℕ) → 0 < length rest → rewrite_after k rest ≡ (after_space rest >>= rewrite_by k)
rewrite_some k [] some = absurd (omega arith)
rewrite_some k (byte ∷ bytes) some = refl

pub rewrite_again_goal : (k : ℕ) (text : List ℕ) → After (Hypothesis k) text → rewrite text ≡ Some (Rewrite k None false)
rewrite_again_goal k text h = rewrite_from k text [] (Rewrite k None false) (last_next (Hypothesis k) text h) refl

pub rewrite_again_goal_back : (k : ℕ) (text : List ℕ) → After (Spaced (Hypothesis k) (Token (codes "back"))) text → rewrite text ≡ Some (Rewrite k None true)
unfolding rewrite_by
rewrite_again_goal_back k text h =
    let a = next_parts (Hypothesis k) (Token (codes "back")) text h in
    rewrite_from k text a.rest (Rewrite k None true) a.next
    (rewrite_some k a.rest (after_filled (Token (codes "back")) a.rest a.after) ∙ ap (λ o. o >>= rewrite_by k) (back_space a.rest a.after))

not_back : (j : ℕ) (text rest : List ℕ) → Hypothesis j text → is_word (text ++ rest) (codes "back") ≡ false
not_back j text rest h = ap (λ w. is_word (w ++ rest) (codes "back")) h.0

rewrite_with : (k j : ℕ) (b : Bool) (text rest more : List ℕ) → Next (Hypothesis k) text rest → Next (Hypothesis j) rest more → Backed b more → rewrite text ≡ Some (Rewrite k (Some j) b)
unfolding rewrite_by
rewrite_with k j b text rest more one next h =
    let w = word_next (Hypothesis j) rest more next (all_solid next.word (hypothesis_run j next.word next.is).0) (hypothesis_run j next.word next.is).1 in
    let step : rewrite_by k (next.word ++ more) ≡ Some (Rewrite k (Some j) b) =
    rw (not_back j next.word more next.is)
    (ap (λ u. hypothesis_of u >>= λ i. is_back (after_word (next.word ++ more)) >>= λ back. Some (Rewrite k (Some i) back)) w.word_is
    ∙ ap (λ o. o >>= λ i. is_back (after_word (next.word ++ more)) >>= λ back. Some (Rewrite k (Some i) back)) (hypothesis_of_again next.word j next.is)
    ∙ ap (λ u. is_back u >>= λ back. Some (Rewrite k (Some j) back)) w.after
    ∙ ap (λ o. o >>= λ back. Some (Rewrite k (Some j) back)) (is_back_again b more h)) in
    rewrite_from k text rest (Rewrite k (Some j) b) one (rewrite_some k rest w.filled ∙ ap (λ o. o >>= rewrite_by k) w.space ∙ step)

pub rewrite_again : (k j : ℕ) (text : List ℕ) → After (Spaced (Hypothesis k) (Hypothesis j)) text → rewrite text ≡ Some (Rewrite k (Some j) false)
rewrite_again k j text h =
    let a = next_parts (Hypothesis k) (Hypothesis j) text h in
    rewrite_with k j false text a.rest [] a.next (last_next (Hypothesis j) a.rest a.after) refl

pub rewrite_again_back : (k j : ℕ) (text : List ℕ) → After (Spaced (Hypothesis k) (Spaced (Hypothesis j) (Token (codes "back")))) text → rewrite text ≡ Some (Rewrite k (Some j) true)
rewrite_again_back k j text h =
    let a = next_parts (Hypothesis k) (Spaced (Hypothesis j) (Token (codes "back"))) text h in
    let b = next_parts (Hypothesis j) (Token (codes "back")) a.rest a.after in
    rewrite_with k j true text a.rest b.rest a.next b.next b.after

-- ---- hypotheses with their multipliers, one after another

-- those that were taken, in front of those that follow
abbrev pub all_in_front : List (ℤ × ℕ) → Option (List (ℤ × ℕ)) → Option (List (ℤ × ℕ))
all_in_front taken None = None
all_in_front taken (Some more) = Some (taken ++ more)

named_none : (n : ℕ) (text : List ℕ) → length text < n → named_of text ≡ None → named_within n text ≡ None
named_none n text fits e = by (named_within n text) refl
  where
    by : (o : Option (List (ℤ × ℕ))) → named_within n text ≡ o → o ≡ None
    by None h = refl
    by (Some named) h = let clash = sym (named_more n text named fits h) ∙ e in absurd cc

same_named : (n : ℕ) (text : List ℕ) → length text < n → named_within n text ≡ named_of text
same_named n text fits = by (named_of text) refl
  where
    by : (o : Option (List (ℤ × ℕ))) → named_of text ≡ o → named_within n text ≡ o
    by None e = named_none n text fits e
    by (Some named) e = named_again n named text fits (named_is (length text + 1) text named e)

in_front_more : (taken : List (ℤ × ℕ)) (p : ℤ × ℕ) (o : Option (List (ℤ × ℕ))) → all_in_front taken (o >>= λ more. Some (p ∷ more)) ≡ all_in_front (taken ++ p ∷ []) o
in_front_more taken p None = refl
in_front_more taken p (Some more) = ap Some (sym (append_assoc taken (p ∷ []) more))

-- what is named at the front of a text that isn't empty
abbrev pub named_next : List ℕ → Option (List (ℤ × ℕ))
named_next text = next_number text >>= λ first. next_hypothesis first.1 >>= λ second. named_within (length text) second.1 >>= λ more. Some ((first.0, second.0) ∷ more)

named_step : (text : List ℕ) → 0 < length text → named_of text ≡ named_next text
unfolding named_within
named_step [] some = absurd (omega arith)
named_step (byte ∷ bytes) some = ap (λ n. named_within n (byte ∷ bytes)) (plus_one (length bytes))
  where
    plus_one : (n : ℕ) → suc n + 1 ≡ suc (suc n)
    plus_one n = omega arith

pub named_on : (taken : List (ℤ × ℕ)) (rest text middle after : List ℕ) (n : ℤ) (k : ℕ) → 0 < length rest → next_number rest ≡ Some (n, middle) → next_hypothesis middle ≡ Some (k, after)
    → all_in_front taken (named_of rest) ≡ named_of text → all_in_front (taken ++ (n, k) ∷ []) (named_of after) ≡ named_of text
named_on taken rest text middle after n k some one next so_far =
    let shorter : length after < length rest = omega (arith, next_shorter _ rest middle (next_number_is rest (n, middle) one), next_shorter _ middle after (next_hypothesis_is middle (k, after) next)) in
    sym (in_front_more taken (n, k) (named_of after))
    ∙ ap (λ o. all_in_front taken (o >>= λ more. Some ((n, k) ∷ more))) (sym (same_named (length rest) after shorter))
    ∙ ap (λ o. all_in_front taken (o >>= λ second. named_within (length rest) second.1 >>= λ more. Some ((n, second.0) ∷ more))) (sym next)
    ∙ ap (λ o. all_in_front taken (o >>= λ first. next_hypothesis first.1 >>= λ second. named_within (length rest) second.1 >>= λ more. Some ((first.0, second.0) ∷ more))) (sym one)
    ∙ ap (all_in_front taken) (sym (named_step rest some)) ∙ so_far

pub named_less : (rest middle after : List ℕ) (n : ℤ) (k : ℕ) → next_number rest ≡ Some (n, middle) → next_hypothesis middle ≡ Some (k, after) → length after < length rest
named_less rest middle after n k one next =
    omega (arith, next_shorter _ rest middle (next_number_is rest (n, middle) one), next_shorter _ middle after (next_hypothesis_is middle (k, after) next))

pub named_no_number : (taken : List (ℤ × ℕ)) (rest text : List ℕ) → 0 < length rest → next_number rest ≡ None → all_in_front taken (named_of rest) ≡ named_of text → named_of text ≡ None
named_no_number taken rest text some none so_far =
    sym so_far ∙ ap (all_in_front taken) (named_step rest some ∙ ap (λ o. o >>= λ first. next_hypothesis first.1 >>= λ second. named_within (length rest) second.1 >>= λ more. Some ((first.0, second.0) ∷ more)) none)

pub named_no_hypothesis : (taken : List (ℤ × ℕ)) (rest text middle : List ℕ) (n : ℤ) → 0 < length rest → next_number rest ≡ Some (n, middle) → next_hypothesis middle ≡ None
    → all_in_front taken (named_of rest) ≡ named_of text → named_of text ≡ None
named_no_hypothesis taken rest text middle n some one none so_far =
    sym so_far ∙ ap (all_in_front taken) (named_step rest some
    ∙ ap (λ o. o >>= λ first. next_hypothesis first.1 >>= λ second. named_within (length rest) second.1 >>= λ more. Some ((first.0, second.0) ∷ more)) one
    ∙ ap (λ o. o >>= λ second. named_within (length rest) second.1 >>= λ more. Some ((n, second.0) ∷ more)) none)

named_empty : named_of [] ≡ Some []
unfolding named_within
named_empty = refl

pub named_all : (taken : List (ℤ × ℕ)) (rest text : List ℕ) → length rest ≡ 0 → all_in_front taken (named_of rest) ≡ named_of text → named_of text ≡ Some taken
named_all taken [] text none so_far = sym so_far ∙ ap (all_in_front taken) named_empty ∙ ap Some (append-nil taken)
named_all taken (byte ∷ rest) text none so_far = absurd (omega arith)

-- the parts of one of them
parts_of_next : (text : List ℕ) (p : ℤ × ℕ) (after : List ℕ) → next_named text ≡ Some (p, after) → (middle : List ℕ) × (next_number text ≡ Some (p.0, middle)) × (next_hypothesis middle ≡ Some (p.1, after))
unfolding next_named
parts_of_next text p after e =
    let b = bind_some (next_number text) (λ first. next_hypothesis first.1 >>= λ second. Some ((first.0, second.0), second.1)) (p, after) e in
    let c = bind_some (next_hypothesis b.0.1) (λ second. Some ((b.0.0, second.0), second.1)) (p, after) b.2 in
    let same : ((b.0.0, c.0.0), c.0.1) ≡ (p, after) = some_is ((b.0.0, c.0.0), c.0.1) (p, after) c.2 in
    (b.0.1, b.1 ∙ ap (λ (q : (ℤ × ℕ) × List ℕ). Some (q.0.0, b.0.1)) same, c.1 ∙ ap (λ (q : (ℤ × ℕ) × List ℕ). Some (q.0.1, q.1)) same)

pub named_begin : (text : List ℕ) → all_in_front [] (named_of text) ≡ named_of text
named_begin text = by (named_of text)
  where
    by : (o : Option (List (ℤ × ℕ))) → all_in_front [] o ≡ o
    by None = refl
    by (Some named) = refl

pub named_goes_on : (taken : List (ℤ × ℕ)) (rest text after : List ℕ) (p : ℤ × ℕ) → 0 < length rest → next_named rest ≡ Some (p, after)
    → all_in_front taken (named_of rest) ≡ named_of text → all_in_front (taken ++ p ∷ []) (named_of after) ≡ named_of text
named_goes_on taken rest text after p some one so_far =
    let q = parts_of_next rest p after one in named_on taken rest text q.0 after p.0 p.1 some q.1 q.2 so_far

pub named_shorter : (rest after : List ℕ) (p : ℤ × ℕ) → next_named rest ≡ Some (p, after) → length after < length rest
named_shorter rest after p one = let q = parts_of_next rest p after one in named_less rest q.0 after p.0 p.1 q.1 q.2

abbrev paired : ℤ → ℕ × List ℕ → Option ((ℤ × ℕ) × List ℕ)
paired n second = Some ((n, second.0), second.1)

named_stops : (taken : List (ℤ × ℕ)) (rest text : List ℕ) → 0 < length rest → next_named rest ≡ None → all_in_front taken (named_of rest) ≡ named_of text → named_of text ≡ None
unfolding next_named
named_stops taken rest text some none so_far = by (next_number rest) refl none
  where
    after : (n : ℤ) (middle : List ℕ) → next_number rest ≡ Some (n, middle) → (o : Option (ℕ × List ℕ)) → next_hypothesis middle ≡ o → (o >>= paired n) ≡ None → named_of text ≡ None
    after n middle e None h u = named_no_hypothesis taken rest text middle n some e h so_far
    after n middle e (Some second) h u = absurd cc

    by : (o : Option (ℤ × List ℕ)) → next_number rest ≡ o → (o >>= λ first. next_hypothesis first.1 >>= paired first.0) ≡ None → named_of text ≡ None
    by None e u = named_no_number taken rest text some e so_far
    by (Some first) e u = after first.0 first.1 e (next_hypothesis first.1) refl u

pub named_refused : (e : StepRefusal) (taken : List (ℤ × ℕ)) (rest text : List ℕ) → 0 < length rest → Gives {X = (ℤ × ℕ) × Bor (List ℕ)} (λ p. (p.0, p.1.now)) (Err e) (next_named rest)
    → all_in_front taken (named_of rest) ≡ named_of text → Gives {X = Bor (List (ℤ × ℕ))} (λ ps. ps.now) (Err e) (named_of text)
named_refused refusal.Syntax taken rest text some none so_far = named_stops taken rest text some none so_far
named_refused refusal.Memory taken rest text some none so_far = tt
