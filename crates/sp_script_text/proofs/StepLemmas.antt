-- A line is read as the step that it is.
use Rattle.std.proofs.Common.{◌≡◌, ℕ, ℤ, ◌+◌, true, false, cond, List, [], ◌∷◌, ◌++◌, length, Option, Some, None, refl, sym, ap, subst, ◌∙◌, arith}
use Rattle.std.specs.Prelude.{codes, Result, Ok, Err, IfErr}
use Rattle.std.specs.List.{list_all}
use Rattle.std.proofs.lemmas.List.{append-nil}
use Rattle.sp_term.specs.Tree.{Tree}
use Rattle.sp_term.specs.Sorts.{Formula}
use Rattle.sp_fdl.specs.Text.{is_blank, Form, Token}
use Rattle.sp_fdl.specs.code.Tokens.{◌>>=◌}
use Rattle.sp_fdl.proofs.TextLemmas.{bind_some, some_is, chosen, stops, parts_of}
use Rattle.sp_fdl.proofs.NameLemmas.{word_is}
use Rattle.sp_script_text.specs.declared.rule.Rule.{Rule}
use Rattle.sp_script_text.specs.declared.rule.Rule.TheVariants as rule
use Rattle.sp_script_text.specs.declared.step.Step as declared
use Rattle.sp_script_text.specs.declared.refusal.StepRefusal.{StepRefusal}
use Rattle.sp_script_text.specs.declared.refusal.StepRefusal.TheVariants as refusal
use Rattle.sp_script_text.specs.Rules.{name_of}
use Rattle.sp_script_text.specs.Steps.{Step, Close, Simp, Split, Intro, SideLeft, SideRight, Unpack, UseBoth, CasesOf, CasesBy, Cut, Fix, At, Give, Pick, Induct, Rewrite, Linear, DivMod, Range, Read, Rom, Frame, Bits, BitOf, Choose, Empty, Last, Over, rule_of, seen}
use Rattle.sp_script_text.specs.code.Answers.{Gives}
use Rattle.sp_script_text.specs.StepTexts.{Hypothesis, Number, Term, Named, Arguments, NoArguments, With, arguments_of, Command, IsStep}
use Rattle.sp_script_text.specs.code.Words.{is_solid, word_of, after_word, after_space, trimmed, is_word, more_rule_named, rule_named}
use Rattle.sp_script_text.specs.code.Arguments.{formula_of, hypothesis_of, last_formula, last_int, last_hypothesis, next_number, int_and_number, memory_and_number, memory_and_int, two_hypotheses, hypothesis_and_int, number_and_int, named_of}
use Rattle.sp_script_text.specs.code.Stepping.{alone, simp, side_named, side, cases_by, cases, linear, step_of, command_step, line_step}
use Rattle.sp_script_text.proofs.WordLemmas.{trimmed_again, trimmed_is, word_again, after_word_again, word_alone, after_word_alone}
use Rattle.sp_script_text.proofs.SolidLemmas.{solid_text, solid_hypothesis}
use Rattle.sp_script_text.proofs.TermLemmas.{formula_of_is, formula_of_again, hypothesis_of_is, hypothesis_of_again}
use Rattle.sp_script_text.proofs.SpaceLemmas.{space_is, space_again, After, Rest, Next, with_next, next_parts, next_last, last_next, after_some}
use Rattle.sp_script_text.proofs.ArgumentLemmas.{last_formula_is, last_formula_again, last_int_is, last_int_again, last_hypothesis_is, last_hypothesis_again, next_number_is, next_number_again, two_hypotheses_is, two_hypotheses_again, hypothesis_and_int_is, hypothesis_and_int_again, number_and_int_is, number_and_int_again, int_and_number_is, int_and_number_again, memory_and_number_is, memory_and_number_again}
use Rattle.sp_script_text.proofs.MemoryLemmas.{memory_and_int_is, memory_and_int_again}
use Rattle.sp_script_text.proofs.ListLemmas.{named_is, named_again, rewrite_is, rewrite_again_goal, rewrite_again_goal_back, rewrite_again, rewrite_again_back, Within}
use Rattle.sp_script_text.proofs.CommandLemmas.{name_solid, command_solid, hypothesis_no_formula}

-- ---- the names of rules

named_next : (word name : List ℕ) (r : Rule) (rest : Option Rule) (w : Rule) → name_of r ≡ name → (rest ≡ Some w → word ≡ name_of w) → cond (is_word word name) (Some r) rest ≡ Some w → word ≡ name_of w
named_next word name r rest w same next e =
    chosen (word ≡ name_of w) (is_word word name) (Some r) rest (Some w) e (λ h is. word_is word name h ∙ sym same ∙ ap name_of (some_is r w is)) (λ h is. next is)

more_named_is : (word : List ℕ) (w : Rule) → more_rule_named word ≡ Some w → word ≡ name_of w
unfolding more_rule_named
more_named_is word w e =
    named_next word (codes "pick") rule.Pick _ w refl
    (named_next word (codes "induct") rule.Induct _ w refl
    (named_next word (codes "rewrite") rule.Rewrite _ w refl
    (named_next word (codes "divmod") rule.DivMod _ w refl
    (named_next word (codes "range") rule.Range _ w refl
    (named_next word (codes "read") rule.Read _ w refl
    (named_next word (codes "rom") rule.Rom _ w refl
    (named_next word (codes "frame") rule.Frame _ w refl
    (named_next word (codes "bits") rule.Bits _ w refl
    (named_next word (codes "bitof") rule.BitOf _ w refl
    (named_next word (codes "choose") rule.Choose _ w refl
    (named_next word (codes "empty") rule.Empty _ w refl
    (named_next word (codes "last") rule.Last _ w refl
    (named_next word (codes "over") rule.Over _ w refl
    (λ none. absurd cc)))))))))))))) e

named_rule_is : (word : List ℕ) (w : Rule) → rule_named word ≡ Some w → word ≡ name_of w
unfolding rule_named
named_rule_is word w e =
    named_next word (codes "linear") rule.Linear _ w refl
    (named_next word (codes "cut") rule.Cut _ w refl
    (named_next word (codes "use") rule.UseBoth _ w refl
    (named_next word (codes "close") rule.Close _ w refl
    (named_next word (codes "split") rule.Split _ w refl
    (named_next word (codes "simp") rule.Simp _ w refl
    (named_next word (codes "intro") rule.Intro _ w refl
    (named_next word (codes "side") rule.Side _ w refl
    (named_next word (codes "unpack") rule.Unpack _ w refl
    (named_next word (codes "cases") rule.Cases _ w refl
    (named_next word (codes "fix") rule.Fix _ w refl
    (named_next word (codes "at") rule.At _ w refl
    (named_next word (codes "give") rule.Give _ w refl
    (more_named_is word w))))))))))))) e

named_rule_again : (r : Rule) → rule_named (name_of r) ≡ Some r
unfolding rule_named more_rule_named
named_rule_again rule.Close = refl
named_rule_again rule.Simp = refl
named_rule_again rule.Split = refl
named_rule_again rule.Intro = refl
named_rule_again rule.Side = refl
named_rule_again rule.Unpack = refl
named_rule_again rule.UseBoth = refl
named_rule_again rule.Cases = refl
named_rule_again rule.Cut = refl
named_rule_again rule.Fix = refl
named_rule_again rule.At = refl
named_rule_again rule.Give = refl
named_rule_again rule.Pick = refl
named_rule_again rule.Induct = refl
named_rule_again rule.Rewrite = refl
named_rule_again rule.Linear = refl
named_rule_again rule.DivMod = refl
named_rule_again rule.Range = refl
named_rule_again rule.Read = refl
named_rule_again rule.Rom = refl
named_rule_again rule.Frame = refl
named_rule_again rule.Bits = refl
named_rule_again rule.BitOf = refl
named_rule_again rule.Choose = refl
named_rule_again rule.Empty = refl
named_rule_again rule.Last = refl
named_rule_again rule.Over = refl

-- ---- the step of a rule with arguments

-- the step is of this rule, and the text has its arguments
record Has (r : Rule) (text : List ℕ) (step : Step) : Type 0 where
  rule_is : rule_of step ≡ r
  arguments : Rest (arguments_of step) text

has : (r : Rule) (text : List ℕ) (step : Step) → rule_of step ≡ r → Rest (arguments_of step) text → Has r text step
has r text step e h = record { rule_is = e; arguments = h }

made : {A : Type 0} (o : Option A) (make : A → Step) (r : Rule) (text : List ℕ) (step : Step)
    → ((a : A) → o ≡ Some a → Has r text (make a)) → (o >>= λ a. Some (make a)) ≡ Some step → Has r text step
made o make r text step holds e =
    let b = bind_some o (λ a. Some (make a)) step e in
    subst (Has r text) (some_is (make b.0) step b.2) (holds b.0 b.1)

alone_is : (r : Rule) (one : Step) → rule_of one ≡ r → arguments_of one ≡ NoArguments → (text : List ℕ) (step : Step) → alone one text ≡ Some step → Has r text step
alone_is r one e none [] step u = subst (Has r []) (some_is one step u) (has r [] one e (subst (λ o. Rest o []) (sym none) refl))
alone_is r one e none (byte ∷ bytes) step u = absurd cc

simp_is : (text : List ℕ) (step : Step) → simp text ≡ Some step → Has rule.Simp text step
simp_is [] step u = subst (Has rule.Simp []) (some_is (Simp None) step u) (has rule.Simp [] (Simp None) refl refl)
simp_is (byte ∷ bytes) step u =
    made (last_hypothesis (byte ∷ bytes)) (λ k. Simp (Some k)) rule.Simp (byte ∷ bytes) step
    (λ k e. has rule.Simp (byte ∷ bytes) (Simp (Some k)) refl (last_hypothesis_is (byte ∷ bytes) k e)) u

with_side : (text : List ℕ) (step : Step) → rule_of step ≡ rule.Side → (name : List ℕ) → arguments_of step ≡ With (Token name) → After (Token name) text → Has rule.Side text step
with_side text step e name same h = has rule.Side text step e (subst (λ o. Rest o text) (sym same) h)

side_is : (text : List ℕ) (step : Step) → side text ≡ Some step → Has rule.Side text step
unfolding side
side_is text step u =
    let b = bind_some (after_space text) side_named step u in
    let g = space_is text b.0 b.1 in
    let found : (name : List ℕ) → is_word b.0 name ≡ true → After (Token name) text = λ name h. record { blanks = g.blanks; back = b.0; whole = g.whole; blank = g.blank; some = g.some; is = word_is b.0 name h } in
    chosen (Has rule.Side text step) (is_word b.0 (codes "left")) (Some SideLeft) _ (Some step) b.2
    (λ h is. subst (Has rule.Side text) (some_is SideLeft step is) (with_side text SideLeft refl (codes "left") refl (found (codes "left") h)))
    (λ h is. chosen (Has rule.Side text step) (is_word b.0 (codes "right")) (Some SideRight) None (Some step) is
    (λ g is. subst (Has rule.Side text) (some_is SideRight step is) (with_side text SideRight refl (codes "right") refl (found (codes "right") g)))
    (λ g is. absurd cc))

cases_is : (text : List ℕ) (step : Step) → cases text ≡ Some step → Has rule.Cases text step
unfolding cases
cases_is text step u =
    let b = bind_some (after_space text) (λ rest. cases_by rest (hypothesis_of rest)) step u in
    let g = space_is text b.0 b.1 in
    by b.0 (hypothesis_of b.0) refl (λ X h. record { blanks = g.blanks; back = b.0; whole = g.whole; blank = g.blank; some = g.some; is = h }) b.2
  where
    by : (rest : List ℕ) (o : Option ℕ) → hypothesis_of rest ≡ o → ((X : Form) → X rest → After X text) → cases_by rest o ≡ Some step → Has rule.Cases text step
    by rest (Some k) e after is = subst (Has rule.Cases text) (some_is (CasesOf k) step is) (has rule.Cases text (CasesOf k) refl (after (Hypothesis k) (hypothesis_of_is rest k e)))
    by rest None e after is =
        made (formula_of rest) CasesBy rule.Cases text step (λ p f. has rule.Cases text (CasesBy p) refl (after (Term Formula p) (formula_of_is rest p f))) is

linear_with : (n : ℤ) (named : List (ℤ × ℕ)) (text rest : List ℕ) → Next (Number n) text rest → Within named rest → Rest (arguments_of (Linear n named)) text
linear_with n [] text rest h g = next_last (Number n) text (subst (Next (Number n) text) g h)
linear_with n (first ∷ named) text rest h g = with_next (Number n) (Named first named) text rest h g

linear_is : (text : List ℕ) (step : Step) → linear text ≡ Some step → Has rule.Linear text step
unfolding linear
linear_is text step u =
    let b = bind_some (next_number text) (λ first. named_of first.1 >>= λ named. Some (Linear first.0 named)) step u in
    let c = bind_some (named_of b.0.1) (λ named. Some (Linear b.0.0 named)) step b.2 in
    subst (Has rule.Linear text) (some_is (Linear b.0.0 c.0) step c.2)
    (has rule.Linear text (Linear b.0.0 c.0) refl (linear_with b.0.0 c.0 text b.0.1 (next_number_is text b.0 b.1) (named_is (length b.0.1 + 1) b.0.1 c.0 c.1)))

step_is : (r : Rule) (text : List ℕ) (step : Step) → step_of r text ≡ Some step → Has r text step
step_is rule.Close text step u = made (last_hypothesis text) Close _ text step (λ k e. has _ text (Close k) refl (last_hypothesis_is text k e)) u
step_is rule.Simp text step u = simp_is text step u
step_is rule.Split text step u = alone_is rule.Split Split refl refl text step u
step_is rule.Intro text step u = alone_is rule.Intro Intro refl refl text step u
step_is rule.Side text step u = side_is text step u
step_is rule.Unpack text step u = made (last_hypothesis text) Unpack _ text step (λ k e. has _ text (Unpack k) refl (last_hypothesis_is text k e)) u
step_is rule.UseBoth text step u = made (two_hypotheses text) (λ p. UseBoth p.0 p.1) _ text step (λ p e. has _ text (UseBoth p.0 p.1) refl (two_hypotheses_is text p e)) u
step_is rule.Cases text step u = cases_is text step u
step_is rule.Cut text step u = made (last_formula text) Cut _ text step (λ p e. has _ text (Cut p) refl (last_formula_is text p e)) u
step_is rule.Fix text step u = alone_is rule.Fix Fix refl refl text step u
step_is rule.At text step u = made (hypothesis_and_int text) (λ p. At p.0 p.1) _ text step (λ p e. has _ text (At p.0 p.1) refl (hypothesis_and_int_is text p e)) u
step_is rule.Give text step u = made (last_int text) Give _ text step (λ x e. has _ text (Give x) refl (last_int_is text x e)) u
step_is rule.Pick text step u = made (last_hypothesis text) Pick _ text step (λ k e. has _ text (Pick k) refl (last_hypothesis_is text k e)) u
step_is rule.Induct text step u = alone_is rule.Induct Induct refl refl text step u
step_is rule.Rewrite text step u = let h = rewrite_is text step u in has rule.Rewrite text step h.0 h.1
step_is rule.Linear text step u = linear_is text step u
step_is rule.DivMod text step u = made (int_and_number text) (λ p. DivMod p.0 p.1) _ text step (λ p e. has _ text (DivMod p.0 p.1) refl (int_and_number_is text p e)) u
step_is rule.Range text step u = made (last_int text) Range _ text step (λ x e. has _ text (Range x) refl (last_int_is text x e)) u
step_is rule.Read text step u = made (last_int text) Read _ text step (λ x e. has _ text (Read x) refl (last_int_is text x e)) u
step_is rule.Rom text step u = made (memory_and_number text) (λ p. Rom p.0 p.1) _ text step (λ p e. has _ text (Rom p.0 p.1) refl (memory_and_number_is text p e)) u
step_is rule.Frame text step u = made (memory_and_int text) (λ p. Frame p.0 p.1) _ text step (λ p e. has _ text (Frame p.0 p.1) refl (memory_and_int_is text p e)) u
step_is rule.Bits text step u = made (last_int text) Bits _ text step (λ x e. has _ text (Bits x) refl (last_int_is text x e)) u
step_is rule.BitOf text step u = made (number_and_int text) (λ p. BitOf p.0 p.1) _ text step (λ p e. has _ text (BitOf p.0 p.1) refl (number_and_int_is text p e)) u
step_is rule.Choose text step u = made (last_int text) Choose _ text step (λ x e. has _ text (Choose x) refl (last_int_is text x e)) u
step_is rule.Empty text step u = made (last_int text) Empty _ text step (λ x e. has _ text (Empty x) refl (last_int_is text x e)) u
step_is rule.Last text step u = made (last_int text) Last _ text step (λ x e. has _ text (Last x) refl (last_int_is text x e)) u
step_is rule.Over text step u = made (last_int text) Over _ text step (λ x e. has _ text (Over x) refl (last_int_is text x e)) u

-- ---- again

token_space : (name : List ℕ) (text : List ℕ) → stops is_blank name ≡ true → After (Token name) text → after_space text ≡ Some name
token_space name text begins h = ap after_space h.whole ∙ ap (λ w. after_space (h.blanks ++ w)) h.is ∙ space_again h.blanks name h.blank h.some begins

side_again : (text name : List ℕ) (step : Step) → stops is_blank name ≡ true → side_named name ≡ Some step → After (Token name) text → side text ≡ Some step
unfolding side
side_again text name step begins e h = ap (λ o. o >>= side_named) (token_space name text begins h) ∙ e

simp_again : (k : ℕ) (text : List ℕ) → After (Hypothesis k) text → simp text ≡ Some (Simp (Some k))
simp_again k [] h = absurd (after_some (Hypothesis k) h)
simp_again k (byte ∷ bytes) h = ap (λ o. o >>= λ k. Some (Simp (Some k))) (last_hypothesis_again (byte ∷ bytes) k h)

cases_of_again : (k : ℕ) (text : List ℕ) → After (Hypothesis k) text → cases text ≡ Some (CasesOf k)
unfolding cases
cases_of_again k text h =
    ap (λ w. after_space w >>= λ rest. cases_by rest (hypothesis_of rest)) h.whole
    ∙ ap (λ o. o >>= λ rest. cases_by rest (hypothesis_of rest)) (space_again h.blanks h.back h.blank h.some (solid_hypothesis k h.back h.is).begins)
    ∙ ap (cases_by h.back) (hypothesis_of_again h.back k h.is)

-- a formula is no hypothesis
no_hypothesis : (text : List ℕ) (p : Tree) → Term Formula p text → hypothesis_of text ≡ None
no_hypothesis text p h = by (hypothesis_of text) refl
  where
    by : (o : Option ℕ) → hypothesis_of text ≡ o → o ≡ None
    by None e = refl
    by (Some k) e = absurd (hypothesis_no_formula text k p (hypothesis_of_is text k e) h)

cases_by_again : (p : Tree) (text : List ℕ) → After (Term Formula p) text → cases text ≡ Some (CasesBy p)
unfolding cases
cases_by_again p text h =
    ap (λ w. after_space w >>= λ rest. cases_by rest (hypothesis_of rest)) h.whole
    ∙ ap (λ o. o >>= λ rest. cases_by rest (hypothesis_of rest)) (space_again h.blanks h.back h.blank h.some (solid_text h.back p h.is.0).begins)
    ∙ ap (cases_by h.back) (no_hypothesis h.back p h.is)
    ∙ ap (λ o. o >>= λ p. Some (CasesBy p)) (formula_of_again h.back p h.is)

linear_from : (n : ℤ) (named : List (ℤ × ℕ)) (text rest : List ℕ) → Next (Number n) text rest → Within named rest → linear text ≡ Some (Linear n named)
unfolding linear
linear_from n named text rest h g =
    ap (λ o. o >>= λ first. named_of first.1 >>= λ named. Some (Linear first.0 named)) (next_number_again text n rest h)
    ∙ ap (λ o. o >>= λ named. Some (Linear n named)) (named_again (length rest + 1) named rest (omega arith) g)

linear_again : (n : ℤ) (named : List (ℤ × ℕ)) (text : List ℕ) → Rest (arguments_of (Linear n named)) text → linear text ≡ Some (Linear n named)
linear_again n [] text h = linear_from n [] text [] (last_next (Number n) text h) refl
linear_again n (first ∷ named) text h =
    let a = next_parts (Number n) (Named first named) text h in linear_from n (first ∷ named) text a.rest a.next a.after

alone_again : (step : Step) (text : List ℕ) → text ≡ [] → alone step text ≡ Some step
alone_again step text e = ap (alone step) e

step_again : (step : Step) (text : List ℕ) → Rest (arguments_of step) text → step_of (rule_of step) text ≡ Some step
step_again (Close k) text h = ap (λ o. o >>= λ k. Some (Close k)) (last_hypothesis_again text k h)
step_again (Simp None) text h = ap simp h
step_again (Simp (Some k)) text h = simp_again k text h
step_again Split text h = alone_again Split text h
step_again Intro text h = alone_again Intro text h
step_again SideLeft text h = side_again text (codes "left") SideLeft refl refl h
step_again SideRight text h = side_again text (codes "right") SideRight refl refl h
step_again (Unpack k) text h = ap (λ o. o >>= λ k. Some (Unpack k)) (last_hypothesis_again text k h)
step_again (UseBoth k j) text h = ap (λ o. o >>= λ p. Some (UseBoth p.0 p.1)) (two_hypotheses_again text k j h)
step_again (CasesOf k) text h = cases_of_again k text h
step_again (CasesBy p) text h = cases_by_again p text h
step_again (Cut p) text h = ap (λ o. o >>= λ p. Some (Cut p)) (last_formula_again text p h)
step_again Fix text h = alone_again Fix text h
step_again (At k x) text h = ap (λ o. o >>= λ p. Some (At p.0 p.1)) (hypothesis_and_int_again text k x h)
step_again (Give x) text h = ap (λ o. o >>= λ x. Some (Give x)) (last_int_again text x h)
step_again (Pick k) text h = ap (λ o. o >>= λ k. Some (Pick k)) (last_hypothesis_again text k h)
step_again Induct text h = alone_again Induct text h
step_again (Rewrite k None false) text h = rewrite_again_goal k text h
step_again (Rewrite k None true) text h = rewrite_again_goal_back k text h
step_again (Rewrite k (Some j) false) text h = rewrite_again k j text h
step_again (Rewrite k (Some j) true) text h = rewrite_again_back k j text h
step_again (Linear n named) text h = linear_again n named text h
step_again (DivMod x c) text h = ap (λ o. o >>= λ p. Some (DivMod p.0 p.1)) (int_and_number_again text x c h)
step_again (Range x) text h = ap (λ o. o >>= λ x. Some (Range x)) (last_int_again text x h)
step_again (Read x) text h = ap (λ o. o >>= λ x. Some (Read x)) (last_int_again text x h)
step_again (Rom m c) text h = ap (λ o. o >>= λ p. Some (Rom p.0 p.1)) (memory_and_number_again text m c h)
step_again (Frame m x) text h = ap (λ o. o >>= λ p. Some (Frame p.0 p.1)) (memory_and_int_again text m x h)
step_again (Bits x) text h = ap (λ o. o >>= λ x. Some (Bits x)) (last_int_again text x h)
step_again (BitOf k x) text h = ap (λ o. o >>= λ p. Some (BitOf p.0 p.1)) (number_and_int_again text k x h)
step_again (Choose x) text h = ap (λ o. o >>= λ x. Some (Choose x)) (last_int_again text x h)
step_again (Empty x) text h = ap (λ o. o >>= λ x. Some (Empty x)) (last_int_again text x h)
step_again (Last x) text h = ap (λ o. o >>= λ x. Some (Last x)) (last_int_again text x h)
step_again (Over x) text h = ap (λ o. o >>= λ x. Some (Over x)) (last_int_again text x h)

-- ---- lines

-- a text is a name and what follows it
command_at : (name text : List ℕ) (o : Arguments) → text ≡ name ++ after_word text → Rest o (after_word text) → Command name o text
command_at name text NoArguments whole h = whole ∙ ap (λ w. name ++ w) h ∙ append-nil name
command_at name text (With Y) whole h = record {
  front = name;
  blanks = h.blanks;
  back = h.back;
  whole = whole ∙ ap (λ w. name ++ w) h.whole;
  blank = h.blank;
  some = h.some;
  in_front = refl;
  in_back = h.is;
}

command_is : (text : List ℕ) (step : Step) → command_step text ≡ Some step → Command (name_of (rule_of step)) (arguments_of step) text
unfolding command_step
command_is text step e =
    let b = bind_some (rule_named (word_of text)) (λ r. step_of r (after_word text)) step e in
    let h = step_is b.0 (after_word text) step b.2 in
    let name : word_of text ≡ name_of (rule_of step) = named_rule_is (word_of text) b.0 b.1 ∙ ap name_of (sym h.rule_is) in
    command_at (name_of (rule_of step)) text (arguments_of step) (parts_of is_solid text ∙ ap (λ w. w ++ after_word text) name) h.arguments

pub line_is : (line : List ℕ) (step : Step) → line_step line ≡ Some step → IsStep step line
unfolding line_step
line_is line step e =
    let t = trimmed_is line in
    record { before = t.before; inner = trimmed line; after = t.after; whole = t.whole; blank = t.blank; blank_after = t.blank_after; is = command_is (trimmed line) step e }

-- what the reader finds of a command
record Heads (name text : List ℕ) (o : Arguments) : Type 0 where
  word : word_of text ≡ name
  rest : Rest o (after_word text)

heads : (name text : List ℕ) (o : Arguments) → list_all is_solid name ≡ true → Command name o text → Heads name text o
heads name text NoArguments solid h = record {
  word = ap word_of h ∙ word_alone name solid;
  rest = ap after_word h ∙ after_word_alone name solid;
}
heads name text (With Y) solid h =
    let whole : text ≡ name ++ (h.blanks ++ h.back) = h.whole ∙ ap (λ w. w ++ (h.blanks ++ h.back)) h.in_front in
    let after : after_word text ≡ h.blanks ++ h.back = ap after_word whole ∙ after_word_again name h.blanks h.back solid h.blank h.some in
    record {
      word = ap word_of whole ∙ word_again name h.blanks h.back solid h.blank h.some;
      rest = record { blanks = h.blanks; back = h.back; whole = after; blank = h.blank; some = h.some; is = h.in_back };
    }

command_again : (text : List ℕ) (step : Step) → Command (name_of (rule_of step)) (arguments_of step) text → command_step text ≡ Some step
unfolding command_step
command_again text step h =
    let g = heads (name_of (rule_of step)) text (arguments_of step) (name_solid (rule_of step)).0 h in
    ap (λ w. rule_named w >>= λ r. step_of r (after_word text)) g.word
    ∙ ap (λ o. o >>= λ r. step_of r (after_word text)) (named_rule_again (rule_of step))
    ∙ step_again step (after_word text) g.rest

pub line_again : (line : List ℕ) (step : Step) → IsStep step line → line_step line ≡ Some step
unfolding line_step
line_again line step h =
    ap (λ w. command_step (trimmed w)) h.whole
    ∙ ap command_step (trimmed_again h.before h.inner h.after (command_solid step h.inner h.is) h.blank h.blank_after)
    ∙ command_again h.inner step h.is

pub line_none : (line : List ℕ) → line_step line ≡ None → (step : Step) → IsStep step line → ⊥
line_none line e step h = let is = line_again line step h in absurd cc

-- a line is one step at most
pub one_step : (line : List ℕ) (step other : Step) → IsStep step line → IsStep other line → step ≡ other
one_step line step other h g = some_is step other (sym (line_again line step h) ∙ line_again line other g)

-- a refusal of the reader
pub refused_line : (result : Result declared.Step StepRefusal) (line : List ℕ) → Gives seen result (line_step line) → IfErr result (λ e. e ≡ refusal.Syntax → (step : Step) → IsStep step line → ⊥)
refused_line (Ok step) line h = tt
refused_line (Err refusal.Syntax) line h = λ e step is. line_none line h step is
refused_line (Err refusal.Memory) line h = λ e. absurd cc
