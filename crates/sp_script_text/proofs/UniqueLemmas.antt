-- A text has one reading: it is a file of scripts in one way, or is refused at one line in one way.
use Rattle.std.proofs.Common.{◌≡◌, ℕ, suc, ◌+◌, ◌<◌, ◌≤◌, true, false, cond, List, [], ◌∷◌, ◌++◌, length, Option, Some, None, Result, Ok, Err, refl, sym, ap, subst, ◌∙◌, arith, length-append, append_assoc, inl, inr}
use Rattle.std.specs.Prelude.{codes}
use Rattle.std.specs.List.{list_all, AllByRecursion}
use Rattle.std.proofs.lemmas.Bool.{and_parts, false_from_ne_true}
use Rattle.std.proofs.lemmas.List.{append-nil}
use Rattle.sp_base.specs.Lines.{lines}
use Rattle.sp_fdl.specs.Text.{is_blank, Form}
use Rattle.sp_script_text.specs.declared.rule.Rule.{Rule}
use Rattle.sp_script_text.specs.declared.rule.Rule.TheVariants as rule
use Rattle.sp_script_text.specs.declared.script.Title.{Title}
use Rattle.sp_script_text.specs.declared.script.Written.{Written}
use Rattle.sp_script_text.specs.declared.script.Script.{Script}
use Rattle.sp_script_text.specs.declared.refusal.ScriptKind.{ScriptKind}
use Rattle.sp_script_text.specs.declared.refusal.ScriptKind.TheVariants as kind
use Rattle.sp_script_text.specs.Rules.{name_of}
use Rattle.sp_script_text.specs.Steps.{Step, rule_of}
use Rattle.sp_script_text.specs.StepTexts.{Around, Arguments, NoArguments, With, arguments_of, Command, IsStepLine}
use Rattle.sp_script_text.specs.Files.{IsIdle, IsHead, IsEnd, written, AreSteps, IsScript, AreScripts, Names, NoneTwice, IsFile, IsOpen, BreaksOutside, BreaksInside, IsUnended, BreaksGrammar, Outside, Inside, Unended, IsSecondOf, IsCause}
use Rattle.sp_script_text.specs.code.Words.{trimmed, rule_named, more_rule_named}
use Rattle.sp_script_text.specs.code.Stepping.{line_step, command_step}
use Rattle.sp_script_text.specs.code.Lines.{is_idle, head_title, is_end}
use Rattle.sp_script_text.proofs.StepLemmas.{line_again, line_is}
use Rattle.sp_script_text.proofs.LineLemmas.{idle_is, idle_again, end_is, end_again, head_is, head_again}
use Rattle.sp_fdl.proofs.NameLemmas.{word_is}

-- ---- a line is of one kind

-- it begins with a letter, after blanks
record Lettered (line : List ℕ) : Type 0 where
  before : List ℕ
  first : ℕ
  rest : List ℕ
  whole : line ≡ before ++ first ∷ rest
  blank : list_all is_blank before ≡ true
  letter : 97 ≤ first

blank_low : (byte : ℕ) → is_blank byte ≡ true → byte < 45
blank_low byte h = grind arith

blank_letter : (byte : ℕ) → is_blank byte ≡ true → 97 ≤ byte → ⊥
blank_letter byte h letter = absurd (omega (arith, blank_low byte h))

no_blank_line : (before : List ℕ) (first : ℕ) (rest : List ℕ) → 97 ≤ first → list_all is_blank (before ++ first ∷ rest) ≡ true → ⊥
no_blank_line [] first rest letter h = blank_letter first (and_parts (is_blank first) (list_all is_blank rest) h).0 letter
no_blank_line (b ∷ before) first rest letter h = no_blank_line before first rest letter (and_parts (is_blank b) (list_all is_blank (before ++ first ∷ rest)) h).1

head_byte : List ℕ → ℕ
head_byte [] = 0
head_byte (byte ∷ bytes) = byte

no_comment : (before : List ℕ) (first : ℕ) (rest comment : List ℕ) → list_all is_blank before ≡ true → 97 ≤ first → before ++ first ∷ rest ≡ 45 ∷ 45 ∷ comment → ⊥
unfolding head_byte
no_comment [] first rest comment blank letter e = absurd (omega (arith, ap head_byte e))
no_comment (b ∷ before) first rest comment blank letter e =
    let low = blank_low b (and_parts (is_blank b) (list_all is_blank before) blank).0 in
    absurd (omega (arith, ap head_byte e, low))

lettered_no_idle : (line : List ℕ) → Lettered line → IsIdle line → ⊥
lettered_no_idle line h (inl blank) = no_blank_line h.before h.first h.rest h.letter (ap (list_all is_blank) (sym h.whole) ∙ blank)
lettered_no_idle line h (inr comment) = no_comment h.before h.first h.rest comment.0 h.blank h.letter (sym h.whole ∙ comment.1)

-- a text that begins with a letter, in a line
record Starts (text : List ℕ) : Type 0 where
  first : ℕ
  rest : List ℕ
  whole : text ≡ first ∷ rest
  letter : 97 ≤ first

lettered : (Inner : Form) (line : List ℕ) (h : Around Inner line) → Starts h.inner → Lettered line
lettered Inner line h s = record {
  before = h.before;
  first = s.first;
  rest = s.rest ++ h.after;
  whole = h.whole ∙ ap (λ w. h.before ++ (w ++ h.after)) s.whole;
  blank = h.blank;
  letter = s.letter;
}

starts_more : (text more whole : List ℕ) → whole ≡ text ++ more → Starts text → Starts whole
starts_more text more whole e s = record { first = s.first; rest = s.rest ++ more; whole = e ∙ ap (λ w. w ++ more) s.whole; letter = s.letter }

name_starts : (r : Rule) → Starts (name_of r)
name_starts rule.Close = record { first = 99; rest = codes "lose"; whole = refl; letter = omega arith }
name_starts rule.Simp = record { first = 115; rest = codes "imp"; whole = refl; letter = omega arith }
name_starts rule.Split = record { first = 115; rest = codes "plit"; whole = refl; letter = omega arith }
name_starts rule.Intro = record { first = 105; rest = codes "ntro"; whole = refl; letter = omega arith }
name_starts rule.Side = record { first = 115; rest = codes "ide"; whole = refl; letter = omega arith }
name_starts rule.Unpack = record { first = 117; rest = codes "npack"; whole = refl; letter = omega arith }
name_starts rule.UseBoth = record { first = 117; rest = codes "se"; whole = refl; letter = omega arith }
name_starts rule.Cases = record { first = 99; rest = codes "ases"; whole = refl; letter = omega arith }
name_starts rule.Cut = record { first = 99; rest = codes "ut"; whole = refl; letter = omega arith }
name_starts rule.Fix = record { first = 102; rest = codes "ix"; whole = refl; letter = omega arith }
name_starts rule.At = record { first = 97; rest = codes "t"; whole = refl; letter = omega arith }
name_starts rule.Give = record { first = 103; rest = codes "ive"; whole = refl; letter = omega arith }
name_starts rule.Pick = record { first = 112; rest = codes "ick"; whole = refl; letter = omega arith }
name_starts rule.Induct = record { first = 105; rest = codes "nduct"; whole = refl; letter = omega arith }
name_starts rule.Rewrite = record { first = 114; rest = codes "ewrite"; whole = refl; letter = omega arith }
name_starts rule.Linear = record { first = 108; rest = codes "inear"; whole = refl; letter = omega arith }
name_starts rule.DivMod = record { first = 100; rest = codes "ivmod"; whole = refl; letter = omega arith }
name_starts rule.Range = record { first = 114; rest = codes "ange"; whole = refl; letter = omega arith }
name_starts rule.Read = record { first = 114; rest = codes "ead"; whole = refl; letter = omega arith }
name_starts rule.Rom = record { first = 114; rest = codes "om"; whole = refl; letter = omega arith }
name_starts rule.Frame = record { first = 102; rest = codes "rame"; whole = refl; letter = omega arith }
name_starts rule.Bits = record { first = 98; rest = codes "its"; whole = refl; letter = omega arith }
name_starts rule.BitOf = record { first = 98; rest = codes "itof"; whole = refl; letter = omega arith }
name_starts rule.Choose = record { first = 99; rest = codes "hoose"; whole = refl; letter = omega arith }
name_starts rule.Empty = record { first = 101; rest = codes "mpty"; whole = refl; letter = omega arith }
name_starts rule.Last = record { first = 108; rest = codes "ast"; whole = refl; letter = omega arith }
name_starts rule.Over = record { first = 111; rest = codes "ver"; whole = refl; letter = omega arith }

command_starts : (name text : List ℕ) (o : Arguments) → Starts name → Command name o text → Starts text
command_starts name text NoArguments s h = subst Starts (sym h) s
command_starts name text (With Y) s h = starts_more name (h.blanks ++ h.back) text (h.whole ∙ ap (λ w. w ++ (h.blanks ++ h.back)) h.in_front) s

step_not_idle : (line : List ℕ) → IsStepLine line → IsIdle line → ⊥
step_not_idle line h =
    lettered_no_idle line (lettered _ line h.1 (command_starts (name_of (rule_of h.0)) h.1.inner (arguments_of h.0) (name_starts (rule_of h.0)) h.1.is))

script_starts : Starts (codes "script")
script_starts = record { first = 115; rest = codes "cript"; whole = refl; letter = omega arith }

end_starts : Starts (codes "end")
end_starts = record { first = 101; rest = codes "nd"; whole = refl; letter = omega arith }

head_not_idle : (line : List ℕ) (title : Title) → IsHead title line → IsIdle line → ⊥
head_not_idle line title h =
    lettered_no_idle line (lettered _ line h (starts_more (codes "script") (h.is.blanks ++ h.is.back) h.inner (h.is.whole ∙ ap (λ w. w ++ (h.is.blanks ++ h.is.back)) h.is.in_front) script_starts))

end_not_idle : (line : List ℕ) → IsEnd line → IsIdle line → ⊥
end_not_idle line h = lettered_no_idle line (lettered _ line h (subst Starts (sym h.is) end_starts))

end_no_step : command_step (codes "end") ≡ None
unfolding command_step rule_named more_rule_named
end_no_step = refl

end_not_step : (line : List ℕ) → IsEnd line → IsStepLine line → ⊥
unfolding is_end line_step
end_not_step line h step =
    let e : trimmed line ≡ codes "end" = word_is (trimmed line) (codes "end") (end_again line h) in
    let clash : Some step.0 ≡ None = sym (line_again line step.0 step.1) ∙ ap command_step e ∙ end_no_step in
    absurd cc

not_idle : (line : List ℕ) → (IsIdle line → ⊥) → is_idle line ≡ false
not_idle line h = false_from_ne_true (is_idle line) (λ e. h (idle_is line e))

not_end : (line : List ℕ) → (IsEnd line → ⊥) → is_end line ≡ false
not_end line h = false_from_ne_true (is_end line) (λ e. h (end_is line e))

no_head : (line : List ℕ) → ((title : Title) → IsHead title line → ⊥) → head_title line ≡ None
no_head line h = by (head_title line) refl
  where
    by : (o : Option Title) → head_title line ≡ o → o ≡ None
    by None e = refl
    by (Some title) e = absurd (h title (head_is line title e))

no_step : (line : List ℕ) → (IsStepLine line → ⊥) → line_step line ≡ None
no_step line h = by (line_step line) refl
  where
    by : (o : Option Step) → line_step line ≡ o → o ≡ None
    by None e = refl
    by (Some step) e = absurd (h (step, line_is line step e))

-- ---- the reading of lines as a function

abbrev Rows : Type 0
Rows = List (List ℕ)

-- between scripts, or in one: its condition, the number of its first line, and its steps so far
data Place : Type 0 where
  Between : Place
  Within : Title → ℕ → List Written → Place

abbrev Answer : Type 0
Answer = Result (List Script) ℕ

abbrev in_front : Script → Answer → Answer
in_front s (Ok ss) = Ok (s ∷ ss)
in_front s (Err line) = Err line

abbrev begun : ℕ → Option Title → (Title → Answer) → Answer
begun n None more = Err n
begun n (Some title) more = more title

abbrev stepped : ℕ → Option Step → Answer → Answer
stepped n None more = Err n
stepped n (Some step) more = more

abbrev script : Title → ℕ → List Written → ℕ → Script
script title line steps end = record { title = title; line = record { 0 = line }; steps = steps; end = record { 0 = end } }

walk : ℕ → Place → Rows → Answer
walk n Between [] = Ok []
walk n (Within title first steps) [] = Err n
walk n Between (line ∷ rest) =
    cond (is_idle line) (walk (n + 1) Between rest) (begun n (head_title line) (λ title. walk (n + 1) (Within title n []) rest))
walk n (Within title first steps) (line ∷ rest) =
    cond (is_idle line) (walk (n + 1) (Within title first steps) rest)
    (cond (is_end line) (in_front (script title first steps n) (walk (n + 1) Between rest))
    (stepped n (line_step line) (walk (n + 1) (Within title first (steps ++ written n line ∷ [])) rest)))

-- a line that says nothing
walk_idle : (n : ℕ) (place : Place) (line : List ℕ) (rest : Rows) → IsIdle line → walk n place (line ∷ rest) ≡ walk (n + 1) place rest
unfolding walk
walk_idle n Between line rest idle = rw (idle_again line idle) refl
walk_idle n (Within title first steps) line rest idle = rw (idle_again line idle) refl

walk_end : (n : ℕ) (title : Title) (first : ℕ) (steps : List Written) (line : List ℕ) (rest : Rows) → IsEnd line
    → walk n (Within title first steps) (line ∷ rest) ≡ in_front (script title first steps n) (walk (n + 1) Between rest)
unfolding walk
walk_end n title first steps line rest h = rw (not_idle line (end_not_idle line h), end_again line h) refl

walk_step : (n : ℕ) (title : Title) (first : ℕ) (steps : List Written) (line : List ℕ) (rest : Rows) → IsStepLine line
    → walk n (Within title first steps) (line ∷ rest) ≡ walk (n + 1) (Within title first (steps ++ written n line ∷ [])) rest
unfolding walk
walk_step n title first steps line rest h =
    rw (not_idle line (step_not_idle line h), not_end line (λ e. end_not_step line e h), line_again line h.0 h.1) refl

walk_head : (n : ℕ) (title : Title) (line : List ℕ) (rest : Rows) → IsHead title line → walk n Between (line ∷ rest) ≡ walk (n + 1) (Within title n []) rest
unfolding walk
walk_head n title line rest h = rw (not_idle line (head_not_idle line title h), head_again line title h) refl

walk_number : (n m : ℕ) (place : Place) (rest : Rows) → n ≡ m → walk n place rest ≡ walk m place rest
walk_number n m place rest e = ap (λ k. walk k place rest) e

plus_more : (n m : ℕ) → (n + 1) + m ≡ n + suc m
plus_more n m = omega arith

plus_none : (n : ℕ) → n ≡ n + 0
plus_none n = omega arith

idles : (n : ℕ) (place : Place) (before rest : Rows) → AllByRecursion IsIdle before → walk n place (before ++ rest) ≡ walk (n + length before) place rest
idles n place [] rest h = walk_number n (n + 0) place rest (plus_none n)
idles n place (line ∷ before) rest h =
    walk_idle n place line (before ++ rest) h.0 ∙ idles (n + 1) place before rest h.1
    ∙ walk_number ((n + 1) + length before) (n + suc (length before)) place rest (plus_more n (length before))

steps_on : (n : ℕ) (title : Title) (first : ℕ) (so_far more : List Written) (body rest : Rows) → AreSteps n body more
    → walk n (Within title first so_far) (body ++ rest) ≡ walk (n + length body) (Within title first (so_far ++ more)) rest
steps_on n title first so_far more [] rest h =
    (λ i. walk (plus_none n i) (Within title first (sym (append-nil so_far) i)) rest) ∙ ap (λ ws. walk (n + 0) (Within title first (so_far ++ ws)) rest) (sym h)
steps_on n title first so_far more (line ∷ body) rest (inl h) =
    walk_idle n (Within title first so_far) line (body ++ rest) h.0 ∙ steps_on (n + 1) title first so_far more body rest h.1
    ∙ walk_number ((n + 1) + length body) (n + suc (length body)) (Within title first (so_far ++ more)) rest (plus_more n (length body))
steps_on n title first so_far more (line ∷ body) rest (inr h) =
    walk_step n title first so_far line (body ++ rest) h.1
    ∙ steps_on (n + 1) title first (so_far ++ written n line ∷ []) h.0 body rest h.3
    ∙ (λ i. walk (plus_more n (length body) i) (Within title first (append_assoc so_far (written n line ∷ []) h.0 i)) rest)
    ∙ ap (λ ws. walk (n + suc (length body)) (Within title first (so_far ++ ws)) rest) (sym h.2)

script_is : (s : Script) (title : Title) (first end : ℕ) (steps : List Written) → s.title ≡ title → s.line.0 ≡ first → s.steps ≡ steps → s.end.0 ≡ end → script title first steps end ≡ s
script_is s title first end steps t l w e = λ i. record { title = sym t i; line = record { 0 = sym l i }; steps = sym w i; end = record { 0 = sym e i } }

own_length : (head : List ℕ) (body : Rows) (last : List ℕ) (own : Rows) → own ≡ head ∷ (body ++ last ∷ []) → length own ≡ length body + 2
own_length head body last own e = omega (arith, ap length e, length-append body (last ∷ []))

script_on : (n : ℕ) (own rest : Rows) (s : Script) → IsScript n own s → walk n Between (own ++ rest) ≡ in_front s (walk (n + length own) Between rest)
script_on n own rest s h =
    let end_at : (n + 1) + length h.body ≡ s.end.0 = sym h.end in
    let after : ((n + 1) + length h.body) + 1 ≡ n + length own = omega (arith, own_length h.head h.body h.last own h.whole) in
    ap (λ w. walk n Between (w ++ rest)) h.whole
    ∙ ap (λ w. walk n Between (h.head ∷ w)) (append_assoc h.body (h.last ∷ []) rest)
    ∙ walk_head n s.title h.head (h.body ++ h.last ∷ rest) h.begins
    ∙ steps_on (n + 1) s.title n [] s.steps h.body (h.last ∷ rest) h.steps
    ∙ walk_end ((n + 1) + length h.body) s.title n s.steps h.last rest h.ends
    ∙ ap (λ t. in_front t (walk (((n + 1) + length h.body) + 1) Between rest)) (script_is s s.title n ((n + 1) + length h.body) s.steps refl h.line refl h.end)
    ∙ ap (λ k. in_front s (walk k Between rest)) after

abbrev all_in_front : List Script → Answer → Answer
all_in_front [] a = a
all_in_front (s ∷ ss) a = in_front s (all_in_front ss a)

scripts_on : (n : ℕ) (all rest : Rows) (ss : List Script) → AreScripts n all ss → walk n Between (all ++ rest) ≡ all_in_front ss (walk (n + length all) Between rest)
scripts_on n all rest [] h = idles n Between all rest h
scripts_on n all rest (s ∷ ss) h =
    let length_is : length all ≡ length h.0 + (length h.1 + length h.2) = ap length h.3 ∙ length-append h.0 (h.1 ++ h.2) ∙ ap (λ k. length h.0 + k) (length-append h.1 h.2) in
    let at : ((n + length h.0) + length h.1) + length h.2 ≡ n + length all = omega (arith, length_is) in
    ap (λ w. walk n Between (w ++ rest)) h.3 ∙ ap (walk n Between) (nested h.0 h.1 h.2 rest)
    ∙ idles n Between h.0 (h.1 ++ (h.2 ++ rest)) h.4
    ∙ script_on (n + length h.0) h.1 (h.2 ++ rest) s h.5
    ∙ ap (in_front s) (scripts_on ((n + length h.0) + length h.1) h.2 rest ss h.6)
    ∙ ap (λ k. in_front s (all_in_front ss (walk k Between rest))) at
  where
    nested : (a b c d : Rows) → (a ++ (b ++ c)) ++ d ≡ a ++ (b ++ (c ++ d))
    nested a b c d = simp append_assoc

all_done : (ss : List Script) → all_in_front ss (Ok []) ≡ Ok ss
all_done [] = refl
all_done (s ∷ ss) = ap (in_front s) (all_done ss)

all_err : (ss : List Script) (line : ℕ) → all_in_front ss (Err line) ≡ Err line
all_err [] line = refl
all_err (s ∷ ss) line = ap (in_front s) (all_err ss line)

scripts_walk : (all : Rows) (ss : List Script) → AreScripts 1 all ss → walk 1 Between all ≡ Ok ss
unfolding walk
scripts_walk all ss h = ap (walk 1 Between) (sym (append-nil all)) ∙ scripts_on 1 all [] ss h ∙ all_done ss

outside_walk : (all : Rows) (at : ℕ) → BreaksOutside all at → walk 1 Between all ≡ Err at
unfolding walk
outside_walk all at h =
    let last : walk (1 + length h.above) Between (h.line ∷ h.below) ≡ Err (1 + length h.above) = rw (not_idle h.line h.not_idle, no_head h.line h.not_head) refl in
    ap (walk 1 Between) h.whole ∙ scripts_on 1 h.above (h.line ∷ h.below) h.scripts h.before
    ∙ ap (all_in_front h.scripts) (last ∙ ap (λ k. Err k) (omega (arith, h.place))) ∙ all_err h.scripts at

open_walk : (all rest : Rows) (h : IsOpen all) → walk 1 Between (all ++ rest) ≡ all_in_front h.scripts (walk (1 + length all) (Within h.title (1 + length h.done) h.steps) rest)
open_walk all rest h =
    let n : ℕ = 1 + length h.done in
    let are : AreSteps (n + 1) h.body h.steps = subst (λ k. AreSteps k h.body h.steps) (omega arith) h.are in
    let at : (n + 1) + length h.body ≡ 1 + length all = omega (arith, ap length h.whole, length-append h.done (h.head ∷ h.body)) in
    ap (λ w. walk 1 Between (w ++ rest)) h.whole ∙ ap (walk 1 Between) (append_assoc h.done (h.head ∷ h.body) rest)
    ∙ scripts_on 1 h.done (h.head ∷ (h.body ++ rest)) h.scripts h.before
    ∙ ap (all_in_front h.scripts) (walk_head n h.title h.head (h.body ++ rest) h.begins ∙ steps_on (n + 1) h.title n [] h.steps h.body rest are
    ∙ ap (λ k. walk k (Within h.title n h.steps) rest) at)

inside_walk : (all : Rows) (at : ℕ) → BreaksInside all at → walk 1 Between all ≡ Err at
unfolding walk
inside_walk all at h =
    let o = h.before in
    let n : ℕ = 1 + length h.above in
    let last : walk n (Within o.title (1 + length o.done) o.steps) (h.line ∷ h.below) ≡ Err n =
    rw (not_idle h.line h.not_idle, not_end h.line h.not_end, no_step h.line h.not_step) refl in
    ap (walk 1 Between) h.whole ∙ open_walk h.above (h.line ∷ h.below) o
    ∙ ap (all_in_front o.scripts) (last ∙ ap (λ k. Err k) (omega (arith, h.place))) ∙ all_err o.scripts at

unended_walk : (all : Rows) (at : ℕ) → IsUnended all at → walk 1 Between all ≡ Err at
unfolding walk
unended_walk all at h =
    let o = h.inside in
    ap (walk 1 Between) (sym (append-nil all)) ∙ open_walk all [] o
    ∙ ap (all_in_front o.scripts) (ap (λ k. Err k) (omega (arith, h.place))) ∙ all_err o.scripts at

breaks_walk : (all : Rows) (at : ℕ) → BreaksGrammar all at → walk 1 Between all ≡ Err at
breaks_walk all at (Outside h) = outside_walk all at h
breaks_walk all at (Inside h) = inside_walk all at h
breaks_walk all at (Unended h) = unended_walk all at h

-- ---- scripts for one condition

names_in : (title : Title) (above : List Script) (s : Script) (below : List Script) → s.title ≡ title → Names title (above ++ s ∷ below)
names_in title [] s below e = inl e
names_in title (x ∷ above) s below e = inr (names_in title above s below e)

none_twice : (above : List Script) (s : Script) (below : List Script) → NoneTwice (above ++ s ∷ below) → Names s.title above → ⊥
none_twice [] s below h names = names
none_twice (x ∷ above) s below h (inl e) = h.0 (names_in x.title above s below (sym e))
none_twice (x ∷ above) s below h (inr names) = none_twice above s below h.1 names

-- two ways to divide a list
data Divided (above : List Script) (s : Script) (other : List Script) (t : Script) : Type 0 where
  Same : s ≡ t → Divided above s other t
  Before : (m : List Script) → other ≡ above ++ s ∷ m → Divided above s other t
  After : (m : List Script) → above ≡ other ++ t ∷ m → Divided above s other t

first_of : (x y : Script) (xs ys : List Script) → x ∷ xs ≡ y ∷ ys → (x ≡ y) × (xs ≡ ys)
first_of x y xs ys e = (cc, cc)

divided : (above : List Script) (s : Script) (below : List Script) (other : List Script) (t : Script) (rest : List Script) → above ++ s ∷ below ≡ other ++ t ∷ rest → Divided above s other t
divided [] s below [] t rest e = Same (first_of s t below rest e).0
divided [] s below (y ∷ other) t rest e = Before other (ap (λ x. x ∷ other) (sym (first_of s y below (other ++ t ∷ rest) e).0))
divided (x ∷ above) s below [] t rest e = After above (ap (λ y. y ∷ above) (first_of x t (above ++ s ∷ below) rest e).0)
divided (x ∷ above) s below (y ∷ other) t rest e =
    let p = first_of x y (above ++ s ∷ below) (other ++ t ∷ rest) e in
    by p.0 (divided above s below other t rest p.1)
  where
    by : x ≡ y → Divided above s other t → Divided (x ∷ above) s (y ∷ other) t
    by q (Same h) = Same h
    by q (Before m h) = Before m (λ i. sym q i ∷ h i)
    by q (After m h) = After m (λ i. q i ∷ h i)

one_second : (ss : List Script) (at there : ℕ) → IsSecondOf ss at → IsSecondOf ss there → at ≡ there
one_second ss at there a b = by (divided a.above a.second a.below b.above b.second b.below (sym a.whole ∙ b.whole))
  where
    by : Divided a.above a.second b.above b.second → at ≡ there
    by (Same h) = sym a.place ∙ ap (λ (s : Script). s.line.0) h ∙ b.place
    by (Before m h) = absurd (none_twice a.above a.second m (subst NoneTwice h b.once) a.twice)
    by (After m h) = absurd (none_twice b.above b.second m (subst NoneTwice h a.once) b.twice)

no_second : (ss : List Script) (at : ℕ) → NoneTwice ss → IsSecondOf ss at → ⊥
no_second ss at once a = none_twice a.above a.second a.below (subst NoneTwice a.whole once) a.twice

-- ---- one answer

ok_is : (a b : List Script) → ◌≡◌ {A = Answer} (Ok a) (Ok b) → a ≡ b
ok_is a b e = ap (λ r. given r) e
  where
    given : Answer → List Script
    given (Ok ss) = ss
    given (Err line) = []

err_is : (a b : ℕ) → ◌≡◌ {A = Answer} (Err a) (Err b) → a ≡ b
err_is a b e = ap (λ r. refused r) e
  where
    refused : Answer → ℕ
    refused (Ok ss) = 0
    refused (Err line) = line

pub one_file : (text : List ℕ) (a b : List Script) → IsFile text a → IsFile text b → a ≡ b
one_file text a b h g = ok_is a b (sym (scripts_walk (lines text) a h.are) ∙ scripts_walk (lines text) b g.are)

same_scripts : (text : List ℕ) (a b : List Script) → AreScripts 1 (lines text) a → AreScripts 1 (lines text) b → a ≡ b
same_scripts text a b h g = ok_is a b (sym (scripts_walk (lines text) a h) ∙ scripts_walk (lines text) b g)

no_break : (text : List ℕ) (ss : List Script) (at : ℕ) → AreScripts 1 (lines text) ss → BreaksGrammar (lines text) at → ⊥
no_break text ss at h b = let clash = sym (scripts_walk (lines text) ss h) ∙ breaks_walk (lines text) at b in absurd cc

pub one_cause : (text : List ℕ) (at there : ℕ) (k other : ScriptKind) → IsCause text at k → IsCause text there other → (at ≡ there) × (k ≡ other)
one_cause text at there kind.Syntax kind.Syntax h g = (err_is at there (sym (breaks_walk (lines text) at h) ∙ breaks_walk (lines text) there g), refl)
one_cause text at there kind.Syntax kind.Duplicate h g = absurd (no_break text g.0 at g.1 h)
one_cause text at there kind.Duplicate kind.Syntax h g = absurd (no_break text h.0 there h.1 g)
one_cause text at there kind.Duplicate kind.Duplicate h g =
    (one_second g.0 at there (subst (λ ss. IsSecondOf ss at) (same_scripts text h.0 g.0 h.1 g.1) h.2) g.2, refl)

pub apart : (text : List ℕ) (ss : List Script) (at : ℕ) (k : ScriptKind) → IsFile text ss → IsCause text at k → ⊥
apart text ss at kind.Syntax h g = no_break text ss at h.are g
apart text ss at kind.Duplicate h g = no_second ss at h.once (subst (λ w. IsSecondOf w at) (same_scripts text g.0 ss g.1 h.are) g.2)
