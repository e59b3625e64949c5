-- The step that a line is, as the reader takes it.
use Rattle.std.specs.Prelude.{ℕ, true, false, if◌then◌else◌, List, [], ◌∷◌, codes, Option, Some, None}
use Rattle.sp_fdl.specs.code.Tokens.{◌>>=◌}
use Rattle.sp_script_text.specs.declared.rule.Rule.{Rule}
use Rattle.sp_script_text.specs.declared.rule.Rule.TheVariants as rule
use Rattle.sp_script_text.specs.Steps.{Step, Close, Simp, Split, Intro, SideLeft, SideRight, Unpack, UseBoth, CasesOf, CasesBy, Cut, Fix, At, Give, Pick, Induct, Rewrite, Linear, DivMod, Range, Read, Rom, Frame, Bits, BitOf, Choose, Empty, Last, Over}
use Rattle.sp_script_text.specs.code.Words.{word_of, after_word, after_space, trimmed, is_word, rule_named}
use Rattle.sp_script_text.specs.code.Arguments.{formula_of, hypothesis_of, last_formula, last_int, last_hypothesis, next_hypothesis, next_number, int_and_number, memory_and_number, memory_and_int, two_hypotheses, hypothesis_and_int, number_and_int, named_of, is_back}

-- a step without arguments
abbrev pub alone : Step → List ℕ → Option Step
alone step [] = Some step
alone step (byte ∷ bytes) = None

abbrev pub simp : List ℕ → Option Step
simp [] = Some (Simp None)
simp (byte ∷ bytes) = last_hypothesis (byte ∷ bytes) >>= λ k. Some (Simp (Some k))

abbrev pub side_named : List ℕ → Option Step
side_named word = if is_word word (codes "left") then Some SideLeft else (if is_word word (codes "right") then Some SideRight else None)

unfoldable pub side : List ℕ → Option Step
side text = after_space text >>= side_named

abbrev pub cases_by : List ℕ → Option ℕ → Option Step
cases_by text (Some k) = Some (CasesOf k)
cases_by text None = formula_of text >>= λ p. Some (CasesBy p)

unfoldable pub cases : List ℕ → Option Step
cases text = after_space text >>= λ rest. cases_by rest (hypothesis_of rest)

-- after the equation and the blanks that follow it
unfoldable pub rewrite_by : ℕ → List ℕ → Option Step
rewrite_by k text =
    if is_word text (codes "back") then Some (Rewrite k None true)
    else (hypothesis_of (word_of text) >>= λ j. is_back (after_word text) >>= λ back. Some (Rewrite k (Some j) back))

abbrev pub rewrite_after : ℕ → List ℕ → Option Step
rewrite_after k [] = Some (Rewrite k None false)
rewrite_after k (byte ∷ bytes) = after_space (byte ∷ bytes) >>= rewrite_by k

unfoldable pub rewrite : List ℕ → Option Step
rewrite text = next_hypothesis text >>= λ first. rewrite_after first.0 first.1

unfoldable pub linear : List ℕ → Option Step
linear text = do
  first ← next_number text
  named ← named_of first.1
  Some (Linear first.0 named)

-- the step of a rule with these arguments
abbrev pub step_of : Rule → List ℕ → Option Step
step_of rule.Close text = last_hypothesis text >>= λ k. Some (Close k)
step_of rule.Simp text = simp text
step_of rule.Split text = alone Split text
step_of rule.Intro text = alone Intro text
step_of rule.Side text = side text
step_of rule.Unpack text = last_hypothesis text >>= λ k. Some (Unpack k)
step_of rule.UseBoth text = two_hypotheses text >>= λ p. Some (UseBoth p.0 p.1)
step_of rule.Cases text = cases text
step_of rule.Cut text = last_formula text >>= λ p. Some (Cut p)
step_of rule.Fix text = alone Fix text
step_of rule.At text = hypothesis_and_int text >>= λ p. Some (At p.0 p.1)
step_of rule.Give text = last_int text >>= λ x. Some (Give x)
step_of rule.Pick text = last_hypothesis text >>= λ k. Some (Pick k)
step_of rule.Induct text = alone Induct text
step_of rule.Rewrite text = rewrite text
step_of rule.Linear text = linear text
step_of rule.DivMod text = int_and_number text >>= λ p. Some (DivMod p.0 p.1)
step_of rule.Range text = last_int text >>= λ x. Some (Range x)
step_of rule.Read text = last_int text >>= λ x. Some (Read x)
step_of rule.Rom text = memory_and_number text >>= λ p. Some (Rom p.0 p.1)
step_of rule.Frame text = memory_and_int text >>= λ p. Some (Frame p.0 p.1)
step_of rule.Bits text = last_int text >>= λ x. Some (Bits x)
step_of rule.BitOf text = number_and_int text >>= λ p. Some (BitOf p.0 p.1)
step_of rule.Choose text = last_int text >>= λ x. Some (Choose x)
step_of rule.Empty text = last_int text >>= λ x. Some (Empty x)
step_of rule.Last text = last_int text >>= λ x. Some (Last x)
step_of rule.Over text = last_int text >>= λ x. Some (Over x)

-- the step that a text without blanks at its ends is
unfoldable pub command_step : List ℕ → Option Step
command_step text = rule_named (word_of text) >>= λ r. step_of r (after_word text)

unfoldable pub line_step : List ℕ → Option Step
line_step line = command_step (trimmed line)
