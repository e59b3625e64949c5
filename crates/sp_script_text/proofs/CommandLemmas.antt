-- Commands have no blanks at their ends.
use Rattle.std.proofs.Common.{◌≡◌, ℕ, ℤ, ◌<◌, true, false, List, [], ◌∷◌, ◌++◌, length, Some, None, refl, sym, ap, subst, ◌∙◌, arith}
use Rattle.std.specs.Prelude.{codes}
use Rattle.std.specs.List.{list_all}
use Rattle.sp_term.specs.Tree.{Tree, Literal, Truth, Variable, Add, Subtract, Multiply, Divide, Remainder, ByteAnd, ByteOr, ByteXor, Parity, Bit, Psw, If, Element, Update, Total, Equal, Less, LessOrEqual, Not, And, Or, Implies, Iff, ForAll, ForSome}
use Rattle.sp_term.specs.Sorts.{Sort, Int, Formula, Memory, HasSort}
use Rattle.sp_fdl.specs.Text.{is_run, Form, Token, Then, Spells}
use Rattle.sp_script_text.specs.declared.rule.Rule.{Rule}
use Rattle.sp_script_text.specs.declared.rule.Rule.TheVariants as rule
use Rattle.sp_script_text.specs.Rules.{name_of}
use Rattle.sp_script_text.specs.Steps.{Step, Close, Simp, Split, Intro, SideLeft, SideRight, Unpack, UseBoth, CasesOf, CasesBy, Cut, Fix, At, Give, Pick, Induct, Rewrite, Linear, DivMod, Range, Read, Rom, Frame, Bits, BitOf, Choose, Empty, Last, Over, rule_of}
use Rattle.sp_script_text.specs.StepTexts.{Spaced, Hypothesis, Term, Named, Arguments, NoArguments, With, arguments_of, Command}
use Rattle.sp_script_text.specs.code.Words.{is_solid}
use Rattle.sp_script_text.proofs.WordLemmas.{Solid}
use Rattle.sp_script_text.proofs.TermLemmas.{no_formula_name}
use Rattle.sp_script_text.proofs.SolidLemmas.{IsSolid, solid_spaced, solid_text, solid_hypothesis, solid_number, solid_run}

named : (name : List ℕ) → 0 < length name → list_all is_run name ≡ true → Solid name
named = solid_run

pub name_solid : (r : Rule) → (list_all is_solid (name_of r) ≡ true) × Solid (name_of r)
name_solid rule.Close = (refl, named _ (omega arith) refl)
name_solid rule.Simp = (refl, named _ (omega arith) refl)
name_solid rule.Split = (refl, named _ (omega arith) refl)
name_solid rule.Intro = (refl, named _ (omega arith) refl)
name_solid rule.Side = (refl, named _ (omega arith) refl)
name_solid rule.Unpack = (refl, named _ (omega arith) refl)
name_solid rule.UseBoth = (refl, named _ (omega arith) refl)
name_solid rule.Cases = (refl, named _ (omega arith) refl)
name_solid rule.Cut = (refl, named _ (omega arith) refl)
name_solid rule.Fix = (refl, named _ (omega arith) refl)
name_solid rule.At = (refl, named _ (omega arith) refl)
name_solid rule.Give = (refl, named _ (omega arith) refl)
name_solid rule.Pick = (refl, named _ (omega arith) refl)
name_solid rule.Induct = (refl, named _ (omega arith) refl)
name_solid rule.Rewrite = (refl, named _ (omega arith) refl)
name_solid rule.Linear = (refl, named _ (omega arith) refl)
name_solid rule.DivMod = (refl, named _ (omega arith) refl)
name_solid rule.Range = (refl, named _ (omega arith) refl)
name_solid rule.Read = (refl, named _ (omega arith) refl)
name_solid rule.Rom = (refl, named _ (omega arith) refl)
name_solid rule.Frame = (refl, named _ (omega arith) refl)
name_solid rule.Bits = (refl, named _ (omega arith) refl)
name_solid rule.BitOf = (refl, named _ (omega arith) refl)
name_solid rule.Choose = (refl, named _ (omega arith) refl)
name_solid rule.Empty = (refl, named _ (omega arith) refl)
name_solid rule.Last = (refl, named _ (omega arith) refl)
name_solid rule.Over = (refl, named _ (omega arith) refl)

-- ---- arguments

solid_term : (s : Sort) (t : Tree) → IsSolid (Term s t)
solid_term s t text h = solid_text text t h.0

solid_token : (name : List ℕ) → 0 < length name → list_all is_run name ≡ true → IsSolid (Token name)
solid_token name some all text e = subst Solid (sym e) (solid_run name some all)

back_solid : IsSolid (Token (codes "back"))
back_solid = solid_token (codes "back") (omega arith) refl

two : (X Y : Form) → IsSolid X → IsSolid Y → IsSolid (Spaced X Y)
two = solid_spaced

solid_named : (p : ℤ × ℕ) (named : List (ℤ × ℕ)) → IsSolid (Named p named)
solid_named p [] = two _ _ (solid_number p.0) (solid_hypothesis p.1)
solid_named p (first ∷ named) = two _ _ (solid_number p.0) (two _ _ (solid_hypothesis p.1) (solid_named first named))

abbrev AreSolid : Arguments → Type 0
AreSolid NoArguments = Unit {0}
AreSolid (With X) = IsSolid X

arguments_solid : (step : Step) → AreSolid (arguments_of step)
arguments_solid (Close k) = solid_hypothesis k
arguments_solid (Simp None) = tt
arguments_solid (Simp (Some k)) = solid_hypothesis k
arguments_solid Split = tt
arguments_solid Intro = tt
arguments_solid SideLeft = solid_token (codes "left") (omega arith) refl
arguments_solid SideRight = solid_token (codes "right") (omega arith) refl
arguments_solid (Unpack k) = solid_hypothesis k
arguments_solid (UseBoth k j) = two _ _ (solid_hypothesis k) (solid_hypothesis j)
arguments_solid (CasesOf k) = solid_hypothesis k
arguments_solid (CasesBy p) = solid_term Formula p
arguments_solid (Cut p) = solid_term Formula p
arguments_solid Fix = tt
arguments_solid (At k x) = two _ _ (solid_hypothesis k) (solid_term Int x)
arguments_solid (Give x) = solid_term Int x
arguments_solid (Pick k) = solid_hypothesis k
arguments_solid Induct = tt
arguments_solid (Rewrite k None false) = solid_hypothesis k
arguments_solid (Rewrite k None true) = two _ _ (solid_hypothesis k) back_solid
arguments_solid (Rewrite k (Some j) false) = two _ _ (solid_hypothesis k) (solid_hypothesis j)
arguments_solid (Rewrite k (Some j) true) = two _ _ (solid_hypothesis k) (two _ _ (solid_hypothesis j) back_solid)
arguments_solid (Linear n []) = solid_number n
arguments_solid (Linear n (first ∷ named)) = two _ _ (solid_number n) (solid_named first named)
arguments_solid (DivMod x c) = two _ _ (solid_term Int x) (solid_number c)
arguments_solid (Range x) = solid_term Int x
arguments_solid (Read x) = solid_term Int x
arguments_solid (Rom m c) = two _ _ (solid_term Memory m) (solid_number c)
arguments_solid (Frame m x) = two _ _ (solid_term Memory m) (solid_term Int x)
arguments_solid (Bits x) = solid_term Int x
arguments_solid (BitOf k x) = two _ _ (solid_number k) (solid_term Int x)
arguments_solid (Choose x) = solid_term Int x
arguments_solid (Empty x) = solid_term Int x
arguments_solid (Last x) = solid_term Int x
arguments_solid (Over x) = solid_term Int x

pub solid_command : (name : List ℕ) (o : Arguments) → Solid name → AreSolid o → IsSolid (Command name o)
solid_command name NoArguments solid h text e = subst Solid (sym e) solid
solid_command name (With X) solid h text g = two (Token name) X (λ token e. subst Solid (sym e) solid) h text g

pub command_solid : (step : Step) (text : List ℕ) → Command (name_of (rule_of step)) (arguments_of step) text → Solid text
command_solid step = solid_command (name_of (rule_of step)) (arguments_of step) (name_solid (rule_of step)).1 (arguments_solid step)

-- ---- the number of a hypothesis is no formula

first : List ℕ → ℕ
first [] = 0
first (byte ∷ bytes) = byte

begins : (byte : ℕ) (bytes : List ℕ) (Y : Form) (text : List ℕ) → Then (Token (byte ∷ bytes)) Y text → first text ≡ byte
unfolding first
begins byte bytes Y text h = ap first h.whole ∙ ap (λ w. first (w ++ (h.blanks ++ h.back))) h.in_front

-- the text of a formula doesn't begin with h
no_h : (p : Tree) (text : List ℕ) → HasSort p Formula → Spells p text → first text ≡ 104 → ⊥
unfolding first
no_h (Literal n) text s h e = absurd cc
no_h (Add x y) text s h e = let clash = s.0 in absurd cc
no_h (Subtract x y) text s h e = let clash = s.0 in absurd cc
no_h (Multiply x y) text s h e = let clash = s.0 in absurd cc
no_h (Divide x y) text s h e = let clash = s.0 in absurd cc
no_h (Remainder x y) text s h e = let clash = s.0 in absurd cc
no_h (ByteAnd x y) text s h e = let clash = s.0 in absurd cc
no_h (ByteOr x y) text s h e = let clash = s.0 in absurd cc
no_h (ByteXor x y) text s h e = let clash = s.0 in absurd cc
no_h (Parity x) text s h e = let clash = s.0 in absurd cc
no_h (Bit j x) text s h e = let clash = s.0 in absurd cc
no_h (Psw f z ac q cy) text s h e = let clash = s.0 in absurd cc
no_h (If q x y) text s h e = let clash = s.0 in absurd cc
no_h (Element m x) text s h e = let clash = s.0 in absurd cc
no_h (Update m x y) text s h e = let clash = s.0 in absurd cc
no_h (Total m x y) text s h e = let clash = s.0 in absurd cc
no_h (Variable v) text s h e = no_formula_name v s.0
no_h (Truth true) text s h e = absurd (omega (arith, sym (ap first h) ∙ e))
no_h (Truth false) text s h e = absurd (omega (arith, sym (ap first h) ∙ e))
no_h (Equal x y) text s h e = absurd (omega (arith, sym (begins 40 [] _ text h) ∙ e))
no_h (Less x y) text s h e = absurd (omega (arith, sym (begins 40 [] _ text h) ∙ e))
no_h (LessOrEqual x y) text s h e = absurd (omega (arith, sym (begins 40 [] _ text h) ∙ e))
no_h (And a b) text s h e = absurd (omega (arith, sym (begins 40 [] _ text h) ∙ e))
no_h (Or a b) text s h e = absurd (omega (arith, sym (begins 40 [] _ text h) ∙ e))
no_h (Implies a b) text s h e = absurd (omega (arith, sym (begins 40 [] _ text h) ∙ e))
no_h (Iff a b) text s h e = absurd (omega (arith, sym (begins 40 [] _ text h) ∙ e))
no_h (Not q) text s h e = absurd (omega (arith, sym (begins 40 [] _ text h) ∙ e))
no_h (ForAll k x y q) text s h e = absurd (omega (arith, sym (begins 102 (codes "or_all") _ text h) ∙ e))
no_h (ForSome k x y q) text s h e = absurd (omega (arith, sym (begins 102 (codes "or_some") _ text h) ∙ e))

pub hypothesis_no_formula : (text : List ℕ) (k : ℕ) (p : Tree) → Hypothesis k text → Term Formula p text → ⊥
unfolding first
hypothesis_no_formula text k p h g = no_h p text g.1 g.0.spells (ap first h.0)
