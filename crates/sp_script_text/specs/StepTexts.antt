-- How steps are written: the rule's name and its arguments, with blanks between them and any blanks round them (this
-- project's own). A text of a form has no blanks at its ends. 104 is the ASCII code of h.
use Rattle.std.specs.Prelude.{◌≡◌, ◌≤◌, ◌<◌, ℕ, ℤ, true, false, List, [], ◌∷◌, ◌++◌, length, codes, decimal, Some, None, FitsSigned}
use Rattle.std.specs.Int.{w64}
use Rattle.std.specs.List.{list_all}
use Rattle.sp_term.specs.Tree.{Tree}
use Rattle.sp_term.specs.Sorts.{Sort, Int, Formula, Memory, HasSort}
use Rattle.sp_fdl.specs.Text.{Form, Token, IsLiteral, StandsFor, is_blank}
use Rattle.sp_script_text.specs.Rules.{name_of}
use Rattle.sp_script_text.specs.Steps.{Step, Close, Simp, Split, Intro, SideLeft, SideRight, Unpack, UseBoth, CasesOf, CasesBy, Cut, Fix, At, Give, Pick, Induct, Rewrite, Linear, DivMod, Range, Read, Rom, Frame, Bits, BitOf, Choose, Empty, Last, Over, rule_of}

-- a text of one form, one blank or more, and a text of another form
pub record Spaced (Front Back : Form) (text : List ℕ) : Type 0 where
  pub front : List ℕ
  pub blanks : List ℕ
  pub back : List ℕ
  pub whole : text ≡ front ++ (blanks ++ back)
  pub blank : list_all is_blank blanks ≡ true
  pub some : 0 < length blanks
  pub in_front : Front front
  pub in_back : Back back

-- a text of a form with any blanks round it
pub record Around (Inner : Form) (line : List ℕ) : Type 0 where
  pub before : List ℕ
  pub inner : List ℕ
  pub after : List ℕ
  pub whole : line ≡ before ++ (inner ++ after)
  pub blank : list_all is_blank before ≡ true
  pub blank_after : list_all is_blank after ≡ true
  pub is : Inner inner

-- hK, with K from 1 and without leading zeros
abbrev pub Hypothesis : ℕ → Form
Hypothesis k text = (text ≡ 104 ∷ decimal k) × (1 ≤ k) × (k ≤ 4294967295)

-- a number of 64 bits in decimal digits; a minus may stand directly before them
abbrev pub Number : ℤ → Form
Number n text = IsLiteral n text × FitsSigned w64 n

-- a text that stands for a term of this sort
abbrev pub Term : Sort → Tree → Form
Term sort t text = StandsFor text t × HasSort t sort

-- hypotheses with their multipliers, at least one
abbrev pub Named : (ℤ × ℕ) → List (ℤ × ℕ) → Form
Named p [] = Spaced (Number p.0) (Hypothesis p.1)
Named p (next ∷ more) = Spaced (Number p.0) (Spaced (Hypothesis p.1) (Named next more))

-- what stands after the name of a rule
pub data Arguments : Type 1 where
  NoArguments : Arguments
  With : Form → Arguments

-- the arguments of a step
abbrev pub arguments_of : Step → Arguments
arguments_of (Close k) = With (Hypothesis k)
arguments_of (Simp None) = NoArguments
arguments_of (Simp (Some k)) = With (Hypothesis k)
arguments_of Split = NoArguments
arguments_of Intro = NoArguments
arguments_of SideLeft = With (Token (codes "left"))
arguments_of SideRight = With (Token (codes "right"))
arguments_of (Unpack k) = With (Hypothesis k)
arguments_of (UseBoth k j) = With (Spaced (Hypothesis k) (Hypothesis j))
arguments_of (CasesOf k) = With (Hypothesis k)
arguments_of (CasesBy p) = With (Term Formula p)
arguments_of (Cut p) = With (Term Formula p)
arguments_of Fix = NoArguments
arguments_of (At k x) = With (Spaced (Hypothesis k) (Term Int x))
arguments_of (Give x) = With (Term Int x)
arguments_of (Pick k) = With (Hypothesis k)
arguments_of Induct = NoArguments
arguments_of (Rewrite k None false) = With (Hypothesis k)
arguments_of (Rewrite k None true) = With (Spaced (Hypothesis k) (Token (codes "back")))
arguments_of (Rewrite k (Some j) false) = With (Spaced (Hypothesis k) (Hypothesis j))
arguments_of (Rewrite k (Some j) true) = With (Spaced (Hypothesis k) (Spaced (Hypothesis j) (Token (codes "back"))))
arguments_of (Linear n []) = With (Number n)
arguments_of (Linear n (first ∷ named)) = With (Spaced (Number n) (Named first named))
arguments_of (DivMod x c) = With (Spaced (Term Int x) (Number c))
arguments_of (Range x) = With (Term Int x)
arguments_of (Read x) = With (Term Int x)
arguments_of (Rom m c) = With (Spaced (Term Memory m) (Number c))
arguments_of (Frame m x) = With (Spaced (Term Memory m) (Term Int x))
arguments_of (Bits x) = With (Term Int x)
arguments_of (BitOf k x) = With (Spaced (Number k) (Term Int x))
arguments_of (Choose x) = With (Term Int x)
arguments_of (Empty x) = With (Term Int x)
arguments_of (Last x) = With (Term Int x)
arguments_of (Over x) = With (Term Int x)

-- a name, alone or with arguments after it
abbrev pub Command : List ℕ → Arguments → Form
Command name NoArguments = Token name
Command name (With Given) = Spaced (Token name) Given

-- the line is this step
abbrev pub IsStep : Step → Form
IsStep step line = Around (Command (name_of (rule_of step)) (arguments_of step)) line

-- the line is some step
abbrev pub IsStepLine : Form
IsStepLine line = (step : Step) × IsStep step line
