-- Small texts and trees, for laws by example.
use Rattle.std.specs.Prelude.{List, ℕ, pos}
use Rattle.std.proofs.Common.{negsuc}
use Rattle.sp_base.specs.declared.location.Loc.TheVariants as loc
use Rattle.sp_term.specs.declared.var.Var.TheVariants as var
use Rattle.sp_term.specs.Tree.{Tree, Literal, Variable, Add, Subtract, Divide, Equal, ForAll}
use Rattle.sp_fdl.specs.Text.{StandsFor}

-- a text that stands for a tree, and one that stands for none
abbrev pub Stands : List ℕ → Tree → Type 0
Stands text t = StandsFor text t

abbrev pub StandsForNone : List ℕ → Type 0
StandsForNone text = (t : Tree) → ¬ StandsFor text t

abbrev pub entry_plus_1 : Tree
entry_plus_1 = Add (Variable (var.Entry loc.A)) (Literal (pos 1))

abbrev pub half : Tree
half = Divide (Literal (pos 1)) (Literal (pos 2))

abbrev pub below_zero : Tree
below_zero = Subtract (Variable (var.Now loc.A)) (Literal (negsuc 0))

abbrev pub all_are_a : Tree
all_are_a = ForAll 1 (Literal (pos 0)) (Literal (pos 3)) (Equal (Variable (var.Bound 1)) (Variable (var.Now loc.A)))
