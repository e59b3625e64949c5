-- What the rules lead to, from what they lead to from the nodes that a rule writes.
use Rattle.std.proofs.Common.{◌≡◌, Some, None, ℤ}
use Rattle.sp_term.specs.Tree.{Tree, Literal, Add, Remainder}
use Rattle.sp_simp.specs.Rules.{Is, Made, MadePlus, MadeModulo, rule}
use Rattle.sp_simp.specs.Simple.{Leads, stays, is, made, made_plus, made_modulo}
use Rattle.sp_simp.proofs.WeightLemmas.{made_falls, plus_falls, modulo_falls, plus_then_falls, modulo_then_falls}

pub stay : (t : Tree) → rule t ≡ None → Leads t t
stay t e = stays t e

pub done : (t x : Tree) → rule t ≡ Some (Is x) → Leads t x
done t x e = is t x e

pub by_made : (t x r : Tree) → rule t ≡ Some (Made x) → Leads x r → Leads t r
by_made t x r e m = made t x r e m

pub by_plus : (t x y r : Tree) (c : ℤ) → rule t ≡ Some (MadePlus x c) → Leads x y → Leads (Add y (Literal c)) r → Leads t r
by_plus t x y r c e m n = made_plus t x y r c e m n

pub by_modulo : (t x y r : Tree) (c : ℤ) → rule t ≡ Some (MadeModulo x c) → Leads x y → Leads (Remainder y (Literal c)) r → Leads t r
by_modulo t x y r c e m n = made_modulo t x y r c e m n

pub ruleset driver = (made_falls, plus_falls, modulo_falls, plus_then_falls, modulo_then_falls, stay, done, by_made, by_plus, by_modulo)
