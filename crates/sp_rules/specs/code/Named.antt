-- Hypotheses that are named by number.
use Rattle.std.specs.Prelude.{⊤, ℕ, ℤ, List, Result, Ok, Err, Vec}
use Rattle.std.specs.Borrow.{Bor}
use Rattle.std.specs.Global.{Global}
use Rattle.sp_term.specs.Tree.{Tree}
use Rattle.sp_linear.specs.Linear.{named}
use Rattle.sp_steps.specs.declared.refusal.RuleRefusal.{RuleRefusal}
use Rattle.sp_steps.specs.declared.refusal.RuleRefusal.TheVariants as refusal
use Rattle.sp_steps.specs.Next.{AreNamed}

-- those that numbers name, or NoApply where a number names none
abbrev pub AreFound : Result (Vec (ℤ × Bor Tree) Global) RuleRefusal → List Tree → List (ℤ × ℕ) → Type 0
AreFound (Ok hs) hypotheses numbers = AreNamed hypotheses numbers (named hs.items)
AreFound (Err refusal.NoApply) hypotheses numbers = (hs : List (ℤ × Tree)) → AreNamed hypotheses numbers hs → ⊥
AreFound (Err refusal.Memory) hypotheses numbers = ⊤
