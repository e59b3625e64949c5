-- What the calls on one step answer.
use Rattle.std.specs.Borrow.{Bor}
use Rattle.std.specs.Prelude.{◌≡◌, ℕ, List, Option, Some, None, Result, Ok, Err, ⊤}
use Rattle.sp_script_text.specs.declared.refusal.StepRefusal.{StepRefusal}
use Rattle.sp_script_text.specs.declared.refusal.StepRefusal.TheVariants as refusal

-- an answer is seen as the right one, or is Syntax where there is none, unless memory ran out
abbrev pub Gives : {X Y : Type 0} → (X → Y) → Result X StepRefusal → Option Y → Type 0
Gives view (Ok x) right = right ≡ Some (view x)
Gives view (Err refusal.Syntax) right = right ≡ None
Gives view (Err refusal.Memory) right = ⊤

-- the same of calls that take no memory
abbrev pub GivesText : Result (Bor (List ℕ)) StepRefusal → Option (List ℕ) → Type 0
GivesText (Ok rest) right = right ≡ Some rest.now
GivesText (Err refusal.Syntax) right = right ≡ None
GivesText (Err refusal.Memory) right = ⊥

abbrev pub GivesValue : {X Y : Type 0} → (X → Y) → Result X StepRefusal → Option Y → Type 0
GivesValue view (Ok x) right = right ≡ Some (view x)
GivesValue view (Err refusal.Syntax) right = right ≡ None
GivesValue view (Err refusal.Memory) right = ⊥
