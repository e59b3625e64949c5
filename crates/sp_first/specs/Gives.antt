-- What the code reads against what the definitions read.
use Rattle.std.specs.Prelude.{◌≡◌, Option, Some, None, Result, Ok, Err, ⊤}
use Rattle.sp_first.specs.declared.source.FormRefusal.{FormRefusal}
use Rattle.sp_first.specs.declared.source.FormRefusal.TheVariants.{NotFirstForm, Memory}

-- a function returned what is read, seen by `view`, or nothing where nothing is read, unless memory ran out
abbrev pub Gives : {X Y : Type 0} → (X → Y) → Result X FormRefusal → Option Y → Type 0
Gives view (Ok x) read = read ≡ Some (view x)
Gives view (Err NotFirstForm) read = read ≡ None
Gives view (Err Memory) read = ⊤
