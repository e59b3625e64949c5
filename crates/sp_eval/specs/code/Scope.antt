-- The numbers of bound names that a scope keeps.
use Rattle.std.specs.Prelude.{[], ◌∷◌}
use Rattle.sp_eval.specs.declared.scope.Scope.{Scope}
use Rattle.sp_eval.specs.declared.scope.Scope.TheVariants as scope
use Rattle.sp_model.specs.Note.{Bindings}

abbrev pub bindings_of : Scope → Bindings
bindings_of scope.Empty = []
bindings_of (scope.Inner' name number at outer) = (name.now, number) ∷ bindings_of outer
