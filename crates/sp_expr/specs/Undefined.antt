-- Names without a value.
use Rattle.std.specs.Prelude.{ℕ, if◌then◌else◌, List, [], ◌∷◌, Option, Some, None, is_some}
use Rattle.sp_expr.specs.declared.word.Word.{Word}
use Rattle.sp_expr.specs.declared.word.Word.TheVariants as words

-- the first name of these words that has no value, each name having this one, if any
unfoldable pub first_undefined : (List ℕ → Option ℕ) → List Word → Option (List ℕ)
first_undefined names [] = None
first_undefined names (words.Name name ∷ ws) = if is_some (names name) then first_undefined names ws else Some name
first_undefined names (words.Open ∷ ws) = first_undefined names ws
first_undefined names (words.Close ∷ ws) = first_undefined names ws
first_undefined names (words.Not ∷ ws) = first_undefined names ws
first_undefined names (words.Here ∷ ws) = first_undefined names ws
first_undefined names (words.Operator operator ∷ ws) = first_undefined names ws
first_undefined names (words.Number n ∷ ws) = first_undefined names ws
