-- How the reader takes tokens from the front of a text.
use Rattle.std.specs.Borrow.{Bor}
use Rattle.std.specs.Prelude.{◌≡◌, ℕ, Bool, ◌==◌, if◌then◌else◌, List, [], ◌∷◌, Option, Some, None, Result, Ok, Err}
use Rattle.sp_fdl.specs.declared.refusal.FdlRefusal.{FdlRefusal}
use Rattle.sp_fdl.specs.declared.refusal.FdlRefusal.TheVariants as refusal
use Rattle.sp_fdl.specs.Text.{is_blank, is_run}

infixl 10 ◌>>=◌
abbrev pub ◌>>=◌ : {A B : Type 0} → Option A → (A → Option B) → Option B
None >>= f = None
(Some x) >>= f = f x

-- an answer of the code is the right one
abbrev pub GivesText : Result (Bor (List ℕ)) FdlRefusal → Option (List ℕ) → Type 0
GivesText (Ok rest) right = right ≡ Some rest.now
GivesText (Err refusal.Syntax) right = right ≡ None
GivesText (Err refusal.Memory) right = ⊥

-- the front of a text as far as its bytes pass a test, and what follows it
abbrev pub taken : (ℕ → Bool) → List ℕ → List ℕ
taken test [] = []
taken test (byte ∷ bytes) = if test byte then byte ∷ taken test bytes else []

abbrev pub dropped : (ℕ → Bool) → List ℕ → List ℕ
dropped test [] = []
dropped test (byte ∷ bytes) = if test byte then dropped test bytes else byte ∷ bytes

abbrev pub after_blanks : List ℕ → List ℕ
after_blanks text = dropped is_blank text

abbrev pub run_of : List ℕ → List ℕ
run_of text = taken is_run text

abbrev pub after_run : List ℕ → List ℕ
after_run text = dropped is_run text

-- what follows a mark at the front
abbrev pub after_first : ℕ → List ℕ → Option (List ℕ)
after_first mark [] = None
after_first mark (byte ∷ bytes) = if byte == mark then Some bytes else None

unfoldable pub after_mark : ℕ → List ℕ → Option (List ℕ)
after_mark mark text = after_first mark (after_blanks text)

-- what follows two dots
unfoldable pub after_dots : List ℕ → Option (List ℕ)
after_dots text = after_mark 46 text >>= after_first 46
