-- The texts of settings (this project's own).
use Rattle.std.specs.Prelude.{ℕ, ◌==◌, Bool, List, [], ◌∷◌, map, find, Option, Some, None, option_map, option_and_then, codes}
use Rattle.std.specs.List.{before_first, after_first}
use Rattle.std.specs.Str.{bytes_eq}
use Rattle.std.specs.Char.{to_ascii_lowercase}
use Rattle.sp_base.specs.declared.location.Reg.TheVariants as reg
use Rattle.sp_base.specs.declared.pair.Pair.TheVariants as pair
use Rattle.sp_run.specs.declared.settings.Flag.TheVariants as flag
use Rattle.sp_run.specs.declared.settings.Setting.{Setting}
use Rattle.sp_run.specs.declared.settings.Setting.TheVariants as setting
use Rattle.sp_run.specs.declared.targets.Target.{Target}
use Rattle.sp_run.specs.declared.targets.Target.TheVariants.{Register, Pair, Flag, Input, Cell}
use Rattle.sp_run.specs.Values.{byte_of, word_of, bit_of}

-- what has a name
abbrev pub names : List (List ℕ × Target)
names =
    (codes "A", Register reg.A) ∷ (codes "B", Register reg.B) ∷ (codes "C", Register reg.C) ∷ (codes "D", Register reg.D)
    ∷ (codes "E", Register reg.E) ∷ (codes "H", Register reg.H) ∷ (codes "L", Register reg.L)
    ∷ (codes "BC", Pair pair.B) ∷ (codes "DE", Pair pair.D) ∷ (codes "HL", Pair pair.H) ∷ (codes "SP", Pair pair.Sp)
    ∷ (codes "S", Flag flag.S) ∷ (codes "Z", Flag flag.Z) ∷ (codes "AC", Flag flag.Ac) ∷ (codes "P", Flag flag.P) ∷ (codes "CY", Flag flag.Cy)
    ∷ (codes "IN", Input) ∷ []

-- whether a text is a name but for case
abbrev pub is_named : List ℕ → List ℕ → Bool
is_named name text = bytes_eq (map to_ascii_lowercase name) (map to_ascii_lowercase text)

-- what a text names in a table
abbrev pub target_in : List (List ℕ × Target) → List ℕ → Option Target
target_in table text = option_map (λ entry. entry.1) (find (λ entry. is_named entry.0 text) table)

-- what a text names
unfoldable pub named : List ℕ → Option Target
named text = target_in names text

-- the first of two, or the second where there is none
abbrev pub first_or : Option Target → Option Target → Option Target
first_or (Some target) other = Some target
first_or None other = other

-- what a setting sets: what is named, or the cell at an address
abbrev pub target_of : List ℕ → Option Target
target_of text = first_or (named text) (option_map Cell (word_of text))

-- the setting that gives this the value of a text, if the value is in its range
abbrev pub setting_with : Target → List ℕ → Option Setting
setting_with (Register r) value = option_map (setting.Register r) (byte_of value)
setting_with (Pair p) value = option_map (setting.Pair p) (word_of value)
setting_with (Flag f) value = option_map (setting.Flag f) (bit_of value)
setting_with Input value = option_map setting.Input (byte_of value)
setting_with (Cell a) value = option_map (setting.Cell a) (byte_of value)

-- the setting that a text X=V stands for, if it stands for one; behind a text without `=` there is no value, and no
-- number is empty
unfoldable pub setting_of : List ℕ → Option Setting
setting_of text =
    option_and_then (λ target. setting_with target (after_first (λ byte. byte == 61) text)) (target_of (before_first (λ byte. byte == 61) text))
