-- How the reader takes words and blanks.
use Rattle.std.specs.Prelude.{ℕ, Bool, not, nat_eq, if◌then◌else◌, List, [], ◌∷◌, codes, reverse, Option, Some, None}
use Rattle.std.specs.Cmp.Lexicographic.{pointwise}
use Rattle.sp_fdl.specs.Text.{is_blank}
use Rattle.sp_fdl.specs.code.Tokens.{taken, dropped, after_blanks}
use Rattle.sp_script_text.specs.declared.rule.Rule.{Rule}
use Rattle.sp_script_text.specs.declared.rule.Rule.TheVariants as rule

abbrev pub is_solid : ℕ → Bool
is_solid byte = not (is_blank byte)

-- the word at the front, and what follows it
abbrev pub word_of : List ℕ → List ℕ
word_of text = taken is_solid text

abbrev pub after_word : List ℕ → List ℕ
after_word text = dropped is_solid text

-- what follows the blanks at the front, of which there is one at least
unfoldable pub after_space : List ℕ → Option (List ℕ)
after_space [] = None
after_space (byte ∷ bytes) = if is_blank byte then Some (after_blanks bytes) else None

-- a text without the blanks at its end
unfoldable pub trim_end : List ℕ → List ℕ
trim_end text = reverse (dropped is_blank (reverse text))

-- a text without the blanks at both ends
unfoldable pub trimmed : List ℕ → List ℕ
trimmed text = trim_end (after_blanks text)

-- the word at the end, and what stands before it
unfoldable pub last_word : List ℕ → List ℕ
last_word text = reverse (taken is_solid (reverse text))

unfoldable pub before_last_word : List ℕ → List ℕ
before_last_word text = reverse (dropped is_solid (reverse text))

abbrev pub is_word : List ℕ → List ℕ → Bool
is_word word name = pointwise nat_eq word name

unfoldable pub more_rule_named : List ℕ → Option Rule
more_rule_named word =
    if is_word word (codes "pick") then Some rule.Pick
    else (if is_word word (codes "induct") then Some rule.Induct
    else (if is_word word (codes "rewrite") then Some rule.Rewrite
    else (if is_word word (codes "divmod") then Some rule.DivMod
    else (if is_word word (codes "range") then Some rule.Range
    else (if is_word word (codes "read") then Some rule.Read
    else (if is_word word (codes "rom") then Some rule.Rom
    else (if is_word word (codes "frame") then Some rule.Frame
    else (if is_word word (codes "bits") then Some rule.Bits
    else (if is_word word (codes "bitof") then Some rule.BitOf
    else (if is_word word (codes "choose") then Some rule.Choose
    else (if is_word word (codes "empty") then Some rule.Empty
    else (if is_word word (codes "last") then Some rule.Last
    else (if is_word word (codes "over") then Some rule.Over
    else None)))))))))))))

unfoldable pub rule_named : List ℕ → Option Rule
rule_named word =
    if is_word word (codes "linear") then Some rule.Linear
    else (if is_word word (codes "cut") then Some rule.Cut
    else (if is_word word (codes "use") then Some rule.UseBoth
    else (if is_word word (codes "close") then Some rule.Close
    else (if is_word word (codes "split") then Some rule.Split
    else (if is_word word (codes "simp") then Some rule.Simp
    else (if is_word word (codes "intro") then Some rule.Intro
    else (if is_word word (codes "side") then Some rule.Side
    else (if is_word word (codes "unpack") then Some rule.Unpack
    else (if is_word word (codes "cases") then Some rule.Cases
    else (if is_word word (codes "fix") then Some rule.Fix
    else (if is_word word (codes "at") then Some rule.At
    else (if is_word word (codes "give") then Some rule.Give
    else more_rule_named word))))))))))))
