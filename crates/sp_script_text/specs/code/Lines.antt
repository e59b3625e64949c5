-- How the reader takes the lines that aren't steps. 45 is the ASCII code of the minus and 46 that of the full stop.
use Rattle.std.specs.Prelude.{ℕ, Bool, ◌==◌, ◌&&◌, nat_lt, nat_le, if◌then◌else◌, List, [], ◌∷◌, codes, length, Option, Some, None}
use Rattle.std.specs.List.{list_all}
use Rattle.sp_lex.specs.Bytes.{is_name_start, is_name_byte}
use Rattle.sp_lex.specs.Names.{folded}
use Rattle.sp_fdl.specs.Text.{is_blank}
use Rattle.sp_fdl.specs.code.Tokens.{◌>>=◌, taken, dropped}
use Rattle.sp_fdl.specs.code.Numbers.{name_number}
use Rattle.sp_script_text.specs.declared.script.Title.{Title}
use Rattle.sp_script_text.specs.code.Words.{word_of, after_word, after_space, trimmed, is_word}

abbrev pub is_ascii : ℕ → Bool
is_ascii byte = nat_lt byte 128

abbrev pub is_idle : List ℕ → Bool
is_idle [] = list_all is_blank []
is_idle (a ∷ []) = list_all is_blank (a ∷ [])
is_idle (a ∷ b ∷ rest) = if a == 45 && b == 45 then list_all is_ascii rest else list_all is_blank (a ∷ b ∷ rest)

unfoldable pub name_of_word : List ℕ → Option (List ℕ)
name_of_word [] = None
name_of_word (first ∷ rest) = if is_name_start first && nat_le (length (first ∷ rest)) 31 then Some (folded (first ∷ rest)) else None

abbrev pub number_after : List ℕ → List ℕ → Option Title
number_after name [] = None
number_after name (stop ∷ digits) = if stop == 46 then (name_number digits >>= λ k. Some (record { name = name; number = k })) else None

unfoldable pub title_of : List ℕ → Option Title
title_of text = name_of_word (taken is_name_byte text) >>= λ name. number_after name (dropped is_name_byte text)

unfoldable pub head_title : List ℕ → Option Title
head_title line = if is_word (word_of (trimmed line)) (codes "script") then (after_space (after_word (trimmed line)) >>= title_of) else None

unfoldable pub is_end : List ℕ → Bool
is_end line = is_word (trimmed line) (codes "end")
