-- Which bytes a source is made of. Numbers are ASCII codes.
use Rattle.std.specs.Prelude.{ℕ, Bool, ◌||◌, ◌&&◌, ◌==◌, nat_le}
use Rattle.std.specs.Char.{is_ascii_alphabetic, is_ascii_digit}

-- space and tab
abbrev pub is_blank : ℕ → Bool
is_blank byte = byte == 32 || byte == 9

-- letters, @ and ?
abbrev pub is_name_start : ℕ → Bool
is_name_start byte = is_ascii_alphabetic byte || byte == 64 || byte == 63

abbrev pub is_name_byte : ℕ → Bool
is_name_byte byte = is_name_start byte || is_ascii_digit byte

-- what may stand outside comments: printed characters and the tab
abbrev pub is_plain : ℕ → Bool
is_plain byte = byte == 9 || (nat_le 32 byte && nat_le byte 126)

-- what may stand in a comment: bytes past ASCII too
abbrev pub is_comment_byte : ℕ → Bool
is_comment_byte byte = is_plain byte || nat_le 128 byte
