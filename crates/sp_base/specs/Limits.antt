-- Limits of the processor and of the files that are read.
use Rattle.std.specs.Prelude.{ℕ, ◌+◌, ◌*◌, ◌/◌, ◌%◌}

-- how many addresses memory has: 0 to 65,535 (8080 manual, "Memory")
abbrev pub addresses : ℕ
addresses = 65536

-- how many values a byte has: 0 to 255
abbrev pub bytes : ℕ
bytes = 256

-- the low byte of a number: the number modulo 256
abbrev pub low : ℕ → ℕ
low n = n % 256

-- the high byte of a number of 16 bits
abbrev pub high : ℕ → ℕ
high n = n / 256

-- the number of 16 bits with these two bytes, the high one first
abbrev pub word : ℕ → ℕ → ℕ
word high_byte low_byte = 256 * high_byte + low_byte

-- texts that are read have fewer bytes than this, so that lines are counted in 32 bits. This project's own choice
abbrev pub text_limit : ℕ
text_limit = 4294967295
