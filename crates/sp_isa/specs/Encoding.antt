-- What comes after the first byte of a code. Only the proof of the encoder speaks of it.
use Rattle.std.specs.Prelude.{ℕ, List, [], ◌∷◌}
use Rattle.sp_isa.specs.Code.{bytes_of}
use Rattle.sp_isa.specs.declared.encoding.Operand.{Operand}
use Rattle.sp_isa.specs.declared.encoding.Operand.TheVariants.{Nothing, Byte, Word}

abbrev pub operand_bytes : Operand → List ℕ
operand_bytes Nothing = []
operand_bytes (Byte n) = n ∷ []
operand_bytes (Word w) = bytes_of w
