-- What the first routines are, line by line.
use Rattle.std.specs.Prelude.{◌≡◌, List, ℕ, [], ◌∷◌, codes}
use Rattle.sp_gen.specs.Generated.{text_of, routine_lines, source_text, scripts_text}

abbrev pub four : List (List ℕ)
four =
    codes ";# stack 2300H, 23FFH"
    ∷ codes ";# routine G0" ∷ codes ";# post A = 0" ∷ codes ";# changes A" ∷ codes "G0: MVI A,0" ∷ codes "RET" ∷ codes ";# end"
    ∷ codes ";# routine G1" ∷ codes ";# post B = 0" ∷ codes ";# reads B" ∷ codes ";# changes B, FLAGS" ∷ codes ";# assert B >= 0"
    ∷ codes "G1: DCR B" ∷ codes "JNZ G1" ∷ codes "RET" ∷ codes ";# end"
    ∷ codes ";# routine G2" ∷ codes ";# post A = 0" ∷ codes ";# changes A" ∷ codes ";# depth 2" ∷ codes "G2: CALL G0" ∷ codes "RET" ∷ codes ";# end"
    ∷ codes ";# routine G3" ∷ codes ";# pre B <= C" ∷ codes ";# post A < C + 1" ∷ codes ";# reads B, C" ∷ codes ";# changes A"
    ∷ codes "G3: MOV A,B" ∷ codes "RET" ∷ codes ";# end"
    ∷ []

-- a routine has the number of another one modulo 256
pub record SourcesByExample : Type 0 where
  pub none : source_text 0 ≡ text_of (codes ";# stack 2300H, 23FFH" ∷ [])
  pub source : source_text 4 ≡ text_of four
  pub scripts : scripts_text 8 ≡ text_of (codes "script G3.1" ∷ codes "linear 1 1 h1" ∷ codes "end" ∷ codes "script G7.1" ∷ codes "linear 1 1 h1" ∷ codes "end" ∷ [])
  pub loads : routine_lines 260 ≡ codes ";# routine G260" ∷ codes ";# post A = 4" ∷ codes ";# changes A" ∷ codes "G260: MVI A,4" ∷ codes "RET" ∷ codes ";# end" ∷ []
  pub calls : routine_lines 258 ≡ codes ";# routine G258" ∷ codes ";# post A = 0" ∷ codes ";# changes A" ∷ codes ";# depth 2" ∷ codes "G258: CALL G256" ∷ codes "RET" ∷ codes ";# end" ∷ []
