-- Names kept in 31 bytes.
use Rattle.std.specs.Prelude.{◌≡◌, ℕ, ◌-◌, ◌≤◌, List, ◌++◌, length, take, drop, replicate}
use Rattle.std.proofs.Common.{ap, sym, ◌∙◌, arith}
use Rattle.std.proofs.lemmas.List.{length-take, take-append-drop}

-- the bytes past the length are zeros
pub record IsPadded (bytes : List ℕ) (len : ℕ) : Type 0 where
  pub whole : length bytes ≡ 31
  pub within : len ≤ 31
  pub rest : drop len bytes ≡ replicate (31 - len) 0

-- the bytes of a name, and zeros up to 31
abbrev pub padded : List ℕ → List ℕ
padded name = name ++ replicate (31 - length name) 0

pub length-name : (bytes : List ℕ) (len : ℕ) → IsPadded bytes len → length (take len bytes) ≡ len
length-name bytes len h = omega (arith, length-take len bytes, h.whole, h.within)

-- a name gives its fields back
pub padded-name : (bytes : List ℕ) (len : ℕ) → IsPadded bytes len → padded (take len bytes) ≡ bytes
padded-name bytes len h =
    ap (λ n. take len bytes ++ replicate (31 - n) 0) (length-name bytes len h)
    ∙ ap (λ rest. take len bytes ++ rest) (sym h.rest) ∙ take-append-drop len bytes
