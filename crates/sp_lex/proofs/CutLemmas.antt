-- The pieces of a line, one after another.
use Rattle.std.proofs.Common.{◌≡◌, ℕ, zero, suc, ◌+◌, ◌-◌, ◌<◌, ◌≤◌, Bool, List, [], ◌∷◌, ◌++◌, length, take, drop, Option, refl, sym, ap, ◌∙◌, arith, append_assoc}
use Rattle.std.proofs.lemmas.List.{nil_from_length, length-take-le}
use Rattle.sp_lex.specs.declared.refusal.TextKind.{TextKind}
use Rattle.sp_lex.specs.declared.token.Token.{Token}
use Rattle.sp_lex.specs.declared.pieces.Piece.{Piece}
use Rattle.sp_lex.specs.Pieces.{token_of, tokens_from}
use Rattle.sp_lex.specs.code.Pieces.{cut, cuts, piece_at, fault_of, fault_in, first_fault}

pub cuts-taken : (annotation : Bool) (taken : ℕ) (bytes : List ℕ) → cuts annotation taken bytes ≡ cuts annotation 0 (drop taken bytes)
unfolding cuts
cuts-taken annotation zero bytes = refl
cuts-taken annotation (suc taken) [] = refl
cuts-taken annotation (suc taken) (byte ∷ bytes) = cuts-taken annotation taken bytes

pub cuts-none : (annotation : Bool) (bytes : List ℕ) → length bytes ≡ 0 → cuts annotation 0 bytes ≡ []
unfolding cuts
cuts-none annotation bytes none = ap (cuts annotation 0) (nil_from_length bytes none)

-- the first piece, and the pieces after it
pub cuts-first : (annotation : Bool) (len : ℕ) (bytes : List ℕ) → (piece_at annotation bytes).len ≡ len → 0 < length bytes → 0 < len
    → cuts annotation 0 bytes ≡ cut (piece_at annotation bytes) bytes ∷ cuts annotation 0 (drop len bytes)
unfolding cuts
cuts-first annotation zero bytes is some pos = absurd (omega arith)
cuts-first annotation (suc len) [] is some pos = absurd (omega arith)
cuts-first annotation (suc len) (byte ∷ bytes) is some pos =
    let n : (piece_at annotation (byte ∷ bytes)).len - 1 ≡ len = omega arith in
    ap (λ cs. cut (piece_at annotation (byte ∷ bytes)) (byte ∷ bytes) ∷ cs)
    (ap (λ k. cuts annotation k bytes) n ∙ cuts-taken annotation len bytes)

-- one turn of a scan: what is wrong with the first piece, and its token
fault_in-first : (annotation : Bool) (len : ℕ) (bytes : List ℕ) (before : Option TextKind) → (piece_at annotation bytes).len ≡ len → 0 < length bytes → 0 < len
    → fault_in annotation before (cuts annotation 0 bytes)
    ≡ fault_in annotation (first_fault before (fault_of annotation (piece_at annotation bytes).kind (take (piece_at annotation bytes).len bytes))) (cuts annotation 0 (drop len bytes))
fault_in-first annotation len bytes before is some pos = ap (fault_in annotation before) (cuts-first annotation len bytes is some pos)

tokens_from-first : (annotation : Bool) (at len : ℕ) (bytes : List ℕ) (before : List Token) → (piece_at annotation bytes).len ≡ len → 0 < length bytes → 0 < len → len ≤ length bytes
    → before ++ tokens_from at (cuts annotation 0 bytes)
    ≡ (before ++ token_of (piece_at annotation bytes).kind at (at + len)) ++ tokens_from (at + len) (cuts annotation 0 (drop len bytes))
unfolding tokens_from
tokens_from-first annotation at len bytes before is some pos fits =
    let l : length (take (piece_at annotation bytes).len bytes) ≡ len = length-take-le (piece_at annotation bytes).len bytes (omega arith) ∙ is in
    ap (λ cs. before ++ tokens_from at cs) (cuts-first annotation len bytes is some pos)
    ∙ ap (λ n. before ++ (token_of (piece_at annotation bytes).kind at (at + n) ++ tokens_from (at + n) (cuts annotation 0 (drop len bytes)))) l
    ∙ sym (append_assoc before (token_of (piece_at annotation bytes).kind at (at + len)) (tokens_from (at + len) (cuts annotation 0 (drop len bytes))))

-- the same, for what a scan finds
pub fault_in-scanned : (annotation : Bool) (bytes text after : List ℕ) (piece : Piece) (before fault next : Option TextKind) → piece ≡ piece_at annotation bytes → 0 < length bytes → 0 < piece.len
    → text ≡ take piece.len bytes → after ≡ drop piece.len bytes → fault ≡ fault_of annotation piece.kind text → next ≡ first_fault before fault
    → fault_in annotation next (cuts annotation 0 after) ≡ fault_in annotation before (cuts annotation 0 bytes)
fault_in-scanned annotation bytes text after piece before fault next piece_is some pos text_is after_is fault_is next_is =
    rw (next_is, fault_is, text_is, after_is)
    (sym (fault_in-first annotation piece.len bytes before (ap (λ (p : Piece). p.len) (sym piece_is)) some pos
    ∙ ap (λ (p : Piece). fault_in annotation (first_fault before (fault_of annotation p.kind (take p.len bytes))) (cuts annotation 0 (drop piece.len bytes))) (sym piece_is)))

pub tokens_from-scanned : (annotation : Bool) (at : ℕ) (bytes after : List ℕ) (piece : Piece) (before next : List Token) → piece ≡ piece_at annotation bytes → 0 < length bytes → 0 < piece.len → piece.len ≤ length bytes
    → after ≡ drop piece.len bytes → next ≡ before ++ token_of piece.kind at (at + piece.len)
    → next ++ tokens_from (at + piece.len) (cuts annotation 0 after) ≡ before ++ tokens_from at (cuts annotation 0 bytes)
tokens_from-scanned annotation at bytes after piece before next piece_is some pos fits after_is next_is =
    rw (next_is, after_is)
    (sym (tokens_from-first annotation at piece.len bytes before (ap (λ (p : Piece). p.len) (sym piece_is)) some pos fits
    ∙ ap (λ (p : Piece). (before ++ token_of p.kind at (at + piece.len)) ++ tokens_from (at + piece.len) (cuts annotation 0 (drop piece.len bytes))) (sym piece_is)))

pub tokens_from-none : (annotation : Bool) (at : ℕ) (bytes : List ℕ) → length bytes ≡ 0 → tokens_from at (cuts annotation 0 bytes) ≡ []
unfolding tokens_from
tokens_from-none annotation at bytes none = ap (tokens_from at) (cuts-none annotation bytes none)
