-- Digits that are read one pair after another.
use Rattle.std.proofs.Common.{◌≡◌, ℕ, suc, ◌<◌, List, [], ◌∷◌, ◌++◌, length, refl, sym, ap, ◌∙◌, Option, Some, None, arith, append_assoc}
use Rattle.std.proofs.lemmas.List.{append-nil, nil_from_length}
use Rattle.std.specs.Prelude.{option_map, option_and_then, unwrap_or}
use Rattle.sp_hex.specs.Hex.{byte_of, bytes_of}
use Rattle.sp_hex.specs.code.Reading.{byte_at}

-- bytes read before, and what is read of the rest
abbrev pub with_front : List ℕ → Option (List ℕ) → Option (List ℕ)
with_front front read = option_map (λ bytes. front ++ bytes) read

pub front_nil : (read : Option (List ℕ)) → with_front [] read ≡ read
front_nil None = refl
front_nil (Some bytes) = refl

-- what reading comes to after one more byte
abbrev then_rest : Option (ℕ × List ℕ) → Option (List ℕ)
then_rest found = option_and_then (λ x. option_map (λ bytes. x.0 ∷ bytes) (bytes_of x.1)) found

then_of : (o : Option ℕ) (digits : List ℕ) → option_and_then (λ byte. option_map (λ bytes. byte ∷ bytes) (bytes_of digits)) o ≡ then_rest (option_map (λ byte. (byte, digits)) o)
then_of None digits = refl
then_of (Some byte) digits = refl

bytes_by_one : (digits : List ℕ) → 0 < length digits → bytes_of digits ≡ then_rest (byte_at digits)
unfolding bytes_of byte_at
bytes_by_one [] some = absurd (omega arith)
bytes_by_one (high ∷ []) some = refl
bytes_by_one (high ∷ low ∷ digits) some = then_of (byte_of high low) digits

one_more : (front : List ℕ) (byte : ℕ) (read : Option (List ℕ)) → with_front front (option_map (λ bytes. byte ∷ bytes) read) ≡ with_front (front ++ byte ∷ []) read
one_more front byte None = refl
one_more front byte (Some bytes) = ap (λ (x : List ℕ). Some x) (sym (append_assoc front (byte ∷ []) bytes))

pub reads_on : (front new digits rest : List ℕ) (byte : ℕ) (total : Option (List ℕ)) → 0 < length digits → byte_at digits ≡ Some (byte, rest) → new ≡ front ++ byte ∷ []
    → with_front front (bytes_of digits) ≡ total → with_front new (bytes_of rest) ≡ total
reads_on front new digits rest byte total some found is so_far =
    ap (λ (x : List ℕ). with_front x (bytes_of rest)) is ∙ sym (one_more front byte (bytes_of rest))
    ∙ ap (with_front front) (sym (bytes_by_one digits some ∙ ap then_rest found)) ∙ so_far

pub reads_none : (front digits : List ℕ) (total : Option (List ℕ)) → 0 < length digits → byte_at digits ≡ None → with_front front (bytes_of digits) ≡ total → None ≡ total
reads_none front digits total some found so_far = sym (ap (with_front front) (bytes_by_one digits some ∙ ap then_rest found)) ∙ so_far

pub reads_all : (front digits : List ℕ) (total : Option (List ℕ)) → length digits ≡ 0 → with_front front (bytes_of digits) ≡ total → Some front ≡ total
unfolding bytes_of
reads_all front digits total none so_far =
    ap (λ (x : List ℕ). Some x) (sym (append-nil front)) ∙ ap (λ (x : List ℕ). with_front front (bytes_of x)) (sym (nil_from_length digits none)) ∙ so_far

behind : (o : Option ℕ) (digits rest : List ℕ) (byte : ℕ) → option_map {U = ℕ × List ℕ} (λ b. (b, digits)) o ≡ Some (byte, rest) → length rest < suc (suc (length digits))
behind None digits rest byte found = absurd cc
behind (Some b) digits rest byte found =
    let same : digits ≡ rest = ap (λ (o : Option (ℕ × List ℕ)). (unwrap_or o (0, [])).1) found in
    omega (arith, ap length same)

pub shorter : (digits rest : List ℕ) (byte : ℕ) → byte_at digits ≡ Some (byte, rest) → length rest < length digits
unfolding byte_at
shorter [] rest byte found = absurd cc
shorter (high ∷ []) rest byte found = absurd cc
shorter (high ∷ low ∷ digits) rest byte found = behind (byte_of high low) digits rest byte found
