-- Names of a source's own are names that annotations may bind.
use Rattle.std.proofs.Common.{◌≡◌, ◌⊎◌, inl, inr, ℕ, suc, ◌-◌, ◌<◌, ◌≤◌, Bool, true, false, cond, ◌&&◌, ◌||◌, List, [], ◌∷◌, length, refl, sym, ap, subst, ◌∙◌, arith, IsTrue}
use Rattle.std.specs.Prelude.{nat_le, nat_lt, ◌==◌}
use Rattle.std.specs.Char.{to_ascii_uppercase}
use Rattle.std.specs.List.{AllByRecursion, list_all}
use Rattle.std.proofs.lemmas.Bool.Decides.{nat_tests}
use Rattle.std.proofs.lemmas.List.Elements.{All-from_recursion}
use Rattle.sp_lex.specs.Bytes.{is_name_start, is_name_byte}
use Rattle.sp_lex.specs.Names.{folded}
use Rattle.sp_lex.specs.Tokens.{IsWord}
use Rattle.sp_logic.specs.WellFormed.{IsBoundName, IsNameStart, IsNameByte}
use Rattle.sp_words.specs.Annotations.{IsAnnotationWord}
use Rattle.sp_words.specs.Reserved.{IsReserved}
use Rattle.sp_words.specs.code.Tables.{is_annotation_word, is_reserved}
use Rattle.sp_words.proofs.AnnotationLemmas.{is_annotation_exact}
use Rattle.sp_words.proofs.ReservedLemmas.{reserved_exact}

or_true : (a b : Bool) → (a || b) ≡ true → (a ≡ true) ⊎ (b ≡ true)
or_true true b h = inl refl
or_true false b h = inr h

and_true : (a b : Bool) → (a && b) ≡ true → (a ≡ true) × (b ≡ true)
and_true true b h = (refl, h)
and_true false b h = absurd cc

le_from : (a b : ℕ) → nat_le a b ≡ true → a ≤ b
le_from a b h = grind (arith, nat_tests)

eq_from : (a b : ℕ) → (a == b) ≡ true → a ≡ b
eq_from a b h = grind (arith, nat_tests)

lt_true : (a b : ℕ) → a < b → nat_lt a b ≡ true
lt_true a b h = grind (arith, nat_tests)

lt_false : (a b : ℕ) → b ≤ a → nat_lt a b ≡ false
lt_false a b h = grind (arith, nat_tests)

range : (low high b : ℕ) → (nat_le low b && nat_le b high) ≡ true → (low ≤ b) × (b ≤ high)
range low high b h = let both = and_true (nat_le low b) (nat_le b high) h in (le_from low b both.0, le_from b high both.1)

same_case : (b : ℕ) → b < 97 → to_ascii_uppercase b ≡ b
same_case b lt = ap (λ t. cond t b (cond (nat_lt b 123) (b - 32) b)) (lt_true b 97 lt)

upper_case : (b : ℕ) → 97 ≤ b → b ≤ 122 → to_ascii_uppercase b ≡ b - 32
upper_case b low high = ap (λ t. cond t b (cond (nat_lt b 123) (b - 32) b)) (lt_false b 97 low) ∙ ap (λ t. cond t (b - 32) b) (lt_true b 123 (omega arith))

letter_sign : (b : ℕ) → (b == 64) ≡ true → IsNameStart (to_ascii_uppercase b)
letter_sign b h = let is = eq_from b 64 h in subst IsNameStart (sym (same_case b (omega (arith, is)))) (inr (omega (arith, is), omega (arith, is)))

letter : (b : ℕ) → is_name_start b ≡ true → IsNameStart (to_ascii_uppercase b)
letter b h =
    elim (or_true (((nat_le 65 b && nat_le b 90) || (nat_le 97 b && nat_le b 122)) || b == 64) (b == 63) h) [
      | inl more ↦
          elim (or_true ((nat_le 65 b && nat_le b 90) || (nat_le 97 b && nat_le b 122)) (b == 64) more) [
            | inl alphabetic ↦
                elim (or_true (nat_le 65 b && nat_le b 90) (nat_le 97 b && nat_le b 122) alphabetic) [
                  | inl upper ↦ let is = range 65 90 b upper in subst IsNameStart (sym (same_case b (omega (arith, is.1)))) (inl is)
                  | inr lower ↦
                      let is = range 97 122 b lower in
                      subst IsNameStart (sym (upper_case b is.0 is.1)) (inl (omega (arith, is.0, is.1), omega (arith, is.0, is.1)))
                ]
            | inr at ↦ letter_sign b at
          ]
      | inr mark ↦ let is = eq_from b 63 mark in subst IsNameStart (sym (same_case b (omega (arith, is)))) (inr (omega (arith, is), omega (arith, is)))
    ]

byte : (b : ℕ) → is_name_byte b ≡ true → IsNameByte (to_ascii_uppercase b)
byte b h =
    elim (or_true (is_name_start b) (nat_le 48 b && nat_le b 57) h) [
      | inl start ↦ inl (letter b start)
      | inr digit ↦ let is = range 48 57 b digit in subst IsNameByte (sym (same_case b (omega (arith, is.1)))) (inr is)
    ]

bytes : (bs : List ℕ) → IsTrue (list_all is_name_byte bs) → AllByRecursion IsNameByte (folded bs)
bytes [] h = tt
bytes (b ∷ bs) h = let both = and_true (is_name_byte b) (list_all is_name_byte bs) h in (byte b both.0, bytes bs both.1)

length_folded : (bs : List ℕ) → length (folded bs) ≡ length bs
length_folded [] = refl
length_folded (b ∷ bs) = ap suc (length_folded bs)

not_reserved : (word : List ℕ) → is_reserved word ≡ false → ¬ IsReserved word
not_reserved word free is = let wrong : true ≡ false = sym ((reserved_exact word).1 is) ∙ free in cc

not_annotation : (word : List ℕ) → is_annotation_word word ≡ false → ¬ IsAnnotationWord word
not_annotation word new is = let wrong : true ≡ false = sym ((is_annotation_exact word).1 is) ∙ new in cc

-- a word in upper case that is no word of annotations or of the assembler is a name
pub own_name : (text : List ℕ) → IsWord text → length text ≤ 31 → is_reserved (folded text) ≡ false → is_annotation_word (folded text) ≡ false → IsBoundName (folded text)
own_name [] word short free new = absurd word
own_name (first ∷ rest) word short free new = record {
  some = omega arith;
  short = let same = length_folded (first ∷ rest) in omega (arith, same, short);
  start = letter first word.0;
  bytes = All-from_recursion IsNameByte (folded (first ∷ rest)) (inl (letter first word.0), bytes rest word.1);
  free = not_reserved (folded (first ∷ rest)) free;
  new = not_annotation (folded (first ∷ rest)) new;
}
