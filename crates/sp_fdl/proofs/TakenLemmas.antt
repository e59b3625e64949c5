-- The front of a text as far as its bytes pass a test, by how many they are.
use Rattle.std.proofs.Common.{◌≡◌, ℕ, suc, ◌+◌, Bool, true, false, cond, List, [], ◌∷◌, take, drop, refl, ap, ◌∙◌, arith}
use Rattle.std.specs.List.{prefix_len}
use Rattle.std.specs.Char.{is_ascii_alphabetic}
use Rattle.sp_fdl.specs.Text.{is_blank, is_run}
use Rattle.sp_fdl.specs.code.Names.{letters_of, after_letters}
use Rattle.sp_fdl.specs.code.Tokens.{taken, dropped, after_blanks, run_of, after_run}

pub taken_is : (test : ℕ → Bool) (text : List ℕ) → take (prefix_len test text) text ≡ taken test text
taken_is test [] = refl
taken_is test (byte ∷ bytes) = by (test byte) (taken_is test bytes)
  where
    by : (b : Bool) → take (prefix_len test bytes) bytes ≡ taken test bytes → take (cond b (1 + prefix_len test bytes) 0) (byte ∷ bytes) ≡ cond b (byte ∷ taken test bytes) []
    by true h = let e : 1 + prefix_len test bytes ≡ suc (prefix_len test bytes) = omega arith in ap (λ n. take n (byte ∷ bytes)) e ∙ ap (λ w. byte ∷ w) h
    by false h = refl

pub dropped_is : (test : ℕ → Bool) (text : List ℕ) → drop (prefix_len test text) text ≡ dropped test text
dropped_is test [] = refl
dropped_is test (byte ∷ bytes) = by (test byte) (dropped_is test bytes)
  where
    by : (b : Bool) → drop (prefix_len test bytes) bytes ≡ dropped test bytes → drop (cond b (1 + prefix_len test bytes) 0) (byte ∷ bytes) ≡ cond b (dropped test bytes) (byte ∷ bytes)
    by true h = let e : 1 + prefix_len test bytes ≡ suc (prefix_len test bytes) = omega arith in ap (λ n. drop n (byte ∷ bytes)) e ∙ h
    by false h = refl

pub after_blanks_is : (text : List ℕ) → drop (prefix_len is_blank text) text ≡ after_blanks text
after_blanks_is text = dropped_is is_blank text

pub run_of_is : (text : List ℕ) → take (prefix_len is_run text) text ≡ run_of text
run_of_is text = taken_is is_run text

pub after_run_is : (text : List ℕ) → drop (prefix_len is_run text) text ≡ after_run text
after_run_is text = dropped_is is_run text

pub letters_is : (text : List ℕ) → take (prefix_len is_ascii_alphabetic text) text ≡ letters_of text
letters_is text = taken_is is_ascii_alphabetic text

pub after_letters_is : (text : List ℕ) → drop (prefix_len is_ascii_alphabetic text) text ≡ after_letters text
after_letters_is text = dropped_is is_ascii_alphabetic text
