-- Words that have a form, and words that have none.
use Rattle.std.proofs.Common.{◌≡◌, ℕ, nat_eq, true, false, ◌<◌, List, [], ◌∷◌, length, get_or, drop, refl, sym, ap, subst, ◌∙◌, arith, codes, lit<}
use Rattle.std.specs.Prelude.{IsSome}
use Rattle.sp_lex.specs.Numbers.{number_of}
use Rattle.sp_run.specs.Options.{options_of}
use Rattle.sp_run.specs.Words.{given_from}
use Rattle.sp_cli.specs.Command.{Verify, Asm, Run, Check, HasForm, HasNoForm, IsFileName}
use Rattle.sp_command_laws.specs.Commands.{HaveForms, a, b, c, dashed}

-- the first letter of the first word
abbrev letter : List (List ℕ) → ℕ
letter words = get_or (get_or words 0 []) 0 0

module _ (words : List (List ℕ)) where
  abbrev NoVerify : Type 0
  NoVerify = (source scripts image : List ℕ) → ¬ HasForm words (Verify source scripts image)

  abbrev NoAsm : Type 0
  NoAsm = (source image : List ℕ) → ¬ HasForm words (Asm source image)

  abbrev NoRun : Type 0
  NoRun = (image : List ℕ) (options : List (List ℕ)) → ¬ HasForm words (Run image options)

  abbrev NoCheck : Type 0
  NoCheck = (source : List ℕ) → ¬ HasForm words (Check source)

  none_with : NoCheck → NoVerify → NoAsm → NoRun → HasNoForm words
  none_with check verify asm run (Verify source scripts image) h = verify source scripts image h
  none_with check verify asm run (Asm source image) h = asm source image h
  none_with check verify asm run (Run image options) h = run image options h
  none_with check verify asm run (Check source) h = check source h

  not_check : nat_eq (letter words) 99 ≡ false → NoCheck
  not_check other source h = let e : true ≡ false = sym (ap (λ n. nat_eq n 99) (ap letter h.0)) ∙ other in absurd cc

  -- words that begin with another letter than that of `check`
  none : nat_eq (letter words) 99 ≡ false → NoVerify → NoAsm → NoRun → HasNoForm words
  none other verify asm run = none_with (not_check other) verify asm run

  verify_by_letter : (letter words ≡ 118 → ⊥) → NoVerify
  verify_by_letter other source scripts image h = other (ap letter h.0)

  asm_by_letter : (letter words ≡ 97 → ⊥) → NoAsm
  asm_by_letter other source image h = other (ap letter h.0)

  run_by_letter : (letter words ≡ 114 → ⊥) → NoRun
  run_by_letter other image options h = other (ap letter h.0)

  verify_by_length : (length words ≡ 4 → ⊥) → NoVerify
  verify_by_length other source scripts image h = other (ap length h.0)

-- the name of a file isn't `-a`
no_name : (words other : List (List ℕ)) (i : ℕ) → words ≡ other → get_or words i [] ≡ dashed → IsFileName (get_or other i []) → ⊥
no_name words other i same is h = subst IsFileName (sym (ap (λ ws. get_or ws i []) same) ∙ is) h refl

differ : (m n : ℕ) → m < n → m ≡ n → ⊥
differ m n less e = omega arith

apart : (m n : ℕ) → n < m → m ≡ n → ⊥
apart m n less e = omega arith

no_options : IsSome (options_of (codes "--pc" ∷ [])) → ⊥
unfolding options_of given_from
no_options h = absurd cc

no_value : NoRun (codes "run" ∷ c ∷ codes "--pc" ∷ [])
no_value image options h = no_options (subst (λ words. IsSome (options_of words)) (sym (ap (λ words. drop 2 words) h.0)) h.2)

abbrev no_asm_here : (words : List (List ℕ)) → letter words ≡ 118 → NoAsm words
no_asm_here words is = asm_by_letter words (λ e. apart 118 97 (lit< tt) (sym is ∙ e))

abbrev no_run_here : (words : List (List ℕ)) → letter words ≡ 118 → NoRun words
no_run_here words is = run_by_letter words (λ e. apart 118 114 (lit< tt) (sym is ∙ e))

no_source_is : HasNoForm (codes "verify" ∷ dashed ∷ b ∷ c ∷ [])
no_source_is =
    none (codes "verify" ∷ dashed ∷ b ∷ c ∷ []) refl (λ source scripts image h. no_name _ _ 1 h.0 refl h.1)
    (no_asm_here (codes "verify" ∷ dashed ∷ b ∷ c ∷ []) refl) (no_run_here (codes "verify" ∷ dashed ∷ b ∷ c ∷ []) refl)

no_scripts_is : HasNoForm (codes "verify" ∷ a ∷ dashed ∷ c ∷ [])
no_scripts_is =
    none (codes "verify" ∷ a ∷ dashed ∷ c ∷ []) refl (λ source scripts image h. no_name _ _ 2 h.0 refl h.2)
    (no_asm_here (codes "verify" ∷ a ∷ dashed ∷ c ∷ []) refl) (no_run_here (codes "verify" ∷ a ∷ dashed ∷ c ∷ []) refl)

no_image_is : HasNoForm (codes "verify" ∷ a ∷ b ∷ dashed ∷ [])
no_image_is =
    none (codes "verify" ∷ a ∷ b ∷ dashed ∷ []) refl (λ source scripts image h. no_name _ _ 3 h.0 refl h.3)
    (no_asm_here (codes "verify" ∷ a ∷ b ∷ dashed ∷ []) refl) (no_run_here (codes "verify" ∷ a ∷ b ∷ dashed ∷ []) refl)

too_few_is : HasNoForm (codes "verify" ∷ a ∷ b ∷ [])
too_few_is = none (codes "verify" ∷ a ∷ b ∷ []) refl (verify_by_length (codes "verify" ∷ a ∷ b ∷ []) (differ 3 4 (lit< tt)))
    (no_asm_here (codes "verify" ∷ a ∷ b ∷ []) refl) (no_run_here (codes "verify" ∷ a ∷ b ∷ []) refl)

too_many_is : HasNoForm (codes "verify" ∷ a ∷ b ∷ c ∷ c ∷ [])
too_many_is = none (codes "verify" ∷ a ∷ b ∷ c ∷ c ∷ []) refl (verify_by_length (codes "verify" ∷ a ∷ b ∷ c ∷ c ∷ []) (apart 5 4 (lit< tt)))
    (no_asm_here (codes "verify" ∷ a ∷ b ∷ c ∷ c ∷ []) refl) (no_run_here (codes "verify" ∷ a ∷ b ∷ c ∷ c ∷ []) refl)

asm_no_source_is : HasNoForm (codes "asm" ∷ dashed ∷ c ∷ [])
asm_no_source_is =
    none (codes "asm" ∷ dashed ∷ c ∷ []) refl (verify_by_letter (codes "asm" ∷ dashed ∷ c ∷ []) (differ 97 118 (lit< tt)))
    (λ source image h. no_name _ _ 1 h.0 refl h.1)
    (run_by_letter (codes "asm" ∷ dashed ∷ c ∷ []) (differ 97 114 (lit< tt)))

asm_no_image_is : HasNoForm (codes "asm" ∷ a ∷ dashed ∷ [])
asm_no_image_is =
    none (codes "asm" ∷ a ∷ dashed ∷ []) refl (verify_by_letter (codes "asm" ∷ a ∷ dashed ∷ []) (differ 97 118 (lit< tt)))
    (λ source image h. no_name _ _ 2 h.0 refl h.2)
    (run_by_letter (codes "asm" ∷ a ∷ dashed ∷ []) (differ 97 114 (lit< tt)))

run_no_image_is : HasNoForm (codes "run" ∷ dashed ∷ [])
run_no_image_is =
    none (codes "run" ∷ dashed ∷ []) refl (verify_by_letter (codes "run" ∷ dashed ∷ []) (differ 114 118 (lit< tt)))
    (asm_by_letter (codes "run" ∷ dashed ∷ []) (apart 114 97 (lit< tt)))
    (λ image options h. no_name _ _ 1 h.0 refl h.1)

run_no_value_is : HasNoForm (codes "run" ∷ c ∷ codes "--pc" ∷ [])
run_no_value_is =
    none (codes "run" ∷ c ∷ codes "--pc" ∷ []) refl (verify_by_letter (codes "run" ∷ c ∷ codes "--pc" ∷ []) (differ 114 118 (lit< tt)))
    (asm_by_letter (codes "run" ∷ c ∷ codes "--pc" ∷ []) (apart 114 97 (lit< tt))) no_value

-- words of `check` that have no form
none_of_check : (words : List (List ℕ)) → letter words ≡ 99 → NoCheck words → HasNoForm words
none_of_check words is check =
    none_with words check (verify_by_letter words (λ e. differ 99 118 (lit< tt) (sym is ∙ e)))
    (asm_by_letter words (λ e. apart 99 97 (lit< tt) (sym is ∙ e))) (run_by_letter words (λ e. differ 99 114 (lit< tt) (sym is ∙ e)))

check_no_source_is : HasNoForm (codes "check" ∷ dashed ∷ [])
check_no_source_is = none_of_check (codes "check" ∷ dashed ∷ []) refl (λ source h. no_name _ _ 1 h.0 refl h.1)

check_two_is : HasNoForm (codes "check" ∷ a ∷ b ∷ [])
check_two_is = none_of_check (codes "check" ∷ a ∷ b ∷ []) refl (λ source h. apart 3 2 (lit< tt) (ap length h.0))

capitals_is : HasNoForm (codes "ASM" ∷ a ∷ c ∷ [])
capitals_is =
    none (codes "ASM" ∷ a ∷ c ∷ []) refl (verify_by_letter (codes "ASM" ∷ a ∷ c ∷ []) (differ 65 118 (lit< tt)))
    (asm_by_letter (codes "ASM" ∷ a ∷ c ∷ []) (differ 65 97 (lit< tt))) (run_by_letter (codes "ASM" ∷ a ∷ c ∷ []) (differ 65 114 (lit< tt)))

nothing_is : HasNoForm []
nothing_is = none [] refl (verify_by_letter [] (differ 0 118 (lit< tt))) (asm_by_letter [] (differ 0 97 (lit< tt)))
    (run_by_letter [] (differ 0 114 (lit< tt)))

-- a letter that isn't `-`
no_dash : (m : ℕ) → 45 < m → m ≡ 45 → ⊥
no_dash m less e = apart m 45 less e

pub have_forms : HaveForms
unfolding options_of given_from number_of
have_forms = record {
  verify = (refl, no_dash 97 (lit< tt), no_dash 98 (lit< tt), no_dash 99 (lit< tt));
  no_source = no_source_is;
  no_scripts = no_scripts_is;
  no_image = no_image_is;
  too_few = too_few_is;
  too_many = too_many_is;
  asm = (refl, no_dash 97 (lit< tt), no_dash 99 (lit< tt));
  asm_no_source = asm_no_source_is;
  asm_no_image = asm_no_image_is;
  inner_dash = (refl, no_dash 97 (lit< tt), no_dash 99 (lit< tt));
  run = (refl, no_dash 99 (lit< tt), refl);
  run_no_image = run_no_image_is;
  run_no_value = run_no_value_is;
  check = (refl, no_dash 97 (lit< tt));
  check_no_source = check_no_source_is;
  check_two = check_two_is;
  capitals = capitals_is;
  nothing = nothing_is;
}
