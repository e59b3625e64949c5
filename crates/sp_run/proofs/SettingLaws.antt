-- Settings and their texts.
use Rattle.std.proofs.Common.{◌≡◌, ◌∙◌, ap, refl, ℕ, ◌+◌, ◌≤◌, arith, Bool, true, false, ltb, ltb-false, List, [], length, take, drop, Option, Some, None, drop_of_length-le}
use Rattle.std.specs.Prelude.{option_map, option_and_then, find, map, unwrap_or, ◌==◌}
use Rattle.std.specs.List.{position, position_or_len}
use Rattle.std.specs.Borrow.{Bor}
use Rattle.clap.proofs.WalkLemmas.{find-map}
use Rattle.sp_lex.specs.Numbers.{number_of}
use Rattle.sp_run.specs.declared.settings.Setting.{Setting}
use Rattle.sp_run.specs.declared.targets.Target.{Target}
use Rattle.sp_run.specs.declared.targets.Target.TheVariants.{Register, Pair, Flag, Input, Cell}
use Rattle.sp_run.specs.Settings.{is_named, target_in, setting_of, setting_with, target_of}

abbrev is_equals : ℕ → Bool
is_equals byte = byte == 61

-- a target is found in a table by its names' bytes
pub found_named : (text : List ℕ) (table : List (Bor (List ℕ) × Target))
    → option_map (λ entry. entry.1) (find (λ entry. is_named entry.0.now text) table)
    ≡ target_in (map (λ (entry : Bor (List ℕ) × Target). (entry.0.now, entry.1)) table) text
found_named text table =
    value_of (find (λ (entry : Bor (List ℕ) × Target). is_named entry.0.now text) table)
    ∙ ap (option_map (λ entry. entry.1)) (find-map (λ (entry : List ℕ × Target). is_named entry.0 text) (λ (entry : Bor (List ℕ) × Target). (entry.0.now, entry.1)) table)
  where
    value_of : (o : Option (Bor (List ℕ) × Target)) → option_map (λ entry. entry.1) o ≡ option_map (λ (entry : List ℕ × Target). entry.1) (option_map (λ (entry : Bor (List ℕ) × Target). (entry.0.now, entry.1)) o)
    value_of None = refl
    value_of (Some entry) = refl

no_value : (target : Target) → setting_with target [] ≡ None
unfolding number_of
no_value (Register r) = refl
no_value (Pair p) = refl
no_value (Flag f) = refl
no_value Input = refl
no_value (Cell a) = refl

pub no_equals : (text : List ℕ) → position is_equals text ≡ None → setting_of text ≡ None
unfolding setting_of
no_equals text none = go (ltb (position_or_len is_equals text) (length text)) refl
  where
    value : Option Target → List ℕ → Option Setting
    value target rest = option_and_then (λ t. setting_with t rest) target

    none_of : (target : Option Target) → option_and_then (λ t. setting_with t []) target ≡ None
    none_of None = refl
    none_of (Some t) = no_value t

    go : (b : Bool) → ltb (position_or_len is_equals text) (length text) ≡ b → setting_of text ≡ None
    go true is = let some : Some (position_or_len is_equals text) ≡ None = rw is at none in cc
    go false is =
        let past : length text ≤ position_or_len is_equals text = ltb-false _ _ is in
        ap (value (target_of (take (position_or_len is_equals text) text))) (drop_of_length-le text (omega arith)) ∙ none_of _

at_equals : (text : List ℕ) (end : ℕ) → position is_equals text ≡ Some end → position_or_len is_equals text ≡ end
at_equals text end some = go (ltb (position_or_len is_equals text) (length text)) refl
  where
    go : (b : Bool) → ltb (position_or_len is_equals text) (length text) ≡ b → position_or_len is_equals text ≡ end
    go true is = let same : Some (position_or_len is_equals text) ≡ Some end = rw is at some in ap (λ o. unwrap_or o 0) same
    go false is = let none : None ≡ Some end = rw is at some in cc

pub set_at : (text : List ℕ) (end : ℕ) → position is_equals text ≡ Some end
    → setting_of text ≡ option_and_then (λ target. setting_with target (drop (end + 1) text)) (target_of (take end text))
unfolding setting_of
set_at text end some = ap (λ n. option_and_then (λ target. setting_with target (drop (n + 1) text)) (target_of (take n text))) (at_equals text end some)
