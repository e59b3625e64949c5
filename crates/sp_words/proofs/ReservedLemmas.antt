-- Words are reserved exactly where they have a meaning.
use Rattle.std.proofs.Common.{◌≡◌, ℕ, Bool, true, false, List, Option, Some, None, refl, ap, inl, inr}
use Rattle.std.specs.Prelude.{◌||◌, ◌⊎◌, ◌↔◌, is_some}
use Rattle.sp_words.specs.code.Tables.{mnemonic_named, operator_named, arg_named, pair_named, stack_pair_named, is_reserved}
use Rattle.sp_words.specs.Manual.{form_of, instruction, directive as named_directive}
use Rattle.sp_words.specs.Reserved.{IsReserved, mnemonic, directive, operator, register, pair, stack_pair}
use Rattle.sp_words.proofs.NameLemmas.{mnemonic_exact, operator_exact, arg_exact, pair_exact, stack_pair_exact}

one_of : (a b : Bool) → (a || b) ≡ true → (a ≡ true) ⊎ (b ≡ true)
one_of true b e = inl refl
one_of false b e = inr e

first : (a b : Bool) → a ≡ true → (a || b) ≡ true
first true b e = refl
first false b e = absurd cc

second : (a b : Bool) → b ≡ true → (a || b) ≡ true
second true b e = refl
second false b e = e

pub the_some : {X : Type 0} (o : Option X) → is_some o ≡ true → (x : X) × (o ≡ Some x)
the_some None e = absurd cc
the_some (Some x) e = (x, refl)

called_is_reserved : (word : List ℕ) → is_some (mnemonic_named word) ≡ true → IsReserved word
called_is_reserved word e =
    let found = the_some (mnemonic_named word) e in
    elim ((mnemonic_exact word found.0).0 found.1) [
      | instruction i name form ↦ mnemonic i name
      | named_directive name ↦ directive found.0 name
    ]

has_meaning : (word : List ℕ) → is_reserved word ≡ true → IsReserved word
unfolding is_reserved
has_meaning word e =
    elim (one_of (is_some (mnemonic_named word)) _ e) [
      | inl h ↦ called_is_reserved word h
      | inr e ↦ elim (one_of (is_some (operator_named word)) _ e) [
        | inl h ↦ (let found = the_some (operator_named word) h in operator found.0 ((operator_exact word found.0).0 found.1))
        | inr e ↦ elim (one_of (is_some (arg_named word)) _ e) [
          | inl h ↦ (let found = the_some (arg_named word) h in register found.0 ((arg_exact word found.0).0 found.1))
          | inr e ↦ elim (one_of (is_some (pair_named word)) _ e) [
            | inl h ↦ (let found = the_some (pair_named word) h in pair found.0 ((pair_exact word found.0).0 found.1))
            | inr h ↦ (let found = the_some (stack_pair_named word) h in stack_pair found.0 ((stack_pair_exact word found.0).0 found.1))
          ]
        ]
      ]
    ]

module _ (word : List ℕ) where
  by_mnemonic : is_some (mnemonic_named word) ≡ true → is_reserved word ≡ true
  unfolding is_reserved
  by_mnemonic h = first (is_some (mnemonic_named word)) _ h

  by_operator : is_some (operator_named word) ≡ true → is_reserved word ≡ true
  unfolding is_reserved
  by_operator h = second (is_some (mnemonic_named word)) _ (first (is_some (operator_named word)) _ h)

  by_register : is_some (arg_named word) ≡ true → is_reserved word ≡ true
  unfolding is_reserved
  by_register h = second (is_some (mnemonic_named word)) _ (second (is_some (operator_named word)) _ (first (is_some (arg_named word)) _ h))

  by_pair : is_some (pair_named word) ≡ true → is_reserved word ≡ true
  unfolding is_reserved
  by_pair h =
      second (is_some (mnemonic_named word)) _ (second (is_some (operator_named word)) _ (second (is_some (arg_named word)) _
      (first (is_some (pair_named word)) _ h)))

  by_stack_pair : is_some (stack_pair_named word) ≡ true → is_reserved word ≡ true
  unfolding is_reserved
  by_stack_pair h =
      second (is_some (mnemonic_named word)) _ (second (is_some (operator_named word)) _ (second (is_some (arg_named word)) _
      (second (is_some (pair_named word)) _ h)))

  is_reserved_word : IsReserved word → is_reserved word ≡ true
  is_reserved_word (mnemonic i name) = by_mnemonic (ap is_some ((mnemonic_exact word (form_of i)).1 (instruction i name refl)))
  is_reserved_word (directive m name) = by_mnemonic (ap is_some ((mnemonic_exact word m).1 (named_directive name)))
  is_reserved_word (operator o name) = by_operator (ap is_some ((operator_exact word o).1 name))
  is_reserved_word (register y name) = by_register (ap is_some ((arg_exact word y).1 name))
  is_reserved_word (pair p name) = by_pair (ap is_some ((pair_exact word p).1 name))
  is_reserved_word (stack_pair p name) = by_stack_pair (ap is_some ((stack_pair_exact word p).1 name))

  pub reserved_exact : (is_reserved word ≡ true) ↔ IsReserved word
  reserved_exact = (has_meaning word, is_reserved_word)
