-- The scan for nesting finds the depth of the tree.
use Rattle.std.proofs.Common.{◌≡◌, ℕ, ◌+◌, ◌-◌, ◌<◌, ◌≤◌, Bool, true, false, cond, ltb, List, [], ◌∷◌, ◌++◌, length, get_or, take, refl, sym, ap, ◌∙◌, arith, append_assoc, inl, inr}
use Rattle.std.specs.Prelude.{◌&&◌, ◌⊎◌}
use Rattle.std.proofs.Common.{length-append}
use Rattle.std.proofs.lemmas.Bool.{cases_Bool, cases_lt}
use Rattle.std.proofs.lemmas.List.{append-nil}
use Rattle.std.proofs.Math.Seq.{take-append_seam}
use Rattle.sp_expr.specs.declared.setting.Setting.{Setting}
use Rattle.sp_expr.specs.declared.word.Operator.{Operator}
use Rattle.sp_expr.specs.declared.word.Word.{Word}
use Rattle.sp_expr.specs.declared.word.Word.TheVariants as words
use Rattle.sp_expr.specs.declared.nesting.Nest.{Nest}
use Rattle.sp_expr.specs.Arithmetic.{rank_of}
use Rattle.sp_expr.specs.code.Evaluation.{fits}
use Rattle.sp_expr.specs.code.Nesting.{nest, nests, has_room, may_follow, open_after, nests_within}
use Rattle.sp_expr.specs.Trees.{Tree, Number, Name, Here, Paren, Sign, Not, Binary, rank_of_tree, IsExpression, spelling, depth_of, SpellsIn}
use Rattle.sp_expr.proofs.ValueLaws.{no_third}

last_is : (outer : List Nest) (n : Nest) → get_or (outer ++ n ∷ []) (length outer) (nest 0 0) ≡ n
last_is [] n = refl
last_is (first ∷ outer) n = last_is outer n

popped : (here n : Nest) (outer : List Nest) → open_after (nests here (outer ++ n ∷ [])) words.Close ≡ nests n outer
popped here n outer =
    let k : length (outer ++ n ∷ []) - 1 ≡ length outer = omega (arith, length-append outer (n ∷ [])) in
    ap (λ i. nests (get_or (outer ++ n ∷ []) i (nest 0 0)) (take i (outer ++ n ∷ []))) k
    ∙ ap (λ front. nests (get_or (outer ++ n ∷ []) (length outer) (nest 0 0)) front) (take-append_seam outer (n ∷ [])) ∙ ap (λ last. nests last outer) (last_is outer n)

both_true : (a b : Bool) → a ≡ true → b ≡ true → (a && b) ≡ true
both_true true true p q = refl
both_true true false p q = absurd cc
both_true false b p q = absurd cc

room : (out n : ℕ) (outer : List Nest) → length outer ≤ out → out + n < 64 → has_room (nests (nest out n) outer) ≡ true
room out n outer short lt = both_true (ltb (out + n) 64) (ltb (length outer) 64) (grind arith) (grind arith)

no_room : (out n : ℕ) (outer : List Nest) → 64 ≤ out + n → has_room (nests (nest out n) outer) ≡ false
no_room out n outer le = let e : ltb (out + n) 64 ≡ false = grind arith in rw e refl

abbrev Within : ℕ → ℕ → List Nest → List Word → Bool
Within out n outer ws = nests_within (nests (nest out n) outer) ws

opens : (out n : ℕ) (outer : List Nest) (ws : List Word) → has_room (nests (nest out n) outer) ≡ true → Within out n outer (words.Open ∷ ws) ≡ Within (out + n + 1) 0 (outer ++ nest out n ∷ []) ws
unfolding nests_within
opens out n outer ws r = ap (λ b. b && Within (out + n + 1) 0 (outer ++ nest out n ∷ []) ws) r

inverts : (out n : ℕ) (outer : List Nest) (ws : List Word) → has_room (nests (nest out n) outer) ≡ true → Within out n outer (words.Not ∷ ws) ≡ Within out (n + 1) outer ws
unfolding nests_within
inverts out n outer ws r = ap (λ b. b && Within out (n + 1) outer ws) r

stops : (out n : ℕ) (outer : List Nest) (ws : List Word) (word : Word) → may_follow (nests (nest out n) outer) word ≡ false → Within out n outer (word ∷ ws) ≡ false
unfolding nests_within
stops out n outer ws word r = ap (λ b. b && nests_within (open_after (nests (nest out n) outer) word) ws) r

closes : (out n : ℕ) (here : Nest) (outer : List Nest) (ws : List Word) → nests_within (nests here (outer ++ nest out n ∷ [])) (words.Close ∷ ws) ≡ Within out n outer ws
unfolding nests_within
closes out n here outer ws = ap (λ s. nests_within s ws) (popped here (nest out n) outer)

goes_low : (out n : ℕ) (outer : List Nest) (operator : Operator) (ws : List Word) → ltb 2 (rank_of operator) ≡ false → Within out n outer (words.Operator operator ∷ ws) ≡ Within out n outer ws
unfolding nests_within
goes_low out n outer operator ws e = ap (λ b. nests_within (nests (cond b (nest out 0) (nest out n)) outer) ws) e

goes_high : (out n : ℕ) (outer : List Nest) (operator : Operator) (ws : List Word) → ltb 2 (rank_of operator) ≡ true → Within out n outer (words.Operator operator ∷ ws) ≡ Within out 0 outer ws
unfolding nests_within
goes_high out n outer operator ws e = ap (λ b. nests_within (nests (cond b (nest out 0) (nest out n)) outer) ws) e

paren_words : (t : Tree) (rest : List Word) → spelling (Paren t) ++ rest ≡ words.Open ∷ (spelling t ++ words.Close ∷ rest)
unfolding spelling
paren_words t rest = ap (λ ws. words.Open ∷ ws) (append_assoc (spelling t) (words.Close ∷ []) rest)

binary_words : (operator : Operator) (l r : Tree) (rest : List Word) → spelling (Binary operator l r) ++ rest ≡ spelling l ++ words.Operator operator ∷ (spelling r ++ rest)
unfolding spelling
binary_words operator l r rest = append_assoc (spelling l) (words.Operator operator ∷ spelling r) rest

low_rank : (rank : ℕ) → ltb 2 rank ≡ false → rank ≤ 2
low_rank rank e = grind arith

high_rank : (rank : ℕ) → ltb 2 rank ≡ true → 2 < rank
high_rank rank e = grind arith

sign_low : (rank : ℕ) → rank ≡ 2 → ltb 2 rank ≡ false
sign_low rank e = rw e refl

-- what NOT stands before at this place ends with the tree, or nothing does
abbrev Ends : ℕ → ℕ → Type 0
Ends rank n = (rank ≤ 3) ⊎ (n ≡ 0)

keeps : (setting : Setting) (t : Tree) → IsExpression setting t → (out n : ℕ) (outer : List Nest) (rest : List Word) → Ends (rank_of_tree t) n → length outer ≤ out → out + n + depth_of t ≤ 64
    → (m : ℕ) × (Within out n outer (spelling t ++ rest) ≡ Within out m outer rest) × (rank_of_tree t ≤ 2 → m ≡ n)
unfolding spelling nests_within
keeps setting (Number v) h out n outer rest ends short fits = (n, refl, λ _. refl)
keeps setting (Name name) h out n outer rest ends short fits = (n, refl, λ _. refl)
keeps setting Here h out n outer rest ends short fits = (n, refl, λ _. refl)
keeps setting (Paren t) h out n outer rest ends short fits =
    let inside = keeps setting t h (out + n + 1) 0 (outer ++ nest out n ∷ []) (words.Close ∷ rest) (inr refl) (omega (arith, length-append outer (nest out n ∷ []))) (omega arith) in (
      n,
      ap (Within out n outer) (paren_words t rest) ∙ opens out n outer (spelling t ++ words.Close ∷ rest) (room out n outer short (omega arith)) ∙ inside.1
          ∙ closes out n (nest (out + n + 1) inside.0) outer rest,
      λ _. refl,
    )
keeps setting (Sign sign t) h out n outer rest ends short fits =
    let inside = keeps setting t h.2 out n outer rest (inl (omega (arith, h.1))) short fits in
    (inside.0, goes_low out n outer sign (spelling t ++ rest) (sign_low (rank_of sign) h.0) ∙ inside.1, λ _. inside.2 (omega (arith, h.1)))
keeps setting (Not t) h out n outer rest ends short fits =
    let inside = keeps setting t h.1 out (n + 1) outer rest (inl h.0) short (omega arith) in
    (inside.0, inverts out n outer (spelling t ++ rest) (room out n outer short (omega arith)) ∙ inside.1, λ le. absurd (omega arith))
keeps setting (Binary operator l r) h out n outer rest ends short fits =
    let first = keeps setting l h.2 out n outer (words.Operator operator ∷ (spelling r ++ rest))
    (elim ends as (λ _. Ends (rank_of_tree l) n) [ inl le ↦ inl (omega (arith, h.0)) | inr z ↦ inr z ]) short (omega arith) in
    elim (cases_Bool (ltb 2 (rank_of operator))) [
      | inl high ↦
          let second = keeps setting r h.3 out 0 outer rest (inr refl) short (omega arith) in (
            second.0,
            ap (Within out n outer) (binary_words operator l r rest) ∙ first.1 ∙ goes_high out first.0 outer operator (spelling r ++ rest) high ∙ second.1,
            λ le. absurd (omega (arith, high_rank (rank_of operator) high)),
          )
      | inr low ↦
          let rank = low_rank (rank_of operator) low in
          let same : first.0 ≡ n = first.2 (omega (arith, h.0)) in
          let second = keeps setting r h.3 out first.0 outer rest (inl (omega (arith, h.1))) short (omega arith) in (
            second.0,
            ap (Within out n outer) (binary_words operator l r rest) ∙ first.1 ∙ goes_low out first.0 outer operator (spelling r ++ rest) low ∙ second.1,
            λ _. second.2 (omega (arith, h.1)) ∙ same,
          )
    ]

passes : (setting : Setting) (t : Tree) → IsExpression setting t → (out n : ℕ) (outer : List Nest) (rest : List Word) → Ends (rank_of_tree t) n → length outer ≤ out → out + n ≤ 64 → 64 < out + n + depth_of t
    → Within out n outer (spelling t ++ rest) ≡ false
unfolding spelling nests_within
passes setting (Number v) h out n outer rest ends short so_far deep = absurd (omega arith)
passes setting (Name name) h out n outer rest ends short so_far deep = absurd (omega arith)
passes setting Here h out n outer rest ends short so_far deep = absurd (omega arith)
passes setting (Paren t) h out n outer rest ends short so_far deep =
    ap (Within out n outer) (paren_words t rest) ∙ elim (cases_lt (out + n) 64) [
      | inl lt ↦
          opens out n outer (spelling t ++ words.Close ∷ rest) (room out n outer short lt)
          ∙ passes setting t h (out + n + 1) 0 (outer ++ nest out n ∷ []) (words.Close ∷ rest) (inr refl) (omega (arith, length-append outer (nest out n ∷ []))) (omega arith) (omega arith)
      | inr le ↦ stops out n outer (spelling t ++ words.Close ∷ rest) words.Open (no_room out n outer le)
    ]
passes setting (Sign sign t) h out n outer rest ends short so_far deep =
    goes_low out n outer sign (spelling t ++ rest) (sign_low (rank_of sign) h.0) ∙ passes setting t h.2 out n outer rest (inl (omega (arith, h.1))) short so_far deep
passes setting (Not t) h out n outer rest ends short so_far deep =
    elim (cases_lt (out + n) 64) [
      | inl lt ↦ inverts out n outer (spelling t ++ rest) (room out n outer short lt) ∙ passes setting t h.1 out (n + 1) outer rest (inl h.0) short (omega arith) (omega arith)
      | inr le ↦ stops out n outer (spelling t ++ rest) words.Not (no_room out n outer le)
    ]
passes setting (Binary operator l r) h out n outer rest ends short so_far deep =
    let first_ends = elim ends as (λ _. Ends (rank_of_tree l) n) [ inl le ↦ inl (omega (arith, h.0)) | inr z ↦ inr z ] in
    ap (Within out n outer) (binary_words operator l r rest) ∙ elim (cases_lt 64 (out + n + depth_of l)) [
      | inl lt ↦ passes setting l h.2 out n outer (words.Operator operator ∷ (spelling r ++ rest)) first_ends short so_far lt
      | inr le ↦
          let first = keeps setting l h.2 out n outer (words.Operator operator ∷ (spelling r ++ rest)) first_ends short le in
          first.1 ∙ elim (cases_Bool (ltb 2 (rank_of operator))) [
            | inl high ↦
                let none : n ≡ 0 = elim ends as (λ _. n ≡ 0) [ inl low ↦ absurd (no_third operator (omega (arith, high_rank (rank_of operator) high))) | inr z ↦ z ] in
                goes_high out first.0 outer operator (spelling r ++ rest) high ∙ passes setting r h.3 out 0 outer rest (inr refl) short (omega arith) (omega arith)
            | inr low ↦
                let rank = low_rank (rank_of operator) low in
                let same : first.0 ≡ n = first.2 (omega (arith, h.0)) in
                goes_low out first.0 outer operator (spelling r ++ rest) low ∙ passes setting r h.3 out first.0 outer rest (inl (omega (arith, h.1))) short (omega arith) (omega arith)
          ]
    ]

pub shallow : (setting : Setting) (ws : List Word) (t : Tree) → SpellsIn setting ws t → nests_within (nests (nest 0 0) []) ws ≡ true → depth_of t ≤ 64
shallow setting ws t h e =
    elim (cases_lt 64 (depth_of t)) [
      | inl lt ↦ absurd (let no = ap (Within 0 0 []) (sym (h.whole ∙ sym (append-nil (spelling t)))) ∙ e in
          let yes = passes setting t h.grammar 0 0 [] [] (inr refl) (omega arith) (omega arith) (omega arith) in cc)
      | inr le ↦ le
    ]

pub deep : (setting : Setting) (ws : List Word) (t : Tree) → SpellsIn setting ws t → nests_within (nests (nest 0 0) []) ws ≡ false → 64 < depth_of t
unfolding nests_within
deep setting ws t h e =
    elim (cases_lt 64 (depth_of t)) [
      | inl lt ↦ lt
      | inr le ↦ absurd (let no = ap (Within 0 0 []) (sym (h.whole ∙ sym (append-nil (spelling t)))) ∙ e in
          let yes = keeps setting t h.grammar 0 0 [] [] (inr refl) (omega arith) (omega arith) in
          let both : true ≡ false = sym yes.1 ∙ no in cc)
    ]

pub nests_shallow : (setting : Setting) (ws : List Word) (t : Tree) → SpellsIn setting ws t → depth_of t ≤ 64 → nests_within (nests (nest 0 0) []) ws ≡ true
unfolding nests_within
nests_shallow setting ws t h le =
    let kept = keeps setting t h.grammar 0 0 [] [] (inr refl) (omega arith) (omega arith) in
    ap (Within 0 0 []) (h.whole ∙ sym (append-nil (spelling t))) ∙ kept.1

fits_tree : (t : Tree) (opened : ℕ) (rest : List Word) → opened + depth_of t ≤ 64 → fits opened (spelling t ++ rest) ≡ fits opened rest
unfolding spelling fits
fits_tree (Number v) opened rest le = refl
fits_tree (Name name) opened rest le = refl
fits_tree Here opened rest le = refl
fits_tree (Paren t) opened rest le =
    let lt : ltb opened 64 ≡ true = grind arith in
    let back : opened + 1 - 1 ≡ opened = omega arith in
    ap (fits opened) (paren_words t rest) ∙ ap (λ b. b && fits (opened + 1) (spelling t ++ words.Close ∷ rest)) lt
    ∙ fits_tree t (opened + 1) (words.Close ∷ rest) (omega arith) ∙ ap (λ k. fits k rest) back
fits_tree (Sign sign t) opened rest le = fits_tree t opened rest le
fits_tree (Not t) opened rest le = fits_tree t opened rest (omega arith)
fits_tree (Binary operator l r) opened rest le =
    ap (fits opened) (binary_words operator l r rest) ∙ fits_tree l opened (words.Operator operator ∷ (spelling r ++ rest)) (omega arith) ∙ fits_tree r opened rest (omega arith)

pub fits_shallow : (setting : Setting) (ws : List Word) (t : Tree) → SpellsIn setting ws t → depth_of t ≤ 64 → fits 0 ws ≡ true
unfolding fits
fits_shallow setting ws t h le = ap (fits 0) (h.whole ∙ sym (append-nil (spelling t))) ∙ fits_tree t 0 [] (omega arith)
