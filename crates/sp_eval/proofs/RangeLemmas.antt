-- Counts and tests over ranges, one number at a time.
use Rattle.std.proofs.Common.{◌≡◌, ℕ, zero, suc, ◌+◌, ◌<◌, ◌≤◌, refl, sym, ◌∙◌, ap, arith, Bool, true, false, ℤ, pos}
use Rattle.std.specs.Prelude.{◌+ℤ◌}
use Rattle.sp_base.specs.Integers.{all_from, some_from}
use Rattle.sp_model.specs.Note.{Quantifier, ForAll, ForSome}
use Rattle.sp_eval.specs.Nodes.{count_from}
use Rattle.sp_eval.specs.code.Truth.{truth_over_none, joined, quantifies_from}

pub count_next : (g : ℤ → ℕ) (z : ℤ) (n m : ℕ) → n ≡ suc m → count_from g z n ≡ g z + count_from g (z +ℤ pos 1) m
unfolding count_from
count_next g z n m e = ap (count_from g z) e

pub count_none : (g : ℤ → ℕ) (z : ℤ) (n : ℕ) → n ≡ 0 → count_from g z n ≡ 0
unfolding count_from
count_none g z n e = ap (count_from g z) e

-- where each number counts, a range counts at least its length
pub counts_length : (g : ℤ → ℕ) (z : ℤ) (n : ℕ) → ((w : ℤ) → 0 < g w) → n ≤ count_from g z n
unfolding count_from
counts_length g z zero h = omega arith
counts_length g z (suc n) h = let some = h z in let rest = counts_length g (z +ℤ pos 1) n h in omega (arith, some, rest)

quantifies_suc : (q : Quantifier) (t : ℤ → Bool) (z : ℤ) (n : ℕ) → quantifies_from q t z (suc n) ≡ joined q (t z) (quantifies_from q t (z +ℤ pos 1) n)
unfolding all_from some_from
quantifies_suc ForAll t z n = refl
quantifies_suc ForSome t z n = refl

quantifies_zero : (q : Quantifier) (t : ℤ → Bool) (z : ℤ) → quantifies_from q t z zero ≡ truth_over_none q
unfolding all_from some_from
quantifies_zero ForAll t z = refl
quantifies_zero ForSome t z = refl

joined_grouped : (q : Quantifier) (a b c : Bool) → joined q (joined q a b) c ≡ joined q a (joined q b c)
joined_grouped ForAll true b c = refl
joined_grouped ForAll false b c = refl
joined_grouped ForSome true b c = refl
joined_grouped ForSome false b c = refl

joined_none : (q : Quantifier) (a : Bool) → joined q a (truth_over_none q) ≡ a
joined_none ForAll true = refl
joined_none ForAll false = refl
joined_none ForSome true = refl
joined_none ForSome false = refl

none_joined : (q : Quantifier) (a : Bool) → joined q (truth_over_none q) a ≡ a
none_joined ForAll a = refl
none_joined ForSome a = refl

-- the truth so far before any index
pub truth_begins : (q : Quantifier) (t : ℤ → Bool) (z : ℤ) (n : ℕ) (b : Bool) → b ≡ truth_over_none q → joined q b (quantifies_from q t z n) ≡ quantifies_from q t z n
truth_begins q t z n b e = ap (λ a. joined q a (quantifies_from q t z n)) e ∙ none_joined q (quantifies_from q t z n)

-- the truth so far takes in an index
pub truth_goes_on : (q : Quantifier) (t : ℤ → Bool) (z next : ℤ) (n m : ℕ) (so_far here after w : Bool) → n ≡ suc m → next ≡ z +ℤ pos 1 → here ≡ t z → after ≡ joined q so_far here → joined q so_far (quantifies_from q t z n) ≡ w → joined q after (quantifies_from q t next m) ≡ w
truth_goes_on q t z next n m so_far here after w e k h a i =
    ap (λ y. joined q after (quantifies_from q t y m)) k
    ∙ ap (λ b. joined q b (quantifies_from q t (z +ℤ pos 1) m)) (a ∙ ap (joined q so_far) h)
    ∙ joined_grouped q so_far (t z) (quantifies_from q t (z +ℤ pos 1) m)
    ∙ ap (joined q so_far) (sym (ap (quantifies_from q t z) e ∙ quantifies_suc q t z m)) ∙ i

-- the truth so far after all indices
pub truth_ends : (q : Quantifier) (t : ℤ → Bool) (z : ℤ) (n : ℕ) (so_far w : Bool) → n ≡ 0 → joined q so_far (quantifies_from q t z n) ≡ w → so_far ≡ w
truth_ends q t z n so_far w e i = sym (joined_none q so_far) ∙ ap (joined q so_far) (sym (ap (quantifies_from q t z) e ∙ quantifies_zero q t z)) ∙ i

-- the nodes of an index are taken from those that are left
pub paid_goes_on : (g : ℤ → ℕ) (z next : ℤ) (n m before left rest w : ℕ) → n ≡ suc m → next ≡ z +ℤ pos 1 → rest + g z ≡ left → before + count_from g z n ≡ left + w → before + count_from g next m ≡ rest + w
paid_goes_on g z next n m before left rest w e k paid h =
    let split = count_next g z n m e in
    let same = ap (λ y. count_from g y m) k in
    omega (arith, split, same)

-- where an index has more nodes than are left, so have all
pub passes : (g : ℤ → ℕ) (z : ℤ) (n m before left w : ℕ) → n ≡ suc m → before + count_from g z n ≡ left + w → left < g z → before < w
passes g z n m before left w e h over = let split = count_next g z n m e in omega (arith, split)

-- all is counted once no index is left
pub paid_ends : (g : ℤ → ℕ) (z : ℤ) (n before left w : ℕ) → n ≡ 0 → before + count_from g z n ≡ left + w → left + w ≡ before
paid_ends g z n before left w e h = let none = count_none g z n e in omega (arith, none)
