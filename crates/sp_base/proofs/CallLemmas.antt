-- The last call of a log ends.
use Rattle.std.proofs.Common.{◌≡◌, ◌∷◌, ◌++◌, [], List, ℕ, suc, ◌-◌, length, refl, sym, ap, subst, ◌∙◌, arith}
use Rattle.std.specs.Prelude.{map, slice_set, slice_index_or}
use Rattle.sp_base.specs.declared.calls.Outcome.{Outcome}
use Rattle.sp_base.specs.declared.calls.FileCall.{FileCall}
use Rattle.sp_base.specs.Calls.{Call, call_of, ended}

abbrev rest : List Call → List Call
rest [] = []
rest (c ∷ cs) = cs

-- a value in place of the last of a list
pub last_set : (calls : List FileCall) (before : List Call) (last : Call) (c : FileCall) → map call_of calls ≡ before ++ last ∷ [] → map call_of (slice_set calls (length calls - 1) c) ≡ before ++ call_of c ∷ []
last_set [] [] last c h = cc
last_set [] (b ∷ before) last c h = cc
last_set (x ∷ []) [] last c h = refl
last_set (x ∷ []) (b ∷ []) last c h = absurd (let e : [] ≡ last ∷ [] = ap rest h in cc)
last_set (x ∷ []) (b ∷ b' ∷ before) last c h = absurd (let e : [] ≡ b' ∷ (before ++ last ∷ []) = ap rest h in cc)
last_set (x ∷ y ∷ calls) [] last c h = absurd (let e : call_of y ∷ map call_of calls ≡ [] = ap rest h in cc)
last_set (x ∷ y ∷ calls) (b ∷ before) last c h =
    let below = last_set (y ∷ calls) before last c (ap rest h) in
    let here : call_of x ≡ b = cc in
    let at : suc (suc (length calls)) - 1 ≡ suc (length calls) = omega arith in
    let at' : suc (length calls) - 1 ≡ length calls = omega arith in
    rw at (ap (λ k. call_of x ∷ map call_of (slice_set (y ∷ calls) k c)) (sym at') ∙ ap (λ cs. call_of x ∷ cs) below ∙ ap (λ d. d ∷ (before ++ call_of c ∷ [])) here)

-- the last of a list
pub last_item : (calls : List FileCall) (before : List Call) (last : Call) (d : FileCall) → map call_of calls ≡ before ++ last ∷ [] → call_of (slice_index_or calls (length calls - 1) d) ≡ last
last_item [] [] last d h = cc
last_item [] (b ∷ before) last d h = cc
last_item (x ∷ []) [] last d h = cc
last_item (x ∷ []) (b ∷ []) last d h = absurd (let e : [] ≡ last ∷ [] = ap rest h in cc)
last_item (x ∷ []) (b ∷ b' ∷ before) last d h = absurd (let e : [] ≡ b' ∷ (before ++ last ∷ []) = ap rest h in cc)
last_item (x ∷ y ∷ calls) [] last d h = absurd (let e : call_of y ∷ map call_of calls ≡ [] = ap rest h in cc)
last_item (x ∷ y ∷ calls) (b ∷ before) last d h =
    let below = last_item (y ∷ calls) before last d (ap rest h) in
    let at : suc (suc (length calls)) - 1 ≡ suc (length calls) = omega arith in
    let at' : suc (length calls) - 1 ≡ length calls = omega arith in
    rw at (ap (λ k. call_of (slice_index_or (y ∷ calls) k d)) (sym at') ∙ below)

-- the last call with another end, n being how many calls there are
pub last_ends : (calls : List FileCall) (n : ℕ) (before : List Call) (last : Call) (x : FileCall) (outcome : Outcome) → n ≡ length calls → map call_of calls ≡ before ++ last ∷ [] → x ≡ slice_index_or calls (n - 1) x
    → map call_of (slice_set calls (n - 1) (record { access = x.access; name = x.name; outcome = outcome })) ≡ before ++ ended last outcome ∷ []
last_ends calls n before last x outcome len h =
    let c : FileCall = record { access = x.access; name = x.name; outcome = outcome } in
    subst (λ m. x ≡ slice_index_or calls (m - 1) x → map call_of (slice_set calls (m - 1) c) ≡ before ++ ended last outcome ∷ []) (sym len)
    (λ is.
    let same : call_of x ≡ last = ap call_of is ∙ last_item calls before last x h in
    last_set calls before last c h ∙ ap (λ d. before ++ ended d outcome ∷ []) same)
