-- The one form of command lines.
use Rattle.std.proofs.Common.{◌≡◌, ℕ, List, [], get_or, drop, sym, ap, ◌∙◌, arith}
use Rattle.sp_cli.specs.Command.{Command, Verify, Asm, Run, Check, HasForm}

-- the first letter of the first word
abbrev letter : List (List ℕ) → ℕ
letter words = get_or (get_or words 0 []) 0 0

-- words have one form
pub one_form : (words : List (List ℕ)) (c d : Command) → HasForm words c → HasForm words d → c ≡ d
one_form words (Verify s t i) (Verify s' t' i') h g =
    let same = sym h.0 ∙ g.0 in
    λ j. Verify (ap (λ ws. get_or ws 1 []) same j) (ap (λ ws. get_or ws 2 []) same j) (ap (λ ws. get_or ws 3 []) same j)
one_form words (Asm s i) (Asm s' i') h g =
    let same = sym h.0 ∙ g.0 in
    λ j. Asm (ap (λ ws. get_or ws 1 []) same j) (ap (λ ws. get_or ws 2 []) same j)
one_form words (Run i os) (Run i' os') h g =
    let same = sym h.0 ∙ g.0 in
    λ j. Run (ap (λ ws. get_or ws 1 []) same j) (ap (λ ws. drop 2 ws) same j)
one_form words (Check s) (Check s') h g =
    let same = sym h.0 ∙ g.0 in
    ap (λ ws. Check (get_or ws 1 [])) same
one_form words (Verify s t i) (Asm s' i') h g = let e : 118 ≡ 97 = ap letter (sym h.0 ∙ g.0) in absurd (omega (arith, e))
one_form words (Verify s t i) (Run i' os) h g = let e : 118 ≡ 114 = ap letter (sym h.0 ∙ g.0) in absurd (omega (arith, e))
one_form words (Asm s i) (Verify s' t i') h g = let e : 97 ≡ 118 = ap letter (sym h.0 ∙ g.0) in absurd (omega (arith, e))
one_form words (Asm s i) (Run i' os) h g = let e : 97 ≡ 114 = ap letter (sym h.0 ∙ g.0) in absurd (omega (arith, e))
one_form words (Run i os) (Verify s t i') h g = let e : 114 ≡ 118 = ap letter (sym h.0 ∙ g.0) in absurd (omega (arith, e))
one_form words (Run i os) (Asm s i') h g = let e : 114 ≡ 97 = ap letter (sym h.0 ∙ g.0) in absurd (omega (arith, e))
one_form words (Verify s t i) (Check r) h g = let e : 118 ≡ 99 = ap letter (sym h.0 ∙ g.0) in absurd (omega (arith, e))
one_form words (Check r) (Verify s t i) h g = let e : 99 ≡ 118 = ap letter (sym h.0 ∙ g.0) in absurd (omega (arith, e))
one_form words (Asm s i) (Check r) h g = let e : 97 ≡ 99 = ap letter (sym h.0 ∙ g.0) in absurd (omega (arith, e))
one_form words (Check r) (Asm s i) h g = let e : 99 ≡ 97 = ap letter (sym h.0 ∙ g.0) in absurd (omega (arith, e))
one_form words (Run i os) (Check r) h g = let e : 114 ≡ 99 = ap letter (sym h.0 ∙ g.0) in absurd (omega (arith, e))
one_form words (Check r) (Run i os) h g = let e : 99 ≡ 114 = ap letter (sym h.0 ∙ g.0) in absurd (omega (arith, e))
