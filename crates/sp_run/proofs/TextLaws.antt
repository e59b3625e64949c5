-- Texts that are made piece by piece.
use Rattle.std.proofs.Common.{◌≡◌, ◌∙◌, ap, ℕ, List, ◌++◌, codes, append_assoc}
use Rattle.sp_isa.specs.Core.{Core}
use Rattle.sp_run.specs.Texts.{flag_digit, flags_text}

pub flags_pushed : (core : Core) (s z ac p cy : ℕ) (t0 t1 t2 t3 t4 t5 : List ℕ) → s ≡ core.s → z ≡ core.z → ac ≡ core.ac → p ≡ core.p → cy ≡ core.cy
    → t1 ≡ t0 ++ codes " S=" ++ flag_digit s → t2 ≡ t1 ++ codes " Z=" ++ flag_digit z → t3 ≡ t2 ++ codes " AC=" ++ flag_digit ac
    → t4 ≡ t3 ++ codes " P=" ++ flag_digit p → t5 ≡ t4 ++ codes " CY=" ++ flag_digit cy → t5 ≡ t0 ++ flags_text core
flags_pushed core s z ac p cy t0 t1 t2 t3 t4 t5 es ez eac ep ecy e1 e2 e3 e4 e5 =
    let whole = e5 ∙ ap (λ t. t ++ codes " CY=" ++ flag_digit cy) (e4 ∙ ap (λ t. t ++ codes " P=" ++ flag_digit p) (
    e3 ∙ ap (λ t. t ++ codes " AC=" ++ flag_digit ac) (e2 ∙ ap (λ t. t ++ codes " Z=" ++ flag_digit z) e1))) in
    whole ∙ simp (es, ez, eac, ep, ecy, append_assoc)
