-- Answers on walks by their number.
use Rattle.std.proofs.Common.{◌≡◌, ◌≢◌, ◌∙◌, ℕ, arith, ap, refl, sym, List}
use Rattle.std.specs.Prelude.{Result, Ok, Err}
use Rattle.sp_graph.specs.Answers.{GivesWalks}
use Rattle.sp_graph.specs.declared.refusal.WalksRefusal.{WalksRefusal}
use Rattle.sp_graph.specs.declared.refusal.WalksRefusal.TheVariants.{TooMany, Memory}
use Rattle.sp_graph.specs.declared.walk.Walk.{Walk}

pub one :
    (all : List Walk) (x y : Result (List Walk) WalksRefusal) → GivesWalks all x → GivesWalks all y → x ≢ Err Memory →
    y ≢ Err Memory → x ≡ y
one all (Ok given) (Ok other) g h m n = ap Ok (g.0 ∙ sym h.0)
one all (Ok given) (Err (TooMany count)) g h m n = absurd (omega (arith, g.1, h.0))
one all (Ok given) (Err Memory) g h m n = absurd (n refl)
one all (Err (TooMany count)) (Ok given) g h m n = absurd (omega (arith, g.0, h.1))
one all (Err (TooMany count)) (Err (TooMany other)) g h m n = ap (λ (k : ℕ). Err (TooMany k)) (g.1 ∙ sym h.1)
one all (Err (TooMany count)) (Err Memory) g h m n = absurd (n refl)
one all (Err Memory) y g h m n = absurd (m refl)
