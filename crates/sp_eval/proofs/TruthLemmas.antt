-- The test of a note passes exactly where the note holds.
use Rattle.std.proofs.Common.{refl, arith, Bool, true, false, not, ℤ}
use Rattle.std.specs.Prelude.{◌||◌, ◌<ℤ◌, ◌≤ℤ◌, int_lt, int_le, ◌∷◌}
use Rattle.std.specs.Bool.{Decides}
use Rattle.std.proofs.lemmas.Int.{ints}
use Rattle.std.proofs.lemmas.Bool.Decides.{Decides-int_eq, Decides-not, Decides-and, Decides-or}
use Rattle.sp_base.proofs.IntegerLemmas.{all_between_is, some_between_is}
use Rattle.sp_isa.specs.Core.{Core}
use Rattle.sp_model.specs.Note.{Frame, Bindings, value, Compares, Connects, HoldsWith, Comparison, Equal, Unequal, Less, LessOrEqual, Greater, GreaterOrEqual, Connective, And, Or, Implies, Iff, ForAll, ForSome, Note, Constant, Compare, Not, Connect, Quantify}
use Rattle.sp_eval.specs.code.Truth.{compares, same_truth, connects, is_true}

less_decides : (x y : ℤ) → Decides (int_lt x y) (x <ℤ y)
less_decides x y = ((λ h. grind (arith, ints)), (λ h. grind (arith, ints)))

at_most_decides : (x y : ℤ) → Decides (int_le x y) (x ≤ℤ y)
at_most_decides x y = ((λ h. grind (arith, ints)), (λ h. grind (arith, ints)))

comparison_decides : (c : Comparison) (x y : ℤ) → Decides (compares c x y) (Compares c x y)
comparison_decides Equal x y = Decides-int_eq x y
comparison_decides Unequal x y = Decides-not _ (Decides-int_eq x y)
comparison_decides Less x y = less_decides x y
comparison_decides LessOrEqual x y = at_most_decides x y
comparison_decides Greater x y = less_decides y x
comparison_decides GreaterOrEqual x y = at_most_decides y x

implied : (a b : Bool) (P Q : Type 0) → Decides a P → Decides b Q → Decides (not a || b) (P → Q)
implied true b P Q s t = ((λ h p. t.0 h), (λ h. t.1 (h (s.0 refl))))
implied false b P Q s t = ((λ h p. absurd (let k = s.1 p in cc)), (λ h. refl))

same_decides : (a b : Bool) (P Q : Type 0) → Decides a P → Decides b Q → Decides (same_truth a b) ((P → Q) × (Q → P))
same_decides true b P Q s t = ((λ h. ((λ p. t.0 h), (λ q. s.0 refl))), (λ h. t.1 (h.0 (s.0 refl))))
same_decides false b P Q s t =
    let u = Decides-not b t in
    ((λ h. ((λ p. absurd (let k = s.1 p in cc)), (λ q. absurd (u.0 h q)))), (λ h. u.1 (λ q. absurd (let k = s.1 (h.1 q) in cc))))

connective_decides : (c : Connective) (a b : Bool) (P Q : Type 0) → Decides a P → Decides b Q → Decides (connects c a b) (Connects c P Q)
connective_decides And a b P Q s t = Decides-and a b s t
connective_decides Or a b P Q s t = Decides-or a b s t
connective_decides Implies a b P Q s t = implied a b P Q s t
connective_decides Iff a b P Q s t = same_decides a b P Q s t

pub truth_decides : (f : Frame) (b : Bindings) (p : Note) (entry now : Core) → Decides (is_true f b p entry now) (HoldsWith f b p entry now)
truth_decides f b (Constant truth) entry now = ((λ h. h), (λ h. h))
truth_decides f b (Compare c x y) entry now = comparison_decides c (value f b x entry now) (value f b y entry now)
truth_decides f b (Not p) entry now = Decides-not (is_true f b p entry now) (truth_decides f b p entry now)
truth_decides f b (Connect c p q) entry now = connective_decides c (is_true f b p entry now) (is_true f b q entry now) (HoldsWith f b p entry now) (HoldsWith f b q entry now) (truth_decides f b p entry now) (truth_decides f b q entry now)
truth_decides f b (Quantify ForAll name x y p) entry now =
    let is = all_between_is (λ n. is_true f ((name, n) ∷ b) p entry now) (value f b x entry now) (value f b y entry now) in (
      (λ h n from to. (truth_decides f ((name, n) ∷ b) p entry now).0 (is.0 h n from to)),
      (λ h. is.1 (λ n from to. (truth_decides f ((name, n) ∷ b) p entry now).1 (h n from to))),
    )
truth_decides f b (Quantify ForSome name x y p) entry now =
    let is = some_between_is (λ n. is_true f ((name, n) ∷ b) p entry now) (value f b x entry now) (value f b y entry now) in (
      (λ h. let it = is.0 h in (it.0, it.1, it.2, (truth_decides f ((name, it.0) ∷ b) p entry now).0 it.3)),
      (λ h. is.1 (h.0, h.1, h.2, (truth_decides f ((name, h.0) ∷ b) p entry now).1 h.3)),
    )
