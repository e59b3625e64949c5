-- A tree has one simple form.
use Rattle.std.proofs.Common.{◌≡◌, refl, sym, ◌∙◌, ap, Some, None}
use Rattle.sp_term.specs.Tree.{Tree, Literal, Add, Subtract, Multiply, Divide, Remainder, ByteAnd, ByteOr, ByteXor, Parity, Bit, Psw, If, Element, Update, Total, Equal, Less, LessOrEqual, Not, And, Or, Implies, Iff, ForAll, ForSome}
use Rattle.sp_simp.specs.Rules.{Right, Is, Made, MadePlus, MadeModulo, rule}
use Rattle.sp_simp.specs.Simple.{Leads, stays, is, made, made_plus, made_modulo, IsSimpleForm, of_literal, of_truth, of_variable, of_add, of_subtract, of_multiply, of_divide, of_remainder, of_byte_and, of_byte_or, of_byte_xor, of_parity, of_bit, of_psw, of_if, of_element, of_update, of_total, of_equal, of_less, of_less_or_equal, of_not, of_and, of_or, of_implies, of_iff, of_for_all, of_for_some}

one_right : (t u : Tree) (p q : Right) → t ≡ u → rule t ≡ Some p → rule u ≡ Some q → p ≡ q
one_right t u p q h e f = let k : Some p ≡ Some q = sym e ∙ ap rule h ∙ f in cc

no_right : {P : Type 0} (t u : Tree) (p : Right) → t ≡ u → rule t ≡ Some p → rule u ≡ None → P
no_right t u p h e f = let k : Some p ≡ None = sym e ∙ ap rule h ∙ f in absurd (cc)

pub leads_one : {t r : Tree} → Leads t r → (u s : Tree) → t ≡ u → Leads u s → r ≡ s
leads_one (stays t e) u s h (stays _ f) = h
leads_one (stays t e) u s h (is _ _ f) = no_right u t (Is s) (sym h) f e
leads_one (stays t e) u s h (made _ x2 _ f m2) = no_right u t (Made x2) (sym h) f e
leads_one (stays t e) u s h (made_plus _ x2 y2 _ c2 f m2 n2) = no_right u t (MadePlus x2 c2) (sym h) f e
leads_one (stays t e) u s h (made_modulo _ x2 y2 _ c2 f m2 n2) = no_right u t (MadeModulo x2 c2) (sym h) f e
leads_one (is t r e) u s h (stays _ f) = no_right t u (Is r) h e f
leads_one (is t r e) u s h (is _ _ f) = let k : Is r ≡ Is s = one_right t u _ _ h e f in cc
leads_one (is t r e) u s h (made _ x2 _ f m2) = let k : Is r ≡ Made x2 = one_right t u _ _ h e f in absurd (cc)
leads_one (is t r e) u s h (made_plus _ x2 y2 _ c2 f m2 n2) = let k : Is r ≡ MadePlus x2 c2 = one_right t u _ _ h e f in absurd (cc)
leads_one (is t r e) u s h (made_modulo _ x2 y2 _ c2 f m2 n2) = let k : Is r ≡ MadeModulo x2 c2 = one_right t u _ _ h e f in absurd (cc)
leads_one (made t x r e m) u s h (stays _ f) = no_right t u (Made x) h e f
leads_one (made t x r e m) u s h (is _ _ f) = let k : Made x ≡ Is s = one_right t u _ _ h e f in absurd (cc)
leads_one (made t x r e m) u s h (made _ x2 _ f m2) = let k : Made x ≡ Made x2 = one_right t u _ _ h e f in leads_one m x2 s (cc) m2
leads_one (made t x r e m) u s h (made_plus _ x2 y2 _ c2 f m2 n2) = let k : Made x ≡ MadePlus x2 c2 = one_right t u _ _ h e f in absurd (cc)
leads_one (made t x r e m) u s h (made_modulo _ x2 y2 _ c2 f m2 n2) = let k : Made x ≡ MadeModulo x2 c2 = one_right t u _ _ h e f in absurd (cc)
leads_one (made_plus t x y r c e m n) u s h (stays _ f) = no_right t u (MadePlus x c) h e f
leads_one (made_plus t x y r c e m n) u s h (is _ _ f) = let k : MadePlus x c ≡ Is s = one_right t u _ _ h e f in absurd (cc)
leads_one (made_plus t x y r c e m n) u s h (made _ x2 _ f m2) = let k : MadePlus x c ≡ Made x2 = one_right t u _ _ h e f in absurd (cc)
leads_one (made_plus t x y r c e m n) u s h (made_plus _ x2 y2 _ c2 f m2 n2) =
    let k : MadePlus x c ≡ MadePlus x2 c2 = one_right t u _ _ h e f in
    let i : y ≡ y2 = leads_one m x2 y2 (cc) m2 in
    let j : c ≡ c2 = cc in
    leads_one n (Add y2 (Literal c2)) s (λ w. Add (i w) (Literal (j w))) n2
leads_one (made_plus t x y r c e m n) u s h (made_modulo _ x2 y2 _ c2 f m2 n2) = let k : MadePlus x c ≡ MadeModulo x2 c2 = one_right t u _ _ h e f in absurd (cc)
leads_one (made_modulo t x y r c e m n) u s h (stays _ f) = no_right t u (MadeModulo x c) h e f
leads_one (made_modulo t x y r c e m n) u s h (is _ _ f) = let k : MadeModulo x c ≡ Is s = one_right t u _ _ h e f in absurd (cc)
leads_one (made_modulo t x y r c e m n) u s h (made _ x2 _ f m2) = let k : MadeModulo x c ≡ Made x2 = one_right t u _ _ h e f in absurd (cc)
leads_one (made_modulo t x y r c e m n) u s h (made_plus _ x2 y2 _ c2 f m2 n2) = let k : MadeModulo x c ≡ MadePlus x2 c2 = one_right t u _ _ h e f in absurd (cc)
leads_one (made_modulo t x y r c e m n) u s h (made_modulo _ x2 y2 _ c2 f m2 n2) =
    let k : MadeModulo x c ≡ MadeModulo x2 c2 = one_right t u _ _ h e f in
    let i : y ≡ y2 = leads_one m x2 y2 (cc) m2 in
    let j : c ≡ c2 = cc in
    leads_one n (Remainder y2 (Literal c2)) s (λ w. Remainder (i w) (Literal (j w))) n2

pub simple_one : {t r : Tree} → IsSimpleForm t r → (s : Tree) → IsSimpleForm t s → r ≡ s
simple_one (of_literal n) s (of_literal _) = refl
simple_one (of_truth b) s (of_truth _) = refl
simple_one (of_variable v) s (of_variable _) = refl
simple_one (of_add x y a b r f g m) s (of_add _ _ a2 b2 _ f2 g2 m2) = leads_one m (Add a2 b2) s (λ w. Add (simple_one f a2 f2 w) (simple_one g b2 g2 w)) m2
simple_one (of_subtract x y a b r f g m) s (of_subtract _ _ a2 b2 _ f2 g2 m2) = leads_one m (Subtract a2 b2) s (λ w. Subtract (simple_one f a2 f2 w) (simple_one g b2 g2 w)) m2
simple_one (of_multiply x y a b r f g m) s (of_multiply _ _ a2 b2 _ f2 g2 m2) = leads_one m (Multiply a2 b2) s (λ w. Multiply (simple_one f a2 f2 w) (simple_one g b2 g2 w)) m2
simple_one (of_divide x y a b r f g m) s (of_divide _ _ a2 b2 _ f2 g2 m2) = leads_one m (Divide a2 b2) s (λ w. Divide (simple_one f a2 f2 w) (simple_one g b2 g2 w)) m2
simple_one (of_remainder x y a b r f g m) s (of_remainder _ _ a2 b2 _ f2 g2 m2) = leads_one m (Remainder a2 b2) s (λ w. Remainder (simple_one f a2 f2 w) (simple_one g b2 g2 w)) m2
simple_one (of_byte_and x y a b r f g m) s (of_byte_and _ _ a2 b2 _ f2 g2 m2) = leads_one m (ByteAnd a2 b2) s (λ w. ByteAnd (simple_one f a2 f2 w) (simple_one g b2 g2 w)) m2
simple_one (of_byte_or x y a b r f g m) s (of_byte_or _ _ a2 b2 _ f2 g2 m2) = leads_one m (ByteOr a2 b2) s (λ w. ByteOr (simple_one f a2 f2 w) (simple_one g b2 g2 w)) m2
simple_one (of_byte_xor x y a b r f g m) s (of_byte_xor _ _ a2 b2 _ f2 g2 m2) = leads_one m (ByteXor a2 b2) s (λ w. ByteXor (simple_one f a2 f2 w) (simple_one g b2 g2 w)) m2
simple_one (of_parity x a r f m) s (of_parity _ a2 _ f2 m2) = leads_one m (Parity a2) s (λ w. Parity (simple_one f a2 f2 w)) m2
simple_one (of_bit k x a r f m) s (of_bit _ _ a2 _ f2 m2) = leads_one m (Bit k a2) s (λ w. Bit k (simple_one f a2 f2 w)) m2
simple_one (of_psw x y z u v a b c d e r f g h i j m) s (of_psw _ _ _ _ _ a2 b2 c2 d2 e2 _ f2 g2 h2 i2 j2 m2) = leads_one m (Psw a2 b2 c2 d2 e2) s (λ w. Psw (simple_one f a2 f2 w) (simple_one g b2 g2 w) (simple_one h c2 h2 w) (simple_one i d2 i2 w) (simple_one j e2 j2 w)) m2
simple_one (of_if x y z a b c r f g h m) s (of_if _ _ _ a2 b2 c2 _ f2 g2 h2 m2) = leads_one m (If a2 b2 c2) s (λ w. If (simple_one f a2 f2 w) (simple_one g b2 g2 w) (simple_one h c2 h2 w)) m2
simple_one (of_element x y a b r f g m) s (of_element _ _ a2 b2 _ f2 g2 m2) = leads_one m (Element a2 b2) s (λ w. Element (simple_one f a2 f2 w) (simple_one g b2 g2 w)) m2
simple_one (of_update x y z a b c r f g h m) s (of_update _ _ _ a2 b2 c2 _ f2 g2 h2 m2) = leads_one m (Update a2 b2 c2) s (λ w. Update (simple_one f a2 f2 w) (simple_one g b2 g2 w) (simple_one h c2 h2 w)) m2
simple_one (of_total x y z a b c r f g h m) s (of_total _ _ _ a2 b2 c2 _ f2 g2 h2 m2) = leads_one m (Total a2 b2 c2) s (λ w. Total (simple_one f a2 f2 w) (simple_one g b2 g2 w) (simple_one h c2 h2 w)) m2
simple_one (of_equal x y a b r f g m) s (of_equal _ _ a2 b2 _ f2 g2 m2) = leads_one m (Equal a2 b2) s (λ w. Equal (simple_one f a2 f2 w) (simple_one g b2 g2 w)) m2
simple_one (of_less x y a b r f g m) s (of_less _ _ a2 b2 _ f2 g2 m2) = leads_one m (Less a2 b2) s (λ w. Less (simple_one f a2 f2 w) (simple_one g b2 g2 w)) m2
simple_one (of_less_or_equal x y a b r f g m) s (of_less_or_equal _ _ a2 b2 _ f2 g2 m2) = leads_one m (LessOrEqual a2 b2) s (λ w. LessOrEqual (simple_one f a2 f2 w) (simple_one g b2 g2 w)) m2
simple_one (of_not x a r f m) s (of_not _ a2 _ f2 m2) = leads_one m (Not a2) s (λ w. Not (simple_one f a2 f2 w)) m2
simple_one (of_and x y a b r f g m) s (of_and _ _ a2 b2 _ f2 g2 m2) = leads_one m (And a2 b2) s (λ w. And (simple_one f a2 f2 w) (simple_one g b2 g2 w)) m2
simple_one (of_or x y a b r f g m) s (of_or _ _ a2 b2 _ f2 g2 m2) = leads_one m (Or a2 b2) s (λ w. Or (simple_one f a2 f2 w) (simple_one g b2 g2 w)) m2
simple_one (of_implies x y a b r f g m) s (of_implies _ _ a2 b2 _ f2 g2 m2) = leads_one m (Implies a2 b2) s (λ w. Implies (simple_one f a2 f2 w) (simple_one g b2 g2 w)) m2
simple_one (of_iff x y a b r f g m) s (of_iff _ _ a2 b2 _ f2 g2 m2) = leads_one m (Iff a2 b2) s (λ w. Iff (simple_one f a2 f2 w) (simple_one g b2 g2 w)) m2
simple_one (of_for_all k x y z a b c r f g h m) s (of_for_all _ _ _ _ a2 b2 c2 _ f2 g2 h2 m2) = leads_one m (ForAll k a2 b2 c2) s (λ w. ForAll k (simple_one f a2 f2 w) (simple_one g b2 g2 w) (simple_one h c2 h2 w)) m2
simple_one (of_for_some k x y z a b c r f g h m) s (of_for_some _ _ _ _ a2 b2 c2 _ f2 g2 h2 m2) = leads_one m (ForSome k a2 b2 c2) s (λ w. ForSome k (simple_one f a2 f2 w) (simple_one g b2 g2 w) (simple_one h c2 h2 w)) m2
