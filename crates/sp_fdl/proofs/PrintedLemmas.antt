-- A printed text stands for the tree that was printed.
use Rattle.std.proofs.Common.{◌≡◌, ℕ, ◌<◌, true, false, List, [], ◌∷◌, ◌++◌, refl, sym, ap, subst, ◌∙◌, append_assoc, arith, ℤ, pos, negsuc, suc, ◌^◌, true≢false, inl, inr}
use Rattle.std.specs.Prelude.{◌≤◌, codes, decimal, neg_ℤ, FitsSigned}
use Rattle.std.specs.Int.{w64}
use Rattle.std.specs.Fmt.{signed_decimal}
use Rattle.std.specs.List.{list_all}
use Rattle.std.proofs.lemmas.Fmt.{decimal_is_IsNumeral}
use Rattle.std.proofs.lemmas.Int.{ints}
use Rattle.sp_term.specs.Tree.{Tree, Literal, Truth, Variable, Add, Subtract, Multiply, Divide, Remainder, ByteAnd, ByteOr, ByteXor, Parity, Bit, Psw, If, Element, Update, Total, Equal, Less, LessOrEqual, Not, And, Or, Implies, Iff, ForAll, ForSome, depth_of}
use Rattle.sp_term.specs.Sorts.{IsTerm}
use Rattle.sp_term.specs.Free.{IsClosed}
use Rattle.sp_fdl.specs.Printed.{text_of}
use Rattle.sp_fdl.specs.Text.{is_blank, is_run, IsApart, Form, Token, Then, Between, Call, More, Last, Cell, Quantified, IsLiteral, Spells, HasNumbers, IsReadable, StandsFor}

-- a front, blanks and what follows
placed : (X Y : Form) (front blanks back : List ℕ) → list_all is_blank blanks ≡ true → IsApart front (blanks ++ back) → X front → Y back → Then X Y (front ++ (blanks ++ back))
placed X Y front blanks back blank apart x y = record { front = front; blanks = blanks; back = back; whole = refl; blank = blank; apart = apart; in_front = x; in_back = y }

-- a part that goes on with a byte of no run
part_text : (X Y : Form) (front : List ℕ) (byte : ℕ) (back : List ℕ) → is_run byte ≡ false → X front → Y (byte ∷ back) → Then X Y (front ++ (byte ∷ back))
part_text X Y front byte back plain x y = placed X Y front [] (byte ∷ back) refl (λ ends. plain) x y

-- a mark, whatever follows
mark_text : (Y : Form) (mark : ℕ) (back : List ℕ) → is_run mark ≡ false → Y back → Then (Token (mark ∷ [])) Y (mark ∷ back)
mark_text Y mark back plain y = placed (Token (mark ∷ [])) Y (mark ∷ []) [] back refl (λ ends. absurd (true≢false (sym ends ∙ plain))) refl y

last_text : (X : Form) (x : List ℕ) → X x → Last X (x ++ codes ")")
last_text X x h = part_text X (Token (codes ")")) x 41 [] refl h refl

more_text : (X Rest : Form) (x rest : List ℕ) → X x → Rest rest → More X Rest (x ++ (44 ∷ rest))
more_text X Rest x rest h g = part_text X (Then (Token (codes ",")) Rest) x 44 rest refl h (mark_text Rest 44 rest refl g)

cell_text : (X Rest : Form) (x rest : List ℕ) → X x → Rest rest → Cell X Rest (91 ∷ (x ++ (93 ∷ rest)))
cell_text X Rest x rest h g =
    mark_text (Then X (Then (Token (codes "]")) Rest)) 91 (x ++ (93 ∷ rest)) refl (part_text X (Then (Token (codes "]")) Rest) x 93 rest refl h (mark_text Rest 93 rest refl g))

call_text : (name : List ℕ) (Rest : Form) (rest : List ℕ) → Rest rest → Call name Rest (name ++ (40 ∷ rest))
call_text name Rest rest g = part_text (Token name) (Then (Token (codes "(")) Rest) name 40 rest refl refl (mark_text Rest 40 rest refl g)

between_text : (operator : List ℕ) (X Y : Form) (x y : List ℕ) → X x → Y y → Between operator X Y (40 ∷ (x ++ (32 ∷ (operator ++ (32 ∷ (y ++ codes ")"))))))
between_text operator X Y x y h g =
    let tail : List ℕ = y ++ codes ")" in
    let op : Then (Token operator) (Last Y) (operator ++ (32 ∷ tail)) = placed (Token operator) (Last Y) operator (32 ∷ []) tail refl (λ ends. refl) refl (last_text Y y g) in
    mark_text (Then X (Then (Token operator) (Last Y))) 40 (x ++ (32 ∷ (operator ++ (32 ∷ tail)))) refl
    (placed X (Then (Token operator) (Last Y)) x (32 ∷ []) (operator ++ (32 ∷ tail)) refl (λ ends. refl) h op)

not_text : (P : Form) (p : List ℕ) → P p → Then (Token (codes "(")) (Then (Token (codes "not")) (Last P)) (codes "(not " ++ (p ++ codes ")"))
not_text P p h =
    mark_text (Then (Token (codes "not")) (Last P)) 40 (codes "not " ++ (p ++ codes ")")) refl
    (placed (Token (codes "not")) (Last P) (codes "not") (32 ∷ []) (p ++ codes ")") refl (λ ends. refl) refl (last_text P p h))

quantified_text : (name : List ℕ) (k : ℕ) (X Y P : Form) (x y p : List ℕ) → X x → Y y → P p
    → Quantified name k X Y P (name ++ (40 ∷ ((codes "i" ++ decimal k) ++ (58 ∷ (32 ∷ (x ++ (46 ∷ (46 ∷ (y ++ (44 ∷ (32 ∷ (p ++ codes ")"))))))))))))
quantified_text name k X Y P x y p h g f =
    let formula : List ℕ = p ++ codes ")" in
    let second : More Y (Last P) (y ++ (44 ∷ (32 ∷ formula))) =
    part_text Y (Then (Token (codes ",")) (Last P)) y 44 (32 ∷ formula) refl g (placed (Token (codes ",")) (Last P) (codes ",") (32 ∷ []) formula refl (λ ends. absurd cc) refl (last_text P p f)) in
    let dots : Then (Token (codes "..")) (More Y (Last P)) (46 ∷ (46 ∷ (y ++ (44 ∷ (32 ∷ formula))))) =
    placed (Token (codes "..")) (More Y (Last P)) (codes "..") [] (y ++ (44 ∷ (32 ∷ formula))) refl (λ ends. absurd cc) refl second in
    let first : Then X (Then (Token (codes "..")) (More Y (Last P))) (x ++ (46 ∷ (46 ∷ (y ++ (44 ∷ (32 ∷ formula)))))) =
    part_text X (Then (Token (codes "..")) (More Y (Last P))) x 46 (46 ∷ (y ++ (44 ∷ (32 ∷ formula)))) refl h dots in
    let colon : Then (Token (codes ":")) (Then X (Then (Token (codes "..")) (More Y (Last P)))) (58 ∷ (32 ∷ (x ++ (46 ∷ (46 ∷ (y ++ (44 ∷ (32 ∷ formula)))))))) =
    placed (Token (codes ":")) (Then X (Then (Token (codes "..")) (More Y (Last P)))) (codes ":") (32 ∷ []) (x ++ (46 ∷ (46 ∷ (y ++ (44 ∷ (32 ∷ formula)))))) refl (λ ends. absurd cc) refl first in
    call_text name (Then (Token (codes "i" ++ decimal k)) (Then (Token (codes ":")) (Then X (Then (Token (codes "..")) (More Y (Last P)))))) _
    (part_text (Token (codes "i" ++ decimal k)) (Then (Token (codes ":")) (Then X (Then (Token (codes "..")) (More Y (Last P))))) (codes "i" ++ decimal k) 58 (32 ∷ (x ++ (46 ∷ (46 ∷ (y ++ (44 ∷ (32 ∷ formula))))))) refl refl colon)

literal_text : (n : ℤ) → FitsSigned w64 n → IsLiteral n (signed_decimal n)
literal_text (pos n) h = let d = decimal_is_IsNumeral n (low n h) in inl (d.0, ap pos (sym d.1))
  where
    low : (m : ℕ) → FitsSigned w64 (pos m) → m < 2 ^ 64
    low m u = grind (arith, ints)
literal_text (negsuc n) h = let d = decimal_is_IsNumeral (suc n) (low n h) in inr (decimal (suc n), refl, d.0, ap (λ m. neg_ℤ (pos m)) (sym d.1))
  where
    low : (m : ℕ) → FitsSigned w64 (negsuc m) → suc m < 2 ^ 64
    low m u = grind (arith, ints)

pub printed : (t : Tree) → HasNumbers t → Spells t (text_of t)
printed (Literal n) h = literal_text n h
printed (Truth true) h = refl
printed (Truth false) h = refl
printed (Variable v) h = refl
printed (Add x y) h = subst (Spells (Add x y)) (simp append_assoc) (between_text (codes "+") (Spells x) (Spells y) (text_of x) (text_of y) (printed x h.0) (printed y h.1))
printed (Subtract x y) h = subst (Spells (Subtract x y)) (simp append_assoc) (between_text (codes "-") (Spells x) (Spells y) (text_of x) (text_of y) (printed x h.0) (printed y h.1))
printed (Multiply x y) h = subst (Spells (Multiply x y)) (simp append_assoc) (between_text (codes "*") (Spells x) (Spells y) (text_of x) (text_of y) (printed x h.0) (printed y h.1))
printed (Divide x y) h = subst (Spells (Divide x y)) (simp append_assoc) (between_text (codes "div") (Spells x) (Spells y) (text_of x) (text_of y) (printed x h.0) (printed y h.1))
printed (Remainder x y) h = subst (Spells (Remainder x y)) (simp append_assoc) (between_text (codes "mod") (Spells x) (Spells y) (text_of x) (text_of y) (printed x h.0) (printed y h.1))
printed (Equal x y) h = subst (Spells (Equal x y)) (simp append_assoc) (between_text (codes "=") (Spells x) (Spells y) (text_of x) (text_of y) (printed x h.0) (printed y h.1))
printed (Less x y) h = subst (Spells (Less x y)) (simp append_assoc) (between_text (codes "<") (Spells x) (Spells y) (text_of x) (text_of y) (printed x h.0) (printed y h.1))
printed (LessOrEqual x y) h = subst (Spells (LessOrEqual x y)) (simp append_assoc) (between_text (codes "<=") (Spells x) (Spells y) (text_of x) (text_of y) (printed x h.0) (printed y h.1))
printed (And x y) h = subst (Spells (And x y)) (simp append_assoc) (between_text (codes "and") (Spells x) (Spells y) (text_of x) (text_of y) (printed x h.0) (printed y h.1))
printed (Or x y) h = subst (Spells (Or x y)) (simp append_assoc) (between_text (codes "or") (Spells x) (Spells y) (text_of x) (text_of y) (printed x h.0) (printed y h.1))
printed (Implies x y) h = subst (Spells (Implies x y)) (simp append_assoc) (between_text (codes "->") (Spells x) (Spells y) (text_of x) (text_of y) (printed x h.0) (printed y h.1))
printed (Iff x y) h = subst (Spells (Iff x y)) (simp append_assoc) (between_text (codes "<->") (Spells x) (Spells y) (text_of x) (text_of y) (printed x h.0) (printed y h.1))
printed (ByteAnd x y) h = subst (Spells (ByteAnd x y)) (simp append_assoc) (call_text (codes "band") (More (Spells x) (Last (Spells y))) ((text_of x) ++ (44 ∷ ((text_of y) ++ codes ")"))) (more_text (Spells x) (Last (Spells y)) (text_of x) ((text_of y) ++ codes ")") (printed x h.0) (last_text (Spells y) (text_of y) (printed y h.1))))
printed (ByteOr x y) h = subst (Spells (ByteOr x y)) (simp append_assoc) (call_text (codes "bor") (More (Spells x) (Last (Spells y))) ((text_of x) ++ (44 ∷ ((text_of y) ++ codes ")"))) (more_text (Spells x) (Last (Spells y)) (text_of x) ((text_of y) ++ codes ")") (printed x h.0) (last_text (Spells y) (text_of y) (printed y h.1))))
printed (ByteXor x y) h = subst (Spells (ByteXor x y)) (simp append_assoc) (call_text (codes "bxor") (More (Spells x) (Last (Spells y))) ((text_of x) ++ (44 ∷ ((text_of y) ++ codes ")"))) (more_text (Spells x) (Last (Spells y)) (text_of x) ((text_of y) ++ codes ")") (printed x h.0) (last_text (Spells y) (text_of y) (printed y h.1))))
printed (Parity x) h = subst (Spells (Parity x)) (simp append_assoc) (call_text (codes "par") (Last (Spells x)) ((text_of x) ++ codes ")") (last_text (Spells x) (text_of x) (printed x h)))
printed (Bit k x) h = subst (Spells (Bit k x)) (simp append_assoc) (call_text (codes "bit") (More (Token (decimal k)) (Last (Spells x))) (decimal k ++ (44 ∷ ((text_of x) ++ codes ")"))) (more_text (Token (decimal k)) (Last (Spells x)) (decimal k) ((text_of x) ++ codes ")") refl (last_text (Spells x) (text_of x) (printed x h))))
printed (Psw s z a p c) h = subst (Spells (Psw s z a p c)) (simp append_assoc) (call_text (codes "psw") (More (Spells s) (More (Spells z) (More (Spells a) (More (Spells p) (Last (Spells c)))))) ((text_of s) ++ (44 ∷ ((text_of z) ++ (44 ∷ ((text_of a) ++ (44 ∷ ((text_of p) ++ (44 ∷ ((text_of c) ++ codes ")"))))))))) (more_text (Spells s) (More (Spells z) (More (Spells a) (More (Spells p) (Last (Spells c))))) (text_of s) ((text_of z) ++ (44 ∷ ((text_of a) ++ (44 ∷ ((text_of p) ++ (44 ∷ ((text_of c) ++ codes ")"))))))) (printed s h.0) (more_text (Spells z) (More (Spells a) (More (Spells p) (Last (Spells c)))) (text_of z) ((text_of a) ++ (44 ∷ ((text_of p) ++ (44 ∷ ((text_of c) ++ codes ")"))))) (printed z h.1) (more_text (Spells a) (More (Spells p) (Last (Spells c))) (text_of a) ((text_of p) ++ (44 ∷ ((text_of c) ++ codes ")"))) (printed a h.2) (more_text (Spells p) (Last (Spells c)) (text_of p) ((text_of c) ++ codes ")") (printed p h.3) (last_text (Spells c) (text_of c) (printed c h.4)))))))
printed (If p x y) h = subst (Spells (If p x y)) (simp append_assoc) (call_text (codes "if") (More (Spells p) (More (Spells x) (Last (Spells y)))) ((text_of p) ++ (44 ∷ ((text_of x) ++ (44 ∷ ((text_of y) ++ codes ")"))))) (more_text (Spells p) (More (Spells x) (Last (Spells y))) (text_of p) ((text_of x) ++ (44 ∷ ((text_of y) ++ codes ")"))) (printed p h.0) (more_text (Spells x) (Last (Spells y)) (text_of x) ((text_of y) ++ codes ")") (printed x h.1) (last_text (Spells y) (text_of y) (printed y h.2)))))
printed (Element m x) h = subst (Spells (Element m x)) (simp append_assoc) (call_text (codes "element") (More (Spells m) (Cell (Spells x) (Token (codes ")")))) ((text_of m) ++ (44 ∷ (91 ∷ ((text_of x) ++ (93 ∷ (codes ")")))))) (more_text (Spells m) (Cell (Spells x) (Token (codes ")"))) (text_of m) (91 ∷ ((text_of x) ++ (93 ∷ (codes ")")))) (printed m h.0) (cell_text (Spells x) (Token (codes ")")) (text_of x) (codes ")") (printed x h.1) refl)))
printed (Update m x y) h = subst (Spells (Update m x y)) (simp append_assoc) (call_text (codes "update") (More (Spells m) (Cell (Spells x) (Then (Token (codes ",")) (Last (Spells y))))) ((text_of m) ++ (44 ∷ (91 ∷ ((text_of x) ++ (93 ∷ (44 ∷ ((text_of y) ++ codes ")"))))))) (more_text (Spells m) (Cell (Spells x) (Then (Token (codes ",")) (Last (Spells y)))) (text_of m) (91 ∷ ((text_of x) ++ (93 ∷ (44 ∷ ((text_of y) ++ codes ")"))))) (printed m h.0) (cell_text (Spells x) (Then (Token (codes ",")) (Last (Spells y))) (text_of x) (44 ∷ ((text_of y) ++ codes ")")) (printed x h.1) (mark_text (Last (Spells y)) 44 ((text_of y) ++ codes ")") refl (last_text (Spells y) (text_of y) (printed y h.2))))))
printed (Total m x y) h = subst (Spells (Total m x y)) (simp append_assoc) (call_text (codes "total") (More (Spells m) (Cell (Spells x) (Then (Token (codes ",")) (Cell (Spells y) (Token (codes ")")))))) ((text_of m) ++ (44 ∷ (91 ∷ ((text_of x) ++ (93 ∷ (44 ∷ (91 ∷ ((text_of y) ++ (93 ∷ (codes ")")))))))))) (more_text (Spells m) (Cell (Spells x) (Then (Token (codes ",")) (Cell (Spells y) (Token (codes ")"))))) (text_of m) (91 ∷ ((text_of x) ++ (93 ∷ (44 ∷ (91 ∷ ((text_of y) ++ (93 ∷ (codes ")")))))))) (printed m h.0) (cell_text (Spells x) (Then (Token (codes ",")) (Cell (Spells y) (Token (codes ")")))) (text_of x) (44 ∷ (91 ∷ ((text_of y) ++ (93 ∷ (codes ")"))))) (printed x h.1) (mark_text (Cell (Spells y) (Token (codes ")"))) 44 (91 ∷ ((text_of y) ++ (93 ∷ (codes ")")))) refl (cell_text (Spells y) (Token (codes ")")) (text_of y) (codes ")") (printed y h.2) refl)))))
printed (Not p) h = subst (Spells (Not p)) (simp append_assoc) (not_text (Spells p) (text_of p) (printed p h))
printed (ForAll k x y p) h = subst (Spells (ForAll k x y p)) (simp append_assoc) (quantified_text (codes "for_all") k (Spells x) (Spells y) (Spells p) (text_of x) (text_of y) (text_of p) (printed x h.1) (printed y h.2) (printed p h.3))
printed (ForSome k x y p) h = subst (Spells (ForSome k x y p)) (simp append_assoc) (quantified_text (codes "for_some") k (Spells x) (Spells y) (Spells p) (text_of x) (text_of y) (text_of p) (printed x h.1) (printed y h.2) (printed p h.3))

pub printed_stands : (t : Tree) → IsReadable t → StandsFor (text_of t) t
printed_stands t h = record { readable = h; spells = printed t h.numbers }

pub print_stands : (t : Tree) (text : List ℕ) → text ≡ text_of t → HasNumbers t → IsTerm t → IsClosed t → depth_of t ≤ 2000 → StandsFor text t
print_stands t text e numbers term closed shallow =
    subst (λ w. StandsFor w t) (sym e) (printed_stands t (record { term = term; numbers = numbers; closed = closed; shallow = shallow }))
