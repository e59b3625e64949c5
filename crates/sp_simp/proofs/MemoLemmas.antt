-- Entries that stay right, and the map that a memo's entries make.
use Rattle.std.proofs.Common.{◌≡◌, ℕ, ◌<◌, true, false, Bool, cond, List, [], ◌∷◌, length, refl, sym, ap, subst, ◌∙◌, Some, None, arith, rules}
use Rattle.std.specs.Ordering.{nat_cmp}
use Rattle.std.specs.declared.cmp.Ordering.TheVariants.{Less}
use Rattle.std.specs.Cmp.{nat_cmp_total, eq_by_cmp_equiv}
use Rattle.std.specs.FinMap as maps
use Rattle.std.specs.FinMap.{find, nat_cmp-IsAntisymmetric}
use Rattle.std.specs.FinMap.Entries.{put}
use Rattle.std.specs.Map.{lookup, keys_of}
use Rattle.std.specs.BTreeMap.{is_at}
use Rattle.std.specs.List.{AllByRecursion}
use Rattle.std.specs.List.Sorted.{IsStrictlySortedBy}
use Rattle.std.proofs.lemmas.Map.Keys.{sorted_head, sorted_tail}
use Rattle.sp_term.specs.Tree.{Tree, Psw, If, Update, Total, ForAll, ForSome}
use Rattle.sp_term.specs.Pools.{tree_at, Grows}
use Rattle.sp_simp.specs.Simple.{IsSimpleForm, of_literal, of_truth, of_variable, of_add, of_subtract, of_multiply, of_divide, of_remainder, of_byte_and, of_byte_or, of_byte_xor, of_parity, of_bit, of_psw, of_if, of_element, of_update, of_total, of_equal, of_less, of_less_or_equal, of_not, of_and, of_or, of_implies, of_iff, of_for_all, of_for_some}
use Rattle.sp_simp.specs.Memos.{Forms, IsRight, AreRight, IsSimpleAt}
use Rattle.sp_simp.specs.code.Plans.{IsLedAt}

find_is_lookup : (q : ℕ) (cells : List (ℕ × ℕ)) → find nat_cmp q cells ≡ lookup (is_at (nat_cmp q)) cells
find_is_lookup q [] = refl
find_is_lookup q (c ∷ cells) = ap (cond (is_at (nat_cmp q) c.0) (Some c.1)) (find_is_lookup q cells)

pub get-cells : (cells : List (ℕ × ℕ)) (q : ℕ) → maps.get (maps.from_entries {R = nat_cmp} cells) q ≡ lookup (is_at (nat_cmp q)) cells
get-cells cells q = maps.get-from_entries nat_cmp_total cells q ∙ find_is_lookup q cells

pub cells-insert : (old new : List (ℕ × ℕ)) (a r : ℕ) → ((q : ℕ) → lookup (is_at (nat_cmp q)) new ≡ cond (is_at (nat_cmp a) q) (Some r) (lookup (is_at (nat_cmp q)) old)) → maps.from_entries {R = nat_cmp} new ≡ maps.insert (maps.from_entries old) a r
cells-insert old new a r h = maps.same_map nat_cmp_total nat_cmp-IsAntisymmetric _ _ (λ q.
    get-cells new q ∙ h q ∙ ap (λ b. cond b (Some r) (lookup (is_at (nat_cmp q)) old)) ((eq_by_cmp_equiv nat_cmp_total).symm a q)
    ∙ sym (maps.get-insert nat_cmp_total (maps.from_entries old) a r q ∙ ap (cond (is_at (nat_cmp q) a) (Some r)) (get-cells old q)))

put_first : (c : ℕ × ℕ) (cells : List (ℕ × ℕ)) → AllByRecursion (λ a. nat_cmp c.0 a ≡ Less) (keys_of cells) → put nat_cmp c.0 c.1 cells ≡ c ∷ cells
put_first c [] h = refl
put_first c (d ∷ cells) h = rw h.0 refl

no_cells : (cells : List (ℕ × ℕ)) → length cells ≡ 0 → cells ≡ []
no_cells [] h = refl
no_cells (c ∷ cells) h = cc

entries-cells : (cells : List (ℕ × ℕ)) → IsStrictlySortedBy nat_cmp (keys_of cells) → maps.entries (maps.from_entries {R = nat_cmp} cells) ≡ cells
entries-cells [] h = no_cells _ (sym (maps.len-entries maps.empty) ∙ maps.len-empty nat_cmp ℕ)
entries-cells (c ∷ cells) h =
    maps.entries-insert nat_cmp_total (maps.from_entries cells) c.0 c.1
    ∙ ap (put nat_cmp c.0 c.1) (entries-cells cells (sorted_tail nat_cmp c.0 (keys_of cells) h))
    ∙ put_first c cells (sorted_head nat_cmp c.0 (keys_of cells) h)

pub len-cells : (cells : List (ℕ × ℕ)) → IsStrictlySortedBy nat_cmp (keys_of cells) → maps.len (maps.from_entries {R = nat_cmp} cells) ≡ length cells
len-cells cells h = maps.len-entries (maps.from_entries cells) ∙ ap length (entries-cells cells h)

-- ---- entries stay right

right_moved : (old new : List Tree) → Grows old new → (n r : ℕ) → IsRight old n r → IsRight new n r
right_moved old new g n r k =
    record {
      from = omega (arith, k.from, g.longer);
      to = omega (arith, k.to, g.longer);
      form = subst (λ t. IsSimpleForm t (tree_at new r)) (sym (g.same n k.from)) (subst (IsSimpleForm (tree_at old n)) (sym (g.same r k.to)) k.form);
    }

pub right_grown : (old new : List Tree) (m : Forms) → Grows old new → AreRight old m → AreRight new m
right_grown old new m g h = record { right = λ n r e. right_moved old new g n r (h.right n r e) }

at_one : (q a : ℕ) → is_at (nat_cmp q) a ≡ true → q ≡ a
at_one q a h = search rules

at_self : (n : ℕ) → is_at (nat_cmp n) n ≡ true
at_self n = search rules

pub get_here : (m : Forms) (n r : ℕ) → maps.get (maps.insert m n r) n ≡ Some r
get_here m n r = maps.get-insert nat_cmp_total m n r n ∙ ap (λ b. cond b (Some r) (maps.get m n)) (at_self n)

more : (ts : List Tree) (m : Forms) (n r : ℕ) → n < length ts → IsSimpleAt (tree_at ts n) ts r → AreRight ts m → (q s : ℕ) → maps.get (maps.insert m n r) q ≡ Some s → IsRight ts q s
more ts m n r lt f h q s e = by (is_at (nat_cmp q) n) refl (sym (maps.get-insert nat_cmp_total m n r q) ∙ e)
  where
    by : (b : Bool) → is_at (nat_cmp q) n ≡ b → cond b (Some r) (maps.get m q) ≡ Some s → IsRight ts q s
    by true u v =
        let here : IsRight ts n r = record { from = lt; to = f.within; form = f.form } in
        let k : r ≡ s = cc in
        subst (λ x. IsRight ts x s) (sym (at_one q n u)) (subst (IsRight ts n) k here)
    by false u v = h.right q s v

pub right_more : (ts : List Tree) (m : Forms) (n r : ℕ) → n < length ts → IsSimpleAt (tree_at ts n) ts r → AreRight ts m → AreRight ts (maps.insert m n r)
right_more ts m n r lt f h = record { right = more ts m n r lt f h }

-- what an entry says
pub right_form : (ts : List Tree) (m : Forms) (n r : ℕ) → AreRight ts m → maps.get m n ≡ Some r → IsSimpleAt (tree_at ts n) ts r
right_form ts m n r h e = let k = h.right n r e in record { within = k.to; form = k.form }

pub right_empty : (ts : List Tree) (m : Forms) → m ≡ maps.empty → AreRight ts m
right_empty ts m h = record { right = λ n r e. let k : None ≡ Some r = sym (maps.get-empty {X = ℕ} nat_cmp n) ∙ ap (λ w. maps.get w n) (sym h) ∙ e in cc }

pub ruleset memos = (right_grown, get_here, right_more, right_form)

-- ---- the simple form of a node, from those of its parts

pub form_grown : (t : Tree) (old new : List Tree) (r : ℕ) → IsSimpleAt t old r → Grows old new → IsSimpleAt t new r
form_grown t old new r f g = record { within = omega (arith, f.within, g.longer); form = subst (IsSimpleForm t) (sym (g.same r f.within)) f.form }

pub made_psw : (x y z u w : Tree) (ts new : List Tree) (s0 s1 s2 s3 s4 r : ℕ) → IsLedAt (Psw (tree_at ts s0) (tree_at ts s1) (tree_at ts s2) (tree_at ts s3) (tree_at ts s4)) new r → IsSimpleAt x ts s0 → IsSimpleAt y ts s1 → IsSimpleAt z ts s2 → IsSimpleAt u ts s3 → IsSimpleAt w ts s4 → IsSimpleAt (Psw x y z u w) new r
made_psw x y z u w ts new s0 s1 s2 s3 s4 r h f0 f1 f2 f3 f4 = record { within = h.within; form = of_psw x y z u w _ _ _ _ _ _ f0.form f1.form f2.form f3.form f4.form h.form }

pub made_if : (x y z : Tree) (ts new : List Tree) (s0 s1 s2 r : ℕ) → IsLedAt (If (tree_at ts s0) (tree_at ts s1) (tree_at ts s2)) new r → IsSimpleAt x ts s0 → IsSimpleAt y ts s1 → IsSimpleAt z ts s2 → IsSimpleAt (If x y z) new r
made_if x y z ts new s0 s1 s2 r h f0 f1 f2 = record { within = h.within; form = of_if x y z _ _ _ _ f0.form f1.form f2.form h.form }

pub made_update : (x y z : Tree) (ts new : List Tree) (s0 s1 s2 r : ℕ) → IsLedAt (Update (tree_at ts s0) (tree_at ts s1) (tree_at ts s2)) new r → IsSimpleAt x ts s0 → IsSimpleAt y ts s1 → IsSimpleAt z ts s2 → IsSimpleAt (Update x y z) new r
made_update x y z ts new s0 s1 s2 r h f0 f1 f2 = record { within = h.within; form = of_update x y z _ _ _ _ f0.form f1.form f2.form h.form }

pub made_total : (x y z : Tree) (ts new : List Tree) (s0 s1 s2 r : ℕ) → IsLedAt (Total (tree_at ts s0) (tree_at ts s1) (tree_at ts s2)) new r → IsSimpleAt x ts s0 → IsSimpleAt y ts s1 → IsSimpleAt z ts s2 → IsSimpleAt (Total x y z) new r
made_total x y z ts new s0 s1 s2 r h f0 f1 f2 = record { within = h.within; form = of_total x y z _ _ _ _ f0.form f1.form f2.form h.form }

pub made_for_all : (k : ℕ) (x y z : Tree) (ts new : List Tree) (s0 s1 s2 r : ℕ) → IsLedAt (ForAll k (tree_at ts s0) (tree_at ts s1) (tree_at ts s2)) new r → IsSimpleAt x ts s0 → IsSimpleAt y ts s1 → IsSimpleAt z ts s2 → IsSimpleAt (ForAll k x y z) new r
made_for_all k x y z ts new s0 s1 s2 r h f0 f1 f2 = record { within = h.within; form = of_for_all k x y z _ _ _ _ f0.form f1.form f2.form h.form }

pub made_for_some : (k : ℕ) (x y z : Tree) (ts new : List Tree) (s0 s1 s2 r : ℕ) → IsLedAt (ForSome k (tree_at ts s0) (tree_at ts s1) (tree_at ts s2)) new r → IsSimpleAt x ts s0 → IsSimpleAt y ts s1 → IsSimpleAt z ts s2 → IsSimpleAt (ForSome k x y z) new r
made_for_some k x y z ts new s0 s1 s2 r h f0 f1 f2 = record { within = h.within; form = of_for_some k x y z _ _ _ _ f0.form f1.form f2.form h.form }

pub ruleset forms = (right_grown, form_grown, of_literal, of_truth, of_variable, of_add, of_subtract, of_multiply, of_divide, of_remainder, of_byte_and, of_byte_or, of_byte_xor, of_parity, of_bit, made_psw, made_if, of_element, made_update, made_total, of_equal, of_less, of_less_or_equal, of_not, of_and, of_or, of_implies, of_iff, made_for_all, made_for_some)
