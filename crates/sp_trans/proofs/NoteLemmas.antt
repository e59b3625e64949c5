-- Notes are true where their formulas are.
use Rattle.std.proofs.Common.{◌≡◌, ◌≢◌, ℕ, zero, suc, ◌+◌, ◌*◌, ◌<◌, ◌≤◌, ◌⊎◌, inl, inr, Bool, true, false, not, cond, List, [], ◌∷◌, length, refl, sym, ap, subst, ◌∙◌, arith, pos, ℤ}
use Rattle.std.specs.Prelude.{◌↔◌, ◌<ℤ◌, ◌≤ℤ◌, ◌-ℤ◌, neg_ℤ, int_lt, int_le, ◌&&◌, ◌||◌, ◌==◌, Contains, bytes_eq, if◌then◌else◌, ⊤}
use Rattle.std.specs.List.{AllByRecursion}
use Rattle.std.specs.Ordering.{int_eq}
use Rattle.std.specs.Cmp.{signed_Decides}
use Rattle.std.proofs.Math.Path.{fun_ext}
use Rattle.std.proofs.lemmas.Bool.{true≢false, or_cases, or_left, or_right, and_parts, and_from, eqb-true}
use Rattle.std.proofs.lemmas.Bool.Decides.{nat_tests}
use Rattle.std.proofs.lemmas.Int.{ints}
use Rattle.std.proofs.lemmas.List.Elements.{recursion_from_All}
use Rattle.std.proofs.lemmas.Slice.Eq.{bytes_eq-Decides}
use Rattle.sp_base.specs.Integers.{parity, sum_between, all_between, some_between}
use Rattle.sp_base.proofs.IntegerLemmas.{all_between_is, some_between_is}
use Rattle.sp_base.specs.declared.pair.Pair.TheVariants as pair
use Rattle.sp_isa.specs.Core.{Core, word}
use Rattle.sp_model.specs.Note as note
use Rattle.sp_model.specs.Note.{Frame, Bindings, Moment, RegisterPair, Operator, Quantity, Comparison, Connective, Quantifier, Note, HoldsWith, HasBoundNames, BindsNames, bound_value, core_at, register_pair, shown, stack_address, calculate, Compares, Connects, Quantifies}
use Rattle.sp_term.specs.declared.var.Var.{Var}
use Rattle.sp_term.specs.declared.var.Var.TheVariants as var
use Rattle.sp_term.specs.Tree.{Tree}
use Rattle.sp_term.specs.Free.{is_free, IsClosed}
use Rattle.sp_term.specs.Value.{Env, Value, value, bind, int_of, map_of, IsTrueIn}
use Rattle.sp_term.proofs.FreeLemmas.{Agrees, value_agrees, var_self}
use Rattle.sp_trans.specs.Symbolic.{Word, Symbolic, term_at, joined}
use Rattle.sp_trans.specs.Formulas.{state_at, register_pair_term, stack_term, name_number, operation, quantity_term, comparison_formula, formula_in, QuantityFits, NoteFits}
use Rattle.sp_trans.specs.ClosedTerms.{IsClosedWord, IsSymbolic}
use Rattle.sp_trans.specs.Meaning.{Gives, AreWords, IsValueOf}
use Rattle.sp_trans.specs.Theorems.{NotesAreTranslated}
use Rattle.sp_trans.proofs.TermLemmas.{named}
use Rattle.sp_trans.proofs.ValueLemmas.{joined_gives}
use Rattle.sp_trans.proofs.RowLemmas.{gives_pair}

-- ---- closed terms keep their value where a bound variable gets a number

not_bound : (t : Tree) → IsClosed t → (k : ℕ) (z : ℤ) (e : Env) (v : Var) → is_free v t ≡ true → Agrees (bind k z e) e v
not_bound t closed k z e (var.Entry x) free = refl
not_bound t closed k z e (var.Now x) free = refl
not_bound t closed k z e (var.After x j) free = refl
not_bound t closed k z e var.MemEntry free = refl
not_bound t closed k z e var.Mem free = refl
not_bound t closed k z e (var.MemAfter j) free = refl
not_bound t closed k z e (var.In j) free = refl
not_bound t closed k z e (var.SlotHigh j) free = refl
not_bound t closed k z e (var.SlotLow j) free = refl
not_bound t closed k z e (var.Any j) free = refl
not_bound t closed k z e (var.Bound j) free = absurd (true≢false (sym free ∙ closed j))

closed_value : (t : Tree) → IsClosed t → (k : ℕ) (z : ℤ) (e : Env) → value (bind k z e) t ≡ value e t
closed_value t closed k z e = value_agrees t (bind k z e) e (not_bound t closed k z e)

kept : {k : ℕ} {z : ℤ} {e : Env} (t : Tree) (n : ℕ) → IsClosed t → Gives e t n → Gives (bind k z e) t n
kept {k = k} {z = z} {e = e} t n closed h = record { is = ap (λ (v : Value). v.int) (closed_value t closed k z e) ∙ h.is }

words_kept : (f : Frame) (e : Env) (k : ℕ) (z : ℤ) (words : List Word) (cells : List ℕ) → AllByRecursion IsClosedWord words → AreWords f e words cells → AreWords f (bind k z e) words cells
words_kept f e k z [] cells closed h = tt
words_kept f e k z (w ∷ words) cells closed h = (
  record { low = kept w.low _ closed.0.low.closed h.0.low; high = kept w.high _ closed.0.high.closed h.0.high },
  words_kept f e k z words cells closed.1 h.1,
)

state_kept : (f : Frame) (e : Env) (k : ℕ) (z : ℤ) (g : Symbolic) (core : Core) → IsSymbolic g → IsValueOf f e g core → IsValueOf f (bind k z e) g core
state_kept f e k z g core closed h = record {
  locations = λ x. kept (term_at x g) _ (closed.locations x).closed (h.locations x);
  memory = λ a. ap (λ (v : Value). v.map a) (closed_value g.memory closed.memory.closed k z e) ∙ h.memory a;
  slots = words_kept f e k z g.slots core.cells (recursion_from_All IsClosedWord g.slots closed.slots) h.slots;
}

-- ---- bound names

-- the variable of each bound name has its number
abbrev HasNumbers : Env → List (List ℕ) → Bindings → Type 0
HasNumbers e [] [] = ⊤
HasNumbers e (name ∷ names) (p ∷ b) = (p.0 ≡ name) × (e.int (var.Bound (length names + 1)) ≡ p.1) × HasNumbers e names b
HasNumbers e _ _ = ⊥

pub in_rest : (bound name : List ℕ) (names : List (List ℕ)) → bytes_eq bound name ≡ false → Contains (bound ∷ names) name → Contains names name
in_rest bound name names other (zero, less, is) = absurd (let same = (bytes_eq-Decides bound name).1 is in true≢false (sym same ∙ other))
in_rest bound name names other (suc k, less, is) = (k, omega arith, is)

pub not_in_none : (name : List ℕ) → Contains [] name → ⊥
not_in_none name h = let less = h.1 in omega arith

number_value : (e : Env) (names : List (List ℕ)) (b : Bindings) (name : List ℕ) → HasNumbers e names b → Contains names name → e.int (var.Bound (name_number names name)) ≡ bound_value b name
number_value e [] [] name h within = absurd (not_in_none name within)
number_value e [] (p ∷ b) name h within = absurd h
number_value e (bound ∷ names) [] name h within = absurd h
number_value e (bound ∷ names) (p ∷ b) name h within = by (bytes_eq bound name) refl (λ is. number_value e names b name h.2 (in_rest bound name names is within))
  where
    by : (t : Bool) → bytes_eq bound name ≡ t → (bytes_eq bound name ≡ false → e.int (var.Bound (name_number names name)) ≡ bound_value b name) → e.int (var.Bound (name_number (bound ∷ names) name)) ≡ bound_value (p ∷ b) name
    by true is rest =
        ap (λ t. e.int (var.Bound (cond t (length names + 1) (name_number names name)))) is ∙ h.1
        ∙ sym (ap (λ m. cond (bytes_eq m name) p.1 (bound_value b name)) h.0 ∙ ap (λ t. cond t p.1 (bound_value b name)) is)
    by false is rest =
        ap (λ t. e.int (var.Bound (cond t (length names + 1) (name_number names name)))) is
        ∙ rest is
        ∙ sym (ap (λ m. cond (bytes_eq m name) p.1 (bound_value b name)) h.0 ∙ ap (λ t. cond t p.1 (bound_value b name)) is)

-- a higher number leaves the names
names_kept : (e : Env) (k : ℕ) (z : ℤ) (names : List (List ℕ)) (b : Bindings) → length names < k → HasNumbers e names b → HasNumbers (bind k z e) names b
names_kept e k z [] [] less h = tt
names_kept e k z [] (p ∷ b) less h = absurd h
names_kept e k z (name ∷ names) [] less h = absurd h
names_kept e k z (name ∷ names) (p ∷ b) less h =
    let other : (length names + 1 == k) ≡ false = grind (arith, nat_tests) in
    (h.0, ap (λ t. cond t z (e.int (var.Bound (length names + 1)))) other ∙ h.1, names_kept e k z names b (omega arith) h.2)

one_more : (e : Env) (z : ℤ) (name : List ℕ) (names : List (List ℕ)) (b : Bindings) → HasNumbers e names b → HasNumbers (bind (length names + 1) z e) (name ∷ names) ((name, z) ∷ b)
one_more e z name names b h =
    (refl, ap (λ t. cond t z (e.int (var.Bound (length names + 1)))) (var_self (var.Bound (length names + 1))), names_kept e (length names + 1) z names b (omega arith) h)

-- ---- quantities

-- the two symbolic states have the values of the two cores, and are closed
record Stands (f : Frame) (e : Env) (g0 g : Symbolic) (entry now : Core) : Type 0 where
  pub closed0 : IsSymbolic g0
  pub closed : IsSymbolic g
  pub first : IsValueOf f e g0 entry
  pub present : IsValueOf f e g now

stays : {f : Frame} {e : Env} {g0 g : Symbolic} {entry now : Core} (k : ℕ) (z : ℤ) → Stands f e g0 g entry now → Stands f (bind k z e) g0 g entry now
stays k z h = record { closed0 = h.closed0; closed = h.closed; first = state_kept _ _ k z _ _ h.closed0 h.first; present = state_kept _ _ k z _ _ h.closed h.present }

at_moment : (m : Moment) {f : Frame} {e : Env} {g0 g : Symbolic} {entry now : Core} → Stands f e g0 g entry now → IsValueOf f e (state_at m g0 g) (core_at m entry now)
at_moment note.Now h = h.present
at_moment note.AtEntry h = h.first

pair_value : (p : RegisterPair) {f : Frame} {e : Env} {g : Symbolic} {core : Core} → IsValueOf f e g core → Gives e (register_pair_term p g) (register_pair p core)
pair_value note.BC h = gives_pair pair.B (λ e. cc) h
pair_value note.DE h = gives_pair pair.D (λ e. cc) h
pair_value note.HL h = gives_pair pair.H (λ e. cc) h

swapped : (m n : ℕ) → 256 * m + n ≡ n + 256 * m
swapped m n = omega arith

stack_value : (f : Frame) (e : Env) (words : List Word) (core : Core) (k : ℕ) → AreWords f e words core.cells → 1 ≤ k → k ≤ length words → Gives e (stack_term k words) (word (stack_address f k) core)
stack_value f e [] core k h some less = absurd (omega arith)
stack_value f e (w ∷ words) core k h some less = by (k == length words + 1) refl (λ shorter. stack_value f e words core k h.1 some shorter)
  where
    by : (t : Bool) → (k == length words + 1) ≡ t → (k ≤ length words → Gives e (stack_term k words) (word (stack_address f k) core)) → Gives e (stack_term k (w ∷ words)) (word (stack_address f k) core)
    by true is rest =
        let same : length words + 1 ≡ k = sym (eqb-true k (length words + 1) is) in
        subst (λ (t : Bool). Gives e (cond t (joined w.high w.low) (stack_term k words)) (word (stack_address f k) core)) (sym is)
        (named (swapped _ _ ∙ ap (λ n. word (stack_address f n) core) same) (joined_gives h.0.high h.0.low))
    by false is rest =
        let other : k ≢ length words + 1 = grind (arith, nat_tests) in
        subst (λ (t : Bool). Gives e (cond t (joined w.high w.low) (stack_term k words)) (word (stack_address f k) core)) (sym is)
        (rest (omega arith))

both : {X Y Z : Type 0} → (f : X → Y → Z) → {x x' : X} → {y y' : Y} → x ≡ x' → y ≡ y' → f x y ≡ f x' y'
both f {x = x} {y' = y'} p q = ap (f x) q ∙ ap (λ x. f x y') p

from_zero : (z : ℤ) → pos 0 -ℤ z ≡ neg_ℤ z
from_zero z = omega (arith, ints)

operation_value : (o : Operator) (e : Env) (x y : Tree) → int_of e (operation o x y) ≡ calculate o (int_of e x) (int_of e y)
operation_value note.Add e x y = refl
operation_value o e x y = refl

quantity_value : (f : Frame) (e : Env) (g0 g : Symbolic) (entry now : Core) (names : List (List ℕ)) (b : Bindings) → Stands f e g0 g entry now → HasNumbers e names b → (x : Quantity) → HasBoundNames names x → QuantityFits (length g.slots) x → int_of e (quantity_term g0 g names x) ≡ note.value f b x entry now
quantity_value f e g0 g entry now names b h k (note.Literal n) bound fits = refl
quantity_value f e g0 g entry now names b h k (note.Location m x) bound fits = ((at_moment m h).locations x).is
quantity_value f e g0 g entry now names b h k (note.Pair m p) bound fits = (pair_value p (at_moment m h)).is
quantity_value f e g0 g entry now names b h k (note.Cell m x) bound fits =
    ap (map_of e (state_at m g0 g).memory) (quantity_value f e g0 g entry now names b h k x bound fits)
    ∙ (at_moment m h).memory (note.value f b x entry now)
quantity_value f e g0 g entry now names b h k (note.StackWord n) bound fits = (stack_value f e g.slots now n h.present.slots fits.0 fits.1).is
quantity_value f e g0 g entry now names b h k (note.Total m x y) bound fits =
    ap (λ (c : ℤ → ℤ). sum_between c (int_of e (quantity_term g0 g names x)) (int_of e (quantity_term g0 g names y))) (fun_ext (at_moment m h).memory)
    ∙ both (sum_between (shown f (core_at m entry now).cells)) (quantity_value f e g0 g entry now names b h k x bound.0 fits.0) (quantity_value f e g0 g entry now names b h k y bound.1 fits.1)
quantity_value f e g0 g entry now names b h k (note.Negative x) bound fits =
    from_zero (int_of e (quantity_term g0 g names x)) ∙ ap neg_ℤ (quantity_value f e g0 g entry now names b h k x bound fits)
quantity_value f e g0 g entry now names b h k (note.Parity x) bound fits = ap parity (quantity_value f e g0 g entry now names b h k x bound fits)
quantity_value f e g0 g entry now names b h k (note.Operate o x y) bound fits =
    operation_value o e _ _ ∙ both (calculate o) (quantity_value f e g0 g entry now names b h k x bound.0 fits.0) (quantity_value f e g0 g entry now names b h k y bound.1 fits.1)
quantity_value f e g0 g entry now names b h k (note.Bound name) bound fits = number_value e names b name k bound

-- ---- formulas

equal_is : (x y : ℤ) → (int_eq x y ≡ true) ↔ (x ≡ y)
equal_is x y = ((signed_Decides x y).0, (signed_Decides x y).1)

not_is : {P : Type 0} (b : Bool) → (b ≡ true) ↔ P → (not b ≡ true) ↔ (¬ P)
not_is true h = ((λ e. absurd (true≢false (sym e))), (λ no. absurd (no (h.0 refl))))
not_is false h = ((λ e p. true≢false (sym (h.1 p))), (λ no. refl))

less_is : (x y : ℤ) → (int_lt x y ≡ true) ↔ (x <ℤ y)
less_is x y = ((λ h. grind (arith, ints)), (λ h. grind (arith, ints)))

at_most_is : (x y : ℤ) → (int_le x y ≡ true) ↔ (x ≤ℤ y)
at_most_is x y = ((λ h. grind (arith, ints)), (λ h. grind (arith, ints)))

comparison_is : (c : Comparison) (e : Env) (x y : Tree) → IsTrueIn e (comparison_formula c x y) ↔ Compares c (int_of e x) (int_of e y)
comparison_is note.Equal e x y = equal_is (int_of e x) (int_of e y)
comparison_is note.Unequal e x y = not_is (int_eq (int_of e x) (int_of e y)) (equal_is (int_of e x) (int_of e y))
comparison_is note.Less e x y = less_is (int_of e x) (int_of e y)
comparison_is note.LessOrEqual e x y = at_most_is (int_of e x) (int_of e y)
comparison_is note.Greater e x y = less_is (int_of e y) (int_of e x)
comparison_is note.GreaterOrEqual e x y = at_most_is (int_of e y) (int_of e x)

and_is : {P Q : Type 0} (a b : Bool) → (a ≡ true) ↔ P → (b ≡ true) ↔ Q → ((a && b) ≡ true) ↔ (P × Q)
and_is a b h k = ((λ e. let r = and_parts a b e in (h.0 r.0, k.0 r.1)), (λ r. and_from a b (h.1 r.0) (k.1 r.1)))

or_is : {P Q : Type 0} (a b : Bool) → (a ≡ true) ↔ P → (b ≡ true) ↔ Q → ((a || b) ≡ true) ↔ (P ⊎ Q)
or_is a b h k = ((λ e. elim (or_cases a b e) [ inl r ↦ inl (h.0 r) | inr r ↦ inr (k.0 r) ]), (λ r. elim r [ inl p ↦ or_left a b (h.1 p) | inr q ↦ or_right a b (k.1 q) ]))

implies_is : {P Q : Type 0} (a b : Bool) → (a ≡ true) ↔ P → (b ≡ true) ↔ Q → ((not a || b) ≡ true) ↔ (P → Q)
implies_is true b h k = ((λ e p. k.0 e), (λ r. k.1 (r (h.0 refl))))
implies_is false b h k = ((λ e p. absurd (true≢false (sym (h.1 p)))), (λ r. refl))

iff_is : {P Q : Type 0} (a b : Bool) → (a ≡ true) ↔ P → (b ≡ true) ↔ Q → ((if a then b else not b) ≡ true) ↔ ((P → Q) × (Q → P))
iff_is true b h k = ((λ e. ((λ p. k.0 e), (λ q. h.0 refl))), (λ r. k.1 (r.0 (h.0 refl))))
iff_is false true h k = ((λ e. absurd (true≢false (sym e))), (λ r. absurd (true≢false (sym (h.1 (r.1 (k.0 refl)))))))
iff_is false false h k = ((λ e. ((λ p. absurd (true≢false (sym (h.1 p)))), (λ q. absurd (true≢false (sym (k.1 q)))))), (λ r. refl))

moved : (c : Comparison) {x y m n : ℤ} → x ≡ m → y ≡ n → Compares c x y ↔ Compares c m n
moved c {y = y} {m = m} p q = ((λ h. subst (Compares c m) q (subst (λ v. Compares c v y) p h)), (λ h. subst (λ v. Compares c v y) (sym p) (subst (Compares c m) (sym q) h)))

chained : {A B C : Type 0} → A ↔ B → B ↔ C → A ↔ C
chained h k = ((λ a. k.0 (h.0 a)), (λ c. h.1 (k.1 c)))

-- a quantifier over the same range, of the same facts
all_is : (p : ℤ → Bool) (low high m n : ℤ) (P : ℤ → Type 0) → low ≡ m → high ≡ n → ((z : ℤ) → (p z ≡ true) ↔ P z) → (all_between p low high ≡ true) ↔ ((z : ℤ) → m ≤ℤ z → z ≤ℤ n → P z)
all_is p low high m n P a b h = (
  (λ e z from to. (h z).0 ((all_between_is p low high).0 e z (subst (λ v. v ≤ℤ z) (sym a) from) (subst (λ v. z ≤ℤ v) (sym b) to))),
  (λ r. (all_between_is p low high).1 (λ z from to. (h z).1 (r z (subst (λ v. v ≤ℤ z) a from) (subst (λ v. z ≤ℤ v) b to)))),
)

some_is : (p : ℤ → Bool) (low high m n : ℤ) (P : ℤ → Type 0) → low ≡ m → high ≡ n → ((z : ℤ) → (p z ≡ true) ↔ P z) → (some_between p low high ≡ true) ↔ ((z : ℤ) × (m ≤ℤ z) × (z ≤ℤ n) × P z)
some_is p low high m n P a b h = (
  (λ e. let r = (some_between_is p low high).0 e in (r.0, subst (λ v. v ≤ℤ r.0) a r.1, subst (λ v. r.0 ≤ℤ v) b r.2, (h r.0).0 r.3)),
  (λ r. (some_between_is p low high).1 (r.0, subst (λ v. v ≤ℤ r.0) (sym a) r.1, subst (λ v. r.0 ≤ℤ v) (sym b) r.2, (h r.0).1 r.3)),
)

formula_is : (f : Frame) (e : Env) (g0 g : Symbolic) (entry now : Core) (names : List (List ℕ)) (b : Bindings) → Stands f e g0 g entry now → HasNumbers e names b → (p : Note) → BindsNames names p → NoteFits (length g.slots) p → IsTrueIn e (formula_in g0 g names p) ↔ HoldsWith f b p entry now
formula_is f e g0 g entry now names b h k (note.Constant truth) bound fits = ((λ r. r), (λ r. r))
formula_is f e g0 g entry now names b h k (note.Compare c x y) bound fits =
    chained (comparison_is c e (quantity_term g0 g names x) (quantity_term g0 g names y))
    (moved c (quantity_value f e g0 g entry now names b h k x bound.0 fits.0) (quantity_value f e g0 g entry now names b h k y bound.1 fits.1))
formula_is f e g0 g entry now names b h k (note.Not p) bound fits = not_is _ (formula_is f e g0 g entry now names b h k p bound fits)
formula_is f e g0 g entry now names b h k (note.Connect note.And p q) bound fits = and_is _ _ (formula_is f e g0 g entry now names b h k p bound.0 fits.0) (formula_is f e g0 g entry now names b h k q bound.1 fits.1)
formula_is f e g0 g entry now names b h k (note.Connect note.Or p q) bound fits = or_is _ _ (formula_is f e g0 g entry now names b h k p bound.0 fits.0) (formula_is f e g0 g entry now names b h k q bound.1 fits.1)
formula_is f e g0 g entry now names b h k (note.Connect note.Implies p q) bound fits = implies_is _ _ (formula_is f e g0 g entry now names b h k p bound.0 fits.0) (formula_is f e g0 g entry now names b h k q bound.1 fits.1)
formula_is f e g0 g entry now names b h k (note.Connect note.Iff p q) bound fits = iff_is _ _ (formula_is f e g0 g entry now names b h k p bound.0 fits.0) (formula_is f e g0 g entry now names b h k q bound.1 fits.1)
formula_is f e g0 g entry now names b h k (note.Quantify note.ForAll name x y p) bound fits =
    all_is (λ z. (value (bind (length names + 1) z e) (formula_in g0 g (name ∷ names) p)).truth) _ _ _ _ (λ z. HoldsWith f ((name, z) ∷ b) p entry now)
    (quantity_value f e g0 g entry now names b h k x bound.0 fits.0) (quantity_value f e g0 g entry now names b h k y bound.1 fits.1)
    (λ z. formula_is f (bind (length names + 1) z e) g0 g entry now (name ∷ names) ((name, z) ∷ b) (stays (length names + 1) z h) (one_more e z name names b k) p bound.2 fits.2)
formula_is f e g0 g entry now names b h k (note.Quantify note.ForSome name x y p) bound fits =
    some_is (λ z. (value (bind (length names + 1) z e) (formula_in g0 g (name ∷ names) p)).truth) _ _ _ _ (λ z. HoldsWith f ((name, z) ∷ b) p entry now)
    (quantity_value f e g0 g entry now names b h k x bound.0 fits.0) (quantity_value f e g0 g entry now names b h k y bound.1 fits.1)
    (λ z. formula_is f (bind (length names + 1) z e) g0 g entry now (name ∷ names) ((name, z) ∷ b) (stays (length names + 1) z h) (one_more e z name names b k) p bound.2 fits.2)

pub notes_are_translated : NotesAreTranslated
notes_are_translated f e g0 g entry now p closed0 closed bound fits h0 h =
    formula_is f e g0 g entry now [] [] (record { closed0 = closed0; closed = closed; first = h0; present = h }) tt p bound fits
