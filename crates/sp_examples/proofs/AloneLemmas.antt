-- Programs of one routine: all their runs, one that is bad, and the return at the end.
use Rattle.std.proofs.Common.{◌≡◌, ℕ, zero, suc, ◌+◌, ◌*◌, ◌%◌, ◌<◌, Bool, false, List, [], ◌∷◌, refl, sym, ap, subst, ◌∙◌, arith, Some, ◌⊎◌, inl, inr}
use Rattle.std.specs.Prelude.{All, Contains, slice_index}
use Rattle.std.specs.List.{AllByRecursion}
use Rattle.sp_base.specs.Image.{ImageMap}
use Rattle.sp_base.specs.declared.location.Loc.{Loc}
use Rattle.sp_base.specs.declared.location.Loc.TheVariants as loc
use Rattle.sp_isa.specs.declared.instr.Instr.TheVariants.{Ret}
use Rattle.sp_isa.specs.Core.{Core, at, cell, word, with_sp, with_pc}
use Rattle.sp_isa.specs.Stack.{ret}
use Rattle.sp_model.specs.State.{State, IsState, next_instr, step, run}
use Rattle.sp_model.specs.Unit.{Stmt, Routine, Unit}
use Rattle.sp_model.specs.Good.{Keeps, Loaded, IsEntry, IsInCode, IsGood, IsGoodAt, IsReturnStep, HasReturned, AllRunsAreGood, base}
use Rattle.sp_examples.specs.Units.{alone, unit_of}
use Rattle.sp_examples.proofs.RunLemmas.{IsGoodFrom, ends, good_of}
use Rattle.sp_examples.proofs.EntryLemmas.{placed, placed_is}
use Rattle.sp_examples.proofs.GoodLemmas.{Says, AssertsHold, good_return, back, returned_from, return_step}

-- ---- finding
pub one_of : {A : Type 0} (P : A → Type 0) (x : A) → P x → (y : A) → Contains (x ∷ []) y → P y
one_of P x p y (zero, less, is) = subst P is p
one_of P x p y (suc k, less, is) = absurd (omega arith)

pub two_of : {A : Type 0} (P : A → Type 0) (x y : A) → P x → P y → (z : A) → Contains (x ∷ y ∷ []) z → P z
two_of P x y p q z (zero, less, is) = subst P is p
two_of P x y p q z (suc zero, less, is) = subst P is q
two_of P x y p q z (suc (suc k), less, is) = absurd (omega arith)

pub each : {A : Type 0} (P : A → Type 0) (xs : List A) → AllByRecursion P xs → (y : A) → Contains xs y → P y
each P [] h y there = absurd (omega (arith, there.1))
each P (x ∷ xs) h y (zero, less, is) = subst P is h.0
each P (x ∷ xs) h y (suc k, less, is) = each P xs h.1 y (k, omega arith, is)

pub later : {A : Type 0} (x y : A) (xs : List A) → Contains xs y → Contains (x ∷ xs) y
later x y xs (k, less, is) = (suc k, omega arith, is)

-- some element of a list has a property, or none has
pub found : {A : Type 0} (P : A → Type 0) → ((x : A) → P x ⊎ (P x → ⊥)) → (xs : List A) → ((x : A) × Contains xs x × P x) ⊎ ((x : A) → Contains xs x → P x → ⊥)
found P test [] = inr (λ x h p. omega (arith, h.1))
found P test (x ∷ xs) =
    elim (test x) [
      | inl p ↦ inl (x, (0, omega arith, refl), p)
      | inr n ↦ elim (found P test xs) [
        | inl h ↦ inl (h.0, later x h.0 xs h.1, h.2)
        | inr none ↦ inr (λ y h. not_found P x xs n none y h)
      ]
    ]
  where
    not_found : {A : Type 0} (P : A → Type 0) (x : A) (xs : List A) → (P x → ⊥) → ((y : A) → Contains xs y → P y → ⊥) → (y : A) → Contains (x ∷ xs) y → P y → ⊥
    not_found P x xs n none y (zero, less, is) p = n (subst P (sym is) p)
    not_found P x xs n none y (suc k, less, is) p = none y (k, omega arith, is) p

-- ---- all runs
pub all_alone : (r : Routine) → ((s : State) → IsEntry (alone r) r (placed s r.address) → IsGoodFrom (alone r) r (placed s r.address) (placed s r.address)) → AllRunsAreGood (alone r)
all_alone r good = one_of (λ q. (s : State) → IsEntry (alone r) q s → (n : ℕ) → IsGood (alone r) q s n) r
    (λ s entry n.
    let is : s ≡ placed s r.address = placed_is s r.address entry.begins entry.running in
    subst (λ t. IsGood (alone r) r t n) (sym is) (good_of (alone r) r (placed s r.address) (good s (subst (IsEntry (alone r) r) is entry)) n))

-- what a good program says of the state that one step leads to
pub after_one : (r : Routine) (s v : State) → AllRunsAreGood (alone r) → IsEntry (alone r) r s → ¬ IsReturnStep (alone r) r s s → step s ≡ v → IsGoodAt (alone r) r s v
after_one r s v good entry stays is =
    subst (IsGoodAt (alone r) r s) is (good r (0, omega arith, refl) s entry 1 1 (omega arith)
    (λ k less. only k less))
  where
    only : (k : ℕ) → k < 1 → ¬ IsReturnStep (alone r) r s (run s k)
    only zero less = stays
    only (suc k) less = absurd (omega arith)

-- and of the entry itself
pub at_entry : (r : Routine) (s : State) → AllRunsAreGood (alone r) → IsEntry (alone r) r s → IsGoodAt (alone r) r s s
at_entry r s good entry = good r (0, omega arith, refl) s entry 0 0 (omega arith) (λ k less. absurd (omega arith))

-- ---- a routine of a larger program
returned_in : (rs : List Routine) (r : Routine) (s t : State) → HasReturned (alone r) r s t → HasReturned (unit_of rs) r s t
returned_in rs r s t h = record {
  keeps = record { memory = h.keeps.memory; outputs = h.keeps.outputs };
  post = h.post;
  sp = h.sp;
  pc = h.pc;
  unlisted = h.unlisted;
}

good_in : (rs : List Routine) (r : Routine) (s t : State) → Contains rs r → IsGoodAt (alone r) r s t → IsGoodAt (unit_of rs) r s t
good_in rs r s t there h = record {
  keeps = record { memory = h.keeps.memory; outputs = h.keeps.outputs };
  in_code = (
    r,
    there,
    one_of (λ (q : Routine). (i : Stmt) → Contains q.code i → i.address ≡ t.core.pc → (i : Stmt) × Contains r.code i × (i.address ≡ t.core.pc)) r (λ i listed is. (i, listed, is))
        h.in_code.0 h.in_code.1 h.in_code.2.0 h.in_code.2.1 h.in_code.2.2,
  );
  not_stuck = h.not_stuck;
  asserts = h.asserts;
  inputs = h.inputs;
  returned = λ k. returned_in rs r s (step t) (h.returned (record { running = k.running; returns = k.returns; at_base = k.at_base }));
}

-- a routine that is good alone is good in a program that has its bytes
pub wider : (rs : List Routine) (r : Routine) → Contains rs r → ((t : State) → Loaded (unit_of rs).image t → Loaded (alone r).image t) → AllRunsAreGood (alone r) → (s : State) → IsEntry (unit_of rs) r s → (n : ℕ) → IsGood (unit_of rs) r s n
wider rs r there part good s entry n i within none =
    good_in rs r s (run s i) there (good r (0, omega arith, refl) s
    (record { state = entry.state; loaded = part s entry.loaded; begins = entry.begins; running = entry.running; pre = entry.pre; room = λ h. record { below = (entry.room h).below; above = (entry.room h).above } })
    i i (omega arith) (λ k less h. none k less (record { running = h.running; returns = h.returns; at_base = h.at_base })))

-- ---- registers and flags
pub at_moved : (x : Loc) (core : Core) (sp pc : ℕ) (halted : Bool) (cells : List ℕ) → at x (record core { sp = sp; pc = pc; halted = halted; cells = cells }) ≡ at x core
at_moved loc.A core sp pc halted cells = refl
at_moved x core sp pc halted cells = refl

pub at_back : (x : Loc) (t : State) → at x (back t).core ≡ at x t.core
unfolding ret with_sp with_pc
at_back loc.A t = refl
at_back x t = refl

-- ---- the return at the end
pub word_kept : (s t : State) (a : ℕ) → cell a t.core ≡ cell a s.core → cell (a + 1) t.core ≡ cell (a + 1) s.core → word a t.core ≡ word a s.core
word_kept s t a low high = ap (λ b. b + 256 * cell (a + 1) t.core) low ∙ ap (λ b. cell a s.core + 256 * b) high

-- a RET at the base
pub finish : (u : Unit) (r : Routine) (s t : State) → t.core.halted ≡ false → next_instr t.core ≡ Some (Ret, 1) → IsState s → Keeps u r s t → IsInCode u t.core → AssertsHold u r s t → t.core.sp ≡ base u r s → base u r s + 2 < 65536 → word (base u r s) t.core ≡ word (base u r s) s.core → All (Says u r s (back t)) r.post → ((x : Loc) → ¬ Contains r.changes.locs x → at x t.core ≡ at x s.core) → IsGoodFrom u r s t
finish u r s t running is state kept in_code asserts here room word_is post unlisted =
    ends u r s t
    (good_return u r s t running is kept in_code asserts
    (returned_from u r s t state kept here room word_is post (λ x out. at_back x t ∙ unlisted x out)))
    (return_step u r s t running is here)

-- a cell and a step that leaves memory
pub loaded_still : (image : ImageMap) (t v : State) → v.core.cells ≡ t.core.cells → Loaded image t → Loaded image v
loaded_still image t v same loaded a byte there = ap (λ m. slice_index m (a % 65536)) same ∙ loaded a byte there
