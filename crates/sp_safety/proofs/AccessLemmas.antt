-- Which cells an instruction reads and writes, by where it finds their addresses.
use Rattle.std.proofs.Common.{◌≡◌, ◌≢◌, ℕ, ◌+◌, ◌%◌, ◌<◌, ℤ, Bool, true, false, cond, ◌||◌, List, [], ◌∷◌, refl, ◌∙◌, arith}
use Rattle.std.specs.Prelude.{All, Contains, IsTrue, slice_set}
use Rattle.std.proofs.lemmas.List.Elements.{All-nil, All-cons, All-append, All-head, All-tail}
use Rattle.sp_base.specs.declared.pair.Pair.{Pair}
use Rattle.sp_base.specs.declared.pair.Pair.TheVariants as pair
use Rattle.sp_isa.specs.Code.{valid}
use Rattle.sp_isa.specs.Core.{Core, IsCore}
use Rattle.sp_isa.specs.Operands.{pair_of, arg_of}
use Rattle.sp_isa.specs.Outcome.{IsApart, stores, to_arg, pushes, pushes_pair, written}
use Rattle.sp_isa.specs.Stack.{flag_byte, holds}
use Rattle.sp_isa.specs.declared.instr.Arg.{Arg}
use Rattle.sp_isa.specs.declared.instr.Arg.TheVariants as arg
use Rattle.sp_isa.specs.declared.instr.StackPair.{StackPair}
use Rattle.sp_isa.specs.declared.instr.StackPair.TheVariants as stack
use Rattle.sp_isa.specs.declared.instr.Instr.{Instr}
use Rattle.sp_isa.specs.declared.instr.Instr.TheVariants.{Mov, Mvi, Inr, Dcr, Alu, Stax, Ldax, Shld, Lhld, Sta, Lda, Push, Call, Ccc, Rst, Xthl}
use Rattle.sp_model.specs.Note.{Frame, shown}
use Rattle.sp_graph.specs.Control.{accesses, is_cell}
use Rattle.sp_flow.specs.Flow.{cells_read, cells_written, cells_of_word}
use Rattle.sp_term.specs.Value.{Env}
use Rattle.sp_trans.specs.Meaning.{Gives, IsValueOf, IsInStack, addressed, arg_cells}
use Rattle.sp_trans.specs.Symbolic.{Symbolic}
use Rattle.sp_trans.proofs.RowLemmas.{gives_pair, low_pair}
use Rattle.sp_trans.proofs.StackLemmas.{unseen, in_stack_true}
use Rattle.sp_cond.specs.Conclusions.{accessed}
use Rattle.sp_cond.specs.Start.{is_store}
use Rattle.sp_safety.specs.Calls.{On, Calls, way_of}

-- the address of the cell that an instruction accesses
abbrev pub accessed_at : Instr → Core → ℕ
accessed_at (Stax p) core = pair_of p core
accessed_at (Ldax p) core = pair_of p core
accessed_at _ core = pair_of pair.H core

h_not : pair.H ≢ pair.Sp
h_not e = cc

b_not : pair.B ≢ pair.Sp
b_not e = cc

d_not : pair.D ≢ pair.Sp
d_not e = cc

module _ (f : Frame) (e : Env) (g : Symbolic) (core : Core) (value : IsValueOf f e g core) where
  of_stax : (p : Pair) → IsTrue (valid (Stax p)) → Gives e (accessed (Stax p) g) (pair_of p core)
  of_stax pair.B h = gives_pair pair.B b_not value
  of_stax pair.D h = gives_pair pair.D d_not value
  of_stax pair.H h = gives_pair pair.H h_not value
  of_stax pair.Sp h = cc

  of_ldax : (p : Pair) → IsTrue (valid (Ldax p)) → Gives e (accessed (Ldax p) g) (pair_of p core)
  of_ldax pair.B h = gives_pair pair.B b_not value
  of_ldax pair.D h = gives_pair pair.D d_not value
  of_ldax pair.H h = gives_pair pair.H h_not value
  of_ldax pair.Sp h = cc

  -- its term has that value
  pub accessed_gives : (i : Instr) → IsTrue (valid i) → Gives e (accessed i g) (accessed_at i core)
  accessed_gives (Stax p) h = of_stax p h
  accessed_gives (Ldax p) h = of_ldax p h
  accessed_gives i h = gives_pair pair.H h_not value

pub low_accessed : (i : Instr) (core : Core) → IsCore core → accessed_at i core < 65536
low_accessed (Stax p) core k = low_pair p core k
low_accessed (Ldax p) core k = low_pair p core k
low_accessed i core k = low_pair pair.H core k

or_left : (a b : Bool) → a ≡ true → (a || b) ≡ true
or_left true b h = refl
or_left false b h = cc

or_right : (a b : Bool) → b ≡ true → (a || b) ≡ true
or_right true b h = refl
or_right false b h = h

-- ---- All cells that have an address

module _ (Q : ℕ → Type 0) (core : Core) where
  m_cells : (y : Arg) → (is_cell y ≡ true → Q (pair_of pair.H core)) → All Q (arg_cells y core)
  m_cells (arg.Reg r) h = All-nil Q
  m_cells arg.M h = All-cons Q (pair_of pair.H core) [] (h refl) (All-nil Q)

  one_cell : (w : ℕ) → Q w → All Q (w ∷ [])
  one_cell w h = All-cons Q w [] h (All-nil Q)

  two_cells : (w : ℕ) → ((v : ℕ) → Contains (cells_of_word w) v → Q v) → All Q (cells_of_word w)
  two_cells w h = All-cons Q w ((w + 1) % 65536 ∷ []) (h w (0, omega arith, refl)) (one_cell ((w + 1) % 65536) (h ((w + 1) % 65536) (1, omega arith, refl)))

  pub all_addressed : (i : Instr) → (accesses i ≡ true → Q (accessed_at i core)) → ((w : ℕ) → Contains (cells_read i) w → Q w) → ((w : ℕ) → Contains (cells_written i) w → Q w) → All Q (addressed i core)
  all_addressed (Mov to from) m reads writes =
      All-append Q (arg_cells to core) (arg_cells from core) (m_cells to (λ h. m (or_left (is_cell to) (is_cell from) h))) (m_cells from (λ h. m (or_right (is_cell to) (is_cell from) h)))
  all_addressed (Mvi to n) m reads writes = m_cells to m
  all_addressed (Inr y) m reads writes = m_cells y m
  all_addressed (Dcr y) m reads writes = m_cells y m
  all_addressed (Alu o y) m reads writes = m_cells y m
  all_addressed (Stax p) m reads writes = one_cell (pair_of p core) (m refl)
  all_addressed (Ldax p) m reads writes = one_cell (pair_of p core) (m refl)
  all_addressed (Shld w) m reads writes = two_cells w writes
  all_addressed (Lhld w) m reads writes = two_cells w reads
  all_addressed (Sta w) m reads writes = one_cell w (writes w (0, omega arith, refl))
  all_addressed (Lda w) m reads writes = one_cell w (reads w (0, omega arith, refl))
  all_addressed i m reads writes = All-nil Q

-- ---- Cells that are written

both_of : (Q : ℕ → Type 0) (a b : ℕ) → All Q (a ∷ b ∷ []) → Q a × Q b
both_of Q a b h = (All-head Q a (b ∷ []) h, All-head Q b [] (All-tail Q a (b ∷ []) h))

-- the cells of the stack that PUSH and XTHL write
abbrev pub touched : Instr → Core → List ℕ
touched (Push p) core = (core.sp + 65535) % 65536 ∷ (core.sp + 65534) % 65536 ∷ []
touched Xthl core = core.sp % 65536 ∷ (core.sp + 1) % 65536 ∷ []
touched i core = []

module _ (core : Core) (a : ℕ) (low : a < 65536) where
  apart_m : (y : Arg) (byte : ℕ) → IsCore core → (is_cell y ≡ true → a ≢ pair_of pair.H core) → IsApart a (to_arg y byte core)
  apart_m (arg.Reg r) byte k h = tt
  apart_m arg.M byte k h = let small = low_pair pair.H core k in ((λ e. h refl (omega (arith, e, small, low))), tt)

  apart_pushes : (high_byte low_byte : ℕ) → All (λ w. a ≢ w) ((core.sp + 65535) % 65536 ∷ (core.sp + 65534) % 65536 ∷ []) → IsApart a (pushes high_byte low_byte core)
  apart_pushes high_byte low_byte h =
      let both = both_of (λ w. a ≢ w) ((core.sp + 65535) % 65536) ((core.sp + 65534) % 65536) h in
      ((λ e. both.0 (omega (arith, e, low))), ((λ e. both.1 (omega (arith, e, low))), tt))

  apart_push : (p : StackPair) → All (λ w. a ≢ w) ((core.sp + 65535) % 65536 ∷ (core.sp + 65534) % 65536 ∷ []) → IsApart a (pushes_pair p core)
  apart_push stack.B h = apart_pushes core.b core.c h
  apart_push stack.D h = apart_pushes core.d core.e h
  apart_push stack.H h = apart_pushes core.h core.l h
  apart_push stack.Psw h = apart_pushes core.a (flag_byte core) h

  call_not : (b : Bool) → cond b Calls On ≡ On → b ≡ false
  call_not true h = cc
  call_not false h = refl

  apart_ccc : (b : Bool) (writes : List (ℕ × ℕ)) → b ≡ false → IsApart a (cond b writes [])
  apart_ccc true writes h = cc
  apart_ccc false writes h = tt

  -- a cell that is none of those that an instruction writes
  pub apart_stores :
      (i : Instr) → IsCore core → way_of i core ≡ On → (accesses i ≡ true → is_store i ≡ true → a ≢ accessed_at i core) → ((w : ℕ) → Contains (cells_written i) w → (w < 65536) × (a ≢ w))
      → All (λ w. a ≢ w) (touched i core) → IsApart a (stores i core)
  apart_stores (Mov arg.M from) k on m writes h = apart_m arg.M (arg_of from core) k (λ e. m refl refl)
  apart_stores (Mov (arg.Reg r) from) k on m writes h = tt
  apart_stores (Mvi arg.M n) k on m writes h = apart_m arg.M n k (λ e. m refl refl)
  apart_stores (Mvi (arg.Reg r) n) k on m writes h = tt
  apart_stores (Inr arg.M) k on m writes h = apart_m arg.M ((arg_of arg.M core + 1) % 256) k (λ e. m refl refl)
  apart_stores (Inr (arg.Reg r)) k on m writes h = tt
  apart_stores (Dcr arg.M) k on m writes h = apart_m arg.M ((arg_of arg.M core + 255) % 256) k (λ e. m refl refl)
  apart_stores (Dcr (arg.Reg r)) k on m writes h = tt
  apart_stores (Stax p) k on m writes h = let small = low_pair p core k in ((λ e. m refl refl (omega (arith, e, small, low))), tt)
  apart_stores (Sta w) k on m writes h = let one = writes w (0, omega arith, refl) in let small = one.0 in ((λ e. one.1 (omega (arith, e, small, low))), tt)
  apart_stores (Shld w) k on m writes h =
      let one = writes w (0, omega arith, refl) in
      let two = writes ((w + 1) % 65536) (1, omega arith, refl) in
      let small = one.0 in
      ((λ e. one.1 (omega (arith, e, small, low))), ((λ e. two.1 (omega (arith, e, low))), tt))
  apart_stores (Push p) k on m writes h = apart_push p h
  apart_stores Xthl k on m writes h =
      let both = both_of (λ w. a ≢ w) (core.sp % 65536) ((core.sp + 1) % 65536) h in
      ((λ e. both.0 (omega (arith, e, low))), ((λ e. both.1 (omega (arith, e, low))), tt))
  apart_stores (Call w) k on m writes h = cc
  apart_stores (Rst n) k on m writes h = cc
  apart_stores (Ccc c w) k on m writes h = apart_ccc (holds c core) _ (call_not (holds c core) on)
  apart_stores i k on m writes h = tt

-- ---- Memory as annotations see it

module _ (f : Frame) (core : Core) (z : ℤ) where
  pub unseen_pushes : (high_byte low_byte : ℕ) → All (IsInStack f) ((core.sp + 65535) % 65536 ∷ (core.sp + 65534) % 65536 ∷ []) → shown f (written (pushes high_byte low_byte core) core.cells) z ≡ shown f core.cells z
  unseen_pushes high_byte low_byte h =
      let both = both_of (IsInStack f) ((core.sp + 65535) % 65536) ((core.sp + 65534) % 65536) h in
      let one = both.0 in
      let two = both.1 in
      unseen f (slice_set core.cells ((core.sp + 65535) % 65536) high_byte) ((core.sp + 65534) % 65536) low_byte z (in_stack_true _ f two.0 two.1)
      ∙ unseen f core.cells ((core.sp + 65535) % 65536) high_byte z (in_stack_true _ f one.0 one.1)

  unseen_push : (p : StackPair) → All (IsInStack f) ((core.sp + 65535) % 65536 ∷ (core.sp + 65534) % 65536 ∷ []) → shown f (written (pushes_pair p core) core.cells) z ≡ shown f core.cells z
  unseen_push stack.B h = unseen_pushes core.b core.c h
  unseen_push stack.D h = unseen_pushes core.d core.e h
  unseen_push stack.H h = unseen_pushes core.h core.l h
  unseen_push stack.Psw h = unseen_pushes core.a (flag_byte core) h

  unseen_ccc : (b : Bool) (writes : List (ℕ × ℕ)) → b ≡ false → shown f (written (cond b writes []) core.cells) z ≡ shown f core.cells z
  unseen_ccc true writes h = cc
  unseen_ccc false writes h = refl

  -- what is no store writes to the stack alone
  pub unseen_stores : (i : Instr) → way_of i core ≡ On → is_store i ≡ false → All (IsInStack f) (touched i core) → shown f (written (stores i core) core.cells) z ≡ shown f core.cells z
  unseen_stores (Mov arg.M from) on plain h = cc
  unseen_stores (Mov (arg.Reg r) from) on plain h = refl
  unseen_stores (Mvi arg.M n) on plain h = cc
  unseen_stores (Mvi (arg.Reg r) n) on plain h = refl
  unseen_stores (Inr arg.M) on plain h = cc
  unseen_stores (Inr (arg.Reg r)) on plain h = refl
  unseen_stores (Dcr arg.M) on plain h = cc
  unseen_stores (Dcr (arg.Reg r)) on plain h = refl
  unseen_stores (Stax p) on plain h = cc
  unseen_stores (Sta w) on plain h = cc
  unseen_stores (Shld w) on plain h = cc
  unseen_stores (Push p) on plain h = unseen_push p h
  unseen_stores Xthl on plain h =
      let both = both_of (IsInStack f) (core.sp % 65536) ((core.sp + 1) % 65536) h in
      let one = both.0 in
      let two = both.1 in
      unseen f (slice_set core.cells (core.sp % 65536) core.l) ((core.sp + 1) % 65536) core.h z (in_stack_true _ f two.0 two.1)
      ∙ unseen f core.cells (core.sp % 65536) core.l z (in_stack_true _ f one.0 one.1)
  unseen_stores (Call w) on plain h = cc
  unseen_stores (Rst n) on plain h = cc
  unseen_stores (Ccc c w) on plain h = unseen_ccc (holds c core) _ (call_not core 0 (omega arith) (holds c core) on)
  unseen_stores i on plain h = refl
