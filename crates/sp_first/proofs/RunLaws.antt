-- A run of the program: what each instruction does to the state, and where the run comes to.
use Rattle.std.proofs.Common.{◌≡◌, ℕ, zero, suc, ◌+◌, ◌*◌, ◌%◌, ◌<◌, ◌≤◌, Bool, true, false, cond, List, [], ◌∷◌, ◌++◌, length, get_or, reverse, map, refl, sym, ap, subst, ◌∙◌, Some, None, arith, rules, append_assoc, add-zero, length-append, inl, inr, pos}
use Rattle.std.specs.Prelude.{Option, flat_map, Contains, IsTrue, All, IsSome, slice_index}
use Rattle.std.specs.List.{AllByRecursion}
use native.Mathlib.Decide.{dec_le}
use Rattle.std.proofs.lemmas.Grind.{flat_map-append}
use Rattle.std.proofs.lemmas.List.{append-nil, map-append, reverse-append}
use Rattle.std.proofs.lemmas.List.Elements.{All-nil, All-cons}
use Rattle.sp_base.specs.declared.location.Reg.{Reg}
use Rattle.sp_base.specs.declared.location.Loc.{Loc}
use Rattle.sp_base.specs.Location.{loc_of}
use Rattle.sp_isa.specs.declared.instr.Arg.TheVariants as arg
use Rattle.sp_isa.specs.declared.instr.Instr.{Instr}
use Rattle.sp_isa.specs.declared.instr.Instr.TheVariants as instr
use Rattle.sp_isa.specs.declared.instr.Instr.TheVariants.{Ret}
use Rattle.sp_first.specs.declared.transfer.Transfer.{Transfer}
use Rattle.sp_first.specs.declared.transfer.Transfer.TheVariants.{Mvi, Mov}
use Rattle.sp_isa.specs.Code.{code}
use Rattle.sp_isa.specs.Decode.{decode}
use Rattle.sp_isa.specs.Operands.{with_arg}
use Rattle.sp_isa.specs.Core.{Core, at, reg_of, cell, word, with_reg, with_pc, with_sp, advance}
use Rattle.sp_isa.specs.Stack.{ret}
use Rattle.sp_isa.specs.Effect.{effect, takes_input, returns}
use Rattle.sp_isa.proofs.CodeLemmas.{decodes_codes}
use Rattle.sp_model.specs.State.{State, IsState, next_instr, executed, step, run}
use Rattle.sp_model.proofs.StateLemmas.{steps_execute}
use Rattle.sp_model.specs.Note.{Holds}
use Rattle.sp_model.specs.Unit.{Routine, Unit}
use Rattle.sp_model.specs.Good.{frame_of, IsEntry, Keeps, IsReturnStep, HasReturned, IsInCode, IsGoodAt, IsGood, AllRunsAreGood}
use Rattle.sp_first.specs.Program.{Reading, instr_of, instrs, stmts_from, routine_of, unit_of, same_reg, last_value, SetsListed, Meets}
use Rattle.sp_first.proofs.Steps.{same_some}
use Rattle.sp_isa.proofs.PartLemmas.{reg_of-at, at-with_pc, at-with_sp, frame-with_reg}
use Rattle.sp_first.proofs.CoreLaws.{at-with_reg, reg_of-with_reg}
use Rattle.sp_first.proofs.ImageLaws.{byte_at, code_byte, code_within, codes_short, stmt_at, no_asserts}

here : (core : Core) (b : ℕ) → cell (core.pc + 0) core ≡ b → cell core.pc core ≡ b
here core b h = ap (λ a. cell a core) (sym (add-zero core.pc)) ∙ h

-- the next instruction of the program, or RET behind the last
abbrev next : List Transfer → Instr
next [] = Ret
next (t ∷ todo) = instr_of t

-- the bytes of instructions
abbrev bytes_of : List Transfer → List ℕ
bytes_of ts = flat_map code (map instr_of ts)

-- a core whose memory has an instruction's code at its program counter fetches it
fetches : (core : Core) (todo : List Transfer) → ((j : ℕ) → j < length (code (next todo)) → cell (core.pc + j) core ≡ get_or (code (next todo)) j 0) → next_instr core ≡ Some (next todo, length (code (next todo)))
fetches core (Mov to from ∷ todo) h =
    ap (λ b. decode b (cell (core.pc + 1) core) (cell (core.pc + 2) core)) (here core _ (h 0 (omega arith)))
    ∙ decodes_codes (instr.Mov (arg.Reg to) (arg.Reg from)) refl (cell (core.pc + 1) core ∷ cell (core.pc + 2) core ∷ [])
fetches core (Mvi to byte ∷ todo) h =
    ap (λ b. decode b (cell (core.pc + 1) core) (cell (core.pc + 2) core)) (here core _ (h 0 (omega arith)))
    ∙ ap (λ b. decode (get_or (code (instr.Mvi (arg.Reg to) byte)) 0 0) b (cell (core.pc + 2) core)) (h 1 (omega arith))
    ∙ decodes_codes (instr.Mvi (arg.Reg to) byte) refl (cell (core.pc + 2) core ∷ [])
fetches core [] h =
    ap (λ b. decode b (cell (core.pc + 1) core) (cell (core.pc + 2) core)) (here core _ (h 0 (omega arith)))
    ∙ decodes_codes Ret refl (cell (core.pc + 1) core ∷ cell (core.pc + 2) core ∷ [])

-- ---- where a run comes to
-- the state t after the instructions `done` of a run from s, with `todo` before it
pub record Reached (r : Reading) (s : State) (done todo : List Transfer) (t : State) : Type 0 where
  pub split : r.program ≡ done ++ todo
  pub pc : t.core.pc ≡ length (bytes_of done)
  pub sp : t.core.sp ≡ s.core.sp
  pub running : t.core.halted ≡ false
  pub cells : t.core.cells ≡ s.core.cells
  pub outputs : t.outputs ≡ s.outputs
  pub unlisted : (x : Loc) → ¬ Contains (map loc_of r.changes) x → at x t.core ≡ at x s.core
  pub values : (q : Reg) (v : ℕ) → last_value (reverse done) q ≡ Some v → reg_of q t.core ≡ v

-- what is given of a run: an entry, a program of at most 16 instructions, and annotations that are met
pub record Begins (r : Reading) (s : State) : Type 0 where
  pub entry : IsEntry (unit_of r) (routine_of r) s
  pub few : length r.program ≤ 16
  pub met : Meets r

reached_first : (r : Reading) (s : State) → Begins r s → Reached r s [] r.program s
reached_first r s h = record {
  split = refl;
  pc = h.entry.begins;
  sp = refl;
  running = h.entry.running;
  cells = refl;
  outputs = refl;
  unlisted = λ x n. refl;
  values = λ q v e. cc;
}

abbrev behind_next : List Transfer → List Instr
behind_next [] = []
behind_next (t ∷ todo) = map instr_of todo ++ Ret ∷ []

all_split : (r : Reading) (done todo : List Transfer) → r.program ≡ done ++ todo → instrs r ≡ map instr_of done ++ next todo ∷ behind_next todo
all_split r done [] e = ap (λ p. map instr_of p ++ Ret ∷ []) (e ∙ append-nil done)
all_split r done (t ∷ todo) e = ap (λ p. map instr_of p ++ Ret ∷ []) e ∙ ap (λ is. is ++ Ret ∷ []) (map-append instr_of done (t ∷ todo)) ∙ append_assoc (map instr_of done) (instr_of t ∷ map instr_of todo) (Ret ∷ [])

loaded_code : (r : Reading) (s : State) (done todo : List Transfer) (t : State) → Begins r s → Reached r s done todo t → (j : ℕ) → j < length (code (next todo)) → cell (t.core.pc + j) t.core ≡ get_or (code (next todo)) j 0
loaded_code r s done todo t b h j less =
    let all = all_split r done todo h.split in
    let a : ℕ = length (bytes_of done) + j in
    let within : length (bytes_of done) + j < length (flat_map code (instrs r)) = subst (λ is. length (bytes_of done) + j < length (flat_map code is)) (sym all) (code_within (map instr_of done) (next todo) (behind_next todo) j less) in
    let byte = byte_at (flat_map code (instrs r)) (length (bytes_of done) + j) within in
    ap (λ n. cell (n + j) t.core) h.pc
    ∙ ap (λ cells. slice_index cells ((length (bytes_of done) + j) % 65536)) h.cells
    ∙ b.entry.loaded (length (bytes_of done) + j) (get_or (flat_map code (instrs r)) (length (bytes_of done) + j) 0) byte
    ∙ ap (λ is. get_or (flat_map code is) (length (bytes_of done) + j) 0) all
    ∙ code_byte (map instr_of done) (next todo) (behind_next todo) j less

pub fetched : (r : Reading) (s : State) (done todo : List Transfer) (t : State) → Begins r s → Reached r s done todo t → next_instr t.core ≡ Some (next todo, length (code (next todo)))
fetched r s done todo t b h = fetches t.core todo (loaded_code r s done todo t b h)

-- ---- one instruction further
contains_mapped : (x : Reg) (xs : List Reg) (k : ℕ) → k < length xs → get_or xs k x ≡ x → Contains (map loc_of xs) (loc_of x)
contains_mapped x [] k h e = absurd (omega arith)
contains_mapped x (y ∷ xs) zero h e = (0, omega arith, ap loc_of e)
contains_mapped x (y ∷ xs) (suc k) h e = let c = contains_mapped x xs k (omega arith) e in (suc c.0, omega (arith, c.1), c.2)

listed_loc : (x : Reg) (xs : List Reg) → Contains xs x → Contains (map loc_of xs) (loc_of x)
listed_loc x xs h = contains_mapped x xs h.0 h.1 h.2

reg_of-with_pc : (q : Reg) (v : ℕ) (core : Core) → reg_of q (with_pc v core) ≡ reg_of q core
reg_of-with_pc q v core = reg_of-at q (with_pc v core) ∙ at-with_pc v core (loc_of q) ∙ sym (reg_of-at q core)

-- the state after an instruction of n bytes that sets a register
abbrev moved : Reg → ℕ → ℕ → State → State
moved to v n t = record { core = advance n (with_reg to v t.core); inputs = t.inputs; outputs = t.outputs ++ [] }

-- what an instruction that sets a register does
record SetsReg (to : Reg) (i : Transfer) (t : State) (earlier : List Transfer) : Type 0 where
  v : ℕ
  value : Option ℕ
  after : executed (instr_of i) t ≡ moved to v (length (code (instr_of i))) t
  known : (q : Reg) → last_value (i ∷ earlier) q ≡ cond (same_reg to q) value (last_value earlier q)
  same : (w : ℕ) → value ≡ Some w → v ≡ w
  short : length (code (instr_of i)) ≤ 2

reached_moved : (r : Reading) (s : State) (done : List Transfer) (i : Transfer) (todo : List Transfer) (t : State) → Begins r s → Reached r s done (i ∷ todo) t → (to : Reg) (m : SetsReg to i t (reverse done)) → Contains r.changes to → Reached r s (done ++ i ∷ []) todo (moved to m.v (length (code (instr_of i))) t)
unfolding advance with_pc
reached_moved r s done i todo t b h to m listed =
    let frame = frame-with_reg to m.v t.core in
    let so_far = codes_short done in
    let count : length done ≤ 16 = omega (arith, b.few, ap length h.split, length-append done (i ∷ todo)) in
    let bytes : length (bytes_of (done ++ i ∷ [])) ≡ length (bytes_of done) + length (code (instr_of i)) = omega (arith, ap (λ is. length (flat_map code is)) (map-append instr_of done (i ∷ [])), ap length (flat_map-append code (map instr_of done) (instr_of i ∷ [])), length-append (bytes_of done) (code (instr_of i) ++ []), length-append (code (instr_of i)) []) in
    let from : (with_reg to m.v t.core).pc ≡ length (bytes_of done) = frame.pc ∙ h.pc in
    record {
      split = h.split ∙ sym (append_assoc done (i ∷ []) todo);
      pc = omega (arith, bytes, from, so_far, count, m.short);
      sp = frame.sp ∙ h.sp;
      running = frame.halted ∙ h.running;
      cells = frame.cells ∙ h.cells;
      outputs = append-nil t.outputs ∙ h.outputs;
      unlisted = λ x n. at-with_pc ((with_reg to m.v t.core).pc + length (code (instr_of i))) (with_reg to m.v t.core) x
          ∙ elim (at-with_reg to m.v x t.core) [
            | inl e ↦ absurd (n (subst (Contains (map loc_of r.changes)) (sym e) (listed_loc to r.changes listed)))
            | inr e ↦ e ∙ h.unlisted x n
          ];
      values = λ q w e.
          let last : cond (same_reg to q) m.value (last_value (reverse done) q) ≡ Some w = sym (ap (λ is. last_value is q) (reverse-append done (i ∷ [])) ∙ m.known q) ∙ e in
          reg_of-with_pc q ((with_reg to m.v t.core).pc + length (code (instr_of i))) (with_reg to m.v t.core)
          ∙ reg_of-with_reg to q m.v t.core
          ∙ elim (same_reg to q) as (λ c. cond c m.value (last_value (reverse done) q) ≡ Some w → cond c m.v (reg_of q t.core) ≡ w) [
            | true ↦ λ known. m.same w known
            | false ↦ λ known. h.values q w known
          ] last;
    }

mvi_sets : (to : Reg) (byte : ℕ) (t : State) (earlier : List Transfer) → SetsReg to (Mvi to byte) t earlier
unfolding effect with_arg
mvi_sets to byte t earlier = record { v = byte; value = Some byte; after = refl; known = λ q. refl; same = λ w e. cc; short = omega arith }

mov_sets : (to from : Reg) (t : State) (earlier : List Transfer) → ((w : ℕ) → last_value earlier from ≡ Some w → reg_of from t.core ≡ w) → SetsReg to (Mov to from) t earlier
unfolding effect with_arg
mov_sets to from t earlier known = record { v = reg_of from t.core; value = last_value earlier from; after = refl; known = λ q. refl; same = known; short = omega arith }

pub reached_next : (r : Reading) (s : State) (done : List Transfer) (i : Transfer) (todo : List Transfer) (t : State) → Begins r s → Reached r s done (i ∷ todo) t → SetsListed r.changes i → Reached r s (done ++ i ∷ []) todo (step t)
reached_next r s done (Mvi to byte) todo t b h listed =
    let m = mvi_sets to byte t (reverse done) in
    subst (Reached r s (done ++ Mvi to byte ∷ []) todo) (sym (steps_execute t (instr_of (Mvi to byte)) _ h.running (fetched r s done (Mvi to byte ∷ todo) t b h) ∙ m.after)) (reached_moved r s done (Mvi to byte) todo t b h to m listed)
reached_next r s done (Mov to from) todo t b h listed =
    let m = mov_sets to from t (reverse done) (h.values from) in
    subst (Reached r s (done ++ Mov to from ∷ []) todo) (sym (steps_execute t (instr_of (Mov to from)) _ h.running (fetched r s done (Mov to from ∷ todo) t b h) ∙ m.after)) (reached_moved r s done (Mov to from) todo t b h to m listed)

-- ---- what is claimed of each state
cell_small : (s : State) → IsState s → (a : ℕ) → cell a s.core < 256
cell_small s h a = h.core.bytes (a % 65536) 0 (let m = h.core.memory in omega arith)

keeps_all : (r : Reading) (s t : State) → t.core.cells ≡ s.core.cells → t.outputs ≡ s.outputs → Keeps (unit_of r) (routine_of r) s t
keeps_all r s t cells outputs = record {
  memory = λ a within areas allotted. ap (λ c. slice_index c (a % 65536)) cells;
  outputs = ([], outputs ∙ sym (append-nil s.outputs), All-nil _);
}

in_code : (r : Reading) (s : State) (done todo : List Transfer) (t : State) → Reached r s done todo t → IsInCode (unit_of r) t.core
in_code r s done todo t h =
    let there = stmt_at 0 (map instr_of done) (next todo) (behind_next todo) in
    let at_zero : 0 + length (bytes_of done) ≡ length (bytes_of done) = omega arith in
    (routine_of r, (0, omega arith, refl), (record { address = 0 + length (bytes_of done); instr = next todo; asserts = [] }, subst (λ is. Contains (stmts_from 0 is) (record { address = 0 + length (bytes_of done); instr = next todo; asserts = [] })) (sym (all_split r done todo h.split)) there, at_zero ∙ sym h.pc))

not_return : (t : Transfer) (core : Core) → returns (instr_of t) core ≡ false
not_return (Mov to from) core = refl
not_return (Mvi to byte) core = refl

takes_none : (todo : List Transfer) → takes_input (next todo) ≡ None
takes_none [] = refl
takes_none (Mov to from ∷ todo) = refl
takes_none (Mvi to byte ∷ todo) = refl

no_port : (port : ℕ) → Some port ≡ None → ⊥
no_port port e = cc

-- the return, from a state before RET
returned : (r : Reading) (s t : State) → Begins r s → Reached r s r.program [] t → IsReturnStep (unit_of r) (routine_of r) s t → HasReturned (unit_of r) (routine_of r) s (step t)
unfolding effect ret with_sp with_pc
returned r s t b h ret =
    let after = steps_execute t Ret 1 h.running (fetched r s r.program [] t b h) in
    let left = λ (x : Loc). at-with_sp (t.core.sp + 2) (with_pc (word t.core.sp t.core) t.core) x ∙ at-with_pc (word t.core.sp t.core) t.core x in
    subst (HasReturned (unit_of r) (routine_of r) s) (sym after) (record {
      keeps = keeps_all r s (executed Ret t) h.cells (append-nil t.outputs ∙ h.outputs);
      post = All-cons (λ note. Holds (frame_of (unit_of r) (routine_of r) s) note s (executed Ret t)) _ [] (ap pos (left (loc_of r.post) ∙ sym (reg_of-at r.post t.core) ∙ h.values r.post r.value b.met.post)) (All-nil _);
      sp = let room = (b.entry.room refl).above in omega (arith, h.sp, room);
      pc =
          let same : word t.core.sp t.core ≡ word s.core.sp s.core = ap (λ p. word p t.core) h.sp ∙ ap (λ c. slice_index c (s.core.sp % 65536) + 256 * slice_index c ((s.core.sp + 1) % 65536)) h.cells in
          let low = cell_small s b.entry.state s.core.sp in
          let high = cell_small s b.entry.state (s.core.sp + 1) in
          omega (arith, same, low, high);
      unlisted = λ x n. left x ∙ h.unlisted x n;
    })

clash : (b : Bool) → IsTrue b → b ≡ false → ⊥
clash true h e = cc
clash false h e = cc

-- a return step comes at RET alone
no_return : (r : Reading) (s : State) (done : List Transfer) (i : Transfer) (todo : List Transfer) (t : State) → Begins r s → Reached r s done (i ∷ todo) t → ¬ IsReturnStep (unit_of r) (routine_of r) s t
no_return r s done i todo t b h ret =
    let found = ret.returns in
    let same : instr_of i ≡ found.0.0 = ap (λ (p : Instr × ℕ). p.0) (same_some (instr_of i, length (code (instr_of i))) found.0 (sym (fetched r s done (i ∷ todo) t b h) ∙ found.1)) in
    let none : returns found.0.0 t.core ≡ false = ap (λ j. returns j t.core) (sym same) ∙ not_return i t.core in
    absurd (clash _ found.2 none)

return_at : (r : Reading) (s : State) (done todo : List Transfer) (t : State) → Begins r s → Reached r s done todo t → IsReturnStep (unit_of r) (routine_of r) s t → HasReturned (unit_of r) (routine_of r) s (step t)
return_at r s done [] t b h ret = returned r s t b (subst (λ d. Reached r s d [] t) (sym (h.split ∙ append-nil done)) h) ret
return_at r s done (i ∷ todo) t b h ret = absurd (no_return r s done i todo t b h ret)

good_at : (r : Reading) (s : State) (done todo : List Transfer) (t : State) → Begins r s → Reached r s done todo t → IsGoodAt (unit_of r) (routine_of r) s t
good_at r s done todo t b h = record {
  keeps = keeps_all r s t h.cells h.outputs;
  in_code = in_code r s done todo t h;
  not_stuck = λ _. subst IsSome (sym (fetched r s done todo t b h)) (search rules);
  asserts = λ i c e. subst (All (λ note. Holds (frame_of (unit_of r) (routine_of r) s) note s t)) (sym (no_asserts 0 (instrs r) i c)) (All-nil _);
  inputs = λ _ i e port takes.
      let same : next todo ≡ i.0 = ap (λ (p : Instr × ℕ). p.0) (same_some (next todo, length (code (next todo))) i (sym (fetched r s done todo t b h) ∙ e)) in
      absurd (no_port port (sym takes ∙ ap takes_input (sym same) ∙ takes_none todo));
  returned = return_at r s done todo t b h;
}

-- where the run is after k steps
record Place (r : Reading) (s : State) (k : ℕ) : Type 0 where
  done : List Transfer
  todo : List Transfer
  count : length done ≡ k
  listed : AllByRecursion (SetsListed r.changes) todo
  reached : Reached r s done todo (run s k)

further : (r : Reading) (s : State) (k : ℕ) (done todo : List Transfer) → Begins r s → k < length r.program → length done ≡ k → AllByRecursion (SetsListed r.changes) todo → Reached r s done todo (run s k) → Place r s (suc k)
further r s k done [] b less count listed h = absurd (omega (arith, ap length h.split, length-append done [], count, less))
further r s k done (i ∷ todo) b less count listed h = record {
  done = done ++ i ∷ [];
  todo = todo;
  count = omega (arith, length-append done (i ∷ []), count);
  listed = listed.1;
  reached = reached_next r s done i todo (run s k) b h listed.0;
}

next_place : (r : Reading) (s : State) (k : ℕ) → Begins r s → k < length r.program → Place r s k → Place r s (suc k)
next_place r s k b less p = further r s k p.done p.todo b less p.count p.listed p.reached

place : (r : Reading) (s : State) (k : ℕ) → Begins r s → k ≤ length r.program → Place r s k
place r s zero b within = record { done = []; todo = r.program; count = refl; listed = b.met.listed; reached = reached_first r s b }
place r s (suc k) b within = next_place r s k b (omega arith) (place r s k b (omega arith))

-- the run has come to RET
comes_to_ret : (r : Reading) (s : State) (done todo : List Transfer) (t : State) → Begins r s → length done ≡ length r.program → Reached r s done todo t → IsReturnStep (unit_of r) (routine_of r) s t
comes_to_ret r s done [] t b count h = record { running = h.running; returns = ((Ret, 1), fetched r s done [] t b h, search rules); at_base = h.sp }
comes_to_ret r s done (i ∷ todo) t b count h = absurd (omega (arith, ap length h.split, length-append done (i ∷ todo), count))

at_return : (r : Reading) (s : State) → Begins r s → IsReturnStep (unit_of r) (routine_of r) s (run s (length r.program))
at_return r s b =
    let p = place r s (length r.program) b (omega arith) in
    comes_to_ret r s p.done p.todo (run s (length r.program)) b p.count p.reached

run_is_good : (r : Reading) (s : State) (n : ℕ) → Begins r s → IsGood (unit_of r) (routine_of r) s n
run_is_good r s n b i within no_earlier =
    elim (dec_le i (length r.program)) [
      | Prim.yes le ↦ let p = place r s i b le in good_at r s p.done p.todo (run s i) b p.reached
      | Prim.no gt ↦ absurd (no_earlier (length r.program) (omega (arith, gt)) (at_return r s b))
    ]

-- the routine of the unit is its only one
only_routine : (u : Unit) (r q : Routine) (k : ℕ) → k < 1 → get_or (r ∷ []) k q ≡ q → r ≡ q
only_routine u r q zero h e = e
only_routine u r q (suc k) h e = absurd (omega arith)

-- every run from an entry of the routine is good, where it meets its annotations
pub all_runs_are_good : (r : Reading) → length r.program ≤ 16 → Meets r → AllRunsAreGood (unit_of r)
all_runs_are_good r few met q among s entry n =
    let only : routine_of r ≡ q = only_routine (unit_of r) (routine_of r) q among.0 among.1 among.2 in
    subst (λ p. IsGood (unit_of r) p s n) only (run_is_good r s n (record { entry = subst (λ p. IsEntry (unit_of r) p s) (sym only) entry; few = few; met = met }))
