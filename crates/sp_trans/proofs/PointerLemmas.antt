-- The words of a symbolic state after an instruction, and the stack pointer beside them.
use Rattle.std.proofs.Common.{◌≡◌, ℕ, ◌+◌, ◌*◌, ◌-◌, ◌%◌, ◌<◌, ◌≤◌, List, [], ◌∷◌, length, refl, sym, ap, subst, ◌∙◌, arith}
use Rattle.sp_base.specs.declared.location.Loc.{Loc}
use Rattle.sp_base.specs.declared.location.Loc.TheVariants as loc
use Rattle.sp_base.specs.declared.pair.Pair.{Pair}
use Rattle.sp_base.specs.declared.pair.Pair.TheVariants as pair
use Rattle.sp_base.specs.Location.{loc_of}
use Rattle.sp_isa.specs.declared.instr.Arg.{Arg}
use Rattle.sp_isa.specs.declared.instr.Arg.TheVariants as arg
use Rattle.sp_isa.specs.declared.instr.StackPair.{StackPair}
use Rattle.sp_isa.specs.declared.instr.Op.{Op}
use Rattle.sp_isa.specs.declared.instr.Op.TheVariants as op
use Rattle.sp_isa.specs.declared.instr.Instr.{Instr}
use Rattle.sp_isa.specs.declared.instr.Instr.TheVariants.{Mov, Mvi, Inr, Dcr, Alu, AluImmediate, Lxi, Dad, Inx, Dcx, Stax, Ldax, Shld, Lhld, Sta, Lda, Rlc, Rrc, Ral, Rar, Daa, Cma, Stc, Cmc, Push, Pop, Call, Ccc, Ret, Rcc, Rst, Pchl, Sphl, Xthl, Xchg, In}
use Rattle.sp_isa.specs.Core.{Core, IsCore}
use Rattle.sp_isa.specs.Effect.{effect}
use Rattle.sp_isa.specs.Outcome.{sp_after}
use Rattle.sp_isa.proofs.OutcomeLemmas.{instructions_lead}
use Rattle.sp_model.specs.Note.{Frame}
use Rattle.sp_model.specs.State.{State, next_input}
use Rattle.sp_model.proofs.StateLemmas.{steps_execute}
use Rattle.sp_term.specs.Tree.{Tree}
use Rattle.sp_trans.specs.Symbolic.{Word, Symbolic, with_term, with_memory, with_slots}
use Rattle.sp_trans.specs.Translation.{applied, with_cell_term, with_arg_term, with_bytes, with_word, with_szp_term, increased, decreased, with_sum, with_compared, with_difference, with_logic, operated, pair_added, adjusted, rotated, exchanged, popped, top_exchanged}
use Rattle.sp_trans.specs.Meaning.{HasPointer, HasForm, SetsPointer, Asks}
use Rattle.sp_trans.specs.Theorems.{PointersStay}

-- ---- the words

at_term : (x : Loc) (t : Tree) (g : Symbolic) → (with_term x t g).slots ≡ g.slots
unfolding with_term
at_term loc.A t g = refl
at_term x t g = refl

at_memory : (t : Tree) (g : Symbolic) → (with_memory t g).slots ≡ g.slots
unfolding with_memory
at_memory t g = refl

at_slots : (slots : List Word) (g : Symbolic) → (with_slots slots g).slots ≡ slots
unfolding with_slots
at_slots slots g = refl

at_cell : (a t : Tree) (g : Symbolic) → (with_cell_term a t g).slots ≡ g.slots
unfolding with_cell_term
at_cell a t g = at_memory _ g

at_arg : (y : Arg) (t : Tree) (g : Symbolic) → (with_arg_term y t g).slots ≡ g.slots
unfolding with_arg_term
at_arg (arg.Reg r) t g = at_term (loc_of r) t g
at_arg arg.M t g = at_cell _ t g

at_bytes : (p : Pair) (high low : Tree) (g : Symbolic) → (with_bytes p high low g).slots ≡ g.slots
unfolding with_bytes
at_bytes pair.B high low g = at_term loc.B high _ ∙ at_term loc.C low g
at_bytes pair.D high low g = at_term loc.D high _ ∙ at_term loc.E low g
at_bytes pair.H high low g = at_term loc.H high _ ∙ at_term loc.L low g
at_bytes pair.Sp high low g = refl

at_word : (p : Pair) (w : Tree) (g : Symbolic) → (with_word p w g).slots ≡ g.slots
unfolding with_word
at_word p w g = at_bytes p _ _ g

at_szp : (r : Tree) (g : Symbolic) → (with_szp_term r g).slots ≡ g.slots
unfolding with_szp_term
at_szp r g = at_term loc.S _ _ ∙ at_term loc.Z _ _ ∙ at_term loc.P _ g

at_increased : (y : Arg) (g : Symbolic) → (increased y g).slots ≡ g.slots
unfolding increased
at_increased y g = at_arg y _ _ ∙ at_szp _ _ ∙ at_term loc.Ac _ g

at_decreased : (y : Arg) (g : Symbolic) → (decreased y g).slots ≡ g.slots
unfolding decreased
at_decreased y g = at_arg y _ _ ∙ at_szp _ _ ∙ at_term loc.Ac _ g

at_sum : (t d : Tree) (g : Symbolic) → (with_sum t d g).slots ≡ g.slots
unfolding with_sum
at_sum t d g = at_term loc.A _ _ ∙ at_szp _ _ ∙ at_term loc.Cy _ _ ∙ at_term loc.Ac _ g

at_compared : (t d : Tree) (g : Symbolic) → (with_compared t d g).slots ≡ g.slots
unfolding with_compared
at_compared t d g = at_szp _ _ ∙ at_term loc.Cy _ _ ∙ at_term loc.Ac _ g

at_difference : (t d : Tree) (g : Symbolic) → (with_difference t d g).slots ≡ g.slots
unfolding with_difference
at_difference t d g = at_term loc.A _ _ ∙ at_compared t d g

at_logic : (r ac : Tree) (g : Symbolic) → (with_logic r ac g).slots ≡ g.slots
unfolding with_logic
at_logic r ac g = at_term loc.A _ _ ∙ at_szp _ _ ∙ at_term loc.Cy _ _ ∙ at_term loc.Ac _ g

at_operated : (o : Op) (y : Tree) (g : Symbolic) → (operated o y g).slots ≡ g.slots
unfolding operated
at_operated op.Add y g = at_sum _ _ g
at_operated op.Adc y g = at_sum _ _ g
at_operated op.Sub y g = at_difference _ _ g
at_operated op.Sbb y g = at_difference _ _ g
at_operated op.Ana y g = at_logic _ _ g
at_operated op.Xra y g = at_logic _ _ g
at_operated op.Ora y g = at_logic _ _ g
at_operated op.Cmp y g = at_compared _ _ g

at_pair_added : (p : Pair) (g : Symbolic) → (pair_added p g).slots ≡ g.slots
unfolding pair_added
at_pair_added p g = at_word pair.H _ _ ∙ at_term loc.Cy _ g

at_adjusted : (g : Symbolic) → (adjusted g).slots ≡ g.slots
unfolding adjusted
at_adjusted g = at_term loc.A _ _ ∙ at_szp _ _ ∙ at_term loc.Cy _ _ ∙ at_term loc.Ac _ g

at_rotated : (r cy : Tree) (g : Symbolic) → (rotated r cy g).slots ≡ g.slots
unfolding rotated
at_rotated r cy g = at_term loc.A r _ ∙ at_term loc.Cy cy g

at_exchanged : (g : Symbolic) → (exchanged g).slots ≡ g.slots
unfolding exchanged
at_exchanged g = at_bytes pair.H _ _ _ ∙ at_bytes pair.D _ _ g

-- one word less
rest : List Word → List Word
rest [] = []
rest (w ∷ words) = words

at_popped : (p : StackPair) (slots : List Word) (g : Symbolic) → g.slots ≡ slots → length (popped p slots g).slots ≡ length slots - 1
unfolding popped
at_popped p [] g is = ap length is
at_popped p (top ∷ slots) g is = ap length (at_slots slots _) ∙ omega arith

at_top_exchanged : (slots : List Word) (g : Symbolic) → g.slots ≡ slots → length (top_exchanged slots g).slots ≡ length slots
unfolding top_exchanged
at_top_exchanged [] g is = ap length is
at_top_exchanged (top ∷ slots) g is = ap length (at_bytes pair.H _ _ _ ∙ at_slots _ g)

-- how many words there are after an instruction
abbrev pub words_after : Instr → ℕ → ℕ
words_after (Push p) n = n + 1
words_after (Pop p) n = n - 1
words_after i n = n

pub words_are : (i : Instr) (j : ℕ) (g : Symbolic) → length (applied i j g).slots ≡ words_after i (length g.slots)
unfolding applied
words_are (Mov to from) j g = ap length (at_arg to _ g)
words_are (Mvi to n) j g = ap length (at_arg to _ g)
words_are (Inr y) j g = ap length (at_increased y g)
words_are (Dcr y) j g = ap length (at_decreased y g)
words_are (Alu o y) j g = ap length (at_operated o _ g)
words_are (AluImmediate o n) j g = ap length (at_operated o _ g)
words_are (Lxi p w) j g = ap length (at_bytes p _ _ g)
words_are (Dad p) j g = ap length (at_pair_added p g)
words_are (Inx p) j g = ap length (at_word p _ g)
words_are (Dcx p) j g = ap length (at_word p _ g)
words_are (Stax p) j g = ap length (at_cell _ _ g)
words_are (Ldax p) j g = ap length (at_term loc.A _ g)
words_are (Shld w) j g = ap length (at_cell _ _ _ ∙ at_cell _ _ g)
words_are (Lhld w) j g = ap length (at_bytes pair.H _ _ g)
words_are (Sta w) j g = ap length (at_cell _ _ g)
words_are (Lda w) j g = ap length (at_term loc.A _ g)
words_are Rlc j g = ap length (at_rotated _ _ g)
words_are Rrc j g = ap length (at_rotated _ _ g)
words_are Ral j g = ap length (at_rotated _ _ g)
words_are Rar j g = ap length (at_rotated _ _ g)
words_are Daa j g = ap length (at_adjusted g)
words_are Cma j g = ap length (at_term loc.A _ g)
words_are Stc j g = ap length (at_term loc.Cy _ g)
words_are Cmc j g = ap length (at_term loc.Cy _ g)
words_are (Push p) j g = ap length (at_slots _ g) ∙ omega arith
words_are (Pop p) j g = at_popped p g.slots g refl
words_are Xthl j g = at_top_exchanged g.slots g refl
words_are Xchg j g = ap length (at_exchanged g)
words_are (In port) j g = ap length (at_term loc.A _ g)
words_are i j g = refl

-- ---- the stack pointer

-- where it is with so many words
abbrev IsAt : Frame → ℕ → ℕ → Type 0
IsAt f sp n = sp + 2 * n ≡ f.base

more_words : (f : Frame) (sp n : ℕ) → sp < 65536 → f.first + 2 ≤ sp → IsAt f sp n → IsAt f ((sp + 65534) % 65536) (n + 1)
more_words f sp n low room points = omega arith

fewer_words : (f : Frame) (sp n : ℕ) → f.last < 65535 → f.base < f.last + 2 → 1 ≤ n → IsAt f sp n → IsAt f ((sp + 2) % 65536) (n - 1)
fewer_words f sp n region top some points = omega arith

lxi_pointer : (p : Pair) (w : ℕ) (core : Core) → ¬ SetsPointer (Lxi p w) → sp_after (Lxi p w) core ≡ core.sp
lxi_pointer pair.B w core none = refl
lxi_pointer pair.D w core none = refl
lxi_pointer pair.H w core none = refl
lxi_pointer pair.Sp w core none = absurd (none tt)

inx_pointer : (p : Pair) (core : Core) → HasForm (Inx p) → sp_after (Inx p) core ≡ core.sp
inx_pointer pair.B core form = refl
inx_pointer pair.D core form = refl
inx_pointer pair.H core form = refl
inx_pointer pair.Sp core form = absurd form

dcx_pointer : (p : Pair) (core : Core) → HasForm (Dcx p) → sp_after (Dcx p) core ≡ core.sp
dcx_pointer pair.B core form = refl
dcx_pointer pair.D core form = refl
dcx_pointer pair.H core form = refl
dcx_pointer pair.Sp core form = absurd form

stays : (i : Instr) (f : Frame) (g : Symbolic) (core : Core) → IsCore core → Asks f i g core → ¬ SetsPointer i → IsAt f (sp_after i core) (words_after i (length g.slots))
stays (Push p) f g core k a none = let room = a.room tt in more_words f core.sp (length g.slots) k.sp room.0 (a.pointer none)
stays (Pop p) f g core k a none = let top = a.places 1 (omega arith) a.words in fewer_words f core.sp (length g.slots) a.region (omega (arith, top.1)) a.words (a.pointer none)
stays (Lxi p w) f g core k a none = subst (λ n. IsAt f n (length g.slots)) (sym (lxi_pointer p w core none)) (a.pointer none)
stays (Inx p) f g core k a none = subst (λ n. IsAt f n (length g.slots)) (sym (inx_pointer p core a.form)) (a.pointer none)
stays (Dcx p) f g core k a none = subst (λ n. IsAt f n (length g.slots)) (sym (dcx_pointer p core a.form)) (a.pointer none)
stays (Call w) f g core k a none = absurd a.form
stays (Ccc when w) f g core k a none = absurd a.form
stays Ret f g core k a none = absurd a.form
stays (Rcc when) f g core k a none = absurd a.form
stays (Rst n) f g core k a none = absurd a.form
stays Pchl f g core k a none = absurd a.form
stays Sphl f g core k a none = absurd a.form
stays i f g core k a none = a.pointer none

pub pointers_stay : PointersStay
pointers_stay f g s i n j k running next a none =
    let lead = instructions_lead (next_input s) i s.core in
    let after : IsAt f (effect (next_input s) i s.core).sp (length (applied i j g).slots) =
    subst (λ n. IsAt f n (length (applied i j g).slots)) (sym lead.sp)
    (subst (λ n. IsAt f (sp_after i s.core) n) (sym (words_are i j g)) (stays i f g s.core k.core a none)) in
    subst (λ (t : State). HasPointer f (applied i j g) t.core) (sym (steps_execute s i n running next)) after
