-- What each instruction changes, and on what it depends.
use Rattle.std.proofs.Common.{◌≡◌, ℕ, ◌+◌, ◌*◌, ◌/◌, ◌%◌, ◌-◌, Bool, true, false, cond, refl, sym, ap, ◌∙◌, arith}
use Rattle.std.specs.Prelude.{slice_index, ◌||◌, ◌==◌, nat_lt, nat_le, not}
use Rattle.std.specs.Int.RustNames.{bit_xor, count_ones}
use Rattle.std.specs.Int.Bits.{xor_self}
use Rattle.std.proofs.lemmas.Bool.Decides.{nat_tests}
use Rattle.sp_base.specs.declared.location.Reg.{Reg}
use Rattle.sp_base.specs.declared.location.Reg.TheVariants as reg
use Rattle.sp_base.specs.declared.location.Loc.{Loc}
use Rattle.sp_base.specs.declared.location.Loc.TheVariants as loc
use Rattle.sp_base.specs.declared.pair.Pair.{Pair}
use Rattle.sp_base.specs.declared.pair.Pair.TheVariants as pair
use Rattle.sp_base.specs.declared.locs.Locs.{Locs}
use Rattle.sp_base.specs.Location.{loc_of}
use Rattle.sp_base.specs.Locs.{has, none, only, both}
use Rattle.sp_isa.specs.declared.instr.Arg.{Arg}
use Rattle.sp_isa.specs.declared.instr.Arg.TheVariants as arg
use Rattle.sp_isa.specs.declared.instr.StackPair.{StackPair}
use Rattle.sp_isa.specs.declared.instr.StackPair.TheVariants as stack
use Rattle.sp_isa.specs.declared.instr.Cond.{Cond}
use Rattle.sp_isa.specs.declared.instr.Cond.TheVariants as when
use Rattle.sp_isa.specs.declared.instr.Op.{Op}
use Rattle.sp_isa.specs.declared.instr.Op.TheVariants as op
use Rattle.sp_isa.specs.declared.instr.Instr.{Instr}
use Rattle.sp_isa.specs.declared.instr.Instr.TheVariants.{Mov, Mvi, Inr, Dcr, Alu, AluImmediate, Lxi, Dad, Inx, Dcx, Stax, Ldax, Shld, Lhld, Sta, Lda, Rlc, Rrc, Ral, Rar, Daa, Cma, Stc, Cmc, Push, Pop, Jmp, Jcc, Call, Ccc, Ret, Rcc, Rst, Pchl, Sphl, Xthl, Xchg, In, Out, Nop, Ei, Di, Hlt}
use Rattle.sp_isa.specs.Core.{Core, at, reg_of, cell, word, with_reg, with_flag, with_cell, with_sp, with_pc, with_halted, advance}
use Rattle.sp_isa.specs.Operands.{pair_of, with_pair, arg_of, with_arg}
use Rattle.sp_isa.specs.Arithmetic.{one_if, with_szp, add, difference, compare, subtract, logic, alu, increase, decrease, add_pair, adjusts_low, adjusts_high, adjust, rotate}
use Rattle.sp_isa.specs.Stack.{push, with_flag_byte, push_pair, top_to, pop_pair, holds, call, ret, exchange_top, exchange_pairs}
use Rattle.sp_isa.specs.Effect.{effect}
use Rattle.sp_isa.specs.Locations.{pair_locs, flags_but_carry, all_flags, arg_reads, address_reads, arg_writes, cond_reads, op_reads, alu_reads, op_writes, stack_writes, reads, writes, Agrees, IsAlike, ChangesOnlyWrites, DependsOnlyOnReads}
use Rattle.sp_base.proofs.LocsLaws.{has_both}
use Rattle.sp_isa.proofs.Cases.{each_reg, each_loc}
use Rattle.sp_isa.proofs.PartLemmas.{at-with_reg, at-with_flag_s, at-with_flag_z, at-with_flag_ac, at-with_flag_p, at-with_flag_cy, at-with_cell, at-with_sp, at-with_pc, at-with_halted, at-advance}

-- two runs of changes, from `one` to `k` and from `two` to `l`: what they set is the same in both, and nothing else changed in the first
record Tracks (locs : Locs) (one k l : Core) : Type 0 where
  agrees : Agrees locs k l
  keeps : (x : Loc) → has x locs ≡ false → at x k ≡ at x one

nothing_in : (x : Loc) → has x none ≡ true → ⊥
unfolding has none
nothing_in = each_loc (λ x. has x none ≡ true → ⊥) (λ h. cc) (λ h. cc) (λ h. cc) (λ h. cc) (λ h. cc) (λ h. cc) (λ h. cc) (λ h. cc) (λ h. cc) (λ h. cc) (λ h. cc) (λ h. cc)

nothing : (one two : Core) → Tracks none one one two
unfolding has none
nothing one two = record { agrees = λ x h. absurd (nothing_in x h); keeps = λ x _. refl }

choice_agrees : (b c : Bool) (v w m n : ℕ) → v ≡ w → (c ≡ true → m ≡ n) → (b || c) ≡ true → cond b v m ≡ cond b w n
choice_agrees true c v w m n e f h = e
choice_agrees false c v w m n e f h = f h

choice_keeps : (b c : Bool) (v m n : ℕ) → (c ≡ false → m ≡ n) → (b || c) ≡ false → cond b v m ≡ n
choice_keeps true c v m n f h = cc
choice_keeps false c v m n f h = f h

-- a change of one location
changed : (y : Loc) (S : Locs) (one k l k' l' : Core) (v w : ℕ) → v ≡ w
    → ((x : Loc) → at x k' ≡ cond (has x (only y)) v (at x k)) → ((x : Loc) → at x l' ≡ cond (has x (only y)) w (at x l))
    → Tracks S one k l → Tracks (both (only y) S) one k' l'
changed y S one k l k' l' v w e first second t = record {
  agrees = λ x h. first x ∙ choice_agrees (has x (only y)) (has x S) v w (at x k) (at x l) e (t.agrees x) (sym (has_both (only y) S x) ∙ h) ∙ sym (second x);
  keeps = λ x h. first x ∙ choice_keeps (has x (only y)) (has x S) v (at x k) (at x one) (t.keeps x) (sym (has_both (only y) S x) ∙ h);
}

-- a change of no location
unchanged : (S : Locs) (one k l k' l' : Core) → ((x : Loc) → at x k' ≡ at x k) → ((x : Loc) → at x l' ≡ at x l) → Tracks S one k l → Tracks S one k' l'
unchanged S one k l k' l' first second t = record {
  agrees = λ x h. first x ∙ t.agrees x h ∙ sym (second x);
  keeps = λ x h. first x ∙ t.keeps x h;
}

tracks_reg : (r : Reg) {S : Locs} {one k l : Core} {v w : ℕ} → v ≡ w → Tracks S one k l → Tracks (both (only (loc_of r)) S) one (with_reg r v k) (with_reg r w l)
tracks_reg r {S} {one} {k} {l} {v} {w} e t = changed (loc_of r) S one k l (with_reg r v k) (with_reg r w l) v w e (at-with_reg r v k) (at-with_reg r w l) t

tracks_s : {S : Locs} {one k l : Core} {v w : ℕ} → v ≡ w → Tracks S one k l → Tracks (both (only loc.S) S) one (with_flag loc.S v k) (with_flag loc.S w l)
tracks_s {S} {one} {k} {l} {v} {w} e t = changed loc.S S one k l (with_flag loc.S v k) (with_flag loc.S w l) v w e (at-with_flag_s v k) (at-with_flag_s w l) t

tracks_z : {S : Locs} {one k l : Core} {v w : ℕ} → v ≡ w → Tracks S one k l → Tracks (both (only loc.Z) S) one (with_flag loc.Z v k) (with_flag loc.Z w l)
tracks_z {S} {one} {k} {l} {v} {w} e t = changed loc.Z S one k l (with_flag loc.Z v k) (with_flag loc.Z w l) v w e (at-with_flag_z v k) (at-with_flag_z w l) t

tracks_ac : {S : Locs} {one k l : Core} {v w : ℕ} → v ≡ w → Tracks S one k l → Tracks (both (only loc.Ac) S) one (with_flag loc.Ac v k) (with_flag loc.Ac w l)
tracks_ac {S} {one} {k} {l} {v} {w} e t = changed loc.Ac S one k l (with_flag loc.Ac v k) (with_flag loc.Ac w l) v w e (at-with_flag_ac v k) (at-with_flag_ac w l) t

tracks_p : {S : Locs} {one k l : Core} {v w : ℕ} → v ≡ w → Tracks S one k l → Tracks (both (only loc.P) S) one (with_flag loc.P v k) (with_flag loc.P w l)
tracks_p {S} {one} {k} {l} {v} {w} e t = changed loc.P S one k l (with_flag loc.P v k) (with_flag loc.P w l) v w e (at-with_flag_p v k) (at-with_flag_p w l) t

tracks_cy : {S : Locs} {one k l : Core} {v w : ℕ} → v ≡ w → Tracks S one k l → Tracks (both (only loc.Cy) S) one (with_flag loc.Cy v k) (with_flag loc.Cy w l)
tracks_cy {S} {one} {k} {l} {v} {w} e t = changed loc.Cy S one k l (with_flag loc.Cy v k) (with_flag loc.Cy w l) v w e (at-with_flag_cy v k) (at-with_flag_cy w l) t

tracks_cell : {S : Locs} {one k l : Core} (a v b w : ℕ) → Tracks S one k l → Tracks S one (with_cell a v k) (with_cell b w l)
tracks_cell {S} {one} {k} {l} a v b w t = unchanged S one k l (with_cell a v k) (with_cell b w l) (at-with_cell a v k) (at-with_cell b w l) t

tracks_sp : {S : Locs} {one k l : Core} (v w : ℕ) → Tracks S one k l → Tracks S one (with_sp v k) (with_sp w l)
tracks_sp {S} {one} {k} {l} v w t = unchanged S one k l (with_sp v k) (with_sp w l) (at-with_sp v k) (at-with_sp w l) t

tracks_pc : {S : Locs} {one k l : Core} (v w : ℕ) → Tracks S one k l → Tracks S one (with_pc v k) (with_pc w l)
tracks_pc {S} {one} {k} {l} v w t = unchanged S one k l (with_pc v k) (with_pc w l) (at-with_pc v k) (at-with_pc w l) t

tracks_halted : {S : Locs} {one k l : Core} (v w : Bool) → Tracks S one k l → Tracks S one (with_halted v k) (with_halted w l)
tracks_halted {S} {one} {k} {l} v w t = unchanged S one k l (with_halted v k) (with_halted w l) (at-with_halted v k) (at-with_halted w l) t

tracks_advance : {S : Locs} {one k l : Core} (v w : ℕ) → Tracks S one k l → Tracks S one (advance v k) (advance w l)
tracks_advance {S} {one} {k} {l} v w t = unchanged S one k l (advance v k) (advance w l) (at-advance v k) (at-advance w l) t

tracks_szp : {S : Locs} {one k l : Core} {v w : ℕ} → v ≡ w → Tracks S one k l → Tracks (both (only loc.S) (both (only loc.Z) (both (only loc.P) S))) one (with_szp v k) (with_szp w l)
unfolding with_szp
tracks_szp e t =
    tracks_s (ap (λ r. one_if (nat_le 128 r)) e) (tracks_z (ap (λ r. one_if (r == 0)) e) (tracks_p (ap (λ r. one_if (count_ones r % 2 == 0)) e) t))

tracks_arg : (y : Arg) {S : Locs} {one k l : Core} {v w : ℕ} → v ≡ w → Tracks S one k l → Tracks (both (arg_writes y) S) one (with_arg y v k) (with_arg y w l)
unfolding with_arg none both
tracks_arg (arg.Reg r) e t = tracks_reg r e t
tracks_arg arg.M e t = tracks_cell _ _ _ _ t

or_assoc : (a b c : Bool) → ((a || b) || c) ≡ (a || (b || c))
or_assoc true b c = refl
or_assoc false b c = refl

has-regroup : (a b S : Locs) (x : Loc) → has x (both (both a b) S) ≡ has x (both a (both b S))
has-regroup a b S x =
    has_both (both a b) S x ∙ ap (λ t. t || has x S) (has_both a b x) ∙ or_assoc (has x a) (has x b) (has x S)
    ∙ ap (λ t. has x a || t) (sym (has_both b S x)) ∙ sym (has_both a (both b S) x)

regroup : (a b S : Locs) (one k l : Core) → Tracks (both a (both b S)) one k l → Tracks (both (both a b) S) one k l
regroup a b S one k l t = record {
  agrees = λ x h. t.agrees x (sym (has-regroup a b S x) ∙ h);
  keeps = λ x h. t.keeps x (sym (has-regroup a b S x) ∙ h);
}

no_part : (S : Locs) (one k l : Core) → Tracks S one k l → Tracks (both none S) one k l
unfolding none both
no_part S one k l t = t

tracks_pair : (p : Pair) {S : Locs} {one k l : Core} {v w : ℕ} → v ≡ w → Tracks S one k l → Tracks (both (pair_locs p) S) one (with_pair p v k) (with_pair p w l)
unfolding with_pair
tracks_pair pair.B e t = regroup _ _ _ _ _ _ (tracks_reg reg.B (ap (λ v. v / 256 % 256) e) (tracks_reg reg.C (ap (λ v. v % 256) e) t))
tracks_pair pair.D e t = regroup _ _ _ _ _ _ (tracks_reg reg.D (ap (λ v. v / 256 % 256) e) (tracks_reg reg.E (ap (λ v. v % 256) e) t))
tracks_pair pair.H e t = regroup _ _ _ _ _ _ (tracks_reg reg.H (ap (λ v. v / 256 % 256) e) (tracks_reg reg.L (ap (λ v. v % 256) e) t))
tracks_pair pair.Sp {S} e t = no_part S _ _ _ (tracks_sp _ _ t)

-- what agreeing says of operands
left : (a b : Locs) (one two : Core) → Agrees (both a b) one two → Agrees a one two
left a b one two h x e = h x (has_both a b x ∙ ap (λ t. t || has x b) e)

or_true : (a : Bool) → (a || true) ≡ true
or_true true = refl
or_true false = refl

right : (a b : Locs) (one two : Core) → Agrees (both a b) one two → Agrees b one two
right a b one two h x e = h x (has_both a b x ∙ ap (λ t. has x a || t) e ∙ or_true (has x a))

same_reg : (r : Reg) (one two : Core) → Agrees (only (loc_of r)) one two → reg_of r one ≡ reg_of r two
unfolding has only
same_reg r one two = each_reg (λ r. Agrees (only (loc_of r)) one two → reg_of r one ≡ reg_of r two)
    (λ h. h loc.B refl) (λ h. h loc.C refl) (λ h. h loc.D refl) (λ h. h loc.E refl) (λ h. h loc.H refl) (λ h. h loc.L refl) (λ h. h loc.A refl) r

word_of : {a b c d : ℕ} → a ≡ c → b ≡ d → 256 * a + b ≡ 256 * c + d
word_of e f = cc

same_pair : (p : Pair) (one two : Core) → one.sp ≡ two.sp → Agrees (pair_locs p) one two → pair_of p one ≡ pair_of p two
unfolding has only both none
same_pair pair.B one two s h = word_of (h loc.B refl) (h loc.C refl)
same_pair pair.D one two s h = word_of (h loc.D refl) (h loc.E refl)
same_pair pair.H one two s h = word_of (h loc.H refl) (h loc.L refl)
same_pair pair.Sp one two s h = s

same_cell : (a b : ℕ) (one two : Core) → a ≡ b → one.cells ≡ two.cells → cell a one ≡ cell b two
same_cell a b one two e f = ap (λ a. slice_index one.cells (a % 65536)) e ∙ ap (λ cells. slice_index cells (b % 65536)) f

same_word : (one two : Core) → one.sp ≡ two.sp → one.cells ≡ two.cells → word one.sp one ≡ word two.sp two
same_word one two s f =
    let low = same_cell one.sp two.sp one two s f in
    let high = same_cell (one.sp + 1) (two.sp + 1) one two (ap (λ a. a + 1) s) f in
    cc

same_arg : (y : Arg) (one two : Core) → one.cells ≡ two.cells → Agrees (arg_reads y) one two → arg_of y one ≡ arg_of y two
unfolding has only both
same_arg (arg.Reg r) one two f h = same_reg r one two h
same_arg arg.M one two f h = same_cell _ _ one two (word_of (h loc.H refl) (h loc.L refl)) f

same_test : (when : Cond) (one two : Core) → Agrees (cond_reads when) one two → holds when one ≡ holds when two
unfolding has only
same_test when.Nz one two h = ap (λ v. v == 0) (h loc.Z refl)
same_test when.Z one two h = ap (λ v. v == 1) (h loc.Z refl)
same_test when.Nc one two h = ap (λ v. v == 0) (h loc.Cy refl)
same_test when.C one two h = ap (λ v. v == 1) (h loc.Cy refl)
same_test when.Po one two h = ap (λ v. v == 0) (h loc.P refl)
same_test when.Pe one two h = ap (λ v. v == 1) (h loc.P refl)
same_test when.P one two h = ap (λ v. v == 0) (h loc.S refl)
same_test when.M one two h = ap (λ v. v == 1) (h loc.S refl)

-- operations
tracks_add : (one two : Core) (y z c d : ℕ) → one.a ≡ two.a → y ≡ z → c ≡ d → Tracks (both (only loc.A) all_flags) one (add y c one) (add z d two)
unfolding add both only none
tracks_add one two y z c d a e f =
    let sum : one.a + y + c ≡ two.a + z + d = cc in
    let low : one.a % 16 + y % 16 + c ≡ two.a % 16 + z % 16 + d = cc in
    tracks_reg reg.A (ap (λ s. s % 256) sum) (tracks_szp (ap (λ s. s % 256) sum) (tracks_cy (ap (λ s. one_if (nat_le 256 s)) sum) (tracks_ac (ap (λ s. one_if (nat_le 16 s)) low) (nothing one two))))

tracks_compare : (one two : Core) (y z c d : ℕ) → difference y c one ≡ difference z d two → nat_lt one.a (y + c) ≡ nat_lt two.a (z + d)
    → nat_le (y % 16 + c) (one.a % 16) ≡ nat_le (z % 16 + d) (two.a % 16) → Tracks all_flags one (compare y c one) (compare z d two)
unfolding compare both only none
tracks_compare one two y z c d r borrow digit =
    tracks_szp r (tracks_cy (ap one_if borrow) (tracks_ac (ap one_if digit) (nothing one two)))

tracks_subtract : (one two : Core) (y z c d : ℕ) → difference y c one ≡ difference z d two → nat_lt one.a (y + c) ≡ nat_lt two.a (z + d)
    → nat_le (y % 16 + c) (one.a % 16) ≡ nat_le (z % 16 + d) (two.a % 16) → Tracks (both (only loc.A) all_flags) one (subtract y c one) (subtract z d two)
unfolding subtract
tracks_subtract one two y z c d r borrow digit = tracks_reg reg.A r (tracks_compare one two y z c d r borrow digit)

tracks_logic : (one two : Core) (r q c d : ℕ) → r ≡ q → c ≡ d → Tracks (both (only loc.A) all_flags) one (logic r c one) (logic q d two)
unfolding logic both only none
tracks_logic one two r q c d e f = tracks_reg reg.A e (tracks_szp e (tracks_cy refl (tracks_ac f (nothing one two))))

tracks_alu : (o : Op) (one two : Core) (y z : ℕ) → Agrees (op_reads o) one two → y ≡ z → Tracks (op_writes o) one (alu o y one) (alu o z two)
unfolding alu has only both
tracks_alu op.Add one two y z h e = tracks_add one two y z 0 0 (h loc.A refl) e refl
tracks_alu op.Adc one two y z h e = tracks_add one two y z one.cy two.cy (h loc.A refl) e (h loc.Cy refl)
tracks_alu op.Sub one two y z h e = let a = h loc.A refl in tracks_subtract one two y z 0 0 (cc) (cc) (cc)
tracks_alu op.Sbb one two y z h e = let a = h loc.A refl in let c = h loc.Cy refl in tracks_subtract one two y z one.cy two.cy (cc) (cc) (cc)
tracks_alu op.Ana one two y z h e = let a = h loc.A refl in tracks_logic one two _ _ _ _ (cc) (cc)
tracks_alu op.Xra one two y z h e = let a = h loc.A refl in tracks_logic one two _ _ _ _ (cc) refl
tracks_alu op.Ora one two y z h e = let a = h loc.A refl in tracks_logic one two _ _ _ _ (cc) refl
tracks_alu op.Cmp one two y z h e = let a = h loc.A refl in tracks_compare one two y z 0 0 (cc) (cc) (cc)

-- A minus itself and a borrow
self_difference : (a c : ℕ) → (a + 256 - (a + c)) % 256 ≡ (256 - c) % 256
self_difference a c = ap (λ d. d % 256) (omega arith)

self_borrow : (a c : ℕ) → nat_lt a (a + c) ≡ nat_lt 0 c
self_borrow a c = grind (arith, nat_tests)

self_digit : (a c : ℕ) → nat_le (a + c) a ≡ (c == 0)
self_digit a c = grind (arith, nat_tests)

tracks_alone : (o : Op) (y : Arg) (one two : Core) → one.cells ≡ two.cells → Agrees (alu_reads o y) one two → Tracks (op_writes o) one (alu o (arg_of y one) one) (alu o (arg_of y two) two)
unfolding alu has only
tracks_alone op.Sub (arg.Reg reg.A) one two f h =
    tracks_subtract one two one.a two.a 0 0 (self_difference one.a 0 ∙ sym (self_difference two.a 0)) (self_borrow one.a 0 ∙ sym (self_borrow two.a 0)) (self_digit (one.a % 16) 0 ∙ sym (self_digit (two.a % 16) 0))
tracks_alone op.Cmp (arg.Reg reg.A) one two f h =
    tracks_compare one two one.a two.a 0 0 (self_difference one.a 0 ∙ sym (self_difference two.a 0)) (self_borrow one.a 0 ∙ sym (self_borrow two.a 0)) (self_digit (one.a % 16) 0 ∙ sym (self_digit (two.a % 16) 0))
tracks_alone op.Sbb (arg.Reg reg.A) one two f h =
    let c : one.cy ≡ two.cy = h loc.Cy refl in
    tracks_subtract one two one.a two.a one.cy two.cy
    (self_difference one.a one.cy ∙ ap (λ c. (256 - c) % 256) c ∙ sym (self_difference two.a two.cy))
    (self_borrow one.a one.cy ∙ ap (λ c. nat_lt 0 c) c ∙ sym (self_borrow two.a two.cy))
    (self_digit (one.a % 16) one.cy ∙ ap (λ c. c == 0) c ∙ sym (self_digit (two.a % 16) two.cy))
tracks_alone op.Xra (arg.Reg reg.A) one two f h =
    tracks_logic one two (bit_xor one.a one.a) (bit_xor two.a two.a) 0 0 (xor_self one.a ∙ sym (xor_self two.a)) refl
tracks_alone o y one two f h =
    tracks_alu o one two (arg_of y one) (arg_of y two) (left (op_reads o) (arg_reads y) one two h) (same_arg y one two f (right (op_reads o) (arg_reads y) one two h))

tracks_increase : (y : Arg) (one two : Core) → arg_of y one ≡ arg_of y two → Tracks (both (arg_writes y) flags_but_carry) one (increase y one) (increase y two)
unfolding increase only both none
tracks_increase y one two e =
    tracks_arg y (ap (λ v. (v + 1) % 256) e) (tracks_szp (ap (λ v. (v + 1) % 256) e) (tracks_ac (ap (λ v. one_if ((v + 1) % 256 % 16 == 0)) e) (nothing one two)))

tracks_decrease : (y : Arg) (one two : Core) → arg_of y one ≡ arg_of y two → Tracks (both (arg_writes y) flags_but_carry) one (decrease y one) (decrease y two)
unfolding decrease only both none
tracks_decrease y one two e =
    tracks_arg y (ap (λ v. (v + 255) % 256) e) (tracks_szp (ap (λ v. (v + 255) % 256) e) (tracks_ac (ap (λ v. one_if (not (v % 16 == 0))) e) (nothing one two)))

tracks_add_pair : (p : Pair) (one two : Core) → pair_of pair.H one ≡ pair_of pair.H two → pair_of p one ≡ pair_of p two → Tracks (both (pair_locs pair.H) (only loc.Cy)) one (add_pair p one) (add_pair p two)
unfolding add_pair both none only
tracks_add_pair p one two e f =
    let sum : pair_of pair.H one + pair_of p one ≡ pair_of pair.H two + pair_of p two = cc in
    tracks_pair pair.H (ap (λ s. s % 65536) sum) (tracks_cy (ap (λ s. one_if (nat_le 65536 s)) sum) (nothing one two))

tracks_adjust : (one two : Core) → one.a ≡ two.a → one.ac ≡ two.ac → one.cy ≡ two.cy → Tracks (both (only loc.A) all_flags) one (adjust one) (adjust two)
unfolding adjust only both none
tracks_adjust one two a ac cy =
    let low : adjusts_low one ≡ adjusts_low two = cc in
    let high : adjusts_high one ≡ adjusts_high two = cc in
    let r : (one.a + 6 * one_if (adjusts_low one) + 0x60 * one_if (adjusts_high one)) % 256 ≡ (two.a + 6 * one_if (adjusts_low two) + 0x60 * one_if (adjusts_high two)) % 256 = cc in
    let digit : one_if (nat_le 16 (one.a % 16 + 6 * one_if (adjusts_low one))) ≡ one_if (nat_le 16 (two.a % 16 + 6 * one_if (adjusts_low two))) = cc in
    tracks_reg reg.A r (tracks_szp r (tracks_cy (ap one_if high) (tracks_ac digit (nothing one two))))

tracks_rotate : (one two : Core) (r q c d : ℕ) → r ≡ q → c ≡ d → Tracks (both (only loc.A) (only loc.Cy)) one (rotate r c one) (rotate q d two)
unfolding rotate both none only
tracks_rotate one two r q c d e f = tracks_reg reg.A e (tracks_cy f (nothing one two))

tracks_push : (h l m n : ℕ) (one two : Core) → Tracks none one (push h l one) (push m n two)
unfolding push
tracks_push h l m n one two = tracks_sp _ _ (tracks_cell _ _ _ _ (tracks_cell _ _ _ _ (nothing one two)))

tracks_push_pair : (p : StackPair) (one two : Core) → Tracks none one (push_pair p one) (push_pair p two)
unfolding push_pair
tracks_push_pair stack.B one two = tracks_push _ _ _ _ one two
tracks_push_pair stack.D one two = tracks_push _ _ _ _ one two
tracks_push_pair stack.H one two = tracks_push _ _ _ _ one two
tracks_push_pair stack.Psw one two = tracks_push _ _ _ _ one two

tracks_flag_byte : {S : Locs} {one k l : Core} {y z : ℕ} → y ≡ z → Tracks S one k l
    → Tracks (both (only loc.S) (both (only loc.Z) (both (only loc.Ac) (both (only loc.P) (both (only loc.Cy) S))))) one (with_flag_byte y k) (with_flag_byte z l)
unfolding with_flag_byte
tracks_flag_byte e t =
    tracks_s (ap (λ y. y / 128 % 2) e) (tracks_z (ap (λ y. y / 64 % 2) e) (tracks_ac (ap (λ y. y / 16 % 2) e) (tracks_p (ap (λ y. y / 4 % 2) e) (tracks_cy (ap (λ y. y % 2) e) t))))

tracks_top : (p : StackPair) (one two : Core) → one.sp ≡ two.sp → one.cells ≡ two.cells → Tracks (stack_writes p) one (top_to p one) (top_to p two)
unfolding top_to only both none
tracks_top stack.B one two s f = tracks_pair pair.B (same_word one two s f) (nothing one two)
tracks_top stack.D one two s f = tracks_pair pair.D (same_word one two s f) (nothing one two)
tracks_top stack.H one two s f = tracks_pair pair.H (same_word one two s f) (nothing one two)
tracks_top stack.Psw one two s f =
    tracks_reg reg.A (same_cell (one.sp + 1) (two.sp + 1) one two (ap (λ a. a + 1) s) f) (tracks_flag_byte (same_cell one.sp two.sp one two s f) (nothing one two))

tracks_pop : (p : StackPair) (one two : Core) → one.sp ≡ two.sp → one.cells ≡ two.cells → Tracks (stack_writes p) one (pop_pair p one) (pop_pair p two)
unfolding pop_pair
tracks_pop p one two s f = tracks_sp _ _ (tracks_top p one two s f)

tracks_call : (length w : ℕ) (one two : Core) → Tracks none one (call length w one) (call length w two)
unfolding call
tracks_call length w one two = tracks_pc _ _ (tracks_push _ _ _ _ one two)

tracks_ret : (one two : Core) → Tracks none one (ret one) (ret two)
unfolding ret
tracks_ret one two = tracks_sp _ _ (tracks_pc _ _ (nothing one two))

tracks_exchange_top : (one two : Core) → one.sp ≡ two.sp → one.cells ≡ two.cells → Tracks (pair_locs pair.H) one (exchange_top one) (exchange_top two)
unfolding exchange_top both none only
tracks_exchange_top one two s f =
    tracks_reg reg.H (same_cell (one.sp + 1) (two.sp + 1) one two (ap (λ a. a + 1) s) f) (tracks_reg reg.L (same_cell one.sp two.sp one two s f) (tracks_cell _ _ _ _ (tracks_cell _ _ _ _ (nothing one two))))

tracks_exchange_pairs : (one two : Core) → one.d ≡ two.d → one.e ≡ two.e → one.h ≡ two.h → one.l ≡ two.l → Tracks (both (pair_locs pair.H) (pair_locs pair.D)) one (exchange_pairs one) (exchange_pairs two)
unfolding exchange_pairs both none only
tracks_exchange_pairs one two d e h l = tracks_reg reg.H d (tracks_reg reg.L e (tracks_reg reg.D h (tracks_reg reg.E l (nothing one two))))

tracks_choice : (b c : Bool) (one k l m n : Core) → b ≡ c → Tracks none one k l → Tracks none one m n → Tracks none one (cond b k m) (cond c l n)
tracks_choice true true one k l m n e t u = t
tracks_choice false false one k l m n e t u = u
tracks_choice true false one k l m n e t u = cc
tracks_choice false true one k l m n e t u = cc

tracks_lhld : (w : ℕ) (one two : Core) → one.cells ≡ two.cells → Tracks (pair_locs pair.H) one (with_reg reg.H (cell (w + 1) one) (with_reg reg.L (cell w one) one)) (with_reg reg.H (cell (w + 1) two) (with_reg reg.L (cell w two) two))
unfolding both none only
tracks_lhld w one two f = tracks_reg reg.H (same_cell (w + 1) (w + 1) one two refl f) (tracks_reg reg.L (same_cell w w one two refl f) (nothing one two))

tracks_a : (one two : Core) (v w : ℕ) → v ≡ w → Tracks (only loc.A) one (with_reg reg.A v one) (with_reg reg.A w two)
unfolding both none only
tracks_a one two v w e = tracks_reg reg.A e (nothing one two)

tracks_carry : (one two : Core) (v w : ℕ) → v ≡ w → Tracks (only loc.Cy) one (with_flag loc.Cy v one) (with_flag loc.Cy w two)
unfolding both none only
tracks_carry one two v w e = tracks_cy e (nothing one two)

tracks_arg_alone : (y : Arg) (one two : Core) (v w : ℕ) → v ≡ w → Tracks (arg_writes y) one (with_arg y v one) (with_arg y w two)
unfolding both none only
tracks_arg_alone (arg.Reg r) one two v w e =
    each_reg (λ r. Tracks (only (loc_of r)) one (with_arg (arg.Reg r) v one) (with_arg (arg.Reg r) w two))
    (tracks_arg (arg.Reg reg.B) e (nothing one two)) (tracks_arg (arg.Reg reg.C) e (nothing one two)) (tracks_arg (arg.Reg reg.D) e (nothing one two)) (tracks_arg (arg.Reg reg.E) e (nothing one two))
    (tracks_arg (arg.Reg reg.H) e (nothing one two)) (tracks_arg (arg.Reg reg.L) e (nothing one two)) (tracks_arg (arg.Reg reg.A) e (nothing one two)) r
tracks_arg_alone arg.M one two v w e = tracks_arg arg.M e (nothing one two)

tracks_pair_alone : (p : Pair) (one two : Core) (v w : ℕ) → v ≡ w → Tracks (pair_locs p) one (with_pair p v one) (with_pair p w two)
unfolding both none only
tracks_pair_alone pair.B one two v w e = tracks_pair pair.B e (nothing one two)
tracks_pair_alone pair.D one two v w e = tracks_pair pair.D e (nothing one two)
tracks_pair_alone pair.H one two v w e = tracks_pair pair.H e (nothing one two)
tracks_pair_alone pair.Sp one two v w e = tracks_pair pair.Sp e (nothing one two)

-- every row of the table
tracks : (input : ℕ) (i : Instr) (one two : Core) → IsAlike (reads i) one two → Tracks (writes i) one (effect input i one) (effect input i two)
unfolding effect has only both
tracks input (Mov to from) one two h = tracks_advance _ _ (tracks_arg_alone to one two _ _ (same_arg from one two h.cells (left (arg_reads from) (address_reads to) one two h.locations)))
tracks input (Mvi to n) one two h = tracks_advance _ _ (tracks_arg_alone to one two n n refl)
tracks input (Inr y) one two h = tracks_advance _ _ (tracks_increase y one two (same_arg y one two h.cells h.locations))
tracks input (Dcr y) one two h = tracks_advance _ _ (tracks_decrease y one two (same_arg y one two h.cells h.locations))
tracks input (Alu o y) one two h = tracks_advance _ _ (tracks_alone o y one two h.cells h.locations)
tracks input (AluImmediate o n) one two h = tracks_advance _ _ (tracks_alu o one two n n h.locations refl)
tracks input (Lxi p w) one two h = tracks_advance _ _ (tracks_pair_alone p one two w w refl)
tracks input (Dad p) one two h = tracks_advance _ _ (tracks_add_pair p one two
    (same_pair pair.H one two h.sp (left (pair_locs pair.H) (pair_locs p) one two h.locations)) (same_pair p one two h.sp (right (pair_locs pair.H) (pair_locs p) one two h.locations)))
tracks input (Inx p) one two h = tracks_advance _ _ (tracks_pair_alone p one two _ _ (ap (λ v. v + 1) (same_pair p one two h.sp h.locations)))
tracks input (Dcx p) one two h = tracks_advance _ _ (tracks_pair_alone p one two _ _ (ap (λ v. v + 65535) (same_pair p one two h.sp h.locations)))
tracks input (Stax p) one two h = tracks_advance _ _ (tracks_cell _ _ _ _ (nothing one two))
tracks input (Ldax p) one two h = tracks_advance _ _ (tracks_a one two _ _ (same_cell _ _ one two (same_pair p one two h.sp h.locations) h.cells))
tracks input (Shld w) one two h = tracks_advance _ _ (tracks_cell _ _ _ _ (tracks_cell _ _ _ _ (nothing one two)))
tracks input (Lhld w) one two h = tracks_advance _ _ (tracks_lhld w one two h.cells)
tracks input (Sta w) one two h = tracks_advance _ _ (tracks_cell _ _ _ _ (nothing one two))
tracks input (Lda w) one two h = tracks_advance _ _ (tracks_a one two _ _ (same_cell w w one two refl h.cells))
tracks input Rlc one two h = let a : one.a ≡ two.a = h.locations loc.A refl in tracks_advance _ _ (tracks_rotate one two _ _ _ _ (cc) (cc))
tracks input Rrc one two h = let a : one.a ≡ two.a = h.locations loc.A refl in tracks_advance _ _ (tracks_rotate one two _ _ _ _ (cc) (cc))
tracks input Ral one two h = let a : one.a ≡ two.a = h.locations loc.A refl in let c : one.cy ≡ two.cy = h.locations loc.Cy refl in tracks_advance _ _ (tracks_rotate one two _ _ _ _ (cc) (cc))
tracks input Rar one two h = let a : one.a ≡ two.a = h.locations loc.A refl in let c : one.cy ≡ two.cy = h.locations loc.Cy refl in tracks_advance _ _ (tracks_rotate one two _ _ _ _ (cc) (cc))
tracks input Daa one two h = tracks_advance _ _ (tracks_adjust one two (h.locations loc.A refl) (h.locations loc.Ac refl) (h.locations loc.Cy refl))
tracks input Cma one two h = tracks_advance _ _ (tracks_a one two _ _ (ap (λ v. 255 - v) (h.locations loc.A refl)))
tracks input Stc one two h = tracks_advance _ _ (tracks_carry one two 1 1 refl)
tracks input Cmc one two h = tracks_advance _ _ (tracks_carry one two _ _ (ap (λ v. 1 - v) (h.locations loc.Cy refl)))
tracks input (Push p) one two h = tracks_advance _ _ (tracks_push_pair p one two)
tracks input (Pop p) one two h = tracks_advance _ _ (tracks_pop p one two h.sp h.cells)
tracks input (Jmp w) one two h = tracks_pc _ _ (nothing one two)
tracks input (Jcc when w) one two h = tracks_choice _ _ one _ _ _ _ (same_test when one two h.locations) (tracks_pc _ _ (nothing one two)) (tracks_advance _ _ (nothing one two))
tracks input (Call w) one two h = tracks_call 3 w one two
tracks input (Ccc when w) one two h = tracks_choice _ _ one _ _ _ _ (same_test when one two h.locations) (tracks_call 3 w one two) (tracks_advance _ _ (nothing one two))
tracks input Ret one two h = tracks_ret one two
tracks input (Rcc when) one two h = tracks_choice _ _ one _ _ _ _ (same_test when one two h.locations) (tracks_ret one two) (tracks_advance _ _ (nothing one two))
tracks input (Rst n) one two h = tracks_call 1 (8 * n) one two
tracks input Pchl one two h = tracks_pc _ _ (nothing one two)
tracks input Sphl one two h = tracks_advance _ _ (tracks_sp _ _ (nothing one two))
tracks input Xthl one two h = tracks_advance _ _ (tracks_exchange_top one two h.sp h.cells)
tracks input Xchg one two h = tracks_advance _ _ (tracks_exchange_pairs one two (h.locations loc.D refl) (h.locations loc.E refl) (h.locations loc.H refl) (h.locations loc.L refl))
tracks input (In n) one two h = tracks_advance _ _ (tracks_a one two input input refl)
tracks input (Out n) one two h = tracks_advance _ _ (nothing one two)
tracks input Nop one two h = tracks_advance _ _ (nothing one two)
tracks input Ei one two h = tracks_advance _ _ (nothing one two)
tracks input Di one two h = tracks_advance _ _ (nothing one two)
tracks input Hlt one two h = tracks_halted _ _ (nothing one two)

pub changes_only_sets : ChangesOnlyWrites
changes_only_sets input i core x h =
    (tracks input i core core record { locations = λ _ _. refl; cells = refl; sp = refl; pc = refl }).keeps x h

pub depends_only_on_uses : DependsOnlyOnReads
depends_only_on_uses input i one two h = (tracks input i one two h).agrees
