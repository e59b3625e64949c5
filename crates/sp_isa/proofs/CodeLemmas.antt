-- The codes and the table.
use Rattle.std.proofs.Common.{◌≡◌, ◌≢◌, ℕ, zero, suc, ◌+◌, ◌*◌, ◌/◌, ◌%◌, ◌<◌, Bool, true, false, ◌&&◌, List, [], ◌∷◌, ◌++◌, length, refl, sym, ap, ◌∙◌, Some, None, arith, subst, IsTrue}
use Rattle.std.specs.Prelude.{Option, IfSome, ◌==◌, slice_index, Contains, not, nat_eq}
use Rattle.std.specs.List.{list_any}
use Rattle.std.proofs.lemmas.Map.Views.{list_any-from_Contains, Contains-from_any}
use Rattle.std.specs.Option.{option_map}
use Rattle.std.specs.Cmp.{nat_eq_equiv}
use Rattle.std.proofs.lemmas.List.{append-nil}
use Rattle.std.proofs.lemmas.Bool.{false≢true}
use Rattle.std.proofs.lemmas.Bool.Decides.{nat_tests}
use Rattle.sp_base.specs.declared.location.Reg.TheVariants as reg
use Rattle.sp_isa.specs.declared.instr.Arg.{Arg}
use Rattle.sp_isa.specs.declared.instr.Arg.TheVariants as arg
use Rattle.sp_isa.specs.declared.instr.Op.{Op}
use Rattle.sp_isa.specs.declared.instr.Op.TheVariants as op
use Rattle.sp_isa.specs.declared.instr.Instr.{Instr}
use Rattle.sp_isa.specs.declared.instr.Instr.TheVariants.{Mov, Mvi, Inr, Dcr, Alu, AluImmediate, Lxi, Dad, Inx, Dcx, Stax, Ldax, Shld, Lhld, Sta, Lda, Push, Pop, Jmp, Jcc, Call, Ccc, Rcc, Rst, In, Out}
use Rattle.sp_isa.proofs.Cases.{each_arg, each_pair, each_stack, each_cond, each_op}
use Rattle.sp_isa.specs.Code.{valid, opcode, operand, code, bytes_of, Begins}
use Rattle.sp_isa.specs.Decode.{form, with_operand, decode, decode_front, unused, DecodesTheTable, DecodesCodes, NoCodeBeginsAnother, NothingDecodes}

-- what a test finds of each number below another
abbrev all_below : (ℕ → Bool) → ℕ → Bool
all_below test zero = true
all_below test (suc n) = test n && all_below test n

both : (a b : Bool) → (a && b) ≡ true → (a ≡ true) × (b ≡ true)
both true b h = (refl, h)
both false b h = cc

at_each : (test : ℕ → Bool) (n : ℕ) → all_below test n ≡ true → (k : ℕ) → k < n → test k ≡ true
at_each test zero h k low = absurd (omega arith)
at_each test (suc n) h k low =
    let parts = both (test n) (all_below test n) h in
    elim (k == n) as (λ b. (k == n) ≡ b → test k ≡ true) [
      | true ↦ λ e. let same : k ≡ n = grind (arith, nat_tests) in ap test same ∙ parts.0
      | false ↦ λ e. let other : k ≢ n = grind (arith, nat_tests) in at_each test n parts.1 k (omega arith)
    ] refl

-- the instruction with operand bytes 0
abbrev blank : Instr → Instr
blank (Mvi y _) = Mvi y 0
blank (AluImmediate o _) = AluImmediate o 0
blank (In _) = In 0
blank (Out _) = Out 0
blank (Lxi p _) = Lxi p 0
blank (Shld _) = Shld 0
blank (Lhld _) = Lhld 0
blank (Sta _) = Sta 0
blank (Lda _) = Lda 0
blank (Jmp _) = Jmp 0
blank (Jcc when _) = Jcc when 0
blank (Call _) = Call 0
blank (Ccc when _) = Ccc when 0
blank i = i

-- its first byte gives an instruction's form
abbrev HasForm : Instr → Type 0
HasForm i = form (opcode i) ≡ Some (blank i)

move_back : (to from : Arg) → IsTrue (valid (Mov to from)) → HasForm (Mov to from)
unfolding form
move_back = each_arg (λ to. (from : Arg) → IsTrue (valid (Mov to from)) → HasForm (Mov to from))
    (each_arg (λ from. IsTrue (valid (Mov (arg.Reg reg.B) from)) → HasForm (Mov (arg.Reg reg.B) from)) (λ _. refl) (λ _. refl) (λ _. refl) (λ _. refl) (λ _. refl) (λ _. refl) (λ _. refl) (λ _. refl))
    (each_arg (λ from. IsTrue (valid (Mov (arg.Reg reg.C) from)) → HasForm (Mov (arg.Reg reg.C) from)) (λ _. refl) (λ _. refl) (λ _. refl) (λ _. refl) (λ _. refl) (λ _. refl) (λ _. refl) (λ _. refl))
    (each_arg (λ from. IsTrue (valid (Mov (arg.Reg reg.D) from)) → HasForm (Mov (arg.Reg reg.D) from)) (λ _. refl) (λ _. refl) (λ _. refl) (λ _. refl) (λ _. refl) (λ _. refl) (λ _. refl) (λ _. refl))
    (each_arg (λ from. IsTrue (valid (Mov (arg.Reg reg.E) from)) → HasForm (Mov (arg.Reg reg.E) from)) (λ _. refl) (λ _. refl) (λ _. refl) (λ _. refl) (λ _. refl) (λ _. refl) (λ _. refl) (λ _. refl))
    (each_arg (λ from. IsTrue (valid (Mov (arg.Reg reg.H) from)) → HasForm (Mov (arg.Reg reg.H) from)) (λ _. refl) (λ _. refl) (λ _. refl) (λ _. refl) (λ _. refl) (λ _. refl) (λ _. refl) (λ _. refl))
    (each_arg (λ from. IsTrue (valid (Mov (arg.Reg reg.L) from)) → HasForm (Mov (arg.Reg reg.L) from)) (λ _. refl) (λ _. refl) (λ _. refl) (λ _. refl) (λ _. refl) (λ _. refl) (λ _. refl) (λ _. refl))
    (each_arg (λ from. IsTrue (valid (Mov arg.M from)) → HasForm (Mov arg.M from)) (λ _. refl) (λ _. refl) (λ _. refl) (λ _. refl) (λ _. refl) (λ _. refl) (λ h. cc) (λ _. refl))
    (each_arg (λ from. IsTrue (valid (Mov (arg.Reg reg.A) from)) → HasForm (Mov (arg.Reg reg.A) from)) (λ _. refl) (λ _. refl) (λ _. refl) (λ _. refl) (λ _. refl) (λ _. refl) (λ _. refl) (λ _. refl))

alu_back : (o : Op) (y : Arg) → HasForm (Alu o y)
unfolding form
alu_back = each_op (λ o. (y : Arg) → HasForm (Alu o y))
    (each_arg (λ y. HasForm (Alu op.Add y)) refl refl refl refl refl refl refl refl)
    (each_arg (λ y. HasForm (Alu op.Adc y)) refl refl refl refl refl refl refl refl)
    (each_arg (λ y. HasForm (Alu op.Sub y)) refl refl refl refl refl refl refl refl)
    (each_arg (λ y. HasForm (Alu op.Sbb y)) refl refl refl refl refl refl refl refl)
    (each_arg (λ y. HasForm (Alu op.Ana y)) refl refl refl refl refl refl refl refl)
    (each_arg (λ y. HasForm (Alu op.Xra y)) refl refl refl refl refl refl refl refl)
    (each_arg (λ y. HasForm (Alu op.Ora y)) refl refl refl refl refl refl refl refl)
    (each_arg (λ y. HasForm (Alu op.Cmp y)) refl refl refl refl refl refl refl refl)

rst_back : (n : ℕ) → IsTrue (valid (Rst n)) → HasForm (Rst n)
unfolding form
rst_back zero h = refl
rst_back (suc zero) h = refl
rst_back (suc (suc zero)) h = refl
rst_back (suc (suc (suc zero))) h = refl
rst_back (suc (suc (suc (suc zero)))) h = refl
rst_back (suc (suc (suc (suc (suc zero))))) h = refl
rst_back (suc (suc (suc (suc (suc (suc zero)))))) h = refl
rst_back (suc (suc (suc (suc (suc (suc (suc zero))))))) h = refl
rst_back (suc (suc (suc (suc (suc (suc (suc (suc n)))))))) h = absurd (grind (arith, nat_tests))

form_back : (i : Instr) → IsTrue (valid i) → HasForm i
unfolding form
form_back (Mov to from) h = move_back to from h
form_back (Alu o y) h = alu_back o y
form_back (Rst n) h = rst_back n h
form_back (Mvi y w) h = each_arg (λ y. HasForm (Mvi y w)) refl refl refl refl refl refl refl refl y
form_back (Inr y) h = each_arg (λ y. HasForm (Inr y)) refl refl refl refl refl refl refl refl y
form_back (Dcr y) h = each_arg (λ y. HasForm (Dcr y)) refl refl refl refl refl refl refl refl y
form_back (AluImmediate o w) h = each_op (λ o. HasForm (AluImmediate o w)) refl refl refl refl refl refl refl refl o
form_back (Lxi p w) h = each_pair (λ p. HasForm (Lxi p w)) refl refl refl refl p
form_back (Dad p) h = each_pair (λ p. HasForm (Dad p)) refl refl refl refl p
form_back (Inx p) h = each_pair (λ p. HasForm (Inx p)) refl refl refl refl p
form_back (Dcx p) h = each_pair (λ p. HasForm (Dcx p)) refl refl refl refl p
form_back (Push p) h = each_stack (λ p. HasForm (Push p)) refl refl refl refl p
form_back (Pop p) h = each_stack (λ p. HasForm (Pop p)) refl refl refl refl p
form_back (Jcc when w) h = each_cond (λ when. HasForm (Jcc when w)) refl refl refl refl refl refl refl refl when
form_back (Ccc when w) h = each_cond (λ when. HasForm (Ccc when w)) refl refl refl refl refl refl refl refl when
form_back (Rcc when) h = each_cond (λ when. HasForm (Rcc when)) refl refl refl refl refl refl refl refl when
form_back (Stax p) h = each_pair (λ p. IsTrue (valid (Stax p)) → HasForm (Stax p)) (λ _. refl) (λ _. refl) (λ h. cc) (λ h. cc) p h
form_back (Ldax p) h = each_pair (λ p. IsTrue (valid (Ldax p)) → HasForm (Ldax p)) (λ _. refl) (λ _. refl) (λ h. cc) (λ h. cc) p h
form_back i h = refl

-- the two bytes of a word
abbrev word_of : ℕ → ℕ → ℕ
word_of low high = low + 256 * high

word-bytes : (w : ℕ) → word_of (w % 256) (w / 256) ≡ w
word-bytes w = omega arith

-- what an instruction's operand bytes, with anything after them, make of its form
abbrev Filled : Instr → List ℕ → Type 0
Filled i rest = with_operand (slice_index (code i ++ rest) 1) (word_of (slice_index (code i ++ rest) 1) (slice_index (code i ++ rest) 2)) (blank i) ≡ (i, length (code i))

filled : (i : Instr) (rest : List ℕ) → Filled i rest
filled (Lxi p w) rest = ap (λ w. (Lxi p w, 3)) (word-bytes w)
filled (Shld w) rest = ap (λ w. (Shld w, 3)) (word-bytes w)
filled (Lhld w) rest = ap (λ w. (Lhld w, 3)) (word-bytes w)
filled (Sta w) rest = ap (λ w. (Sta w, 3)) (word-bytes w)
filled (Lda w) rest = ap (λ w. (Lda w, 3)) (word-bytes w)
filled (Jmp w) rest = ap (λ w. (Jmp w, 3)) (word-bytes w)
filled (Call w) rest = ap (λ w. (Call w, 3)) (word-bytes w)
filled (Jcc when w) rest = ap (λ w. (Jcc when w, 3)) (word-bytes w)
filled (Ccc when w) rest = ap (λ w. (Ccc when w, 3)) (word-bytes w)
filled i rest = refl

pub decodes_codes : DecodesCodes
unfolding decode
decodes_codes i h rest = rw (form_back i h) (ap Some (filled i rest))

-- the test of a first byte: its form is valid and has it as its first byte, or it is one of the unused
abbrev of_form : ℕ → Option Instr → Bool
of_form b None = list_any (nat_eq b) unused
of_form b (Some i) = (opcode i == b) && (valid i && not (list_any (nat_eq b) unused))

tested : all_below (λ b. of_form b (form b)) 256 ≡ true
unfolding form
tested = refl

of_each : (b : ℕ) → b < 256 → of_form b (form b) ≡ true
of_each b low = at_each (λ b. of_form b (form b)) 256 tested b low

from_both : (a b c : Bool) → (a && (b && not c)) ≡ true → (a ≡ true) × ((b ≡ true) × (c ≡ false))
from_both true true false h = (refl, (refl, refl))
from_both true true true h = cc
from_both true false c h = cc
from_both false b c h = cc

-- what a first byte's form says of it
of_some : (b : ℕ) (i : Instr) → b < 256 → form b ≡ Some i → (opcode i ≡ b) × (IsTrue (valid i) × (list_any (nat_eq b) unused ≡ false))
of_some b i low e =
    let parts = from_both (opcode i == b) (valid i) (list_any (nat_eq b) unused) (sym (ap (of_form b) e) ∙ of_each b low) in
    (grind (arith, nat_tests, parts.0), (parts.1.0, parts.1.1))

-- an instruction with other operand bytes has the same first byte, and is as valid
abbrev KeepsForm : Instr → ℕ → ℕ → Type 0
KeepsForm i b1 b2 =
    let read = with_operand b1 (word_of b1 b2) i in
    (opcode read.0 ≡ opcode i) × ((valid read.0 ≡ valid i) × ((read.1 ≡ length (code read.0)) × ((rest : List ℕ) × (b1 ∷ b2 ∷ [] ≡ operand read.0 ++ rest))))

low_byte : (b1 b2 : ℕ) → b1 < 256 → word_of b1 b2 % 256 ≡ b1
low_byte b1 b2 low = omega arith

high_byte : (b1 b2 : ℕ) → b1 < 256 → word_of b1 b2 / 256 ≡ b2
high_byte b1 b2 low = omega arith

word_back : (b1 b2 : ℕ) → b1 < 256 → b1 ∷ b2 ∷ [] ≡ bytes_of (word_of b1 b2) ++ []
word_back b1 b2 low = rw (low_byte b1 b2 low, high_byte b1 b2 low) refl

keeps_form : (i : Instr) (b1 b2 : ℕ) → b1 < 256 → KeepsForm i b1 b2
keeps_form (Mvi y n) b1 b2 low = (refl, (refl, (refl, (b2 ∷ [], refl))))
keeps_form (AluImmediate o n) b1 b2 low = (refl, (refl, (refl, (b2 ∷ [], refl))))
keeps_form (In n) b1 b2 low = (refl, (refl, (refl, (b2 ∷ [], refl))))
keeps_form (Out n) b1 b2 low = (refl, (refl, (refl, (b2 ∷ [], refl))))
keeps_form (Lxi p w) b1 b2 low = (refl, (refl, (refl, ([], word_back b1 b2 low))))
keeps_form (Shld w) b1 b2 low = (refl, (refl, (refl, ([], word_back b1 b2 low))))
keeps_form (Lhld w) b1 b2 low = (refl, (refl, (refl, ([], word_back b1 b2 low))))
keeps_form (Sta w) b1 b2 low = (refl, (refl, (refl, ([], word_back b1 b2 low))))
keeps_form (Lda w) b1 b2 low = (refl, (refl, (refl, ([], word_back b1 b2 low))))
keeps_form (Jmp w) b1 b2 low = (refl, (refl, (refl, ([], word_back b1 b2 low))))
keeps_form (Jcc when w) b1 b2 low = (refl, (refl, (refl, ([], word_back b1 b2 low))))
keeps_form (Call w) b1 b2 low = (refl, (refl, (refl, ([], word_back b1 b2 low))))
keeps_form (Ccc when w) b1 b2 low = (refl, (refl, (refl, ([], word_back b1 b2 low))))
keeps_form i b1 b2 low = (refl, (refl, (refl, (b1 ∷ b2 ∷ [], refl))))

-- an instruction that was decoded is valid and begins these bytes
abbrev Fits : ℕ → ℕ → ℕ → Option (Instr × ℕ) → Type 0
Fits b0 b1 b2 decoded = IfSome decoded (λ (p : Instr × ℕ). IsTrue (valid p.0) × Begins b0 b1 b2 p.0 p.1)

decoded_fits : (b0 b1 b2 : ℕ) → b0 < 256 → b1 < 256 → Fits b0 b1 b2 (decode b0 b1 b2)
unfolding decode
decoded_fits b0 b1 b2 low0 low1 =
    elim (form b0) as (λ o. form b0 ≡ o → Fits b0 b1 b2 (option_map (with_operand b1 (word_of b1 b2)) o)) [
      | None ↦ λ _. tt
      | Some i ↦ λ e.
          let is = of_some b0 i low0 e in
          let kept = keeps_form i b1 b2 low1 in (
            kept.1.0 ∙ is.1.0,
            (
              kept.1.1.0,
              (
                kept.1.1.1.0,
                ap (λ b. b ∷ b1 ∷ b2 ∷ []) (sym (kept.0 ∙ is.0)) ∙ ap (λ bs. opcode (with_operand b1 (word_of b1 b2) i).0 ∷ bs) kept.1.1.1.1,
              ),
            ),
          )
    ] refl

forth : (b0 b1 b2 : ℕ) (i : Instr) (n : ℕ) → IsTrue (valid i) → Begins b0 b1 b2 i n → decode b0 b1 b2 ≡ Some (i, n)
forth b0 b1 b2 i n h is =
    ap decode_front is.1.1 ∙ decodes_codes i h is.1.0 ∙ ap (λ k. Some (i, k)) (sym is.0)

pub decodes_the_table : DecodesTheTable
decodes_the_table b0 b1 b2 low0 low1 low2 i n =
    (λ h. forth b0 b1 b2 i n h.0 h.1, λ e. subst (Fits b0 b1 b2) e (decoded_fits b0 b1 b2 low0 low1))

pub no_code_begins_another : NoCodeBeginsAnother
no_code_begins_another i j rest valid_i valid_j e =
    let first = decodes_codes i valid_i rest in
    let second : decode_front (code j) ≡ Some (j, length (code j)) = subst (λ bytes. decode_front bytes ≡ Some (j, length (code j))) (append-nil (code j)) (decodes_codes j valid_j []) in
    let pairs : Some (i, length (code i)) ≡ Some (j, length (code j)) = sym first ∙ ap decode_front e ∙ second in
    subst (λ (o : Option (Instr × ℕ)). IfSome o (λ p. i ≡ p.0)) pairs refl

none_here : (b : ℕ) → b < 256 → form b ≡ None → Contains unused b
none_here b low e =
    Contains-from_any {eq = nat_eq} (λ x y t. grind (arith, nat_tests)) b unused (sym (ap (of_form b) e) ∙ of_each b low)

here_none : (b : ℕ) → b < 256 → Contains unused b → form b ≡ None
here_none b low h =
    elim (form b) as (λ o. form b ≡ o → o ≡ None) [
      | None ↦ λ _. refl
      | Some i ↦ λ e. let is = of_some b i low e in let there = list_any-from_Contains nat_eq_equiv b unused h in absurd (false≢true (sym is.1.1 ∙ there))
    ] refl

pub nothing_decodes : NothingDecodes
unfolding decode
nothing_decodes b0 b1 b2 low = (
  λ e. none_here b0 low (elim (form b0) as (λ o. option_map (with_operand b1 (word_of b1 b2)) o ≡ None → o ≡ None) [ None ↦ λ _. refl | Some i ↦ λ h. cc ] e),
  λ h. rw (here_none b0 low h) refl,
)
