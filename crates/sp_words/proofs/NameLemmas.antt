-- What the tables of words find is what the manual calls so.
use Rattle.std.proofs.Common.{◌≡◌, ℕ, Bool, true, cond, List, [], ◌∷◌, Option, Some, None, refl, sym, ap, subst, ◌∙◌, inl, inr}
use Rattle.std.specs.Prelude.{nat_eq, ◌↔◌, IfSome, codes}
use Rattle.std.specs.Cmp.Lexicographic.{pointwise, same_text}
use Rattle.std.specs.List.{list_all}
use Rattle.std.specs.Map.{lookup}
use Rattle.std.proofs.lemmas.Bool.{cases_Bool, and_parts}
use Rattle.sp_base.specs.declared.location.Reg.TheVariants as reg
use Rattle.sp_base.specs.declared.pair.Pair.{Pair}
use Rattle.sp_base.specs.declared.pair.Pair.TheVariants as pair
use Rattle.sp_isa.specs.declared.instr.Arg.{Arg}
use Rattle.sp_isa.specs.declared.instr.Arg.TheVariants as arg
use Rattle.sp_isa.specs.declared.instr.Cond.TheVariants as when
use Rattle.sp_isa.specs.declared.instr.Op.TheVariants as op
use Rattle.sp_isa.specs.declared.instr.Instr.{Instr}
use Rattle.sp_isa.specs.declared.instr.Instr.TheVariants as instr
use Rattle.sp_isa.specs.declared.instr.StackPair.{StackPair}
use Rattle.sp_isa.specs.declared.instr.StackPair.TheVariants as stack
use Rattle.sp_words.specs.declared.mnemonic.Assignment.TheVariants.{Equ, Set}
use Rattle.sp_words.specs.declared.mnemonic.DataKind.TheVariants.{Bytes, Words}
use Rattle.sp_words.specs.declared.mnemonic.Load.TheVariants as load
use Rattle.sp_words.specs.declared.mnemonic.Mnemonic.{Mnemonic}
use Rattle.sp_words.specs.declared.mnemonic.Mnemonic.TheVariants as mnemonic
use Rattle.sp_words.specs.declared.mnemonic.PairForm.TheVariants.{Dad, Inx, Dcx, Stax, Ldax}
use Rattle.sp_words.specs.declared.mnemonic.RegisterForm.TheVariants.{Inr, Dcr, Alu}
use Rattle.sp_words.specs.declared.mnemonic.StackForm.TheVariants.{Push, Pop}
use Rattle.sp_words.specs.declared.mnemonic.TheConstants.{MNEMONICS}
use Rattle.sp_words.specs.declared.operator.NamedOperator.{NamedOperator}
use Rattle.sp_words.specs.declared.operator.NamedOperator.TheVariants as operator
use Rattle.sp_words.specs.declared.operator.TheConstants.{OPERATORS}
use Rattle.sp_words.specs.declared.register.TheConstants.{REGISTERS, PAIRS, STACK_PAIRS}
use Rattle.sp_words.specs.code.Tables.{mnemonic_named, operator_named, arg_named, pair_named, stack_pair_named}
use Rattle.sp_words.specs.Manual.{mnemonic_of, form_of, directive_name, IsCalled, instruction, directive}
use Rattle.sp_words.specs.Operators.{operator_name}
use Rattle.sp_words.specs.Registers.{arg_name, pair_name, stack_pair_name}

-- what each entry passes with its word, what is found passes with the word that was looked up
pub found_passes : {K X : Type 0} (key : K → List ℕ) (test : List ℕ → X → Bool) (word : List ℕ) (entries : List (K × X))
    → list_all (λ e. test (key e.0) e.1) entries ≡ true → IfSome (lookup (λ k. pointwise nat_eq (key k) word) entries) (λ x. test word x ≡ true)
found_passes key test word [] all = tt
found_passes {X = X} key test word (entry ∷ entries) all =
    let P : Option X → Type 0 = λ r. IfSome r (λ x. test word x ≡ true) in
    let rest : Option X = lookup (λ k. pointwise nat_eq (key k) word) entries in
    let here = and_parts (test (key entry.0) entry.1) (list_all (λ e. test (key e.0) e.1) entries) all in
    elim (cases_Bool (pointwise nat_eq (key entry.0) word)) [
      | inl holds ↦ subst (λ b. P (cond b (Some entry.1) rest)) (sym holds) (ap (λ w. test w entry.1) (sym (same_text (key entry.0) word (sym holds))) ∙ here.0)
      | inr fails ↦ subst (λ b. P (cond b (Some entry.1) rest)) (sym fails) (found_passes key test word entries here.1)
    ]

-- where each entry stands under the name of what it has, what is found has the name that was looked up
found_is_named : {K X : Type 0} (key : K → List ℕ) (name_of : X → List ℕ) (word : List ℕ) (entries : List (K × X))
    → list_all (λ e. pointwise nat_eq (key e.0) (name_of e.1)) entries ≡ true → (x : X) → lookup (λ k. pointwise nat_eq (key k) word) entries ≡ Some x → word ≡ name_of x
found_is_named key name_of word entries named x e =
    same_text word (name_of x) (sym (subst (λ r. IfSome r (λ x. pointwise nat_eq word (name_of x) ≡ true)) e (found_passes key (λ w x. pointwise nat_eq w (name_of x)) word entries named)))

operator_found : (o : NamedOperator) → operator_named (operator_name o) ≡ Some o
unfolding operator_named
operator_found operator.And = refl
operator_found operator.Mod = refl
operator_found operator.Not = refl
operator_found operator.Or = refl
operator_found operator.Shl = refl
operator_found operator.Shr = refl
operator_found operator.Xor = refl

pub operator_exact : (word : List ℕ) (o : NamedOperator) → (operator_named word ≡ Some o) ↔ (word ≡ operator_name o)
unfolding operator_named
operator_exact word o = (found_is_named (λ key. key.now) operator_name word OPERATORS refl o, λ e. ap operator_named e ∙ operator_found o)

arg_found : (y : Arg) → arg_named (arg_name y) ≡ Some y
unfolding arg_named
arg_found (arg.Reg reg.A) = refl
arg_found (arg.Reg reg.B) = refl
arg_found (arg.Reg reg.C) = refl
arg_found (arg.Reg reg.D) = refl
arg_found (arg.Reg reg.E) = refl
arg_found (arg.Reg reg.H) = refl
arg_found (arg.Reg reg.L) = refl
arg_found arg.M = refl

pub arg_exact : (word : List ℕ) (y : Arg) → (arg_named word ≡ Some y) ↔ (word ≡ arg_name y)
unfolding arg_named
arg_exact word y = (found_is_named (λ key. key.now) arg_name word REGISTERS refl y, λ e. ap arg_named e ∙ arg_found y)

pair_found : (p : Pair) → pair_named (pair_name p) ≡ Some p
unfolding pair_named
pair_found pair.B = refl
pair_found pair.D = refl
pair_found pair.H = refl
pair_found pair.Sp = refl

pub pair_exact : (word : List ℕ) (p : Pair) → (pair_named word ≡ Some p) ↔ (word ≡ pair_name p)
unfolding pair_named
pair_exact word p = (found_is_named (λ key. key.now) pair_name word PAIRS refl p, λ e. ap pair_named e ∙ pair_found p)

stack_pair_found : (p : StackPair) → stack_pair_named (stack_pair_name p) ≡ Some p
unfolding stack_pair_named
stack_pair_found stack.B = refl
stack_pair_found stack.D = refl
stack_pair_found stack.H = refl
stack_pair_found stack.Psw = refl

pub stack_pair_exact : (word : List ℕ) (p : StackPair) → (stack_pair_named word ≡ Some p) ↔ (word ≡ stack_pair_name p)
unfolding stack_pair_named
stack_pair_exact word p = (found_is_named (λ key. key.now) stack_pair_name word STACK_PAIRS refl p, λ e. ap stack_pair_named e ∙ stack_pair_found p)

-- each mnemonic is found under its name
pub mnemonic_found : (i : Instr) → mnemonic_named (mnemonic_of i) ≡ Some (form_of i)
unfolding mnemonic_named
mnemonic_found (instr.Mov to from) = refl
mnemonic_found (instr.Mvi to n) = refl
mnemonic_found (instr.Inr y) = refl
mnemonic_found (instr.Dcr y) = refl
mnemonic_found (instr.Alu op.Add y) = refl
mnemonic_found (instr.Alu op.Adc y) = refl
mnemonic_found (instr.Alu op.Sub y) = refl
mnemonic_found (instr.Alu op.Sbb y) = refl
mnemonic_found (instr.Alu op.Ana y) = refl
mnemonic_found (instr.Alu op.Xra y) = refl
mnemonic_found (instr.Alu op.Ora y) = refl
mnemonic_found (instr.Alu op.Cmp y) = refl
mnemonic_found (instr.AluImmediate op.Add n) = refl
mnemonic_found (instr.AluImmediate op.Adc n) = refl
mnemonic_found (instr.AluImmediate op.Sub n) = refl
mnemonic_found (instr.AluImmediate op.Sbb n) = refl
mnemonic_found (instr.AluImmediate op.Ana n) = refl
mnemonic_found (instr.AluImmediate op.Xra n) = refl
mnemonic_found (instr.AluImmediate op.Ora n) = refl
mnemonic_found (instr.AluImmediate op.Cmp n) = refl
mnemonic_found (instr.Lxi p w) = refl
mnemonic_found (instr.Dad p) = refl
mnemonic_found (instr.Inx p) = refl
mnemonic_found (instr.Dcx p) = refl
mnemonic_found (instr.Stax p) = refl
mnemonic_found (instr.Ldax p) = refl
mnemonic_found (instr.Shld w) = refl
mnemonic_found (instr.Lhld w) = refl
mnemonic_found (instr.Sta w) = refl
mnemonic_found (instr.Lda w) = refl
mnemonic_found instr.Rlc = refl
mnemonic_found instr.Rrc = refl
mnemonic_found instr.Ral = refl
mnemonic_found instr.Rar = refl
mnemonic_found instr.Daa = refl
mnemonic_found instr.Cma = refl
mnemonic_found instr.Stc = refl
mnemonic_found instr.Cmc = refl
mnemonic_found (instr.Push p) = refl
mnemonic_found (instr.Pop p) = refl
mnemonic_found (instr.Jmp w) = refl
mnemonic_found (instr.Jcc when.Nz w) = refl
mnemonic_found (instr.Jcc when.Z w) = refl
mnemonic_found (instr.Jcc when.Nc w) = refl
mnemonic_found (instr.Jcc when.C w) = refl
mnemonic_found (instr.Jcc when.Po w) = refl
mnemonic_found (instr.Jcc when.Pe w) = refl
mnemonic_found (instr.Jcc when.P w) = refl
mnemonic_found (instr.Jcc when.M w) = refl
mnemonic_found (instr.Call w) = refl
mnemonic_found (instr.Ccc when.Nz w) = refl
mnemonic_found (instr.Ccc when.Z w) = refl
mnemonic_found (instr.Ccc when.Nc w) = refl
mnemonic_found (instr.Ccc when.C w) = refl
mnemonic_found (instr.Ccc when.Po w) = refl
mnemonic_found (instr.Ccc when.Pe w) = refl
mnemonic_found (instr.Ccc when.P w) = refl
mnemonic_found (instr.Ccc when.M w) = refl
mnemonic_found instr.Ret = refl
mnemonic_found (instr.Rcc when.Nz) = refl
mnemonic_found (instr.Rcc when.Z) = refl
mnemonic_found (instr.Rcc when.Nc) = refl
mnemonic_found (instr.Rcc when.C) = refl
mnemonic_found (instr.Rcc when.Po) = refl
mnemonic_found (instr.Rcc when.Pe) = refl
mnemonic_found (instr.Rcc when.P) = refl
mnemonic_found (instr.Rcc when.M) = refl
mnemonic_found (instr.Rst n) = refl
mnemonic_found instr.Pchl = refl
mnemonic_found instr.Sphl = refl
mnemonic_found instr.Xthl = refl
mnemonic_found instr.Xchg = refl
mnemonic_found (instr.In n) = refl
mnemonic_found (instr.Out n) = refl
mnemonic_found instr.Nop = refl
mnemonic_found instr.Ei = refl
mnemonic_found instr.Di = refl
mnemonic_found instr.Hlt = refl

-- an instruction of each form
abbrev sample : Mnemonic → Instr
sample (mnemonic.Alone i) = i
sample (mnemonic.Register Inr) = instr.Inr arg.M
sample (mnemonic.Register Dcr) = instr.Dcr arg.M
sample (mnemonic.Register (Alu o)) = instr.Alu o arg.M
sample (mnemonic.Pair Dad) = instr.Dad pair.B
sample (mnemonic.Pair Inx) = instr.Inx pair.B
sample (mnemonic.Pair Dcx) = instr.Dcx pair.B
sample (mnemonic.Pair Stax) = instr.Stax pair.B
sample (mnemonic.Pair Ldax) = instr.Ldax pair.B
sample (mnemonic.Stack Push) = instr.Push stack.B
sample (mnemonic.Stack Pop) = instr.Pop stack.B
sample mnemonic.Move = instr.Mov arg.M arg.M
sample (mnemonic.Load load.Byte) = instr.Mvi arg.M 0
sample (mnemonic.Load load.Word) = instr.Lxi pair.B 0
sample (mnemonic.Expression kind i) = i
sample _ = instr.Nop

abbrev name_or : List ℕ → Option (List ℕ) → List ℕ
name_or name None = name
name_or name (Some other) = other

-- the name of a mnemonic or directive
abbrev pub manual_name : Mnemonic → List ℕ
manual_name m = name_or (mnemonic_of (sample m)) (directive_name m)

mnemonic_is_named : (word : List ℕ) (m : Mnemonic) → mnemonic_named word ≡ Some m → word ≡ manual_name m
unfolding mnemonic_named
mnemonic_is_named word m = found_is_named (λ key. key.now) manual_name word MNEMONICS refl m

directive_found : (m : Mnemonic) (word : List ℕ) → directive_name m ≡ Some word → mnemonic_named word ≡ Some m
unfolding mnemonic_named
directive_found (mnemonic.Data Bytes) word e = let w : word ≡ codes "DB" = cc in ap mnemonic_named w
directive_found (mnemonic.Data Words) word e = let w : word ≡ codes "DW" = cc in ap mnemonic_named w
directive_found mnemonic.Space word e = let w : word ≡ codes "DS" = cc in ap mnemonic_named w
directive_found mnemonic.Org word e = let w : word ≡ codes "ORG" = cc in ap mnemonic_named w
directive_found (mnemonic.Assignment Equ) word e = let w : word ≡ codes "EQU" = cc in ap mnemonic_named w
directive_found (mnemonic.Assignment Set) word e = let w : word ≡ codes "SET" = cc in ap mnemonic_named w
directive_found mnemonic.End word e = let w : word ≡ codes "END" = cc in ap mnemonic_named w
directive_found _ word e = absurd cc

-- a form under the mnemonic of an instruction is the form of that instruction
form_is : (m : Mnemonic) (i : Instr) → mnemonic_named (mnemonic_of i) ≡ Some m → m ≡ form_of i
form_is m i e = let found = mnemonic_found i in cc

called : (word : List ℕ) (m : Mnemonic) (name : Option (List ℕ)) → name ≡ directive_name m → mnemonic_named word ≡ Some m → word ≡ name_or (mnemonic_of (sample m)) name → IsCalled word m
called word m None none e named = instruction (sample m) named (form_is m (sample m) (ap mnemonic_named (sym named) ∙ e))
called word m (Some name) some e named = directive (sym some ∙ ap (λ n. Some n) (sym named))

pub mnemonic_exact : (word : List ℕ) (m : Mnemonic) → (mnemonic_named word ≡ Some m) ↔ IsCalled word m
mnemonic_exact word m = (
  λ e. called word m (directive_name m) refl e (mnemonic_is_named word m e),
  λ c. elim c [
    | instruction i name form ↦ ap mnemonic_named name ∙ mnemonic_found i ∙ ap (λ f. Some f) (sym form)
    | directive name ↦ directive_found m word name
  ],
)
