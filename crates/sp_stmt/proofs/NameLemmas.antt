-- What a token stands for is what the manual calls so.
use Rattle.std.proofs.Common.{◌≡◌, ℕ, List, Option, Some, None, refl, ap, sym, ◌∙◌}
use Rattle.std.specs.Prelude.{◌↔◌, codes}
use Rattle.std.specs.Option.{option_and_then}
use Rattle.sp_base.specs.declared.pair.Pair.{Pair}
use Rattle.sp_base.specs.declared.pair.Pair.TheVariants as pair
use Rattle.sp_isa.specs.declared.instr.Arg.{Arg}
use Rattle.sp_isa.specs.declared.instr.Arg.TheVariants as arg
use Rattle.sp_isa.specs.declared.instr.Instr.{Instr}
use Rattle.sp_isa.specs.declared.instr.Instr.TheVariants as instr
use Rattle.sp_isa.specs.declared.instr.StackPair.{StackPair}
use Rattle.sp_isa.specs.declared.instr.StackPair.TheVariants as stack
use Rattle.sp_lex.specs.declared.token.Token.{Token}
use Rattle.sp_words.specs.declared.mnemonic.Assignment.TheVariants.{Equ, Set}
use Rattle.sp_words.specs.declared.mnemonic.DataKind.TheVariants.{Bytes, Words}
use Rattle.sp_words.specs.declared.mnemonic.Load.TheVariants as load
use Rattle.sp_words.specs.declared.mnemonic.Mnemonic.{Mnemonic}
use Rattle.sp_words.specs.declared.mnemonic.Mnemonic.TheVariants as mnemonic
use Rattle.sp_words.specs.code.Tables.{mnemonic_named, arg_named, pair_named, stack_pair_named}
use Rattle.sp_words.specs.Manual.{mnemonic_of, form_of, directive_name, IsCalled, instruction, directive}
use Rattle.sp_words.specs.Registers.{arg_name, pair_name, stack_pair_name}
use Rattle.sp_words.proofs.NameLemmas.{arg_exact, pair_exact, stack_pair_exact, mnemonic_exact}
use Rattle.sp_stmt.specs.code.Bodies.{with_register, with_pair, with_stack_pair}
use Rattle.sp_stmt.specs.Grammar.{Says}
use Rattle.sp_stmt.specs.Tokens.{name_at, arg_at, pair_at, stack_pair_at, mnemonic_at}

-- what is found of a token is found under its name
pub by_name : {X : Type 0} (of : List ℕ → Option X) (found : Option (List ℕ)) (x : X) → option_and_then of found ≡ Some x → (name : List ℕ) × (found ≡ Some name) × (of name ≡ Some x)
by_name of None x e = absurd cc
by_name of (Some name) x e = (name, refl, e)

-- a token stands for what it says the name of, and for no other

pub arg_says : (source : List ℕ) (token : Token) (y : Arg) → (arg_at source token ≡ Some y) ↔ Says source (arg_name y) token
unfolding arg_at
arg_says source token y = (
  λ e. let found = by_name arg_named (name_at source token) y e in found.1 ∙ ap (λ name. Some name) ((arg_exact found.0 y).0 found.2),
  λ says. ap (option_and_then arg_named) says ∙ (arg_exact (arg_name y) y).1 refl,
)

pub pair_says : (source : List ℕ) (token : Token) (p : Pair) → (pair_at source token ≡ Some p) ↔ Says source (pair_name p) token
unfolding pair_at
pair_says source token p = (
  λ e. let found = by_name pair_named (name_at source token) p e in found.1 ∙ ap (λ name. Some name) ((pair_exact found.0 p).0 found.2),
  λ says. ap (option_and_then pair_named) says ∙ (pair_exact (pair_name p) p).1 refl,
)

pub stack_pair_says : (source : List ℕ) (token : Token) (p : StackPair) → (stack_pair_at source token ≡ Some p) ↔ Says source (stack_pair_name p) token
unfolding stack_pair_at
stack_pair_says source token p = (
  λ e. let found = by_name stack_pair_named (name_at source token) p e in found.1 ∙ ap (λ name. Some name) ((stack_pair_exact found.0 p).0 found.2),
  λ says. ap (option_and_then stack_pair_named) says ∙ (stack_pair_exact (stack_pair_name p) p).1 refl,
)

-- the name of a mnemonic or directive
abbrev pub manual_name : Mnemonic → List ℕ
manual_name (mnemonic.Alone i) = mnemonic_of i
manual_name (mnemonic.Register form) = mnemonic_of (with_register form arg.M)
manual_name (mnemonic.Pair form) = mnemonic_of (with_pair form pair.B)
manual_name (mnemonic.Stack form) = mnemonic_of (with_stack_pair form stack.B)
manual_name mnemonic.Move = codes "MOV"
manual_name (mnemonic.Load load.Byte) = codes "MVI"
manual_name (mnemonic.Load load.Word) = codes "LXI"
manual_name (mnemonic.Expression kind i) = mnemonic_of i
manual_name (mnemonic.Data Bytes) = codes "DB"
manual_name (mnemonic.Data Words) = codes "DW"
manual_name mnemonic.Space = codes "DS"
manual_name mnemonic.Org = codes "ORG"
manual_name (mnemonic.Assignment Equ) = codes "EQU"
manual_name (mnemonic.Assignment Set) = codes "SET"
manual_name mnemonic.End = codes "END"

form_named : (i : Instr) → mnemonic_of i ≡ manual_name (form_of i)
form_named (instr.Mov to from) = refl
form_named i = refl

directive_named : (m : Mnemonic) (word : List ℕ) → directive_name m ≡ Some word → word ≡ manual_name m
directive_named (mnemonic.Data Bytes) word e = cc
directive_named (mnemonic.Data Words) word e = cc
directive_named mnemonic.Space word e = cc
directive_named mnemonic.Org word e = cc
directive_named (mnemonic.Assignment Equ) word e = cc
directive_named (mnemonic.Assignment Set) word e = cc
directive_named mnemonic.End word e = cc
directive_named m word e = absurd cc

called : (word : List ℕ) (m : Mnemonic) → IsCalled word m → word ≡ manual_name m
called word m (instruction i named form) = named ∙ form_named i ∙ ap manual_name (sym form)
called word m (directive named) = directive_named m word named

-- a token that stands for a mnemonic or directive says its name, under which the mnemonic or directive is found
pub mnemonic_says : (source : List ℕ) (token : Token) (m : Mnemonic) → mnemonic_at source token ≡ Some m → Says source (manual_name m) token × (mnemonic_named (manual_name m) ≡ Some m)
unfolding mnemonic_at
mnemonic_says source token m e =
    let found = by_name mnemonic_named (name_at source token) m e in
    let name = called found.0 m ((mnemonic_exact found.0 m).0 found.2) in (found.1 ∙ ap (λ n. Some n) name, ap mnemonic_named (sym name) ∙ found.2)

-- a token stands for the mnemonic or directive of the name that it says
pub mnemonic_said : (source : List ℕ) (token : Token) (name : List ℕ) (m : Mnemonic) → Says source name token → mnemonic_named name ≡ Some m → mnemonic_at source token ≡ Some m
unfolding mnemonic_at
mnemonic_said source token name m says e = ap (option_and_then mnemonic_named) says ∙ e
