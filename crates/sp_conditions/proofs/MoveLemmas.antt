-- What has no equation, or finds no word, leaves the symbolic state.
use Rattle.std.proofs.Common.{◌≡◌, ◌<◌, ℕ, false, List, [], ◌∷◌, refl, arith, length}
use Rattle.sp_isa.specs.declared.instr.Instr.{Instr}
use Rattle.sp_isa.specs.declared.instr.Instr.TheVariants.{Call, Ccc, Ret, Rcc, Rst, Pchl, Sphl, Pop, Xthl}
use Rattle.sp_isa.specs.declared.instr.StackPair.{StackPair}
use Rattle.sp_trans.specs.Meaning.{words_taken}
use Rattle.sp_trans.specs.Symbolic.{Word, Symbolic}
use Rattle.sp_trans.specs.Translation.{applied, popped, top_exchanged}
use Rattle.sp_conditions.specs.code.Moves.{is_moved}

-- a call, a return, PCHL or SPHL
pub stays : (i : Instr) (j : ℕ) (g : Symbolic) → is_moved i ≡ false → applied i j g ≡ g
unfolding applied
stays (Call w) j g h = refl
stays (Ccc when w) j g h = refl
stays Ret j g h = refl
stays (Rcc when) j g h = refl
stays (Rst n) j g h = refl
stays Pchl j g h = refl
stays Sphl j g h = refl
stays i j g h = absurd cc

none_popped : (p : StackPair) (slots : List Word) (g : Symbolic) → length slots < 1 → popped p slots g ≡ g
unfolding popped
none_popped p [] g l = refl
none_popped p (w ∷ slots) g l = absurd (omega (arith, l))

none_exchanged : (slots : List Word) (g : Symbolic) → length slots < 1 → top_exchanged slots g ≡ g
unfolding top_exchanged
none_exchanged [] g l = refl
none_exchanged (w ∷ slots) g l = absurd (omega (arith, l))

-- POP or XTHL without words
pub no_word : (i : Instr) (j : ℕ) (g : Symbolic) → length g.slots < words_taken i → applied i j g ≡ g
unfolding applied
no_word (Pop p) j g l = none_popped p g.slots g l
no_word Xthl j g l = none_exchanged g.slots g l
no_word i j g l = absurd (omega (arith, l))
