-- Environments that are admissible, and what all of them have.
use Rattle.std.proofs.Common.{◌≡◌, ◌≢◌, ℕ, ◌<◌, refl, sym, ◌∙◌, subst, lit<, arith, ℤ, pos, List, [], ◌∷◌, Some, None}
use Rattle.std.specs.Ordering.{nat_cmp}
use Rattle.std.specs.FinMap as maps
use Rattle.std.proofs.lemmas.Int.{ints}
use Rattle.std.proofs.lemmas.List.Elements.{All-nil, All-cons}
use Rattle.sp_base.specs.Image.{ImageMap}
use Rattle.sp_base.specs.declared.location.Loc.TheVariants as loc
use Rattle.sp_term.specs.declared.var.Var.TheVariants as var
use Rattle.sp_term.specs.Tree.{Variable}
use Rattle.sp_term.specs.Value.{Env}
use Rattle.sp_term.specs.Admissible.{Region, Change, IsUpTo, IsMemory, HasImage, MeetsChange, IsAdmissible, zeros}

zero_up_to : (n : ℕ) → IsUpTo n (pos 0)
zero_up_to n = (0, omega arith, refl)

zero_memory : (region : Region) → IsMemory region (λ z. pos 0)
zero_memory region = record { byte = λ a low. zero_up_to 255; stack = λ a from to. refl; above = λ a high. refl; below = λ a. refl }

nothing_loaded : (m : ℤ → ℤ) → HasImage maps.empty m
nothing_loaded m a byte h = let none : Some byte ≡ None = sym h ∙ maps.get-empty nat_cmp a in cc

pub zeros_meet : (region : Region) → IsAdmissible maps.empty region (record { variable = var.Mem; earlier = Variable var.MemEntry; areas = [] } ∷ []) zeros
zeros_meet region = record {
  range = λ v n h. zero_up_to n;
  memory = λ v h. zero_memory region;
  loaded = nothing_loaded (λ z. pos 0);
  met = All-cons (MeetsChange maps.empty zeros) _ [] (record { loaded = nothing_loaded (λ z. pos 0); same = λ z outside. refl }) (All-nil (MeetsChange maps.empty zeros));
}

too_great : (n m : ℕ) → n < m → IsUpTo n (pos m) → ⊥
too_great n m h up = omega (arith, ints, up.1, up.2)

pub register_is_byte : (image : ImageMap) (region : Region) (changes : List Change) (e : Env) → IsAdmissible image region changes e → e.int (var.Now loc.A) ≢ pos 256
register_is_byte image region changes e h is = too_great 255 256 (lit< tt) (subst (IsUpTo 255) is (h.range (var.Now loc.A) 255 refl))

pub flag_is_bit : (image : ImageMap) (region : Region) (changes : List Change) (e : Env) → IsAdmissible image region changes e → e.int (var.Now loc.Cy) ≢ pos 2
flag_is_bit image region changes e h is = too_great 1 2 (lit< tt) (subst (IsUpTo 1) is (h.range (var.Now loc.Cy) 1 refl))
