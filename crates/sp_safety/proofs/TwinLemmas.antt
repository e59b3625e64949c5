-- The routine of the example has entries, and its twin isn't settled.
use Rattle.std.proofs.Common.{◌≡◌, inl, inr, ℕ, zero, suc, ◌<◌, ◌≤◌, ℤ, pos, negsuc, false, cond, List, [], ◌∷◌, length, Some, None, refl, sym, ap, subst, ◌∙◌, arith, lit<, lit≤}
use Rattle.std.specs.Prelude.{All, Contains, slice_index}
use Rattle.std.specs.List.{AllByRecursion}
use Rattle.std.specs.Ordering.{nat_cmp}
use Rattle.std.specs.FinMap as maps
use Rattle.std.specs.FinMap.{find}
use Rattle.std.proofs.lemmas.List.Elements.{All-nil, recursion_from_All}
use Rattle.sp_base.specs.declared.location.Loc.{Loc}
use Rattle.sp_base.specs.declared.location.Loc.TheVariants as loc
use Rattle.sp_base.specs.Locs.{has, none}
use Rattle.sp_isa.specs.Core.{at, cell, limit}
use Rattle.sp_model.specs.Good.{IsEntry, Loaded}
use Rattle.sp_prog.specs.View.{routine_of, unit_of}
use Rattle.sp_graph.specs.Routines.{graph_of, nodes_from}
use Rattle.sp_graph.specs.Walks.{ends, walks, walks_on}
use Rattle.sp_graph.specs.declared.graph.End.TheVariants as end
use Rattle.sp_graph.specs.declared.sound.Sound.{Sound}
use Rattle.sp_graph.specs.declared.walk.Walk.{Walk}
use Rattle.sp_term.specs.Admissible.{HasImage, IsAdmissible, IsMemory, IsUpTo}
use Rattle.sp_term.specs.Value.{Env, IsTrueIn}
use Rattle.sp_trans.specs.Symbolic.{with_term}
use Rattle.sp_trans.specs.Translation.{applied, with_arg_term}
use Rattle.sp_cond.specs.WalkConditions.{condition}
use Rattle.sp_safety.specs.Examples.{begins, other_cells, other_unit, returning, unit, PremisesCanBeMet, TwinsAreNotSettled}
use Rattle.sp_safety.specs.Settled.{region_of}
use Rattle.sp_safety.proofs.AreaLemmas.{same_or_not}
use Rattle.sp_safety.proofs.ExampleLemmas.{free, get_is, is_settled, untied}

-- ---- Entries

in_range : (memory : List ℕ) (x : Loc) → at x (begins memory).core < limit x
in_range memory loc.A = lit< tt
in_range memory loc.B = lit< tt
in_range memory loc.C = lit< tt
in_range memory loc.D = lit< tt
in_range memory loc.E = lit< tt
in_range memory loc.H = lit< tt
in_range memory loc.L = lit< tt
in_range memory loc.S = lit< tt
in_range memory loc.Z = lit< tt
in_range memory loc.Ac = lit< tt
in_range memory loc.P = lit< tt
in_range memory loc.Cy = lit< tt

is_loaded : (memory : List ℕ) → slice_index memory 0 ≡ 0xC9 → Loaded unit.image (begins memory)
is_loaded memory there a byte e =
    elim (same_or_not a 0) [
      | inl first ↦
          let known : maps.get unit.image 0 ≡ Some byte = subst (λ n. maps.get unit.image n ≡ Some byte) first e in
          let both : Some 0xC9 ≡ Some byte = sym (get_is 0) ∙ known in
          let same : 0xC9 ≡ byte = cc in
          ap (λ n. cell n (begins memory).core) first ∙ there ∙ same
      | inr other ↦ let clash : Some byte ≡ None = sym e ∙ free a other in absurd cc
    ]

entered : (memory : List ℕ) → length memory ≡ 65536 → All (λ byte. byte < 256) memory → slice_index memory 0 ≡ 0xC9 → IsEntry (unit_of unit) (routine_of [] returning) (begins memory)
entered memory long bytes there = record {
  state = record {
    core = record { locations = in_range memory; sp = lit< tt; pc = lit< tt; memory = long; bytes = bytes };
    inputs = All-nil _;
    outputs = All-nil _;
  };
  loaded = is_loaded memory there;
  begins = refl;
  running = refl;
  pre = All-nil _;
  room = λ straight. record { below = lit≤ tt; above = lit≤ tt };
}

pub premises_can_be_met : PremisesCanBeMet
premises_can_be_met = record { settled = is_settled; entered = entered }

-- ---- The twin

-- memory with the twin's image
abbrev memory_of_twin : ℤ → ℤ
memory_of_twin (pos zero) = pos 0x3E
memory_of_twin (pos (suc zero)) = pos 0x05
memory_of_twin (pos (suc (suc zero))) = pos 0xC9
memory_of_twin (pos (suc (suc (suc a)))) = pos 0
memory_of_twin (negsuc a) = pos 0

abbrev e : Env
e = record { int = λ v. pos 0; map = λ v. memory_of_twin }

is_memory : IsMemory (region_of other_unit) memory_of_twin
is_memory = record { byte = byte; stack = stack; above = above; below = λ a. refl }
  where
    byte : (a : ℕ) → a < 65536 → IsUpTo 255 (memory_of_twin (pos a))
    byte zero low = (0x3E, lit≤ tt, refl)
    byte (suc zero) low = (0x05, lit≤ tt, refl)
    byte (suc (suc zero)) low = (0xC9, lit≤ tt, refl)
    byte (suc (suc (suc a))) low = (0, lit≤ tt, refl)

    stack : (a : ℕ) → 0x2300 ≤ a → a ≤ 0x23FF → memory_of_twin (pos a) ≡ pos 0
    stack zero low high = absurd (omega (arith, low))
    stack (suc zero) low high = absurd (omega (arith, low))
    stack (suc (suc zero)) low high = absurd (omega (arith, low))
    stack (suc (suc (suc a))) low high = refl

    above : (a : ℕ) → 65536 ≤ a → memory_of_twin (pos a) ≡ pos 0
    above zero high = absurd (omega (arith, high))
    above (suc zero) high = absurd (omega (arith, high))
    above (suc (suc zero)) high = absurd (omega (arith, high))
    above (suc (suc (suc a))) high = refl

get_other : (q : ℕ) → maps.get other_unit.image q ≡ find nat_cmp q other_cells
get_other q = maps.get-from_sorted nat_cmp other_cells q tt

none_past : (a : ℕ) → find nat_cmp (suc (suc (suc a))) other_cells ≡ None
none_past a =
    ap (λ t. cond t (Some 0x3E) (find nat_cmp (suc (suc (suc a))) ((1, 0x05) ∷ (2, 0xC9) ∷ []))) (untied (suc (suc (suc a))) 0 (λ h. omega (arith, h)))
    ∙ ap (λ t. cond t (Some 0x05) (find nat_cmp (suc (suc (suc a))) ((2, 0xC9) ∷ []))) (untied (suc (suc (suc a))) 1 (λ h. omega (arith, h)))
    ∙ ap (λ t. cond t (Some 0xC9) None) (untied (suc (suc (suc a))) 2 (λ h. omega (arith, h)))

has_image : HasImage other_unit.image memory_of_twin
has_image zero byte h = let both : Some 0x3E ≡ Some byte = sym (get_other 0) ∙ h in let same : 0x3E ≡ byte = cc in ap pos same
has_image (suc zero) byte h = let both : Some 0x05 ≡ Some byte = sym (get_other 1) ∙ h in let same : 0x05 ≡ byte = cc in ap pos same
has_image (suc (suc zero)) byte h = let both : Some 0xC9 ≡ Some byte = sym (get_other 2) ∙ h in let same : 0xC9 ≡ byte = cc in ap pos same
has_image (suc (suc (suc a))) byte h = let clash : None ≡ Some byte = sym (none_past a) ∙ sym (get_other (suc (suc (suc a)))) ∙ h in absurd cc

admissible : IsAdmissible other_unit.image (region_of other_unit) [] e
admissible = record {
  range = λ v n is. (0, omega arith, refl);
  memory = λ v is. is_memory;
  loaded = has_image;
  met = All-nil _;
}

abbrev walk : Walk
walk = ends None (record { at = 0; taken = false } ∷ []) end.Return 1

walks_are : walks (graph_of other_unit 0) ≡ walk ∷ []
unfolding walks_on nodes_from
walks_are = refl

-- A isn't as at the entry
goal_is_false : (sound : Sound) → AllByRecursion (IsTrueIn e) (condition other_unit sound 0 walk).goals → ⊥
unfolding has none applied with_arg_term with_term
goal_is_false sound h = let first = h.0 in cc

pub twins_are_not_settled : TwinsAreNotSettled
twins_are_not_settled sound settled =
    let valid = settled.conditions 0 walk (subst (λ ws. Contains ws walk) (sym walks_are) (0, omega arith, refl)) e admissible (All-nil _) in
    goal_is_false sound (recursion_from_All (IsTrueIn e) (condition other_unit sound 0 walk).goals valid)
