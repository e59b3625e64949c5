-- The change of a memory variable, looked for in a list from its start.
use Rattle.std.proofs.Common.{◌≡◌, ℕ, ◌+◌, ◌<◌, ◌∙◌, sym, ap, true, false, List, ◌∷◌, Some, map, length, drop, slice_index_or}
use Rattle.std.proofs.lemmas.List.{drop_more}
use Rattle.std.specs.Prelude.{if◌then◌else◌}
use Rattle.sp_term.specs.declared.var.Var.{Var}
use Rattle.sp_term.specs.declared.cond.MemFrame.{MemFrame}
use Rattle.sp_term.specs.Free.{var_eq}
use Rattle.sp_term.specs.Conditions.{change_of}
use Rattle.sp_steps.specs.Rows.{change_for}

-- the change of a variable is that in what is left of the list from a place on
abbrev pub IsInRest : Var → List MemFrame → ℕ → Type 0
IsInRest v frames i = change_for v (map change_of frames) ≡ change_for v (map change_of (drop i frames))

at_place : (v : Var) (frames : List MemFrame) (i : ℕ) (f : MemFrame) → i < length frames → f ≡ slice_index_or frames i f → IsInRest v frames i
    → change_for v (map change_of frames) ≡ (if var_eq v f.variable then Some (change_of f) else change_for v (map change_of (drop (i + 1) frames)))
at_place v frames i f l e h =
    h ∙ ap (λ fs. change_for v (map change_of fs)) (drop_more frames i f l)
    ∙ ap (λ g. change_for v (map change_of (g ∷ drop (i + 1) frames))) (sym e)

pub frame_there : (v : Var) (frames : List MemFrame) (i : ℕ) (f : MemFrame) → i < length frames → f ≡ slice_index_or frames i f → true ≡ var_eq v f.variable → IsInRest v frames i
    → Some (change_of f) ≡ change_for v (map change_of frames)
frame_there v frames i f l e is h =
    ap (λ b. if b then Some (change_of f) else change_for v (map change_of (drop (i + 1) frames))) is ∙ sym (at_place v frames i f l e h)

pub frame_later : (v : Var) (frames : List MemFrame) (i : ℕ) (f : MemFrame) → i < length frames → f ≡ slice_index_or frames i f → false ≡ var_eq v f.variable → IsInRest v frames i
    → IsInRest v frames (i + 1)
frame_later v frames i f l e is h =
    at_place v frames i f l e h ∙ ap (λ b. if b then Some (change_of f) else change_for v (map change_of (drop (i + 1) frames))) (sym is)
