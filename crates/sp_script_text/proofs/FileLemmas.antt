-- Scripts so far, with one line or one script more.
use Rattle.std.proofs.Common.{◌≡◌, ℕ, ◌+◌, List, [], ◌∷◌, ◌++◌, length, refl, sym, ap, subst, ◌∙◌, arith, length-append, append_assoc, inl, inr}
use Rattle.std.specs.List.{AllByRecursion}
use Rattle.std.proofs.lemmas.List.{append-nil}
use Rattle.sp_script_text.specs.declared.script.Written.{Written}
use Rattle.sp_script_text.specs.declared.script.Script.{Script}
use Rattle.sp_script_text.specs.StepTexts.{IsStepLine}
use Rattle.sp_script_text.specs.Files.{IsIdle, written, AreSteps, HasSteps, IsScript, AreScripts}

abbrev Rows : Type 0
Rows = List (List ℕ)

-- ---- steps

pub steps_idle : (n : ℕ) (body : Rows) (ws : List Written) (line : List ℕ) → AreSteps n body ws → IsIdle line → AreSteps n (body ++ line ∷ []) ws
steps_idle n [] ws line h idle = inl (idle, h)
steps_idle n (first ∷ body) ws line (inl h) idle = inl (h.0, steps_idle (n + 1) body ws line h.1 idle)
steps_idle n (first ∷ body) ws line (inr h) idle = inr (h.0, h.1, h.2, steps_idle (n + 1) body h.0 line h.3 idle)

pub steps_more : (n : ℕ) (body : Rows) (ws : List Written) (line : List ℕ) (at : ℕ) → at ≡ n + length body → AreSteps n body ws → IsStepLine line → AreSteps n (body ++ line ∷ []) (ws ++ written at line ∷ [])
steps_more n [] ws line at e h step =
    let same : at ≡ n = omega (arith, e) in
    inr ([], step, (λ i. h i ++ written (same i) line ∷ []), refl)
steps_more n (first ∷ body) ws line at e (inl h) step =
    inl (h.0, steps_more (n + 1) body ws line at (omega (arith, e)) h.1 step)
steps_more n (first ∷ body) ws line at e (inr h) step =
    inr (h.0 ++ written at line ∷ [], h.1, ap (λ w. w ++ written at line ∷ []) h.2, steps_more (n + 1) body h.0 line at (omega (arith, e)) h.3 step)

-- ---- scripts

idle_append : (xs : Rows) (line : List ℕ) → AllByRecursion IsIdle xs → IsIdle line → AllByRecursion IsIdle (xs ++ line ∷ [])
idle_append [] line h idle = (idle, tt)
idle_append (x ∷ xs) line h idle = (h.0, idle_append xs line h.1 idle)

nested : (before own after more : Rows) → (before ++ (own ++ after)) ++ more ≡ before ++ (own ++ (after ++ more))
nested before own after more = simp append_assoc

pub scripts_idle : (n : ℕ) (all : Rows) (ss : List Script) (line : List ℕ) → AreScripts n all ss → IsIdle line → AreScripts n (all ++ line ∷ []) ss
scripts_idle n all [] line h idle = idle_append all line h idle
scripts_idle n all (s ∷ ss) line h idle = (
  h.0,
  h.1,
  h.2 ++ line ∷ [],
  ap (λ w. w ++ line ∷ []) h.3 ∙ nested h.0 h.1 h.2 (line ∷ []),
  h.4,
  h.5,
  scripts_idle (n + length h.0 + length h.1) h.2 ss line h.6 idle,
)

pub scripts_more : (n : ℕ) (all own : Rows) (ss : List Script) (s : Script) (at : ℕ) → at ≡ n + length all → AreScripts n all ss → IsScript at own s → AreScripts n (all ++ own) (ss ++ s ∷ [])
scripts_more n all own [] s at e h is =
    (all, own, [], ap (λ w. all ++ w) (sym (append-nil own)), h, subst (λ k. IsScript k own s) e is, tt)
scripts_more n all own (first ∷ ss) s at e h is =
    let length_is : length all ≡ length h.0 + (length h.1 + length h.2) = ap length h.3 ∙ length-append h.0 (h.1 ++ h.2) ∙ ap (λ k. length h.0 + k) (length-append h.1 h.2) in (
      h.0,
      h.1,
      h.2 ++ own,
      ap (λ w. w ++ own) h.3 ∙ nested h.0 h.1 h.2 own,
      h.4,
      h.5,
      scripts_more (n + length h.0 + length h.1) h.2 own ss s at (omega (arith, e, length_is)) h.6 is,
    )

-- ---- each line that a script keeps is a step

steps_kept : (n : ℕ) (body : Rows) (ws : List Written) → AreSteps n body ws → AllByRecursion (λ (w : Written). IsStepLine w.text) ws
steps_kept n [] ws h = subst (AllByRecursion (λ (w : Written). IsStepLine w.text)) (sym h) tt
steps_kept n (line ∷ body) ws (inl h) = steps_kept (n + 1) body ws h.1
steps_kept n (line ∷ body) ws (inr h) =
    subst (AllByRecursion (λ (w : Written). IsStepLine w.text)) (sym h.2) (h.1, steps_kept (n + 1) body h.0 h.3)

pub scripts_kept : (n : ℕ) (all : Rows) (ss : List Script) → AreScripts n all ss → AllByRecursion HasSteps ss
scripts_kept n all [] h = tt
scripts_kept n all (s ∷ ss) h = (steps_kept (n + length h.0 + 1) h.5.body s.steps h.5.steps, scripts_kept (n + length h.0 + length h.1) h.2 ss h.6)
