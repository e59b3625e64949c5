-- A command has one refusal at most, and none where it accepts.
use Rattle.std.proofs.Common.{◌≡◌, ℕ, ◌≤◌, List, [], ◌∷◌, length, refl, sym, ap, subst, ◌∙◌, Some, None, inl, inr, arith}
use Rattle.std.specs.Prelude.{Option}
use Rattle.std.specs.List.{AllByRecursion}
use Rattle.sp_lex.proofs.SourceLemmas.{one_fault, lines_exclude_fault}
use Rattle.sp_asm.proofs.AnswerLaws as asm
use Rattle.sp_lex.specs.Reading.{IsFaultAt}
use Rattle.sp_asm.specs.Source.{IsRefused}
use Rattle.sp_hex.specs.Refusals.{IsCause}
use Rattle.sp_hex.proofs.TextLaws as hex
use Rattle.sp_check.specs.Refusals as check
use Rattle.sp_check.proofs.AnswerLemmas as checked
use Rattle.sp_first.specs.Program.{Reading, Meets}
use Rattle.sp_first.specs.Right.{IsAccepted}
use Rattle.sp_first.proofs.RightLaws.{one_reading}
use Rattle.sp_cli.specs.declared.refusal.Input.{Input}
use Rattle.sp_cli.specs.declared.refusal.Refusal.{Refusal}
use Rattle.sp_cli.specs.declared.refusal.Refusal.TheVariants as refusal
use Rattle.sp_cli.specs.Inputs.{Held, limit, IsWithin, RefusesFile}
use Rattle.sp_cli.specs.Stages as stages
use Rattle.sp_cli.specs.Stages.{Stage, stages_of, Passes, Refuses, RefusesProgram, FirstRow, RefusalsAreOne, check_refusal}

same_bytes : (file : Option (List ℕ)) (s t : List ℕ) → file ≡ Some s → file ≡ Some t → s ≡ t
same_bytes file s t h g = let e : Some s ≡ Some t = sym h ∙ g in cc

none_or_some : (file : Option (List ℕ)) (s : List ℕ) → file ≡ None → file ≡ Some s → ⊥
none_or_some file s h g = let e : None ≡ Some s = sym h ∙ g in cc

one_file : (input : Input) (file : Option (List ℕ)) (a b : Refusal) → RefusesFile input file a → RefusesFile input file b → a ≡ b
one_file input file a b (inl h) (inl g) = h.0 ∙ sym g.0
one_file input file a b (inl h) (inr g) = absurd (none_or_some file g.1.0 h.1 g.1.1)
one_file input file a b (inr h) (inl g) = absurd (none_or_some file h.1.0 g.1 h.1.1)
one_file input file a b (inr h) (inr g) = h.0 ∙ sym g.0

within_or_refused : (input : Input) (file : Option (List ℕ)) (r : Refusal) → IsWithin input file → RefusesFile input file r → ⊥
within_or_refused input file r h (inl g) = none_or_some file h.0 g.1 h.1
within_or_refused input file r h (inr g) =
    let same : h.0 ≡ g.1.0 = same_bytes file h.0 g.1.0 h.1 g.1.1 in
    let within : length g.1.0 ≤ limit input = subst (λ s. length s ≤ limit input) same h.2 in
    omega (arith, g.1.2, within)

one_program : (s t : List ℕ) (a b : Refusal) → RefusesProgram s t a → RefusesProgram s t b → a ≡ b
one_program s t refusal.NotBuilt refusal.NotBuilt h k = refl
one_program s t refusal.NotBuilt (refusal.Open name number) h k = absurd (h k.0.form k.0.of_source k.0.no_scripts)
one_program s t (refusal.Open name number) refusal.NotBuilt h k = absurd (k h.0.form h.0.of_source h.0.no_scripts)
one_program s t (refusal.Open name number) (refusal.Open name' number') h k =
    let read = one_reading s h.0.form k.0.form h.0.of_source k.0.of_source in
    let names = h.0.named ∙ ap (λ (r : Reading). r.name) read ∙ sym k.0.named in
    let numbers = h.1 ∙ sym k.1 in
    λ j. refusal.Open (names j) (numbers j)
one_program s t refusal.NotBuilt _ h k = absurd k
one_program s t (refusal.Open name number) _ h k = absurd k
one_program s t _ b h k = absurd h

accepted_or_refused : (s t : List ℕ) (r : Refusal) → IsAccepted s t → RefusesProgram s t r → ⊥
accepted_or_refused s t refusal.NotBuilt a h = h a.form a.of_source a.no_scripts
accepted_or_refused s t (refusal.Open name number) a h = h.0.unmet (subst Meets (one_reading s a.form h.0.form a.of_source h.0.of_source) a.met)
accepted_or_refused s t _ a h = h

one_of : (stage : Stage) (held : Held) (a b : Refusal) → Refuses stage held a → Refuses stage held b → a ≡ b
one_of (stages.Reading input) held a b h g = one_file input _ a b h g
one_of stages.Text held a b h g =
    let same = same_bytes held.source h.0 g.0 h.3 g.3 in
    let parts = one_fault g.0 h.1.0 g.1.0 h.2 g.2 (subst (λ s. IsFaultAt s h.1.0 h.2) same h.5) g.5 in
    h.4 ∙ (λ j. refusal.Text (record { 0 = parts.0 j }) (parts.1 j)) ∙ sym g.4
one_of stages.Statements held a b h g =
    let same = same_bytes held.source h.0 g.0 h.3 g.3 in
    let parts = asm.one_refusal g.0 h.1.0 g.1.0 h.2 g.2 (subst (λ s. IsRefused s h.1.0 h.2) same h.5) g.5 in
    h.4 ∙ (λ j. refusal.Asm (record { 0 = parts.0 j }) (parts.1 j)) ∙ sym g.4
one_of stages.FirstForm held a b h g =
    let sources = same_bytes held.source h.0 g.0 h.2 g.2 in
    let scripts = same_bytes held.scripts h.1 g.1 h.3 g.3 in
    one_program g.0 g.1 a b (subst (λ t. RefusesProgram g.0 t a) scripts (subst (λ s. RefusesProgram s h.1 a) sources h.4)) g.4
one_of stages.Records held a b h g =
    let same = same_bytes held.image h.0 g.0 h.3 g.3 in
    let parts = hex.one_refusal g.0 h.1.0 g.1.0 h.2 g.2 (subst (λ s. IsCause s h.1.0 h.2) same h.5) g.5 in
    h.4 ∙ (λ j. refusal.Image (record { 0 = parts.0 j }) (parts.1 j)) ∙ sym g.4
one_of stages.Checking held a b h g =
    let same = same_bytes held.source h.0 g.0 h.3 g.3 in
    let parts = checked.one_refusal g.0 h.1.0 g.1.0 h.2 g.2 (subst (λ s. check.IsRefused s h.1.0 h.2) same h.5) g.5 in
    h.4 ∙ (λ j. check_refusal (record { 0 = parts.0 j }) (parts.1 j)) ∙ sym g.4

apart : (stage : Stage) (held : Held) (r : Refusal) → Passes stage held → Refuses stage held r → ⊥
apart (stages.Reading input) held r h g = within_or_refused input _ r h g
apart stages.Text held r h g = lines_exclude_fault h.0 h.1 g.1.0 g.2 h.3 (subst (λ s. IsFaultAt s g.1.0 g.2) (same_bytes held.source g.0 h.0 g.3 h.2) g.5)
apart stages.Statements held r h g = asm.assembled_or_refused h.0 h.1 g.1.0 g.2 h.3 (subst (λ s. IsRefused s g.1.0 g.2) (same_bytes held.source g.0 h.0 g.3 h.2) g.5)
apart stages.FirstForm held r h g =
    let sources = same_bytes held.source g.0 h.0 g.2 h.2 in
    let scripts = same_bytes held.scripts g.1 h.1 g.3 h.3 in
    accepted_or_refused h.0 h.1 r h.4 (subst (λ t. RefusesProgram h.0 t r) scripts (subst (λ s. RefusesProgram s g.1 r) sources g.4))
apart stages.Records held r h g = hex.never_both h.0 h.1 g.1.0 g.2 h.3 (subst (λ s. IsCause s g.1.0 g.2) (same_bytes held.image g.0 h.0 g.3 h.2) g.5)
apart stages.Checking held r h g =
    checked.is_right h.0 h.1 g.1.0 g.2 h.3 (subst (λ s. check.IsRefused s g.1.0 g.2) (same_bytes held.source g.0 h.0 g.3 h.2) g.5)

one_row : (rows : List Stage) (held : Held) (a b : Refusal) → FirstRow rows held a → FirstRow rows held b → a ≡ b
one_row [] held a b h g = absurd h
one_row (stage ∷ rows) held a b (inl h) (inl g) = one_of stage held a b h g
one_row (stage ∷ rows) held a b (inl h) (inr g) = absurd (apart stage held a g.0 h)
one_row (stage ∷ rows) held a b (inr h) (inl g) = absurd (apart stage held b h.0 g)
one_row (stage ∷ rows) held a b (inr h) (inr g) = one_row rows held a b h.1 g.1

no_row : (rows : List Stage) (held : Held) (r : Refusal) → AllByRecursion (λ stage. Passes stage held) rows → FirstRow rows held r → ⊥
no_row [] held r h g = g
no_row (stage ∷ rows) held r h (inl g) = apart stage held r h.0 g
no_row (stage ∷ rows) held r h (inr g) = no_row rows held r h.1 g.1

pub refusals_are_one : RefusalsAreOne
refusals_are_one = record { one = λ c held a b h g. one_row (stages_of c) held a b h g; none = λ c held r a h. no_row (stages_of c) held r a h }
