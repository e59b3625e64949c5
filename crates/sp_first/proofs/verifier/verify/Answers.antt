use Rattle.std.proofs.Common.{◌≡◌, ℕ, List, [], ◌∷◌, length, true, sym, ap, ◌∙◌, arith}
use Rattle.std.specs.Prelude.{flat_map, ◌==◌}
use Rattle.std.proofs.Common.{refl}
use Rattle.std.specs.List.{enumerate_from}
use Rattle.std.specs.FinMap as maps
use Rattle.std.proofs.lemmas.Bool.Decides.{nat_tests}
use Rattle.sp_isa.specs.Code.{code}
use Rattle.sp_first.specs.Program.{instrs_of}
use Rattle.sp_first.specs.Source.{reading_of_source}
use Rattle.sp_first.proofs.RightLaws.{program_few, right, accepted, not_built, open_condition}
use Rattle.sp_first.proofs.verifier.verify.Goals as goal

empty_list : (xs : List ℕ) → (length xs == 0) ≡ true → xs ≡ []
empty_list [] h = refl
empty_list (x ∷ xs) h = let none : length (x ∷ xs) ≡ 0 = grind (arith, nat_tests) in absurd (omega arith)

pub returns-then-not-is_met-clause-open : goal.returns-then-not-is_met-clause-open
returns-then-not-is_met-clause-open c = λ name number e.
    let no_scripts : c.args.scripts.now ≡ [] = empty_list c.args.scripts.now (sym c.is_empty.ensures ∙ c.if-not-is_empty.false) in
    let named : name ≡ c.in-Ok.source.name = cc in
    let first : number ≡ 1 = cc in
    (open_condition c.args.source.now c.args.scripts.now name (reading_of_source c.in-Ok.source) c.in-Ok.ensures (sym c.is_met.ensures ∙ c.if-not-is_met.true) no_scripts named, first)

pub image_of-requires : goal.image_of-requires
image_of-requires c = omega (arith, program_few c.args.source.now (reading_of_source c.in-Ok.source) c.in-Ok.ensures, ap length c.deref.ensures.value)

pub returns-clause-right : goal.returns-clause-right
returns-clause-right c = right c.args.source.now (reading_of_source c.in-Ok.source) c.in_ok-image_of.field-0 c.in-Ok.ensures (sym c.is_met.ensures ∙ c.if-not-is_met.false)
    (c.in_ok-image_of.ensures ∙ ap (λ is. maps.from_entries (enumerate_from 0 (flat_map code (instrs_of is)))) c.deref.ensures.value)

pub returns-clause-accepted : goal.returns-clause-accepted
returns-clause-accepted c =
    let no_scripts : c.args.scripts.now ≡ [] = empty_list c.args.scripts.now (sym c.is_empty.ensures ∙ c.if-not-is_empty.false) in
    accepted c.args.source.now c.args.scripts.now (reading_of_source c.in-Ok.source) c.in-Ok.ensures (sym c.is_met.ensures ∙ c.if-not-is_met.false) no_scripts

pub returns-in-Err-NotFirstForm-clause-not_built : goal.returns-in-Err-NotFirstForm-clause-not_built
returns-in-Err-NotFirstForm-clause-not_built c = λ e. not_built c.args.source.now c.args.scripts.now (rw c.in-Err-NotFirstForm.field-0-is at c.in-Err-NotFirstForm.ensures)
