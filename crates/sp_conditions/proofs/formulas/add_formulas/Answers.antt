use Rattle.std.proofs.Common.{◌≤◌, ◌++◌, ◌∙◌, sym, arith, length}
use Rattle.std.proofs.lemmas.List.{append-nil, at_drop_all}
use Rattle.sp_term.specs.Conditions.{trees}
use Rattle.sp_trans.specs.View.{symbolic_of}
use Rattle.sp_cond.specs.Execution.{formulas_of}
use Rattle.sp_conditions.proofs.formulas.add_formulas.Goals as goal

pub returns : goal.returns
returns c =
    let out = trees c.notes.out.items in
    let past = c.notes-test.false in
    let end : length c.args.notes.now ≤ c.notes.noted-index = omega (arith, past) in
    sym (append-nil out)
    ∙ sym (at_drop_all (λ notes. out ++ formulas_of (symbolic_of c.args.entry) (symbolic_of c.args.now) notes) c.args.notes.now c.notes.noted-index end)
    ∙ c.notes.invariant
