use Rattle.std.proofs.Common.{refl, subst}
use Rattle.sp_base.specs.declared.calls.Outcome.TheVariants as outcome
use Rattle.sp_cli.specs.declared.refusal.Refusal.TheVariants.{TooLarge}
use Rattle.sp_cli.specs.Inputs.{RefusesFile}
use Rattle.sp_cli.specs.code.Made.{IsFile}
use Rattle.std.specs.Prelude.{◌≡◌, ◌<◌, length, IsTrue}
use Rattle.sp_cli.proofs.MadeLemmas.{too_large}
use Rattle.sp_cli.proofs.inputs.read_input.Goals as goal

pub returns-in-Ok-clause-calls : goal.returns-in-Ok-clause-calls
returns-in-Ok-clause-calls g c = (outcome.Done, (c.in-Ok.bytes, refl), c.in-Ok.ensures.calls)

pub returns-in-Err-TooLarge-clause-refused : goal.returns-in-Err-TooLarge-clause-refused
returns-in-Err-TooLarge-clause-refused g c = λ r e.
    let is : TooLarge c.args.input ≡ r = cc in
    let file = (g.F.Files.store c.args.files.now).contents c.args.name.now in
    subst (λ q. IsFile (IsTrue (g.F.Files.store c.args.files.now).told) file (λ f. RefusesFile c.args.input f q)) is
    (too_large (g.F.Files.store c.args.files.now).told file c.args.input (λ told.
    let answer = rw c.in-Err-TooLarge.field-0-is at (c.in-Err-TooLarge.ensures.answer told) in
    (answer.0, answer.1, subst (λ n. n < length answer.0) c.limit.ensures answer.2)))
