use Rattle.std.proofs.Common.{sym, ap, ◌∙◌, ℕ, Some, arith, []}
use Rattle.std.specs.Prelude.{Vec, ◌≤◌, length}
use Rattle.std.specs.declared.alloc.Global.{Global}
use Rattle.sp_cli.specs.declared.product.Product.{Product}
use Rattle.sp_cli.specs.declared.refusal.Stop.TheVariants.{Refused}
use Rattle.sp_cli.specs.Command.{words_of}
use Rattle.sp_cli.proofs.MadeLemmas.{image_refused, ran, not_run, if_ok}
use Rattle.sp_cli.proofs.ReadLemmas.{handed_on, failed_reads}
use Rattle.sp_cli.proofs.run.run_input.Goals as goal

pub returns-in_err-text-clause-refused : goal.returns-in_err-text-clause-refused
returns-in_err-text-clause-refused g c = λ r e.
    image_refused (g.F.Files.store c.args.files.now) c.args.names.image.now (words_of c.args.names.options.now) r
    (c.in_err-text.ensures.refused r (handed_on (Vec ℕ Global) Product c.from_residual.result c.in_err-text.field-0.0 (Refused r) c.from_residual.ensures e))

pub returns-in_err-text-clause-calls : goal.returns-in_err-text-clause-calls
returns-in_err-text-clause-calls g c =
    failed_reads (Vec ℕ Global) Product c.args.names.image.now [] c.from_residual.result c.in_err-text.field-0.0 _ _ c.from_residual.ensures c.in_err-text.ensures.calls

pub returns-clause-ok : goal.returns-clause-ok
returns-clause-ok g c =
    let within : length c.deref.result.now ≤ 1048576 = omega (arith, c.in_ok-text.ensures.within, c.deref.ensures.len) in
    if_ok c.simulation.result
    (λ p h. ran (g.F.Files.store c.args.files.now) c.args.names.image.now [] c.deref.result.now (λ told. c.in_ok-text.ensures.ok told ∙ ap (λ s. Some s) (sym c.deref.ensures.value)) (words_of c.args.names.options.now) p within h)
    c.simulation.ensures.ok

pub returns-clause-refused : goal.returns-clause-refused
returns-clause-refused g c = λ r e.
    let within : length c.deref.result.now ≤ 1048576 = omega (arith, c.in_ok-text.ensures.within, c.deref.ensures.len) in
    not_run (g.F.Files.store c.args.files.now) c.args.names.image.now [] c.deref.result.now (λ told. c.in_ok-text.ensures.ok told ∙ ap (λ s. Some s) (sym c.deref.ensures.value)) (words_of c.args.names.options.now) r within (c.simulation.ensures.refused r e)
