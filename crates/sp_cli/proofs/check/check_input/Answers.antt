use Rattle.std.proofs.Common.{sym, ap, ◌∙◌, ℕ, Some, arith, []}
use Rattle.std.specs.Prelude.{Vec, ◌≤◌, length}
use Rattle.std.specs.declared.alloc.Global.{Global}
use Rattle.sp_cli.specs.declared.product.Product.{Product}
use Rattle.sp_cli.specs.declared.refusal.Stop.TheVariants.{Refused}
use Rattle.sp_cli.proofs.MadeLemmas.{checked_refused, found_sound, not_sound, if_ok}
use Rattle.sp_cli.proofs.ReadLemmas.{handed_on, failed_reads}
use Rattle.sp_cli.proofs.check.check_input.Goals as goal

pub returns-in_err-source-clause-refused : goal.returns-in_err-source-clause-refused
returns-in_err-source-clause-refused g c = λ r e.
    checked_refused (g.F.Files.store c.args.files.now) c.args.names.source.now r
    (c.in_err-source.ensures.refused r (handed_on (Vec ℕ Global) Product c.from_residual.result c.in_err-source.field-0.0 (Refused r) c.from_residual.ensures e))

pub returns-in_err-source-clause-calls : goal.returns-in_err-source-clause-calls
returns-in_err-source-clause-calls g c =
    failed_reads (Vec ℕ Global) Product c.args.names.source.now [] c.from_residual.result c.in_err-source.field-0.0 _ _ c.from_residual.ensures c.in_err-source.ensures.calls

pub returns-clause-ok : goal.returns-clause-ok
returns-clause-ok g c =
    let within : length c.deref.result.now ≤ 1048576 = omega (arith, c.in_ok-source.ensures.within, c.deref.ensures.len) in
    if_ok c.soundness.result
    (λ p h. found_sound (g.F.Files.store c.args.files.now) c.args.names.source.now [] c.deref.result.now (λ told. c.in_ok-source.ensures.ok told ∙ ap (λ s. Some s) (sym c.deref.ensures.value)) p within h)
    c.soundness.ensures.ok

pub returns-clause-refused : goal.returns-clause-refused
returns-clause-refused g c = λ r e.
    let within : length c.deref.result.now ≤ 1048576 = omega (arith, c.in_ok-source.ensures.within, c.deref.ensures.len) in
    not_sound (g.F.Files.store c.args.files.now) c.args.names.source.now [] c.deref.result.now (λ told. c.in_ok-source.ensures.ok told ∙ ap (λ s. Some s) (sym c.deref.ensures.value)) r within (c.soundness.ensures.refused r e)
