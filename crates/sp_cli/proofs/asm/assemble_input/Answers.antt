use Rattle.std.proofs.Common.{sym, ap, ◌∙◌, ℕ, Some, arith, []}
use Rattle.std.specs.Prelude.{Vec, ◌≤◌, length}
use Rattle.std.specs.declared.alloc.Global.{Global}
use Rattle.sp_cli.specs.declared.product.Product.{Product}
use Rattle.sp_cli.specs.declared.refusal.Stop.TheVariants.{Refused}
use Rattle.sp_cli.proofs.MadeLemmas.{source_refused, assembled, not_assembled, if_ok}
use Rattle.sp_cli.proofs.ReadLemmas.{handed_on, failed_reads}
use Rattle.sp_cli.proofs.asm.assemble_input.Goals as goal

pub returns-in_err-source-clause-refused : goal.returns-in_err-source-clause-refused
returns-in_err-source-clause-refused g c = λ r e.
    source_refused (g.F.Files.store c.args.files.now) c.args.names.source.now c.args.names.image.now r
    (c.in_err-source.ensures.refused r (handed_on (Vec ℕ Global) Product c.from_residual.result c.in_err-source.field-0.0 (Refused r) c.from_residual.ensures e))

pub returns-in_err-source-clause-calls : goal.returns-in_err-source-clause-calls
returns-in_err-source-clause-calls g c =
    failed_reads (Vec ℕ Global) Product c.args.names.source.now [] c.from_residual.result c.in_err-source.field-0.0 _ _ c.from_residual.ensures c.in_err-source.ensures.calls

pub returns-clause-ok : goal.returns-clause-ok
returns-clause-ok g c =
    let within : length c.deref.result.now ≤ 1048576 = omega (arith, c.in_ok-source.ensures.within, c.deref.ensures.len) in
    if_ok c.assembly.result
    (λ p h. assembled (g.F.Files.store c.args.files.now) c.args.names.source.now c.args.names.image.now c.deref.result.now (λ told. c.in_ok-source.ensures.ok told ∙ ap (λ s. Some s) (sym c.deref.ensures.value)) p within h)
    c.assembly.ensures.ok

pub returns-clause-refused : goal.returns-clause-refused
returns-clause-refused g c = λ r e.
    let within : length c.deref.result.now ≤ 1048576 = omega (arith, c.in_ok-source.ensures.within, c.deref.ensures.len) in
    not_assembled (g.F.Files.store c.args.files.now) c.args.names.source.now c.args.names.image.now c.deref.result.now (λ told. c.in_ok-source.ensures.ok told ∙ ap (λ s. Some s) (sym c.deref.ensures.value)) r within (c.assembly.ensures.refused r e)
