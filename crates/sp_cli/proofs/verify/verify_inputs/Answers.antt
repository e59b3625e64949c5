use Rattle.std.proofs.Common.{sym, ap, ◌∙◌, ℕ, Some, arith, [], ◌∷◌}
use Rattle.std.specs.Prelude.{Vec, ◌≤◌, length}
use Rattle.std.specs.declared.alloc.Global.{Global}
use Rattle.sp_cli.specs.declared.product.Product.{Product}
use Rattle.sp_cli.specs.declared.refusal.Stop.TheVariants.{Refused}
use Rattle.sp_cli.specs.Inputs.{RefusesFile}
use Rattle.sp_cli.specs.declared.refusal.Input.TheVariants.{Scripts}
use Rattle.sp_cli.proofs.MadeLemmas.{program_source_refused, program_scripts_refused, verified, not_verified, if_ok}
use Rattle.sp_cli.proofs.ReadLemmas.{handed_on, failed_reads, read_done, kept_file, told_before}
use Rattle.sp_cli.proofs.verify.verify_inputs.Goals as goal

pub returns-in_err-source-clause-refused : goal.returns-in_err-source-clause-refused
returns-in_err-source-clause-refused g c = λ r e.
    program_source_refused (g.F.Files.store c.args.files.now) c.args.names.source.now c.args.names.scripts.now c.args.names.image.now r
    (c.in_err-source.ensures.refused r (handed_on (Vec ℕ Global) Product c.from_residual.result c.in_err-source.field-0.0 (Refused r) c.from_residual.ensures e))

pub returns-in_err-source-clause-calls : goal.returns-in_err-source-clause-calls
returns-in_err-source-clause-calls g c =
    failed_reads (Vec ℕ Global) Product c.args.names.source.now (c.args.names.scripts.now ∷ []) c.from_residual.result c.in_err-source.field-0.0 _ _ c.from_residual.ensures c.in_err-source.ensures.calls

pub returns-in_err-scripts-clause-refused : goal.returns-in_err-scripts-clause-refused
returns-in_err-scripts-clause-refused g c = λ r e.
    let within : length c.in_ok-source.source.items ≤ 1048576 = omega (arith, c.in_ok-source.ensures.within, c.in_ok-source.source.ok.0) in
    program_scripts_refused (g.F.Files.store c.args.files.now) c.args.names.source.now c.args.names.scripts.now c.args.names.image.now c.in_ok-source.source.items r c.in_ok-source.ensures.ok within
    (kept_file (λ file. RefusesFile Scripts file r) _ _ _ c.in_ok-source.ensures.kept
    (c.in_err-scripts.ensures.refused r (handed_on (Vec ℕ Global) Product c.from_residual-in_err-scripts.result c.in_err-scripts.field-0.0 (Refused r) c.from_residual-in_err-scripts.ensures e)))

pub returns-in_err-scripts-clause-calls : goal.returns-in_err-scripts-clause-calls
returns-in_err-scripts-clause-calls g c =
    read_done c.args.names.source.now (c.args.names.scripts.now ∷ []) c.in_ok-source.source c.from_residual-in_err-scripts.result _ _ _ c.in_ok-source.ensures.calls
    (failed_reads (Vec ℕ Global) Product c.args.names.scripts.now [] c.from_residual-in_err-scripts.result c.in_err-scripts.field-0.0 _ _ c.from_residual-in_err-scripts.ensures c.in_err-scripts.ensures.calls)

pub returns-clause-ok : goal.returns-clause-ok
returns-clause-ok g c =
    let within : length c.deref.result.now ≤ 1048576 = omega (arith, c.in_ok-source.ensures.within, c.deref.ensures.len) in
    let fits : length c.deref-2.result.now ≤ 4194304 = omega (arith, c.in_ok-scripts.ensures.within, c.deref-2.ensures.len) in
    if_ok c.verification.result
    (λ p h. verified (g.F.Files.store c.args.files.now) c.args.names.source.now c.args.names.scripts.now c.args.names.image.now c.deref.result.now c.deref-2.result.now
    (λ told. c.in_ok-source.ensures.ok told ∙ ap (λ s. Some s) (sym c.deref.ensures.value))
    (λ told. told_before _ _ c.args.names.scripts.now _ c.in_ok-source.ensures.kept c.in_ok-scripts.ensures.ok told ∙ ap (λ s. Some s) (sym c.deref-2.ensures.value)) within fits p h)
    c.verification.ensures.ok

pub returns-clause-refused : goal.returns-clause-refused
returns-clause-refused g c = λ r e.
    let within : length c.deref.result.now ≤ 1048576 = omega (arith, c.in_ok-source.ensures.within, c.deref.ensures.len) in
    let fits : length c.deref-2.result.now ≤ 4194304 = omega (arith, c.in_ok-scripts.ensures.within, c.deref-2.ensures.len) in
    not_verified (g.F.Files.store c.args.files.now) c.args.names.source.now c.args.names.scripts.now c.args.names.image.now c.deref.result.now c.deref-2.result.now
    (λ told. c.in_ok-source.ensures.ok told ∙ ap (λ s. Some s) (sym c.deref.ensures.value))
    (λ told. told_before _ _ c.args.names.scripts.now _ c.in_ok-source.ensures.kept c.in_ok-scripts.ensures.ok told ∙ ap (λ s. Some s) (sym c.deref-2.ensures.value)) within fits r (c.verification.ensures.refused r e)
