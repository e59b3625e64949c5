use Rattle.std.proofs.Common.{refl, ap, ◌∙◌, Err}
use Rattle.sp_cli.specs.code.Views.{command_of}
use Rattle.sp_cli.proofs.EndLemmas.{after_read_fault, after_memory, after_refusal, after_report, after_write_fault}
use Rattle.sp_cli.proofs.SessionLemmas.{fault_session, memory_session, refused_session, report_session, write_fault_session, write_memory_session}
use Rattle.sp_cli.proofs.dispatch.execute.Goals as goal

pub returns-in-Err-Fault-clause-after : goal.returns-in-Err-Fault-clause-after
returns-in-Err-Fault-clause-after g c = after_read_fault (command_of c.args.command) _ _ _ _ c.in-Err-Fault.ensures.kept.contents refl

pub returns-in-Err-Fault-clause-calls : goal.returns-in-Err-Fault-clause-calls
returns-in-Err-Fault-clause-calls g c = fault_session (command_of c.args.command) _ _ (rw c.in-Err-Fault.field-0-is at c.in-Err-Fault.ensures.calls)

pub returns-in-Err-Memory-clause-after : goal.returns-in-Err-Memory-clause-after
returns-in-Err-Memory-clause-after g c = after_memory (command_of c.args.command) _ _ _ _ (λ name named told. c.in-Err-Memory.ensures.kept.contents name) refl

pub returns-in-Err-Memory-clause-calls : goal.returns-in-Err-Memory-clause-calls
returns-in-Err-Memory-clause-calls g c = memory_session (command_of c.args.command) _ _ (rw c.in-Err-Memory.field-0-is at c.in-Err-Memory.ensures.calls)

pub returns-in-Err-Refused-clause-after : goal.returns-in-Err-Refused-clause-after
returns-in-Err-Refused-clause-after g c =
    after_refusal (command_of c.args.command) _ _ _ _ c.in-Err-Refused.refusal (c.in-Err-Refused.ensures.refused c.in-Err-Refused.refusal (ap Err c.in-Err-Refused.field-0-is))
    c.in-Err-Refused.ensures.kept.contents c.refuse.result c.refuse.ensures.ends

pub returns-in-Err-Refused-clause-calls : goal.returns-in-Err-Refused-clause-calls
returns-in-Err-Refused-clause-calls g c =
    refused_session (command_of c.args.command) _ _ c.in-Err-Refused.refusal _ (g.S.Sink.output c.args.out.now) (g.S.Sink.output c.refuse.new.out) c.refuse.result c.refuse.ensures.ends (rw c.in-Err-Refused.field-0-is at c.in-Err-Refused.ensures.calls)

pub returns-in-Ok-write_image-clause-after : goal.returns-in-Ok-write_image-clause-after
returns-in-Ok-write_image-clause-after g c =
    after_report (command_of c.args.command) (g.F.Files.store c.args.files.now) (g.F.Files.store c.produce.new.files) _ _ _ c.in-Ok.product c.in-Ok.ensures.ok c.deref.result.now c.deref.ensures.value
    c.deref-in-Ok-write_image.result.now c.deref-in-Ok-write_image.ensures.value (λ name named told. c.in-Ok-write_image.ensures.answer name named (c.in-Ok.ensures.kept.told ∙ told))
    c.finish.result c.finish.ensures.ends

pub returns-in-Ok-write_image-clause-calls : goal.returns-in-Ok-write_image-clause-calls
returns-in-Ok-write_image-clause-calls g c =
    report_session (command_of c.args.command) _ _ _ c.in-Ok.product c.in-Ok.ensures.calls _ (g.S.Sink.output c.args.out.now) (g.S.Sink.output c.finish.new.out) c.finish.result c.finish.ensures.ends c.in-Ok-write_image.ensures.calls

pub returns-in-Err-Failed-clause-after : goal.returns-in-Err-Failed-clause-after
returns-in-Err-Failed-clause-after g c =
    after_write_fault (command_of c.args.command) (g.F.Files.store c.args.files.now) (g.F.Files.store c.produce.new.files) _ _ _ c.in-Ok.product c.in-Ok.ensures.ok c.deref.result.now c.deref.ensures.value
    c.in-Ok.ensures.kept.contents (λ name named told. rw c.in-Err-Failed.field-0-is at (c.in-Err-Failed.ensures.answer name named (c.in-Ok.ensures.kept.told ∙ told))) refl

pub returns-in-Err-Failed-clause-calls : goal.returns-in-Err-Failed-clause-calls
returns-in-Err-Failed-clause-calls g c =
    write_fault_session (command_of c.args.command) _ _ _ c.in-Ok.product c.in-Ok.ensures.calls (rw c.in-Err-Failed.field-0-is at c.in-Err-Failed.ensures.calls)

pub returns-clause-calls : goal.returns-clause-calls
returns-clause-calls g c =
    write_memory_session (command_of c.args.command) _ _ _ c.in-Ok.product c.in-Ok.ensures.calls (rw c.in-Err-Memory-write_image.field-0-is at c.in-Err-Memory-write_image.ensures.calls)
