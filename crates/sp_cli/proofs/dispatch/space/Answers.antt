use Rattle.std.proofs.Common.{ap, sym, subst, ◌∙◌, ◌≡◌, rules}
use Rattle.sp_cli.specs.declared.status.Status.TheVariants as status
use Rattle.sp_cli.specs.Command.{Verify, image_name, held_by, words_of}
use Rattle.sp_cli.specs.Space.{HoldsImage, ImageAfter, SinkAfter}
use Rattle.sp_cli.specs.Stages.{Stands, Accepts}
use Rattle.sp_cli.specs.Texts.{usage_text}
use Rattle.sp_cli.specs.code.Put.{PutEnds}
use Rattle.sp_cli.specs.code.Views.{command_of}
use Rattle.sp_cli.proofs.EndLemmas.{put_as_usage, sink_as_usage, image_held, done_or_memory, refused_or_memory}
use Rattle.sp_cli.proofs.WordLemmas.{one_form}
use Rattle.sp_cli.proofs.dispatch.space.Goals as goal

pub returns-in-Some-clause-headline : goal.returns-in-Some-clause-headline
returns-in-Some-clause-headline g c = λ is told source scripts image form.
    let files = g.F.Files.store c.args.files.now in
    let same = one_form (words_of c.args.words.now) (command_of c.in-Some.command) (Verify source scripts image) c.in-Some.ensures form in
    let held = image_held (command_of c.in-Some.command) c.execute.result files (g.F.Files.store c.execute.new.files) _ _ c.execute.ensures.after image (ap image_name same) told in
    subst (λ d. HoldsImage d (held_by files.contents d) ((g.F.Files.store c.execute.new.files).contents image)) same
    (subst (λ s. ImageAfter s (command_of c.in-Some.command) (held_by files.contents (command_of c.in-Some.command)) (files.contents image) ((g.F.Files.store c.execute.new.files).contents image)) is held)

pub returns-in-Some-clause-complete : goal.returns-in-Some-clause-complete
returns-in-Some-clause-complete g c = λ d form told accepts no_read no_write no_put.
    let files = g.F.Files.store c.args.files.now in
    let same = one_form (words_of c.args.words.now) d (command_of c.in-Some.command) form c.in-Some.ensures in
    done_or_memory (command_of c.in-Some.command) c.execute.result files (g.F.Files.store c.execute.new.files) _ _ c.execute.ensures.after
    told (subst (λ e. Accepts e (held_by files.contents e)) same accepts) c.execute.ensures.read_fault c.execute.ensures.write_fault c.execute.ensures.sink_fault no_read no_write no_put

pub returns-in-Some-clause-complete_refused : goal.returns-in-Some-clause-complete_refused
returns-in-Some-clause-complete_refused g c = λ d r form told stands no_read no_put.
    let files = g.F.Files.store c.args.files.now in
    let same = one_form (words_of c.args.words.now) d (command_of c.in-Some.command) form c.in-Some.ensures in
    refused_or_memory (command_of c.in-Some.command) c.execute.result files (g.F.Files.store c.execute.new.files) _ _ c.execute.ensures.after
    told r (subst (λ e. Stands e (held_by files.contents e) r) same stands) c.execute.ensures.read_fault c.execute.ensures.sink_fault no_read no_put

pub returns-in-None-clause-usage : goal.returns-in-None-clause-usage
returns-in-None-clause-usage g c = λ is.
    let line : c.as_bytes.result.now ≡ usage_text = search rules in
    let ends = subst (λ text. PutEnds status.Usage text (g.S.Sink.output c.args.out.now) (g.S.Sink.output c.finish.new.out) c.finish.result) line c.finish.ensures.ends in
    (c.in-None.ensures, put_as_usage (g.S.Sink.output c.args.out.now) (g.S.Sink.output c.finish.new.out) c.finish.result ends is)

pub returns-in-None-clause-sink_usage : goal.returns-in-None-clause-sink_usage
returns-in-None-clause-sink_usage g c = λ none told.
    let line : c.as_bytes.result.now ≡ usage_text = search rules in
    let ends = subst (λ text. PutEnds status.Usage text (g.S.Sink.output c.args.out.now) (g.S.Sink.output c.finish.new.out) c.finish.result) line c.finish.ensures.ends in
    sink_as_usage (g.S.Sink.output c.args.out.now) (g.S.Sink.output c.finish.new.out) c.finish.result told ends

pub returns-in-Some-clause-sink : goal.returns-in-Some-clause-sink
returns-in-Some-clause-sink g c = λ d form told.
    let files = g.F.Files.store c.args.files.now in
    let after = c.execute.ensures.after in
    let same = one_form (words_of c.args.words.now) d (command_of c.in-Some.command) form c.in-Some.ensures in (
      after.held,
      (λ t. after.are_held t ∙ ap (λ e. held_by files.contents e) (sym same)),
      subst (λ e. SinkAfter c.execute.result e after.held (g.S.Sink.output c.args.out.now) (g.S.Sink.output c.execute.new.out)) (sym same) (after.sink told),
    )
