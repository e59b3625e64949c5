use Rattle.std.proofs.Common.{◌-◌, length, sym, ap, ◌∙◌}
use Rattle.std.specs.Prelude.{slice_get}
use Rattle.sp_note.specs.code.Frames.{room}
use Rattle.sp_note.proofs.StackLemmas.{top_seen, none_seen}
use Rattle.sp_note.proofs.parser.Parser.room.Goals as goal

pub returns-in-Some : goal.returns-in-Some
returns-in-Some c =
    c.room.ensures ∙ sym (ap room (top_seen c.args.self.now.frames.items c.in-Some.frame.now (sym (c.in-Some.ensures.value ∙ ap (λ fs. slice_get fs (length fs - 1)) c.deref.ensures.value))))

pub returns-in-None : goal.returns-in-None
returns-in-None c = sym (ap room (none_seen c.args.self.now.frames.items (sym (c.in-None.ensures.value ∙ ap (λ fs. slice_get fs (length fs - 1)) c.deref.ensures.value))))
