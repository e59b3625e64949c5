use Rattle.std.proofs.Common.{sym, ap, ◌∙◌}
use Rattle.sp_note.specs.code.Frames.{open_in, stack_of}
use Rattle.sp_note.specs.code.Heads.{Start}
use Rattle.sp_note.specs.code.Parser.{state}
use Rattle.sp_note.proofs.StackLemmas.{stack_of_nil, open_nothing}
use Rattle.sp_note.proofs.parser.Parser.begin.Goals as goal

pub invariant_of-result : goal.invariant_of-result
invariant_of-result c = record { counted = sym (ap (λ fs. open_in (stack_of fs)) c.new.ensures.items ∙ ap open_in stack_of_nil ∙ open_nothing) }

pub returns : goal.returns
returns c = ap (λ fs. state fs Start 0) (ap stack_of c.new.ensures.items ∙ stack_of_nil)
