use Rattle.std.proofs.Common.{sym, ap, subst, ◌∙◌}
use Rattle.std.specs.Option.{option_map}
use Rattle.std.proofs.lemmas.Result.{err_from_is_err_and}
use Rattle.sp_note.specs.code.Frames.{frame_of, after_comma}
use Rattle.sp_note.specs.code.Operands.{known_of}
use Rattle.sp_note.specs.code.Parser.{state_of}
use Rattle.sp_note.proofs.ParserLemmas.{dividing_refused}
use Rattle.sp_note.proofs.parser.Parser.comma.Goals as goal

pub returns-in_err-next : goal.returns-in_err-next
returns-in_err-next c =
    let p = err_from_is_err_and c.from_residual-in_err-next.result c.from_residual-in_err-next.ensures.1 in
    rw (p.1, p.2) (dividing_refused frame_of state_of after_comma c.in_err-next.field-0.0 (state_of c.args.self) (known_of c.args.operand) (frame_of c.in_ok-inner.inner.frame) (state_of c.in_ok-inner.inner.parser).stack (known_of c.in_ok-inner.inner.operand) c.in_ok-inner.ensures.0 c.in_err-next.ensures)
