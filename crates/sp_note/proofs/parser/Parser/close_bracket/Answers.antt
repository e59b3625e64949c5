use Rattle.std.proofs.Common.{sym, ap, subst, ◌∙◌}
use Rattle.std.specs.Option.{option_map}
use Rattle.std.proofs.lemmas.Result.{err_from_is_err_and}
use Rattle.sp_note.specs.code.Frames.{frame_of, bracketed}
use Rattle.sp_note.specs.code.Operands.{known_of}
use Rattle.sp_note.specs.code.Parser.{state_of}
use Rattle.sp_note.proofs.ParserLemmas.{closing_refused}
use Rattle.sp_note.proofs.parser.Parser.close_bracket.Goals as goal

pub returns-in_err-closed : goal.returns-in_err-closed
returns-in_err-closed c =
    let p = err_from_is_err_and c.from_residual-in_err-closed.result c.from_residual-in_err-closed.ensures.1 in
    rw (p.1, p.2) (closing_refused known_of state_of bracketed c.in_err-closed.field-0.0 (state_of c.args.self) (known_of c.args.operand) (frame_of c.in_ok-inner.inner.frame) (state_of c.in_ok-inner.inner.parser).stack (known_of c.in_ok-inner.inner.operand) c.in_ok-inner.ensures.0 c.in_err-closed.ensures)
