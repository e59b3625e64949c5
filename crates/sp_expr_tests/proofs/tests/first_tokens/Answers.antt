use Rattle.std.proofs.Common.{sym, ap, subst, ◌∙◌}
use Rattle.std.specs.Prelude.{slice_get}
use Rattle.sp_lex.specs.Readers.{AreIn}
use Rattle.sp_lex.proofs.TokenLemmas.{tokens_are_in}
use Rattle.sp_expr_tests.proofs.tests.first_tokens.Goals as goal

pub returns-in-Some : goal.returns-in-Some
returns-in-Some c =
    subst (AreIn c.args.source.now) (sym c.as_slice-in-Some.ensures)
    (tokens_are_in c.args.source.now c.args.lines.now 0 c.in-Some.line.now c.requires (ap (λ ls. slice_get ls 0) (sym c.as_slice.ensures) ∙ sym c.in-Some.ensures.value))
