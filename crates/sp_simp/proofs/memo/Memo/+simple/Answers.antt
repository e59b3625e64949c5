use Rattle.std.proofs.Common.{sym}
use Rattle.sp_simp.proofs.MemoLemmas.{right_form}
use Rattle.sp_simp.proofs.memo.Memo.+simple.Goals as goal

pub simple-returns-in-Some-clause-form : goal.simple-returns-in-Some-clause-form
simple-returns-in-Some-clause-form t c = right_form _ _ _ _ c.requires.right (sym c.in-Some.ensures)
