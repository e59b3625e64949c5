-- The answers of the reader.
use Rattle.std.proofs.Common.{ℕ, List, sym, subst}
use Rattle.std.specs.Prelude.{Result, Ok, Err}
use Rattle.sp_base.specs.Lines.{lines}
use Rattle.sp_base.specs.Refused.{Answers, IsComplete}
use Rattle.sp_base.specs.declared.refused.Refused.{Refused}
use Rattle.sp_base.specs.declared.refused.Refused.TheVariants as refused
use Rattle.sp_base.proofs.RefusedLemmas.{complete}
use Rattle.sp_script_text.specs.declared.script.Script.{Script}
use Rattle.sp_script_text.specs.declared.refusal.ScriptKind.{ScriptKind}
use Rattle.sp_script_text.specs.declared.refusal.ScriptKind.TheVariants as kind
use Rattle.sp_script_text.specs.Files.{AreScripts, NoneTwice, BreaksGrammar, IsFile, IsCause}
use Rattle.sp_script_text.specs.code.Bodies.{AnswersSyntax}
use Rattle.sp_script_text.specs.code.Table.{AnswersTable}
use Rattle.sp_script_text.proofs.UniqueLemmas.{one_file, one_cause, apart}

-- the table of scripts answers for the file
pub answers_file : (text : List ℕ) (result : Result (List Script) (Refused ScriptKind)) (ss : List Script) → AreScripts 1 (lines text) ss → AnswersTable result ss → Answers (IsFile text) (IsCause text) result
answers_file text (Ok given) ss are h = record { are = subst (AreScripts 1 (lines text)) (sym h.0) are; once = subst NoneTwice (sym h.0) h.1 }
answers_file text (Err (refused.At line kind.Syntax)) ss are h = absurd h
answers_file text (Err (refused.At line kind.Duplicate)) ss are h = (ss, are, h)
answers_file text (Err refused.Memory) ss are h = tt

-- a refusal of the lines
pub answers_refused : {A : Type 0} (Right : A → Type 0) (text : List ℕ) (e : Refused ScriptKind) → AnswersSyntax Right (BreaksGrammar (lines text)) (Err e) → Answers (IsFile text) (IsCause text) (Err e)
answers_refused Right text (refused.At line kind.Syntax) h = h
answers_refused Right text (refused.At line kind.Duplicate) h = absurd h
answers_refused Right text refused.Memory h = tt

pub complete_file : (text : List ℕ) (result : Result (List Script) (Refused ScriptKind)) → Answers (IsFile text) (IsCause text) result → IsComplete (IsFile text) (IsCause text) result
complete_file text result h = complete (IsFile text) (IsCause text) (one_file text) (one_cause text) (apart text) result h
