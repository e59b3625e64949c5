-- Pairs of expressions, and their refusals.
use Rattle.sp_note.specs.declared.line.Pair.{Pair}
use Rattle.sp_note.specs.declared.refusal.LineRefusal.{LineRefusal}
use Rattle.sp_note.specs.declared.refusal.LineRefusal.TheVariants as line
use Rattle.sp_note.specs.declared.refusal.NoteKind.TheVariants.{Syntax, TooDeep, Sort, Wide}
use Rattle.sp_note.specs.Parts.{Expression}

abbrev pub pair_of : Pair → Expression × Expression
pair_of p = (p.first, p.second)

-- of the refusals of two expressions the one that counts, where a refusal for want of memory says nothing of the grammar
abbrev pub first_refusal : LineRefusal → LineRefusal → LineRefusal
first_refusal one (line.Kind Syntax) = line.Kind Syntax
first_refusal one (line.Kind TooDeep) = one
first_refusal one (line.Kind Sort) = one
first_refusal one (line.Kind Wide) = one
first_refusal one line.Memory = line.Memory
