-- The two symbolic states of a note.
use Rattle.sp_model.specs.Note.{Quantity, Note}
use Rattle.sp_trans.specs.declared.formulas.Between.{Between}
use Rattle.sp_trans.specs.declared.names.Names.{Names}
use Rattle.sp_term.specs.Tree.{Tree}
use Rattle.sp_trans.specs.Formulas.{quantity_term, formula_in}
use Rattle.sp_trans.specs.code.Terms.{state}
use Rattle.sp_trans.specs.code.Names.{names_of}

abbrev pub term_between : Between → Names → Quantity → Tree
term_between at names x = quantity_term (state at.first) (state at.present) (names_of names) x

abbrev pub formula_between : Between → Names → Note → Tree
formula_between at names p = formula_in (state at.first) (state at.present) (names_of names) p
