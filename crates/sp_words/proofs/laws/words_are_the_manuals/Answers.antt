use Rattle.sp_words.proofs.NameLemmas.{mnemonic_exact, operator_exact, arg_exact, pair_exact, stack_pair_exact}
use Rattle.sp_words.proofs.laws.words_are_the_manuals.Goals as goal

pub returns : goal.returns
returns c = record { mnemonics = mnemonic_exact; operators = operator_exact; registers = arg_exact; pairs = pair_exact; stack_pairs = stack_pair_exact }
