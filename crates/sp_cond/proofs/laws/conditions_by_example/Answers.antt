use Rattle.std.proofs.Common.{refl}
use Rattle.sp_base.specs.Locs.{has, none, only, both}
use Rattle.sp_trans.specs.Symbolic.{with_term}
use Rattle.sp_trans.specs.Translation.{applied, with_arg_term, arg_term}
use Rattle.sp_cond.specs.Start.{fresh_words}
use Rattle.sp_cond.proofs.laws.conditions_by_example.Goals as goal

pub returns : goal.returns
unfolding has none only both with_term with_arg_term arg_term applied fresh_words
returns c = record {
  choices = λ g. record { nz = refl; z = refl; not_z = refl; nc = refl; c = refl; not_nc = refl; po = refl; pe = refl; plus = refl; minus = refl; jump = refl; call = refl };
  starts = record { set = refl; unset = refl; stored = refl; loaded = refl; called = refl; called_stores = refl; called_leaves = refl; no_routine = refl; words = refl; entry = refl };
  returns = record { plain = refl; conditional = refl };
  assertions = record { clauses = refl; from_there = refl; memory = refl; no_store = refl };
  calls = record { listed = refl; unlisted = refl; memory = refl; area = refl; post = refl; change = refl; no_area = refl; second = refl; choice = refl; not_taken = refl; not_taken_state = refl; owed = refl; calls = refl };
  inputs = record { first = refl; second = refl; earlier = refl };
  accesses = λ g t. record { load = refl; once = refl; store = refl; both = refl; at_pair = refl; none = refl; one = refl; three = refl };
}
