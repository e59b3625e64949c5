use Rattle.std.proofs.Common.{ap, ◌∙◌, is_some, nat_eq}
use Rattle.std.specs.Cmp.Lexicographic.{pointwise}
use Rattle.std.specs.Map.{lookup}
use Rattle.sp_unit.specs.code.Entries.{entry_of}
use Rattle.sp_unit.specs.code.Scopes.{source_of}
use Rattle.sp_unit.proofs.SeenLemmas.{declared_new, declared_same}
use Rattle.sp_unit.proofs.seen.add_line.Goals as goal

pub returns-in_ok-insert : goal.returns-in_ok-insert
returns-in_ok-insert c all h name =
    ap is_some (c.in_ok-insert.ensures.updates.0 name)
    ∙ declared_new (source_of c.args.scope.now) all (entry_of c.args.e.now) c.in-Some.area name tt (lookup (pointwise nat_eq name) c.args.seen.now.entries) c.in-Some.ensures (h name)

pub returns-in_default : goal.returns-in_default
returns-in_default c all h name = h name ∙ declared_same (source_of c.args.scope.now) all (entry_of c.args.e.now) name c.in_default.ensures
