use Rattle.std.proofs.Common.{◌<◌, ◌≤◌, refl, lit<, lit≤, arith}
use Rattle.sp_asm.proofs.laws.room_by_example.Goals as goal

pub returns : goal.returns
returns c = record {
  last = record { label = λ h. lit< tt; behind = lit≤ tt };
  past = λ room. let le : 65537 ≤ 65536 = room.behind in omega arith;
  label = record { label = λ h. lit< tt; behind = lit≤ tt };
  label_past = λ room. let lt : 65536 < 65536 = room.label refl in omega arith;
  space = record { label = λ h. absurd cc; behind = lit≤ tt };
  space_past = λ room. let le : 65537 ≤ 65536 = room.behind in omega arith;
  at_the_end = record { label = λ h. absurd cc; behind = lit≤ tt };
}
