use Rattle.std.proofs.Common.{◌≡◌, subst, arith}
use Rattle.std.specs.FinMap as maps
use Rattle.sp_base.specs.Image.{NextByte, NoByteFrom}
use Rattle.sp_base.proofs.ImageLaws.{next_of_range, none_past_memory, none_of_range}
use Rattle.sp_base.proofs.image.Image.next.Goals as goal

pub returns-in_default-clause-none : goal.returns-in_default-clause-none
returns-in_default-clause-none c =
    subst (λ m. NoByteFrom m c.args.from) c.self.view_is (none_past_memory c.self.inside.bytes.entries c.args.from c.self.invariant (omega arith))

pub returns-in-Some-clause-some : goal.returns-in-Some-clause-some
returns-in-Some-clause-some c =
    let e : c.in-Ok.start ≡ c.args.from = omega arith in
    subst (λ m. NextByte m c.args.from (c.in-Some.a.now, c.in-Some.byte.now)) c.self.view_is
    (subst (λ from. NextByte (maps.from_entries c.self.inside.bytes.entries) from (c.in-Some.a.now, c.in-Some.byte.now)) e
    (next_of_range c.self.inside.bytes c.in-Ok.start c.range.result c.next.new.self (c.in-Some.a.now, c.in-Some.byte.now) (c.range.ensures.in_range tt) c.in-Some.ensures.steps))

pub returns-in-None-clause-none : goal.returns-in-None-clause-none
returns-in-None-clause-none c =
    let e : c.in-Ok.start ≡ c.args.from = omega arith in
    subst (λ m. NoByteFrom m c.args.from) c.self.view_is
    (subst (NoByteFrom (maps.from_entries c.self.inside.bytes.entries)) e
    (none_of_range c.self.inside.bytes c.in-Ok.start c.range.result (c.range.ensures.in_range tt) c.in-None.ensures.steps.0))
