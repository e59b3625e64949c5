use Rattle.std.proofs.Common.{◌+◌, ◌∙◌, drop, sym, ap, subst, arith}
use Rattle.sp_base.specs.Cells.{placed, Keeps}
use Rattle.sp_base.proofs.PlaceLaws.{placed_on, placed_none, placed_all, keeps_more, added_none, added_one}
use Rattle.sp_base.proofs.image.Image.place.Goals as goal

pub overflow_cast-at : goal.overflow_cast-at
overflow_cast-at c = omega (arith, c.loop-byte.invariant.at)

pub returns-then-not-branch : goal.returns-then-not-branch
returns-then-not-branch c =
    let step = added_none c.loop-byte.self c.add.new.self c.loop-byte.at _ c.in_ok-add.field-0 c.if-not-branch.true c.in_ok-add.ensures.ok in
    record {
      placed = placed_none c.args.bytes.now c.loop-byte.byte-index c.loop-byte.at c.loop-byte.self _ c.loop-byte-test.true c.loop-byte.invariant.so_far step.0;
      keeps = subst (Keeps c.args.self.now) (sym step.1) c.loop-byte.invariant.keeps;
    }

pub loop-byte-preserved : goal.loop-byte-preserved
loop-byte-preserved c =
    let step = added_one c.loop-byte.self c.add.new.self c.loop-byte.at _ c.in_ok-add.field-0 c.if-not-branch.false c.in_ok-add.ensures.ok in
    record {
      at = omega (arith, c.loop-byte.invariant.at);
      so_far = ap (λ m. placed (c.loop-byte.at + 1) (drop (c.loop-byte.byte-index + 1) c.args.bytes.now) m) step.1
          ∙ placed_on c.args.bytes.now c.loop-byte.byte-index c.loop-byte.at c.loop-byte.self _ c.loop-byte-test.true c.loop-byte.invariant.so_far step.0;
      keeps = subst (Keeps c.args.self.now) (sym step.1) (keeps_more c.args.self.now c.loop-byte.self c.loop-byte.at _ c.loop-byte.invariant.keeps step.0);
    }

pub returns : goal.returns
returns c = record {
  placed = placed_all c.args.bytes.now c.loop-byte.byte-index c.loop-byte.at c.loop-byte.self _ (omega arith) c.loop-byte.invariant.so_far;
  keeps = c.loop-byte.invariant.keeps;
}
