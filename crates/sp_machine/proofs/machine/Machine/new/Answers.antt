use Rattle.std.proofs.Common.{◌≡◌, ◌<◌, lit<, arith, refl}
use Rattle.sp_machine.proofs.MachineLemmas.{all_same, at-zeros}
use Rattle.sp_machine.proofs.machine.Machine.new.Goals as goal

pub invariant_of-result : goal.invariant_of-result
invariant_of-result c =
    let vec = c.in_ok-vec in
    record {
      b = lit< tt;
      c = lit< tt;
      d = lit< tt;
      e = lit< tt;
      h = lit< tt;
      l = lit< tt;
      a = lit< tt;
      s = lit< tt;
      z = lit< tt;
      ac = lit< tt;
      p = lit< tt;
      cy = lit< tt;
      sp = lit< tt;
      pc = lit< tt;
      memory = omega (arith, vec.ensures.len);
      bytes = all_same (λ x. x < 256) 65536 0 vec.field-0.items (vec.ensures.items_if_clones_equal (λ y e. e)) (lit< tt);
    }

pub returns : goal.returns
returns c =
    let vec = c.in_ok-vec in
    record {
      locations = at-zeros vec.field-0.items;
      sp = refl;
      pc = refl;
      running = refl;
      memory = omega (arith, vec.ensures.len);
      bytes = all_same (λ x. x ≡ 0) 65536 0 vec.field-0.items (vec.ensures.items_if_clones_equal (λ y e. e)) refl;
    }
