-- The symbolic state of terms by name.
use Rattle.std.specs.Prelude.{map, reverse}
use Rattle.sp_trans.specs.declared.terms.Terms.{Terms}
use Rattle.sp_trans.specs.Symbolic.{Symbolic}
use Rattle.sp_trans.specs.View.{word_of}

abbrev pub state : Terms → Symbolic
state g = record {
  a = g.a.now;
  b = g.b.now;
  c = g.c.now;
  d = g.d.now;
  e = g.e.now;
  h = g.h.now;
  l = g.l.now;
  s = g.s.now;
  z = g.z.now;
  ac = g.ac.now;
  p = g.p.now;
  cy = g.cy.now;
  memory = g.memory.now;
  slots = reverse (map word_of g.slots.now);
}
