-- The machine's fields as a core, and what it fetches.
use Rattle.std.specs.Prelude.{◌≡◌, ◌<◌, ◌+◌, ℕ, List, [], ◌∷◌, length, All}
use Rattle.sp_isa.specs.Core.{Core, cell}
use Rattle.sp_machine.specs.declared.machine.Machine.TheInside.{Inside}

-- the core that the fields stand for
abbrev pub core_of : Inside → Core
core_of m = record {
  b = m.b;
  c = m.c;
  d = m.d;
  e = m.e;
  h = m.h;
  l = m.l;
  a = m.a;
  s = m.s;
  z = m.z;
  ac = m.ac;
  p = m.p;
  cy = m.cy;
  sp = m.sp;
  pc = m.pc;
  halted = m.halted;
  cells = m.cells.items;
}

-- each field is in its range, and there is a cell for each address
pub record IsMachine (m : Inside) : Type 0 where
  pub b : m.b < 256
  pub c : m.c < 256
  pub d : m.d < 256
  pub e : m.e < 256
  pub h : m.h < 256
  pub l : m.l < 256
  pub a : m.a < 256
  pub s : m.s < 2
  pub z : m.z < 2
  pub ac : m.ac < 2
  pub p : m.p < 2
  pub cy : m.cy < 2
  pub sp : m.sp < 65536
  pub pc : m.pc < 65536
  pub memory : length m.cells.items ≡ 65536
  pub bytes : All (λ byte. byte < 256) m.cells.items

-- the three bytes at the program counter
abbrev pub fetched : Core → List ℕ
fetched core = cell core.pc core ∷ cell (core.pc + 1) core ∷ cell (core.pc + 2) core ∷ []
