-- States in which the runs of the examples begin.
use Rattle.std.specs.Prelude.{ℕ, true, false, List, [], ◌∷◌, ◌++◌, replicate, slice_set}
use Rattle.sp_model.specs.State.{State}

-- a memory of zeros
unfoldable pub zeros : List ℕ
zeros = replicate 65536 0

-- a memory with these bytes, each with its address, and zeros else
unfoldable pub memory_of : List (ℕ × ℕ) → List ℕ
memory_of [] = zeros
memory_of (c ∷ cells) = slice_set (memory_of cells) c.0 c.1

-- the machine with these bytes in memory, at an address, with this stack pointer: B to A have 1 to 7, the flags are 0,
-- no input is to come, and nothing was put out
abbrev pub ready : List (ℕ × ℕ) → ℕ → ℕ → State
ready cells pc sp = record {
  core = record {
    b = 1;
    c = 2;
    d = 3;
    e = 4;
    h = 5;
    l = 6;
    a = 7;
    s = 0;
    z = 0;
    ac = 0;
    p = 0;
    cy = 0;
    sp = sp;
    pc = pc;
    halted = false;
    cells = memory_of cells;
  };
  inputs = [];
  outputs = [];
}

-- the state, halted
abbrev pub stopped : State → State
stopped s = record s { core = record s.core { halted = true } }

-- the state, at 101H
abbrev pub elsewhere : State → State
elsewhere s = record s { core = record s.core { pc = 0x101 } }

-- the state with one byte still to come at the ports
abbrev pub with_input : ℕ → State → State
with_input byte s = record s { inputs = byte ∷ [] }

-- the state with another stack pointer
abbrev pub with_sp : ℕ → State → State
with_sp sp s = record s { core = record s.core { sp = sp } }

-- the state with another value of Z
abbrev pub with_z : ℕ → State → State
with_z z s = record s { core = record s.core { z = z } }

-- a state that may follow: with these values of A, B, SP and PC, a byte put out to a port, and a 1 written to a cell
abbrev pub left : ℕ → ℕ → ℕ → ℕ → ℕ → ℕ → State → State
left a b sp pc port w s = record s {
  core = record s.core { a = a; b = b; sp = sp; pc = pc; cells = slice_set s.core.cells w 1 };
  outputs = s.outputs ++ (port, 0) ∷ [];
}

-- RET at 100H, and the word 1234H at 2380H
abbrev pub end_cells : List (ℕ × ℕ)
end_cells = (0x100, 0xC9) ∷ (0x2380, 0x34) ∷ (0x2381, 0x12) ∷ []

-- the state with another value of A
abbrev pub with_a : ℕ → State → State
with_a a s = record s { core = record s.core { a = a } }

-- the state, after one byte was put out to a port
abbrev pub with_output : ℕ → ℕ → State → State
with_output port byte s = record s { outputs = (port, byte) ∷ [] }
