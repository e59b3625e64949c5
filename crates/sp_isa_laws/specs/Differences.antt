-- Cores that differ in one register or flag, after an instruction.
use Rattle.std.specs.Prelude.{◌≡◌, ◌≢◌, ℕ, ◌<◌, true, Some}
use Rattle.sp_base.specs.declared.location.Loc.{Loc}
use Rattle.sp_base.specs.declared.location.Loc.TheVariants as loc
use Rattle.sp_base.specs.Locs.{has}
use Rattle.sp_isa.specs.declared.instr.Instr.{Instr}
use Rattle.sp_isa.specs.Core.{Core, at, cell}
use Rattle.sp_isa.specs.Decode.{decode}
use Rattle.sp_isa.specs.Effect.{effect, gives_output}
use Rattle.sp_isa.specs.Locations.{reads, writes}

-- the core with another value in a register or a flag, and all else as it is
abbrev pub with_location : Loc → ℕ → Core → Core
with_location loc.A v core = record core { a = v }
with_location loc.B v core = record core { b = v }
with_location loc.C v core = record core { c = v }
with_location loc.D v core = record core { d = v }
with_location loc.E v core = record core { e = v }
with_location loc.H v core = record core { h = v }
with_location loc.L v core = record core { l = v }
with_location loc.S v core = record core { s = v }
with_location loc.Z v core = record core { z = v }
with_location loc.Ac v core = record core { ac = v }
with_location loc.P v core = record core { p = v }
with_location loc.Cy v core = record core { cy = v }

-- an instruction leads from two cores to a difference: in a register or a flag that it writes, in a cell, in a counter, or
-- in what it puts out
pub data DiffersAfter (i : Instr) (one two : Core) : Type 0 where
  in_location : (x : Loc) → has x (writes i) ≡ true → at x (effect 0 i one) ≢ at x (effect 0 i two) → DiffersAfter i one two
  in_cell : (a : ℕ) → cell a (effect 0 i one) ≢ cell a (effect 0 i two) → DiffersAfter i one two
  in_stack_pointer : (effect 0 i one).sp ≢ (effect 0 i two).sp → DiffersAfter i one two
  in_program_counter : (effect 0 i one).pc ≢ (effect 0 i two).pc → DiffersAfter i one two
  in_output : gives_output i one ≢ gives_output i two → DiffersAfter i one two

-- another value of a location makes a difference to an instruction, in some core
abbrev pub Matters : Loc → Instr → Type 0
Matters x i = (core : Core) × (v : ℕ) × DiffersAfter i core (with_location x v core)

-- each location that an instruction reads does so, for each instruction with the operand 5 where it has one
abbrev pub ReadsMatter : Type 0
ReadsMatter =
    (first : ℕ) (i : Instr) (length : ℕ) (x : Loc) → first < 256 → decode first 5 0 ≡ Some (i, length) → has x (reads i) ≡ true
    → Matters x i
