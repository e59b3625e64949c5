-- The example is the routine of its line, and each twin isn't.
use Rattle.std.proofs.Common.{◌≡◌, ℕ, true, false, List, [], ◌∷◌, ◌++◌, Option, Some, refl, ap}
use Rattle.sp_base.specs.declared.line.Line.{Line}
use Rattle.sp_base.specs.Locs as locations
use Rattle.sp_isa.specs.declared.instr.Instr.TheVariants as instr
use Rattle.sp_unit.specs.Lines.{Entry}
use Rattle.sp_unit.specs.SourceUnits.{IsRoutineOf}
use Rattle.sp_unit_laws.specs.Breaks.{source, flag, table}
use Rattle.sp_unit_laws.specs.Routines.{areas, begun, routine, RoutinesByExample}

abbrev some_name : List ℕ → Option (List ℕ)
some_name name = Some name

-- whatever stands below its `end`
pub goes_on : (more : List Entry) → IsRoutineOf source areas (record begun { below = begun.below ++ more }) routine
unfolding locations.both locations.only locations.none
goes_on more = record {
  name = refl;
  line = refl;
  start = refl;
  pre = (record { line = refl; note = refl }, tt);
  post = (record { line = refl; note = refl }, tt);
  reads = record { locs = refl; places = (refl, (refl, tt)) };
  changes = record { locs = refl; places = (refl, tt) };
  ins = refl;
  outs = refl;
  depth = refl;
  code = (
    record { line = refl; address = refl; instr = refl; asserts = tt },
    (
      record { line = refl; address = refl; instr = refl; asserts = (record { line = refl; note = refl }, (record { line = refl; note = refl }, tt)) },
      (record { line = refl; address = refl; instr = refl; asserts = tt }, tt),
    ),
  );
}

pub routines_by_example : RoutinesByExample
routines_by_example = record {
  whole = goes_on [];
  other_line = λ h. let wrong : 4 ≡ 3 = h.line in cc;
  started = λ h. let wrong : true ≡ false = h.start in cc;
  without_pre = λ h. h.pre;
  other_pre = λ h. let wrong = h.pre.0.note in cc;
  other_pre_line = λ h. let wrong : 5 ≡ 4 = h.pre.0.line in cc;
  without_post = λ h. h.post;
  pre_and_post = λ h. let wrong : 5 ≡ 4 = h.pre.0.line in cc;
  other_order = λ h. let wrong : some_name flag ≡ some_name table = h.reads.places.0 in cc;
  area_twice = λ h. h.reads.places.1.1;
  reads_as_changes = λ h. h.changes.places.1;
  without_change = λ h. h.changes.places;
  ports_as_outs = λ h. let wrong : 7 ∷ 8 ∷ [] ≡ 9 ∷ [] = h.outs in cc;
  one_port = λ h. let wrong : 7 ∷ [] ≡ 7 ∷ 8 ∷ [] = h.ins in cc;
  other_depth = λ h. let wrong : 0 ≡ 2 = h.depth in cc;
  assertion_above = λ h. h.code.0.asserts;
  assertions_above = λ h. h.code.0.asserts;
  one_assertion = λ h. h.code.1.0.asserts.1;
  two_instructions = λ h. h.code.1.1;
  other_instruction = λ h. let wrong : instr.Ret ≡ instr.Nop = h.code.0.instr in cc;
  other_address = λ h. let wrong : 4 ≡ 5 = h.code.0.address in cc;
  other_code_line = λ h. let wrong : 12 ≡ 11 = ap (λ (l : Line). l.0) h.code.0.line in cc;
}
