-- Which of the rules that look at one instruction alone an instruction breaks.
use Rattle.std.specs.Prelude.{◌+◌, ℕ, Bool, true, false, not, ◌&&◌, ◌||◌, nat_eq, List, Option, None, Some, length, ℤ, pos, int_lt, ◌-ℤ◌, if◌then◌else◌}
use Rattle.std.specs.List.{list_any}
use Rattle.std.specs.FinMap as maps
use Rattle.sp_base.specs.Image.{ImageMap}
use Rattle.sp_base.specs.declared.pair.Pair.{Pair}
use Rattle.sp_base.specs.declared.pair.Pair.TheVariants as pair
use Rattle.sp_isa.specs.declared.instr.Instr.{Instr}
use Rattle.sp_graph.specs.Control.{control_of}
use Rattle.sp_graph.specs.Routines.{callee_at}
use Rattle.sp_graph.specs.Structure.{jump_target, call_target, ends, returns, is_computed, moves_pointer, loaded_pointer, takes_word, is_push, stored}
use Rattle.sp_graph.specs.Successors.{place_of, routine_at}
use Rattle.sp_prog.specs.declared.routine.Routine.{Routine}
use Rattle.sp_prog.specs.declared.routine.Stmt.{Stmt}
use Rattle.sp_prog.specs.Program.{Program}
use Rattle.sp_struct.specs.code.Depths.{depth_at, is_seen}
use Rattle.sp_struct.specs.declared.rules.Rule.{Rule}
use Rattle.sp_struct.specs.declared.rules.Rule.TheVariants.{JumpOut, FallsOff, CallOut, Computed, StackPointer, Unreached, PopsReturn, OverDepth, ReturnInStart, CodeWritten}

abbrev pub is_pointer : Pair → Bool
is_pointer pair.Sp = true
is_pointer _ = false

abbrev pub is_missing : Option ℕ → Bool
is_missing None = true
is_missing (Some place) = false

abbrev pub jump_misses : List Stmt → Option ℕ → Bool
jump_misses code None = false
jump_misses code (Some address) = is_missing (place_of code address)

-- what is called is no routine, or a start routine
abbrev pub is_no_callee : Option Routine → Bool
is_no_callee None = true
is_no_callee (Some callee) = callee.start

abbrev pub call_misses : List Routine → Option ℕ → Bool
call_misses routines None = false
call_misses routines (Some address) = is_no_callee (callee_at routines (routine_at routines address))

-- SP is loaded, other than first in a start routine
abbrev pub loads_elsewhere : Bool → Option ℕ → Bool
loads_elsewhere first None = false
loads_elsewhere first (Some word) = not first

-- SP isn't loaded with this word
abbrev pub loads_other : ℕ → Option ℕ → Bool
loads_other base None = true
loads_other base (Some word) = not (nat_eq word base)

abbrev pub is_entry : Option ℕ → Bool
is_entry None = false
is_entry (Some place) = nat_eq place 0

abbrev pub jumps_to_entry : List Stmt → Option ℕ → Bool
jumps_to_entry code None = false
jumps_to_entry code (Some address) = is_entry (place_of code address)

abbrev pub misuses_pointer : Program → Routine → ℕ → Stmt → Bool
misuses_pointer p routine k s =
    moves_pointer s.instr
    || (loads_elsewhere (routine.start && nat_eq k 0) (loaded_pointer s.instr)
    || (((routine.start && nat_eq k 0) && loads_other (p.last + 1) (loaded_pointer s.instr))
    || (routine.start && jumps_to_entry routine.code (jump_target (control_of s.instr)))))

abbrev pub is_byte : Option ℕ → Bool
is_byte None = false
is_byte (Some byte) = true

abbrev pub writes_code : ImageMap → Instr → Bool
writes_code image i = list_any (λ cell. is_byte (maps.get image cell)) (stored i)

-- how many bytes of stack a call of a routine takes: a return address, and what the callee takes
abbrev pub callee_bytes : Option Routine → Option ℕ
callee_bytes None = None
callee_bytes (Some callee) = Some (2 + callee.depth)

abbrev pub call_bytes : List Routine → Option ℕ → Option ℕ
call_bytes routines None = None
call_bytes routines (Some address) = callee_bytes (callee_at routines (routine_at routines address))

-- how many bytes of stack an instruction takes, if it is PUSH or a call of a routine
abbrev pub bytes_taken : List Routine → Instr → Option ℕ
bytes_taken routines i = if is_push i then Some 2 else call_bytes routines (call_target (control_of i))

abbrev pub passes : Option ℕ → ℕ → ℤ → Bool
passes None limit depth = false
passes (Some n) limit depth = int_lt (pos limit -ℤ pos n) depth

-- whether an instruction breaks a rule
abbrev pub breaks : Rule → Program → List Bool → List ℤ → Routine → ℕ → Stmt → Bool
breaks JumpOut p seen depths routine k s = jump_misses routine.code (jump_target (control_of s.instr))
breaks FallsOff p seen depths routine k s = nat_eq (k + 1) (length routine.code) && not (ends (control_of s.instr))
breaks CallOut p seen depths routine k s = call_misses p.routines (call_target (control_of s.instr))
breaks Computed p seen depths routine k s = is_computed s.instr
breaks StackPointer p seen depths routine k s = misuses_pointer p routine k s
breaks Unreached p seen depths routine k s = not (is_seen seen k)
breaks PopsReturn p seen depths routine k s = is_seen seen k && (takes_word s.instr && int_lt (depth_at depths k) (pos 2))
breaks OverDepth p seen depths routine k s = is_seen seen k && passes (bytes_taken p.routines s.instr) routine.depth (depth_at depths k)
breaks ReturnInStart p seen depths routine k s = routine.start && returns (control_of s.instr)
breaks CodeWritten p seen depths routine k s = writes_code p.image s.instr
