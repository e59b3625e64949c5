-- Which puts of a sink in memory fail.
use Rattle.std.specs.Prelude.{◌≡◌, ◌≢◌, ℕ, true, Option, Some}
use Rattle.std.specs.Ordering.{nat_cmp}
use Rattle.std.specs.BTreeMap.{get}
use Rattle.sp_base.specs.Files.{Output}
use Rattle.sp_base.specs.MemFiles.{one_more}
use Rattle.sp_base.specs.declared.memory_sink.MemSink.{MemSink}

-- what contracts see of a sink in memory: it tells what it took
abbrev pub output_of : MemSink → Output
output_of sink = record { told = true; taken = sink.taken.items; faults = sink.faults }

-- how many bytes the put with that number keeps, if it is to fail
abbrev pub put_fault_at : MemSink → ℕ → Option ℕ
put_fault_at sink number = get nat_cmp sink.failing number

-- the number of the next put
abbrev pub next_put : MemSink → ℕ
next_put sink = one_more sink.puts

-- the same puts are to fail
abbrev pub SameFaults : MemSink → MemSink → Type 0
SameFaults old new = (n : ℕ) → put_fault_at new n ≡ put_fault_at old n

-- the put with one number is to fail, and of the others the same
pub record SetsFault (old new : MemSink) (number kept : ℕ) : Type 0 where
  pub there : put_fault_at new number ≡ Some kept
  pub others : (n : ℕ) → n ≢ number → put_fault_at new n ≡ put_fault_at old n

-- no put was counted, and no fault
pub record SameCounts (old new : MemSink) : Type 0 where
  pub puts : new.puts ≡ old.puts
  pub faults : new.faults ≡ old.faults
