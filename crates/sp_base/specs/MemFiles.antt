-- What files in memory hold, and which of their calls fail.
use Rattle.std.specs.Prelude.{◌≡◌, ◌≢◌, ℕ, ◌+◌, ◌-◌, ◌^◌, true, List, Option, Some, option_map, min}
use Rattle.std.specs.Ordering.{nat_cmp}
use Rattle.std.specs.BTreeMap.{get, get_by_text}
use Rattle.sp_base.specs.Calls.{calls_of}
use Rattle.sp_base.specs.Files.{Store}
use Rattle.sp_base.specs.declared.memory_files.MemFiles.{MemFiles}

-- what the file of a name holds
abbrev pub contents_of : MemFiles → List ℕ → Option (List ℕ)
contents_of files name = option_map (λ bytes. bytes.items) (get_by_text files.files name)

-- what contracts see of files in memory: they tell what they hold
abbrev pub store_of : MemFiles → Store
store_of files = record {
  told = true;
  contents = contents_of files;
  read_faults = files.read_faults;
  write_faults = files.write_faults;
  calls = calls_of files.log;
}

-- how many bytes the call with that number keeps, if it is to fail
abbrev pub fault_at : MemFiles → ℕ → Option ℕ
fault_at files number = get nat_cmp files.failing number

-- one more, up to the end of the counter's type
abbrev pub one_more : ℕ → ℕ
one_more n = min (n + 1) (2 ^ 64 - 1)

-- the number of the next read or write
abbrev pub next_number : MemFiles → ℕ
next_number files = one_more files.calls

-- each name has what it had
abbrev pub SameFiles : MemFiles → MemFiles → Type 0
SameFiles old new = (q : List ℕ) → contents_of new q ≡ contents_of old q

-- one name has these bytes, and each other name what it had
pub record ChangesFile (old new : MemFiles) (name bytes : List ℕ) : Type 0 where
  pub there : contents_of new name ≡ Some bytes
  pub others : (q : List ℕ) → q ≢ name → contents_of new q ≡ contents_of old q

-- the same calls are to fail
abbrev pub SameFaults : MemFiles → MemFiles → Type 0
SameFaults old new = (n : ℕ) → fault_at new n ≡ fault_at old n

-- the call with one number is to fail, and of the others the same
pub record SetsFault (old new : MemFiles) (number kept : ℕ) : Type 0 where
  pub there : fault_at new number ≡ Some kept
  pub others : (n : ℕ) → n ≢ number → fault_at new n ≡ fault_at old n

-- no call was counted, and no fault
pub record SameCounts (old new : MemFiles) : Type 0 where
  pub log : calls_of new.log ≡ calls_of old.log
  pub calls : new.calls ≡ old.calls
  pub reads : new.read_faults ≡ old.read_faults
  pub writes : new.write_faults ≡ old.write_faults
