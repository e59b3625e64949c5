-- What calls on files and sinks answer.
use Rattle.std.specs.Prelude.{◌≡◌, ◌⊎◌, ℕ, ◌-◌, ◌^◌, ◌<◌, Bool, List, [], ◌∷◌, ◌++◌, length, take, Option, Some, None, Result, Ok, Err, Vec, ⊤}
use Rattle.std.specs.declared.alloc.Global.{Global}
use Rattle.sp_base.specs.declared.calls.Outcome.{Outcome}
use Rattle.sp_base.specs.declared.calls.Outcome.TheVariants as outcome
use Rattle.sp_base.specs.declared.files.ReadRefusal.{ReadRefusal}
use Rattle.sp_base.specs.declared.files.ReadRefusal.TheVariants as read
use Rattle.sp_base.specs.declared.files.WriteRefusal.{WriteRefusal}
use Rattle.sp_base.specs.declared.files.WriteRefusal.TheVariants as write
use Rattle.sp_base.specs.Calls.{Call}

-- what contracts see of files: whether they are told what files hold, what the file of each name holds where they are, how often reading and
-- writing have failed, and the calls so far
pub record Store : Type 0 where
  pub told : Bool
  pub contents : List ℕ → Option (List ℕ)
  pub read_faults : ℕ
  pub write_faults : ℕ
  pub calls : List Call

-- what contracts see of a sink: whether they are told what it took, the bytes that it took where they are, and how often taking has failed
pub record Output : Type 0 where
  pub told : Bool
  pub taken : List ℕ
  pub faults : ℕ

-- a count of faults rose in a call: it is greater afterwards, or stands where a real counter stays
abbrev pub Rose : ℕ → ℕ → Type 0
Rose before now = (before < now) ⊎ (now ≡ 2 ^ 64 - 1)

-- what the answer of a read says of the file of that name
abbrev pub AnswersRead : Option (List ℕ) → ℕ → Result (Vec ℕ Global) ReadRefusal → Type 0
AnswersRead file limit (Ok bytes) = file ≡ Some bytes.items
AnswersRead file limit (Err read.Missing) = file ≡ None
AnswersRead file limit (Err read.TooLarge) = (bytes : List ℕ) × (file ≡ Some bytes) × (limit < length bytes)
AnswersRead file limit (Err read.Failed) = ⊤
AnswersRead file limit (Err read.Memory) = ⊤

-- the bytes are the first ones of others, all of them where there are no more
abbrev pub IsFrontOf : List ℕ → List ℕ → Type 0
IsFrontOf front bytes = (n : ℕ) × (front ≡ take n bytes)

-- what the answer of a write says of what the file of that name held before and holds afterwards
abbrev pub AnswersWrite : Option (List ℕ) → List ℕ → Result (Unit {0}) WriteRefusal → Option (List ℕ) → Type 0
AnswersWrite before bytes (Ok _) after = after ≡ Some bytes
AnswersWrite before bytes (Err write.Failed) after = (after ≡ before) ⊎ ((front : List ℕ) × IsFrontOf front bytes × (after ≡ Some front))
AnswersWrite before bytes (Err write.Memory) after = after ≡ before

-- what the answer of a put says of what was taken before and afterwards
abbrev pub AnswersPut : List ℕ → List ℕ → Result (Unit {0}) WriteRefusal → List ℕ → Type 0
AnswersPut before bytes (Ok _) after = after ≡ before ++ bytes
AnswersPut before bytes (Err write.Failed) after = (front : List ℕ) × IsFrontOf front bytes × (after ≡ before ++ front)
AnswersPut before bytes (Err write.Memory) after = after ≡ before

-- how a read ended, by its answer
abbrev pub read_outcome : Result (Vec ℕ Global) ReadRefusal → Outcome
read_outcome (Ok bytes) = outcome.Done
read_outcome (Err read.Missing) = outcome.Missing
read_outcome (Err read.TooLarge) = outcome.TooLarge
read_outcome (Err read.Failed) = outcome.Failed
read_outcome (Err read.Memory) = outcome.Memory

-- how a write ended, by its answer
abbrev pub write_outcome : Result (Unit {0}) WriteRefusal → Outcome
write_outcome (Ok _) = outcome.Done
write_outcome (Err write.Failed) = outcome.Failed
write_outcome (Err write.Memory) = outcome.Memory

-- a call was added to the calls before it; one that ran out of memory may be left out
abbrev pub Adds : Call → List Call → List Call → Type 0
Adds c before after = (after ≡ before ++ c ∷ []) ⊎ ((c.outcome ≡ outcome.Memory) × (after ≡ before))
