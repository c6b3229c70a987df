-- What is modelled of a disk in memory.
use Rattle.std.specs.Prelude.{◌≡◌, ◌⊎◌, ℕ, ◌-◌, ◌^◌, List, Bool, true, false, ◌||◌, ◌==◌, nat_lt, Result, Ok, Err}
use Rattle.std.specs.List.{list_any}
use Rattle.base.specs.Causes.{risen}
use Rattle.disk_model.specs.Content.{Content}
use Rattle.disk_model.specs.Crash.{crashed}
use Rattle.disk_model.specs.Images.{DiskState}
use Rattle.disk_model.specs.Replay.{first_of, state_after}
use Rattle.disk_model.specs.declared.log.Call.{Call}
use Rattle.disk_model.specs.declared.log.Log.{Log}
use Rattle.disk_model.specs.declared.pick.Pick.{Pick}
use Rattle.disk_model.specs.declared.memory.MemoryDisk.{MemoryDisk}

abbrev pub log_state : Log → DiskState
log_state log = state_after (first_of log.first log.bytes.items) log.calls.items

abbrev pub memory_state : MemoryDisk → DiskState
memory_state disk = log_state disk.log

abbrev pub memory_faults : MemoryDisk → ℕ
memory_faults disk = disk.faults

-- what it holds, and all that was done to it, is as it was, and so is its count of faults
abbrev pub IsUntouched : MemoryDisk → MemoryDisk → Type 0
IsUntouched old new = (new.log ≡ old.log) × (new.faults ≡ old.faults)

-- all calls that changed it, or were to, or were syncs
abbrev pub calls_of : MemoryDisk → List Call
calls_of disk = disk.log.calls.items

-- Which calls are to fail, and how many there were. Calls are counted from 1, and no count passes 2^64 - 1.
pub record Script : Type 0 where
  -- these calls are to fail
  pub fail : List ℕ
  -- and so is each after this one
  pub stop : ℕ
  -- so many calls there were
  pub made : ℕ
  -- so many of them failed
  pub faults : ℕ
  -- and so many of those because memory ran out
  pub shortages : ℕ

abbrev pub script_of : MemoryDisk → Script
script_of disk = record { fail = disk.fail.items; stop = disk.stop_at; made = disk.made; faults = disk.faults; shortages = disk.shortages }

-- before the first call, with no stop
abbrev pub new_script : List ℕ → Script
new_script fail = record { fail = fail; stop = 2 ^ 64 - 1; made = 0; faults = 0; shortages = 0 }

-- stopped after so many calls more
abbrev pub stopped : ℕ → Script → Script
stopped calls s = record s { stop = risen s.made calls }

-- the next call is to fail: it is listed, or after the stop
abbrev pub is_failing : Script → Bool
is_failing s = nat_lt s.stop (risen s.made 1) || list_any (λ n. n == risen s.made 1) s.fail

-- after one call more
abbrev pub called : Script → Script
called s = record s { made = risen s.made 1 }

-- after one call more, which failed
abbrev pub failed : Script → Script
failed s = record s { made = risen s.made 1; faults = risen s.faults 1 }

-- after one call more, which failed because memory ran out
abbrev pub fell_short : Script → Script
fell_short s = record s { made = risen s.made 1; faults = risen s.faults 1; shortages = risen s.shortages 1 }

-- a call that is to fail fails, and any other does not
abbrev pub GoesBy : {T E : Type 0} → Script → Script → Result T E → Type 0
GoesBy s t (Ok _) = (is_failing s ≡ false) × (t ≡ called s)
GoesBy s t (Err _) = (is_failing s ≡ true) × (t ≡ failed s)

-- a call that is to fail fails, and any other where memory runs out alone
abbrev pub GoesWithMemory : {T E : Type 0} → Script → Script → Result T E → Type 0
GoesWithMemory s t (Ok _) = (is_failing s ≡ false) × (t ≡ called s)
GoesWithMemory s t (Err _) = ((is_failing s ≡ true) × (t ≡ failed s)) ⊎ ((is_failing s ≡ false) × (t ≡ fell_short s))

-- what a crash leaves by a pick
abbrev pub crash_by : Pick → MemoryDisk → Content
crash_by pick disk =
    let first = first_of disk.log.first disk.log.bytes.items in
    crashed pick disk.log.calls.items first first
