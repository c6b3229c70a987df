-- What the reading of a word's input comes to, where that is a text of which a cover or a job is read.
use Rattle.std.specs.Prelude.{ℕ, ◌≡◌, ◌≤◌, ◌+◌, List, length, Result, Ok, Err, ⊤}
use Rattle.std.specs.Io.KnownBytes.{Consumes, IsAtEnd}
use Rattle.base.specs.Causes.{Rose}
use Rattle.command_status.specs.declared.status.Status.{Status}
use Rattle.command_status.specs.declared.status.Status.TheVariants as status
use Rattle.job_forms.specs.declared.fault.JobFault.{JobFault}
use Rattle.job_forms.specs.declared.fault.JobFault.TheVariants as fault
use Rattle.job_forms.specs.Outcome.{Fails, Outcome}
use Rattle.sessions.specs.Outside.{InputChange}

-- the input was read to its end, and this holds of what is read of its text, of at most so many bytes
pub record IsRead {A : Type 0} (limit : ℕ) (reading : List ℕ → Outcome A) (i : InputChange) (Comes : Outcome A → Type 0) : Type 0 where
  pub text : List ℕ
  pub read : Consumes i.from i.to text
  pub at_end : IsAtEnd i.to
  pub short : length text ≤ limit
  pub comes : Comes (reading text)

-- its text has this fault, which isn't want of memory
abbrev pub HasFault : {A : Type 0} → ℕ → (List ℕ → Outcome A) → InputChange → JobFault → Type 0
HasFault limit reading i fault.NotJson = IsRead limit reading i (Fails fault.NotJson)
HasFault limit reading i (fault.Missing field) = IsRead limit reading i (Fails (fault.Missing field))
HasFault limit reading i (fault.Bad field) = IsRead limit reading i (Fails (fault.Bad field))
HasFault limit reading i (fault.Limit field) = IsRead limit reading i (Fails (fault.Limit field))
HasFault limit reading i fault.OutOfMemory = ⊥

-- one byte more than it may have was taken
abbrev pub HasMore : ℕ → InputChange → Type 0
HasMore limit i = (text : List ℕ) × Consumes i.from i.to text × (length text ≡ limit + 1)

-- nothing is read of it, and this status tells why, with P of the fault of its text
abbrev pub IsUnread : (JobFault → Type 0) → ℕ → InputChange → Status → Type 0
IsUnread P limit i status.ReadFault = Rose i.reads.before i.reads.after
IsUnread P limit i status.TooLong = HasMore limit i
IsUnread P limit i (status.Form cause) = P cause
IsUnread P limit i status.OutOfMemory = ⊤
IsUnread P limit i status.Done = ⊥
IsUnread P limit i status.WriteFault = ⊥
IsUnread P limit i (status.Cache cause) = ⊥
IsUnread P limit i status.DiskFault = ⊥
IsUnread P limit i status.CutsFull = ⊥
IsUnread P limit i (status.Line n) = ⊥
IsUnread P limit i (status.Stream session) = ⊥
IsUnread P limit i status.Usage = ⊥
IsUnread P limit i (status.Catalogue cause) = ⊥
IsUnread P limit i status.ListenFault = ⊥
IsUnread P limit i status.ThreadFault = ⊥

-- so it is of a text of which nothing is read yet
abbrev pub HasNoText : ℕ → InputChange → Status → Type 0
HasNoText = IsUnread (λ cause. ⊥)

-- what was read of it, or why not
abbrev pub Reads : {A : Type 0} → ℕ → (List ℕ → Outcome A) → InputChange → Result A Status → Type 0
Reads limit reading i (Ok x) = IsRead limit reading i (λ outcome. outcome ≡ Ok x)
Reads limit reading i (Err e) = IsUnread (HasFault limit reading i) limit i e
