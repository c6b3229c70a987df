-- What is modelled of a disk: what a read gives, and which contents, its images, a crash may leave.
use Rattle.std.specs.Prelude.{◌≡◌, ◌⊎◌, ℕ, ◌≤◌, []}
use Rattle.disk_model.specs.Content.{Content}

-- images, as a test of contents
pub record DiskState : Type 1 where
  -- what a read gives
  pub seen : Content
  -- what a crash at this moment may leave
  pub may_leave : Content → Type 0
  -- the moment, as a number that doesn't fall
  pub moment : ℕ
  -- what a crash at some moment from that one on might have left, during a call or between two
  pub left_since : ℕ → Content → Type 0

-- what stands where nothing is modelled; no clause speaks of it
abbrev pub silent : DiskState
silent = record { seen = []; may_leave = λ c. ⊥; moment = 0; left_since = λ t c. ⊥ }

-- each image has P
abbrev pub Every : (Content → Type 0) → (Content → Type 0) → Type 0
Every images P = (c : Content) → images c → P c

-- this is the only image
abbrev pub Only : Content → (Content → Type 0) → Type 0
Only content images = Every images (λ c. c ≡ content)

-- an image after a step
abbrev pub After : (Content → Content → Type 0) → (Content → Type 0) → Content → Type 0
After step images c = (d : Content) × images d × step d c

-- each new image is an old one after a step
abbrev pub Follows : (Content → Content → Type 0) → (Content → Type 0) → (Content → Type 0) → Type 0
Follows step old new = Every new (After step old)

-- Time goes on by one call: a crash since t might have left what it might have left before the call, or what it may
-- leave now.
pub record Elapses (old new : DiskState) : Type 0 where
  pub later : old.moment ≤ new.moment
  pub nothing_else : (t : ℕ) (c : Content) → t ≤ old.moment → new.left_since t c → old.left_since t c ⊎ new.may_leave c
  pub keeps : (t : ℕ) (c : Content) → t ≤ old.moment → old.left_since t c → new.left_since t c

-- One call changes what a read gives by this step, and leads from each image to its images by the same.
pub record Steps (step : Content → Content → Type 0) (old new : DiskState) : Type 0 where
  pub reads : step old.seen new.seen
  pub crash : Follows step old.may_leave new.may_leave
  pub time : Elapses old new

-- A crash at any moment since old leaves what has P; what a crash before that might have left stays as it was.
pub record Leaves (old new : DiskState) (P : Content → Type 0) : Type 0 where
  pub later : old.moment ≤ new.moment
  pub each : (t : ℕ) (c : Content) → t ≤ old.moment → new.left_since t c → old.left_since t c ⊎ P c

-- Some calls, of which each moment shows no more than this step.
pub record ChangesBy (step : Content → Content → Type 0) (old new : DiskState) : Type 0 where
  pub reads : step old.seen new.seen
  pub crash : Follows step old.may_leave new.may_leave
  pub any_moment : Leaves old new (After step old.may_leave)

-- what holds of each disk
pub record IsLawful (disk : DiskState) : Type 0 where
  -- a disk as it reads is one of its images
  pub reads_as : disk.may_leave disk.seen
  -- this moment is one of those since an earlier one
  pub counts_now : (t : ℕ) (c : Content) → t ≤ disk.moment → disk.may_leave c → disk.left_since t c
  -- since this moment there is no other
  pub only_now : (c : Content) → disk.left_since disk.moment c → disk.may_leave c
