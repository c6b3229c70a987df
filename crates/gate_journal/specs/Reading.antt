-- What opening a journal reads, and what it answers.
use Rattle.std.specs.Prelude.{◌≡◌, ◌≢◌, ℕ, ◌+◌, ◌*◌, ◌<◌, ◌≤◌, List, length, Bool, true, false, ◌||◌, if◌then◌else◌, IsTrue, Option, Some, None, MatchOption, Result, Ok, Err, IfErr, ⊤}
use Rattle.base.specs.Causes.{Rose}
use Rattle.disk_model.specs.Content.{Content, byte_at, Same}
use Rattle.disk_model.specs.Images.{DiskState, ChangesBy}
use Rattle.gate_journal.specs.declared.fault.OpenFault.{OpenFault}
use Rattle.gate_journal.specs.declared.fault.OpenFault.TheVariants.{NotACache, CatalogueDiffers, BadRecord, Spent, DiskFault, OutOfMemory}
use Rattle.gate_journal.specs.declared.half.Half.{Half}
use Rattle.gate_journal.specs.declared.header.Header.{Header}
use Rattle.gate_journal.specs.declared.opened.Opened.{Opened}
use Rattle.gate_journal.specs.Layout.{header_at}
use Rattle.gate_journal.specs.Opened.{names, counts, version_at, generation_at, digest_at, half_in_force, bodies_at, opened, no_cache, differs, records}
use Rattle.gate_journal.specs.Sound.{kept}

-- the version whose magic these bytes are, where they are that of one
abbrev pub NamesVersion : Option ℕ → List ℕ → Type 0
NamesVersion found bytes = MatchOption found ((names bytes 1 || names bytes 2) ≡ false) (λ version. ((names bytes 1 || names bytes 2) ≡ true) × (version ≡ if names bytes 1 then 1 else 2))

-- the header at a place, where it counts
abbrev pub Says : Option Header → Content → ℕ → Type 0
Says found c at = MatchOption found (counts c at ≡ false) (λ h. (counts c at ≡ true) × (h.generation ≡ generation_at c at) × (h.digest ≡ digest_at c at) × (h.version ≡ version_at c at))

-- the half in force with its header, where there is one
abbrev pub SaysForce : Option (Half × Header) → Content → Type 0
SaysForce found c = MatchOption found (half_in_force c ≡ None) (λ p. (half_in_force c ≡ Some p.0) × (p.1.generation ≡ generation_at c (header_at p.0)) × (p.1.digest ≡ digest_at c (header_at p.0)) × (p.1.version ≡ version_at c (header_at p.0)))

-- of the first slots of a half exactly the first gates are open, and these are their bodies
pub record HasRead (c : Content) (start slots : ℕ) (bodies : List (List ℕ)) : Type 0 where
  pub fits : length bodies ≤ slots
  pub opens : (k : ℕ) → k < length bodies → byte_at c (start + 64 * k + 63) ≡ 1
  pub shut : (k : ℕ) → length bodies ≤ k → k < slots → byte_at c (start + 64 * k + 63) ≢ 1
  pub bodies_are : bodies_at c start (length bodies) ≡ bodies

-- of the first slots of a half an open gate stands after a closed one
pub record IsDisordered (c : Content) (start slots : ℕ) : Type 0 where
  pub closed : ℕ
  pub behind : ℕ
  pub before : closed < behind
  pub within : behind < slots
  pub shut : byte_at c (start + 64 * closed + 63) ≢ 1
  pub opens : byte_at c (start + 64 * behind + 63) ≡ 1

-- the disk opens to what opening answers in place of a journal, but for a fault of the disk and where memory runs out
abbrev pub RefusesAs : List ℕ → ℕ → Content → OpenFault → Type 0
RefusesAs digest slots c NotACache = opened digest slots c ≡ no_cache
RefusesAs digest slots c (CatalogueDiffers found asked) = (opened digest slots c ≡ differs found) × (asked ≡ digest)
RefusesAs digest slots c (BadRecord slot) = ⊥
RefusesAs digest slots c Spent = ⊥
RefusesAs digest slots c DiskFault = ⊤
RefusesAs digest slots c OutOfMemory = ⊤

-- the answer to an opening is what the disk opens to
abbrev pub OpensAs : List ℕ → ℕ → Content → Result Opened OpenFault → Type 0
OpensAs digest slots c (Ok o) = (opened digest slots c ≡ records o.version o.bodies.items) × (kept o.journal c ≡ o.bodies.items)
OpensAs digest slots c (Err fault) = RefusesAs digest slots c fault

-- The choice of a half: the one in force with its header, under the asked digest; or what the disk opens to instead, whatever
-- the number of slots.
abbrev pub Chooses : List ℕ → Content → Result (Half × Header) OpenFault → Type 0
Chooses digest c (Ok found) = (half_in_force c ≡ Some found.0) × (found.1.generation ≡ generation_at c (header_at found.0)) × (digest ≡ digest_at c (header_at found.0)) × (found.1.version ≡ version_at c (header_at found.0))
Chooses digest c (Err fault) = (slots : ℕ) → RefusesAs digest slots c fault

-- A fault of the disk is told only where its count rose, and no fault that comes of what the records say.
abbrev pub IsOpenCause : ℕ → ℕ → OpenFault → Type 0
IsOpenCause before now NotACache = ⊤
IsOpenCause before now (CatalogueDiffers found asked) = ⊤
IsOpenCause before now (BadRecord slot) = ⊥
IsOpenCause before now Spent = ⊥
IsOpenCause before now DiskFault = Rose before now
IsOpenCause before now OutOfMemory = ⊤

pub record HasOpenCause {T : Type 0} (before now : ℕ) (result : Result T OpenFault) : Type 0 where
  pub later : before ≤ now
  pub failed : IfErr result (IsOpenCause before now)

-- What choosing a half comes to on a disk, which is only read.
pub record HasChosen (digest : List ℕ) (told told' : Bool) (old new : DiskState) (before now : ℕ) (result : Result (Half × Header) OpenFault) : Type 0 where
  pub same_told : told' ≡ told
  pub choice : IsTrue told → Chooses digest old.seen result
  pub quiet : IsTrue told → ChangesBy Same old new
  pub cause : HasOpenCause before now result
