-- How a visitor is led over records, and what opening a journal leads it over.
use Rattle.std.specs.Prelude.{◌≡◌, ◌⊎◌, ℕ, ◌+◌, ◌*◌, ◌≤◌, List, [], ◌∷◌, ◌++◌, length, Bool, IsTrue, Option, Some, None, Result, Ok, Err, ⊤}
use Rattle.disk_model.specs.Content.{Content, bytes_at, Same}
use Rattle.disk_model.specs.Images.{DiskState, ChangesBy}
use Rattle.gate_journal.specs.declared.fault.OpenFault.{OpenFault}
use Rattle.gate_journal.specs.declared.fault.OpenFault.TheVariants.{NotACache, CatalogueDiffers, BadRecord, Spent, DiskFault, OutOfMemory}
use Rattle.gate_journal.specs.declared.half.Half.{Half}
use Rattle.gate_journal.specs.declared.journal.Journal.{Journal}
use Rattle.gate_journal.specs.Layout.{half_at, journal_length}
use Rattle.gate_journal.specs.Opened.{half_in_force, opened, records, records_at}
use Rattle.gate_journal.specs.Reading.{HasRead, HasOpenCause, IsDisordered, RefusesAs}
use Rattle.gate_journal.specs.Sound.{IsSettled, IsSound, digest_of, kept, room_of, slots_of, version_of}

-- Visits of these bodies, in slots one after another from this one on, led from one visitor to the other.
abbrev pub Reaches : {V : Type 0} → (ℕ → List ℕ → V → V → Type 0) → ℕ → List (List ℕ) → V → V → Type 0
Reaches visits slot [] old new = new ≡ old
Reaches {V = V} visits slot (body ∷ bodies) old new = (next : V) × visits slot body old next × Reaches visits (slot + 1) bodies next new

-- They did, or they led to a visitor that then refused a further visit, and was left so by it.
abbrev pub StopsAt : {V : Type 0} → (ℕ → List ℕ → V → V → Type 0) → (V → V → Type 0) → ℕ → List (List ℕ) → V → V → Type 0
StopsAt {V = V} visits leaves slot bodies old new = (last : V) × Reaches visits slot bodies old last × ((new ≡ last) ⊎ leaves last new)

-- the bodies of the half in force up to its first closed gate, and none where no half is in force
abbrev pub first_of_half : ℕ → Content → Option Half → List (List ℕ)
first_of_half slots c None = []
first_of_half slots c (Some half) = records_at c (half_at slots half) slots

abbrev pub first_records : ℕ → Content → List (List ℕ)
first_records slots c = first_of_half slots c (half_in_force c)

-- A journal was opened, and the visitor was led over the bodies of all its records, which are those that the disk opens to.
pub record VisitsAll {V : Type 0} (visits : ℕ → List ℕ → V → V → Type 0) (told : Bool) (digest : List ℕ) (slots : ℕ) (old new : DiskState) (before after : V) (j : Journal) : Type 0 where
  pub settled : IsSettled j
  pub same_slots : slots_of j ≡ slots
  pub same_digest : digest_of j ≡ digest
  pub bodies : List (List ℕ)
  pub reaches : Reaches visits 0 bodies before after
  pub fills : room_of j + length bodies ≡ slots
  pub opens : IsTrue told → (opened digest slots old.seen ≡ records (version_of j) bodies) × (kept j old.seen ≡ bodies)
  -- on a disk that holds the journal whole, as `make` left it, the journal agrees with it
  pub sound : IsTrue told → journal_length slots ≤ length old.seen → IsSound j new

-- No journal was opened, for what the disk opens to instead or another fault, and the visitor was led over a prefix of the
-- records.
pub record VisitsSome {V : Type 0} (visits : ℕ → List ℕ → V → V → Type 0) (leaves : V → V → Type 0) (told : Bool) (digest : List ℕ) (slots : ℕ) (c : Content) (before after : V) (fault : OpenFault) : Type 0 where
  pub refuses : IsTrue told → RefusesAs digest slots c fault
  pub bodies : List (List ℕ)
  pub others : List (List ℕ)
  pub stops : StopsAt visits leaves 0 bodies before after
  pub prefix : IsTrue told → bodies ++ others ≡ first_records slots c

-- What visiting some slots of a half comes to, which stand after `before` others with `found` records.

-- no visit of a record was refused, and no gate was out of order
pub record VisitsPart {V : Type 0} (visits : ℕ → List ℕ → V → V → Type 0) (found before count whole : ℕ) (slots : List ℕ) (old new : V) (now : ℕ) : Type 0 where
  pub own : List (List ℕ)
  pub size : now ≡ found + length own
  pub few : now ≤ before + count
  pub reaches : Reaches visits found own old new
  pub reads : (c : Content) (start : ℕ) (was : List (List ℕ)) → length was ≡ found → slots ≡ bytes_at c (start + 64 * before) (64 * whole) → HasRead c start before was → HasRead c start (before + count) (was ++ own)

-- why a visit of slots stops
abbrev pub IsStopped : Content → ℕ → ℕ → OpenFault → Type 0
IsStopped c start upto NotACache = IsDisordered c start upto
IsStopped c start upto (CatalogueDiffers found asked) = ⊥
IsStopped c start upto (BadRecord slot) = ⊥
IsStopped c start upto Spent = ⊥
IsStopped c start upto DiskFault = ⊤
IsStopped c start upto OutOfMemory = ⊤

-- of the first slots these records were read, and among so many slots stands why no further one was visited
pub record IsCutShort (c : Content) (start slots : ℕ) (bodies : List (List ℕ)) (fault : OpenFault) : Type 0 where
  pub upto : ℕ
  pub within : upto ≤ slots
  pub has : HasRead c start upto bodies
  pub why : IsStopped c start slots fault

-- why visiting slots that were read stops: by their gates, or by the visitor
abbrev pub IsVisitFault : OpenFault → Type 0
IsVisitFault NotACache = ⊤
IsVisitFault (CatalogueDiffers found asked) = ⊥
IsVisitFault (BadRecord slot) = ⊥
IsVisitFault Spent = ⊥
IsVisitFault DiskFault = ⊥
IsVisitFault OutOfMemory = ⊤

pub record StopsInPart {V : Type 0} (visits : ℕ → List ℕ → V → V → Type 0) (leaves : V → V → Type 0) (found before count : ℕ) (slots : List ℕ) (old new : V) (fault : OpenFault) : Type 0 where
  pub own : List (List ℕ)
  pub stops : StopsAt visits leaves found own old new
  pub narrow : IsVisitFault fault
  pub reads : (c : Content) (start : ℕ) (was : List (List ℕ)) → length was ≡ found → slots ≡ bytes_at c (start + 64 * before) (64 * count) → HasRead c start before was → IsCutShort c start (before + count) (was ++ own) fault

abbrev pub ComesOfPart : {V : Type 0} → (ℕ → List ℕ → V → V → Type 0) → (V → V → Type 0) → ℕ → ℕ → ℕ → List ℕ → V → V → Result ℕ OpenFault → Type 0
ComesOfPart visits leaves found before count slots old new (Ok now) = VisitsPart visits found before count count slots old new now
ComesOfPart visits leaves found before count slots old new (Err fault) = StopsInPart visits leaves found before count slots old new fault

-- The same for the first slots of a half.
pub record VisitsFirst {V : Type 0} (visits : ℕ → List ℕ → V → V → Type 0) (told : Bool) (c : Content) (start upto : ℕ) (old new : V) (found : ℕ) : Type 0 where
  pub bodies : List (List ℕ)
  pub size : found ≡ length bodies
  pub few : found ≤ upto
  pub reaches : Reaches visits 0 bodies old new
  pub has : IsTrue told → HasRead c start upto bodies

pub record StopsInHalf {V : Type 0} (visits : ℕ → List ℕ → V → V → Type 0) (leaves : V → V → Type 0) (told : Bool) (c : Content) (start slots : ℕ) (old new : V) (fault : OpenFault) : Type 0 where
  pub bodies : List (List ℕ)
  pub stops : StopsAt visits leaves 0 bodies old new
  pub short : IsTrue told → IsCutShort c start slots bodies fault

abbrev pub ComesOfHalf : {V : Type 0} → (ℕ → List ℕ → V → V → Type 0) → (V → V → Type 0) → Bool → Content → ℕ → ℕ → V → V → Result ℕ OpenFault → Type 0
ComesOfHalf visits leaves told c start slots old new (Ok found) = VisitsFirst visits told c start slots old new found
ComesOfHalf visits leaves told c start slots old new (Err fault) = StopsInHalf visits leaves told c start slots old new fault

-- What some calls come to that only read a disk.
pub record OnlyReads {T : Type 0} (told told' : Bool) (old new : DiskState) (before now : ℕ) (result : Result T OpenFault) : Type 0 where
  pub same_told : told' ≡ told
  pub quiet : IsTrue told → ChangesBy Same old new
  pub cause : HasOpenCause before now result
