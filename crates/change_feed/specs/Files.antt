-- What an image of the file of marks says, and what contracts see of a feed.
use Rattle.std.specs.Prelude.{◌≡◌, ◌⊎◌, ℕ, ◌+◌, ◌<◌, ◌≤◌, Bool, IsTrue, List, length, Option, Some, None, IfSome, IsSome, Result, Ok, Err, ⊤}
use Rattle.cache_file.specs.declared.file.CacheFile.{CacheFile}
use Rattle.cache_file.specs.File.{Brings, held, unsure}
use Rattle.base.specs.Causes.{Rose}
use Rattle.disk_model.specs.Content.{Content}
use Rattle.disk_model.specs.Images.{DiskState}
use Rattle.gate_journal.specs.declared.fault.OpenFault.{OpenFault}
use Rattle.gate_journal.specs.declared.fault.OpenFault.TheVariants as fault
use Rattle.gate_journal.specs.declared.journal.Journal.{Journal}
use Rattle.gate_journal.specs.Layout.{journal_length}
use Rattle.gate_journal.specs.Opened.{Opening, opened, no_cache, differs}
use Rattle.gate_journal.specs.Sound.{IsSettled, IsSound, room_of, slots_of}
use Rattle.change_feed.specs.declared.mark.Mark.{Mark}
use Rattle.change_feed.specs.Marks.{EndsAt, IsBadIn, last_of, mark_slots}

-- the mark of the last change, and the one that a call may have left that failed
pub record Stand : Type 0 where
  pub mark : Option Mark
  pub undecided : Option Mark

-- what contracts see of a feed
pub record ShownFeed (D : Type 0) : Type 0 where
  pub stand : Stand
  pub file : CacheFile D

-- IMAGES

-- an image opens to marks under the digest, of which this is the last, and has their journal whole
pub record EndsIn (digest : List ℕ) (mark : Option Mark) (image : Content) : Type 0 where
  pub opens : EndsAt mark (opened digest mark_slots image)
  pub whole : journal_length mark_slots ≤ length image

-- an image ends in the mark, or in the one that a call may have left that failed
abbrev pub MayEndIn : List ℕ → Stand → Content → Type 0
MayEndIn digest s image = EndsIn digest s.mark image ⊎ (IsSome s.undecided × EndsIn digest s.undecided image)

-- where a content opens to marks it has their journal whole: it is what `make` and feeds left
abbrev pub IsMarksFile : List ℕ → Content → Type 0
IsMarksFile digest image = (mark : Option Mark) → EndsAt mark (opened digest mark_slots image) → journal_length mark_slots ≤ length image

-- what is refused of a content, and a fault of the disk only where its count of faults rose
abbrev pub IsRefusedAs : Bool → List ℕ → Content → ℕ → ℕ → OpenFault → Type 0
IsRefusedAs told digest seen before after fault.NotACache = IsTrue told → opened digest mark_slots seen ≡ no_cache
IsRefusedAs told digest seen before after (fault.CatalogueDiffers found asked) = (asked ≡ digest) × (IsTrue told → opened digest mark_slots seen ≡ differs found)
IsRefusedAs told digest seen before after (fault.BadRecord slot) = IsTrue told → IsBadIn slot (opened digest mark_slots seen)
IsRefusedAs told digest seen before after fault.Spent = ⊥
IsRefusedAs told digest seen before after fault.DiskFault = Rose before after
IsRefusedAs told digest seen before after fault.OutOfMemory = ⊤

-- THE TIE

-- a mark stands behind this one
abbrev pub IsBehind : Option Mark → Option Mark → Type 0
IsBehind last next = IfSome next (λ mark. mark.number ≡ last_of last + 1)

-- its number is above 0, where there is one
abbrev pub IsAboveZero : Option Mark → Type 0
IsAboveZero mark = IfSome mark (λ m. 0 < m.number)

-- a file is ready for a mark
abbrev pub IsReady : Journal → Type 0
IsReady j = IsSettled j × (0 < room_of j)

-- what the file holds ends in the mark, and what is unsure of it in the mark or in the undecided one
pub record IsMarkedOn (s : Stand) (j : Journal) (disk : DiskState) : Type 0 where
  pub sound : IsSound j disk
  pub ends : EndsAt s.mark (held j disk)
  pub wavers : EndsAt s.mark (unsure j disk) ⊎ (IsSome s.undecided × EndsAt s.undecided (unsure j disk))

-- what holds of each feed
pub record IsMarked (told : Bool) (s : Stand) (j : Journal) (disk : DiskState) : Type 0 where
  pub same_slots : slots_of j ≡ mark_slots
  pub above : IsAboveZero s.mark
  pub behind : IsBehind s.mark s.undecided
  pub sure : IsSettled j → s.undecided ≡ None
  pub on_disk : IsTrue told → IsMarkedOn s j disk

-- a call brings records that end in a mark
pub record BringsMark {T E : Type 0} (mark : Option Mark) (result : Result T E) (start : ℕ) (j j' : Journal) (old new : DiskState) : Type 0 where
  pub after : Opening
  pub ends_after : EndsAt mark after
  pub brings : Brings result after start j j' old new

-- a fault with this digest as the one that was asked for
abbrev pub asked_for : List ℕ → OpenFault → OpenFault
asked_for digest fault.NotACache = fault.NotACache
asked_for digest (fault.CatalogueDiffers found asked) = fault.CatalogueDiffers found digest
asked_for digest (fault.BadRecord slot) = fault.BadRecord slot
asked_for digest fault.Spent = fault.Spent
asked_for digest fault.DiskFault = fault.DiskFault
asked_for digest fault.OutOfMemory = fault.OutOfMemory
